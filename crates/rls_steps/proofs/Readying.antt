-- What has labels once a range and its neighbours have them.
use Rattle.std.proofs.Common.{◌≡◌, ℕ, ◌+◌, ◌-◌, ◌≤◌, List, map, length, take, drop, sym, ap, ◌∙◌, arith}
use Rattle.std.specs.Prelude.{reverse, min, slice_get, Some}
use Rattle.std.proofs.lemmas.List.{take_min, length-map, length-drop}
use Rattle.rls_ident.specs.declared.tuple.Tuple.{Tuple}
use Rattle.rls_seen.specs.Seen.{Seen, idents_over, text_over}
use Rattle.rls_steps.specs.Marks.{Piece, Cut}
use Rattle.rls_steps.specs.Labelled.{Names, Labelled, label_of, label_all, ready_over, cut_piece}
use Rattle.rls_steps.specs.Recorded.{held_by}
use Rattle.rls_steps.specs.Tables.{given_labels, left_in}
use Rattle.rls_steps.proofs.Tabled.{label_there, left_there, part_given, one_given, left_given, piece_is}
use Rattle.rls_steps.proofs.Tabling.{table_length}

near_is : (xs : List (List Tuple)) (at n from many : ℕ) → from ≡ at - 1 → many ≡ min (n + 2) (length xs - from) → take many (drop from xs) ≡ take (n + 2) (drop (at - 1) xs)
near_is xs at n from many e f =
    let size : length xs - from ≡ length (drop from xs) = sym (length-drop from xs) in
    ap (λ k. take k (drop from xs)) (f ∙ ap (min (n + 2)) size) ∙ (take_min (n + 2) (drop from xs) ∙ ap (λ k. take (n + 2) (drop k xs)) e)

idents_length : (s : Seen) → length (idents_over s) ≡ length s.text
idents_length s = length-map s.text (λ e. e.0)

pub ready_is : (s : Seen) (next : ℕ) (names : Names) (g : Labelled) (at n from many : ℕ) → from ≡ at - 1 → many ≡ min (n + 2) (length s.text - from) → g ≡ label_all (held_by s next names) (take many (drop from (idents_over s))) → g ≡ ready_over (held_by s next names) at n
ready_is s next names g at n from many e f q =
    let xs = idents_over s in
    let here : many ≡ min (n + 2) (length xs - from) = f ∙ ap (λ m. min (n + 2) (m - from)) (sym (idents_length s)) in
    q ∙ ap (label_all (held_by s next names)) (near_is xs at n from many e here)

pub piece_ready : (s : Seen) (next : ℕ) (names : Names) (at n from many : ℕ) (ls cs : List ℕ) (p : Piece) → from ≡ at - 1 → many ≡ min (n + 2) (length s.text - from) →
    map Some ls ≡ map (label_of (reverse names)) (take many (drop from (idents_over s))) → cs ≡ take n (drop at (text_over s)) →
    p ≡ Cut (take n (drop (at - from) ls)) cs (left_in at ls) (slice_get ls ((at - from) + n)) → p ≡ cut_piece (held_by s next names) at n
piece_ready s next names at n from many ls cs p e f k t q =
    let xs = idents_over s in
    let os = map Some ls in
    let here : many ≡ min (n + 2) (length xs - from) = f ∙ ap (λ m. min (n + 2) (m - from)) (sym (idents_length s)) in
    q
    ∙ (ap (λ ms. Cut ms cs (left_in at ls) (slice_get ls ((at - from) + n))) (sym (part_given n (at - from) ls))
    ∙ (ap (λ l. Cut (given_labels (take n (drop (at - from) os))) cs l (slice_get ls ((at - from) + n))) (sym (left_given at ls))
    ∙ (ap (λ r. Cut (given_labels (take n (drop (at - from) os))) cs (left_there at os) r) (sym (one_given ls ((at - from) + n)))
    ∙ (ap (λ j. Cut (given_labels (take n (drop (at - j) os))) cs (left_there at os) (label_there (slice_get os ((at - j) + n)))) e
    ∙ piece_is s next names at n os cs (k ∙ ap (map (label_of (reverse names))) (near_is xs at n from many e here)) t))))

-- the labels of a range and of its neighbours are there
pub near_room : (s : Seen) (names : Names) (at n from many : ℕ) (ls : List ℕ) → at + n ≤ length s.text → from ≡ at - 1 → many ≡ min (n + 2) (length s.text - from) →
    map Some ls ≡ map (label_of (reverse names)) (take many (drop from (idents_over s))) → (at - from) + n ≤ length ls
near_room s names at n from many ls w e f k =
    let i = idents_length s in
    let size : length (map Some ls) ≡ many = table_length (idents_over s) from many (reverse names) (map Some ls) (omega (arith, w, e, f, i)) k in
    let same = length-map ls Some in
    omega (arith, w, e, f, size, same)

pub near_within : (total at n from many : ℕ) → at + n ≤ total → from ≡ at - 1 → many ≡ min (n + 2) (total - from) → from + many ≤ total
near_within total at n from many w e f = omega (arith, w, e, f)
