-- What the labels of a text, place by place, say of its marks.
use Rattle.std.proofs.Common.{◌≡◌, ℕ, zero, suc, ◌+◌, ◌-◌, ◌≤◌, List, [], ◌∷◌, map, take, drop, refl, sym, ap, ◌∙◌, arith}
use Rattle.std.specs.Prelude.{reverse, slice_get, Option, Some, None}
use Rattle.std.proofs.lemmas.List.{take-take, drop-take, drop-drop}
use Rattle.rls_ident.specs.declared.tuple.Tuple.{Tuple}
use Rattle.rls_runs.specs.Entries.{Entries, idents_in}
use Rattle.rls_tree.proofs.Puts.{get_drop}
use Rattle.rls_model.proofs.Spliced.{take_map, drop_map}
use Rattle.rls_seen.specs.Seen.{Seen, idents_over, text_over}
use Rattle.rls_steps.specs.Marks.{Mark, marks, Cut}
use Rattle.rls_steps.specs.Labelled.{Names, label_of, mark_by, mark, marked_by, labels_in, label_at, left_of, cut_piece}
use Rattle.rls_steps.specs.Recorded.{held_by}
use Rattle.rls_steps.specs.Tables.{given_labels, left_in}
use Rattle.rls_steps.proofs.Tabling.{get_take}

-- ---- labels where there are some

-- the label at a place
abbrev pub label_there : Option (Option ℕ) → Option ℕ
label_there None = None
label_there (Some o) = o

-- the first one, but for the front of the text
abbrev pub left_there : ℕ → List (Option ℕ) → Option ℕ
left_there zero os = None
left_there (suc k) os = label_there (slice_get os 0)

all_given : (ls : List ℕ) → given_labels (map Some ls) ≡ ls
all_given [] = refl
all_given (l ∷ ls) = ap (λ ms. l ∷ ms) (all_given ls)

pub part_given : (n k : ℕ) (ls : List ℕ) → given_labels (take n (drop k (map Some ls))) ≡ take n (drop k ls)
part_given n k ls = ap given_labels (sym (take_map Some n (drop k ls) ∙ ap (take n) (drop_map Some k ls))) ∙ all_given (take n (drop k ls))

pub one_given : (ls : List ℕ) (k : ℕ) → label_there (slice_get (map Some ls) k) ≡ slice_get ls k
one_given [] k = refl
one_given (l ∷ ls) zero = refl
one_given (l ∷ ls) (suc k) = one_given ls k

pub left_given : (at : ℕ) (ls : List ℕ) → left_there at (map Some ls) ≡ left_in at ls
left_given zero ls = refl
left_given (suc k) ls = one_given ls 0

-- ---- marks

pub marks_are : (names : Names) (es : Entries) → marks (marked_by names es) ≡ map (mark names) (idents_in es)
marks_are names [] = refl
marks_are names (e ∷ es) = ap (λ ms. mark names e.0 ∷ ms) (marks_are names es)

labels_are : (names : Names) (xs : List (List Tuple)) → labels_in (map (mark names) xs) ≡ given_labels (map (label_of names) xs)
labels_are names [] = refl
labels_are names (x ∷ xs) = go (label_of names x) (labels_are names xs)
  where
    go : (o : Option ℕ) → labels_in (map (mark names) xs) ≡ given_labels (map (label_of names) xs) → labels_in (mark_by x o ∷ map (mark names) xs) ≡ given_labels (o ∷ map (label_of names) xs)
    go None e = e
    go (Some n) e = ap (λ ns. n ∷ ns) e

label_is : (names : Names) (xs : List (List Tuple)) (k : ℕ) → label_at (slice_get (map (mark names) xs) k) ≡ label_there (slice_get (map (label_of names) xs) k)
label_is names [] k = refl
label_is names (x ∷ xs) zero = go (label_of names x)
  where
    go : (o : Option ℕ) → label_at (Some (mark_by x o)) ≡ o
    go None = refl
    go (Some n) = refl
label_is names (x ∷ xs) (suc k) = label_is names xs k

-- ---- the piece that a deletion leaves

segment_at : {A : Type 0} (d e at n : ℕ) (xs : List A) → e + d ≡ at → d ≤ 1 → take n (drop d (take (n + 2) (drop e xs))) ≡ take n (drop at xs)
segment_at zero e at n xs q h =
    let z : e ≡ at = omega (arith, q) in
    take-take n (n + 2) (drop e xs) (omega arith) ∙ ap (λ k. take n (drop k xs)) z
segment_at (suc zero) e at n xs q h =
    let m : n + 2 ≡ 1 + (n + 1) = omega arith in
    ap (λ k. take n (drop 1 (take k (drop e xs)))) m
    ∙ (ap (take n) (drop-take 1 (n + 1) (drop e xs))
    ∙ (take-take n (n + 1) (drop 1 (drop e xs)) (omega arith) ∙ ap (take n) (drop-drop 1 e xs ∙ ap (λ k. drop k xs) q)))
segment_at (suc (suc d)) e at n xs q h = absurd (omega (arith, h))

segment : {A : Type 0} (at n : ℕ) (xs : List A) → take n (drop (at - (at - 1)) (take (n + 2) (drop (at - 1) xs))) ≡ take n (drop at xs)
segment at n xs = segment_at (at - (at - 1)) (at - 1) at n xs (omega arith) (omega arith)

left_is : (names : Names) (xs : List (List Tuple)) (at n : ℕ) → left_of (map (mark names) xs) at ≡ left_there at (take (n + 2) (drop (at - 1) (map (label_of names) xs)))
left_is names xs zero n = refl
left_is names xs (suc k) n =
    let z : (suc k - 1) + 0 ≡ k = omega arith in
    let os = map (label_of names) xs in
    label_is names xs k ∙ sym (ap label_there (get_take (n + 2) 0 (drop (suc k - 1) os) (omega arith) ∙ (get_drop (suc k - 1) 0 os ∙ ap (slice_get os) z)))

right_is : (names : Names) (xs : List (List Tuple)) (at n : ℕ) → label_at (slice_get (map (mark names) xs) (at + n)) ≡ label_there (slice_get (take (n + 2) (drop (at - 1) (map (label_of names) xs))) ((at - (at - 1)) + n))
right_is names xs at n =
    let os = map (label_of names) xs in
    let back : (at - 1) + ((at - (at - 1)) + n) ≡ at + n = omega arith in
    label_is names xs (at + n)
    ∙ sym (ap label_there (get_take (n + 2) ((at - (at - 1)) + n) (drop (at - 1) os) (omega arith) ∙ (get_drop (at - 1) ((at - (at - 1)) + n) os ∙ ap (λ j. slice_get os j) back)))

pub piece_is : (s : Seen) (next : ℕ) (names : Names) (at n : ℕ) (os : List (Option ℕ)) (cs : List ℕ) → os ≡ map (label_of (reverse names)) (take (n + 2) (drop (at - 1) (idents_over s))) → cs ≡ take n (drop at (text_over s)) →
    Cut (given_labels (take n (drop (at - (at - 1)) os))) cs (left_there at os) (label_there (slice_get os ((at - (at - 1)) + n))) ≡ cut_piece (held_by s next names) at n
piece_is s next names at n os cs e f =
    let nm = reverse names in
    let xs = idents_over s in
    let all = map (label_of nm) xs in
    let here : os ≡ take (n + 2) (drop (at - 1) all) = e ∙ (take_map (label_of nm) (n + 2) (drop (at - 1) xs) ∙ ap (take (n + 2)) (drop_map (label_of nm) (at - 1) xs)) in
    let ms : marks (marked_by nm s.text) ≡ map (mark nm) xs = marks_are nm s.text in
    let labels : given_labels (take n (drop (at - (at - 1)) os)) ≡ labels_in (take n (drop at (map (mark nm) xs))) =
    ap (λ ps. given_labels (take n (drop (at - (at - 1)) ps))) here
    ∙ (ap given_labels (segment at n all)
    ∙ (ap given_labels (sym (take_map (label_of nm) n (drop at xs) ∙ ap (take n) (drop_map (label_of nm) at xs)))
    ∙ (sym (labels_are nm (take n (drop at xs))) ∙ ap labels_in (take_map (mark nm) n (drop at xs) ∙ ap (take n) (drop_map (mark nm) at xs))))) in
    let left : left_there at os ≡ left_of (map (mark nm) xs) at = ap (left_there at) here ∙ sym (left_is nm xs at n) in
    let right : label_there (slice_get os ((at - (at - 1)) + n)) ≡ label_at (slice_get (map (mark nm) xs) (at + n)) = ap (λ ps. label_there (slice_get ps ((at - (at - 1)) + n))) here ∙ sym (right_is nm xs at n) in
    let ds = take n (drop at (text_over s)) in
    let ls = labels_in (take n (drop at (map (mark nm) xs))) in
    let before = left_of (map (mark nm) xs) at in
    let behind = label_there (slice_get os ((at - (at - 1)) + n)) in
    ap (λ ks. Cut ks cs (left_there at os) behind) labels
    ∙ (ap (λ es. Cut ls es (left_there at os) behind) f
    ∙ (ap (λ l. Cut ls ds l behind) left
    ∙ (ap (λ r. Cut ls ds before r) right
    ∙ ap (λ (ks : List Mark). Cut (labels_in (take n (drop at ks))) ds (left_of ks at) (label_at (slice_get ks (at + n)))) (sym ms))))
