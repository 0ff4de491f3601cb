-- Changes at a place among blocks.
use Rattle.std.proofs.Common.{◌≡◌, ℕ, zero, suc, ◌+◌, ◌-◌, ◌<◌, ◌≤◌, Bool, true, false, List, [], ◌∷◌, ◌++◌, length, take, drop, None, Some, slice_get, refl, sym, ap, ◌∙◌, subst, arith, length-append, length-drop, append_assoc}
use Rattle.std.specs.Prelude.{pos, if◌then◌else◌, nat_lt}
use Rattle.std.proofs.lemmas.List.{map-append, length-take-le, take-append-le, drop-append-le}
use Rattle.std.proofs.Math.Seq.{take-append_seam, drop-append_seam, drop-append-add}
use Rattle.std.specs.List.{list_all}
use Rattle.std.proofs.lemmas.Slice.Zip.{length-zip, firsts-zip}
use Rattle.rls_ident.specs.declared.tuple.Tuple.{Tuple}
use Rattle.rls_ident.specs.Identifiers.{shifted, ident_lt, is_ident}
use Rattle.rls_ident.proofs.Lists.{Lt}
use Rattle.rls_ident.proofs.Members.{lt_test, not_true, lt_is, not_lt_is, some_is}
use Rattle.rls_ident.proofs.Shifted.{shifted_none}
use Rattle.rls_ident.proofs.Tuples.{tuples}
use Rattle.rls_runs.specs.Runs.{run_idents, run_last, idents_of, are_apart, is_increasing}
use Rattle.rls_runs.specs.Entries.{Entries, idents_in}
use Rattle.rls_runs.proofs.Finding.{run_length}
use Rattle.rls_runs.proofs.RunOrder.{Rising, first_more, of_lt, all_idents, rising_of, rising_right, last_rising}
use Rattle.rls_runs.proofs.RunJoins.{run_longer}
use Rattle.rls_blocks.specs.Trees.{Piece, ArePieces, piece_entries, entries_of, runs_in}
use Rattle.rls_blocks.specs.Edits.{part_of, inserted, removed, located, Shows}
use Rattle.rls_blocks.proofs.Pieces.{piece_length, idents_of_pieces, runs_sound}
use Rattle.rls_blocks.proofs.Loose.{apart_of}
use Rattle.rls_blocks.proofs.Changes.{halves, thirds, put_between, taken_out}
use Rattle.rls_blocks.proofs.Cases.{middle_entries}
use Rattle.rls_runs.proofs.RunPlaces.{get_left, get_right}

-- ---- parts

pub part_many : (b : Piece) (k n : ℕ) → length b.1 ≡ b.0.1 → k + n ≤ b.0.1 → length (part_of k n b).1 ≡ n
part_many b k n m h = let l = length-drop k b.1 in length-take-le n (drop k b.1) (omega (arith, l, m))

pub part_exact : (b : Piece) (k n : ℕ) → length b.1 ≡ b.0.1 → k + n ≤ b.0.1 → length (piece_entries (part_of k n b)) ≡ n
part_exact b k n m h =
    let z = length-zip (run_idents (part_of k n b).0.0 n) (part_of k n b).1 in
    let r = run_length (part_of k n b).0.0 n in
    let p = part_many b k n m h in
    omega (arith, z, r, p)

pub piece_idents : (b : Piece) → length b.1 ≡ b.0.1 → idents_in (piece_entries b) ≡ run_idents b.0.0 b.0.1
piece_idents b m = firsts-zip (run_idents b.0.0 b.0.1) b.1 (m ∙ sym (run_length b.0.0 b.0.1))

-- ---- order

run_order : (x y : List Tuple) (m n : ℕ) (rest : List (List Tuple)) → 0 < m → 0 < n → Rising (run_idents x m ++ (run_idents y n ++ rest)) → Lt tuples (run_last (x, m)) y
run_order x y zero n rest h k r = absurd (omega arith)
run_order x y (suc m) n rest h k r =
    let e : m ≡ suc m - 1 = omega arith in
    subst (λ j. Lt tuples (shifted (pos j) x) y) e (first_more (shifted (pos m) x) y n rest k (last_rising m x (run_idents y n ++ rest) r))

pub idents_append : (xs ys : Entries) → idents_in (xs ++ ys) ≡ idents_in xs ++ idents_in ys
idents_append xs ys = map-append (λ e. e.0) xs ys

-- a run between two parts of a block
pub within_order : (f g : Entries) (b n : Piece) (at : ℕ) → length b.1 ≡ b.0.1 → length n.1 ≡ n.0.1 → 0 < at → at < b.0.1 → 0 < n.0.1
    → is_increasing (idents_in (f ++ piece_entries (part_of 0 at b) ++ piece_entries n ++ (piece_entries (part_of at (b.0.1 - at) b) ++ g))) ≡ true
    → (ident_lt (shifted (pos (at - 1)) b.0.0) n.0.0 ≡ true) × (ident_lt (run_last n.0) (shifted (pos at) b.0.0) ≡ true)
within_order f g b n at m k h l o r =
    let x = part_of 0 at b in
    let y = part_of at (b.0.1 - at) b in
    let xs = run_idents x.0.0 at in
    let ns = run_idents n.0.0 n.0.1 in
    let ys = run_idents y.0.0 (b.0.1 - at) in
    let far : idents_in (piece_entries y ++ g) ≡ ys ++ idents_in g = idents_append (piece_entries y) g ∙ ap (λ zs. zs ++ idents_in g) (piece_idents y (part_many b at (b.0.1 - at) m (omega arith))) in
    let all : idents_in (f ++ piece_entries x ++ piece_entries n ++ (piece_entries y ++ g)) ≡ idents_in f ++ (xs ++ (ns ++ (ys ++ idents_in g))) =
    idents_append (f ++ piece_entries x ++ piece_entries n) (piece_entries y ++ g)
    ∙ ap (λ zs. zs ++ idents_in (piece_entries y ++ g)) (idents_append (f ++ piece_entries x) (piece_entries n) ∙ ap (λ zs. zs ++ idents_in (piece_entries n)) (idents_append f (piece_entries x)))
    ∙ ap (λ zs. (idents_in f ++ zs ++ idents_in (piece_entries n)) ++ idents_in (piece_entries y ++ g)) (piece_idents x (part_many b 0 at m (omega arith)))
    ∙ ap (λ zs. (idents_in f ++ xs ++ zs) ++ idents_in (piece_entries y ++ g)) (piece_idents n k)
    ∙ ap (λ zs. (idents_in f ++ xs ++ ns) ++ zs) far
    ∙ append_assoc (idents_in f ++ xs) ns (ys ++ idents_in g) ∙ append_assoc (idents_in f) xs (ns ++ (ys ++ idents_in g)) in
    let rising = rising_right (idents_in f) (xs ++ (ns ++ (ys ++ idents_in g))) (rising_of (idents_in f ++ (xs ++ (ns ++ (ys ++ idents_in g)))) (ap is_increasing (sym all) ∙ r)) in
    let above = run_order x.0.0 n.0.0 at n.0.1 (ys ++ idents_in g) h o rising in
    let below = run_order n.0.0 y.0.0 n.0.1 (b.0.1 - at) (idents_in g) o (omega arith) (rising_right xs (ns ++ (ys ++ idents_in g)) rising) in
    (of_lt (shifted (pos (at - 1)) b.0.0) n.0.0 (subst (λ z. Lt tuples (shifted (pos (at - 1)) z) n.0.0) (shifted_none b.0.0) above), of_lt (run_last n.0) (shifted (pos at) b.0.0) below)

-- ---- the entries

pub put_within : (f g : List Piece) (b n : Piece) (at i : ℕ) → length b.1 ≡ b.0.1 → at ≤ b.0.1 → length (entries_of f) + at ≡ i
    → entries_of f ++ piece_entries (part_of 0 at b) ++ piece_entries n ++ (piece_entries (part_of at (b.0.1 - at) b) ++ entries_of g) ≡ inserted i (piece_entries n) (entries_of (f ++ (b ∷ []) ++ g))
put_within f g b n at i m h e =
    let x = piece_entries (part_of 0 at b) in
    let y = piece_entries (part_of at (b.0.1 - at) b) in
    let l = length-append (entries_of f) x in
    let p = part_exact b 0 at m (omega arith) in
    put_between (entries_of f ++ x) (piece_entries n) (y ++ entries_of g) i (omega (arith, l, p, e))
    ∙ ap (inserted i (piece_entries n)) (append_assoc (entries_of f) x (y ++ entries_of g) ∙ ap (λ es. entries_of f ++ es) (sym (append_assoc x y (entries_of g))) ∙ ap (λ es. entries_of f ++ (es ++ entries_of g)) (sym (halves b at m h))
    ∙ sym (append_assoc (entries_of f) (piece_entries b) (entries_of g)) ∙ sym (middle_entries f g b))

pub taken_within : (f g : List Piece) (b : Piece) (at k i : ℕ) → length b.1 ≡ b.0.1 → at + k ≤ b.0.1 → length (entries_of f) + at ≡ i
    → entries_of f ++ piece_entries (part_of 0 at b) ++ (piece_entries (part_of (at + k) (b.0.1 - (at + k)) b) ++ entries_of g) ≡ removed i k (entries_of (f ++ (b ∷ []) ++ g))
taken_within f g b at k i m h e =
    let x = piece_entries (part_of 0 at b) in
    let z = piece_entries (part_of at k b) in
    let y = piece_entries (part_of (at + k) (b.0.1 - (at + k)) b) in
    let l = length-append (entries_of f) x in
    let p = part_exact b 0 at m (omega arith) in
    taken_out (entries_of f ++ x) z (y ++ entries_of g) i k (omega (arith, l, p, e)) (part_exact b at k m h)
    ∙ ap (removed i k) (append_assoc (entries_of f) x (z ++ (y ++ entries_of g)) ∙ ap (λ es. entries_of f ++ (x ++ es)) (sym (append_assoc z y (entries_of g))) ∙ ap (λ es. entries_of f ++ es) (sym (append_assoc x (z ++ y) (entries_of g)))
    ∙ ap (λ es. entries_of f ++ (es ++ entries_of g)) (sym (thirds b at k m h)) ∙ sym (append_assoc (entries_of f) (piece_entries b) (entries_of g)) ∙ sym (middle_entries f g b))

-- ---- identifiers in one block

pub run_part : (x : List Tuple) (n i k : ℕ) → i + k ≤ n → take k (drop i (run_idents x n)) ≡ run_idents (shifted (pos i) x) k
run_part x n i k h =
    let l = run_length x i in
    let m = run_length (shifted (pos i) x) k in
    let e : n ≡ i + (k + (n - (i + k))) = omega arith in
    let rest = run_idents (shifted (pos k) (shifted (pos i) x)) (n - (i + k)) in
    ap (λ j. take k (drop i (run_idents x j))) e ∙ ap (λ xs. take k (drop i xs)) (run_longer x i (k + (n - (i + k))))
    ∙ ap (λ j. take k (drop j (run_idents x i ++ run_idents (shifted (pos i) x) (k + (n - (i + k)))))) (sym l)
    ∙ ap (take k) (drop-append_seam (run_idents x i) (run_idents (shifted (pos i) x) (k + (n - (i + k)))))
    ∙ ap (take k) (run_longer (shifted (pos i) x) k (n - (i + k))) ∙ ap (λ j. take j (run_idents (shifted (pos i) x) k ++ rest)) (sym m)
    ∙ take-append_seam (run_idents (shifted (pos i) x) k) rest

-- ---- what a tree keeps

pub apart_shows : (bs : List Piece) (es : Entries) → ArePieces bs → Shows es bs → is_increasing (idents_in es) ≡ true → are_apart None (runs_in bs) ≡ true
apart_shows bs es h s r =
    let e : idents_in es ≡ idents_of (runs_in bs) = ap idents_in (sym s.entries_are) ∙ idents_of_pieces bs h in
    apart_of (runs_in bs) (runs_sound bs h) (subst Rising e (rising_of (idents_in es) r)) s.loose

-- ---- the block of a place

pub located_front : (f g : List Piece) (i : ℕ) → ArePieces f → i < length (entries_of f) → located (f ++ g) i ≡ located f i
located_front [] g i h k = absurd (omega arith)
located_front (b ∷ f) g i h k = go (nat_lt i (length b.1)) refl (λ l. located_front f g (i - length b.1) h.1 l)
  where
    go : (t : Bool) → nat_lt i (length b.1) ≡ t → (i - length b.1 < length (entries_of f) → located (f ++ g) (i - length b.1) ≡ located f (i - length b.1)) → located (b ∷ (f ++ g)) i ≡ located (b ∷ f) i
    go true e ih = ap (λ t. if t then Some (b, i) else located (f ++ g) (i - length b.1)) e ∙ sym (ap (λ t. if t then Some (b, i) else located f (i - length b.1)) e)
    go false e ih =
        let l = length-append (piece_entries b) (entries_of f) in
        let p = piece_length b h.0 in
        let m = not_lt_is i (length b.1) e in
        ap (λ t. if t then Some (b, i) else located (f ++ g) (i - length b.1)) e ∙ ih (omega (arith, k, l, p, m)) ∙ sym (ap (λ t. if t then Some (b, i) else located f (i - length b.1)) e)

pub located_behind : (f g : List Piece) (i j : ℕ) → ArePieces f → i ≡ length (entries_of f) + j → located (f ++ g) i ≡ located g j
located_behind [] g i j h e = ap (located g) (omega arith)
located_behind (b ∷ f) g i j h e =
    let l = length-append (piece_entries b) (entries_of f) in
    let p = piece_length b h.0 in
    let n : nat_lt i (length b.1) ≡ false = not_true (nat_lt i (length b.1)) (λ t. let k = lt_is i (length b.1) t in omega (arith, e, l, p, k)) in
    ap (λ t. if t then Some (b, i) else located (f ++ g) (i - length b.1)) n ∙ located_behind f g (i - length b.1) j h.1 (omega (arith, e, l, p))

pub located_here : (b : Piece) (g : List Piece) (j : ℕ) → j < length b.1 → located (b ∷ g) j ≡ Some (b, j)
located_here b g j h = ap (λ t. if t then Some (b, j) else located g (j - length b.1)) (lt_test j (length b.1) h)

pub located_none : (bs : List Piece) (i : ℕ) → ArePieces bs → length (entries_of bs) ≤ i → located bs i ≡ None
located_none [] i h l = refl
located_none (b ∷ bs) i h l =
    let a = length-append (piece_entries b) (entries_of bs) in
    let p = piece_length b h.0 in
    let n : nat_lt i (length b.1) ≡ false = not_true (nat_lt i (length b.1)) (λ t. let k = lt_is i (length b.1) t in omega (arith, l, a, p, k)) in
    ap (λ t. if t then Some (b, i) else located bs (i - length b.1)) n ∙ located_none bs (i - length b.1) h.1 (omega (arith, l, a, p))

pub entry_located : (bs : List Piece) (i at : ℕ) (b : Piece) → ArePieces bs → located bs i ≡ Some (b, at) → slice_get (entries_of bs) i ≡ slice_get (piece_entries b) at
entry_located [] i at b h e = absurd (cc)
entry_located (c ∷ bs) i at b h e = go (nat_lt i (length c.1)) refl e (λ q. entry_located bs (i - length c.1) at b h.1 q)
  where
    go : (t : Bool) → nat_lt i (length c.1) ≡ t → (if t then Some (c, i) else located bs (i - length c.1)) ≡ Some (b, at) → (located bs (i - length c.1) ≡ Some (b, at) → slice_get (entries_of bs) (i - length c.1) ≡ slice_get (piece_entries b) at)
        → slice_get (piece_entries c ++ entries_of bs) i ≡ slice_get (piece_entries b) at
    go true t q ih =
        let w = lt_is i (length c.1) t in
        let n = piece_length c h.0 in
        get_left (piece_entries c) (entries_of bs) i (omega (arith, w, n)) ∙ ap (λ (x : Piece × ℕ). slice_get (piece_entries x.0) x.1) (some_is (c, i) (b, at) q)
    go false t q ih =
        let w = not_lt_is i (length c.1) t in
        let n = piece_length c h.0 in
        let j : i ≡ length (piece_entries c) + (i - length c.1) = omega (arith, w, n) in
        ap (slice_get (piece_entries c ++ entries_of bs)) j ∙ get_right (piece_entries c) (entries_of bs) (i - length c.1) ∙ ih q

-- characters of the block of a place
pub part_at : (bs : List Piece) (i at k : ℕ) (b : Piece) → ArePieces bs → located bs i ≡ Some (b, at) → at + k ≤ length b.1 → 0 < k → (take k (drop i (entries_of bs)) ≡ take k (drop at (piece_entries b))) × (i + k ≤ length (entries_of bs))
part_at [] i at k b h e l m = absurd (cc)
part_at (c ∷ bs) i at k b h e l m = go (nat_lt i (length c.1)) refl e (λ q. part_at bs (i - length c.1) at k b h.1 q l m)
  where
    go : (t : Bool) → nat_lt i (length c.1) ≡ t → (if t then Some (c, i) else located bs (i - length c.1)) ≡ Some (b, at) → (located bs (i - length c.1) ≡ Some (b, at) → (take k (drop (i - length c.1) (entries_of bs)) ≡ take k (drop at (piece_entries b))) × (i - length c.1 + k ≤ length (entries_of bs)))
        → (take k (drop i (piece_entries c ++ entries_of bs)) ≡ take k (drop at (piece_entries b))) × (i + k ≤ length (piece_entries c ++ entries_of bs))
    go true t q ih =
        let w = lt_is i (length c.1) t in
        let pair : (c, i) ≡ (b, at) = some_is (c, i) (b, at) q in
        let s : c ≡ b = ap (λ (x : Piece × ℕ). x.0) pair in
        let u : i ≡ at = ap (λ (x : Piece × ℕ). x.1) pair in
        let n = piece_length c h.0 in
        let o = length-drop i (piece_entries c) in
        let f = ap (λ (x : Piece). length x.1) s in
        let a = length-append (piece_entries c) (entries_of bs) in (
          ap (take k) (drop-append-le i (piece_entries c) (entries_of bs) (omega (arith, w, n)))
              ∙ take-append-le k (drop i (piece_entries c)) (entries_of bs) (omega (arith, w, n, o, f, u, l))
              ∙ ap (λ x. take k (drop i (piece_entries x))) s ∙ ap (λ j. take k (drop j (piece_entries b))) u,
          omega (arith, w, n, f, u, l, a),
        )
    go false t q ih =
        let w = not_lt_is i (length c.1) t in
        let n = piece_length c h.0 in
        let j : i ≡ length (piece_entries c) + (i - length c.1) = omega (arith, w, n) in
        let r = ih q in
        let x = r.1 in
        let a = length-append (piece_entries c) (entries_of bs) in (
          ap (λ z. take k (drop z (piece_entries c ++ entries_of bs))) j ∙ ap (take k) (drop-append-add (piece_entries c) (entries_of bs) (i - length c.1)) ∙ r.0,
          omega (arith, w, n, x, a),
        )

pub blocks_are_idents : (bs : List Piece) → ArePieces bs → list_all is_ident (idents_in (entries_of bs)) ≡ true
blocks_are_idents bs h = ap (list_all is_ident) (idents_of_pieces bs h) ∙ all_idents (runs_in bs) (runs_sound bs h)
