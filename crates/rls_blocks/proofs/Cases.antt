-- The blocks that each kind of change leaves.
use Rattle.std.proofs.Common.{◌≡◌, ℕ, suc, ◌+◌, ◌-◌, ◌<◌, true, false, List, [], ◌∷◌, ◌++◌, length, Some, None, refl, sym, ap, ◌∙◌, subst, arith, append_assoc}
use Rattle.std.specs.Prelude.{pos, not}
use Rattle.std.proofs.lemmas.Int.{ints}
use Rattle.std.proofs.lemmas.List.{append-nil}
use Rattle.std.proofs.lemmas.Slice.Zip.{length-zip}
use Rattle.rls_ident.specs.declared.tuple.Tuple.{Tuple}
use Rattle.rls_ident.specs.Identifiers.{shifted, follows, ident_lt}
use Rattle.rls_ident.proofs.Lists.{Lt, lt_irrefl}
use Rattle.rls_ident.proofs.Members.{and_true, not_true}
use Rattle.rls_ident.proofs.Shifted.{shifted_none, shifted_shifted, shifted_less}
use Rattle.rls_ident.proofs.Tuples.{tuples}
use Rattle.rls_runs.specs.Runs.{run_idents, run_last, is_run, are_apart, run_before}
use Rattle.rls_runs.specs.Entries.{Entries}
use Rattle.rls_runs.proofs.Finding.{run_length}
use Rattle.rls_runs.proofs.RunOrder.{lt_of, less_shifted, run_less, run_ident}
use Rattle.rls_runs.proofs.RunEnds.{behind_last}
use Rattle.rls_blocks.specs.Trees.{Piece, IsPiece, piece_entries, entries_of, runs_in}
use Rattle.rls_blocks.specs.Edits.{part_of, joined, goes_on, leads_to, are_loose, Shows}
use Rattle.rls_blocks.proofs.Pieces.{entries_append}
use Rattle.rls_blocks.proofs.Loose.{last_run, last_append, runs_append, before_append, replaced, were_loose, followed_loosely, loose_first, leads_not, loose_of}
use Rattle.rls_blocks.proofs.Changes.{entries_joined, follows_is, back}

-- ---- entries

pub alone_entries : (b : Piece) → entries_of (b ∷ []) ≡ piece_entries b
alone_entries b = append-nil (piece_entries b)

pub three_entries : (f m g : List Piece) → entries_of (f ++ m ++ g) ≡ entries_of f ++ entries_of m ++ entries_of g
three_entries f m g = entries_append (f ++ m) g ∙ ap (λ es. es ++ entries_of g) (entries_append f m)

-- what comes after the last of some blocks, or before the first of some
pub after_last : (rest : List Piece) (p : Piece) (xs ys : Entries) → entries_of rest ++ (piece_entries p ++ xs) ++ ys ≡ entries_of (rest ++ p ∷ []) ++ xs ++ ys
after_last rest p xs ys =
    ap (λ es. es ++ ys) (sym (append_assoc (entries_of rest) (piece_entries p) xs)) ∙ ap (λ es. es ++ xs ++ ys) (sym (entries_append rest (p ∷ []) ∙ ap (λ es. entries_of rest ++ es) (alone_entries p)))

pub before_first : (f rest : List Piece) (s : Piece) (xs : Entries) → entries_of f ++ (xs ++ piece_entries s) ++ entries_of rest ≡ entries_of f ++ xs ++ entries_of (s ∷ rest)
before_first f rest s xs = ap (λ es. es ++ entries_of rest) (sym (append_assoc (entries_of f) xs (piece_entries s))) ∙ append_assoc (entries_of f ++ xs) (piece_entries s) (entries_of rest)

pub middle_entries : (f g : List Piece) (b : Piece) → entries_of (f ++ (b ∷ []) ++ g) ≡ entries_of f ++ piece_entries b ++ entries_of g
middle_entries f g b = three_entries f (b ∷ []) g ∙ ap (λ es. entries_of f ++ es ++ entries_of g) (alone_entries b)

-- two blocks among others
pub two_entries : (f g : List Piece) (a b : Piece) → entries_of (f ++ (a ∷ b ∷ []) ++ g) ≡ entries_of f ++ piece_entries a ++ (piece_entries b ++ entries_of g)
two_entries f g a b =
    three_entries f (a ∷ b ∷ []) g ∙ ap (λ es. entries_of f ++ (piece_entries a ++ es) ++ entries_of g) (append-nil (piece_entries b))
    ∙ before_first f g b (piece_entries a)

-- ---- ends of runs

pub part_last : (x : List Tuple) (k m : ℕ) → 0 < m → run_last (shifted (pos k) x, m) ≡ shifted (pos (k + (m - 1))) x
part_last x k m h = shifted_shifted (pos (m - 1)) (pos k) x ∙ ap (λ j. shifted j x) (omega (arith, ints))

-- the second goes on with the first
pub touch : (r s : List Tuple × ℕ) → 0 < r.1 → follows s.0 (run_last r) ≡ true → s.0 ≡ shifted (pos r.1) r.0
touch r s h t = follows_is (run_last r) s.0 t ∙ behind_last r h

pub joined_last : (r s : List Tuple × ℕ) → 0 < r.1 → 0 < s.1 → follows s.0 (run_last r) ≡ true → run_last (r.0, r.1 + s.1) ≡ run_last s
joined_last r s h k t =
    ap (λ j. shifted (pos j) r.0) (omega arith) ∙ sym (part_last r.0 r.1 s.1 k) ∙ ap (λ x. run_last (x, s.1)) (sym (touch r s h t))

-- two blocks as one, among others
pub joined_entries : (f g : List Piece) (a b : Piece) → length a.1 ≡ a.0.1 → 0 < a.0.1 → follows b.0.0 (run_last a.0) ≡ true → entries_of (f ++ (joined a b ∷ []) ++ g) ≡ entries_of f ++ (piece_entries a ++ piece_entries b) ++ entries_of g
joined_entries f g a b m k t = middle_entries f g (joined a b) ∙ ap (λ es. entries_of f ++ es ++ entries_of g) (entries_joined a b m (touch a.0 b.0 k t))

pub leads_alike : (a b : List Tuple × ℕ) (rs : List (List Tuple × ℕ)) → run_last a ≡ run_last b → leads_to (Some a) rs ≡ leads_to (Some b) rs
leads_alike a b [] e = refl
leads_alike a b (r ∷ rs) e = ap (follows r.0) e

pub last_more : (f m : List Piece) → last_run (f ++ m) ≡ run_before (last_run f) (runs_in m)
last_more f m = ap (run_before None) (runs_append f m) ∙ before_append None (runs_in f) (runs_in m)

-- one block in the place of some
pub one_replaced : (f old g : List Piece) (n : Piece) → are_loose None (runs_in (f ++ old ++ g)) ≡ true → goes_on (last_run f) n.0.0 ≡ false → leads_to (Some n.0) (runs_in g) ≡ false → are_loose None (runs_in (f ++ (n ∷ []) ++ g)) ≡ true
one_replaced f old g n h a b = replaced f old (n ∷ []) g h (and_true (not (goes_on (last_run f) n.0.0)) true (ap not a) refl) (ap (λ r. leads_to r (runs_in g)) (last_append f n) ∙ b)

-- what was so of one block
pub own_loose : (f g : List Piece) (b : Piece) → are_loose None (runs_in (f ++ (b ∷ []) ++ g)) ≡ true → (goes_on (last_run f) b.0.0 ≡ false) × (leads_to (Some b.0) (runs_in g) ≡ false)
own_loose f g b h =
    ((loose_first (last_run f) b.0 [] (were_loose f (b ∷ []) g h)).0, ap (λ r. leads_to r (runs_in g)) (sym (last_append f b)) ∙ leads_not (last_run (f ++ b ∷ [])) (runs_in g) (followed_loosely f (b ∷ []) g h))

-- ---- a run put in

pub new_shows : (f g : List Piece) (n : Piece) → are_loose None (runs_in (f ++ g)) ≡ true → goes_on (last_run f) n.0.0 ≡ false → leads_to (Some n.0) (runs_in g) ≡ false → Shows (entries_of f ++ piece_entries n ++ entries_of g) (f ++ (n ∷ []) ++ g)
new_shows f g n h a b =
    record { entries_are = middle_entries f g n; loose = one_replaced f [] g n (ap (λ xs. are_loose None (runs_in (xs ++ g))) (append-nil f) ∙ h) a b }

pub grown_last : (rest g : List Piece) (p n : Piece) → are_loose None (runs_in (rest ++ (p ∷ []) ++ g)) ≡ true → length p.1 ≡ p.0.1 → 0 < p.0.1 → 0 < n.0.1 → follows n.0.0 (run_last p.0) ≡ true → leads_to (Some n.0) (runs_in g) ≡ false
    → Shows (entries_of (rest ++ p ∷ []) ++ piece_entries n ++ entries_of g) (rest ++ (joined p n ∷ []) ++ g)
grown_last rest g p n h m k l t b =
    record {
      entries_are = joined_entries rest g p n m k t ∙ after_last rest p (piece_entries n) (entries_of g);
      loose = one_replaced rest (p ∷ []) g (joined p n) h (own_loose rest g p h).0 (leads_alike (p.0.0, p.0.1 + n.0.1) n.0 (runs_in g) (joined_last p.0 n.0 k l t) ∙ b);
    }

pub grown_first : (f rest : List Piece) (s n : Piece) → are_loose None (runs_in (f ++ (s ∷ []) ++ rest)) ≡ true → length n.1 ≡ n.0.1 → 0 < n.0.1 → 0 < s.0.1 → goes_on (last_run f) n.0.0 ≡ false → follows s.0.0 (run_last n.0) ≡ true
    → Shows (entries_of f ++ piece_entries n ++ entries_of (s ∷ rest)) (f ++ (joined n s ∷ []) ++ rest)
grown_first f rest s n h m k l a t =
    record {
      entries_are = joined_entries f rest n s m k t ∙ before_first f rest s (piece_entries n);
      loose = one_replaced f (s ∷ []) rest (joined n s) h a (leads_alike (n.0.0, n.0.1 + s.0.1) s.0 (runs_in rest) (joined_last n.0 s.0 k l t) ∙ (own_loose f rest s h).1);
    }

-- two blocks as one
pub both_loose : (rest far : List Piece) (p s j : Piece) (old : List Piece) → are_loose None (runs_in (rest ++ (p ∷ []) ++ (old ++ (s ∷ []) ++ far))) ≡ true → j.0.0 ≡ p.0.0 → run_last j.0 ≡ run_last s.0 → are_loose None (runs_in (rest ++ (j ∷ []) ++ far)) ≡ true
both_loose rest far p s j old h e f =
    let all : rest ++ (p ∷ []) ++ (old ++ (s ∷ []) ++ far) ≡ (rest ++ (p ∷ []) ++ old) ++ (s ∷ []) ++ far =
    ap (λ xs. rest ++ (p ∷ []) ++ xs) (append_assoc old (s ∷ []) far) ∙ sym (append_assoc (rest ++ (p ∷ [])) old ((s ∷ []) ++ far)) ∙ sym (append_assoc (rest ++ (p ∷ []) ++ old) (s ∷ []) far) in
    let again : rest ++ (p ∷ []) ++ (old ++ (s ∷ []) ++ far) ≡ rest ++ ((p ∷ []) ++ old ++ (s ∷ [])) ++ far =
    all ∙ ap (λ xs. xs ++ (s ∷ []) ++ far) (append_assoc rest (p ∷ []) old) ∙ ap (λ xs. xs ++ far) (append_assoc rest ((p ∷ []) ++ old) (s ∷ [])) in
    one_replaced rest ((p ∷ []) ++ old ++ (s ∷ [])) far j (ap (λ xs. are_loose None (runs_in xs)) (sym again) ∙ h)
    (ap (goes_on (last_run rest)) e ∙ (own_loose rest (old ++ (s ∷ []) ++ far) p h).0)
    (leads_alike j.0 s.0 (runs_in far) f ∙ (own_loose (rest ++ (p ∷ []) ++ old) far s (ap (λ xs. are_loose None (runs_in xs)) (sym all) ∙ h)).1)

pub filled : (rest far : List Piece) (p s n : Piece) → are_loose None (runs_in (rest ++ (p ∷ []) ++ ((s ∷ []) ++ far))) ≡ true → length p.1 ≡ p.0.1 → length n.1 ≡ n.0.1 → 0 < p.0.1 → 0 < n.0.1 → 0 < s.0.1 → follows n.0.0 (run_last p.0) ≡ true → follows s.0.0 (run_last n.0) ≡ true
    → Shows (entries_of (rest ++ p ∷ []) ++ piece_entries n ++ entries_of (s ∷ far)) (rest ++ (joined p (joined n s) ∷ []) ++ far)
filled rest far p s n h m o k l i t u =
    let w : run_last (joined p (joined n s)).0 ≡ run_last s.0 = joined_last p.0 (joined n s).0 k (omega arith) t ∙ joined_last n.0 s.0 l i u in
    record {
      entries_are =
          joined_entries rest far p (joined n s) m k t
          ∙ ap (λ es. entries_of rest ++ (piece_entries p ++ es) ++ entries_of far) (entries_joined n s o (touch n.0 s.0 l u))
          ∙ after_last rest p (piece_entries n ++ piece_entries s) (entries_of far) ∙ before_first (rest ++ p ∷ []) far s (piece_entries n);
      loose = both_loose rest far p s (joined p (joined n s)) [] h refl w;
    }

-- ---- a block that is split

-- what stands above the identifier in front of the place, and ends below that at the place, touches neither
module _ (b n : Piece) (at : ℕ) (sound : is_run b.0 ≡ true) (some : 0 < at) (within : at < b.0.1) (own : 0 < n.0.1) (order : Lt tuples n.0.0 (shifted (pos at) b.0.0)) (above : ident_lt (shifted (pos (at - 1)) b.0.0) n.0.0 ≡ true) (first : Lt tuples (shifted (pos (at - 1)) b.0.0) (run_last n.0)) where
  before_apart : goes_on (Some (part_of 0 at b).0) n.0.0 ≡ false
  before_apart = not_true (follows n.0.0 (run_last (part_of 0 at b).0)) (λ t.
      let e = touch (part_of 0 at b).0 n.0 some t in
      let f : shifted (pos at) (shifted (pos 0) b.0.0) ≡ shifted (pos at) b.0.0 = ap (shifted (pos at)) (shifted_none b.0.0) in
      lt_irrefl (subst (λ z. Lt tuples z (shifted (pos at) b.0.0)) (e ∙ f) order))

  behind_apart : goes_on (Some n.0) (part_of at (b.0.1 - at) b).0.0 ≡ false
  behind_apart = not_true (follows (shifted (pos at) b.0.0) (run_last n.0)) (λ t.
      let e = follows_is (run_last n.0) (shifted (pos at) b.0.0) t in
      let k : suc (at - 1) ≡ at = omega arith in
      let f = back (at - 1) b.0.0 (run_last n.0) (ap (λ j. shifted (pos j) b.0.0) k ∙ e) in
      lt_irrefl (subst (λ z. Lt tuples z (run_last n.0)) f first))

  pub split_loose : (f g : List Piece) → are_loose None (runs_in (f ++ (b ∷ []) ++ g)) ≡ true → are_loose None (runs_in (f ++ (part_of 0 at b ∷ n ∷ part_of at (b.0.1 - at) b ∷ []) ++ g)) ≡ true
  split_loose f g h =
      let x = part_of 0 at b in
      let y = part_of at (b.0.1 - at) b in
      let a : goes_on (last_run f) x.0.0 ≡ false = ap (goes_on (last_run f)) (shifted_none b.0.0) ∙ (own_loose f g b h).0 in
      let l : run_last y.0 ≡ run_last b.0 = part_last b.0.0 at (b.0.1 - at) (omega arith) ∙ ap (λ j. shifted (pos j) b.0.0) (omega arith) in
      replaced f (b ∷ []) (x ∷ n ∷ y ∷ []) g h
      (and_true (not (goes_on (last_run f) x.0.0)) (are_loose (Some x.0) (runs_in (n ∷ y ∷ []))) (ap not a)
      (and_true (not (goes_on (Some x.0) n.0.0)) (are_loose (Some n.0) (runs_in (y ∷ []))) (ap not before_apart)
      (and_true (not (goes_on (Some n.0) y.0.0)) true (ap not behind_apart) refl)))
      (ap (λ r. leads_to r (runs_in g)) (last_more f (x ∷ n ∷ y ∷ [])) ∙ leads_alike y.0 b.0 (runs_in g) l ∙ (own_loose f g b h).1)

  pub split_shows : (f g : List Piece) → are_loose None (runs_in (f ++ (b ∷ []) ++ g)) ≡ true
      → Shows (entries_of f ++ piece_entries (part_of 0 at b) ++ piece_entries n ++ (piece_entries (part_of at (b.0.1 - at) b) ++ entries_of g)) (f ++ (part_of 0 at b ∷ n ∷ part_of at (b.0.1 - at) b ∷ []) ++ g)
  split_shows f g h =
      let x = piece_entries (part_of 0 at b) in
      let y = piece_entries (part_of at (b.0.1 - at) b) in
      let z = piece_entries n in
      record {
        entries_are =
            three_entries f (part_of 0 at b ∷ n ∷ part_of at (b.0.1 - at) b ∷ []) g
            ∙ ap (λ es. entries_of f ++ (x ++ (z ++ es)) ++ entries_of g) (append-nil y)
            ∙ ap (λ es. es ++ entries_of g) (sym (append_assoc (entries_of f) x (z ++ y)) ∙ sym (append_assoc (entries_of f ++ x) z y))
            ∙ append_assoc (entries_of f ++ x ++ z) y (entries_of g);
        loose = split_loose f g h;
      }

-- ---- characters taken out of the middle of a block

module _ (f g : List Piece) (b : Piece) (sound : is_run b.0 ≡ true) (apart : are_apart None (runs_in (f ++ (b ∷ []) ++ g)) ≡ true) where
  loosely : are_loose None (runs_in (f ++ (b ∷ []) ++ g)) ≡ true
  loosely = loose_of None (runs_in (f ++ (b ∷ []) ++ g)) apart

  pub middle_shows : (a k : ℕ) → 0 < a → a < k → k < b.0.1 → Shows (entries_of f ++ piece_entries (part_of 0 a b) ++ (piece_entries (part_of k (b.0.1 - k) b) ++ entries_of g)) (f ++ (part_of 0 a b ∷ part_of k (b.0.1 - k) b ∷ []) ++ g)
  middle_shows a k h o l =
      let x = part_of 0 a b in
      let y = part_of k (b.0.1 - k) b in
      let e : run_last y.0 ≡ run_last b.0 = part_last b.0.0 k (b.0.1 - k) (omega arith) ∙ ap (λ j. shifted (pos j) b.0.0) (omega arith) in
      let p : goes_on (last_run f) x.0.0 ≡ false = ap (goes_on (last_run f)) (shifted_none b.0.0) ∙ (own_loose f g b loosely).0 in
      let q : goes_on (Some x.0) y.0.0 ≡ false = not_true (follows y.0.0 (run_last x.0)) (λ t.
      let d = touch x.0 y.0 h t ∙ ap (shifted (pos a)) (shifted_none b.0.0) in
      lt_irrefl (subst (λ z. Lt tuples (shifted (pos a) b.0.0) z) d (shifted_less (pos a) (pos k) b.0.0 (run_ident b.0 sound) (omega (arith, ints))))) in
      record {
        entries_are = two_entries f g x y;
        loose = replaced f (b ∷ []) (x ∷ y ∷ []) g loosely (and_true (not (goes_on (last_run f) x.0.0)) (are_loose (Some x.0) (runs_in (y ∷ []))) (ap not p) (and_true (not (goes_on (Some x.0) y.0.0)) true (ap not q) refl))
            (ap (λ r. leads_to r (runs_in g)) (last_more f (x ∷ y ∷ [])) ∙ leads_alike y.0 b.0 (runs_in g) e ∙ (own_loose f g b loosely).1);
      }

-- ---- numbers of characters

pub own_length : (b : Piece) → length b.1 ≡ b.0.1 → length (piece_entries b) ≡ b.0.1
own_length b m =
    let z = length-zip (run_idents b.0.0 b.0.1) b.1 in
    let r = run_length b.0.0 b.0.1 in
    omega (arith, z, r, m)

pub one_length : (b : Piece) → length (entries_of (b ∷ [])) ≡ length (piece_entries b)
one_length b = ap length (alone_entries b)

pub single_chars : (b : Piece) → IsPiece b.0 b.1 → length (entries_of (b ∷ [])) ≡ length b.1
single_chars b p = let m = p.as_many in omega (arith, one_length b, own_length b m, m)

-- ---- the order of a run's ends

pub within_shows : (f g : List Piece) (b n : Piece) (at : ℕ) → is_run b.0 ≡ true → is_run n.0 ≡ true → 0 < at → at < b.0.1 → 0 < n.0.1 → ident_lt (shifted (pos (at - 1)) b.0.0) n.0.0 ≡ true → ident_lt (run_last n.0) (shifted (pos at) b.0.0) ≡ true → are_loose None (runs_in (f ++ (b ∷ []) ++ g)) ≡ true
    → Shows (entries_of f ++ piece_entries (part_of 0 at b) ++ piece_entries n ++ (piece_entries (part_of at (b.0.1 - at) b) ++ entries_of g)) (f ++ (part_of 0 at b ∷ n ∷ part_of at (b.0.1 - at) b ∷ []) ++ g)
within_shows f g b n at s r h l o above below loose =
    split_shows b n at s h l o (run_less n.0.0 (n.0.1 - 1) (shifted (pos at) b.0.0) (run_ident n.0 r) (lt_of (run_last n.0) (shifted (pos at) b.0.0) below)).0 above
    (less_shifted (shifted (pos (at - 1)) b.0.0) n.0.0 (n.0.1 - 1) (run_ident n.0 r) (lt_of (shifted (pos (at - 1)) b.0.0) n.0.0 above)) f g loose
