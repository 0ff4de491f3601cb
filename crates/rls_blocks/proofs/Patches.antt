-- Blocks that take the place of others.
use Rattle.std.proofs.Common.{◌≡◌, ℕ, suc, ◌+◌, ◌-◌, ◌<◌, ◌≤◌, ◌^◌, Bool, true, false, List, [], ◌∷◌, ◌++◌, length, Some, None, slice_get, refl, sym, ap, ◌∙◌, subst, arith, length-append, append_assoc}
use Rattle.std.specs.Prelude.{reverse, nat_lt, if◌then◌else◌}
use Rattle.std.proofs.lemmas.List.{append-nil, reverse-append}
use Rattle.rls_ident.proofs.Members.{lt_is, lt_test, not_true}
use Rattle.rls_blocks.specs.declared.patch.Patch.{Patch}
use Rattle.rls_blocks.specs.Trees.{Piece, IsPiece, ArePieces, piece_entries, entries_of, runs_in}
use Rattle.rls_blocks.specs.Patches.{before, after, IsBetween, patched, ArePatches}
use Rattle.rls_ident.specs.Identifiers.{follows}
use Rattle.rls_runs.specs.Runs.{run_last}
use Rattle.rls_runs.specs.Entries.{Entries}
use Rattle.rls_runs.proofs.RunOrder.{run_some}
use Rattle.rls_blocks.specs.Edits.{joined, goes_on, are_loose, Shows}
use Rattle.rls_blocks.proofs.Loose.{last_run}
use Rattle.rls_blocks.proofs.Cases.{new_shows, grown_last}
use Rattle.std.specs.Option.{option_map}
use Rattle.rls_blocks.proofs.Pieces.{piece_length, piece_some, chars_append}
use Rattle.rls_blocks.proofs.Splits.{are_left, are_right}

-- ---- blocks before and after a place

passed : (b : Piece) (i k : ℕ) → IsPiece b.0 b.1 → i ≡ length b.1 + k → nat_lt i (length b.1) ≡ false
passed b i k h e = not_true (nat_lt i (length b.1)) (λ t. let l = lt_is i (length b.1) t in omega (arith, e, l))

pub before_more : (f g : List Piece) (i j : ℕ) → ArePieces f → i ≡ length (entries_of f) + j → before i (f ++ g) ≡ f ++ before j g
before_more [] g i j h e = ap (λ k. before k g) (omega arith)
before_more (b ∷ f) g i j h e =
    let l = length-append (piece_entries b) (entries_of f) in
    let p = piece_length b h.0 in
    ap (λ t. if t then [] else b ∷ before (i - length b.1) (f ++ g)) (passed b i (length (entries_of f) + j) h.0 (omega (arith, e, l, p)))
    ∙ ap (λ bs. b ∷ bs) (before_more f g (i - length b.1) j h.1 (omega (arith, e, l, p)))

pub after_more : (f g : List Piece) (i j : ℕ) → ArePieces f → i ≡ length (entries_of f) + j → after i (f ++ g) ≡ after j g
after_more [] g i j h e = ap (λ k. after k g) (omega arith)
after_more (b ∷ f) g i j h e =
    let l = length-append (piece_entries b) (entries_of f) in
    let p = piece_length b h.0 in
    ap (λ t. if t then b ∷ (f ++ g) else after (i - length b.1) (f ++ g)) (passed b i (length (entries_of f) + j) h.0 (omega (arith, e, l, p)))
    ∙ after_more f g (i - length b.1) j h.1 (omega (arith, e, l, p))

pub none_before : (g : List Piece) → ArePieces g → before 0 g ≡ []
none_before [] h = refl
none_before (b ∷ g) h = ap (λ t. if t then [] else b ∷ before (0 - length b.1) g) (lt_test 0 (length b.1) (piece_some b h.0))

all_after : (g : List Piece) → ArePieces g → after 0 g ≡ g
all_after [] h = refl
all_after (b ∷ g) h = ap (λ t. if t then b ∷ g else after (0 - length b.1) g) (lt_test 0 (length b.1) (piece_some b h.0))

-- at the seam of two lists
pub before_seam : (f g : List Piece) (i : ℕ) → ArePieces f → ArePieces g → length (entries_of f) ≡ i → before i (f ++ g) ≡ f
before_seam f g i h k e = before_more f g i 0 h (omega (arith, e)) ∙ ap (λ bs. f ++ bs) (none_before g k) ∙ append-nil f

pub after_seam : (f g : List Piece) (i : ℕ) → ArePieces f → ArePieces g → length (entries_of f) ≡ i → after i (f ++ g) ≡ g
after_seam f g i h k e = after_more f g i 0 h (omega (arith, e)) ∙ all_after g k

-- within a block
pub before_within : (f g : List Piece) (b : Piece) (i : ℕ) → ArePieces f → length (entries_of f) ≤ i → i < length (entries_of f) + length b.1 → before i (f ++ b ∷ g) ≡ f
before_within f g b i h l u =
    before_more f (b ∷ g) i (i - length (entries_of f)) h (omega (arith, l))
    ∙ ap (λ t. f ++ (if t then [] else b ∷ before (i - length (entries_of f) - length b.1) g)) (lt_test (i - length (entries_of f)) (length b.1) (omega (arith, l, u)))
    ∙ append-nil f

pub seam : (i : ℕ) (bs : List Piece) → before i bs ++ after i bs ≡ bs
seam i [] = refl
seam i (b ∷ bs) = go (nat_lt i (length b.1)) (seam (i - length b.1) bs)
  where
    go : (t : Bool) → before (i - length b.1) bs ++ after (i - length b.1) bs ≡ bs → (if t then [] else b ∷ before (i - length b.1) bs) ++ (if t then b ∷ bs else after (i - length b.1) bs) ≡ b ∷ bs
    go true e = refl
    go false e = ap (λ xs. b ∷ xs) e

-- ---- a place between blocks

module _ (f g : List Piece) (are : ArePieces (f ++ g)) (i : ℕ) (b : IsBetween i f) where
  parts : before i f ++ after i f ≡ f
  parts = seam i f

  front_are : ArePieces (before i f)
  front_are = are_left (before i f) (after i f) (subst ArePieces (sym parts) (are_left f g are))

  rest_are : ArePieces (after i f ++ g)
  rest_are = are_right (before i f) (after i f ++ g) (subst ArePieces (ap (λ bs. bs ++ g) (sym parts) ∙ append_assoc (before i f) (after i f) g) are)

  all : f ++ g ≡ before i f ++ (after i f ++ g)
  all = ap (λ bs. bs ++ g) (sym parts) ∙ append_assoc (before i f) (after i f) g

  pub before_in : before i (f ++ g) ≡ before i f
  before_in = ap (before i) all ∙ before_seam (before i f) (after i f ++ g) i front_are rest_are b

  pub after_in : after i (f ++ g) ≡ after i f ++ g
  after_in = ap (after i) all ∙ after_seam (before i f) (after i f ++ g) i front_are rest_are b

  pub between_in : IsBetween i (f ++ g)
  between_in = ap (λ bs. length (entries_of bs)) before_in ∙ b

-- ---- more blocks after those that have patches

pub patched_more : (ps : List Patch) (f g : List Piece) → ArePieces (f ++ g) → ArePatches ps f → patched ps (f ++ g) ≡ patched ps f ++ g
patched_more [] f g a h = refl
patched_more (p ∷ ps) f g a h =
    let x = patched ps (before p.from f) in
    ap (λ bs. patched ps bs ++ (p.fresh.blocks ++ after p.to (f ++ g))) (before_in f g a p.from h.1)
    ∙ ap (λ bs. x ++ (p.fresh.blocks ++ bs)) (after_in f g a p.to h.2)
    ∙ ap (λ bs. x ++ bs) (sym (append_assoc p.fresh.blocks (after p.to f) g))
    ∙ sym (append_assoc x (p.fresh.blocks ++ after p.to f) g)

pub patches_more : (ps : List Patch) (f g : List Piece) → ArePieces (f ++ g) → ArePatches ps f → ArePatches ps (f ++ g)
patches_more [] f g a h = tt
patches_more (p ∷ ps) f g a h = (h.0, between_in f g a p.from h.1, between_in f g a p.to h.2, subst (ArePatches ps) (sym (before_in f g a p.from h.1)) h.3)

-- ---- a block more, after the others

pub items_show : {es : Entries} {bs cs : List Piece} → cs ≡ bs → Shows es bs → Shows es cs
items_show {es = es} e s = subst (λ xs. Shows es xs) (sym e) s

pub pushed_new : (bs : List Piece) (n : Piece) → are_loose None (runs_in bs) ≡ true → goes_on (last_run bs) n.0.0 ≡ false → Shows (entries_of bs ++ piece_entries n) (bs ++ n ∷ [])
pushed_new bs n h a =
    let s = new_shows bs [] n (ap (λ xs. are_loose None (runs_in xs)) (append-nil bs) ∙ h) a refl in
    record {
      entries_are = ap entries_of (sym (append-nil (bs ++ n ∷ []))) ∙ s.entries_are ∙ append-nil (entries_of bs ++ piece_entries n);
      loose = ap (λ xs. are_loose None (runs_in xs)) (sym (append-nil (bs ++ n ∷ []))) ∙ s.loose;
    }

pub pushed_last : (rest : List Piece) (p n : Piece) → are_loose None (runs_in (rest ++ p ∷ [])) ≡ true → IsPiece p.0 p.1 → IsPiece n.0 n.1 → follows n.0.0 (run_last p.0) ≡ true
    → Shows (entries_of (rest ++ p ∷ []) ++ piece_entries n) (rest ++ joined p n ∷ [])
pushed_last rest p n h u v t =
    let s = grown_last rest [] p n (ap (λ xs. are_loose None (runs_in xs)) (append-nil (rest ++ p ∷ [])) ∙ h) u.as_many (run_some p.0 u.sound) (run_some n.0 v.sound) t refl in
    record {
      entries_are = ap entries_of (sym (append-nil (rest ++ joined p n ∷ []))) ∙ s.entries_are ∙ append-nil (entries_of (rest ++ p ∷ []) ++ piece_entries n);
      loose = ap (λ xs. are_loose None (runs_in xs)) (sym (append-nil (rest ++ joined p n ∷ []))) ∙ s.loose;
    }

pub between_most : (i : ℕ) (bs : List Piece) → IsBetween i bs → i ≤ length (entries_of bs)
between_most i bs h =
    let e = ap (λ xs. length (entries_of xs)) (seam i bs) in
    let c = chars_append (before i bs) (after i bs) in
    omega (arith, h, e, c)

-- before an earlier place
pub before_both : (i k : ℕ) (bs : List Piece) → i ≤ k → before i (before k bs) ≡ before i bs
before_both i k [] h = refl
before_both i k (b ∷ bs) h = go (nat_lt i (length b.1)) (nat_lt k (length b.1)) refl refl (λ l. before_both (i - length b.1) (k - length b.1) bs l)
  where
    inner : (k' : Bool) → List Piece
    inner t = if t then [] else b ∷ before (k - length b.1) bs

    go : (s t : Bool) → nat_lt i (length b.1) ≡ s → nat_lt k (length b.1) ≡ t → (i - length b.1 ≤ k - length b.1 → before (i - length b.1) (before (k - length b.1) bs) ≡ before (i - length b.1) bs) → before i (inner (nat_lt k (length b.1))) ≡ (if nat_lt i (length b.1) then [] else b ∷ before (i - length b.1) bs)
    go s true p q ih =
        let l : nat_lt i (length b.1) ≡ true = lt_test i (length b.1) (let m = lt_is k (length b.1) q in omega (arith, m, h)) in
        ap (λ t. before i (inner t)) q ∙ sym (ap (λ t. if t then [] else b ∷ before (i - length b.1) bs) l)
    go true false p q ih =
        ap (λ t. before i (inner t)) q ∙ ap (λ t. if t then [] else b ∷ before (i - length b.1) (before (k - length b.1) bs)) p ∙ sym (ap (λ t. if t then [] else b ∷ before (i - length b.1) bs) p)
    go false false p q ih =
        ap (λ t. before i (inner t)) q ∙ ap (λ t. if t then [] else b ∷ before (i - length b.1) (before (k - length b.1) bs)) p
        ∙ ap (λ xs. b ∷ xs) (ih (omega (arith, h))) ∙ sym (ap (λ t. if t then [] else b ∷ before (i - length b.1) bs) p)

-- the last patch put in
module _ (items rest : List Patch) (p : Patch) (front behind total : List Piece) (is : items ≡ rest ++ p ∷ []) (h : ArePatches (reverse items) front) (e : patched (reverse items) front ++ behind ≡ total) where
  order : reverse items ≡ p ∷ reverse rest
  order = ap reverse is ∙ reverse-append rest (p ∷ [])

  patches : ArePatches (p ∷ reverse rest) front
  patches = subst (λ ps. ArePatches ps front) order h

  -- the blocks before it
  pub kept_is : (near kept : List Piece) → near ≡ before p.to front → kept ≡ before p.from near → kept ≡ before p.from front
  kept_is near kept n k = k ∙ ap (before p.from) n ∙ before_both p.from p.to front patches.0

  pub from_between : (near : List Piece) → near ≡ before p.to front → IsBetween p.from near
  from_between near n = ap (λ bs. length (entries_of (before p.from bs))) n ∙ ap (λ bs. length (entries_of bs)) (before_both p.from p.to front patches.0) ∙ patches.1

  value : (patched (reverse rest) (before p.from front) ++ (p.fresh.blocks ++ after p.to front)) ++ behind ≡ total
  value = ap (λ ps. patched ps front ++ behind) (sym order) ∙ e

  -- no part is longer than all
  pub parts_fit : (far : List Piece) → far ≡ after p.to front → length (entries_of total) < 2 ^ 64 → length (entries_of p.fresh.blocks) + length (entries_of far) + length (entries_of behind) < 2 ^ 64
  parts_fit far f l =
      let first = patched (reverse rest) (before p.from front) in
      let last = p.fresh.blocks ++ after p.to front in
      let all = ap (λ bs. length (entries_of bs)) value in
      let own = ap (λ bs. length (entries_of bs)) f in
      omega (arith, all, own, chars_append (first ++ last) behind, chars_append first last, chars_append p.fresh.blocks (after p.to front), l)

  pub last_put : (near far kept done : List Piece) → near ≡ before p.to front → far ≡ after p.to front → kept ≡ before p.from near → done ≡ (p.fresh.blocks ++ far) ++ behind → ArePatches (reverse rest) kept × (patched (reverse rest) kept ++ done ≡ total)
  last_put near far kept done n f k d =
      let x = patched (reverse rest) (before p.from front) in
      let own = kept_is near kept n k in
      (subst (ArePatches (reverse rest)) (sym own) patches.3, ap (λ bs. patched (reverse rest) bs ++ done) own ∙ ap (λ bs. x ++ bs) (d ∙ ap (λ bs. (p.fresh.blocks ++ bs) ++ behind) f) ∙ sym (append_assoc x (p.fresh.blocks ++ after p.to front) behind) ∙ value)

-- all blocks are before the last place
pub all_before : (bs : List Piece) (i : ℕ) → ArePieces bs → i ≡ length (entries_of bs) → (before i bs ≡ bs) × (after i bs ≡ [])
all_before bs i h e =
    let n = append-nil bs in
    (ap (before i) (sym n) ∙ before_seam bs [] i h tt (sym e), ap (after i) (sym n) ∙ after_seam bs [] i h tt (sym e))

-- the last of some blocks
pub last_of : (bs : List Piece) (b : Piece) → slice_get bs (length bs - 1) ≡ Some b → last_run bs ≡ Some b.0
last_of [] b g = absurd cc
last_of (x ∷ []) b g = ap (λ o. option_map (λ (q : Piece). q.0) o) g
last_of (x ∷ (y ∷ bs)) b g = last_of (y ∷ bs) b (let n : length (y ∷ bs) - 1 ≡ length bs = omega arith in let m : length (x ∷ (y ∷ bs)) - 1 ≡ suc (length bs) = omega arith in ap (slice_get (y ∷ bs)) n ∙ sym (ap (slice_get (x ∷ (y ∷ bs))) m) ∙ g)
