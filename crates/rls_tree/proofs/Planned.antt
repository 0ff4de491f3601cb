-- Blocks up to a place, with patches.
use Rattle.std.proofs.Common.{◌≡◌, ℕ, zero, suc, ◌-◌, ◌<◌, ◌≤◌, true, false, List, [], ◌∷◌, ◌++◌, length, take, drop, Option, None, refl, sym, ap, ◌∙◌, subst, arith, append_assoc}
use Rattle.std.proofs.lemmas.List.{append-nil}
use Rattle.std.proofs.Math.Seq.{take-append_seam, drop-append_seam}
use Rattle.rls_ident.specs.declared.tuple.Tuple.{Tuple}
use Rattle.rls_runs.specs.Entries.{Entries}
use Rattle.rls_runs.proofs.RunOrder.{run_some}
use Rattle.rls_runs.proofs.Sorted.{Entry}
use Rattle.rls_blocks.specs.declared.patch.Patch.{Patch}
use Rattle.rls_blocks.specs.Trees.{Piece, IsPiece, ArePieces, entries_of, runs_in}
use Rattle.rls_blocks.specs.Edits.{goes_on, leads_to, are_loose}
use Rattle.rls_blocks.specs.Patches.{before, after, IsBetween, patched, ArePatches}
use Rattle.rls_blocks.proofs.Pieces.{entries_append, chars_append}
use Rattle.rls_blocks.proofs.Loose.{last_run, replaced, leads_not, loose_again, loose_right, run_irrelevant, runs_append}
use Rattle.rls_blocks.proofs.Cases.{last_more}
use Rattle.rls_blocks.proofs.Patches.{none_before, before_more, after_more, seam, before_both, all_before, patched_more, patches_more}
use Rattle.rls_blocks.proofs.Splits.{are_left, are_right}

-- the place after the last patch, which is the first one here
abbrev pub end_of : List Patch → ℕ
end_of [] = 0
end_of (p ∷ ps) = p.to

-- patches of the blocks up to a place, of which none goes on with the one before it then
pub record Planned (bs : List Piece) (ps : List Patch) (at : ℕ) : Type 0 where
  pub between : IsBetween at bs
  pub are : ArePatches ps (before at bs)
  pub loose : are_loose None (runs_in (patched ps (before at bs) ++ after at bs)) ≡ true

pub unplanned : (bs : List Piece) → ArePieces bs → are_loose None (runs_in bs) ≡ true → Planned bs [] 0
unplanned bs h l =
    record {
      between = ap (λ xs. length (entries_of xs)) (none_before bs h);
      are = tt;
      loose = ap (λ xs. are_loose None (runs_in xs)) (seam 0 bs) ∙ l;
    }

-- ---- characters before and after a place between blocks

whole : (i : ℕ) (bs : List Piece) → entries_of bs ≡ entries_of (before i bs) ++ entries_of (after i bs)
whole i bs = ap entries_of (sym (seam i bs)) ∙ entries_append (before i bs) (after i bs)

front_entries : (i : ℕ) (bs : List Piece) → IsBetween i bs → entries_of (before i bs) ≡ take i (entries_of bs)
front_entries i bs h = sym (take-append_seam (entries_of (before i bs)) (entries_of (after i bs))) ∙ ap (λ k. take k (entries_of (before i bs) ++ entries_of (after i bs))) h ∙ ap (take i) (sym (whole i bs))

pub rest_entries : (i : ℕ) (bs : List Piece) → IsBetween i bs → entries_of (after i bs) ≡ drop i (entries_of bs)
rest_entries i bs h = sym (drop-append_seam (entries_of (before i bs)) (entries_of (after i bs))) ∙ ap (λ k. drop k (entries_of (before i bs) ++ entries_of (after i bs))) h ∙ ap (drop i) (sym (whole i bs))

module _ (i k : ℕ) (bs : List Piece) (h : ArePieces bs) (b : IsBetween i bs) (o : i ≤ k) where
  front_are : ArePieces (before i bs)
  front_are = are_left (before i bs) (after i bs) (subst ArePieces (sym (seam i bs)) h)

  before_later : before k bs ≡ before i bs ++ before (k - i) (after i bs)
  before_later = ap (before k) (sym (seam i bs)) ∙ before_more (before i bs) (after i bs) k (k - i) front_are (omega (arith, b, o))

  after_later : after k bs ≡ after (k - i) (after i bs)
  after_later = ap (after k) (sym (seam i bs)) ∙ after_more (before i bs) (after i bs) k (k - i) front_are (omega (arith, b, o))

  between_later : IsBetween k bs → IsBetween (k - i) (after i bs)
  between_later c =
      let e = ap (λ xs. length (entries_of xs)) before_later in
      let n = chars_append (before i bs) (before (k - i) (after i bs)) in
      omega (arith, b, c, e, n, o)

-- ---- the first identifier of some blocks

pub head_is : (b : Piece) (bs : List Piece) (e : Entry) (es : Entries) → IsPiece b.0 b.1 → entries_of (b ∷ bs) ≡ e ∷ es → b.0.0 ≡ e.0
head_is ((x, zero), cs) bs e es h q = let l = run_some (x, zero) h.sound in absurd (omega (arith, l))
head_is ((x, suc n), []) bs e es h q = let m = h.as_many in absurd (omega (arith, m))
head_is ((x, suc n), c ∷ cs) bs e es h q = let f : (x, c) ≡ e = cc in ap (λ (p : Entry). p.0) f

pub led : (xs ys : List Piece) (o : Option (List Tuple × ℕ)) (e : Entry) (es fs : Entries) → ArePieces xs → ArePieces ys → entries_of xs ≡ e ∷ es → entries_of ys ≡ e ∷ fs → leads_to o (runs_in xs) ≡ leads_to o (runs_in ys)
led [] ys o e es fs h k p q = absurd cc
led (x ∷ xs) [] o e es fs h k p q = absurd cc
led (x ∷ xs) (y ∷ ys) o e es fs h k p q = ap (goes_on o) (head_is x xs e es h.0 p ∙ sym (head_is y ys e fs k.0 q))

pub some_blocks : (xs : List Piece) → 0 < length (entries_of xs) → 0 < length xs
some_blocks [] h = h
some_blocks (x ∷ xs) h = omega arith

none_led : (rs : List (List Tuple × ℕ)) → leads_to None rs ≡ false
none_led [] = refl
none_led (r ∷ rs) = refl

-- ---- one patch more

module _ (bs : List Piece) (ps : List Patch) (at : ℕ) (p : Patch) (h : ArePieces bs) (was : Planned bs ps at) (order : at ≤ p.from) (up : p.from ≤ p.to) (from_is : IsBetween p.from bs) (to_is : IsBetween p.to bs) where
  abbrev mid : List Piece
  mid = before (p.from - at) (after at bs)

  abbrev gone : List Piece
  gone = before (p.to - p.from) (after p.from bs)

  abbrev pub old : List Piece
  old = patched ps (before at bs) ++ mid

  mid_is : before p.from bs ≡ before at bs ++ mid
  mid_is = before_later at p.from bs h was.between order

  front_pieces : ArePieces (before at bs ++ mid)
  front_pieces = subst ArePieces mid_is (are_left (before p.from bs) (after p.from bs) (subst ArePieces (sym (seam p.from bs)) h))

  to_pieces : ArePieces (before p.to bs)
  to_pieces = are_left (before p.to bs) (after p.to bs) (subst ArePieces (sym (seam p.to bs)) h)

  own : before p.from (before p.to bs) ≡ before p.from bs
  own = before_both p.from p.to bs up

  value : patched (p ∷ ps) (before p.to bs) ≡ old ++ p.fresh.blocks
  value =
      ap (λ xs. patched ps xs ++ (p.fresh.blocks ++ after p.to (before p.to bs))) (own ∙ mid_is)
      ∙ ap (λ xs. xs ++ (p.fresh.blocks ++ after p.to (before p.to bs))) (patched_more ps (before at bs) mid front_pieces was.are)
      ∙ ap (λ xs. old ++ (p.fresh.blocks ++ xs)) (all_before (before p.to bs) p.to to_pieces (sym to_is)).1
      ∙ ap (λ xs. old ++ xs) (append-nil p.fresh.blocks)

  are_more : ArePatches (p ∷ ps) (before p.to bs)
  are_more = (
    up,
    ap (λ xs. length (entries_of xs)) own ∙ from_is,
    ap (λ xs. length (entries_of xs)) (before_both p.to p.to bs (omega arith)) ∙ to_is,
    subst (ArePatches ps) (sym (own ∙ mid_is)) (patches_more ps (before at bs) mid front_pieces was.are),
  )

  pub mid_entries : entries_of mid ≡ take (p.from - at) (drop at (entries_of bs))
  mid_entries = front_entries (p.from - at) (after at bs) (between_later at p.from bs h was.between order from_is) ∙ ap (take (p.from - at)) (rest_entries at bs was.between)

  pub entries_more : entries_of (patched (p ∷ ps) (before p.to bs)) ≡ (entries_of (patched ps (before at bs)) ++ take (p.from - at) (drop at (entries_of bs))) ++ entries_of p.fresh.blocks
  entries_more =
      ap entries_of value ∙ entries_append old p.fresh.blocks ∙ ap (λ zs. zs ++ entries_of p.fresh.blocks) (entries_append (patched ps (before at bs)) mid ∙ ap (λ zs. entries_of (patched ps (before at bs)) ++ zs) mid_entries)

  rest_are : ArePieces (after p.from bs)
  rest_are = are_right (before p.from bs) (after p.from bs) (subst ArePieces (sym (seam p.from bs)) h)

  rest_loose : are_loose None (runs_in (old ++ after p.from bs)) ≡ true
  rest_loose =
      let e = append_assoc (patched ps (before at bs)) mid (after p.from bs) ∙ ap (λ xs. patched ps (before at bs) ++ xs) (ap (λ xs. mid ++ xs) (after_later at p.from bs h was.between order) ∙ seam (p.from - at) (after at bs)) in
      ap (λ xs. are_loose None (runs_in xs)) e ∙ was.loose

  gone_all : gone ++ after p.to bs ≡ after p.from bs
  gone_all = ap (λ xs. gone ++ xs) (after_later p.from p.to bs h from_is up) ∙ seam (p.to - p.from) (after p.from bs)

  old_loose : are_loose None (runs_in (old ++ gone ++ after p.to bs)) ≡ true
  old_loose = ap (λ xs. are_loose None (runs_in xs)) (append_assoc old gone (after p.to bs) ∙ ap (λ xs. old ++ xs) gone_all) ∙ rest_loose

  -- ways to know that the new blocks don't go on with those before: the identifiers there begin as before
  pub begins_alike : (e : Entry) (es fs : Entries) → ArePieces p.fresh.blocks → entries_of p.fresh.blocks ≡ e ∷ es → drop p.from (entries_of bs) ≡ e ∷ fs → leads_to (last_run old) (runs_in p.fresh.blocks) ≡ false
  begins_alike e es fs a q r =
      led p.fresh.blocks (after p.from bs) (last_run old) e es fs a rest_are q (rest_entries p.from bs from_is ∙ r)
      ∙ leads_not (last_run old) (runs_in (after p.from bs)) (loose_right None (runs_in old) (runs_in (after p.from bs)) (ap (are_loose None) (sym (runs_append old (after p.from bs))) ∙ rest_loose))

  -- there are none before
  pub begins_first : patched ps (before at bs) ≡ [] → p.from ≡ at → (old ≡ []) × (leads_to (last_run old) (runs_in p.fresh.blocks) ≡ false)
  begins_first n e =
      let k : p.from - at ≡ 0 = omega (arith, e) in
      let r = are_right (before at bs) (after at bs) (subst ArePieces (sym (seam at bs)) h) in
      let none : old ≡ [] = ap (λ xs. xs ++ mid) n ∙ ap (λ j. before j (after at bs)) k ∙ none_before (after at bs) r in
      (none, ap (λ xs. leads_to (last_run xs) (runs_in p.fresh.blocks)) none ∙ none_led (runs_in p.fresh.blocks))

  -- they don't go on with the block that is there before
  pub begins_apart : at < p.from → leads_to (last_run (before p.from bs)) (runs_in p.fresh.blocks) ≡ false → leads_to (last_run old) (runs_in p.fresh.blocks) ≡ false
  begins_apart l a =
      let n = ap (λ bs. length (entries_of bs)) mid_is in
      let c = chars_append (before at bs) mid in
      let some = some_blocks mid (omega (arith, l, n, c, was.between, from_is)) in
      ap (λ o. leads_to o (runs_in p.fresh.blocks)) (last_more (patched ps (before at bs)) mid ∙ run_irrelevant (last_run (patched ps (before at bs))) (last_run (before at bs)) mid some ∙ sym (ap last_run mid_is ∙ last_more (before at bs) mid)) ∙ a

  -- and that the blocks after them don't go on with them
  pub ends_apart : 0 < length p.fresh.blocks → leads_to (last_run p.fresh.blocks) (runs_in (after p.to bs)) ≡ false → leads_to (last_run (old ++ p.fresh.blocks)) (runs_in (after p.to bs)) ≡ false
  ends_apart some apart = ap (λ o. leads_to o (runs_in (after p.to bs))) (last_more old p.fresh.blocks ∙ run_irrelevant (last_run old) None p.fresh.blocks some) ∙ apart

  pub planned_more : are_loose None (runs_in p.fresh.blocks) ≡ true → leads_to (last_run old) (runs_in p.fresh.blocks) ≡ false → leads_to (last_run (old ++ p.fresh.blocks)) (runs_in (after p.to bs)) ≡ false → Planned bs (p ∷ ps) p.to
  planned_more fresh_loose front behind =
      record {
        between = to_is;
        are = are_more;
        loose = ap (λ xs. are_loose None (runs_in (xs ++ after p.to bs))) value ∙ replaced old gone p.fresh.blocks (after p.to bs) old_loose (loose_again None (last_run old) (runs_in p.fresh.blocks) fresh_loose front) behind;
      }

-- ---- all of them

module _ (bs : List Piece) (ps : List Patch) (at : ℕ) (h : ArePieces bs) (was : Planned bs ps at) where
  pieces : ArePieces (before at bs ++ after at bs)
  pieces = subst ArePieces (sym (seam at bs)) h

  pub all_patches : ArePatches ps bs
  all_patches = subst (ArePatches ps) (seam at bs) (patches_more ps (before at bs) (after at bs) pieces was.are)

  all_is : patched ps bs ≡ patched ps (before at bs) ++ after at bs
  all_is = ap (patched ps) (sym (seam at bs)) ∙ patched_more ps (before at bs) (after at bs) pieces was.are

  pub all_entries : entries_of (patched ps bs) ≡ entries_of (patched ps (before at bs)) ++ drop at (entries_of bs)
  all_entries = ap entries_of all_is ∙ entries_append (patched ps (before at bs)) (after at bs) ∙ ap (λ zs. entries_of (patched ps (before at bs)) ++ zs) (rest_entries at bs was.between)

  pub all_loose : are_loose None (runs_in (patched ps bs)) ≡ true
  all_loose = ap (λ xs. are_loose None (runs_in xs)) all_is ∙ was.loose
