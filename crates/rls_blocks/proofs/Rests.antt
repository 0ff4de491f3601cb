-- Blocks of which one keeps some parts.
use Rattle.std.proofs.Common.{◌≡◌, ℕ, zero, suc, ◌+◌, ◌-◌, ◌<◌, ◌≤◌, true, false, List, [], ◌∷◌, ◌++◌, length, take, drop, Option, Some, None, slice_get, refl, sym, ap, ◌∙◌, subst, ⊎_elim, arith, length-append, length-drop, append_assoc}
use Rattle.std.specs.Prelude.{pos, not, ◌+ℤ◌, IfSome}
use Rattle.std.proofs.lemmas.Int.{ints}
use Rattle.std.proofs.lemmas.List.{append-nil, take_all}
use Rattle.std.proofs.Math.Nat.{eq-or-lt_of_le}
use Rattle.rls_ident.specs.declared.tuple.Tuple.{Tuple}
use Rattle.rls_ident.specs.Identifiers.{shifted, follows}
use Rattle.rls_ident.proofs.Lists.{Lt, lt_irrefl}
use Rattle.rls_ident.proofs.Members.{and_true, not_true, some_is}
use Rattle.rls_ident.proofs.Shifted.{shifted_none, shifted_shifted, shifted_less}
use Rattle.rls_ident.proofs.Tuples.{tuples}
use Rattle.rls_runs.specs.Runs.{run_last, run_before, is_run, are_apart}
use Rattle.rls_runs.proofs.RunOrder.{run_ident}
use Rattle.rls_blocks.specs.declared.rest.Part.{Part}
use Rattle.rls_blocks.specs.declared.rest.Rest.{Rest}
use Rattle.rls_blocks.specs.Trees.{Piece, IsPiece, ArePieces, piece_entries, entries_of, runs_in}
use Rattle.rls_blocks.specs.Edits.{part_of, goes_on, leads_to, are_loose, located}
use Rattle.rls_blocks.specs.Patches.{before, IsBetween}
use Rattle.rls_blocks.specs.Rests.{parts_of, AreParts, IsRest, rest_of, rested}
use Rattle.rls_blocks.proofs.Pieces.{chars_append, node_length, piece_some}
use Rattle.rls_blocks.proofs.Loose.{last_run, replaced, loose_of}
use Rattle.rls_blocks.proofs.Cases.{part_last, touch, leads_alike, last_more, own_loose}
use Rattle.rls_blocks.proofs.AtPlaces.{part_exact}
use Rattle.rls_blocks.proofs.Placed.{made_own, there_own}
use Rattle.rls_blocks.proofs.Ranges.{back_shows, front_shows}
use Rattle.rls_blocks.proofs.Splits.{are_left, are_right}

-- ---- some of the parts

parts_lower : (ps : List Part) (from end : ℕ) → AreParts from ps end → AreParts 0 ps end
parts_lower [] from end h = tt
parts_lower (p ∷ ps) from end h = (omega arith, h.1, h.2, h.3)

pub parts_take : (n : ℕ) (ps : List Part) (from end : ℕ) → AreParts from ps end → AreParts from (take n ps) end
parts_take zero ps from end h = tt
parts_take (suc n) [] from end h = tt
parts_take (suc n) (p ∷ ps) from end h = (h.0, h.1, h.2, parts_take n ps (p.at + p.len + 1) end h.3)

pub parts_drop : (n : ℕ) (ps : List Part) (from end : ℕ) → AreParts from ps end → AreParts 0 (drop n ps) end
parts_drop zero ps from end h = parts_lower ps from end h
parts_drop (suc n) [] from end h = tt
parts_drop (suc n) (p ∷ ps) from end h = parts_drop n ps (p.at + p.len + 1) end h.3

pub part_got : (ps : List Part) (i from end : ℕ) (p : Part) → slice_get ps i ≡ Some p → AreParts from ps end → (0 < p.len) × (p.at + p.len ≤ end)
part_got [] i from end p g h = absurd cc
part_got (q ∷ ps) zero from end p g h = subst (λ (r : Part). (0 < r.len) × (r.at + r.len ≤ end)) (some_is q p g) (h.1, h.2)
part_got (q ∷ ps) (suc i) from end p g h = part_got ps i (q.at + q.len + 1) end p g h.3

part_among : (ps : List Part) (i : ℕ) (p : Part) (b : Piece) → slice_get ps i ≡ Some p → parts_of (take i ps) b ++ part_of p.at p.len b ∷ parts_of (drop (suc i) ps) b ≡ parts_of ps b
part_among [] i p b g = absurd cc
part_among (q ∷ ps) zero p b g = ap (λ (r : Part). part_of r.at r.len b ∷ parts_of ps b) (sym (some_is q p g))
part_among (q ∷ ps) (suc i) p b g = ap (λ bs. part_of q.at q.len b ∷ bs) (part_among ps i p b g)

pub longest_among : (ps : List Part) (i : ℕ) (p : Part) (b : Piece) (front behind : List Piece) (len : ℕ) → slice_get ps i ≡ Some p → front ≡ parts_of (take i ps) b → behind ≡ parts_of (take (length ps - (i + 1)) (drop (i + 1) ps)) b → len ≡ p.len → front ++ part_of p.at len b ∷ behind ≡ parts_of ps b
longest_among ps i p b front behind len g f r e =
    let l = length-drop (i + 1) ps in
    let n : i + 1 ≡ suc i = omega arith in
    let rest = r ∙ ap (λ xs. parts_of xs b) (take_all (length ps - (i + 1)) (drop (i + 1) ps) (omega (arith, l)) ∙ ap (λ k. drop k ps) n) in
    ap (λ bs. bs ++ part_of p.at len b ∷ behind) f ∙ ap (λ k. parts_of (take i ps) b ++ part_of p.at k b ∷ behind) e ∙ ap (λ bs. parts_of (take i ps) b ++ part_of p.at p.len b ∷ bs) rest ∙ part_among ps i p b g

pub parts_next : (ps : List Part) (i : ℕ) (p : Part) (b : Piece) → slice_get ps i ≡ Some p → parts_of (take (suc i) ps) b ≡ parts_of (take i ps) b ++ part_of p.at p.len b ∷ []
parts_next [] i p b g = absurd cc
parts_next (q ∷ ps) zero p b g = ap (λ (r : Part). part_of r.at r.len b ∷ []) (some_is q p g)
parts_next (q ∷ ps) (suc i) p b g = ap (λ bs. part_of q.at q.len b ∷ bs) (parts_next ps i p b g)

-- they have no more characters than the block
pub parts_most : (ps : List Part) (from : ℕ) (b : Piece) → length b.1 ≡ b.0.1 → AreParts from ps b.0.1 → length (entries_of (parts_of ps b)) ≤ b.0.1 - from
parts_most [] from b m h = omega arith
parts_most (p ∷ ps) from b m h =
    let l = length-append (piece_entries (part_of p.at p.len b)) (entries_of (parts_of ps b)) in
    let e = part_exact b p.at p.len m h.2 in
    let r = parts_most ps (p.at + p.len + 1) b m h.3 in
    let a = h.0 in
    let c = h.2 in
    omega (arith, l, e, r, a, c)

-- ---- no part goes on with what stands before it

-- an identifier of the block that isn't right behind the part
later_not : (b : Piece) (p n k : ℕ) → is_run b.0 ≡ true → 0 < n → p + n < k → follows (shifted (pos k) b.0.0) (run_last (part_of p n b).0) ≡ false
later_not b p n k sound h l = not_true (follows (shifted (pos k) b.0.0) (run_last (part_of p n b).0)) (λ t.
    let sum : pos p +ℤ pos n ≡ pos (p + n) = omega (arith, ints) in
    let e = touch (part_of p n b).0 (shifted (pos k) b.0.0, 0) h t ∙ shifted_shifted (pos n) (pos p) b.0.0 ∙ ap (λ j. shifted j b.0.0) sum in
    lt_irrefl (subst (λ z. Lt tuples (shifted (pos (p + n)) b.0.0) z) e (shifted_less (pos (p + n)) (pos k) b.0.0 (run_ident b.0 sound) (omega (arith, ints)))))

parts_loose : (b : Piece) (ps : List Part) (o : Option (List Tuple × ℕ)) (from : ℕ) → is_run b.0 ≡ true → AreParts from ps b.0.1 → ((k : ℕ) → from ≤ k → k < b.0.1 → goes_on o (shifted (pos k) b.0.0) ≡ false) → are_loose o (runs_in (parts_of ps b)) ≡ true
parts_loose b [] o from sound h n = refl
parts_loose b (p ∷ ps) o from sound h n =
    let x = part_of p.at p.len b in
    let some = h.1 in
    let end = h.2 in
    and_true (not (goes_on o x.0.0)) (are_loose (Some x.0) (runs_in (parts_of ps b))) (ap not (n p.at h.0 (omega (arith, some, end))))
    (parts_loose b ps (Some x.0) (p.at + p.len + 1) sound h.3 (λ k l w. later_not b p.at p.len k sound some (omega (arith, l))))

parts_end : (b : Piece) (g : List Piece) (ps : List Part) (o : Option (List Tuple × ℕ)) (from : ℕ) → AreParts from ps b.0.1 → ((p n : ℕ) → 0 < n → p + n ≤ b.0.1 → leads_to (Some (part_of p n b).0) (runs_in g) ≡ false) → leads_to o (runs_in g) ≡ false → leads_to (run_before o (runs_in (parts_of ps b))) (runs_in g) ≡ false
parts_end b g [] o from h n e = e
parts_end b g (p ∷ ps) o from h n e = parts_end b g ps (Some (part_of p.at p.len b).0) (p.at + p.len + 1) h.3 n (n p.at p.len h.1 h.2)

module _ (f g : List Piece) (b : Piece) (sound : is_run b.0 ≡ true) (apart : are_apart None (runs_in (f ++ (b ∷ []) ++ g)) ≡ true) where
  loosely : are_loose None (runs_in (f ++ (b ∷ []) ++ g)) ≡ true
  loosely = loose_of None (runs_in (f ++ (b ∷ []) ++ g)) apart

  first_not : (k : ℕ) → k < b.0.1 → goes_on (last_run f) (shifted (pos k) b.0.0) ≡ false
  first_not zero h = ap (goes_on (last_run f)) (shifted_none b.0.0) ∙ (own_loose f g b loosely).0
  first_not (suc k) h =
      let shows = front_shows f [] g b sound refl (ap (λ xs. are_apart None (runs_in (xs ++ (b ∷ []) ++ g))) (append-nil f) ∙ apart) (suc k) (omega arith) h in
      (own_loose f g (part_of (suc k) (b.0.1 - suc k) b) shows.loose).0

  front_not : (a : ℕ) → 0 < a → a ≤ b.0.1 → leads_to (Some (part_of 0 a b).0) (runs_in g) ≡ false
  front_not a h l =
      ⊎_elim
      (λ e. leads_alike (part_of 0 a b).0 b.0 (runs_in g) (ap (λ x. run_last (x, a)) (shifted_none b.0.0) ∙ ap (λ n. run_last (b.0.0, n)) e) ∙ (own_loose f g b loosely).1)
      (λ k. let shows = back_shows f [] g b sound refl (ap (λ xs. are_apart None (runs_in (xs ++ g))) (append-nil (f ++ b ∷ [])) ∙ apart) a h k in (own_loose f g (part_of 0 a b) shows.loose).1)
      (eq-or-lt_of_le l)

  last_not : (p n : ℕ) → 0 < n → p + n ≤ b.0.1 → leads_to (Some (part_of p n b).0) (runs_in g) ≡ false
  last_not p n h l =
      let e : 0 + (p + n - 1) ≡ p + (n - 1) = omega (arith, h) in
      leads_alike (part_of p n b).0 (part_of 0 (p + n) b).0 (runs_in g) (part_last b.0.0 p n h ∙ ap (λ j. shifted (pos j) b.0.0) (sym e) ∙ sym (part_last b.0.0 0 (p + n) (omega (arith, h))))
      ∙ front_not (p + n) (omega (arith, h)) l

  -- the block keeps these parts
  pub parted_loose : (ps : List Part) → AreParts 0 ps b.0.1 → 0 < length ps → are_loose None (runs_in (f ++ parts_of ps b ++ g)) ≡ true
  parted_loose [] h some = absurd (omega (arith, some))
  parted_loose (p ∷ ps) h some =
      replaced f (b ∷ []) (parts_of (p ∷ ps) b) g loosely (parts_loose b (p ∷ ps) (last_run f) 0 sound h (λ k l w. first_not k w))
      (ap (λ o. leads_to o (runs_in g)) (last_more f (parts_of (p ∷ ps) b)) ∙ parts_end b g ps (Some (part_of p.at p.len b).0) (p.at + p.len + 1) h.3 last_not (last_not p.at p.len h.1 h.2))

-- ---- a rest put in the place of its block

module _ (bs near rest far : List Piece) (b : Piece) (i : ℕ) (r : Rest) (both : bs ≡ near ++ rest) (out : rest ≡ b ∷ far) (front : near ≡ before i bs) (between : IsBetween i bs) (are : ArePieces bs) where
  abbrev kept : Piece
  kept = part_of r.at r.run.1 b

  is : bs ≡ near ++ b ∷ far
  is = both ∙ ap (λ xs. near ++ xs) out

  near_are : ArePieces near
  near_are = are_left near (b ∷ far) (subst ArePieces is are)

  own : IsPiece b.0 b.1
  own = (are_right near (b ∷ far) (subst ArePieces is are)).0

  place : i ≡ length (entries_of near) + 0
  place = let e = ap (λ xs. length (entries_of xs)) front in omega (arith, e, between)

  pub own_rest : IfSome (located bs i) (λ p. IsRest r p.0) → IsRest r b
  own_rest h = subst (λ o. IfSome o (λ (p : Piece × ℕ). IsRest r p.0)) (sym (there_own b near far bs i is near_are own 0 place (piece_some b own))) h

  pub rested_is : (near ++ r.front.blocks) ++ kept ∷ (r.behind.blocks ++ far) ≡ rested r bs i
  rested_is =
      append_assoc near r.front.blocks (kept ∷ (r.behind.blocks ++ far))
      ∙ ap (λ xs. near ++ xs) (sym (append_assoc r.front.blocks (kept ∷ r.behind.blocks) far))
      ∙ made_own b near far bs i is near_are own (λ b at. rest_of r b) 0 place (piece_some b own)

  pub rested_chars : IsPiece kept.0 kept.1 → length (entries_of (rested r bs i)) ≡ (length (entries_of near) + length (entries_of r.front.blocks)) + length kept.1 + (length (entries_of r.behind.blocks) + length (entries_of far))
  rested_chars q =
      let e = ap (λ xs. length (entries_of xs)) rested_is in
      let n = node_length (near ++ r.front.blocks) (r.behind.blocks ++ far) kept q in
      let c = chars_append near r.front.blocks in
      let d = chars_append r.behind.blocks far in
      omega (arith, e, n, c, d)
