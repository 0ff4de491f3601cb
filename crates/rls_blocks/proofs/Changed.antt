-- One block of a tree changed in its place.
use Rattle.std.proofs.Common.{◌≡◌, ℕ, ◌+◌, ◌-◌, ◌<◌, ◌≤◌, List, [], ◌∷◌, ◌++◌, length, Option, Some, None, true, Result, Ok, Err, refl, sym, ap, ◌∙◌, subst, drop, arith, append_assoc, length-append, length-take, length-drop}
use Rattle.std.specs.Prelude.{max, OnOk, OnErr, IfSome}
use Rattle.std.proofs.lemmas.List.{append-nil}
use Rattle.rls_ident.proofs.Members.{some_is}
use Rattle.rls_runs.specs.Runs.{are_apart}
use Rattle.rls_blocks.specs.declared.change.Change.{Change}
use Rattle.rls_blocks.specs.declared.change.Change.TheVariants.{GrowFront, GrowBehind, KeepFront, KeepBack}
use Rattle.rls_blocks.specs.Trees.{Piece, IsPiece, ArePieces, IsLow, IsSound, Tree, entries_of, runs_in}
use Rattle.rls_blocks.specs.Edits.{located, changed, changed_at, gain, MayChange, removed, Shows}
use Rattle.rls_blocks.proofs.Pieces.{chars_append, node_length, piece_some, count_most}
use Rattle.rls_blocks.proofs.Splits.{between_is, within_is}
use Rattle.rls_blocks.proofs.Cases.{single_chars}
use Rattle.rls_blocks.proofs.Low.{make_low}
use Rattle.rls_blocks.proofs.Placed.{Around, around, changed_around, made_front, made_own, made_behind}
use Rattle.rls_blocks.proofs.Ranges.{back_out, front_out}

-- ---- characters of one block

changed_chars : (change : Change) (b : Piece) → length (changed change b).1 ≤ length b.1 + gain change
changed_chars (GrowFront cs) b = omega (arith, length-append cs.now b.1)
changed_chars (GrowBehind cs) b = omega (arith, length-append b.1 cs.now)
changed_chars (KeepFront at) b = omega (arith, length-take at (drop 0 b.1), length-drop 0 b.1)
changed_chars (KeepBack from) b = omega (arith, length-take (b.0.1 - from) (drop from b.1), length-drop from b.1)

-- after the change, or without it
pub chars_after : {A E : Type 0} (r : Result A E) (change : Change) (old new : Piece) → OnOk r (new ≡ changed change old) → OnErr r (new ≡ old) → length new.1 ≤ length old.1 + gain change
chars_after (Ok x) change old new h k = omega (arith, ap (λ (b : Piece). length b.1) h, changed_chars change old)
chars_after (Err e) change old new h k = omega (arith, ap (λ (b : Piece). length b.1) k)

-- ---- in a node

-- its numbers
pub sound_of : (left right : Tree) (own : Piece) (front end sum count high : ℕ) → IsPiece own.0 own.1 → ArePieces left.blocks → ArePieces right.blocks
    → IsLow left.height (length left.blocks) → IsLow right.height (length right.blocks) → left.height ≤ right.height + 1 → right.height ≤ left.height + 1
    → front ≡ length (entries_of left.blocks) → end ≡ front + length own.1 → sum ≡ end + length (entries_of right.blocks) → count ≡ length left.blocks + length right.blocks + 1 → high ≡ max left.height right.height + 1
    → IsSound left right own front end sum count high
sound_of left right own front end sum count high p l r low_left low_right le ge f e t c h =
    let lower = make_low left.height right.height (length left.blocks) (length right.blocks) low_left low_right le ge in
    let low : IsLow high count = subst (λ k. IsLow k count) (sym h) (subst (λ k. IsLow (max left.height right.height + 1) k) (sym c) lower) in
    let most : count ≤ sum = omega (arith, c, f, e, t, piece_some own p, count_most left.blocks l, count_most right.blocks r) in
    assumption

-- its numbers, after a change in its block or in one of its sides
pub sound_again : (left right new_left new_right : Tree) (own new_own : Piece) (front end sum new_front new_end new_sum count high : ℕ) → IsSound left right own front end sum count high
    → IsPiece new_own.0 new_own.1 → ArePieces new_left.blocks → ArePieces new_right.blocks
    → length new_left.blocks ≡ length left.blocks → new_left.height ≡ left.height → length new_right.blocks ≡ length right.blocks → new_right.height ≡ right.height
    → new_front ≡ length (entries_of new_left.blocks) → new_end ≡ new_front + length new_own.1 → new_sum ≡ new_end + length (entries_of new_right.blocks)
    → IsSound new_left new_right new_own new_front new_end new_sum count high
sound_again left right new_left new_right own new_own front end sum new_front new_end new_sum count high s p l r lc lh rc rh f e t =
    sound_of new_left new_right new_own new_front new_end new_sum count high p l r (subst (λ h. IsLow h (length new_left.blocks)) (sym lh) (subst (IsLow left.height) (sym lc) s.left_low))
    (subst (λ h. IsLow h (length new_right.blocks)) (sym rh) (subst (IsLow right.height) (sym rc) s.right_low)) (omega (arith, s.left_not_higher, lh, rh)) (omega (arith, s.right_not_higher, lh, rh)) f e t (omega (arith, s.count_is, lc, rc))
    (omega (arith, s.height_is, lh, rh))

-- how many characters it has
pub chars_are : (l r link : List Piece) (b : Piece) → link ≡ l ++ b ∷ r → IsPiece b.0 b.1 → length (entries_of link) ≡ length (entries_of l) + length b.1 + length (entries_of r)
chars_are l r link b is own = ap (λ bs. length (entries_of bs)) is ∙ node_length l r b own

-- what may change stays what it is
pub may_there : {p q : Option (Piece × ℕ)} (change : Change) → p ≡ q → IfSome q (λ b. MayChange change b.0) → IfSome p (λ b. MayChange change b.0)
may_there change e h = subst (λ p. IfSome p (λ b. MayChange change b.0)) (sym e) h

module _ (change : Change) (b : Piece) (l r link : List Piece) (i : ℕ) (is : link ≡ l ++ b ∷ r) (front : ArePieces l) (own : IsPiece b.0 b.1) where
  -- the change is on its left side
  pub changed_left : (new : List Piece) → i < length (entries_of l) → new ≡ changed_at change l i → new ++ b ∷ r ≡ changed_at change link i
  changed_left new h e = ap (λ bs. bs ++ b ∷ r) e ∙ made_front b l r link i is front own (λ c at. changed change c ∷ []) h

  -- in its block
  pub changed_own : (new : Piece) (j : ℕ) → i ≡ length (entries_of l) + j → j < length b.1 → new ≡ changed change b → l ++ new ∷ r ≡ changed_at change link i
  changed_own new j e h d = ap (λ c. l ++ c ∷ r) d ∙ made_own b l r link i is front own (λ c at. changed change c ∷ []) j e h

  -- on its right side
  pub changed_right : (new : List Piece) (j : ℕ) → i ≡ length (entries_of l) + (length b.1 + j) → new ≡ changed_at change r j → l ++ b ∷ new ≡ changed_at change link i
  changed_right new j e d = ap (λ bs. l ++ b ∷ bs) d ∙ made_behind b l r link i is front own (λ c at. changed change c ∷ []) j e

-- ---- the block of a place

-- what stands around a block that is known to have a place
abbrev pub around_block : (bs : List Piece) (i : ℕ) (b : Piece) (at : ℕ) → ArePieces bs → located bs i ≡ Some (b, at) → i < length (entries_of bs) → Around bs i
around_block bs i b at are there place =
    let r = around bs i are place in
    let is : ◌≡◌ {A = Piece × ℕ} (r.own, r.at) (b, at) = some_is (r.own, r.at) (b, at) (sym r.there ∙ there) in
    let own : r.own ≡ b = ap (λ (p : Piece × ℕ). p.0) is in
    let same : r.at ≡ at = ap (λ (p : Piece × ℕ). p.1) is in
    record {
      front = r.front;
      own = b;
      at = at;
      behind = r.behind;
      there = there;
      blocks_are = r.blocks_are ∙ ap (λ c. r.front ++ c ∷ r.behind) own;
      front_are = r.front_are;
      own_is = subst (λ (c : Piece). IsPiece c.0 c.1) own r.own_is;
      behind_are = r.behind_are;
      place_is = ap (λ k. length (entries_of r.front) + k) (sym same) ∙ r.place_is;
      within = subst (λ (p : Piece × ℕ). p.1 < length p.0.1) is r.within;
    }

-- ---- characters at an end of one block go

module _ (bs : List Piece) (b : Piece) (at i n : ℕ) (are : ArePieces bs) (there : located bs i ≡ Some (b, at)) (place : i < length (entries_of bs)) (apart : are_apart None (runs_in bs) ≡ true) where
  abbrev r : Around bs i
  r = around_block bs i b at are there place

  -- the last ones
  pub front_stays : 0 < at → at < length b.1 → at + n ≡ length b.1 → Shows (removed i n (entries_of bs)) (changed_at (KeepFront at) bs i)
  front_stays some within all =
      let near = r.front ++ b ∷ [] in
      let whole : bs ≡ near ++ r.behind = r.blocks_are ∙ sym (append_assoc r.front (b ∷ []) r.behind) in
      let chars = chars_append r.front (b ∷ []) in
      let one = single_chars b r.own_is in
      let two = between_is bs near r.behind (i + n) are whole (omega (arith, chars, one, r.place_is, all)) in
      let cut = within_is near r.front [] i two.front_are b at refl r.place_is some within in
      subst (Shows (removed i n (entries_of bs))) (sym (changed_around (KeepFront at) bs i r)) (back_out bs near r.front [] r.behind i n b at two cut apart)

  -- the first ones
  pub back_stays : at ≡ 0 → 0 < n → n < length b.1 → Shows (removed i n (entries_of bs)) (changed_at (KeepBack n) bs i)
  back_stays none some within =
      let cut = within_is bs r.front r.behind (i + n) are b n r.blocks_are (omega (arith, r.place_is, none)) some within in
      let two = between_is r.front r.front [] i cut.front_are (sym (append-nil r.front)) (omega (arith, r.place_is, none)) in
      subst (Shows (removed i n (entries_of bs))) (sym (changed_around (KeepBack n) bs i r)) (front_out bs r.front r.front [] r.behind i n b n cut two apart)
