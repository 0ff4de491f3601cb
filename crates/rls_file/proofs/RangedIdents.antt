-- Identifiers in the range of the format stay so where they are renamed and translated, and the first one of an insertion is in it.
use Rattle.std.proofs.Common.{◌≡◌, ℕ, ◌+◌, ◌<◌, ◌≤◌, true, false, Bool, List, [], ◌∷◌, ◌++◌, length, drop, Option, Some, None, refl, arith}
use Rattle.std.specs.Prelude.{pos, negsuc, ◌+ℤ◌, ◌-ℤ◌, ◌≤ℤ◌, ◌&&◌, if◌then◌else◌}
use Rattle.std.specs.Int.RustNames.{int_le}
use Rattle.std.specs.Ordering.{int_eq}
use Rattle.std.proofs.lemmas.Int.{ints}
use Rattle.rls_ident.specs.declared.limits.TheConstants.{OFFSETS_END}
use Rattle.rls_ident.specs.declared.tuple.Spot.{Spot}
use Rattle.rls_ident.specs.declared.tuple.Tuple.{Tuple}
use Rattle.rls_ident.specs.declared.tuple.Tuple.TheVariants.{Low, At, High}
use Rattle.rls_ident.specs.declared.epoch_name.EpochName.{EpochName}
use Rattle.rls_ident.specs.Tuples.{offset_of, at_offset}
use Rattle.rls_ident.specs.Identifiers.{last_of, least_offset, greatest_offset, ident_cmp, pred, shifted, least_inner}
use Rattle.rls_ident.specs.Between.{between}
use Rattle.rls_ident.proofs.Members.{and_left, and_right, int_le_is}
use Rattle.rls_runs.specs.Places.{is_above}
use Rattle.rls_rename.specs.Renaming.{Renaming, new_pos, first_pos, new_spot, new_at, old_below, old_above, old_above_inverse, old_between, old_below_inverse, old_between_inverse, new_below, new_between, new_below_inverse, new_between_inverse, new_above_inverse, forward_above, forward_by, back_above, back_by, forward, back}
use Rattle.rls_rename.specs.Tree.{Node, path, same_name, forward_all, back_all, along, translate}
use Rattle.rls_rename.proofs.Paths.{IsAmong, AreAmong, path-among}
use Rattle.rls_ops.specs.WellFormed.{IsSmall}
use Rattle.rls_codec.proofs.Ranged.{IsRanged, AreInner, AllRanged, offset_to, head_inner, rest_ranged, all_inner, ranged_append, ranged_drop, last_most, pred_high, then_low, shifted_ranged, next_ranged, ranged_if, ranged_order, low_ranged, high_ranged, low_inverse_ranged, high_inverse_ranged, between_ranged}
use Rattle.rls_model.specs.declared.parts.Stem.{Stem}
use Rattle.rls_model.specs.Editing.{own_stem, ends_below, may_append, may_prepend, or_missing, first_before, first_between}

-- ---- one renaming

abbrev IsSpot : Spot → Type 0
IsSpot s = IsSmall s.pos × IsSmall s.replica × IsSmall s.seq

below_at : (s : Spot) → IsSpot s → IsRanged (at_offset s (negsuc 0) ∷ [])
below_at s h = ((h.0, h.1, h.2, offset_to least_inner (negsuc 0) (omega (arith, ints)) (omega (arith, ints))), omega (arith, ints))

at_ranged : (s : Spot) (i : ℕ) → IsSpot s → i ≤ 1073741823 → IsRanged (new_at s i)
at_ranged s i h l = ((h.0, h.1, h.2, offset_to least_inner (pos i) (omega (arith, ints)) (omega (arith, ints))), omega (arith, ints))

inverse_ranged : (a x : List Tuple) → IsRanged x → IsRanged (old_above_inverse a x)
inverse_ranged a x h = low_inverse_ranged (a ++ (Low ∷ [])) x h

forward_above_ranged : (s : Spot) (i : ℕ) (a : List Tuple) (rest : List (List Tuple)) (x : List Tuple) → IsSpot s → (i + length rest) ≤ 1073741823 → IsRanged x → IsRanged (forward_above s i a rest x)
unfolding forward_above
forward_above_ranged s i a [] x h l r = low_ranged (new_at s i) (old_above_inverse a x) (at_ranged s i h (omega arith)) (inverse_ranged a x r)
forward_above_ranged s i a (b ∷ rest) x h l r =
    let y = old_between_inverse a b x in
    let between : IsRanged y = high_inverse_ranged (pred (old_above_inverse a b) ++ (High ∷ [])) (old_above_inverse a x) (inverse_ranged a x r) in
    ranged_order (ident_cmp x b) (new_between s i y) (new_at s (i + 1)) (forward_above s (i + 1) b rest x) (ranged_append (new_at s i) y (at_ranged s i h (omega arith)) between)
    (at_ranged s (i + 1) h (omega arith)) (forward_above_ranged s (i + 1) b rest x h (omega arith) r)

forward_by_ranged : (s : Spot) (xs : List (List Tuple)) (x : List Tuple) → IsSpot s → length xs ≤ OFFSETS_END → IsRanged x → IsRanged (forward_by s xs x)
unfolding forward_by
forward_by_ranged s [] x h l r = r
forward_by_ranged s (a ∷ rest) x h l r =
    let y = old_below_inverse a x in
    ranged_order (ident_cmp x a) (new_below s y) (new_at s 0) (forward_above s 0 a rest x)
    (high_ranged (at_offset s (negsuc 0) ∷ []) y (below_at s h) (high_inverse_ranged (pred a ++ (High ∷ [])) x r)) (at_ranged s 0 h (omega arith)) (forward_above_ranged s 0 a rest x h (omega arith) r)

above_ranged : (a y : List Tuple) → IsRanged a → IsRanged y → IsRanged (old_above a y)
above_ranged a y h r = low_ranged (a ++ (Low ∷ [])) y (then_low a h) r

below_ranged : (a y : List Tuple) → IsRanged a → IsRanged y → IsRanged (old_below a y)
below_ranged a y h r = high_ranged (pred a ++ (High ∷ [])) y (pred_high a h) r

back_above_ranged : (s : Spot) (i : ℕ) (a : List Tuple) (rest : List (List Tuple)) (z : List Tuple) → IsRanged a → AllRanged rest → IsRanged z → IsRanged (back_above s i a rest z)
unfolding back_above
back_above_ranged s i a [] z h g r = above_ranged a (new_above_inverse s i z) h (low_inverse_ranged (new_at s i) z r)
back_above_ranged s i a (b ∷ rest) z h g r =
    ranged_order (ident_cmp z (new_at s (i + 1))) (old_between a b (new_between_inverse z)) b (back_above s (i + 1) b rest z)
    (above_ranged a (old_below (old_above_inverse a b) (drop 1 z)) h (below_ranged (old_above_inverse a b) (drop 1 z) (inverse_ranged a b g.0) (ranged_drop 1 z r))) g.0 (back_above_ranged s (i + 1) b rest z g.0 g.1 r)

back_by_ranged : (s : Spot) (xs : List (List Tuple)) (z : List Tuple) → AllRanged xs → IsRanged z → IsRanged (back_by s xs z)
unfolding back_by
back_by_ranged s [] z g r = r
back_by_ranged s (a ∷ rest) z g r =
    ranged_order (ident_cmp z (new_at s 0)) (old_below a (new_below_inverse s z)) a (back_above s 0 a rest z)
    (below_ranged a (new_below_inverse s z) g.0 (high_inverse_ranged (at_offset s (negsuc 0) ∷ []) z r)) g.0 (back_above_ranged s 0 a rest z g.0 g.1 r)

-- a renaming whose numbers and identifiers are in range
pub record IsRangedRenaming (R : Renaming) : Type 0 where
  pub replica : IsSmall R.replica
  pub seq : IsSmall R.seq
  pub few : length R.former ≤ OFFSETS_END
  pub former : AllRanged R.former

first_small : (x : List Tuple) → IsRanged x → IsSmall (first_pos x)
first_small [] h = omega arith
first_small (Low ∷ x) h = first_small x (rest_ranged Low x h)
first_small (At p r s o ∷ x) h = (head_inner (At p r s o) x h).0
first_small (High ∷ x) h = first_small x (rest_ranged High x h)

new_small : (xs : List (List Tuple)) → AllRanged xs → IsSmall (new_pos xs)
new_small [] h = omega arith
new_small (a ∷ rest) h = first_small a h.0

forward_ranged : (R : Renaming) (x : List Tuple) → IsRangedRenaming R → IsRanged x → IsRanged (forward R x)
unfolding forward
forward_ranged R x g r = forward_by_ranged (new_spot R) R.former x (new_small R.former g.former, g.replica, g.seq) g.few r

back_ranged : (R : Renaming) (x : List Tuple) → IsRangedRenaming R → IsRanged x → IsRanged (back R x)
unfolding back
back_ranged R x g r = back_by_ranged (new_spot R) R.former x g.former r

-- ---- a tree

abbrev AllRenamings : List Renaming → Type 0
AllRenamings [] = Unit {0}
AllRenamings (R ∷ Rs) = IsRangedRenaming R × AllRenamings Rs

forward_all_ranged : (Rs : List Renaming) (x : List Tuple) → AllRenamings Rs → IsRanged x → IsRanged (forward_all Rs x)
unfolding forward_all
forward_all_ranged [] x g r = r
forward_all_ranged (R ∷ Rs) x g r = forward_all_ranged Rs (forward R x) g.1 (forward_ranged R x g.0 r)

back_all_ranged : (Rs : List Renaming) (x : List Tuple) → AllRenamings Rs → IsRanged x → IsRanged (back_all Rs x)
unfolding back_all
back_all_ranged [] x g r = r
back_all_ranged (R ∷ Rs) x g r = back_ranged R (back_all Rs x) g.0 (back_all_ranged Rs x g.1 r)

along_ranged : (Rs Ss : List Renaming) (x : List Tuple) → AllRenamings Rs → AllRenamings Ss → IsRanged x → IsRanged (along Rs Ss x)
unfolding along
along_ranged [] Ss x g h r = forward_all_ranged Ss x h r
along_ranged (R ∷ Rs) [] x g h r = back_all_ranged (R ∷ Rs) x g r
along_ranged (R ∷ Rs) (S ∷ Ss) x g h r =
    ranged_if (same_name R S) (along Rs Ss x) (forward_all (S ∷ Ss) (back_all (R ∷ Rs) x)) (along_ranged Rs Ss x g.1 h.1 r) (forward_all_ranged (S ∷ Ss) (back_all (R ∷ Rs) x) h (back_all_ranged (R ∷ Rs) x g r))

-- the renamings of a tree are in range
abbrev pub AreRangedNodes : List Node → Type 0
AreRangedNodes nodes = (R : Renaming) → IsAmong nodes R → IsRangedRenaming R

among_ranged : (nodes : List Node) (Rs : List Renaming) → AreRangedNodes nodes → AreAmong nodes Rs → AllRenamings Rs
among_ranged nodes [] g a = tt
among_ranged nodes (R ∷ Rs) g a = (g R a.0, among_ranged nodes Rs g a.1)

pub translate_ranged : (nodes : List Node) (e f : EpochName) (x : List Tuple) → AreRangedNodes nodes → IsRanged x → IsRanged (translate nodes e f x)
unfolding translate
translate_ranged nodes e f x g r =
    along_ranged (path nodes e) (path nodes f) x (among_ranged nodes (path nodes e) g (path-among nodes e)) (among_ranged nodes (path nodes f) g (path-among nodes f)) r

-- ---- the first identifier of an insertion

abbrev pub IsRangedBound : Option (List Tuple) → Type 0
IsRangedBound None = Unit {0}
IsRangedBound (Some x) = IsRanged x

missing_inner : (left : Option (List Tuple)) → IsRangedBound left → AreInner (or_missing left)
missing_inner None h = tt
missing_inner (Some x) h = all_inner x h

-- what the tests leave room for
prepends : (stem : Option Stem) (left : Option (List Tuple)) (right : List Tuple) (n : ℕ) → may_prepend stem left right n ≡ true → least_offset ≤ℤ (offset_of (last_of right) -ℤ pos n)
prepends None left right n h = absurd (cc)
prepends (Some stem) left right n h =
    let a = int_eq (offset_of (last_of right)) stem.low in
    let b = int_le least_offset (offset_of (last_of right) -ℤ pos n) in
    let c = is_above left (shifted (pos 0 -ℤ pos n) right) in
    int_le_is least_offset (offset_of (last_of right) -ℤ pos n) (and_right a b (and_left (a && b) c h))

appends : (stem : Option Stem) (left : List Tuple) (right : Option (List Tuple)) (n : ℕ) → may_append stem left right n ≡ true → (offset_of (last_of left) +ℤ pos n) ≤ℤ greatest_offset
appends None left right n h = absurd (cc)
appends (Some stem) left right n h =
    let a = int_eq (offset_of (last_of left) +ℤ pos 1) (pos stem.next) in
    let b = int_le (offset_of (last_of left) +ℤ pos n) greatest_offset in
    let c = ends_below (shifted (pos n) left) right in
    int_le_is (offset_of (last_of left) +ℤ pos n) greatest_offset (and_right a b (and_left (a && b) c h))

before_ranged : (ss : List Stem) (a s : ℕ) (left right : Option (List Tuple)) (n : ℕ) → IsRangedBound left → IsRangedBound right → IsSmall a → IsSmall s → IsRanged (first_before ss a s left right n)
before_ranged ss a s left None n h k f g = between_ranged (or_missing left) [] a s (missing_inner left h) tt f g
before_ranged ss a s left (Some right) n h k f g = go (may_prepend (own_stem ss a (last_of right)) left right n) refl
  where
    go : (b : Bool) → may_prepend (own_stem ss a (last_of right)) left right n ≡ b → IsRanged (if b then shifted (pos 0 -ℤ pos n) right else between (or_missing left) right a s)
    go true e =
        let l = prepends (own_stem ss a (last_of right)) left right n e in
        let m = last_most right k in
        shifted_ranged (pos 0 -ℤ pos n) right k (omega (arith, ints)) (omega (arith, ints))
    go false e = between_ranged (or_missing left) right a s (missing_inner left h) k f g

pub first_ranged : (ss : List Stem) (a s : ℕ) (left right : Option (List Tuple)) (n : ℕ) → 0 < n → IsRangedBound left → IsRangedBound right → IsSmall a → IsSmall s → IsRanged (first_between ss a s left right n)
first_ranged ss a s None right n some h k f g = before_ranged ss a s None right n h k f g
first_ranged ss a s (Some left) right n some h k f g = go (may_append (own_stem ss a (last_of left)) left right n) refl
  where
    go : (b : Bool) → may_append (own_stem ss a (last_of left)) left right n ≡ b → IsRanged (if b then shifted (pos 1) left else first_before ss a s (Some left) right n)
    go true e = let m = appends (own_stem ss a (last_of left)) left right n e in next_ranged left h (omega (arith, ints))
    go false e = before_ranged ss a s (Some left) right n h k f g
