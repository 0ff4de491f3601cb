-- What a renaming does to an identifier, by its place among the former ones.
use Rattle.std.proofs.Common.{sym, ◌≡◌, ℕ, ◌+◌, length, List, [], ◌∷◌, ◌++◌, ap, ◌∙◌, arith}
use Rattle.rls_ident.specs.declared.tuple.Spot.{Spot}
use Rattle.rls_ident.specs.declared.tuple.Tuple.{Tuple}
use Rattle.rls_ident.specs.Identifiers.{ident_cmp, IsIdent}
use Rattle.rls_rename.specs.Renaming.{IsFormer, old_below, old_between, old_above, old_below_inverse, old_between_inverse, old_above_inverse, new_at, new_below, new_between, new_above, forward_above, forward_by, back_by}
use Rattle.rls_ident.proofs.Lists.{Lt, lt_trans, flipped}
use Rattle.std.proofs.lemmas.Cmp.{lists_total, tied_itself}
use Rattle.rls_ident.specs.Maps.{by_order}
use Rattle.rls_ident.proofs.Tuples.{tuples, tuple_total}
use Rattle.rls_rename.proofs.Increasing.{old_below_iso, old_between_iso, old_above_iso, former_first, forward_iso}

-- each is less than the later ones
pub rises : (c : List Tuple) (before : List (List Tuple)) (a : List Tuple) (after : List (List Tuple)) → IsFormer (c ∷ (before ++ (a ∷ after))) → Lt tuples c a
rises c [] a after h = record { less = h.1 }
rises c (b ∷ before) a after h = lt_trans {A = tuples} {x = c} {y = b} (record { less = h.1 }) (rises b before a after h.2)

pub former_at : (before : List (List Tuple)) (a : List Tuple) (after : List (List Tuple)) → IsFormer (before ++ (a ∷ after)) → IsFormer (a ∷ after)
former_at [] a after h = h
former_at (c ∷ []) a after h = h.2
former_at (c ∷ (b ∷ before)) a after h = former_at (b ∷ before) a after h.2

-- the three answers of a comparison
pub stop : (b x u c v : List Tuple) → Lt tuples x b → by_order (ident_cmp x b) u c v ≡ u
stop b x u c v l = ap (λ o. by_order o u c v) l.less

pub meet : (b u c v : List Tuple) → by_order (ident_cmp b b) u c v ≡ c
meet b u c v = ap (λ o. by_order o u c v) (tied_itself (lists_total tuple_total) b)

pub skip : (b x u c v : List Tuple) → Lt tuples b x → by_order (ident_cmp x b) u c v ≡ v
skip b x u c v l = ap (λ o. by_order o u c v) (flipped l)

above_place : (s : Spot) (i : ℕ) (c : List Tuple) (before : List (List Tuple)) (a : List Tuple) (after : List (List Tuple)) (x : List Tuple) → IsFormer (c ∷ (before ++ (a ∷ after))) → Lt tuples a x →
    forward_above s i c (before ++ (a ∷ after)) x ≡ forward_above s (length before + (i + 1)) a after x
unfolding forward_above
above_place s i c [] a after x h l =
    let n : i + 1 ≡ 0 + (i + 1) = omega arith in
    skip a x (new_between s i (old_between_inverse c a x)) (new_at s (i + 1)) (forward_above s (i + 1) a after x) l ∙ ap (λ k. forward_above s k a after x) n
above_place s i c (b ∷ before) a after x h l =
    let n : length before + (i + 1 + 1) ≡ length (b ∷ before) + (i + 1) = omega arith in
    skip b x (new_between s i (old_between_inverse c b x)) (new_at s (i + 1)) (forward_above s (i + 1) b (before ++ (a ∷ after)) x) (lt_trans (rises b before a after h.2) l)
    ∙ (above_place s (i + 1) b before a after x h.2 l ∙ ap (λ k. forward_above s k a after x) n)

above_at : (s : Spot) (i : ℕ) (c : List Tuple) (before : List (List Tuple)) (a : List Tuple) (after : List (List Tuple)) → IsFormer (c ∷ (before ++ (a ∷ after))) →
    forward_above s i c (before ++ (a ∷ after)) a ≡ new_at s (length before + (i + 1))
unfolding forward_above
above_at s i c [] a after h =
    let n : i + 1 ≡ 0 + (i + 1) = omega arith in
    meet a (new_between s i (old_between_inverse c a a)) (new_at s (i + 1)) (forward_above s (i + 1) a after a) ∙ ap (new_at s) n
above_at s i c (b ∷ before) a after h =
    let n : length before + (i + 1 + 1) ≡ length (b ∷ before) + (i + 1) = omega arith in
    skip b a (new_between s i (old_between_inverse c b a)) (new_at s (i + 1)) (forward_above s (i + 1) b (before ++ (a ∷ after)) a) (rises b before a after h.2)
    ∙ (above_at s (i + 1) b before a after h.2 ∙ ap (new_at s) n)

-- above a former identifier
place : (s : Spot) (before : List (List Tuple)) (a : List Tuple) (after : List (List Tuple)) (x : List Tuple) → IsFormer (before ++ (a ∷ after)) → Lt tuples a x →
    forward_by s (before ++ (a ∷ after)) x ≡ forward_above s (length before) a after x
unfolding forward_by
place s [] a after x h l = skip a x (new_below s (old_below_inverse a x)) (new_at s 0) (forward_above s 0 a after x) l
place s (c ∷ before) a after x h l =
    let n : length before + (0 + 1) ≡ length (c ∷ before) = omega arith in
    skip c x (new_below s (old_below_inverse c x)) (new_at s 0) (forward_above s 0 c (before ++ (a ∷ after)) x) (lt_trans (rises c before a after h) l)
    ∙ (above_place s 0 c before a after x h l ∙ ap (λ k. forward_above s k a after x) n)

-- at a former identifier
pub forward_former : (s : Spot) (before : List (List Tuple)) (a : List Tuple) (after : List (List Tuple)) → IsFormer (before ++ (a ∷ after)) →
    forward_by s (before ++ (a ∷ after)) a ≡ new_at s (length before)
unfolding forward_by
forward_former s [] a after h = meet a (new_below s (old_below_inverse a a)) (new_at s 0) (forward_above s 0 a after a)
forward_former s (c ∷ before) a after h =
    let n : length before + (0 + 1) ≡ length (c ∷ before) = omega arith in
    skip c a (new_below s (old_below_inverse c a)) (new_at s 0) (forward_above s 0 c (before ++ (a ∷ after)) a) (rises c before a after h)
    ∙ (above_at s 0 c before a after h ∙ ap (new_at s) n)

pub forward_below : (s : Spot) (a : List Tuple) (after : List (List Tuple)) (x : List Tuple) → Lt tuples x a → forward_by s (a ∷ after) x ≡ new_below s (old_below_inverse a x)
unfolding forward_by
forward_below s a after x l = stop a x (new_below s (old_below_inverse a x)) (new_at s 0) (forward_above s 0 a after x) l

pub forward_between : (s : Spot) (before : List (List Tuple)) (a b : List Tuple) (after : List (List Tuple)) (x : List Tuple) → IsFormer (before ++ (a ∷ (b ∷ after))) → Lt tuples a x → Lt tuples x b →
    forward_by s (before ++ (a ∷ (b ∷ after))) x ≡ new_between s (length before) (old_between_inverse a b x)
unfolding forward_above
forward_between s before a b after x h l r =
    place s before a (b ∷ after) x h l
    ∙ stop b x (new_between s (length before) (old_between_inverse a b x)) (new_at s (length before + 1)) (forward_above s (length before + 1) b after x) r

pub forward_last : (s : Spot) (before : List (List Tuple)) (a x : List Tuple) → IsFormer (before ++ (a ∷ [])) → Lt tuples a x →
    forward_by s (before ++ (a ∷ [])) x ≡ new_above s (length before) (old_above_inverse a x)
unfolding forward_above
forward_last s before a x h l = place s before a [] x h l

-- the old map of a gap, and then the renaming: the new map of the gap
pub below_meaning : (s : Spot) (a : List Tuple) (after : List (List Tuple)) (y : List Tuple) → IsFormer (a ∷ after) → IsIdent y → forward_by s (a ∷ after) (old_below a y) ≡ new_below s y
below_meaning s a after y h i =
    let m = old_below_iso a (former_first a after h) in
    forward_below s a after (old_below a y) (m.into y i).1 ∙ ap (new_below s) (m.there y i)

pub between_meaning : (s : Spot) (before : List (List Tuple)) (a b : List Tuple) (after : List (List Tuple)) (y : List Tuple) → IsFormer (before ++ (a ∷ (b ∷ after))) → IsIdent y →
    forward_by s (before ++ (a ∷ (b ∷ after))) (old_between a b y) ≡ new_between s (length before) y
between_meaning s before a b after y h i =
    let g = former_at before a (b ∷ after) h in
    let m = old_between_iso a b (former_first b after g.2) (record { less = g.1 }) in
    let q = m.into y i in
    forward_between s before a b after (old_between a b y) h q.0.1 q.1 ∙ ap (new_between s (length before)) (m.there y i)

pub above_meaning : (s : Spot) (before : List (List Tuple)) (a y : List Tuple) → IsFormer (before ++ (a ∷ [])) → IsIdent y →
    forward_by s (before ++ (a ∷ [])) (old_above a y) ≡ new_above s (length before) y
above_meaning s before a y h i =
    let m = old_above_iso a in
    forward_last s before a (old_above a y) h (m.into y i).1 ∙ ap (new_above s (length before)) (m.there y i)

pub back_between : (s : Spot) (before : List (List Tuple)) (a b : List Tuple) (after : List (List Tuple)) (y : List Tuple) → IsFormer (before ++ (a ∷ (b ∷ after))) → IsIdent y →
    back_by s (before ++ (a ∷ (b ∷ after))) (new_between s (length before) y) ≡ old_between a b y
back_between s before a b after y h i =
    let g = former_at before a (b ∷ after) h in
    let m = old_between_iso a b (former_first b after g.2) (record { less = g.1 }) in
    ap (back_by s (before ++ (a ∷ (b ∷ after)))) (sym (between_meaning s before a b after y h i)) ∙ (forward_iso s (before ++ (a ∷ (b ∷ after))) h).there (old_between a b y) (m.into y i).0.0

pub back_last : (s : Spot) (before : List (List Tuple)) (a y : List Tuple) → IsFormer (before ++ (a ∷ [])) → IsIdent y →
    back_by s (before ++ (a ∷ [])) (new_above s (length before) y) ≡ old_above a y
back_last s before a y h i =
    ap (back_by s (before ++ (a ∷ []))) (sym (above_meaning s before a y h i)) ∙ (forward_iso s (before ++ (a ∷ [])) h).there (old_above a y) ((old_above_iso a).into y i).0

pub back_former : (s : Spot) (before : List (List Tuple)) (a : List Tuple) (after : List (List Tuple)) → IsFormer (before ++ (a ∷ after)) → back_by s (before ++ (a ∷ after)) (new_at s (length before)) ≡ a
back_former s before a after h =
    ap (back_by s (before ++ (a ∷ after))) (sym (forward_former s before a after h)) ∙ (forward_iso s (before ++ (a ∷ after)) h).there a (former_first a after (former_at before a after h))
