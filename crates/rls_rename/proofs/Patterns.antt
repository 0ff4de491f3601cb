-- The patterns of a gap, and what the code needs before it strips one.
use Rattle.std.proofs.Common.{◌≡◌, ℕ, zero, suc, ◌+◌, ◌<◌, true, false, cond, List, [], ◌∷◌, ◌++◌, length, drop, refl, sym, ap, ◌∙◌, subst, arith}
use Rattle.std.specs.declared.cmp.Ordering.TheVariants.{Less}
use Rattle.std.specs.Prelude.{pos, negsuc}
use Rattle.rls_ident.specs.declared.tuple.Spot.{Spot}
use Rattle.rls_ident.specs.declared.tuple.Tuple.{Tuple}
use Rattle.rls_ident.specs.declared.tuple.Tuple.TheVariants.{Low, High}
use Rattle.rls_ident.specs.Tuples.{tuple_cmp, tuple_pred, at_offset}
use Rattle.rls_ident.specs.Maps.{under, low_inverse, high_inverse}
use Rattle.rls_ident.specs.Identifiers.{IsIdent, ident_cmp, pred}
use Rattle.rls_rename.specs.Renaming.{new_at}
use Rattle.rls_rename.proofs.Increasing.{old_below_iso, new_below_iso, new_between_iso, new_above_iso}
use Rattle.rls_rename.proofs.Lengths.{inner_ident}

pub pred_of_pushed : (f : List Tuple) (l : Tuple) → pred (f ++ l ∷ []) ≡ f ++ tuple_pred l ∷ []
pred_of_pushed [] l = refl
pred_of_pushed (t ∷ []) l = refl
pred_of_pushed (t ∷ (u ∷ f)) l = ap (λ x. t ∷ x) (pred_of_pushed (u ∷ f) l)

pub pred_is : (a f : List Tuple) (l p : Tuple) → a ≡ f ++ l ∷ [] → p ≡ tuple_pred l → f ++ p ∷ [] ≡ pred a
pred_is a f l p e h = ap (λ t. f ++ t ∷ []) h ∙ (sym (pred_of_pushed f l) ∙ ap pred (sym e))

-- an identifier is left behind n tuples
pub left_behind : (n : ℕ) (x : List Tuple) → IsIdent (drop n x) → n < length x
left_behind zero [] i = absurd (cc)
left_behind (suc n) [] i = absurd (cc)
left_behind zero (t ∷ x) i = omega arith
left_behind (suc n) (t ∷ x) i = let h = left_behind n x i in omega arith

pub low_longer : (p x : List Tuple) → IsIdent (low_inverse tuple_cmp p x) → under tuple_cmp x p ≡ true → length p < length x
unfolding low_inverse
low_longer p x i u = left_behind (length p) x (subst (λ b. IsIdent (cond b (drop (length p) x) x)) u i)

pub high_longer : (p x : List Tuple) → IsIdent (high_inverse tuple_cmp p x) → under tuple_cmp x p ≡ false → length p < length x
unfolding high_inverse
high_longer p x i u = left_behind (length p) x (subst (λ b. IsIdent (cond b x (drop (length p) x))) u i)

pub above_longer : (a x p : List Tuple) → p ≡ a ++ Low ∷ [] → IsIdent x → ident_cmp a x ≡ Less → under tuple_cmp x p ≡ true → length p < length x
above_longer a x p e i l = low_longer p x (subst (λ q. IsIdent (low_inverse tuple_cmp q x)) (sym e) (inner_ident a x i l))

pub below_longer : (a x p : List Tuple) → p ≡ pred a ++ High ∷ [] → IsIdent a → IsIdent x → ident_cmp x a ≡ Less → under tuple_cmp x p ≡ false → length p < length x
below_longer a x p e h i l = high_longer p x (subst (λ q. IsIdent (high_inverse tuple_cmp q x)) (sym e) ((old_below_iso a h).onto x (i, record { less = l })))

pub new_below_longer : (s : Spot) (z p : List Tuple) → p ≡ at_offset s (negsuc 0) ∷ [] → IsIdent z → ident_cmp z (new_at s 0) ≡ Less → under tuple_cmp z p ≡ false → length p < length z
new_below_longer s z p e i l = high_longer p z (subst (λ q. IsIdent (high_inverse tuple_cmp q z)) (sym e) ((new_below_iso s).onto z (i, record { less = l })))

pub new_above_longer : (s : Spot) (n : ℕ) (z p : List Tuple) → p ≡ at_offset s (pos n) ∷ [] → IsIdent z → ident_cmp (new_at s n) z ≡ Less → under tuple_cmp z p ≡ true → length p < length z
new_above_longer s n z p e i l = low_longer p z (subst (λ q. IsIdent (low_inverse tuple_cmp q z)) (sym e) ((new_above_iso s n).onto z (i, record { less = l })))

pub new_between_longer : (s : Spot) (n : ℕ) (z : List Tuple) → IsIdent z → ident_cmp (new_at s n) z ≡ Less → ident_cmp z (new_at s (n + 1)) ≡ Less → 1 < length z
new_between_longer s n z i l r = left_behind 1 z ((new_between_iso s n).onto z ((i, record { less = l }), record { less = r }))
