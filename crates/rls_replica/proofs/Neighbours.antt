-- The neighbours of a place in a list that rises.
use Rattle.std.proofs.Common.{◌≡◌, ℕ, zero, suc, ◌-◌, ◌<◌, List, [], ◌∷◌, Option, None, refl, sym, ap, ◌∙◌, subst, arith, IsTrue}
use Rattle.std.specs.Prelude.{slice_get}
use Rattle.rls_ident.specs.declared.tuple.Tuple.{Tuple}
use Rattle.rls_ident.specs.Between.{are_bounds}
use Rattle.rls_ident.specs.Identifiers.{ident_lt}
use Rattle.rls_ident.proofs.Members.{and_left, and_right}
use Rattle.rls_runs.specs.Runs.{is_increasing}
use Rattle.rls_model.specs.Editing.{get_before}

pub bounds_at : (xs : List (List Tuple)) (at : ℕ) → IsTrue (is_increasing xs) → IsTrue (are_bounds (get_before xs at) (slice_get xs at))
bounds_at xs zero h = refl
bounds_at [] (suc n) h = refl
bounds_at (x ∷ []) (suc zero) h = refl
bounds_at (x ∷ []) (suc (suc n)) h = refl
bounds_at (x ∷ (y ∷ ys)) (suc zero) h = and_left (ident_lt x y) (is_increasing (y ∷ ys)) h
bounds_at (x ∷ (y ∷ ys)) (suc (suc n)) h = bounds_at (y ∷ ys) (suc n) (and_right (ident_lt x y) (is_increasing (y ∷ ys)) h)

-- the one in front
pub before_is : (xs : List (List Tuple)) (at : ℕ) (o : Option (List Tuple)) → (at ≡ 0 → o ≡ None) → (0 < at → o ≡ slice_get xs (at - 1)) → o ≡ get_before xs at
before_is xs zero o f g = f refl
before_is xs (suc n) o f g = let e : suc n - 1 ≡ n = omega arith in g (omega arith) ∙ ap (slice_get xs) e

-- both, where they are told
pub told_bounds : (xs : List (List Tuple)) (at : ℕ) (o p : Option (List Tuple)) → IsTrue (is_increasing xs) → o ≡ get_before xs at → p ≡ slice_get xs at → IsTrue (are_bounds o p)
told_bounds xs at o p h e f = subst (λ q. IsTrue (are_bounds o q)) (sym f) (subst (λ q. IsTrue (are_bounds q (slice_get xs at))) (sym e) (bounds_at xs at h))
