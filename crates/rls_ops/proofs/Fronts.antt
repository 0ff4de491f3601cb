-- The longest front of a list of operations within a number of bytes.
use Rattle.std.proofs.Common.{◌≡◌, ℕ, ◌+◌, ◌-◌, ◌≤◌, List, [], ◌∷◌, cond, refl, ap, ◌∙◌, arith, nat_le, Bool, true, false, sum_by}
use Rattle.std.proofs.lemmas.List.Sums.{sum_by-cons}
use Rattle.rls_ident.proofs.Members.{same_bool, le_is, le_test}
use Rattle.rls_ops.specs.declared.op.Op.{Op}
use Rattle.rls_ops.specs.Sizes.{op_size, front_within}

le_less : (h n limit : ℕ) → h ≤ limit → nat_le (h + n) limit ≡ nat_le n (limit - h)
le_less h n limit l =
    same_bool (nat_le (h + n) limit) (nat_le n (limit - h)) (λ e. let k = le_is (h + n) limit e in le_test n (limit - h) (omega arith)) (λ e. let k = le_is n (limit - h) e in le_test (h + n) limit (omega arith))

front_less : (h used limit : ℕ) (os : List Op) → h ≤ limit → front_within (h + used) limit os ≡ front_within used (limit - h) os
front_less h used limit [] l = refl
front_less h used limit (o ∷ os) l =
    let n = used + op_size o in
    let e : h + used + op_size o ≡ h + n = omega arith in
    ap (λ m. cond (nat_le m limit) (o ∷ front_within m limit os) []) e
    ∙ ap (λ b. cond b (o ∷ front_within (h + n) limit os) []) (le_less h n limit l)
    ∙ ap (λ fs. cond (nat_le n (limit - h)) (o ∷ fs) []) (front_less h n limit os l)

-- bytes used already are taken off the limit
pub front_from : (h limit : ℕ) (os : List Op) → h ≤ limit → front_within h limit os ≡ front_within 0 (limit - h) os
front_from h limit os l = let e : h ≡ h + 0 = omega arith in ap (λ m. front_within m limit os) e ∙ front_less h 0 limit os l

fits_go : (used limit : ℕ) (o : Op) (front : List Op) (b : Bool) → nat_le (used + op_size o) limit ≡ b → used ≤ limit → (used + op_size o ≤ limit → used + op_size o + sum_by op_size front ≤ limit)
    → used + sum_by op_size (cond b (o ∷ front) []) ≤ limit
fits_go used limit o front false e h rest = omega (arith, h)
fits_go used limit o front true e h rest = omega (arith, sum_by-cons op_size o front, rest (le_is (used + op_size o) limit e))

-- the front keeps the limit
pub front_fits : (used limit : ℕ) (os : List Op) → used ≤ limit → used + sum_by op_size (front_within used limit os) ≤ limit
front_fits used limit [] h = omega (arith, h)
front_fits used limit (o ∷ os) h =
    fits_go used limit o (front_within (used + op_size o) limit os) (nat_le (used + op_size o) limit) refl h (λ here. front_fits (used + op_size o) limit os here)
