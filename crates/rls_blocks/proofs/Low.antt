-- How low a balanced tree is.
use Rattle.std.proofs.Common.{◌≡◌, ℕ, ◌+◌, ◌*◌, ◌^◌, ◌<◌, ◌≤◌, ◌⊎◌, max, inl, inr, arith}
use Rattle.std.proofs.Math.Nat.{mul-le-mul_left}
use Rattle.std.proofs.Math.Pow.{pow_mono}
use native.Mathlib.Numerals.{unary_clauses}
use Rattle.rls_blocks.specs.Trees.{IsLow}

le_or_lt : (a b : ℕ) → (a ≤ b) ⊎ (b < a)
le_or_lt a b = grind arith

le_or_le : (a b : ℕ) → (a ≤ b) ⊎ (b ≤ a)
le_or_le a b = grind arith

-- a square of a sum
wide : (p a b : ℕ) → 2 * p ≤ a * a → p ≤ b * b → 4 * p ≤ (a + b) * (a + b)
wide p a b h k =
    elim (le_or_le a b) [
      | inl le ↦ let m : a * a ≤ a * b = mul-le-mul_left a le in omega (arith, m)
      | inr le ↦ let m : b * b ≤ b * a = mul-le-mul_left b le in omega (arith, m)
    ]

level : (p a b : ℕ) → p ≤ a * a → p ≤ b * b → 2 * p ≤ (a + b) * (a + b)
level p a b h k = omega (arith, h, k)

double : (k : ℕ) → 2 ^ (k + 1) ≡ 2 * 2 ^ k
double k = simp unary_clauses (omega arith)

three : (h k : ℕ) → h ≤ k + 1 → k ≤ h + 1 → (h ≡ k) ⊎ ((h ≡ k + 1) ⊎ (k ≡ h + 1))
three h k le ge = grind arith

taller : (k a b : ℕ) → IsLow (k + 1) a → IsLow k b → 2 ^ (k + 1 + 1) ≤ (a + b + 1 + 1) * (a + b + 1 + 1)
taller k a b p q =
    let d = double k in
    let e = double (k + 1) in
    let left : 2 * 2 ^ k ≤ (a + 1) * (a + 1) = omega (arith, d, p) in
    let w = wide (2 ^ k) (a + 1) (b + 1) left q in
    omega (arith, d, e, w)

-- one level more over two low trees
pub make_low : (h k a b : ℕ) → IsLow h a → IsLow k b → h ≤ k + 1 → k ≤ h + 1 → IsLow (max h k + 1) (a + b + 1)
make_low h k a b p q le ge =
    elim (three h k le ge) [
      | inl e ↦ let m : max h k ≡ h = omega arith in let d = double h in let w = level (2 ^ h) (a + 1) (b + 1) p (rw (← e) at q) in rw m (omega (arith, d, w))
      | inr e ↦ elim e [
        | inl e ↦ let m : max h k ≡ k + 1 = omega arith in rw m (taller k a b (rw e at p) q)
        | inr e ↦ let m : max h k ≡ h + 1 = omega arith in let w = taller h b a (rw e at q) p in rw m (omega (arith, w))
      ]
    ]

-- a tree of so few blocks has at most 128 levels
pub low_is_small : (h n : ℕ) → IsLow h n → n < 2 ^ 64 → h ≤ 128
low_is_small h n low fits =
    elim (le_or_lt 129 h) [
      | inl le ↦ let p = pow_mono {i = 129} {j = h} le in let m : (n + 1) * (n + 1) ≤ (n + 1) * 2 ^ 64 = mul-le-mul_left (n + 1) (omega arith) in absurd (omega (arith, p, m, low))
      | inr lt ↦ omega (arith, lt)
    ]
