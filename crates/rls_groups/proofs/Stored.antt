-- The statuses with which the keeper fails aren't those with which a file is stored.
use Rattle.std.proofs.Common.{ℕ, inl, inr, arith}
use Rattle.rls_stages.specs.Calls.{IsKeepersStatus}
use Rattle.rls_top.specs.Endings.{IsStored}

pub stored_apart : (n : ℕ) → IsKeepersStatus n → IsStored n → ⊥
stored_apart n (inl a) (inl b) = omega (arith, a, b)
stored_apart n (inl a) (inr (inl b)) = omega (arith, a, b)
stored_apart n (inl a) (inr (inr b)) = omega (arith, a, b)
stored_apart n (inr a) (inl b) = omega (arith, a, b)
stored_apart n (inr a) (inr (inl b)) = omega (arith, a, b)
stored_apart n (inr a) (inr (inr b)) = omega (arith, a, b)
