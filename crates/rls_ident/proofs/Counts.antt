-- The loops over the counts of vectors.
use Rattle.std.proofs.Common.{◌≡◌, ℕ, zero, suc, ◌+◌, ◌<◌, false, List, [], ◌∷◌, length, get_or, set, refl, ap, ◌∙◌, arith}
use Rattle.std.specs.Prelude.{◌&&◌, nat_le}
use Rattle.rls_ident.specs.Vectors.{at_most, raise}
use Rattle.rls_ident.proofs.Members.{and_none}

pub at_most_longer : (a b : List ℕ) → length b < length a → at_most a b ≡ false
at_most_longer [] b h = absurd (omega arith)
at_most_longer (x ∷ a) [] h = refl
at_most_longer (x ∷ a) (y ∷ b) h = ap (λ t. nat_le x y && t) (at_most_longer a b (omega arith)) ∙ and_none (nat_le x y)

pub set-raise : (v : List ℕ) (i : ℕ) → i < length v → (d n : ℕ) → n ≡ get_or v i d → set v i (n + 1) ≡ raise v i
set-raise [] i h d n e = absurd (omega arith)
set-raise (m ∷ ms) zero h d n e = let f : n + 1 ≡ suc m = omega arith in ap (λ k. k ∷ ms) f
set-raise (m ∷ ms) (suc i) h d n e = ap (λ ks. m ∷ ks) (set-raise ms i (omega arith) d n e)
