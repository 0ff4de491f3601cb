-- Lists that are equal, element by element.
use Rattle.std.proofs.Common.{◌≡◌, ℕ, true, false, List, length, take, sym, ap, ◌∙◌}
use Rattle.std.proofs.Math.Seq.{take-length}
use Rattle.rls_ident.proofs.Members.{not_true}
use Rattle.rls_ops.specs.Same.{numbers_eq}
use Rattle.rls_ops.proofs.Equal.{numbers_are, numbers_same}

-- all are equal
pub matches_all : {X : Type 0} (xs ys : List X) (i : ℕ) → length xs ≡ length ys → i ≡ length xs → take i xs ≡ take i ys → xs ≡ ys
matches_all xs ys i l e f =
    let a : take (length xs) xs ≡ take (length ys) ys = ap (λ n. take n xs) (sym e) ∙ f ∙ ap (λ n. take n ys) (e ∙ l) in
    sym (take-length xs) ∙ a ∙ take-length ys

-- lists of numbers that differ
pub numbers_differ : (v w : List ℕ) → (v ≡ w → ⊥) → numbers_eq v w ≡ false
numbers_differ v w f = not_true (numbers_eq v w) (λ h. f (numbers_are v w h))

pub numbers_match : (v w : List ℕ) → v ≡ w → numbers_eq v w ≡ true
numbers_match v w e = ap (λ x. numbers_eq x w) e ∙ numbers_same w
