-- Errors of storing.
use Rattle.std.proofs.Common.{◌≡◌, ℕ, Result, Ok, Err}
use Rattle.rls_file.specs.declared.saving.SaveError.{SaveError}
use Rattle.rls_file.specs.declared.saving.SaveError.TheVariants.{TooLarge}

abbrev failed : (A : Type 0) → ℕ → Result A SaveError
failed A n = Err (TooLarge n)

abbrev stored : (A : Type 0) → A → Result A SaveError
stored A x = Ok x

-- equal errors tell equal numbers
pub too_large : {A : Type 0} (n m : ℕ) → failed A n ≡ failed A m → n ≡ m
too_large n m e = cc

-- what was stored is no error
pub no_error : {A : Type 0} (x : A) (n : ℕ) → stored A x ≡ failed A n → ⊥
no_error x n e = cc
