-- An error that is handed on.
use Rattle.std.proofs.Common.{◌≡◌, ap, Result, Ok, Err}
use Rattle.std.specs.Prelude.{IsErrAnd, IsErrOf, ◌↔◌}
use Rattle.rls_ident.specs.declared.epoch_name.EpochName.{EpochName}
use Rattle.rls_replica.specs.declared.translating.PastError.{PastError}
use Rattle.rls_replica.specs.declared.translating.PastError.TheVariants as past
use Rattle.rls_steps.specs.declared.steps.StepError.{StepError}
use Rattle.rls_steps.specs.declared.steps.StepError.TheVariants as steps

-- a call returns the error of another call as one of its own
pub dropped_from : {T : Type 0} (p : PastError) (x : StepError) (e : EpochName) (P : Type 0) → ((x ≡ steps.Dropped e) ↔ (p ≡ past.Dropped e)) → (IsErrOf {T = T} {E = PastError} (Err p) (past.Dropped e) → P) →
    IsErrOf {T = T} {E = StepError} (Err x) (steps.Dropped e) → P
dropped_from p x e P d k h = let i : x ≡ steps.Dropped e = cc in k (ap (λ z. Err z) (d.0 i))

pub dropped_as : (p : PastError) (x : StepError) (e : EpochName) (P : Type 0) → ((x ≡ steps.Dropped e) ↔ (p ≡ past.Dropped e)) → (IsErrOf {T = Unit {0}} {E = PastError} (Err p) (past.Dropped e) ↔ P) →
    IsErrOf {T = Unit {0}} {E = StepError} (Err x) (steps.Dropped e) ↔ P
dropped_as p x e P d h = (
  dropped_from p x e P d h.0,
  λ y. let k : IsErrOf {T = Unit {0}} {E = PastError} (Err p) (past.Dropped e) = h.1 y in
      let i : p ≡ past.Dropped e = cc in
      ap (λ z. Err z) (d.1 i),
)

-- the exit of a `?` returns the error that the call returned
pub err_back : {T U E : Type 0} (r : Result U E) (x z : E) → IsErrAnd r (λ y. y ≡ x) → r ≡ Err z → IsErrOf {T = T} {E = E} (Err x) z
err_back (Ok u) x z h e = absurd h
err_back (Err y) x z h e = let k : x ≡ z = cc in ap (λ v. Err v) k
