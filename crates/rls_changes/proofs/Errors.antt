-- An error that is handed on.
use Rattle.std.proofs.Common.{◌≡◌, ap, ◌∙◌, Err}
use Rattle.std.specs.Prelude.{IsErrOf, ◌↔◌}
use Rattle.rls_ident.specs.declared.epoch_name.EpochName.{EpochName}
use Rattle.rls_replica.specs.declared.translating.PastError.{PastError}
use Rattle.rls_replica.specs.declared.translating.PastError.TheVariants as past
use Rattle.rls_undo.specs.declared.undo.UndoError.{UndoError}
use Rattle.rls_undo.specs.declared.undo.UndoError.TheVariants as undo
use Rattle.rls_undo.proofs.Parts.{err_as}

-- of a call that answers something else
pub handed_on : {T U E : Type 0} (x y : E) (P : Type 0) → (IsErrOf {T = T} {E = E} (Err x) y ↔ P) → (IsErrOf {T = U} {E = E} (Err x) y ↔ P)
handed_on {T} {U} x y P h = (λ k. h.0 (err_as {T = U} {U = T} x y k), λ p. err_as {T = T} {U = U} x y (h.1 p))

pub dropped_as : {T U : Type 0} (p : PastError) (d e : EpochName) (P : Type 0) → p ≡ past.Dropped d → (IsErrOf {T = T} {E = PastError} (Err p) (past.Dropped e) ↔ P) →
    IsErrOf {T = U} {E = UndoError} (Err (undo.Dropped d)) (undo.Dropped e) ↔ P
dropped_as {T} p d e P q h = (
  λ x. let k : d ≡ e = cc in h.0 (ap (λ z. Err z) (q ∙ ap (λ z. past.Dropped z) k)),
  λ x. let y : IsErrOf {T = T} {E = PastError} (Err p) (past.Dropped e) = h.1 x in
      let k : d ≡ e = cc in
      ap (λ z. Err (undo.Dropped z)) k,
)
