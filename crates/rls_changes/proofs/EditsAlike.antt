-- The edits that are performed are those of each history that a replica stands for.
use Rattle.std.proofs.Common.{◌≡◌, ◌∙◌, [], ◌∷◌, refl, sym, ap}
use Rattle.std.specs.Prelude.{Option, Some, None}
use Rattle.rls_model.specs.declared.edit.EditError.{EditError}
use Rattle.rls_model.specs.Editing.{made, edit_fault}
use Rattle.rls_model.specs.Receiving.{accept}
use Rattle.rls_seen.specs.Edits.{edit_fault_over, edited}
use Rattle.rls_seen.proofs.Editing.{edit_faults_alike, edited_stands}
use Rattle.rls_undo.specs.Undoing.{unless}
use Rattle.rls_changes.specs.Edits.{performed_edits, performed_edits_in, PerformedAlike}

pub performed_alike : PerformedAlike
performed_alike s t [] w h = refl
performed_alike s t (e ∷ es) w h =
    go (edit_fault_over s e) refl (λ q. performed_alike (edited s e) (accept t (made t.history e)) es w.1 (edited_stands s t e w.0 q h))
  where
    go : (f : Option EditError) → edit_fault_over s e ≡ f
        → (edit_fault_over s e ≡ None → performed_edits (edited s e) es ≡ performed_edits_in (accept t (made t.history e)) es)
        → unless f [] (e ∷ performed_edits (edited s e) es) ≡ unless (edit_fault t.history e) [] (e ∷ performed_edits_in (accept t (made t.history e)) es)
    go None q ih =
        let k : edit_fault t.history e ≡ None = sym (edit_faults_alike s t e h) ∙ q in
        rw k (ap (λ zs. e ∷ zs) (ih q))
    go (Some x) q ih =
        let k : edit_fault t.history e ≡ Some x = sym (edit_faults_alike s t e h) ∙ q in
        rw k refl
