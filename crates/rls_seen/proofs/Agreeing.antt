-- The machines of parts and of histories agree.
use Rattle.std.proofs.Common.{◌≡◌, None, Ok, refl, ap, subst}
use Rattle.rls_model.specs.declared.edit.Edit.{Edit}
use Rattle.rls_model.specs.EditRun.{run_lines}
use Rattle.rls_model.specs.Machine.{started, unless_fault, read_edit_on}
use Rattle.rls_model.specs.MachineLaws.{EditsAgree}
use Rattle.rls_model.specs.Receiving.{State}
use Rattle.rls_model.specs.Taking.{by_history}
use Rattle.rls_model.specs.WellFormed.{IsOp, IsEdit}
use Rattle.rls_model.proofs.Machines.{read_is, running_alike}
use Rattle.rls_model.proofs.WorldsEdits.{edit_in}
use Rattle.rls_seen.specs.Edits.{edited}
use Rattle.rls_seen.specs.Messages.{by_parts}
use Rattle.rls_seen.specs.Seen.{Seen}
use Rattle.rls_seen.specs.SeenLaws.{MachinesAgree, EditsRunAlike}
use Rattle.rls_seen.specs.Stands.{StandsFor}
use Rattle.rls_seen.proofs.Editing.{edit_faults_alike, edited_stands}
use Rattle.rls_seen.proofs.Receiving.{received_stands}
use Rattle.rls_seen.proofs.Releasing.{released_stands}

edits_agree : EditsAgree by_parts by_history IsEdit StandsFor
edits_agree = record { faults = λ s t edit h. edit_faults_alike s t edit h; edits = λ s t edit w f h. edited_stands s t edit w f h }

pub machines_agree : MachinesAgree
machines_agree = (
  record {
    answers = λ s t o w h. (received_stands s t o w h).0;
    receives = λ s t o w h. (received_stands s t o w h).1;
    waiting = λ s t h. h.waiting;
    next_releases = λ s t h. (released_stands s t h).0;
    releases = λ s t h. (released_stands s t h).1;
  },
  edits_agree,
)

-- an edit that isn't refused leaves both alike
read_stands : (s : Seen) (t : State) (x edit : Edit) → IsEdit x → read_edit_on by_parts s x ≡ Ok edit → StandsFor s t → StandsFor (edited s edit) (by_history.after_edit t edit)
read_stands s t x edit w e h =
    let r = read_is by_parts s x edit e in
    subst (λ y. StandsFor (edited s y) (by_history.after_edit t y)) r.0 (edited_stands s t x w r.1 h)

pub edits_run_alike : EditsRunAlike
unfolding run_lines
edits_run_alike s t edits w h =
    running_alike StandsFor by_parts by_history IsOp machines_agree.0 (read_edit_on by_parts) (read_edit_on by_history) (λ r u x k. ap (λ f. unless_fault f x) (edit_faults_alike r u x k)) edits
    (λ r u x edit p e k. read_stands r u x edit (edit_in edits x w p) e k) 1 (started None s) (started None t) (record { states = h; limit = refl; counts = refl })
