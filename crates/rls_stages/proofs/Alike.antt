-- A line of a script is read alike over what a replica consists of and over a history that it stands for.
use Rattle.std.proofs.Common.{◌≡◌, ◌∙◌, ℕ, List, Option, Result, Ok, Err, refl, ap}
use Rattle.rls_model.specs.declared.edit.Edit.{Edit}
use Rattle.rls_model.specs.declared.edit.Edit.TheVariants as edits
use Rattle.rls_model.specs.declared.edit.EditError.{EditError}
use Rattle.rls_model.specs.Machine.{unless_fault}
use Rattle.rls_model.specs.Receiving.{State}
use Rattle.rls_script.specs.declared.clusters.ClusterError.{ClusterError}
use Rattle.rls_script.specs.declared.clusters.ClusterError.TheVariants as clusters
use Rattle.rls_script.specs.Clusters.{cluster_before}
use Rattle.rls_script.specs.declared.lines.Line.TheVariants.{Insert, Delete, Back, Rename}
use Rattle.rls_seen.specs.Edits.{edit_fault_over}
use Rattle.rls_seen.specs.Seen.{Seen, text_over}
use Rattle.rls_seen.specs.Stands.{StandsFor}
use Rattle.rls_seen.proofs.Editing.{edit_faults_alike}
use Rattle.rls_seen.proofs.Keeping.{text_alike}
use Rattle.rls_stages.specs.Lines.{allowed, allowed_by, backward_by, fault_in, line_by, line_fault_of, read_line, text_in}

-- ---- what lines mean

-- lines are read alike at a replica and at a history that it stands for
abbrev pub ReadsAlike : {L F : Type 0} → (Seen → L → Result Edit F) → (State → L → Result Edit F) → Type 0
ReadsAlike {L} {F} reads tells = (s : Seen) (t : State) (line : L) → StandsFor s t → reads s line ≡ tells t line

pub allowed_alike : ReadsAlike allowed (allowed_by fault_in)
allowed_alike s t edit h = ap (λ (f : Option EditError). unless_fault (line_fault_of f) edit) (edit_faults_alike s t edit h)

pub lines_alike : ReadsAlike read_line (line_by fault_in text_in)
lines_alike s t (Insert at cs) h = allowed_alike s t (edits.Insert at cs) h
lines_alike s t (Delete at n) h = allowed_alike s t (edits.Delete at n) h
lines_alike s t Rename h = allowed_alike s t edits.Rename h
lines_alike s t (Back at) h =
    go (cluster_before (text_over s) at) ∙ ap (λ (cs : List ℕ). backward_by fault_in t at (cluster_before cs at)) (text_alike s t h)
  where
    go : (r : Result ℕ ClusterError) → backward_by edit_fault_over s at r ≡ backward_by fault_in t at r
    go (Ok from) = allowed_alike s t (edits.Delete from _) h
    go (Err (clusters.Range p total)) = refl
    go (Err (clusters.NotBoundary p)) = refl
