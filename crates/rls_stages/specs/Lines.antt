-- A line of a script as an edit, read over what a replica consists of, and over a history.
use Rattle.std.specs.Prelude.{ℕ, ◌-◌, List, Option, Some, None, Result, Ok, Err}
use Rattle.rls_model.specs.declared.edit.Edit.{Edit}
use Rattle.rls_model.specs.declared.edit.Edit.TheVariants as edits
use Rattle.rls_model.specs.declared.edit.EditError.{EditError}
use Rattle.rls_model.specs.declared.edit.EditError.TheVariants as errors
use Rattle.rls_model.specs.Document.{text}
use Rattle.rls_model.specs.Editing.{edit_fault}
use Rattle.rls_model.specs.Machine.{unless_fault}
use Rattle.rls_model.specs.Receiving.{State}
use Rattle.rls_report.specs.declared.failures.LineFault.{LineFault}
use Rattle.rls_report.specs.declared.failures.LineFault.TheVariants as faults
use Rattle.rls_script.specs.Clusters.{cluster_before}
use Rattle.rls_script.specs.declared.clusters.ClusterError.{ClusterError}
use Rattle.rls_script.specs.declared.clusters.ClusterError.TheVariants as clusters
use Rattle.rls_script.specs.declared.lines.Line.{Line}
use Rattle.rls_script.specs.declared.lines.Line.TheVariants.{Insert, Delete, Back, Rename}
use Rattle.rls_seen.specs.Edits.{edit_fault_over}
use Rattle.rls_seen.specs.Seen.{Seen, text_over}

-- how a refused edit is told. Want of memory is none of these, and is told apart elsewhere
abbrev pub line_fault : EditError → LineFault
line_fault errors.Left = faults.Left
line_fault errors.EmptyEdit = faults.EmptyEdit
line_fault (errors.Range at total) = faults.Range at total
line_fault errors.EmptyDocument = faults.EmptyDocument
line_fault (errors.TooManyChars total) = faults.TooManyChars total
line_fault errors.NumbersSpent = faults.NumbersSpent
line_fault (errors.OpTooLarge bytes) = faults.OpTooLarge bytes
line_fault errors.OutOfMemory = faults.Left

abbrev pub line_fault_of : Option EditError → Option LineFault
line_fault_of None = None
line_fault_of (Some e) = Some (line_fault e)

-- ---- at any state, by the fault of an edit there and by its text

-- the edit, or the fault for which it is refused
abbrev pub allowed_by : {X : Type 0} → (X → Edit → Option EditError) → X → Edit → Result Edit LineFault
allowed_by fault x edit = unless_fault (line_fault_of (fault x edit)) edit

-- a cluster is deleted from where it begins to where it ends
abbrev pub backward_by : {X : Type 0} → (X → Edit → Option EditError) → X → ℕ → Result ℕ ClusterError → Result Edit LineFault
backward_by fault x at (Ok from) = allowed_by fault x (edits.Delete from (at - from))
backward_by fault x at (Err (clusters.Range p total)) = Err (faults.Range p total)
backward_by fault x at (Err (clusters.NotBoundary p)) = Err (faults.NotBoundary p)

-- what a line does
abbrev pub line_by : {X : Type 0} → (X → Edit → Option EditError) → (X → List ℕ) → X → Line → Result Edit LineFault
line_by fault text x (Insert at cs) = allowed_by fault x (edits.Insert at cs)
line_by fault text x (Delete at n) = allowed_by fault x (edits.Delete at n)
line_by fault text x (Back at) = backward_by fault x at (cluster_before (text x) at)
line_by fault text x Rename = allowed_by fault x edits.Rename

-- ---- over what a replica consists of

abbrev pub allowed : Seen → Edit → Result Edit LineFault
allowed s edit = allowed_by edit_fault_over s edit

abbrev pub read_line : Seen → Line → Result Edit LineFault
read_line s line = line_by edit_fault_over text_over s line

-- ---- over a history

abbrev pub fault_in : State → Edit → Option EditError
fault_in t edit = edit_fault t.history edit

abbrev pub text_in : State → List ℕ
text_in t = text t.history
