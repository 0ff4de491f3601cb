-- The operation that an edit makes, and why an edit is refused, read over what a replica consists of.
use Rattle.std.specs.Prelude.{◌≡◌, Option, Some}
use Rattle.rls_ops.specs.declared.op.Op.{Op}
use Rattle.rls_ops.specs.declared.op.Body.{Body}
use Rattle.rls_model.specs.declared.edit.Edit.{Edit}
use Rattle.rls_model.specs.declared.edit.EditError.{EditError}
use Rattle.rls_model.specs.declared.edit.EditError.TheVariants.{OutOfMemory}
use Rattle.rls_seen.specs.Seen.{Seen}
use Rattle.rls_seen.specs.Over.{accepted}
use Rattle.rls_seen.specs.View.{plain}
use Rattle.rls_model.specs.Rules as rules

-- what the edit does, with identifiers of the greatest epoch
abbrev pub made_body : Seen → Edit → Body
made_body s = rules.made_body (plain s)

-- the operation that the edit makes
unfoldable pub made_over : Seen → Edit → Op
made_over s edit = rules.made (plain s) edit

-- the number or the size of the operation is too great
abbrev pub op_fault_over : Seen → Edit → Option EditError
op_fault_over s edit = rules.op_fault_of (plain s) (made_over s edit)

-- the first fault of the edit
unfoldable pub edit_fault_over : Seen → Edit → Option EditError
edit_fault_over s edit = rules.edit_fault_of (plain s) edit (made_over s edit)

-- after the edit
abbrev pub edited : Seen → Edit → Seen
edited s edit = accepted s (made_over s edit)

-- the edit failed for this reason, unless memory ran out
abbrev pub IsFault : EditError → Option EditError → Type 0
IsFault OutOfMemory fault = Unit {0}
IsFault e fault = fault ≡ Some e
