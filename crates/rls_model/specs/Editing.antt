-- The operation that an edit makes, and why an edit is refused.
use Rattle.std.specs.Prelude.{ℕ, ◌+◌, Option}
use Rattle.rls_ops.specs.declared.op.Op.{Op}
use Rattle.rls_ops.specs.declared.op.Body.{Body}
use Rattle.rls_model.specs.declared.edit.Edit.{Edit}
use Rattle.rls_model.specs.declared.edit.EditError.{EditError}
use Rattle.rls_model.specs.History.{History, me_of, count_of}
pub use Rattle.rls_model.specs.EditParts.{own_stem, ends_below, is_above, may_append, may_prepend, or_missing, first_before, first_between, get_before, range_fault, or_fault, size_fault}
use Rattle.rls_model.specs.View.{plain_of}
use Rattle.rls_model.specs.Rules as rules

-- the number of the own operation that comes next
abbrev pub next_seq : History → ℕ
next_seq H = count_of H (me_of H) + 1

-- what the edit does, with identifiers of the greatest epoch
abbrev pub made_body : History → Edit → Body
made_body H = rules.made_body (plain_of H)

-- the operation that the edit makes
unfoldable pub made : History → Edit → Op
made H edit = rules.made (plain_of H) edit

-- the number or the size of the operation is too great
abbrev pub op_fault : History → Edit → Option EditError
op_fault H edit = rules.op_fault_of (plain_of H) (made H edit)

-- the first fault of the edit
unfoldable pub edit_fault : History → Edit → Option EditError
edit_fault H edit = rules.edit_fault_of (plain_of H) edit (made H edit)
