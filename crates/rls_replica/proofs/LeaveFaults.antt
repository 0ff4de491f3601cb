-- Why a leave is refused.
use Rattle.std.proofs.Common.{◌≡◌, ℕ, ◌≤◌, ◌==◌, Bool, true, false, subst, Option, Some, None, if◌then◌else◌, arith}
use Rattle.std.specs.Prelude.{nat_lt}
use Rattle.rls_ident.specs.declared.limits.TheConstants.{MEMBERS, OPERATION_BYTES, GREATEST_NUMBER}
use Rattle.rls_ident.specs.declared.epoch_name.EpochName.{EpochName}
use Rattle.rls_ident.specs.declared.epoch_name.EpochName.TheVariants.{Origin, Of}
use Rattle.rls_ident.proofs.Members.{bool_cases, lt_is}
use Rattle.rls_ops.specs.Rows.{left}
use Rattle.rls_ops.specs.Sizes.{name_size, op_size}
use Rattle.rls_model.specs.declared.edit.Edit.TheVariants as edits
use Rattle.rls_model.specs.declared.edit.EditError.{EditError}
use Rattle.rls_model.specs.declared.edit.EditError.TheVariants as errors
use Rattle.rls_model.specs.declared.edit.EditError.TheVariants.{EmptyEdit, Range, EmptyDocument, TooManyChars, NumbersSpent, OpTooLarge, OutOfMemory}
use Rattle.rls_model.specs.Editing.{or_fault, size_fault}
use Rattle.rls_seen.specs.Edits.{made_over, edit_fault_over, IsFault}
use Rattle.rls_seen.specs.Seen.{Seen, members, own_count, greatest_over}
use Rattle.rls_replica.specs.Editing.{IsLeaveFault}

short_name : (e : EpochName) → name_size e ≤ 9
short_name Origin = omega arith
short_name (Of r q) = omega arith

no_fault : (n : ℕ) → n ≤ OPERATION_BYTES → size_fault n ≡ None
no_fault n h = bool_cases (nat_lt OPERATION_BYTES n) (λ q. absurd (omega (arith, lt_is OPERATION_BYTES n q))) (λ q. rw q)

-- the operation of a leave isn't too large
small : (s : Seen) → members s ≤ MEMBERS → size_fault (op_size (made_over s edits.Leave)) ≡ None
unfolding made_over
small s m = let n = short_name (greatest_over s) in no_fault (op_size (made_over s edits.Leave)) (omega arith)

by_tests : (l n : Bool) (z : Option EditError) (e : EditError) → z ≡ None → (if l then Some errors.Left else or_fault None (if n then Some NumbersSpent else z)) ≡ Some e → IsLeaveFault e
by_tests true n z e none h = let q : errors.Left ≡ e = cc in subst IsLeaveFault q tt
by_tests false true z e none h = let q : NumbersSpent ≡ e = cc in subst IsLeaveFault q tt
by_tests false false z e none h = absurd (cc)

told : (s : Seen) (e : EditError) → members s ≤ MEMBERS → edit_fault_over s edits.Leave ≡ Some e → IsLeaveFault e
unfolding edit_fault_over
told s e m h = by_tests (left s.acks s.acks.me) (own_count s == GREATEST_NUMBER) (size_fault (op_size (made_over s edits.Leave))) e (small s m) h

-- a fault of a leave
pub leave_fault : (s : Seen) (e : EditError) → members s ≤ MEMBERS → IsFault e (edit_fault_over s edits.Leave) → IsLeaveFault e
leave_fault s errors.Left m f = tt
leave_fault s NumbersSpent m f = tt
leave_fault s OutOfMemory m f = tt
leave_fault s EmptyEdit m f = told s EmptyEdit m f
leave_fault s (Range at total) m f = told s (Range at total) m f
leave_fault s EmptyDocument m f = told s EmptyDocument m f
leave_fault s (TooManyChars n) m f = told s (TooManyChars n) m f
leave_fault s (OpTooLarge n) m f = told s (OpTooLarge n) m f
