-- Faults of edits, told before the operation is made and from its size.
use Rattle.std.proofs.Common.{◌≡◌, ◌==◌, ◌+◌, length, Bool, true, false, refl, ap, subst, Option, Some, None, if◌then◌else◌}
use Rattle.rls_ident.specs.declared.limits.TheConstants.{GREATEST_NUMBER}
use Rattle.rls_ops.specs.declared.op.Op.{Op}
use Rattle.rls_ops.specs.Rows.{left}
use Rattle.rls_ops.specs.Sizes.{op_size}
use Rattle.rls_model.specs.declared.edit.Edit.{Edit}
use Rattle.rls_model.specs.declared.edit.EditError.{EditError}
use Rattle.rls_model.specs.declared.edit.EditError.TheVariants as errors
use Rattle.rls_model.specs.declared.edit.EditError.TheVariants.{EmptyEdit, Range, EmptyDocument, TooManyChars, NumbersSpent, OpTooLarge, OutOfMemory}
use Rattle.rls_model.specs.Editing.{range_fault, or_fault, size_fault}
use Rattle.rls_seen.specs.Edits.{made_over, edit_fault_over, IsFault}
use Rattle.rls_seen.specs.Seen.{Seen, own_count, idents_over}
use Rattle.rls_replica.specs.Editing.{early_fault}

-- a told fault is the fault
pub fault_is : (e : EditError) (f : Option EditError) → f ≡ Some e → IsFault e f
fault_is errors.Left f h = h
fault_is EmptyEdit f h = h
fault_is (Range at total) f h = h
fault_is EmptyDocument f h = h
fault_is (TooManyChars n) f h = h
fault_is NumbersSpent f h = h
fault_is (OpTooLarge n) f h = h
fault_is OutOfMemory f h = tt

-- where nothing is told early, the size decides
late : (l : Bool) (r : Option EditError) (n : Bool) (z : Option EditError) → (if l then Some errors.Left else or_fault r (if n then Some NumbersSpent else None)) ≡ None
    → (if l then Some errors.Left else or_fault r (if n then Some NumbersSpent else z)) ≡ z
late true r n z h = absurd (cc)
late false (Some e) n z h = absurd (cc)
late false None true z h = absurd (cc)
late false None false z h = refl

early : (l : Bool) (r : Option EditError) (n : Bool) (z : Option EditError) (e : EditError) → (if l then Some errors.Left else or_fault r (if n then Some NumbersSpent else None)) ≡ Some e
    → (if l then Some errors.Left else or_fault r (if n then Some NumbersSpent else z)) ≡ Some e
early true r n z e h = h
early false (Some x) n z e h = h
early false None true z e h = h
early false None false z e h = absurd (cc)

pub late_fault : (s : Seen) (edit : Edit) (o : Op) → o ≡ made_over s edit → early_fault s edit ≡ None → edit_fault_over s edit ≡ size_fault (op_size o)
unfolding edit_fault_over
late_fault s edit o e h =
    subst (λ (p : Op). (if left s.acks s.acks.me then Some errors.Left else or_fault (range_fault (length (idents_over s)) edit) (if own_count s == GREATEST_NUMBER then Some NumbersSpent else size_fault (op_size p))) ≡ size_fault (op_size o)) e
    (late (left s.acks s.acks.me) (range_fault (length (idents_over s)) edit) (own_count s == GREATEST_NUMBER) (size_fault (op_size o)) h)

pub told_early : (s : Seen) (edit : Edit) (e : EditError) → early_fault s edit ≡ Some e → edit_fault_over s edit ≡ Some e
unfolding edit_fault_over
told_early s edit e h = early (left s.acks s.acks.me) (range_fault (length (idents_over s)) edit) (own_count s == GREATEST_NUMBER) (size_fault (op_size (made_over s edit))) e h

-- a fault of the size is one of the edit
pub late_is : (s : Seen) (edit : Edit) (o : Op) (e : EditError) → o ≡ made_over s edit → early_fault s edit ≡ None → IsFault e (size_fault (op_size o)) → IsFault e (edit_fault_over s edit)
late_is s edit o e m h f = rw (late_fault s edit o m h) f

-- the number of what an edit makes
pub seq-made : (s : Seen) (edit : Edit) (o : Op) → o ≡ made_over s edit → o.seq ≡ own_count s + 1
unfolding made_over
seq-made s edit o e = ap (λ (p : Op). p.seq) e
