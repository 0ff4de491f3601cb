-- The status and the line of each ending of the program but success, and but for refused operations, whose status is 5.
-- Why: docs/DECISIONS.md, 25.
use Rattle.std.specs.Prelude.{ℕ, List, [], ◌∷◌, ◌++◌, codes}
use Rattle.std.specs.Fmt.{decimal}
use Rattle.rls_report.specs.Texts.{line}
use Rattle.rls_report.specs.declared.failures.LineFault.{LineFault}
use Rattle.rls_report.specs.declared.failures.LineFault.TheVariants.{Left, EmptyEdit, Range, EmptyDocument, TooManyChars, NumbersSpent, OpTooLarge, NotBoundary}
use Rattle.rls_report.specs.declared.failures.CommandError.{CommandError}
use Rattle.rls_report.specs.declared.failures.CommandError.TheVariants.{NoReplica, ReplicaExists, Damaged, BadMembers, BadMe, NotMember, BadLine, Malformed, OtherGroup, Edit, TooLarge}
use Rattle.rls_report.specs.declared.failures.Fault.{Fault}
use Rattle.rls_report.specs.declared.failures.Fault.TheVariants.{Keeper, Source, Sink, Memory}
use Rattle.rls_report.specs.declared.failures.Failure.{Failure}
use Rattle.rls_report.specs.declared.failures.Failure.TheVariants as failures

abbrev pub error_status : CommandError → ℕ
error_status NoReplica = 2
error_status ReplicaExists = 2
error_status (Damaged at) = 3
error_status (BadMembers n) = 4
error_status (BadMe n) = 4
error_status (NotMember n) = 4
error_status (BadLine n) = 4
error_status (Malformed at) = 4
error_status (OtherGroup group members) = 4
error_status (Edit n fault) = 6
error_status TooLarge = 11

abbrev pub fault_status : Fault → ℕ
fault_status Keeper = 7
fault_status Source = 8
fault_status Sink = 9
fault_status Memory = 10

abbrev pub status_of : Failure → ℕ
status_of failures.NoCommand = 1
status_of (failures.Command error) = error_status error
status_of (failures.Fault fault) = fault_status fault

abbrev pub fault_text : LineFault → List ℕ
fault_text Left = codes "left"
fault_text EmptyEdit = codes "empty edit"
fault_text (Range at total) = codes "range " ++ (decimal at ++ (codes " " ++ decimal total))
fault_text EmptyDocument = codes "empty document"
fault_text (TooManyChars total) = codes "too many characters " ++ decimal total
fault_text NumbersSpent = codes "numbers spent"
fault_text (OpTooLarge bytes) = codes "operation too large " ++ decimal bytes
fault_text (NotBoundary at) = codes "not a boundary " ++ decimal at

abbrev pub error_line : CommandError → List ℕ
error_line NoReplica = codes "no replica\n"
error_line ReplicaExists = codes "replica exists\n"
error_line (Damaged at) = line (codes "damaged at " ∷ decimal at ∷ [])
error_line (BadMembers n) = line (codes "bad members " ∷ decimal n ∷ [])
error_line (BadMe n) = line (codes "bad me " ∷ decimal n ∷ [])
error_line (NotMember n) = line (codes "not a member " ∷ decimal n ∷ [])
error_line (BadLine n) = line (codes "bad line " ∷ decimal n ∷ [])
error_line (Malformed at) = line (codes "malformed at " ∷ decimal at ∷ [])
error_line (OtherGroup group members) = line (codes "other group " ∷ decimal group ∷ codes " " ∷ decimal members ∷ [])
error_line (Edit n fault) = line (codes "line " ∷ decimal n ∷ codes ": " ∷ fault_text fault ∷ [])
error_line TooLarge = codes "too large\n"

abbrev pub fault_line : Fault → List ℕ
fault_line Keeper = codes "keeper fault\n"
fault_line Source = codes "source fault\n"
fault_line Sink = codes "sink fault\n"
fault_line Memory = codes "out of memory\n"

abbrev pub usage_line : List ℕ
usage_line = codes "usage: new GROUP ME MEMBERS | edit | text | ids | stat | send TO | take | leave | trial SEED STEPS\n"

abbrev pub failure_line : Failure → List ℕ
failure_line failures.NoCommand = usage_line
failure_line (failures.Command error) = error_line error
failure_line (failures.Fault fault) = fault_line fault
