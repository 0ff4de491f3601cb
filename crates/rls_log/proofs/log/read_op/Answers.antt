use Rattle.rls_log.proofs.Entries.{never_fails, read_is}
use Rattle.rls_log.proofs.log.read_op.Goals as goal

pub unreachable-requires : goal.unreachable-requires
unreachable-requires c =
    let e = rw c.in-Err-Fault.field-0-is at c.in-Err-Fault.ensures.read in
    never_fails c.args.members c.args.bytes.now c.in-Err-Fault.field-0-0 c.requires.spelled e

pub returns-in-Ok : goal.returns-in-Ok
returns-in-Ok c = record { op = read_is c.args.members c.args.bytes.now c.in-Ok.op c.in-Ok.field-0-1.now c.in-Ok.ensures.read }
