use Rattle.rls_journal.proofs.Moments.{stays, stays_then}
use Rattle.rls_journal.proofs.slots.file_size.Goals as goal

pub returns-in_err-size-clause-unchanged : goal.returns-in_err-size-clause-unchanged
returns-in_err-size-clause-unchanged g c = stays g.D.Disk.seen g.D.Disk.may_leave g.D.Disk.moment g.D.Disk.left_since c.args.disk.now c.size.new.self c.size.ensures.same c.size.ensures.crash c.size.ensures.time

pub returns-then-size-lt8-clause-unchanged : goal.returns-then-size-lt8-clause-unchanged
returns-then-size-lt8-clause-unchanged g c = stays g.D.Disk.seen g.D.Disk.may_leave g.D.Disk.moment g.D.Disk.left_since c.args.disk.now c.size.new.self c.size.ensures.same c.size.ensures.crash c.size.ensures.time

pub returns-in_err-read-clause-unchanged : goal.returns-in_err-read-clause-unchanged
returns-in_err-read-clause-unchanged g c = stays_then g.D.Disk.seen g.D.Disk.may_leave g.D.Disk.moment g.D.Disk.left_since c.args.disk.now c.size.new.self c.read.new.self (stays g.D.Disk.seen g.D.Disk.may_leave g.D.Disk.moment g.D.Disk.left_since c.args.disk.now c.size.new.self c.size.ensures.same c.size.ensures.crash c.size.ensures.time) c.read.ensures.same c.read.ensures.crash c.read.ensures.time

pub returns-clause-unchanged : goal.returns-clause-unchanged
returns-clause-unchanged g c = stays_then g.D.Disk.seen g.D.Disk.may_leave g.D.Disk.moment g.D.Disk.left_since c.args.disk.now c.size.new.self c.read.new.self (stays g.D.Disk.seen g.D.Disk.may_leave g.D.Disk.moment g.D.Disk.left_since c.args.disk.now c.size.new.self c.size.ensures.same c.size.ensures.crash c.size.ensures.time) c.read.ensures.same c.read.ensures.crash c.read.ensures.time
