use Rattle.rls_journal.proofs.Moments.{stays_then}
use Rattle.rls_journal.proofs.slots.read_file.Goals as goal

pub returns-in_err-count-clause-unchanged : goal.returns-in_err-count-clause-unchanged
returns-in_err-count-clause-unchanged g c = c.file_size.ensures.unchanged

pub returns-then-count-limit-clause-unchanged : goal.returns-then-count-limit-clause-unchanged
returns-then-count-limit-clause-unchanged g c = c.file_size.ensures.unchanged

pub returns-in_err-bytes-clause-unchanged : goal.returns-in_err-bytes-clause-unchanged
returns-in_err-bytes-clause-unchanged g c = c.file_size.ensures.unchanged

pub returns-in_err-read-clause-unchanged : goal.returns-in_err-read-clause-unchanged
returns-in_err-read-clause-unchanged g c = stays_then g.D.Disk.seen g.D.Disk.may_leave g.D.Disk.moment g.D.Disk.left_since c.args.disk.now c.file_size.new.disk c.read.new.self c.file_size.ensures.unchanged c.read.ensures.same c.read.ensures.crash c.read.ensures.time
