use Rattle.rls_journal.proofs.Rests.{looks_both, looks_unchanged}
use Rattle.rls_journal.proofs.keeper.find.Goals as goal

pub returns-in-Some-clause-looks : goal.returns-in-Some-clause-looks
returns-in-Some-clause-looks g c = looks_both g.D.Disk.retries g.D.Disk.seen g.D.Disk.may_leave g.D.Disk.moment g.D.Disk.left_since g.met.D.Disk.only_now c.args.disk.now c.settle.new.disk c.read_file.new.disk c.settle.ensures.looks (looks_unchanged g.D.Disk.retries g.D.Disk.seen g.D.Disk.may_leave g.D.Disk.moment g.D.Disk.left_since g.met.D.Disk.only_now c.settle.new.disk c.read_file.new.disk c.read_file.ensures.unchanged)
