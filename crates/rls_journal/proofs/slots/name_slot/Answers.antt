use Rattle.std.proofs.lemmas.Result.{on_ok_weaker}
use Rattle.rls_journal.proofs.Parts.{name_done}
use Rattle.rls_journal.proofs.slots.name_slot.Goals as goal

pub returns-clause-names : goal.returns-clause-names
returns-clause-names g c =
    on_ok_weaker c.sync.result (name_done c.args.slot (g.D.Disk.seen c.args.disk.now) (g.D.Disk.seen c.write.new.self) (g.D.Disk.seen c.sync.new.self) (g.D.Disk.is_dirty c.write.new.self) (g.D.Disk.may_leave c.sync.new.self) c.requires.slot c.in_ok-write.ensures.written c.sync.ensures.same c.in_ok-write.ensures.is_dirty)
    c.sync.ensures.written
