use Rattle.rls_journal.proofs.States.{quiet_refused}
use Rattle.rls_journal.proofs.memory.MemoryDisk.enter.Goals as goal

pub returns-then-refuses-clause-quiet : goal.returns-then-refuses-clause-quiet
returns-then-refuses-clause-quiet c = quiet_refused c.args.self.now c.fail.new.self c.fail.ensures.refused
