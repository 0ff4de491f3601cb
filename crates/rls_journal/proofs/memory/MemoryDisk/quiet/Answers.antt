use Rattle.std.proofs.Common.{◌∙◌, ap}
use Rattle.rls_journal.specs.Memory.{DiskState, Looked, done}
use Rattle.rls_journal.proofs.States.{quiet_looked}
use Rattle.rls_journal.proofs.memory.MemoryDisk.quiet.Goals as goal

pub returns-clause-quiet : goal.returns-clause-quiet
returns-clause-quiet c = quiet_looked c.args.self.now c.note.new.self (c.note.ensures.done ∙ ap (λ (s : DiskState). done s Looked) c.in_ok-enter.ensures.ok)
