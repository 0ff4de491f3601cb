use Rattle.std.proofs.Common.{take}
use Rattle.rls_journal.specs.MemoryLaws.{fillers_left}
use Rattle.rls_journal.proofs.memory.MemoryDisk.crashed.Goals as goal

pub returns-in_err-slot0-clause-image : goal.returns-in_err-slot0-clause-image
returns-in_err-slot0-clause-image c = fillers_left c.args.filler c.args.self.now.first (take c.args.calls c.args.self.now.calls)

pub returns-in_err-slot1-clause-image : goal.returns-in_err-slot1-clause-image
returns-in_err-slot1-clause-image c = fillers_left c.args.filler c.args.self.now.first (take c.args.calls c.args.self.now.calls)

pub returns-in_err-gate-clause-image : goal.returns-in_err-gate-clause-image
returns-in_err-gate-clause-image c = fillers_left c.args.filler c.args.self.now.first (take c.args.calls c.args.self.now.calls)

pub returns-clause-image : goal.returns-clause-image
returns-clause-image c = fillers_left c.args.filler c.args.self.now.first (take c.args.calls c.args.self.now.calls)
