use Rattle.std.proofs.Common.{length, ap, arith}
use Rattle.rls_journal.specs.Memory.{DiskState}
use Rattle.rls_journal.proofs.Recorded.{calls_counted}
use Rattle.rls_journal.proofs.memory.MemoryDisk.calls.Goals as goal

pub returns-clause-count : goal.returns-clause-count
returns-clause-count c = omega (arith, ap (λ (s : DiskState). length s.calls) c.self.view_is, calls_counted c.self.inside.entries.items c.self.inside.written.items)
