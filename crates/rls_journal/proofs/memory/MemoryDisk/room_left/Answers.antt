use Rattle.std.proofs.Common.{ap, arith}
use Rattle.rls_journal.specs.Memory.{DiskState, bytes_written}
use Rattle.rls_journal.proofs.Recorded.{bytes_counted}
use Rattle.rls_journal.proofs.memory.MemoryDisk.room_left.Goals as goal

pub returns : goal.returns
returns c =
    let i = c.self.inside in
    record { left = omega (arith, ap (λ (s : DiskState). bytes_written s.calls) c.self.view_is, ap (λ (s : DiskState). s.room) c.self.view_is, bytes_counted i.entries.items i.written.items c.self.invariant.bytes_are, c.self.invariant.left_is) }
