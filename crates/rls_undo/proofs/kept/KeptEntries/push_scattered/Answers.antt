use Rattle.std.proofs.Common.{arith, length}
use Rattle.rls_undo.proofs.Keeping.{kept_pushed}
use Rattle.rls_undo.proofs.kept.KeptEntries.push_scattered.Goals as goal

pub invariant_of-self-2 : goal.invariant_of-self-2
invariant_of-self-2 c =
    let n = c.in-Ok.ensures in
    let l = c.len.ensures in
    rw c.in_ok-push.ensures.items (kept_pushed 0 (length c.self.inside.bases.items) (length c.self.inside.bases.items) c.self.inside.entries.items _ c.self.invariant tt (omega arith) (omega arith))
