use Rattle.std.proofs.Common.{arith}
use Rattle.rls_io.proofs.Known.{reads_known}
use Rattle.rls_io.proofs.standard.StdDeviceSource.read.Goals as goal

pub returns-in-Ok-clause-next : goal.returns-in-Ok-clause-next
returns-in-Ok-clause-next g c =
    let left = g.R.Read.remaining in
    reads_known (left c.args.self.now.inner) (left c.loop.self.inner) (left c.read.new.self) c.in-Ok.n c.read.new.buf c.in-Ok.ensures.bound.0 (omega (arith, c.loop.auto.buf, c.read.auto.buf, c.requires.not_empty)) c.loop.invariant.kept c.in-Ok.ensures.bytes.0 c.in-Ok.ensures.bytes.1
