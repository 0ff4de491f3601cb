use Rattle.std.proofs.Common.{take}
use Rattle.rls_io.proofs.Known.{appends_known}
use Rattle.rls_io.proofs.standard.StdDeviceSink.write.Goals as goal

pub returns-in-Ok-clause-appended : goal.returns-in-Ok-clause-appended
returns-in-Ok-clause-appended g c =
    let holds = g.W.Write.contents in
    appends_known (holds c.args.self.now.inner) (holds c.loop.self.inner) (holds c.write.new.self) (take c.in-Ok.n c.args.buf.now) c.loop.invariant.kept c.in-Ok.ensures.bytes
