use Rattle.std.proofs.Common.{length, subst}
use Rattle.rls_journal.specs.Calls.{Read}
use Rattle.rls_journal.specs.Files.{Did}
use Rattle.rls_journal.proofs.Called.{same_gave}
use Rattle.rls_journal.proofs.files.FileDiskDisk.read.Goals as goal

pub returns-clause-answers : goal.returns-clause-answers
returns-clause-answers g c = subst (λ a. Did g.C.AreaCalls.gives (Read c.args.area c.args.at (length c.args.buf.now)) a (c.args.self.now).files c.read-answer.new.self) (same_gave c.read-answer.result c.count.result c.read-answer.new.buf c.count.ensures.same) c.read-answer.ensures.did
