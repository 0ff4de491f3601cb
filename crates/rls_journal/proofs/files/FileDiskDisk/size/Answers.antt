use Rattle.std.proofs.Common.{subst}
use Rattle.rls_journal.specs.Calls.{Size}
use Rattle.rls_journal.specs.Files.{Did}
use Rattle.rls_journal.proofs.Called.{same_told}
use Rattle.rls_journal.proofs.files.FileDiskDisk.size.Goals as goal

pub returns-clause-answers : goal.returns-clause-answers
returns-clause-answers g c = subst (λ a. Did g.C.AreaCalls.gives (Size c.args.area) a (c.args.self.now).files c.size-answer.new.self) (same_told c.size-answer.result c.count.result c.count.ensures.same) c.size-answer.ensures.did
