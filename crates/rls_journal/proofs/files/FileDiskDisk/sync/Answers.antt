use Rattle.std.proofs.Common.{subst}
use Rattle.rls_journal.specs.Calls.{Sync}
use Rattle.rls_journal.specs.Files.{Did}
use Rattle.rls_journal.proofs.Called.{same_done}
use Rattle.rls_journal.proofs.files.FileDiskDisk.sync.Goals as goal

pub returns-clause-answers : goal.returns-clause-answers
returns-clause-answers g c = subst (λ a. Did g.C.AreaCalls.gives (Sync c.args.area) a (c.args.self.now).files c.sync-answer.new.self) (same_done c.sync-answer.result c.count.result c.count.ensures.same) c.sync-answer.ensures.did
