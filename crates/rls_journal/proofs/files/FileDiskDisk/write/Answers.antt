use Rattle.std.proofs.Common.{length, subst}
use Rattle.rls_journal.specs.Calls.{Write}
use Rattle.rls_journal.specs.Files.{Did}
use Rattle.rls_journal.proofs.Called.{same_done}
use Rattle.rls_journal.proofs.States.{tears_none}
use Rattle.rls_journal.proofs.files.FileDiskDisk.write.Goals as goal

pub returns-clause-answers : goal.returns-clause-answers
returns-clause-answers g c = subst (λ a. Did g.C.AreaCalls.gives (Write c.args.area c.args.at c.args.bytes.now) a (c.args.self.now).files c.write-answer.new.self) (same_done c.write-answer.result c.count.result c.count.ensures.same) c.write-answer.ensures.did

-- a crash may leave anything, as before
pub returns-clause-crash : goal.returns-clause-crash
returns-clause-crash g c = λ image left. (image, tt, tears_none image c.args.area c.args.at (length c.args.bytes.now))
