use Rattle.std.proofs.Common.{subst}
use Rattle.rls_journal.specs.Calls.{Renew}
use Rattle.rls_journal.specs.Files.{Did}
use Rattle.rls_journal.proofs.Called.{same_done}
use Rattle.rls_journal.proofs.files.FileDiskDisk.renew_gate.Goals as goal

pub returns-clause-answers : goal.returns-clause-answers
returns-clause-answers g c = subst (λ a. Did g.C.AreaCalls.gives Renew a (c.args.self.now).files c.renew_gate-answer.new.self) (same_done c.renew_gate-answer.result c.count.result c.count.ensures.same) c.renew_gate-answer.ensures.did
