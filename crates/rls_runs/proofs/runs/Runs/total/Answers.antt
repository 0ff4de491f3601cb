use Rattle.std.proofs.Common.{subst}
use Rattle.rls_runs.specs.Runs.{AreIdents}
use Rattle.rls_runs.proofs.RunLists.{are_idents}
use Rattle.rls_runs.proofs.runs.Runs.total.Goals as goal

pub returns-clause-idents : goal.returns-clause-idents
returns-clause-idents c = subst AreIdents c.self.view_is (are_idents c.self.inside.runs.items c.self.inside.starts.items c.self.inside.total c.self.invariant)
