use Rattle.std.proofs.lemmas.Result.{IfOk-weaker}
use Rattle.rls_runs.proofs.RunLists.{ident_there}
use Rattle.rls_runs.proofs.runs.Runs.get.Goals as goal

pub returns : goal.returns
returns c =
    let run = c.locate-place.result.0.now in
    let there = ident_there c.args.self.now c.args.i run c.locate-place.result.1 c.locate-place.ensures.within c.locate-place.ensures.idents in
    record { found = IfOk-weaker c.shifted.result _ _ (λ x e. there x (rw c.first.ensures.first at e)) c.shifted.ensures.shifted }
