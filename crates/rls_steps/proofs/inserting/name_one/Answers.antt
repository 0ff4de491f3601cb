use Rattle.std.proofs.Common.{◌∷◌, [], length, take, get_or, ap, ◌∙◌}
use Rattle.std.proofs.Math.Seq.{take-length}
use Rattle.rls_steps.proofs.FreeRuns.{one_named}
use Rattle.rls_steps.proofs.Giving.{front_stays}
use Rattle.rls_steps.proofs.inserting.name_one.Goals as goal

pub returns-clause-ok : goal.returns-clause-ok
returns-clause-ok c = one_named c.args.names.now c.push.new.self c.args.first.now c.args.labels.now c.requires.one c.in_ok-push.ensures.names

pub returns-clause-front : goal.returns-clause-front
returns-clause-front c =
    let old = c.args.names.now in
    ap (take (length old)) c.in_ok-push.ensures.names ∙ front_stays old old ((c.args.first.now, get_or c.args.labels.now 0 0) ∷ []) (take-length old)
