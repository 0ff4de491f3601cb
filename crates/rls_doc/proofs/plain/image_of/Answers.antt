use Rattle.std.proofs.Common.{◌∙◌}
use Rattle.std.proofs.lemmas.Result.{IfOk-weaker}
use Rattle.rls_doc.proofs.Steps.{image_first}
use Rattle.rls_doc.proofs.plain.image_of.Goals as goal

pub returns-clause-image : goal.returns-clause-image
returns-clause-image g c =
    let is = image_first (g.F.RunMap.image c.args.map.now) c.args.id.now c.in_ok-single.field-0 c.in_ok-runs.runs c.get.result.now c.in_ok-runs.ensures.map c.in_ok-single.ensures.single c.get.ensures.run in
    IfOk-weaker c.copy.result _ _ (λ x e. e ∙ c.first.ensures.first ∙ is) c.copy.ensures.copy
