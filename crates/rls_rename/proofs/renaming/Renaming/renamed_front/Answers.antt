use Rattle.std.proofs.lemmas.Result.{IfOk-weaker}
use Rattle.rls_rename.proofs.Ways.{forward_way, back_way}
use Rattle.rls_rename.proofs.renaming.Renaming.renamed_front.Goals as goal

pub returns-in-Forward : goal.returns-in-Forward
returns-in-Forward c = record { renamed = rw c.in-Forward.is (IfOk-weaker c.forward_front.result _ _ (λ z g. forward_way _ _ c.self.invariant.0 c.self.invariant.1 _ c.self.view_is _ _ z.first z.len g) c.forward_front.ensures.forward) }

pub returns-in-Back : goal.returns-in-Back
returns-in-Back c = record { renamed = rw c.in-Back.is (IfOk-weaker c.back_front.result _ _ (λ z g. back_way _ _ c.self.invariant.0 c.self.invariant.1 _ c.self.view_is _ _ z.first z.len g) c.back_front.ensures.back) }
