use Rattle.std.proofs.Common.{option_copied}
use Rattle.rls_ident.proofs.BetweenSteps.{lies}
use Rattle.std.proofs.lemmas.Result.{IfOk-weaker}
use Rattle.rls_ident.proofs.making.between.Goals as goal

pub returns : goal.returns
returns c =
    let in_order = lies (option_copied c.args.lo) (option_copied c.args.hi) c.args.replica c.args.seq c.make.ensures.ident c.requires.order in
    let made = c.make.ensures.between in
    record {
      between = made;
      above = IfOk-weaker c.make.result _ _ (λ x e. (in_order x e).0) made;
      below = IfOk-weaker c.make.result _ _ (λ x e. (in_order x e).1) made;
      length = IfOk-weaker c.make.result _ _ (λ x e. (in_order x e).2) made;
    }
