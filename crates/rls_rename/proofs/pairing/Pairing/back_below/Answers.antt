use Rattle.std.proofs.lemmas.Result.{IfOk-weaker}
use Rattle.rls_rename.proofs.Made.{former_some}
use Rattle.rls_rename.proofs.GapImages.{below_new}
use Rattle.rls_rename.proofs.Fronts.{first_back}
use Rattle.rls_rename.proofs.pairing.Pairing.back_below.Goals as goal

pub below-requires : goal.below-requires
below-requires c = record { less = rw c.new_at.ensures.new (below_new c.args.self.now.first c.args.self.now.former _ 0 c.requires.gap (former_some c.args.self.now.former c.args.self.now.increase)) }

pub new_below_inverse-requires : goal.new_below_inverse-requires
new_below_inverse-requires c = record { less = rw c.in_ok-z.ensures.first (below_new c.args.self.now.first c.args.self.now.former _ 0 c.requires.gap (former_some c.args.self.now.former c.args.self.now.increase)) }

pub returns : goal.returns
returns c =
    let cut = rw c.new_at.ensures.new at c.in_ok-z.ensures.cut in
    record { back = IfOk-weaker c.old_below.result _ _ (λ x e. first_back _ _ _ _ _ _ c.in_ok-z.ensures.first _ _ x.first x.len c.in_ok-a.a c.in_ok-a.ensures.found cut c.in_ok-new_below_inverse.ensures.new e) c.old_below.ensures.old }
