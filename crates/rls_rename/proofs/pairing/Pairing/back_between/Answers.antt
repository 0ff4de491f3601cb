use Rattle.std.proofs.Common.{◌≡◌, ◌+◌, ◌-◌, arith}
use Rattle.std.proofs.lemmas.Result.{IfOk-weaker}
use Rattle.rls_runs.proofs.RunOrder.{run_ident}
use Rattle.rls_rename.proofs.GapImages.{neighbours, above_new, below_new}
use Rattle.rls_rename.proofs.Fronts.{inside_back}
use Rattle.rls_rename.proofs.pairing.Pairing.back_between.Goals as goal

pub below-requires : goal.below-requires
below-requires c = record { less = rw c.new_at.ensures.new (below_new c.args.self.now.first c.args.self.now.former _ _ c.requires.gap c.requires.within) }

pub new_between_inverse-requires-clause-above : goal.new_between_inverse-requires-clause-above
new_between_inverse-requires-clause-above c = rw c.in_ok-z.ensures.first (above_new c.args.self.now.first c.args.self.now.former _ _ c.requires.gap c.requires.some (omega arith))

pub new_between_inverse-requires-clause-below : goal.new_between_inverse-requires-clause-below
new_between_inverse-requires-clause-below c =
    let k : c.args.gap - 1 + 1 ≡ c.args.gap = let h = c.requires.some in omega arith in
    rw (c.in_ok-z.ensures.first, k) (below_new c.args.self.now.first c.args.self.now.former _ _ c.requires.gap c.requires.within)

pub old_between-requires : goal.old_between-requires
old_between-requires c = record { less = neighbours c.args.self.now.former c.args.gap c.in_ok-a.a c.in_ok-get.field-0 c.args.self.now.increase c.requires.some c.in_ok-a.ensures.found c.in_ok-get.ensures.found }

pub returns : goal.returns
returns c =
    let cut = rw c.new_at.ensures.new at c.in_ok-z.ensures.cut in
    let above = above_new c.args.self.now.first c.args.self.now.former _ _ c.requires.gap c.requires.some (omega arith) in
    record {
      back = IfOk-weaker c.old_between.result _ _
          (λ x e. inside_back _ _ _ _ _ _ c.in_ok-z.ensures.first _ _ x.first x.len c.args.self.now.increase (run_ident c.args.run.now c.len-len.ensures.run) c.args.gap c.requires.some c.in_ok-a.a c.in_ok-a.ensures.found c.in_ok-get.field-0 c.in_ok-get.ensures.found above cut c.in_ok-y.ensures.new e) c.old_between.ensures.old;
    }
