use Rattle.std.proofs.lemmas.Result.{IfOk-weaker}
use Rattle.rls_runs.proofs.RunOrder.{run_ident}
use Rattle.rls_rename.proofs.GapPlaces.{gap_above, gap_below}
use Rattle.rls_rename.proofs.GapImages.{neighbours}
use Rattle.rls_rename.proofs.Fronts.{inside_forward}
use Rattle.rls_rename.proofs.pairing.Pairing.forward_between.Goals as goal

pub below-requires : goal.below-requires
below-requires c = record { less = gap_above c.args.self.now.former _ _ _ c.requires.gap c.in_ok-b.ensures.found }

pub old_between_inverse-requires-clause-order : goal.old_between_inverse-requires-clause-order
old_between_inverse-requires-clause-order c = neighbours c.args.self.now.former c.args.gap c.in_ok-a.a c.in_ok-b.b c.args.self.now.increase c.requires.some c.in_ok-a.ensures.found c.in_ok-b.ensures.found

pub old_between_inverse-requires-clause-above : goal.old_between_inverse-requires-clause-above
old_between_inverse-requires-clause-above c = rw c.in_ok-x.ensures.first (gap_below c.args.self.now.former _ _ _ c.requires.gap c.requires.some c.in_ok-a.ensures.found)

pub old_between_inverse-requires-clause-below : goal.old_between_inverse-requires-clause-below
old_between_inverse-requires-clause-below c = rw c.in_ok-x.ensures.first (gap_above c.args.self.now.former _ _ _ c.requires.gap c.in_ok-b.ensures.found)

pub returns : goal.returns
returns c = record {
  forward = IfOk-weaker c.new_between.result _ _
      (λ z e. inside_forward _ _ _ _ _ _ c.in_ok-x.ensures.first _ _ z.first z.len c.args.self.now.increase (run_ident c.args.run.now c.len-len.ensures.run) c.args.gap c.requires.some c.in_ok-a.a c.in_ok-a.ensures.found c.in_ok-b.b c.in_ok-b.ensures.found (gap_below c.args.self.now.former _ _ _ c.requires.gap c.requires.some c.in_ok-a.ensures.found) c.in_ok-x.ensures.cut c.in_ok-old_between_inverse.ensures.old e) c.new_between.ensures.new;
}
