use Rattle.std.proofs.Common.{◌≤◌, arith}
use Rattle.std.proofs.lemmas.Result.{IfOk-weaker}
use Rattle.rls_runs.proofs.RunOrder.{run_ident}
use Rattle.rls_rename.proofs.GapPlaces.{gap_below}
use Rattle.rls_rename.proofs.Fronts.{end_forward}
use Rattle.rls_rename.proofs.pairing.Pairing.forward_above.Goals as goal

pub old_above_inverse-requires : goal.old_above_inverse-requires
old_above_inverse-requires c = record { less = rw c.in_ok-x.ensures.first (gap_below c.args.self.now.former _ _ _ c.requires.gap c.requires.some c.in_ok-a.ensures.found) }

pub returns : goal.returns
returns c =
    let all : c.in_ok-x.x.len ≤ c.args.run.now.1 = let l = c.in_ok-x.ensures.len in let n = c.len-len.ensures.len in omega arith in
    record {
      forward = IfOk-weaker c.new_above.result _ _
          (λ z e. end_forward _ _ _ _ _ _ c.in_ok-x.ensures.first _ _ z.first z.len c.args.self.now.increase (run_ident c.args.run.now c.len-len.ensures.run) c.args.gap c.requires.some c.in_ok-a.a c.in_ok-a.ensures.found c.requires.end all (gap_below c.args.self.now.former _ _ _ c.requires.gap c.requires.some c.in_ok-a.ensures.found) c.in_ok-old_above_inverse.ensures.old e) c.new_above.ensures.new;
    }
