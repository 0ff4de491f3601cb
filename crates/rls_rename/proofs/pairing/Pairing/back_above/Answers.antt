use Rattle.std.proofs.Common.{◌≤◌, arith}
use Rattle.std.proofs.lemmas.Result.{IfOk-weaker}
use Rattle.rls_runs.proofs.RunOrder.{run_ident}
use Rattle.rls_rename.proofs.GapImages.{above_new}
use Rattle.rls_rename.proofs.Fronts.{end_back}
use Rattle.rls_rename.proofs.pairing.Pairing.back_above.Goals as goal

pub new_above_inverse-requires-clause-less : goal.new_above_inverse-requires-clause-less
new_above_inverse-requires-clause-less c = rw c.in_ok-z.ensures.first (above_new c.args.self.now.first c.args.self.now.former _ _ c.requires.gap c.requires.some (omega arith))

pub returns : goal.returns
returns c =
    let all : c.in_ok-z.z.len ≤ c.args.run.now.1 = let l = c.in_ok-z.ensures.len in let k = c.len-len.ensures.len in omega arith in
    let above = above_new c.args.self.now.first c.args.self.now.former _ _ c.requires.gap c.requires.some (omega arith) in
    record {
      back = IfOk-weaker c.old_above.result _ _
          (λ x e. end_back _ _ _ _ _ _ c.in_ok-z.ensures.first _ _ x.first x.len c.args.self.now.increase (run_ident c.args.run.now c.len-len.ensures.run) c.args.gap c.requires.some c.in_ok-a.a c.in_ok-a.ensures.found c.requires.end all above c.in_ok-new_above_inverse.ensures.new e) c.old_above.ensures.old;
    }
