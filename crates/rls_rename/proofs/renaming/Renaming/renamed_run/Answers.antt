use Rattle.std.proofs.Common.{◌≡◌, ap, ◌∙◌, subst, map, arith}
use Rattle.std.proofs.lemmas.Result.{IfOk-weaker}
use Rattle.rls_runs.specs.Runs.{run_idents}
use Rattle.rls_runs.proofs.RunOrder.{run_ident}
use Rattle.rls_rename.specs.Renaming.{IsFormer}
use Rattle.rls_rename.specs.Stretches.{GoesAlong}
use Rattle.rls_rename.specs.Ways.{renamed}
use Rattle.rls_rename.proofs.Ways.{first_image, next_image, next_above}
use Rattle.rls_rename.proofs.renaming.Renaming.renamed_run.Goals as goal

pub loop-done-init : goal.loop-done-init
loop-done-init c =
    let run = c.args.run.now in
    let z = c.in_ok-front.front in
    let g = c.in_ok-front.ensures.renamed in
    record {
      some = z.some;
      within = g.most;
      idents = first_image (renamed c.args.way c.args.self.now) run.0 run.1 z.first z.len c.new-image.result g c.new-image.ensures.image;
    }

pub with-requires : goal.with-requires
with-requires c =
    let run = c.args.run.now in
    let rest = c.into_run-rest.result in
    let z = c.in_ok-front-2.front in
    let F = renamed c.args.way c.args.self.now in
    let first = ap (λ r. r.0) c.into_run-rest.ensures.run ∙ c.in_ok-behind.ensures.first in
    let goes = subst (λ y. GoesAlong F y rest.1 z.first z.len) first c.in_ok-front-2.ensures.renamed in
    let former = subst (λ R. IsFormer R.former) c.self.view_is c.self.inside.pairing.increase in
    record {
      above = next_above c.args.way c.args.self.now run.0 c.loop-done.done rest.1 z.first z.len c.loop-done.image former (run_ident run c.len.ensures.run) c.loop-done.invariant.some z.some goes c.loop-done.invariant.idents;
    }

pub loop-done-preserved : goal.loop-done-preserved
loop-done-preserved c =
    let run = c.args.run.now in
    let rest = c.into_run-rest.result in
    let z = c.in_ok-front-2.front in
    let F = renamed c.args.way c.args.self.now in
    let first = ap (λ r. r.0) c.into_run-rest.ensures.run ∙ c.in_ok-behind.ensures.first in
    let len = ap (λ r. r.1) c.into_run-rest.ensures.run ∙ c.in_ok-behind.ensures.len in
    let goes = subst (λ y. GoesAlong F y rest.1 z.first z.len) first c.in_ok-front-2.ensures.renamed in
    let most = goes.most in
    let some = c.loop-done.invariant.some in
    let within = c.loop-done.invariant.within in
    record {
      some = omega arith;
      within = omega arith;
      idents = c.in_ok-image.ensures.image ∙ next_image F run.0 c.loop-done.done rest.1 z.first z.len c.loop-done.image goes c.loop-done.invariant.idents;
    }

pub returns : goal.returns
returns c =
    let run = c.args.run.now in
    let F = renamed c.args.way c.args.self.now in
    let within = c.loop-done.invariant.within in
    let n = c.len.ensures.len in
    let all : c.loop-done.done ≡ run.1 = omega arith in
    let idents = c.loop-done.invariant.idents ∙ ap (λ k. map F (run_idents run.0 k)) all in
    record {
      image = IfOk-weaker c.into_runs.result _ _ (λ rs e. rw e record { idents = idents; apart = c.into_runs.ensures.apart }) c.into_runs.ensures.runs;
    }
