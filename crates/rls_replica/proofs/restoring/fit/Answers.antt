use Rattle.std.proofs.Common.{◌≡◌, true, map, subst}
use Rattle.std.specs.List.{list_all}
use Rattle.rls_runs.specs.Runs.{is_run}
use Rattle.rls_model.specs.declared.parts.TextRun.{TextRun}
use Rattle.rls_replica.proofs.GivenPieces.{former_each, fit_each}
use Rattle.rls_replica.specs.Fitting.{HaveFormer, AreFit}
use Rattle.rls_replica.proofs.restoring.fit.Goals as goal

pub returns : goal.returns
returns c =
    let p = c.args.parts.now in
    let waiting = subst AreFit c.as_slice-3.ensures.ops c.ops_fit.ensures.ops in
    record {
      ranged = record {
        group = c.large.ensures.large;
        vector = c.len-len.ensures.bounded;
        former = former_each p.epochs (subst HaveFormer c.as_slice.ensures.items c.former_fit.ensures.former);
        runs = subst (λ rs. list_all is_run (map (λ (r : TextRun). r.run) rs) ≡ true) c.as_slice-2.ensures.items c.runs_fit.ensures.runs;
        log = λ o q. (fit_each p.log c.fits.ensures.whole o q).0;
        held = λ o q. fit_each p.held waiting o q;
      };
    }
