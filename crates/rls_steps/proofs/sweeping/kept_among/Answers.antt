use Rattle.std.proofs.Common.{◌++◌}
use Rattle.std.specs.Prelude.{reverse}
use Rattle.rls_seen.specs.Seen.{idents_over}
use Rattle.rls_steps.specs.NameRuns.{names_in}
use Rattle.rls_steps.specs.Sweeping.{is_kept}
use Rattle.rls_steps.proofs.SweptRuns.{kept_more}
use Rattle.rls_steps.proofs.sweeping.kept_among.Goals as goal

pub names-preserved : goal.names-preserved
names-preserved c =
    let names = c.args.names.now in
    let t = is_kept (idents_over c.args.replica.now) c.args.labels.now (reverse names) in
    record {
      within = c.in_ok-run.ensures.within;
      kept = kept_more t names (c.names.kept ++ names_in c.names.last) (c.add_next.new.kept ++ names_in c.in_ok-run.run') c.names.i c.in_ok-run.count c.names.invariant.kept c.in_ok-run.ensures.kept;
    }
