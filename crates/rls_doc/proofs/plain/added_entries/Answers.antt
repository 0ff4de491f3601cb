use Rattle.std.proofs.Common.{length, refl}
use Rattle.std.specs.Prelude.{zip}
use Rattle.std.proofs.lemmas.Option.{slice_get_read}
use Rattle.rls_runs.specs.Runs.{idents_of}
use Rattle.rls_doc.proofs.Zipped.{run_fits, run_left, run_zipped}
use Rattle.rls_doc.proofs.plain.added_entries.Goals as goal

pub push_run-requires : goal.push_run-requires
push_run-requires c =
    let rs = c.args.runs.now in
    let r = c.run-item.result in
    let g = slice_get_read rs (length rs) c.loop-run.run-index r refl c.loop-run-test.true c.run-item.is in
    record { fits = run_fits c.loop-run.added.items rs c.loop-run.run-index r c.args.text.now g c.loop-run.invariant.as_many }

pub loop-run-preserved : goal.loop-run-preserved
loop-run-preserved c =
    let rs = c.args.runs.now in
    let r = c.run-item.result in
    let g = slice_get_read rs (length rs) c.loop-run.run-index r refl c.loop-run-test.true c.run-item.is in
    record {
      as_many = run_left c.loop-run.added.items c.push_run.new.added.items rs c.loop-run.run-index r c.args.text.now g c.loop-run.invariant.as_many c.in_ok-push_run.ensures.pushed;
      zipped = run_zipped c.loop-run.added.items c.push_run.new.added.items rs c.loop-run.run-index r c.args.text.now (zip (idents_of rs) c.args.text.now) g c.loop-run.invariant.as_many c.in_ok-push_run.ensures.pushed c.loop-run.invariant.zipped;
    }
