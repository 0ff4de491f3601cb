use Rattle.std.proofs.Common.{◌∙◌, sym}
use Rattle.rls_undo.proofs.Parts.{one_run}
use Rattle.rls_undo.proofs.kept.only_run.Goals as goal

pub returns : goal.returns
returns c = record { run = one_run c.args.ids.now c.run.result.now (sym c.run_count.ensures.count ∙ c.if-run_count-ne1.false) c.run.ensures.run }
