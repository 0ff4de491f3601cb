use Rattle.std.proofs.Common.{◌≡◌, ◌-◌, Some, length, drop, refl, ap, ◌∙◌, arith}
use Rattle.std.specs.Prelude.{slice_get}
use Rattle.std.proofs.lemmas.List.{length-map}
use Rattle.std.proofs.lemmas.Option.{slice_get_read}
use Rattle.rls_runs.specs.Runs.{idents_of}
use Rattle.rls_runs.proofs.RunOrder.{run_some}
use Rattle.rls_epoch.specs.declared.ways.Step.TheVariants.{Back}
use Rattle.rls_epoch.proofs.Parting.{fewer_back, idents_back, some_back}
use Rattle.rls_epoch.proofs.Turning.{one_ahead}
use Rattle.rls_epoch.proofs.nodes.Nodes.last_part.Goals as goal

pub runs_moved-requires-clause-idents : goal.runs_moved-requires-clause-idents
runs_moved-requires-clause-idents c = rw c.split_at.ensures.back (idents_back c.args.runs.now c.in_ok-start.start c.requires.idents)

pub runs_moved-requires-clause-total : goal.runs_moved-requires-clause-total
runs_moved-requires-clause-total c =
    let l = fewer_back c.args.runs.now c.in_ok-start.start in
    let t = c.requires.total in
    rw c.split_at.ensures.back (omega arith)

pub returns-clause-idents : goal.returns-clause-idents
returns-clause-idents c =
    let rs = c.args.runs.now in
    let s = c.in_ok-start.start in
    let r = c.index-runs-end.result in
    let l = c.requires.runs in
    let f = c.in_ok-start.ensures.fewer in
    let g : slice_get rs (length rs - 1) ≡ Some r = slice_get_read rs _ (length rs - 1) r refl (omega arith) c.index-runs-end.is in
    let some = some_back rs s (length rs - 1) r (omega arith) g (run_some r c.len-len.ensures.run) in
    let m = ap length (rw c.split_at.ensures.back at c.in_ok-ids-2.ensures.moved) ∙ length-map (idents_of (drop s rs)) _ in
    omega (arith, some, m)

pub returns-clause-led : goal.returns-clause-led
returns-clause-led c =
    one_ahead c.args.self.now.placed c.args.steps.now (idents_of (drop c.in_ok-start.start c.args.runs.now)) c.in_ok-ids-2.ids (Back 0) c.requires.some (rw c.split_at.ensures.back at c.in_ok-ids-2.ensures.moved)
