use Rattle.std.proofs.Common.{◌≡◌, ◌+◌, ◌≤◌, ◌++◌, true, map, Some, ap, ◌∙◌, length, arith, refl}
use Rattle.std.specs.Prelude.{slice_get}
use Rattle.std.proofs.lemmas.Option.{slice_get_read}
use Rattle.std.proofs.lemmas.List.{take_all}
use Rattle.rls_runs.specs.Runs.{idents_of, is_increasing}
use Rattle.rls_epoch.specs.Ways.{step_map}
use Rattle.rls_epoch.proofs.Moving.{image_more, more_fits, step_order}
use Rattle.rls_epoch.proofs.nodes.Nodes.runs_moved.Goals as goal

module _ (c : goal.After-as_slice) where
  here : slice_get c.args.runs.now c.loop-run.run-index ≡ Some c.run-item.result
  here = slice_get_read c.args.runs.now _ c.loop-run.run-index c.run-item.result refl c.loop-run-test.true c.run-item.is

  fits : (is_increasing (c.loop-run.moved ++ idents_of c.in_ok-run_moved.field-0) ≡ true) × (length c.loop-run.moved + length (idents_of c.in_ok-run_moved.field-0) ≤ length (idents_of c.args.runs.now))
  fits =
      more_fits (step_map c.args.self.now.placed c.args.step) (step_order c.args.self.now.placed c.count-count.ensures.laid.nodes c.args.step c.requires.within) c.args.runs.now c.loop-run.run-index c.run-item.result here c.loop-run.moved (idents_of c.in_ok-run_moved.field-0) c.loop-run.invariant c.in_ok-run_moved.ensures.moved.idents c.requires.idents

pub append_all-requires-clause-above : goal.append_all-requires-clause-above
append_all-requires-clause-above c = rw c.as_slice.ensures.runs (fits c).0

pub append_all-requires-clause-total : goal.append_all-requires-clause-total
append_all-requires-clause-total c = let t = c.requires.total in let h = (fits c).1 in rw c.as_slice.ensures.runs (omega (arith, t, h))

pub loop-run-preserved : goal.loop-run-preserved
loop-run-preserved c =
    let g : slice_get c.args.runs.now c.loop-run.run-index ≡ Some c.run-item.result = slice_get_read c.args.runs.now _ c.loop-run.run-index c.run-item.result refl c.loop-run-test.true c.run-item.is in
    (rw c.as_slice.ensures.runs at c.in_ok-append_all.ensures.ok) ∙ image_more (step_map c.args.self.now.placed c.args.step) c.args.runs.now c.loop-run.run-index c.run-item.result g c.loop-run.moved (idents_of c.in_ok-run_moved.field-0) c.loop-run.invariant c.in_ok-run_moved.ensures.moved.idents

pub returns : goal.returns
returns c =
    let rs = c.args.runs.now in
    let f = step_map c.args.self.now.placed c.args.step in
    let all : length rs ≤ c.loop-run.run-index = omega arith in
    record { moved = c.loop-run.invariant ∙ ap (λ qs. map f (idents_of qs)) (take_all c.loop-run.run-index rs all) }
