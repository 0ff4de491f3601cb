use Rattle.std.proofs.Common.{◌≡◌, ◌+◌, ◌≤◌, ◌++◌, ℕ, true, List, map, Some, ap, sym, ◌∙◌, subst, length, arith}
use Rattle.std.specs.Prelude.{slice_get}
use Rattle.std.proofs.lemmas.Option.{slice_get_read}
use Rattle.std.proofs.lemmas.List.{take_all}
use Rattle.rls_ident.specs.declared.tuple.Tuple.{Tuple}
use Rattle.rls_runs.specs.Runs.{runs_of, idents_of, is_increasing, AreIdents}
use Rattle.rls_runs.proofs.RunsOf.{idents_of_runs}
use Rattle.rls_rename.specs.Renaming.{forward}
use Rattle.rls_epoch.proofs.Moving.{image_more, more_fits, renaming_order}
use Rattle.rls_epoch.proofs.images.runs_renamed.Goals as goal

module _ (c : goal.After-as_slice) where
  abbrev rs : List (List Tuple × ℕ)
  rs = runs_of c.args.ids.now

  here : slice_get rs c.loop-run.run-index ≡ Some c.run-item.result
  here = let same = c.as_slice-run-items.ensures.runs in slice_get_read rs _ c.loop-run.run-index c.run-item.result (ap length same) c.loop-run-test.true (rw same at c.run-item.is)

  idents : AreIdents (idents_of rs)
  idents = subst (λ (xs : List (List Tuple)). AreIdents xs) (sym (idents_of_runs c.args.ids.now)) c.total-total.ensures.idents

  fits : (is_increasing (c.loop-run.renamed ++ idents_of c.in_ok-forward_run.field-0) ≡ true) × (length c.loop-run.renamed + length (idents_of c.in_ok-forward_run.field-0) ≤ length (idents_of rs))
  fits = more_fits (forward c.args.renaming.now) (renaming_order c.args.renaming.now c.total-some.ensures.former) rs c.loop-run.run-index c.run-item.result here c.loop-run.renamed (idents_of c.in_ok-forward_run.field-0) c.loop-run.invariant c.in_ok-forward_run.ensures.image.idents idents

pub append_all-requires-clause-above : goal.append_all-requires-clause-above
append_all-requires-clause-above c = rw c.as_slice.ensures.runs (fits c).0

pub append_all-requires-clause-total : goal.append_all-requires-clause-total
append_all-requires-clause-total c =
    let h = (fits c).1 in
    let a = ap length (idents_of_runs c.args.ids.now) in
    let t = c.total-total.ensures.total in
    rw c.as_slice.ensures.runs (omega (arith, h, a, t))

pub loop-run-preserved : goal.loop-run-preserved
loop-run-preserved c =
    let same = c.as_slice-run-items.ensures.runs in
    let g : slice_get (runs_of c.args.ids.now) c.loop-run.run-index ≡ Some c.run-item.result = slice_get_read (runs_of c.args.ids.now) _ c.loop-run.run-index c.run-item.result (ap length same) c.loop-run-test.true (rw same at c.run-item.is) in
    (rw c.as_slice.ensures.runs at c.in_ok-append_all.ensures.ok)
    ∙ image_more (forward c.args.renaming.now) (runs_of c.args.ids.now) c.loop-run.run-index c.run-item.result g c.loop-run.renamed (idents_of c.in_ok-forward_run.field-0) c.loop-run.invariant c.in_ok-forward_run.ensures.image.idents

pub returns : goal.returns
returns c =
    let rs = runs_of c.args.ids.now in
    let k = c.loop-run.run-index in
    let f = forward c.args.renaming.now in
    let same = ap length c.as_slice-run-items.ensures.runs in
    let all : length rs ≤ k = omega (arith, same) in
    record { renamed = c.loop-run.invariant ∙ ap (λ qs. map f (idents_of qs)) (take_all k rs all) ∙ ap (map f) (idents_of_runs c.args.ids.now) }
