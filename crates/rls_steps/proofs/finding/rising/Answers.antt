use Rattle.std.proofs.Common.{◌+◌, drop, refl, ◌∙◌, arith}
use Rattle.rls_tree.proofs.Puts.{get_drop}
use Rattle.std.specs.Prelude.{slice_index}
use Rattle.std.proofs.lemmas.Option.{slice_get-get_or, slice_get_within}
use Rattle.rls_steps.proofs.FreeRuns.{rising_next}
use Rattle.rls_steps.proofs.SweptRuns.{take_one}
use Rattle.rls_steps.proofs.finding.rising.Goals as goal

pub labels-init : goal.labels-init
labels-init c =
    let ls = c.args.labels.now in
    let from = c.args.from in
    record { some = omega arith; most = omega (arith, c.requires.some); within = omega (arith, c.requires.place); rising = take_one ls from (slice_index ls from) (slice_get-get_or ls from 0 c.requires.place) }

pub labels-preserved : goal.labels-preserved
labels-preserved c =
    let ls = c.args.labels.now in
    let from = c.args.from in
    let n = c.labels.count in
    let next = c.goes_on.ensures.next c.if-goes_on.true in
    let short = slice_get_within ls (from + n) (slice_index ls from + n) next in
    record {
      some = omega arith;
      most = omega (arith, c.labels-test.true);
      within = omega (arith, short);
      rising = rising_next (drop from ls) (slice_index ls from) n (slice_index ls from + n) (get_drop from n ls ∙ next) refl c.labels.invariant.rising;
    }
