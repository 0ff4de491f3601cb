use Rattle.std.proofs.Common.{◌≡◌, ◌+◌, length, get_or, sym, ap, ◌∙◌, subst, arith}
use Rattle.std.specs.Prelude.{Some}
use Rattle.std.proofs.lemmas.Option.{slice_get-get_or}
use Rattle.rls_steps.specs.NameRuns.{Stretch, named}
use Rattle.rls_steps.specs.Bounds.{IsLatest}
use Rattle.rls_steps.proofs.Indexing.{starts_begin, start_within, stretch_there}
use Rattle.rls_steps.proofs.LabelRuns.{run_latest}
use Rattle.rls_steps.proofs.Bounded.{none_within}
use Rattle.rls_steps.proofs.places.latest_at.Goals as goal

pub run_at-k-requires : goal.run_at-k-requires
run_at-k-requires c = let b = starts_begin _ _ c.args.i c.requires.starts c.requires.place in record { some = b.0; first = b.1 }

pub offset_bounds-runs-k : goal.offset_bounds-runs-k
offset_bounds-runs-k c = omega (arith, start_within c.args.runs.now c.args.starts.now c.run_at-k.result c.requires.starts c.run_at-k.ensures.within)

pub bounds-runs-k : goal.bounds-runs-k
bounds-runs-k c = omega (arith, start_within c.args.runs.now c.args.starts.now c.run_at-k.result c.requires.starts c.run_at-k.ensures.within)

pub returns-then-high-span : goal.returns-then-high-span
returns-then-high-span c =
    let rs = c.args.runs.now in
    let ss = c.args.starts.now in
    let k = c.run_at-k.result in
    let r = c.index-runs-k.result in
    let span = c.span_at-span.result in
    let low = c.labels-low.result.0 in
    let high = c.labels-low.result.1 in
    let h = c.run_at-k.ensures.within in
    let g = stretch_there rs ss k r c.requires.starts h c.index-runs-k.is in
    let here : get_or ss k 0 ≡ c.args.i = omega (arith, c.if-starts-k.false) in
    let at = slice_get-get_or ss k 0 h ∙ ap Some here in
    let least = c.span_at-span.ensures.low in
    let none = none_within rs span.count (k + 1) (length rs) span.low low span.high high (c.span_at-span.ensures.none rs c.requires.bounded) (omega (arith, c.if-span-k.true)) least (omega (arith, c.if-high-span.true)) in
    record {
      run = subst (λ (q : Stretch). IsLatest (named rs) c.args.i q) (sym c.in_ok-copy.ensures.copy)
          (run_latest rs ss k c.args.i low high r c.requires.sound c.requires.starts g at none c.labels-low.ensures.labels);
    }
