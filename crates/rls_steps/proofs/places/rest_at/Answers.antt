use Rattle.std.proofs.Common.{◌≡◌, ◌+◌, ◌-◌, ◌<◌, ℕ, List, get_or, sym, ◌∙◌, subst, arith}
use Rattle.rls_ident.proofs.Members.{some_is}
use Rattle.rls_ident.specs.declared.tuple.Tuple.{Tuple}
use Rattle.rls_ident.specs.Lists.{IsIn}
use Rattle.rls_steps.specs.NameRuns.{name_at, names_of}
use Rattle.rls_steps.proofs.Indexing.{starts_begin, start_within, stretch_there, place_short, short_there, place_name, run_ends}
use Rattle.rls_steps.proofs.Stretches.{name_in}
use Rattle.rls_steps.proofs.places.rest_at.Goals as goal

pub run_at-k-requires : goal.run_at-k-requires
run_at-k-requires c = let b = starts_begin _ _ c.args.i c.requires.starts c.requires.place in record { some = b.0; first = b.1 }

pub offset_bounds-runs-k : goal.offset_bounds-runs-k
offset_bounds-runs-k c = omega (arith, start_within c.args.runs.now c.args.starts.now c.run_at-k.result c.requires.starts c.run_at-k.ensures.within)

pub bounds-runs-k : goal.bounds-runs-k
bounds-runs-k c = omega (arith, start_within c.args.runs.now c.args.starts.now c.run_at-k.result c.requires.starts c.run_at-k.ensures.within)

pub overflow_sub-result-2 : goal.overflow_sub-result-2
overflow_sub-result-2 c = omega (arith, short_there _ _ c.args.i _ _ c.requires.starts c.requires.place c.run_at-k.ensures.within c.run_at-k.ensures.below c.run_at-k.ensures.above c.index-runs-k.is, c.len.ensures.len)

pub returns-clause-some : goal.returns-clause-some
returns-clause-some c = omega (arith, short_there _ _ c.args.i _ _ c.requires.starts c.requires.place c.run_at-k.ensures.within c.run_at-k.ensures.below c.run_at-k.ensures.above c.index-runs-k.is, c.len.ensures.len)

pub returns-clause-within : goal.returns-clause-within
returns-clause-within c =
    let rs = c.args.runs.now in
    let h = c.run_at-k.ensures.within in
    let g = stretch_there rs c.args.starts.now c.run_at-k.result c.index-runs-k.result c.requires.starts h c.index-runs-k.is in
    let size = c.len.ensures.len in
    let some = c.len.ensures.some in
    let below = c.run_at-k.ensures.below in
    let ends = run_ends rs c.args.starts.now c.run_at-k.result c.index-runs-k.result c.requires.starts h g (omega (arith, size, some)) in
    let short = place_short rs c.args.starts.now c.args.i c.run_at-k.result c.index-runs-k.result c.requires.starts c.requires.place h below c.run_at-k.ensures.above g in
    omega (arith, ends, size, below, short)

pub returns-clause-labels : goal.returns-clause-labels
returns-clause-labels c = λ j n less at.
    let rs = c.args.runs.now in
    let ss = c.args.starts.now in
    let k = c.run_at-k.result in
    let r = c.index-runs-k.result in
    let h = c.run_at-k.ensures.within in
    let g = stretch_there rs ss k r c.requires.starts h c.index-runs-k.is in
    let size = c.len.ensures.len in
    let below = c.run_at-k.ensures.below in
    let q : (c.args.i + j) - get_or ss k 0 < r.len = omega (arith, less, size, below) in
    let is = place_name rs ss (c.args.i + j) k r c.requires.starts h (omega (arith, below)) g q in
    let same : name_at r ((c.args.i + j) - get_or ss k 0) ≡ n = some_is (name_at r ((c.args.i + j) - get_or ss k 0)) n (sym is ∙ at) in
    c.labels-low.ensures.labels n (subst (λ (m : List Tuple × ℕ). IsIn m (names_of r)) same (name_in r ((c.args.i + j) - get_or ss k 0) q))
