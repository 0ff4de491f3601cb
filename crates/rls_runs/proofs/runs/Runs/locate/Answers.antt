use Rattle.std.proofs.Common.{◌+◌, ◌<◌, None, drop, length, get_or, slice_get, sym, ap, ◌∙◌, subst, arith}
use Rattle.rls_runs.specs.Runs.{runs_of}
use Rattle.rls_runs.specs.Places.{first_len}
use Rattle.rls_runs.proofs.RunsOf.{runs_of_idents}
use Rattle.rls_runs.proofs.RunLists.{starts_long, start_is, some_runs, placed, placed_short, placed_on, placed_rest}
use Rattle.rls_runs.proofs.runs.Runs.locate.Goals as goal

pub run_at-k-requires-clause-some : goal.run_at-k-requires-clause-some
run_at-k-requires-clause-some c =
    let rs = c.self.inside.runs.items in
    let long = starts_long rs c.self.inside.starts.items c.self.inside.total c.self.invariant in
    let some = some_runs rs c.args.i (subst (λ xs. c.args.i < length xs) (sym c.self.view_is) c.requires.place) in
    let d = ap length c.deref.ensures.value in
    omega arith

pub run_at-k-requires-clause-first : goal.run_at-k-requires-clause-first
run_at-k-requires-clause-first c =
    let rs = c.self.inside.runs.items in
    let some = some_runs rs c.args.i (subst (λ xs. c.args.i < length xs) (sym c.self.view_is) c.requires.place) in
    let zero = start_is rs c.self.inside.starts.items c.self.inside.total c.self.invariant 0 0 some in
    let d = ap (λ xs. get_or xs 0 0) c.deref.ensures.value in
    omega arith

pub index-requires : goal.index-requires
index-requires c =
    let long = starts_long c.self.inside.runs.items c.self.inside.starts.items c.self.inside.total c.self.invariant in
    let d = ap length c.deref.ensures.value in
    omega arith

pub overflow_cast-result : goal.overflow_cast-result
overflow_cast-result c =
    let short = placed_short c.self.inside.runs.items c.self.inside.starts.items c.self.inside.total c.self.invariant c.deref.result.now c.deref.ensures.value c.run_at-k.result c.args.i c.index-2.result.now c.index.result.now c.run_at-k.ensures.within c.index.ensures c.index-2.ensures c.run_at-k.ensures.below c.run_at-k.ensures.above (subst (λ xs. c.args.i < length xs) (sym c.self.view_is) c.requires.place) in
    omega arith

pub returns-clause-run : goal.returns-clause-run
returns-clause-run c =
    let rs = c.self.inside.runs.items in
    let e = sym (ap runs_of c.self.view_is) ∙ runs_of_idents None rs c.self.invariant.apart in
    let long = starts_long rs c.self.inside.starts.items c.self.inside.total c.self.invariant in
    let d = ap length c.deref.ensures.value in
    let n = ap length e in
    (c.run_at-k.result, omega arith, ap (λ xs. get_or xs c.run_at-k.result c.index.result.now) e ∙ sym c.index.ensures)

pub returns-clause-within : goal.returns-clause-within
returns-clause-within c =
    let p = placed c.self.inside.runs.items c.self.inside.starts.items c.self.inside.total c.self.invariant c.deref.result.now c.deref.ensures.value c.run_at-k.result c.args.i c.index-2.result.now c.index.result.now c.run_at-k.ensures.within c.index.ensures c.index-2.ensures c.run_at-k.ensures.below c.run_at-k.ensures.above (subst (λ xs. c.args.i < length xs) (sym c.self.view_is) c.requires.place) in
    omega arith

pub returns-clause-idents : goal.returns-clause-idents
returns-clause-idents c =
    λ k h. ap (λ xs. slice_get xs (c.args.i + k)) (sym c.self.view_is) ∙ placed_on c.self.inside.runs.items c.self.inside.starts.items c.self.inside.total c.self.invariant c.deref.result.now c.deref.ensures.value c.run_at-k.result c.args.i c.index-2.result.now c.index.result.now c.run_at-k.ensures.within c.index.ensures c.index-2.ensures c.run_at-k.ensures.below c.run_at-k.ensures.above (subst (λ xs. c.args.i < length xs) (sym c.self.view_is) c.requires.place) k h

pub returns-clause-rest : goal.returns-clause-rest
returns-clause-rest c =
    ap (λ xs. first_len (runs_of (drop c.args.i xs))) (sym c.self.view_is) ∙ placed_rest c.self.inside.runs.items c.self.inside.starts.items c.self.inside.total c.self.invariant c.deref.result.now c.deref.ensures.value c.run_at-k.result c.args.i c.index-2.result.now c.index.result.now c.run_at-k.ensures.within c.index.ensures c.index-2.ensures c.run_at-k.ensures.below c.run_at-k.ensures.above (subst (λ xs. c.args.i < length xs) (sym c.self.view_is) c.requires.place)
