use Rattle.std.proofs.Common.{◌+◌, length, slice_get, sym, ap, ◌∙◌, inl, inr, arith}
use Rattle.rls_runs.specs.Runs.{idents_of}
use Rattle.rls_runs.specs.Places.{find_ident}
use Rattle.rls_runs.proofs.RunPlaces.{moved, found_there}
use Rattle.rls_runs.proofs.RunLists.{starts_long, rising, none_found, searched, searched_fits, is_place}
use Rattle.rls_runs.proofs.runs.Runs.find.Goals as goal

pub returns-then-behind-eq0-clause-find : goal.returns-then-behind-eq0-clause-find
returns-then-behind-eq0-clause-find c =
    let none = none_found c.self.inside.runs.items c.self.inside.starts.items c.self.inside.total c.self.invariant c.args.id.now (λ q g. c.runs_up_to-behind.ensures.above q (rw (c.if-behind-eq0.true, c.deref.ensures.value) g)) in
    none ∙ ap (λ xs. find_ident xs c.args.id.now) c.self.view_is

pub index-start-requires : goal.index-start-requires
index-start-requires c =
    let long = starts_long c.self.inside.runs.items c.self.inside.starts.items c.self.inside.total c.self.invariant in
    let d = ap length c.deref.ensures.value in
    omega (arith, c.runs_up_to-behind.ensures.within)

pub overflow_add-result : goal.overflow_add-result
overflow_add-result c =
    let fits = searched_fits c.self.inside.runs.items c.self.inside.starts.items c.self.inside.total c.self.invariant c.deref.result.now c.deref.ensures.value c.runs_up_to-behind.result c.index-start.result.now c.index.result.now c.args.id.now (omega arith) c.runs_up_to-behind.ensures.within c.index.ensures c.index-start.ensures c.runs_up_to-behind.ensures.below c.runs_up_to-behind.ensures.above c.in-Ok.place (inl (sym c.in-Ok.ensures.find)) in
    omega arith

pub overflow_add-result-in-Err : goal.overflow_add-result-in-Err
overflow_add-result-in-Err c =
    let fits = searched_fits c.self.inside.runs.items c.self.inside.starts.items c.self.inside.total c.self.invariant c.deref.result.now c.deref.ensures.value c.runs_up_to-behind.result c.index-start.result.now c.index.result.now c.args.id.now (omega arith) c.runs_up_to-behind.ensures.within c.index.ensures c.index-start.ensures c.runs_up_to-behind.ensures.below c.runs_up_to-behind.ensures.above c.in-Err.below (inr (sym c.in-Err.ensures.find)) in
    omega arith

pub returns-in-Ok-clause-find : goal.returns-in-Ok-clause-find
returns-in-Ok-clause-find c = ap (moved c.index-start.result.now) c.in-Ok.ensures.find ∙ searched c.self.inside.runs.items c.self.inside.starts.items c.self.inside.total c.self.invariant c.deref.result.now c.deref.ensures.value c.runs_up_to-behind.result c.index-start.result.now c.index.result.now c.args.id.now (omega arith) c.runs_up_to-behind.ensures.within c.index.ensures c.index-start.ensures c.runs_up_to-behind.ensures.below c.runs_up_to-behind.ensures.above ∙ ap (λ xs. find_ident xs c.args.id.now) c.self.view_is

pub returns-in-Ok-clause-there : goal.returns-in-Ok-clause-there
returns-in-Ok-clause-there c =
    let rs = c.self.inside.runs.items in
    let found = ap (moved c.index-start.result.now) c.in-Ok.ensures.find ∙ searched c.self.inside.runs.items c.self.inside.starts.items c.self.inside.total c.self.invariant c.deref.result.now c.deref.ensures.value c.runs_up_to-behind.result c.index-start.result.now c.index.result.now c.args.id.now (omega arith) c.runs_up_to-behind.ensures.within c.index.ensures c.index-start.ensures c.runs_up_to-behind.ensures.below c.runs_up_to-behind.ensures.above in
    let there = found_there (idents_of rs) c.args.id.now (c.index-start.result.now + c.in-Ok.place) (rising rs c.self.inside.starts.items c.self.inside.total c.self.invariant) (sym found) in
    ap (λ xs. slice_get xs (c.index-start.result.now + c.in-Ok.place)) (sym c.self.view_is) ∙ there

pub returns-in-Err-clause-find : goal.returns-in-Err-clause-find
returns-in-Err-clause-find c = ap (moved c.index-start.result.now) c.in-Err.ensures.find ∙ searched c.self.inside.runs.items c.self.inside.starts.items c.self.inside.total c.self.invariant c.deref.result.now c.deref.ensures.value c.runs_up_to-behind.result c.index-start.result.now c.index.result.now c.args.id.now (omega arith) c.runs_up_to-behind.ensures.within c.index.ensures c.index-start.ensures c.runs_up_to-behind.ensures.below c.runs_up_to-behind.ensures.above ∙ ap (λ xs. find_ident xs c.args.id.now) c.self.view_is

pub returns-then-behind-eq0-clause-place : goal.returns-then-behind-eq0-clause-place
returns-then-behind-eq0-clause-place c = returns-then-behind-eq0-clause-find c ∙ is_place c.self.inside.runs.items c.self.inside.starts.items c.self.inside.total c.self.invariant c.args.self.now c.self.view_is c.args.id.now

pub returns-in-Ok-clause-place : goal.returns-in-Ok-clause-place
returns-in-Ok-clause-place c = returns-in-Ok-clause-find c ∙ is_place c.self.inside.runs.items c.self.inside.starts.items c.self.inside.total c.self.invariant c.args.self.now c.self.view_is c.args.id.now

pub returns-in-Err-clause-place : goal.returns-in-Err-clause-place
returns-in-Err-clause-place c = returns-in-Err-clause-find c ∙ is_place c.self.inside.runs.items c.self.inside.starts.items c.self.inside.total c.self.invariant c.args.self.now c.self.view_is c.args.id.now
