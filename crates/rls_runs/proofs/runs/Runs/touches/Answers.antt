use Rattle.std.proofs.Common.{◌≡◌, ◌-◌, length, Some, slice_get, sym, ap, ◌∙◌}
use Rattle.rls_runs.specs.Places.{touches}
use Rattle.rls_runs.proofs.RunLists.{last_there}
use Rattle.rls_runs.proofs.runs.Runs.touches.Goals as goal

pub returns-in-Some : goal.returns-in-Some
returns-in-Some c =
    let rs = c.self.inside.runs.items in
    let g : slice_get rs (length rs - 1) ≡ Some c.in-Some.last.now = rw c.deref.ensures.value at (sym c.in-Some.ensures.value) in
    record { touches = c.touches.ensures.touches ∙ ap (λ o. touches o c.args.first.now) (sym (last_there rs c.self.inside.starts.items c.self.inside.total c.self.invariant _ c.self.view_is c.in-Some.last.now g)) }
