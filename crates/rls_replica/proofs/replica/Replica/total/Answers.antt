use Rattle.std.proofs.Common.{◌∙◌, ℕ, ap, arith, length, sym}
use Rattle.std.proofs.lemmas.List.{length-map}
use Rattle.rls_runs.proofs.Sorted.{Entry}
use Rattle.rls_seen.specs.Seen.{Seen}
use Rattle.rls_seen.proofs.Keeping.{text_alike}
use Rattle.rls_seen.proofs.Needed.{total_room}
use Rattle.rls_replica.specs.View.{seen}
use Rattle.rls_replica.proofs.replica.Replica.total.Goals as goal

pub returns-clause-room : goal.returns-clause-room
returns-clause-room c = let r = total_room (seen c.self.inside) c.self.invariant.sane in omega (arith, r, c.total.ensures.total)

pub returns-clause-stands : goal.returns-clause-stands
returns-clause-stands c = λ t h.
    let s = c.args.self.now in
    let char : Entry → ℕ = λ z. z.1 in
    c.total.ensures.total ∙ (ap (λ (u : Seen). length u.text) c.self.view_is ∙ (sym (length-map s.text char) ∙ ap length (text_alike s t h)))
