use Rattle.std.proofs.Common.{rules, ◌≡◌, ◌∙◌, length, sym, ap}
use Rattle.rls_seen.specs.Seen.{Seen}
use Rattle.rls_seen.specs.Kept.{marked_over, retained_over, counts_over}
use Rattle.rls_seen.proofs.Keeping.{counts_alike}
use Rattle.rls_replica.specs.View.{seen}
use Rattle.rls_replica.proofs.Marking.{counts_are}
use Rattle.rls_replica.proofs.replica.Replica.counts.Goals as goal

pub returns-clause-counts : goal.returns-clause-counts
unfolding counts_over
returns-clause-counts c =
    let back = sym c.self.view_is in
    let e = c.in_ok-unstable.ensures in
    let epochs : c.len-2.result ≡ length c.in_ok-unstable.retained.names.items = search (rules) in
    counts_are (seen c.self.inside) c.total.result c.run_count.result c.len.result c.in_ok-unstable.unstable c.len-2.result c.in_ok-unstable.retained.former c.total.ensures.total c.run_count.ensures.runs c.len.ensures.len
    (e.unstable ∙ ap (λ (u : Seen). length (marked_over u)) back)
    (epochs ∙ ap length (e.names ∙ ap (λ (u : Seen). retained_over u) back))
    (e.former ∙ ap (λ (u : Seen). (counts_over u).former) back)
    ∙ ap (λ (u : Seen). counts_over u) c.self.view_is

pub returns-clause-stands : goal.returns-clause-stands
returns-clause-stands c = λ t h. returns-clause-counts c ∙ counts_alike c.args.self.now t h
