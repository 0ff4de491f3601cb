use Rattle.std.proofs.Common.{◌+◌, drop, ap, subst}
use Rattle.std.specs.Prelude.{ℕ, Option, IfSome, reverse, slice_index, ◌++◌, ◌≡◌, ◌<◌, ◌^◌}
use Rattle.rls_seen.specs.Seen.{idents_over}
use Rattle.rls_steps.specs.Index.{named_places, all_places}
use Rattle.rls_steps.specs.Rows.{row_places}
use Rattle.rls_steps.proofs.Rows.{row_pushed, rest_at}
use Rattle.rls_steps.proofs.finding.push_next.Goals as goal

pub push_row-requires : goal.push_row-requires
push_row-requires c =
    record { end = subst (λ (o : Option (Option ℕ × ℕ)). IfSome o (λ p. IfSome p.0 (λ at. at + p.1 < 2 ^ 64))) c.in-Some.is c.in_ok-row_places.ensures.room }

pub returns-in_ok-push_places-in-None-clause-places : goal.returns-in_ok-push_places-in-None-clause-places
returns-in_ok-push_places-in-None-clause-places c =
    let xs = idents_over c.args.replica.now in
    let ns = reverse c.args.names.now in
    let ls = c.args.labels.now in
    row_pushed c.args.places.now.items c.push_places.new.places.items (named_places xs (slice_index ls c.args.i) ns) (all_places xs (drop (c.args.i + 1) ls) ns) (all_places xs (drop c.args.i ls) ns) c.in_ok-push_places-in-None.ensures.ok
    (ap (λ ms. all_places xs ms ns) (rest_at ls c.args.i c.requires.place))

pub returns-in_ok-push_row-in-Some-clause-places : goal.returns-in_ok-push_row-in-Some-clause-places
returns-in_ok-push_row-in-Some-clause-places c =
    let xs = idents_over c.args.replica.now in
    let ns = reverse c.args.names.now in
    let ls = c.args.labels.now in
    let at = c.in-Some.at in
    let n = c.in-Some.count in
    let there = subst (λ (o : Option (Option ℕ × ℕ)). IfSome o (λ p. all_places xs (drop c.args.i ls) ns ≡ row_places p.0 p.1 ++ all_places xs (drop (c.args.i + p.1) ls) ns)) c.in-Some.is c.in_ok-row_places.ensures.places in
    row_pushed c.args.places.now.items c.push_row.new.places.items (row_places at n) (all_places xs (drop (c.args.i + n) ls) ns) (all_places xs (drop c.args.i ls) ns) c.in_ok-push_row-in-Some.ensures.places there
