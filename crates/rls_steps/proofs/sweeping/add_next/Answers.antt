use Rattle.std.proofs.Common.{◌≡◌, ℕ, ◌++◌, Bool, List, true, take, drop, ap, sym, ◌∙◌, subst, arith}
use Rattle.std.specs.Prelude.{◌&&◌, ◌||◌, filter, reverse, is_ok, Option, IfSome}
use Rattle.std.proofs.lemmas.List.{append-nil}
use Rattle.rls_ident.proofs.Positions.{get_of}
use Rattle.rls_ident.specs.declared.tuple.Tuple.{Tuple}
use Rattle.rls_ident.specs.Lists.{IsIn}
use Rattle.rls_runs.specs.Runs.{place_of}
use Rattle.rls_seen.specs.Seen.{idents_over}
use Rattle.rls_steps.specs.Labelled.{Names}
use Rattle.rls_steps.specs.NameRuns.{Stretch, names_in, names_of}
use Rattle.rls_steps.specs.Bounds.{IsLatest}
use Rattle.rls_steps.specs.Sweeping.{is_kept, is_needed, is_newest}
use Rattle.rls_steps.proofs.SweptRuns.{none_kept, one_kept, rising_sorted, run_kept, run_within}
use Rattle.rls_steps.proofs.sweeping.add_next.Goals as goal

pub add_kept-requires-clause-sorted : goal.add_kept-requires-clause-sorted
add_kept-requires-clause-sorted c = rising_sorted c.args.labels.now c.requires.rising

pub returns-in_ok-push_pending-in-Some-clause-within : goal.returns-in_ok-push_pending-in-Some-clause-within
returns-in_ok-push_pending-in-Some-clause-within c =
    let latest = subst (λ (o : Option Stretch). IfSome o (λ r. IsLatest c.args.names.now c.args.i r)) c.in-Some.is c.in_ok-run.ensures.latest in
    let size = c.len-count.ensures.len in
    let some = c.len-count.ensures.some in
    let within = run_within c.args.names.now c.args.i c.in-Some.run' latest (omega (arith, size, some)) in
    omega (arith, within, size)

pub returns-in_ok-push_pending-in-Some-clause-kept : goal.returns-in_ok-push_pending-in-Some-clause-kept
returns-in_ok-push_pending-in-Some-clause-kept c =
    let xs = idents_over c.args.replica.now in
    let ls = c.args.labels.now in
    let ns = c.args.names.now in
    let old = c.args.kept.now ++ names_in c.args.last in
    let new = c.push_pending.new.names in
    let r = c.in-Some.run' in
    let latest = subst (λ (o : Option Stretch). IfSome o (λ r. IsLatest c.args.names.now c.args.i r)) c.in-Some.is c.in_ok-run.ensures.latest in
    let needed = subst (λ (o : Option Stretch). IfSome o (λ r. (n : List Tuple × ℕ) → IsIn n (names_of r) → is_needed c.args.labels.now n.1 ≡ true)) c.in-Some.is c.in_ok-run.ensures.needed in
    let more = ap (λ (zs : Names). zs ++ names_of r) c.in_ok-push_pending-in-Some.ensures.names in
    subst (λ n. new ++ names_of r ≡ old ++ filter (is_kept xs ls (reverse ns)) (take n (drop c.args.i ns))) (sym c.len-count.ensures.len)
    (run_kept xs ls ns old (new ++ names_of r) c.args.i r latest needed more)

pub returns-in_ok-run-in-None-clause-kept : goal.returns-in_ok-run-in-None-clause-kept
returns-in_ok-run-in-None-clause-kept c =
    let xs = idents_over c.args.replica.now in
    let ns = c.args.names.now in
    let x = get_of ns c.args.i c.requires.place in
    one_kept (is_kept xs c.args.labels.now (reverse ns)) ns (c.args.kept.now ++ names_in c.args.last) (c.add_kept.new.kept ++ names_in c.in_ok-run-in-None.run') c.args.i x.0 x.1 (c.in_ok-run-in-None.ensures.kept x.0 x.1)

pub returns-then-not-any_needed-clause-kept : goal.returns-then-not-any_needed-clause-kept
returns-then-not-any_needed-clause-kept c =
    let xs = idents_over c.args.replica.now in
    let ls = c.args.labels.now in
    let ns = c.args.names.now in
    let old = c.args.kept.now ++ names_in c.args.last in
    let t = is_kept xs ls (reverse ns) in
    let ahead = c.rest_of_run-ahead in
    let none = none_kept t ns c.args.i ahead.result.count (λ j m h g.
    let w = ahead.ensures.labels j m h g in
    ap (λ (b : Bool). b && (is_newest (reverse ns) m || is_ok (place_of m.0 xs))) (c.any_needed.ensures.none c.if-not-any_needed.true m.1 w.0 w.1)) in
    sym (ap (λ (zs : Names). old ++ zs) none ∙ append-nil old)
