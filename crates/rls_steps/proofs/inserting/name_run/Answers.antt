use Rattle.std.proofs.Common.{◌≡◌, ◌+◌, ◌-◌, ◌++◌, true, sym, ap, ◌∙◌, subst, arith}
use Rattle.std.specs.Prelude.{pos, reverse, zip}
use Rattle.rls_ident.specs.Identifiers.{shifted, is_last_bounded}
use Rattle.rls_runs.specs.Runs.{run_idents}
use Rattle.rls_runs.proofs.RunOrder.{run_some}
use Rattle.rls_steps.specs.Marks.{numbers_from}
use Rattle.rls_steps.specs.NameRuns.{IsStretch}
use Rattle.rls_steps.proofs.FreeRuns.{falling_named}
use Rattle.rls_steps.proofs.Stretches.{down_within}
use Rattle.rls_steps.proofs.inserting.name_run.Goals as goal

pub new-requires : goal.new-requires
new-requires c =
    let x = c.in_ok-last.last in
    let more = c.len-more.result - 1 in
    let first = c.last-first.ensures in
    let bounded = ap is_last_bounded first.last ∙ first.last_bounded in
    let top : c.args.label + more ≡ c.in-Some.top = let w = c.in-Some.ensures in omega (arith, w) in
    let some = run_some c.args.run.now c.first-first.ensures.run in
    let size = c.len-more.ensures.len in
    let size' = c.len.ensures.len in
    let all : more + 1 ≡ c.len.result = omega (arith, some, size, size') in
    record { sound = subst (λ n. IsStretch x c.in-Some.top true n) all (down_within x c.first-first.result.now c.in-Some.top c.args.label more c.last-last.ensures.ident first.ident c.in_ok-last.ensures.shifted bounded top) }

pub returns-clause-ok : goal.returns-clause-ok
returns-clause-ok c =
    let run = c.args.run.now in
    let old = c.args.names.now in
    let new = c.push_run.new.self in
    let label = c.args.label in
    let n = c.len.result in
    let size = c.len.ensures.len in
    let same = c.len-more.ensures.len ∙ sym size in
    let some = run_some run c.first-first.ensures.run in
    let last = c.in_ok-last.ensures.shifted
    ∙ (ap (λ m. shifted (pos (m - 1)) c.first-first.result.now) same ∙ ap (shifted (pos (n - 1))) c.first-first.ensures.first) in
    let top : c.in-Some.top ≡ label + (n - 1) = let w = c.in-Some.ensures in omega (arith, w, same) in
    subst (λ m. reverse new ≡ zip (run_idents run.0 m) (numbers_from label m) ++ reverse old) size
    (falling_named old new c.new.result run.0 c.in_ok-last.last label c.in-Some.top n c.in_ok-push_run.ensures.names c.new.ensures.run last top (omega (arith, some, size)))
