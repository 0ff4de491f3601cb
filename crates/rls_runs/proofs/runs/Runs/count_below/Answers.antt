use Rattle.std.proofs.Common.{◌≤◌, length, sym, subst}
use Rattle.rls_runs.proofs.Gaps.{read_err, read_ok}
use Rattle.rls_runs.proofs.RunEnds.{count_most}
use Rattle.rls_runs.proofs.runs.Runs.count_below.Goals as goal

pub returns-in-Ok : goal.returns-in-Ok
returns-in-Ok c =
    let xs = c.args.self.now in
    let e = sym (read_ok xs c.args.id.now c.in-Ok.count (sym c.in-Ok.ensures.find)).1 in
    record { count = e; within = subst (λ n. n ≤ length xs) (sym e) (count_most xs c.args.id.now) }

pub returns-in-Ok-2 : goal.returns-in-Ok-2
returns-in-Ok-2 c =
    let xs = c.args.self.now in
    let e = sym (read_err xs c.args.id.now c.in-Ok.count (sym c.in-Ok.ensures.find)).1 in
    record { count = e; within = subst (λ n. n ≤ length xs) (sym e) (count_most xs c.args.id.now) }
