use Rattle.std.proofs.Common.{◌∙◌, ◌≤◌, length, sym, ap, subst}
use Rattle.rls_runs.specs.Places.{below_count}
use Rattle.rls_runs.proofs.Searches.{found_at, missed_at}
use Rattle.rls_runs.proofs.RunEnds.{count_most}
use Rattle.rls_seen.specs.Seen.{idents_over}
use Rattle.rls_seen.proofs.Editing.{idents_alike}
use Rattle.rls_replica.proofs.replica.Replica.count_below.Goals as goal

pub returns-in-Ok : goal.returns-in-Ok
returns-in-Ok c =
    let s = c.args.self.now in
    let xs = idents_over s in
    let x = c.args.id.now in
    let e = sym (found_at xs x c.in-Ok.count c.sane.ensures.sane.idents.1 (sym c.in-Ok.ensures.place)).1 in
    record { count = e; within = subst (λ n. n ≤ length xs) (sym e) (count_most xs x); stands = λ t h. e ∙ ap (λ ys. below_count ys x) (idents_alike s t h) }

pub returns-in-Ok-2 : goal.returns-in-Ok-2
returns-in-Ok-2 c =
    let s = c.args.self.now in
    let xs = idents_over s in
    let x = c.args.id.now in
    let e = sym (missed_at xs x c.in-Ok.count c.sane.ensures.sane.idents.1 (sym c.in-Ok.ensures.place)).1 in
    record { count = e; within = subst (λ n. n ≤ length xs) (sym e) (count_most xs x); stands = λ t h. e ∙ ap (λ ys. below_count ys x) (idents_alike s t h) }
