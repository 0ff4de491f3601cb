use Rattle.std.proofs.Common.{◌≡◌, ◌<◌, ℕ, List, take, sym, ap, ◌∙◌, arith, nat_lt}
use Rattle.rls_ident.proofs.Members.{bool_cases}
use Rattle.rls_epoch.specs.Marks.{has_mark, mark_count}
use Rattle.rls_epoch.proofs.Counting.{count_marked, count_set, count_set_again, count_unmarked}
use Rattle.rls_epoch.proofs.nodes.Nodes.mark_up.Goals as goal

pub returns-then-not-is_marked-clause-fewer : goal.returns-then-not-is_marked-clause-fewer
returns-then-not-is_marked-clause-fewer c =
    let none = ap (nat_lt 0) (sym c.mark_of.ensures.mark) ∙ (sym c.is_marked.ensures.marked ∙ c.if-not-is_marked.true) in
    let h = count_unmarked c.args.marks.now c.args.number (omega arith) none in
    omega (arith, h)

pub returns-clause-fewer : goal.returns-clause-fewer
returns-clause-fewer c =
    let ms = c.args.marks.now in
    let n = c.args.number in
    let u = c.up_of-up.result in
    let e = c.up_of-up.ensures.up in
    let marked = ap (nat_lt 0) (sym c.mark_of.ensures.mark) ∙ (sym c.is_marked.ensures.marked ∙ c.if-not-is_marked.false) in
    let was = c.is_marked-was.ensures.marked ∙ ap (nat_lt 0) c.mark_of-2.ensures.mark in
    let set_is = ap (λ (xs : List ℕ). mark_count (take n xs)) c.mark_epoch.ensures.set in
    let all = count_marked ms n (omega arith) marked in
    let inside : u < n = omega arith in
    bool_cases (has_mark ms u)
    (λ q. let one : c.from.result ≡ 1 = rw (was ∙ q) at c.from.ensures in let y = count_set_again ms n u (omega arith) q in omega arith)
    (λ q. let none : c.from.result ≡ 0 = rw (was ∙ q) at c.from.ensures in let y = count_set ms n u inside (omega arith) q in omega arith)
