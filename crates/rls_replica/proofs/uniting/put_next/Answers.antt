use Rattle.std.proofs.Common.{◌+◌, ◌-◌, inl, inr, ⊎_elim, arith}
use Rattle.rls_ident.proofs.Members.{get_in}
use Rattle.rls_runs.proofs.RunOrder.{rising_of}
use Rattle.rls_replica.proofs.Merges.{both_next, put_more, put_still, moved, moved_back}
use Rattle.rls_replica.proofs.uniting.put_next.Goals as goal

pub returns-then-i-end-clause-first : goal.returns-then-i-end-clause-first
returns-then-i-end-clause-first c =
    let n = c.in_ok-next in
    put_more c.args.a.now c.args.i n.next c.args.both.now c.put_part.new.both (rising_of c.args.a.now c.total-a.ensures.idents.1) c.requires.first n.ensures.later (omega (arith, n.ensures.within, c.in_ok-end.ensures.within)) n.ensures.all n.ensures.only

pub returns-then-i-end-clause-second : goal.returns-then-i-end-clause-second
returns-then-i-end-clause-second c =
    let n = c.in_ok-next in
    put_still c.args.b.now c.args.j c.args.a.now c.args.i n.next c.args.both.now c.put_part.new.both c.requires.second n.ensures.all n.ensures.only
    (λ y g x s. c.in_ok-end.ensures.less y g x (s.0, omega arith, omega (arith, s.2, n.ensures.within), s.3))

pub returns-then-j-end-clause-first : goal.returns-then-j-end-clause-first
returns-then-j-end-clause-first c =
    let n = c.in_ok-next-2 in
    put_still c.args.a.now c.args.i c.args.b.now c.args.j n.next c.args.both.now c.put_part-then-j-end.new.both c.requires.first n.ensures.all n.ensures.only
    (λ y g x s. c.in_ok-end-2.ensures.less y g x (s.0, omega arith, omega (arith, s.2, n.ensures.within), s.3))

pub returns-then-j-end-clause-second : goal.returns-then-j-end-clause-second
returns-then-j-end-clause-second c =
    let n = c.in_ok-next-2 in
    put_more c.args.b.now c.args.j n.next c.args.both.now c.put_part-then-j-end.new.both (rising_of c.args.b.now c.total-b.ensures.idents.1) c.requires.second n.ensures.later (omega (arith, n.ensures.within, c.in_ok-end-2.ensures.within)) n.ensures.all n.ensures.only

pub count_common-count-requires-clause-same : goal.count_common-count-requires-clause-same
count_common-count-requires-clause-same c =
    let e = c.in_ok-end.ensures in
    let f = c.in_ok-end-2.ensures in
    both_next c.args.a.now c.args.b.now c.args.i c.args.j c.in_ok-end.end c.in_ok-end-2.end c.requires.more e.all (omega (arith, c.if-i-end.false)) f.all (omega (arith, c.if-j-end.false)) e.rest f.rest

pub overflow_add-result : goal.overflow_add-result
overflow_add-result c = omega (arith, c.count_common-count.ensures.other_within, c.in_ok-next-3.ensures.within, c.in_ok-next-3.ensures.later, c.total-b.ensures.total)

pub returns-clause-first : goal.returns-clause-first
returns-clause-first c =
    let n = c.in_ok-next-3 in
    put_more c.args.a.now c.args.i n.next c.args.both.now c.put_part-2.new.both (rising_of c.args.a.now c.total-a.ensures.idents.1) c.requires.first n.ensures.later (omega (arith, n.ensures.within, c.count_common-count.ensures.within)) n.ensures.all n.ensures.only

pub returns-clause-second : goal.returns-clause-second
returns-clause-second c =
    let n = c.in_ok-next-3 in
    let a = c.args.a.now in
    let b = c.args.b.now in
    let to = moved a b c.args.i c.args.j c.count_common-count.result n.next c.count_common-count.ensures.same (omega (arith, n.ensures.later)) n.ensures.within in
    let back = moved_back a b c.args.i c.args.j c.count_common-count.result n.next c.count_common-count.ensures.same (omega (arith, n.ensures.later)) n.ensures.within in
    put_more b c.args.j (c.args.j + (n.next - c.args.i)) c.args.both.now c.put_part-2.new.both (rising_of b c.total-b.ensures.idents.1) c.requires.second (omega (arith, n.ensures.later)) (omega (arith, n.ensures.within, n.ensures.later, c.count_common-count.ensures.other_within))
    (λ x p. n.ensures.all x (⊎_elim inl (λ s. inr (to x s)) p)) (λ x p. ⊎_elim inl (λ s. inr (back x s)) (n.ensures.only x p))

pub returns-then-i-end-clause-only : goal.returns-then-i-end-clause-only
returns-then-i-end-clause-only c = λ x p. ⊎_elim inl (λ s. inr (inl (get_in c.args.a.now s.0 x s.3))) (c.in_ok-next.ensures.only x p)

pub returns-then-j-end-clause-only : goal.returns-then-j-end-clause-only
returns-then-j-end-clause-only c = λ x p. ⊎_elim inl (λ s. inr (inr (get_in c.args.b.now s.0 x s.3))) (c.in_ok-next-2.ensures.only x p)

pub returns-clause-only : goal.returns-clause-only
returns-clause-only c = λ x p. ⊎_elim inl (λ s. inr (inl (get_in c.args.a.now s.0 x s.3))) (c.in_ok-next-3.ensures.only x p)
