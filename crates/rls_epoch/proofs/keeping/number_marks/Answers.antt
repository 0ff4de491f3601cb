use Rattle.std.proofs.Common.{◌≡◌, ◌+◌, ℕ, set, sym, ◌∙◌, subst, arith}
use Rattle.rls_ident.proofs.Members.{lt_is, not_lt_is}
use Rattle.rls_epoch.proofs.Compacting.{IsNumbering, numbering_begins, numbering_ends, numbering_one, numbering_zero}
use Rattle.rls_epoch.proofs.Counting.{count_most}
use Rattle.rls_epoch.proofs.keeping.number_marks.Goals as goal

pub loop-i-init : goal.loop-i-init
loop-i-init c = numbering_begins c.args.marks.now

pub loop-i-preserved-then-not-is_marked : goal.loop-i-preserved-then-not-is_marked
loop-i-preserved-then-not-is_marked c =
    let none = not_lt_is 0 c.mark_of.result (sym c.is_marked.ensures.marked ∙ c.if-not-is_marked.true) in
    let m = c.mark_of.ensures.mark in
    numbering_zero c.args.marks.now c.loop-i.marks c.loop-i.i c.loop-i.count c.loop-i.invariant (omega arith) (omega arith)

pub overflow_add-count : goal.overflow_add-count
overflow_add-count c =
    let i = c.loop-i.invariant in
    let n = i.count_is in
    let m = count_most c.args.marks.now c.loop-i.i in
    omega arith

pub loop-i-preserved : goal.loop-i-preserved
loop-i-preserved c =
    let some = lt_is 0 c.mark_of.result (sym c.is_marked.ensures.marked ∙ c.if-not-is_marked.false) in
    let m = c.mark_of.ensures.mark in
    let is : c.of_number.result ≡ c.loop-i.count + 1 = let n = c.of_number.ensures.mark in omega arith in
    subst (λ (n : ℕ). IsNumbering c.args.marks.now (set c.loop-i.marks c.loop-i.i n) (c.loop-i.i + 1) (c.loop-i.count + 1)) (sym is)
    (numbering_one c.args.marks.now c.loop-i.marks c.loop-i.i c.loop-i.count c.loop-i.invariant (omega arith) (λ z. absurd (omega arith)))

pub returns : goal.returns
returns c = record { numbered = numbering_ends c.args.marks.now c.loop-i.marks c.loop-i.i c.loop-i.count c.loop-i.invariant (omega arith) }
