use Rattle.std.proofs.Common.{◌≡◌, ◌+◌, true, false, take, drop, get_or, nat_lt, sym, ap, ◌∙◌, arith}
use Rattle.rls_ident.proofs.Positions.{get_of}
use Rattle.rls_epoch.specs.Marks.{kept_sum}
use Rattle.rls_epoch.proofs.Compacting.{dropped_get, kept_sum_most, kept_sum_none, kept_sum_taken, sum_next}
use Rattle.rls_epoch.proofs.nodes.Nodes.former_kept.Goals as goal

pub loop-i-init : goal.loop-i-init
loop-i-init c = sym (kept_sum_none (drop 1 c.args.marks.now))

pub loop-i-preserved-then-not-has_place : goal.loop-i-preserved-then-not-has_place
loop-i-preserved-then-not-has_place c =
    let ps = c.args.self.now.placed in
    let i = c.loop-i.i in
    let w = c.requires.whole in
    let none = ap (nat_lt 1) (sym c.mark_of.ensures.mark) ∙ (sym c.has_place.ensures.place ∙ c.if-not-has_place.true) in
    let p = get_of ps i (omega arith) in
    let s = sum_next (drop 1 c.args.marks.now) ps i (get_or c.args.marks.now (i + 1) 0) p.0 p.1 (dropped_get c.args.marks.now i (omega arith)) false none in
    let v = c.loop-i.invariant in
    omega (arith, s, v)

-- the sum with the node
module _ (c : goal.After-total-former) where
  longer : kept_sum (drop 1 c.args.marks.now) (take (c.loop-i.i + 1) c.args.self.now.placed) ≡ c.loop-i.former + c.total-former.result
  longer =
      let i = c.loop-i.i in
      let w = c.requires.whole in
      let some = ap (nat_lt 1) (sym c.mark_of.ensures.mark) ∙ (sym c.has_place.ensures.place ∙ c.if-not-has_place.false) in
      let m = get_or c.args.marks.now (i + 1) 0 in
      let s = sum_next (drop 1 c.args.marks.now) c.args.self.now.placed i m c.at.result.now c.at.ensures.node (dropped_get c.args.marks.now i (omega arith)) true some in
      let total = c.total-former.ensures.total in
      let v = c.loop-i.invariant in
      omega (arith, s, v, total)

pub overflow_add-former : goal.overflow_add-former
overflow_add-former c =
    let t = c.requires.total in
    let a = kept_sum_taken (drop 1 c.args.marks.now) c.args.self.now.placed (c.loop-i.i + 1) in
    let b = kept_sum_most (drop 1 c.args.marks.now) c.args.self.now.placed in
    let l = longer c in
    omega (arith, t, a, b, l)

pub loop-i-preserved : goal.loop-i-preserved
loop-i-preserved c = sym (longer c)
