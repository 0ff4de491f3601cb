use Rattle.std.proofs.Common.{◌≡◌, ◌-◌, ◌<◌, ℕ, suc, take, sym, ap, ◌∙◌, subst, arith, nat_lt}
use Rattle.rls_epoch.specs.Marks.{mark_count}
use Rattle.rls_epoch.proofs.Counting.{count_unmarked, count_most}
use Rattle.rls_epoch.proofs.marks.last_marked.Goals as goal

pub loop-last-preserved : goal.loop-last-preserved
loop-last-preserved c =
    let i = c.loop-last.invariant in
    let ms = c.args.marks.now in
    let k = c.loop-last.last in
    let none = ap (nat_lt 0) (sym c.mark_of.ensures.mark) ∙ (sym c.is_marked.ensures.marked ∙ c.loop-last-test.true) in
    let fewer = count_unmarked ms k (omega arith) none in
    let most = count_most ms k in
    let next : k ≡ suc (k - 1) = omega arith in
    let some : 0 < mark_count (take k ms) = omega arith in
    record {
      in_range = omega arith;
      some = subst (λ (n : ℕ). 0 < mark_count (take n ms)) next some;
    }
