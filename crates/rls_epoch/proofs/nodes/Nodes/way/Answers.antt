use Rattle.std.proofs.Common.{◌≡◌, ◌+◌, ◌-◌, ◌<◌, suc, refl, subst, arith}
use Rattle.std.specs.Prelude.{reverse}
use Rattle.rls_epoch.specs.Ways.{Leads}
use Rattle.rls_epoch.proofs.Steps.{leads_on, leads_up, leads_down}
use Rattle.rls_epoch.proofs.nodes.Nodes.way.Goals as goal

pub loop-left-preserved-then-right-left : goal.loop-left-preserved-then-right-left
loop-left-preserved-then-right-left c =
    let ps = c.args.self.now.placed in
    let k = c.loop-left.left - 1 in
    let p = c.at.result.now in
    let g = c.at.ensures.node in
    let e = c.count-count.ensures.laid.links.earlier k p g in
    let s : c.loop-left.left ≡ suc k = omega arith in
    record {
      left_within = omega arith;
      right_within = c.loop-left.invariant.right_within;
      up = rw c.in_ok-push.ensures.items (leads_up ps c.args.from k p.up p c.loop-left.up.items g (subst (λ n. Leads ps c.args.from c.loop-left.up.items n) s c.loop-left.invariant.up) refl);
      down = c.loop-left.invariant.down;
    }

pub loop-left-smaller : goal.loop-left-smaller
loop-left-smaller c =
    let e = c.count-count.ensures.laid.links.earlier (c.loop-left.right - 1) c.at-else-right-left.result.now c.at-else-right-left.ensures.node in
    let h : c.loop-left.left + c.at-else-right-left.result.now.up < c.loop-left.left + c.loop-left.right = omega arith in
    h

pub loop-left-preserved : goal.loop-left-preserved
loop-left-preserved c =
    let ps = c.args.self.now.placed in
    let k = c.loop-left.right - 1 in
    let p = c.at-else-right-left.result.now in
    let g = c.at-else-right-left.ensures.node in
    let e = c.count-count.ensures.laid.links.earlier k p g in
    let s : c.loop-left.right ≡ suc k = omega arith in
    record {
      left_within = c.loop-left.invariant.left_within;
      right_within = omega arith;
      up = c.loop-left.invariant.up;
      down = rw c.in_ok-push-2.ensures.items (leads_down ps k c.args.to p.up p c.loop-left.down.items g (subst (λ n. Leads ps n (reverse c.loop-left.down.items) c.args.to) s c.loop-left.invariant.down) refl);
    }

pub returns : goal.returns
returns c =
    let ps = c.args.self.now.placed in
    let up = c.loop-left.up.items in
    let down = reverse c.loop-left.down.items in
    let met : c.loop-left.right ≡ c.loop-left.left = omega arith in
    rw (c.in_ok-extend_from_slice.ensures.items, c.deref.ensures.value, c.reverse.ensures.items) (record { way = leads_on ps c.args.from c.loop-left.left c.args.to up down c.loop-left.invariant.up (subst (λ n. Leads ps n down c.args.to) met c.loop-left.invariant.down) })
