use Rattle.std.proofs.Common.{rules, ◌≡◌, [], ◌∷◌, ◌++◌, length, sym, ap, ◌∙◌, subst, arith, length-append}
use Rattle.rls_epoch.specs.Seen.{AreLaid, nodes_of}
use Rattle.rls_epoch.proofs.Found.{kept_at}
use Rattle.rls_epoch.proofs.Jumping.{jumps_pushed}
use Rattle.rls_epoch.proofs.KnownRuns.{none_known}
use Rattle.rls_epoch.proofs.Whole.{laid_more}
use Rattle.rls_epoch.proofs.nodes.Nodes.push.Goals as goal

pub invariant_of-self : goal.invariant_of-self
invariant_of-self c =
    let top = c.self.inside.top in
    let ps = c.self.inside.list.items in
    let js = c.self.inside.jumps.items in
    let p = c.args.node in
    let j = c.next_jump-jump.result in
    let pushed : c.push-2.new.self.items ≡ ps ++ p ∷ [] = search rules in
    let jumped : c.push.new.self.items ≡ js ++ j ∷ [] = search rules in
    let up = rw (← c.self.view_is) at c.requires.up in
    let within = rw (← c.self.view_is) at c.requires.within in
    let fresh = rw (← c.self.view_is) at c.requires.fresh in
    let laid = laid_more top ps p c.self.invariant.0 within up c.total-total.ensures.former fresh (kept_at top ps p.up p.parent up) in
    let whole = c.self.invariant.2 in
    let m = ap length pushed ∙ length-append ps (p ∷ []) in
    let n = ap length jumped ∙ length-append js (j ∷ []) in (
      subst (AreLaid top) (sym pushed) laid,
      none_known (nodes_of c.push-2.new.self.items) c.clear.new.self c.clear.ensures.none,
      omega (arith, whole, m, n),
      rw (pushed, jumped) (jumps_pushed top ps c.self.invariant.0 p fresh laid js whole c.self.invariant.3 j (rw c.deref.ensures.value at c.next_jump-jump.ensures.depth) (rw c.deref.ensures.value at c.next_jump-jump.ensures.to)),
    )
