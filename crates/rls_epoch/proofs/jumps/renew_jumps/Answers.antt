use Rattle.std.proofs.Common.{◌≡◌, ◌+◌, ◌<◌, suc, List, [], ◌∷◌, ◌++◌, Some, length, get_or, take, set, refl, sym, ap, ◌∙◌, subst, arith}
use Rattle.std.specs.Prelude.{slice_get}
use Rattle.std.proofs.Math.ListN.{length-set}
use Rattle.std.proofs.lemmas.List.{length-take-le, take_all, take_more_set}
use Rattle.std.proofs.lemmas.Option.{slice_get_read}
use Rattle.rls_epoch.specs.declared.jumps.Jump.{Jump}
use Rattle.rls_epoch.specs.declared.placed.Placed.{Placed}
use Rattle.rls_epoch.specs.Jumps.{depth_in, jump_over, AreJumps}
use Rattle.rls_epoch.proofs.Jumping.{jumps_low, jumps_more}
use Rattle.rls_epoch.proofs.jumps.renew_jumps.Goals as goal

pub next_jump-jump-requires-clause-low : goal.next_jump-jump-requires-clause-low
next_jump-jump-requires-clause-low c =
    let t = c.requires.laid in
    rw c.deref.ensures.value (jumps_low t.0 c.args.nodes.now t.1 (take c.loop-i.i c.loop-i.jumps.items) (c.loop-i.invariant.made t.0 t.1))

pub loop-i-preserved : goal.loop-i-preserved
loop-i-preserved c =
    let js = c.loop-i.jumps.items in
    let i = c.loop-i.i in
    let ps = c.args.nodes.now in
    let p = c.index-nodes-i.result in
    let j = c.next_jump-jump.result in
    let v = c.loop-i.invariant.whole in
    let w : i < length ps = omega arith in
    let n : length (take i js) ≡ i = length-take-le i js (omega arith) in
    let g : slice_get ps i ≡ Some p = slice_get_read ps (length ps) i p refl w c.index-nodes-i.is in
    let taken : take (i + 1) (set js i j) ≡ take i js ++ (j ∷ []) = take_more_set js i j (omega arith) in
    let read : get_or ps i p ≡ p = sym c.index-nodes-i.is in
    let d : j.depth ≡ suc (depth_in (take i js) p.up) = c.next_jump-jump.ensures.depth ∙ (ap (λ (xs : List Jump). suc (depth_in (take i xs) (get_or ps i p).up)) c.deref.ensures.value ∙ ap (λ (z : Placed). suc (depth_in (take i js) z.up)) read) in
    let t : j.to ≡ jump_over (take i js) p.up = c.next_jump-jump.ensures.to ∙ (ap (λ (xs : List Jump). jump_over (take i xs) (get_or ps i p).up) c.deref.ensures.value ∙ ap (λ (z : Placed). jump_over (take i js) z.up) read) in
    record {
      whole = let l = length-set js i j in omega (arith, l, v);
      made = λ top l. subst (AreJumps top ps) (sym taken) (jumps_more top ps l (take i js) (c.loop-i.invariant.made top l) p j (ap (slice_get ps) n ∙ g) d t);
    }

pub returns-clause-jumps : goal.returns-clause-jumps
returns-clause-jumps c = λ top l.
    let v = c.loop-i.invariant.whole in
    subst (AreJumps top c.args.nodes.now) (take_all c.loop-i.i c.loop-i.jumps.items (omega arith)) (c.loop-i.invariant.made top l)
