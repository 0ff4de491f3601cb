use Rattle.std.proofs.Common.{◌≡◌, ◌∙◌, ◌+◌, ◌≤◌, Option, length, ap, subst, arith}
use Rattle.std.proofs.lemmas.List.{length-map}
use Rattle.std.specs.Prelude.{IfSome}
use Rattle.rls_seen.specs.Sane.{IsSane}
use Rattle.rls_seen.specs.Seen.{Seen, greatest_over, translate_over}
use Rattle.rls_replica.specs.declared.known.Known.{Known}
use Rattle.rls_replica.specs.Known.{IsKnown}
use Rattle.rls_replica.specs.View.{seen}
use Rattle.rls_replica.proofs.Remembering.{remembered_known}
use Rattle.rls_replica.proofs.replica.Replica.remembered_from.Goals as goal

pub returns : goal.returns
returns c =
    let s = c.args.self.now in
    let e = c.args.targets.now.epoch in
    let xs = c.args.targets.now.ids.now in
    let known = c.in-Some.known in
    let n = c.in_ok-count.count in
    let long : length c.args.targets.now.images.now ≡ length xs = ap length c.requires.targets.images ∙ length-map xs (translate_over s e (greatest_over s)) in
    let within : c.args.targets.now.at + n ≤ length xs = omega (arith, long, c.in_ok-count.ensures.within) in
    let h : IsKnown s known = subst (λ (u : Seen). IsKnown u known) c.self.view_is (subst (λ (r : Option Known). IfSome r (λ k. IsKnown (seen c.self.inside) k)) c.in-Some.is c.self.invariant.known_are) in
    let known = remembered_known s known e xs c.args.targets.now.images.now c.args.targets.now.at n (subst IsSane c.self.view_is c.self.invariant.sane) h c.total-total.ensures.idents c.requires.targets.images within c.in_ok-count.ensures.there c.in_ok-count.ensures.clear in
    record { known = record { within = within; known = known } }
