use Rattle.std.proofs.Common.{◌≡◌, ◌≤◌, ◌<◌, Option, drop, subst, sym}
use Rattle.std.specs.Prelude.{IfSome, slice_index}
use Rattle.rls_seen.specs.Seen.{Seen, members, stable_over}
use Rattle.rls_replica.specs.declared.gone.Gone.{Gone}
use Rattle.rls_replica.specs.Gone.{IsGone, IsNoted}
use Rattle.rls_replica.specs.Lookups.{is_named_over}
use Rattle.rls_replica.specs.View.{seen}
use Rattle.rls_replica.proofs.Noting.{cleared_by}
use Rattle.rls_replica.proofs.replica.Replica.cleared.Goals as goal

pub returns-then-name_none-clause-none : goal.returns-then-name_none-clause-none
returns-then-name_none-clause-none c =
    let i = seen c.self.inside in
    let g = c.in-Some.gone in
    let e = c.args.epoch in
    let x = c.args.target.now in
    let h : IsGone i g = subst (λ (r : Option Gone). IfSome r (λ a. IsGone i a)) c.in-Some.is c.self.invariant.gone_are in
    subst (λ (u : Seen). is_named_over u e x (drop g.noted u.log) ≡ is_named_over u e x u.log) c.self.view_is
    (cleared_by i g e x c.self.invariant.sane h
    (λ a q l b. subst (λ (u : Seen). q ≤ slice_index (stable_over u) a) (sym c.self.view_is)
    (c.name_none.ensures.none c.if-name_none.true a q (subst (λ (u : Seen). a < members u) c.self.view_is l) (subst (λ y. IsNoted g.named a y q) (sym c.in_ok-there.ensures.translated) b))))
