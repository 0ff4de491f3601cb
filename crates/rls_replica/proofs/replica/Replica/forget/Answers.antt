use Rattle.std.proofs.Common.{◌∙◌, List, ap, subst, refl}
use Rattle.rls_ops.specs.declared.op.Op.{Op}
use Rattle.rls_ops.specs.Waiting.{without}
use Rattle.rls_seen.specs.Seen.{Seen}
use Rattle.rls_seen.specs.Over.{holding}
use Rattle.rls_seen.specs.Sane.{IsSane}
use Rattle.rls_seen.proofs.Staying.{forgotten_sane}
use Rattle.rls_replica.specs.View.{seen}
use Rattle.rls_replica.proofs.Answered.{members_holding}
use Rattle.rls_replica.proofs.Noting.{gone_holding}
use Rattle.rls_replica.proofs.Whole.{still_known, whole_kept}
use Rattle.rls_replica.proofs.replica.Replica.forget.Goals as goal

pub returns : goal.returns
unfolding holding
returns c = record {
  after =
      ap (λ (W : List Op). holding (seen c.self.inside) W) c.remove-op.ensures.others
      ∙ ap (λ (s : Seen). holding s (without c.args.author c.args.seq s.waiting)) c.self.view_is;
}

pub invariant_of-self : goal.invariant_of-self
invariant_of-self c =
    let s = c.args.self.now in
    let W = without c.args.author c.args.seq s.waiting in
    whole_kept (seen c.self.inside) s _ (holding s W) c.self.inside.stems.members c.self.inside.stems.members c.self.inside.gone c.self.inside.known c.self.inside.known c.self.view_is c.self.invariant (returns c).after
    (forgotten_sane s c.args.author c.args.seq (subst IsSane c.self.view_is c.self.invariant.sane)) (members_holding s W) refl (gone_holding s W)
    (still_known (seen c.self.inside) s c.self.inside.stems.members c.self.inside.gone c.self.inside.known W c.self.view_is c.self.invariant)
