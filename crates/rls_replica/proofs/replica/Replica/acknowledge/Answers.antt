use Rattle.std.proofs.Common.{◌∙◌, None, ap, sym, subst, refl}
use Rattle.rls_ops.specs.Rows.{counts}
use Rattle.rls_seen.specs.Seen.{Seen}
use Rattle.rls_seen.specs.Over.{acknowledged}
use Rattle.rls_seen.specs.Sane.{IsSane}
use Rattle.rls_seen.specs.Stands.{StandsFor}
use Rattle.rls_model.specs.Taking.{acknowledge}
use Rattle.rls_seen.proofs.Counting.{members_acknowledged}
use Rattle.rls_seen.proofs.Noting.{acknowledged_alike, acknowledged_stands}
use Rattle.rls_seen.proofs.Staying.{acknowledged_sane}
use Rattle.rls_replica.specs.Names.{KeepsNames}
use Rattle.rls_replica.specs.View.{seen}
use Rattle.rls_replica.proofs.Noting.{gone_acknowledged}
use Rattle.rls_replica.proofs.Whole.{whole_kept}
use Rattle.rls_replica.proofs.KeptNames.{acknowledged_names}
use Rattle.rls_replica.proofs.replica.Replica.acknowledge.Goals as goal

pub returns-clause-after : goal.returns-clause-after
unfolding acknowledged
returns-clause-after c = rw (← c.self.view_is, c.note.ensures.after) refl

pub invariant_of-self : goal.invariant_of-self
invariant_of-self c =
    let s = c.args.self.now in
    let sane = acknowledged_sane s c.args.from c.args.vector.now (subst IsSane c.self.view_is c.self.invariant.sane) c.requires.member c.requires.counts in
    whole_kept (seen c.self.inside) s _ (acknowledged s c.args.from c.args.vector.now) c.self.inside.stems.members c.self.inside.stems.members c.self.inside.gone c.self.inside.known None c.self.view_is c.self.invariant (returns-clause-after c) sane (members_acknowledged s c.args.from c.args.vector.now) refl
    (gone_acknowledged s c.args.from c.args.vector.now (subst IsSane c.self.view_is c.self.invariant.sane) c.requires.member c.requires.counts) tt

pub returns-clause-stands : goal.returns-clause-stands
returns-clause-stands c = λ t h.
    let s = c.args.self.now in
    let v = c.args.vector.now in (
      c.note.ensures.answer ∙ (ap (λ (u : Seen). counts u.acks c.args.from v) c.self.view_is ∙ acknowledged_alike s t c.args.from v c.requires.member h),
      subst (λ (u : Seen). StandsFor u (acknowledge t c.args.from v)) (sym (returns-clause-after c)) (acknowledged_stands s t c.args.from v c.requires.member (c.requires.counts, c.len-len.ensures.bounded) h),
    )

pub returns-clause-names : goal.returns-clause-names
returns-clause-names c = subst (λ (u : Seen). KeepsNames c.args.self.now u) (sym (returns-clause-after c)) (acknowledged_names c.args.self.now c.args.from c.args.vector.now)
