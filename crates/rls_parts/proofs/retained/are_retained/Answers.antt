use Rattle.std.proofs.Common.{◌∙◌, subst}
use Rattle.rls_ident.specs.Lists.{IsIn}
use Rattle.rls_ident.proofs.Members.{in_map}
use Rattle.rls_ops.specs.declared.op.Op.{Op}
use Rattle.rls_parts.specs.Reading.{names_of, stable_of_parts}
use Rattle.rls_parts.proofs.RestoredLog.{epoch_named}
use Rattle.rls_parts.proofs.Faults.{at_kept, kept_at, members_named, retained_done}
use Rattle.rls_parts.proofs.retained.are_retained.Goals as goal

pub has_stable-requires : goal.has_stable-requires
has_stable-requires c = record { members = members_named c.args.parts.now c.args.stable.now c.requires.given c.requires.rule c.requires.stable_is }

pub retained-requires-clause-members : goal.retained-requires-clause-members
retained-requires-clause-members c e k =
    let r = c.requires in
    members_named c.args.parts.now c.args.stable.now r.given r.rule r.stable_is e (at_kept c.args.parts.now c.args.epochs.now.epochs r.given.epochs r.rule r.epochs_are e k)

pub retained-requires-clause-marked : goal.retained-requires-clause-marked
retained-requires-clause-marked c e q =
    let r = c.requires in
    let p = c.args.parts.now in
    let list = c.as_slice.ensures.value ∙ c.in_ok-marked.ensures.epochs in
    let w = in_map (λ (o : Op). o.epoch) e p.log (subst (IsIn e) list q) in
    kept_at p c.args.epochs.now.epochs r.given.epochs r.rule r.epochs_are e (subst (λ f. IsIn f (names_of p.epochs)) w.2 (epoch_named p (stable_of_parts p) r.log w.0 w.1))

pub returns : goal.returns
returns c =
    let r = c.requires in
    let p = c.args.parts.now in
    let list = c.as_slice.ensures.value ∙ c.in_ok-marked.ensures.epochs in
    record {
      retained = retained_done p c.args.epochs.now.epochs c.args.stable.now c.as_slice.result.now c.as_slice-3.result.now c.as_slice-2.result.now c.names_eq.result r.epochs_are r.stable_is list
          (c.as_slice-3.ensures.value ∙ c.in_ok-part.ensures.names) c.as_slice-2.ensures.items c.if-not-has_stable.ensures.has c.names_eq.ensures.equal;
    }
