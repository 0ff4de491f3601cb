use Rattle.std.proofs.Common.{ap, sym, subst, Some}
use Rattle.std.specs.Prelude.{IsFalse}
use Rattle.rls_ident.proofs.Members.{some_is}
use Rattle.rls_ident.specs.declared.epoch_name.EpochName.{EpochName}
use Rattle.rls_replica.specs.Names.{keeps}
use Rattle.rls_anchor.proofs.Errors.{err_as}
use Rattle.rls_anchor.proofs.anchor.Anchor.there.Goals as goal

pub returns-in-Err-clause-dropped : goal.returns-in-Err-clause-dropped
returns-in-Err-clause-dropped c = λ e.
    let s = c.args.replica.now in
    let x = c.in-After.epoch in
    let d = c.in-Err.ensures.dropped e in
    rw c.in-After.is (
      λ h. let r = d.0 (err_as _ _ h) in (ap (λ y. Some y) (sym r.0), subst (λ (y : EpochName). IsFalse (keeps s y)) (sym r.0) r.1),
      λ h. let q = some_is x e h.0 in err_as _ _ (d.1 (sym q, subst (λ (y : EpochName). IsFalse (keeps s y)) (sym q) h.1)),
    )

pub returns-in-Err-ident_to_greatest-clause-dropped : goal.returns-in-Err-ident_to_greatest-clause-dropped
returns-in-Err-ident_to_greatest-clause-dropped c = λ e.
    let s = c.args.replica.now in
    let x = c.in-Before.epoch in
    let d = c.in-Err-ident_to_greatest.ensures.dropped e in
    rw c.in-Before.is (
      λ h. let r = d.0 (err_as _ _ h) in (ap (λ y. Some y) (sym r.0), subst (λ (y : EpochName). IsFalse (keeps s y)) (sym r.0) r.1),
      λ h. let q = some_is x e h.0 in err_as _ _ (d.1 (sym q, subst (λ (y : EpochName). IsFalse (keeps s y)) (sym q) h.1)),
    )
