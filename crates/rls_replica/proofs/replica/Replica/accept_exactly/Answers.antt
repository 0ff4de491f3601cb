use Rattle.std.proofs.Common.{ℕ, Option, subst, sym}
use Rattle.std.specs.Prelude.{IfSome}
use Rattle.rls_ops.specs.declared.op.Op.{Op}
use Rattle.rls_seen.specs.Sane.{MayApply}
use Rattle.rls_seen.proofs.Making.{made_may}
use Rattle.rls_replica.specs.Changing.{IsPlaceOf}
use Rattle.rls_replica.proofs.EditFaults.{seq-made}
use Rattle.rls_replica.proofs.Placed.{place_made}
use Rattle.rls_replica.proofs.replica.Replica.accept_exactly.Goals as goal

pub apply-requires : goal.apply-requires
apply-requires c =
    let s = c.args.self.now in
    let o = c.args.op.now in
    let edit = c.args.edit.now in
    record {
      may = subst (λ (p : Op). MayApply s p) (sym c.requires.op) (made_may s edit c.sane.ensures.sane c.fits.ensures.whole c.requires.fits);
      place = subst (λ (place : Option ℕ). IfSome place (λ i. IsPlaceOf s.epochs s.text o.epoch o.body i)) (sym c.place_of.ensures.place) (place_made s edit o c.sane.ensures.sane c.fits.ensures.whole c.requires.fits c.requires.op);
    }

pub returns-clause-seq : goal.returns-clause-seq
returns-clause-seq c = seq-made c.args.self.now c.args.edit.now c.args.op.now c.requires.op
