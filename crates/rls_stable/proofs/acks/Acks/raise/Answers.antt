use Rattle.std.proofs.Common.{◌≡◌, ◌∙◌, ◌<◌, ℕ, List, sym, ap, subst, arith}
use Rattle.std.specs.Prelude.{slice_index}
use Rattle.rls_ident.proofs.Vectors.{length-raise}
use Rattle.rls_ops.specs.Rows.{AcksSeen, stable_of}
use Rattle.rls_stable.specs.Keeping.{IsKept}
use Rattle.rls_stable.proofs.Raising.{raised_stable}
use Rattle.rls_stable.proofs.acks.Acks.raise.Goals as goal

pub invariant_of-self : goal.invariant_of-self
invariant_of-self c =
    let acks = c.self.inside.rows in
    let a = c.args.author in
    let s : slice_index c.self.inside.stable a ≡ slice_index (stable_of acks) a = ap (λ (v : List ℕ). slice_index v a) c.self.invariant.least in
    let m : c.get-2.result ≡ slice_index acks.mine a = c.get-2.ensures.count ∙ ap (λ (v : List ℕ). slice_index v a) c.mine.ensures.mine in
    let less : slice_index (stable_of acks) a < slice_index acks.mine a = omega (arith, s, m, c.get.ensures.count, c.if-is_behind.true) in
    subst (λ (t : AcksSeen). IsKept t c.self.inside.stable) (sym c.raise.ensures.raised) record {
      place = c.self.invariant.place ∙ sym (length-raise acks.mine a);
      least = c.self.invariant.least ∙ sym (raised_stable acks a c.mine.ensures.rows less);
    }

pub find_stable-requires : goal.find_stable-requires
find_stable-requires c = record { place = c.self.invariant.place ∙ sym (rw c.raise.ensures.raised (length-raise c.self.inside.rows.mine c.args.author)) }
