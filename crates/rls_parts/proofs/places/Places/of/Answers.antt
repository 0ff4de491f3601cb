use Rattle.std.proofs.Common.{◌-◌, arith}
use Rattle.rls_parts.proofs.FirstPlaces.{first_more}
use Rattle.rls_parts.proofs.places.Places.of.Goals as goal

pub loop-place-preserved : goal.loop-place-preserved
loop-place-preserved c =
    let p = c.loop-place.place in
    record {
      noted = first_more c.loop-place.first.entries c.insert.new.self.entries c.args.names.now (p - 1) p c.key_of.result (omega (arith, c.loop-place-test.true)) c.loop-place.invariant.within c.key_of.ensures.key c.loop-place.invariant.noted c.in_ok-insert.ensures.updates.0;
      within = omega (arith, c.loop-place.invariant.within);
    }
