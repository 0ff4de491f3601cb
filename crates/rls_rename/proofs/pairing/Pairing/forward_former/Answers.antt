use Rattle.std.proofs.Common.{◌<◌, arith}
use Rattle.std.proofs.lemmas.Int.{ints}
use Rattle.rls_runs.proofs.RunOrder.{run_some}
use Rattle.rls_rename.proofs.GapPlaces.{gap_there, gap_within}
use Rattle.rls_rename.proofs.Fronts.{held_from, held_short, former_forward}
use Rattle.rls_rename.proofs.pairing.Pairing.forward_former.Goals as goal

pub locate-place-requires : goal.locate-place-requires
locate-place-requires c = record { place = gap_within c.args.self.now.former c.args.run.now.0 c.args.i c.requires.place }

pub new_at-requires : goal.new_at-requires
new_at-requires c = let w = gap_within c.args.self.now.former c.args.run.now.0 c.args.i c.requires.place in let m = c.args.self.now.most in record { place = omega arith }

pub invariant_of-result : goal.invariant_of-result
invariant_of-result c =
    let held = c.locate-place.result.0.now in
    let place = c.locate-place.result.1 in
    let some = run_some c.args.run.now c.len.ensures.run in
    let within = c.locate-place.ensures.within in
    let l : 0 < c.min.result = omega arith in
    let h = held_short c.args.self.now.former c.args.i place held within c.locate-place.ensures.idents c.min.result l (omega arith) in
    let most = c.args.self.now.most in
    record { some = l; in_range = rw c.new_at.ensures.new (omega (arith, ints)) }

pub returns : goal.returns
returns c =
    let f = c.args.self.now.former in
    let run = c.args.run.now in
    let held = c.locate-place.result.0.now in
    let place = c.locate-place.result.1 in
    let there = gap_there f run.0 c.args.i c.requires.place in
    let within = c.locate-place.ensures.within in
    record {
      forward = rw c.new_at.ensures.new (former_forward c.args.self.now.first f run.0 run.1 c.args.i c.min.result c.args.self.now.increase (omega arith) (held_from f c.args.i place held within c.locate-place.ensures.idents run.0 there c.min.result (omega arith)));
    }
