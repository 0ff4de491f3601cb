use Rattle.std.proofs.Common.{sym}
use Rattle.rls_parts.specs.Reaches.{IsPlaceOf}
use Rattle.rls_parts.proofs.Placing.{grown_there, grown_rises}
use Rattle.rls_parts.proofs.line.Line.grow.Goals as goal

pub invariant_of-self : goal.invariant_of-self
invariant_of-self c =
    let place : IsPlaceOf c.self.inside.reaches.items c.args.last.seq c.in-Some.place = rw c.deref.ensures.value at c.in-Some.ensures.some in
    grown_rises c.self.inside.reaches.items c.args.last.seq c.in-Some.place c.index.result.now c.grown-reach.result c.args.last.offset c.args.count place c.index.ensures c.grown-reach.ensures.grown c.self.invariant

pub returns-in-Some : goal.returns-in-Some
returns-in-Some c =
    let place : IsPlaceOf c.self.inside.reaches.items c.args.last.seq c.in-Some.place = rw c.deref.ensures.value at c.in-Some.ensures.some in
    record { reaches = rw (← c.self.view_is) (sym (grown_there c.self.inside.reaches.items c.args.last.seq c.in-Some.place c.index.result.now c.grown-reach.result c.args.last.offset c.args.count place c.index.ensures c.grown-reach.ensures.grown)) }
