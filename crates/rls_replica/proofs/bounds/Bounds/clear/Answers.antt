use Rattle.std.proofs.Common.{◌∙◌, Option, subst}
use Rattle.std.specs.Prelude.{IfSome, IsSome}
use Rattle.rls_replica.specs.declared.bounds.Edge.{Edge}
use Rattle.rls_replica.specs.Bounds.{IsBetween, number_in}
use Rattle.rls_replica.proofs.Bounding.{taken_out}
use Rattle.rls_replica.proofs.bounds.Bounds.clear.Goals as goal

pub loop-edge-preserved : goal.loop-edge-preserved
loop-edge-preserved c = λ e out.
    let es = c.loop-edge.self.numbers.entries in
    let there = subst (λ (r : Option Edge). IfSome r (λ x. IsBetween c.args.first c.args.past x × IsSome (number_in es x))) c.in-Some.is c.next.ensures.some in
    taken_out es c.remove-number.new.self.entries c.args.first c.args.past c.in-Some.edge there.0 c.remove-number.ensures.updates.0 e out ∙ c.loop-edge.invariant e out
