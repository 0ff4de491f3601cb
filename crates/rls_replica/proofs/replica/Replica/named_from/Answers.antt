use Rattle.std.proofs.Common.{◌∙◌, sym, arith}
use Rattle.rls_replica.proofs.Targets.{known_if_named, known_one}
use Rattle.rls_replica.proofs.replica.Replica.named_from.Goals as goal

pub returns-then-branch-clause-known : goal.returns-then-branch-clause-known
returns-then-branch-clause-known c =
    let z = c.args.targets.now in
    let x = c.in_ok-target.target in
    let named = known_if_named c.args.self.now z.epoch x (sym c.in_ok-is_named.ensures.named ∙ c.if-branch.true) in
    record { within = omega arith; known = known_one c.args.self.now z.epoch z.ids.now z.at x c.in_ok-target.ensures.found named }
