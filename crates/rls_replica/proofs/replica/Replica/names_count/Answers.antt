use Rattle.std.proofs.Common.{◌∙◌, ◌+◌, ◌≤◌, length, arith}
use Rattle.rls_replica.proofs.Targets.{known_many}
use Rattle.rls_replica.proofs.replica.Replica.names_count.Goals as goal

pub returns : goal.returns
returns c =
    let z = c.args.targets.now in
    let n = c.in_ok-named.named in
    let within : z.at + n ≤ length z.ids.now = omega (arith, c.in_ok-part.ensures.within, c.in_ok-named.ensures.within) in
    let known = known_many c.args.self.now z.epoch z.ids.now z.at n within
    (λ k x l g. c.in_ok-named.ensures.known k x l (c.in_ok-part.ensures.part k (omega (arith, l, c.in_ok-named.ensures.within)) ∙ g)) in
    record { known = record { within = within; known = known } }
