use Rattle.std.proofs.Common.{subst, sym}
use Rattle.rls_parts.specs.Lines.{LineSeen}
use Rattle.rls_parts.specs.Reaches.{AreBelow}
use Rattle.rls_parts.proofs.Placing.{with_last, rising_last}
use Rattle.rls_parts.proofs.line.Line.push.Goals as goal

pub invariant_of-self : goal.invariant_of-self
invariant_of-self c =
    let below = subst (λ (l : LineSeen). AreBelow c.args.reach.s0 l.reaches) (sym c.self.view_is) c.requires.newest in
    let pushed = rw c.unwrap.ensures at c.push.ensures.items in
    rw pushed (rising_last c.args.reach c.self.inside.reaches.items below c.self.invariant)

pub returns : goal.returns
returns c =
    let below = subst (λ (l : LineSeen). AreBelow c.args.reach.s0 l.reaches) (sym c.self.view_is) c.requires.newest in
    let pushed = rw c.unwrap.ensures at c.push.ensures.items in
    record { reaches = rw (← c.self.view_is, pushed) (sym (with_last c.args.reach c.self.inside.reaches.items below)) }
