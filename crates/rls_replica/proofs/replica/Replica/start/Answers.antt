use Rattle.std.proofs.Common.{sym}
use Rattle.std.proofs.lemmas.List.{length-replicate}
use Rattle.rls_model.specs.Legal.{AreNumbers}
use Rattle.rls_seen.proofs.Starting.{fresh_stands}
use Rattle.rls_seen.proofs.Staying.{fresh_sane}
use Rattle.rls_replica.proofs.replica.Replica.start.Goals as goal

pub invariant_of-result : goal.invariant_of-result
invariant_of-result c =
    let numbers : AreNumbers c.args.group c.args.me c.args.members = (c.ranges.group.fits, c.requires.me, c.requires.few) in
    rw (c.in_ok-new.ensures.fresh, c.in_ok-new-2.ensures.stems, c.in_ok-new-2.ensures.members, c.in_ok-starting_at.ensures.epochs, c.new-3.ensures.empty, c.new-4.ensures.empty, c.new-5.ensures.empty)
    (record { sane = fresh_sane c.args.group c.args.me c.args.members numbers; authors_are = sym (length-replicate c.args.members 0); gone_are = tt; known_are = tt })

pub returns-clause-stands : goal.returns-clause-stands
returns-clause-stands c =
    let numbers : AreNumbers c.args.group c.args.me c.args.members = (c.ranges.group.fits, c.requires.me, c.requires.few) in
    rw (c.in_ok-new.ensures.fresh, c.in_ok-new-2.ensures.stems, c.in_ok-starting_at.ensures.epochs, c.new-3.ensures.empty, c.new-4.ensures.empty, c.new-5.ensures.empty)
    (fresh_stands c.args.group c.args.me c.args.members numbers)
