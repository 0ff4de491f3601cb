use Rattle.std.proofs.Common.{◌∙◌, arith, sym}
use Rattle.rls_session.proofs.Drafting.{draft_within}
use Rattle.rls_session.proofs.seat.merge.Goals as goal

pub joined-requires : goal.joined-requires
joined-requires c =
    let within = draft_within c.args.replica.now c.args.draft.now (sym c.is_none.ensures.none ∙ c.if-is_none.false) c.requires.drafted in
    record { within = omega (arith, within) }
