use Rattle.std.proofs.Common.{arith}
use Rattle.rls_seen.proofs.EditedText.{delete_place}
use Rattle.rls_session.proofs.seat.goes_before.Goals as goal

pub overflow_add-behind : goal.overflow_add-behind
overflow_add-behind c =
    let place = delete_place c.args.replica.now c.args.draft.now.at c.args.draft.now.count c.requires.within in
    omega (arith, place.0)
