use Rattle.std.proofs.Common.{sym, ◌∙◌, arith}
use Rattle.rls_rename.proofs.GapPlaces.{gap_most}
use Rattle.rls_rename.proofs.pairing.Pairing.forward_head.Goals as goal

pub forward_head_above-requires-clause-gap : goal.forward_head_above-requires-clause-gap
forward_head_above-requires-clause-gap c = sym c.find.ensures.place ∙ c.in-Err.is

pub forward_head_between-requires-clause-gap : goal.forward_head_between-requires-clause-gap
forward_head_between-requires-clause-gap c = sym c.find.ensures.place ∙ c.in-Err.is

pub forward_head_between-requires-clause-within : goal.forward_head_between-requires-clause-within
forward_head_between-requires-clause-within c =
    let m = gap_most c.args.self.now.former c.args.head.now c.in-Err.gap (sym c.find.ensures.place ∙ c.in-Err.is) in
    let f = c.if-gap-total.false in
    let t = c.total-total.ensures.total in
    omega arith
