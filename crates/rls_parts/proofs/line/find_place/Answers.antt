use Rattle.rls_parts.proofs.Placing.{found_read, not_read}
use Rattle.rls_parts.proofs.line.find_place.Goals as goal
use Rattle.rls_parts.proofs.line.find_place.Goals.{else-place-reaches-via-then-place-reaches+else-reaches-place, else-place-reaches-via-else-place-reaches}
use Rattle.std.proofs.Common.{pos, arith}

pub returns-then-reaches-place-clause-some : goal.returns-then-reaches-place-clause-some
returns-then-reaches-place-clause-some c = found_read c.args.reaches.now c.args.s0 c.place_of-place.result _ c.place_of-place.ensures.place c.if-place-reaches.true c.if-reaches-place.true

pub returns-clause-none : goal.returns-clause-none
returns-clause-none c =
    elim c.else-place-reaches.branch [
      | else-place-reaches-via-then-place-reaches+else-reaches-place w ↦ not_read c.args.reaches.now c.args.s0 c.place_of-place.result _ c.requires.rising c.place_of-place.ensures.place (λ l. w.if-reaches-place.false)
      | else-place-reaches-via-else-place-reaches w ↦ not_read c.args.reaches.now c.args.s0 c.place_of-place.result (record { s0 = 0; low = pos 0; next = 0 }) c.requires.rising c.place_of-place.ensures.place (λ l. absurd (omega arith))
    ]
