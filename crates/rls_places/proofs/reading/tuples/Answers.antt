use Rattle.std.proofs.Common.{rules, ◌∙◌, sym}
use Rattle.rls_places.proofs.Pieces.{ends, ends_bad, goes_on, is_bad}
use Rattle.rls_places.proofs.reading.tuples.Goals as goal

pub returns-in_default-tuple : goal.returns-in_default-tuple
returns-in_default-tuple c = record { tuples = is_bad c.loop-piece.tuples.items c.loop-piece.rest.now c.args.word.now _ c.loop-piece.invariant.0 (sym c.in-Some.ensures.parts) (sym c.tuple.ensures.tuple ∙ c.in_default-tuple.is) }

pub loop-piece-preserved : goal.loop-piece-preserved
loop-piece-preserved c = (
  rw c.in_ok-push.ensures.items (goes_on c.loop-piece.tuples.items c.loop-piece.rest.now c.args.word.now _ c.in-Some-tuple.tuple c.loop-piece.invariant.0 (sym c.in-Some.ensures.parts) (sym c.tuple.ensures.tuple ∙ c.in-Some-tuple.is)),
  search rules,
)

pub returns-in_default-tuple-2 : goal.returns-in_default-tuple-2
returns-in_default-tuple-2 c = record { tuples = ends_bad c.loop-piece.tuples.items c.loop-piece.rest.now c.args.word.now c.loop-piece.invariant.0 (sym c.in_default.ensures.parts) (sym c.tuple-2.ensures.tuple ∙ c.in_default-tuple-2.is) }

pub returns : goal.returns
returns c = record { tuples = rw c.in_ok-push-2.ensures.items (ends c.loop-piece.tuples.items c.loop-piece.rest.now c.args.word.now c.in-Some-tuple-2.last c.loop-piece.invariant.0 (sym c.in_default.ensures.parts) (sym c.tuple-2.ensures.tuple ∙ c.in-Some-tuple-2.is)) }
