use Rattle.std.proofs.Common.{◌≡◌, length}
use denote.Shadow.{shadow}
use denote.Text.{Utf8}
use Rattle.rls_places.specs.Words.{tuples_of}
use Rattle.rls_places.proofs.Pieces.{after}
use Rattle.rls_places.proofs.reading.tuples.Given as goal

abbrev pub invariant-loop-piece : goal.invariant-loop-piece
invariant-loop-piece l = (after l.tuples.items (tuples_of l.rest) ≡ tuples_of l.word) × shadow (Utf8 l.rest)

abbrev pub decreases-loop-piece : goal.decreases-loop-piece
decreases-loop-piece l = length l.rest
