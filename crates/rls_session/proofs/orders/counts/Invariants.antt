use Rattle.std.proofs.Common.{◌≡◌, length}
use denote.Shadow.{shadow}
use denote.Text.{Utf8}
use Rattle.rls_session.specs.Orders.{counts_of}
use Rattle.rls_session.proofs.Counts.{after}
use Rattle.rls_session.proofs.orders.counts.Given as goal

-- what was read stands before what the rest says
abbrev pub invariant-loop-first : goal.invariant-loop-first
invariant-loop-first l = (after l.counts.items (counts_of l.rest) ≡ counts_of l.digits) × shadow (Utf8 l.rest)

abbrev pub decreases-loop-first : goal.decreases-loop-first
decreases-loop-first l = length l.rest
