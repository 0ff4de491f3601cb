use Rattle.std.proofs.Common.{◌≡◌, ◌+◌, ◌++◌, ◌≤◌, drop, length}
use Rattle.std.specs.VecDeque.{deque_len, deque_capacity}
use Rattle.rls_runs.proofs.text.push_front_reserved.Given as goal

-- the characters from a place on were put
abbrev pub invariant-chars : goal.invariant-chars
invariant-chars l = record {
  place : l.i ≤ length l.chars;
  items : l.ring.items ≡ drop l.i l.chars ++ l.fn.ring.items;
  len : deque_len l.ring + l.i ≡ deque_len l.fn.ring + length l.chars;
  capacity : deque_capacity l.ring ≡ deque_capacity l.fn.ring;
}

abbrev pub decreases-chars : goal.decreases-chars
decreases-chars l = l.i
