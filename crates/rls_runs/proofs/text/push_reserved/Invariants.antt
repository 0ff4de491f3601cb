use Rattle.std.proofs.Common.{◌≡◌, ◌+◌, ◌++◌, take}
use Rattle.std.specs.VecDeque.{deque_len, deque_capacity}
use Rattle.rls_runs.proofs.text.push_reserved.Given as goal

-- the characters so far were put
abbrev pub invariant-loop-c : goal.invariant-loop-c
invariant-loop-c l = record {
  items : l.ring.items ≡ l.fn.ring.items ++ take l.c-index l.chars;
  len : deque_len l.ring ≡ deque_len l.fn.ring + l.c-index;
  capacity : deque_capacity l.ring ≡ deque_capacity l.fn.ring;
}
