use Rattle.std.proofs.Common.{◌≡◌, ◌+◌, ◌*◌, ◌≤◌, take, length, sum_by}
use Rattle.rls_ops.specs.Sizes.{char_size}
use Rattle.rls_ops.proofs.size.chars_len.Given as goal

-- the characters so far, of at most four bytes each, and a byte for each of the others
abbrev pub invariant-loop-c : goal.invariant-loop-c
invariant-loop-c l = record {
  size : l.total + l.c-index ≡ length l.chars + sum_by char_size (take l.c-index l.chars);
  most : l.total ≤ length l.chars + 3 * l.c-index;
}
