use Rattle.std.proofs.Common.{◌≡◌, ◌+◌, ◌-◌, ◌^◌, ◌≤◌, min, length}
use Rattle.rls_fields.proofs.Puts.{by_author}
use Rattle.rls_fields.proofs.write_stems.stems_len.Given as goal

abbrev pub invariant-loop-author : goal.invariant-loop-author
invariant-loop-author l = record {
  size : min (l.total + length (by_author l.author (l.members - l.author) l.stems.stems)) (2 ^ 64 - 1) ≡ min (length (by_author 0 l.members l.stems.stems)) (2 ^ 64 - 1);
  fits : l.total ≤ 2 ^ 64 - 1;
}
