use Rattle.std.proofs.Common.{◌≡◌, ◌<◌, true, false, drop, length}
use Rattle.rls_cli.proofs.given.behind_first.Given as goal

-- the words behind the first were taken
abbrev pub invariant-loop-word : goal.invariant-loop-word
invariant-loop-word g l = record {
  words : l.words.items ≡ drop 1 l.yielded;
  first : (l.is_first ≡ true) → length l.yielded ≡ 0;
  later : (l.is_first ≡ false) → 0 < length l.yielded;
}
