use Rattle.std.proofs.Common.{◌≡◌, ◌-◌, ◌++◌}
use Rattle.rls_fields.proofs.Puts.{by_author}
use Rattle.rls_fields.proofs.write_stems.put_stems.Given as goal

abbrev pub invariant-loop-author : goal.invariant-loop-author
invariant-loop-author l = l.out.items ++ by_author l.author (l.members - l.author) l.stems.stems ≡ l.fn.out.items ++ by_author 0 l.members l.stems.stems
