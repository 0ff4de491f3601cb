use Rattle.std.proofs.Common.{◌≡◌, ◌-◌}
use Rattle.rls_fields.specs.Listed.{behind}
use Rattle.rls_fields.specs.ReadingFields.{stems_at}
use Rattle.rls_fields.proofs.read_stems.stems.Given as goal

abbrev pub invariant-loop-author : goal.invariant-loop-author
invariant-loop-author l = behind l.stems (stems_at l.form l.author (l.members - l.author) l.rest) ≡ stems_at l.form 0 l.members l.bytes
