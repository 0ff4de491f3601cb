use Rattle.std.proofs.Common.{◌≡◌, ◌-◌, None}
use Rattle.rls_codec.specs.Reading.{chain_at}
use Rattle.rls_fields.specs.Listed.{behind}
use Rattle.rls_fields.specs.ReadingFields.{stem_at}
use Rattle.rls_fields.proofs.read_stems.stem_list.Given as goal

abbrev pub invariant-loop : goal.invariant-loop
invariant-loop l = behind l.stems (chain_at (λ before. stem_at l.form l.author) None (l.count - l.counter) l.rest) ≡ behind l.fn.stems (chain_at (λ before. stem_at l.form l.author) None l.count l.bytes)
