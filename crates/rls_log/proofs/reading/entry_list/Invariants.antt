use Rattle.std.proofs.Common.{◌-◌, None, length}
use Rattle.rls_codec.specs.Reading.{op_at, chain_at}
use Rattle.rls_log.specs.Large.{AreLargeWithin}
use Rattle.rls_log.proofs.Entries.{SoFar}
use Rattle.rls_log.proofs.reading.entry_list.Given as goal

abbrev pub invariant-loop : goal.invariant-loop
invariant-loop l = record {
  found : SoFar l.bytes l.members (l.count - l.counter) (chain_at (λ before. op_at l.members) None l.count l.bytes) l.entries.items l.rest;
  values : AreLargeWithin l.bytes (length l.bytes - length l.rest) l.values.items;
}
