use Rattle.std.proofs.Common.{◌≡◌, ◌-◌}
use Rattle.rls_model.specs.History.{History, Then}
use Rattle.rls_file.specs.ReadingFiles.{steps_at, entry_at}
use Rattle.rls_file.specs.ReadingJournals.{IsAfter}
use Rattle.rls_file.proofs.reading.events.Given as goal

-- what is left makes of the history so far what all of it makes of the first
abbrev pub invariant-events : goal.invariant-events
invariant-events l = record {
  read : (H : History) → IsAfter H l.fn.replica → (K : History) × IsAfter K l.replica × (steps_at entry_at Then K (l.count - l.counter) l.rest ≡ steps_at entry_at Then H l.count l.bytes);
}
