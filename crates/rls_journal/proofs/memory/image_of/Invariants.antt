use Rattle.std.proofs.Common.{◌≡◌, ◌≤◌, length, drop}
use Rattle.rls_journal.specs.Memory.{image_after}
use Rattle.rls_journal.specs.Records.{calls_of, bytes_in}
use Rattle.rls_journal.proofs.memory.image_of.Given as goal

-- the rest of the calls leads from here to the same image
abbrev pub invariant-loop-entry : goal.invariant-loop-entry
invariant-loop-entry l = record {
  fits : bytes_in (drop l.entry-index l.entries) ≤ length l.rest;
  image : image_after l.filler l.area l.seen.items l.image.items (calls_of (drop l.entry-index l.entries) l.rest) ≡ image_after l.filler l.area l.first l.first (calls_of l.entries l.written);
}
