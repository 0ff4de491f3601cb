use Rattle.std.proofs.Common.{◌≡◌, map, take}
use Rattle.rls_undo.specs.Translations.{IsKnown}
use Rattle.rls_undo.specs.Undoing.{settled_over}
use Rattle.rls_undo.proofs.translating.settled.Given as goal

-- those in front are there, and what is known is right
abbrev pub invariant-loop-i : goal.invariant-loop-i
invariant-loop-i l = record {
  there : l.there ≡ map (settled_over l.replica) (take l.i l.entries);
  known : IsKnown l.replica l.known;
}
