use Rattle.std.proofs.Common.{◌≡◌, ◌++◌, take}
use Rattle.rls_model.specs.Laws.{AreEdits}
use Rattle.rls_changes.specs.Edits.{edit_changes}
use Rattle.rls_changes.proofs.edits.push_edits.Given as goal

-- those of the first ones
abbrev pub invariant-edits : goal.invariant-edits
invariant-edits l = record {
  told : l.changes.items ≡ l.initial.changes.items ++ edit_changes (take l.i l.edits);
  whole : AreEdits (take l.i l.edits);
}
