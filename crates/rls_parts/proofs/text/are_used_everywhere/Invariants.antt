use Rattle.std.proofs.Common.{◌≡◌, ◌≤◌, length, map, take, true}
use Rattle.std.specs.List.{list_all}
use Rattle.rls_ident.specs.declared.epoch_name.EpochName.{EpochName}
use Rattle.rls_rename.specs.Tree.{greatest, is_kept, translate}
use Rattle.rls_model.specs.declared.parts.Parts.{Parts}
use Rattle.rls_parts.specs.Reading.{epochs_of, names_of}
use Rattle.rls_parts.proofs.TextEpochs.{used_in}
use Rattle.rls_parts.proofs.text.are_used_everywhere.Given as goal

-- the images lead on as the identifiers do from the greatest epoch, and were used in the epochs that aren't left
abbrev pub invariant-loop-left : goal.invariant-loop-left
invariant-loop-left l = record {
  within : l.left ≤ length l.list;
  kept : is_kept l.epochs.epochs.top l.epochs.epochs.nodes l.here ≡ true;
  images : (f : EpochName) → map (translate l.epochs.epochs.nodes l.here f) l.images ≡ map (translate l.epochs.epochs.nodes (greatest l.epochs.epochs.top l.epochs.epochs.nodes) f) l.fn.ids;
  rest : (p : Parts) → p.stems ≡ l.stems.stems → epochs_of p ≡ l.epochs.epochs → list_all (used_in p l.fn.ids) (names_of (take l.left l.list)) ≡ list_all (used_in p l.fn.ids) (names_of l.list);
}

abbrev pub decreases-loop-left : goal.decreases-loop-left
decreases-loop-left l = l.left
