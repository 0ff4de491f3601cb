-- Which targets are known, and which epochs are retained.
use Rattle.std.specs.Prelude.{Bool, ◌||◌, List, ◌++◌, map}
use Rattle.std.specs.List.{list_any}
use Rattle.rls_ident.specs.declared.tuple.Tuple.{Tuple}
use Rattle.rls_ident.specs.declared.epoch_name.EpochName.{EpochName}
use Rattle.rls_ident.specs.Identifiers.{ident_eq}
use Rattle.rls_rename.specs.Connected.{spanned}
use Rattle.rls_rename.specs.Keeping.{reached}
use Rattle.rls_model.specs.Document.{targets_of}
use Rattle.rls_seen.specs.Seen.{Seen, stable_over, unstable_over, greatest_over, translate_over}

-- the target is in the text, by its identifier in this epoch, or that of a target of an unstable deletion
unfoldable pub is_known_over : Seen → EpochName → List Tuple → Bool
is_known_over s e x =
    list_any (λ y. ident_eq y.0 (translate_over s e (greatest_over s) x)) s.text
    || list_any (λ d. list_any (λ t. ident_eq (translate_over s d.epoch e t) x) (targets_of d.body)) (unstable_over s)

-- the epochs of the unstable operations
abbrev pub marked_over : Seen → List EpochName
marked_over s = map (λ o. o.epoch) (unstable_over s)

-- the epochs that must stay beside the greatest: each at least the greatest stable one, and those of the unstable operations
abbrev pub needed_over : Seen → List EpochName
needed_over s = reached s.epochs (stable_over s) ++ marked_over s

-- the retained epochs, in increasing order
unfoldable pub retained_over : Seen → List EpochName
retained_over s = spanned s.epochs.top s.epochs.nodes (greatest_over s) (needed_over s)
