-- Which targets are known.
use Rattle.std.specs.Prelude.{Bool, ◌||◌, List}
use Rattle.std.specs.List.{list_any}
use Rattle.rls_ident.specs.declared.tuple.Tuple.{Tuple}
use Rattle.rls_ident.specs.declared.epoch_name.EpochName.{EpochName}
use Rattle.rls_ident.specs.Identifiers.{ident_eq}
use Rattle.rls_model.specs.History.{History}
use Rattle.rls_model.specs.Stability.{unstable}
use Rattle.rls_model.specs.Epochs.{translate}
use Rattle.rls_model.specs.Document.{live, ident_in, targets_of}

-- the target is a live character's identifier in this epoch, or that of a target of an unstable deletion
unfoldable pub is_known : History → EpochName → List Tuple → Bool
is_known H e x =
    list_any (λ c. ident_eq (ident_in H e c) x) (live H)
    || list_any (λ d. list_any (λ t. ident_eq (translate H d.epoch e t) x) (targets_of d.body)) (unstable H)
