-- The epochs that are retained.
-- Why: docs/DECISIONS.md, 13.
use Rattle.std.specs.Prelude.{not, List, ◌∷◌, ◌++◌, map, filter}
use Rattle.std.specs.Ordering.{is_lt}
use Rattle.rls_ident.specs.declared.epoch_name.EpochName.{EpochName}
use Rattle.rls_ident.specs.declared.epoch_name.EpochName.TheVariants.{Origin}
use Rattle.rls_rename.specs.Renaming.{Renaming}
use Rattle.rls_rename.specs.Tree.{epoch_cmp, names}
use Rattle.rls_rename.specs.Connected.{spanned, spanned_renamings}
use Rattle.rls_model.specs.History.{History}
use Rattle.rls_model.specs.Stability.{stable, unstable}
use Rattle.rls_model.specs.Epochs.{epochs, greatest, greatest_within}

-- the epochs of the unstable operations
abbrev pub marked : History → List EpochName
marked H = map (λ o. o.epoch) (unstable H)

-- the epochs that must stay beside the greatest: each at least the greatest stable one, and that of each unstable operation
abbrev pub needed : History → List EpochName
needed H =
    filter (λ e. not (is_lt (epoch_cmp (epochs H) e (greatest_within H (stable H))))) (Origin ∷ names (epochs H))
    ++ marked H

-- the smallest connected part of the tree that holds these, in increasing order
unfoldable pub retained : History → List EpochName
retained H = spanned Origin (epochs H) (greatest H) (needed H)

-- the renamings of that part below its topmost epoch
unfoldable pub retained_renamings : History → List Renaming
retained_renamings H = spanned_renamings (epochs H) (greatest H) (needed H)
