-- What is kept of epochs where the rest is dropped.
use Rattle.std.specs.Prelude.{ℕ, Bool, not, ◌&&◌, List, [], ◌∷◌, ◌++◌, filter}
use Rattle.std.specs.Ordering.{is_lt}
use Rattle.rls_ident.specs.declared.epoch_name.EpochName.{EpochName}
use Rattle.rls_rename.specs.Renaming.{Renaming}
use Rattle.rls_rename.specs.Tree.{Node, Epochs, name_of, names, path, epoch_cmp, greatest, greatest_within}
use Rattle.rls_rename.specs.Connected.{begins_with, top_path, is_spanned}

-- the epoch to which a path from the topmost one leads
abbrev pub end_of : EpochName → List Renaming → EpochName
end_of top [] = top
end_of top (R ∷ Rs) = end_of (name_of R) Rs

-- the node lies in the smallest connected part that holds e and these epochs, and isn't its topmost
abbrev pub is_below : List Node → EpochName → List EpochName → Node → Bool
is_below nodes e es node =
    is_spanned nodes e es (name_of node.renaming) && not (begins_with (top_path nodes e es) (path nodes (name_of node.renaming)))

-- the nodes of that part below its topmost epoch
abbrev pub kept_nodes : List Node → EpochName → List EpochName → List Node
kept_nodes nodes e es = filter (is_below nodes e es) nodes

-- that part, with its own topmost epoch
unfoldable pub part : Epochs → EpochName → List EpochName → Epochs
part E e es = record { top = end_of E.top (top_path E.nodes e es); nodes = kept_nodes E.nodes e es }

-- the epochs that are at least the greatest one within the vector
abbrev pub reached : Epochs → List ℕ → List EpochName
reached E v = filter (λ e. not (is_lt (epoch_cmp E.nodes e (greatest_within E.top E.nodes v)))) (E.top ∷ names E.nodes)

-- the smallest connected part that holds the greatest epoch, these, and each that is at least the greatest one within the vector
abbrev pub kept_part : Epochs → List ℕ → List EpochName → Epochs
kept_part E v es = part E (greatest E.top E.nodes) (reached E v ++ es)
