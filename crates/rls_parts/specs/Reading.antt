-- What parts say.
use Rattle.std.specs.Prelude.{ℕ, suc, ◌+◌, Bool, List, [], ◌∷◌, ◌==◌, nat_lt, map, slice_get, Option, Some, None, if◌then◌else◌}
use Rattle.std.specs.List.{list_any}
use Rattle.rls_ident.specs.declared.tuple.Tuple.{Tuple}
use Rattle.rls_ident.specs.declared.epoch_name.EpochName.{EpochName}
use Rattle.rls_ident.specs.declared.epoch_name.EpochName.TheVariants.{Origin, Of}
use Rattle.rls_rename.specs.Tree.{Node, Epochs}
use Rattle.rls_rename.specs.Tree as tree
use Rattle.rls_ops.specs.Rows.{least_of}
use Rattle.rls_model.specs.declared.parts.EpochPart.{EpochPart}
use Rattle.rls_model.specs.declared.parts.Parts.{Parts}

-- ---- rows

-- the member whose row stands at this place: the own row is left out
abbrev pub member_at : ℕ → ℕ → ℕ
member_at me i = if nat_lt i me then i else i + 1

-- the number stands in the list
abbrev pub has_member : List ℕ → ℕ → Bool
has_member ms a = list_any (λ b. b == a) ms

-- the rows from this place on, without those of members that have left
abbrev pub awaited_from : ℕ → List ℕ → ℕ → List (List ℕ) → List (List ℕ)
awaited_from me left i [] = []
awaited_from me left i (row ∷ rows) =
    if has_member left (member_at me i) then awaited_from me left (suc i) rows else row ∷ awaited_from me left (suc i) rows

-- member by member, the least count of the vector and the rows of all other members that haven't left
unfoldable pub stable_of_parts : Parts → List ℕ
stable_of_parts p = least_of p.vector (awaited_from p.me p.left 0 p.rows)

-- ---- epochs

-- the name of an entry, or the origin where there is none
abbrev pub name_or_origin : Option EpochPart → EpochName
name_or_origin None = Origin
name_or_origin (Some e) = e.name

-- the name of the topmost epoch
abbrev pub top_name : List EpochPart → EpochName
top_name es = name_or_origin (slice_get es 0)

-- the nodes with one more, of an epoch of this name, with the parent at this place of the list
abbrev pub with_node : List EpochPart → EpochPart → EpochName → Option ℕ → List Node → List Node
with_node all e (Of r s) (Some k) older =
    record { parent = name_or_origin (slice_get all k); renaming = record { former = e.former; replica = r; seq = s } } ∷ older
with_node all e _ _ older = older

-- the nodes of these entries put onto others; the first has none, since it has no parent
abbrev pub nodes_onto : List EpochPart → List Node → List EpochPart → List Node
nodes_onto all older [] = older
nodes_onto all older (e ∷ es) = nodes_onto all (with_node all e e.name e.parent older) es

-- the nodes of a list of entries, the latest first
unfoldable pub nodes_of : List EpochPart → List Node
nodes_of es = nodes_onto es [] es

-- the epochs
abbrev pub epochs_of : Parts → Epochs
epochs_of p = record { top = top_name p.epochs; nodes = nodes_of p.epochs }

-- the greatest of them
abbrev pub greatest_of_parts : Parts → EpochName
greatest_of_parts p = tree.greatest (top_name p.epochs) (nodes_of p.epochs)

-- the names of the entries, in order
abbrev pub names_of : List EpochPart → List EpochName
names_of es = map (λ e. e.name) es

-- x from the greatest epoch to this one
abbrev pub in_epoch : Parts → EpochName → List Tuple → List Tuple
in_epoch p f x = tree.translate (nodes_of p.epochs) (greatest_of_parts p) f x
