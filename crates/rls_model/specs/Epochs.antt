-- The epochs of a history, and translation along them.
use Rattle.std.specs.Prelude.{ℕ, List, [], ◌∷◌}
use Rattle.rls_ident.specs.declared.tuple.Tuple.{Tuple}
use Rattle.rls_ident.specs.declared.epoch_name.EpochName.{EpochName}
use Rattle.rls_ident.specs.declared.epoch_name.EpochName.TheVariants.{Origin}
use Rattle.rls_rename.specs.Renaming.{Renaming}
use Rattle.rls_rename.specs.Tree.{Node}
use Rattle.rls_rename.specs.Tree as tree
use Rattle.rls_ops.specs.declared.op.Op.{Op}
use Rattle.rls_ops.specs.declared.op.Body.{Body}
use Rattle.rls_ops.specs.declared.op.Body.TheVariants.{Insert, Delete, Rename, Leave}
use Rattle.rls_model.specs.History.{Accepted, Acknowledged, History, Fresh, Then}

-- the renaming of a rename
abbrev pub renaming_of : Op → List (List Tuple) → Renaming
renaming_of o former = record { former = former; replica = o.author; seq = o.seq }

-- the nodes after this operation, of which this is the body
abbrev pub nodes_after : List Node → Op → Body → List Node
nodes_after older o (Insert first text) = older
nodes_after older o (Delete targets) = older
nodes_after older o (Rename former) = record { parent = o.epoch; renaming = renaming_of o former } ∷ older
nodes_after older o Leave = older

-- the epochs below `Origin`, the latest first
abbrev pub epochs : History → List Node
epochs (Fresh group me members) = []
epochs (Then G (Accepted o)) = nodes_after (epochs G) o o.body
epochs (Then G (Acknowledged a v)) = epochs G

-- the greatest epoch
unfoldable pub greatest : History → EpochName
greatest H = tree.greatest Origin (epochs H)

-- the greatest epoch within the vector
unfoldable pub greatest_within : History → List ℕ → EpochName
greatest_within H v = tree.greatest_within Origin (epochs H) v

-- x from epoch e to epoch f
unfoldable pub translate : History → EpochName → EpochName → List Tuple → List Tuple
translate H e f x = tree.translate (epochs H) e f x
