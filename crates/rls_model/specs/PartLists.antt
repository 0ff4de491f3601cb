-- The epochs and the text, as a file holds them.
use Rattle.std.specs.Prelude.{ℕ, ◌+◌, List, [], ◌∷◌, map, position, Option, Some, None, if◌then◌else◌}
use Rattle.rls_ident.specs.declared.tuple.Tuple.{Tuple}
use Rattle.rls_ident.specs.declared.epoch_name.EpochName.{EpochName}
use Rattle.rls_ident.specs.EpochNames.{name_eq}
use Rattle.rls_ident.specs.Identifiers.{follows}
use Rattle.rls_rename.specs.Tree.{Node, is_of}
use Rattle.rls_model.specs.declared.parts.EpochPart.{EpochPart}
use Rattle.rls_model.specs.declared.parts.TextRun.{TextRun}

-- the node of the epoch
abbrev pub node_of : List Node → EpochName → Option Node
node_of [] e = None
node_of (node ∷ older) e = if is_of node e then Some node else node_of older e

-- the topmost epoch is kept by its name alone
abbrev pub top_part : EpochName → EpochPart
top_part e = record { name = e; parent = None; former = [] }

-- an epoch in the list es, with this node
abbrev pub epoch_part : List EpochName → EpochName → Option Node → EpochPart
epoch_part es e None = top_part e
epoch_part es e (Some node) = record { name = e; parent = position (name_eq node.parent) es; former = node.renaming.former }

-- the epochs of the list, of which the first is the topmost
abbrev pub epoch_parts : List Node → List EpochName → List EpochPart
epoch_parts nodes [] = []
epoch_parts nodes (top ∷ es) = top_part top ∷ map (λ e. epoch_part (top ∷ es) e (node_of nodes e)) es

-- the runs with one more entry in front, which joins the first run where that follows it
abbrev pub put_text : List Tuple × ℕ → List TextRun → List TextRun
put_text e [] = record { run = (e.0, 1); text = e.1 ∷ [] } ∷ []
put_text e (r ∷ rs) =
    if follows r.run.0 e.0
    then record { run = (e.0, r.run.1 + 1); text = e.1 ∷ r.text } ∷ rs
    else record { run = (e.0, 1); text = e.1 ∷ [] } ∷ r ∷ rs

-- the maximal runs with their characters
abbrev pub text_runs : List (List Tuple × ℕ) → List TextRun
text_runs [] = []
text_runs (e ∷ es) = put_text e (text_runs es)
