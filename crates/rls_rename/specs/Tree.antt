-- Epochs: a topmost epoch and the renamings below it. They stand latest first, so that a parent stands behind its children.
-- Why: docs/DECISIONS.md, 9.
use Rattle.std.specs.Prelude.{ℕ, Bool, false, ◌||◌, List, [], ◌∷◌, ◌++◌, if◌then◌else◌, IsTrue, IsFalse}
use Rattle.std.specs.declared.cmp.Ordering.{Ordering}
use Rattle.std.specs.Ordering.{is_lt, nat_cmp, on, then_cmp}
use Rattle.std.specs.Cmp.Lexicographic.{slice_cmp}
use Rattle.rls_ident.specs.declared.tuple.Tuple.{Tuple}
use Rattle.rls_ident.specs.declared.epoch_name.EpochName.{EpochName}
use Rattle.rls_ident.specs.declared.epoch_name.EpochName.TheVariants.{Of}
use Rattle.rls_ident.specs.EpochNames.{name_eq, is_within}
use Rattle.rls_ident.specs.Lists.{AreIn}
use Rattle.rls_rename.specs.Renaming.{Renaming, IsFormer, forward, back}

-- an epoch below the topmost one: the epoch in which it was opened, and the renaming that opened it
pub record Node : Type 0 where
  pub parent : EpochName
  pub renaming : Renaming

-- a topmost epoch and the nodes below it
pub record Epochs : Type 0 where
  pub top : EpochName
  pub nodes : List Node

-- the epoch that a rename opens
abbrev pub name_of : Renaming → EpochName
name_of R = Of R.replica R.seq

-- both open the same epoch
abbrev pub same_name : Renaming → Renaming → Bool
same_name R S = name_eq (name_of R) (name_of S)

-- the node is that of the epoch
abbrev pub is_of : Node → EpochName → Bool
is_of node e = name_eq (name_of node.renaming) e

-- some node is that of the epoch
abbrev pub has_node : List Node → EpochName → Bool
has_node [] e = false
has_node (node ∷ older) e = is_of node e || has_node older e

-- the epoch is the topmost one or that of a node
abbrev pub is_kept : EpochName → List Node → EpochName → Bool
is_kept top nodes e = name_eq e top || has_node nodes e

-- no two nodes have one name, and each has a former list
abbrev pub AreNodes : List Node → Type 0
AreNodes [] = Unit {0}
AreNodes (node ∷ older) = IsFormer node.renaming.former × IsFalse (has_node older (name_of node.renaming)) × AreNodes older

-- each parent is kept before its child, and no node has the topmost epoch's name
abbrev pub AreBelow : EpochName → List Node → Type 0
AreBelow top [] = Unit {0}
AreBelow top (node ∷ older) = IsTrue (is_kept top older node.parent) × IsFalse (is_of node top) × AreBelow top older

-- the nodes form one tree below the topmost epoch
abbrev pub IsTree : Epochs → Type 0
IsTree E = AreNodes E.nodes × AreBelow E.top E.nodes

-- a part of the epochs with an own topmost one
abbrev pub IsWindow : Epochs → Epochs → Type 0
IsWindow M E = IsTree M × AreIn M.nodes E.nodes × IsTrue (is_kept E.top E.nodes M.top)

-- ---- paths and their order

-- the renamings from the topmost epoch down to e; the topmost has the empty path
unfoldable pub path : List Node → EpochName → List Renaming
path [] e = []
path (node ∷ older) e =
    path older (if is_of node e then node.parent else e) ++ (if is_of node e then node.renaming ∷ [] else [])

-- by replica, then by number
abbrev pub renaming_cmp : Renaming → Renaming → Ordering
renaming_cmp = then_cmp (on (λ R. R.replica) nat_cmp) (on (λ R. R.seq) nat_cmp)

-- the order of the epochs: lexicographic by their paths, in which a proper prefix is less
abbrev pub epoch_cmp : List Node → EpochName → EpochName → Ordering
epoch_cmp nodes e f = slice_cmp renaming_cmp (path nodes e) (path nodes f)

-- the greater of two epochs
abbrev pub later_of : List Node → EpochName → EpochName → EpochName
later_of nodes e f = if is_lt (epoch_cmp nodes e f) then f else e

-- the greatest of e and these epochs
abbrev pub greatest_from : List Node → EpochName → List EpochName → EpochName
greatest_from nodes e [] = e
greatest_from nodes e (f ∷ fs) = greatest_from nodes (later_of nodes e f) fs

-- the names of the nodes
abbrev pub names : List Node → List EpochName
names [] = []
names (node ∷ older) = name_of node.renaming ∷ names older

-- those within the vector
abbrev pub names_within : List EpochName → List ℕ → List EpochName
names_within [] v = []
names_within (e ∷ es) v = if is_within e v then e ∷ names_within es v else names_within es v

-- the greatest epoch
unfoldable pub greatest : EpochName → List Node → EpochName
greatest top nodes = greatest_from nodes top (names nodes)

-- the greatest epoch within the vector, or the topmost one where none is
unfoldable pub greatest_within : EpochName → List Node → List ℕ → EpochName
greatest_within top nodes v = greatest_from nodes top (names_within (names nodes) v)

-- ---- translation

-- forward by each renaming in turn
unfoldable pub forward_all : List Renaming → List Tuple → List Tuple
forward_all [] x = x
forward_all (R ∷ Rs) x = forward_all Rs (forward R x)

-- back by each renaming, from the last one on
unfoldable pub back_all : List Renaming → List Tuple → List Tuple
back_all [] x = x
back_all (R ∷ Rs) x = back R (back_all Rs x)

-- from the end of one path to the end of the other, by way of the last epoch that they share
unfoldable pub along : List Renaming → List Renaming → List Tuple → List Tuple
along [] Ss x = forward_all Ss x
along (R ∷ Rs) [] x = back_all (R ∷ Rs) x
along (R ∷ Rs) (S ∷ Ss) x = if same_name R S then along Rs Ss x else forward_all (S ∷ Ss) (back_all (R ∷ Rs) x)

-- x from epoch e to epoch f
unfoldable pub translate : List Node → EpochName → EpochName → List Tuple → List Tuple
translate nodes e f x = along (path nodes e) (path nodes f) x
