-- What a tree of epochs is seen as.
use Rattle.std.specs.Prelude.{◌≡◌, ℕ, zero, suc, Bool, false, ◌||◌, Option, Some, None, List, [], ◌∷◌, ◌++◌, length, map, reverse, sum_by, if◌then◌else◌}
use Rattle.rls_ident.specs.declared.epoch_name.EpochName.{EpochName}
use Rattle.rls_ident.specs.EpochNames.{name_eq}
use Rattle.rls_rename.specs.Renaming.{Renaming}
use Rattle.rls_rename.specs.Tree.{Node, Epochs, name_of, is_of, AreNodes, AreBelow, epoch_cmp, greatest, names}
use Rattle.rls_rename.specs.Connected.{in_order}
use Rattle.rls_epoch.specs.declared.placed.Placed.{Placed}
use Rattle.rls_epoch.specs.Links.{AreLinked}
use Rattle.rls_epoch.specs.Maxima.{AreMaxima}

-- the epochs, those that are marked, and for how many more nodes there is room
pub record EpochsSeen : Type 0 where
  pub epochs : Epochs
  pub marks : List EpochName
  pub spare : ℕ

-- whether the epoch is marked
abbrev pub is_marked : List EpochName → EpochName → Bool
is_marked [] e = false
is_marked (f ∷ marks) e = name_eq f e || is_marked marks e

-- the number of former identifiers of these nodes
abbrev pub former_sum : List Node → ℕ
former_sum nodes = sum_by (λ node. length node.renaming.former) nodes

-- all epochs in increasing order, of which the topmost is the first
abbrev pub rising_epochs : Epochs → List EpochName
rising_epochs E = in_order E.nodes (E.top ∷ names E.nodes)

-- the answer says whether the epoch that this renaming opens in another is greater than all that are kept
abbrev pub OpensGreatest : Bool → Epochs → EpochName → Renaming → Type 0
OpensGreatest b E parent R = b ≡ name_eq (greatest E.top (record { parent = parent; renaming = R } ∷ E.nodes)) (name_of R)

-- the node of the epoch
abbrev pub node_for : List Node → EpochName → Option Node
node_for [] e = None
node_for (node ∷ older) e = if is_of node e then Some node else node_for older e

-- ---- what the code keeps

abbrev pub node_of : Placed → Node
node_of p = record { parent = p.parent; renaming = p.renaming }

-- the nodes, of which the latest is the last
abbrev pub nodes_of : List Placed → List Node
nodes_of placed = map node_of (reverse placed)

-- those of these names whose mark isn't 0
abbrev pub marked_of : List EpochName → List ℕ → List EpochName
marked_of (e ∷ es) (zero ∷ ms) = marked_of es ms
marked_of (e ∷ es) (suc m ∷ ms) = e ∷ marked_of es ms
marked_of _ _ = []

-- the epochs by their numbers
abbrev pub epochs_by_number : EpochName → List Placed → List EpochName
epochs_by_number top placed = top ∷ map (λ p. name_of p.renaming) placed

-- the marked epochs, by their numbers
abbrev pub marks_of : EpochName → List Placed → List ℕ → List EpochName
marks_of top placed marks = marked_of (epochs_by_number top placed) marks

-- one tree below the topmost epoch, linked by numbers
pub record AreLaid (top : EpochName) (placed : List Placed) : Type 0 where
  pub nodes : AreNodes (nodes_of placed)
  pub below : AreBelow top (nodes_of placed)
  pub links : AreLinked top placed

-- a topmost epoch and the nodes below it, of which the latest is the last, and for how many more there is room
pub record NodesSeen : Type 0 where
  pub top : EpochName
  pub placed : List Placed
  pub spare : ℕ

-- with the maxima of the nodes, a mark for each epoch, and this number of former identifiers
pub record IsWhole (top : EpochName) (placed : List Placed) (maxima marks : List ℕ) (total : ℕ) : Type 0 where
  pub laid : AreLaid top placed
  pub maxima_are : AreMaxima (epoch_cmp (nodes_of placed)) top placed maxima
  pub marks_whole : length marks ≡ suc (length placed)
  pub sum : total ≡ former_sum (nodes_of placed)

-- the last node was added, and those before it have their maxima without it
pub record IsAdded (top : EpochName) (placed : List Placed) (maxima : List ℕ) : Type 0 where
  pub older : List Placed
  pub node : Placed
  pub before : List ℕ
  pub nodes_are : placed ≡ older ++ (node ∷ [])
  pub numbers_are : maxima ≡ before ++ (0 ∷ [])
  pub maxima_are : AreMaxima (epoch_cmp (nodes_of older)) top older before
