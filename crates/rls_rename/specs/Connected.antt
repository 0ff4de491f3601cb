-- The smallest connected part of a tree that holds given epochs.
use Rattle.std.specs.Prelude.{◌≡◌, Bool, true, false, ◌&&◌, not, List, [], ◌∷◌, map, filter, if◌then◌else◌, IsTrue}
use Rattle.std.specs.declared.cmp.Ordering.TheVariants.{Less}
use Rattle.std.specs.Ordering.{is_lt}
use Rattle.std.specs.List.{list_any}
use Rattle.rls_ident.specs.declared.epoch_name.EpochName.{EpochName}
use Rattle.rls_ident.specs.Lists.{IsIn}
use Rattle.rls_rename.specs.Renaming.{Renaming}
use Rattle.rls_rename.specs.Tree.{Node, Epochs, same_name, is_kept, path, epoch_cmp, names, name_of}

-- the second path is a prefix of the first
abbrev pub begins_with : List Renaming → List Renaming → Bool
begins_with Rs [] = true
begins_with [] (S ∷ Ss) = false
begins_with (R ∷ Rs) (S ∷ Ss) = same_name R S && begins_with Rs Ss

-- the longest common prefix of two paths
abbrev pub common_prefix : List Renaming → List Renaming → List Renaming
common_prefix (R ∷ Rs) (S ∷ Ss) = if same_name R S then R ∷ common_prefix Rs Ss else []
common_prefix _ _ = []

-- the longest common prefix of a path and these paths
abbrev pub common_prefix_of : List Renaming → List (List Renaming) → List Renaming
common_prefix_of front [] = front
common_prefix_of front (Rs ∷ Rss) = common_prefix_of (common_prefix front Rs) Rss

-- the path to the lowest epoch that is above, or one of, e and these epochs
unfoldable pub top_path : List Node → EpochName → List EpochName → List Renaming
top_path nodes e es = common_prefix_of (path nodes e) (map (path nodes) es)

-- the epoch lies between that epoch and one of e and these
unfoldable pub is_spanned : List Node → EpochName → List EpochName → EpochName → Bool
is_spanned nodes e es f =
    begins_with (path nodes f) (top_path nodes e es) && list_any (λ g. begins_with (path nodes g) (path nodes f)) (e ∷ es)

-- the list with the epoch before the first greater one
abbrev pub put_epoch : List Node → EpochName → List EpochName → List EpochName
put_epoch nodes e [] = e ∷ []
put_epoch nodes e (f ∷ fs) = if is_lt (epoch_cmp nodes f e) then f ∷ put_epoch nodes e fs else e ∷ f ∷ fs

-- the list in increasing order
abbrev pub in_order : List Node → List EpochName → List EpochName
in_order nodes [] = []
in_order nodes (e ∷ es) = put_epoch nodes e (in_order nodes es)

-- the smallest connected part that holds e and these epochs, in increasing order
unfoldable pub spanned : EpochName → List Node → EpochName → List EpochName → List EpochName
spanned top nodes e es = in_order nodes (filter (is_spanned nodes e es) (top ∷ names nodes))

-- the renamings of that part below its topmost epoch
unfoldable pub spanned_renamings : List Node → EpochName → List EpochName → List Renaming
spanned_renamings nodes e es =
    filter (λ R. is_spanned nodes e es (name_of R) && not (begins_with (top_path nodes e es) (path nodes (name_of R)))) (map (λ node. node.renaming) nodes)

-- ---- what that part is

-- all of these are kept
abbrev pub AreKept : Epochs → List EpochName → Type 0
AreKept E es = (f : EpochName) → IsIn f es → IsTrue (is_kept E.top E.nodes f)

-- these epochs are connected below u: it is one of them, and the parent of each other is one of them
abbrev pub AreConnected : Epochs → EpochName → List EpochName → Type 0
AreConnected E u es =
    IsTrue (is_kept E.top E.nodes u) × IsIn u es
    × ((f : EpochName) → IsIn f es → (f ≡ u → ⊥) → (n : Node) × IsIn n E.nodes × (name_of n.renaming ≡ f) × IsIn n.parent es)

-- each is less than the next
abbrev pub AreRising : List Node → List EpochName → Type 0
AreRising nodes [] = Unit {0}
AreRising nodes (e ∷ []) = Unit {0}
AreRising nodes (e ∷ (f ∷ fs)) = (epoch_cmp nodes e f ≡ Less) × AreRising nodes (f ∷ fs)
