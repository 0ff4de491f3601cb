-- The greatest epoch of a tree, and the greatest within a vector, are kept.
use Rattle.std.proofs.Common.{◌≡◌, ℕ, Bool, true, false, List, [], ◌∷◌, refl}
use Rattle.std.specs.Prelude.{◌||◌, if◌then◌else◌}
use Rattle.std.specs.Ordering.{is_lt}
use Rattle.rls_ident.specs.declared.epoch_name.EpochName.{EpochName}
use Rattle.rls_ident.specs.EpochNames.{name_eq, is_within}
use Rattle.rls_ident.proofs.Members.{or_left, or_right}
use Rattle.rls_rename.specs.Tree.{Node, name_of, is_of, has_node, is_kept, epoch_cmp, later_of, greatest_from, names, names_within, greatest, greatest_within}
use Rattle.rls_rename.proofs.Paths.{name_eq_refl}

-- each is kept
abbrev pub AreKept : EpochName → List Node → List EpochName → Type 0
AreKept top nodes [] = Unit {0}
AreKept top nodes (e ∷ es) = (is_kept top nodes e ≡ true) × AreKept top nodes es

later_kept : (top : EpochName) (nodes : List Node) (e f : EpochName) → is_kept top nodes e ≡ true → is_kept top nodes f ≡ true → is_kept top nodes (later_of nodes e f) ≡ true
later_kept top nodes e f h k = go (is_lt (epoch_cmp nodes e f))
  where
    go : (b : Bool) → is_kept top nodes (if b then f else e) ≡ true
    go true = k
    go false = h

pub from_kept : (top : EpochName) (nodes : List Node) (e : EpochName) (fs : List EpochName) → is_kept top nodes e ≡ true → AreKept top nodes fs → is_kept top nodes (greatest_from nodes e fs) ≡ true
from_kept top nodes e [] h k = h
from_kept top nodes e (f ∷ fs) h k = from_kept top nodes (later_of nodes e f) fs (later_kept top nodes e f h k.0) k.1

-- one more node keeps what was kept
pub kept_more : (top : EpochName) (node : Node) (older : List Node) (e : EpochName) → is_kept top older e ≡ true → is_kept top (node ∷ older) e ≡ true
kept_more top node older e h = go (name_eq e top) h
  where
    go : (b : Bool) → (b || has_node older e) ≡ true → (b || (is_of node e || has_node older e)) ≡ true
    go true k = refl
    go false k = or_right (is_of node e) (has_node older e) k

all_more : (top : EpochName) (node : Node) (older : List Node) (es : List EpochName) → AreKept top older es → AreKept top (node ∷ older) es
all_more top node older [] h = tt
all_more top node older (e ∷ es) h = (kept_more top node older e h.0, all_more top node older es h.1)

pub names_kept : (top : EpochName) (nodes : List Node) → AreKept top nodes (names nodes)
names_kept top [] = tt
names_kept top (node ∷ older) =
    let e = name_of node.renaming in (
      or_right (name_eq e top) (is_of node e || has_node older e) (or_left (is_of node e) (has_node older e) (name_eq_refl e)),
      all_more top node older (names older) (names_kept top older),
    )

within_kept : (top : EpochName) (nodes : List Node) (es : List EpochName) (v : List ℕ) → AreKept top nodes es → AreKept top nodes (names_within es v)
within_kept top nodes [] v h = tt
within_kept top nodes (e ∷ es) v h = go (is_within e v) (within_kept top nodes es v h.1)
  where
    go : (b : Bool) → AreKept top nodes (names_within es v) → AreKept top nodes (if b then e ∷ names_within es v else names_within es v)
    go true k = (h.0, k)
    go false k = k

pub top_kept : (top : EpochName) (nodes : List Node) → is_kept top nodes top ≡ true
top_kept top nodes = or_left (name_eq top top) (has_node nodes top) (name_eq_refl top)

pub greatest_kept : (top : EpochName) (nodes : List Node) → is_kept top nodes (greatest top nodes) ≡ true
unfolding greatest
greatest_kept top nodes = from_kept top nodes top (names nodes) (top_kept top nodes) (names_kept top nodes)

pub greatest_within_kept : (top : EpochName) (nodes : List Node) (v : List ℕ) → is_kept top nodes (greatest_within top nodes v) ≡ true
unfolding greatest_within
greatest_within_kept top nodes v = from_kept top nodes top (names_within (names nodes) v) (top_kept top nodes) (within_kept top nodes (names nodes) v (names_kept top nodes))
