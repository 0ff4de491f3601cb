-- The nodes of epochs by their numbers, and the epochs by their places in increasing order.
use Rattle.std.proofs.Common.{◌≡◌, ℕ, zero, suc, ◌+◌, ◌-◌, ◌<◌, ◌≤◌, true, false, Option, Some, None, List, [], ◌∷◌, map, length, get_or, refl, sym, ap, ◌∙◌, inl, inr, arith}
use Rattle.std.specs.Prelude.{reverse, slice_get, if◌then◌else◌}
use Rattle.std.proofs.lemmas.List.{length-map, length-reverse}
use Rattle.std.specs.Option.{option_map}
use Rattle.std.proofs.lemmas.Option.{slice_get-get_or, slice_get-map}
use Rattle.rls_ident.specs.declared.epoch_name.EpochName.{EpochName}
use Rattle.rls_ident.specs.EpochNames.{name_eq}
use Rattle.rls_ident.specs.Lists.{IsIn}
use Rattle.rls_ident.proofs.Members.{map_in, not_true}
use Rattle.rls_ident.proofs.Positions.{get_of}
use Rattle.rls_ident.proofs.Named.{name_eq_is, name_eq_refl}
use Rattle.rls_rename.specs.Tree.{Node, name_of, is_of, has_node, AreNodes, AreBelow, epoch_cmp, names}
use Rattle.rls_rename.proofs.SameNodes.{node_named}
use Rattle.rls_rename.proofs.Ordered.{length-in_order}
use Rattle.rls_epoch.specs.declared.placed.Placed.{Placed}
use Rattle.rls_epoch.specs.Links.{epoch_at, up_at}
use Rattle.rls_epoch.specs.Seen.{node_for, node_of, nodes_of, rising_epochs, AreLaid}
use Rattle.rls_epoch.specs.Sorted.{place_name, names_at, AreSorted, IsCut}
use Rattle.rls_epoch.proofs.Left.{rising_is}
use Rattle.rls_epoch.proofs.Meeting.{at_is}
use Rattle.rls_epoch.proofs.Orders.{epochs_order}
use Rattle.rls_epoch.proofs.Reading.{name_read, up_read}
use Rattle.rls_epoch.proofs.Sorting.{all_in, cut_found}
use Rattle.rls_epoch.proofs.Steps.{node_in}

-- ---- nodes by their names

pub node_found : (ns : List Node) → AreNodes ns → (n : Node) → IsIn n ns → node_for ns (name_of n.renaming) ≡ Some n
node_found [] d n p = absurd p
node_found (m ∷ ns) d n (inl e) =
    let t : is_of m (name_of n.renaming) ≡ true = ap (λ (k : Node). name_eq (name_of m.renaming) (name_of k.renaming)) (sym e) ∙ name_eq_refl (name_of m.renaming) in
    ap (λ b. if b then Some m else node_for ns (name_of n.renaming)) t ∙ ap Some e
node_found (m ∷ ns) d n (inr p) =
    let t : is_of m (name_of n.renaming) ≡ false =
    not_true (is_of m (name_of n.renaming))
    (λ q. let x : has_node ns (name_of m.renaming) ≡ true = ap (has_node ns) (name_eq_is (name_of m.renaming) (name_of n.renaming) q) ∙ node_named n ns p in let y = d.1 in absurd (cc)) in
    ap (λ b. if b then Some m else node_for ns (name_of n.renaming)) t ∙ node_found ns d.2 n p

pub top_none : (top : EpochName) (ns : List Node) → AreBelow top ns → node_for ns top ≡ None
top_none top [] b = refl
top_none top (m ∷ ns) b = let t : is_of m top ≡ false = b.1 in ap (λ c. if c then Some m else node_for ns top) t ∙ top_none top ns b.2

pub place_node : (top : EpochName) (ps : List Placed) → AreLaid top ps → (k : ℕ) (p : Placed) → slice_get ps k ≡ Some p → node_for (nodes_of ps) (place_name ps k) ≡ Some (node_of p)
place_node top ps l k p g = ap (node_for (nodes_of ps)) (name_read ps k p g) ∙ node_found (nodes_of ps) l.nodes (node_of p) (node_in ps k p g)

-- ---- places in the order

pub numbers_named : (top : EpochName) (ps : List Placed) (order : List ℕ) → map (epoch_at top ps) (0 ∷ map suc order) ≡ top ∷ names_at ps order
numbers_named top ps order = ap (λ es. top ∷ es) (go order)
  where
    go : (ks : List ℕ) → map (epoch_at top ps) (map suc ks) ≡ names_at ps ks
    go [] = refl
    go (k ∷ ks) = ap (λ es. place_name ps k ∷ es) (go ks)

pub number_named : (top : EpochName) (ps : List Placed) (order : List ℕ) (i n : ℕ) → slice_get (0 ∷ map suc order) i ≡ Some n → slice_get (top ∷ names_at ps order) i ≡ Some (epoch_at top ps n)
number_named top ps order i n g = ap (λ es. slice_get es i) (sym (numbers_named top ps order)) ∙ (slice_get-map (epoch_at top ps) (0 ∷ map suc order) i ∙ ap (option_map (epoch_at top ps)) g)

-- where an epoch stands in the order
pub place_found : (top : EpochName) (ps : List Placed) (order : List ℕ) → AreSorted (epoch_cmp (nodes_of ps)) ps order → (n i : ℕ) → 0 < n → n ≤ length ps → IsCut (epoch_cmp (nodes_of ps)) (names_at ps order) (epoch_at top ps n) i →
    slice_get (top ∷ names_at ps order) (suc i) ≡ Some (epoch_at top ps n)
place_found top ps order s zero i z h c = absurd (omega arith)
place_found top ps order s (suc k) i z h c =
    cut_found (epoch_cmp (nodes_of ps)) (epochs_order (nodes_of ps)) (names_at ps order) s.rising (place_name ps k) i c (map_in (place_name ps) k order (all_in s k (omega arith)))

-- ---- as many as there are

names_length : (ns : List Node) → length (names ns) ≡ length ns
names_length [] = refl
names_length (n ∷ ns) = ap suc (names_length ns)

pub nodes_length : (ps : List Placed) → length (nodes_of ps) ≡ length ps
nodes_length ps = length-map (reverse ps) node_of ∙ length-reverse ps

pub order_length : {top : EpochName} {ps : List Placed} → AreLaid top ps → {order : List ℕ} → AreSorted (epoch_cmp (nodes_of ps)) ps order → length order ≡ length ps
order_length {top = top} {ps = ps} l {order = order} s =
    let N = nodes_of ps in
    let a = ap length (rising_is l s) in
    let b = length-in_order N (top ∷ names N) in
    let c = names_length N in
    let d = length-map order (place_name ps) in
    let e = nodes_length ps in
    omega arith

-- ---- what is read

pub node_first : (top : EpochName) (ps : List Placed) → AreLaid top ps → (n : ℕ) → n ≡ 0 → node_for (nodes_of ps) (epoch_at top ps n) ≡ None
node_first top ps l zero h = top_none top (nodes_of ps) l.below
node_first top ps l (suc k) h = absurd (omega arith)

pub node_later : (top : EpochName) (ps : List Placed) → AreLaid top ps → (n : ℕ) (p : Placed) → (n ≡ 0 → ⊥) → n ≤ length ps → slice_get ps (n - 1) ≡ Some p → node_for (nodes_of ps) (epoch_at top ps n) ≡ Some (node_of p)
node_later top ps l zero p h w g = absurd (h refl)
node_later top ps l (suc k) p h w g = let e : k ≡ suc k - 1 = omega arith in place_node top ps l k p (ap (slice_get ps) e ∙ g)

pub number_read : (order : List ℕ) (i : ℕ) → (i ≡ 0 → ⊥) → i ≤ length order → slice_get (0 ∷ map suc order) i ≡ Some (get_or order (i - 1) 0 + 1)
number_read order zero h w = absurd (h refl)
number_read order (suc i) h w =
    let e : suc i - 1 ≡ i = omega arith in
    let f : suc (get_or order i 0) ≡ get_or order i 0 + 1 = omega arith in
    slice_get-map suc order i ∙ (ap (option_map suc) (slice_get-get_or order i 0 (omega arith)) ∙ (ap Some f ∙ ap (λ (j : ℕ). Some (get_or order j 0 + 1)) (sym e)))

-- the parent of a node by its number
pub parent_later : (top : EpochName) (ps : List Placed) → AreLaid top ps → (n : ℕ) → (n ≡ 0 → ⊥) → n ≤ length ps → option_map (λ (node : Node). node.parent) (node_for (nodes_of ps) (epoch_at top ps n)) ≡ Some (epoch_at top ps (up_at ps (n - 1)))
parent_later top ps l zero h w = absurd (h refl)
parent_later top ps l (suc k) h w =
    let r = get_of ps k (omega arith) in
    let e : suc k - 1 ≡ k = omega arith in
    ap (option_map (λ (node : Node). node.parent)) (place_node top ps l k r.0 r.1)
    ∙ ap Some (sym (at_is top ps (r.0).up (r.0).parent (l.links.parents k r.0 r.1)) ∙ (ap (epoch_at top ps) (sym (up_read ps k r.0 r.1)) ∙ ap (λ (j : ℕ). epoch_at top ps (up_at ps j)) (sym e)))

map_some : (o : Option Node) → option_map (λ (e : EpochName). Some e) (option_map (λ (node : Node). node.parent) o) ≡ option_map (λ (node : Node). Some node.parent) o
map_some None = refl
map_some (Some n) = refl

pub parent_found : (top : EpochName) (ps : List Placed) → AreLaid top ps → (n : ℕ) (o : Option EpochName) → (n ≡ 0 → ⊥) → n ≤ length ps → o ≡ Some (epoch_at top ps (up_at ps (n - 1))) → Some o ≡ option_map (λ (node : Node). Some node.parent) (node_for (nodes_of ps) (epoch_at top ps n))
parent_found top ps l n o h w e = ap Some e ∙ (ap (option_map (λ (f : EpochName). Some f)) (sym (parent_later top ps l n h w)) ∙ map_some (node_for (nodes_of ps) (epoch_at top ps n)))

-- the whole tree, by the places in its order
pub rising_named : {top : EpochName} {ps : List Placed} → AreLaid top ps → {order : List ℕ} → AreSorted (epoch_cmp (nodes_of ps)) ps order → (i n : ℕ) → slice_get (0 ∷ map suc order) i ≡ Some n → slice_get (rising_epochs (record { top = top; nodes = nodes_of ps })) i ≡ Some (epoch_at top ps n)
rising_named {top = top} {ps = ps} l {order = order} s i n g = ap (λ es. slice_get es i) (rising_is l s) ∙ number_named top ps order i n g
