-- The nodes in the order of the epochs, and the greatest of them.
use Rattle.std.proofs.Common.{◌≡◌, ℕ, suc, ◌<◌, true, false, List, [], ◌∷◌, ◌++◌, length, Some, refl, sym, ap, ◌∙◌, subst, inl, inr, ⊎_elim}
use Rattle.std.specs.Prelude.{reverse, slice_get}
use Rattle.std.specs.declared.cmp.Ordering.TheVariants.{Less}
use Rattle.std.proofs.lemmas.List.{map-append, reverse-append}
use Rattle.rls_ident.specs.declared.epoch_name.EpochName.{EpochName}
use Rattle.rls_ident.specs.EpochNames.{name_eq, is_within}
use Rattle.rls_ident.specs.Lists.{IsIn}
use Rattle.rls_ident.proofs.Members.{in_map, in_right, in_split, map_in, or_left, or_right, or_split}
use Rattle.rls_ident.proofs.Positions.{get_of}
use Rattle.rls_ident.proofs.Named.{name_eq_is, name_eq_refl}
use Rattle.std.proofs.lemmas.Option.{slice_get_within}
use Rattle.rls_rename.specs.Tree.{Node, name_of, has_node, is_kept, path, epoch_cmp, greatest, greatest_within}
use Rattle.rls_rename.proofs.Hull.{node_at}
use Rattle.rls_rename.proofs.Order.{greatest_is, less_flips, less_self, within_is}
use Rattle.rls_rename.proofs.SameNodes.{node_named, paths_total}
use Rattle.rls_rename.proofs.Windows.{none_below}
use Rattle.rls_epoch.specs.declared.placed.Placed.{Placed}
use Rattle.rls_epoch.specs.Seen.{node_of, nodes_of, AreLaid}
use Rattle.rls_epoch.specs.Sorted.{place_name, names_at, AreRising, AreSorted}
use Rattle.rls_epoch.proofs.Reading.{name_read}
use Rattle.rls_epoch.proofs.Sorting.{Cmp, IsOrder, all_in, rising_across}
use Rattle.rls_epoch.proofs.Steps.{node_in}

pub epochs_order : (ns : List Node) → IsOrder (epoch_cmp ns)
epochs_order ns = record { trans = λ e f g h k. paths_total.trans (path ns e) (path ns f) (path ns g) h k; flips = less_flips ns }

-- ---- nodes and their places

pub in_get : {A : Type 0} (x : A) (xs : List A) → IsIn x xs → (k : ℕ) × (slice_get xs k ≡ Some x)
in_get x [] p = absurd p
in_get {A} x (y ∷ xs) (inl e) = (0, ap Some e)
in_get x (y ∷ xs) (inr p) = let r = in_get x xs p in (suc r.0, r.1)

reverse_in : {A : Type 0} (x : A) (xs : List A) → IsIn x (reverse xs) → IsIn x xs
reverse_in x [] p = absurd p
reverse_in {A} x (y ∷ xs) p =
    let P : List A → Type 0 = λ zs. IsIn x zs in
    ⊎_elim (λ q. inr (reverse_in x xs q)) (λ q. ⊎_elim (λ e. inl e) (λ r. absurd r) q) (in_split x (reverse xs) (y ∷ []) (subst P (reverse-append (y ∷ []) xs) p))

pub place_kept : (ps : List Placed) (k : ℕ) → k < length ps → has_node (nodes_of ps) (place_name ps k) ≡ true
place_kept ps k h =
    let r = get_of ps k h in
    ap (has_node (nodes_of ps)) (name_read ps k r.0 r.1) ∙ node_named (node_of r.0) (nodes_of ps) (node_in ps k r.0 r.1)

pub kept_place : (ps : List Placed) (e : EpochName) → has_node (nodes_of ps) e ≡ true → (k : ℕ) × (p : Placed) × (slice_get ps k ≡ Some p) × (place_name ps k ≡ e)
kept_place ps e h =
    let r = node_at (nodes_of ps) e h in
    let q = in_map node_of r.0 (reverse ps) r.1 in
    let g = in_get q.0 ps (reverse_in q.0 ps q.1) in
    (g.0, q.0, g.1, name_read ps g.0 q.0 g.1 ∙ (ap (λ (n : Node). name_of_node n) q.2 ∙ r.2))
  where
    name_of_node : Node → EpochName
    name_of_node n = name_of n.renaming

pub sorted_in : (cmp : Cmp) (ps : List Placed) (places : List ℕ) → AreSorted cmp ps places → (e : EpochName) → has_node (nodes_of ps) e ≡ true → IsIn e (names_at ps places)
sorted_in cmp ps places s e h =
    let r = kept_place ps e h in
    subst (λ f. IsIn f (names_at ps places)) r.3 (map_in (place_name ps) r.0 places (all_in s r.0 (slice_get_within ps r.0 r.1 r.2)))

pub in_sorted : (ps : List Placed) (places : List ℕ) → ((k : ℕ) → IsIn k places → k < length ps) → (e : EpochName) → IsIn e (names_at ps places) → has_node (nodes_of ps) e ≡ true
in_sorted ps places w e p = let r = in_map (place_name ps) e places p in subst (λ f. has_node (nodes_of ps) f ≡ true) r.2 (place_kept ps r.0 (w r.0 r.1))

-- ---- the greatest

module _ {top : EpochName} {ps : List Placed} (l : AreLaid top ps) {order : List ℕ} (s : AreSorted (epoch_cmp (nodes_of ps)) ps order) where
  abbrev ns : List Node
  ns = nodes_of ps

  place_is_kept : (k : ℕ) → IsIn k order → is_kept top ns (place_name ps k) ≡ true
  place_is_kept k p = or_right (name_eq (place_name ps k) top) (has_node ns (place_name ps k)) (place_kept ps k (s.within k p))

  is_top : (e : EpochName) → is_kept top ns e ≡ true → (e ≡ top → ⊥) → IsIn e (names_at ps order)
  is_top e k n = ⊎_elim (λ q. absurd (n (name_eq_is e top q))) (λ q. sorted_in (epoch_cmp ns) ps order s e q) (or_split (name_eq e top) (has_node ns e) k)

  -- what isn't above the epoch at this place
  none_above : (lesser : List ℕ) (k : ℕ) (later : List ℕ) → order ≡ lesser ++ (k ∷ later) → (e : EpochName) → is_kept top ns e ≡ true → epoch_cmp ns (place_name ps k) e ≡ Less → IsIn e (names_at ps later)
  none_above lesser k later h e q a =
      let split : names_at ps order ≡ names_at ps lesser ++ (place_name ps k ∷ names_at ps later) = ap (names_at ps) h ∙ map-append (place_name ps) lesser (k ∷ later) in
      let rising = subst (AreRising (epoch_cmp ns)) split s.rising in
      let there = subst (λ xs. IsIn e xs) split (is_top e q (λ t. none_below top ns l.below (place_name ps k) (subst (λ f. epoch_cmp ns (place_name ps k) f ≡ Less) t a))) in
      ⊎_elim (λ p. absurd (less_flips ns (place_name ps k) e a (rising_across (epoch_cmp ns) (names_at ps lesser) (place_name ps k ∷ names_at ps later) rising e (place_name ps k) p (inl refl))))
      (λ p. ⊎_elim (λ t. absurd (less_self ns (place_name ps k) (subst (λ f. epoch_cmp ns (place_name ps k) f ≡ Less) (sym t) a))) (λ t. t) p)
      (in_split e (names_at ps lesser) (place_name ps k ∷ names_at ps later) there)

  pub greatest_last : (lesser : List ℕ) (k : ℕ) → order ≡ lesser ++ (k ∷ []) → place_name ps k ≡ greatest top ns
  greatest_last lesser k h =
      let there = subst (λ xs. IsIn k xs) (sym h) (in_right k lesser (k ∷ []) (inl refl)) in
      sym (greatest_is top ns l.nodes l.below (place_name ps k) (place_is_kept k there) (λ e q a. none_above lesser k [] h e q a))

  pub greatest_none : order ≡ [] → top ≡ greatest top ns
  greatest_none h =
      sym
      (greatest_is top ns l.nodes l.below top (or_left (name_eq top top) (has_node ns top) (name_eq_refl top))
      (λ e q a. subst (λ xs. IsIn e (names_at ps xs)) h (is_top e q (λ t. less_self ns top (subst (λ f. epoch_cmp ns top f ≡ Less) t a)))))

  pub within_at : (v : List ℕ) (lesser : List ℕ) (k : ℕ) (later : List ℕ) → order ≡ lesser ++ (k ∷ later) → is_within (place_name ps k) v ≡ true → ((e : EpochName) → IsIn e (names_at ps later) → is_within e v ≡ false) → place_name ps k ≡ greatest_within top ns v
  within_at v lesser k later h w n =
      let there = subst (λ xs. IsIn k xs) (sym h) (in_right k lesser (k ∷ later) (inl refl)) in
      sym
      (within_is top ns v l.nodes l.below (place_name ps k) (place_is_kept k there) (inr w)
      (λ e q a c. ⊎_elim (λ t. none_below top ns l.below (place_name ps k) (subst (λ f. epoch_cmp ns (place_name ps k) f ≡ Less) t c))
      (λ t. let x = n e (none_above lesser k later h e q c) in absurd (cc)) a))

  pub within_none : (v : List ℕ) → ((e : EpochName) → IsIn e (names_at ps order) → is_within e v ≡ false) → top ≡ greatest_within top ns v
  within_none v n =
      sym
      (within_is top ns v l.nodes l.below top (or_left (name_eq top top) (has_node ns top) (name_eq_refl top)) (inl refl)
      (λ e q a c. let not : e ≡ top → ⊥ = λ t. less_self ns top (subst (λ f. epoch_cmp ns top f ≡ Less) t c) in
      ⊎_elim not (λ t. let x = n e (is_top e q not) in absurd (cc)) a))
