-- The epochs in increasing order: all of them, and those that are left where the marks are those of the smallest connected part.
use Rattle.std.proofs.Common.{◌≡◌, ℕ, suc, ◌-◌, ◌<◌, ◌≤◌, Bool, true, false, List, [], ◌∷◌, ◌++◌, length, drop, set, refl, sym, ap, ◌∙◌, subst, inl, inr, ⊎_elim, arith, nat_lt}
use Rattle.std.specs.Prelude.{cond, filter, map, slice_index, sum_by, if◌then◌else◌}
use Rattle.std.proofs.lemmas.List.Sums.{sum_by-cons}
use Rattle.rls_ident.specs.declared.epoch_name.EpochName.{EpochName}
use Rattle.rls_ident.specs.EpochNames.{name_eq}
use Rattle.rls_ident.specs.Lists.{IsIn}
use Rattle.rls_ident.proofs.Members.{in_left, in_map, in_right, lt_is, or_left, or_right, or_split, snoc_split}
use Rattle.rls_ident.proofs.Named.{name_eq_is, name_eq_refl}
use Rattle.rls_rename.specs.Renaming.{Renaming}
use Rattle.rls_rename.specs.Tree.{Node, has_node, is_kept, names, epoch_cmp}
use Rattle.rls_rename.specs.Connected.{in_order, is_spanned, spanned, spanned_renamings}
use Rattle.rls_rename.specs.Keeping.{kept_nodes}
use Rattle.rls_rename.proofs.Hull.{in_spanned, kept_in, needed_spanned, spanned_in}
use Rattle.rls_rename.proofs.Ordered.{IsBelowAll, Rises, same_rising, spanned_rises}
use Rattle.rls_rename.proofs.Windows.{cmp_window, keep_kept, kept-renamings, kept_keep, kept_window, none_below}
use Rattle.rls_rename.proofs.Kept.{top_kept}
use Rattle.rls_epoch.specs.declared.placed.Placed.{Placed}
use Rattle.rls_epoch.specs.Links.{epoch_at}
use Rattle.rls_epoch.specs.Marks.{AreNamed, AreNumbered, AreSpread, numbered, kept_names, kept_placed, kept_places, kept_sum}
use Rattle.rls_epoch.specs.Seen.{former_sum, nodes_of, rising_epochs, AreLaid}
use Rattle.rls_epoch.specs.Sorted.{place_name, names_at, IsBefore, AreRising, AreSorted}
use Rattle.rls_epoch.proofs.Added.{epoch_after}
use Rattle.rls_epoch.proofs.Needed.{places_not_top}
use Rattle.rls_epoch.proofs.Counting.{mark_kept, mark_set, set_from}
use Rattle.rls_epoch.proofs.Numbers.{kept_former}
use Rattle.rls_epoch.proofs.Orders.{in_sorted, sorted_in}
use Rattle.rls_epoch.proofs.Shrinking.{laid_kept, marks_are, nodes_kept, order_kept, place_new, top_is_kept, window}
use Rattle.rls_epoch.proofs.Sorting.{before_all, rising_same}

-- ---- a whole tree in increasing order

below_of : (ns : List Node) (e : EpochName) (es : List EpochName) → IsBefore (epoch_cmp ns) e es → IsBelowAll ns e es
below_of ns e [] b = tt
below_of ns e (f ∷ es) b = (b.0, below_of ns e es b.1)

pub rises_of : (ns : List Node) (es : List EpochName) → AreRising (epoch_cmp ns) es → Rises ns es
rises_of ns [] r = tt
rises_of ns (e ∷ es) r = (below_of ns e es r.0, rises_of ns es r.1)

module _ {top : EpochName} {ps : List Placed} (l : AreLaid top ps) {order : List ℕ} (s : AreSorted (epoch_cmp (nodes_of ps)) ps order) where
  abbrev N : List Node
  N = nodes_of ps

  pub order_in : (f : EpochName) → IsIn f (top ∷ names_at ps order) → is_kept top N f ≡ true
  order_in f (inl e) = or_left (name_eq f top) (has_node N f) (ap (name_eq f) e ∙ name_eq_refl f)
  order_in f (inr p) = or_right (name_eq f top) (has_node N f) (in_sorted ps order s.within f p)

  pub in_order_of : (f : EpochName) → is_kept top N f ≡ true → IsIn f (top ∷ names_at ps order)
  in_order_of f k = ⊎_elim (λ q. inl (sym (name_eq_is f top q))) (λ q. inr (sorted_in (epoch_cmp N) ps order s f q)) (or_split (name_eq f top) (has_node N f) k)

  pub order_rises : AreRising (epoch_cmp N) (top ∷ names_at ps order)
  order_rises = (
    before_all (epoch_cmp N) top (names_at ps order)
        (λ f p. epoch_after top N l.nodes l.below f top (order_in f (inr p)) (top_kept top N)
        (λ e. let r = in_map (place_name ps) f order p in places_not_top top ps l r.0 (s.within r.0 r.1) (r.2 ∙ e)) (none_below top N l.below f)),
    s.rising,
  )

  filter_whole : (t : EpochName → Bool) (es : List EpochName) → ((f : EpochName) → IsIn f es → t f ≡ true) → filter t es ≡ es
  filter_whole t [] h = refl
  filter_whole t (e ∷ es) h = ap (λ b. cond b (e ∷ filter t es) (filter t es)) (h e (inl refl)) ∙ ap (λ zs. e ∷ zs) (filter_whole t es (λ f p. h f (inr p)))

  pub rising_is : rising_epochs (record { top = top; nodes = N }) ≡ top ∷ names_at ps order
  unfolding spanned
  rising_is =
      let all : filter (is_spanned N top (names N)) (top ∷ names N) ≡ top ∷ names N = filter_whole (is_spanned N top (names N)) (top ∷ names N) (λ f p. needed_spanned N l.nodes top (names N) f p) in
      ap (in_order N) (sym all)
      ∙ same_rising N (spanned top N top (names N)) (top ∷ names_at ps order) (spanned_rises top N l.nodes l.below top (names N)) (rises_of N (top ∷ names_at ps order) order_rises)
      (λ f p. in_order_of f (in_spanned top N top (names N) f p).0)
      (λ f p. spanned_in top N top (names N) f (order_in f p) (needed_spanned N l.nodes top (names N) f (kept_in top N f (order_in f p))))

-- ---- what is left

module _ (top : EpochName) (ps : List Placed) (l : AreLaid top ps) (ms : List ℕ) (w : length ms ≡ suc (length ps)) (t : ℕ) (tl : t ≤ length ps) (e : EpochName) (es : List EpochName) (a : AreSpread top ps ms t e es) where
  abbrev u : EpochName
  u = epoch_at top ps t

  abbrev M : List ℕ
  M = numbered 0 ms

  abbrev new : List Placed
  new = kept_placed M (drop 1 M) ps

  names_left : (places : List ℕ) → ((k : ℕ) → IsIn k places → k < length ps) → kept_names ps M places ≡ names_at new (kept_places M places)
  names_left [] h = refl
  names_left (k ∷ places) h = go (nat_lt 1 (slice_index M (suc k))) refl (names_left places (λ i p. h i (inr p)))
    where
      go : (b : Bool) → nat_lt 1 (slice_index M (suc k)) ≡ b → kept_names ps M places ≡ names_at new (kept_places M places) →
          (if b then place_name ps k ∷ kept_names ps M places else kept_names ps M places) ≡ names_at new (if b then (slice_index M (suc k) - 2) ∷ kept_places M places else kept_places M places)
      go false q r = r
      go true q r =
          let z = (place_new top ps l ms w t tl e es a k (h k (inl refl)) (lt_is 1 (slice_index M (suc k)) q)).0 in
          ap (λ (f : EpochName). f ∷ kept_names ps M places) (sym z) ∙ ap (λ fs. place_name new (slice_index M (suc k) - 2) ∷ fs) r

  module _ (order : List ℕ) (s : AreSorted (epoch_cmp (nodes_of ps)) ps order) where
    abbrev left : List EpochName
    left = u ∷ names_at new (kept_places M order)

    left_kept : (f : EpochName) → IsIn f left → is_kept u (nodes_of new) f ≡ true
    left_kept = order_in (laid_kept top ps l ms w t tl e es a) (order_kept top ps l ms w t tl e es a order s)

    pub spanned_left : u ∷ kept_names ps M order ≡ spanned top (nodes_of ps) e es
    spanned_left =
        let N = nodes_of ps in
        let k = laid_kept top ps l ms w t tl e es a in
        let o = order_kept top ps l ms w t tl e es a order s in
        let v = window top ps l ms w t tl e es a in
        let n = nodes_kept top ps l ms w t tl e es a in
        let u_kept = top_is_kept top ps l ms w t tl e es a in
        ap (λ fs. u ∷ fs) (names_left order s.within)
        ∙ same_rising N left (spanned top N e es)
        (rises_of N left (rising_same (epoch_cmp (nodes_of new)) (epoch_cmp N) left (λ f g p q. cmp_window v f g (left_kept f p) (left_kept g q)) (order_rises k o)))
        (spanned_rises top N l.nodes l.below e es)
        (λ f p. spanned_in top N e es f (kept_window v f (left_kept f p))
        (kept_keep top N l.nodes e es u a.top_is f (subst (λ (xs : List Node). is_kept u xs f ≡ true) n (left_kept f p))))
        (λ f p. let r = in_spanned top N e es f p in
        in_order_of k o f
        (subst (λ (xs : List Node). is_kept u xs f ≡ true) (sym n) (keep_kept top N l.nodes l.below e es u u_kept a.top_is f r.0 r.1)))

  sum_renamings : (ns : List Node) → sum_by (λ (R : Renaming). length R.former) (map (λ n. n.renaming) ns) ≡ former_sum ns
  sum_renamings [] = refl
  sum_renamings (n ∷ ns) =
      let f = sum_by-cons (λ (R : Renaming). length R.former) n.renaming (map (λ k. k.renaming) ns) in
      let g = sum_by-cons (λ (k : Node). length k.renaming.former) n ns in
      let r = sum_renamings ns in
      omega arith

  pub former_left : kept_sum (drop 1 M) ps ≡ sum_by (λ (R : Renaming). length R.former) (spanned_renamings (nodes_of ps) e es)
  former_left =
      let n = nodes_kept top ps l ms w t tl e es a in
      kept_former M (drop 1 M) ps
      ∙ (ap (λ (ns : List Node). former_sum ns) n
      ∙ (sym (sum_renamings (kept_nodes (nodes_of ps) e es)) ∙ ap (sum_by (λ (R : Renaming). length R.former)) (sym (kept-renamings (nodes_of ps) e es))))

-- the same, by these numbers
module _ (top : EpochName) (ps : List Placed) (order : List ℕ) (l : AreLaid top ps) (s : AreSorted (epoch_cmp (nodes_of ps)) ps order) (xs : List ℕ) (t : ℕ) (tl : t ≤ length ps) (lx : length xs ≡ suc (length ps)) (e : EpochName) (es : List EpochName) (n : AreNumbered top ps xs t e es) where
  counted : length n.marks ≡ suc (length ps)
  counted = marks_are top ps l xs t tl lx e es n

  pub names_retained : epoch_at top ps t ∷ kept_names ps xs order ≡ spanned top (nodes_of ps) e es
  names_retained =
      subst (λ (zs : List ℕ). epoch_at top ps t ∷ kept_names ps zs order ≡ spanned top (nodes_of ps) e es) (sym n.numbers_are) (spanned_left top ps l n.marks counted t tl e es n.spread order s)

  pub former_retained : kept_sum (drop 1 xs) ps ≡ sum_by (λ (R : Renaming). length R.former) (spanned_renamings (nodes_of ps) e es)
  former_retained =
      subst (λ (zs : List ℕ). kept_sum (drop 1 zs) ps ≡ sum_by (λ (R : Renaming). length R.former) (spanned_renamings (nodes_of ps) e es)) (sym n.numbers_are) (former_left top ps l n.marks counted t tl e es n.spread)

-- ---- marks of these epochs

pub named_more : (top : EpochName) (ps : List Placed) (ms : List ℕ) (es : List EpochName) (n : ℕ) (f : EpochName) → n < length ms → n ≤ length ps → epoch_at top ps n ≡ f → AreNamed top ps ms es → AreNamed top ps (set ms n 1) (es ++ (f ∷ []))
named_more top ps ms es n f w h e a = record {
  into = λ j g q. ⊎_elim (λ x. in_right (epoch_at top ps j) es (f ∷ []) (inl (sym e ∙ ap (epoch_at top ps) (sym x)))) (λ x. in_left (epoch_at top ps j) es (f ∷ []) (a.into j g x)) (set_from ms n j q);
  onto = λ g p. ⊎_elim (λ x. let r = a.onto g x in (r.0, r.1, r.2, mark_kept ms n r.0 r.3)) (λ x. (n, h, e ∙ x, mark_set ms n w)) (snoc_split g f es p);
}
