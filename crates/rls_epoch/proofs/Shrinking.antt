-- What is left of a tree if the marks are those of its smallest connected part.
use Rattle.std.proofs.Common.{◌≡◌, ℕ, zero, suc, ◌-◌, ◌<◌, ◌≤◌, Bool, true, false, List, [], ◌∷◌, ◌++◌, length, take, drop, Some, refl, sym, ap, ◌∙◌, subst, inl, inr, ⊎_elim, arith, nat_lt}
use Rattle.std.specs.Prelude.{not, slice_get, slice_index, if◌then◌else◌}
use Rattle.std.specs.Option.{option_map}
use Rattle.std.specs.declared.cmp.Ordering.TheVariants.{Less}
use Rattle.std.proofs.lemmas.Bool.{cases_lt}
use Rattle.std.proofs.Math.ListN.{drop_of_length-le}
use Rattle.std.proofs.lemmas.List.{append-nil, length-map, take_all}
use Rattle.std.proofs.lemmas.Option.{slice_get-map, slice_get_within}
use Rattle.rls_ident.specs.declared.epoch_name.EpochName.{EpochName}
use Rattle.rls_ident.specs.EpochNames.{name_eq}
use Rattle.rls_ident.specs.Lists.{IsIn}
use Rattle.rls_ident.proofs.Members.{and_true, in_map, lt_is, lt_test, map_in, or_right, same_bool, some_is}
use Rattle.rls_ident.proofs.Positions.{get_of}
use Rattle.rls_rename.specs.Tree.{Node, name_of, has_node, is_kept, path, epoch_cmp, greatest}
use Rattle.rls_rename.specs.Connected.{begins_with, top_path, is_spanned}
use Rattle.rls_rename.specs.Keeping.{end_of, is_below, kept_nodes, kept_part, part, reached}
use Rattle.rls_rename.proofs.Hull.{IsFront, parent_spanned, spanned_is, top_spanned}
use Rattle.rls_rename.proofs.Smallest.{path_end}
use Rattle.rls_rename.proofs.Windows.{Window, cmp_window, keep_window, low_or_top, stays_is}
use Rattle.rls_epoch.specs.declared.placed.Placed.{Placed}
use Rattle.rls_epoch.specs.Climbing.{name_cmp}
use Rattle.rls_epoch.specs.Links.{name_at, epoch_at, AreLinked}
use Rattle.rls_epoch.specs.Marks.{has_mark, mark_count, AreNamed, AreNumbered, AreSpread, numbered, moved, kept_placed, kept_places, kept_sum}
use Rattle.rls_epoch.specs.Seen.{former_sum, node_of, nodes_of, marked_of, marks_of, epochs_by_number, AreLaid, IsWhole}
use Rattle.rls_epoch.specs.Sorted.{place_name, names_at, AreRising, AreSorted}
use Rattle.rls_epoch.proofs.Compacting.{numbered_length}
use Rattle.rls_epoch.proofs.Counting.{count_some, some_count}
use Rattle.rls_epoch.proofs.Meeting.{at_is}
use Rattle.rls_epoch.proofs.Numbers.{in_places, kept_filter, kept_former, kept_place_at, kept_place_from, number_less, number_mark, number_one, places_in}
use Rattle.rls_epoch.proofs.Orders.{in_sorted}
use Rattle.rls_epoch.proofs.Reading.{name_read}
use Rattle.rls_epoch.proofs.Sorting.{Cmp, all_in, before_all, before_at, rising_same}
use Rattle.rls_epoch.proofs.Spreading.{front_order, number_kept, number_same}
use Rattle.rls_epoch.proofs.Steps.{node_in}

-- ---- the marked epochs

marked_in : (es : List EpochName) (ms : List ℕ) (n : ℕ) (e : EpochName) → slice_get es n ≡ Some e → has_mark ms n ≡ true → IsIn e (marked_of es ms)
marked_in [] ms n e g h = absurd (cc)
marked_in (f ∷ es) [] n e g h = absurd (omega (arith, lt_is 0 0 h))
marked_in (f ∷ es) (zero ∷ ms) zero e g h = absurd (omega (arith, lt_is 0 0 h))
marked_in (f ∷ es) (suc m ∷ ms) zero e g h = inl (some_is f e g)
marked_in (f ∷ es) (zero ∷ ms) (suc n) e g h = marked_in es ms n e g h
marked_in (f ∷ es) (suc m ∷ ms) (suc n) e g h = inr (marked_in es ms n e g h)

in_marked : (es : List EpochName) (ms : List ℕ) (e : EpochName) → IsIn e (marked_of es ms) → (n : ℕ) × (slice_get es n ≡ Some e) × (has_mark ms n ≡ true)
in_marked [] ms e p = absurd p
in_marked (f ∷ es) [] e p = absurd p
in_marked (f ∷ es) (zero ∷ ms) e p = let r = in_marked es ms e p in (suc r.0, r.1, r.2)
in_marked (f ∷ es) (suc m ∷ ms) e (inl q) = (0, ap Some q, lt_test 0 (suc m) (omega arith))
in_marked (f ∷ es) (suc m ∷ ms) e (inr p) = let r = in_marked es ms e p in (suc r.0, r.1, r.2)

by_number : (top : EpochName) (ps : List Placed) (n : ℕ) → n ≤ length ps → slice_get (epochs_by_number top ps) n ≡ Some (epoch_at top ps n)
by_number top ps zero h = refl
by_number top ps (suc k) h =
    let r = get_of ps k (omega arith) in
    slice_get-map (λ (z : Placed). name_of z.renaming) ps k ∙ (ap (option_map (λ (z : Placed). name_of z.renaming)) r.1 ∙ ap Some (sym (name_read ps k r.0 r.1)))

pub named_marks : (top : EpochName) (ps : List Placed) (ms : List ℕ) → AreNamed top ps ms (marks_of top ps ms)
named_marks top ps ms = record {
  into = λ n h q. marked_in (epochs_by_number top ps) ms n (epoch_at top ps n) (by_number top ps n h) q;
  onto = λ f p. let r = in_marked (epochs_by_number top ps) ms f p in
      let w = slice_get_within (epochs_by_number top ps) r.0 f r.1 in
      let l = length-map ps (λ (z : Placed). name_of z.renaming) in
      let h : r.0 ≤ length ps = omega arith in
      (r.0, h, some_is (epoch_at top ps r.0) f (sym (by_number top ps r.0 h) ∙ r.1), r.2);
}

-- ---- what stays

module _ (top : EpochName) (ps : List Placed) (l : AreLaid top ps) (ms : List ℕ) (w : length ms ≡ suc (length ps)) (t : ℕ) (tl : t ≤ length ps) (e : EpochName) (es : List EpochName) (a : AreSpread top ps ms t e es) where
  abbrev N : List Node
  N = nodes_of ps

  abbrev M : List ℕ
  M = numbered 0 ms

  abbrev new : List Placed
  new = kept_placed M (drop 1 M) ps

  abbrev u : EpochName
  u = epoch_at top ps t

  top_marked : has_mark ms t ≡ true
  top_marked = a.spanned t tl ∙ top_spanned N l.nodes e es u a.top_is

  after_top : (j : ℕ) → j ≤ length ps → has_mark ms j ≡ true → t ≤ j
  after_top j h q =
      let s = spanned_is N l.nodes e es (epoch_at top ps j) (sym (a.spanned j h) ∙ q) in
      front_order top ps l (length ps) t j tl h h (subst (λ p. IsFront p (path N (epoch_at top ps j))) (sym a.top_is) s.0)

  none_before : mark_count (take t ms) ≡ 0
  none_before =
      ⊎_elim (λ q. let r = count_some ms t q in absurd (let x = after_top r.0 (let y = r.1 in omega arith) r.3 in let y = r.1 in omega arith))
      (λ q. omega arith) (cases_lt 0 (mark_count (take t ms)))

  top_number : slice_index M t ≡ 1
  top_number = let x = number_one 0 ms t top_marked in let y = none_before in omega arith

  -- what has a greater number lies below the topmost
  number_below : (j : ℕ) → j ≤ length ps → 1 < slice_index M j → (has_mark ms j ≡ true) × (j ≡ t → ⊥)
  number_below j h q = (number_mark 0 ms j (omega arith), λ p. let x = ap (slice_index M) p in let y = top_number in omega arith)

  below_number : (j : ℕ) → j ≤ length ps → has_mark ms j ≡ true → (j ≡ t → ⊥) → 1 < slice_index M j
  below_number j h q n =
      let o = after_top j h q in
      let x = number_one 0 ms j q in
      ⊎_elim (λ k. let y = some_count ms j t k (omega arith) top_marked in omega arith) (λ k. absurd (n (let z : j ≡ t = omega arith in z))) (cases_lt t j)

  place_path : (k : ℕ) (p : Placed) → slice_get ps k ≡ Some p → (epoch_at top ps (suc k) ≡ name_of p.renaming)
  place_path k p g = name_read ps k p g

  place_low : (k : ℕ) (p : Placed) → slice_get ps k ≡ Some p → (suc k ≡ t → ⊥) → path N (name_of p.renaming) ≡ top_path N e es → ⊥
  place_low k p g n q = n (number_same top ps l (suc k) t (let x = slice_get_within ps k p g in omega arith) tl (ap (path N) (place_path k p g) ∙ (q ∙ sym a.top_is)))

  -- the nodes whose numbers are greater than 1 are those that are kept
  pub stays : (k : ℕ) (p : Placed) → slice_get ps k ≡ Some p → nat_lt 1 (slice_index M (suc k)) ≡ is_below N e es (node_of p)
  stays k p g =
      let h : suc k ≤ length ps = let x = slice_get_within ps k p g in omega arith in
      let f = name_of p.renaming in
      let s : has_mark ms (suc k) ≡ is_spanned N e es f = a.spanned (suc k) h ∙ ap (is_spanned N e es) (place_path k p g) in
      same_bool (nat_lt 1 (slice_index M (suc k))) (is_below N e es (node_of p))
      (λ q. let r = number_below (suc k) h (lt_is 1 (slice_index M (suc k)) q) in
      let i = sym s ∙ r.0 in
      and_true (is_spanned N e es f) (not (begins_with (top_path N e es) (path N f))) i (⊎_elim (λ x. absurd (place_low k p g r.1 x)) (λ x. ap not x) (low_or_top N l.nodes e es f i)))
      (λ q. let r = stays_is N e es (node_of p) q in
      lt_test 1 (slice_index M (suc k)) (below_number (suc k) h (s ∙ r.0) (λ x. r.1 (sym (ap (path N) (place_path k p g)) ∙ (ap (λ (j : ℕ). path N (epoch_at top ps j)) x ∙ a.top_is)))))

  marks_length : length M ≡ suc (length ps)
  marks_length = numbered_length 0 ms ∙ w

  later_marks : (xs : List ℕ) (k : ℕ) → slice_get (drop 1 xs) k ≡ slice_get xs (suc k)
  later_marks [] zero = refl
  later_marks [] (suc k) = refl
  later_marks (x ∷ xs) k = refl

  got_index : (xs : List ℕ) (k m : ℕ) → slice_get xs k ≡ Some m → slice_index xs k ≡ m
  got_index [] k m g = absurd (cc)
  got_index (x ∷ xs) zero m g = some_is x m g
  got_index (x ∷ xs) (suc k) m g = got_index xs k m g

  later_length : (xs : List ℕ) (n : ℕ) → length xs ≡ suc n → length (drop 1 xs) ≡ n
  later_length [] n h = absurd (omega arith)
  later_length (x ∷ xs) n h = omega arith

  pub nodes_kept : nodes_of new ≡ kept_nodes N e es
  nodes_kept =
      kept_filter (is_below N e es) M (drop 1 M) ps (later_length M (length ps) marks_length)
      (λ k m p g h. ap (nat_lt 1) (sym (got_index M (suc k) m (sym (later_marks M k) ∙ h))) ∙ stays k p g)

  pub top_is_kept : is_kept top N u ≡ true
  top_is_kept = number_kept top ps l t tl

  pub part_kept : record { top = u; nodes = nodes_of new } ≡ part (record { top = top; nodes = N }) e es
  unfolding part
  part_kept =
      ap (λ (xs : List Node). record { top = u; nodes = xs }) nodes_kept
      ∙ ap (λ (v : EpochName). record { top = v; nodes = kept_nodes N e es }) (sym (path_end (record { top = top; nodes = N }) (l.nodes, l.below) u top_is_kept) ∙ ap (end_of top) a.top_is)

  -- ---- one tree, linked by the new numbers

  pub window : Window u (nodes_of new) top N
  window = subst (λ (xs : List Node). Window u xs top N) (sym nodes_kept) (keep_window top N l.nodes l.below e es u top_is_kept a.top_is)

  -- the parent of a node that is kept is marked
  pub parent_marked : (k : ℕ) (p : Placed) → slice_get ps k ≡ Some p → 1 < slice_index M (suc k) → has_mark ms p.up ≡ true
  parent_marked k p g h =
      let s = stays_is N e es (node_of p) (sym (stays k p g) ∙ lt_test 1 (slice_index M (suc k)) h) in
      let b = l.links.earlier k p g in
      let x = slice_get_within ps k p g in
      a.spanned p.up (omega arith)
      ∙ (ap (is_spanned N e es) (at_is top ps p.up p.parent (l.links.parents k p g)) ∙ parent_spanned top N l.nodes l.below e es (node_of p) (node_in ps k p g) s.0 s.1)

  pub parent_numbered : (k : ℕ) (p : Placed) → slice_get ps k ≡ Some p → 1 < slice_index M (suc k) → 0 < slice_index M p.up
  parent_numbered k p g h = let x = number_one 0 ms p.up (parent_marked k p g h) in omega arith

  links_kept : AreLinked u new
  links_kept = record {
    earlier = λ j q g.
        let r = kept_place_from M ms ps j q g in
        let n = r.4 in
        let up : slice_index M (r.1).up - 1 ≡ q.up = ap (λ (z : Placed). z.up) r.3 in
        let b = l.links.earlier r.0 r.1 r.2 in
        let x = number_less 0 ms (r.1).up (suc r.0) (omega arith) (parent_numbered r.0 r.1 r.2 (omega arith)) (omega arith) in
        omega arith;
    parents = λ j q g.
        let r = kept_place_from M ms ps j q g in
        let n = r.4 in
        let up : slice_index M (r.1).up - 1 ≡ q.up = ap (λ (z : Placed). z.up) r.3 in
        let parent : (r.1).parent ≡ q.parent = ap (λ (z : Placed). z.parent) r.3 in
        let m = parent_marked r.0 r.1 r.2 (omega arith) in
        let b = l.links.earlier r.0 r.1 r.2 in
        let x = slice_get_within ps r.0 r.1 r.2 in
        let y = l.links.parents r.0 r.1 r.2 in
        ap (name_at u new) (sym up) ∙ (linked (r.1).up (omega arith) m (r.1).parent y ∙ ap Some parent);
  }
    where
      below : (k : ℕ) → suc k ≤ length ps → 1 < slice_index M (suc k) → (f : EpochName) → name_at top ps (suc k) ≡ Some f → name_at u new (slice_index M (suc k) - 1) ≡ Some f
      below k h q f g =
          let r = get_of ps k (omega arith) in
          let i : slice_index M (suc k) - 1 ≡ suc (slice_index M (suc k) - 2) = omega arith in
          ap (name_at u new) i
          ∙ (ap (option_map (λ (z : Placed). name_of z.renaming)) (kept_place_at M ms ps k r.0 r.1 q) ∙ (ap (option_map (λ (z : Placed). name_of z.renaming)) (sym r.1) ∙ g))

      linked : (n : ℕ) → n ≤ length ps → has_mark ms n ≡ true → (f : EpochName) → name_at top ps n ≡ Some f → name_at u new (slice_index M n - 1) ≡ Some f
      linked n h m f g =
          ⊎_elim (λ q. numbered_below n h q f g)
          (λ q. let x = number_one 0 ms n m in
          let i : slice_index M n - 1 ≡ 0 = omega arith in
          ap (name_at u new) i ∙ ap Some (ap (epoch_at top ps) (sym (is_top n h m q)) ∙ at_is top ps n f g)) (cases_lt 1 (slice_index M n))
        where
          numbered_below : (n : ℕ) → n ≤ length ps → 1 < slice_index M n → (f : EpochName) → name_at top ps n ≡ Some f → name_at u new (slice_index M n - 1) ≡ Some f
          numbered_below zero h q f g = let r = number_below 0 h q in let x = after_top 0 h r.0 in absurd (r.1 (omega arith))
          numbered_below (suc k) h q f g = below k h q f g

          is_top : (n : ℕ) → n ≤ length ps → has_mark ms n ≡ true → slice_index M n ≤ 1 → n ≡ t
          is_top n h m q =
              ⊎_elim (λ x. let y = below_number n h m (λ z. let v : n ≡ t = z in omega arith) in absurd (omega arith)) (λ x. let o = after_top n h m in omega arith) (cases_lt t n)

  pub laid_kept : AreLaid u new
  laid_kept = record { nodes = window.nodes; below = window.below; links = links_kept }

  -- ---- places

  pub place_new : (k : ℕ) → k < length ps → 1 < slice_index M (suc k) → (place_name new (slice_index M (suc k) - 2) ≡ place_name ps k) × (slice_index M (suc k) - 2 < length new)
  place_new k h q =
      let r = get_of ps k h in
      let g = kept_place_at M ms ps k r.0 r.1 q in
      (name_read new (slice_index M (suc k) - 2) (moved M r.0) g ∙ sym (name_read ps k r.0 r.1), slice_get_within new (slice_index M (suc k) - 2) (moved M r.0) g)

  within_kept : (places : List ℕ) → ((k : ℕ) → IsIn k places → k < length ps) → (j : ℕ) → IsIn j (kept_places M places) → j < length new
  within_kept places h j p =
      let r = in_places M places j p in
      let x = (place_new r.0 (h r.0 r.1) r.2).1 in
      let y = r.3 in
      omega arith

  rising_kept : (cmp : Cmp) (places : List ℕ) → ((k : ℕ) → IsIn k places → k < length ps) → AreRising cmp (names_at ps places) → AreRising cmp (names_at new (kept_places M places))
  rising_kept cmp [] h r = tt
  rising_kept cmp (k ∷ places) h r = go (nat_lt 1 (slice_index M (suc k))) refl (rising_kept cmp places (λ i p. h i (inr p)) r.1)
    where
      from : (f : EpochName) → IsIn f (names_at new (kept_places M places)) → cmp (place_name ps k) f ≡ Less
      from f p =
          let x = in_map (place_name new) f (kept_places M places) p in
          let y = in_places M places x.0 x.1 in
          let z = (place_new y.0 (h y.0 (inr y.1)) y.2).0 in
          subst (λ (v : EpochName). cmp (place_name ps k) v ≡ Less) (sym z ∙ (ap (place_name new) y.3 ∙ x.2)) (before_at cmp (place_name ps k) (place_name ps y.0) (names_at ps places) r.0 (map_in (place_name ps) y.0 places y.1))

      go : (b : Bool) → nat_lt 1 (slice_index M (suc k)) ≡ b → AreRising cmp (names_at new (kept_places M places)) →
          AreRising cmp (names_at new (if b then (slice_index M (suc k) - 2) ∷ kept_places M places else kept_places M places))
      go false q s = s
      go true q s =
          let z = (place_new k (h k (inl refl)) (lt_is 1 (slice_index M (suc k)) q)).0 in
          (before_all cmp (place_name new (slice_index M (suc k) - 2)) (names_at new (kept_places M places)) (λ f p. ap (λ (v : EpochName). cmp v f) z ∙ from f p), s)

  complete_kept : (places : List ℕ) → ((k : ℕ) → k < length ps → IsIn k places) → (j : ℕ) → j < length new → IsIn j (kept_places M places)
  complete_kept places h j q =
      let g = get_of new j q in
      let r = kept_place_from M ms ps j g.0 g.1 in
      let n = r.4 in
      let i : slice_index M (suc r.0) - 2 ≡ j = omega arith in
      subst (λ (k : ℕ). IsIn k (kept_places M places)) i (places_in M places r.0 (h r.0 (slice_get_within ps r.0 r.1 r.2)) (omega arith))

  pub names_kept : (by_name : List ℕ) → AreSorted name_cmp ps by_name → AreSorted name_cmp new (kept_places M by_name)
  names_kept by_name s = record {
    within = within_kept by_name s.within;
    rising = rising_kept name_cmp by_name s.within s.rising;
    complete = λ j q. ∣ complete_kept by_name (all_in s) j q ∣₁;
  }

  pub order_kept : (order : List ℕ) → AreSorted (epoch_cmp N) ps order → AreSorted (epoch_cmp (nodes_of new)) new (kept_places M order)
  order_kept order s =
      let in_part : (f : EpochName) → IsIn f (names_at new (kept_places M order)) → is_kept u (nodes_of new) f ≡ true = λ f p. or_right (name_eq f u) (has_node (nodes_of new) f) (in_sorted new (kept_places M order) (within_kept order s.within) f p) in
      record {
        within = within_kept order s.within;
        rising = rising_same (epoch_cmp N) (epoch_cmp (nodes_of new)) (names_at new (kept_places M order)) (λ f g p q. sym (cmp_window window f g (in_part f p) (in_part g q))) (rising_kept (epoch_cmp N) order s.within s.rising);
        complete = λ j q. ∣ complete_kept order (all_in s) j q ∣₁;
      }

-- ---- the same, by these numbers

module _ (top : EpochName) (ps : List Placed) (l : AreLaid top ps) (xs : List ℕ) (t : ℕ) (tl : t ≤ length ps) (lx : length xs ≡ suc (length ps)) (e : EpochName) (es : List EpochName) (n : AreNumbered top ps xs t e es) where
  pub marks_are : length n.marks ≡ suc (length ps)
  marks_are = let a = numbered_length 0 n.marks in let b = ap length n.numbers_are in omega arith

  abbrev left : List ℕ → List Placed
  left ys = kept_placed ys (drop 1 ys) ps

  pub parents_numbered : (k : ℕ) (p : Placed) → slice_get ps k ≡ Some p → 1 < slice_index xs (suc k) → 0 < slice_index xs p.up
  parents_numbered =
      subst (λ (ys : List ℕ). (k : ℕ) (p : Placed) → slice_get ps k ≡ Some p → 1 < slice_index ys (suc k) → 0 < slice_index ys p.up) (sym n.numbers_are) (parent_numbered top ps l n.marks marks_are t tl e es n.spread)

  pub part_left : record { top = epoch_at top ps t; nodes = nodes_of (left xs) } ≡ part (record { top = top; nodes = nodes_of ps }) e es
  part_left =
      subst (λ (ys : List ℕ). record { top = epoch_at top ps t; nodes = nodes_of (left ys) } ≡ part (record { top = top; nodes = nodes_of ps }) e es) (sym n.numbers_are)
      (part_kept top ps l n.marks marks_are t tl e es n.spread)

  pub laid_left : AreLaid (epoch_at top ps t) (left xs)
  laid_left = subst (λ (ys : List ℕ). AreLaid (epoch_at top ps t) (left ys)) (sym n.numbers_are) (laid_kept top ps l n.marks marks_are t tl e es n.spread)

  pub by_name_left : (by_name : List ℕ) → AreSorted name_cmp ps by_name → AreSorted name_cmp (left xs) (kept_places xs by_name)
  by_name_left by_name s = subst (λ (ys : List ℕ). AreSorted name_cmp (left ys) (kept_places ys by_name)) (sym n.numbers_are) (names_kept top ps l n.marks marks_are t tl e es n.spread by_name s)

  pub order_left : (order : List ℕ) → AreSorted (epoch_cmp (nodes_of ps)) ps order → AreSorted (epoch_cmp (nodes_of (left xs))) (left xs) (kept_places xs order)
  order_left order s = subst (λ (ys : List ℕ). AreSorted (epoch_cmp (nodes_of (left ys))) (left ys) (kept_places ys order)) (sym n.numbers_are) (order_kept top ps l n.marks marks_are t tl e es n.spread order s)

-- what was written over the whole of it
pub written : (xs old : List ℕ) (n : ℕ) → n ≡ length old → length xs ≡ length old → take n (xs ++ drop (length xs) old) ≡ xs
written xs old n h l = ap (λ ys. take n (xs ++ ys)) (drop_of_length-le old (omega arith)) ∙ (ap (take n) (append-nil xs) ∙ take_all n xs (omega arith))

-- the marked epochs, and those that are at least the greatest one within the vector
abbrev pub needed_by : EpochName → List Placed → List ℕ → List ℕ → List EpochName
needed_by top ps marks v = reached (record { top = top; nodes = nodes_of ps }) v ++ marks_of top ps marks

abbrev pub NumberedFor : EpochName → List Placed → List ℕ → List ℕ → ℕ → List ℕ → Type 0
NumberedFor top ps marks xs t v = (es : List EpochName) → AreNamed top ps marks es → AreNumbered top ps xs t (greatest top (nodes_of ps)) (reached (record { top = top; nodes = nodes_of ps }) v ++ es)

-- what is left by these numbers
pub record IsLeft (top : EpochName) (ps : List Placed) (marks xs : List ℕ) (t : ℕ) (v : List ℕ) : Type 0 where
  pub numbers : AreNumbered top ps xs t (greatest top (nodes_of ps)) (needed_by top ps marks v)
  pub laid : AreLaid (epoch_at top ps t) (kept_placed xs (drop 1 xs) ps)
  pub sum : kept_sum (drop 1 xs) ps ≡ former_sum (nodes_of (kept_placed xs (drop 1 xs) ps))
  pub part_is : record { top = epoch_at top ps t; nodes = nodes_of (kept_placed xs (drop 1 xs) ps) } ≡ kept_part (record { top = top; nodes = nodes_of ps }) v (marks_of top ps marks)

pub left_of : {top : EpochName} {ps : List Placed} {maxima marks : List ℕ} {total : ℕ} → IsWhole top ps maxima marks total → (ns xs : List ℕ) (t : ℕ) (v : List ℕ) → ns ≡ marks → length xs ≡ length ns → t ≤ length ps → NumberedFor top ps ns xs t v → IsLeft top ps marks xs t v
left_of {top = top} {ps = ps} {marks = marks} w ns xs t v e lx tl h =
    let g = greatest top (nodes_of ps) in
    let es = needed_by top ps marks v in
    let lw : length xs ≡ suc (length ps) = lx ∙ (ap length e ∙ w.marks_whole) in
    let n : AreNumbered top ps xs t g es = subst (λ (zs : List ℕ). NumberedFor top ps zs xs t v) e h (marks_of top ps marks) (named_marks top ps marks) in
    record {
      numbers = n;
      laid = laid_left top ps w.laid xs t tl lw g es n;
      sum = kept_former xs (drop 1 xs) ps;
      part_is = part_left top ps w.laid xs t tl lw g es n;
    }
