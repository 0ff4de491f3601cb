-- Names up to others, and the maxima of the epochs up to them.
use Rattle.std.proofs.Common.{◌≡◌, ℕ, zero, suc, ◌+◌, ◌-◌, ◌<◌, ◌≤◌, Bool, true, false, List, [], ◌∷◌, length, set, refl, sym, ap, ◌∙◌, subst, inl, inr, ◌⊎◌, ⊎_elim, arith}
use Rattle.std.specs.Prelude.{nat_eq, nat_le, slice_index, if◌then◌else◌}
use Rattle.std.specs.declared.cmp.Ordering.{Ordering}
use Rattle.std.specs.declared.cmp.Ordering.TheVariants.{Less}
use Rattle.std.specs.Cmp.{nat_cmp_is}
use Rattle.std.specs.Ordering.{is_lt, nat_cmp, ordering_then, MatchOrdering}
use Rattle.std.proofs.lemmas.Bool.{cases_lt}
use Rattle.std.proofs.lemmas.Cmp.{nat_cmp_total, ranked, tied_itself}
use Rattle.std.proofs.lemmas.List.{get_or-set_other, get_or-set_same, get_or_append_left, length-set, length_push}
use Rattle.rls_ident.specs.declared.epoch_name.EpochName.{EpochName}
use Rattle.rls_ident.specs.declared.epoch_name.EpochName.TheVariants.{Origin, Of}
use Rattle.rls_ident.specs.EpochNames.{name_eq}
use Rattle.rls_ident.proofs.Lists.{then_less}
use Rattle.rls_ident.proofs.Members.{and_left, and_right, and_true, bool_cases, eq_is, eq_test, le_is, le_test, less_is, or_left, or_right, true_false}
use Rattle.rls_ident.proofs.Named.{name_eq_refl}
use Rattle.rls_ident.proofs.Positions.{get_of}
use Rattle.rls_ident.proofs.Tuples.{nat_same}
use Rattle.rls_rename.specs.Tree.{Node, has_node, is_kept, AreNodes, AreBelow, epoch_cmp}
use Rattle.rls_rename.proofs.Order.{above_trans, less_self, older_cmp}
use Rattle.rls_epoch.specs.declared.placed.Placed.{Placed}
use Rattle.rls_epoch.specs.Climbing.{name_cmp}
use Rattle.rls_epoch.specs.Links.{epoch_at}
use Rattle.rls_epoch.specs.Maxima.{name_in, up_to, AreDistinct, AreFirst, AreMaxima, IsEnd, IsMaximum}
use Rattle.rls_epoch.specs.Seen.{node_of, nodes_of, AreLaid, IsAdded}
use Rattle.rls_epoch.specs.Sorted.{place_name, AreSorted}
use Rattle.rls_epoch.proofs.Found.{next_at, read_in}
use Rattle.rls_epoch.proofs.Indices.{index_of, rising_at, rising_distinct}
use Rattle.rls_epoch.proofs.Laid.{nodes_last}
use Rattle.rls_epoch.proofs.Ordering.{names_order}
use Rattle.rls_epoch.proofs.Orders.{epochs_order, place_kept}
use Rattle.rls_epoch.proofs.Reading.{name_read}
use Rattle.rls_epoch.proofs.Sorting.{all_in}
use Rattle.rls_epoch.proofs.Whole.{place_more}

-- ---- names by their parts

nat_lower : (x y : ℕ) → nat_cmp x y ≡ Less → x < y
nat_lower x y e = subst (λ o. MatchOrdering o (x < y) (x ≡ y) (y < x)) e (ranked x y (nat_cmp x y) refl)

nat_less : (p q : ℕ) → p < q → nat_cmp p q ≡ Less
nat_less p q h = sym (nat_cmp_is p q Less h)

pub less_parts : (r s q t : ℕ) → name_cmp (Of r s) (Of q t) ≡ Less → (r < q) ⊎ ((r ≡ q) × (s < t))
less_parts r s q t h = ⊎_elim (λ e. inl (nat_lower r q e)) (λ e. inr (nat_same r q e.0, nat_lower s t e.1)) (then_less (nat_cmp r q) (nat_cmp s t) h)

pub less_first : (r s q t : ℕ) → r < q → name_cmp (Of r s) (Of q t) ≡ Less
less_first r s q t h = ap (λ o. ordering_then o (nat_cmp s t)) (nat_less r q h)

pub less_second : (r s q t : ℕ) → r ≡ q → s < t → name_cmp (Of r s) (Of q t) ≡ Less
less_second r s q t e h = ap (λ o. ordering_then o (nat_cmp s t)) (ap (nat_cmp r) (sym e) ∙ tied_itself nat_cmp_total r) ∙ nat_less s t h

pub up_parts : (r s q t : ℕ) → up_to (Of r s) (Of q t) ≡ true → (q ≡ r) × (t ≤ s)
up_parts r s q t h = (eq_is q r (and_left (nat_eq q r) (nat_le t s) h), le_is t s (and_right (nat_eq q r) (nat_le t s) h))

pub up_test : (r s q t : ℕ) → q ≡ r → t ≤ s → up_to (Of r s) (Of q t) ≡ true
up_test r s q t e h = and_true (nat_eq q r) (nat_le t s) (eq_test q r e) (le_test t s h)

-- ---- names up to others

pub up_trans : (e f g : EpochName) → up_to e f ≡ true → up_to f g ≡ true → up_to e g ≡ true
up_trans Origin f g h k = absurd (cc)
up_trans (Of r s) Origin g h k = absurd (cc)
up_trans (Of r s) (Of q t) Origin h k = absurd (cc)
up_trans (Of r s) (Of q t) (Of u w) h k =
    let a = up_parts r s q t h in
    let b = up_parts q t u w k in
    up_test r s u w (omega arith) (omega arith)

pub up_not_less : (e f : EpochName) → up_to e f ≡ true → name_cmp e f ≡ Less → ⊥
up_not_less Origin f h k = absurd (cc)
up_not_less (Of r s) Origin h k = absurd (cc)
up_not_less (Of r s) (Of q t) h k =
    let a = up_parts r s q t h in
    ⊎_elim (λ x. omega arith) (λ x. let y = x.1 in omega arith) (less_parts r s q t k)

-- what lies between them
pub up_squeezed : (e g f : EpochName) → up_to e f ≡ true → (name_cmp f g ≡ Less) ⊎ (f ≡ g) → (name_cmp e g ≡ Less → ⊥) → (up_to e g ≡ true) × (up_to g f ≡ true)
up_squeezed Origin g f h l n = absurd (cc)
up_squeezed (Of r s) g Origin h l n = absurd (cc)
up_squeezed (Of r s) Origin (Of q t) h l n = absurd (⊎_elim (λ x. (cc)) (λ x. (cc)) l)
up_squeezed (Of r s) (Of u w) (Of q t) h (inl l) n =
    let a = up_parts r s q t h in
    ⊎_elim (λ x. absurd (n (less_first r s u w (omega arith))))
    (λ x. let b = x.0 in
    let c = x.1 in
    let d : w ≤ s = ⊎_elim (λ y. absurd (n (less_second r s u w (omega arith) y))) (λ y. y) (cases_lt s w) in
    (up_test r s u w (omega arith) d, up_test u w q t b (omega arith)))
    (less_parts q t u w l)
up_squeezed (Of r s) (Of u w) (Of q t) h (inr l) n = (
  subst (λ g. up_to (Of r s) g ≡ true) l h,
  subst (λ g. up_to g (Of q t) ≡ true) l (up_test q t q t refl (omega arith)),
)

pub up_self : (ps : List Placed) (k : ℕ) → k < length ps → up_to (place_name ps k) (place_name ps k) ≡ true
up_self ps k h =
    let r = get_of ps k h in
    let n : place_name ps k ≡ Of (r.0).renaming.replica (r.0).renaming.seq = name_read ps k r.0 r.1 in
    subst (λ e. up_to e e ≡ true) (sym n) (up_test (r.0).renaming.replica (r.0).renaming.seq (r.0).renaming.replica (r.0).renaming.seq refl (omega arith))

-- ---- the greater of two epochs

module _ (ns : List Node) (at : ℕ → EpochName) (a b n : ℕ) (is : n ≡ (if is_lt (epoch_cmp ns (at a) (at b)) then b else a)) where
  abbrev less : Bool
  less = is_lt (epoch_cmp ns (at a) (at b))

  then_second : less ≡ true → n ≡ b
  then_second q = is ∙ ap (λ (c : Bool). if c then b else a) q

  else_first : less ≡ false → n ≡ a
  else_first q = is ∙ ap (λ (c : Bool). if c then b else a) q

  pub greater_either : (n ≡ a) ⊎ (n ≡ b)
  greater_either = bool_cases less (λ q. inr (then_second q)) (λ q. inl (else_first q))

  -- what is above neither of them
  pub greater_first : (e : EpochName) → (epoch_cmp ns (at a) e ≡ Less → ⊥) → epoch_cmp ns (at n) e ≡ Less → ⊥
  greater_first e h l =
      bool_cases less
      (λ q. h ((epochs_order ns).trans (at a) (at b) e (less_is (epoch_cmp ns (at a) (at b)) q) (subst (λ (m : ℕ). epoch_cmp ns (at m) e ≡ Less) (then_second q) l)))
      (λ q. h (subst (λ (m : ℕ). epoch_cmp ns (at m) e ≡ Less) (else_first q) l))

  pub greater_second : (e : EpochName) → (epoch_cmp ns (at b) e ≡ Less → ⊥) → epoch_cmp ns (at n) e ≡ Less → ⊥
  greater_second e h l =
      bool_cases less
      (λ q. h (subst (λ (m : ℕ). epoch_cmp ns (at m) e ≡ Less) (then_second q) l))
      (λ q. above_trans ns (at a) (at b) e (λ k. true_false less (ap is_lt k) q) h (subst (λ (m : ℕ). epoch_cmp ns (at m) e ≡ Less) (else_first q) l))

-- ---- one more node

module _ {top : EpochName} {ps : List Placed} {old : List ℕ} (l : AreLaid top ps) (x : IsAdded top ps old) where
  pub nodes_length : length ps ≡ length x.older + 1
  nodes_length = ap length x.nodes_are ∙ length_push x.older x.node

  pub old_whole : length old ≡ length ps
  old_whole = let a = ap length x.numbers_are ∙ length_push x.before 0 in let b = x.maxima_are.whole in let c = nodes_length in omega arith

  name_old : (k : ℕ) → k < length x.older → place_name ps k ≡ place_name x.older k
  name_old k h = ap (λ (zs : List Placed). place_name zs k) x.nodes_are ∙ place_more x.older x.node k h

  epoch_old : (n : ℕ) → n ≤ length x.older → epoch_at top ps n ≡ epoch_at top x.older n
  epoch_old zero h = refl
  epoch_old (suc k) h = name_old k (omega arith)

  number_old : (k : ℕ) → k < length x.older → slice_index old k ≡ slice_index x.before k
  number_old k h = ap (λ zs. slice_index zs k) x.numbers_are ∙ get_or_append_left x.before (0 ∷ []) 0 k (let b = x.maxima_are.whole in omega arith)

  nodes_more : nodes_of ps ≡ node_of x.node ∷ nodes_of x.older
  nodes_more = ap nodes_of x.nodes_are ∙ nodes_last x.older x.node

  older_kept : (n : ℕ) → n ≤ length x.older → is_kept top (nodes_of x.older) (epoch_at top x.older n) ≡ true
  older_kept zero h = or_left (name_eq top top) (has_node (nodes_of x.older) top) (name_eq_refl top)
  older_kept (suc k) h = or_right (name_eq (place_name x.older k) top) (has_node (nodes_of x.older) (place_name x.older k)) (place_kept x.older k (omega arith))

  -- older epochs stand as before
  order_old : (n k : ℕ) → n ≤ length x.older → k < length x.older → epoch_cmp (nodes_of ps) (epoch_at top ps n) (place_name ps k) ≡ epoch_cmp (nodes_of x.older) (epoch_at top x.older n) (place_name x.older k)
  order_old n k h w =
      let d : AreNodes (node_of x.node ∷ nodes_of x.older) = subst AreNodes nodes_more l.nodes in
      let b : AreBelow top (node_of x.node ∷ nodes_of x.older) = subst (AreBelow top) nodes_more l.below in
      ap (λ (ns : List Node). epoch_cmp ns (epoch_at top ps n) (place_name ps k)) nodes_more
      ∙ (ap (λ (e : EpochName). epoch_cmp (node_of x.node ∷ nodes_of x.older) e (place_name ps k)) (epoch_old n h)
      ∙ (ap (λ (e : EpochName). epoch_cmp (node_of x.node ∷ nodes_of x.older) (epoch_at top x.older n) e) (name_old k w)
      ∙ older_cmp top (node_of x.node) (nodes_of x.older) d b (epoch_at top x.older n) (place_name x.older k) (older_kept n h) (older_kept (suc k) (omega arith))))

  -- where the new one is up to none of the others, these have the same maxima as before
  module _ (alone : (k : ℕ) → k < length x.older → up_to (place_name ps k) (place_name ps (length x.older)) ≡ true → ⊥) where
    pub maximum_old : (k : ℕ) → k < length x.older → IsMaximum (epoch_cmp (nodes_of ps)) top ps (place_name ps k) (slice_index old k)
    maximum_old k h =
        let n = slice_index x.before k in
        let m : IsMaximum (epoch_cmp (nodes_of x.older)) top x.older (place_name x.older k) n = x.maxima_are.each k h in
        let w = m.in_range in
        let c = nodes_length in
        subst (IsMaximum (epoch_cmp (nodes_of ps)) top ps (place_name ps k)) (sym (number_old k h)) record {
          in_range = omega arith;
          held = λ z. subst (λ e. up_to e (epoch_at top ps n) ≡ true) (sym (name_old k h)) (ap (up_to (place_name x.older k)) (epoch_old n w) ∙ m.held z);
          most = λ j q u s.
              ⊎_elim (λ g. m.most j g (subst (λ e. up_to e (place_name x.older j) ≡ true) (name_old k h) (subst (λ f. up_to (place_name ps k) f ≡ true) (name_old j g) u)) (sym (order_old n j w g) ∙ s))
              (λ g. let e : j ≡ length x.older = omega arith in alone k h (subst (λ (i : ℕ). up_to (place_name ps k) (place_name ps i) ≡ true) e u)) (cases_lt j (length x.older));
        }

-- ---- nodes in order of names

module _ {ps : List Placed} {by_name : List ℕ} (s : AreSorted name_cmp ps by_name) where
  abbrev at : ℕ → EpochName
  at a = name_in ps by_name a

  pub at_place : (a : ℕ) → a < length by_name → slice_index by_name a < length ps
  at_place a h = s.within (slice_index by_name a) (read_in by_name a h)

  pub index_at : (k : ℕ) → k < length ps → (b : ℕ) × (b < length by_name) × (slice_index by_name b ≡ k)
  index_at k h = index_of k by_name (all_in s k h)

  pub low_or_same : (a b : ℕ) → a ≤ b → b < length by_name → (name_cmp (at a) (at b) ≡ Less) ⊎ (at a ≡ at b)
  low_or_same a b h w = ⊎_elim (λ g. inl (rising_at name_cmp ps by_name s.rising a b g w)) (λ g. let q : a ≡ b = omega arith in inr (ap (name_in ps by_name) q)) (cases_lt a b)

  -- a name between the name at an index and what is up to it
  pub squeezed_at : (e : EpochName) (a b : ℕ) → a ≤ b → b < length by_name → up_to e (at a) ≡ true → (name_cmp e (at b) ≡ Less → ⊥) → (up_to e (at b) ≡ true) × (up_to (at b) (at a) ≡ true)
  squeezed_at e a b h w u n = up_squeezed e (at b) (at a) u (low_or_same a b h w) n

  pub not_later : (a b : ℕ) → a < length by_name → b < length by_name → up_to (at a) (at b) ≡ true → b ≤ a
  not_later a b h w u = ⊎_elim (λ g. absurd (up_not_less (at a) (at b) u (rising_at name_cmp ps by_name s.rising a b g w))) (λ g. g) (cases_lt a b)

  pub back_not_less : (a b : ℕ) → a < b → b < length by_name → name_cmp (at b) (at a) ≡ Less → ⊥
  back_not_less a b h w l = names_order.flips (at a) (at b) (rising_at name_cmp ps by_name s.rising a b h w) l

  -- the last of all, and what isn't up to the next one, is up to no other
  pub alone_last : (i : ℕ) → i < length by_name → length by_name ≤ i + 1 → (a : ℕ) → a < length by_name → up_to (at a) (at i) ≡ true → a ≡ i
  alone_last i h l a w u = let g = not_later a i w h u in omega arith

  pub alone_next : (i : ℕ) → i + 1 < length by_name → up_to (at (i + 1)) (at i) ≡ false → (a : ℕ) → a < length by_name → up_to (at a) (at i) ≡ true → a ≡ i
  alone_next i h f a w u =
      let g = not_later a i w (omega arith) u in
      ⊎_elim (λ l. absurd (true_false (up_to (at (i + 1)) (at i)) (up_squeezed (at a) (at (i + 1)) (at i) u (low_or_same i (i + 1) (omega arith) h) (not_less l)).1 f)) (λ l. let q : a ≡ i = omega arith in q) (cases_lt i a)
    where
      not_less : i < a → name_cmp (at a) (at (i + 1)) ≡ Less → ⊥
      not_less l k =
          ⊎_elim (λ m. back_not_less (i + 1) a m w k)
          (λ m. let q : i + 1 ≡ a = omega arith in
          let x = subst (λ (j : ℕ). name_cmp (at a) (at j) ≡ Less) q k in
          names_order.flips (at a) (at a) x x) (cases_lt (i + 1) a)

  -- ---- the maximum up to a name

  module _ {top : EpochName} {maxima : List ℕ} (m : AreMaxima (epoch_cmp (nodes_of ps)) top ps maxima) {e : EpochName} {n : ℕ} (c : IsEnd ps by_name e n) where
    before_end : (b : ℕ) → b < length by_name → up_to e (at b) ≡ true → b < n
    before_end b h u = ⊎_elim (λ g. g) (λ g. absurd (up_not_less e (at b) u (c.above b g h))) (cases_lt b n)

    placed_before : (k : ℕ) → k < length ps → up_to e (place_name ps k) ≡ true → (b : ℕ) × (b < n) × (b < length by_name) × (up_to e (at b) ≡ true) × (at b ≡ place_name ps k)
    placed_before k h u =
        let b = index_at k h in
        let q : at b.0 ≡ place_name ps k = ap (place_name ps) b.2 in
        let v = subst (λ f. up_to e f ≡ true) (sym q) u in
        (b.0, before_end b.0 b.1 v, b.1, v, q)

    pub maximum_none : n ≡ 0 → IsMaximum (epoch_cmp (nodes_of ps)) top ps e 0
    maximum_none z = record {
      in_range = omega arith;
      held = λ h. absurd (omega arith);
      most = λ k h u s. let b = placed_before k h u in let w = b.1 in absurd (omega arith);
    }

    pub maximum_other : 0 < n → up_to e (at (n - 1)) ≡ false → IsMaximum (epoch_cmp (nodes_of ps)) top ps e 0
    maximum_other z f = record {
      in_range = omega arith;
      held = λ h. absurd (omega arith);
      most = λ k h u s.
          let b = placed_before k h u in
          let w = b.1 in
          let r = c.in_range in
          true_false (up_to e (at (n - 1))) (squeezed_at e b.0 (n - 1) (omega arith) (omega arith) b.3 (c.below (n - 1) (omega arith))).0 f;
    }

    pub maximum_before : 0 < n → up_to e (at (n - 1)) ≡ true → IsMaximum (epoch_cmp (nodes_of ps)) top ps e (slice_index maxima (slice_index by_name (n - 1)))
    maximum_before z f =
        let r = c.in_range in
        let x = slice_index maxima (slice_index by_name (n - 1)) in
        let g = m.each (slice_index by_name (n - 1)) (at_place (n - 1) (omega arith)) in
        record {
          in_range = g.in_range;
          held = λ h. up_trans e (at (n - 1)) (epoch_at top ps x) f (g.held h);
          most = λ k h u.
              let b = placed_before k h u in
              let w = b.1 in
              let y = (squeezed_at e b.0 (n - 1) (omega arith) (omega arith) b.3 (c.below (n - 1) (omega arith))).1 in
              g.most k h (subst (λ q. up_to (at (n - 1)) q ≡ true) b.4 y);
        }

  -- ---- all maxima

  names_distinct : AreDistinct by_name
  names_distinct = rising_distinct name_cmp names_order ps by_name s.rising

  module _ (top : EpochName) (i : ℕ) (wi : i < length by_name) where
    abbrev place : ℕ
    place = slice_index by_name i

    own_is : epoch_at top ps (place + 1) ≡ at i
    own_is = next_at top ps place

    own_held : up_to (at i) (epoch_at top ps (place + 1)) ≡ true
    own_held = ap (up_to (at i)) own_is ∙ up_self ps place (at_place i wi)

    -- the own one isn't below itself
    own_most : (f : EpochName) → at i ≡ f → epoch_cmp (nodes_of ps) (epoch_at top ps (place + 1)) f ≡ Less → ⊥
    own_most f q l = less_self (nodes_of ps) f (subst (λ e. epoch_cmp (nodes_of ps) e f ≡ Less) (own_is ∙ q) l)

    -- it stands before this one, or is this one
    placed_up : (k : ℕ) → k < length ps → up_to (at i) (place_name ps k) ≡ true → ((b : ℕ) × (b < i) × (up_to (at i) (at b) ≡ true) × (at b ≡ place_name ps k)) ⊎ (at i ≡ place_name ps k)
    placed_up k h u =
        let b = index_at k h in
        let q : at b.0 ≡ place_name ps k = ap (place_name ps) b.2 in
        let v = subst (λ f. up_to (at i) f ≡ true) (sym q) u in
        let l = not_later i b.0 wi b.1 v in
        ⊎_elim (λ g. inl (b.0, g, v, q)) (λ g. let same : i ≡ b.0 = omega arith in inr (ap at same ∙ q)) (cases_lt b.0 i)

    alone_maximum : ((b : ℕ) → b < i → up_to (at i) (at b) ≡ true → ⊥) → IsMaximum (epoch_cmp (nodes_of ps)) top ps (at i) (place + 1)
    alone_maximum n = record {
      in_range = let w = at_place i wi in omega arith;
      held = λ h. own_held;
      most = λ k h u. ⊎_elim (λ g. absurd (n g.0 g.1 g.2)) (λ q. own_most (place_name ps k) q) (placed_up k h u);
    }

    pub maximum_first : i ≡ 0 → IsMaximum (epoch_cmp (nodes_of ps)) top ps (at i) (place + 1)
    maximum_first z = alone_maximum (λ b h u. omega arith)

    pub maximum_apart : 0 < i → up_to (at i) (at (i - 1)) ≡ false → IsMaximum (epoch_cmp (nodes_of ps)) top ps (at i) (place + 1)
    maximum_apart z f = alone_maximum (λ b h u. true_false (up_to (at i) (at (i - 1))) (squeezed_at (at i) b (i - 1) (omega arith) (omega arith) u (back_not_less (i - 1) i (omega arith) wi)).0 f)

    module _ (z : 0 < i) (f : up_to (at i) (at (i - 1)) ≡ true) (m : ℕ) (g : IsMaximum (epoch_cmp (nodes_of ps)) top ps (at (i - 1)) m) (n : ℕ) (is : n ≡ (if is_lt (epoch_cmp (nodes_of ps) (epoch_at top ps (place + 1)) (epoch_at top ps m)) then m else (place + 1))) where
      either : (n ≡ place + 1) ⊎ (n ≡ m)
      either = greater_either (nodes_of ps) (epoch_at top ps) (place + 1) m n is

      pub maximum_greater : IsMaximum (epoch_cmp (nodes_of ps)) top ps (at i) n
      maximum_greater = record {
        in_range = let w = at_place i wi in let r = g.in_range in ⊎_elim (λ e. omega arith) (λ e. omega arith) either;
        held = λ h.
            ⊎_elim (λ e. subst (λ (x : ℕ). up_to (at i) (epoch_at top ps x) ≡ true) (sym e) own_held)
            (λ e. up_trans (at i) (at (i - 1)) (epoch_at top ps n) f (subst (λ (x : ℕ). up_to (at (i - 1)) (epoch_at top ps x) ≡ true) (sym e) (g.held (omega arith)))) either;
        most = λ k h u.
            ⊎_elim
            (λ b. let l = b.1 in
            let y = (squeezed_at (at i) b.0 (i - 1) (omega arith) (omega arith) b.2 (back_not_less (i - 1) i (omega arith) wi)).1 in
            greater_second (nodes_of ps) (epoch_at top ps) (place + 1) m n is (place_name ps k) (g.most k h (subst (λ e. up_to (at (i - 1)) e ≡ true) b.3 y)))
            (λ q. greater_first (nodes_of ps) (epoch_at top ps) (place + 1) m n is (place_name ps k) (own_most (place_name ps k) q)) (placed_up k h u);
      }

  module _ {cmp : EpochName → EpochName → Ordering} {top : EpochName} {maxima : List ℕ} (i : ℕ) where
    -- written in its place
    pub first_next : i < length by_name → AreFirst cmp top ps by_name i maxima → (n : ℕ) → IsMaximum cmp top ps (at i) n → AreFirst cmp top ps by_name (i + 1) (set maxima (slice_index by_name i) n)
    first_next wi a n r = record {
      whole = length-set maxima put n ∙ a.whole;
      first = λ b h w.
          ⊎_elim (λ g. subst (IsMaximum cmp top ps (at b)) (sym (other b w (omega arith))) (a.first b g w))
          (λ g. let q : i ≡ b = omega arith in
          subst (λ (j : ℕ). IsMaximum cmp top ps (at j) (slice_index (set maxima put n) (slice_index by_name j))) q (subst (IsMaximum cmp top ps (at i)) (sym here) r)) (cases_lt b i);
    }
      where
        put : ℕ
        put = slice_index by_name i

        here : slice_index (set maxima put n) put ≡ n
        here = get_or-set_same maxima put n 0 (let h = at_place i wi in let w = a.whole in omega arith)

        other : (b : ℕ) → b < length by_name → (b ≡ i → ⊥) → slice_index (set maxima put n) (slice_index by_name b) ≡ slice_index maxima (slice_index by_name b)
        other b w h = get_or-set_other maxima put (slice_index by_name b) n 0 (λ e. h (names_distinct b i w wi e))

    pub first_all : AreFirst cmp top ps by_name i maxima → length by_name ≤ i → AreMaxima cmp top ps maxima
    first_all a l = record {
      whole = a.whole;
      each = λ k h. let b = index_at k h in let w = b.1 in subst (λ (j : ℕ). IsMaximum cmp top ps (place_name ps j) (slice_index maxima j)) b.2 (a.first b.0 (omega arith) b.1);
    }

  -- ---- one more node in order of names

  module _ {top : EpochName} {old : List ℕ} (l : AreLaid top ps) (x : IsAdded top ps old) (index : ℕ) (wi : index < length by_name) (here : suc (slice_index by_name index) ≡ length ps) (alone : (a : ℕ) → a < length by_name → up_to (at a) (at index) ≡ true → a ≡ index) where
    last_is : slice_index by_name index ≡ length x.older
    last_is = let c = nodes_length l x in omega arith

    none_up : (k : ℕ) → k < length x.older → up_to (place_name ps k) (place_name ps (length x.older)) ≡ true → ⊥
    none_up k h u =
        let c = nodes_length l x in
        let b = index_at k (omega arith) in
        let v = subst (λ j. up_to (at b.0) (place_name ps j) ≡ true) (sym last_is) (subst (λ j. up_to (place_name ps j) (place_name ps (length x.older)) ≡ true) (sym b.2) u) in
        let y = ap (slice_index by_name) (alone b.0 b.1 v) in
        let z = b.2 in
        let w = last_is in
        omega arith

    pub before_added : 0 < index → IsMaximum (epoch_cmp (nodes_of ps)) top ps (at (index - 1)) (slice_index old (slice_index by_name (index - 1)))
    before_added z =
        let k = slice_index by_name (index - 1) in
        let w = at_place (index - 1) (omega arith) in
        let c = nodes_length l x in
        let e = last_is in
        let h : k < length x.older = ⊎_elim (λ g. g) (λ g. let q = names_distinct (index - 1) index (omega arith) wi (omega arith) in absurd (omega arith)) (cases_lt k (length x.older)) in
        maximum_old l x none_up k h

    pub added_maxima : (n : ℕ) → IsMaximum (epoch_cmp (nodes_of ps)) top ps (at index) n → AreMaxima (epoch_cmp (nodes_of ps)) top ps (set old (slice_index by_name index) n)
    added_maxima n r =
        let k = slice_index by_name index in
        let c = nodes_length l x in
        let w = old_whole l x in
        let e = last_is in
        record {
          whole = length-set old k n ∙ w;
          each = λ j h.
              ⊎_elim (λ g. subst (IsMaximum (epoch_cmp (nodes_of ps)) top ps (place_name ps j)) (sym (get_or-set_other old k j n 0 (λ q. omega arith))) (maximum_old l x none_up j g))
              (λ g. let q : k ≡ j = omega arith in
              subst (λ (i : ℕ). IsMaximum (epoch_cmp (nodes_of ps)) top ps (place_name ps i) (slice_index (set old k n) i)) q (subst (IsMaximum (epoch_cmp (nodes_of ps)) top ps (at index)) (sym (get_or-set_same old k n 0 (omega arith))) r))
              (cases_lt j (length x.older));
        }
