-- The ways up from marked epochs, the latest first, until they meet.
use Rattle.std.proofs.Common.{◌≡◌, ℕ, zero, suc, ◌-◌, ◌<◌, ◌≤◌, true, false, List, [], ◌∷◌, ◌++◌, length, set, refl, sym, ap, ◌∙◌, subst, ⊎_elim, arith, length-append}
use Rattle.std.proofs.lemmas.Bool.{cases_lt}
use Rattle.std.proofs.Math.ListN.{length-set}
use Rattle.rls_ident.specs.declared.epoch_name.EpochName.{EpochName}
use Rattle.rls_ident.specs.EpochNames.{name_eq}
use Rattle.rls_ident.proofs.Members.{or_left, or_right, same_bool}
use Rattle.rls_ident.proofs.Positions.{get_of}
use Rattle.rls_ident.proofs.Named.{name_eq_refl}
use Rattle.rls_rename.specs.Renaming.{Renaming}
use Rattle.rls_rename.specs.Tree.{Node, has_node, is_kept, path, name_of}
use Rattle.rls_rename.specs.Connected.{top_path, is_spanned}
use Rattle.rls_rename.proofs.Hull.{IsFront, front_refl, front_trans, front_none, top_front, top_most, spanned_is, is_spanned_of, path_same, snoc_front}
use Rattle.rls_rename.proofs.SameNodes.{path_member, path_top}
use Rattle.rls_rename.proofs.Windows.{both_fronts}
use Rattle.rls_epoch.specs.declared.placed.Placed.{Placed}
use Rattle.rls_epoch.specs.Links.{epoch_at, up_at}
use Rattle.rls_epoch.specs.Marks.{has_mark, AreMarked, AreSpread}
use Rattle.rls_epoch.specs.Seen.{node_of, nodes_of, AreLaid}
use Rattle.rls_epoch.specs.Sorted.{place_name}
use Rattle.rls_epoch.proofs.Counting.{mark_kept, mark_set, set_from}
use Rattle.rls_epoch.proofs.Found.{up_earlier}
use Rattle.rls_epoch.proofs.Meeting.{at_is, places_apart}
use Rattle.rls_epoch.proofs.Orders.{place_kept}
use Rattle.rls_epoch.proofs.Reading.{name_read, up_read}
use Rattle.rls_epoch.proofs.Steps.{node_in}

-- ---- the state on the way up

abbrev pub number_path : EpochName → List Placed → ℕ → List Renaming
number_path top ps n = path (nodes_of ps) (epoch_at top ps n)

-- the marked epochs after those above the number m have gone up, where the old ones were marked at first
pub record IsSpreading (top : EpochName) (ps : List Placed) (old ms : List ℕ) (m : ℕ) : Type 0 where
  pub whole : length ms ≡ suc (length ps)
  pub in_range : m ≤ length ps
  pub kept : (j : ℕ) → has_mark old j ≡ true → has_mark ms j ≡ true
  pub below : (j : ℕ) → j ≤ length ps → has_mark ms j ≡ true → (g : ℕ) × (g ≤ length ps) × (has_mark old g ≡ true) × IsFront (number_path top ps j) (number_path top ps g)
  pub above : (j : ℕ) → j ≤ length ps → has_mark ms j ≡ true → (w : ℕ) × (w ≤ m) × (has_mark ms w ≡ true) × IsFront (number_path top ps w) (number_path top ps j)
  pub closed : (j : ℕ) → m < j → j ≤ length ps → has_mark ms j ≡ true → has_mark ms (up_at ps (j - 1)) ≡ true
  pub common : (p : List Renaming) → ((g : ℕ) → g ≤ length ps → has_mark old g ≡ true → IsFront p (number_path top ps g)) → (j : ℕ) → j ≤ length ps → has_mark ms j ≡ true → IsFront p (number_path top ps j)

-- ---- epochs by their numbers

module _ (top : EpochName) (ps : List Placed) (l : AreLaid top ps) where
  abbrev ns : List Node
  ns = nodes_of ps

  -- the path of a number
  abbrev P : ℕ → List Renaming
  P n = path ns (epoch_at top ps n)

  pub number_kept : (n : ℕ) → n ≤ length ps → is_kept top ns (epoch_at top ps n) ≡ true
  number_kept zero h = or_left (name_eq top top) (has_node ns top) (name_eq_refl top)
  number_kept (suc k) h = or_right (name_eq (place_name ps k) top) (has_node ns (place_name ps k)) (place_kept ps k (omega arith))

  -- the path of a parent
  pub path_up : (n : ℕ) → 0 < n → n ≤ length ps → (R : Renaming) × (P n ≡ P (up_at ps (n - 1)) ++ (R ∷ []))
  path_up n h w =
      let k = n - 1 in
      let r = get_of ps k (omega arith) in
      let p = r.0 in
      let e : n ≡ suc k = omega arith in
      let here : epoch_at top ps n ≡ name_of p.renaming = ap (epoch_at top ps) e ∙ name_read ps k p r.1 in
      let up : epoch_at top ps (up_at ps k) ≡ p.parent = ap (epoch_at top ps) (up_read ps k p r.1) ∙ at_is top ps p.up p.parent (l.links.parents k p r.1) in
      (p.renaming, ap (path ns) here ∙ (path_member top (node_of p) ns l.nodes l.below (node_in ps k p r.1) ∙ ap (λ z. path ns z ++ (p.renaming ∷ [])) (sym up)))

  path_first : P 0 ≡ []
  path_first = path_top top ns l.below

  -- two numbers with one path are one
  pub number_same : (a b : ℕ) → a ≤ length ps → b ≤ length ps → P a ≡ P b → a ≡ b
  number_same a b h g e = names a b h g (path_same top ns l.nodes l.below (epoch_at top ps a) (epoch_at top ps b) (number_kept a h) (number_kept b g) e)
    where
      longer : (k : ℕ) → suc k ≤ length ps → P (suc k) ≡ P 0 → ⊥
      longer k w q =
          let r = path_up (suc k) (omega arith) w in
          let x = ap length (sym r.1 ∙ (q ∙ path_first)) in
          let y = length-append (P (up_at ps (suc k - 1))) (r.0 ∷ []) in
          absurd (omega arith)

      names : (a b : ℕ) → a ≤ length ps → b ≤ length ps → epoch_at top ps a ≡ epoch_at top ps b → a ≡ b
      names zero zero h g q = refl
      names zero (suc k) h g q = absurd (longer k g (sym (ap (path ns) q)))
      names (suc j) zero h g q = absurd (longer j h (ap (path ns) q))
      names (suc j) (suc k) h g q =
          let r = get_of ps j (omega arith) in
          let s = get_of ps k (omega arith) in
          ⊎_elim (λ m. absurd (places_apart ps l.nodes j k r.0 s.0 r.1 s.1 (λ x. let y : j ≡ k = x in omega arith) (sym (name_read ps j r.0 r.1) ∙ (q ∙ name_read ps k s.0 s.1))))
          (λ m. ⊎_elim (λ t. absurd (places_apart ps l.nodes j k r.0 s.0 r.1 s.1 (λ x. let y : j ≡ k = x in omega arith) (sym (name_read ps j r.0 r.1) ∙ (q ∙ name_read ps k s.0 s.1))))
          (λ t. let x : suc j ≡ suc k = omega arith in x) (cases_lt k j)) (cases_lt j k)

  -- what lies above has a lesser number
  pub front_order : (k a b : ℕ) → a ≤ length ps → b ≤ length ps → b ≤ k → IsFront (P a) (P b) → a ≤ b
  front_order k a zero h g w f =
      let none = front_none (P a) (subst (IsFront (P a)) path_first f) in
      let e = number_same a 0 h (omega arith) (sym none ∙ sym path_first) in omega arith
  front_order zero a (suc b) h g w f = absurd (omega arith)
  front_order (suc k) a (suc b) h g w f =
      let r = path_up (suc b) (omega arith) g in
      let u = up_at ps (suc b - 1) in
      let e = up_earlier top ps l (suc b - 1) (omega arith) in
      ⊎_elim (λ q. let s = number_same a (suc b) h g (q ∙ sym r.1) in omega arith)
      (λ q. let s = front_order k a u h (omega arith) (omega arith) q in omega arith)
      (snoc_front (P a) (P u) r.0 (subst (IsFront (P a)) r.1 f))

  -- ---- the state on the way

  pub spreading_begins : (ms : List ℕ) → length ms ≡ suc (length ps) → IsSpreading top ps ms ms (length ps)
  spreading_begins ms h = record {
    whole = h;
    in_range = omega arith;
    kept = λ j q. q;
    below = λ j w q. (j, w, q, front_refl (P j));
    above = λ j w q. (j, w, q, front_refl (P j));
    closed = λ j g w q. absurd (omega arith);
    common = λ p f j w q. f j w q;
  }

  -- not the one itself, so before it
  before : {A : Type 0} (w m : ℕ) → w ≤ m → (w < m → A) → (w ≡ m → A) → A
  before w m h f g = ⊎_elim f (λ k. g (omega arith)) (cases_lt w m)

  -- the epoch at this number isn't marked
  pub spreading_skip : (old ms : List ℕ) (m : ℕ) → IsSpreading top ps old ms m → 0 < m → has_mark ms m ≡ false → IsSpreading top ps old ms (m - 1)
  spreading_skip old ms m s h q = record {
    whole = s.whole;
    in_range = let i = s.in_range in omega arith;
    kept = s.kept;
    below = s.below;
    above = λ j w p. let r = s.above j w p in before r.0 m r.1 (λ l. (r.0, omega arith, r.2, r.3)) (λ e. let x = sym (ap (has_mark ms) e) ∙ r.2 in absurd (cc));
    closed = λ j g w p. before m j (omega arith) (λ l. s.closed j l w p) (λ e. let x = ap (has_mark ms) e ∙ p in absurd (cc));
    common = s.common;
  }

  -- its parent is marked, and another one before it is
  pub spreading_up : (old ms : List ℕ) (m : ℕ) → IsSpreading top ps old ms m → 0 < m → has_mark ms m ≡ true → (o : ℕ) → o < m → has_mark ms o ≡ true → IsSpreading top ps old (set ms (up_at ps (m - 1)) 1) (m - 1)
  spreading_up old ms m s h q o ol om =
      let i = s.in_range in
      let n = s.whole in
      let u = up_at ps (m - 1) in
      let ul : u ≤ m - 1 = up_earlier top ps l (m - 1) (omega arith) in
      let r = path_up m h i in
      let front : IsFront (P u) (P m) = (r.0 ∷ [], r.1) in
      let here = mark_set ms u (omega arith) in
      record {
        whole = length-set ms u 1 ∙ n;
        in_range = omega arith;
        kept = λ j p. mark_kept ms u j (s.kept j p);
        below = λ j w p. ⊎_elim (λ e. let b = s.below m i q in (b.0, b.1, b.2, subst (λ (k : ℕ). IsFront (P k) (P b.0)) (sym e) (front_trans (P u) (P m) (P b.0) front b.3))) (λ t. s.below j w t) (set_from ms u j p);
        above = λ j w p. ⊎_elim (λ e. (u, ul, here, subst (λ (k : ℕ). IsFront (P u) (P k)) (sym e) (front_refl (P u))))
            (λ t. let a = s.above j w t in before a.0 m a.1 (λ g. (a.0, omega arith, mark_kept ms u a.0 a.2, a.3))
            (λ e. (u, ul, here, front_trans (P u) (P m) (P j) front (subst (λ (k : ℕ). IsFront (P k) (P j)) e a.3)))) (set_from ms u j p);
        closed = λ j g w p. ⊎_elim (λ e. absurd (omega arith)) (λ t. before m j (omega arith) (λ k. mark_kept ms u (up_at ps (j - 1)) (s.closed j k w t))
            (λ e. subst (λ (k : ℕ). has_mark (set ms u 1) (up_at ps (k - 1)) ≡ true) e here)) (set_from ms u j p);
        common = λ p f j w t. ⊎_elim (λ e. subst (λ (k : ℕ). IsFront p (P k)) (sym e) (parent p f)) (λ g. s.common p f j w g) (set_from ms u j t);
      }
    where
      parent : (p : List Renaming) → ((g : ℕ) → g ≤ length ps → has_mark old g ≡ true → IsFront p (P g)) → IsFront p (P (up_at ps (m - 1)))
      parent p f =
          let i = s.in_range in
          let r = path_up m h i in
          ⊎_elim
          (λ e. let x = s.common p f o (omega arith) om in
          let y = front_order (length ps) m o i (omega arith) (omega arith) (subst (λ z. IsFront z (P o)) (e ∙ sym r.1) x) in
          absurd (omega arith))
          (λ g. g)
          (snoc_front p (P (up_at ps (m - 1))) r.0 (subst (IsFront p) r.1 (s.common p f m i q)))

  -- where a single one is left
  module _ (old ms : List ℕ) (m t : ℕ) (s : IsSpreading top ps old ms m) (tm : t ≤ m) (tk : has_mark ms t ≡ true) (one : (w : ℕ) → w ≤ m → has_mark ms w ≡ true → w ≡ t) (e : EpochName) (es : List EpochName) (a : AreMarked top ps old e es) where
    below_top : (j : ℕ) → j ≤ length ps → has_mark ms j ≡ true → IsFront (P t) (P j)
    below_top j w q = let r = s.above j w q in subst (λ (k : ℕ). IsFront (P k) (P j)) (one r.0 r.1 r.2) r.3

    top_of : P t ≡ top_path ns e es
    top_of =
        let i = s.in_range in
        both_fronts (P t) (top_path ns e es)
        (top_most ns e es (P t) (λ f p. let r = a.onto f p in subst (λ z. IsFront (P t) (path ns z)) r.2 (below_top r.0 r.1 (s.kept r.0 r.3))))
        (s.common (top_path ns e es) (λ g w q. top_front ns l.nodes e es (epoch_at top ps g) (a.into g w q)) t (omega arith) tk)

    -- what lies between the topmost and a marked one is marked
    climbed : (k c j : ℕ) → c ≤ length ps → c ≤ k → j ≤ length ps → has_mark ms c ≡ true → IsFront (P j) (P c) → IsFront (P t) (P j) → has_mark ms j ≡ true
    climbed k zero j h g w q f u =
        let none = front_none (P j) (subst (IsFront (P j)) path_first f) in
        let x = number_same j 0 w h (sym none ∙ sym path_first) in
        subst (λ (n : ℕ). has_mark ms n ≡ true) (sym x) q
    climbed zero (suc c) j h g w q f u = absurd (omega arith)
    climbed (suc k) (suc c) j h g w q f u =
        let r = path_up (suc c) (omega arith) h in
        let v = up_at ps (suc c - 1) in
        let b = up_earlier top ps l (suc c - 1) (omega arith) in
        ⊎_elim (λ x. let y = number_same j (suc c) w h (x ∙ sym r.1) in subst (λ (n : ℕ). has_mark ms n ≡ true) (sym y) q)
        (λ x. ⊎_elim (λ y. climbed k v j (omega arith) (omega arith) w (s.closed (suc c) y h q) x u)
        (λ y. let z = one (suc c) y q in
        let i = s.in_range in
        let n = number_same t j (omega arith) w (both_fronts (P t) (P j) u (subst (λ (n : ℕ). IsFront (P j) (P n)) z f)) in
        subst (λ (n : ℕ). has_mark ms n ≡ true) n tk) (cases_lt m (suc c)))
        (snoc_front (P j) (P v) r.0 (subst (IsFront (P j)) r.1 f))

    pub spread_is : AreSpread top ps ms t e es
    spread_is = record {
      top_is = top_of;
      spanned = λ j w. same_bool (has_mark ms j) (is_spanned ns e es (epoch_at top ps j))
          (λ q. let b = s.below j w q in
          is_spanned_of ns e es (epoch_at top ps j) (subst (λ p. IsFront p (P j)) top_of (below_top j w q), (epoch_at top ps b.0, a.into b.0 b.1 b.2, b.3)))
          (λ q. let r = spanned_is ns l.nodes e es (epoch_at top ps j) q in
          let g = a.onto (r.1).0 (r.1).1 in
          climbed (length ps) g.0 j g.1 g.1 w (s.kept g.0 g.3) (subst (λ z. IsFront (P j) (path ns z)) (sym g.2) (r.1).2) (subst (λ p. IsFront p (P j)) (sym top_of) r.0));
    }
