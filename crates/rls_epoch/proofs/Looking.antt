-- The look for the greatest epoch within a vector, member by member.
use Rattle.std.proofs.Common.{◌≡◌, ℕ, zero, suc, ◌-◌, ◌<◌, ◌≤◌, true, List, length, refl, sym, ap, subst, inl, inr, ◌⊎◌, ⊎_elim, arith}
use Rattle.std.specs.Prelude.{slice_index, if◌then◌else◌}
use Rattle.std.specs.Ordering.{is_lt}
use Rattle.std.specs.declared.cmp.Ordering.TheVariants.{Less}
use Rattle.std.proofs.lemmas.Bool.{cases_lt}
use Rattle.std.proofs.lemmas.Option.{slice_get_within}
use Rattle.rls_ident.specs.declared.epoch_name.EpochName.{EpochName}
use Rattle.rls_ident.specs.declared.epoch_name.EpochName.TheVariants.{Origin, Of}
use Rattle.rls_ident.specs.EpochNames.{is_within, is_of_member, name_eq}
use Rattle.rls_ident.proofs.Members.{le_is, le_test, or_right, or_split}
use Rattle.rls_ident.proofs.Positions.{get_of}
use Rattle.rls_ident.proofs.Named.{name_eq_is}
use Rattle.rls_rename.specs.Tree.{epoch_cmp, greatest_within, has_node, is_kept}
use Rattle.rls_rename.proofs.Order.{within_is, IsAllowed}
use Rattle.rls_rename.proofs.Windows.{none_below}
use Rattle.rls_epoch.specs.declared.placed.Placed.{Placed}
use Rattle.rls_epoch.specs.Climbing.{name_cmp}
use Rattle.rls_epoch.specs.Links.{epoch_at}
use Rattle.rls_epoch.specs.Maxima.{last_counted, first_of, name_in, up_to, IsMaximum}
use Rattle.rls_epoch.specs.Seen.{nodes_of, AreLaid}
use Rattle.rls_epoch.specs.Sorted.{place_name, names_at, AreSorted, IsCut}
use Rattle.rls_epoch.proofs.Indices.{cut_after, cut_before}
use Rattle.rls_epoch.proofs.UpTo.{at_place, greater_either, greater_first, greater_second, index_at, less_first, less_parts, low_or_same, up_parts, up_test}
use Rattle.rls_epoch.proofs.Ordering.{names_order}
use Rattle.rls_epoch.proofs.Orders.{kept_place, place_kept}
use Rattle.rls_epoch.proofs.Reading.{name_read}
use Rattle.rls_epoch.proofs.Spreading.{number_kept}

-- ---- epochs within a vector

pub within_counted : (v : List ℕ) (e f : EpochName) → up_to (last_counted v e) f ≡ true → is_within f v ≡ true
within_counted v Origin f h = absurd (cc)
within_counted v (Of r s) Origin h = refl
within_counted v (Of r s) (Of q t) h =
    let a = up_parts r (slice_index v r) q t h in
    le_test t (slice_index v q) (subst (λ (m : ℕ). t ≤ slice_index v m) (sym a.0) a.1)

-- what isn't above an epoch is of its member, or before the first one of that
pub within_either : (v : List ℕ) (r s : ℕ) (f : EpochName) → is_within f v ≡ true → (name_cmp f (Of r s) ≡ Less) ⊎ (f ≡ Of r s) → (up_to (last_counted v (Of r s)) f ≡ true) ⊎ (name_cmp f (first_of (Of r s)) ≡ Less)
within_either v r s Origin h l = inr refl
within_either v r s (Of q t) h (inl l) =
    ⊎_elim (λ x. inr (less_first q t r 0 x))
    (λ x. let m = le_is t (slice_index v q) h in
    let e = x.0 in
    inl (up_test r (slice_index v r) q t e (subst (λ (m : ℕ). t ≤ slice_index v m) e m))) (less_parts q t r s l)
within_either v r s (Of q t) h (inr l) =
    let e = (up_parts r s q t (subst (λ f. up_to f (Of q t) ≡ true) l (up_test q t q t refl (omega arith)))).0 in
    let m = le_is t (slice_index v q) h in
    inl (up_test r (slice_index v r) q t e (subst (λ (m : ℕ). t ≤ slice_index v m) e m))

-- the first one of a member isn't above the others
first_not_above : (r s : ℕ) → name_cmp (Of r s) (first_of (Of r s)) ≡ Less → ⊥
first_not_above r s l = ⊎_elim (λ x. omega arith) (λ x. let y = x.1 in omega arith) (less_parts r s r 0 l)

-- ---- the look

-- what was found is within the vector, and no greater one is, but among the rest
pub record IsLooking (top : EpochName) (ps : List Placed) (by_name v : List ℕ) (rest n : ℕ) : Type 0 where
  pub in_range : rest ≤ length by_name
  pub within : n ≤ length ps
  pub held : 0 < n → is_within (epoch_at top ps n) v ≡ true
  pub most : (k : ℕ) → k < length ps → is_within (place_name ps k) v ≡ true → (epoch_cmp (nodes_of ps) (epoch_at top ps n) (place_name ps k) ≡ Less → ⊥) ⊎ ((a : ℕ) × (a < rest) × (name_in ps by_name a ≡ place_name ps k))

-- the last name of the rest
last_is : {ps : List Placed} {by_name : List ℕ} → AreSorted name_cmp ps by_name → (rest : ℕ) → 0 < rest → rest ≤ length by_name → (r : ℕ) × (t : ℕ) × (name_in ps by_name (rest - 1) ≡ Of r t)
last_is {ps = ps} {by_name = by_name} s rest z w =
    let k = slice_index by_name (rest - 1) in
    let g = get_of ps k (at_place s (rest - 1) (omega arith)) in
    ((g.0).renaming.replica, (g.0).renaming.seq, name_read ps k g.0 g.1)

module _ {top : EpochName} {ps : List Placed} {by_name : List ℕ} (v : List ℕ) (s : AreSorted name_cmp ps by_name) where
  pub looking_begins : IsLooking top ps by_name v (length by_name) 0
  looking_begins = record {
    in_range = omega arith;
    within = omega arith;
    held = λ h. absurd (omega arith);
    most = λ k h w. let b = index_at s k h in inr (b.0, b.1, ap (place_name ps) b.2);
  }

  module _ {rest n : ℕ} (k : IsLooking top ps by_name v rest n) (z : 0 < rest) {next : ℕ} (c : IsCut name_cmp (names_at ps by_name) (first_of (name_in ps by_name (rest - 1))) next) (wn : next ≤ length by_name) where
    abbrev last : EpochName
    last = name_in ps by_name (rest - 1)

    pub looking_fewer : next < rest
    looking_fewer =
        let w = k.in_range in
        let e = last_is s rest z w in
        ⊎_elim
        (λ h. let x = cut_before name_cmp names_order ps by_name s.rising (first_of last) next c (rest - 1) (omega arith) wn in
        absurd (first_not_above e.0 e.1 (subst (λ f. name_cmp f (first_of f) ≡ Less) e.2 x)))
        (λ h. let m : next < rest = omega arith in m) (cases_lt (rest - 1) next)

    pub looking_more : (found best : ℕ) → IsMaximum (epoch_cmp (nodes_of ps)) top ps (last_counted v last) found → best ≡ (if is_lt (epoch_cmp (nodes_of ps) (epoch_at top ps n) (epoch_at top ps found)) then found else n) → IsLooking top ps by_name v next best
    looking_more found best r is =
        let w = k.in_range in
        let either = greater_either (nodes_of ps) (epoch_at top ps) n found best is in
        record {
          in_range = wn;
          within = let x = k.within in let y = r.in_range in ⊎_elim (λ e. omega arith) (λ e. omega arith) either;
          held = λ h.
              ⊎_elim (λ e. subst (λ (m : ℕ). is_within (epoch_at top ps m) v ≡ true) (sym e) (k.held (omega arith)))
              (λ e. within_counted v last (epoch_at top ps best) (subst (λ (m : ℕ). up_to (last_counted v last) (epoch_at top ps m) ≡ true) (sym e) (r.held (omega arith)))) either;
          most = λ i h x.
              ⊎_elim (λ g. inl (greater_first (nodes_of ps) (epoch_at top ps) n found best is (place_name ps i) g))
              (λ b. let lb = b.1 in
              let e = last_is s rest z w in
              let low = subst (λ f. (name_cmp (name_in ps by_name b.0) f ≡ Less) ⊎ (name_in ps by_name b.0 ≡ f)) e.2 (low_or_same s b.0 (rest - 1) (omega arith) (omega arith)) in
              let inside = subst (λ f. is_within f v ≡ true) (sym b.2) x in
              ⊎_elim
              (λ u. inl (greater_second (nodes_of ps) (epoch_at top ps) n found best is (place_name ps i)
              (r.most i h (subst (λ f. up_to (last_counted v last) f ≡ true) b.2 (subst (λ f. up_to (last_counted v f) (name_in ps by_name b.0) ≡ true) (sym e.2) u)))))
              (λ u. inr (b.0, before b.0 (omega arith) (subst (λ f. name_cmp (name_in ps by_name b.0) (first_of f) ≡ Less) (sym e.2) u), b.2))
              (within_either v e.0 e.1 (name_in ps by_name b.0) inside low)) (k.most i h x);
        }
      where
        before : (b : ℕ) → b < length by_name → name_cmp (name_in ps by_name b) (first_of last) ≡ Less → b < next
        before b h x = ⊎_elim (λ g. g) (λ g. absurd (cut_after name_cmp names_order ps by_name s.rising (first_of last) next c b g h x)) (cases_lt b next)

-- where the look ends
module _ {top : EpochName} {ps : List Placed} (l : AreLaid top ps) {by_name v : List ℕ} {n : ℕ} (k : IsLooking top ps by_name v 0 n) where
  allowed : (m : ℕ) → (0 < m → is_within (epoch_at top ps m) v ≡ true) → IsAllowed top v (epoch_at top ps m)
  allowed zero h = inl refl
  allowed (suc m) h = inr (h (omega arith))

  pub looked_at : epoch_at top ps n ≡ greatest_within top (nodes_of ps) v
  looked_at =
      sym
      (within_is top (nodes_of ps) v l.nodes l.below (epoch_at top ps n) (number_kept top ps l n k.within) (allowed n k.held)
      (λ e q a c. let not : e ≡ top → ⊥ = λ t. none_below top (nodes_of ps) l.below (epoch_at top ps n) (subst (λ f. epoch_cmp (nodes_of ps) (epoch_at top ps n) f ≡ Less) t c) in
      ⊎_elim not
      (λ w. ⊎_elim (λ t. not (name_eq_is e top t))
      (λ t. let r = kept_place ps e t in
      let h = slice_get_within ps r.0 r.1 r.2 in
      ⊎_elim (λ g. g (subst (λ f. epoch_cmp (nodes_of ps) (epoch_at top ps n) f ≡ Less) (sym r.3) c)) (λ b. let y = b.1 in absurd (omega arith)) (k.most r.0 h (subst (λ f. is_within f v ≡ true) (sym r.3) w)))
      (or_split (name_eq e top) (has_node (nodes_of ps) e) q))
      a))

-- the member of a name at an index is one of those that the vector counts
pub member_at : (top : EpochName) {ps : List Placed} {by_name : List ℕ} (s : AreSorted name_cmp ps by_name) (n : ℕ) → ((e : EpochName) → is_kept top (nodes_of ps) e ≡ true → is_of_member n e ≡ true) → (a : ℕ) → a < length by_name → is_of_member n (name_in ps by_name a) ≡ true
member_at top {ps = ps} {by_name = by_name} s n m a h =
    let e = name_in ps by_name a in
    m e (or_right (name_eq e top) (has_node (nodes_of ps) e) (place_kept ps (slice_index by_name a) (at_place s a h)))
