-- The epochs that are needed: those that are marked, and each that is at least the greatest one within a vector.
use Rattle.std.proofs.Common.{◌≡◌, ℕ, zero, suc, ◌+◌, ◌<◌, ◌≤◌, Bool, true, false, List, [], ◌∷◌, ◌++◌, length, set, refl, sym, ap, ◌∙◌, subst, inl, inr, ◌⊎◌, ⊎_elim, arith, append_assoc}
use Rattle.std.specs.Prelude.{not}
use Rattle.std.specs.declared.cmp.Ordering.{Ordering}
use Rattle.std.specs.declared.cmp.Ordering.TheVariants.{Less}
use Rattle.std.specs.Ordering.{is_lt}
use Rattle.std.proofs.lemmas.List.{map-append, take_all}
use Rattle.std.proofs.lemmas.Option.{slice_get_within}
use Rattle.rls_ident.specs.declared.epoch_name.EpochName.{EpochName}
use Rattle.rls_ident.specs.EpochNames.{is_within, name_eq}
use Rattle.rls_ident.specs.Lists.{IsIn}
use Rattle.rls_ident.proofs.Members.{filter_in, in_filter, in_left, in_right, in_split, less_is, map_in, not_true, or_right, or_split}
use Rattle.rls_ident.proofs.Named.{name_eq_is}
use Rattle.rls_rename.specs.Tree.{Node, has_node, path, is_kept, names, epoch_cmp, greatest, greatest_within}
use Rattle.rls_rename.specs.Keeping.{reached}
use Rattle.rls_rename.proofs.Hull.{in_kept, kept_in}
use Rattle.rls_rename.proofs.Kept.{greatest_kept, greatest_within_kept}
use Rattle.rls_rename.proofs.Order.{less_flips, less_self}
use Rattle.rls_rename.proofs.SameNodes.{greatest_top}
use Rattle.rls_rename.proofs.Windows.{none_below}
use Rattle.rls_epoch.specs.declared.placed.Placed.{Placed}
use Rattle.rls_epoch.specs.Links.{epoch_at}
use Rattle.rls_epoch.specs.Marks.{has_mark, mark_count, AreMarked, AreNamed, AreReached}
use Rattle.rls_epoch.specs.Seen.{nodes_of, AreLaid}
use Rattle.rls_epoch.specs.Sorted.{place_name, names_at, AreRising, AreSorted}
use Rattle.rls_epoch.proofs.Added.{epoch_after}
use Rattle.rls_epoch.proofs.Counting.{mark_kept, mark_set, some_count, set_from}
use Rattle.rls_epoch.proofs.Orders.{kept_place, place_kept, within_at, within_none}
use Rattle.rls_epoch.proofs.Sorting.{all_in, before_at, rising_across, rising_right}
use Rattle.rls_epoch.proofs.Spreading.{number_kept, number_same}

-- the number of a kept epoch
pub number_of_kept : (top : EpochName) (ps : List Placed) (e : EpochName) → is_kept top (nodes_of ps) e ≡ true → (n : ℕ) × (n ≤ length ps) × (epoch_at top ps n ≡ e)
number_of_kept top ps e k =
    ⊎_elim (λ q. (0, omega arith, sym (name_eq_is e top q)))
    (λ q. let r = kept_place ps e q in let l = slice_get_within ps r.0 r.1 r.2 in (suc r.0, omega arith, r.3)) (or_split (name_eq e top) (has_node (nodes_of ps) e) k)

not_less : (ns : List Node) (e m : EpochName) → (epoch_cmp ns e m ≡ Less → ⊥) → not (is_lt (epoch_cmp ns e m)) ≡ true
not_less ns e m h = ap not (not_true (is_lt (epoch_cmp ns e m)) (λ q. h (less_is (epoch_cmp ns e m) q)))

less_not : (ns : List Node) (e m : EpochName) → not (is_lt (epoch_cmp ns e m)) ≡ true → epoch_cmp ns e m ≡ Less → ⊥
less_not ns e m h q = let x = ap (λ o. not (is_lt o)) q in absurd (cc)

-- where these were marked
pub needed_marked : (top : EpochName) (ps : List Placed) → AreLaid top ps → (v : List ℕ) (old new : List ℕ) → AreReached top ps old new (greatest_within top (nodes_of ps) v) → (es : List EpochName) → AreNamed top ps old es →
    AreMarked top ps new (greatest top (nodes_of ps)) (reached (record { top = top; nodes = nodes_of ps }) v ++ es)
needed_marked top ps l v old new r es a = record {
  into = λ n h q. inr
      (⊎_elim (λ p. in_right (epoch_at top ps n) R es (a.into n h p))
      (λ p. in_left (epoch_at top ps n) R es (filter_in test (epoch_at top ps n) (top ∷ names N) (kept_in top N (epoch_at top ps n) (number_kept top ps l n h)) (not_less N (epoch_at top ps n) m p)))
      (r.from n h q));
  onto = λ f p. ⊎_elim (λ e. first f e) (λ q. ⊎_elim (λ g. other f g) (λ g. let x = a.onto f g in (x.0, x.1, x.2, r.kept x.0 x.3)) (in_split f R es q)) p;
}
  where
    N : List Node
    N = nodes_of ps

    m : EpochName
    m = greatest_within top N v

    test : EpochName → Bool
    test e = not (is_lt (epoch_cmp N e m))

    R : List EpochName
    R = reached (record { top = top; nodes = N }) v

    at_least : (f : EpochName) → is_kept top N f ≡ true → (epoch_cmp N f m ≡ Less → ⊥) → (n : ℕ) × (n ≤ length ps) × (epoch_at top ps n ≡ f) × (has_mark new n ≡ true)
    at_least f k h = let x = number_of_kept top ps f k in (x.0, x.1, x.2, r.onto x.0 x.1 (λ q. h (ap (λ z. epoch_cmp N z m) (sym x.2) ∙ q)))

    first : (f : EpochName) → greatest top N ≡ f → (n : ℕ) × (n ≤ length ps) × (epoch_at top ps n ≡ f) × (has_mark new n ≡ true)
    first f e = at_least f (ap (is_kept top N) (sym e) ∙ greatest_kept top N) (λ q. greatest_top top N m (greatest_within_kept top N v) (ap (λ z. epoch_cmp N z m) e ∙ q))

    other : (f : EpochName) → IsIn f R → (n : ℕ) × (n ≤ length ps) × (epoch_at top ps n ≡ f) × (has_mark new n ≡ true)
    other f p = let x = in_filter test f (top ∷ names N) p in at_least f (in_kept top N f x.0) (less_not N f m x.1)

-- some epoch is marked
pub reached_some : (top : EpochName) (ps : List Placed) (v : List ℕ) (old new : List ℕ) → AreReached top ps old new (greatest_within top (nodes_of ps) v) → length new ≡ suc (length ps) → 0 < mark_count new
reached_some top ps v old new r w =
    let N = nodes_of ps in
    let m = greatest_within top N v in
    let x = number_of_kept top ps m (greatest_within_kept top N v) in
    let k = r.onto x.0 x.1 (λ q. less_self N m (ap (λ z. epoch_cmp N z m) (sym x.2) ∙ q)) in
    let c = some_count new (length new) x.0 (let y = x.1 in omega arith) (let y = x.1 in omega arith) k in
    subst (λ (xs : List ℕ). 0 < mark_count xs) (take_all (length new) new (omega arith)) c

-- ---- from the greatest one down

-- no node has the topmost epoch's name
pub places_not_top : (top : EpochName) (ps : List Placed) → AreLaid top ps → (k : ℕ) → k < length ps → place_name ps k ≡ top → ⊥
places_not_top top ps l k h e =
    let x = number_same top ps l (suc k) 0 (omega arith) (omega arith) (ap (path (nodes_of ps)) e) in omega arith

-- beside those that were marked, those at the places that were passed are
pub record ArePassed (old ms : List ℕ) (later : List ℕ) : Type 0 where
  pub kept : (n : ℕ) → has_mark old n ≡ true → has_mark ms n ≡ true
  pub from : (n : ℕ) → has_mark ms n ≡ true → (has_mark old n ≡ true) ⊎ ((k : ℕ) × (n ≡ suc k) × IsIn k later)
  pub onto : (k : ℕ) → IsIn k later → has_mark ms (suc k) ≡ true

pub passed_more : (old ms : List ℕ) (k : ℕ) (later : List ℕ) → suc k < length ms → ArePassed old ms later → ArePassed old (set ms (suc k) 1) (k ∷ later)
passed_more old ms k later h a = record {
  kept = λ n q. mark_kept ms (suc k) n (a.kept n q);
  from = λ n q. ⊎_elim (λ e. inr (k, e, inl refl)) (λ g. ⊎_elim (λ x. inl x) (λ x. inr (x.0, x.1, inr x.2)) (a.from n g)) (set_from ms (suc k) n q);
  onto = λ j p. ⊎_elim (λ e. subst (λ (i : ℕ). has_mark (set ms (suc k) 1) (suc i) ≡ true) e (mark_set ms (suc k) h)) (λ g. mark_kept ms (suc k) (suc j) (a.onto j g)) p;
}

-- the same, of a place that is marked by its number
pub passed_set : {old ms : List ℕ} (new : List ℕ) (k : ℕ) {later : List ℕ} → new ≡ set ms (k + 1) 1 → k + 1 < length ms → ArePassed old ms later → ArePassed old new (k ∷ later)
passed_set {old = old} {ms = ms} new k {later = later} e h a =
    let next : suc k ≡ k + 1 = omega arith in
    subst (λ (xs : List ℕ). ArePassed old xs (k ∷ later)) (ap (λ (j : ℕ). set ms j 1) next ∙ sym e) (passed_more old ms k later (omega arith) a)

-- the last place that is left, and the places before it
pub last_left : {cmp : EpochName → EpochName → Ordering} {ps : List Placed} {places : List ℕ} → AreSorted cmp ps places → (rest lesser : List ℕ) (k : ℕ) (later : List ℕ) → places ≡ rest ++ later → rest ≡ lesser ++ (k ∷ []) → (places ≡ lesser ++ (k ∷ later)) × (k < length ps)
last_left s rest lesser k later e q =
    let whole = e ∙ (ap (λ (xs : List ℕ). xs ++ later) q ∙ append_assoc lesser (k ∷ []) later) in
    (whole, s.within k (subst (λ (xs : List ℕ). IsIn k xs) (sym whole) (in_right k lesser (k ∷ later) (inl refl))))

module _ (top : EpochName) (ps : List Placed) (l : AreLaid top ps) (order : List ℕ) (s : AreSorted (epoch_cmp (nodes_of ps)) ps order) (v old ms : List ℕ) where
  -- the greatest one within the vector was reached
  pub reached_at : (lesser : List ℕ) (k : ℕ) (later : List ℕ) → order ≡ lesser ++ (k ∷ later) → is_within (place_name ps k) v ≡ true → ((e : EpochName) → IsIn e (names_at ps later) → is_within e v ≡ false) → ArePassed old ms (k ∷ later) →
      AreReached top ps old ms (greatest_within top (nodes_of ps) v)
  reached_at lesser k later h w n a =
      subst (λ (e : EpochName). AreReached top ps old ms e) (within_at l s v lesser k later h w n) record {
        kept = a.kept;
        from = λ i g q. ⊎_elim (λ x. inl x) (λ x. inr (λ t. above x.0 x.2 (ap (λ (j : ℕ). epoch_cmp N (epoch_at top ps j) m) (sym x.1) ∙ t))) (a.from i q);
        onto = λ i g q. least i g q;
      }
    where
      N : List Node
      N = nodes_of ps

      m : EpochName
      m = place_name ps k

      split : names_at ps order ≡ names_at ps lesser ++ (m ∷ names_at ps later)
      split = ap (names_at ps) h ∙ map-append (place_name ps) lesser (k ∷ later)

      rising : AreRising (epoch_cmp N) (names_at ps lesser ++ (m ∷ names_at ps later))
      rising = subst (AreRising (epoch_cmp N)) split s.rising

      above : (j : ℕ) → IsIn j (k ∷ later) → epoch_cmp N (place_name ps j) m ≡ Less → ⊥
      above j (inl e) t = less_self N m (ap (λ (i : ℕ). epoch_cmp N (place_name ps i) m) e ∙ t)
      above j (inr p) t =
          less_flips N m (place_name ps j) (before_at (epoch_cmp N) m (place_name ps j) (names_at ps later) (rising_right (epoch_cmp N) (names_at ps lesser) (m ∷ names_at ps later) rising).0 (map_in (place_name ps) j later p)) t

      least : (i : ℕ) → i ≤ length ps → (epoch_cmp N (epoch_at top ps i) m ≡ Less → ⊥) → has_mark ms i ≡ true
      least zero g q =
          let there = subst (λ xs. IsIn k xs) (sym h) (in_right k lesser (k ∷ later) (inl refl)) in
          let kept = or_right (name_eq m top) (has_node N m) (place_kept ps k (s.within k there)) in
          absurd (q (epoch_after top N l.nodes l.below m top kept (number_kept top ps l 0 g) (λ e. places_not_top top ps l k (s.within k there) e) (none_below top N l.below m)))
      least (suc j) g q =
          ⊎_elim (λ p. absurd (q (rising_across (epoch_cmp N) (names_at ps lesser) (m ∷ names_at ps later) rising (place_name ps j) m (map_in (place_name ps) j lesser p) (inl refl)))) (λ p. a.onto j p)
          (in_split j lesser (k ∷ later) (subst (λ xs. IsIn j xs) h (all_in s j (omega arith))))

  -- none was within the vector
  pub reached_all : ((e : EpochName) → IsIn e (names_at ps order) → is_within e v ≡ false) → ArePassed old ms order → 0 < length ms → AreReached top ps old (set ms 0 1) (greatest_within top (nodes_of ps) v)
  reached_all n a w =
      subst (λ (e : EpochName). AreReached top ps old (set ms 0 1) e) (within_none l s v n) record {
        kept = λ i q. mark_kept ms 0 i (a.kept i q);
        from = λ i g q. inr (none_below top (nodes_of ps) l.below (epoch_at top ps i));
        onto = λ i g q. every i g;
      }
    where
      every : (i : ℕ) → i ≤ length ps → has_mark (set ms 0 1) i ≡ true
      every zero g = mark_set ms 0 w
      every (suc j) g = mark_kept ms 0 (suc j) (a.onto j (all_in s j (omega arith)))
