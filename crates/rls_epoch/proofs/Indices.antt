-- Places in increasing order, by their indices.
use Rattle.std.proofs.Common.{◌≡◌, ℕ, zero, suc, ◌-◌, ◌<◌, ◌≤◌, List, [], ◌∷◌, length, Some, sym, ap, ◌∙◌, subst, inl, inr, ⊎_elim, arith}
use Rattle.std.specs.Prelude.{slice_get, slice_index}
use Rattle.std.specs.Option.{option_map}
use Rattle.std.specs.declared.cmp.Ordering.TheVariants.{Less}
use Rattle.std.proofs.lemmas.Bool.{cases_lt}
use Rattle.std.proofs.lemmas.Option.{slice_get-get_or, slice_get-map}
use Rattle.rls_ident.specs.declared.epoch_name.EpochName.{EpochName}
use Rattle.rls_ident.specs.Lists.{IsIn}
use Rattle.rls_ident.proofs.Members.{in_map, map_in}
use Rattle.rls_epoch.specs.declared.placed.Placed.{Placed}
use Rattle.rls_epoch.specs.Maxima.{name_in, AreDistinct}
use Rattle.rls_epoch.specs.Sorted.{place_name, names_at, AreRising, IsCut}
use Rattle.rls_epoch.proofs.Found.{read_in}
use Rattle.rls_epoch.proofs.Sorting.{Cmp, IsOrder, before_at}

pub got_name : (ps : List Placed) (places : List ℕ) (i : ℕ) → i < length places → slice_get (names_at ps places) i ≡ Some (name_in ps places i)
got_name ps places i h = slice_get-map (place_name ps) places i ∙ ap (option_map (place_name ps)) (slice_get-get_or places i 0 h)

pub name_is_in : (ps : List Placed) (places : List ℕ) (i : ℕ) → i < length places → IsIn (name_in ps places i) (names_at ps places)
name_is_in ps places i h = map_in (place_name ps) (slice_index places i) places (read_in places i h)

pub index_of : (k : ℕ) (places : List ℕ) → IsIn k places → (i : ℕ) × (i < length places) × (slice_index places i ≡ k)
index_of k [] p = absurd p
index_of k (j ∷ places) (inl e) = (0, omega arith, e)
index_of k (j ∷ places) (inr p) = let r = index_of k places p in let h = r.1 in (suc r.0, omega arith, r.2)

pub name_index : (ps : List Placed) (places : List ℕ) (e : EpochName) → IsIn e (names_at ps places) → (i : ℕ) × (i < length places) × (name_in ps places i ≡ e)
name_index ps places e p =
    let r = in_map (place_name ps) e places p in
    let i = index_of r.0 places r.1 in
    (i.0, i.1, ap (place_name ps) i.2 ∙ r.2)

pub rising_at : (cmp : Cmp) (ps : List Placed) (places : List ℕ) → AreRising cmp (names_at ps places) → (a b : ℕ) → a < b → b < length places → cmp (name_in ps places a) (name_in ps places b) ≡ Less
rising_at cmp ps [] r a b h w = absurd (omega arith)
rising_at cmp ps (k ∷ places) r a zero h w = absurd (omega arith)
rising_at cmp ps (k ∷ places) r zero (suc b) h w = before_at cmp (place_name ps k) (name_in ps places b) (names_at ps places) r.0 (name_is_in ps places b (omega arith))
rising_at cmp ps (k ∷ places) r (suc a) (suc b) h w = rising_at cmp ps places r.1 a b (omega arith) (omega arith)

module _ (cmp : Cmp) (o : IsOrder cmp) (ps : List Placed) (places : List ℕ) (r : AreRising cmp (names_at ps places)) where
  pub never_itself : (e : EpochName) → cmp e e ≡ Less → ⊥
  never_itself e l = o.flips e e l l

  pub rising_distinct : AreDistinct places
  rising_distinct a b x y e = ⊎_elim (λ h. absurd (apart a b h y e)) (λ h. ⊎_elim (λ g. absurd (apart b a g x (sym e))) (λ g. let q : a ≡ b = omega arith in q) (cases_lt b a)) (cases_lt a b)
    where
      apart : (i j : ℕ) → i < j → j < length places → slice_index places i ≡ slice_index places j → ⊥
      apart i j h w q = never_itself (name_in ps places j) (subst (λ (k : ℕ). cmp (place_name ps k) (name_in ps places j) ≡ Less) q (rising_at cmp ps places r i j h w))

  -- where a name is cut
  module _ (e : EpochName) (i : ℕ) (c : IsCut cmp (names_at ps places) e i) where
    pub cut_before : (a : ℕ) → a < i → i ≤ length places → cmp (name_in ps places a) e ≡ Less
    cut_before a h w =
        let n : i - 1 < length places = omega arith in
        let b = c.below (name_in ps places (i - 1)) (omega arith) (got_name ps places (i - 1) n) in
        ⊎_elim (λ g. o.trans (name_in ps places a) (name_in ps places (i - 1)) e (rising_at cmp ps places r a (i - 1) g n) b)
        (λ g. let q : i - 1 ≡ a = omega arith in subst (λ (j : ℕ). cmp (name_in ps places j) e ≡ Less) q b) (cases_lt a (i - 1))

    pub cut_after : (a : ℕ) → i ≤ a → a < length places → cmp (name_in ps places a) e ≡ Less → ⊥
    cut_after a h w l =
        let n : i < length places = omega arith in
        let b = c.above (name_in ps places i) (got_name ps places i n) in
        ⊎_elim (λ g. b (o.trans (name_in ps places i) (name_in ps places a) e (rising_at cmp ps places r i a g w) l))
        (λ g. let q : a ≡ i = omega arith in b (subst (λ (j : ℕ). cmp (name_in ps places j) e ≡ Less) q l)) (cases_lt i a)
