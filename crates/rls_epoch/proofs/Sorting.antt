-- Strictly increasing lists of epochs, where one stands in them, and one more in its place.
use Rattle.std.proofs.Common.{◌≡◌, ℕ, zero, suc, ◌+◌, ◌-◌, ◌<◌, ◌≤◌, List, [], ◌∷◌, ◌++◌, map, length, take, drop, Some, refl, sym, ap, ◌∙◌, subst, inl, inr, ◌⊎◌, ⊎_elim, arith}
use Rattle.std.specs.Prelude.{slice_get, insert}
use Rattle.std.specs.declared.cmp.Ordering.{Ordering}
use Rattle.std.specs.declared.cmp.Ordering.TheVariants.{Less}
use Rattle.std.specs.List.{take-map, drop-map}
use Rattle.std.specs.Option.{option_map}
use Rattle.std.proofs.lemmas.Bool.{cases_lt}
use Rattle.std.proofs.lemmas.List.{map-append, take-append-drop}
use Rattle.std.proofs.lemmas.Option.{slice_get-map}
use Rattle.std.proofs.Math.ListN.{drop_of_length-le}
use Rattle.std.proofs.Math.Logic.{∥∥₁_elim}
use Rattle.rls_ident.specs.declared.epoch_name.EpochName.{EpochName}
use Rattle.rls_ident.specs.Lists.{IsIn}
use Rattle.rls_ident.proofs.Members.{in_left, in_right, in_split, some_is}
use Rattle.rls_ident.proofs.Positions.{get_of}
use Rattle.rls_epoch.specs.declared.placed.Placed.{Placed}
use Rattle.rls_epoch.specs.Sorted.{place_name, names_at, IsBefore, AreRising, AreSorted, IsCut}

abbrev pub Cmp : Type 0
Cmp = EpochName → EpochName → Ordering

-- less than what is less, and not both ways
pub record IsOrder (cmp : Cmp) : Type 0 where
  pub trans : (e f g : EpochName) → cmp e f ≡ Less → cmp f g ≡ Less → cmp e g ≡ Less
  pub flips : (e f : EpochName) → cmp e f ≡ Less → cmp f e ≡ Less → ⊥

-- ---- places of all nodes

is_in_or_not : (k : ℕ) (xs : List ℕ) → IsIn k xs ⊎ (IsIn k xs → ⊥)
is_in_or_not k [] = inr (λ p. p)
is_in_or_not k (j ∷ xs) =
    ⊎_elim (λ p. inl (inr p))
    (λ n. ⊎_elim (λ l. inr (λ p. ⊎_elim (λ e. absurd (omega arith)) n p)) (λ g. ⊎_elim (λ l. inr (λ p. ⊎_elim (λ e. absurd (omega arith)) n p)) (λ l. inl (inl (omega arith))) (cases_lt k j)) (cases_lt j k)) (is_in_or_not k xs)

pub all_in : {cmp : Cmp} {ps : List Placed} {places : List ℕ} → AreSorted cmp ps places → (k : ℕ) → k < length ps → IsIn k places
all_in {places = places} s k h = ⊎_elim (λ p. p) (λ n. absurd (∥∥₁_elim (s.complete k h) (λ x y. absurd x) n)) (is_in_or_not k places)

-- ---- increasing lists

pub before_at : (cmp : Cmp) (e f : EpochName) (fs : List EpochName) → IsBefore cmp e fs → IsIn f fs → cmp e f ≡ Less
before_at cmp e f [] b p = absurd p
before_at cmp e f (g ∷ fs) b (inl q) = ap (cmp e) (sym q) ∙ b.0
before_at cmp e f (g ∷ fs) b (inr p) = before_at cmp e f fs b.1 p

pub before_all : (cmp : Cmp) (e : EpochName) (fs : List EpochName) → ((f : EpochName) → IsIn f fs → cmp e f ≡ Less) → IsBefore cmp e fs
before_all cmp e [] h = tt
before_all cmp e (f ∷ fs) h = (h f (inl refl), before_all cmp e fs (λ g p. h g (inr p)))

pub rising_left : (cmp : Cmp) (xs ys : List EpochName) → AreRising cmp (xs ++ ys) → AreRising cmp xs
rising_left cmp [] ys r = tt
rising_left cmp (x ∷ xs) ys r = (before_all cmp x xs (λ f p. before_at cmp x f (xs ++ ys) r.0 (in_left f xs ys p)), rising_left cmp xs ys r.1)

pub rising_right : (cmp : Cmp) (xs ys : List EpochName) → AreRising cmp (xs ++ ys) → AreRising cmp ys
rising_right cmp [] ys r = r
rising_right cmp (x ∷ xs) ys r = rising_right cmp xs ys r.1

pub rising_across : (cmp : Cmp) (xs ys : List EpochName) → AreRising cmp (xs ++ ys) → (x y : EpochName) → IsIn x xs → IsIn y ys → cmp x y ≡ Less
rising_across cmp [] ys r x y p q = absurd p
rising_across cmp (z ∷ xs) ys r x y (inl e) q = ap (λ w. cmp w y) (sym e) ∙ before_at cmp z y (xs ++ ys) r.0 (in_right y xs ys q)
rising_across cmp (z ∷ xs) ys r x y (inr p) q = rising_across cmp xs ys r.1 x y p q

pub rising_join : (cmp : Cmp) (xs ys : List EpochName) → AreRising cmp xs → AreRising cmp ys → ((x y : EpochName) → IsIn x xs → IsIn y ys → cmp x y ≡ Less) → AreRising cmp (xs ++ ys)
rising_join cmp [] ys r s h = s
rising_join cmp (x ∷ xs) ys r s h = (
  before_all cmp x (xs ++ ys) (λ f p. ⊎_elim (λ q. before_at cmp x f xs r.0 q) (λ q. h x f (inl refl) q) (in_split f xs ys p)),
  rising_join cmp xs ys r.1 s (λ y z p q. h y z (inr p) q),
)

-- by an order that agrees
pub rising_same : (cmp other : Cmp) (es : List EpochName) → ((e f : EpochName) → IsIn e es → IsIn f es → cmp e f ≡ other e f) → AreRising cmp es → AreRising other es
rising_same cmp other [] h r = tt
rising_same cmp other (e ∷ es) h r = (
  before_all other e es (λ f p. sym (h e f (inl refl) (inr p)) ∙ before_at cmp e f es r.0 p),
  rising_same cmp other es (λ f g p q. h f g (inr p) (inr q)) r.1,
)

-- ---- where an epoch stands

pub nothing : {A : Type 0} (xs : List A) → length xs < 1 → xs ≡ []
nothing [] h = refl
nothing (x ∷ xs) h = absurd (omega arith)

pub get_split : {A : Type 0} (xs : List A) (k : ℕ) (x : A) → slice_get xs k ≡ Some x → xs ≡ take k xs ++ (x ∷ drop (suc k) xs)
get_split [] k x h = absurd (cc)
get_split {A} (y ∷ xs) zero x h = ap (λ z. z ∷ xs) (some_is y x h)
get_split (y ∷ xs) (suc k) x h = ap (λ zs. y ∷ zs) (get_split xs k x h)

pub drop_get : {A : Type 0} (xs : List A) (k : ℕ) (x : A) → slice_get xs k ≡ Some x → drop k xs ≡ x ∷ drop (suc k) xs
drop_get [] k x h = absurd (cc)
drop_get {A} (y ∷ xs) zero x h = ap (λ z. z ∷ xs) (some_is y x h)
drop_get (y ∷ xs) (suc k) x h = drop_get xs k x h

pub take_get : {A : Type 0} (xs : List A) (k : ℕ) (x : A) → slice_get xs k ≡ Some x → take (suc k) xs ≡ take k xs ++ x ∷ []
take_get [] k x h = absurd (cc)
take_get {A} (y ∷ xs) zero x h = ap (λ z. z ∷ []) (some_is y x h)
take_get (y ∷ xs) (suc k) x h = ap (λ zs. y ∷ zs) (take_get xs k x h)

module _ (cmp : Cmp) (o : IsOrder cmp) (es : List EpochName) (r : AreRising cmp es) (e : EpochName) (i : ℕ) (c : IsCut cmp es e i) where
  pub cut_below : (f : EpochName) → IsIn f (take i es) → cmp f e ≡ Less
  cut_below f p = go i refl p
    where
      go : (j : ℕ) → i ≡ j → IsIn f (take j es) → cmp f e ≡ Less
      go zero h q = absurd q
      go (suc j) h q =
          let l : j < length es = let m = c.in_range in omega arith in
          let x = get_of es j l in
          let s : slice_get es (i - 1) ≡ Some x.0 = ap (slice_get es) (let n : i - 1 ≡ j = omega arith in n) ∙ x.1 in
          let b = c.below x.0 (omega arith) s in
          ⊎_elim (λ m. o.trans f x.0 e (rising_across cmp (take j es) (x.0 ∷ drop (suc j) es) (subst (AreRising cmp) (get_split es j x.0 x.1) r) f x.0 m (inl refl)) b)
          (λ m. ⊎_elim (λ q. ap (λ w. cmp w e) (sym q) ∙ b) (λ q. absurd q) m)
          (in_split f (take j es) (x.0 ∷ []) (subst (λ xs. IsIn f xs) (take_get es j x.0 x.1) q))

  pub cut_above : (f : EpochName) → IsIn f (drop i es) → cmp f e ≡ Less → ⊥
  cut_above f p l = ⊎_elim inside outside (cases_lt i (length es))
    where
      inside : i < length es → ⊥
      inside m =
          let x = get_of es i m in
          let q = subst (λ xs. IsIn f xs) (drop_get es i x.0 x.1) p in
          ⊎_elim (λ h. c.above x.0 x.1 (ap (λ w. cmp w e) h ∙ l))
          (λ h. c.above x.0 x.1 (o.trans x.0 f e (before_at cmp x.0 f (drop (suc i) es) (rising_right cmp (take i es) (x.0 ∷ drop (suc i) es) (subst (AreRising cmp) (get_split es i x.0 x.1) r)).0 h) l)) q

      outside : length es ≤ i → ⊥
      outside m = subst (λ xs. IsIn f xs) (drop_of_length-le es m) p

  -- where it is there
  pub cut_found : IsIn e es → slice_get es i ≡ Some e
  cut_found p =
      ⊎_elim (λ q. let l = cut_below e q in absurd (o.flips e e l l)) (λ q. ⊎_elim (inside q) (outside q) (cases_lt i (length es)))
      (in_split e (take i es) (drop i es) (subst (λ xs. IsIn e xs) (sym (take-append-drop i es)) p))
    where
      inside : IsIn e (drop i es) → i < length es → slice_get es i ≡ Some e
      inside q m =
          let x = get_of es i m in
          ⊎_elim (λ h. x.1 ∙ ap Some h)
          (λ h. absurd (c.above x.0 x.1 (before_at cmp x.0 e (drop (suc i) es) (rising_right cmp (take i es) (x.0 ∷ drop (suc i) es) (subst (AreRising cmp) (get_split es i x.0 x.1) r)).0 h)))
          (subst (λ xs. IsIn e xs) (drop_get es i x.0 x.1) q)

      outside : IsIn e (drop i es) → length es ≤ i → slice_get es i ≡ Some e
      outside q m = absurd (subst (λ xs. IsIn e xs) (drop_of_length-le es m) q)

  -- one more in its place
  pub cut_insert : ((f : EpochName) → IsIn f es → (cmp f e ≡ Less → ⊥) → cmp e f ≡ Less) → AreRising cmp (take i es ++ (e ∷ drop i es))
  cut_insert h =
      let s = subst (AreRising cmp) (sym (take-append-drop i es)) r in
      let right : (f : EpochName) → IsIn f (drop i es) → IsIn f es = λ f p. subst (λ xs. IsIn f xs) (take-append-drop i es) (in_right f (take i es) (drop i es) p) in
      rising_join cmp (take i es) (e ∷ drop i es) (rising_left cmp (take i es) (drop i es) s)
      (before_all cmp e (drop i es) (λ f p. h f (right f p) (cut_above f p)), rising_right cmp (take i es) (drop i es) s)
      (λ x y p q. ⊎_elim (λ g. ap (cmp x) (sym g) ∙ cut_below x p) (λ g. rising_across cmp (take i es) (drop i es) s x y p g) q)

-- ---- elements of lists

pub in_inserted : {A : Type 0} (x y : A) (xs : List A) (i : ℕ) → IsIn x (insert xs i y) → (y ≡ x) ⊎ IsIn x xs
in_inserted {A} x y xs i p =
    ⊎_elim (λ q. inr (back (in_left x (take i xs) (drop i xs) q))) (λ q. ⊎_elim (λ e. inl e) (λ g. inr (back (in_right x (take i xs) (drop i xs) g))) q)
    (in_split x (take i xs) (y ∷ drop i xs) p)
  where
    back : IsIn x (take i xs ++ drop i xs) → IsIn x xs
    back q = let P : List A → Type 0 = λ zs. IsIn x zs in subst P (take-append-drop i xs) q

pub inserted_in : {A : Type 0} (x y : A) (xs : List A) (i : ℕ) → (y ≡ x) ⊎ IsIn x xs → IsIn x (insert xs i y)
inserted_in x y xs i (inl e) = in_right x (take i xs) (y ∷ drop i xs) (inl e)
inserted_in {A} x y xs i (inr p) =
    let P : List A → Type 0 = λ zs. IsIn x zs in
    ⊎_elim (λ q. in_left x (take i xs) (y ∷ drop i xs) q) (λ q. in_right x (take i xs) (y ∷ drop i xs) (inr q))
    (in_split x (take i xs) (drop i xs) (subst P (sym (take-append-drop i xs)) p))

pub map-insert : {A B : Type 0} (f : A → B) (xs : List A) (i : ℕ) (y : A) → map f (insert xs i y) ≡ take i (map f xs) ++ (f y ∷ drop i (map f xs))
map-insert f xs i y =
    map-append f (take i xs) (y ∷ drop i xs)
    ∙ (ap (λ zs. zs ++ (f y ∷ map f (drop i xs))) (sym (take-map f i xs)) ∙ ap (λ zs. take i (map f xs) ++ (f y ∷ zs)) (sym (drop-map f i xs)))

-- ---- halving

-- the epoch at the middle is less
pub cut_low : (cmp : Cmp) (ps : List Placed) (places : List ℕ) (e : EpochName) (m k : ℕ) → slice_get places m ≡ Some k → cmp (place_name ps k) e ≡ Less → (f : EpochName) → 0 < m + 1 → slice_get (names_at ps places) (m + 1 - 1) ≡ Some f → cmp f e ≡ Less
cut_low cmp ps places e m k g h f l q =
    let n : m + 1 - 1 ≡ m = omega arith in
    let r = sym (ap (slice_get (names_at ps places)) n) ∙ q in
    let s = slice_get-map (place_name ps) places m ∙ ap (option_map (place_name ps)) g in
    ap (λ z. cmp z e) (some_is f (place_name ps k) (sym r ∙ s)) ∙ h

-- or isn't
pub cut_high : (cmp : Cmp) (ps : List Placed) (places : List ℕ) (e : EpochName) (m k : ℕ) → slice_get places m ≡ Some k → (cmp (place_name ps k) e ≡ Less → ⊥) → (f : EpochName) → slice_get (names_at ps places) m ≡ Some f → cmp f e ≡ Less → ⊥
cut_high cmp ps places e m k g h f q l =
    let s = slice_get-map (place_name ps) places m ∙ ap (option_map (place_name ps)) g in
    h (ap (λ z. cmp z e) (some_is (place_name ps k) f (sym s ∙ q)) ∙ l)
