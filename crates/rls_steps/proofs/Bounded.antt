-- Bounds of labels, and runs that change.
use Rattle.std.proofs.Common.{◌≡◌, ℕ, zero, suc, ◌+◌, ◌<◌, ◌≤◌, List, [], ◌∷◌, ◌++◌, length, inl, inr, ◌⊎◌, ⊎_elim, refl, sym, take, ap, ◌∙◌, subst, arith}
use Rattle.std.specs.Prelude.{slice_get, min, nat_lt, Option, Some, None, is_some}
use Rattle.std.proofs.lemmas.Option.{slice_get_within}
use Rattle.std.specs.Prelude.{◌==◌, Bool, false, cond}
use Rattle.std.specs.Ordering.{nat_cmp, is_gt}
use Rattle.std.specs.declared.cmp.Ordering.TheVariants.{Less, Equal, Greater}
use Rattle.std.proofs.lemmas.Map.Keys.{le_from_not_gt, ge_from_not_lt}
use Rattle.std.proofs.lemmas.List.{length-take, length_push}
use Rattle.rls_ident.specs.declared.tuple.Tuple.{Tuple}
use Rattle.rls_ident.specs.Lists.{IsIn}
use Rattle.rls_ident.proofs.Members.{bool_cases, lt_is, not_lt_is, eq_test, some_is, in_left, in_split}
use Rattle.rls_runs.proofs.RunPlaces.{get_left, get_right}
use Rattle.rls_steps.specs.declared.bound.Bounds.{Bounds}
use Rattle.rls_steps.specs.Labelled.{Names}
use Rattle.rls_steps.specs.NameRuns.{Stretch, names_of}
use Rattle.rls_steps.specs.Bounds.{AreBounded, AreCounted, AreOlder, HasBetween, HasLabel, HaveNone, IsBound, IsBoundAt, IsFloor, IsMore, IsPut, count_in}

-- ---- lists with one more at the end

pub snoc_get : {A : Type 0} (xs : List A) (x y : A) (i : ℕ) → slice_get (xs ++ x ∷ []) i ≡ Some y → (slice_get xs i ≡ Some y) ⊎ ((i ≡ length xs) × (x ≡ y))
snoc_get [] x y zero g = inr (refl, some_is x y g)
snoc_get [] x y (suc i) g = absurd (cc)
snoc_get (z ∷ xs) x y zero g = inl g
snoc_get (z ∷ xs) x y (suc i) g = ⊎_elim (λ h. inl h) (λ h. inr (ap suc h.0, h.1)) (snoc_get xs x y i g)

pub at_end : {A : Type 0} (xs : List A) (x : A) (i : ℕ) → i ≡ length xs → slice_get (xs ++ x ∷ []) i ≡ Some x
at_end xs x i e = let z : i ≡ length xs + 0 = omega (arith, e) in ap (slice_get (xs ++ x ∷ [])) z ∙ get_right xs (x ∷ []) 0

stays_there : {A : Type 0} (xs : List A) (x y : A) (i : ℕ) → slice_get xs i ≡ Some y → slice_get (xs ++ x ∷ []) i ≡ Some y
stays_there xs x y i g = get_left xs (x ∷ []) i (slice_get_within xs i y g) ∙ g

-- ---- names that are in runs

pub more_extended : (fs : List Stretch) (r s : Stretch) (ns : Names) → names_of s ≡ names_of r ++ ns → IsMore (fs ++ r ∷ []) (fs ++ s ∷ []) ns
more_extended fs r s ns e i t n g p = ⊎_elim
    (λ h. inl (t, stays_there fs r t i h, p))
    (λ h. ⊎_elim
    (λ q. inl (r, at_end fs r i h.0, q))
    (λ q. let long = length_push fs s in let at = h.0 in inr (omega (arith, long, at), q))
    (in_split n (names_of r) ns (subst (IsIn n) (ap (λ (u : Stretch). names_of u) (sym h.1) ∙ e) p)))
    (snoc_get fs s t i g)

pub more_pushed : (fs : List Stretch) (s : Stretch) (ns : Names) → names_of s ≡ ns → IsMore fs (fs ++ s ∷ []) ns
more_pushed fs s ns e i t n g p = ⊎_elim
    (λ h. inl (t, h, p))
    (λ h. let long = length_push fs s in let at = h.0 in inr (omega (arith, long, at), subst (IsIn n) (ap (λ (u : Stretch). names_of u) (sym h.1) ∙ e) p))
    (snoc_get fs s t i g)

pub less_shortened : (fs : List Stretch) (r s : Stretch) (m : List Tuple × ℕ) → names_of r ≡ names_of s ++ m ∷ [] → IsMore (fs ++ r ∷ []) (fs ++ s ∷ []) []
less_shortened fs r s m e i t n g p = ⊎_elim
    (λ h. inl (t, stays_there fs r t i h, p))
    (λ h. inl (r, at_end fs r i h.0, subst (IsIn n) (sym e) (in_left n (names_of s) (m ∷ []) (subst (λ (u : Stretch). IsIn n (names_of u)) (sym h.1) p))))
    (snoc_get fs s t i g)

pub less_popped : (fs : List Stretch) (r : Stretch) → IsMore (fs ++ r ∷ []) fs []
less_popped fs r i t n g p = inl (t, stays_there fs r t i g, p)

-- ---- labels of runs

pub has_more : (rs rs' : List Stretch) (ns : Names) (i l : ℕ) → IsMore rs rs' ns → HasLabel rs' i l → HasLabel rs i l ⊎ ((i + 1 ≡ length rs') × (n : List Tuple × ℕ) × IsIn n ns × (n.1 ≡ l))
has_more rs rs' ns i l more h = ⊎_elim
    (λ k. inl (k.0, h.1, k.1, k.2, h.4))
    (λ k. inr (k.0, h.1, k.1, h.4))
    (more i h.0 h.1 h.2 h.3)

pub has_snoc : (rs : List Stretch) (r : Stretch) (i l : ℕ) → HasLabel (rs ++ r ∷ []) i l → HasLabel rs i l ⊎ ((i ≡ length rs) × (n : List Tuple × ℕ) × IsIn n (names_of r) × (n.1 ≡ l))
has_snoc rs r i l h = ⊎_elim
    (λ g. inl (h.0, h.1, g, h.3, h.4))
    (λ g. inr (g.0, h.1, subst (λ (u : Stretch). IsIn h.1 (names_of u)) (sym g.1) h.3, h.4))
    (snoc_get rs r h.0 i h.2)

pub has_short : (rs : List Stretch) (i l : ℕ) → HasLabel rs i l → i < length rs
has_short rs i l h = slice_get_within rs i h.0 h.2

-- ---- bounds

not_gt : (q l : ℕ) → q ≤ l → is_gt (nat_cmp q l) ≡ false
not_gt q l h = bool_cases (nat_lt q l)
    (λ b. ap (λ (c : Bool). is_gt (cond c Less (cond (q == l) Equal Greater))) b)
    (λ b. let most = not_lt_is q l b in
    let same : q ≡ l = omega (arith, h, most) in
    ap (λ (c : Bool). is_gt (cond c Less (cond (q == l) Equal Greater))) b ∙ ap (λ (c : Bool). is_gt (cond c Equal Greater)) (eq_test q l same))

-- what a map tells of an entry up to a label
pub floor_bound : (es : List (ℕ × ℕ)) (l : ℕ) (o : Option (ℕ × ℕ)) → IsFloor es l o → IsBoundAt es l o
floor_bound es l None f = λ q h. f q (not_gt q l h)
floor_bound es l (Some e) f = (f.0, le_from_not_gt e.0 l f.1, λ q g h. go q (count_in es q) refl g (not_gt q l h))
  where
    go : (q : ℕ) (o : Option ℕ) → count_in es q ≡ o → e.0 < q → is_gt (nat_cmp q l) ≡ false → o ≡ None
    go q None x g h = refl
    go q (Some v) x g h = let most = ge_from_not_lt e.0 q (f.2 q h (ap is_some x)) in absurd (omega (arith, g, most))

-- a label has one bound
bound_one : (es : List (ℕ × ℕ)) (l k v j w : ℕ) → IsBound es l k v → IsBound es l j w → v ≡ w
bound_one es l k v j w a b = bool_cases (nat_lt k j)
    (λ c. let less = lt_is k j c in let none = a.2 j less b.1 in let some = b.0 in absurd (cc))
    (λ c. bool_cases (nat_lt j k)
    (λ d. let less = lt_is j k d in let none = b.2 k less a.1 in let some = a.0 in absurd (cc))
    (λ d. let x = not_lt_is k j c in
    let y = not_lt_is j k d in
    let same : k ≡ j = omega (arith, x, y) in
    some_is v w (sym a.0 ∙ (ap (count_in es) same ∙ b.0))))

pub counted_wider : (rs : List Stretch) (es : List (ℕ × ℕ)) (a b : ℕ) → AreCounted rs es a → a ≤ b → AreCounted rs es b
counted_wider rs es a b c h = record {
  under = λ i l w. let u = c.under i l w in omega (arith, u, h);
  each = c.each;
  keys = λ q g. c.keys q (omega (arith, g, h));
}

pub counted_put : (rs : List Stretch) (es es' : List (ℕ × ℕ)) (a p w : ℕ) → AreCounted rs es a → IsPut es es' p w → p < a → ((i l k v : ℕ) → HasLabel rs i l → IsBound es l k v → k ≤ p → p ≤ l → i < v → i < w) → AreCounted rs es' a
counted_put rs es es' a p w c put under f = record {
  under = c.under;
  each = λ i l h. let e = c.each i l h in each i l e.0 e.1 h e.2 e.3;
  keys = λ q g. put.1 q (λ e. absurd (omega (arith, e, g, under))) ∙ c.keys q g;
}
  where
    each : (i l k v : ℕ) → HasLabel rs i l → IsBound es l k v → i < v → (k : ℕ) × (v : ℕ) × IsBound es' l k v × (i < v)
    each i l k v h b less = bool_cases (nat_lt l p)
        (λ t. let low = lt_is l p t in
        let short = b.1 in
        (k, v, (put.1 k (λ e. absurd (omega (arith, e, low, short))) ∙ b.0, b.1, λ q x y. put.1 q (λ e. absurd (omega (arith, e, low, y))) ∙ b.2 q x y), less))
        (λ t. let high = not_lt_is l p t in
        bool_cases (nat_lt p k)
        (λ u. let over = lt_is p k u in
        (k, v, (put.1 k (λ e. absurd (omega (arith, e, over))) ∙ b.0, b.1, λ q x y. put.1 q (λ e. absurd (omega (arith, e, over, x))) ∙ b.2 q x y), less))
        (λ u. let most = not_lt_is p k u in
        (p, w, (put.0, high, λ q x y. put.1 q (λ e. absurd (omega (arith, e, x))) ∙ b.2 q (omega (arith, most, x)) y), f i l k v h b most high less)))

-- an entry that changes no bound
pub counted_split : (rs : List Stretch) (es es' : List (ℕ × ℕ)) (a p : ℕ) (e : ℕ × ℕ) → AreCounted rs es a → IsBoundAt es p (Some e) ⊎ ((e ≡ (0, 0)) × IsBoundAt es p None) → IsPut es es' p e.1 → p < a → AreCounted rs es' a
counted_split rs es es' a p e c at put h = ⊎_elim
    (λ b'. counted_put rs es es' a p e.1 c put h
    (λ i l k v has b x y less. let one = bound_one es p k v e.0 e.1 (b.0, x, λ q g m. b.2 q g (omega (arith, m, y))) b' in omega (arith, less, one)))
    (λ n. counted_put rs es es' a p e.1 c put h (λ i l k v has b x y less. let none = n.1 k x in let some = b.0 in absurd (cc)))
    at

-- no run has a label from the one above all on
pub counted_gap : (rs : List Stretch) (es es' : List (ℕ × ℕ)) (above a w : ℕ) → AreCounted rs es above → IsPut es es' above w → above < a → AreCounted rs es' a
counted_gap rs es es' above a w c put h =
    counted_put rs es es' a above w (counted_wider rs es above a c (omega (arith, h))) put h
    (λ i l k v has b x y less. let u = c.under i l has in absurd (omega (arith, u, y)))

pub counted_all : (rs : List Stretch) (es es' : List (ℕ × ℕ)) (a p w : ℕ) → AreCounted rs es a → IsPut es es' p w → p < a → length rs ≤ w → AreCounted rs es' a
counted_all rs es es' a p w c put h all = counted_put rs es es' a p w c put h (λ i l k v has b x y less. let short = has_short rs i l has in omega (arith, short, all))

-- ---- labels that no run has

pub none_above : (rs : List Stretch) (es : List (ℕ × ℕ)) (a end low high : ℕ) → AreCounted rs es a → a ≤ low → HaveNone rs 0 end low high
none_above rs es a end low high c h i l x y has m k = let u = c.under i l has in absurd (omega (arith, u, h, m))

none_span : (rs : List Stretch) (es : List (ℕ × ℕ)) (a end label high k v : ℕ) → AreCounted rs es a → IsBound es label k v → ((q : ℕ) → label < q → q ≤ high → count_in es q ≡ None) → HaveNone rs v end k high
none_span rs es a end label high k v c b f i l x y has m n =
    let e = c.each i l has in
    let less = e.3 in
    let here : IsBound es l k v = (
      b.0,
      m,
      λ q g h. bool_cases (nat_lt label q)
          (λ t. f q (lt_is label q t) (omega (arith, h, n)))
          (λ t. b.2 q g (not_lt_is label q t)),
    ) in
    let one = bound_one es l e.0 e.1 k v e.2 here in
    absurd (omega (arith, less, one, x))

none_low : (rs : List Stretch) (es : List (ℕ × ℕ)) (a end label high : ℕ) → AreCounted rs es a → ((q : ℕ) → q ≤ label → count_in es q ≡ None) → ((q : ℕ) → label < q → q ≤ high → count_in es q ≡ None) → HaveNone rs 0 end 0 high
none_low rs es a end label high c g f i l x y has m n =
    let e = c.each i l has in
    let k = e.0 in
    let short = e.2.1 in
    let some = e.2.0 in
    let none : count_in es k ≡ None = bool_cases (nat_lt label k) (λ t. f k (lt_is label k t) (omega (arith, short, n))) (λ t. g k (not_lt_is label k t)) in
    absurd (cc)

pub none_around : (rs : List Stretch) (es : List (ℕ × ℕ)) (a end label high : ℕ) (e : ℕ × ℕ) → AreCounted rs es a → IsBoundAt es label (Some e) ⊎ ((e ≡ (0, 0)) × IsBoundAt es label None) → ((q : ℕ) → label < q → q ≤ high → count_in es q ≡ None) → HaveNone rs e.1 end e.0 high
none_around rs es a end label high e c at f = ⊎_elim
    (λ b. none_span rs es a end label high e.0 e.1 c b f)
    (λ n. subst (λ (u : ℕ × ℕ). HaveNone rs u.1 end u.0 high) (sym n.0) (none_low rs es a end label high c n.1 f))
    at

pub none_within : (rs : List Stretch) (from from' end low low' high high' : ℕ) → HaveNone rs from end low high → from ≤ from' → low ≤ low' → high' ≤ high → HaveNone rs from' end low' high'
none_within rs from from' end low low' high high' none f g h i l x y has m n = none i l (omega (arith, x, f)) y has (omega (arith, m, g)) (omega (arith, n, h))

-- the same where only so many runs are
pub none_less : (rs : List Stretch) (from count end low low' high : ℕ) → HaveNone rs from end low high → count ≡ min from end → low ≤ low' → low' ≤ high → HaveNone rs count end low' low'
none_less rs from count end low low' high none e g h i l x y has m n = none i l (omega (arith, x, y, e)) y has (omega (arith, m, g)) (omega (arith, n, h))

pub none_before : (rs : List Stretch) (os : List ℕ) (run o count l : ℕ) → AreOlder rs os → slice_get os run ≡ Some o → HasLabel rs run l → count ≡ min o run → HaveNone rs count run l l
none_before rs os run o count l older g has e i m x y other p q =
    let same : m ≡ l = omega (arith, p, q) in
    older.each run o i l g has (omega (arith, x, y, e)) y (subst (HasLabel rs i) same other)

-- ---- runs that change

pub bounded_none : (b : Bounds) → b.above ≡ 0 → b.counts.entries ≡ [] → AreBounded [] b
bounded_none b z e = record {
  counted = record {
    under = λ i l has. absurd (let g = has.2 in cc);
    each = λ i l has. absurd (let g = has.2 in cc);
    keys = λ q h. ap (λ (es : List (ℕ × ℕ)). count_in es q) e;
  };
  older = record {
    all = omega arith;
    each = λ i o j l g has x y other. absurd (let k = has.2 in cc);
  };
}

pub bounded_fewer : (rs rs' : List Stretch) (b : Bounds) → AreBounded rs b → IsMore rs rs' [] → length rs' ≤ length rs → AreBounded rs' b
bounded_fewer rs rs' b o more short =
    let all = o.older.all in
    record {
      counted = record {
        under = λ i l has. o.counted.under i l (was i l has);
        each = λ i l has. o.counted.each i l (was i l has);
        keys = o.counted.keys;
      };
      older = record {
        all = omega (arith, all, short);
        each = λ i c j l g has x y other. o.older.each i c j l g (was i l has) x y (was j l other);
      };
    }
  where
    was : (i l : ℕ) → HasLabel rs' i l → HasLabel rs i l
    was i l has = ⊎_elim (λ k. k) (λ k. absurd (k.2)) (has_more rs rs' [] i l more has)

-- the last run has one more label, which is above all
pub bounded_extended : (rs rs' : List Stretch) (b b' : Bounds) (x : List Tuple) (l k v : ℕ) → AreBounded rs b → IsMore rs rs' ((x, l) ∷ []) → length rs' ≡ length rs → b.above ≤ l → IsBound b.counts.entries l k v → length rs ≤ v →
    b'.counts ≡ b.counts → b'.olders ≡ b.olders → b'.above ≡ l + 1 → AreBounded rs' b'
bounded_extended rs rs' b b' x l k v o more size high bound most e f up =
    let all = o.older.all in
    let es = b.counts.entries in
    record {
      counted = subst (λ m. AreCounted rs' m.entries b'.above) (sym e) (record {
        under = λ i m has. ⊎_elim (λ h. let u = o.counted.under i m h in omega (arith, u, high, up)) (λ h. let same = is_label h.1 m h.2 h.3 in omega (arith, same, up)) (has_more rs rs' ((x, l) ∷ []) i m more has);
        each = λ i m has. ⊎_elim (λ h. o.counted.each i m h)
            (λ h. let at = h.0 in
            let same = is_label h.1 m h.2 h.3 in
            (k, v, subst (λ j. IsBound es j k v) same bound, omega (arith, at, size, most)))
            (has_more rs rs' ((x, l) ∷ []) i m more has);
        keys = λ q h. o.counted.keys q (omega (arith, h, high, up));
      });
      older = subst (λ m. AreOlder rs' m.items) (sym f) (record {
        all = omega (arith, all, size);
        each = λ i c j m g has y z other.
            let short = has_short rs' i m has in
            ⊎_elim
            (λ u. ⊎_elim
            (λ h. o.older.each i c j m g h y z u)
            (λ h. let same = is_label h.1 m h.2 h.3 in let w = o.counted.under j m u in absurd (omega (arith, w, same, high)))
            (has_more rs rs' ((x, l) ∷ []) i m more has))
            (λ u. let last = u.0 in absurd (omega (arith, last, short, z)))
            (has_more rs rs' ((x, l) ∷ []) j m more other);
      });
    }
  where
    is_label : (n : List Tuple × ℕ) (m : ℕ) → IsIn n ((x, l) ∷ []) → n.1 ≡ m → l ≡ m
    is_label n m (inl e') q = ap (λ (p : List Tuple × ℕ). p.1) e' ∙ q
    is_label n m (inr p) q = absurd p

-- one more run
counted_more : (rs : List Stretch) (r : Stretch) (es : List (ℕ × ℕ)) (a low high v : ℕ) → AreCounted rs es a → HasBetween r low high → high < a → length rs < v → ((l : ℕ) → low ≤ l → l ≤ high → IsBound es l low v) → AreCounted (rs ++ r ∷ []) es a
counted_more rs r es a low high v c own up most f = record {
  under = λ i l has. ⊎_elim (λ h. c.under i l h)
      (λ h. let n = own h.1 h.2 in
      let same = h.3 in
      let top = n.1 in
      omega (arith, same, top, up))
      (has_snoc rs r i l has);
  each = λ i l has. ⊎_elim (λ h. c.each i l h)
      (λ h. let n = own h.1 h.2 in
      let same = h.3 in
      let at = h.0 in
      let least = n.0 in
      let top = n.1 in
      (low, v, f l (omega (arith, same, least)) (omega (arith, same, top)), omega (arith, at, most)))
      (has_snoc rs r i l has);
  keys = c.keys;
}

pub take_got : {A : Type 0} (n i : ℕ) (w : A) (ws : List A) → slice_get (take n ws) i ≡ Some w → slice_get ws i ≡ Some w
take_got zero i w ws g = absurd (cc)
take_got (suc n) i w [] g = g
take_got (suc n) zero w (v ∷ ws) g = g
take_got (suc n) (suc i) w (v ∷ ws) g = take_got n i w ws g

-- only those of the runs are noted
older_cut : (rs : List Stretch) (os : List ℕ) → AreOlder rs os → AreOlder rs (take (length rs) os)
older_cut rs os o =
    let all = o.all in
    let size = length-take (length rs) os in
    record { all = omega (arith, size, all); each = λ i w j l g has x y other. o.each i w j l (take_got (length rs) i w os g) has x y other }

-- one more than the runs is noted
older_long : (rs : List Stretch) (os : List ℕ) (c : ℕ) → AreOlder rs os → AreOlder rs (os ++ c ∷ [])
older_long rs os c o =
    let all = o.all in
    let long = length_push os c in
    record {
      all = omega (arith, all, long);
      each = λ i w j l g has x y other.
          let short = has_short rs i l has in
          o.each i w j l (⊎_elim (λ k. k) (λ k. let at = k.0 in absurd (omega (arith, at, all, short))) (snoc_get os c w i g)) has x y other;
    }

older_more : (rs : List Stretch) (r : Stretch) (os : List ℕ) (c low high : ℕ) → AreOlder rs os → HaveNone rs c (length rs) low high → HasBetween r low high → AreOlder (rs ++ r ∷ []) (take (length rs) os ++ c ∷ [])
older_more rs r os c low high o none own =
    let all = o.all in
    let size = length-take (length rs) os in
    let front = take (length rs) os in
    let long = length_push rs r in
    let long' = length_push front c in
    let here : length front ≡ length rs = omega (arith, size, all) in
    record {
      all = omega (arith, long, long', here);
      each = λ i w j l g has x y other.
          let old = ⊎_elim (λ h. h) (λ h. let at = h.0 in let short = has_short (rs ++ r ∷ []) i l has in absurd (omega (arith, at, y, short, long))) (has_snoc rs r j l other) in
          let within = has_short rs j l old in
          ⊎_elim
          (λ h. let short = has_short rs i l h in
          o.each i w j l (⊎_elim (λ k. take_got (length rs) i w os k) (λ k. let at = k.0 in absurd (omega (arith, at, here, short))) (snoc_get front c w i g)) h x y old)
          (λ h. let n = own h.1 h.2 in
          let same = h.3 in
          let at = h.0 in
          let least = n.0 in
          let top = n.1 in
          let count : c ≡ w = some_is c w (sym (at_end front c i (omega (arith, at, here))) ∙ g) in
          none j l (omega (arith, count, x)) within old (omega (arith, same, least)) (omega (arith, same, top)))
          (has_snoc rs r i l has);
    }

pub bounded_more : (rs : List Stretch) (r : Stretch) (b b' : Bounds) (c low high v low' high' : ℕ) → AreBounded rs b → AreCounted rs b'.counts.entries b'.above → b'.olders.items ≡ take (length rs) b.olders.items ++ c ∷ [] → HaveNone rs c (length rs) low' high' → low' ≤ low → high ≤ high' →
    HasBetween r low high → high < b'.above → length rs < v → ((l : ℕ) → low ≤ l → l ≤ high → IsBound b'.counts.entries l low v) → AreBounded (rs ++ r ∷ []) b'
bounded_more rs r b b' c low high v low' high' o counted e none lower higher own up most f = record {
  counted = counted_more rs r b'.counts.entries b'.above low high v counted own up most f;
  older = subst (AreOlder (rs ++ r ∷ [])) (sym e) (older_more rs r b.olders.items c low high o.older (none_within rs c c (length rs) low' low high' high none (omega arith) lower higher) own);
}

-- ---- bounds that are put, and an error

pub bounded_cut : (rs : List Stretch) (b b' : Bounds) → AreBounded rs b → b'.counts ≡ b.counts → b'.above ≡ b.above → b'.olders.items ≡ take (length rs) b.olders.items → AreBounded rs b'
bounded_cut rs b b' o e u f = record {
  counted = subst (λ a. AreCounted rs b'.counts.entries a) (sym u) (subst (λ m. AreCounted rs m.entries b.above) (sym e) o.counted);
  older = subst (AreOlder rs) (sym f) (older_cut rs b.olders.items o.older);
}

pub bounded_long : (rs : List Stretch) (b b' : Bounds) (c : ℕ) → AreBounded rs b → AreCounted rs b'.counts.entries b'.above → b'.olders.items ≡ take (length rs) b.olders.items ++ c ∷ [] → AreBounded rs b'
bounded_long rs b b' c o counted f = record {
  counted = counted;
  older = subst (AreOlder rs) (sym f) (older_long rs (take (length rs) b.olders.items) c (older_cut rs b.olders.items o.older));
}
