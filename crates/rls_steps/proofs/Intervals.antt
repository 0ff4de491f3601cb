-- Intervals of identifiers, in which the names lie that labels had before.
use Rattle.std.proofs.Common.{◌≡◌, ℕ, ◌+◌, ◌-◌, ◌<◌, ◌≤◌, Bool, true, false, List, [], ◌∷◌, ◌++◌, length, inl, inr, ⊎_elim, refl, sym, take, ap, ◌∙◌, subst, arith}
use Rattle.std.specs.Prelude.{slice_get, nat_lt, pos, ◌^◌, Box, Option, Some, Ok, Err}
use Rattle.std.specs.declared.alloc.Global.{Global}
use Rattle.std.proofs.lemmas.Int.{ints}
use Rattle.std.proofs.lemmas.List.{length-map, length-take, length_push}
use Rattle.std.proofs.lemmas.Option.{slice_get_within}
use Rattle.rls_ident.specs.declared.tuple.Tuple.{Tuple}
use Rattle.rls_ident.specs.Identifiers.{IsIdent, ident_lt, shifted}
use Rattle.rls_ident.specs.Lists.{IsIn}
use Rattle.rls_ident.proofs.Lists.{Lt, lt_irrefl, lt_trans, tri}
use Rattle.rls_ident.proofs.Members.{bool_cases, lt_is, not_lt_is, not_true, true_false, some_is}
use Rattle.rls_ident.proofs.Shifted.{shifted_less, shifted_none}
use Rattle.rls_ident.proofs.Tuples.{tuples, lt_of, of_lt}
use Rattle.rls_runs.specs.Places.{below_count}
use Rattle.rls_runs.specs.Runs.{place_of, is_increasing}
use Rattle.rls_runs.proofs.Gaps.{at_less, less_at}
use Rattle.rls_runs.proofs.RunOrder.{rising_of}
use Rattle.rls_runs.proofs.Sorted.{Entry}
use Rattle.rls_seen.specs.Sane.{IsSane}
use Rattle.rls_seen.specs.Seen.{Seen, idents_over}
use Rattle.rls_seen.proofs.Needed.{total_room}
use Rattle.rls_undo.proofs.Finding.{found_at, missed_at}
use Rattle.rls_steps.specs.declared.interval.Interval.{Interval}
use Rattle.rls_steps.specs.NameRuns.{Stretch, IsStretch, label_by, name_at, names_of}
use Rattle.rls_steps.specs.Bounds.{AreCounted, HasBetween, HasLabel, HaveNone, IsMore}
use Rattle.rls_steps.specs.Intervals.{AreBetween, AreNoted, IsBetween, LiesIn}
use Rattle.rls_steps.proofs.Bounded.{snoc_get, at_end, has_more, has_snoc, has_short, take_got}
use Rattle.rls_steps.proofs.LabelSteps.{named_further}
use Rattle.rls_steps.proofs.Stretches.{in_names, name_in}
use Rattle.rls_steps.proofs.Tabling.{once, place_is}

-- ---- the order of identifiers

pub not_less_trans : (x y z : List Tuple) → ident_lt x y ≡ false → ident_lt y z ≡ false → ident_lt x z ≡ false
not_less_trans x y z f g = not_true (ident_lt x z) (λ h. let l = lt_of x z h in
    ⊎_elim
    (λ a. true_false (ident_lt y z) (of_lt y z a) g)
    (λ b. ⊎_elim
    (λ e. true_false (ident_lt x y) (ap (ident_lt x) e ∙ h) f)
    (λ m. true_false (ident_lt x y) (of_lt x y (lt_trans l m)) f)
    b)
    (tri tuples y z))

pub not_less_back : (x y : List Tuple) → ident_lt x y ≡ true → ident_lt y x ≡ false
not_less_back x y t = not_true (ident_lt y x) (λ h. lt_irrefl (lt_trans (lt_of x y t) (lt_of y x h)))

pub not_less_same : (x y : List Tuple) → x ≡ y → ident_lt x y ≡ false
not_less_same x y e = not_true (ident_lt x y) (λ h. lt_irrefl (subst (λ z. Lt tuples z y) e (lt_of x y h)))

pub shifted_not_less : (j k : ℕ) (x : List Tuple) → IsIdent x → j ≤ k → ident_lt (shifted (pos k) x) (shifted (pos j) x) ≡ false
shifted_not_less j k x i h = bool_cases (nat_lt j k)
    (λ b. let less = lt_is j k b in not_less_back (shifted (pos j) x) (shifted (pos k) x) (of_lt (shifted (pos j) x) (shifted (pos k) x) (shifted_less (pos j) (pos k) x i (omega (arith, ints, less)))))
    (λ b. let most = not_lt_is j k b in
    let same : k ≡ j = omega (arith, h, most) in
    not_less_same (shifted (pos k) x) (shifted (pos j) x) (ap (λ m. shifted (pos m) x) same))

-- the names of a run from one label to another lie between the identifiers of these
pub part_between : (r : Stretch) (v : Interval) (from to : ℕ) → IsStretch r.first r.label r.down r.len → IsIdent v.low → from < r.len → to < r.len → v.low ≡ (name_at r from).0 → v.high ≡ (name_at r to).0 → (n : List Tuple × ℕ) → IsIn n (names_of r) →
    (name_at r from).1 ≤ n.1 → n.1 ≤ (name_at r to).1 → IsBetween v n.0
part_between r v from to s i a b e f n p least most =
    let w = in_names r.down r.first r.label 0 r.len n p in
    let z : w.0 ≡ 0 + w.0 = omega arith in
    let is : name_at r w.0 ≡ n = ap (name_at r) z ∙ w.2 in
    let label = ap (λ (m : List Tuple × ℕ). m.1) is in
    let low = (name_at r from).1 in
    let k = (name_at r w.0).1 - low in
    let m = (name_at r to).1 - low in
    let x : n.0 ≡ shifted (pos k) v.low = sym (ap (λ (q : List Tuple × ℕ). q.0) is) ∙ (named_further r from w.0 s a w.1 (omega (arith, least, label)) ∙ ap (shifted (pos k)) (sym e)) in
    let y : v.high ≡ shifted (pos m) v.low = f ∙ (named_further r from to s a b (omega (arith, least, most)) ∙ ap (shifted (pos m)) (sym e)) in (
      ap (λ u. ident_lt u v.low) x ∙ (ap (ident_lt (shifted (pos k) v.low)) (sym (shifted_none v.low)) ∙ shifted_not_less 0 k v.low i (omega arith)),
      ap (λ u. ident_lt u n.0) y ∙ (ap (ident_lt (shifted (pos m) v.low)) x ∙ shifted_not_less k m v.low i (omega (arith, most, label))),
    )

-- ---- the labels of a run

-- it has each between two of them
label_there : (d : Bool) (l n j k m : ℕ) → j < n → k < n → label_by d l j ≤ m → m ≤ label_by d l k → (i : ℕ) × (i < n) × (label_by d l i ≡ m)
label_there false l n j k m g h low high = (m - l, omega (arith, h, low, high), omega (arith, low, high))
label_there true l n j k m g h low high = (l - m, omega (arith, g, low, high), omega (arith, low, high))

pub has_each : (rs : List Stretch) (i : ℕ) (r : Stretch) (low high m : ℕ) → slice_get rs i ≡ Some r → (k : ℕ) × (k < r.len) × ((name_at r k).1 ≡ low) → (k : ℕ) × (k < r.len) × ((name_at r k).1 ≡ high) → low ≤ m → m ≤ high → HasLabel rs i m
has_each rs i r low high m g a b h k =
    let least = a.2 in
    let most = b.2 in
    let w = label_there r.down r.label r.len a.0 b.0 m a.1 b.1 (omega (arith, least, h)) (omega (arith, most, k)) in
    (r, name_at r w.0, g, name_in r w.0 w.1, w.2)

-- ---- what is noted for runs

pub noted_fewer : (rs rs' : List Stretch) (vs : List (Option (Box Interval Global))) → AreNoted rs vs → IsMore rs rs' [] → length rs' ≤ length rs → AreNoted rs' vs
noted_fewer rs rs' vs o more short =
    let all = o.all in
    record {
      all = omega (arith, all, short);
      each = λ i j w s n g has x h p.
          let old = ⊎_elim (λ k. k) (λ k. absurd (k.2)) (has_more rs rs' [] i n.1 more has) in
          ⊎_elim (λ k. o.each i j w k.0 n g old x k.1 k.2) (λ k. absurd (k.1)) (more j s n h p);
    }

-- the last run has one more label, which is above all
pub noted_extended : (rs rs' : List Stretch) (vs : List (Option (Box Interval Global))) (es : List (ℕ × ℕ)) (a : ℕ) (x : List Tuple) (l : ℕ) → AreNoted rs vs → AreCounted rs es a → IsMore rs rs' ((x, l) ∷ []) → length rs' ≡ length rs → a ≤ l → AreNoted rs' vs
noted_extended rs rs' vs es a x l o counted more size high =
    let all = o.all in
    record {
      all = omega (arith, all, size);
      each = λ i j w s n g has y h p.
          let short = has_short rs' i n.1 has in
          ⊎_elim
          (λ k. ⊎_elim
          (λ u. o.each i j w k.0 n g u y k.1 k.2)
          (λ u. let same = is_label u.1 n.1 u.2 u.3 in let under = counted.under j n.1 (k.0, n, k.1, k.2, refl) in absurd (omega (arith, same, under, high)))
          (has_more rs rs' ((x, l) ∷ []) i n.1 more has))
          (λ k. let last = k.0 in absurd (omega (arith, last, short, y)))
          (more j s n h p);
    }
  where
    is_label : (n : List Tuple × ℕ) (m : ℕ) → IsIn n ((x, l) ∷ []) → n.1 ≡ m → l ≡ m
    is_label n m (inl e) q = ap (λ (p : List Tuple × ℕ). p.1) e ∙ q
    is_label n m (inr p) q = absurd p

-- only what is noted for the runs
noted_cut : (rs : List Stretch) (vs : List (Option (Box Interval Global))) → AreNoted rs vs → AreNoted rs (take (length rs) vs)
noted_cut rs vs o =
    let all = o.all in
    let size = length-take (length rs) vs in
    record { all = omega (arith, size, all); each = λ i j w s n g has x h p. o.each i j w s n (take_got (length rs) i w vs g) has x h p }

-- something is noted for one more than the runs
noted_long : (rs : List Stretch) (vs : List (Option (Box Interval Global))) (v : Option (Box Interval Global)) → AreNoted rs vs → AreNoted rs (vs ++ v ∷ [])
noted_long rs vs v o =
    let all = o.all in
    let long = length_push vs v in
    record {
      all = omega (arith, all, long);
      each = λ i j w s n g has x h p.
          let short = has_short rs i n.1 has in
          o.each i j w s n (⊎_elim (λ k. k) (λ k. let at = k.0 in absurd (omega (arith, at, all, short))) (snoc_get vs v w i g)) has x h p;
    }

pub noted_kept : (rs : List Stretch) (vs us : List (Option (Box Interval Global))) (n : ℕ) (v : Option (Box Interval Global)) → length rs ≡ n → AreNoted rs vs → us ≡ take n vs ++ v ∷ [] → AreNoted rs us
noted_kept rs vs us n v e o f = subst (AreNoted rs) (sym (f ∙ ap (λ m. take m vs ++ v ∷ []) (sym e))) (noted_long rs (take (length rs) vs) v (noted_cut rs vs o))

pub noted_spent : (rs : List Stretch) (vs us : List (Option (Box Interval Global))) (n : ℕ) → length rs ≡ n → AreNoted rs vs → us ≡ take n vs → AreNoted rs us
noted_spent rs vs us n e o f = subst (AreNoted rs) (sym (f ∙ ap (λ m. take m vs) (sym e))) (noted_cut rs vs o)

-- one more run
pub noted_more : (rs : List Stretch) (r : Stretch) (vs us : List (Option (Box Interval Global))) (m low high : ℕ) (v : Option (Box Interval Global)) → length rs ≡ m → AreNoted rs vs → HasBetween r low high → AreBetween rs m low high v → us ≡ take m vs ++ v ∷ [] → AreNoted (rs ++ r ∷ []) us
noted_more rs r vs us m low high v e o own between f =
    let all = o.all in
    let size = length-take m vs in
    let front = take m vs in
    let long = length_push rs r in
    let long' = length_push front v in
    let here : length front ≡ length rs = omega (arith, size, all, e) in
    subst (AreNoted (rs ++ r ∷ [])) (sym f) (record {
      all = omega (arith, long, long', here);
      each = λ i j w s n g has y h p.
          let short = has_short (rs ++ r ∷ []) i n.1 has in
          let old = ⊎_elim (λ k. k) (λ k. let at = k.0 in absurd (omega (arith, at, y, short, long))) (snoc_get rs r s j h) in
          ⊎_elim
          (λ k. let short' = has_short rs i n.1 k in
          o.each i j w s n (⊎_elim (λ u. take_got m i w vs u) (λ u. let at = u.0 in absurd (omega (arith, at, here, short'))) (snoc_get front v w i g)) k y old p)
          (λ k. let at = k.0 in
          let q = own k.1 k.2 in
          let least = q.0 in
          let most = q.1 in
          let same = k.3 in
          let it : v ≡ w = some_is v w (sym (at_end front v i (omega (arith, at, here))) ∙ g) in
          subst (λ u. LiesIn u n.0) it (between j s n (omega (arith, at, y, e)) old p (omega (arith, least, same)) (omega (arith, most, same))))
          (has_snoc rs r i n.1 has);
    })

-- ---- the interval of the names that labels have

pub all_between : (rs : List Stretch) (vs : List (Option (Box Interval Global))) (count low high before : ℕ) (r : Stretch) (w : Option (Box Interval Global)) (v : Interval) (first : Bool) → AreNoted rs vs → 0 < count → slice_get rs (count - 1) ≡ Some r → slice_get vs (count - 1) ≡ Some w →
    ((m : ℕ) → low ≤ m → m ≤ high → HasLabel rs (count - 1) m) → (first ≡ true → before ≡ 0) → ((m : ℕ) → HasLabel rs (count - 1) m → HaveNone rs before (count - 1) m m) → ((n : List Tuple × ℕ) → IsIn n (names_of r) → low ≤ n.1 → n.1 ≤ high → IsBetween v n.0) →
    (first ≡ false → (x : List Tuple) → LiesIn w x → IsBetween v x) → (j : ℕ) (s : Stretch) (n : List Tuple × ℕ) → j < count → slice_get rs j ≡ Some s → IsIn n (names_of s) → low ≤ n.1 → n.1 ≤ high → IsBetween v n.0
all_between rs vs count low high before r w v first noted some g u has start none own more j s n h k p least most = bool_cases (nat_lt j (count - 1))
    (λ t. let less = lt_is j (count - 1) t in
    bool_cases first
    (λ e. let z = start e in absurd (none n.1 (has n.1 least most) j n.1 (omega (arith, z)) less (s, n, k, p, refl) (omega arith) (omega arith)))
    (λ e. more e n.0 (noted.each (count - 1) j w s n u (has n.1 least most) less k p)))
    (λ t. let over = not_lt_is j (count - 1) t in
    let same : j ≡ count - 1 = omega (arith, over, h, some) in
    let it : r ≡ s = some_is r s (sym g ∙ (ap (slice_get rs) (sym same) ∙ k)) in
    own n (subst (λ (q : Stretch). IsIn n (names_of q)) (sym it) p) least most)

-- no later run has the labels
pub between_more : (rs : List Stretch) (count low high low' high' m : ℕ) (o : Option (Box Interval Global)) → length rs ≡ m → HaveNone rs count (length rs) low' high' → low' ≤ low → high ≤ high' → AreBetween rs count low high o → AreBetween rs m low high o
between_more rs count low high low' high' m o size none below above between j s n h g p least most = bool_cases (nat_lt j count)
    (λ t. between j s n (lt_is j count t) g p least most)
    (λ t. let over = not_lt_is j count t in absurd (none j n.1 over (omega (arith, h, size)) (s, n, g, p, refl) (omega (arith, below, least)) (omega (arith, above, most))))

-- ---- identifiers of a text that lie in an interval

pub place_above : (xs : List (List Tuple)) (low x : List Tuple) (k : ℕ) → is_increasing xs ≡ true → ident_lt x low ≡ false → place_of x xs ≡ Ok k → below_count xs low ≤ k
place_above xs low x k r f h = bool_cases (nat_lt k (below_count xs low))
    (λ b. absurd (true_false (ident_lt x low) (of_lt x low (less_at xs k x low (rising_of xs r) (place_is xs x k (rising_of xs r) h) (lt_is k (below_count xs low) b))) f))
    (λ b. not_lt_is k (below_count xs low) b)

pub place_up_to : (xs : List (List Tuple)) (high x : List Tuple) (at k : ℕ) → is_increasing xs ≡ true → place_of high xs ≡ Ok at → ident_lt high x ≡ false → place_of x xs ≡ Ok k → k < at + 1
place_up_to xs high x at k r g f h =
    let below = (found_at xs high at r g).1 in
    ⊎_elim
    (λ a. let less = at_less xs k x high (rising_of xs r) (place_is xs x k (rising_of xs r) h) a in omega (arith, less, below))
    (λ b. ⊎_elim
    (λ e. let same = once xs high k at (rising_of xs r) (place_is xs high k (rising_of xs r) (ap (λ y. place_of y xs) (sym e) ∙ h)) (place_is xs high at (rising_of xs r) g) in omega (arith, same))
    (λ m. absurd (true_false (ident_lt high x) (of_lt high x m) f))
    b)
    (tri tuples x high)

pub place_below : (xs : List (List Tuple)) (high x : List Tuple) (at k : ℕ) → is_increasing xs ≡ true → place_of high xs ≡ Err at → ident_lt high x ≡ false → place_of x xs ≡ Ok k → k < at
place_below xs high x at k r g f h =
    let below = (missed_at xs high at r g).1 in
    ⊎_elim
    (λ a. let less = at_less xs k x high (rising_of xs r) (place_is xs x k (rising_of xs r) h) a in omega (arith, less, below))
    (λ b. ⊎_elim
    (λ e. absurd (let there = sym g ∙ (ap (λ y. place_of y xs) (sym e) ∙ h) in cc))
    (λ m. absurd (true_false (ident_lt high x) (of_lt high x m) f))
    b)
    (tri tuples x high)

pub place_room : (s : Seen) (x : List Tuple) (k : ℕ) → IsSane s → place_of x (idents_over s) ≡ Ok k → k + 1 < 2 ^ 64
place_room s x k sane h =
    let size = length-map s.text (λ (e : Entry). e.0) in
    let short = slice_get_within (idents_over s) k x (place_is (idents_over s) x k (rising_of (idents_over s) sane.idents.1) h) in
    let room = total_room s sane in
    omega (arith, size, short, room)
