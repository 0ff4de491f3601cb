-- Names as runs, and their names.
use Rattle.std.proofs.Common.{◌≡◌, ℕ, zero, suc, ◌+◌, ◌-◌, ◌<◌, ◌≤◌, Bool, true, false, List, [], ◌∷◌, ◌++◌, length, inl, inr, ◌⊎◌, refl, sym, ap, ◌∙◌, subst, append_assoc, arith}
use Rattle.std.specs.Int.RustNames.{int_le}
use Rattle.std.specs.Prelude.{ℤ, pos, ◌+ℤ◌, ◌-ℤ◌, ◌≤ℤ◌, ◌^◌, reverse, slice_get, Option, Some, None, IfSome, if◌then◌else◌}
use Rattle.std.proofs.lemmas.Int.{ints}
use Rattle.std.proofs.lemmas.List.{reverse-append, reverse-reverse, length-reverse}
use Rattle.rls_ident.specs.declared.tuple.Tuple.{Tuple}
use Rattle.rls_ident.specs.declared.tuple.Tuple.TheVariants.{Low, At, High}
use Rattle.rls_ident.specs.declared.tuple.Spot.{Spot}
use Rattle.rls_ident.specs.Tuples.{at_spot, offset_of}
use Rattle.rls_ident.specs.Identifiers.{IsIdent, ident_eq, shifted, last_of, is_last_bounded, least_offset, greatest_offset}
use Rattle.rls_ident.specs.Lists.{IsIn}
use Rattle.rls_ident.proofs.Ends.{eq_same, same_eq}
use Rattle.rls_ident.proofs.Members.{bool_cases, and_left, and_right, int_le_is, some_is, in_left, in_right, in_split, get_in}
use Rattle.rls_ident.proofs.Shifted.{shifted_shifted, shifted_none, last_offset}
use Rattle.rls_runs.proofs.RunPlaces.{get_left, get_right}
use Rattle.rls_steps.specs.Labelled.{Names, label_of}
use Rattle.rls_steps.specs.NameRuns.{Stretch, IsStretch, IsWithin, AreSound, AreLabelsOf, step_by, label_by, name_by, names_by, name_at, names_of, named, run_of}
use Rattle.rls_steps.specs.Index.{AreApart}

-- ---- the names of a run

pub names_long : (down : Bool) (x : List Tuple) (l k n : ℕ) → length (names_by down x l k n) ≡ n
names_long down x l k zero = refl
names_long down x l k (suc n) = ap suc (names_long down x l (suc k) n)

pub names_get : (down : Bool) (x : List Tuple) (l k n i : ℕ) → i < n → slice_get (names_by down x l k n) i ≡ Some (name_by down x l (k + i))
names_get down x l k zero i h = absurd (omega (arith, h))
names_get down x l k (suc n) zero h = let e : k ≡ k + 0 = omega arith in ap (λ m. Some (name_by down x l m)) e
names_get down x l k (suc n) (suc i) h = let e : suc k + i ≡ k + suc i = omega arith in names_get down x l (suc k) n i (omega (arith, h)) ∙ ap (λ m. Some (name_by down x l m)) e

pub names_suc : (down : Bool) (x : List Tuple) (l k n : ℕ) → names_by down x l k (suc n) ≡ names_by down x l k n ++ name_by down x l (k + n) ∷ []
names_suc down x l k zero = let e : k ≡ k + 0 = omega arith in ap (λ m. name_by down x l m ∷ []) e
names_suc down x l k (suc n) = let e : suc k + n ≡ k + suc n = omega arith in ap (λ ns. name_by down x l k ∷ ns) (names_suc down x l (suc k) n ∙ ap (λ m. names_by down x l (suc k) n ++ name_by down x l m ∷ []) e)

pub names_more : (down : Bool) (x : List Tuple) (l n : ℕ) → names_by down x l 0 (n + 1) ≡ names_by down x l 0 n ++ name_by down x l n ∷ []
names_more down x l n =
    let one : n + 1 ≡ suc n = omega arith in
    let none : 0 + n ≡ n = omega arith in
    ap (names_by down x l 0) one ∙ (names_suc down x l 0 n ∙ ap (λ m. names_by down x l 0 n ++ name_by down x l m ∷ []) none)

pub first_by : (down : Bool) (x : List Tuple) (l : ℕ) → name_by down x l 0 ≡ (x, l)
first_by false x l = let e : l + 0 ≡ l = omega arith in ap (λ y. (y, l + 0)) (shifted_none x) ∙ ap (λ m. (x, m)) e
first_by true x l =
    let z : pos 0 -ℤ pos 0 ≡ pos 0 = omega (arith, ints) in
    let e : l - 0 ≡ l = omega arith in
    ap (λ d. (shifted d x, l - 0)) z ∙ (ap (λ y. (y, l - 0)) (shifted_none x) ∙ ap (λ m. (x, m)) e)

pub one_name : (down : Bool) (x : List Tuple) (l : ℕ) → names_by down x l 0 1 ≡ (x, l) ∷ []
one_name down x l = ap (λ n. n ∷ []) (first_by down x l)

-- a run of one name
pub alone : (r : Stretch) (x : List Tuple) (l : ℕ) → r.len ≡ 1 → x ≡ r.first → l ≡ (name_at r 0).1 → names_of r ≡ (x, l) ∷ []
alone r x l e f g =
    let label = g ∙ ap (λ (n : List Tuple × ℕ). n.1) (first_by r.down r.first r.label) in
    ap (names_by r.down r.first r.label 0) e ∙ (one_name r.down r.first r.label ∙ (ap (λ y. (y, r.label) ∷ []) (sym f) ∙ ap (λ m. (x, m) ∷ []) (sym label)))

pub in_names : (down : Bool) (x : List Tuple) (l k m : ℕ) (n : List Tuple × ℕ) → IsIn n (names_by down x l k m) → (i : ℕ) × (i < m) × (name_by down x l (k + i) ≡ n)
in_names down x l k zero n p = absurd p
in_names down x l k (suc m) n (inl e) = let z : k + 0 ≡ k = omega arith in (0, omega arith, ap (name_by down x l) z ∙ e)
in_names down x l k (suc m) n (inr p) =
    let r = in_names down x l (suc k) m n p in
    let h = r.1 in
    let z : k + suc r.0 ≡ suc k + r.0 = omega arith in
    (suc r.0, omega (arith, h), ap (name_by down x l) z ∙ r.2)

-- ---- the names of several

pub named_append : (xs ys : List Stretch) → named (xs ++ ys) ≡ named xs ++ named ys
named_append [] ys = refl
named_append (r ∷ rs) ys = ap (λ ns. names_of r ++ ns) (named_append rs ys) ∙ sym (append_assoc (names_of r) (named rs) (named ys))

pub named_snoc : (rs : List Stretch) (r : Stretch) → named (rs ++ r ∷ []) ≡ named rs ++ names_of r
named_snoc rs r = named_append rs (r ∷ []) ∙ ap (λ ns. named rs ++ ns) (no_more (names_of r))
  where
    no_more : (ns : Names) → ns ++ [] ≡ ns
    no_more [] = refl
    no_more (n ∷ ns) = ap (λ ms. n ∷ ms) (no_more ns)

pub in_named : (rs : List Stretch) (n : List Tuple × ℕ) → IsIn n (named rs) → (i : ℕ) × (r : Stretch) × (k : ℕ) × (slice_get rs i ≡ Some r) × (k < r.len) × (name_at r k ≡ n)
in_named [] n p = absurd p
in_named (r ∷ rs) n p = go (in_split n (names_of r) (named rs) p) (λ q. in_named rs n q)
  where
    go : IsIn n (names_of r) ⊎ IsIn n (named rs) → (IsIn n (named rs) → (i : ℕ) × (s : Stretch) × (k : ℕ) × (slice_get rs i ≡ Some s) × (k < s.len) × (name_at s k ≡ n)) →
        (i : ℕ) × (s : Stretch) × (k : ℕ) × (slice_get (r ∷ rs) i ≡ Some s) × (k < s.len) × (name_at s k ≡ n)
    go (inl q) ih =
        let w = in_names r.down r.first r.label 0 r.len n q in
        let z : w.0 ≡ 0 + w.0 = omega arith in
        (0, r, w.0, refl, w.1, ap (name_at r) z ∙ w.2)
    go (inr q) ih = let w = ih q in (suc w.0, w.1, w.2, w.3, w.4, w.5)

pub name_in : (r : Stretch) (k : ℕ) → k < r.len → IsIn (name_at r k) (names_of r)
name_in r k h =
    let z : 0 + k ≡ k = omega arith in
    get_in (names_of r) k (name_at r k) (names_get r.down r.first r.label 0 r.len k h ∙ ap (λ m. Some (name_at r m)) z)

pub named_in : (rs : List Stretch) (i : ℕ) (r : Stretch) (k : ℕ) → slice_get rs i ≡ Some r → k < r.len → IsIn (name_at r k) (named rs)
named_in [] i r k g h = absurd (cc)
named_in (q ∷ qs) zero r k g h = let e : q ≡ r = some_is q r g in in_left (name_at r k) (names_of q) (named qs) (subst (λ s. IsIn (name_at r k) (names_of s)) (sym e) (name_in r k h))
named_in (q ∷ qs) (suc i) r k g h = in_right (name_at r k) (names_of q) (named qs) (named_in qs i r k g h)

-- ---- the other way round

pub reverse_cons : {A : Type 0} (x : A) (xs : List A) → reverse (x ∷ xs) ≡ reverse xs ++ x ∷ []
reverse_cons x xs = reverse-append (x ∷ []) xs

pub in_reverse : {A : Type 0} (x : A) (xs : List A) → IsIn x xs → IsIn x (reverse xs)
in_reverse x [] p = absurd p
in_reverse x (y ∷ ys) (inl e) = subst (IsIn x) (sym (reverse_cons y ys)) (in_right x (reverse ys) (y ∷ []) (inl e))
in_reverse x (y ∷ ys) (inr p) = subst (IsIn x) (sym (reverse_cons y ys)) (in_left x (reverse ys) (y ∷ []) (in_reverse x ys p))

pub reverse_in : {A : Type 0} (x : A) (xs : List A) → IsIn x (reverse xs) → IsIn x xs
reverse_in x xs p = subst (IsIn x) (reverse-reverse xs) (in_reverse x (reverse xs) p)

-- ---- names apart from others

pub none_both : (fs bs : Names) (x : List Tuple) → label_of (fs ++ bs) x ≡ None → (label_of fs x ≡ None) × (label_of bs x ≡ None)
none_both [] bs x e = (refl, e)
none_both (n ∷ fs) bs x e = bool_cases (ident_eq n.0 x)
    (λ t. absurd (let q = sym (ap (λ (c : Bool). if c then Some n.1 else label_of (fs ++ bs) x) t) ∙ e in cc))
    (λ t. let r = none_both fs bs x (sym (ap (λ (c : Bool). if c then Some n.1 else label_of (fs ++ bs) x) t) ∙ e) in
    (ap (λ (c : Bool). if c then Some n.1 else label_of fs x) t ∙ r.0, r.1))

pub none_in : (ns : Names) (x : List Tuple) (l : ℕ) → label_of ns x ≡ None → IsIn (x, l) ns → ⊥
none_in [] x l e p = absurd p
none_in (n ∷ ns) x l e (inl q) =
    let t = same_eq n.0 x (ap (λ (m : List Tuple × ℕ). m.0) q) in
    let s = sym (ap (λ (c : Bool). if c then Some n.1 else label_of ns x) t) ∙ e in
    absurd (cc)
none_in (n ∷ ns) x l e (inr p) = bool_cases (ident_eq n.0 x)
    (λ t. absurd (let s = sym (ap (λ (c : Bool). if c then Some n.1 else label_of ns x) t) ∙ e in cc))
    (λ t. none_in ns x l (sym (ap (λ (c : Bool). if c then Some n.1 else label_of ns x) t) ∙ e) p)

pub apart_front : (fs bs : Names) → AreApart (fs ++ bs) → AreApart fs
apart_front [] bs a = tt
apart_front (n ∷ fs) bs a = ((none_both fs bs n.0 a.0).0, apart_front fs bs a.1)

apart_both : (fs bs : Names) (x : List Tuple) (l m : ℕ) → AreApart (fs ++ bs) → IsIn (x, l) fs → IsIn (x, m) bs → ⊥
apart_both [] bs x l m a p q = absurd p
apart_both (n ∷ fs) bs x l m a (inl e) q = none_in bs x m (subst (λ y. label_of bs y ≡ None) (ap (λ (w : List Tuple × ℕ). w.0) e) (none_both fs bs n.0 a.0).1) q
apart_both (n ∷ fs) bs x l m a (inr p) q = apart_both fs bs x l m a.1 p q

later_apart : (r : Stretch) (rs : List Stretch) → AreApart (reverse (named (r ∷ rs))) → AreApart (reverse (named rs) ++ reverse (names_of r))
later_apart r rs a = subst AreApart (reverse-append (names_of r) (named rs)) a

-- an identifier is in one run
pub one_run : (rs : List Stretch) (i j : ℕ) (r s : Stretch) (k m : ℕ) → AreApart (reverse (named rs)) → slice_get rs i ≡ Some r → slice_get rs j ≡ Some s → k < r.len → m < s.len → (name_at r k).0 ≡ (name_at s m).0 → i ≡ j
one_run [] i j r s k m a g h p q e = absurd (cc)
one_run (t ∷ ts) zero zero r s k m a g h p q e = refl
one_run (t ∷ ts) zero (suc j) r s k m a g h p q e =
    let same : t ≡ r = some_is t r g in
    let here = subst (λ (u : Stretch). IsIn (name_at r k) (names_of u)) (sym same) (name_in r k p) in
    let there = named_in ts j s m h q in
    absurd (apart_both (reverse (named ts)) (reverse (names_of t)) (name_at s m).0 (name_at s m).1 (name_at r k).1 (later_apart t ts a) (in_reverse (name_at s m) (named ts) there)
    (subst (λ y. IsIn (y, (name_at r k).1) (reverse (names_of t))) e (in_reverse (name_at r k) (names_of t) here)))
one_run (t ∷ ts) (suc i) zero r s k m a g h p q e =
    let same : t ≡ s = some_is t s h in
    let here = subst (λ (u : Stretch). IsIn (name_at s m) (names_of u)) (sym same) (name_in s m q) in
    let there = named_in ts i r k g p in
    absurd (apart_both (reverse (named ts)) (reverse (names_of t)) (name_at r k).0 (name_at r k).1 (name_at s m).1 (later_apart t ts a) (in_reverse (name_at r k) (named ts) there)
    (subst (λ y. IsIn (y, (name_at s m).1) (reverse (names_of t))) (sym e) (in_reverse (name_at s m) (names_of t) here)))
one_run (t ∷ ts) (suc i) (suc j) r s k m a g h p q e =
    ap suc (one_run ts i j r s k m (apart_front (reverse (named ts)) (reverse (names_of t)) (later_apart t ts a)) g h p q e)

-- ---- the run that begins with an identifier

pub run_there : (ds : List Stretch) (x : List Tuple) (i : ℕ) → run_of ds x ≡ Some i → (r : Stretch) × (slice_get (reverse ds) i ≡ Some r) × (r.first ≡ x) × (i < length ds)
run_there [] x i e = absurd (cc)
run_there (d ∷ ds) x i e =
    let size = length-reverse ds in
    bool_cases (ident_eq d.first x)
    (λ t. let q = some_is (length ds) i (sym (ap (λ (c : Bool). if c then Some (length ds) else run_of ds x) t) ∙ e) in
    let at : length (reverse ds) + 0 ≡ i = omega (arith, size, q) in
    (d, ap (λ zs. slice_get zs i) (reverse_cons d ds) ∙ (ap (slice_get (reverse ds ++ d ∷ [])) (sym at) ∙ get_right (reverse ds) (d ∷ []) 0), eq_same d.first x t, omega (arith, q)))
    (λ t. let w = run_there ds x i (sym (ap (λ (c : Bool). if c then Some (length ds) else run_of ds x) t) ∙ e) in
    let h = w.3 in
    (w.0, ap (λ zs. slice_get zs i) (reverse_cons d ds) ∙ (get_left (reverse ds) (d ∷ []) i (omega (arith, size, h)) ∙ w.1), w.2, omega (arith, h)))

pub run_some : (ds : List Stretch) (r : Stretch) → IsIn r ds → (i : ℕ) × (run_of ds r.first ≡ Some i)
run_some [] r p = absurd p
run_some (d ∷ ds) r (inl e) = (length ds, ap (λ (c : Bool). if c then Some (length ds) else run_of ds r.first) (same_eq d.first r.first (ap (λ (s : Stretch). s.first) e)))
run_some (d ∷ ds) r (inr p) =
    let w = run_some ds r p in
    bool_cases (ident_eq d.first r.first)
    (λ t. (length ds, ap (λ (c : Bool). if c then Some (length ds) else run_of ds r.first) t))
    (λ t. (w.0, ap (λ (c : Bool). if c then Some (length ds) else run_of ds r.first) t ∙ w.1))

pub sound_at : (rs : List Stretch) (i : ℕ) (r : Stretch) → AreSound rs → slice_get rs i ≡ Some r → IsStretch r.first r.label r.down r.len
sound_at [] i r s g = absurd (cc)
sound_at (q ∷ qs) zero r s g = subst (λ (t : Stretch). IsStretch t.first t.label t.down t.len) (some_is q r g) s.0
sound_at (q ∷ qs) (suc i) r s g = sound_at qs i r s.1 g

-- ---- a run that grows

pub as_up : (down : Bool) (x : List Tuple) (l n : ℕ) → (n ≡ 1) ⊎ (down ≡ false) → names_by down x l 0 n ≡ names_by false x l 0 n
as_up false x l n h = refl
as_up true x l n (inl e) = ap (names_by true x l 0) e ∙ (one_name true x l ∙ (sym (one_name false x l) ∙ ap (names_by false x l 0) (sym e)))
as_up true x l n (inr e) = absurd (cc)

pub as_down : (down : Bool) (x : List Tuple) (l n : ℕ) → (n ≡ 1) ⊎ (down ≡ true) → names_by down x l 0 n ≡ names_by true x l 0 n
as_down true x l n h = refl
as_down false x l n (inl e) = ap (names_by false x l 0) e ∙ (one_name false x l ∙ (sym (one_name true x l) ∙ ap (names_by true x l 0) (sym e)))
as_down false x l n (inr e) = absurd (cc)

pub taken_up : (down : Bool) (x y : List Tuple) (l m n : ℕ) → names_by down x l 0 n ≡ names_by false x l 0 n → y ≡ shifted (pos n) x → m ≡ l + n → names_by false x l 0 (n + 1) ≡ names_by down x l 0 n ++ (y, m) ∷ []
taken_up down x y l m n e f g =
    names_more false x l n ∙ (ap (λ ns. ns ++ name_by false x l n ∷ []) (sym e) ∙ (ap (λ z. names_by down x l 0 n ++ (z, l + n) ∷ []) (sym f) ∙ ap (λ k. names_by down x l 0 n ++ (y, k) ∷ []) (sym g)))

pub taken_down : (down : Bool) (x y : List Tuple) (l m n : ℕ) → names_by down x l 0 n ≡ names_by true x l 0 n → x ≡ shifted (pos n) y → m + n ≡ l → names_by true x l 0 (n + 1) ≡ names_by down x l 0 n ++ (y, m) ∷ []
taken_down down x y l m n e f g =
    let z : pos n +ℤ (pos 0 -ℤ pos n) ≡ pos 0 = omega (arith, ints) in
    let back : shifted (pos 0 -ℤ pos n) x ≡ y = ap (shifted (pos 0 -ℤ pos n)) f ∙ (shifted_shifted (pos 0 -ℤ pos n) (pos n) y ∙ (ap (λ d. shifted d y) z ∙ shifted_none y)) in
    let less : l - n ≡ m = omega (arith, g) in
    names_more true x l n ∙ (ap (λ ns. ns ++ name_by true x l n ∷ []) (sym e) ∙ (ap (λ w. names_by down x l 0 n ++ (w, l - n) ∷ []) back ∙ ap (λ k. names_by down x l 0 n ++ (y, k) ∷ []) less))

bounded_offset : (t : Tuple) → is_last_bounded t ≡ true → (least_offset ≤ℤ offset_of t) × (offset_of t ≤ℤ greatest_offset)
bounded_offset Low h = absurd (cc)
bounded_offset (At p r s o) h = (int_le_is least_offset o (and_left (int_le least_offset o) (int_le o greatest_offset) h), int_le_is o greatest_offset (and_right (int_le least_offset o) (int_le o greatest_offset) h))
bounded_offset High h = absurd (cc)

pub up_within : (x y : List Tuple) (l m n : ℕ) → IsIdent x → y ≡ shifted (pos n) x → is_last_bounded (last_of y) ≡ true → m ≡ l + n → m < 2 ^ 64 → IsStretch x l false (n + 1)
up_within x y l m n i e b g h =
    let o = (bounded_offset (last_of y) b).1 in
    let there : offset_of (last_of y) ≡ offset_of (last_of x) +ℤ pos n = ap (λ z. offset_of (last_of z)) e ∙ last_offset (pos n) x i in
    record { some = omega arith; ident = i; within = (omega (arith, ints, o, there), omega (arith, g, h)) }

pub down_within : (x y : List Tuple) (l m n : ℕ) → IsIdent x → IsIdent y → x ≡ shifted (pos n) y → is_last_bounded (last_of y) ≡ true → m + n ≡ l → IsStretch x l true (n + 1)
down_within x y l m n i j e b g =
    let o = (bounded_offset (last_of y) b).0 in
    let there : offset_of (last_of x) ≡ offset_of (last_of y) +ℤ pos n = ap (λ z. offset_of (last_of z)) e ∙ last_offset (pos n) y j in
    record { some = omega arith; ident = i; within = (omega (arith, ints, o, there), omega (arith, g)) }

pub one_within : (x : List Tuple) (l : ℕ) → IsIdent x → is_last_bounded (last_of x) ≡ true → l < 2 ^ 64 → IsStretch x l false 1
one_within x l i b h = let o = (bounded_offset (last_of x) b).1 in record { some = omega arith; ident = i; within = (omega (arith, ints, o), omega (arith, h)) }

-- a run that shrinks
pub short_within : (x : List Tuple) (l : ℕ) (down : Bool) (n : ℕ) → 1 < n → IsStretch x l down n → IsStretch x l down (n - 1)
short_within x l false n h s = let a = s.within.0 in let b = s.within.1 in record { some = omega (arith, h); ident = s.ident; within = (omega (arith, ints, h, a), omega (arith, b)) }
short_within x l true n h s = let a = s.within.0 in let b = s.within.1 in record { some = omega (arith, h); ident = s.ident; within = (omega (arith, ints, h, a), omega (arith, b)) }

pub shorter : (down : Bool) (x : List Tuple) (l n : ℕ) → 0 < n → names_by down x l 0 n ≡ names_by down x l 0 (n - 1) ++ name_by down x l (n - 1) ∷ []
shorter down x l n h = let e : n ≡ (n - 1) + 1 = omega (arith, h) in ap (names_by down x l 0) e ∙ names_more down x l (n - 1)

-- ---- the least and the greatest of a run

pub labels_down : (d : Bool) (x : List Tuple) (l m : ℕ) (n : List Tuple × ℕ) → d ≡ true → IsIn n (names_by d x l 0 m) → (label_by d l (m - 1) ≤ n.1) × (n.1 ≤ l)
labels_down false x l m n q p = absurd (cc)
labels_down true x l m n q p =
    let w = in_names true x l 0 m n p in
    let e = ap (λ (k : List Tuple × ℕ). k.1) w.2 in
    (omega (arith, e, w.1), omega (arith, e, w.1))

pub labels_up : (d : Bool) (x : List Tuple) (l m : ℕ) (n : List Tuple × ℕ) → d ≡ false → IsIn n (names_by d x l 0 m) → (l ≤ n.1) × (n.1 ≤ label_by d l (m - 1))
labels_up true x l m n q p = absurd (cc)
labels_up false x l m n q p =
    let w = in_names false x l 0 m n p in
    let e = ap (λ (k : List Tuple × ℕ). k.1) w.2 in
    (omega (arith, e, w.1), omega (arith, e, w.1))

pub order_down : (d : Bool) (l k : ℕ) → d ≡ true → label_by d l k ≤ l
order_down false l k q = absurd (cc)
order_down true l k q = omega arith

pub order_up : (d : Bool) (l k : ℕ) → d ≡ false → l ≤ label_by d l k
order_up true l k q = absurd (cc)
order_up false l k q = omega arith

-- the least identifier of a run is so far from another one
low_down : (r : Stretch) (y : List Tuple) (k j : ℕ) → r.down ≡ true → y ≡ (name_at r (r.len - 1)).0 → k + j ≡ r.len - 1 → (name_at r k).0 ≡ shifted (pos j) y
low_down r y k j d e s =
    let low : y ≡ shifted (pos 0 -ℤ pos (r.len - 1)) r.first = e ∙ ap (λ (c : Bool). shifted (step_by c (r.len - 1)) r.first) d in
    let by : (pos 0 -ℤ pos (r.len - 1)) +ℤ pos j ≡ pos 0 -ℤ pos k = omega (arith, ints, s) in
    ap (λ (c : Bool). shifted (step_by c k) r.first) d
    ∙ (ap (λ z. shifted z r.first) (sym by) ∙ (sym (shifted_shifted (pos j) (pos 0 -ℤ pos (r.len - 1)) r.first) ∙ ap (shifted (pos j)) (sym low)))

low_up : (r : Stretch) (y : List Tuple) (k : ℕ) → r.down ≡ false → y ≡ r.first → (name_at r k).0 ≡ shifted (pos k) y
low_up r y k d e = ap (λ (c : Bool). shifted (step_by c k) r.first) d ∙ ap (shifted (pos k)) (sym e)

pub ends_down : (r : Stretch) (y : List Tuple) → r.down ≡ true → y ≡ (name_at r (r.len - 1)).0 → (k : ℕ) → k < r.len → (j : ℕ) × (j < r.len) × ((name_at r k).0 ≡ shifted (pos j) y)
ends_down r y d e k s = (r.len - 1 - k, omega (arith, s), low_down r y k (r.len - 1 - k) d e (omega (arith, s)))

pub ends_up : (r : Stretch) (y : List Tuple) → r.down ≡ false → y ≡ r.first → (k : ℕ) → k < r.len → (j : ℕ) × (j < r.len) × ((name_at r k).0 ≡ shifted (pos j) y)
ends_up r y d e k s = (k, s, low_up r y k d e)

pub each_down : (r : Stretch) (y : List Tuple) → r.down ≡ true → y ≡ (name_at r (r.len - 1)).0 → (j : ℕ) → j < r.len → (k : ℕ) × (k < r.len) × ((name_at r k).0 ≡ shifted (pos j) y)
each_down r y d e j s = (r.len - 1 - j, omega (arith, s), low_down r y (r.len - 1 - j) j d e (omega (arith, s)))

pub each_up : (r : Stretch) (y : List Tuple) → r.down ≡ false → y ≡ r.first → (j : ℕ) → j < r.len → (k : ℕ) × (k < r.len) × ((name_at r k).0 ≡ shifted (pos j) y)
each_up r y d e j s = (j, s, low_up r y j d e)

-- ---- places in a run

pub label_down : (d : Bool) (o : ℤ) (l n k m : ℕ) → d ≡ true → IsWithin d o l n → k < n → label_by d l k ≡ m → m + k ≡ l
label_down false o l n k m q w h e = absurd (cc)
label_down true o l n k m q w h e = let room = w.1 in omega (arith, room, h, e)

pub label_up : (d : Bool) (l k m : ℕ) → d ≡ false → label_by d l k ≡ m → l + k ≡ m
label_up false l k m q e = e
label_up true l k m q e = absurd (cc)

pub shifted_offset : (x y : List Tuple) (s t : Spot) (k : ℕ) → IsIdent x → last_of x ≡ at_spot s → last_of y ≡ at_spot t → y ≡ shifted (pos k) x → s.offset +ℤ pos k ≡ t.offset
shifted_offset x y s t k i p q e =
    ap (λ o. o +ℤ pos k) (sym (ap offset_of p)) ∙ (sym (last_offset (pos k) x i) ∙ (ap (λ z. offset_of (last_of z)) (sym e) ∙ ap offset_of q))

pub follows_not : (x y : List Tuple) (s t : Spot) (k by : ℕ) → IsIdent x → last_of x ≡ at_spot s → last_of y ≡ at_spot t → s.offset +ℤ pos by ≡ t.offset → ident_eq y (shifted (pos by) x) ≡ false → y ≡ shifted (pos k) x → ⊥
follows_not x y s t k by i p q w f e =
    let there = shifted_offset x y s t k i p q e in
    let same : k ≡ by = omega (arith, ints, there, w) in
    let yes = same_eq y (shifted (pos by) x) (e ∙ ap (λ n. shifted (pos n) x) same) in
    absurd (cc)

pub found_down : (d : Bool) (x y : List Tuple) (n : ℕ) (o : Option ℕ) → d ≡ true → IfSome o (λ k. (k < n) × (y ≡ shifted (pos k) x)) → IfSome o (λ k. (k < n) × (shifted (step_by d k) y ≡ x))
found_down d x y n None e w = tt
found_down d x y n (Some k) e w =
    let z : pos k +ℤ (pos 0 -ℤ pos k) ≡ pos 0 = omega (arith, ints) in
    (w.0, ap (λ (c : Bool). shifted (step_by c k) y) e ∙ (ap (shifted (pos 0 -ℤ pos k)) w.1 ∙ (shifted_shifted (pos 0 -ℤ pos k) (pos k) x ∙ (ap (λ m. shifted m x) z ∙ shifted_none x))))

pub missed_down : (d : Bool) (x y : List Tuple) (n : ℕ) → d ≡ true → ((k : ℕ) → k < n → y ≡ shifted (pos k) x → ⊥) → (k : ℕ) → k < n → shifted (step_by d k) y ≡ x → ⊥
missed_down d x y n e f k h q =
    let z : (pos 0 -ℤ pos k) +ℤ pos k ≡ pos 0 = omega (arith, ints) in
    let back : shifted (pos 0 -ℤ pos k) y ≡ x = ap (λ (c : Bool). shifted (step_by c k) y) (sym e) ∙ q in
    f k h (sym (ap (shifted (pos k)) (sym back) ∙ (shifted_shifted (pos k) (pos 0 -ℤ pos k) y ∙ (ap (λ m. shifted m y) z ∙ shifted_none y))))

-- ---- names upwards from one of a run

rest_by : (d : Bool) (x : List Tuple) (l k j : ℕ) → d ≡ false → name_by d x l (k + j) ≡ (shifted (pos j) (name_by d x l k).0, (name_by d x l k).1 + j)
rest_by true x l k j e = absurd (cc)
rest_by false x l k j e =
    let by : pos (k + j) ≡ pos k +ℤ pos j = omega (arith, ints) in
    let sum : l + (k + j) ≡ (l + k) + j = omega arith in
    ap (λ y. (y, l + (k + j))) (ap (λ z. shifted z x) by ∙ sym (shifted_shifted (pos j) (pos k) x)) ∙ ap (λ m. (shifted (pos j) (shifted (pos k) x), m)) sum

back_by : (d : Bool) (x : List Tuple) (l k j : ℕ) → d ≡ true → k ≤ l → j ≤ k → name_by d x l (k - j) ≡ (shifted (pos j) (name_by d x l k).0, (name_by d x l k).1 + j)
back_by false x l k j e room h = absurd (cc)
back_by true x l k j e room h =
    let by : pos 0 -ℤ pos (k - j) ≡ (pos 0 -ℤ pos k) +ℤ pos j = omega (arith, ints, h) in
    let sum : l - (k - j) ≡ (l - k) + j = omega (arith, room, h) in
    ap (λ y. (y, l - (k - j))) (ap (λ z. shifted z x) by ∙ sym (shifted_shifted (pos j) (pos 0 -ℤ pos k) x)) ∙ ap (λ m. (shifted (pos j) (shifted (pos 0 -ℤ pos k) x), m)) sum

pub rest_up : (r : Stretch) (k n : ℕ) → r.down ≡ false → n ≡ r.len - k → AreLabelsOf r (name_at r k).0 (Some ((name_at r k).1, n))
rest_up r k n d e = λ j h. (k + j, omega (arith, h, e), rest_by r.down r.first r.label k j d)

pub rest_down : (r : Stretch) (k n : ℕ) → IsStretch r.first r.label r.down r.len → r.down ≡ true → k < r.len → n ≡ k + 1 → AreLabelsOf r (name_at r k).0 (Some ((name_at r k).1, n))
rest_down r k n s d short e = λ j h. (k - j, omega (arith, short), back_by r.down r.first r.label k j d (go r.down d s.within) (omega (arith, h, e)))
  where
    go : (c : Bool) → c ≡ true → IsWithin c (offset_of (last_of r.first)) r.label r.len → k ≤ r.label
    go false q w = absurd (cc)
    go true q w = let room = w.1 in omega (arith, room, short)

pub room_down : (r : Stretch) (k n : ℕ) → r.label < 2 ^ 64 → IsStretch r.first r.label r.down r.len → r.down ≡ true → k < r.len → n ≡ k + 1 → (name_at r k).1 + n ≤ 2 ^ 64
room_down r k n few s d h e = go r.down d s.within
  where
    go : (c : Bool) → c ≡ true → IsWithin c (offset_of (last_of r.first)) r.label r.len → label_by c r.label k + n ≤ 2 ^ 64
    go false q w = absurd (cc)
    go true q w = let room = w.1 in omega (arith, room, h, e, few)
