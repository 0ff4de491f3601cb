-- A run of names that is added at once: none of its identifiers has a name, and they are apart.
use Rattle.std.proofs.Common.{◌≡◌, ℕ, zero, suc, ◌+◌, ◌-◌, ◌<◌, ◌≤◌, Bool, true, false, List, [], ◌∷◌, ◌++◌, length, take, get_or, inl, inr, refl, sym, ap, ◌∙◌, subst, arith}
use Rattle.std.specs.Prelude.{pos, ◌+ℤ◌, ◌-ℤ◌, nat_lt, reverse, zip, slice_get, Option, Some, None, if◌then◌else◌, is_some}
use Rattle.std.specs.Ordering.{is_gt}
use Rattle.std.proofs.lemmas.Int.{ints}
use Rattle.std.proofs.lemmas.List.{append-nil, reverse-append, reverse-reverse}
use Rattle.rls_ident.specs.declared.tuple.Tuple.{Tuple}
use Rattle.rls_ident.specs.Tuples.{offset_of}
use Rattle.rls_ident.specs.Identifiers.{IsIdent, ident_eq, last_of, shifted}
use Rattle.rls_ident.specs.Lists.{IsIn}
use Rattle.rls_ident.proofs.Ends.{eq_same}
use Rattle.rls_ident.proofs.Members.{bool_cases, lt_is, not_lt_is, some_is}
use Rattle.rls_ident.proofs.Shifted.{shifted_shifted, shifted_none, last_offset}
use Rattle.rls_runs.specs.Runs.{run_idents}
use Rattle.rls_steps.specs.declared.key.Key.{Key}
use Rattle.rls_steps.specs.Labelled.{Names, label_of}
use Rattle.rls_steps.specs.Marks.{numbers_from}
use Rattle.rls_steps.specs.NameRuns.{Stretch, IsStretch, IsAbove, IsLabelOf, AreLabelsIn, AreOutside, AreOutsideIn, step_by, name_by, names_by, name_at, names_of, named, wide_cmp, key_cmp}
use Rattle.rls_steps.specs.Index.{AreApart}
use Rattle.rls_steps.proofs.Tabling.{take_snoc}
use Rattle.rls_steps.proofs.Giving.{reverse_snoc, numbers_snoc}
use Rattle.rls_steps.proofs.Widths.{between, on_up}
use Rattle.rls_steps.proofs.Stretches.{first_by, name_in, names_suc, in_names, in_named, named_in, none_in, in_reverse, reverse_in, run_there, sound_at}
use Rattle.rls_steps.proofs.Found.{label_name}
use Rattle.rls_steps.proofs.RunLookups.{IsAbout, first_there, run_is}

-- ---- identifiers of a run are apart

idents_apart : (d : Bool) (x : List Tuple) (j m : ℕ) → IsIdent x → shifted (step_by d j) x ≡ shifted (step_by d m) x → j ≡ m
idents_apart d x j m i e =
    let same : offset_of (last_of x) +ℤ step_by d j ≡ offset_of (last_of x) +ℤ step_by d m = sym (last_offset (step_by d j) x i) ∙ (ap (λ y. offset_of (last_of y)) e ∙ last_offset (step_by d m) x i) in
    go d same
  where
    go : (c : Bool) → offset_of (last_of x) +ℤ step_by c j ≡ offset_of (last_of x) +ℤ step_by c m → j ≡ m
    go false q = omega (arith, ints, q)
    go true q = omega (arith, ints, q)

label_skip : (xs ys : Names) (y : List Tuple) → ((n : List Tuple × ℕ) → IsIn n xs → n.0 ≡ y → ⊥) → label_of (xs ++ ys) y ≡ label_of ys y
label_skip [] ys y f = refl
label_skip (x ∷ xs) ys y f = bool_cases (ident_eq x.0 y)
    (λ b. absurd (f x (inl refl) (eq_same x.0 y b)))
    (λ b. ap (λ (c : Bool). if c then Some x.1 else label_of (xs ++ ys) y) b ∙ label_skip xs ys y (λ n p. f n (inr p)))

-- the next identifier of a run, behind those that have names, has none
pub later_free : (d : Bool) (x : List Tuple) (l m : ℕ) (ys : Names) → IsIdent x → label_of ys (name_by d x l m).0 ≡ None → label_of (reverse (names_by d x l 0 m) ++ ys) (name_by d x l m).0 ≡ None
later_free d x l m ys i f = label_skip (reverse (names_by d x l 0 m)) ys (name_by d x l m).0 none ∙ f
  where
    none : (n : List Tuple × ℕ) → IsIn n (reverse (names_by d x l 0 m)) → n.0 ≡ (name_by d x l m).0 → ⊥
    none n p e =
        let w = in_names d x l 0 m n (reverse_in n (names_by d x l 0 m) p) in
        let z : w.0 ≡ 0 + w.0 = omega arith in
        let h = w.1 in
        let same = idents_apart d x w.0 m i (ap (λ j. (name_by d x l j).0) z ∙ (ap (λ (k : List Tuple × ℕ). k.0) w.2 ∙ e)) in
        absurd (omega (arith, same, h))

names_apart : (d : Bool) (x : List Tuple) (l m : ℕ) (ys : Names) → IsIdent x → AreApart ys → ((k : ℕ) → k < m → label_of ys (name_by d x l k).0 ≡ None) → AreApart (reverse (names_by d x l 0 m) ++ ys)
names_apart d x l zero ys i a f = a
names_apart d x l (suc m) ys i a f =
    let ns = names_by d x l 0 m in
    let z : 0 + m ≡ m = omega arith in
    let whole : reverse (names_by d x l 0 (suc m)) ++ ys ≡ name_by d x l m ∷ (reverse ns ++ ys) =
    ap (λ (zs : Names). reverse zs ++ ys) (names_suc d x l 0 m ∙ ap (λ j. ns ++ name_by d x l j ∷ []) z) ∙ ap (λ (zs : Names). zs ++ ys) (reverse_snoc ns (name_by d x l m)) in
    subst AreApart (sym whole) (later_free d x l m ys i (f m (omega arith)), names_apart d x l m ys i a (λ k h. f k (omega (arith, h))))

pub run_apart : (r : Stretch) (ys : Names) → IsStretch r.first r.label r.down r.len → AreApart ys → ((k : ℕ) → k < r.len → label_of ys (name_at r k).0 ≡ None) → AreApart (reverse (names_of r) ++ ys)
run_apart r ys s a f = names_apart r.down r.first r.label r.len ys s.ident a f

-- ---- identifiers before a run

-- how far one is from another
nearer : (x y : List Tuple) (i j : ℕ) → i ≤ j → shifted (pos j) x ≡ shifted (pos i) y → shifted (pos (j - i)) x ≡ y
nearer x y i j h e =
    let by : pos j +ℤ (pos 0 -ℤ pos i) ≡ pos (j - i) = omega (arith, ints, h) in
    let z : pos i +ℤ (pos 0 -ℤ pos i) ≡ pos 0 = omega (arith, ints) in
    ap (λ d. shifted d x) (sym by)
    ∙ (sym (shifted_shifted (pos 0 -ℤ pos i) (pos j) x) ∙ (ap (shifted (pos 0 -ℤ pos i)) e ∙ (shifted_shifted (pos 0 -ℤ pos i) (pos i) y ∙ (ap (λ d. shifted d y) z ∙ shifted_none y))))

-- where the least of a run is y, and isn't among n identifiers from x on
pub outside : (r : Stretch) (x y : List Tuple) (n : ℕ) → ((k : ℕ) → k < r.len → (j : ℕ) × (j < r.len) × ((name_at r k).0 ≡ shifted (pos j) y)) → ((j : ℕ) → j < r.len → (k : ℕ) × (k < r.len) × ((name_at r k).0 ≡ shifted (pos j) y)) →
    ((m : ℕ) → m < n → y ≡ shifted (pos m) x → ⊥) → AreOutside r x n
outside r x y n all each far = λ none j h k g e.
    let w = all k g in
    let short = w.1 in
    let same : shifted (pos w.0) y ≡ shifted (pos j) x = sym w.2 ∙ e in
    bool_cases (nat_lt j w.0)
    (λ t. let less = lt_is j w.0 t in
    let v = each (w.0 - j) (omega (arith, short)) in
    none v.0 v.1 (v.2 ∙ nearer y x j w.0 (omega (arith, less)) same))
    (λ t. far (j - w.0) (omega (arith, h)) (sym (nearer x y w.0 j (not_lt_is j w.0 t) (sym same))))

pub far_from : (x y : List Tuple) (p m : ℕ) → IsIdent x → y ≡ shifted (pos p) x → m < p → y ≡ shifted (pos m) x → ⊥
far_from x y p m i e h f = let same = idents_apart false x m p i (sym f ∙ e) in absurd (omega (arith, same, h))

pub some_before : (r : Stretch) (x y : List Tuple) (p : ℕ) → ((j : ℕ) → j < r.len → (k : ℕ) × (k < r.len) × ((name_at r k).0 ≡ shifted (pos j) y)) → 0 < r.len → y ≡ shifted (pos p) x → IsLabelOf r x None → 0 < p
some_before r x y zero each some e none = let w = each 0 some in absurd (none w.0 w.1 (w.2 ∙ (shifted_none y ∙ (e ∙ shifted_none x))))
some_before r x y (suc p) each some e none = omega arith

-- ---- none of them has a name

-- a name of a run has a label
has_label : (rs : List Stretch) (i m : ℕ) (r : Stretch) (x : List Tuple) → slice_get rs i ≡ Some r → m < r.len → (name_at r m).0 ≡ x → label_of (reverse (named rs)) x ≡ None → ⊥
has_label rs i m r x g h e none =
    none_in (reverse (named rs)) x (name_at r m).1 none (subst (λ y. IsIn (y, (name_at r m).1) (reverse (named rs))) e (in_reverse (name_at r m) (named rs) (named_in rs i r m g h)))

pub not_there : (rs : List Stretch) (a : Option ℕ) (x : List Tuple) (n : ℕ) → AreOutsideIn rs a x n → label_of (reverse (named rs)) x ≡ None → AreLabelsIn rs a x None
not_there rs None x n out none = refl
not_there rs (Some i) x n out none = (out.0, out.1, λ m h e. has_label rs i m out.0 x out.1 h e none)

-- the run that begins next, from an identifier on, is the one that has a later identifier, or it begins before that
meets : (rs : List Stretch) (es : List (Key × ℕ)) (low own : Key) (a : Option ℕ) (n k q i m : ℕ) (r : Stretch) → IsAbout rs es → IsIdent low.ident → IsAbove es low a → AreOutsideIn rs a low.ident n → label_of (reverse (named rs)) low.ident ≡ None →
    slice_get rs i ≡ Some r → m < r.len → k < n → (name_at r m).0 ≡ shifted (pos k) low.ident → own.ident ≡ r.first → r.first ≡ shifted (pos q) low.ident → ((j : ℕ) → k < j → j ≤ q → (t : ℕ) × (t < r.len) × ((name_at r t).0 ≡ shifted (pos j) low.ident)) → ⊥
meets rs es low own None n k q i m r o ident above out none g h less e p f all =
    let there = first_there rs es i r own o.firsts g p in
    let up : is_gt (key_cmp low own) ≡ false = ap (λ y. is_gt (wide_cmp low.ident y)) (p ∙ f) ∙ on_up low.ident q ident in
    let gone = above own up in
    let some = there.1 in
    absurd (cc)
meets rs es low own (Some b) n k q i m r o ident above out none g h less e p f all =
    let there = first_there rs es i r own o.firsts g p in
    let up : is_gt (key_cmp low own) ≡ false = ap (λ y. is_gt (wide_cmp low.ident y)) (p ∙ f) ∙ on_up low.ident q ident in
    let key = above.0 in
    let least = above.3 own up (ap is_some there.1) in
    let high : is_gt (wide_cmp key.ident (shifted (pos q) low.ident)) ≡ false = ap (λ y. is_gt (wide_cmp key.ident y)) (sym (p ∙ f)) ∙ least in
    let w = between low.ident key.ident q ident above.2 high in
    let s = out.0 in
    let apart = out.2 (λ t u v. has_label rs b t s low.ident out.1 u v none) in
    let v = run_there (reverse rs) key.ident b (sym (o.firsts key) ∙ above.1) in
    let at : slice_get rs b ≡ Some v.0 = ap (λ (zs : List Stretch). slice_get zs b) (sym (reverse-reverse rs)) ∙ v.1 in
    let same : s ≡ v.0 = some_is s v.0 (sym out.1 ∙ at) in
    let begins : s.first ≡ shifted (pos w.0) low.ident = ap (λ (u : Stretch). u.first) same ∙ (v.2 ∙ sym w.2) in
    bool_cases (nat_lt k w.0)
    (λ t. let x = all w.0 (lt_is k w.0 t) w.1 in
    let here = run_is rs es key i b x.0 r o.apart o.sound o.firsts above.1 g x.1 (x.2 ∙ w.2) in
    let is : s ≡ r = some_is s r (sym out.1 ∙ here) in
    apart k less m (subst (λ (u : Stretch). m < u.len) (sym is) h) (ap (λ (u : Stretch). (name_at u m).0) is ∙ e))
    (λ t. let few = not_lt_is k w.0 t in
    apart w.0 (omega (arith, few, less)) 0 (sound_at rs b s o.sound out.1).some (ap (λ (u : List Tuple × ℕ). u.0) (first_by s.down s.first s.label) ∙ begins))

first_up : (r : Stretch) (x : List Tuple) (k m : ℕ) → r.down ≡ false → m ≤ k → (name_at r m).0 ≡ shifted (pos k) x → r.first ≡ shifted (pos (k - m)) x
first_up r x k m d h e = sym (nearer x r.first m k h (sym (ap (λ (c : Bool). shifted (step_by c m) r.first) (sym d) ∙ e)))

first_down : (r : Stretch) (x : List Tuple) (k m : ℕ) → r.down ≡ true → (name_at r m).0 ≡ shifted (pos k) x → r.first ≡ shifted (pos (k + m)) x
first_down r x k m d e =
    let down : shifted (pos 0 -ℤ pos m) r.first ≡ shifted (pos k) x = ap (λ (c : Bool). shifted (step_by c m) r.first) (sym d) ∙ e in
    let by : (pos 0 -ℤ pos m) +ℤ pos m ≡ pos 0 = omega (arith, ints) in
    let on : pos k +ℤ pos m ≡ pos (k + m) = omega (arith, ints) in
    sym (shifted_shifted (pos m) (pos 0 -ℤ pos m) r.first ∙ (ap (λ z. shifted z r.first) by ∙ shifted_none r.first))
    ∙ (ap (shifted (pos m)) down ∙ (shifted_shifted (pos m) (pos k) x ∙ ap (λ z. shifted z x) on))

later_down : (r : Stretch) (x : List Tuple) (q j : ℕ) → r.down ≡ true → r.first ≡ shifted (pos q) x → j ≤ q → (name_at r (q - j)).0 ≡ shifted (pos j) x
later_down r x q j d f h =
    let by : pos q +ℤ (pos 0 -ℤ pos (q - j)) ≡ pos j = omega (arith, ints, h) in
    ap (λ (c : Bool). shifted (step_by c (q - j)) r.first) d ∙ (ap (shifted (pos 0 -ℤ pos (q - j))) f ∙ (shifted_shifted (pos 0 -ℤ pos (q - j)) (pos q) x ∙ ap (λ z. shifted z x) by))

no_name : (rs : List Stretch) (es : List (Key × ℕ)) (low : Key) (a : Option ℕ) (n k i m : ℕ) (r : Stretch) → IsAbout rs es → IsIdent low.ident → IsAbove es low a → AreOutsideIn rs a low.ident n → label_of (reverse (named rs)) low.ident ≡ None →
    slice_get rs i ≡ Some r → m < r.len → k < n → (name_at r m).0 ≡ shifted (pos k) low.ident → ⊥
no_name rs es low a n k i m r o ident above out none g h less e = bool_cases r.down
    (λ d. let first = first_down r low.ident k m d e in
    meets rs es low (record { ident = r.first }) a n k (k + m) i m r o ident above out none g h less e refl first (λ j more most. (k + m - j, omega (arith, h, more), later_down r low.ident (k + m) j d first most)))
    (λ d. bool_cases (nat_lt k m)
    (λ t. let short = lt_is k m t in
    has_label rs i (m - k) r low.ident g (omega (arith, h))
    (ap (λ (c : Bool). shifted (step_by c (m - k)) r.first) d ∙ nearer r.first low.ident k m (omega (arith, short)) (ap (λ (c : Bool). shifted (step_by c m) r.first) (sym d) ∙ e)) none)
    (λ t. meets rs es low (record { ident = r.first }) a n k (k - m) i m r o ident above out none g h less e refl (first_up r low.ident k m d (not_lt_is k m t) e) (λ j more few. absurd (omega (arith, more, few)))))

pub free_run : (rs : List Stretch) (es : List (Key × ℕ)) (low : Key) (a : Option ℕ) (n : ℕ) → IsAbout rs es → IsIdent low.ident → IsAbove es low a → AreOutsideIn rs a low.ident n → label_of (reverse (named rs)) low.ident ≡ None →
    (k : ℕ) → k < n → label_of (reverse (named rs)) (shifted (pos k) low.ident) ≡ None
free_run rs es low a n o ident above out none k h = go (label_of (reverse (named rs)) (shifted (pos k) low.ident)) refl
  where
    go : (c : Option ℕ) → label_of (reverse (named rs)) (shifted (pos k) low.ident) ≡ c → c ≡ None
    go None e = refl
    go (Some l) e =
        let y = shifted (pos k) low.ident in
        let w = in_named rs (y, l) (reverse_in (y, l) (named rs) (label_name (reverse (named rs)) y l e)) in
        absurd (no_name rs es low a n k w.0 w.2 w.1 o ident above out none w.3 w.4 h (ap (λ (u : List Tuple × ℕ). u.0) w.5))

-- ---- an insertion's names, the last one first

pub falling_names : (m : ℕ) (x y : List Tuple) (l k : ℕ) → y ≡ shifted (pos m) x → k ≡ l + m → reverse (names_by true y k 0 (suc m)) ≡ zip (run_idents x (suc m)) (numbers_from l (suc m))
falling_names zero x y l k e f =
    let none : k - 0 ≡ l = omega (arith, f) in
    let z : pos 0 +ℤ (pos 0 -ℤ pos 0) ≡ pos 0 = omega (arith, ints) in
    let first : shifted (pos 0 -ℤ pos 0) y ≡ x = ap (shifted (pos 0 -ℤ pos 0)) e ∙ (shifted_shifted (pos 0 -ℤ pos 0) (pos 0) x ∙ (ap (λ d. shifted d x) z ∙ shifted_none x)) in
    ap (λ v. (v, k - 0) ∷ []) first ∙ ap (λ v. (x, v) ∷ []) none
falling_names (suc m) x y l k e f =
    let ns = names_by true y k 0 (suc m) in
    let one : 0 + suc m ≡ suc m = omega arith in
    let z : pos (suc m) +ℤ (pos 0 -ℤ pos (suc m)) ≡ pos 0 = omega (arith, ints) in
    let last : shifted (pos 0 -ℤ pos (suc m)) y ≡ x = ap (shifted (pos 0 -ℤ pos (suc m))) e ∙ (shifted_shifted (pos 0 -ℤ pos (suc m)) (pos (suc m)) x ∙ (ap (λ d. shifted d x) z ∙ shifted_none x)) in
    let label : k - suc m ≡ l = omega (arith, f) in
    let on : pos 1 +ℤ pos m ≡ pos (suc m) = omega (arith, ints) in
    let next : y ≡ shifted (pos m) (shifted (pos 1) x) = e ∙ (ap (λ d. shifted d x) (sym on) ∙ sym (shifted_shifted (pos m) (pos 1) x)) in
    ap reverse (names_suc true y k 0 (suc m) ∙ ap (λ j. ns ++ name_by true y k j ∷ []) one)
    ∙ (reverse_snoc ns (name_by true y k (suc m))
    ∙ (ap (λ v. (v, k - suc m) ∷ reverse ns) last ∙ (ap (λ v. (x, v) ∷ reverse ns) label ∙ ap (λ (zs : Names). (x, l) ∷ zs) (falling_names m (shifted (pos 1) x) y (suc l) k next (omega (arith, f))))))

pub falling_named : (old new : Names) (r : Stretch) (x y : List Tuple) (l k n : ℕ) → new ≡ old ++ names_of r → r ≡ record { first = y; label = k; down = true; len = n } → y ≡ shifted (pos (n - 1)) x → k ≡ l + (n - 1) → 0 < n →
    reverse new ≡ zip (run_idents x n) (numbers_from l n) ++ reverse old
falling_named old new r x y l k n e q f g h =
    let m = n - 1 in
    let size : n ≡ suc m = omega (arith, h) in
    let names : reverse (names_of r) ≡ zip (run_idents x n) (numbers_from l n) =
    ap (λ (u : Stretch). reverse (names_of u)) q
    ∙ (ap (λ j. reverse (names_by true y k 0 j)) size ∙ (falling_names m x y l k f g ∙ ap (λ j. zip (run_idents x j) (numbers_from l j)) (sym size))) in
    ap reverse e ∙ (reverse-append old (names_of r) ∙ ap (λ (zs : Names). zs ++ reverse old) names)

-- labels that follow one another
pub rising_next : (ls : List ℕ) (first i x : ℕ) → slice_get ls i ≡ Some x → x ≡ first + i → take i ls ≡ numbers_from first i → take (i + 1) ls ≡ numbers_from first (i + 1)
rising_next ls first i x g e h =
    let one : suc i ≡ i + 1 = omega arith in
    ap (λ n. take n ls) (sym one) ∙ (take_snoc ls i x g ∙ (ap (λ zs. zs ++ x ∷ []) h ∙ (ap (λ y. numbers_from first i ++ y ∷ []) e ∙ sym (numbers_snoc first i))))

-- ---- a run that is pushed piece by piece

pub one_fresh : (r : Stretch) (x : List Tuple) (l : ℕ) (ys : Names) → names_of r ≡ (x, l) ∷ [] → label_of ys x ≡ None → (k : ℕ) → k < r.len → label_of ys (name_at r k).0 ≡ None
one_fresh r x l ys e none k h = go (subst (IsIn (name_at r k)) e (name_in r k h))
  where
    go : IsIn (name_at r k) ((x, l) ∷ []) → label_of ys (name_at r k).0 ≡ None
    go (inl q) = ap (λ (n : List Tuple × ℕ). label_of ys n.0) (sym q) ∙ none
    go (inr p) = absurd p

-- the first names are all, where no others are left
pub all_pushed : (old new names rest : Names) → old ++ names ≡ new ++ rest → length rest < 1 → new ≡ old ++ names
all_pushed old new names [] e h = sym (e ∙ append-nil new)
all_pushed old new names (n ∷ ns) e h = absurd (omega (arith, h))

-- the name of the only identifier
pub one_named : (old new : Names) (x : List Tuple) (ls : List ℕ) → length ls ≡ 1 → new ≡ old ++ (x, get_or ls 0 0) ∷ [] → reverse new ≡ zip (run_idents x 1) ls ++ reverse old
one_named old new x [] n e = absurd (omega (arith, n))
one_named old new x (l ∷ []) n e = ap reverse e ∙ reverse_snoc old (x, l)
one_named old new x (l ∷ (k ∷ ks)) n e = absurd (omega (arith, n))
