-- The label of an identifier, by the runs that begin next to it.
use Rattle.std.proofs.Common.{◌≡◌, ℕ, zero, suc, ◌+◌, ◌-◌, ◌<◌, Bool, true, false, List, ◌∷◌, map, length, refl, sym, ap, ◌∙◌, subst, arith}
use Rattle.std.specs.Prelude.{pos, ◌+ℤ◌, ◌-ℤ◌, reverse, slice_get, Option, Some, None, IfSome, is_some}
use Rattle.std.specs.Ordering.{is_gt, is_lt, ordering_reverse}
use Rattle.std.specs.declared.cmp.Ordering.{Ordering}
use Rattle.std.specs.declared.cmp.Ordering.TheVariants.{Less, Equal, Greater}
use Rattle.std.proofs.lemmas.Int.{ints}
use Rattle.std.proofs.lemmas.List.{reverse-reverse, length-reverse}
use Rattle.rls_ident.specs.declared.tuple.Tuple.{Tuple}
use Rattle.rls_ident.specs.Identifiers.{IsIdent, shifted}
use Rattle.rls_ident.specs.Lists.{IsIn}
use Rattle.rls_ident.proofs.Members.{bool_cases, some_is, get_in}
use Rattle.rls_ident.proofs.Shifted.{shifted_shifted, shifted_none}
use Rattle.rls_steps.specs.declared.key.Key.{Key}
use Rattle.rls_runs.specs.Runs.{run_idents}
use Rattle.rls_steps.specs.Marks.{numbers_from}
use Rattle.rls_steps.specs.Labelled.{Names, label_of}
use Rattle.rls_steps.specs.NameRuns.{Stretch, AreSound, IsBelow, IsAbove, IsLabelOf, AreLabelsIn, AreLabels, step_by, name_at, named, run_in, run_of, wide_cmp, key_cmp}
use Rattle.rls_steps.specs.Index.{AreApart}
use Rattle.rls_steps.proofs.Widths.{wide_total, between, on_up}
use Rattle.rls_steps.proofs.Stretches.{first_by, in_named, named_in, in_reverse, reverse_in, one_run, run_there, run_some, sound_at}
use Rattle.rls_steps.proofs.Found.{label_name, name_label}

-- ---- labels that are found

pub rising_labels : (ns : Names) (x : List Tuple) (n l : ℕ) → ((j : ℕ) → j < n → label_of ns (shifted (pos j) x) ≡ Some (l + j)) → map (label_of ns) (run_idents x n) ≡ map Some (numbers_from l n)
rising_labels ns x zero l f = refl
rising_labels ns x (suc n) l f =
    let z : l + 0 ≡ l = omega arith in
    let first : label_of ns x ≡ Some l = ap (label_of ns) (sym (shifted_none x)) ∙ (f 0 (omega arith) ∙ ap Some z) in
    ap (λ o. o ∷ map (label_of ns) (run_idents (shifted (pos 1) x) n)) first ∙ ap (λ os. Some l ∷ os) (rising_labels ns (shifted (pos 1) x) n (suc l) later)
  where
    later : (j : ℕ) → j < n → label_of ns (shifted (pos j) (shifted (pos 1) x)) ≡ Some (suc l + j)
    later j h =
        let by : pos 1 +ℤ pos j ≡ pos (suc j) = omega (arith, ints) in
        let sum : l + suc j ≡ suc l + j = omega arith in
        ap (label_of ns) (shifted_shifted (pos j) (pos 1) x ∙ ap (λ d. shifted d x) by) ∙ (f (suc j) (omega (arith, h)) ∙ ap Some sum)

pub labels_found : (rs : List Stretch) (i : Option ℕ) (x : List Tuple) (p : ℕ × ℕ) → AreApart (reverse (named rs)) → AreLabelsIn rs i x (Some p) → AreLabels (reverse (named rs)) x (Some p)
labels_found rs None x p a f = absurd (cc)
labels_found rs (Some i) x p a f = rising_labels (reverse (named rs)) x p.1 p.0 (λ j h.
    let n : List Tuple × ℕ = (shifted (pos j) x, p.0 + j) in
    let w = f.2 j h in
    name_label (reverse (named rs)) n.0 n.1 a (in_reverse n (named rs) (subst (λ m. IsIn m (named rs)) w.2 (named_in rs i f.0 w.0 f.1 w.1))))

-- the first of them
pub first_label : (ns : Names) (x : List Tuple) (l n : ℕ) → 0 < n → map (label_of ns) (run_idents x n) ≡ map Some (numbers_from l n) → label_of ns x ≡ Some l
first_label ns x l zero h e = absurd (omega (arith, h))
first_label ns x l (suc n) h e = cc

-- ---- none

-- b isn't less than a, so a is at most b
turned : (a b : List Tuple) → is_lt (wide_cmp a b) ≡ false → is_gt (wide_cmp b a) ≡ false
turned a b h = ap is_gt (wide_total.antisymm b a) ∙ go (wide_cmp a b) h
  where
    go : (o : Ordering) → is_lt o ≡ false → is_gt (ordering_reverse o) ≡ false
    go Less e = absurd (cc)
    go Equal e = refl
    go Greater e = refl

-- a run whose first identifier is one of another run is that run
same_run : (rs : List Stretch) (i j : ℕ) (r s : Stretch) (k : ℕ) → AreApart (reverse (named rs)) → AreSound rs → slice_get rs i ≡ Some r → slice_get rs j ≡ Some s → k < r.len → (name_at r k).0 ≡ s.first → r ≡ s
same_run rs i j r s k a o g h p e =
    let some = (sound_at rs j s o h).some in
    let first : (name_at s 0).0 ≡ s.first = ap (λ (n : List Tuple × ℕ). n.0) (first_by s.down s.first s.label) in
    let q = one_run rs i j r s k 0 a g h p some (e ∙ sym first) in
    some_is r s (sym g ∙ (ap (slice_get rs) q ∙ h))

-- the run at a key, where that is the identifier of a name
pub run_is : (rs : List Stretch) (es : List (Key × ℕ)) (k : Key) (i j m : ℕ) (r : Stretch) → AreApart (reverse (named rs)) → AreSound rs → ((q : Key) → run_in es q ≡ run_of (reverse rs) q.ident) → run_in es k ≡ Some j → slice_get rs i ≡ Some r → m < r.len →
    (name_at r m).0 ≡ k.ident → slice_get rs j ≡ Some r
run_is rs es k i j m r a o f e g h q =
    let w = run_there (reverse rs) k.ident j (sym (f k) ∙ e) in
    let there : slice_get rs j ≡ Some w.0 = ap (λ (zs : List Stretch). slice_get zs j) (sym (reverse-reverse rs)) ∙ w.1 in
    there ∙ ap Some (sym (same_run rs i j r w.0 m a o g there h (q ∙ sym w.2)))

-- what a run with a name of an identifier says isn't nothing
says : (rs : List Stretch) (j m : ℕ) (r : Stretch) (x : List Tuple) → slice_get rs j ≡ Some r → m < r.len → (name_at r m).0 ≡ x → AreLabelsIn rs (Some j) x None → ⊥
says rs j m r x g h q f =
    let same : f.0 ≡ r = some_is f.0 r (sym f.1 ∙ g) in
    let none = subst (λ (s : Stretch). IsLabelOf s x None) same f.2 in
    none m h q

pub first_there : (rs : List Stretch) (es : List (Key × ℕ)) (i : ℕ) (r : Stretch) (k : Key) → ((q : Key) → run_in es q ≡ run_of (reverse rs) q.ident) → slice_get rs i ≡ Some r → k.ident ≡ r.first → (j : ℕ) × (run_in es k ≡ Some j)
first_there rs es i r k f g e =
    let w = run_some (reverse rs) r (in_reverse r rs (get_in rs i r g)) in
    (w.0, f k ∙ (ap (run_of (reverse rs)) e ∙ w.1))

-- the place of a number with a key
abbrev pub HasKey : List (Key × ℕ) → Key → Type 0
HasKey es k = (j : ℕ) × (run_in es k ≡ Some j)

-- what the runs, their numbers and a look-up are about
pub record IsAbout (rs : List Stretch) (es : List (Key × ℕ)) : Type 0 where
  pub apart : AreApart (reverse (named rs))
  pub sound : AreSound rs
  pub firsts : (q : Key) → run_in es q ≡ run_of (reverse rs) q.ident

-- a run upwards is found from below
up_missed : (rs : List Stretch) (es : List (Key × ℕ)) (x own : Key) (b : Option ℕ) (i m : ℕ) (r : Stretch) → IsAbout rs es → IsBelow es x b → AreLabelsIn rs b x.ident None → slice_get rs i ≡ Some r → m < r.len → r.down ≡ false →
    (name_at r m).0 ≡ x.ident → own.ident ≡ r.first → is_gt (key_cmp own x) ≡ false → IsIdent r.first → HasKey es own → ⊥
up_missed rs es x own None i m r o below said g h d q e low ident there = let none = below own low in let some = there.1 in absurd (cc)
up_missed rs es x own (Some j) i m r o below said g h d q e low ident there =
    let k = below.0 in
    let most = turned k.ident own.ident (below.3 own low (ap is_some there.1)) in
    let up : shifted (pos m) r.first ≡ x.ident = ap (λ (c : Bool). shifted (step_by c m) r.first) (sym d) ∙ q in
    let low' : is_gt (wide_cmp r.first k.ident) ≡ false = ap (λ y. is_gt (wide_cmp y k.ident)) (sym e) ∙ most in
    let high : is_gt (wide_cmp k.ident (shifted (pos m) r.first)) ≡ false = ap (λ y. is_gt (wide_cmp k.ident y)) up ∙ below.2 in
    let w = between r.first k.ident m ident low' high in
    let n = w.1 in
    let here : (name_at r w.0).0 ≡ k.ident = ap (λ (c : Bool). shifted (step_by c w.0) r.first) d ∙ w.2 in
    let run = run_is rs es k i j w.0 r o.apart o.sound o.firsts below.1 g (omega (arith, n, h)) here in
    says rs j m r x.ident run h q said

-- a run downwards from above
down_missed : (rs : List Stretch) (es : List (Key × ℕ)) (x own : Key) (b : Option ℕ) (i m : ℕ) (r : Stretch) → IsAbout rs es → IsAbove es x b → AreLabelsIn rs b x.ident None → slice_get rs i ≡ Some r → m < r.len → r.down ≡ true →
    (name_at r m).0 ≡ x.ident → own.ident ≡ r.first → is_gt (key_cmp x own) ≡ false → IsIdent x.ident → HasKey es own → ⊥
down_missed rs es x own None i m r o above said g h d q e low ident there = let none = above own low in let some = there.1 in absurd (cc)
down_missed rs es x own (Some j) i m r o above said g h d q e low ident there =
    let k = above.0 in
    let most = above.3 own low (ap is_some there.1) in
    let down : shifted (pos 0 -ℤ pos m) r.first ≡ x.ident = ap (λ (c : Bool). shifted (step_by c m) r.first) (sym d) ∙ q in
    let up : shifted (pos m) x.ident ≡ r.first = ap (shifted (pos m)) (sym down) ∙ (shifted_shifted (pos m) (pos 0 -ℤ pos m) r.first ∙ back_none m r.first) in
    let high : is_gt (wide_cmp k.ident (shifted (pos m) x.ident)) ≡ false = ap (λ y. is_gt (wide_cmp k.ident y)) (up ∙ sym e) ∙ most in
    let w = between x.ident k.ident m ident above.2 high in
    let n = w.1 in
    let by : pos m +ℤ (pos 0 -ℤ pos (m - w.0)) ≡ pos w.0 = omega (arith, ints, n) in
    let here : (name_at r (m - w.0)).0 ≡ k.ident =
    ap (λ (c : Bool). shifted (step_by c (m - w.0)) r.first) d
    ∙ (ap (shifted (pos 0 -ℤ pos (m - w.0))) (sym up) ∙ (shifted_shifted (pos 0 -ℤ pos (m - w.0)) (pos m) x.ident ∙ (ap (λ z. shifted z x.ident) by ∙ w.2))) in
    let run = run_is rs es k i j (m - w.0) r o.apart o.sound o.firsts above.1 g (omega (arith, h)) here in
    says rs j m r x.ident run h q said
  where
    back_none : (n : ℕ) (y : List Tuple) → shifted ((pos 0 -ℤ pos n) +ℤ pos n) y ≡ y
    back_none n y = let z : (pos 0 -ℤ pos n) +ℤ pos n ≡ pos 0 = omega (arith, ints) in ap (λ d. shifted d y) z ∙ shifted_none y

no_name : (rs : List Stretch) (es : List (Key × ℕ)) (x own : Key) (b a : Option ℕ) (i m : ℕ) (r : Stretch) → IsAbout rs es → IsIdent x.ident → IsBelow es x b → IsAbove es x a → AreLabelsIn rs b x.ident None → AreLabelsIn rs a x.ident None →
    slice_get rs i ≡ Some r → m < r.len → (name_at r m).0 ≡ x.ident → own.ident ≡ r.first → ⊥
no_name rs es x own b a i m r o ident below above s t g h q e =
    let first = (sound_at rs i r o.sound g).ident in
    let there = first_there rs es i r own o.firsts g e in
    bool_cases r.down
    (λ d. let down : shifted (pos 0 -ℤ pos m) r.first ≡ x.ident = ap (λ (c : Bool). shifted (step_by c m) r.first) (sym d) ∙ q in
    let z : (pos 0 -ℤ pos m) +ℤ pos m ≡ pos 0 = omega (arith, ints) in
    let up : shifted (pos m) x.ident ≡ own.ident = ap (shifted (pos m)) (sym down) ∙ (shifted_shifted (pos m) (pos 0 -ℤ pos m) r.first ∙ (ap (λ y. shifted y r.first) z ∙ (shifted_none r.first ∙ sym e))) in
    down_missed rs es x own a i m r o above t g h d q e (subst (λ y. is_gt (wide_cmp x.ident y) ≡ false) up (on_up x.ident m ident)) ident there)
    (λ d. let up : shifted (pos m) r.first ≡ x.ident = ap (λ (c : Bool). shifted (step_by c m) r.first) (sym d) ∙ q in
    let low : is_gt (key_cmp own x) ≡ false = ap (λ y. is_gt (wide_cmp y x.ident)) e ∙ subst (λ y. is_gt (wide_cmp r.first y) ≡ false) up (on_up r.first m first) in
    up_missed rs es x own b i m r o below s g h d q e low first there)

pub missed_label : (rs : List Stretch) (es : List (Key × ℕ)) (x : Key) (b a : Option ℕ) → IsAbout rs es → IsIdent x.ident → IsBelow es x b → IsAbove es x a → AreLabelsIn rs b x.ident None → AreLabelsIn rs a x.ident None → label_of (reverse (named rs)) x.ident ≡ None
missed_label rs es x b a o ident below above s t = go (label_of (reverse (named rs)) x.ident) refl
  where
    go : (c : Option ℕ) → label_of (reverse (named rs)) x.ident ≡ c → c ≡ None
    go None e = refl
    go (Some l) e =
        let w = in_named rs (x.ident, l) (reverse_in (x.ident, l) (named rs) (label_name (reverse (named rs)) x.ident l e)) in
        absurd (no_name rs es x (record { ident = w.1.first }) b a w.0 w.2 w.1 o ident below above s t w.3 w.4 (ap (λ (n : List Tuple × ℕ). n.0) w.5) refl)

-- ---- numbers of runs

number_short : (rs : List Stretch) (es : List (Key × ℕ)) (k : Key) (i : ℕ) → ((q : Key) → run_in es q ≡ run_of (reverse rs) q.ident) → run_in es k ≡ Some i → i < length rs
number_short rs es k i f e =
    let h = (run_there (reverse rs) k.ident i (sym (f k) ∙ e)).3 in
    let size = length-reverse rs in
    omega (arith, h, size)

pub below_short : (rs : List Stretch) (es : List (Key × ℕ)) (x : Key) (b : Option ℕ) → ((q : Key) → run_in es q ≡ run_of (reverse rs) q.ident) → IsBelow es x b → IfSome b (λ i. i < length rs)
below_short rs es x None f w = tt
below_short rs es x (Some i) f w = number_short rs es w.0 i f w.1

pub above_short : (rs : List Stretch) (es : List (Key × ℕ)) (x : Key) (b : Option ℕ) → ((q : Key) → run_in es q ≡ run_of (reverse rs) q.ident) → IsAbove es x b → IfSome b (λ i. i < length rs)
above_short rs es x None f w = tt
above_short rs es x (Some i) f w = number_short rs es w.0 i f w.1

pub labels_are : (rs : List Stretch) (es : List (Key × ℕ)) (x : Key) (b a : Option ℕ) (o : Option (ℕ × ℕ)) → IsAbout rs es → IsIdent x.ident → IsBelow es x b → IsAbove es x a → AreLabelsIn rs b x.ident None → AreLabelsIn rs a x.ident o → AreLabels (reverse (named rs)) x.ident o
labels_are rs es x b a None w i below above s t = missed_label rs es x b a w i below above s t
labels_are rs es x b a (Some p) w i below above s t = labels_found rs a x.ident p w.apart t
