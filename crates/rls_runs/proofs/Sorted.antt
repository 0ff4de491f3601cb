-- Entries put in one after another rise strictly where their identifiers differ, and a strictly rising list is known by its elements.
use Rattle.std.proofs.Common.{◌≡◌, ℕ, zero, Bool, true, false, List, [], ◌∷◌, ◌++◌, drop, refl, sym, ap, ◌∙◌, subst, inl, inr, ◌⊎◌, ⊎_elim, filter, cond, length, suc, ◌+◌, arith}
use Rattle.std.specs.Prelude.{if◌then◌else◌}
use Rattle.std.specs.Ordering.{is_lt}
use Rattle.rls_ident.specs.declared.tuple.Tuple.{Tuple}
use Rattle.rls_ident.specs.Lists.{IsIn}
use Rattle.rls_ident.specs.Identifiers.{ident_lt}
use Rattle.rls_ident.proofs.Lists.{Lt, lt_irrefl, lt_trans, tri}
use Rattle.rls_ident.proofs.Tuples.{tuples, lt_of, of_lt}
use Rattle.rls_ident.proofs.Members.{and_left, and_right, and_true}
use Rattle.rls_runs.specs.Entries.{put, put_all, idents_in, Entries}
use Rattle.rls_runs.specs.Runs.{is_increasing}

-- an identifier and a character
abbrev pub Entry : Type 0
Entry = List Tuple × ℕ

abbrev pub IsBelow : Entry → Entry → Type 0
IsBelow x y = Lt tuples x.0 y.0

-- x is below each of these
abbrev pub AreAbove : Entry → List Entry → Type 0
AreAbove x [] = Unit {0}
AreAbove x (y ∷ ys) = IsBelow x y × AreAbove x ys

-- each is below all later ones
abbrev pub Rises : List Entry → Type 0
Rises [] = Unit {0}
Rises (x ∷ xs) = AreAbove x xs × Rises xs

-- none of these has the identifier of x
abbrev pub AreApart : Entry → List Entry → Type 0
AreApart x [] = Unit {0}
AreApart x (y ∷ ys) = (x.0 ≡ y.0 → ⊥) × AreApart x ys

-- no two have one identifier
abbrev pub AreDistinct : List Entry → Type 0
AreDistinct [] = Unit {0}
AreDistinct (x ∷ xs) = AreApart x xs × AreDistinct xs

abbrev pub AllApart : List Entry → List Entry → Type 0
AllApart [] ys = Unit {0}
AllApart (x ∷ xs) ys = AreApart x ys × AllApart xs ys

pub above_at : (x y : Entry) (ys : List Entry) → AreAbove x ys → IsIn y ys → IsBelow x y
above_at x y [] a p = absurd p
above_at x y (z ∷ ys) a (inl e) = subst (λ (w : Entry). IsBelow x w) e a.0
above_at x y (z ∷ ys) a (inr p) = above_at x y ys a.1 p

pub above_less : (x y : Entry) (ys : List Entry) → IsBelow x y → AreAbove y ys → AreAbove x ys
above_less x y [] h a = tt
above_less x y (z ∷ ys) h a = (lt_trans h a.0, above_less x y ys h a.1)

above_put : (x e : Entry) (ys : List Entry) → IsBelow x e → AreAbove x ys → AreAbove x (put e ys)
above_put x e [] h a = (h, tt)
above_put x e (y ∷ ys) h a = go (ident_lt y.0 e.0) (above_put x e ys h a.1)
  where
    go : (b : Bool) → AreAbove x (put e ys) → AreAbove x (if b then y ∷ put e ys else e ∷ y ∷ ys)
    go true k = (a.0, k)
    go false k = (h, (a.0, a.1))

not_lt : (x y : List Tuple) → ident_lt x y ≡ false → (y ≡ x → ⊥) → Lt tuples y x
not_lt x y h n =
    ⊎_elim (λ l. l) (λ r. ⊎_elim (λ e. absurd (n e)) (λ l. let k = l.less in let m : ident_lt x y ≡ true = ap is_lt k in absurd (cc)) r) (tri tuples y x)

pub rises_put : (e : Entry) (xs : List Entry) → Rises xs → AreApart e xs → Rises (put e xs)
rises_put e [] r a = (tt, tt)
rises_put e (x ∷ xs) r a = go (ident_lt x.0 e.0) refl (rises_put e xs r.1 a.1)
  where
    go : (b : Bool) → ident_lt x.0 e.0 ≡ b → Rises (put e xs) → Rises (if b then x ∷ put e xs else e ∷ x ∷ xs)
    go true h k = (above_put x e xs (lt_of x.0 e.0 h) r.0, k)
    go false h k = let l : IsBelow e x = not_lt x.0 e.0 h a.0 in ((l, above_less e x xs l r.0), (r.0, r.1))

apart_put : (x e : Entry) (ys : List Entry) → AreApart x ys → (x.0 ≡ e.0 → ⊥) → AreApart x (put e ys)
apart_put x e [] a n = (n, tt)
apart_put x e (y ∷ ys) a n = go (ident_lt y.0 e.0) (apart_put x e ys a.1 n)
  where
    go : (b : Bool) → AreApart x (put e ys) → AreApart x (if b then y ∷ put e ys else e ∷ y ∷ ys)
    go true k = (a.0, k)
    go false k = (n, (a.0, a.1))

all_put : (es : List Entry) (e : Entry) (ys : List Entry) → AllApart es ys → AreApart e es → AllApart es (put e ys)
all_put [] e ys a b = tt
all_put (x ∷ es) e ys a b = (apart_put x e ys a.0 (λ q. b.0 (sym q)), all_put es e ys a.1 b.1)

pub rises_all : (es xs : List Entry) → Rises xs → AreDistinct es → AllApart es xs → Rises (put_all es xs)
rises_all [] xs r d a = r
rises_all (e ∷ es) xs r d a = rises_all es (put e xs) (rises_put e xs r a.0) d.1 (all_put es e xs a.1 d.0)

pub put_all_append : (xs ys zs : List Entry) → put_all (xs ++ ys) zs ≡ put_all ys (put_all xs zs)
put_all_append [] ys zs = refl
put_all_append (x ∷ xs) ys zs = put_all_append xs ys (put x zs)

-- ---- elements

pub in_put : (y e : Entry) (xs : List Entry) → IsIn y (put e xs) → (e ≡ y) ⊎ IsIn y xs
in_put y e [] p = p
in_put y e (x ∷ xs) p = go (ident_lt x.0 e.0) p (λ q. in_put y e xs q)
  where
    go : (b : Bool) → IsIn y (if b then x ∷ put e xs else e ∷ x ∷ xs) → (IsIn y (put e xs) → (e ≡ y) ⊎ IsIn y xs) → (e ≡ y) ⊎ IsIn y (x ∷ xs)
    go true (inl q) ih = inr (inl q)
    go true (inr q) ih = ⊎_elim (λ r. inl r) (λ r. inr (inr r)) (ih q)
    go false q ih = q

pub put_in : (y e : Entry) (xs : List Entry) → (e ≡ y) ⊎ IsIn y xs → IsIn y (put e xs)
put_in y e [] p = p
put_in y e (x ∷ xs) p = go (ident_lt x.0 e.0) p (λ q. put_in y e xs q)
  where
    go : (b : Bool) → (e ≡ y) ⊎ IsIn y (x ∷ xs) → ((e ≡ y) ⊎ IsIn y xs → IsIn y (put e xs)) → IsIn y (if b then x ∷ put e xs else e ∷ x ∷ xs)
    go true (inl q) ih = inr (ih (inl q))
    go true (inr (inl q)) ih = inl q
    go true (inr (inr q)) ih = inr (ih (inr q))
    go false q ih = q

pub in_put_all : (y : Entry) (es xs : List Entry) → IsIn y (put_all es xs) → IsIn y es ⊎ IsIn y xs
in_put_all y [] xs p = inr p
in_put_all y (e ∷ es) xs p = ⊎_elim (λ q. inl (inr q)) (λ q. ⊎_elim (λ r. inl (inl r)) (λ r. inr r) (in_put y e xs q)) (in_put_all y es (put e xs) p)

pub put_all_in : (y : Entry) (es xs : List Entry) → IsIn y es ⊎ IsIn y xs → IsIn y (put_all es xs)
put_all_in y [] xs p = ⊎_elim (λ q. absurd q) (λ q. q) p
put_all_in y (e ∷ es) xs p =
    put_all_in y es (put e xs) (⊎_elim (λ q. ⊎_elim (λ r. inr (put_in y e xs (inl r))) (λ r. inl r) q) (λ q. inr (put_in y e xs (inr q))) p)

-- strictly rising lists with the same elements are one
pub same_rising : (xs ys : List Entry) → Rises xs → Rises ys → ((z : Entry) → IsIn z xs → IsIn z ys) → ((z : Entry) → IsIn z ys → IsIn z xs) → xs ≡ ys
same_rising [] [] r s f g = refl
same_rising [] (y ∷ ys) r s f g = absurd (g y (inl refl))
same_rising (x ∷ xs) [] r s f g = absurd (f x (inl refl))
same_rising (x ∷ xs) (y ∷ ys) r s f g =
    let e = heads (f x (inl refl)) (g y (inl refl)) in
    let t = same_rising xs ys r.1 s.1 (into e) (onto e) in
    ap (λ (w : Entry). w ∷ xs) e ∙ ap (λ zs. y ∷ zs) t
  where
    heads : (y ≡ x) ⊎ IsIn x ys → (x ≡ y) ⊎ IsIn y xs → x ≡ y
    heads (inl p) q = sym p
    heads (inr p) (inl q) = q
    heads (inr p) (inr q) = absurd (lt_irrefl (lt_trans (above_at y x ys s.0 p) (above_at x y xs r.0 q)))

    into : x ≡ y → (z : Entry) → IsIn z xs → IsIn z ys
    into e z p = ⊎_elim (λ q. absurd (lt_irrefl (subst (λ (w : Entry). Lt tuples x.0 w.0) (sym (e ∙ q)) (above_at x z xs r.0 p)))) (λ q. q) (f z (inr p))

    onto : x ≡ y → (z : Entry) → IsIn z ys → IsIn z xs
    onto e z p = ⊎_elim (λ q. absurd (lt_irrefl (subst (λ (w : Entry). Lt tuples y.0 w.0) (sym (sym e ∙ q)) (above_at y z ys s.0 p)))) (λ q. q) (g z (inr p))

-- ---- lists that rise, and their identifiers

pub rises_of_increasing : (es : List Entry) → is_increasing (idents_in es) ≡ true → Rises es
rises_of_increasing [] h = tt
rises_of_increasing (x ∷ []) h = (tt, tt)
rises_of_increasing (x ∷ (y ∷ es)) h =
    let l : IsBelow x y = lt_of x.0 y.0 (and_left (ident_lt x.0 y.0) (is_increasing (idents_in (y ∷ es))) h) in
    let r = rises_of_increasing (y ∷ es) (and_right (ident_lt x.0 y.0) (is_increasing (idents_in (y ∷ es))) h) in
    ((l, above_less x y es l r.0), r)

pub increasing_of_rises : (es : List Entry) → Rises es → is_increasing (idents_in es) ≡ true
increasing_of_rises [] h = refl
increasing_of_rises (x ∷ []) h = refl
increasing_of_rises (x ∷ (y ∷ es)) h = and_true (ident_lt x.0 y.0) (is_increasing (idents_in (y ∷ es))) (of_lt x.0 y.0 h.0.0) (increasing_of_rises (y ∷ es) h.1)

-- ---- some of the entries

pub above_filter : (t : Entry → Bool) (x : Entry) (es : List Entry) → AreAbove x es → AreAbove x (filter t es)
above_filter t x [] h = tt
above_filter t x (y ∷ es) h = go (t y) (above_filter t x es h.1)
  where
    go : (b : Bool) → AreAbove x (filter t es) → AreAbove x (cond b (y ∷ filter t es) (filter t es))
    go true k = (h.0, k)
    go false k = k

pub rises_filter : (t : Entry → Bool) (es : List Entry) → Rises es → Rises (filter t es)
rises_filter t [] h = tt
rises_filter t (x ∷ es) h = go (t x) (rises_filter t es h.1)
  where
    go : (b : Bool) → Rises (filter t es) → Rises (cond b (x ∷ filter t es) (filter t es))
    go true k = (above_filter t x es h.0, k)
    go false k = k

pub rises_drop : (n : ℕ) (es : List Entry) → Rises es → Rises (drop n es)
rises_drop zero es h = h
rises_drop (suc n) [] h = tt
rises_drop (suc n) (x ∷ es) h = rises_drop n es h.1

-- ---- entries that differ

pub apart_above : (e : Entry) (es : List Entry) → AreAbove e es → AreApart e es
apart_above e [] h = tt
apart_above e (x ∷ es) h = ((λ q. lt_irrefl (subst (λ z. Lt tuples e.0 z) (sym q) h.0)), apart_above e es h.1)

pub distinct_of : (es : List Entry) → Rises es → AreDistinct es
distinct_of [] h = tt
distinct_of (e ∷ es) h = (apart_above e es h.0, distinct_of es h.1)

-- ---- how many there are

length-put : (e : List Tuple × ℕ) (es : Entries) → length (put e es) ≡ suc (length es)
length-put e [] = refl
length-put e (x ∷ es) = go (ident_lt x.0 e.0) (length-put e es)
  where
    go : (b : Bool) → length (put e es) ≡ suc (length es) → length (if b then x ∷ put e es else e ∷ x ∷ es) ≡ suc (suc (length es))
    go true h = ap suc h
    go false h = refl

pub length-put_all : (es xs : Entries) → length (put_all es xs) ≡ length es + length xs
length-put_all [] xs = omega arith
length-put_all (e ∷ es) xs = let a = length-put_all es (put e xs) in let b = length-put e xs in omega arith
