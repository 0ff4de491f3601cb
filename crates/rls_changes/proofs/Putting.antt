-- What an insertion changes.
use Rattle.std.proofs.Common.{◌≡◌, ℕ, zero, suc, ◌+◌, ◌-◌, ◌≤◌, ◌<◌, Bool, true, false, List, [], ◌∷◌, ◌++◌, map, length, take, drop, Some, slice_get, refl, sym, ap, ◌∙◌, subst, arith, append_assoc, inl, inr, ⊎_elim}
use Rattle.std.specs.Prelude.{max, nat_lt, if◌then◌else◌}
use Rattle.std.proofs.lemmas.List.{append-nil, length-append, drop-take}
use Rattle.std.proofs.lemmas.Option.{slice_get_within}
use Rattle.rls_ident.specs.declared.tuple.Tuple.{Tuple}
use Rattle.rls_ident.specs.Identifiers.{ident_lt}
use Rattle.rls_ident.specs.Lists.{IsIn}
use Rattle.rls_ident.proofs.Lists.{Lt, lt_irrefl, lt_trans}
use Rattle.rls_ident.proofs.Loops.{drop_reads}
use Rattle.rls_ident.proofs.Members.{bool_cases, lt_is, not_lt_is}
use Rattle.rls_ident.proofs.Tuples.{tuples, lt_of, of_lt}
use Rattle.rls_runs.specs.Entries.{Entries, idents_in, chars_in, put, put_all}
use Rattle.rls_runs.specs.Places.{below_count}
use Rattle.rls_runs.proofs.Gaps.{lt_false, less_at, below_take, less_drop, rising_drop}
use Rattle.rls_runs.proofs.RunEnds.{count_most}
use Rattle.rls_runs.proofs.RunOrder.{AllLess, AllMore, Rising}
use Rattle.rls_runs.proofs.Sorted.{Entry, AreAbove, Rises, AreApart, above_at, in_put, rises_put}
use Rattle.rls_model.proofs.Spliced.{take_map, drop_map, append_map}
use Rattle.rls_changes.specs.declared.change.Change.{Change}
use Rattle.rls_changes.specs.declared.change.Change.TheVariants.{Insert}
use Rattle.rls_changes.specs.Changes.{changed, played, inserted_by, deleted_by, with_change, with_changes, puts}
use Rattle.rls_changes.specs.Places.{AreAt}
use Rattle.rls_changes.proofs.Joining.{insert_more, with_append}

-- ---- one character

count_head : (x : Entry) (xs : Entries) (y : List Tuple) (b : Bool) → ident_lt x.0 y ≡ b → below_count (idents_in (x ∷ xs)) y ≡ (if b then suc (below_count (idents_in xs) y) else below_count (idents_in xs) y)
count_head x xs y b e = ap (λ c. if c then suc (below_count (idents_in xs) y) else below_count (idents_in xs) y) e

none_counts : (x : Entry) (xs : Entries) (y : List Tuple) → AreAbove x xs → ident_lt x.0 y ≡ false → below_count (idents_in xs) y ≡ 0
none_counts x [] y a e = refl
none_counts x (z ∷ xs) y a e =
    let f : ident_lt z.0 y ≡ false = bool_cases (ident_lt z.0 y) (λ h. let k = of_lt x.0 y (lt_trans a.0 (lt_of z.0 y h)) in absurd (cc)) (λ h. h) in
    count_head z xs y false f ∙ none_counts x xs y a.1 e

-- it goes behind all that are below it
pub put_place : (e : Entry) (xs : Entries) → Rises xs → put e xs ≡ take (below_count (idents_in xs) e.0) xs ++ e ∷ drop (below_count (idents_in xs) e.0) xs
put_place e [] r = refl
put_place e (x ∷ xs) r = go (ident_lt x.0 e.0) refl (put_place e xs r.1)
  where
    go : (b : Bool) → ident_lt x.0 e.0 ≡ b → put e xs ≡ take (below_count (idents_in xs) e.0) xs ++ e ∷ drop (below_count (idents_in xs) e.0) xs
        → (if b then x ∷ put e xs else e ∷ x ∷ xs) ≡ take (below_count (idents_in (x ∷ xs)) e.0) (x ∷ xs) ++ e ∷ drop (below_count (idents_in (x ∷ xs)) e.0) (x ∷ xs)
    go true h ih = ap (λ zs. x ∷ zs) ih ∙ sym (ap (λ k. take k (x ∷ xs) ++ e ∷ drop k (x ∷ xs)) (count_head x xs e.0 true h))
    go false h ih = sym (ap (λ k. take k (x ∷ xs) ++ e ∷ drop k (x ∷ xs)) (count_head x xs e.0 false h ∙ none_counts x xs e.0 r.0 h))

put_changes : (e : Entry) (xs : Entries) → Rises xs → changed (Insert (below_count (idents_in xs) e.0) (e.1 ∷ [])) (chars_in xs) ≡ chars_in (put e xs)
put_changes e xs r =
    let c : Entry → ℕ = λ x. x.1 in
    let n = below_count (idents_in xs) e.0 in
    sym (ap (map c) (put_place e xs r)
    ∙ (append_map c (take n xs) (e ∷ drop n xs)
    ∙ (ap (λ zs. zs ++ map c (e ∷ drop n xs)) (take_map c n xs) ∙ ap (λ zs. take n (map c xs) ++ e.1 ∷ zs) (drop_map c n xs))))

-- those above it have one more below them
put_counts : (e : Entry) (xs : Entries) (y : List Tuple) → Lt tuples e.0 y → below_count (idents_in (put e xs)) y ≡ suc (below_count (idents_in xs) y)
put_counts e [] y h = count_head e [] y true (of_lt e.0 y h)
put_counts e (x ∷ xs) y h = go (ident_lt x.0 e.0) refl (put_counts e xs y h)
  where
    go : (b : Bool) → ident_lt x.0 e.0 ≡ b → below_count (idents_in (put e xs)) y ≡ suc (below_count (idents_in xs) y) → below_count (idents_in (if b then x ∷ put e xs else e ∷ x ∷ xs)) y ≡ suc (below_count (idents_in (x ∷ xs)) y)
    go true k ih =
        let l = of_lt x.0 y (lt_trans (lt_of x.0 e.0 k) h) in
        count_head x (put e xs) y true l ∙ (ap suc ih ∙ ap suc (sym (count_head x xs y true l)))
    go false k ih = count_head e (x ∷ xs) y true (of_lt e.0 y h)

-- ---- all of them

apart_of : (e : Entry) (xs : Entries) → ((z : Entry) → IsIn z xs → e.0 ≡ z.0 → ⊥) → AreApart e xs
apart_of e [] f = tt
apart_of e (x ∷ xs) f = (f x (inl refl), apart_of e xs (λ z p. f z (inr p)))

pub puts_played : (k : ℕ) (xs : List (List Tuple)) (es M : Entries) → Rises M → Rises es → ((e z : Entry) → IsIn e es → IsIn z M → e.0 ≡ z.0 → ⊥)
    → ((e : Entry) → IsIn e es → below_count (idents_in M) e.0 ≡ below_count xs e.0 + k) → played (puts k xs es) (chars_in M) ≡ chars_in (put_all es M)
puts_played k xs [] M r s f g = refl
puts_played k xs (e ∷ es) M r s f g =
    ap (λ n. played (puts (suc k) xs es) (changed (Insert n (e.1 ∷ [])) (chars_in M))) (sym (g e (inl refl)))
    ∙ (ap (played (puts (suc k) xs es)) (put_changes e M r)
    ∙ puts_played (suc k) xs es (put e M) (rises_put e M r (apart_of e M (λ z p. f e z (inl refl) p))) s.1 apart counts)
  where
    above : (y : Entry) → IsIn y es → Lt tuples e.0 y.0
    above y p = above_at e y es s.0 p

    apart : (y z : Entry) → IsIn y es → IsIn z (put e M) → y.0 ≡ z.0 → ⊥
    apart y z p q h =
        ⊎_elim (λ i. lt_irrefl (subst (λ w. Lt tuples e.0 w) (h ∙ ap (λ (w : Entry). w.0) (sym i)) (above y p))) (λ i. f y z (inr p) i h) (in_put z e M q)

    counts : (y : Entry) → IsIn y es → below_count (idents_in (put e M)) y.0 ≡ below_count xs y.0 + suc k
    counts y p = let a = put_counts e M y.0 (above y p) in let b = g y (inr p) in omega arith

-- ---- what is inserted

pub puts_insert : (k : ℕ) (xs : List (List Tuple)) (es : Entries) → inserted_by (puts k xs es) ≡ chars_in es
puts_insert k xs [] = refl
puts_insert k xs (e ∷ es) = ap (λ zs. e.1 ∷ zs) (puts_insert (suc k) xs es)

pub puts_delete : (k : ℕ) (xs : List (List Tuple)) (es : Entries) → deleted_by (puts k xs es) ≡ 0
puts_delete k xs [] = refl
puts_delete k xs (e ∷ es) = puts_delete (suc k) xs es

-- ---- those that go in between the same two neighbours

more_at : (cs : List Change) (k g : ℕ) (xs : List (List Tuple)) (ds : List ℕ) (es : Entries) → AreAt g xs (idents_in es)
    → with_changes (with_change cs (Insert (g + k) ds)) (puts (k + length ds) xs es) ≡ with_change cs (Insert (g + k) (ds ++ chars_in es))
more_at cs k g xs ds [] h = ap (λ zs. with_change cs (Insert (g + k) zs)) (sym (append-nil ds))
more_at cs k g xs ds (e ∷ es) h =
    let at : below_count xs e.0 + (k + length ds) ≡ g + k + length ds = let b = h.0 in omega arith in
    let l = length-append ds (e.1 ∷ []) in
    let n : suc (k + length ds) ≡ k + length (ds ++ e.1 ∷ []) = omega arith in
    ap (λ i. with_changes (with_change (with_change cs (Insert (g + k) ds)) (Insert i (e.1 ∷ []))) (puts (suc (k + length ds)) xs es)) at
    ∙ (ap (λ zs. with_changes zs (puts (suc (k + length ds)) xs es)) (insert_more cs (g + k) ds (e.1 ∷ []))
    ∙ (ap (λ i. with_changes (with_change cs (Insert (g + k) (ds ++ e.1 ∷ []))) (puts i xs es)) n
    ∙ (more_at cs k g xs (ds ++ e.1 ∷ []) es h.1
    ∙ ap (λ zs. with_change cs (Insert (g + k) zs)) (append_assoc ds (e.1 ∷ []) (chars_in es)))))

pub puts_at : (cs : List Change) (k g : ℕ) (xs : List (List Tuple)) (e : Entry) (es : Entries) → AreAt g xs (idents_in (e ∷ es)) → with_changes cs (puts k xs (e ∷ es)) ≡ with_change cs (Insert (g + k) (chars_in (e ∷ es)))
puts_at cs k g xs e es h =
    let n : suc k ≡ k + length (e.1 ∷ []) = omega arith in
    ap (λ i. with_changes (with_change cs (Insert (i + k) (e.1 ∷ []))) (puts (suc k) xs es)) h.0
    ∙ (ap (λ i. with_changes (with_change cs (Insert (g + k) (e.1 ∷ []))) (puts i xs es)) n ∙ more_at cs k g xs (e.1 ∷ []) es h.1)

pub puts_append : (k : ℕ) (xs : List (List Tuple)) (es fs : Entries) → puts k xs (es ++ fs) ≡ puts k xs es ++ puts (k + length es) xs fs
puts_append k xs [] fs = let n : k ≡ k + 0 = omega arith in ap (λ i. puts i xs fs) n
puts_append k xs (e ∷ es) fs =
    let n : suc k + length es ≡ k + suc (length es) = omega arith in
    ap (λ zs. Insert (below_count xs e.0 + k) (e.1 ∷ []) ∷ zs) (puts_append (suc k) xs es fs ∙ ap (λ i. puts (suc k) xs es ++ puts i xs fs) n)

-- one piece more, where f were put in and m come now
pub next_puts : (xs : List (List Tuple)) (f m : Entries) (g : ℕ) → 0 < length m → AreAt g xs (idents_in m) → with_changes [] (puts 0 xs (f ++ m)) ≡ with_change (with_changes [] (puts 0 xs f)) (Insert (g + length f) (chars_in m))
next_puts xs f [] g l h = absurd (omega arith)
next_puts xs f (e ∷ m) g l h =
    let n : 0 + length f ≡ length f = omega arith in
    ap (with_changes []) (puts_append 0 xs f (e ∷ m) ∙ ap (λ i. puts 0 xs f ++ puts i xs (e ∷ m)) n)
    ∙ (with_append [] (puts 0 xs f) (puts (length f) xs (e ∷ m)) ∙ puts_at (with_changes [] (puts 0 xs f)) (length f) g xs e m h)

-- ---- which go in between the same two

-- what is greater has at least as many below it
count_rises : (xs : List (List Tuple)) (x y : List Tuple) → Lt tuples x y → below_count xs x ≤ below_count xs y
count_rises [] x y h = omega arith
count_rises (z ∷ xs) x y h = go (ident_lt z x) (ident_lt z y) (λ e. of_lt z y (lt_trans (lt_of z x e) h)) (count_rises xs x y h)
  where
    go : (b c : Bool) → (b ≡ true → c ≡ true) → below_count xs x ≤ below_count xs y → (if b then suc (below_count xs x) else below_count xs x) ≤ (if c then suc (below_count xs y) else below_count xs y)
    go true true f l = omega arith
    go true false f l = absurd (let e = f refl in cc)
    go false true f l = omega arith
    go false false f l = omega arith

-- above x, with as many below it, if it isn't above the identifier after these
at_same_gap : (xs : List (List Tuple)) (x y z : List Tuple) → Rising xs → Lt tuples x y → slice_get xs (below_count xs x) ≡ Some z → Lt tuples y z → below_count xs y ≡ below_count xs x
at_same_gap xs x y z r h g l =
    let a = count_rises xs x y h in
    bool_cases (ident_lt z y)
    (λ e. let k = lt_false z y l in absurd (cc))
    (λ e. go (below_count xs y) (below_count xs x) a (λ m. let k = of_lt z y (less_at xs (below_count xs x) z y r g m) in absurd (cc)))
  where
    go : (m n : ℕ) → n ≤ m → (n < m → ⊥) → m ≡ n
    go m n h k = bool_cases (nat_lt n m) (λ e. absurd (k (lt_is n m e))) (λ e. let l = not_lt_is n m e in omega arith)

all_at : (xs : List (List Tuple)) (x z : List Tuple) (ys : List (List Tuple)) → Rising xs → slice_get xs (below_count xs x) ≡ Some z → AllMore x ys → AllLess ys z → AreAt (below_count xs x) xs ys
all_at xs x z [] r g a b = tt
all_at xs x z (y ∷ ys) r g a b = (at_same_gap xs x y z r a.0 g b.0, all_at xs x z ys r g a.1 b.1)

all_at_end : (xs : List (List Tuple)) (x : List Tuple) (ys : List (List Tuple)) → below_count xs x ≡ length xs → AllMore x ys → AreAt (below_count xs x) xs ys
all_at_end xs x [] g a = tt
all_at_end xs x (y ∷ ys) g a = (let k = count_rises xs x y a.0 in let l = count_most xs y in omega arith, all_at_end xs x ys g a.1)

pub more_take : (x : List Tuple) (n : ℕ) (ys : List (List Tuple)) → AllMore x ys → AllMore x (take n ys)
more_take x zero ys h = tt
more_take x (suc n) [] h = tt
more_take x (suc n) (y ∷ ys) h = (h.0, more_take x n ys h.1)

-- the identifiers from x on, of a rising list that has it at a place
module _ (xs ids : List (List Tuple)) (at : ℕ) (x : List Tuple) (r : Rising xs) (s : Rising ids) (there : slice_get ids at ≡ Some x) where
  reads : drop at ids ≡ x ∷ drop (at + 1) ids
  reads = drop_reads ids at x there

  later : AllMore x (drop (at + 1) ids)
  later = (subst Rising reads (rising_drop at ids s)).0

  -- one, and m after it
  first_and : (m n : ℕ) → n ≡ suc m → AreAt (below_count xs x) xs (take m (drop (at + 1) ids)) → AreAt (below_count xs x) xs (take n (drop at ids))
  first_and m n e h = subst (AreAt (below_count xs x) xs) (sym (ap (take n) reads ∙ ap (λ k. take k (x ∷ drop (at + 1) ids)) e)) (refl, h)

  pub at_end : below_count xs x ≡ length xs → AreAt (below_count xs x) xs (take (length ids - at) (drop at ids))
  at_end g =
      let l : at < length ids = slice_get_within ids at x there in
      first_and (length ids - at - 1) (length ids - at) (omega (arith, l)) (all_at_end xs x (take (length ids - at - 1) (drop (at + 1) ids)) g (more_take x (length ids - at - 1) (drop (at + 1) ids) later))

  pub at_gap : (z : List Tuple) (end : ℕ) → slice_get xs (below_count xs x) ≡ Some z → end ≡ max (below_count ids z) (at + 1) → AreAt (below_count xs x) xs (take (end - at) (drop at ids))
  at_gap z end g e = bool_cases (nat_lt (at + 1) (below_count ids z))
      (λ h. let l = lt_is (at + 1) (below_count ids z) h in
      let n = below_count ids z - (at + 1) in
      let f : at + 1 + n ≡ below_count ids z = omega (arith, l) in
      let part : drop (at + 1) (take (below_count ids z) ids) ≡ take n (drop (at + 1) ids) = ap (λ k. drop (at + 1) (take k ids)) (sym f) ∙ drop-take (at + 1) n ids in
      let less : AllLess (take n (drop (at + 1) ids)) z = subst (λ ys. AllLess ys z) part (less_drop (at + 1) (take (below_count ids z) ids) z (below_take ids z s)) in
      first_and n (end - at) (omega (arith, l, e)) (all_at xs x z (take n (drop (at + 1) ids)) r g (more_take x n (drop (at + 1) ids) later) less))
      (λ h. let l = not_lt_is (at + 1) (below_count ids z) h in first_and 0 (end - at) (omega (arith, l, e)) tt)
