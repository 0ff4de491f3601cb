-- Where an identifier stands among the runs of a list.
use Rattle.std.proofs.Common.{◌≡◌, ℕ, zero, suc, ◌+◌, ◌<◌, ◌≤◌, Bool, true, false, List, [], ◌∷◌, ◌++◌, length, take, drop, get_or, Option, Some, None, Result, Ok, Err, slice_get, refl, sym, ap, ◌∙◌, subst, ⊎_elim, arith, length-append, add-one}
use Rattle.std.specs.Prelude.{pos, ◌||◌, if◌then◌else◌}
use Rattle.std.specs.List.{list_all}
use Rattle.std.specs.declared.cmp.Ordering.{Ordering}
use Rattle.std.specs.declared.cmp.Ordering.TheVariants.{Less, Equal, Greater}
use Rattle.std.specs.Ordering.{ordering_reverse}
use Rattle.std.proofs.lemmas.List.{take-append-drop, take_all}
use Rattle.std.proofs.lemmas.List.Folds.{list_any-append}
use Rattle.rls_ident.specs.declared.tuple.Tuple.{Tuple}
use Rattle.rls_ident.specs.Identifiers.{ident_lt, ident_eq, ident_cmp, shifted}
use Rattle.rls_ident.proofs.Lists.{Lt, tri, flipped}
use Rattle.rls_ident.proofs.Loops.{drop_reads}
use Rattle.rls_ident.proofs.Members.{some_is}
use Rattle.rls_ident.proofs.Tuples.{tuples, ident_same, ident_total}
use Rattle.rls_runs.specs.Runs.{run_idents, idents_of, are_apart, is_run, starts_of, placed, place_from, place_of}
use Rattle.rls_runs.specs.Entries.{has_ident}
use Rattle.rls_runs.specs.Places.{below_count, find_ident}
use Rattle.rls_runs.proofs.Finding.{Tells, told, run_length, one_less, one_above, one_same}
use Rattle.rls_runs.proofs.RunOrder.{AllLess, AllMore, Rising, lt_of, of_lt, less_trans, more_trans, idents_above, before_less, idents_append, run_gets, behind_apart}

-- ---- what parts of a list tell

pub tells_append : (xs ys : List (List Tuple)) (y : List Tuple) (p q : Bool) (n m : ℕ) → Tells xs y p n → Tells ys y q m → Tells (xs ++ ys) y (p || q) (n + m)
tells_append xs ys y p q n m h k =
    let e = h.0 in let f = k.0 in
    (list_any-append (λ x. ident_eq x y) xs ys ∙ rw (e, f) refl, counts xs ∙ rw (h.1, k.1) refl)
  where
    counts : (zs : List (List Tuple)) → below_count (zs ++ ys) y ≡ below_count zs y + below_count ys y
    counts [] = omega arith
    counts (z ∷ zs) = go (ident_lt z y) (counts zs)
      where
        go : (b : Bool) → below_count (zs ++ ys) y ≡ below_count zs y + below_count ys y → (if b then suc (below_count (zs ++ ys) y) else below_count (zs ++ ys) y) ≡ (if b then suc (below_count zs y) else below_count zs y) + below_count ys y
        go true e = omega arith
        go false e = e

pub tells_less : (xs : List (List Tuple)) (y : List Tuple) → AllLess xs y → Tells xs y false (length xs)
tells_less [] y h = (refl, refl)
tells_less (x ∷ xs) y h = one_less x xs y false (length xs) h.0.less (tells_less xs y h.1)

pub tells_more : (xs : List (List Tuple)) (y : List Tuple) → AllMore y xs → Tells xs y false 0
tells_more [] y h = (refl, refl)
tells_more (x ∷ xs) y h = one_above x xs y 0 (flipped h.0) (tells_more xs y h.1)

-- a place so many identifiers on
abbrev pub moved : ℕ → Result ℕ ℕ → Result ℕ ℕ
moved k (Ok i) = Ok (k + i)
moved k (Err n) = Err (k + n)

-- y is less than the first identifier of these runs, where there is one
abbrev pub IsFirst : List Tuple → List (List Tuple × ℕ) → Type 0
IsFirst y [] = Unit {0}
IsFirst y (s ∷ rs) = ident_lt y s.0 ≡ true

first_more : (y : List Tuple) (before : Option (List Tuple × ℕ)) (rs : List (List Tuple × ℕ)) → are_apart before rs ≡ true → list_all is_run rs ≡ true → IsFirst y rs → AllMore y (idents_of rs)
first_more y before [] h k f = tt
first_more y before (s ∷ rs) h k f = idents_above y before s rs h k (lt_of y s.0 f)

-- less than all
pub find_first : (rs : List (List Tuple × ℕ)) (y : List Tuple) → are_apart None rs ≡ true → list_all is_run rs ≡ true → IsFirst y rs → find_ident (idents_of rs) y ≡ Err 0
find_first rs y h k f = told (idents_of rs) y false 0 (tells_more (idents_of rs) y (first_more y None rs h k f))

not_less : (xs : List (List Tuple)) (x y : List Tuple) → ident_lt y x ≡ false → AllLess xs x → AllLess xs y
not_less xs x y n h = ⊎_elim (λ l. less_trans xs x y h l) (λ r. ⊎_elim (λ e. subst (AllLess xs) e h) (λ l. let f = of_lt y x l in absurd (cc)) r) (tri tuples x y)

-- in a run, or after it
pub find_among : (fs : List (List Tuple × ℕ)) (r : List Tuple × ℕ) (bs : List (List Tuple × ℕ)) (y : List Tuple) → are_apart None (fs ++ r ∷ bs) ≡ true → list_all is_run (fs ++ r ∷ bs) ≡ true → ident_lt y r.0 ≡ false → IsFirst y bs →
    find_ident (idents_of (fs ++ r ∷ bs)) y ≡ moved (length (idents_of fs)) (find_ident (run_idents r.0 r.1) y)
find_among fs r bs y h k n f =
    let less = tells_less (idents_of fs) y (not_less (idents_of fs) r.0 y n (before_less None fs r bs h k)) in
    let b = behind_apart None fs r bs h k in
    let more = tells_more (idents_of bs) y (first_more y (Some r) bs b.0 b.1 f) in
    let own = run_idents r.0 r.1 in
    let p = has_ident own y in
    let m = below_count own y in
    let all = tells_append (idents_of fs) (own ++ idents_of bs) y false (p || false) (length (idents_of fs)) (m + 0) less (tells_append own (idents_of bs) y p false m 0 (refl, refl) more) in
    ap (λ xs. find_ident xs y) (idents_append fs (r ∷ bs)) ∙ told (idents_of fs ++ (own ++ idents_of bs)) y (p || false) (length (idents_of fs) + (m + 0)) all ∙ go p m
  where
    go : (p : Bool) (m : ℕ) → (if p || false then Ok (length (idents_of fs) + (m + 0)) else Err (length (idents_of fs) + (m + 0))) ≡ moved (length (idents_of fs)) (if p then Ok m else Err m)
    go true m = ap (λ k. Ok (length (idents_of fs) + k)) (omega arith)
    go false m = ap (λ k. Err (length (idents_of fs) + k)) (omega arith)

-- ---- how many identifiers stand in front

pub split_at : (rs : List (List Tuple × ℕ)) (k : ℕ) (r : List Tuple × ℕ) → slice_get rs k ≡ Some r → take k rs ++ r ∷ drop (k + 1) rs ≡ rs
split_at rs k r g = ap (λ xs. take k rs ++ xs) (sym (drop_reads rs k r g)) ∙ take-append-drop k rs

idents_length : (r : List Tuple × ℕ) (rs : List (List Tuple × ℕ)) → length (idents_of (r ∷ rs)) ≡ r.1 + length (idents_of rs)
idents_length r rs = length-append (run_idents r.0 r.1) (idents_of rs) ∙ ap (λ k. k + length (idents_of rs)) (run_length r.0 r.1)

pub start_at : (n : ℕ) (rs : List (List Tuple × ℕ)) (k d : ℕ) → k < length rs → get_or (starts_of n rs) k d ≡ n + length (idents_of (take k rs))
start_at n [] k d h = absurd (omega arith)
start_at n (r ∷ rs) zero d h = omega arith
start_at n (r ∷ rs) (suc k) d h = let e = idents_length r (take k rs) in start_at (n + r.1) rs k d (omega arith) ∙ omega arith

pub starts_length : (n : ℕ) (rs : List (List Tuple × ℕ)) → length (starts_of n rs) ≡ length rs
starts_length n [] = refl
starts_length n (r ∷ rs) = ap suc (starts_length (n + r.1) rs)

pub starts_more : (n : ℕ) (rs : List (List Tuple × ℕ)) (r : List Tuple × ℕ) → starts_of n (rs ++ r ∷ []) ≡ starts_of n rs ++ (n + length (idents_of rs)) ∷ []
starts_more n [] r = let e : n + 0 ≡ n = omega arith in ap (λ k. k ∷ []) (sym e)
starts_more n (q ∷ rs) r =
    let e : (n + q.1) + length (idents_of rs) ≡ n + length (idents_of (q ∷ rs)) = let l = idents_length q rs in omega arith in
    ap (λ xs. n ∷ xs) (starts_more (n + q.1) rs r ∙ ap (λ k. starts_of (n + q.1) rs ++ k ∷ []) e)

next_suc : (rs : List (List Tuple × ℕ)) (k : ℕ) (r : List Tuple × ℕ) → slice_get rs k ≡ Some r → length (idents_of (take (suc k) rs)) ≡ length (idents_of (take k rs)) + r.1
next_suc [] k r g = absurd (cc)
next_suc (q ∷ rs) zero r g =
    let e : q ≡ r = some_is q r g in
    let m = idents_length r [] in
    ap (λ z. length (idents_of (z ∷ []))) e ∙ omega arith
next_suc (q ∷ rs) (suc k) r g =
    let a = idents_length q (take (suc k) rs) in
    let b = idents_length q (take k rs) in
    let c = next_suc rs k r g in
    omega arith

pub next_start : (rs : List (List Tuple × ℕ)) (k : ℕ) (r : List Tuple × ℕ) → slice_get rs k ≡ Some r → length (idents_of (take (k + 1) rs)) ≡ length (idents_of (take k rs)) + r.1
next_start rs k r g = ap (λ n. length (idents_of (take n rs))) (add-one k) ∙ next_suc rs k r g

-- what stands before a run and in it is not more than all
pub within_total : (rs : List (List Tuple × ℕ)) (k : ℕ) (r : List Tuple × ℕ) → slice_get rs k ≡ Some r → length (idents_of (take k rs)) + r.1 ≤ length (idents_of rs)
within_total rs k r g =
    let e = ap (λ xs. length (idents_of xs)) (split_at rs k r g) in
    let f = ap length (idents_append (take k rs) (r ∷ drop (k + 1) rs)) in
    let l = length-append (idents_of (take k rs)) (idents_of (r ∷ drop (k + 1) rs)) in
    let m = idents_length r (drop (k + 1) rs) in
    omega arith

-- the last run ends at the total
pub last_total : (rs : List (List Tuple × ℕ)) (k : ℕ) (r : List Tuple × ℕ) → slice_get rs k ≡ Some r → length rs ≤ k + 1 → length (idents_of rs) ≡ length (idents_of (take k rs)) + r.1
last_total rs k r g h = ap (λ xs. length (idents_of xs)) (sym (take_all (k + 1) rs h)) ∙ next_start rs k r g

-- ---- the identifier at a place

pub get_left : {X : Type 0} (xs ys : List X) (i : ℕ) → i < length xs → slice_get (xs ++ ys) i ≡ slice_get xs i
get_left [] ys i h = absurd (omega arith)
get_left (x ∷ xs) ys zero h = refl
get_left (x ∷ xs) ys (suc i) h = get_left xs ys i (omega arith)

pub get_right : {X : Type 0} (xs ys : List X) (i : ℕ) → slice_get (xs ++ ys) (length xs + i) ≡ slice_get ys i
get_right [] ys i = let e : 0 + i ≡ i = omega arith in ap (slice_get ys) e
get_right (x ∷ xs) ys i = let e : length (x ∷ xs) + i ≡ suc (length xs + i) = omega arith in ap (slice_get (x ∷ (xs ++ ys))) e ∙ get_right xs ys i

pub ident_at : (rs : List (List Tuple × ℕ)) (k : ℕ) (r : List Tuple × ℕ) (j : ℕ) → slice_get rs k ≡ Some r → j < r.1 → slice_get (idents_of rs) (length (idents_of (take k rs)) + j) ≡ Some (shifted (pos j) r.0)
ident_at rs k r j g h =
    let l = run_length r.0 r.1 in
    ap (λ xs. slice_get (idents_of xs) (length (idents_of (take k rs)) + j)) (sym (split_at rs k r g))
    ∙ ap (λ xs. slice_get xs (length (idents_of (take k rs)) + j)) (idents_append (take k rs) (r ∷ drop (k + 1) rs))
    ∙ get_right (idents_of (take k rs)) (idents_of (r ∷ drop (k + 1) rs)) j
    ∙ get_left (run_idents r.0 r.1) (idents_of (drop (k + 1) rs)) j (omega arith)
    ∙ run_gets r.0 r.1 j h

-- ---- what is found is there

pub found_there : (xs : List (List Tuple)) (x : List Tuple) (i : ℕ) → Rising xs → find_ident xs x ≡ Ok i → slice_get xs i ≡ Some x
found_there [] x i h e = absurd (cc)
found_there (y ∷ ys) x i h e = go (ident_cmp y x) refl (λ n f. found_there ys x n h.1 f)
  where
    go : (o : Ordering) → ident_cmp y x ≡ o → ((n : ℕ) → find_ident ys x ≡ Ok n → slice_get ys n ≡ Some x) → slice_get (y ∷ ys) i ≡ Some x
    go Less q ih = later (has_ident ys x) refl
      where
        later : (b : Bool) → has_ident ys x ≡ b → slice_get (y ∷ ys) i ≡ Some x
        later true g =
            let n = below_count ys x in
            let t = told (y ∷ ys) x true (suc n) (one_less y ys x true n q (g, refl)) in
            let s : suc n ≡ i = cc in
            ap (slice_get (y ∷ ys)) (sym s) ∙ ih n (told ys x true n (g, refl))
        later false g = let t = told (y ∷ ys) x false (suc (below_count ys x)) (one_less y ys x false (below_count ys x) q (g, refl)) in absurd (cc)
    go Equal q ih =
        let same = ident_same y x q in
        let t = told (y ∷ ys) x true 0 (one_same y ys x 0 q (tells_more ys x (subst (λ z. AllMore z ys) same h.0))) in
        let s : 0 ≡ i = cc in
        ap (slice_get (y ∷ ys)) (sym s) ∙ ap Some same
    go Greater q ih =
        let less : Lt tuples x y = record { less = ident_total.antisymm x y ∙ ap ordering_reverse q } in
        let t = told (y ∷ ys) x false 0 (one_above y ys x 0 q (tells_more ys x (more_trans x y ys less h.0))) in
        absurd (cc)

-- ---- the place by comparisons from the front on

pub found_place : (i : ℕ) (xs : List (List Tuple)) (x : List Tuple) → Rising xs → moved i (find_ident xs x) ≡ place_from i x xs
found_place i [] x h = ap (λ k. Err k) (omega arith)
found_place i (y ∷ ys) x h = go (ident_cmp y x) refl (found_place (suc i) ys x h.1)
  where
    go : (o : Ordering) → ident_cmp y x ≡ o → moved (suc i) (find_ident ys x) ≡ place_from (suc i) x ys → moved i (find_ident (y ∷ ys) x) ≡ placed (ident_cmp y x) i (place_from (suc i) x ys)
    go Less q ih =
        let n = below_count ys x in
        ap (moved i) (told (y ∷ ys) x (has_ident ys x) (suc n) (one_less y ys x (has_ident ys x) n q (refl, refl)))
        ∙ later (has_ident ys x) n ∙ ih ∙ ap (λ o. placed o i (place_from (suc i) x ys)) (sym q)
      where
        later : (b : Bool) (n : ℕ) → moved i (if b then Ok (suc n) else Err (suc n)) ≡ moved (suc i) (if b then Ok n else Err n)
        later true n = ap (λ k. Ok k) (omega arith)
        later false n = ap (λ k. Err k) (omega arith)
    go Equal q ih =
        ap (moved i) (told (y ∷ ys) x true 0 (one_same y ys x 0 q (tells_more ys x (subst (λ z. AllMore z ys) (ident_same y x q) h.0))))
        ∙ ap (λ k. Ok k) (omega arith) ∙ ap (λ o. placed o i (place_from (suc i) x ys)) (sym q)
    go Greater q ih =
        let less : Lt tuples x y = record { less = ident_total.antisymm x y ∙ ap ordering_reverse q } in
        ap (moved i) (told (y ∷ ys) x false 0 (one_above y ys x 0 q (tells_more ys x (more_trans x y ys less h.0))))
        ∙ ap (λ k. Err k) (omega arith) ∙ ap (λ o. placed o i (place_from (suc i) x ys)) (sym q)

pub found_is : (xs : List (List Tuple)) (x : List Tuple) → Rising xs → find_ident xs x ≡ place_of x xs
unfolding place_of
found_is xs x h = sym (start (find_ident xs x)) ∙ found_place 0 xs x h
  where
    start : (r : Result ℕ ℕ) → moved 0 r ≡ r
    start (Ok i) = ap (λ k. Ok k) (omega arith)
    start (Err i) = ap (λ k. Err k) (omega arith)
