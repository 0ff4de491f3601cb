-- Lists of which some elements are kept, one after another in place.
use Rattle.std.proofs.Common.{◌≡◌, ℕ, zero, suc, ◌+◌, ◌-◌, ◌<◌, ◌≤◌, Bool, true, false, List, [], ◌∷◌, ◌++◌, map, length, take, drop, set, get_or, Some, refl, sym, ap, ◌∙◌, ⊎_elim, arith, nat_lt, append_assoc, length-append, length-drop}
use Rattle.std.specs.Prelude.{slice_get, reverse, swap, if◌then◌else◌}
use Rattle.std.proofs.Math.ListN.{length-set}
use Rattle.std.proofs.lemmas.Bool.{cases_lt}
use Rattle.std.proofs.lemmas.List.Edits.{swap_is}
use Rattle.std.proofs.lemmas.List.Sums.{sum_by-append, sum_by-cons}
use Rattle.std.proofs.lemmas.List.{append-nil, length-take, reverse-append, map-append, drop_more, get_or-set_same, take_all, take_more_set}
use Rattle.std.proofs.lemmas.Grind.{drop_more_same}
use Rattle.rls_ident.specs.declared.epoch_name.EpochName.{EpochName}
use Rattle.std.proofs.Math.ListN.{drop_of_length-le}
use Rattle.std.proofs.lemmas.Option.{slice_get-get_or, slice_get_read}
use Rattle.rls_ident.proofs.Members.{get_in, lt_is, lt_test, not_true, some_is}
use Rattle.rls_ident.specs.Lists.{IsIn}
use Rattle.rls_epoch.specs.declared.placed.Placed.{Placed}
use Rattle.rls_epoch.specs.Marks.{mark_count, numbered, moved, kept_placed, kept_places, kept_names, kept_sum}
use Rattle.rls_epoch.specs.Seen.{former_sum, node_of, nodes_of}
use Rattle.rls_epoch.specs.Sorted.{place_name}
use Rattle.rls_epoch.proofs.Counting.{count_marked, count_unmarked}
use Rattle.rls_epoch.proofs.Sorting.{drop_get}

-- ---- writes

pub drop_set : {A : Type 0} (xs : List A) (i n : ℕ) (y : A) → i < n → drop n (set xs i y) ≡ drop n xs
drop_set [] i n y h = refl
drop_set (x ∷ xs) i zero y h = absurd (omega arith)
drop_set (x ∷ xs) zero (suc n) y h = refl
drop_set (x ∷ xs) (suc i) (suc n) y h = drop_set xs i n y (omega arith)

pub take_set : {A : Type 0} (xs : List A) (i n : ℕ) (y : A) → n ≤ i → take n (set xs i y) ≡ take n xs
take_set xs i zero y h = refl
take_set [] i (suc n) y h = refl
take_set (x ∷ xs) zero (suc n) y h = absurd (omega arith)
take_set (x ∷ xs) (suc i) (suc n) y h = ap (λ zs. x ∷ zs) (take_set xs i n y (omega arith))

-- an element at the count, where those from the index on are as before
module _ {A : Type 0} (xs old front : List A) (n i : ℕ) (h : n ≤ i) (l : length xs ≡ length old) (w : i < length old) (f : take n xs ≡ front) (r : drop i xs ≡ drop i old) where
  pub put_front : (y : A) → take (n + 1) (set xs n y) ≡ front ++ (y ∷ [])
  put_front y = take_more_set xs n y (omega arith) ∙ ap (λ zs. zs ++ (y ∷ [])) f

  pub put_rest : (y : A) → drop (i + 1) (set xs n y) ≡ drop (i + 1) old
  put_rest y = drop_set xs n (i + 1) y (omega arith) ∙ drop_more_same xs old i r

  -- by a swap with the element at the index
  pub swap_front : (y : A) → take (n + 1) (swap (set xs i y) n i) ≡ front ++ (y ∷ [])
  swap_front y =
      let zs = set xs i y in
      let m : length zs ≡ length xs = length-set xs i y in
      let there : get_or zs i y ≡ y = get_or-set_same xs i y y (omega arith) in
      let e : swap zs n i ≡ set (set zs n y) i (get_or zs n y) = sym (swap_is zs n i y (omega arith) (omega arith)) ∙ ap (λ x. set (set zs n x) i (get_or zs n y)) there in
      let kept : take n zs ≡ front = take_set xs i n y h ∙ f in
      let put : take (n + 1) (set zs n y) ≡ front ++ (y ∷ []) = take_more_set zs n y (omega arith) ∙ ap (λ x. x ++ (y ∷ [])) kept in
      ap (take (n + 1)) e
      ∙ ⊎_elim (λ g. take_set (set zs n y) i (n + 1) (get_or zs n y) (omega arith) ∙ put)
      (λ g. let q : n ≡ i = omega arith in
      let same : get_or zs n y ≡ y = ap (λ (j : ℕ). get_or zs j y) q ∙ there in
      ap (λ (j : ℕ). take (n + 1) (set (set zs n y) j (get_or zs n y))) (sym q)
      ∙ (take_more_set (set zs n y) n (get_or zs n y) (omega (arith, length-set zs n y))
      ∙ (ap (λ x. take n (set zs n y) ++ (x ∷ [])) same ∙ ap (λ x. x ++ (y ∷ [])) (take_set zs n n y (omega arith) ∙ kept))))
      (cases_lt n i)

  pub swap_rest : (y : A) → drop (i + 1) (swap (set xs i y) n i) ≡ drop (i + 1) old
  swap_rest y =
      let zs = set xs i y in
      let m : length zs ≡ length xs = length-set xs i y in
      ap (drop (i + 1)) (sym (swap_is zs n i y (omega arith) (omega arith)))
      ∙ (drop_set (set zs n (get_or zs i y)) i (i + 1) (get_or zs n y) (omega arith)
      ∙ (drop_set zs n (i + 1) (get_or zs i y) (omega arith)
      ∙ (drop_set xs i (i + 1) y (omega arith) ∙ drop_more_same xs old i r)))

-- what is read at the index is what was there
pub read_rest : {A : Type 0} (xs old : List A) (i : ℕ) (d : A) → length xs ≡ length old → i < length old → drop i xs ≡ drop i old → get_or xs i d ≡ get_or old i d
read_rest xs old i d l w r =
    let e = sym (drop_more xs i d (omega arith)) ∙ (r ∙ drop_more old i d w) in
    cc

-- ---- one more

pub kept_placed_none : (all ms : List ℕ) → kept_placed all ms [] ≡ []
kept_placed_none all [] = refl
kept_placed_none all (m ∷ ms) = refl

pub kept_placed_fewer : (all ms : List ℕ) (ps : List Placed) → length (kept_placed all ms ps) ≤ length ps
kept_placed_fewer all [] ps = omega arith
kept_placed_fewer all (m ∷ ms) [] = omega arith
kept_placed_fewer all (m ∷ ms) (p ∷ ps) = go (nat_lt 1 m) (kept_placed_fewer all ms ps)
  where
    go : (b : Bool) → length (kept_placed all ms ps) ≤ length ps → length (if b then moved all p ∷ kept_placed all ms ps else kept_placed all ms ps) ≤ suc (length ps)
    go true h = omega (arith, h)
    go false h = omega (arith, h)

pub kept_placed_more : (all ms : List ℕ) (ps : List Placed) (i m : ℕ) (p : Placed) → slice_get ps i ≡ Some p → slice_get ms i ≡ Some m → kept_placed all ms (take (suc i) ps) ≡ kept_placed all ms (take i ps) ++ (if nat_lt 1 m then moved all p ∷ [] else [])
kept_placed_more all ms [] i m p g h = absurd (cc)
kept_placed_more all [] (q ∷ ps) i m p g h = absurd (cc)
kept_placed_more all (k ∷ ms) (q ∷ ps) zero m p g h = go (nat_lt 1 k) ∙ ap (λ x. if nat_lt 1 x then moved all q ∷ [] else []) (some_is k m h) ∙ ap (λ (z : Placed). if nat_lt 1 m then moved all z ∷ [] else []) (some_is q p g)
  where
    go : (b : Bool) → (if b then moved all q ∷ kept_placed all ms [] else kept_placed all ms []) ≡ (if b then moved all q ∷ [] else [])
    go true = ap (λ xs. moved all q ∷ xs) (kept_placed_none all ms)
    go false = kept_placed_none all ms
kept_placed_more all (k ∷ ms) (q ∷ ps) (suc i) m p g h = go (nat_lt 1 k) (kept_placed_more all ms ps i m p g h)
  where
    tail : List Placed
    tail = if nat_lt 1 m then moved all p ∷ [] else []

    go : (b : Bool) → kept_placed all ms (take (suc i) ps) ≡ kept_placed all ms (take i ps) ++ tail →
        (if b then moved all q ∷ kept_placed all ms (take (suc i) ps) else kept_placed all ms (take (suc i) ps)) ≡ (if b then moved all q ∷ kept_placed all ms (take i ps) else kept_placed all ms (take i ps)) ++ tail
    go true e = ap (λ xs. moved all q ∷ xs) e
    go false e = e

pub kept_places_more : (marks ks : List ℕ) (i k : ℕ) → slice_get ks i ≡ Some k → kept_places marks (take (suc i) ks) ≡ kept_places marks (take i ks) ++ (if nat_lt 1 (get_or marks (suc k) 0) then (get_or marks (suc k) 0 - 2) ∷ [] else [])
kept_places_more marks [] i k g = absurd (cc)
kept_places_more marks (j ∷ ks) zero k g = ap (λ x. if nat_lt 1 (get_or marks (suc x) 0) then (get_or marks (suc x) 0 - 2) ∷ [] else []) (some_is j k g)
kept_places_more marks (j ∷ ks) (suc i) k g = go (nat_lt 1 (get_or marks (suc j) 0)) (kept_places_more marks ks i k g)
  where
    tail : List ℕ
    tail = if nat_lt 1 (get_or marks (suc k) 0) then (get_or marks (suc k) 0 - 2) ∷ [] else []

    go : (b : Bool) → kept_places marks (take (suc i) ks) ≡ kept_places marks (take i ks) ++ tail →
        (if b then (get_or marks (suc j) 0 - 2) ∷ kept_places marks (take (suc i) ks) else kept_places marks (take (suc i) ks)) ≡ (if b then (get_or marks (suc j) 0 - 2) ∷ kept_places marks (take i ks) else kept_places marks (take i ks)) ++ tail
    go true e = ap (λ xs. (get_or marks (suc j) 0 - 2) ∷ xs) e
    go false e = e

pub kept_names_more : (ps : List Placed) (marks ks : List ℕ) (i k : ℕ) → slice_get ks i ≡ Some k → kept_names ps marks (take (suc i) ks) ≡ kept_names ps marks (take i ks) ++ (if nat_lt 1 (get_or marks (suc k) 0) then place_name ps k ∷ [] else [])
kept_names_more ps marks [] i k g = absurd (cc)
kept_names_more ps marks (j ∷ ks) zero k g = ap (λ x. if nat_lt 1 (get_or marks (suc x) 0) then place_name ps x ∷ [] else []) (some_is j k g)
kept_names_more ps marks (j ∷ ks) (suc i) k g = go (nat_lt 1 (get_or marks (suc j) 0)) (kept_names_more ps marks ks i k g)
  where
    tail : List EpochName
    tail = if nat_lt 1 (get_or marks (suc k) 0) then place_name ps k ∷ [] else []

    go : (b : Bool) → kept_names ps marks (take (suc i) ks) ≡ kept_names ps marks (take i ks) ++ tail →
        (if b then place_name ps j ∷ kept_names ps marks (take (suc i) ks) else kept_names ps marks (take (suc i) ks)) ≡ (if b then place_name ps j ∷ kept_names ps marks (take i ks) else kept_names ps marks (take i ks)) ++ tail
    go true e = ap (λ xs. place_name ps j ∷ xs) e
    go false e = e

pub kept_sum_none : (ms : List ℕ) → kept_sum ms [] ≡ 0
kept_sum_none [] = refl
kept_sum_none (m ∷ ms) = refl

pub kept_sum_more : (ms : List ℕ) (ps : List Placed) (i m : ℕ) (p : Placed) → slice_get ps i ≡ Some p → slice_get ms i ≡ Some m → kept_sum ms (take (suc i) ps) ≡ kept_sum ms (take i ps) + (if nat_lt 1 m then length p.renaming.former else 0)
kept_sum_more ms [] i m p g h = absurd (cc)
kept_sum_more [] (q ∷ ps) i m p g h = absurd (cc)
kept_sum_more (k ∷ ms) (q ∷ ps) zero m p g h =
    let a = kept_sum_none ms in
    let b = ap (λ x. if nat_lt 1 x then length q.renaming.former else 0) (some_is k m h) ∙ ap (λ (z : Placed). if nat_lt 1 m then length z.renaming.former else 0) (some_is q p g) in
    omega (arith, a, b)
kept_sum_more (k ∷ ms) (q ∷ ps) (suc i) m p g h = let e = kept_sum_more ms ps i m p g h in omega (arith, e)

-- ---- sums

pub former_first : (p : Placed) (ps : List Placed) → former_sum (nodes_of (p ∷ ps)) ≡ length p.renaming.former + former_sum (nodes_of ps)
former_first p ps =
    let e : nodes_of (p ∷ ps) ≡ nodes_of ps ++ (node_of p ∷ []) = ap (map node_of) (reverse-append (p ∷ []) ps) ∙ map-append node_of (reverse ps) (p ∷ []) in
    let a = ap (λ ns. former_sum ns) e in
    let b = sum_by-append (λ node. length node.renaming.former) (nodes_of ps) (node_of p ∷ []) in
    let c = sum_by-cons (λ node. length node.renaming.former) (node_of p) [] in
    omega (arith, a, b, c)

pub kept_sum_most : (ms : List ℕ) (ps : List Placed) → kept_sum ms ps ≤ former_sum (nodes_of ps)
kept_sum_most [] ps = omega arith
kept_sum_most (m ∷ ms) [] = omega arith
kept_sum_most (m ∷ ms) (p ∷ ps) = go (nat_lt 1 m) (kept_sum_most ms ps) (former_first p ps)
  where
    go : (b : Bool) → kept_sum ms ps ≤ former_sum (nodes_of ps) → former_sum (nodes_of (p ∷ ps)) ≡ length p.renaming.former + former_sum (nodes_of ps) → (if b then length p.renaming.former else 0) + kept_sum ms ps ≤ former_sum (nodes_of (p ∷ ps))
    go true h e = omega arith
    go false h e = omega arith

pub kept_sum_taken : (ms : List ℕ) (ps : List Placed) (i : ℕ) → kept_sum ms (take i ps) ≤ kept_sum ms ps
kept_sum_taken [] ps i = omega arith
kept_sum_taken (m ∷ ms) ps zero = omega (arith, kept_sum_none (m ∷ ms))
kept_sum_taken (m ∷ ms) [] (suc i) = omega arith
kept_sum_taken (m ∷ ms) (p ∷ ps) (suc i) = omega (arith, kept_sum_taken ms ps i)

-- ---- numbers of marks

pub numbered_length : (n : ℕ) (ms : List ℕ) → length (numbered n ms) ≡ length ms
numbered_length n [] = refl
numbered_length n (zero ∷ ms) = ap suc (numbered_length n ms)
numbered_length n (suc m ∷ ms) = ap suc (numbered_length (suc n) ms)

pub numbered_zero : (n : ℕ) (ms : List ℕ) (i : ℕ) → slice_get ms i ≡ Some 0 → numbered n (take (suc i) ms) ≡ numbered n (take i ms) ++ (0 ∷ [])
numbered_zero n [] i g = absurd (cc)
numbered_zero n (zero ∷ ms) zero g = refl
numbered_zero n (suc m ∷ ms) zero g = absurd (cc)
numbered_zero n (zero ∷ ms) (suc i) g = ap (λ xs. 0 ∷ xs) (numbered_zero n ms i g)
numbered_zero n (suc m ∷ ms) (suc i) g = ap (λ xs. suc n ∷ xs) (numbered_zero (suc n) ms i g)

pub numbered_one : (n : ℕ) (ms : List ℕ) (i m : ℕ) → slice_get ms i ≡ Some (suc m) → numbered n (take (suc i) ms) ≡ numbered n (take i ms) ++ (suc (n + mark_count (take i ms)) ∷ [])
numbered_one n [] i m g = absurd (cc)
numbered_one n (zero ∷ ms) zero m g = absurd (cc)
numbered_one n (suc k ∷ ms) zero m g = let e : n ≡ n + 0 = omega arith in ap (λ x. suc x ∷ []) e
numbered_one n (zero ∷ ms) (suc i) m g = ap (λ xs. 0 ∷ xs) (numbered_one n ms i m g)
numbered_one n (suc k ∷ ms) (suc i) m g =
    let e : suc n + mark_count (take i ms) ≡ n + suc (mark_count (take i ms)) = omega arith in
    ap (λ xs. suc n ∷ xs) (numbered_one (suc n) ms i m g ∙ ap (λ x. numbered (suc n) (take i ms) ++ (suc x ∷ [])) e)

-- ---- numbering in place

pub record IsNumbering (old ms : List ℕ) (i count : ℕ) : Type 0 where
  pub front : ms ≡ numbered 0 (take i old) ++ drop i old
  pub count_is : count ≡ mark_count (take i old)

drop_behind : {A : Type 0} (xs ys : List A) (i : ℕ) → length xs ≡ i → drop i (xs ++ ys) ≡ ys
drop_behind [] ys zero h = refl
drop_behind [] ys (suc i) h = absurd (omega arith)
drop_behind (x ∷ xs) ys zero h = absurd (omega arith)
drop_behind (x ∷ xs) ys (suc i) h = drop_behind xs ys i (omega arith)

set_behind : {A : Type 0} (xs ys : List A) (y z : A) (i : ℕ) → length xs ≡ i → set (xs ++ (y ∷ ys)) i z ≡ (xs ++ (z ∷ [])) ++ ys
set_behind [] ys y z zero h = refl
set_behind [] ys y z (suc i) h = absurd (omega arith)
set_behind (x ∷ xs) ys y z zero h = absurd (omega arith)
set_behind (x ∷ xs) ys y z (suc i) h = ap (λ zs. x ∷ zs) (set_behind xs ys y z i (omega arith))

module _ (old ms : List ℕ) (i count : ℕ) (s : IsNumbering old ms i count) (w : i < length old) where
  front_length : length (numbered 0 (take i old)) ≡ i
  front_length = numbered_length 0 (take i old) ∙ omega (arith, length-take i old)

  rest_is : drop i ms ≡ drop i old
  rest_is = ap (drop i) s.front ∙ drop_behind (numbered 0 (take i old)) (drop i old) i front_length

  length_is : length ms ≡ length old
  length_is = let a = ap length s.front in let b = length-append (numbered 0 (take i old)) (drop i old) in let c = front_length in let d = length-drop i old in omega arith

  pub numbering_read : get_or ms i 0 ≡ get_or old i 0
  numbering_read = read_rest ms old i 0 length_is w rest_is

  next : i + 1 ≡ suc i
  next = omega arith

  pub numbering_zero : get_or ms i 0 ≡ 0 → IsNumbering old ms (i + 1) count
  numbering_zero z =
      let g : slice_get old i ≡ Some 0 = slice_get-get_or old i 0 w ∙ ap Some (sym numbering_read ∙ z) in
      let d = drop_get old i 0 g in
      record {
        front = s.front
            ∙ (ap (λ xs. numbered 0 (take i old) ++ xs) d
            ∙ (sym (append_assoc (numbered 0 (take i old)) (0 ∷ []) (drop (suc i) old))
            ∙ (ap (λ xs. xs ++ drop (suc i) old) (sym (numbered_zero 0 old i g)) ∙ ap (λ (j : ℕ). numbered 0 (take j old) ++ drop j old) (sym next))));
        count_is = s.count_is ∙ (sym (count_unmarked old i w (ap (nat_lt 0) (sym numbering_read ∙ z))) ∙ ap (λ (j : ℕ). mark_count (take j old)) (sym next));
      }

  pub numbering_one : (get_or ms i 0 ≡ 0 → ⊥) → IsNumbering old (set ms i (count + 1)) (i + 1) (count + 1)
  numbering_one z = go (get_or old i 0) refl
    where
      go : (m : ℕ) → get_or old i 0 ≡ m → IsNumbering old (set ms i (count + 1)) (i + 1) (count + 1)
      go zero e = absurd (z (numbering_read ∙ e))
      go (suc m) e =
          let g : slice_get old i ≡ Some (suc m) = slice_get-get_or old i 0 w ∙ ap Some e in
          let d = drop_get old i (suc m) g in
          let c = s.count_is in
          let n : count + 1 ≡ suc (0 + mark_count (take i old)) = omega arith in
          let k = count_marked old i w (ap (nat_lt 0) e ∙ lt_test 0 (suc m) (omega arith)) in
          record {
            front = ap (λ xs. set xs i (count + 1)) (s.front ∙ ap (λ xs. numbered 0 (take i old) ++ xs) d)
                ∙ (set_behind (numbered 0 (take i old)) (drop (suc i) old) (suc m) (count + 1) i front_length
                ∙ (ap (λ x. (numbered 0 (take i old) ++ (x ∷ [])) ++ drop (suc i) old) n
                ∙ (ap (λ xs. xs ++ drop (suc i) old) (sym (numbered_one 0 old i m g)) ∙ ap (λ (j : ℕ). numbered 0 (take j old) ++ drop j old) (sym next))));
            count_is = omega (arith, k) ∙ ap (λ (j : ℕ). mark_count (take j old)) (sym next);
          }

pub numbering_begins : (old : List ℕ) → IsNumbering old old 0 0
numbering_begins old = record { front = refl; count_is = refl }

pub numbering_ends : (old ms : List ℕ) (i count : ℕ) → IsNumbering old ms i count → length old ≤ i → ms ≡ numbered 0 old
numbering_ends old ms i count s h = s.front ∙ (ap (λ xs. numbered 0 xs ++ drop i old) (take_all i old h) ∙ (ap (λ xs. numbered 0 old ++ xs) (drop_of_length-le old h) ∙ append-nil (numbered 0 old)))

pub at_most_one : (m : ℕ) → m ≤ 1 → nat_lt 1 m ≡ false
at_most_one m h = not_true (nat_lt 1 m) (λ q. let x = lt_is 1 m q in absurd (omega arith))

-- the mark of the node at a place
pub dropped_get : (ms : List ℕ) (i : ℕ) → i + 1 < length ms → slice_get (drop 1 ms) i ≡ Some (get_or ms (i + 1) 0)
dropped_get [] i h = absurd (omega arith)
dropped_get (m ∷ ms) i h = let e : i + 1 ≡ suc i = omega arith in slice_get-get_or ms i 0 (omega arith) ∙ ap (λ (j : ℕ). Some (get_or (m ∷ ms) j 0)) (sym e)

-- ---- one place of a list that is gone through

-- what is read at the index is one of those that were there
pub rest_in : (xs old : List ℕ) (i k : ℕ) → length xs ≡ length old → i < length old → drop i xs ≡ drop i old → k ≡ get_or xs i k → IsIn k old
rest_in xs old i k l w r e = get_in old i k (slice_get_read old (length old) i k refl w (e ∙ read_rest xs old i k l w r))

-- a place without a mark above 1 is left out, and any other is taken
module _ (ps : List Placed) (ms ks : List ℕ) (i k m : ℕ) (g : slice_get ks i ≡ Some k) (is : m ≡ get_or ms (k + 1) 0) where
  at : get_or ms (suc k) 0 ≡ m
  at = let e : suc k ≡ k + 1 = omega arith in ap (λ (j : ℕ). get_or ms j 0) e ∙ sym is

  abbrev tail : Bool → List EpochName
  tail b = if b then place_name ps k ∷ [] else []

  names_then : (b : Bool) → nat_lt 1 m ≡ b → kept_names ps ms (take i ks) ++ tail b ≡ kept_names ps ms (take (i + 1) ks)
  names_then b h =
      let next : suc i ≡ i + 1 = omega arith in
      let c : nat_lt 1 (get_or ms (suc k) 0) ≡ b = ap (nat_lt 1) at ∙ h in
      ap (λ z. kept_names ps ms (take i ks) ++ tail z) (sym c) ∙ (sym (kept_names_more ps ms ks i k g) ∙ ap (λ (j : ℕ). kept_names ps ms (take j ks)) next)

  pub names_left_out : m ≤ 1 → kept_names ps ms (take i ks) ≡ kept_names ps ms (take (i + 1) ks)
  names_left_out h = sym (append-nil (kept_names ps ms (take i ks))) ∙ names_then false (at_most_one m h)

  pub names_taken : 1 < m → kept_names ps ms (take i ks) ++ (place_name ps k ∷ []) ≡ kept_names ps ms (take (i + 1) ks)
  names_taken h = names_then true (lt_test 1 m h)

-- the sum over one node more
pub sum_next : (ms : List ℕ) (ps : List Placed) (i m : ℕ) (p : Placed) → slice_get ps i ≡ Some p → slice_get ms i ≡ Some m → (b : Bool) → nat_lt 1 m ≡ b → kept_sum ms (take (i + 1) ps) ≡ kept_sum ms (take i ps) + (if b then length p.renaming.former else 0)
sum_next ms ps i m p g h b e =
    let next : i + 1 ≡ suc i = omega arith in
    ap (λ (j : ℕ). kept_sum ms (take j ps)) next ∙ (kept_sum_more ms ps i m p g h ∙ ap (λ z. kept_sum ms (take i ps) + (if z then length p.renaming.former else 0)) e)
