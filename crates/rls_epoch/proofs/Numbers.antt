-- The new places of what is kept, by the numbers of the marks.
use Rattle.std.proofs.Common.{◌≡◌, ℕ, zero, suc, ◌+◌, ◌-◌, ◌<◌, Bool, true, false, List, [], ◌∷◌, ◌++◌, map, length, take, drop, Some, refl, sym, ap, ◌∙◌, subst, inl, inr, arith, nat_lt}
use Rattle.std.specs.Prelude.{slice_get, slice_index, filter, cond, reverse, if◌then◌else◌}
use Rattle.std.proofs.lemmas.List.{map-append, reverse-append}
use Rattle.rls_ident.specs.Lists.{IsIn}
use Rattle.rls_ident.proofs.Members.{bool_cases, lt_is, lt_test, some_is}
use Rattle.rls_rename.specs.Tree.{Node}
use Rattle.rls_epoch.specs.declared.placed.Placed.{Placed}
use Rattle.rls_epoch.specs.Marks.{has_mark, mark_count, numbered, moved, kept_placed, kept_places, kept_sum}
use Rattle.rls_epoch.specs.Seen.{former_sum, node_of, nodes_of}
use Rattle.rls_epoch.proofs.Compacting.{at_most_one, former_first}

-- ---- numbers of marks

pub number_zero : (n : ℕ) (ms : List ℕ) (j : ℕ) → has_mark ms j ≡ false → slice_index (numbered n ms) j ≡ 0
number_zero n [] j h = refl
number_zero n (zero ∷ ms) zero h = refl
number_zero n (suc m ∷ ms) zero h = absurd (let x = h in let y = lt_test 0 (suc m) (omega arith) in cc)
number_zero n (zero ∷ ms) (suc j) h = number_zero n ms j h
number_zero n (suc m ∷ ms) (suc j) h = number_zero (suc n) ms j h

pub number_one : (n : ℕ) (ms : List ℕ) (j : ℕ) → has_mark ms j ≡ true → slice_index (numbered n ms) j ≡ suc (n + mark_count (take j ms))
number_one n [] j h = absurd (omega (arith, lt_is 0 0 h))
number_one n (zero ∷ ms) zero h = absurd (omega (arith, lt_is 0 0 h))
number_one n (suc m ∷ ms) zero h = omega arith
number_one n (zero ∷ ms) (suc j) h = number_one n ms j h
number_one n (suc m ∷ ms) (suc j) h = let e = number_one (suc n) ms j h in omega (arith, e)

-- what has a number is marked
pub number_mark : (n : ℕ) (ms : List ℕ) (j : ℕ) → 0 < slice_index (numbered n ms) j → has_mark ms j ≡ true
number_mark n ms j h = bool_cases (has_mark ms j) (λ q. q) (λ q. absurd (let e = number_zero n ms j q in omega (arith, e)))

-- and a greater one than those before it
pub number_above : (n : ℕ) (ms : List ℕ) (j : ℕ) → 0 < slice_index (numbered n ms) j → n < slice_index (numbered n ms) j
number_above n ms j h = let e = number_one n ms j (number_mark n ms j h) in omega (arith, e)

pub number_less : (n : ℕ) (ms : List ℕ) (i j : ℕ) → i < j → 0 < slice_index (numbered n ms) i → 0 < slice_index (numbered n ms) j → slice_index (numbered n ms) i < slice_index (numbered n ms) j
number_less n ms i zero l h g = absurd (omega arith)
number_less n [] i (suc j) l h g = absurd (omega arith)
number_less n (zero ∷ ms) zero (suc j) l h g = absurd (omega arith)
number_less n (suc m ∷ ms) zero (suc j) l h g = number_above (suc n) ms j g
number_less n (zero ∷ ms) (suc i) (suc j) l h g = number_less n ms i j (omega arith) h g
number_less n (suc m ∷ ms) (suc i) (suc j) l h g = number_less (suc n) ms i j (omega arith) h g

-- ---- kept nodes by their new places

pub kept_at : (all : List ℕ) (n : ℕ) (ms : List ℕ) (ps : List Placed) (k : ℕ) (p : Placed) → slice_get ps k ≡ Some p → 1 < slice_index (numbered n ms) k →
    slice_get (kept_placed all (numbered n ms) ps) (slice_index (numbered n ms) k - 2 - (n - 1)) ≡ Some (moved all p)
kept_at all n [] ps k p g h = absurd (omega arith)
kept_at all n (m ∷ ms) [] k p g h = absurd (cc)
kept_at all n (zero ∷ ms) (q ∷ ps) zero p g h = absurd (omega arith)
kept_at all n (zero ∷ ms) (q ∷ ps) (suc k) p g h =
    let i = slice_index (numbered n ms) k - 2 - (n - 1) in
    ap (λ (b : Bool). slice_get (if b then moved all q ∷ kept_placed all (numbered n ms) ps else kept_placed all (numbered n ms) ps) i) (at_most_one 0 (omega arith)) ∙ kept_at all n ms ps k p g h
kept_at all zero (suc m ∷ ms) (q ∷ ps) zero p g h = absurd (omega arith)
kept_at all (suc n) (suc m ∷ ms) (q ∷ ps) zero p g h =
    let i = suc (suc n) - 2 - (suc n - 1) in
    let e : i ≡ 0 = omega arith in
    ap (λ (b : Bool). slice_get (if b then moved all q ∷ kept_placed all (numbered (suc (suc n)) ms) ps else kept_placed all (numbered (suc (suc n)) ms) ps) i) (lt_test 1 (suc (suc n)) (omega arith))
    ∙ (ap (λ (j : ℕ). slice_get (moved all q ∷ kept_placed all (numbered (suc (suc n)) ms) ps) j) e ∙ ap (λ (z : Placed). Some (moved all z)) (some_is q p g))
kept_at all zero (suc m ∷ ms) (q ∷ ps) (suc k) p g h =
    let i = slice_index (numbered 1 ms) k - 2 - 0 in
    ap (λ (b : Bool). slice_get (if b then moved all q ∷ kept_placed all (numbered 1 ms) ps else kept_placed all (numbered 1 ms) ps) i) (at_most_one 1 (omega arith)) ∙ kept_at all 1 ms ps k p g h
kept_at all (suc n) (suc m ∷ ms) (q ∷ ps) (suc k) p g h =
    let x = slice_index (numbered (suc (suc n)) ms) k in
    let i = x - 2 - (suc n - 1) in
    let a = number_above (suc (suc n)) ms k (omega arith) in
    let e : i ≡ suc (x - 2 - (suc (suc n) - 1)) = omega (arith, a) in
    ap (λ (b : Bool). slice_get (if b then moved all q ∷ kept_placed all (numbered (suc (suc n)) ms) ps else kept_placed all (numbered (suc (suc n)) ms) ps) i) (lt_test 1 (suc (suc n)) (omega arith))
    ∙ (ap (λ (j : ℕ). slice_get (moved all q ∷ kept_placed all (numbered (suc (suc n)) ms) ps) j) e ∙ kept_at all (suc (suc n)) ms ps k p g h)

abbrev pub FromAt : List ℕ → List ℕ → List Placed → ℕ → Placed → ℕ → Type 0
FromAt all xs ps n q j = (k : ℕ) × (p : Placed) × (slice_get ps k ≡ Some p) × (moved all p ≡ q) × (slice_index xs k ≡ j + 2 + (n - 1))

pub kept_from : (all : List ℕ) (n : ℕ) (ms : List ℕ) (ps : List Placed) (j : ℕ) (q : Placed) → slice_get (kept_placed all (numbered n ms) ps) j ≡ Some q → FromAt all (numbered n ms) ps n q j
kept_from all n [] ps j q g = absurd (cc)
kept_from all n (zero ∷ ms) [] j q g = absurd (cc)
kept_from all n (suc m ∷ ms) [] j q g = absurd (cc)
kept_from all n (zero ∷ ms) (p ∷ ps) j q g =
    let r = kept_from all n ms ps j q
    (sym (ap (λ (b : Bool). slice_get (if b then moved all p ∷ kept_placed all (numbered n ms) ps else kept_placed all (numbered n ms) ps) j) (at_most_one 0 (omega arith))) ∙ g) in
    (suc r.0, r.1, r.2, r.3, r.4)
kept_from all zero (suc m ∷ ms) (p ∷ ps) j q g =
    let r = kept_from all 1 ms ps j q
    (sym (ap (λ (b : Bool). slice_get (if b then moved all p ∷ kept_placed all (numbered 1 ms) ps else kept_placed all (numbered 1 ms) ps) j) (at_most_one 1 (omega arith))) ∙ g) in
    (suc r.0, r.1, r.2, r.3, r.4)
kept_from all (suc n) (suc m ∷ ms) (p ∷ ps) zero q g =
    let e = sym (ap (λ (b : Bool). slice_get (if b then moved all p ∷ kept_placed all (numbered (suc (suc n)) ms) ps else kept_placed all (numbered (suc (suc n)) ms) ps) 0) (lt_test 1 (suc (suc n)) (omega arith))) ∙ g in
    (0, p, refl, some_is (moved all p) q e, omega arith)
kept_from all (suc n) (suc m ∷ ms) (p ∷ ps) (suc j) q g =
    let r = kept_from all (suc (suc n)) ms ps j q
    (sym (ap (λ (b : Bool). slice_get (if b then moved all p ∷ kept_placed all (numbered (suc (suc n)) ms) ps else kept_placed all (numbered (suc (suc n)) ms) ps) (suc j)) (lt_test 1 (suc (suc n)) (omega arith))) ∙ g) in
    let e = r.4 in
    (suc r.0, r.1, r.2, r.3, omega (arith, e))

-- with the mark of the topmost epoch in front
pub kept_place_at : (all ms : List ℕ) (ps : List Placed) (k : ℕ) (p : Placed) → slice_get ps k ≡ Some p → 1 < slice_index (numbered 0 ms) (suc k) → slice_get (kept_placed all (drop 1 (numbered 0 ms)) ps) (slice_index (numbered 0 ms) (suc k) - 2) ≡ Some (moved all p)
kept_place_at all [] ps k p g h = absurd (omega arith)
kept_place_at all (zero ∷ ms) ps k p g h =
    let x = slice_index (numbered 0 ms) k in
    let e : x - 2 ≡ x - 2 - (0 - 1) = omega arith in
    ap (slice_get (kept_placed all (numbered 0 ms) ps)) e ∙ kept_at all 0 ms ps k p g h
kept_place_at all (suc m ∷ ms) ps k p g h =
    let x = slice_index (numbered 1 ms) k in
    let e : x - 2 ≡ x - 2 - (1 - 1) = omega arith in
    ap (slice_get (kept_placed all (numbered 1 ms) ps)) e ∙ kept_at all 1 ms ps k p g h

pub kept_place_from : (all ms : List ℕ) (ps : List Placed) (j : ℕ) (q : Placed) → slice_get (kept_placed all (drop 1 (numbered 0 ms)) ps) j ≡ Some q →
    (k : ℕ) × (p : Placed) × (slice_get ps k ≡ Some p) × (moved all p ≡ q) × (slice_index (numbered 0 ms) (suc k) ≡ j + 2)
kept_place_from all [] ps j q g = absurd (cc)
kept_place_from all (zero ∷ ms) ps j q g = let r = kept_from all 0 ms ps j q g in let e = r.4 in (r.0, r.1, r.2, r.3, omega (arith, e))
kept_place_from all (suc m ∷ ms) ps j q g = let r = kept_from all 1 ms ps j q g in let e = r.4 in (r.0, r.1, r.2, r.3, omega (arith, e))

-- ---- kept places

pub places_in : (marks places : List ℕ) (k : ℕ) → IsIn k places → 1 < slice_index marks (suc k) → IsIn (slice_index marks (suc k) - 2) (kept_places marks places)
places_in marks [] k p h = absurd p
places_in marks (i ∷ places) k (inl e) h =
    let q : slice_index marks (suc i) - 2 ≡ slice_index marks (suc k) - 2 = ap (λ (j : ℕ). slice_index marks (suc j) - 2) e in
    let t = lt_test 1 (slice_index marks (suc i)) (subst (λ (j : ℕ). 1 < slice_index marks (suc j)) (sym e) h) in
    subst (λ (b : Bool). IsIn (slice_index marks (suc k) - 2) (if b then (slice_index marks (suc i) - 2) ∷ kept_places marks places else kept_places marks places)) (sym t) (inl q)
places_in marks (i ∷ places) k (inr p) h = go (nat_lt 1 (slice_index marks (suc i))) (places_in marks places k p h)
  where
    go : (b : Bool) → IsIn (slice_index marks (suc k) - 2) (kept_places marks places) → IsIn (slice_index marks (suc k) - 2) (if b then (slice_index marks (suc i) - 2) ∷ kept_places marks places else kept_places marks places)
    go true q = inr q
    go false q = q

pub in_places : (marks places : List ℕ) (j : ℕ) → IsIn j (kept_places marks places) → (k : ℕ) × IsIn k places × (1 < slice_index marks (suc k)) × (slice_index marks (suc k) - 2 ≡ j)
in_places marks [] j p = absurd p
in_places marks (i ∷ places) j p = go (nat_lt 1 (slice_index marks (suc i))) refl (λ q. in_places marks places j q) p
  where
    From : List ℕ → Type 0
    From ks = (k : ℕ) × IsIn k ks × (1 < slice_index marks (suc k)) × (slice_index marks (suc k) - 2 ≡ j)

    more : From places → From (i ∷ places)
    more r = (r.0, inr r.1, r.2, r.3)

    go : (b : Bool) → nat_lt 1 (slice_index marks (suc i)) ≡ b → (IsIn j (kept_places marks places) → From places) → IsIn j (if b then (slice_index marks (suc i) - 2) ∷ kept_places marks places else kept_places marks places) → From (i ∷ places)
    go false h r q = more (r q)
    go true h r (inl e) = (i, inl refl, lt_is 1 (slice_index marks (suc i)) h, e)
    go true h r (inr q) = more (r q)

-- ---- kept nodes by a test

filter_end : (t : Node → Bool) (xs : List Node) (y : Node) → filter t (xs ++ (y ∷ [])) ≡ filter t xs ++ (if t y then y ∷ [] else [])
filter_end t [] y = go (t y)
  where
    go : (b : Bool) → cond b (y ∷ []) [] ≡ (if b then y ∷ [] else [])
    go true = refl
    go false = refl
filter_end t (x ∷ xs) y = go (t x) (filter_end t xs y)
  where
    go : (b : Bool) → filter t (xs ++ (y ∷ [])) ≡ filter t xs ++ (if t y then y ∷ [] else []) → cond b (x ∷ filter t (xs ++ (y ∷ []))) (filter t (xs ++ (y ∷ []))) ≡ cond b (x ∷ filter t xs) (filter t xs) ++ (if t y then y ∷ [] else [])
    go true e = ap (λ zs. x ∷ zs) e
    go false e = e

nodes_first : (p : Placed) (ps : List Placed) → nodes_of (p ∷ ps) ≡ nodes_of ps ++ (node_of p ∷ [])
nodes_first p ps = ap (map node_of) (reverse-append (p ∷ []) ps) ∙ map-append node_of (reverse ps) (p ∷ [])

pub kept_filter : (t : Node → Bool) (all ms : List ℕ) (ps : List Placed) → length ms ≡ length ps → ((k m : ℕ) (p : Placed) → slice_get ps k ≡ Some p → slice_get ms k ≡ Some m → nat_lt 1 m ≡ t (node_of p)) → nodes_of (kept_placed all ms ps) ≡ filter t (nodes_of ps)
kept_filter t all [] [] l h = refl
kept_filter t all [] (p ∷ ps) l h = absurd (omega arith)
kept_filter t all (m ∷ ms) [] l h = absurd (omega arith)
kept_filter t all (m ∷ ms) (p ∷ ps) l h =
    ap (λ (b : Bool). nodes_of (if b then moved all p ∷ kept_placed all ms ps else kept_placed all ms ps)) (h 0 m p refl refl)
    ∙ (go (t (node_of p)) (kept_filter t all ms ps (omega arith) (λ k n q g e. h (suc k) n q g e))
    ∙ (sym (filter_end t (nodes_of ps) (node_of p)) ∙ ap (filter t) (sym (nodes_first p ps))))
  where
    append_none : (xs : List Node) → xs ≡ xs ++ []
    append_none [] = refl
    append_none (x ∷ xs) = ap (λ zs. x ∷ zs) (append_none xs)

    go : (b : Bool) → nodes_of (kept_placed all ms ps) ≡ filter t (nodes_of ps) → nodes_of (if b then moved all p ∷ kept_placed all ms ps else kept_placed all ms ps) ≡ filter t (nodes_of ps) ++ (if b then node_of p ∷ [] else [])
    go true e = nodes_first (moved all p) (kept_placed all ms ps) ∙ ap (λ xs. xs ++ (node_of p ∷ [])) e
    go false e = e ∙ append_none (filter t (nodes_of ps))

pub kept_former : (all ms : List ℕ) (ps : List Placed) → kept_sum ms ps ≡ former_sum (nodes_of (kept_placed all ms ps))
kept_former all [] ps = refl
kept_former all (m ∷ ms) [] = refl
kept_former all (m ∷ ms) (p ∷ ps) = go (nat_lt 1 m) (kept_former all ms ps)
  where
    go : (b : Bool) → kept_sum ms ps ≡ former_sum (nodes_of (kept_placed all ms ps)) → (if b then length p.renaming.former else 0) + kept_sum ms ps ≡ former_sum (nodes_of (if b then moved all p ∷ kept_placed all ms ps else kept_placed all ms ps))
    go true e = let a = former_first (moved all p) (kept_placed all ms ps) in omega (arith, e, a)
    go false e = omega (arith, e)
