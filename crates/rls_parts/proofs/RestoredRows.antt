-- The rows of the replica that has given parts, and what is stable there.
use Rattle.std.proofs.Common.{◌≡◌, ℕ, zero, suc, ◌+◌, ◌-◌, ◌<◌, ◌≤◌, ◌==◌, ◌||◌, not, nat_lt, slice_index, Bool, true, false, List, [], ◌∷◌, length, get_or, replicate, refl, sym, ap, ◌∙◌, subst, arith, inl, inr, ⊎_elim, None, if◌then◌else◌}
use Rattle.std.proofs.lemmas.Bool.{cases_lt}
use Rattle.std.proofs.lemmas.List.{length-replicate}
use Rattle.rls_ident.specs.Lists.{IsIn}
use Rattle.rls_ident.specs.Vectors.{at_most}
use Rattle.rls_ident.proofs.Members.{bool_cases, eq_not, le_is, lt_is, lt_test, neq_test, not_is, not_true}
use Rattle.rls_ident.proofs.Vectors.{at_most_antisym}
use Rattle.rls_ops.specs.Rows.{AreRows, HaveLength, row_of, left, awaits, least_of, stable_of}
use Rattle.rls_model.specs.declared.parts.Parts.{Parts}
use Rattle.rls_model.proofs.Stable.{at_most-least_of, least_of-each, least_greatest, IsBelow}
use Rattle.rls_seen.proofs.StableRows.{stable_mine, stable_row, stable_most}
use Rattle.rls_parts.specs.Given.{AreGiven}
use Rattle.rls_parts.specs.Reading.{member_at, has_member, awaited_from, stable_of_parts}
use Rattle.rls_parts.specs.Restored.{with_own, acks_of}
use Rattle.rls_parts.specs.Rules.{row_fault, is_row_of}
use Rattle.rls_parts.proofs.LeftMarks.{length-marks, mark_at}
use Rattle.rls_parts.proofs.OwnRows.{length-own, own_lengths, own_before, own_behind}
use Rattle.rls_parts.proofs.Passing.{row_first}

-- ---- the shape of the rows

-- for numbers and lists that fit together
pub rows_fit : (p : Parts) → p.me < p.members → length p.vector ≡ p.members → length p.rows + 1 ≡ p.members → HaveLength p.members p.rows → AreRows (acks_of p)
rows_fit p m v r c =
    let e : length {A = ℕ} (replicate p.members 0) ≡ p.members = length-replicate p.members 0 in
    let l : length (with_own p.me (replicate p.members 0) p.rows) ≡ length p.vector = let k = length-own p.me (replicate p.members 0) p.rows (omega arith) in omega arith in
    record {
      member = omega arith;
      rows = l;
      counts_are = subst (λ n. HaveLength n (with_own p.me (replicate p.members 0) p.rows)) (sym v) (own_lengths p.members p.me (replicate p.members 0) p.rows e c);
      marks = length-marks p.left p.members ∙ sym v;
    }

pub rows_given : (p : Parts) → AreGiven p → AreRows (acks_of p)
rows_given p g = rows_fit p g.me g.vector g.rows g.rows_counts

pub left_given : (p : Parts) (a : ℕ) → a < p.members → left (acks_of p) a ≡ has_member p.left a
left_given p a l = mark_at p.left p.members a l

-- ---- the places of the rows

-- the member at a place before the own one, and at one from it on
at_before : (me i : ℕ) → i < me → member_at me i ≡ i
at_before me i h = ap (λ b. if b then i else i + 1) (lt_test i me h)

at_behind : (me i : ℕ) → me ≤ i → member_at me i ≡ suc i
at_behind me i h =
    let e : nat_lt i me ≡ false = not_true (nat_lt i me) (λ q. let l = lt_is i me q in absurd (omega arith)) in
    ap (λ b. if b then i else i + 1) e ∙ (omega arith)

pub if_other : (b : Bool) (x y : List ℕ) → b ≡ false → (if b then x else y) ≡ y
if_other b x y e = ap (λ c. if c then x else y) e

-- the row at a place is that of the member there
pub row_at : (p : Parts) (i : ℕ) → row_of (acks_of p) (member_at p.me i) ≡ get_or p.rows i []
row_at p i =
    let z : List ℕ = replicate p.members 0 in
    ⊎_elim
    (λ h. ap (row_of (acks_of p)) (at_before p.me i h)
    ∙ (if_other (i == p.me) p.vector (get_or (with_own p.me z p.rows) i []) (neq_test i p.me (λ e. absurd (omega arith))) ∙ own_before p.me z p.rows i h))
    (λ h. ap (row_of (acks_of p)) (at_behind p.me i h)
    ∙ (if_other (suc i == p.me) p.vector (get_or (with_own p.me z p.rows) (suc i) []) (neq_test (suc i) p.me (λ e. absurd (omega arith))) ∙ own_behind p.me z p.rows i h))
    (cases_lt i p.me)

-- a member other than the own one, by its place
pub record HasPlace (p : Parts) (a : ℕ) : Type 0 where
  pub place : ℕ
  pub within : place < length p.rows
  pub member : member_at p.me place ≡ a

pub place_of_member : (p : Parts) → length p.rows + 1 ≡ p.members → (a : ℕ) → a < p.members → (a ≡ p.me → ⊥) → p.me < p.members → HasPlace p a
place_of_member p r a l n m =
    ⊎_elim (λ h. record { place = a; within = omega arith; member = at_before p.me a h })
    (λ h. let k : p.me < a = let x : (a ≡ p.me) → ⊥ = n in omega arith in
    let e : suc (a - 1) ≡ a = omega arith in
    record { place = a - 1; within = omega arith; member = at_behind p.me (a - 1) (omega arith) ∙ e })
    (cases_lt a p.me)

pub member_below : (me n i : ℕ) → suc i < n → me < n → member_at me i < n
member_below me n i l m =
    ⊎_elim (λ h. let e = at_before me i h in omega arith) (λ h. let e = at_behind me i h in omega arith) (cases_lt i me)

member_other : (me i : ℕ) → member_at me i ≡ me → ⊥
member_other me i q =
    ⊎_elim (λ h. let e = at_before me i h in absurd (omega arith)) (λ h. let e = at_behind me i h in absurd (omega arith)) (cases_lt i me)

-- ---- no row tells more of its own member than was accepted

row_fine : (p : Parts) (i : ℕ) (rows : List (List ℕ)) → row_fault p i rows ≡ None → (k : ℕ) → k < length rows → is_row_of p.vector (member_at p.me (i + k)) (get_or rows k []) ≡ true
row_fine p i [] f k l = absurd (omega arith)
row_fine p i (row ∷ rows) f zero l = let e : i + 0 ≡ i = omega arith in ap (λ j. is_row_of p.vector (member_at p.me j) row) e ∙ (row_first p i row rows f).0
row_fine p i (row ∷ rows) f (suc k) l =
    let e : i + suc k ≡ suc i + k = omega arith in
    ap (λ j. is_row_of p.vector (member_at p.me j) (get_or rows k [])) e ∙ row_fine p (suc i) rows (row_first p i row rows f).1 k (omega arith)

pub own_given : (p : Parts) → AreGiven p → row_fault p 0 p.rows ≡ None → (a : ℕ) → a < p.members → slice_index (row_of (acks_of p) a) a ≤ slice_index p.vector a
own_given p g f a l =
    bool_cases (a == p.me)
    (λ e. let q : row_of (acks_of p) a ≡ p.vector = ap (λ b. if b then p.vector else get_or (acks_of p).others a []) e in
    let r = ap (λ v. slice_index v a) q in omega arith)
    (λ e. let h = place_of_member p g.rows a l (eq_not a p.me e) g.me in
    let x : 0 + h.place ≡ h.place = omega arith in
    let t : is_row_of p.vector (member_at p.me h.place) (get_or p.rows h.place []) ≡ true = ap (λ j. is_row_of p.vector (member_at p.me j) (get_or p.rows h.place [])) (sym x) ∙ row_fine p 0 p.rows f h.place h.within in
    let u : is_row_of p.vector a (row_of (acks_of p) a) ≡ true =
    subst (λ b. is_row_of p.vector b (row_of (acks_of p) b) ≡ true) h.member (ap (is_row_of p.vector (member_at p.me h.place)) (row_at p h.place) ∙ t) in
    le_is (slice_index (row_of (acks_of p) a) a) (slice_index p.vector a) u)

-- ---- what is stable

-- the row of a member that hasn't left is awaited
awaited_at : (me : ℕ) (ms : List ℕ) (i : ℕ) (rows : List (List ℕ)) (k : ℕ) → k < length rows → has_member ms (member_at me (i + k)) ≡ false → IsIn (get_or rows k []) (awaited_from me ms i rows)
awaited_at me ms i [] k l h = absurd (omega arith)
awaited_at me ms i (row ∷ rows) zero l h =
    let e : i + 0 ≡ i = omega arith in
    let f : has_member ms (member_at me i) ≡ false = ap (λ j. has_member ms (member_at me j)) (sym e) ∙ h in
    subst (λ b. IsIn row (if b then awaited_from me ms (suc i) rows else row ∷ awaited_from me ms (suc i) rows)) (sym f) (inl refl)
awaited_at me ms i (row ∷ rows) (suc k) l h =
    let e : i + suc k ≡ suc i + k = omega arith in
    go (has_member ms (member_at me i)) (awaited_at me ms (suc i) rows k (omega arith) (ap (λ j. has_member ms (member_at me j)) (sym e) ∙ h))
  where
    go : (b : Bool) → IsIn (get_or rows k []) (awaited_from me ms (suc i) rows) → IsIn (get_or rows k []) (if b then awaited_from me ms (suc i) rows else row ∷ awaited_from me ms (suc i) rows)
    go true q = q
    go false q = inr q

-- what is at most each such row is at most what is awaited
below_awaited : (u : List ℕ) (me : ℕ) (ms : List ℕ) (i : ℕ) (rows : List (List ℕ)) → ((k : ℕ) → k < length rows → has_member ms (member_at me (i + k)) ≡ false → at_most u (get_or rows k []) ≡ true) → IsBelow u (awaited_from me ms i rows)
below_awaited u me ms i [] f = tt
below_awaited u me ms i (row ∷ rows) f = go (has_member ms (member_at me i)) refl (below_awaited u me ms (suc i) rows later)
  where
    later : (k : ℕ) → k < length rows → has_member ms (member_at me (suc i + k)) ≡ false → at_most u (get_or rows k []) ≡ true
    later k l h = let e : i + suc k ≡ suc i + k = omega arith in f (suc k) (omega arith) (ap (λ j. has_member ms (member_at me j)) e ∙ h)

    go : (b : Bool) → has_member ms (member_at me i) ≡ b → IsBelow u (awaited_from me ms (suc i) rows) → IsBelow u (if b then awaited_from me ms (suc i) rows else row ∷ awaited_from me ms (suc i) rows)
    go true e q = q
    go false e q = let x : i + 0 ≡ i = omega arith in (f 0 (omega arith) (ap (λ j. has_member ms (member_at me j)) x ∙ e), q)

none_left : (b : Bool) → b ≡ false → (false || not b) ≡ true
none_left b e = ap not e

-- the same is stable
pub stable_fits : (p : Parts) → p.me < p.members → length p.vector ≡ p.members → length p.rows + 1 ≡ p.members → stable_of (acks_of p) ≡ stable_of_parts p
unfolding stable_of_parts
stable_fits p own v r =
    let acks = acks_of p in
    let ws = awaited_from p.me p.left 0 p.rows in
    at_most_antisym (stable_of acks) (least_of p.vector ws)
    (least_greatest (stable_of acks) p.vector ws (stable_mine acks)
    (below_awaited (stable_of acks) p.me p.left 0 p.rows
    (λ k l h. let x : 0 + k ≡ k = omega arith in
    let a = member_at p.me k in
    let m = member_below p.me p.members k (omega arith) own in
    let q : left acks a ≡ false = mark_at p.left p.members a m ∙ (ap (λ j. has_member p.left (member_at p.me j)) (sym x) ∙ h) in
    let w : awaits acks a ≡ true = ap (λ b. b || not (left acks a)) (neq_test a p.me (member_other p.me k)) ∙ none_left (left acks a) q in
    ap (at_most (stable_of acks)) (sym (row_at p k)) ∙ stable_row acks a (omega arith) w)))
    (stable_most (least_of p.vector ws) acks (at_most-least_of p.vector ws)
    (λ a l w. bool_cases (a == p.me)
    (λ e. let q : row_of acks a ≡ p.vector = ap (λ b. if b then p.vector else get_or acks.others a []) e in ap (at_most (least_of p.vector ws)) q ∙ at_most-least_of p.vector ws)
    (λ e. let m : a < p.members = omega arith in
    let h = place_of_member p r a m (eq_not a p.me e) own in
    let x : 0 + h.place ≡ h.place = omega arith in
    let n : left acks a ≡ false = not_is (left acks a) (sym (ap (λ b. b || not (left acks a)) e) ∙ w) in
    let q : has_member p.left (member_at p.me (0 + h.place)) ≡ false = ap (λ j. has_member p.left (member_at p.me j)) x ∙ (ap (has_member p.left) h.member ∙ (sym (mark_at p.left p.members a m) ∙ n)) in
    let same : get_or p.rows h.place [] ≡ row_of acks a = sym (row_at p h.place) ∙ ap (row_of acks) h.member in
    subst (λ u. at_most (least_of p.vector ws) u ≡ true) same (least_of-each p.vector (get_or p.rows h.place []) ws (awaited_at p.me p.left 0 p.rows h.place h.within q)))))

pub stable_given : (p : Parts) → AreGiven p → stable_of (acks_of p) ≡ stable_of_parts p
stable_given p g = stable_fits p g.me g.vector g.rows
