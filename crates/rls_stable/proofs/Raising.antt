-- The least of the awaited rows when the own row counts one more operation.
use Rattle.std.proofs.Common.{◌≡◌, ◌∙◌, ◌⊎◌, ℕ, zero, suc, ◌<◌, ◌≤◌, min, Bool, true, false, List, [], ◌∷◌, ◌++◌, length, refl, sym, ap, inl, inr, ⊎_elim, arith}
use Rattle.std.specs.Prelude.{slice_index, ◌==◌, if◌then◌else◌}
use Rattle.std.proofs.lemmas.Bool.{cases_lt}
use Rattle.rls_ident.specs.Vectors.{meet, raise}
use Rattle.rls_ident.proofs.Vectors.{length-meet, length-raise}
use Rattle.rls_ident.proofs.Members.{bool_cases}
use Rattle.rls_ops.specs.Rows.{AcksSeen, AreRows, awaits, awaited, row_of, least_of, raised, stable_of}
use Rattle.rls_ops.proofs.KeptRows.{length-row}

-- ---- the lesser counts of two vectors, of which one or both count one more

index-meet : (u w : List ℕ) (a : ℕ) → length u ≡ length w → slice_index (meet u w) a ≡ min (slice_index u a) (slice_index w a)
index-meet [] [] a l = refl
index-meet [] (y ∷ w) a l = absurd (omega (arith, l))
index-meet (x ∷ u) [] a l = absurd (omega (arith, l))
index-meet (x ∷ u) (y ∷ w) zero l = refl
index-meet (x ∷ u) (y ∷ w) (suc a) l = index-meet u w a (omega (arith, l))

-- the other one counts no more there
meet_low : (u w : List ℕ) (a : ℕ) → length u ≡ length w → slice_index w a ≤ slice_index u a → meet (raise u a) w ≡ meet u w
meet_low [] [] a l h = refl
meet_low [] (y ∷ w) a l h = absurd (omega (arith, l))
meet_low (x ∷ u) [] a l h = absurd (omega (arith, l))
meet_low (x ∷ u) (y ∷ w) zero l h = let e : min (suc x) y ≡ min x y = omega (arith, h) in ap (λ n. n ∷ meet u w) e
meet_low (x ∷ u) (y ∷ w) (suc a) l h = ap (λ v. min x y ∷ v) (meet_low u w a (omega (arith, l)) h)

-- it counts more there
meet_high : (u w : List ℕ) (a : ℕ) → length u ≡ length w → slice_index u a < slice_index w a → meet (raise u a) w ≡ raise (meet u w) a
meet_high [] [] a l h = refl
meet_high [] (y ∷ w) a l h = absurd (omega (arith, l))
meet_high (x ∷ u) [] a l h = absurd (omega (arith, l))
meet_high (x ∷ u) (y ∷ w) zero l h = let e : min (suc x) y ≡ suc (min x y) = omega (arith, h) in ap (λ n. n ∷ meet u w) e
meet_high (x ∷ u) (y ∷ w) (suc a) l h = ap (λ v. min x y ∷ v) (meet_high u w a (omega (arith, l)) h)

-- both count one more
meet_both : (u w : List ℕ) (a : ℕ) → length u ≡ length w → meet (raise u a) (raise w a) ≡ raise (meet u w) a
meet_both [] [] a l = refl
meet_both [] (y ∷ w) a l = absurd (omega (arith, l))
meet_both (x ∷ u) [] a l = absurd (omega (arith, l))
meet_both (x ∷ u) (y ∷ w) zero l = let e : min (suc x) (suc y) ≡ suc (min x y) = omega arith in ap (λ n. n ∷ meet u w) e
meet_both (x ∷ u) (y ∷ w) (suc a) l = ap (λ v. min x y ∷ v) (meet_both u w a (omega (arith, l)))

-- only the other one does
meet_other : (u w : List ℕ) (a : ℕ) → length u ≡ length w → slice_index u a ≤ slice_index w a → meet u (raise w a) ≡ meet u w
meet_other [] [] a l h = refl
meet_other [] (y ∷ w) a l h = absurd (omega (arith, l))
meet_other (x ∷ u) [] a l h = absurd (omega (arith, l))
meet_other (x ∷ u) (y ∷ w) zero l h = let e : min x (suc y) ≡ min x y = omega (arith, h) in ap (λ n. n ∷ meet u w) e
meet_other (x ∷ u) (y ∷ w) (suc a) l h = ap (λ v. min x y ∷ v) (meet_other u w a (omega (arith, l)) h)

-- ---- rows, before and after

-- row by row the same, but that the own one counts one more
abbrev AreRaised : List ℕ → ℕ → List (List ℕ) → List (List ℕ) → Type 0
AreRaised m a [] [] = Unit {0}
AreRaised m a [] (v ∷ vs) = ⊥
AreRaised m a (w ∷ ws) [] = ⊥
AreRaised m a (w ∷ ws) (v ∷ vs) = (length w ≡ length m) × ((v ≡ w) ⊎ ((w ≡ m) × (v ≡ raise m a))) × AreRaised m a ws vs

raised_append : (m : List ℕ) (a : ℕ) (ws vs us ts : List (List ℕ)) → AreRaised m a ws vs → AreRaised m a us ts → AreRaised m a (ws ++ us) (vs ++ ts)
raised_append m a [] [] us ts h k = k
raised_append m a [] (v ∷ vs) us ts h k = absurd h
raised_append m a (w ∷ ws) [] us ts h k = absurd h
raised_append m a (w ∷ ws) (v ∷ vs) us ts h k = (h.0, h.1, raised_append m a ws vs us ts h.2 k)

row_raised : (acks : AcksSeen) (a n : ℕ) → (row_of (raised acks a) n ≡ row_of acks n) ⊎ ((row_of acks n ≡ acks.mine) × (row_of (raised acks a) n ≡ raise acks.mine a))
row_raised acks a n = bool_cases (n == acks.me) own other
  where
    own : (n == acks.me) ≡ true → (row_of (raised acks a) n ≡ row_of acks n) ⊎ ((row_of acks n ≡ acks.mine) × (row_of (raised acks a) n ≡ raise acks.mine a))
    own e = inr (rw e refl, rw e refl)

    other : (n == acks.me) ≡ false → (row_of (raised acks a) n ≡ row_of acks n) ⊎ ((row_of acks n ≡ acks.mine) × (row_of (raised acks a) n ≡ raise acks.mine a))
    other e = inl (rw e refl)

rows_raised : (acks : AcksSeen) (a n : ℕ) → AreRows acks → n ≤ length acks.mine → AreRaised acks.mine a (awaited acks n) (awaited (raised acks a) n)
rows_raised acks a zero h l = tt
rows_raised acks a (suc n) h l =
    let front = rows_raised acks a n h (omega (arith, l)) in
    let one : (b : Bool) → AreRaised acks.mine a (if b then row_of acks n ∷ [] else []) (if b then row_of (raised acks a) n ∷ [] else []) =
    λ b. elim b as (λ b. AreRaised acks.mine a (if b then row_of acks n ∷ [] else []) (if b then row_of (raised acks a) n ∷ [] else [])) [
      | true ↦ (length-row acks n h (omega (arith, l)), row_raised acks a n, tt)
      | false ↦ tt
    ] in
    raised_append acks.mine a (awaited acks n) (awaited (raised acks a) n) _ _ front (one (awaits acks n))

-- ---- the least so far, before and after

-- either nothing has changed, or nothing below the own count was met
abbrev IsLeast : List ℕ → ℕ → List ℕ → List ℕ → Type 0
IsLeast m a u t = (length u ≡ length m) × (((t ≡ u) × (slice_index u a ≤ slice_index m a)) ⊎ ((t ≡ raise u a) × (slice_index u a ≡ slice_index m a)))

one_least : (m : List ℕ) (a : ℕ) (u t w v : List ℕ) → IsLeast m a u t → length w ≡ length m → ((v ≡ w) ⊎ ((w ≡ m) × (v ≡ raise m a))) → IsLeast m a (meet u w) (meet t v)
one_least m a u t w v h l r = (length-meet u w (h.0 ∙ sym l) ∙ l, ⊎_elim same more h.1)
  where
    both : length u ≡ length w
    both = h.0 ∙ sym l

    at : slice_index (meet u w) a ≡ min (slice_index u a) (slice_index w a)
    at = index-meet u w a both

    Next : Type 0
    Next = ((meet t v ≡ meet u w) × (slice_index (meet u w) a ≤ slice_index m a)) ⊎ ((meet t v ≡ raise (meet u w) a) × (slice_index (meet u w) a ≡ slice_index m a))

    same : (t ≡ u) × (slice_index u a ≤ slice_index m a) → Next
    same k =
        ⊎_elim (λ e. inl (ap (λ x. meet x v) k.0 ∙ ap (meet u) e, omega (arith, at, k.1)))
        (λ q. inl (ap (λ x. meet x v) k.0 ∙ ap (meet u) (q.1 ∙ ap (λ x. raise x a) (sym q.0)) ∙ meet_other u w a both (omega (arith, k.1, ap (λ x. slice_index x a) q.0)), omega (arith, at, k.1))) r

    more : (t ≡ raise u a) × (slice_index u a ≡ slice_index m a) → Next
    more k =
        ⊎_elim (λ e. ⊎_elim
        (λ low. inl (ap (λ x. meet x v) k.0 ∙ ap (meet (raise u a)) e ∙ meet_low u w a both low, omega (arith, at, k.1)))
        (λ high. inr (ap (λ x. meet x v) k.0 ∙ ap (meet (raise u a)) e ∙ meet_high u w a both high, omega (arith, at, k.1, high))) (low_or_high (slice_index w a) (slice_index u a)))
        (λ q. inr (ap (λ x. meet x v) k.0 ∙ ap (meet (raise u a)) (q.1 ∙ ap (λ x. raise x a) (sym q.0)) ∙ meet_both u w a both, omega (arith, at, k.1, ap (λ x. slice_index x a) q.0))) r
      where
        low_or_high : (x y : ℕ) → (x ≤ y) ⊎ (y < x)
        low_or_high x y = ⊎_elim (λ l. inr l) (λ l. inl l) (cases_lt y x)

all_least : (m : List ℕ) (a : ℕ) (u t : List ℕ) (ws vs : List (List ℕ)) → IsLeast m a u t → AreRaised m a ws vs → IsLeast m a (least_of u ws) (least_of t vs)
all_least m a u t [] [] h k = h
all_least m a u t [] (v ∷ vs) h k = absurd k
all_least m a u t (w ∷ ws) [] h k = absurd k
all_least m a u t (w ∷ ws) (v ∷ vs) h k = all_least m a (meet u w) (meet t v) ws vs (one_least m a u t w v h k.0 k.1) k.2

-- where some awaited row counts fewer of the member's operations than the own one, one more of them changes nothing
pub raised_stable : (acks : AcksSeen) (a : ℕ) → AreRows acks → slice_index (stable_of acks) a < slice_index acks.mine a → stable_of (raised acks a) ≡ stable_of acks
unfolding stable_of
raised_stable acks a h less =
    let n = length acks.mine in
    let same : length (raise acks.mine a) ≡ n = length-raise acks.mine a in
    let start : IsLeast acks.mine a acks.mine (raise acks.mine a) = (refl, inr (refl, refl)) in
    let all = all_least acks.mine a acks.mine (raise acks.mine a) (awaited acks n) (awaited (raised acks a) n) start (rows_raised acks a n h (omega arith)) in
    let whole : stable_of (raised acks a) ≡ least_of (raise acks.mine a) (awaited (raised acks a) n) = ap (λ k. least_of (raise acks.mine a) (awaited (raised acks a) k)) same in
    ⊎_elim (λ k. whole ∙ k.0) (λ k. absurd (omega (arith, k.1, less))) all.1
