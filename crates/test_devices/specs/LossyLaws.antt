-- What a disk in memory that doesn't retry has of every disk.
use Rattle.std.proofs.Common.{◌≡◌, ◌⊎◌, inl, inr, ⊎_elim, ℕ, zero, suc, ◌≤◌, List, [], ◌∷◌, ◌++◌, length, drop, Some, refl, subst, arith}
use Rattle.rls_journal.specs.Areas.{Areas}
use Rattle.test_devices.specs.Lossy.{AreaStates, Moments, Leaves, LeavesAt, HasLeft, reading}

pub at_left : (ss ts : List AreaStates) (c : Areas) → LeavesAt ss c → LeavesAt (ss ++ ts) c
at_left [] ts c h = absurd h
at_left (s ∷ ss) ts c (inl h) = inl h
at_left (s ∷ ss) ts c (inr h) = inr (at_left ss ts c h)

pub at_right : (ss ts : List AreaStates) (c : Areas) → LeavesAt ts c → LeavesAt (ss ++ ts) c
at_right [] ts c h = h
at_right (s ∷ ss) ts c h = inr (at_right ss ts c h)

pub at_either : (ss ts : List AreaStates) (c : Areas) → LeavesAt (ss ++ ts) c → LeavesAt ss c ⊎ LeavesAt ts c
at_either [] ts c h = inr h
at_either (s ∷ ss) ts c (inl h) = inl (inl h)
at_either (s ∷ ss) ts c (inr h) = ⊎_elim (λ k. inl (inr k)) (λ k. inr k) (at_either ss ts c h)

-- what was left at t or later, with one more moment
pub later_left : (t : ℕ) (ss : List AreaStates) (s : AreaStates) (c : Areas) → t ≤ length ss → LeavesAt (drop t ss) c ⊎ Leaves s c → LeavesAt (drop t (ss ++ s ∷ [])) c
later_left zero ss s c l h = ⊎_elim (λ k. at_left ss (s ∷ []) c k) (λ k. at_right ss (s ∷ []) c (inl k)) h
later_left (suc t) [] s c l h = absurd (omega arith)
later_left (suc t) (x ∷ ss) s c l h = later_left t ss s c (omega arith) h

pub earlier_left : (t : ℕ) (ss : List AreaStates) (s : AreaStates) (c : Areas) → t ≤ length ss → LeavesAt (drop t (ss ++ s ∷ [])) c → LeavesAt (drop t ss) c ⊎ Leaves s c
earlier_left zero ss s c l h = ⊎_elim (λ k. inl k) (λ k. ⊎_elim (λ i. inr i) (λ i. absurd i) k) (at_either ss (s ∷ []) c h)
earlier_left (suc t) [] s c l h = absurd (omega arith)
earlier_left (suc t) (x ∷ ss) s c l h = earlier_left t ss s c (omega arith) h

none_past : (ss : List AreaStates) (c : Areas) → LeavesAt (drop (length ss) ss) c → ⊥
none_past [] c h = h
none_past (s ∷ ss) c h = none_past ss c h

pub reads_left : (m : Moments) (c : Areas) → Some (reading m.areas) ≡ Some c → Leaves m.areas c
reads_left m c is = let same : reading m.areas ≡ c = cc in subst (Leaves m.areas) same (record { slot0 = inl refl; slot1 = inl refl; gate = inl refl })

pub now_counts : (m : Moments) (t : ℕ) (c : Areas) → t ≤ length m.past → Leaves m.areas c → HasLeft m t c
now_counts m t c l h = later_left t m.past m.areas c l (inr h)

pub now_only : (m : Moments) (c : Areas) → HasLeft m (length m.past) c → Leaves m.areas c
now_only m c h = ⊎_elim (λ k. absurd (none_past m.past c k)) (λ k. k) (earlier_left (length m.past) m.past m.areas c (omega arith) h)
