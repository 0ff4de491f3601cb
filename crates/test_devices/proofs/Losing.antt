-- What a call of a disk in memory that doesn't retry changes.
use Rattle.std.proofs.Common.{◌≡◌, inl, inr, ⊎_elim, ℕ, zero, suc, ◌≤◌, ◌<◌, Bool, true, List, [], ◌∷◌, ◌++◌, length, drop, refl, sym, ap, subst, arith, length-append}
use Rattle.rls_journal.specs.Areas.{Areas, area_of}
use Rattle.rls_journal.specs.Disk.{Elapses, Follows, Tears, Torn}
use Rattle.rls_journal.specs.MemoryLaws.{torn_same, torn_spliced}
use Rattle.test_devices.specs.Lossy.{AreaState, AreaStates, HasLeft, IsDirty, Leaves, LeavesAt, LeavesOf, Moments, reading, state_of, with_state, wrote}
use Rattle.test_devices.specs.LossyLaws.{earlier_left, later_left}

abbrev pub Goes : Moments → Moments → Type 0
Goes m n = Elapses (length m.past) (length n.past) (HasLeft m) (HasLeft n) (Leaves n.areas)

-- one moment more
pub goes_on : (m n : Moments) → n.past ≡ m.past ++ m.areas ∷ [] → Goes m n
goes_on m n e = record {
  later = omega (arith, ap length e, length-append m.past (m.areas ∷ []));
  nothing_else = λ t c l h. earlier_left t (m.past ++ m.areas ∷ []) n.areas c (omega (arith, l, length-append m.past (m.areas ∷ []))) (subst (λ (ss : List AreaStates). LeavesAt (drop t (ss ++ n.areas ∷ [])) c) e h);
  keeps = λ t c l h. subst (λ (ss : List AreaStates). LeavesAt (drop t (ss ++ n.areas ∷ [])) c) (sym e) (later_left t (m.past ++ m.areas ∷ []) n.areas c (omega (arith, l, length-append m.past (m.areas ∷ []))) (inl h));
}

-- the same moment, where a crash leaves the same
stays : (m n : Moments) → n.past ≡ m.past → ((c : Areas) → Leaves m.areas c → Leaves n.areas c) → Goes m n
stays m n e f = record {
  later = omega (arith, ap length e);
  nothing_else = λ t c l h. ⊎_elim (λ k. inl (later_left t m.past m.areas c l (inl k))) (λ k. inr k) (earlier_left t m.past n.areas c l (subst (λ (ss : List AreaStates). LeavesAt (drop t (ss ++ n.areas ∷ [])) c) e h));
  keeps = λ t c l h. subst (λ (ss : List AreaStates). LeavesAt (drop t (ss ++ n.areas ∷ [])) c) (sym e) (later_left t m.past n.areas c l (⊎_elim (λ k. inl k) (λ k. inr (f c k)) (earlier_left t m.past m.areas c l h)));
}

-- a crash leaves the same, whatever is to be written
marked_leaves : (s : AreaStates) (area : ℕ) (d : Bool) (c : Areas) → Leaves s c → Leaves (with_state s area (record { read = (state_of s area).read; left = (state_of s area).left; dirty = d })) c
marked_leaves s zero d c h = record { slot0 = h.slot0; slot1 = h.slot1; gate = h.gate }
marked_leaves s (suc zero) d c h = record { slot0 = h.slot0; slot1 = h.slot1; gate = h.gate }
marked_leaves s (suc (suc n)) d c h = record { slot0 = h.slot0; slot1 = h.slot1; gate = h.gate }

pub marked_stays : (m n : Moments) (area : ℕ) (d : Bool) → n ≡ record { areas = with_state m.areas area (record { read = (state_of m.areas area).read; left = (state_of m.areas area).left; dirty = d }); past = m.past } → Goes m n
marked_stays m n area d e =
    subst (λ (x : Moments). Goes m x) (sym e)
    (stays m (record { areas = with_state m.areas area (record { read = (state_of m.areas area).read; left = (state_of m.areas area).left; dirty = d }); past = m.past }) refl (marked_leaves m.areas area d))

-- the other areas are as they were
others : (s : AreaStates) (area other : ℕ) (a : AreaState) → area < 3 → other < 3 → (other ≡ area → ⊥) → state_of (with_state s area a) other ≡ state_of s other
others s zero zero a l k n = absurd (n refl)
others s zero (suc zero) a l k n = refl
others s zero (suc (suc x)) a l k n = refl
others s (suc zero) zero a l k n = refl
others s (suc zero) (suc zero) a l k n = absurd (n refl)
others s (suc zero) (suc (suc x)) a l k n = refl
others s (suc (suc x)) zero a l k n = refl
others s (suc (suc x)) (suc zero) a l k n = refl
others s (suc (suc zero)) (suc (suc zero)) a l k n = absurd (n refl)
others s (suc (suc (suc x))) (suc (suc y)) a l k n = absurd (omega arith)
others s (suc (suc x)) (suc (suc (suc y))) a l k n = absurd (omega arith)

pub still_dirty : (m n : Moments) (area other : ℕ) (a : AreaState) → n.areas ≡ with_state m.areas area a → area < 3 → (other ≡ area → ⊥) → IsDirty m other → IsDirty n other
still_dirty m n area other a e l k d = (d.0, subst (λ (s : AreaStates). (state_of s other).dirty ≡ true) (sym e) (subst (λ (x : AreaState). x.dirty ≡ true) (sym (others m.areas area other a l d.0 k)) d.1))

-- what a crash leaves of an area after a write is what it left before, perhaps torn
written_leaves : (a : AreaState) (at : ℕ) (bytes c : List ℕ) → at ≤ length a.read → LeavesOf (wrote a at bytes) c → (d : List ℕ) × LeavesOf a d × Torn at (length bytes) d c
written_leaves a at bytes c l (inl e) = (a.read, inl refl, subst (λ x. Torn at (length bytes) a.read x) (sym e) (torn_spliced a.read at bytes l))
written_leaves a at bytes c l (inr e) = (c, inr e, torn_same c at (length bytes))

wrote_follows : (s : AreaStates) (area at : ℕ) (bytes : List ℕ) → at ≤ length (area_of (reading s) area) → Follows (Tears area at (length bytes)) (Leaves s) (Leaves (with_state s area (wrote (state_of s area) at bytes)))
wrote_follows s zero at bytes l c h =
    let r = written_leaves s.slot0 at bytes c.slot0 l h.slot0 in
    (record { slot0 = r.0; slot1 = c.slot1; gate = c.gate }, record { slot0 = r.1; slot1 = h.slot1; gate = h.gate }, record { torn = r.2; others = refl })
wrote_follows s (suc zero) at bytes l c h =
    let r = written_leaves s.slot1 at bytes c.slot1 l h.slot1 in
    (record { slot0 = c.slot0; slot1 = r.0; gate = c.gate }, record { slot0 = h.slot0; slot1 = r.1; gate = h.gate }, record { torn = r.2; others = refl })
wrote_follows s (suc (suc n)) at bytes l c h =
    let r = written_leaves s.gate at bytes c.gate l h.gate in
    (record { slot0 = c.slot0; slot1 = c.slot1; gate = r.0 }, record { slot0 = h.slot0; slot1 = h.slot1; gate = r.1 }, record { torn = r.2; others = refl })

pub written_follows : (m n : Moments) (area at : ℕ) (bytes : List ℕ) → at ≤ length (area_of (reading m.areas) area) → n.areas ≡ with_state m.areas area (wrote (state_of m.areas area) at bytes) → Follows (Tears area at (length bytes)) (Leaves m.areas) (Leaves n.areas)
written_follows m n area at bytes l e = subst (λ (s : AreaStates). Follows (Tears area at (length bytes)) (Leaves m.areas) (Leaves s)) (sym e) (wrote_follows m.areas area at bytes l)
