-- What a crash may leave after one more call.
use Rattle.std.proofs.Common.{◌≡◌, inl, inr, ⊎_elim, ℕ, zero, suc, ◌<◌, ◌≤◌, Bool, true, false, List, [], ◌∷◌, ◌++◌, length, Some, nat_lt, if◌then◌else◌, refl, sym, ap, subst, arith, length-append}
use Rattle.std.proofs.lemmas.Bool.Decides.{leb_tells}
use Rattle.std.proofs.lemmas.List.{take_all, take-append-le}
use Rattle.rls_journal.specs.Areas.{Areas, area_of, with_area}
use Rattle.rls_journal.specs.Disk.{Tears, Writes, MayTear, Narrows, Follows, IsDurable, Elapses}
use Rattle.rls_journal.specs.Memory.{DeviceCall, Looked, Wrote, Synced, DiskState, seen_step, LeavesStep, area_after, LeavesArea, areas_after, MayLeave, MightHaveLeft, reading, can_leave, might_have_left, IsQuiet, done, refused}
use Rattle.rls_journal.specs.MemoryLaws.{torn_same}
use Rattle.rls_journal.proofs.Recorded.{looked_same, synced_same, wrote_area}

leaves_behind : (area : ℕ) (seen : List ℕ) (left : List ℕ → Type 0) (calls : List DeviceCall) (call : DeviceCall) (c : List ℕ) → LeavesArea area seen left (calls ++ call ∷ []) c
    → LeavesStep area call (area_after area seen calls) (LeavesArea area seen left calls) c
leaves_behind area seen left [] call c leave = leave
leaves_behind area seen left (first ∷ calls) call c leave = leaves_behind area (seen_step area first seen) (LeavesStep area first seen left) calls call c leave

looked_narrows : (first : Areas) (calls : List DeviceCall) (c : Areas) → MayLeave first (calls ++ Looked ∷ []) c → MayLeave first calls c
looked_narrows first calls c leave = record {
  slot0 = leaves_behind 0 first.slot0 (λ e. e ≡ first.slot0) calls Looked c.slot0 leave.slot0;
  slot1 = leaves_behind 1 first.slot1 (λ e. e ≡ first.slot1) calls Looked c.slot1 leave.slot1;
  gate = leaves_behind 2 first.gate (λ e. e ≡ first.gate) calls Looked c.gate leave.gate;
}

pub synced_narrows : (first : Areas) (calls : List DeviceCall) (synced : ℕ) (c : Areas) → MayLeave first (calls ++ Synced synced ∷ []) c → MayLeave first calls c
synced_narrows first calls synced c leave = record {
  slot0 = (leaves_behind 0 first.slot0 (λ e. e ≡ first.slot0) calls (Synced synced) c.slot0 leave.slot0).0;
  slot1 = (leaves_behind 1 first.slot1 (λ e. e ≡ first.slot1) calls (Synced synced) c.slot1 leave.slot1).0;
  gate = (leaves_behind 2 first.gate (λ e. e ≡ first.gate) calls (Synced synced) c.gate leave.gate).0;
}

synced_durable : (first : Areas) (calls : List DeviceCall) (synced : ℕ) → synced < 3 → IsDurable synced (areas_after first calls) (MayLeave first (calls ++ Synced synced ∷ []))
synced_durable first calls zero below c leave = (leaves_behind 0 first.slot0 (λ e. e ≡ first.slot0) calls (Synced 0) c.slot0 leave.slot0).1
synced_durable first calls (suc zero) below c leave = (leaves_behind 1 first.slot1 (λ e. e ≡ first.slot1) calls (Synced 1) c.slot1 leave.slot1).1
synced_durable first calls (suc (suc zero)) below c leave = (leaves_behind 2 first.gate (λ e. e ≡ first.gate) calls (Synced 2) c.gate leave.gate).1
synced_durable first calls (suc (suc (suc n))) below c leave = absurd (omega arith)

wrote_follows : (first : Areas) (calls : List DeviceCall) (area at : ℕ) (bytes : List ℕ) → area < 3 → Follows (Tears area at (length bytes)) (MayLeave first calls) (MayLeave first (calls ++ Wrote area at bytes ∷ []))
wrote_follows first calls zero at bytes below c leave =
    let own = leaves_behind 0 first.slot0 (λ e. e ≡ first.slot0) calls (Wrote 0 at bytes) c.slot0 leave.slot0 in
    let d : Areas = record { slot0 = own.0; slot1 = c.slot1; gate = c.gate } in (
      d,
      record {
        slot0 = own.1;
        slot1 = leaves_behind 1 first.slot1 (λ e. e ≡ first.slot1) calls (Wrote 0 at bytes) c.slot1 leave.slot1;
        gate = leaves_behind 2 first.gate (λ e. e ≡ first.gate) calls (Wrote 0 at bytes) c.gate leave.gate;
      },
      record { torn = own.2; others = refl },
    )
wrote_follows first calls (suc zero) at bytes below c leave =
    let own = leaves_behind 1 first.slot1 (λ e. e ≡ first.slot1) calls (Wrote 1 at bytes) c.slot1 leave.slot1 in
    let d : Areas = record { slot0 = c.slot0; slot1 = own.0; gate = c.gate } in (
      d,
      record {
        slot0 = leaves_behind 0 first.slot0 (λ e. e ≡ first.slot0) calls (Wrote 1 at bytes) c.slot0 leave.slot0;
        slot1 = own.1;
        gate = leaves_behind 2 first.gate (λ e. e ≡ first.gate) calls (Wrote 1 at bytes) c.gate leave.gate;
      },
      record { torn = own.2; others = refl },
    )
wrote_follows first calls (suc (suc zero)) at bytes below c leave =
    let own = leaves_behind 2 first.gate (λ e. e ≡ first.gate) calls (Wrote 2 at bytes) c.gate leave.gate in
    let d : Areas = record { slot0 = c.slot0; slot1 = c.slot1; gate = own.0 } in (
      d,
      record {
        slot0 = leaves_behind 0 first.slot0 (λ e. e ≡ first.slot0) calls (Wrote 2 at bytes) c.slot0 leave.slot0;
        slot1 = leaves_behind 1 first.slot1 (λ e. e ≡ first.slot1) calls (Wrote 2 at bytes) c.slot1 leave.slot1;
        gate = own.1;
      },
      record { torn = own.2; others = refl },
    )
wrote_follows first calls (suc (suc (suc n))) at bytes below c leave = absurd (omega arith)

elapses_behind : (first : Areas) (calls : List DeviceCall) (call : DeviceCall) → Elapses (length calls) (length (calls ++ call ∷ [])) (MightHaveLeft first calls) (MightHaveLeft first (calls ++ call ∷ [])) (MayLeave first (calls ++ call ∷ []))
elapses_behind first calls call = record {
  later = omega (arith, length-append calls (call ∷ []));
  nothing_else = λ t c le left.
      let P : List DeviceCall → Type 0 = λ some. MayLeave first some c in
      ⊎_elim
      (λ within. inl (left.0, left.1, within.1, subst P (take-append-le left.0 calls (call ∷ []) within.1) left.3))
      (λ past. inr (subst P (take_all left.0 (calls ++ call ∷ []) (omega (arith, length-append calls (call ∷ []), past.1))) left.3))
      (leb_tells left.0 (length calls));
  keeps = λ t c le left.
      let P : List DeviceCall → Type 0 = λ some. MayLeave first some c in (
        left.0,
        left.1,
        omega (arith, length-append calls (call ∷ []), left.2),
        subst P (sym (take-append-le left.0 calls (call ∷ []) left.2)) left.3,
      );
}

abbrev pub Goes : DiskState → DiskState → Type 0
Goes old new = Elapses (length old.calls) (length new.calls) (might_have_left old) (might_have_left new) (can_leave new)

quiet_done : (s : DiskState) → IsQuiet s (done s Looked)
quiet_done s = record { same = looked_same s.first s.calls; narrows = looked_narrows s.first s.calls; goes = elapses_behind s.first s.calls Looked }

quiet_none : (s : DiskState) → IsQuiet s s
quiet_none s = record { same = refl; narrows = λ c left. left; goes = record { later = omega arith; nothing_else = λ t c le left. inl left; keeps = λ t c le left. left } }

quiet_counted : (s new : DiskState) (faults : ℕ) → IsQuiet s new → IsQuiet s (record new { faults = faults })
quiet_counted s new faults quiet = record { same = quiet.same; narrows = quiet.narrows; goes = quiet.goes }

quiet_if : (b : Bool) (s : DiskState) (faults : ℕ) → IsQuiet s (record s { calls = if b then s.calls ++ Looked ∷ [] else s.calls; faults = faults })
quiet_if true s faults = quiet_counted s (done s Looked) faults (quiet_done s)
quiet_if false s faults = quiet_counted s s faults (quiet_none s)

pub quiet_looked : (s new : DiskState) → new ≡ done s Looked → IsQuiet s new
quiet_looked s new is = subst (IsQuiet s) (sym is) (quiet_done s)

pub quiet_refused : (s new : DiskState) → new ≡ refused s → IsQuiet s new
quiet_refused s new is = subst (IsQuiet s) (sym is) (quiet_if (nat_lt (length s.calls) s.most) s (refused s).faults)

itself : (areas : Areas) (area : ℕ) → areas ≡ with_area areas area (area_of areas area)
itself areas zero = refl
itself areas (suc zero) = refl
itself areas (suc (suc n)) = refl

pub tears_none : (areas : Areas) (area at n : ℕ) → Tears area at n areas areas
tears_none areas area at n = record { torn = torn_same (area_of areas area) at n; others = itself areas area }

-- a write that was refused tore nothing
pub torn_refused : (s new : DiskState) (area at n : ℕ) → new ≡ refused s → MayTear area at n (Some (reading s)) (Some (reading new))
torn_refused s new area at n is = (reading s, ap (λ (a : Areas). Some a) (quiet_refused s new is).same, tears_none (reading s) area at n)

pub crash_refused : (s new : DiskState) (area at n : ℕ) → new ≡ refused s → Follows (Tears area at n) (can_leave s) (can_leave new)
crash_refused s new area at n is c left = (c, (quiet_refused s new is).narrows c left, tears_none c area at n)

-- a write
pub record IsWritten (area at : ℕ) (bytes : List ℕ) (old new : DiskState) : Type 0 where
  pub written : Writes area at bytes (Some (reading old)) (Some (reading new))
  pub crash : Follows (Tears area at (length bytes)) (can_leave old) (can_leave new)
  pub goes : Goes old new

pub is_written : (s new : DiskState) (area at : ℕ) (bytes : List ℕ) → area < 3 → at ≤ length (area_of (reading s) area) → new ≡ done s (Wrote area at bytes) → IsWritten area at bytes s new
is_written s new area at bytes below within is = subst (IsWritten area at bytes s) (sym is) (record {
  written = ap (λ (a : Areas). Some a) (wrote_area s.first s.calls area at bytes below within);
  crash = wrote_follows s.first s.calls area at bytes below;
  goes = elapses_behind s.first s.calls (Wrote area at bytes);
})

-- a sync
pub record IsSynced (area : ℕ) (old new : DiskState) : Type 0 where
  pub durable : IsDurable area (reading old) (can_leave new)
  pub same : reading new ≡ reading old
  pub narrows : Narrows (can_leave old) (can_leave new)
  pub goes : Goes old new

pub is_synced : (s new : DiskState) (area : ℕ) → area < 3 → new ≡ done s (Synced area) → IsSynced area s new
is_synced s new area below is = subst (IsSynced area s) (sym is) (record {
  durable = synced_durable s.first s.calls area below;
  same = synced_same s.first s.calls area;
  narrows = synced_narrows s.first s.calls area;
  goes = elapses_behind s.first s.calls (Synced area);
})
