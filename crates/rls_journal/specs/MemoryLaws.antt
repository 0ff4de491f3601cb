-- What a disk in memory has of every disk.
use Rattle.std.proofs.Common.{◌≡◌, ℕ, ◌+◌, ◌≤◌, Bool, true, false, List, [], ◌∷◌, ◌++◌, length, take, drop, replicate, Some, nat_le, ◌==◌, if◌then◌else◌, refl, sym, ◌∙◌, ap, subst, arith, append_assoc, length-append, length-take, length-drop}
use Rattle.std.specs.Bool.{MatchBool}
use Rattle.std.proofs.lemmas.Bool.{leb-true}
use Rattle.std.proofs.lemmas.List.{take_at, drop_at, take_all, length-replicate}
use Rattle.rls_journal.specs.Areas.{Areas, spliced}
use Rattle.rls_journal.specs.Disk.{Torn}
use Rattle.rls_journal.specs.Memory.{DeviceCall, Looked, Wrote, Synced, DiskState, written_at, seen_step, image_step, LeavesStep, area_after, image_after, filled_after, LeavesArea, areas_after, MayLeave, reading, can_leave, might_have_left}

choose : {X : Type 0} (b : Bool) (P : X → Type 0) (x y : X) → (b ≡ true → P x) → P y → P (if b then x else y)
choose true P x y met otherwise = met refl
choose false P x y met otherwise = otherwise

pub torn_same : (old : List ℕ) (at n : ℕ) → Torn at n old old
torn_same old at n = record { before = refl; after = refl; no_shorter = omega arith; no_longer = omega arith }

pub torn_spliced : (old : List ℕ) (at : ℕ) (bytes : List ℕ) → at ≤ length old → Torn at (length bytes) old (spliced old at bytes)
torn_spliced old at bytes within =
    let rest = drop (at + length bytes) old in
    let front : length (take at old) ≡ at = omega (arith, length-take at old) in
    let whole : length (take at old ++ bytes) ≡ at + length bytes = omega (arith, length-append (take at old) bytes, front) in
    record {
      before = ap (λ (l : List ℕ). take at l) (append_assoc (take at old) bytes rest) ∙ take_at (take at old) (bytes ++ rest) at front;
      after = drop_at (take at old ++ bytes) rest (at + length bytes) whole;
      no_shorter = omega (arith, length-append (take at old ++ bytes) rest, whole, length-drop (at + length bytes) old);
      no_longer = omega (arith, length-append (take at old ++ bytes) rest, whole, length-drop (at + length bytes) old);
    }

-- bytes at a place are one of the outcomes of writing them
pub torn_written : (old : List ℕ) (at : ℕ) (bytes : List ℕ) → Torn at (length bytes) old (written_at old at bytes)
torn_written old at bytes = choose (nat_le at (length old)) (λ new. Torn at (length bytes) old new) (spliced old at bytes) old (λ test. torn_spliced old at bytes (omega (arith, leb-true at (length old) test))) (torn_same old at (length bytes))

pub step_left : (area : ℕ) (call : DeviceCall) (seen : List ℕ) (left : List ℕ → Type 0) → left seen → LeavesStep area call seen left (seen_step area call seen)
step_left area Looked seen left holds = holds
step_left area (Wrote written at bytes) seen left holds = elim (written == area) as (λ same. MatchBool same ((d : List ℕ) × left d × Torn at (length bytes) d (if same then written_at seen at bytes else seen)) (left (if same then written_at seen at bytes else seen))) [
  | true ↦ (seen, holds, torn_written seen at bytes)
  | false ↦ holds
]
step_left area (Synced synced) seen left holds = (holds, elim (synced == area) as (λ same. MatchBool same (seen ≡ seen) (Unit {0})) [ true ↦ refl | false ↦ tt ])

-- what is read of an area may be left
pub area_left : (area : ℕ) (seen : List ℕ) (left : List ℕ → Type 0) (calls : List DeviceCall) → left seen → LeavesArea area seen left calls (area_after area seen calls)
area_left area seen left [] holds = holds
area_left area seen left (call ∷ calls) holds = area_left area (seen_step area call seen) (LeavesStep area call seen left) calls (step_left area call seen left holds)

pub areas_left : (first : Areas) (calls : List DeviceCall) → MayLeave first calls (areas_after first calls)
areas_left first calls = record {
  slot0 = area_left 0 first.slot0 (λ e. e ≡ first.slot0) calls refl;
  slot1 = area_left 1 first.slot1 (λ e. e ≡ first.slot1) calls refl;
  gate = area_left 2 first.gate (λ e. e ≡ first.gate) calls refl;
}

pub reads_left : (s : DiskState) (c : Areas) → Some (reading s) ≡ Some c → can_leave s c
reads_left s c is = let same : reading s ≡ c = cc in subst (MayLeave s.first s.calls) same (areas_left s.first s.calls)

pub now_counts : (s : DiskState) (t : ℕ) (c : Areas) → t ≤ length s.calls → can_leave s c → might_have_left s t c
now_counts s t c le left =
    let P : List DeviceCall → Type 0 = λ calls. MayLeave s.first calls c in
    (length s.calls, le, omega arith, subst P (sym (take_all (length s.calls) s.calls (omega arith))) left)

pub now_only : (s : DiskState) (c : Areas) → might_have_left s (length s.calls) c → can_leave s c
now_only s c left =
    let P : List DeviceCall → Type 0 = λ calls. MayLeave s.first calls c in
    subst P (take_all left.0 s.calls left.1) left.3

-- an image in which each pending byte is the filler may be left
filled_step : (filler area : ℕ) (call : DeviceCall) (seen image : List ℕ) (left : List ℕ → Type 0) → left seen → left image → LeavesStep area call seen left (image_step filler area call seen image)
filled_step filler area Looked seen image left read holds = holds
filled_step filler area (Wrote written at bytes) seen image left read holds =
    let pending = replicate (length bytes) filler in
    let P : ℕ → Type 0 = λ n. Torn at n image (written_at image at pending) in
    elim (written == area) as (λ same. MatchBool same ((d : List ℕ) × left d × Torn at (length bytes) d (if same then written_at image at pending else image)) (left (if same then written_at image at pending else image))) [
      | true ↦ (image, holds, subst P (length-replicate (length bytes) filler) (torn_written image at pending))
      | false ↦ holds
    ]
filled_step filler area (Synced synced) seen image left read holds = elim (synced == area) as (λ same. left (if same then seen else image) × MatchBool same ((if same then seen else image) ≡ seen) (Unit {0})) [
  | true ↦ (read, refl)
  | false ↦ (holds, tt)
]

filled_left : (filler area : ℕ) (seen image : List ℕ) (left : List ℕ → Type 0) (calls : List DeviceCall) → left seen → left image → LeavesArea area seen left calls (image_after filler area seen image calls)
filled_left filler area seen image left [] read holds = holds
filled_left filler area seen image left (call ∷ calls) read holds =
    filled_left filler area (seen_step area call seen) (image_step filler area call seen image) (LeavesStep area call seen left) calls (step_left area call seen left read) (filled_step filler area call seen image left read holds)

pub fillers_left : (filler : ℕ) (first : Areas) (calls : List DeviceCall) → MayLeave first calls (filled_after filler first calls)
fillers_left filler first calls = record {
  slot0 = filled_left filler 0 first.slot0 first.slot0 (λ e. e ≡ first.slot0) calls refl refl;
  slot1 = filled_left filler 1 first.slot1 first.slot1 (λ e. e ≡ first.slot1) calls refl refl;
  gate = filled_left filler 2 first.gate first.gate (λ e. e ≡ first.gate) calls refl refl;
}
