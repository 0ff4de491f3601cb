-- One more record behind those of a disk in memory.
use Rattle.std.proofs.Common.{◌≡◌, ℕ, zero, suc, ◌+◌, ◌-◌, ◌<◌, ◌≤◌, Bool, if◌then◌else◌, List, [], ◌∷◌, ◌++◌, length, take, drop, Vec, vec_capacity, refl, sym, ◌∙◌, ap, subst, arith, length-append, length-take, length-drop}
use Rattle.std.specs.declared.alloc.Global.{Global}
use Rattle.std.proofs.lemmas.Bool.{le-leb}
use Rattle.std.proofs.lemmas.List.{take_all, take-append-le, drop-append-le}
use Rattle.rls_journal.specs.declared.contents.Contents.{Contents}
use Rattle.rls_journal.specs.declared.contents.Entry.{Entry}
use Rattle.rls_journal.specs.declared.contents.Entry.TheVariants as entry
use Rattle.rls_journal.specs.Areas.{Areas, area_of, with_area, spliced}
use Rattle.rls_journal.specs.Memory.{DeviceCall, DiskState, done, Looked, Wrote, Synced, written_at, seen_step, area_after, areas_after, bytes_written}
use Rattle.rls_journal.specs.Records.{WritesNothing, areas_of, call_of, calls_of, bytes_in, HasRoom, IsKept}

pub calls_counted : (entries : List Entry) (written : List ℕ) → length (calls_of entries written) ≡ length entries
calls_counted [] written = refl
calls_counted (entry.Looked ∷ entries) written = omega (arith, calls_counted entries written)
calls_counted (entry.Wrote area at len ∷ entries) written = omega (arith, calls_counted entries (drop len written))
calls_counted (entry.Synced area ∷ entries) written = omega (arith, calls_counted entries written)

pub bytes_counted : (entries : List Entry) (written : List ℕ) → bytes_in entries ≡ length written → bytes_written (calls_of entries written) ≡ length written
bytes_counted [] written are = are
bytes_counted (entry.Looked ∷ entries) written are = bytes_counted entries written are
bytes_counted (entry.Wrote area at len ∷ entries) written are =
    omega (arith, length-take len written, length-drop len written, bytes_counted entries (drop len written) (omega (arith, length-drop len written)))
bytes_counted (entry.Synced area ∷ entries) written are = bytes_counted entries written are

noted_alone : (last : Entry) (written : List ℕ) → WritesNothing last → calls_of (last ∷ []) written ≡ call_of last [] ∷ []
noted_alone entry.Looked written none = refl
noted_alone (entry.Wrote area at len) written none = absurd none
noted_alone (entry.Synced area) written none = refl

noted_bytes : (last : Entry) → WritesNothing last → bytes_in (last ∷ []) ≡ 0
noted_bytes entry.Looked none = refl
noted_bytes (entry.Wrote area at len) none = absurd none
noted_bytes (entry.Synced area) none = refl

pub noted_behind : (entries : List Entry) (written : List ℕ) (last : Entry) → WritesNothing last → calls_of (entries ++ last ∷ []) written ≡ calls_of entries written ++ call_of last [] ∷ []
noted_behind [] written last none = noted_alone last written none
noted_behind (entry.Looked ∷ entries) written last none = ap (λ (l : List DeviceCall). Looked ∷ l) (noted_behind entries written last none)
noted_behind (entry.Wrote area at len ∷ entries) written last none = ap (λ (l : List DeviceCall). Wrote area at (take len written) ∷ l) (noted_behind entries (drop len written) last none)
noted_behind (entry.Synced area ∷ entries) written last none = ap (λ (l : List DeviceCall). Synced area ∷ l) (noted_behind entries written last none)

pub wrote_behind : (entries : List Entry) (written bytes : List ℕ) (area at : ℕ) → bytes_in entries ≡ length written
    → calls_of (entries ++ entry.Wrote area at (length bytes) ∷ []) (written ++ bytes) ≡ calls_of entries written ++ Wrote area at bytes ∷ []
wrote_behind [] [] bytes area at are = ap (λ (l : List ℕ). Wrote area at l ∷ []) (take_all (length bytes) bytes (omega arith))
wrote_behind [] (x ∷ written) bytes area at are = absurd (omega arith)
wrote_behind (entry.Looked ∷ entries) written bytes area at are = ap (λ (l : List DeviceCall). Looked ∷ l) (wrote_behind entries written bytes area at are)
wrote_behind (entry.Wrote a p len ∷ entries) written bytes area at are =
    let within : len ≤ length written = omega arith in
    let rest = drop-append-le len written bytes within in
    ap (λ (l : List ℕ). Wrote a p l ∷ calls_of (entries ++ entry.Wrote area at (length bytes) ∷ []) (drop len (written ++ bytes))) (take-append-le len written bytes within)
    ∙ ap (λ (l : List ℕ). Wrote a p (take len written) ∷ calls_of (entries ++ entry.Wrote area at (length bytes) ∷ []) l) rest
    ∙ ap (λ (l : List DeviceCall). Wrote a p (take len written) ∷ l) (wrote_behind entries (drop len written) bytes area at (omega (arith, length-drop len written)))
wrote_behind (entry.Synced a ∷ entries) written bytes area at are = ap (λ (l : List DeviceCall). Synced a ∷ l) (wrote_behind entries written bytes area at are)

pub bytes_behind : (entries : List Entry) (last : Entry) → bytes_in (entries ++ last ∷ []) ≡ bytes_in entries + bytes_in (last ∷ [])
bytes_behind [] last = omega arith
bytes_behind (entry.Looked ∷ entries) last = bytes_behind entries last
bytes_behind (entry.Wrote area at len ∷ entries) last = omega (arith, bytes_behind entries last)
bytes_behind (entry.Synced area ∷ entries) last = bytes_behind entries last

pub area_behind : (area : ℕ) (seen : List ℕ) (calls : List DeviceCall) (call : DeviceCall) → area_after area seen (calls ++ call ∷ []) ≡ seen_step area call (area_after area seen calls)
area_behind area seen [] call = refl
area_behind area seen (first ∷ calls) call = area_behind area (seen_step area first seen) calls call

-- a call that changes nothing, or a sync, changes nothing that is read
pub looked_same : (first : Areas) (calls : List DeviceCall) → areas_after first (calls ++ Looked ∷ []) ≡ areas_after first calls
looked_same first calls = λ i. record { slot0 = area_behind 0 first.slot0 calls Looked i; slot1 = area_behind 1 first.slot1 calls Looked i; gate = area_behind 2 first.gate calls Looked i }

pub synced_same : (first : Areas) (calls : List DeviceCall) (synced : ℕ) → areas_after first (calls ++ Synced synced ∷ []) ≡ areas_after first calls
synced_same first calls synced = λ i. record { slot0 = area_behind 0 first.slot0 calls (Synced synced) i; slot1 = area_behind 1 first.slot1 calls (Synced synced) i; gate = area_behind 2 first.gate calls (Synced synced) i }

noted_same : (first : Areas) (calls : List DeviceCall) (last : Entry) → WritesNothing last → areas_after first (calls ++ call_of last [] ∷ []) ≡ areas_after first calls
noted_same first calls entry.Looked none = looked_same first calls
noted_same first calls (entry.Wrote area at len) none = absurd none
noted_same first calls (entry.Synced area) none = synced_same first calls area

written_is : (old : List ℕ) (at : ℕ) (bytes : List ℕ) → at ≤ length old → written_at old at bytes ≡ spliced old at bytes
written_is old at bytes within = ap (λ (b : Bool). if b then spliced old at bytes else old) (le-leb at (length old) within)

-- a write changes its area alone
pub wrote_area : (first : Areas) (calls : List DeviceCall) (area at : ℕ) (bytes : List ℕ) → area < 3 → at ≤ length (area_of (areas_after first calls) area)
    → areas_after first (calls ++ Wrote area at bytes ∷ []) ≡ with_area (areas_after first calls) area (spliced (area_of (areas_after first calls) area) at bytes)
wrote_area first calls zero at bytes below within = λ i. record { slot0 = (area_behind 0 first.slot0 calls (Wrote 0 at bytes) ∙ written_is (area_after 0 first.slot0 calls) at bytes within) i; slot1 = area_behind 1 first.slot1 calls (Wrote 0 at bytes) i; gate = area_behind 2 first.gate calls (Wrote 0 at bytes) i }
wrote_area first calls (suc zero) at bytes below within = λ i. record { slot0 = area_behind 0 first.slot0 calls (Wrote 1 at bytes) i; slot1 = (area_behind 1 first.slot1 calls (Wrote 1 at bytes) ∙ written_is (area_after 1 first.slot1 calls) at bytes within) i; gate = area_behind 2 first.gate calls (Wrote 1 at bytes) i }
wrote_area first calls (suc (suc zero)) at bytes below within = λ i. record { slot0 = area_behind 0 first.slot0 calls (Wrote 2 at bytes) i; slot1 = area_behind 1 first.slot1 calls (Wrote 2 at bytes) i; gate = (area_behind 2 first.gate calls (Wrote 2 at bytes) ∙ written_is (area_after 2 first.gate calls) at bytes within) i }
wrote_area first calls (suc (suc (suc n))) at bytes below within = absurd (omega arith)

-- what a disk in memory is seen as
abbrev pub seen_as : Contents → List Entry → List ℕ → ℕ → ℕ → List ℕ → ℕ → DiskState
seen_as first entries written most room failing faults = record { first = areas_of first; calls = calls_of entries written; most = most; room = room; failing = failing; faults = faults }

pub few_entries : (first : Contents) (entries : List Entry) (written : List ℕ) (most room : ℕ) (failing : List ℕ) (faults : ℕ) (s : DiskState) → seen_as first entries written most room failing faults ≡ s → length s.calls < s.most → length entries < most
few_entries first entries written most room failing faults s is few = omega (arith, ap (λ (v : DiskState). length v.calls) is, ap (λ (v : DiskState). v.most) is, calls_counted entries written)

pub seen_noted : (first : Contents) (entries after : List Entry) (written : List ℕ) (most room : ℕ) (failing : List ℕ) (faults : ℕ) (s : DiskState) (last : Entry) → WritesNothing last → seen_as first entries written most room failing faults ≡ s → after ≡ entries ++ last ∷ []
    → seen_as first after written most room failing faults ≡ done s (call_of last [])
seen_noted first entries after written most room failing faults s last none is pushed =
    ap (λ (l : List Entry). seen_as first l written most room failing faults) pushed ∙ ap (λ (l : List DeviceCall). let v : DiskState = record { first = areas_of first; calls = l; most = most; room = room; failing = failing; faults = faults } in v) (noted_behind entries written last none) ∙ ap (λ (v : DiskState). done v (call_of last [])) is

pub seen_wrote : (first : Contents) (entries after : List Entry) (written after_written : List ℕ) (most room : ℕ) (failing : List ℕ) (faults : ℕ) (s : DiskState) (area at : ℕ) (bytes : List ℕ) → bytes_in entries ≡ length written → seen_as first entries written most room failing faults ≡ s
    → after_written ≡ written ++ bytes → after ≡ entries ++ entry.Wrote area at (length bytes) ∷ [] → seen_as first after after_written most room failing faults ≡ done s (Wrote area at bytes)
seen_wrote first entries after written after_written most room failing faults s area at bytes are is extended pushed =
    ap (λ (l : List Entry). seen_as first l after_written most room failing faults) pushed ∙ ap (λ (l : List ℕ). seen_as first (entries ++ entry.Wrote area at (length bytes) ∷ []) l most room failing faults) extended
    ∙ ap (λ (l : List DeviceCall). let v : DiskState = record { first = areas_of first; calls = l; most = most; room = room; failing = failing; faults = faults } in v) (wrote_behind entries written bytes area at are) ∙ ap (λ (v : DiskState). done v (Wrote area at bytes)) is

-- bytes for which there is room
pub fits_left : (first now : Contents) (entries : Vec Entry Global) (written : Vec ℕ Global) (most left room : ℕ) (failing : List ℕ) (faults : ℕ) (s : DiskState) (count : ℕ) → IsKept first now entries written most left room → seen_as first entries.items written.items most room failing faults ≡ s
    → bytes_written s.calls + count ≤ s.room → count ≤ left
fits_left first now entries written most left room failing faults s count kept is fits =
    omega (arith, ap (λ (v : DiskState). bytes_written v.calls) is, ap (λ (v : DiskState). v.room) is, bytes_counted entries.items written.items kept.bytes_are, kept.left_is)

module _ (first now : Contents) (entries after : Vec Entry Global) (written : Vec ℕ Global) (most left room : ℕ) (kept : IsKept first now entries written most left room) (few : length entries.items < most) (capacity : vec_capacity entries ≤ vec_capacity after) where
  pub kept_noted : (last : Entry) → WritesNothing last → after.items ≡ entries.items ++ last ∷ [] → IsKept first now after written most left room
  kept_noted last none is = record {
    now_is = kept.now_is ∙ sym (noted_same (areas_of first) (calls_of entries.items written.items) last none) ∙ ap (areas_after (areas_of first)) (sym (noted_behind entries.items written.items last none)) ∙ ap (λ (l : List Entry). areas_after (areas_of first) (calls_of l written.items)) (sym is);
    bytes_are = omega (arith, ap bytes_in is, bytes_behind entries.items last, noted_bytes last none, kept.bytes_are);
    few = omega (arith, ap length is, length-append entries.items (last ∷ []));
    most_fits = omega (arith, kept.most_fits);
    left_is = kept.left_is;
    room_fits = kept.room_fits;
    has_room = kept.has_room;
  }

  module _ (after_written : Vec ℕ Global) (after_now : Contents) (area at : ℕ) (bytes : List ℕ) (below : area < 3) (within : at ≤ length (area_of (areas_of now) area)) (fits : length bytes ≤ left) where
    pub kept_wrote : after_written.items ≡ written.items ++ bytes → vec_capacity written ≤ vec_capacity after_written → areas_of after_now ≡ with_area (areas_of now) area (spliced (area_of (areas_of now) area) at bytes) → HasRoom after_now (left - length bytes)
        → after.items ≡ entries.items ++ entry.Wrote area at (length bytes) ∷ [] → IsKept first after_now after after_written most (left - length bytes) room
    kept_wrote written_are larger areas has_room is =
        let calls = calls_of entries.items written.items in
        let P : Areas → Type 0 = λ a. at ≤ length (area_of a area) in
        let Q : Areas → Type 0 = λ a. areas_of after_now ≡ with_area a area (spliced (area_of a area) at bytes) in
        record {
          now_is = subst Q kept.now_is areas ∙ sym (wrote_area (areas_of first) calls area at bytes below (subst P kept.now_is within)) ∙ ap (areas_after (areas_of first)) (sym (wrote_behind entries.items written.items bytes area at kept.bytes_are))
              ∙ ap (λ (l : List ℕ). areas_after (areas_of first) (calls_of (entries.items ++ entry.Wrote area at (length bytes) ∷ []) l)) (sym written_are) ∙ ap (λ (l : List Entry). areas_after (areas_of first) (calls_of l after_written.items)) (sym is);
          bytes_are = omega (arith, ap bytes_in is, bytes_behind entries.items (entry.Wrote area at (length bytes)), kept.bytes_are, ap length written_are, length-append written.items bytes);
          few = omega (arith, ap length is, length-append entries.items (entry.Wrote area at (length bytes) ∷ []));
          most_fits = omega (arith, kept.most_fits);
          left_is = omega (arith, kept.left_is, ap length written_are, length-append written.items bytes);
          room_fits = omega (arith, kept.room_fits);
          has_room = has_room;
        }
