-- What a disk that holds one of two files goes on to hold.
use Rattle.std.proofs.Common.{◌≡◌, inl, inr, ⊎_elim, ℕ, zero, suc, ◌-◌, ◌<◌, List, [], length, take, drop, Option, Some, None, refl, sym, ◌∙◌, ap, subst, arith}
use Rattle.std.specs.Int.{w64, from_be_bytes}
use Rattle.rls_journal.specs.Areas.{Areas, area_of, named_by, file_at, file_of, kept}
use Rattle.rls_journal.specs.Disk.{Tears, Renews, Narrows, IsDurableAt}
use Rattle.rls_journal.specs.Slots.{Strays, HasFile, Holds, IsOneOf, IsSettled, KeepsOneOf}
use Rattle.rls_journal.proofs.Images.{gate_stays, other_stays, slot_stays, same_name, kept_some, kept_none, torn_gate, empty_or_some, is_empty, named_small, none_or_some}

-- what a step makes of what a crash may leave
abbrev pub Stepped : (Areas → Areas → Type 0) → (Areas → Type 0) → Areas → Type 0
Stepped step may_leave c = (d : Areas) × may_leave d × step d c

pub one_of : (first second file same : Option (List ℕ)) → same ≡ file → IsOneOf first second file → IsOneOf first second same
one_of first second file same is one = ⊎_elim (λ e. inl (is ∙ e)) (λ e. inr (is ∙ e)) one

pub settled_narrows : (s : Areas) (old new : Areas → Type 0) → Narrows old new → IsSettled s old → IsSettled s new
settled_narrows s old new narrows settled = record { gate = λ c left. settled.gate c (narrows c left); file = λ slot names c left. settled.file slot names c (narrows c left) }

pub settled_kept : (s : Areas) (may_leave : Areas → Type 0) → IsSettled s may_leave → (c : Areas) → may_leave c → kept c ≡ kept s
settled_kept s may_leave settled c left =
    ⊎_elim (λ none. kept_none s c none (settled.gate c left)) (λ some. kept_some some.0 s c some.1 (settled.gate c left) (settled.file some.0 some.1 c left)) (none_or_some (named_by s.gate))

pub holds_narrows : (first second : Option (List ℕ)) (s : Areas) (old new : Areas → Type 0) → Narrows old new → Holds first second s old → Holds first second s new
holds_narrows first second s old new narrows (inl h) = inl (settled_narrows s old new narrows h.0, h.1)
holds_narrows first second s old new narrows (inr h) = inr (record {
  slot0 = λ c left. h.slot0 c (narrows c left);
  slot1 = λ c left. h.slot1 c (narrows c left);
  file0 = h.file0;
  file1 = h.file1;
  empty = λ c left. h.empty c (narrows c left);
})

-- one file alone is one of two
pub holds_weaker : (file other : Option (List ℕ)) (s : Areas) (may_leave : Areas → Type 0) → Holds file file s may_leave → Holds file other s may_leave
holds_weaker file other s may_leave (inl h) = inl (h.0, ⊎_elim (λ e. inl e) (λ e. inl e) h.1)
holds_weaker file other s may_leave (inr h) = inr (record {
  slot0 = h.slot0;
  slot1 = h.slot1;
  file0 = ⊎_elim (λ e. inl e) (λ e. inl e) h.file0;
  file1 = ⊎_elim (λ e. inl e) (λ e. inl e) h.file1;
  empty = λ c left is. ⊎_elim (λ e. inl e) (λ e. inl e) (h.empty c left is);
})

-- a crash leaves one of the two
pub holds_now : (first second : Option (List ℕ)) (s : Areas) (may_leave : Areas → Type 0) → Holds first second s may_leave → (c : Areas) → may_leave c → KeepsOneOf first second c
holds_now first second s may_leave (inl h) c left = one_of first second (kept s) (kept c) (settled_kept s may_leave h.0 c left) h.1
holds_now first second s may_leave (inr h) c left =
    ⊎_elim
    (λ empty. one_of first second None (kept c) (ap (λ (g : List ℕ). file_at (named_by g) c) empty) (h.empty c left empty))
    (λ some. ⊎_elim
    (λ zero. one_of first second (Some (file_of s.slot0)) (kept c) (zero ∙ ap (λ (l : List ℕ). Some l) (h.slot0 c left)) h.file0)
    (λ one. one_of first second (Some (file_of s.slot1)) (kept c) (one ∙ ap (λ (l : List ℕ). Some l) (h.slot1 c left)) h.file1)
    (torn_gate c.gate c refl some 0 (omega arith)))
    (empty_or_some c.gate)

-- while the gate is written as it is read
pub holds_renewed : (first second : Option (List ℕ)) (s : Areas) (may_leave : Areas → Type 0) → Holds first second s may_leave → Holds first second s (Stepped (Renews s) may_leave)
holds_renewed first second s may_leave (inl h) =
    let stays : (c : Areas) (from : Stepped (Renews s) may_leave c) → c ≡ from.0 = λ c from. (from.2).stays (h.0.gate from.0 from.1) in
    inl (
      record {
        gate = λ c from. ap (λ (a : Areas). take 1 a.gate) (stays c from) ∙ h.0.gate from.0 from.1;
        file = λ slot names c from. ap (λ (a : Areas). file_of (area_of a slot)) (stays c from) ∙ h.0.file slot names from.0 from.1;
      },
      h.1,
    )
holds_renewed first second s may_leave (inr h) = inr (record {
  slot0 = λ c from. ap file_of (slot_stays 0 from.0 c (omega arith) (from.2).tears.others) ∙ h.slot0 from.0 from.1;
  slot1 = λ c from. ap file_of (slot_stays 1 from.0 c (omega arith) (from.2).tears.others) ∙ h.slot1 from.0 from.1;
  file0 = h.file0;
  file1 = h.file1;
  empty = λ c from empty. h.empty from.0 from.1 (is_empty (from.0).gate (let longer = (from.2).tears.torn.no_shorter in omega (arith, longer, ap length empty)));
})

each_slot : (slot : ℕ) (s : Areas) (may_leave : Areas → Type 0) → slot < 2 → HasFile 0 s may_leave → HasFile 1 s may_leave → HasFile slot s may_leave
each_slot zero s may_leave small file0 file1 = file0
each_slot (suc zero) s may_leave small file0 file1 = file1
each_slot (suc (suc n)) s may_leave small file0 file1 = absurd (omega arith)

-- with the gate's byte on the disk all is settled
pub holds_settled : (first second : Option (List ℕ)) (s : Areas) (may_leave : Areas → Type 0) → Holds first second s may_leave → IsDurableAt 2 0 1 s may_leave → IsSettled s may_leave
holds_settled first second s may_leave (inl h) gate = h.0
holds_settled first second s may_leave (inr h) gate = record { gate = gate; file = λ slot names. each_slot slot s may_leave (named_small s.gate slot names) h.slot0 h.slot1 }

-- a slot that the gate doesn't name is written
module _ (slot : ℕ) (s n : Areas) (may_leave : Areas → Type 0) (small : slot < 2) (other : (named : ℕ) → named_by s.gate ≡ Some named → named ≡ 1 - slot) (strays : Strays slot s n) where
  same_gate : take 1 n.gate ≡ take 1 s.gate
  same_gate = ap (take 1) (gate_stays slot s n small strays)

  same_file : (named : ℕ) → named_by s.gate ≡ Some named → (d c : Areas) → Strays slot d c → file_of (area_of c named) ≡ file_of (area_of d named)
  same_file named names d c stray = ap file_of (let P : ℕ → Type 0 = λ k. area_of c k ≡ area_of d k in subst P (sym (other named names)) (other_stays slot d c small stray))

  pub put_settled : IsSettled s may_leave → IsSettled n (Stepped (Strays slot) may_leave)
  put_settled settled = record {
    gate = λ c from. ap (take 1) (gate_stays slot from.0 c small from.2) ∙ settled.gate from.0 from.1 ∙ sym same_gate;
    file = λ named names c from.
        let names_it : named_by s.gate ≡ Some named = sym (same_name n.gate s.gate same_gate) ∙ names in
        same_file named names_it from.0 c from.2 ∙ settled.file named names_it from.0 from.1 ∙ sym (same_file named names_it s n strays);
  }

  pub put_kept : kept n ≡ kept s
  put_kept = ⊎_elim (λ none. kept_none s n none same_gate) (λ some. kept_some some.0 s n some.1 same_gate (same_file some.0 some.1 s n strays)) (none_or_some (named_by s.gate))

-- after its sync its file is on the disk
pub file_durable : (slot : ℕ) (n : Areas) (may_leave : Areas → Type 0) (bytes : List ℕ) → from_be_bytes w64 (take 8 (area_of n slot)) ≡ length bytes → IsDurableAt slot 0 8 n may_leave → IsDurableAt slot 8 (length bytes) n may_leave → HasFile slot n may_leave
file_durable slot n may_leave bytes number first rest c left =
    ap (λ (l : List ℕ). take (from_be_bytes w64 l) (drop 8 (area_of c slot))) (first c left)
    ∙ ap (λ (k : ℕ). take k (drop 8 (area_of c slot))) number
    ∙ rest c left
    ∙ sym (ap (λ (k : ℕ). take k (drop 8 (area_of n slot))) number)

-- while the gate is written, where both slots have one of the two files
pub name_holds : (first second : Option (List ℕ)) (n m : Areas) (may_leave : Areas → Type 0) → Strays 2 n m → HasFile 0 n may_leave → HasFile 1 n may_leave → IsOneOf first second (Some (file_of n.slot0)) → IsOneOf first second (Some (file_of n.slot1))
    → ((d : Areas) → may_leave d → d.gate ≡ [] → IsOneOf first second None) → Holds first second m (Stepped (Tears 2 0 1) may_leave)
name_holds first second n m may_leave strays slot0 slot1 file0 file1 empty =
    let same0 : file_of m.slot0 ≡ file_of n.slot0 = ap file_of (slot_stays 0 n m (omega arith) strays) in
    let same1 : file_of m.slot1 ≡ file_of n.slot1 = ap file_of (slot_stays 1 n m (omega arith) strays) in
    inr (record {
      slot0 = λ c from. ap file_of (slot_stays 0 from.0 c (omega arith) (from.2).others) ∙ slot0 from.0 from.1 ∙ sym same0;
      slot1 = λ c from. ap file_of (slot_stays 1 from.0 c (omega arith) (from.2).others) ∙ slot1 from.0 from.1 ∙ sym same1;
      file0 = one_of first second (Some (file_of n.slot0)) (Some (file_of m.slot0)) (ap (λ (l : List ℕ). Some l) same0) file0;
      file1 = one_of first second (Some (file_of n.slot1)) (Some (file_of m.slot1)) (ap (λ (l : List ℕ). Some l) same1) file1;
      empty = λ c from is. empty from.0 from.1 (is_empty (from.0).gate (let longer = (from.2).torn.no_shorter in omega (arith, longer, ap length is)));
    })

-- in place of the file of the other slot
pub replace_holds : (slot : ℕ) (n m : Areas) (may_leave : Areas → Type 0) (bytes : List ℕ) → slot < 2 → named_by n.gate ≡ Some (1 - slot) → IsSettled n may_leave → HasFile slot n may_leave → file_of (area_of n slot) ≡ bytes → Strays 2 n m
    → Holds (kept n) (Some bytes) m (Stepped (Tears 2 0 1) may_leave)
replace_holds zero n m may_leave bytes small names settled file is strays =
    name_holds (kept n) (Some bytes) n m may_leave strays file (settled.file 1 names) (inr (ap (λ (l : List ℕ). Some l) is)) (inl (sym (ap (λ o. file_at o n) names)))
    (λ d left empty. let never : None ≡ Some 1 = sym (ap named_by empty) ∙ same_name d.gate n.gate (settled.gate d left) ∙ names in cc)
replace_holds (suc zero) n m may_leave bytes small names settled file is strays =
    name_holds (kept n) (Some bytes) n m may_leave strays (settled.file 0 names) file (inl (sym (ap (λ o. file_at o n) names))) (inr (ap (λ (l : List ℕ). Some l) is))
    (λ d left empty. let never : None ≡ Some 0 = sym (ap named_by empty) ∙ same_name d.gate n.gate (settled.gate d left) ∙ names in cc)
replace_holds (suc (suc k)) n m may_leave bytes small names settled file is strays = absurd (omega arith)

-- once the gate's byte is on the disk, and the file of the slot that it names
pub name_settled : (slot : ℕ) (m : Areas) (may_leave : Areas → Type 0) → named_by m.gate ≡ Some slot → IsDurableAt 2 0 1 m may_leave → HasFile slot m may_leave → IsSettled m may_leave
name_settled slot m may_leave names gate file = record {
  gate = gate;
  file = λ named is. let P : ℕ → Type 0 = λ k. HasFile k m may_leave in subst P (let same : Some slot ≡ Some named = sym names ∙ is in cc) file;
}
