-- Replaying the calls of a disk in memory.
use Rattle.std.proofs.Common.{◌≡◌, ℕ, zero, suc, ◌+◌, ◌<◌, ◌≤◌, List, [], ◌∷◌, length, get_or, take, drop, Result, IfOk, Vec, refl, sym, ◌∙◌, ap, subst, arith}
use Rattle.std.specs.declared.alloc.Global.{Global}
use Rattle.std.proofs.lemmas.List.{drop_all, drop_more, length-drop}
use Rattle.rls_journal.specs.declared.contents.Entry.{Entry}
use Rattle.rls_journal.specs.declared.contents.Entry.TheVariants as entry
use Rattle.rls_journal.specs.Memory.{DeviceCall, Looked, Wrote, Synced, seen_step, image_step, image_after}
use Rattle.rls_journal.specs.Records.{calls_of, call_of, len_of, bytes_in}

calls_first : (e : Entry) (entries : List Entry) (written : List ℕ) → calls_of (e ∷ entries) written ≡ call_of e (take (len_of e) written) ∷ calls_of entries (drop (len_of e) written)
calls_first entry.Looked entries written = refl
calls_first (entry.Wrote area at len) entries written = refl
calls_first (entry.Synced area) entries written = refl

bytes_first : (e : Entry) (entries : List Entry) → bytes_in (e ∷ entries) ≡ len_of e + bytes_in entries
bytes_first entry.Looked entries = omega arith
bytes_first (entry.Wrote area at len) entries = refl
bytes_first (entry.Synced area) entries = omega arith

-- the bytes of the next entry are there
pub next_fits : (entries : List Entry) (i : ℕ) (d : Entry) (rest : List ℕ) → i < length entries → bytes_in (drop i entries) ≤ length rest → len_of (get_or entries i d) + bytes_in (drop (i + 1) entries) ≤ length rest
next_fits entries i d rest below fits = omega (arith, fits, ap bytes_in (drop_more entries i d below), bytes_first (get_or entries i d) (drop (i + 1) entries))

pub image_more : (filler area : ℕ) (entries : List Entry) (i : ℕ) (d : Entry) (rest seen image seen_next image_next result : List ℕ) → i < length entries
    → image_next ≡ image_step filler area (call_of (get_or entries i d) (take (len_of (get_or entries i d)) rest)) seen image
    → seen_next ≡ seen_step area (call_of (get_or entries i d) (take (len_of (get_or entries i d)) rest)) seen
    → image_after filler area seen image (calls_of (drop i entries) rest) ≡ result
    → image_after filler area seen_next image_next (calls_of (drop (i + 1) entries) (drop (len_of (get_or entries i d)) rest)) ≡ result
image_more filler area entries i d rest seen image seen_next image_next result below image_is seen_is before =
    let e = get_or entries i d in
    let after = calls_of (drop (i + 1) entries) (drop (len_of e) rest) in
    let first : calls_of (drop i entries) rest ≡ call_of e (take (len_of e) rest) ∷ after = ap (λ (l : List Entry). calls_of l rest) (drop_more entries i d below) ∙ calls_first e (drop (i + 1) entries) rest in
    ap (λ (l : List ℕ). image_after filler area l image_next after) seen_is ∙ ap (λ (l : List ℕ). image_after filler area (seen_step area (call_of e (take (len_of e) rest)) seen) l after) image_is
    ∙ sym (ap (λ (l : List DeviceCall). image_after filler area seen image l) first) ∙ before

-- the same, where the bytes of the next entry were split off, and what is seen is shown
pub entry_more : (filler area : ℕ) (entries : List Entry) (i n : ℕ) (d : Entry) (rest bytes behind seen shown image seen_next image_next result : List ℕ) → i < length entries
    → n ≡ len_of (get_or entries i d) → bytes ≡ take n rest → behind ≡ drop n rest → shown ≡ seen
    → image_next ≡ image_step filler area (call_of (get_or entries i d) bytes) shown image
    → seen_next ≡ seen_step area (call_of (get_or entries i d) bytes) seen
    → bytes_in (drop i entries) ≤ length rest
    → image_after filler area seen image (calls_of (drop i entries) rest) ≡ result
    → (bytes_in (drop (i + 1) entries) ≤ length behind) × (image_after filler area seen_next image_next (calls_of (drop (i + 1) entries) behind) ≡ result)
entry_more filler area entries i n d rest bytes behind seen shown image seen_next image_next result below len front back same image_is seen_is fits before =
    let e = get_or entries i d in
    let taken : bytes ≡ take (len_of e) rest = front ∙ ap (λ (m : ℕ). take m rest) len in
    let left : behind ≡ drop (len_of e) rest = back ∙ ap (λ (m : ℕ). drop m rest) len in
    let over : image_step filler area (call_of e bytes) shown image ≡ image_step filler area (call_of e bytes) seen image = ap (λ (l : List ℕ). image_step filler area (call_of e bytes) l image) same in
    let image_so : image_next ≡ image_step filler area (call_of e (take (len_of e) rest)) seen image = image_is ∙ (over ∙ ap (λ (l : List ℕ). image_step filler area (call_of e l) seen image) taken) in
    let seen_so : seen_next ≡ seen_step area (call_of e (take (len_of e) rest)) seen = seen_is ∙ ap (λ (l : List ℕ). seen_step area (call_of e l) seen) taken in (
      omega (arith, next_fits entries i d rest below fits, ap length left, length-drop (len_of e) rest),
      ap (λ (l : List ℕ). image_after filler area seen_next image_next (calls_of (drop (i + 1) entries) l)) left ∙ image_more filler area entries i d rest seen image seen_next image_next result below image_so seen_so before,
    )

-- no entry is left
pub no_entry_more : (filler area : ℕ) (entries : List Entry) (i : ℕ) (rest seen image result : List ℕ) → length entries ≤ i → image_after filler area seen image (calls_of (drop i entries) rest) ≡ result → image ≡ result
no_entry_more filler area entries i rest seen image result all before = sym (ap (λ (l : List Entry). image_after filler area seen image (calls_of l rest)) (drop_all i entries all)) ∙ before

-- the calls of the first entries are the first calls
pub calls_taken : (n : ℕ) (entries : List Entry) (written : List ℕ) → calls_of (take n entries) written ≡ take n (calls_of entries written)
calls_taken zero entries written = refl
calls_taken (suc n) [] written = refl
calls_taken (suc n) (entry.Looked ∷ entries) written = ap (λ (l : List DeviceCall). Looked ∷ l) (calls_taken n entries written)
calls_taken (suc n) (entry.Wrote area at len ∷ entries) written = ap (λ (l : List DeviceCall). Wrote area at (take len written) ∷ l) (calls_taken n entries (drop len written))
calls_taken (suc n) (entry.Synced area ∷ entries) written = ap (λ (l : List DeviceCall). Synced area ∷ l) (calls_taken n entries written)

pub bytes_taken : (n : ℕ) (entries : List Entry) → bytes_in (take n entries) ≤ bytes_in entries
bytes_taken zero entries = omega arith
bytes_taken (suc n) [] = omega arith
bytes_taken (suc n) (entry.Looked ∷ entries) = bytes_taken n entries
bytes_taken (suc n) (entry.Wrote area at len ∷ entries) = omega (arith, bytes_taken n entries)
bytes_taken (suc n) (entry.Synced area ∷ entries) = bytes_taken n entries

pub ok_same : {E : Type 0} (r : Result (Vec ℕ Global) E) (x y : List ℕ) → x ≡ y → IfOk r (λ v. v.items ≡ x) → IfOk r (λ v. v.items ≡ y)
ok_same r x y same holds = let P : List ℕ → Type 0 = λ l. IfOk r (λ v. v.items ≡ l) in subst P same holds
