-- Areas, one of which changes, and what a slot holds.
use Rattle.std.proofs.Common.{◌≡◌, ℕ, zero, suc, ◌+◌, ◌<◌, ◌%◌, List, [], ◌∷◌, ◌++◌, length, take, drop, Option, Some, None, IfSome, refl, sym, ◌∙◌, ap, subst, arith, append_assoc}
use Rattle.std.specs.Int.{w64, from_be_bytes}
use Rattle.std.proofs.lemmas.List.{take_at, drop_at}
use Rattle.rls_journal.specs.Areas.{Areas, area_of, with_area, spliced, named_by, file_of}
use Rattle.rls_journal.specs.Disk.{Writes, MayTear, IsDurable, IsDurableAt, IsWritten}
use Rattle.rls_journal.specs.Slots.{Strays, MayStray, HasFile, Names, Puts}

-- what a clause says of what a disk tells
pub at_some : {A : Type 0} (told : Option A) (P : A → Type 0) (x : A) → told ≡ Some x → IfSome told P → P x
at_some told P x is holds = let Q : Option _ → Type 0 = λ o. IfSome o P in subst Q is holds

pub to_some : {A : Type 0} (told : Option A) (P : A → Type 0) → ((x : A) → told ≡ Some x → P x) → IfSome told P
to_some None P holds = tt
to_some (Some x) P holds = holds x refl

-- a slot that was written is a number and the bytes, and then what was behind them
pub file_written : (old number bytes : List ℕ) → length number ≡ 8 → from_be_bytes w64 number ≡ length bytes → file_of (spliced (spliced old 0 number) 8 bytes) ≡ bytes
file_written old number bytes eight counts =
    let behind = drop (0 + length number) old in
    let rest = drop (8 + length bytes) (spliced old 0 number) in
    let whole : spliced (spliced old 0 number) 8 bytes ≡ number ++ (bytes ++ rest) = ap (λ (l : List ℕ). l ++ bytes ++ rest) (take_at number behind 8 eight) ∙ append_assoc number bytes rest in
    ap file_of whole
    ∙ ap (λ (l : List ℕ). take (from_be_bytes w64 l) (drop 8 (number ++ (bytes ++ rest)))) (take_at number (bytes ++ rest) 8 eight)
    ∙ ap (λ (l : List ℕ). take (from_be_bytes w64 number) l) (drop_at number (bytes ++ rest) 8 eight)
    ∙ take_at bytes rest (from_be_bytes w64 number) (sym counts)

number_written : (old number bytes : List ℕ) → length number ≡ 8 → from_be_bytes w64 number ≡ length bytes → from_be_bytes w64 (take 8 (spliced (spliced old 0 number) 8 bytes)) ≡ length bytes
number_written old number bytes eight counts =
    let behind = drop (0 + length number) old in
    let rest = drop (8 + length bytes) (spliced old 0 number) in
    let whole : spliced (spliced old 0 number) 8 bytes ≡ number ++ (bytes ++ rest) = ap (λ (l : List ℕ). l ++ bytes ++ rest) (take_at number behind 8 eight) ∙ append_assoc number bytes rest in
    ap (λ (l : List ℕ). from_be_bytes w64 (take 8 l)) whole ∙ ap (from_be_bytes w64) (take_at number (bytes ++ rest) 8 eight) ∙ counts

pub put_done : (old mid new : Option Areas) (slot : ℕ) (number bytes : List ℕ) → slot < 2 → length number ≡ 8 → from_be_bytes w64 number ≡ length bytes → Writes slot 0 number old mid → Writes slot 8 bytes mid new → Puts slot bytes old new
put_done None mid new slot number bytes small eight counts first second = let P : Option Areas → Type 0 = λ m. Writes slot 8 bytes m new in subst P first second
put_done (Some s) mid new zero number bytes small eight counts first second =
    let P : Option Areas → Type 0 = λ m. Writes 0 8 bytes m new in
    (with_area s 0 (spliced (spliced s.slot0 0 number) 8 bytes), subst P first second, refl, number_written s.slot0 number bytes eight counts, file_written s.slot0 number bytes eight counts)
put_done (Some s) mid new (suc zero) number bytes small eight counts first second =
    let P : Option Areas → Type 0 = λ m. Writes 1 8 bytes m new in
    (with_area s 1 (spliced (spliced s.slot1 0 number) 8 bytes), subst P first second, refl, number_written s.slot1 number bytes eight counts, file_written s.slot1 number bytes eight counts)
put_done (Some s) mid new (suc (suc n)) number bytes small eight counts first second = absurd (omega arith)

-- a write of an area changes no other one
pub write_strays : (area at : ℕ) (bytes : List ℕ) (old new : Option Areas) → area < 3 → Writes area at bytes old new → MayStray area old new
write_strays area at bytes None new below writes = writes
write_strays zero at bytes (Some s) new below writes = (with_area s 0 (spliced s.slot0 at bytes), writes, refl)
write_strays (suc zero) at bytes (Some s) new below writes = (with_area s 1 (spliced s.slot1 at bytes), writes, refl)
write_strays (suc (suc zero)) at bytes (Some s) new below writes = (with_area s 2 (spliced s.gate at bytes), writes, refl)
write_strays (suc (suc (suc n))) at bytes (Some s) new below writes = absurd (omega arith)

pub torn_strays : (area at n : ℕ) (old new : Option Areas) → MayTear area at n old new → MayStray area old new
torn_strays area at n None new tears = tears
torn_strays area at n (Some s) new tears = (tears.0, tears.1, (tears.2).others)

stray_both : (area : ℕ) (s m n : Areas) → area < 3 → Strays area s m → Strays area m n → Strays area s n
stray_both zero s m n below first second = second ∙ ap (λ (a : Areas). with_area a 0 n.slot0) first
stray_both (suc zero) s m n below first second = second ∙ ap (λ (a : Areas). with_area a 1 n.slot1) first
stray_both (suc (suc zero)) s m n below first second = second ∙ ap (λ (a : Areas). with_area a 2 n.gate) first
stray_both (suc (suc (suc k))) s m n below first second = absurd (omega arith)

pub strays_twice : (area : ℕ) (old mid new : Option Areas) → area < 3 → MayStray area old mid → MayStray area mid new → MayStray area old new
strays_twice area None mid new below first second = let P : Option Areas → Type 0 = λ o. MayStray area o new in subst P first second
strays_twice area (Some s) mid new below first second =
    let P : Option Areas → Type 0 = λ o. MayStray area o new in
    let then = subst P first.1 second in
    (then.0, then.1, stray_both area s first.0 then.0 below first.2 then.2)

-- what is on the disk whole is there in parts
pub durable_written : (area : ℕ) (dirty : ℕ → ℕ → ℕ → Type 0) (s : Areas) (may_leave : Areas → Type 0) → IsDurable area s may_leave → IsWritten area dirty s may_leave
durable_written area dirty s may_leave h = record { durable = λ at n is c left. ap (λ (l : List ℕ). take n (drop at l)) (h c left); no_longer = λ c left. omega (arith, ap length (h c left)) }

-- ---- what stands behind a sync

-- the gate is named
pub name_done : (slot : ℕ) (old mid new : Option Areas) (dirty : ℕ → ℕ → ℕ → Type 0) (may_leave : Areas → Type 0) → slot < 2 → Writes 2 0 (slot ∷ []) old mid → new ≡ mid → dirty 2 0 1 → IfSome mid (λ s. IsWritten 2 dirty s may_leave) → Names slot old new may_leave
name_done slot None mid new dirty may_leave small writes same is written = same ∙ writes
name_done slot (Some s) mid new dirty may_leave small writes same is written =
    let n = with_area s 2 (spliced s.gate 0 (slot ∷ [])) in
    let low : slot % 2 ≡ slot = omega (arith, small) in
    (n, same ∙ writes, refl, ap (λ (k : ℕ). Some k) low, λ c left. (at_some mid (λ s. IsWritten 2 dirty s may_leave) n writes written).durable 0 1 is c left)

pub gate_written : (old mid : Option Areas) (dirty : ℕ → ℕ → ℕ → Type 0) (before after : Areas → Type 0) → mid ≡ old → IfSome mid (λ s. IsWritten 2 dirty s before) → dirty 2 0 1 → ((c : Areas) → after c → before c) → IfSome old (λ s. IsDurableAt 2 0 1 s after)
gate_written old mid dirty before after same written is narrows =
    to_some old (λ s. IsDurableAt 2 0 1 s after) (λ s here c left. (at_some mid (λ s. IsWritten 2 dirty s before) s (same ∙ here) written).durable 0 1 is c (narrows c left))

-- the slot that the gate names is on the disk
pub file_synced : (named : ℕ) (answer : Option ℕ) (old mid : Option Areas) (may_leave : Areas → Type 0) → mid ≡ old → answer ≡ Some named → IfSome old (λ s. answer ≡ named_by s.gate) → IfSome mid (λ s. IsDurable named s may_leave) → (s : Areas) → old ≡ Some s → (slot : ℕ) → named_by s.gate ≡ Some slot
    → HasFile slot s may_leave
file_synced named answer old mid may_leave same is names durable s here slot at c left =
    let told = at_some old (λ s. answer ≡ named_by s.gate) s here names in
    let one : named ≡ slot = let both : Some named ≡ Some slot = sym is ∙ told ∙ at in cc in
    ap file_of (let P : ℕ → Type 0 = λ k. area_of c k ≡ area_of s k in subst P one (at_some mid (λ s. IsDurable named s may_leave) s (same ∙ here) durable c left))

-- where it names none
pub no_file : (answer : Option ℕ) (old : Option Areas) (may_leave : Areas → Type 0) → answer ≡ None → IfSome old (λ s. answer ≡ named_by s.gate) → (s : Areas) → old ≡ Some s → (slot : ℕ) → named_by s.gate ≡ Some slot → HasFile slot s may_leave
no_file answer old may_leave is names s here slot at = absurd (let never : None ≡ Some slot = sym is ∙ at_some old (λ s. answer ≡ named_by s.gate) s here names ∙ at in cc)
