-- What is kept in each image that a crash may leave.
use Rattle.std.proofs.Common.{◌≡◌, ◌⊎◌, inl, inr, ⊎_elim, ℕ, zero, suc, ◌-◌, ◌<◌, ◌≤◌, ◌%◌, List, [], ◌∷◌, length, take, Option, Some, None, refl, sym, ◌∙◌, ap, arith}
use Rattle.rls_journal.specs.Areas.{Areas, area_of, named_by, file_at, file_of, kept}
use Rattle.rls_journal.specs.Slots.{Strays}

-- a slot that strays leaves the gate and the other slot
pub gate_stays : (slot : ℕ) (d c : Areas) → slot < 2 → Strays slot d c → c.gate ≡ d.gate
gate_stays zero d c small strays = ap (λ (a : Areas). a.gate) strays
gate_stays (suc zero) d c small strays = ap (λ (a : Areas). a.gate) strays
gate_stays (suc (suc n)) d c small strays = absurd (omega arith)

pub other_stays : (slot : ℕ) (d c : Areas) → slot < 2 → Strays slot d c → area_of c (1 - slot) ≡ area_of d (1 - slot)
other_stays zero d c small strays = ap (λ (a : Areas). a.slot1) strays
other_stays (suc zero) d c small strays = ap (λ (a : Areas). a.slot0) strays
other_stays (suc (suc n)) d c small strays = absurd (omega arith)

-- a gate that strays leaves the slots
pub slot_stays : (slot : ℕ) (d c : Areas) → slot < 2 → Strays 2 d c → area_of c slot ≡ area_of d slot
slot_stays zero d c small strays = ap (λ (a : Areas). a.slot0) strays
slot_stays (suc zero) d c small strays = ap (λ (a : Areas). a.slot1) strays
slot_stays (suc (suc n)) d c small strays = absurd (omega arith)

first_names : (gate : List ℕ) → named_by (take 1 gate) ≡ named_by gate
first_names [] = refl
first_names (byte ∷ rest) = refl

-- the first byte names
pub same_name : (a b : List ℕ) → take 1 a ≡ take 1 b → named_by a ≡ named_by b
same_name a b same = sym (first_names a) ∙ ap named_by same ∙ first_names b

-- with the gate's first byte, and the file of the slot that it names, the kept file is the same
pub kept_some : (slot : ℕ) (s c : Areas) → named_by s.gate ≡ Some slot → take 1 c.gate ≡ take 1 s.gate → file_of (area_of c slot) ≡ file_of (area_of s slot) → kept c ≡ kept s
kept_some slot s c names gate same =
    ap (λ o. file_at o c) (same_name c.gate s.gate gate ∙ names) ∙ ap (λ (l : List ℕ). Some l) same ∙ sym (ap (λ o. file_at o s) names)

pub kept_none : (s c : Areas) → named_by s.gate ≡ None → take 1 c.gate ≡ take 1 s.gate → kept c ≡ kept s
kept_none s c names gate = ap (λ o. file_at o c) (same_name c.gate s.gate gate ∙ names) ∙ sym (ap (λ o. file_at o s) names)

one_of_two : (n slot : ℕ) → n < 2 → slot < 2 → (n ≡ slot) ⊎ (n ≡ 1 - slot)
one_of_two zero zero low small = inl refl
one_of_two zero (suc zero) low small = inr refl
one_of_two (suc zero) zero low small = inr refl
one_of_two (suc zero) (suc zero) low small = inl refl
one_of_two (suc (suc n)) slot low small = absurd (omega arith)
one_of_two n (suc (suc slot)) low small = absurd (omega arith)

-- a torn gate that names something names one of the slots
pub torn_gate : (gate : List ℕ) (c : Areas) → c.gate ≡ gate → 0 < length gate → (slot : ℕ) → slot < 2 → (kept c ≡ Some (file_of (area_of c slot))) ⊎ (kept c ≡ Some (file_of (area_of c (1 - slot))))
torn_gate [] c is some slot small = absurd (omega arith)
torn_gate (byte ∷ rest) c is some slot small =
    let names : kept c ≡ Some (file_of (area_of c (byte % 2))) = ap (λ o. file_at o c) (ap named_by is) in
    ⊎_elim (λ same. inl (names ∙ ap (λ (n : ℕ). Some (file_of (area_of c n))) same)) (λ other. inr (names ∙ ap (λ (n : ℕ). Some (file_of (area_of c n))) other)) (one_of_two (byte % 2) slot (omega arith) small)

pub empty_or_some : (gate : List ℕ) → (gate ≡ []) ⊎ (0 < length gate)
empty_or_some [] = inl refl
empty_or_some (byte ∷ rest) = inr (omega arith)

pub is_empty : (gate : List ℕ) → length gate ≤ 0 → gate ≡ []
is_empty [] few = refl
is_empty (byte ∷ rest) few = absurd (omega (arith, few))

pub named_small : (gate : List ℕ) (slot : ℕ) → named_by gate ≡ Some slot → slot < 2
named_small [] slot names = cc
named_small (byte ∷ rest) slot names = let same : byte % 2 ≡ slot = cc in omega (arith, same)

pub none_or_some : (o : Option ℕ) → (o ≡ None) ⊎ ((slot : ℕ) × (o ≡ Some slot))
none_or_some None = inl refl
none_or_some (Some slot) = inr (slot, refl)
