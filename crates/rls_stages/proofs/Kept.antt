-- What is kept from step to step: a file that stays, what is written in part, a list within its limit, and whom a message is for.
use Rattle.std.proofs.Common.{◌≡◌, ◌≢◌, ◌∙◌, ◌⊎◌, ◌<◌, ◌≤◌, ℕ, Bool, true, false, eqb, List, Option, Some, None, refl, sym, subst, inl, inr, arith}
use Rattle.std.specs.Prelude.{◌&&◌, ◌==◌, nat_lt}
use Rattle.std.proofs.lemmas.Bool.Decides.{eqb_tells, nat_tests}
use Rattle.rls_io.specs.Device.{IsCutShort, Keeps}
use Rattle.rls_ops.specs.declared.message.Message.{Message}
use Rattle.rls_seen.specs.Seen.{Seen, members}
use Rattle.rls_replica.specs.Faults.{IsForeign}
use Rattle.rls_stages.specs.Endings.{IsPart}
use Rattle.rls_stages.specs.KeptFile.{Stays}

-- ---- the file

pub keeps_on : {A : Type 0} (a b c : Option A) → Keeps a b → Keeps b c → Keeps a c
keeps_on None b c h k = tt
keeps_on {A} (Some x) b c h k = subst (λ (o : Option A). Keeps o c) h k

-- the file is as it was
pub stays_on : (old mid new : Option (Option (List ℕ))) → Keeps old mid → Keeps new mid → Stays old new
stays_on None mid new h k = tt
stays_on (Some kept) mid None h k = tt
stays_on (Some kept) mid (Some now) h k = let same : Some now ≡ Some kept = sym k ∙ h in cc

pub stays_so : (old new : Option (Option (List ℕ))) → Keeps old new → Stays old new
stays_so None new h = tt
stays_so (Some kept) None h = tt
stays_so (Some kept) (Some now) h = cc

-- ---- what is written

-- what is cut short is a part
pub part_of_cut : (old new : Option (List ℕ)) (bytes : List ℕ) → IsCutShort old new bytes → IsPart old new bytes
part_of_cut old new bytes h = (h.0, omega (arith, h.1), h.2)

-- ---- limits

-- a list of this length is within a limit or past it
abbrev pub WithinOrPast : ℕ → ℕ → Type 0
WithinOrPast limit n = ((n ≤ limit) × (nat_lt limit n ≡ false)) ⊎ ((limit < n) × (nat_lt limit n ≡ true))

pub within_or_past : (limit n : ℕ) → WithinOrPast limit n
within_or_past limit n = go (nat_lt limit n) refl
  where
    go : (b : Bool) → nat_lt limit n ≡ b → WithinOrPast limit n
    go true e = inr (let h : limit < n = grind (arith, nat_tests) in h, e)
    go false e = inl (let h : n ≤ limit = grind (arith, nat_tests) in h, e)

-- ---- messages

-- the message comes from another group, or one with another count of members
pub not_for : (s : Seen) (m : Message) → IsForeign s m → ((m.group == s.group) && (m.members == members s)) ≡ false
not_for s m (inl other) = go (eqb_tells m.group s.group)
  where
    go : ((eqb m.group s.group ≡ true) × (m.group ≡ s.group)) ⊎ ((eqb m.group s.group ≡ false) × (m.group ≢ s.group)) → ((m.group == s.group) && (m.members == members s)) ≡ false
    go (inl e) = absurd (other e.1)
    go (inr e) = rw (e.0) refl
not_for s m (inr other) = go (m.group == s.group) (eqb_tells m.members (members s))
  where
    go : (b : Bool) → ((eqb m.members (members s) ≡ true) × (m.members ≡ members s)) ⊎ ((eqb m.members (members s) ≡ false) × (m.members ≢ members s)) → (b && (m.members == members s)) ≡ false
    go b (inl e) = absurd (other e.1)
    go true (inr e) = e.0
    go false (inr e) = refl

-- it comes from neither
pub is_ours : (s : Seen) (m : Message) → (IsForeign s m → ⊥) → ((m.group == s.group) && (m.members == members s)) ≡ true
is_ours s m none = go (eqb_tells m.group s.group) (eqb_tells m.members (members s))
  where
    go : ((eqb m.group s.group ≡ true) × (m.group ≡ s.group)) ⊎ ((eqb m.group s.group ≡ false) × (m.group ≢ s.group))
        → ((eqb m.members (members s) ≡ true) × (m.members ≡ members s)) ⊎ ((eqb m.members (members s) ≡ false) × (m.members ≢ members s))
        → ((m.group == s.group) && (m.members == members s)) ≡ true
    go (inl e) (inl f) = rw (e.0, f.0) refl
    go (inl e) (inr f) = absurd (none (inr f.1))
    go (inr e) f = absurd (none (inl e.1))
