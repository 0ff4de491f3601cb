-- The calls of a disk that a store makes.
use Rattle.std.proofs.Common.{arith, ◌≡◌, ◌%◌, refl, subst, ℕ, zero, suc, Bool, List, [], ◌∷◌, length, Option, Some, Result, Ok, Err, is_ok, IsErrAnd, slice_index_or}
use Rattle.rls_io.specs.Calls.{Answer, Done, Told, Gave, Makes, FailsIn, Runs}
use Rattle.rls_io.proofs.Runs.{runs_on}
use Rattle.rls_journal.specs.Calls.{DiskCall, NamesBy, Read, Renew, Size, StoresBy, Sync, gate_steps, named_steps, settle_steps, slot_named, store_steps, write_steps}

-- a buffer of one byte
pub one_byte : (buf : List ℕ) → length buf ≡ 1 → buf ≡ slice_index_or buf 0 0 ∷ []
one_byte [] len = absurd (let never : 0 ≡ 1 = len in omega (arith, never))
one_byte (x ∷ []) len = refl
one_byte (x ∷ y ∷ ys) len = absurd (omega (arith, len))

module _ {D : Type 0} (answers : D → DiskCall → Answer → D → Type 0) where
  -- where the answer is the error of a call
  pub names_not : {E : Type 0} (P : E → Type 0) (steps : ℕ → ℕ → List (DiskCall × Answer)) (size first : ℕ) (r : Result (Option ℕ) E) (old new : D) → IsErrAnd r P → FailsIn answers (steps size first) old new → NamesBy answers steps r old new
  names_not P steps size first (Ok slot) old new is h = absurd is
  names_not P steps size first (Err e) old new is h = (size, first, h)

  pub stores_not : {A E : Type 0} (P : E → Type 0) (size first : ℕ) (bytes : List ℕ) (r : Result A E) (old new : D) → IsErrAnd r P → FailsIn answers (store_steps size first bytes) old new → StoresBy answers bytes (is_ok r) old new
  stores_not P size first bytes (Ok x) old new is h = absurd is
  stores_not P size first bytes (Err e) old new is h = (size, first, h)

  -- a gate that isn't empty
  abbrev pub gate_of : ℕ → ℕ → List (DiskCall × Answer)
  gate_of n first = (Size 2, Told n) ∷ (Renew, Done) ∷ (Sync 2, Done) ∷ (Read 2 0 1, Gave (first ∷ [])) ∷ []

  pub gate_fails : (n first : ℕ) (old new : D) → (n ≡ 0 → ⊥) → FailsIn answers (gate_of n first) old new → FailsIn answers (gate_steps n first) old new
  gate_fails zero first old new some h = absurd (some refl)
  gate_fails (suc n) first old new some h = h

  pub gate_makes : (n first : ℕ) (old new : D) → (n ≡ 0 → ⊥) → Makes answers (gate_of n first) old new → (Some (first % 2) ≡ slot_named n first) × Makes answers (gate_steps n first) old new
  gate_makes zero first old new some h = absurd (some refl)
  gate_makes (suc n) first old new some h = (refl, h)

  -- what is done behind a gate that was read
  pub settles : (size first : ℕ) (slot : Option ℕ) (ok : Bool) (old mid new : D) → slot ≡ slot_named size first → Makes answers (gate_steps size first) old mid → Runs answers (named_steps slot) ok mid new → Runs answers (settle_steps size first) ok old new
  settles size first slot ok old mid new is h after = runs_on answers (gate_steps size first) (named_steps (slot_named size first)) ok old mid new h (subst (λ s. Runs answers (named_steps s) ok mid new) is after)

  -- what is done behind a gate that is settled
  pub stores : (size first : ℕ) (bytes : List ℕ) (slot : Option ℕ) (ok : Bool) (old mid new : D) → slot ≡ slot_named size first → Makes answers (settle_steps size first) old mid → Runs answers (write_steps slot bytes) ok mid new → StoresBy answers bytes ok old new
  stores size first bytes slot ok old mid new is h after =
      (size, first, runs_on answers (settle_steps size first) (write_steps (slot_named size first) bytes) ok old mid new h (subst (λ s. Runs answers (write_steps s bytes) ok mid new) is after))
