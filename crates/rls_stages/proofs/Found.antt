-- What came of the file that a load found.
use Rattle.std.proofs.Common.{◌≡◌, ◌≢◌, ◌<◌, ◌≤◌, ◌+◌, ℕ, true, false, List, length, replicate, Option, Some, Result, Ok, Err, refl, inl, inr, arith}
use Rattle.std.specs.Prelude.{Vec, nat_lt}
use Rattle.std.specs.declared.alloc.Global.{Global}
use Rattle.std.proofs.lemmas.Bool.Decides.{nat_tests}
use Rattle.std.proofs.lemmas.List.{length-replicate}
use Rattle.rls_ident.specs.declared.limits.TheConstants.{FILE_BYTES}
use Rattle.rls_io.specs.declared.devices.Found.{Found}
use Rattle.rls_io.specs.declared.devices.Found.TheVariants.{Bytes, Longer}
use Rattle.rls_io.specs.declared.devices.LoadError.{LoadError}
use Rattle.rls_report.specs.declared.failures.CommandError.{CommandError}
use Rattle.rls_report.specs.declared.failures.CommandError.TheVariants.{TooLarge}
use Rattle.rls_stages.specs.declared.errors.OpenError.{OpenError}
use Rattle.rls_stages.specs.declared.errors.OpenError.TheVariants.{Command, KeeperFault, OutOfMemory}
use Rattle.rls_stages.specs.Calls.{Finds, FindsUnlessFailed}
use Rattle.rls_stages.specs.KeptFile.{loaded}

-- some file is longer than a limit
longer : (limit : ℕ) → (bytes : List ℕ) × (limit < length bytes) × (nat_lt limit (length bytes) ≡ true)
longer limit =
    let bytes : List ℕ = replicate (limit + 1) 0 in
    let more : limit < length bytes = omega (arith, length-replicate {A = ℕ} (limit + 1) 0) in
    (bytes, more, grind (arith, nat_tests))

module _ {K : Type 0} (load : K → Result Found LoadError → K → Type 0) (old new : K) where
  -- this is loaded of the file that was found
  abbrev Loaded : Result (Option (List ℕ)) CommandError → Type 0
  Loaded r = Finds load (λ kept. loaded kept ≡ r) old new

  pub found_bytes : (v : Vec ℕ Global) → load old (Ok (Bytes v)) new → length v.items ≤ FILE_BYTES → Loaded (Ok (Some v.items))
  found_bytes v gave within = let short : nat_lt FILE_BYTES (length v.items) ≡ false = grind (arith, nat_tests) in (Some v.items, (Bytes v, gave, (refl, within)), rw short refl)

  -- of a file that is longer nothing more is known, so any is meant
  pub found_longer : load old (Ok Longer) new → Loaded (Err TooLarge)
  found_longer gave = go (longer FILE_BYTES)
    where
      go : (bytes : List ℕ) × (FILE_BYTES < length bytes) × (nat_lt FILE_BYTES (length bytes) ≡ true) → Loaded (Err TooLarge)
      go some = (Some some.0, (Longer, gave, some.1), rw some.2 refl)

  -- what came of it, once more was made of it
  pub found_on : {X : Type 0} (Holds Holds_more : Option (List ℕ) → Type 0) (r : Result X OpenError) → Finds load Holds old new → r ≢ Err KeeperFault → ((kept : Option (List ℕ)) → Holds kept → Holds_more kept) → FindsUnlessFailed load Holds_more r old new
  found_on Holds Holds_more (Ok x) f other more = (f.0, f.1, more f.0 f.2)
  found_on Holds Holds_more (Err (Command e)) f other more = (f.0, f.1, more f.0 f.2)
  found_on Holds Holds_more (Err KeeperFault) f other more = absurd (other refl)
  found_on Holds Holds_more (Err OutOfMemory) f other more = inr (inl (f.0, f.1, tt))
