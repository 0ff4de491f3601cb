-- Which status is whose, and which line goes with it.
use Rattle.std.proofs.Common.{◌≡◌, ◌≢◌, ◌∙◌, ◌<◌, ◌⊎◌, ◌||◌, ◌==◌, ℕ, Bool, true, false, eqb, List, Option, Some, None, IfSome, refl, sym, ap, subst, inl, inr, lit<, arith}
use Rattle.std.proofs.lemmas.Bool.Decides.{nat_tests}
use Rattle.rls_report.specs.declared.failures.CommandError.{CommandError}
use Rattle.rls_report.specs.declared.failures.CommandError.TheVariants as errors
use Rattle.rls_report.specs.declared.failures.Fault.TheVariants.{Keeper, Source, Sink, Memory}
use Rattle.rls_report.specs.declared.failures.Failure.{Failure}
use Rattle.rls_report.specs.declared.failures.Failure.TheVariants.{NoCommand, Command, Fault}
use Rattle.rls_report.specs.Failures.{error_line, error_status}
use Rattle.rls_stages.specs.Endings.{IsFailureStatus, failure_line_at, or_else, own_line}

-- ---- which status is whose

-- two numbers that aren't the same
pub apart : {X : Type 0} (n j k : ℕ) → n ≡ j → n ≡ k → eqb j k ≡ false → X
apart n j k s h none = let yes : eqb j k ≡ true = subst (λ m. eqb j m ≡ true) (sym s ∙ h) (same j) in let never : true ≡ false = sym yes ∙ none in cc
  where
    same : (m : ℕ) → eqb m m ≡ true
    same m = grind (arith, nat_tests)

abbrev is_error : ℕ → Bool
is_error n = (n == 2) || ((n == 3) || ((n == 4) || ((n == 6) || (n == 11))))

error_is : (e : CommandError) → is_error (error_status e) ≡ true
error_is errors.NoReplica = refl
error_is errors.ReplicaExists = refl
error_is (errors.Damaged at) = refl
error_is (errors.BadMembers n) = refl
error_is (errors.BadMe n) = refl
error_is (errors.NotMember n) = refl
error_is (errors.BadLine n) = refl
error_is (errors.Malformed at) = refl
error_is (errors.OtherGroup g n) = refl
error_is (errors.Edit n f) = refl
error_is errors.TooLarge = refl

-- no error has another status
pub not_error : {X : Type 0} (e : CommandError) (n k : ℕ) → n ≡ error_status e → n ≡ k → is_error k ≡ false → X
not_error e n k s h none = let yes : is_error k ≡ true = subst (λ m. is_error m ≡ true) (sym s ∙ h) (error_is e) in let never : true ≡ false = sym yes ∙ none in cc

abbrev is_other : ℕ → Bool
is_other n = (n == 1) || ((n == 7) || ((n == 8) || ((n == 9) || (n == 10))))

abbrev is_failure : ℕ → Bool
is_failure n = is_error n || is_other n

-- no failure has another status
pub not_failure : {X : Type 0} (f : Failure) (n k : ℕ) → IsFailureStatus f n → n ≡ k → is_failure k ≡ false → X
not_failure f n k s h none = let yes : is_failure k ≡ true = subst (λ m. is_failure m ≡ true) h (is_one f s) in let never : true ≡ false = sym yes ∙ none in cc
  where
    at : (m : ℕ) → n ≡ m → is_failure m ≡ true → is_failure n ≡ true
    at m e is = subst (λ k. is_failure k ≡ true) (sym e) is

    is_one : (f : Failure) → IsFailureStatus f n → is_failure n ≡ true
    is_one NoCommand (inl s) = at 1 s refl
    is_one NoCommand (inr s) = at 10 s refl
    is_one (Command e) (inl s) = at (error_status e) s (ap (λ b. b || is_other (error_status e)) (error_is e))
    is_one (Command e) (inr s) = at 10 s refl
    is_one (Fault Keeper) s = at 7 s refl
    is_one (Fault Source) s = at 8 s refl
    is_one (Fault Sink) s = at 9 s refl
    is_one (Fault Memory) s = at 10 s refl

-- no failure but this one has the status j
record IsAlone (f : Failure) (j : ℕ) : Type 0 where
  error : is_error j ≡ false
  memory : eqb 10 j ≡ false
  usage : (eqb 1 j ≡ false) ⊎ (NoCommand ≡ f)
  keeper : (eqb 7 j ≡ false) ⊎ (Fault Keeper ≡ f)
  source : (eqb 8 j ≡ false) ⊎ (Fault Source ≡ f)
  sink : (eqb 9 j ≡ false) ⊎ (Fault Sink ≡ f)

failure_alone : {f : Failure} {j : ℕ} → IsAlone f j → (g : Failure) (n : ℕ) → IsFailureStatus g n → n ≡ j → g ≡ f
failure_alone {f} {j} alone g n s h = go g s
  where
    this : (k : ℕ) (g : Failure) → (eqb k j ≡ false) ⊎ (g ≡ f) → n ≡ k → g ≡ f
    this k g (inl other) e = apart n k j e h other
    this k g (inr same) e = same

    go : (g : Failure) → IsFailureStatus g n → g ≡ f
    go NoCommand (inl s) = this 1 NoCommand alone.usage s
    go NoCommand (inr s) = apart n 10 j s h alone.memory
    go (Command e) (inl s) = not_error e n j s h alone.error
    go (Command e) (inr s) = apart n 10 j s h alone.memory
    go (Fault Keeper) s = this 7 (Fault Keeper) alone.keeper s
    go (Fault Source) s = this 8 (Fault Source) alone.source s
    go (Fault Sink) s = this 9 (Fault Sink) alone.sink s
    go (Fault Memory) s = apart n 10 j s h alone.memory

-- the failure of a status that has one alone
pub failure_at_1 : (f : Failure) (n : ℕ) → IsFailureStatus f n → n ≡ 1 → f ≡ NoCommand
failure_at_1 = failure_alone (record { error = refl; memory = refl; usage = inr refl; keeper = inl refl; source = inl refl; sink = inl refl })

pub failure_at_7 : (f : Failure) (n : ℕ) → IsFailureStatus f n → n ≡ 7 → f ≡ Fault Keeper
failure_at_7 = failure_alone (record { error = refl; memory = refl; usage = inl refl; keeper = inr refl; source = inl refl; sink = inl refl })

-- a failure that isn't the keeper's has another status
pub not_keeper : (f : Failure) (n : ℕ) → IsFailureStatus f n → f ≢ Fault Keeper → n ≢ 7
not_keeper f n s other e = other (failure_at_7 f n s e)

pub failure_at_8 : (f : Failure) (n : ℕ) → IsFailureStatus f n → n ≡ 8 → f ≡ Fault Source
failure_at_8 = failure_alone (record { error = refl; memory = refl; usage = inl refl; keeper = inl refl; source = inr refl; sink = inl refl })

pub failure_at_9 : (f : Failure) (n : ℕ) → IsFailureStatus f n → n ≡ 9 → f ≡ Fault Sink
failure_at_9 = failure_alone (record { error = refl; memory = refl; usage = inl refl; keeper = inl refl; source = inl refl; sink = inr refl })

-- each failure has a status below 12
below_twelve : (e : CommandError) → error_status e < 12
below_twelve errors.NoReplica = lit< tt
below_twelve errors.ReplicaExists = lit< tt
below_twelve (errors.Damaged at) = lit< tt
below_twelve (errors.BadMembers n) = lit< tt
below_twelve (errors.BadMe n) = lit< tt
below_twelve (errors.NotMember n) = lit< tt
below_twelve (errors.BadLine n) = lit< tt
below_twelve (errors.Malformed at) = lit< tt
below_twelve (errors.OtherGroup g n) = lit< tt
below_twelve (errors.Edit n f) = lit< tt
below_twelve errors.TooLarge = lit< tt

pub at_most : (n m : ℕ) → n ≡ m → m < 12 → n < 12
at_most n m e h = subst (λ k. k < 12) (sym e) h

pub failure_below_twelve : (f : Failure) (n : ℕ) → IsFailureStatus f n → n < 12
failure_below_twelve NoCommand n (inl s) = at_most n 1 s (lit< tt)
failure_below_twelve NoCommand n (inr s) = at_most n 10 s (lit< tt)
failure_below_twelve (Command e) n (inl s) = at_most n (error_status e) s (below_twelve e)
failure_below_twelve (Command e) n (inr s) = at_most n 10 s (lit< tt)
failure_below_twelve (Fault Keeper) n s = at_most n 7 s (lit< tt)
failure_below_twelve (Fault Source) n s = at_most n 8 s (lit< tt)
failure_below_twelve (Fault Sink) n s = at_most n 9 s (lit< tt)
failure_below_twelve (Fault Memory) n s = at_most n 10 s (lit< tt)

-- ---- the line

-- the line that is told is this one
told_line : (P : List ℕ → Type 0) (told : Option (List ℕ)) (line : List ℕ) → IfSome told (λ l. l ≡ line) → P line → IfSome told P
told_line P None line h p = tt
told_line P (Some l) line h p = subst P (sym h) p

-- of an error
error_line_told : (P : List ℕ → Type 0) (told : Option (List ℕ)) (e : CommandError) → IfSome told (λ l. l ≡ error_line e) → P (failure_line_at (Command e) (error_status e)) → IfSome (or_else (own_line (error_status e)) told) P
error_line_told P told errors.NoReplica h l = told_line P told _ h l
error_line_told P told errors.ReplicaExists h l = told_line P told _ h l
error_line_told P told (errors.Damaged at) h l = told_line P told _ h l
error_line_told P told (errors.BadMembers n) h l = told_line P told _ h l
error_line_told P told (errors.BadMe n) h l = told_line P told _ h l
error_line_told P told (errors.NotMember n) h l = told_line P told _ h l
error_line_told P told (errors.BadLine n) h l = told_line P told _ h l
error_line_told P told (errors.Malformed at) h l = told_line P told _ h l
error_line_told P told (errors.OtherGroup g n) h l = told_line P told _ h l
error_line_told P told (errors.Edit n f) h l = told_line P told _ h l
error_line_told P told errors.TooLarge h l = l

-- The line at a failure's status: that of the status, if it has one for all its causes, and otherwise the one that is told, which is the
-- error's.
pub failure_line_told : (P : List ℕ → Type 0) (told : Option (List ℕ)) (f : Failure) (n : ℕ) → IsFailureStatus f n → ((e : CommandError) → f ≡ Command e → IfSome told (λ l. l ≡ error_line e)) → P (failure_line_at f n)
    → IfSome (or_else (own_line n) told) P
failure_line_told P told f n s same line = go f s same line
  where
    at : (f : Failure) (m : ℕ) → n ≡ m → P (failure_line_at f n) → (P (failure_line_at f m) → IfSome (or_else (own_line m) told) P) → IfSome (or_else (own_line n) told) P
    at f m e line more = subst (λ (k : ℕ). IfSome (or_else (own_line k) told) P) (sym e) (more (subst (λ (k : ℕ). P (failure_line_at f k)) e line))

    go : (f : Failure) → IsFailureStatus f n → ((e : CommandError) → f ≡ Command e → IfSome told (λ l. l ≡ error_line e)) → P (failure_line_at f n) → IfSome (or_else (own_line n) told) P
    go NoCommand (inl s) same line = at NoCommand 1 s line (λ l. l)
    go NoCommand (inr s) same line = at NoCommand 10 s line (λ l. l)
    go (Command e) (inl s) same line = at (Command e) (error_status e) s line (error_line_told P told e (same e refl))
    go (Command e) (inr s) same line = at (Command e) 10 s line (λ l. l)
    go (Fault Keeper) s same line = at (Fault Keeper) 7 s line (λ l. l)
    go (Fault Source) s same line = at (Fault Source) 8 s line (λ l. l)
    go (Fault Sink) s same line = at (Fault Sink) 9 s line (λ l. l)
    go (Fault Memory) s same line = at (Fault Memory) 10 s line (λ l. l)
