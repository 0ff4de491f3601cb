-- Calls of the system, one after another, with what each of them answered.
use Rattle.std.specs.Prelude.{◌⊎◌, ◌≡◌, ℕ, Bool, true, false, List, [], ◌∷◌, Option, Some, None, Result, Ok, Err}

-- what a call answered
pub data Answer : Type 0 where
  Failed : Answer
  Done : Answer
  -- the file isn't there
  Missing : Answer
  -- the file may not be opened in this way
  Forbidden : Answer
  -- a number
  Told : ℕ → Answer
  -- bytes
  Gave : List ℕ → Answer

-- that of a call which does what it is asked for, or fails
abbrev pub done : {A E : Type 0} → Result A E → Answer
done (Ok _) = Done
done (Err _) = Failed

-- that of a call which tells a number
abbrev pub told : {E : Type 0} → Result ℕ E → Answer
told (Ok n) = Told n
told (Err _) = Failed

-- that of a call which fills a buffer, which has these bytes now
abbrev pub gave : {A E : Type 0} → Result A E → List ℕ → Answer
gave (Ok _) buf = Gave buf
gave (Err _) buf = Failed

-- that of a call which opens a file, where it is there
abbrev pub opened : {A E : Type 0} → Result (Option A) E → Answer
opened (Ok (Some _)) = Done
opened (Ok None) = Missing
opened (Err _) = Failed

-- these calls were made, one after another, and answered so
abbrev pub Makes : {D C : Type 0} → (D → C → Answer → D → Type 0) → List (C × Answer) → D → D → Type 0
Makes gives [] old new = new ≡ old
Makes {D} gives (step ∷ steps) old new = (mid : D) × gives old step.0 step.1 mid × Makes gives steps mid new

-- a part of these calls, from the front, was made and answered so, and then the next one failed
abbrev pub FailsIn : {D C : Type 0} → (D → C → Answer → D → Type 0) → List (C × Answer) → D → D → Type 0
FailsIn gives [] old new = ⊥
FailsIn {D} gives (step ∷ steps) old new = gives old step.0 Failed new ⊎ ((mid : D) × gives old step.0 step.1 mid × FailsIn gives steps mid new)

-- all of these calls were made, or one of them failed and was the last
abbrev pub Runs : {D C : Type 0} → (D → C → Answer → D → Type 0) → List (C × Answer) → Bool → D → D → Type 0
Runs gives steps true old new = Makes gives steps old new
Runs gives steps false old new = FailsIn gives steps old new
