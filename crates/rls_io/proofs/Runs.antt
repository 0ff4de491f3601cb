-- Calls of the system after one another.
use Rattle.std.proofs.Common.{◌≡◌, ◌∙◌, ◌⊎◌, ap, Option, Some, inl, inr, refl, subst, sym, ℕ, Bool, true, false, List, [], ◌∷◌, ◌++◌, Result, Ok, Err, is_ok, IsErrAnd}
use Rattle.rls_io.specs.declared.devices.Found.{Found}
use Rattle.rls_io.specs.Folder.{FileCall, LoadsBy, load_steps}
use Rattle.rls_io.specs.Calls.{Answer, Failed, Done, done, opened, Makes, FailsIn, Runs}

module _ {D C : Type 0} (gives : D → C → Answer → D → Type 0) where
  -- calls behind others that were made
  pub runs_on : (xs ys : List (C × Answer)) (ok : Bool) (old mid new : D) → Makes gives xs old mid → Runs gives ys ok mid new → Runs gives (xs ++ ys) ok old new
  runs_on [] ys ok old mid new same h = subst (λ d. Runs gives ys ok d new) same h
  runs_on (x ∷ xs) ys true old mid new h after = (h.0, h.1, runs_on xs ys true h.0 mid new h.2 after)
  runs_on (x ∷ xs) ys false old mid new h after = inr (h.0, h.1, runs_on xs ys false h.0 mid new h.2 after)

  -- a call that failed was the last
  pub fails_front : (xs ys : List (C × Answer)) (old new : D) → FailsIn gives xs old new → FailsIn gives (xs ++ ys) old new
  fails_front [] ys old new h = absurd h
  fails_front (x ∷ xs) ys old new (inl h) = inl h
  fails_front (x ∷ xs) ys old new (inr h) = inr (h.0, h.1, fails_front xs ys h.0 new h.2)

  -- one call
  pub runs_last : {A E : Type 0} (call : C) (r : Result A E) (old new : D) → gives old call (done r) new → Runs gives ((call, Done) ∷ []) (is_ok r) old new
  runs_last call (Ok x) old new h = (new, h, refl)
  runs_last call (Err e) old new h = inl h

  -- where the answer is the error of a call
  pub runs_not : {A E : Type 0} (P : E → Type 0) (steps : List (C × Answer)) (r : Result A E) (old new : D) → IsErrAnd r P → FailsIn gives steps old new → Runs gives steps (is_ok r) old new
  runs_not P steps (Ok x) old new is h = absurd is
  runs_not P steps (Err e) old new is h = h

-- a file that was opened
pub was_opened : {D C A E : Type 0} (gives : D → C → Answer → D → Type 0) (call : C) (r : Result (Option A) E) (file : Option A) (x : A) (old new : D) → r ≡ Ok file → file ≡ Some x → gives old call (opened r) new → gives old call Done new
was_opened gives call r file x old new was is h = subst (λ s. gives old call (opened s) new) (was ∙ ap (λ f. Ok f) is) h

-- a load that fails
pub loads_not : {D E : Type 0} (P : E → Type 0) (gives : D → FileCall → Answer → D → Type 0) (most : ℕ) (r : Result Found E) (old new : D) → IsErrAnd r P → FailsIn gives (load_steps most []) old new → LoadsBy gives r old new
loads_not P gives most (Ok found) old new is h = absurd is
loads_not P gives most (Err e) old new is h = (most, h)
