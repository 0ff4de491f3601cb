-- The status and the lines, by how a command ended.
use Rattle.std.proofs.Common.{◌≡◌, ◌≢◌, ◌∙◌, ◌⊎◌, ◌<◌, ℕ, Bool, true, false, cond, eqb, List, Option, Some, None, IfSome, IfErr, OnOk, Result, Ok, Err, refl, sym, ap, subst, inl, inr, lit<, IsTrue, IsFalse}
use Rattle.std.specs.Prelude.{option_map}
use Rattle.rls_io.specs.Device.{Keeps}
use Rattle.rls_report.specs.declared.failures.CommandError.{CommandError}
use Rattle.rls_report.specs.declared.failures.Fault.TheVariants.{Keeper, Source, Sink, Memory}
use Rattle.rls_report.specs.declared.failures.Failure.{Failure}
use Rattle.rls_report.specs.declared.failures.Failure.TheVariants.{NoCommand, Command, Fault}
use Rattle.rls_report.specs.Failures.{error_line}
use Rattle.rls_top.specs.declared.made.Made.{Made}
use Rattle.rls_top.specs.declared.words.Command as words
use Rattle.rls_top.specs.Due.{Due, Makes, Stops, due_line, due_status, may_store}
use Rattle.rls_top.specs.Due as due
use Rattle.rls_stages.specs.Endings.{IsFault}
use Rattle.rls_stages.proofs.Statuses.{apart, at_most, failure_at_1, failure_at_7, failure_at_8, failure_at_9, failure_below_twelve, failure_line_told, not_failure}
use Rattle.rls_top.specs.Endings.{IsDone, IsStored, IsWritten, IsPartWritten, IsKept, MayStore, line_at}
use Rattle.rls_top.specs.Stages.{IsAsDue, IsDue, IsEarly, IsStatusOf, Leaves, Reports, line_of, of_failure}
use Rattle.rls_top.proofs.Faults.{ended_by}
use Rattle.rls_top.proofs.Finishing.{for_due}

-- ---- which status is whose

-- the status of what was made
pub made_apart : {X : Type 0} (b : Bool) (n k : ℕ) → n ≡ cond b 0 5 → n ≡ k → eqb 0 k ≡ false → eqb 5 k ≡ false → X
made_apart true n k s h zero five = apart n 0 k s h zero
made_apart false n k s h zero five = apart n 5 k s h five

pub made_stored : (b : Bool) (n : ℕ) → n ≡ cond b 0 5 → IsDone n
made_stored true n e = inl e
made_stored false n e = inr e

pub stored_done : (n : ℕ) → IsDone n → IsStored n
stored_done n (inl e) = inl e
stored_done n (inr e) = inr (inl e)

pub no_command : (r : Result Made Failure) (n : ℕ) → IsStatusOf r n → n ≡ 1 → r ≡ Err NoCommand
no_command (Ok made) n s h = made_apart (eqb made.refused 0) n 1 s h refl refl
no_command (Err f) n s h = ap ended_by (failure_at_1 f n s h)

pub keeper_fault : (r : Result Made Failure) (n : ℕ) → IsStatusOf r n → n ≡ 7 → r ≡ Err (Fault Keeper)
keeper_fault (Ok made) n s h = made_apart (eqb made.refused 0) n 7 s h refl refl
keeper_fault (Err f) n s h = ap ended_by (failure_at_7 f n s h)

pub no_keeper_fault : (r : Result Made Failure) (n : ℕ) → IsStatusOf r n → n ≢ 7 → r ≢ Err (Fault Keeper)
no_keeper_fault r n s other is = other (subst (λ (x : Result Made Failure). IsStatusOf x n) is s)

pub source_fault : (r : Result Made Failure) (n : ℕ) → IsStatusOf r n → n ≡ 8 → r ≡ Err (Fault Source)
source_fault (Ok made) n s h = made_apart (eqb made.refused 0) n 8 s h refl refl
source_fault (Err f) n s h = ap ended_by (failure_at_8 f n s h)

pub sink_fault : (r : Result Made Failure) (n : ℕ) → IsStatusOf r n → n ≡ 9 → r ≡ Err (Fault Sink)
sink_fault (Ok made) n s h = made_apart (eqb made.refused 0) n 9 s h refl refl
sink_fault (Err f) n s h = ap ended_by (failure_at_9 f n s h)

pub no_other : (r : Result Made Failure) (n : ℕ) → IsStatusOf r n → n < 12
no_other (Ok made) n s = go (eqb made.refused 0) s
  where
    go : (b : Bool) → n ≡ cond b 0 5 → n < 12
    go true s = at_most n 0 s (lit< tt)
    go false s = at_most n 5 s (lit< tt)
no_other (Err f) n s = failure_below_twelve f n s

-- ---- what is called for

memory : (d : Due) (n : ℕ) → n ≡ 10 → (n ≡ due_status d) ⊎ IsFault n
memory d n s = inr (inr (inr (inr s)))

status_so : (r : Result Made Failure) (n : ℕ) (d : Due) → IsStatusOf r n → IsDue of_failure r d → (n ≡ due_status d) ⊎ IsFault n
status_so (Ok made) n due.NoCommand s h = absurd h
status_so (Ok made) n (Stops e) s h = absurd h
status_so (Ok made) n (Makes stored report refused) s h = inl (s ∙ ap (λ k. cond (eqb k 0) 0 5) h.count_is)
status_so (Err NoCommand) n d (inl s) h = inl (s ∙ sym (ap due_status h))
status_so (Err NoCommand) n d (inr s) h = memory d n s
status_so (Err (Command e)) n d (inl s) h = inl (s ∙ sym (ap due_status h))
status_so (Err (Command e)) n d (inr s) h = memory d n s
status_so (Err (Fault Keeper)) n d s h = inr (inl s)
status_so (Err (Fault Source)) n d s h = inr (inr (inl s))
status_so (Err (Fault Sink)) n d s h = inr (inr (inr (inl s)))
status_so (Err (Fault Memory)) n d s h = memory d n s

pub due_status_so : (d : Option Due) (r : Result Made Failure) (n : ℕ) → IsStatusOf r n → IfSome d (IsDue of_failure r) → IfSome d (λ d. (n ≡ due_status d) ⊎ IsFault n)
due_status_so d r n s h = for_due d (IsDue of_failure r) (λ d. (n ≡ due_status d) ⊎ IsFault n) (λ d h. status_so r n d s h) h

-- ---- what is written and kept

-- a status at which all was done is that of what was made
pub done_made : (r : Result Made Failure) (n : ℕ) → IsStatusOf r n → IsDone n → (made : Made) × (r ≡ Ok made)
done_made (Ok made) n s h = (made, refl)
done_made (Err f) n s (inl h) = not_failure f n 0 s h refl
done_made (Err f) n s (inr h) = not_failure f n 5 s h refl

-- what holds of all that was made
pub done_so : (r : Result Made Failure) (n : ℕ) (X : Type 0) → IsStatusOf r n → OnOk r X → IsDone n → X
done_so r n X s h done = let m = done_made r n s done in subst (λ (x : Result Made Failure). OnOk x X) m.1 h

pub report_so : (d : Option Due) (r : Result Made Failure) (n : ℕ) (old new : Option (List ℕ)) → IsStatusOf r n → IfSome d (λ d. Reports r d old new) → IsDone n → IfSome d (λ d. IsWritten d old new)
report_so d r n old new s h done =
    let m = done_made r n s done in
    subst (λ (x : Result Made Failure). IfSome d (λ d. Reports x d old new)) m.1 h

pub partly_so : (d : Option Due) (r : Result Made Failure) (n : ℕ) (old new : Option (List ℕ)) → IsStatusOf r n → IfSome d (λ d. Reports r d old new) → n ≡ 9 → IfSome d (λ d. IsPartWritten d old new)
partly_so d r n old new s h e = subst (λ (x : Result Made Failure). IfSome d (λ d. Reports x d old new)) (sink_fault r n s e) h

pub file_so : (d : Option Due) (r : Result Made Failure) (n : ℕ) (old new : Option (Option (List ℕ))) → IsStatusOf r n → IfSome d (λ d. Leaves r d old new) → IsStored n → IfSome d (λ d. IsKept d old new)
file_so d r n old new s h (inl e) = subst (λ (x : Result Made Failure). IfSome d (λ d. Leaves x d old new)) (done_made r n s (inl e)).1 h
file_so d r n old new s h (inr (inl e)) = subst (λ (x : Result Made Failure). IfSome d (λ d. Leaves x d old new)) (done_made r n s (inr e)).1 h
file_so d r n old new s h (inr (inr e)) = subst (λ (x : Result Made Failure). IfSome d (λ d. Leaves x d old new)) (sink_fault r n s e) h

-- an end at which nothing was stored isn't that of the output
pub unstored_so : (r : Result Made Failure) (n : ℕ) (X : Type 0) → IsStatusOf r n → IfErr r (λ f. f ≢ Fault Sink → X) → (IsStored n → ⊥) → X
unstored_so (Ok made) n X s h none = absurd (none (stored_done n (made_stored (eqb made.refused 0) n s)))
unstored_so (Err f) n X s h none = h (λ is. none (inr (inr (subst (λ (g : Failure). IsStatusOf (Err g) n) is s))))

-- an end before storing, or of a command that stores nothing
pub early_so : (c : Option words.Command) (r : Result Made Failure) (n : ℕ) (old new : Option (Option (List ℕ))) → IsStatusOf r n → IfErr r (λ f. IsEarly f → Keeps old new) → (IsFalse (may_store c) → Keeps old new) → (MayStore c n → ⊥) → Keeps old new
early_so c r n old new s early unstored none = go (may_store c) unstored (λ h. none h)
  where
    late : (r : Result Made Failure) → IsStatusOf r n → IfErr r (λ f. IsEarly f → Keeps old new) → (IsStored n ⊎ (n ≡ 7) ⊎ (n ≡ 10) → ⊥) → Keeps old new
    late (Ok made) s early other = absurd (other (inl (stored_done n (made_stored (eqb made.refused 0) n s))))
    late (Err NoCommand) s early other = early tt
    late (Err (Command e)) s early other = early tt
    late (Err (Fault Keeper)) s early other = absurd (other (inr (inl s)))
    late (Err (Fault Source)) s early other = early tt
    late (Err (Fault Sink)) s early other = absurd (other (inl (inr (inr s))))
    late (Err (Fault Memory)) s early other = absurd (other (inr (inr s)))

    go : (b : Bool) → (IsFalse b → Keeps old new) → (IsTrue b × (IsStored n ⊎ (n ≡ 7) ⊎ (n ≡ 10)) → ⊥) → Keeps old new
    go true unstored other = late r s early (λ h. other (refl, h))
    go false unstored other = unstored refl

-- ---- the line

-- the line of what is called for is that of the error
told_line : (d : Option Due) (f : Failure) (e : CommandError) → IfSome d (IsDue of_failure (Err f)) → f ≡ Command e → IfSome (option_map due_line d) (λ l. l ≡ error_line e)
told_line None f e h is = tt
told_line (Some d) f e h is = ap due_line (subst (λ (g : Failure). IsDue of_failure (Err g) d) is h)

made_line_so : (P : List ℕ → Type 0) (d : Option Due) (made : Made) (b : Bool) (n : ℕ) → n ≡ cond b 0 5 → IfSome d (IsAsDue made) → P (line_of (Ok made) n) → IfSome (line_at d n) P
made_line_so P d made b n s h line = subst (λ (k : ℕ). IfSome (line_at d k) P) (sym s) (go d b h line)
  where
    go : (d : Option Due) (b : Bool) → IfSome d (IsAsDue made) → P (line_of (Ok made) (cond b 0 5)) → IfSome (line_at d (cond b 0 5)) P
    go None true h l = tt
    go None false h l = tt
    go (Some due.NoCommand) b h l = absurd h
    go (Some (Stops e)) b h l = absurd h
    go (Some (Makes stored report refused)) true h l = subst P h.lines_are l
    go (Some (Makes stored report refused)) false h l = subst P h.lines_are l

pub line_so : (P : List ℕ → Type 0) (d : Option Due) (r : Result Made Failure) (n : ℕ) → IsStatusOf r n → IfSome d (IsDue of_failure r) → P (line_of r n) → IfSome (line_at d n) P
line_so P d (Ok made) n s h line = made_line_so P d made (eqb made.refused 0) n s h line
line_so P d (Err f) n s h line = failure_line_told P (option_map due_line d) f n s (λ e is. told_line d f e h is) line
