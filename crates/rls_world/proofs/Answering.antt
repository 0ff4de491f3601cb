-- What a step says of its answer.
use Rattle.std.proofs.Common.{◌≡◌, ◌≢◌, ℕ, List, refl, sym, ◌∙◌, subst, Some, None, Result, Ok, Err, IfOk, IfErr, OnOk, IsErrOf}
use Rattle.rls_model.specs.declared.event.Event.{Event}
use Rattle.rls_model.specs.declared.event.Outcome.{Outcome}
use Rattle.rls_model.specs.declared.event.StepError.{StepError}
use Rattle.rls_model.specs.declared.event.StepError.TheVariants as faults
use Rattle.rls_model.specs.Laws.{IsAfter}
use Rattle.rls_model.specs.WellFormed.{IsEvent}
use Rattle.rls_model.specs.Worlds.{World, Happening, fault_of, outcome_of, happens}
use Rattle.rls_world.specs.Clean.{IsClean}
use Rattle.rls_world.specs.Events.{fault_over, happened, outcome_over, IsFault, IsStep}
use Rattle.rls_world.specs.Seen.{WorldSeen, StandsForWorld, IsOneGroup}
use Rattle.rls_world.proofs.Standing.{fault_alike, faults_alike, outcome_alike, happened_stands, part_stands}
use Rattle.rls_world.proofs.Clean.{clean_step}

pub step_fault : (s new : WorldSeen) (e : Event) (a : Result Outcome StepError) → IsStep s e a new → IfErr a (λ f. IsFault f (fault_over s e))
step_fault s new e (Ok o) h = tt
step_fault s new e (Err faults.OutOfMemory) h = tt
step_fault s new e (Err (faults.Edit x)) h = h.0
step_fault s new e (Err (faults.NoMember k)) h = h.0
step_fault s new e (Err (faults.NoMessage k)) h = h.0

pub step_fits : (s new : WorldSeen) (e : Event) (a : Result Outcome StepError) → IsStep s e a new → OnOk a (fault_over s e ≡ None)
step_fits s new e (Ok o) h = h.0
step_fits s new e (Err x) h = tt

pub step_outcome : (s new : WorldSeen) (e : Event) (a : Result Outcome StepError) → IsStep s e a new → IfOk a (λ o. o ≡ outcome_over s e)
step_outcome s new e (Ok o) h = h.1
step_outcome s new e (Err x) h = tt

pub step_after : (s new : WorldSeen) (e : Event) (a : Result Outcome StepError) → IsStep s e a new → OnOk a (new ≡ happened s e)
step_after s new e (Ok o) h = h.2
step_after s new e (Err x) h = tt

pub step_err : (s new : WorldSeen) (e : Event) (a : Result Outcome StepError) → IsStep s e a new → IfErr a (λ f. f ≢ faults.OutOfMemory → new ≡ s)
step_err s new e (Ok o) h = tt
step_err s new e (Err faults.OutOfMemory) h = λ d. absurd (d refl)
step_err s new e (Err (faults.Edit x)) h = λ d. h.1
step_err s new e (Err (faults.NoMember k)) h = λ d. h.1
step_err s new e (Err (faults.NoMessage k)) h = λ d. h.1

pub step_refused : (s new : WorldSeen) (e : Event) (a : Result Outcome StepError) → IsStep s e a new → IfErr a (λ f. (w : World) → StandsForWorld s w → IsFault f (fault_of w e))
step_refused s new e (Ok o) h = tt
step_refused s new e (Err f) h = λ w g. faults_alike s w e f g (step_fault s new e (Err f) h)

pub step_answer : (s new : WorldSeen) (e : Event) (group : ℕ) (a : Result Outcome StepError) → IsOneGroup s group → IsStep s e a new → IfOk a (λ o. (w : World) → StandsForWorld s w → (fault_of w e ≡ None) × (o ≡ outcome_of w e))
step_answer s new e group (Ok o) d h = λ w g. (sym (fault_alike s w e g) ∙ h.0, h.1 ∙ outcome_alike s w e group d g)
step_answer s new e group (Err f) d h = tt

pub step_stands : (s new : WorldSeen) (e : Event) (group : ℕ) (a : Result Outcome StepError) → IsEvent e → IsOneGroup s group → IsStep s e a new → OnOk a ((w : World) → StandsForWorld s w → StandsForWorld new (happens None w e))
step_stands s new e group (Ok o) v d h = λ w g. subst (λ u. StandsForWorld u (happens None w e)) (sym h.2) (happened_stands s w e group v d g h.0)
step_stands s new e group (Err f) v d h = tt

pub step_part : (s new : WorldSeen) (e : Event) (group : ℕ) (a : Result Outcome StepError) → IsEvent e → IsOneGroup s group → IsStep s e a new → IsErrOf a faults.OutOfMemory → (w : World) → StandsForWorld s w
    → (n : ℕ) × StandsForWorld new (happens (Some n) w e)
step_part s new e group (Ok o) v d h p = absurd (cc)
step_part s new e group (Err faults.OutOfMemory) v d h p = λ w g. part_stands s new w e group v d g h
step_part s new e group (Err (faults.Edit x)) v d h p = absurd (cc)
step_part s new e group (Err (faults.NoMember k)) v d h p = absurd (cc)
step_part s new e group (Err (faults.NoMessage k)) v d h p = absurd (cc)

pub step_clean : (s new : WorldSeen) (e : Event) (group : ℕ) (a : Result Outcome StepError) → IsEvent e → IsOneGroup s group → IsStep s e a new
    → IfOk a (λ o. (w : World) (hs : List Happening) → IsAfter w hs → StandsForWorld s w → IsClean w hs e o)
step_clean s new e group (Ok o) v d h = λ w hs r g. clean_step w hs e o v r (sym (fault_alike s w e g) ∙ h.0) (h.1 ∙ outcome_alike s w e group d g)
step_clean s new e group (Err f) v d h = tt
