-- Courses of events, as the trial makes them.
use Rattle.std.proofs.Common.{◌≡◌, ◌≢◌, ℕ, zero, suc, ◌+◌, ◌++◌, List, [], ◌∷◌, length, refl, sym, ap, ◌∙◌, subst, Option, Some, None, Result, Ok, Err, IfOk, IfErr, OnOk, arith}
use Rattle.std.specs.Prelude.{slice_get, replicate}
use Rattle.rls_ops.specs.declared.message.Message.{Message}
use Rattle.rls_model.specs.declared.event.Event.{Event}
use Rattle.rls_model.specs.declared.event.Event.TheVariants as events
use Rattle.rls_model.specs.declared.event.Outcome.{Outcome}
use Rattle.rls_model.specs.declared.event.StepError.{StepError}
use Rattle.rls_model.specs.declared.event.StepError.TheVariants as faults
use Rattle.rls_model.specs.Receiving.{State}
use Rattle.rls_model.specs.History.{count}
use Rattle.rls_model.specs.declared.counts.Counts.{Counts}
use Rattle.rls_model.specs.Retained.{counts}
use Rattle.rls_model.specs.Worlds.{World, fault_of, happens}
use Rattle.rls_model.proofs.OnePlace.{length-set}
use Rattle.rls_seen.specs.Seen.{Seen}
use Rattle.rls_seen.specs.Over.{released_all}
use Rattle.rls_seen.specs.Edits.{edited}
use Rattle.rls_seen.specs.Kept.{dropped}
use Rattle.rls_seen.specs.Messages.{taken_over}
use Rattle.rls_world.specs.declared.trials.Summary.{Summary}
use Rattle.rls_world.specs.Events.{happened, edited_at, sent_at, delivered_at, dropped_at, IsFault}
use Rattle.rls_world.specs.Seen.{WorldSeen, StandsForWorld}
use Rattle.rls_world.specs.Trial.{Course, after_events, step, steps, summary_of}
use Rattle.rls_world.proofs.Standing.{some_fault}

pub on_ok : {T E : Type 0} {A B : Type 0} (r : Result T E) → OnOk r A → (A → B) → OnOk r B
on_ok (Ok x) a f = f a
on_ok (Err x) a f = tt

pub if_ok : {T E : Type 0} {P Q : T → Type 0} (r : Result T E) → IfOk r P → ((x : T) → P x → Q x) → IfOk r Q
if_ok (Ok x) a f = f x a
if_ok (Err x) a f = tt

-- ---- an event that may be refused

refused : (s new : WorldSeen) (w : World) (e : Event) (f : StepError) → StandsForWorld s w → new ≡ s → fault_of w e ≡ Some f → StandsForWorld new (happens None w e)
refused s new w e f g n h = subst (λ v. StandsForWorld new v) (sym (some_fault w e None f h)) (subst (λ u. StandsForWorld u w) (sym n) g)

pub went : (s new : WorldSeen) (e : Event) (a : Result Outcome StepError) → OnOk a ((w : World) → StandsForWorld s w → StandsForWorld new (happens None w e))
    → IfErr a (λ f. (w : World) → StandsForWorld s w → IsFault f (fault_of w e)) → IfErr a (λ f. f ≢ faults.OutOfMemory → new ≡ s) → a ≢ Err faults.OutOfMemory
    → (w : World) → StandsForWorld s w → StandsForWorld new (happens None w e)
went s new e (Ok o) h r n d w g = h w g
went s new e (Err faults.OutOfMemory) h r n d w g = absurd (d refl)
went s new e (Err (faults.Edit x)) h r n d w g = refused s new w e (faults.Edit x) g (n (λ q. absurd (cc))) (r w g)
went s new e (Err (faults.NoMember k)) h r n d w g = refused s new w e (faults.NoMember k) g (n (λ q. absurd (cc))) (r w g)
went s new e (Err (faults.NoMessage k)) h r n d w g = refused s new w e (faults.NoMessage k) g (n (λ q. absurd (cc))) (r w g)

happened_length : (s : WorldSeen) (e : Event) → length (happened s e).replicas ≡ length s.replicas
unfolding happened
happened_length s (events.Edit i edit) = go (slice_get s.replicas i)
  where
    go : (r : Option Seen) → length (edited_at s i r edit).replicas ≡ length s.replicas
    go None = refl
    go (Some r) = length-set s.replicas i (released_all (edited r edit))
happened_length s (events.Send from to) = go (slice_get s.replicas from)
  where
    go : (r : Option Seen) → length (sent_at s r to).replicas ≡ length s.replicas
    go None = refl
    go (Some r) = refl
happened_length s (events.Deliver k to) = go (slice_get s.replicas to) (slice_get s.sent k)
  where
    go : (r : Option Seen) (m : Option Message) → length (delivered_at s to r m).replicas ≡ length s.replicas
    go None m = refl
    go (Some r) None = refl
    go (Some r) (Some m) = length-set s.replicas to (taken_over r m).state
happened_length s (events.Drop i) = go (slice_get s.replicas i)
  where
    go : (r : Option Seen) → length (dropped_at s i r).replicas ≡ length s.replicas
    go None = refl
    go (Some r) = length-set s.replicas i (dropped r)

pub as_many : (s new : WorldSeen) (e : Event) (a : Result Outcome StepError) → OnOk a (new ≡ happened s e) → IfErr a (λ f. f ≢ faults.OutOfMemory → new ≡ s) → a ≢ Err faults.OutOfMemory → length new.replicas ≡ length s.replicas
as_many s new e (Ok o) h n d = ap (λ (u : WorldSeen). length u.replicas) h ∙ happened_length s e
as_many s new e (Err faults.OutOfMemory) h n d = absurd (d refl)
as_many s new e (Err (faults.Edit x)) h n d = ap (λ (u : WorldSeen). length u.replicas) (n (λ q. absurd (cc)))
as_many s new e (Err (faults.NoMember k)) h n d = ap (λ (u : WorldSeen). length u.replicas) (n (λ q. absurd (cc)))
as_many s new e (Err (faults.NoMessage k)) h n d = ap (λ (u : WorldSeen). length u.replicas) (n (λ q. absurd (cc)))

-- ---- once more

one_more : (n : ℕ) → n + 1 ≡ suc n
one_more n = omega arith

again : (w : World) (e : Event) (n : ℕ) → after_events w (replicate (suc n) e) ≡ happens None (after_events w (replicate n e)) e
again w e zero = refl
again w e (suc n) = again (happens None w e) e n

pub once_more : (w : World) (e : Event) (n : ℕ) → after_events w (replicate (n + 1) e) ≡ happens None (after_events w (replicate n e)) e
once_more w e n = ap (λ m. after_events w (replicate m e)) (one_more n) ∙ again w e n

steps_again : (n : ℕ) (c : Course) → steps (suc n) c ≡ step (steps n c)
steps_again zero c = refl
steps_again (suc n) c = steps_again n (step c)

pub steps_more : (n : ℕ) (c : Course) → steps (n + 1) c ≡ step (steps n c)
steps_more n c = ap (λ m. steps m c) (one_more n) ∙ steps_again n c

pub behind : (w : World) (es : List Event) (e : Event) → after_events w (es ++ e ∷ []) ≡ happens None (after_events w es) e
behind w [] e = refl
behind w (x ∷ es) e = behind (happens None w x) es e

-- ---- the summary

pub three_of : {A : Type 0} (ts : List A) (a b d : A) → length ts ≡ 3 → slice_get ts 0 ≡ Some a → slice_get ts 1 ≡ Some b → slice_get ts 2 ≡ Some d → ts ≡ a ∷ b ∷ d ∷ []
three_of [] a b d l x y z = absurd (cc)
three_of (p ∷ []) a b d l x y z = absurd (cc)
three_of (p ∷ q ∷ []) a b d l x y z = absurd (cc)
three_of (p ∷ q ∷ r ∷ []) a b d l x y z = cc
three_of (p ∷ q ∷ r ∷ s ∷ ts) a b d l x y z = absurd (cc)

pub told : (w : World) (t u q : State) (v : List ℕ) (x y z : Counts) → length w.states ≡ 3 → slice_get w.states 0 ≡ Some t → slice_get w.states 1 ≡ Some u → slice_get w.states 2 ≡ Some q
    → v ≡ count t.history → x ≡ counts t → y ≡ counts u → z ≡ counts q
    → ◌≡◌ {A = Summary} (record { accepted = v; totals = x.total ∷ y.total ∷ z.total ∷ []; runs = x.runs ∷ y.runs ∷ z.runs ∷ []; epochs = x.epochs; former = x.former }) (summary_of w.states)
unfolding counts
told w t u q v x y z l a b d ev ex ey ez =
    ap (λ v. record { accepted = v; totals = x.total ∷ y.total ∷ z.total ∷ []; runs = x.runs ∷ y.runs ∷ z.runs ∷ []; epochs = x.epochs; former = x.former }) ev
    ∙ (ap (λ (x : Counts). record { accepted = count t.history; totals = x.total ∷ y.total ∷ z.total ∷ []; runs = x.runs ∷ y.runs ∷ z.runs ∷ []; epochs = x.epochs; former = x.former }) ex
    ∙ (ap (λ (y : Counts). record { accepted = count t.history; totals = (counts t).total ∷ y.total ∷ z.total ∷ []; runs = (counts t).runs ∷ y.runs ∷ z.runs ∷ []; epochs = (counts t).epochs; former = (counts t).former }) ey
    ∙ (ap (λ (z : Counts). record { accepted = count t.history; totals = (counts t).total ∷ (counts u).total ∷ z.total ∷ []; runs = (counts t).runs ∷ (counts u).runs ∷ z.runs ∷ []; epochs = (counts t).epochs; former = (counts t).former }) ez
    ∙ ap summary_of (sym (three_of w.states t u q l a b d)))))
