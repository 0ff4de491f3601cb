-- How a session ends from how its stretches do, as over devices that tell.
use Rattle.std.proofs.Common.{◌≡◌, ℕ, Bool, true, false, List, [], length, ◌≤◌, Option, Some, Ok, Err, ap, subst, sym}
use Rattle.rls_report.specs.declared.failures.Failure.{Failure}
use Rattle.rls_report.specs.declared.failures.Failure.TheVariants.{Fault}
use Rattle.rls_report.specs.declared.failures.Fault.TheVariants.{Memory}
use Rattle.rls_seen.specs.Seen.{Seen}
use Rattle.rls_session.specs.declared.answering.Halt.TheVariants as halt
use Rattle.rls_session.specs.Answers.{Sitting}
use Rattle.rls_session.specs.AsTold.{Exchanged, Faults, OnFile, StageAs, StretchAs, telling}
use Rattle.rls_session.specs.Intake.{IntakeSeen, known_come}
use Rattle.rls_session.specs.Serving.{StageEnds}
use Rattle.rls_session.proofs.AsTold.{exchanged_failed, exchanged_none, exchanged_on}
use Rattle.rls_session.proofs.Stages.{Reaches, goes_on, memory_ends, near_now, reaches_first}

-- each end from here on is one of the session
abbrev pub ReachesAs : {K : Type 0} → (K → List ℕ → Bool → K → Type 0) → Sitting Seen → K → Faults → Sitting Seen → IntakeSeen → K → Faults → Option (List ℕ) → Option (List ℕ) → Option (List ℕ) → Option (List ℕ) → Type 0
ReachesAs store d k f next a m g x y o n = OnFile (λ file mid_file. Reaches store d x k (telling file x o f) next (known_come a y) a.ended m (telling mid_file y n g))

module _ {K S W : Type 0} (store : K → List ℕ → Bool → K → Type 0) (read : S → Option (List ℕ) → S → Type 0) (write : W → Option (List ℕ) → W → Type 0) (d : Sitting Seen) (k : K) (f : Faults) where
  -- at the beginning
  pub begins_as : (a : IntakeSeen) (i : S) (p : W) → a ≡ record { waiting = []; used = 0; ended = false } → Exchanged read write false true a.ended i i p p (ReachesAs store d k f d a k f)
  begins_as a i p new = subst (λ (b : Bool). Exchanged read write false true b i i p p (ReachesAs store d k f d a k f)) (sym (ap (λ (x : IntakeSeen). x.ended) new))
      (exchanged_none read write false true i p (ReachesAs store d k f d a k f) (λ x o file. (file, reaches_first store d a (Some x) k (telling file (Some x) (Some o) f) new)))

  module _ (next : Sitting Seen) (a : IntakeSeen) (m : K) (g : Faults) (i j : S) (p q : W) (before : Exchanged read write false true a.ended i j p q (ReachesAs store d k f next a m g)) where
    -- a stretch failed
    pub fails_as : (failure : Failure) (after : Sitting Seen) (b : IntakeSeen) (l : K) (h : Faults) (u : S) (v : W) → Exchanged read write a.ended false b.ended j u q v (StretchAs store next after a b (Err failure) m l g h) → (ended : Bool) × Exchanged read write false false ended i u p v (StageAs store d (Err failure) k l f h)
    fails_as failure after b l h u v stretch = (
      b.ended,
      exchanged_on read write false a.ended false b.ended i j u p q v (ReachesAs store d k f next a m g) (StretchAs store next after a b (Err failure) m l g h) (StageAs store d (Err failure) k l f h) before stretch
          (λ x y z o m n r s file. let t = r file in let e = s t.0 in (e.0, t.1 (Err failure) l (telling e.0 (Some z) (Some n) h) e.1)),
    )

    -- or was the last
    pub ends_as : (after : Sitting Seen) (b : IntakeSeen) (l : K) (h : Faults) (u : S) (v : W) → Exchanged read write a.ended true b.ended j u q v (StretchAs store next after a b (Ok halt.End) m l g h) → (ended : Bool) × Exchanged read write false true ended i u p v (StageAs store d (Ok tt) k l f h)
    ends_as after b l h u v stretch = (
      b.ended,
      exchanged_on read write false a.ended true b.ended i j u p q v (ReachesAs store d k f next a m g) (StretchAs store next after a b (Ok halt.End) m l g h) (StageAs store d (Ok tt) k l f h) before stretch
          (λ x y z o m n r s file. let t = r file in let e = s t.0 in (e.0, t.1 (Ok tt) l (telling e.0 (Some z) (Some n) h) e.1)),
    )

    -- or ended with a store
    pub goes_as : (after : Sitting Seen) (b : IntakeSeen) (l : K) (h : Faults) (u : S) (v : W) → Exchanged read write a.ended true b.ended j u q v (StretchAs store next after a b (Ok halt.Store) m l g h) → Exchanged read write false true b.ended i u p v (ReachesAs store d k f after b l h)
    goes_as after b l h u v stretch = exchanged_on read write false a.ended true b.ended i j u p q v (ReachesAs store d k f next a m g) (StretchAs store next after a b (Ok halt.Store) m l g h) (ReachesAs store d k f after b l h) before stretch
        (λ x y z o w n r s file. let t = r file in let e = s t.0 in (
          e.0,
          λ ending last new stage. t.1 ending last new
              (goes_on store next after (known_come a (Some y)) (known_come b (Some z)) a.ended b.ended ending m l last (telling t.0 (Some y) (Some w) g) (telling e.0 (Some z) (Some n) h) new e.1 stage),
        ))

    -- memory ran out
    pub memory_as : (failure : Failure) → failure ≡ Fault Memory → length a.waiting ≤ 4096 → (ended : Bool) × Exchanged read write false false ended i j p q (StageAs store d (Err failure) k m f g)
    memory_as failure is few = (
      a.ended,
      exchanged_failed read write false true a.ended i j p q (ReachesAs store d k f next a m g) (StageAs store d (Err failure) k m f g) before
          (λ x y o n r file. let t = r file in (
            t.0,
            t.1 (Err failure) m (telling t.0 (Some y) (Some n) g) (subst (λ (e : Failure). StageEnds store next (known_come a (Some y)) a.ended (Err e) m m (telling t.0 (Some y) (Some n) g) (telling t.0 (Some y) (Some n) g)) (sym is)
                (memory_ends store next (known_come a (Some y)) a.ended m t.0 (Some y) (Some n) g.keeper g.input g.output (near_now next a (Some y) few))),
          )),
    )
