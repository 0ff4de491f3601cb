-- No step of a replica removes the name of a kept epoch.
use Rattle.std.proofs.Common.{◌≡◌, ℕ, zero, suc, true, false, List, length, sym, subst, Option, Some, None}
use Rattle.rls_ops.specs.declared.op.Op.{Op}
use Rattle.rls_model.specs.Answers.{Reason, Answer, Applies, Repeats, Waits, Refuses}
use Rattle.rls_model.proofs.Machines.{states_after_ops}
use Rattle.rls_seen.specs.Seen.{Seen}
use Rattle.rls_seen.specs.Over.{accepted, holding, after_answer, answer_over, received, replayed, refusal_over, first_ready, after_refusal, after_release, released, released_times, released_all, acknowledged, IsPartReleased}
use Rattle.rls_seen.specs.Messages.{by_parts, Course, started, take_ops}
use Rattle.rls_seen.proofs.Applied.{kept_after}
use Rattle.rls_replica.specs.Names.{KeepsNames}
use Rattle.rls_replica.specs.Steps.{IsPartOfOps}

pub names_same : (s : Seen) → KeepsNames s s
names_same s = λ e k. k

pub names_on : (r s t : Seen) → KeepsNames r s → KeepsNames s t → KeepsNames r t
names_on r s t h k = λ e q. k e (h e q)

-- the replica is as it was
pub names_unchanged : (s t : Seen) → t ≡ s → KeepsNames s t
names_unchanged s t q = subst (λ (u : Seen). KeepsNames s u) (sym q) (names_same s)

-- ---- one step

pub accepted_names : (s : Seen) (o : Op) → KeepsNames s (accepted s o)
unfolding accepted
accepted_names s o = λ e k. kept_after s o o.body e k

answered_names : (a : Answer) (s : Seen) (o : Op) → KeepsNames s (after_answer a s o)
unfolding holding
answered_names Applies s o = accepted_names s o
answered_names Repeats s o = λ e k. k
answered_names Waits s o = λ e k. k
answered_names (Refuses r) s o = λ e k. k

pub received_names : (s : Seen) (o : Op) → KeepsNames s (received s o)
unfolding received
received_names s o = answered_names (answer_over false s o) s o

pub replayed_names : (s : Seen) (o : Op) → KeepsNames s (replayed s o)
unfolding replayed
replayed_names s o = answered_names (answer_over true s o) s o

refused_names : (r : Option Reason) (s : Seen) (w : Op) → KeepsNames s (after_refusal r s w)
unfolding holding
refused_names None s w = accepted_names s w
refused_names (Some r) s w = λ e k. k

ready_names : (w : Option Op) (s : Seen) → KeepsNames s (after_release s w)
ready_names None s = λ e k. k
ready_names (Some w) s = refused_names (refusal_over s w) s w

pub released_names : (s : Seen) → KeepsNames s (released s)
unfolding released
released_names s = ready_names (first_ready s) s

pub acknowledged_names : (s : Seen) (a : ℕ) (v : List ℕ) → KeepsNames s (acknowledged s a v)
unfolding acknowledged
acknowledged_names s a v = λ e k. k

-- ---- many steps

times_names : (n : ℕ) (s : Seen) → KeepsNames s (released_times n s)
times_names zero s = λ e k. k
times_names (suc n) s = names_on s (released s) (released_times n (released s)) (released_names s) (times_names n (released s))

pub all_names : (s : Seen) → KeepsNames s (released_all s)
unfolding released_all
all_names s = times_names (length s.waiting) s

pub part_released_names : (s r : Seen) → IsPartReleased s r → KeepsNames s r
part_released_names s r p = subst (λ (u : Seen). KeepsNames s u) (sym p.1) (times_names p.0 s)

pub ops_names : (os : List Op) (c : Course) → KeepsNames c.state (take_ops c os).state
ops_names os c =
    states_after_ops by_parts (λ o. Unit {0}) (KeepsNames c.state)
    (record { receives = λ s o u h. names_on c.state s (received s o) h (received_names s o); releases = λ s h. names_on c.state s (released s) h (released_names s) })
    os c (λ o u. tt) (names_same c.state)

pub part_of_ops_names : (s u : Seen) (os : List Op) → IsPartOfOps s os u → KeepsNames s u
part_of_ops_names s u os p = subst (λ (v : Seen). KeepsNames s v) (sym p.2) (ops_names os (started (Some p.0) s))
