-- Courses of releases and of operations that are taken, as loops go through them.
use Rattle.std.proofs.Common.{◌≡◌, ◌∙◌, ℕ, zero, suc, ◌+◌, ◌-◌, ◌^◌, ◌<◌, ◌≤◌, Bool, true, false, cond, List, [], ◌∷◌, length, Option, Some, None, is_some, refl, sym, ap, subst, arith}
use Rattle.std.specs.Prelude.{sum}
use Rattle.rls_ident.proofs.Vectors.{sum-raise, sum-raise_le}
use Rattle.rls_ident.proofs.Members.{bool_cases}
use Rattle.rls_ops.specs.declared.op.Op.{Op}
use Rattle.rls_ops.specs.declared.message.Message.{Message}
use Rattle.rls_model.specs.declared.receipt.Taken.{Taken}
use Rattle.rls_model.specs.Answers.{Reason, Answer, Applies, Repeats, Waits, Refuses, Released}
use Rattle.rls_model.specs.Receiving.{State}
use Rattle.rls_model.specs.Taking.{Limit, has_room}
use Rattle.rls_model.specs.Taking as model
use Rattle.rls_model.proofs.Machines.{no_ops, no_releases, none_ready, ops_limit, received_limit, released_limit, releases_stay, states_after_ops}
use Rattle.rls_model.proofs.OneTree.{author_below}
use Rattle.rls_seen.specs.Seen.{Seen, vector, members}
use Rattle.rls_seen.specs.Over.{accepted, holding, after_answer, answer_over, received, refusal_over, first_ready, release_of, release_over, after_refusal, after_release, released, released_times, acknowledged, IsPartReleased}
use Rattle.rls_model.specs.WellFormed.{AreOps}
use Rattle.rls_model.specs.Machine.{with_receipt, with_reason}
use Rattle.rls_seen.specs.Messages.{by_parts, Course, started, moved, with_release, receive_step, release_step, release_steps, with_releases, take_ops, taken_within, taken_over, taken_of}
use Rattle.rls_seen.specs.Sane.{IsSane}
use Rattle.rls_seen.proofs.Accepting.{acks_mine}
use Rattle.rls_seen.proofs.Counting.{members_kept}
use Rattle.rls_seen.proofs.Repeating.{within, more_steps, acknowledged_seen, one_fewer, received_seen, released_none, released_seen, released_step_sane, Reaches, ReachesReady, reaches_received, reaches_released, reaches_rest, no_more, none_is}
use Rattle.rls_seen.proofs.Sizes.{sum_small}
use Rattle.rls_seen.proofs.Staying.{ready}
use Rattle.rls_seen.proofs.Taking.{started_goes, ops_go}
use Rattle.rls_seen.specs.Stands.{StandsFor}
use Rattle.rls_replica.specs.Steps.{course, CountsReleased, AreFew, IsPartOfOps, steps_more, IsOnWay}
use Rattle.rls_replica.proofs.Cut.{ops_part}

-- ---- what is counted as released

pub released_room : (s : Seen) (t : Taken) → IsSane s → CountsReleased s t → t.released < 2 ^ 64 - 1
released_room s t h c = let k = sum_small (vector s) h.few h.small in omega arith

sum_accepted : (s : Seen) (w : Op) → w.author < members s → sum (vector (accepted s w)) ≡ suc (sum (vector s))
unfolding accepted
sum_accepted s w l = ap sum (acks_mine s.acks w.author w.body) ∙ sum-raise (vector s) w.author l

pub released_counts : (s : Seen) (t : Taken) (r : Released) → IsSane s → release_over s ≡ Some r → CountsReleased s t → CountsReleased (released s) (with_reason t r.author r.seq r.refusal)
unfolding release_over released holding
released_counts s t r h e k = go (first_ready s) refl e
  where
    by_reason : (w : Op) (x : Option Reason) → first_ready s ≡ Some w → CountsReleased (after_refusal x s w) (with_reason t r.author r.seq x)
    by_reason w None f = let a = sum_accepted s w (author_below (members s) w (ready s w h f).held.shape) in omega arith
    by_reason w (Some q) f = k

    reason_is : (w : Op) → release_of s (Some w) ≡ Some r → r.refusal ≡ refusal_over s w
    reason_is w f = cc

    go : (o : Option Op) → first_ready s ≡ o → release_of s o ≡ Some r → CountsReleased (after_release s o) (with_reason t r.author r.seq r.refusal)
    go None f g = absurd (cc)
    go (Some w) f g = subst (λ x. CountsReleased (after_refusal (refusal_over s w) s w) (with_reason t r.author r.seq x)) (sym (reason_is w g)) (by_reason w (refusal_over s w) f)

-- no fewer are accepted after a release
pub released_sums : (s : Seen) → IsSane s → sum (vector s) ≤ sum (vector (released s))
unfolding released holding
released_sums s h = go (first_ready s) refl
  where
    by_reason : (w : Op) (x : Option Reason) → first_ready s ≡ Some w → sum (vector s) ≤ sum (vector (after_refusal x s w))
    by_reason w None f = let a = sum_accepted s w (author_below (members s) w (ready s w h f).held.shape) in omega arith
    by_reason w (Some q) f = omega arith

    go : (o : Option Op) → first_ready s ≡ o → sum (vector s) ≤ sum (vector (after_release s o))
    go None f = omega arith
    go (Some w) f = by_reason w (refusal_over s w) f

pub fewer_counts : (s : Seen) (t : Taken) → sum (vector s) ≤ sum (vector (released s)) → CountsReleased s t → CountsReleased (released s) t
fewer_counts s t l k = omega arith

pub unreleased_counts : (s : Seen) (t : Taken) → None ≡ release_over s → CountsReleased s t → CountsReleased (released s) t
unreleased_counts s t e k = subst (λ u. CountsReleased u t) (sym (released_none s (sym e))) k

pub released_or_more : (s : Seen) (o : Op) → sum (vector s) ≤ sum (vector (received s o))
unfolding received accepted holding
released_or_more s o = go (answer_over false s o)
  where
    go : (a : Answer) → sum (vector s) ≤ sum (vector (after_answer a s o))
    go Applies = let e = ap sum (acks_mine s.acks o.author o.body) in let k = sum-raise_le (vector s) o.author in omega arith
    go Waits = omega arith
    go Repeats = omega arith
    go (Refuses r) = omega arith

receipt_released : (t : Taken) (a q : ℕ) (x : Answer) → (with_receipt t a q x).released ≡ t.released
receipt_released t a q Applies = refl
receipt_released t a q Repeats = refl
receipt_released t a q Waits = refl
receipt_released t a q (Refuses r) = refl

pub received_counts : (s : Seen) (t : Taken) (o : Op) (x : Answer) → CountsReleased s t → CountsReleased (received s o) (with_receipt t o.author o.seq x)
received_counts s t o x k = let a = released_or_more s o in let e = receipt_released t o.author o.seq x in omega arith

-- ---- one step

pub unreleased_course : (s : Seen) (t : Taken) → None ≡ release_over s → course (released s) t ≡ release_step (course s t)
unreleased_course s t e = ap (λ u. course u t) (released_none s (sym e)) ∙ ap (with_release (course s t)) e

pub received_course : (s : Seen) (t : Taken) (o : Op) → course (received s o) (with_receipt t o.author o.seq (answer_over false s o)) ≡ receive_step (course s t) o
received_course s t o = refl

-- ---- releases until none is ready

pub none_released : (s : Seen) → is_some (release_over s) ≡ false → released s ≡ s
none_released s f = released_none s (none_is (release_over s) f)

pub step_done : (c : Course) → is_some (release_over c.state) ≡ false → release_step c ≡ c
step_done c e = none_ready by_parts c (none_is (release_over c.state) e)

pub releases_done : (c : Course) → is_some (release_over c.state) ≡ false → with_releases c ≡ c
releases_done c e = releases_stay by_parts (length c.state.waiting) c (step_done c e)

pub releases_more : (c : Course) → c.limit ≡ None → IsSane c.state → is_some (release_over c.state) ≡ true → with_releases (release_step c) ≡ with_releases c
releases_more c e h i =
    ap (λ (u : Seen). release_steps (length u.waiting) (release_step c)) (released_seen c e)
    ∙ ap (λ n. release_steps n c) (sym (one_fewer c.state h i))

-- ---- the way through operations

more_is : (k : ℕ) (limit : Limit) → steps_more k limit ≡ more_steps k limit
more_is k None = refl
more_is k (Some n) = refl

pub to_reach : (s : Seen) (os : List Op) (c : Course) (rest : List Op) → (w : IsOnWay s os c rest) → Reaches s os w.0 c rest
to_reach s os c rest w limit = ap (λ l. take_ops (started l s) os) (sym (more_is w.0 limit)) ∙ w.1 limit

pub from_reach : (s : Seen) (os : List Op) (k : ℕ) (c : Course) (rest : List Op) → Reaches s os k c rest → IsOnWay s os c rest
from_reach s os k c rest h = (k, λ limit. ap (λ l. take_ops (started l s) os) (more_is k limit) ∙ h limit)

ready_done : (s : Seen) (os : List Op) (k : ℕ) (c : Course) (rest : List Op) → is_some (release_over c.state) ≡ false → ReachesReady s os k c rest → IsOnWay s os (with_releases c) rest
ready_done s os k c rest f w = subst (λ d. IsOnWay s os d rest) (sym (releases_done c f)) (from_reach s os k c rest (reaches_rest s os k c rest f w))

-- all that is ready is released
pub on_way_ready : (n : ℕ) (s : Seen) (os : List Op) (k : ℕ) (c : Course) (rest : List Op) → length c.state.waiting ≤ n → c.limit ≡ None → IsSane c.state → ReachesReady s os k c rest
    → IsOnWay s os (with_releases c) rest
on_way_ready zero s os k c rest l e h w = bool_cases (is_some (release_over c.state)) (λ f. let x = one_fewer c.state h f in absurd (omega arith)) (λ f. ready_done s os k c rest f w)
on_way_ready (suc m) s os k c rest l e h w = bool_cases (is_some (release_over c.state))
    (λ f.
    let x = one_fewer c.state h f in
    let y : length (release_step c).state.waiting ≡ length (released c.state).waiting = ap (λ (u : Seen). length u.waiting) (released_seen c e) in
    subst (λ d. IsOnWay s os d rest) (releases_more c e h f)
    (on_way_ready m s os (suc k) (release_step c) rest (omega arith) (released_limit by_parts c e) (released_step_sane c e h) (reaches_released s os k c rest e h f w)))
    (λ f. ready_done s os k c rest f w)

part_now : (s : Seen) (os : List Op) (k : ℕ) (c : Course) (rest : List Op) → ReachesReady s os k c rest → IsPartOfOps s os c.state
part_now s os k c rest h =
    let e : take_ops (started (Some k) s) os ≡ within (Some 0) c =
    ap (λ l. take_ops (started l s) os) (sym (no_more k))
    ∙ (h (Some 0) ∙ (ap (λ d. take_ops d rest) (no_releases by_parts (length c.state.waiting) (within (Some 0) c) refl) ∙ no_ops by_parts rest (within (Some 0) c) refl)) in
    (k, ap (λ d. d.limit) e, sym (ap (λ d. d.state) e))

-- or only some of it
pub part_ready : (n : ℕ) (s : Seen) (os : List Op) (k : ℕ) (c : Course) (rest : List Op) → c.limit ≡ None → IsSane c.state → ReachesReady s os k c rest → IsPartOfOps s os (released_times n c.state)
part_ready zero s os k c rest e h w = part_now s os k c rest w
part_ready (suc n) s os k c rest e h w = bool_cases (is_some (release_over c.state))
    (λ f.
    subst (λ u. IsPartOfOps s os (released_times n u)) (released_seen c e)
    (part_ready n s os (suc k) (release_step c) rest (released_limit by_parts c e) (released_step_sane c e h) (reaches_released s os k c rest e h f w)))
    (λ f. subst (λ u. IsPartOfOps s os (released_times n u)) (sym (released_none c.state (none_is (release_over c.state) f))) (part_ready n s os k c rest e h w))

-- ---- releases in two parts

times_sum : (m n : ℕ) (s : Seen) → released_times n (released_times m s) ≡ released_times (m + n) s
times_sum zero n s = ap (λ k. released_times k s) (nothing_more n)
  where
    nothing_more : (k : ℕ) → k ≡ 0 + k
    nothing_more k = omega arith
times_sum (suc m) n s = times_sum m n (released s) ∙ ap (λ k. released_times k s) (one_more m n)
  where
    one_more : (j k : ℕ) → suc (j + k) ≡ suc j + k
    one_more j k = omega arith

pub parts_sum : (s r u : Seen) → IsPartReleased s r → IsPartReleased r u → IsPartReleased s u
parts_sum s r u h w = (h.0 + w.0, w.1 ∙ (ap (released_times w.0) h.1 ∙ times_sum h.0 w.0 s))

-- ---- one operation is taken

-- it isn't received
pub taken_none : (s r : Seen) (t : Taken) (os rest : List Op) → IsOnWay s os (course r t) rest → IsPartOfOps s os r
taken_none s r t os rest w = ops_part s os w.0 (course r t) rest (to_reach s os (course r t) rest w)

taken_ready : (s r : Seen) (t : Taken) (o : Op) (os rest : List Op) → (w : IsOnWay s os (course r t) (o ∷ rest)) → ReachesReady s os (suc w.0) (receive_step (course r t) o) rest
taken_ready s r t o os rest w = reaches_received s os w.0 (course r t) o rest refl (to_reach s os (course r t) (o ∷ rest) w)

step_seen : (r : Seen) (t : Taken) (o : Op) → (receive_step (course r t) o).state ≡ received r o
step_seen r t o = received_seen (course r t) o refl

-- it is received, and then some of what is ready is released
pub taken_part : (s r u : Seen) (t : Taken) (o : Op) (os rest : List Op) → IsSane (received r o) → IsPartReleased (received r o) u → IsOnWay s os (course r t) (o ∷ rest) → IsPartOfOps s os u
taken_part s r u t o os rest h p w =
    let e = step_seen r t o in
    subst (IsPartOfOps s os) (ap (released_times p.0) e ∙ sym p.1)
    (part_ready p.0 s os (suc w.0) (receive_step (course r t) o) rest (received_limit by_parts (course r t) o refl) (subst IsSane (sym e) h) (taken_ready s r t o os rest w))

-- none of it
pub taken_received : (s r : Seen) (t : Taken) (o : Op) (os rest : List Op) → IsSane (received r o) → IsOnWay s os (course r t) (o ∷ rest) → IsPartOfOps s os (received r o)
taken_received s r t o os rest h w = taken_part s r (received r o) t o os rest h (0, refl) w

-- or all of it
pub taken_all : (s r u : Seen) (t v : Taken) (o : Op) (os rest : List Op) → IsSane (received r o) → course u v ≡ with_releases (course (received r o) (with_receipt t o.author o.seq (answer_over false r o)))
    → IsOnWay s os (course r t) (o ∷ rest) → IsOnWay s os (course u v) rest
taken_all s r u t v o os rest h e w =
    let d = receive_step (course r t) o in
    subst (λ c. IsOnWay s os c rest) (sym (e ∙ ap with_releases (received_course r t o)))
    (on_way_ready (length d.state.waiting) s os (suc w.0) d rest (omega arith) (received_limit by_parts (course r t) o refl) (subst IsSane (sym (step_seen r t o)) h) (taken_ready s r t o os rest w))

-- what is counted then
pub unreceived_counts : (s : Seen) (t : Taken) (o : Op) → CountsReleased s t → CountsReleased (received s o) t
unreceived_counts s t o k = let a = released_or_more s o in omega arith

pub receipt_few : (n : ℕ) (t : Taken) (a q : ℕ) (x : Answer) → AreFew n t → AreFew (n + 1) (with_receipt t a q x)
receipt_few n t a q Applies h = let i = h.applied in let j = h.repeated in let k = h.held in record { applied = omega arith; repeated = omega arith; held = omega arith }
receipt_few n t a q Repeats h = let i = h.applied in let j = h.repeated in let k = h.held in record { applied = omega arith; repeated = omega arith; held = omega arith }
receipt_few n t a q Waits h = let i = h.applied in let j = h.repeated in let k = h.held in record { applied = omega arith; repeated = omega arith; held = omega arith }
receipt_few n t a q (Refuses r) h = let i = h.applied in let j = h.repeated in let k = h.held in record { applied = omega arith; repeated = omega arith; held = omega arith }

pub received_few : (n : ℕ) (t v : Taken) (o : Op) (x : Answer) → v ≡ with_receipt t o.author o.seq x → AreFew n t → AreFew (n + 1) v
received_few n t v o x e h = subst (AreFew (n + 1)) (sym e) (receipt_few n t o.author o.seq x h)

-- ---- all operations

pub none_left : (s r : Seen) (t : Taken) (os rest : List Op) → rest ≡ [] → IsOnWay s os (course r t) rest → take_ops (started None s) os ≡ course r t
none_left s r t os rest e w = (subst (λ (x : List Op). IsOnWay s os (course r t) x) e w).1 None

-- seen by a history
pub ops_all_stands : (s u : Seen) (v : Taken) (t : State) (os : List Op) → AreOps os → take_ops (started None s) os ≡ course u v → StandsFor s t
    → (v ≡ model.taken (model.take_ops (model.started None t) os)) × StandsFor u (model.take_ops (model.started None t) os).state
ops_all_stands s u v t os w e h =
    let g = ops_go os (members s) (started None s) (model.started None t) w (started_goes None s t h) in (
      ap taken_of (sym e) ∙ g.counts,
      subst (λ (c : Course). StandsFor c.state (model.take_ops (model.started None t) os).state) e g.states.1,
    )

-- the message is taken
pub message_counts : (s : Seen) (m : Message) → taken_of (taken_over s m) ≡ taken_of (take_ops (started None s) m.ops)
unfolding taken_within
message_counts s m = go (has_room (take_ops (started None s) m.ops).limit)
  where
    d : Course
    d = take_ops (started None s) m.ops

    go : (b : Bool) → taken_of (cond b (moved d (acknowledged d.state m.from m.vector)) d) ≡ taken_of d
    go true = refl
    go false = refl

pub message_seen : (s : Seen) (m : Message) → (taken_over s m).state ≡ acknowledged (take_ops (started None s) m.ops).state m.from m.vector
unfolding taken_within
message_seen s m = acknowledged_seen (take_ops (started None s) m.ops) m.from m.vector (ops_limit by_parts m.ops (started None s) refl)

-- the count of members stays
pub members_ops : (os : List Op) (c : Course) → members (take_ops c os).state ≡ members c.state
members_ops os c = states_after_ops by_parts (λ o. Unit {0}) (λ s. members s ≡ members c.state) (members_kept (λ o. Unit {0}) (members c.state)) os c (λ o u. tt) refl
