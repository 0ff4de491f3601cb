-- Releasing one after another, and taking a message step by step, for code that does so in loops.
use Rattle.std.proofs.Common.{◌≡◌, ℕ, zero, suc, ◌+◌, ◌-◌, ◌<◌, true, false, cond, List, [], ◌∷◌, length, refl, sym, ap, ◌∙◌, subst, arith, inl, inr, Option, Some, None, is_some}
use Rattle.std.proofs.lemmas.Bool.Decides.{nat_tests}
use Rattle.rls_ident.specs.Lists.{IsIn}
use Rattle.rls_ident.proofs.Members.{in_all, lt_test}
use Rattle.rls_ops.specs.declared.op.Op.{Op}
use Rattle.rls_ops.proofs.Waiting.{before_other}
use Rattle.rls_model.specs.Answers.{Reason, Released}
use Rattle.rls_model.specs.Receiving.{without, waiting_under, is_numbered, comes_before}
use Rattle.rls_model.specs.Taking.{Limit, has_room}
use Rattle.rls_model.proofs.Machines.{acknowledge_unlimited, none_ready, receive_unlimited, release_unlimited, releases_stay}
use Rattle.rls_model.proofs.WaitingFits.{numbered_test}
use Rattle.rls_seen.specs.Seen.{Seen, vector, members}
use Rattle.rls_seen.specs.Over.{accepted, holding, answer_over, received, refusal_over, first_ready, release_of, release_over, after_refusal, after_release, released, released_times, released_all, acknowledged, IsPartReleased}
use Rattle.rls_seen.specs.Messages.{by_parts, Course, started, moved, with_answer, with_refusal, with_release, receive_step, release_step, release_steps, with_releases, acknowledge_step, take_ops}
use Rattle.rls_seen.specs.Sane.{IsSane, AreHeld}
use Rattle.rls_seen.proofs.Staying.{ready, released_sane}

-- ---- the first ready one

-- what waits under its number is it
under : (n : ℕ) (v : List ℕ) (W : List Op) (w : Op) → AreHeld n v W → IsIn w W → waiting_under W w.author w.seq ≡ Some w
under n v [] w h p = absurd p
under n v (x ∷ W) w h (inl e) =
    ap (λ b. cond b (Some x) (waiting_under W w.author w.seq)) (numbered_test w.author w.seq x (ap (λ (y : Op). y.author) e) (ap (λ (y : Op). y.seq) e)) ∙ ap (λ y. Some y) e
under n v (x ∷ W) w h (inr p) =
    ap (λ b. cond b (Some x) (waiting_under W w.author w.seq)) (before_other x w (in_all (comes_before x) w W h.4 p)) ∙ under n v W w h.5 p

pub ready_under : (s : Seen) (w : Op) → IsSane s → first_ready s ≡ Some w → waiting_under s.waiting w.author w.seq ≡ Some w
ready_under s w h e = under (members s) (vector s) s.waiting w h.waiting (ready s w h e).there

-- ---- what the answer to a release says

pub released_none : (s : Seen) → release_over s ≡ None → released s ≡ s
unfolding release_over released
released_none s e = go (first_ready s) e
  where
    go : (o : Option Op) → release_of s o ≡ None → after_release s o ≡ s
    go None f = refl
    go (Some w) f = absurd (cc)

pub released_accepted : (s : Seen) (w : Op) → first_ready s ≡ Some w → refusal_over s w ≡ None → accepted s w ≡ released s
unfolding released
released_accepted s w e f = sym (ap (after_release s) e ∙ ap (λ x. after_refusal x s w) f)

pub released_refused : (s : Seen) (w : Op) (r : Reason) → first_ready s ≡ Some w → refusal_over s w ≡ Some r → holding s (without w.author w.seq s.waiting) ≡ released s
unfolding released
released_refused s w r e f = sym (ap (after_release s) e ∙ ap (λ x. after_refusal x s w) f)

pub release_is : (s : Seen) (w : Op) → first_ready s ≡ Some w → release_over s ≡ Some (record { author = w.author; seq = w.seq; refusal = refusal_over s w })
unfolding release_over
release_is s w e = ap (release_of s) e

waiting_after : (s : Seen) (w : Op) (r : Option Reason) → (after_refusal r s w).waiting ≡ without w.author w.seq s.waiting
unfolding accepted holding
waiting_after s w None = refl
waiting_after s w (Some r) = refl

-- where one is released, one fewer waits
shorter : (n : ℕ) (v : List ℕ) (W : List Op) (w : Op) → AreHeld n v W → IsIn w W → length W ≡ suc (length (without w.author w.seq W))
shorter n v [] w h p = absurd p
shorter n v (x ∷ W) w h (inl e) =
    let t = numbered_test w.author w.seq x (ap (λ (y : Op). y.author) e) (ap (λ (y : Op). y.seq) e) in
    ap suc (ap length (sym (none_under W (λ y p. others y p))) ∙ sym (ap (λ b. length (cond b (without w.author w.seq W) (x ∷ without w.author w.seq W))) t))
  where
    after_other : (y z : Op) → comes_before y z ≡ true → is_numbered y.author y.seq z ≡ false
    after_other y z f = grind (arith, nat_tests)

    others : (y : Op) → IsIn y W → is_numbered w.author w.seq y ≡ false
    others y p = subst (λ (z : Op). is_numbered z.author z.seq y ≡ false) e (after_other x y (in_all (comes_before x) y W h.4 p))

    none_under : (V : List Op) → ((y : Op) → IsIn y V → is_numbered w.author w.seq y ≡ false) → without w.author w.seq V ≡ V
    none_under [] f = refl
    none_under (y ∷ V) f = ap (λ b. cond b (without w.author w.seq V) (y ∷ without w.author w.seq V)) (f y (inl refl)) ∙ ap (λ V. y ∷ V) (none_under V (λ z p. f z (inr p)))
shorter n v (x ∷ W) w h (inr p) =
    ap suc (shorter n v W w h.5 p)
    ∙ sym (ap (λ b. suc (length (cond b (without w.author w.seq W) (x ∷ without w.author w.seq W)))) (before_other x w (in_all (comes_before x) w W h.4 p)))

-- where something is released, one fewer waits
pub one_fewer : (s : Seen) → IsSane s → is_some (release_over s) ≡ true → length s.waiting ≡ suc (length (released s).waiting)
unfolding release_over released
one_fewer s h e = go (first_ready s) refl e
  where
    go : (o : Option Op) → first_ready s ≡ o → is_some (release_of s o) ≡ true → length s.waiting ≡ suc (length (after_release s o).waiting)
    go None f g = absurd (cc)
    go (Some w) f g =
        shorter (members s) (vector s) s.waiting w h.waiting (ready s w h f).there ∙ ap (λ (V : List Op). suc (length V)) (sym (waiting_after s w (refusal_over s w)))

pub none_is : (o : Option Released) → is_some o ≡ false → o ≡ None
none_is None e = refl
none_is (Some r) e = absurd (cc)

some_is : (o : Option Released) → is_some o ≡ true → (r : Released) × (o ≡ Some r)
some_is None e = absurd (cc)
some_is (Some r) e = (r, refl)

-- ---- releasing until none is ready

pub times_done : (n : ℕ) (s : Seen) → released s ≡ s → released_times n s ≡ s
times_done zero s e = refl
times_done (suc n) s e = ap (released_times n) e ∙ times_done n s e

pub all_done : (s : Seen) → is_some (release_over s) ≡ false → released_all s ≡ s
unfolding released_all
all_done s e = times_done (length s.waiting) s (released_none s (none_is (release_over s) e))

-- releasing one and then all is releasing all
pub all_more : (s : Seen) → IsSane s → is_some (release_over s) ≡ true → released_all (released s) ≡ released_all s
unfolding released_all
all_more s h e = sym (ap (λ n. released_times n s) (one_fewer s h e))

pub fewer_wait : (s : Seen) → IsSane s → is_some (release_over s) ≡ true → length (released s).waiting < length s.waiting
fewer_wait s h e = let k = one_fewer s h e in omega arith

times_last : (n : ℕ) (s : Seen) → released_times n (released s) ≡ released (released_times n s)
times_last zero s = refl
times_last (suc n) s = times_last n (released s)

pub part_more : (s r : Seen) → IsPartReleased s r → IsPartReleased s (released r)
part_more s r h = (suc h.0, ap released h.1 ∙ sym (times_last h.0 s))

-- ---- the steps of a message

-- the same with this limit
abbrev pub within : Limit → Course → Course
within limit c = record c { limit = limit }

-- k steps more than this limit allows
abbrev pub more_steps : ℕ → Limit → Limit
more_steps k None = None
more_steps k (Some n) = Some (k + n)

less : (n : ℕ) → 1 + n - 1 ≡ n
less n = omega arith

room : (limit : Limit) → has_room (more_steps 1 limit) ≡ true
room None = refl
room (Some n) = lt_test 0 (1 + n) (omega arith)

-- one more step with this limit is a step, and then the limit
moved_within : (limit : Limit) (c : Course) (s : Seen) → c.limit ≡ None → moved (within (more_steps 1 limit) c) s ≡ within limit (moved c s)
moved_within None c s e = refl
moved_within (Some n) c s e = ap (λ m. record c { state = s; limit = Some m }) (less n)

receive_within : (limit : Limit) (c : Course) (o : Op) → c.limit ≡ None → receive_step (within (more_steps 1 limit) c) o ≡ within limit (receive_step c o)
receive_within limit c o e =
    let s = received c.state o in
    let a = answer_over false c.state o in
    ap (λ b. cond b (with_answer (moved (within (more_steps 1 limit) c) s) o a) (within (more_steps 1 limit) c)) (room limit)
    ∙ (ap (λ d. with_answer d o a) (moved_within limit c s e)
    ∙ ap (within limit) (sym (receive_unlimited by_parts c o e)))

release_within : (limit : Limit) (c : Course) → c.limit ≡ None → is_some (release_over c.state) ≡ true → release_step (within (more_steps 1 limit) c) ≡ within limit (release_step c)
release_within limit c e i =
    let p = some_is (release_over c.state) i in
    let r = p.0 in
    let d = within (more_steps 1 limit) c in
    ap (λ b. cond b (with_release d (release_over c.state)) d) (room limit)
    ∙ (ap (with_release d) p.1
    ∙ (ap (λ d. with_refusal d r.author r.seq r.refusal) (moved_within limit c (released c.state) e)
    ∙ ap (within limit) (sym (release_unlimited by_parts c e ∙ ap (with_release c) p.1))))

-- what is seen after a step without a limit
pub received_seen : (c : Course) (o : Op) → c.limit ≡ None → (receive_step c o).state ≡ received c.state o
received_seen c o e = ap (λ (d : Course). d.state) (receive_unlimited by_parts c o e)

pub released_seen : (c : Course) → c.limit ≡ None → (release_step c).state ≡ released c.state
released_seen c e = ap (λ (d : Course). d.state) (release_unlimited by_parts c e) ∙ go (release_over c.state) refl
  where
    go : (r : Option Released) → release_over c.state ≡ r → (with_release c r).state ≡ released c.state
    go None f = sym (released_none c.state f)
    go (Some r) f = refl

pub acknowledged_seen : (c : Course) (a : ℕ) (v : List ℕ) → c.limit ≡ None → (acknowledge_step c a v).state ≡ acknowledged c.state a v
acknowledged_seen c a v e = ap (λ (d : Course). d.state) (acknowledge_unlimited by_parts c a v e)

-- after k steps the course is c, and these operations are left
abbrev pub Reaches : Seen → List Op → ℕ → Course → List Op → Type 0
Reaches s os k c rest = (limit : Limit) → take_ops (started (more_steps k limit) s) os ≡ take_ops (within limit c) rest

-- after k steps the course is c, some may be ready, and then these operations are left
abbrev pub ReachesReady : Seen → List Op → ℕ → Course → List Op → Type 0
ReachesReady s os k c rest = (limit : Limit) → take_ops (started (more_steps k limit) s) os ≡ take_ops (with_releases (within limit c)) rest

more_none : (limit : Limit) → more_steps 0 limit ≡ limit
more_none None = refl
more_none (Some n) = ap (λ m. Some m) (zero_more n)
  where
    zero_more : (m : ℕ) → 0 + m ≡ m
    zero_more m = omega arith

more_twice : (k : ℕ) (limit : Limit) → more_steps (suc k) limit ≡ more_steps k (more_steps 1 limit)
more_twice k None = refl
more_twice k (Some n) = ap (λ m. Some m) (sums k n)
  where
    sums : (a b : ℕ) → suc a + b ≡ a + (1 + b)
    sums a b = omega arith

-- at first
pub reaches_start : (s : Seen) (os : List Op) → Reaches s os 0 (started None s) os
reaches_start s os limit = ap (λ l. take_ops (started l s) os) (more_none limit)

-- the next operation is received
pub reaches_received : (s : Seen) (os : List Op) (k : ℕ) (c : Course) (o : Op) (rest : List Op) → c.limit ≡ None → Reaches s os k c (o ∷ rest) → ReachesReady s os (suc k) (receive_step c o) rest
reaches_received s os k c o rest e h limit =
    ap (λ l. take_ops (started l s) os) (more_twice k limit)
    ∙ (h (more_steps 1 limit)
    ∙ ap (λ d. take_ops (with_releases d) rest) (receive_within limit c o e))

-- one is released
pub reaches_released : (s : Seen) (os : List Op) (k : ℕ) (c : Course) (rest : List Op) → c.limit ≡ None → IsSane c.state → is_some (release_over c.state) ≡ true → ReachesReady s os k c rest → ReachesReady s os (suc k) (release_step c) rest
reaches_released s os k c rest e sane i h limit =
    let d = within (more_steps 1 limit) c in
    ap (λ l. take_ops (started l s) os) (more_twice k limit)
    ∙ (h (more_steps 1 limit)
    ∙ (ap (λ n. take_ops (release_steps n d) rest) (one_fewer c.state sane i)
    ∙ (ap (λ x. take_ops (release_steps (length (released c.state).waiting) x) rest) (release_within limit c e i)
    ∙ ap (λ x. take_ops (release_steps (length x.waiting) (within limit (release_step c))) rest) (sym (released_seen c e)))))

-- none is ready any more
pub reaches_rest : (s : Seen) (os : List Op) (k : ℕ) (c : Course) (rest : List Op) → is_some (release_over c.state) ≡ false → ReachesReady s os k c rest → Reaches s os k c rest
reaches_rest s os k c rest i h limit =
    let d = within limit c in
    h limit ∙ ap (λ x. take_ops x rest) (releases_stay by_parts (length c.state.waiting) d (none_ready by_parts d (none_is (release_over c.state) i)))

pub no_more : (k : ℕ) → more_steps k (Some 0) ≡ Some k
no_more k = ap (λ m. Some m) (zero_more k)
  where
    zero_more : (m : ℕ) → m + 0 ≡ m
    zero_more m = omega arith

-- ---- at each step

pub released_step_sane : (c : Course) → c.limit ≡ None → IsSane c.state → IsSane (release_step c).state
released_step_sane c e h = subst IsSane (sym (released_seen c e)) (released_sane c.state h)
