-- What a watcher tells while operations are received, released and taken, as loops go through them.
use Rattle.std.proofs.Common.{◌≡◌, ◌∙◌, ℕ, zero, suc, Bool, false, true, not, List, [], ◌∷◌, ◌++◌, length, append_assoc, Option, Some, None, is_some, refl, sym, ap, subst}
use Rattle.std.proofs.lemmas.List.{append-nil}
use Rattle.rls_ops.specs.declared.op.Op.{Op}
use Rattle.rls_ops.specs.declared.message.Message.{Message}
use Rattle.rls_model.specs.declared.receipt.Taken.{Taken}
use Rattle.rls_model.specs.declared.receipt.Refusal.{Refusal}
use Rattle.rls_model.specs.Answers.{reason_in, Reason, Answer, Applies, Repeats, Waits, Refuses, Released}
use Rattle.rls_model.specs.Machine.{Stage, Limit, no_counts, started, with_receipt, with_reason, receive_on, with_release_on, release_on, releases_on, release_all_on, take_on}
use Rattle.rls_model.specs.MachineLaws.{StepsAgree, IsAlike}
use Rattle.rls_model.specs.WellFormed.{IsOp}
use Rattle.rls_model.proofs.Machines.{acknowledge_alike, acknowledge_unlimited, none_ready, ops_limit, release_alike, releases_stay, taking_alike}
use Rattle.rls_seen.specs.Messages.{by_parts, taken_within}
use Rattle.rls_seen.specs.Over.{answer_over, first_ready, received, refusal_over, release_of, release_over, released, acknowledged}
use Rattle.rls_seen.specs.Sane.{IsSane}
use Rattle.rls_seen.specs.Seen.{Seen}
use Rattle.rls_seen.proofs.Repeating.{none_is, one_fewer, released_none, released_seen}
use Rattle.rls_replica.specs.Steps.{course}
use Rattle.rls_replica.specs.Watching.{if_applied, if_fits, received_told, ready_told, released_told, times_told, all_released_told, Told, told_at, told_course, watched, watched_within, taken_told, Step, Receives, Releases, Notes, after_step, step_told, IsStep, Leads, IsTold}

-- ---- what one step tells

-- a different answer than that it applies
pub not_applied : {T : Type 0} → (a : Answer) (ts : List T) → (a ≡ Applies → ⊥) → if_applied a ts ≡ []
not_applied Applies ts h = absurd (h refl)
not_applied Repeats ts h = refl
not_applied Waits ts h = refl
not_applied (Refuses r) ts h = refl

none_of : {T : Type 0} → (tells : Seen → Op → List T) (s : Seen) (o : Option Op) → release_of s o ≡ None → ready_told tells s o ≡ []
none_of tells s None e = refl
none_of tells s (Some w) e = absurd (cc)

-- nothing is ready
pub none_told : {T : Type 0} → (tells : Seen → Op → List T) (s : Seen) → release_over s ≡ None → released_told tells s ≡ []
unfolding release_over
none_told tells s e = none_of tells s (first_ready s) e

ready_none : (s : Seen) (o : Option Op) → release_of s o ≡ None → o ≡ None
ready_none s None e = refl
ready_none s (Some w) e = absurd (cc)

pub first_none : (s : Seen) → release_over s ≡ None → first_ready s ≡ None
unfolding release_over
first_none s e = ready_none s (first_ready s) e

-- the first ready one
some_of : (s : Seen) (o : Option Op) (r : Released) → release_of s o ≡ Some r → (w : Op) × (o ≡ Some w) × (r.refusal ≡ refusal_over s w)
some_of s None r e = absurd (cc)
some_of s (Some w) r e = (w, refl, cc)

pub some_ready : (s : Seen) (r : Released) → release_over s ≡ Some r → (w : Op) × (first_ready s ≡ Some w) × (r.refusal ≡ refusal_over s w)
unfolding release_over
some_ready s r e = some_of s (first_ready s) r e

pub refused_told : {T : Type 0} → (tells : Seen → Op → List T) (s : Seen) (w : Op) (x : Reason) → first_ready s ≡ Some w → refusal_over s w ≡ Some x → released_told tells s ≡ []
refused_told tells s w x e f = ap (ready_told tells s) e ∙ ap (λ r. if_fits r (tells s w)) f

pub fitting_told : {T : Type 0} → (tells : Seen → Op → List T) (s : Seen) (w : Op) → first_ready s ≡ Some w → refusal_over s w ≡ None → released_told tells s ≡ tells s w
fitting_told tells s w e f = ap (ready_told tells s) e ∙ ap (λ r. if_fits r (tells s w)) f

-- the operation applies, and was shown
pub applied_told : {T : Type 0} → (tells : Seen → Op → List T) (own : Bool) (s u : Seen) (o : Op) (ts us vs : List T) → answer_over own s o ≡ Applies → u ≡ s → us ≡ ts ++ tells u o → vs ≡ us
    → vs ≡ ts ++ if_applied (answer_over own s o) (tells s o)
applied_told tells own s u o ts us vs a e f h = h ∙ (f ∙ ap (λ x. ts ++ x) (ap (λ x. tells x o) e ∙ sym (ap (λ x. if_applied x (tells s o)) a)))

-- it doesn't, and wasn't
pub unapplied_told : {T : Type 0} → (a b : Answer) (ts us : List T) → a ≡ b → (a ≡ Applies → ⊥) → ts ≡ ts ++ if_applied b us
unapplied_told a b ts us e n = sym (append-nil ts) ∙ ap (λ x. ts ++ x) (sym (not_applied a us n) ∙ ap (λ x. if_applied x us) e)

-- none is ready
pub unreleased_told : {T : Type 0} → (tells : Seen → Op → List T) (s : Seen) (ts : List T) → release_over s ≡ None → ts ≡ ts ++ released_told tells s
unreleased_told tells s ts e = sym (append-nil ts) ∙ ap (λ x. ts ++ x) (sym (none_told tells s e))

-- the first ready one fits, and was shown
pub shown_told : {T : Type 0} → (tells : Seen → Op → List T) (s : Seen) (w : Op) (ts us : List T) → first_ready s ≡ Some w → refusal_over s w ≡ None → us ≡ ts ++ tells s w → us ≡ ts ++ released_told tells s
shown_told tells s w ts us e f h = h ∙ ap (λ x. ts ++ x) (sym (fitting_told tells s w e f))

-- it is refused, and wasn't
pub unshown_told : {T : Type 0} → (tells : Seen → Op → List T) (s : Seen) (w : Op) (x : Reason) (ts : List T) → first_ready s ≡ Some w → refusal_over s w ≡ Some x → ts ≡ ts ++ released_told tells s
unshown_told tells s w x ts e f = sym (append-nil ts) ∙ ap (λ us. ts ++ us) (sym (refused_told tells s w x e f))

-- it isn't refused
pub no_reason : (r : Option Refusal) (b : Bool) → is_some r ≡ not b → b ≡ true → reason_in r ≡ None
no_reason None b e f = refl
no_reason (Some r) b e f = let k : true ≡ false = e ∙ ap not f in absurd (cc)

-- ---- one step

pub received_course_told : {T : Type 0} → (tells : Seen → Op → List T) (s : Seen) (t : Taken) (ts : List T) (o : Op)
    → told_course (received s o) (with_receipt t o.author o.seq (answer_over false s o)) (ts ++ received_told tells s o) ≡ receive_on (watched tells) (told_course s t ts) o
received_course_told tells s t ts o = refl

pub released_course_told : {T : Type 0} → (tells : Seen → Op → List T) (s : Seen) (t : Taken) (ts : List T) (r : Released) → release_over s ≡ Some r
    → told_course (released s) (with_reason t r.author r.seq r.refusal) (ts ++ released_told tells s) ≡ release_on (watched tells) (told_course s t ts)
released_course_told tells s t ts r e = sym (ap (λ o. with_release_on (watched tells) (told_course s t ts) o) e)

pub unreleased_course_told : {T : Type 0} → (tells : Seen → Op → List T) (s : Seen) (t : Taken) (ts : List T) → release_over s ≡ None
    → told_course (released s) t (ts ++ released_told tells s) ≡ release_on (watched tells) (told_course s t ts)
unreleased_course_told tells s t ts e =
    ap (λ u. told_course u t (ts ++ released_told tells s)) (released_none s e)
    ∙ (ap (λ us. told_course s t (ts ++ us)) (none_told tells s e)
    ∙ (ap (told_course s t) (append-nil ts) ∙ sym (none_ready (watched tells) (told_course s t ts) e)))

-- ---- the same without telling

abbrev pub Beside : {T : Type 0} → Told Seen T → Seen → Type 0
Beside t u = t.state ≡ u

pub beside : {T : Type 0} → (tells : Seen → Op → List T) → StepsAgree (watched tells) by_parts (λ o. Unit {0}) Beside
beside tells = record {
  answers = λ t u o w h. ap (λ x. answer_over false x o) h;
  receives = λ t u o w h. ap (λ x. received x o) h;
  waiting = λ t u h. ap (λ (x : Seen). x.waiting) h;
  next_releases = λ t u h. ap (λ x. release_over x) h;
  releases = λ t u h. ap released h;
}

pub watched_beside : {T : Type 0} → (tells : Seen → Op → List T) (limit : Limit) (s : Seen) (m : Message) → IsAlike Beside (watched_within tells limit s m) (taken_within limit s m)
unfolding watched_within taken_within
watched_beside tells limit s m =
    let p = take_on (watched tells) (started limit (told_at s)) m.ops in
    let q = take_on by_parts (started limit s) m.ops in
    let a = taking_alike Beside (watched tells) by_parts (λ o. Unit {0}) (beside tells) m.ops (started limit (told_at s)) (started limit s) (λ o u. tt) (record { states = refl; limit = refl; counts = refl }) in
    acknowledge_alike Beside (watched tells) by_parts p q m.from m.vector (ap (λ x. acknowledged x m.from m.vector) a.states) a

-- ---- with more told before

abbrev pub After : {T : Type 0} → List T → Told Seen T → Told Seen T → Type 0
After before t u = (t.state ≡ u.state) × (t.told ≡ before ++ u.told)

later : {T : Type 0} → (before ts us : List T) (s r : Seen) (f : Seen → List T) → s ≡ r → ts ≡ before ++ us → ts ++ f s ≡ before ++ (us ++ f r)
later before ts us s r f h k = ap (λ x. ts ++ f x) h ∙ (ap (λ zs. zs ++ f r) k ∙ append_assoc before us (f r))

pub after : {T : Type 0} → (tells : Seen → Op → List T) (before : List T) → StepsAgree (watched tells) (watched tells) (λ o. Unit {0}) (After before)
after tells before = record {
  answers = λ t u o w h. ap (λ x. answer_over false x o) h.0;
  receives = λ t u o w h. (ap (λ x. received x o) h.0, later before t.told u.told t.state u.state (λ x. received_told tells x o) h.0 h.1);
  waiting = λ t u h. ap (λ (x : Seen). x.waiting) h.0;
  next_releases = λ t u h. ap (λ x. release_over x) h.0;
  releases = λ t u h. (ap released h.0, later before t.told u.told t.state u.state (released_told tells) h.0 h.1);
}

pub ops_after : {T : Type 0} → (tells : Seen → Op → List T) (s : Seen) (t : Taken) (ts : List T) (os : List Op)
    → IsAlike (After ts) (take_on (watched tells) (told_course s t ts) os) (take_on (watched tells) (told_course s t []) os)
ops_after tells s t ts os =
    taking_alike (After ts) (watched tells) (watched tells) (λ o. Unit {0}) (after tells ts) os (told_course s t ts) (told_course s t []) (λ o u. tt) (record { states = (refl, sym (append-nil ts)); limit = refl; counts = refl })

-- ---- releases until none is ready

seen_after : {T : Type 0} → (tells : Seen → Op → List T) (s : Seen) (t : Taken) (ts : List T) → (release_on (watched tells) (told_course s t ts)).state.state ≡ released s
seen_after tells s t ts =
    (release_alike Beside (watched tells) by_parts (λ o. Unit {0}) (beside tells) (told_course s t ts) (course s t) (record { states = refl; limit = refl; counts = refl })).states ∙ released_seen (course s t) refl

pub told_more : {T : Type 0} → (tells : Seen → Op → List T) (s : Seen) (t : Taken) (ts : List T) → IsSane s → is_some (release_over s) ≡ true
    → release_all_on (watched tells) (release_on (watched tells) (told_course s t ts)) ≡ release_all_on (watched tells) (told_course s t ts)
told_more tells s t ts sane h =
    let c = told_course s t ts in
    ap (λ (u : Seen). releases_on (watched tells) (length u.waiting) (release_on (watched tells) c)) (seen_after tells s t ts)
    ∙ ap (λ n. releases_on (watched tells) n c) (sym (one_fewer s sane h))

pub told_done : {T : Type 0} → (tells : Seen → Op → List T) (s : Seen) (t : Taken) (ts : List T) → is_some (release_over s) ≡ false → release_on (watched tells) (told_course s t ts) ≡ told_course s t ts
told_done tells s t ts h = none_ready (watched tells) (told_course s t ts) (none_is (release_over s) h)

pub all_told_done : {T : Type 0} → (tells : Seen → Op → List T) (s : Seen) (t : Taken) (ts : List T) → is_some (release_over s) ≡ false → release_all_on (watched tells) (told_course s t ts) ≡ told_course s t ts
all_told_done tells s t ts h = releases_stay (watched tells) (length s.waiting) (told_course s t ts) (told_done tells s t ts h)

-- what is told of all of them
times_are : {T : Type 0} → (tells : Seen → Op → List T) (n : ℕ) (s : Seen) (t : Taken) (ts : List T) → (releases_on (watched tells) n (told_course s t ts)).state.told ≡ ts ++ times_told tells n s
times_are {T} tells zero s t ts = sym (append-nil ts)
times_are {T} tells (suc n) s t ts = go (release_over s) refl (λ u. times_are tells n (released s) u (ts ++ released_told tells s))
  where
    rest : (u : Taken) → told_course (released s) u (ts ++ released_told tells s) ≡ release_on (watched tells) (told_course s t ts)
        → (releases_on (watched tells) n (told_course (released s) u (ts ++ released_told tells s))).state.told ≡ (ts ++ released_told tells s) ++ times_told tells n (released s)
        → (releases_on (watched tells) n (release_on (watched tells) (told_course s t ts))).state.told ≡ ts ++ (released_told tells s ++ times_told tells n (released s))
    rest u e ih = ap (λ (c : Stage (Told Seen T)). (releases_on (watched tells) n c).state.told) (sym e) ∙ (ih ∙ append_assoc ts (released_told tells s) (times_told tells n (released s)))

    go : (o : Option Released) → release_over s ≡ o → ((u : Taken) → (releases_on (watched tells) n (told_course (released s) u (ts ++ released_told tells s))).state.told ≡ (ts ++ released_told tells s) ++ times_told tells n (released s))
        → (releases_on (watched tells) n (release_on (watched tells) (told_course s t ts))).state.told ≡ ts ++ (released_told tells s ++ times_told tells n (released s))
    go None e ih = rest t (unreleased_course_told tells s t ts e) (ih t)
    go (Some r) e ih = rest (with_reason t r.author r.seq r.refusal) (released_course_told tells s t ts r e) (ih (with_reason t r.author r.seq r.refusal))

pub releases_told : {T : Type 0} → (tells : Seen → Op → List T) (s r : Seen) (t u : Taken) (ts us : List T) → told_course r u us ≡ release_all_on (watched tells) (told_course s t ts) → us ≡ ts ++ all_released_told tells s
unfolding all_released_told
releases_told {T} tells s r t u ts us e = ap (λ (c : Stage (Told Seen T)). c.state.told) e ∙ times_are tells (length s.waiting) s t ts

-- ---- a whole message

-- what was told of the operations, and the acknowledgement tells nothing
pub message_told : {T : Type 0} → (tells : Seen → Op → List T) (s r : Seen) (u : Taken) (ts us : List T) (m : Message) → told_course r u us ≡ take_on (watched tells) (told_course s no_counts ts) m.ops → us ≡ ts ++ taken_told tells s m
unfolding watched_within
message_told {T} tells s r u ts us m e =
    let p = take_on (watched tells) (started None (told_at s)) m.ops in
    ap (λ (c : Stage (Told Seen T)). c.state.told) e
    ∙ ((ops_after tells s no_counts ts m.ops).states.1
    ∙ ap (λ zs. ts ++ zs) (sym (ap (λ (c : Stage (Told Seen T)). c.state.told) (acknowledge_unlimited (watched tells) p m.from m.vector (ops_limit (watched tells) m.ops (started None (told_at s)) refl)))))

-- ---- the steps that were made

leads_all : {T : Type 0} → (tells : Seen → Op → List T) (xs ys : List Step) (s r u : Seen) (ts us : List T) → Leads tells xs s r ts → Leads tells ys r u us → Leads tells (xs ++ ys) s u (ts ++ us)
leads_all tells [] ys s r u ts us h k = subst (λ zs. Leads tells ys s u (zs ++ us)) (sym h.1) (subst (λ x. Leads tells ys x u us) h.0 k)
leads_all tells (x ∷ xs) ys s r u ts us h k =
    let rest = h.2 in
    (h.0, h.1, rest ++ us, ap (λ zs. zs ++ us) h.3 ∙ append_assoc (step_told tells s x) rest us, leads_all tells xs ys (after_step s x) r u rest us h.4 k)

-- none
pub no_steps : {T : Type 0} → (tells : Seen → Op → List T) (s u : Seen) (ts us : List T) → u ≡ s → us ≡ ts → IsTold tells s u ts us
no_steps tells s u ts us e f = record { steps = []; fresh = []; added = f ∙ sym (append-nil ts); led = (e, refl) }

one_step : {T : Type 0} → (tells : Seen → Op → List T) (x : Step) (s u : Seen) (ts us : List T) → IsSane s → IsStep x → u ≡ after_step s x → us ≡ ts ++ step_told tells s x → IsTold tells s u ts us
one_step tells x s u ts us sane w e f = record {
  steps = x ∷ [];
  fresh = step_told tells s x;
  added = f;
  led = (sane, w, [], sym (append-nil (step_told tells s x)), (e, refl));
}

-- an operation was received, or one released, or noted how much a member has accepted
pub received_step : {T : Type 0} → (tells : Seen → Op → List T) (s u : Seen) (o : Op) (ts us : List T) → IsSane s → IsOp o → u ≡ received s o → us ≡ ts ++ received_told tells s o → IsTold tells s u ts us
received_step tells s u o ts us sane w e f = one_step tells (Receives o) s u ts us sane w e f

pub released_step : {T : Type 0} → (tells : Seen → Op → List T) (s u : Seen) (ts us : List T) → IsSane s → u ≡ released s → us ≡ ts ++ released_told tells s → IsTold tells s u ts us
released_step tells s u ts us sane e f = one_step tells Releases s u ts us sane tt e f

pub noted_step : {T : Type 0} → (tells : Seen → Op → List T) (s u : Seen) (a : ℕ) (v : List ℕ) (ts : List T) → IsSane s → u ≡ acknowledged s a v → IsTold tells s u ts ts
noted_step tells s u a v ts sane e = one_step tells (Notes a v) s u ts ts sane tt e (sym (append-nil ts))

-- some, and then some more
pub more_steps : {T : Type 0} → (tells : Seen → Op → List T) (s r u : Seen) (ts us vs : List T) → IsTold tells s r ts us → IsTold tells r u us vs → IsTold tells s u ts vs
more_steps tells s r u ts us vs h k = record {
  steps = h.steps ++ k.steps;
  fresh = h.fresh ++ k.fresh;
  added = k.added ∙ (ap (λ zs. zs ++ k.fresh) h.added ∙ append_assoc ts h.fresh k.fresh);
  led = leads_all tells h.steps k.steps s r u h.fresh k.fresh h.led k.led;
}
