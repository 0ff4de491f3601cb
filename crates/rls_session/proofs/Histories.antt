-- How a session ends whose kept file stands for a history.
use Rattle.std.proofs.Common.{◌≡◌, ◌≢◌, ◌∙◌, ◌⊎◌, ◌<◌, ◌≤◌, ◌+◌, ◌++◌, ℕ, zero, suc, true, false, eqb, List, [], ◌∷◌, length, map, take, Option, Some, None, IfSome, Result, Ok, Err, refl, sym, ap, subst, arith, inl, inr, length-append}
use Rattle.std.proofs.lemmas.Bool.Decides.{eqb_tells}
use Rattle.std.proofs.lemmas.List.{take-append-le}
use Rattle.std.proofs.Math.Seq.{take-append-add}
use Rattle.rls_ident.specs.declared.limits.TheConstants.{INPUT_BYTES, FILE_BYTES}
use Rattle.rls_io.specs.Device.{Appends, Keeps, Stores}
use Rattle.rls_codec.specs.CodecLaws.{IsBytes}
use Rattle.rls_model.specs.declared.parts.Parts.{Parts}
use Rattle.rls_model.specs.Receiving.{State}
use Rattle.rls_seen.specs.Seen.{Seen}
use Rattle.rls_seen.specs.Stands.{StandsFor}
use Rattle.rls_seen.proofs.Keeping.{parts_alike}
use Rattle.rls_file.specs.Files.{file_bytes}
use Rattle.rls_report.specs.declared.failures.CommandError.{CommandError}
use Rattle.rls_report.specs.declared.failures.CommandError.TheVariants.{TooLarge}
use Rattle.rls_file.specs.Stored.{AreWritable}
use Rattle.rls_stages.specs.Endings.{IsFault, IsPart, EndsWith}
use Rattle.rls_stages.specs.KeptFile.{IsFileFor, IsReadBack, StandsIn, bytes_over, loaded, replica_in, saved}
use Rattle.rls_stages.proofs.Kept.{WithinOrPast, within_or_past}
use Rattle.rls_stages.proofs.Files.{opened, stands_stored}
use Rattle.rls_session.specs.Answers.{Sitting, sitting_at}
use Rattle.rls_session.specs.Courses.{Course}
use Rattle.rls_session.specs.Due.{Due, due, due_of, due_on, ending_status, stops}
use Rattle.rls_session.specs.Endings.{ByReplies, Ends, EndsIn, EndsOn, FailsAt, IsKept, IsTooLong, Serves, ServesIn, ServesOn}
use Rattle.rls_session.specs.Replies.{saved_text}
use Rattle.rls_session.specs.Sessions.{by_history, session, session_in}
use Rattle.rls_session.proofs.AlikeSittings.{IsAlike}
use Rattle.rls_session.proofs.Alike.{AreSameCourses, sessions_alike}
use Rattle.rls_session.proofs.Courses.{IsSameCourse}
use Rattle.rls_session.proofs.Seats.{later_courses, session_begins}
use Rattle.rls_session.proofs.Served.{part_all}

saved_or_long : (s : Seen) → (saved s ≡ Ok s) ⊎ ((FILE_BYTES < length (bytes_over s)) × (saved s ≡ Err TooLarge))
saved_or_long s = go (within_or_past FILE_BYTES (length (bytes_over s)))
  where
    go : WithinOrPast FILE_BYTES (length (bytes_over s))
        → (saved s ≡ Ok s) ⊎ ((FILE_BYTES < length (bytes_over s)) × (saved s ≡ Err TooLarge))
    go (inl h) = inl (rw (h.1) refl)
    go (inr h) = inr (h.0, rw (h.1) refl)

ending_or_long : (c : Course (Sitting Seen)) → ((due_of c).ending ≡ Ok (c.state).state) ⊎ (((INPUT_BYTES < c.used) ⊎ (FILE_BYTES < length (bytes_over (c.state).state))) × ((due_of c).ending ≡ Err TooLarge))
ending_or_long c = go (within_or_past INPUT_BYTES c.used)
  where
    go : WithinOrPast INPUT_BYTES c.used
        → ((due_of c).ending ≡ Ok (c.state).state) ⊎ (((INPUT_BYTES < c.used) ⊎ (FILE_BYTES < length (bytes_over (c.state).state))) × ((due_of c).ending ≡ Err TooLarge))
    go (inr h) = inr (inl h.0, rw (h.1) refl)
    go (inl h) = rest (saved_or_long (c.state).state)
      where
        rest : (saved (c.state).state ≡ Ok (c.state).state) ⊎ ((FILE_BYTES < length (bytes_over (c.state).state)) × (saved (c.state).state ≡ Err TooLarge))
            → ((due_of c).ending ≡ Ok (c.state).state) ⊎ (((INPUT_BYTES < c.used) ⊎ (FILE_BYTES < length (bytes_over (c.state).state))) × ((due_of c).ending ≡ Err TooLarge))
        rest (inl e) = inl (rw (h.1) e)
        rest (inr e) = inr (inr e.0, rw (h.1) e.1)

-- ---- the parts of an end

-- a part of the replies is a part of all
part_of_all : (old new : Option (List ℕ)) (xs ys : List ℕ) → IsPart old new xs → IsPart old new (xs ++ ys)
part_of_all old new xs ys p = (p.0, omega (arith, length-append xs ys, p.1), subst (Appends old new) (sym (take-append-le p.0 xs ys p.1)) p.2)

part_behind : (old new : Option (List ℕ)) (xs ys : List ℕ) (n : ℕ) → n ≤ length ys → Appends old new (xs ++ take n ys) → IsPart old new (xs ++ ys)
part_behind old new xs ys n h a = (length xs + n, omega (arith, length-append xs ys), subst (Appends old new) (sym (take-append-add xs ys n)) a)

-- whatever the status
any_part : (d : Due) (n : ℕ) (file new_file : Option (Option (List ℕ))) (old new : Option (List ℕ)) → EndsIn d n file new_file old new → IsPart old new (d.replies ++ saved_text)
any_part d n file new_file old new e = at_zero (eqb_tells n 0)
  where
    fails : FailsAt d file new_file old new → IsPart old new (d.replies ++ saved_text)
    fails (inl k) = part_of_all old new d.replies saved_text (k.1.0, omega (arith, k.1.1), k.1.2)
    fails (inr k) = part_behind old new d.replies saved_text k.1.0 (omega (arith, k.1.1)) k.1.2

    at_nine : n ≢ 0 → ((eqb n 9 ≡ true) × (n ≡ 9)) ⊎ ((eqb n 9 ≡ false) × (n ≢ 9)) → IsPart old new (d.replies ++ saved_text)
    at_nine some (inl h) = fails (e.failing h.1)
    at_nine some (inr h) = part_of_all old new d.replies saved_text (e.part some h.1)

    at_zero : ((eqb n 0 ≡ true) × (n ≡ 0)) ⊎ ((eqb n 0 ≡ false) × (n ≢ 0)) → IsPart old new (d.replies ++ saved_text)
    at_zero (inl h) = part_all old new (d.replies ++ saved_text) (e.written h.1)
    at_zero (inr h) = at_nine h.1 (eqb_tells n 9)

-- the file stands for what its replica stands for
kept_stands : (r : Result Seen CommandError) (s : Seen) (t : State) (kept : Option (List ℕ)) (new_file : Option (Option (List ℕ))) (too_long : Type 0) → (r ≡ Ok s) ⊎ (too_long × (r ≡ Err TooLarge)) → StandsFor s t → AreWritable s → IsKept r (Some kept) new_file → StandsIn new_file t
kept_stands r s t kept new_file too_long (inl e) h w k =
    let here : Stores (Some kept) new_file (bytes_over s) × IsReadBack s = subst (λ (x : Result Seen CommandError). IsKept x (Some kept) new_file) e k in
    subst (λ (f : Option (Option (List ℕ))). StandsIn f t) (sym here.0) (stands_stored s t h here.1)
kept_stands r s t kept new_file too_long (inr e) h w k = absurd (subst (λ (x : Result Seen CommandError). IsKept x (Some kept) new_file) e.1 k)

-- what holds if the file is stored
stored_by_replies : (replies : List ℕ) (old new : Option (List ℕ)) (P Q R : Type 0) → (P → Q) → ByReplies replies old new P R → ByReplies replies old new Q R
stored_by_replies replies None new P Q R f h = tt
stored_by_replies replies (Some output) new P Q R f h = (λ all. f (h.0 all), h.1)

-- ---- all

-- a course
course_serves : (n : ℕ) (c : Course (Sitting Seen)) (f : Course (Sitting State)) (bytes : List ℕ) (new_file : Option (Option (List ℕ))) (old new : Option (List ℕ)) → IsSameCourse IsAlike c f
    → EndsIn (due_of c) n (Some (Some bytes)) new_file old new → ServesIn n bytes f new_file old new
course_serves n c f bytes new_file old new same e =
    let k = same.states in
    let ending = ending_or_long c in
    record {
      status = status ending e.status;
      stored = λ z. kept_stands (due_of c).ending (c.state).state (f.state).state (Some bytes) new_file _ ending k.stands k.writable (e.stored z);
      written = λ z. subst (λ (r : List ℕ). Appends old new (r ++ saved_text)) same.replies (e.written z);
      part = subst (λ (r : List ℕ). IsPart old new (r ++ saved_text)) same.replies (any_part (due_of c) n (Some (Some bytes)) new_file old new e);
      by_replies = λ z. stored_by_replies (f.replies) old new (IsKept (due_of c).ending (Some (Some bytes)) new_file) _ (new_file ≡ Some (Some bytes)) (kept_stands (due_of c).ending (c.state).state (f.state).state (Some bytes) new_file _ ending k.stands k.writable)
          (subst (λ (r : List ℕ). ByReplies r old new (IsKept (due_of c).ending (Some (Some bytes)) new_file) (Keeps (Some (Some bytes)) new_file)) same.replies (e.by_replies z));
    }
  where
    long : (INPUT_BYTES < c.used) ⊎ (FILE_BYTES < length (bytes_over (c.state).state)) → IsTooLong bytes f
    long (inl h) = inr (inl (subst (λ m. INPUT_BYTES < m) same.used h))
    long (inr h) = inr (inr (subst (λ (p : Parts). FILE_BYTES < length (file_bytes p)) (parts_alike (c.state).state (f.state).state (same.states).stands) h))

    status : ((due_of c).ending ≡ Ok (c.state).state) ⊎ (((INPUT_BYTES < c.used) ⊎ (FILE_BYTES < length (bytes_over (c.state).state))) × ((due_of c).ending ≡ Err TooLarge))
        → (n ≡ ending_status (due_of c).ending) ⊎ IsFault n → EndsWith n 0 (IsTooLong bytes f)
    status (inl h) (inl st) = inl (st ∙ ap ending_status h)
    status (inr h) (inl st) = inr (inr (st ∙ ap ending_status h.1, long h.0))
    status h (inr f) = inr (inl f)

-- the file that was stored after a course
stored_file : (c : Course (Sitting Seen)) (f : Course (Sitting State)) (bytes : List ℕ) (mid_file : Option (Option (List ℕ))) → IsSameCourse IsAlike c f → IsKept (due_of c).ending (Some (Some bytes)) mid_file
    → (stored : List ℕ) × (mid_file ≡ Some (Some stored)) × IsFileFor stored (f.state).state
stored_file c f bytes mid_file same k = go (ending_or_long c) k
  where
    go : ((due_of c).ending ≡ Ok (c.state).state) ⊎ (((INPUT_BYTES < c.used) ⊎ (FILE_BYTES < length (bytes_over (c.state).state))) × ((due_of c).ending ≡ Err TooLarge)) → IsKept (due_of c).ending (Some (Some bytes)) mid_file
        → (stored : List ℕ) × (mid_file ≡ Some (Some stored)) × IsFileFor stored (f.state).state
    go (inl e) k =
        let here : Stores (Some (Some bytes)) mid_file (bytes_over (c.state).state) × IsReadBack (c.state).state = subst (λ (x : Result Seen CommandError). IsKept x (Some (Some bytes)) mid_file) e k in
        (bytes_over (c.state).state, here.0, stands_stored (c.state).state (f.state).state (same.states).stands here.1)
    go (inr e) k = absurd (subst (λ (x : Result Seen CommandError). IsKept x (Some (Some bytes)) mid_file) e.1 k)

-- courses, one after another
courses_serve : (n : ℕ) (c : Course (Sitting Seen)) (cs : List (Course (Sitting Seen))) (f : Course (Sitting State)) (fs : List (Course (Sitting State))) (bytes : List ℕ) (new_file : Option (Option (List ℕ))) (old new : Option (List ℕ))
    → IsSameCourse IsAlike c f → AreSameCourses IsAlike cs fs → EndsOn (due_of c) (map due_of cs) n (Some (Some bytes)) new_file old new → ServesOn n bytes f fs new_file old new
courses_serve n c [] f [] bytes new_file old new same rest e = course_serves n c f bytes new_file old new same e
courses_serve n c [] f (g ∷ fs) bytes new_file old new same rest e = absurd rest
courses_serve n c (x ∷ cs) f [] bytes new_file old new same rest e = absurd rest
courses_serve n c (x ∷ cs) f (g ∷ fs) bytes new_file old new same rest (inl e) = inl (e.0, course_serves n c f bytes new_file old new same e.1)
courses_serve n c (x ∷ cs) f (g ∷ fs) bytes new_file old new same rest (inr e) =
    let done = e.2 in
    let s = stored_file c f bytes e.0 same done.stored in
    inr (
      s.0,
      e.1,
      s.2,
      subst (λ (r : List ℕ). Appends old e.1 (r ++ saved_text)) same.replies done.written,
      courses_serve n x cs g fs s.0 new_file e.1 new rest.0 rest.1 (subst (λ (file : Option (Option (List ℕ))). EndsOn (due_of x) (map due_of cs) n file new_file e.1 new) s.1 e.3),
    )

all_serve : (n : ℕ) (cs : List (Course (Sitting Seen))) (fs : List (Course (Sitting State))) (bytes : List ℕ) (new_file : Option (Option (List ℕ))) (old new : Option (List ℕ)) → AreSameCourses IsAlike cs fs → Ends (map due_of cs) n (Some (Some bytes)) new_file old new → Serves n bytes fs new_file old new
all_serve n [] fs bytes new_file old new same e = absurd e
all_serve n (c ∷ cs) [] bytes new_file old new same e = absurd same
all_serve n (c ∷ cs) (f ∷ fs) bytes new_file old new same e = courses_serve n c cs f fs bytes new_file old new same.0 same.1 e

-- the kept file is too long
long_serves : (n : ℕ) (t : State) (bytes given : List ℕ) (kept : Option (List ℕ)) (new_file : Option (Option (List ℕ))) (old new : Option (List ℕ)) → FILE_BYTES < length bytes → EndsIn (stops TooLarge) n (Some kept) new_file old new
    → Serves n bytes (session_in t given) new_file old new
long_serves n t bytes given kept new_file old new h e = subst (λ (cs : List (Course (Sitting State))). Serves n bytes cs new_file old new) (sym (session_begins by_history (sitting_at t) given)) (serves_on _ (later_courses by_history (sitting_at t) given))
  where
    status : (c : Course (Sitting State)) → (n ≡ 11) ⊎ IsFault n → EndsWith n 0 (IsTooLong bytes c)
    status c (inl st) = inr (inr (st, inl h))
    status c (inr f) = inr (inl f)

    -- no reply is called for that could fail
    fails : FailsAt (stops TooLarge) (Some kept) new_file old new → ⊥
    fails (inl k) = let none : k.1.0 < 0 = k.1.1 in omega (arith, none)
    fails (inr k) = k.0

    nine : n ≢ 0 → ((eqb n 9 ≡ true) × (n ≡ 9)) ⊎ ((eqb n 9 ≡ false) × (n ≢ 9)) → IsPart old new []
    nine some (inl z) = absurd (fails (e.failing z.1))
    nine some (inr z) = e.part some z.1

    none : ((eqb n 0 ≡ true) × (n ≡ 0)) ⊎ ((eqb n 0 ≡ false) × (n ≢ 0)) → IsPart old new []
    none (inl z) = absurd (e.stored z.1)
    none (inr z) = nine z.1 (eqb_tells n 9)

    take_none : (k : ℕ) → ◌≡◌ {A = List ℕ} (take k []) []
    take_none zero = refl
    take_none (suc k) = refl

    from_none : (c : Course (Sitting State)) → IsPart old new [] → IsPart old new (c.replies ++ saved_text)
    from_none c p = (0, omega arith, subst (Appends old new) (take_none p.0) p.2)

    serves_in : (c : Course (Sitting State)) → ServesIn n bytes c new_file old new
    serves_in c = record {
      status = status c e.status;
      stored = λ z. absurd (e.stored z);
      written = λ z. absurd (e.stored z);
      part = from_none c (none (eqb_tells n 0));
      by_replies = λ z. absurd (fails (e.failing z));
    }

    serves_on : (c : Course (Sitting State)) (cs : List (Course (Sitting State))) → ServesOn n bytes c cs new_file old new
    serves_on c [] = serves_in c
    serves_on c (d ∷ cs) = inl (λ z. e.stored z, serves_in c)

pub history_serves : (n : ℕ) (file new_file : Option (Option (List ℕ))) (left old new : Option (List ℕ)) (t : State) (bytes given : List ℕ) → IfSome (due file left) (λ ds. Ends ds n file new_file old new) → file ≡ Some (Some bytes) → IsFileFor bytes t
    → left ≡ Some given → IsBytes given → Serves n bytes (session_in t given) new_file old new
history_serves n file new_file left old new t bytes given e f stands l b = go (within_or_past FILE_BYTES (length bytes))
  where
    told : IfSome (due (Some (Some bytes)) (Some given)) (λ ds. Ends ds n (Some (Some bytes)) new_file old new)
    told = subst (λ (x : Option (List ℕ)). IfSome (due (Some (Some bytes)) x) (λ ds. Ends ds n (Some (Some bytes)) new_file old new)) l (subst (λ (x : Option (Option (List ℕ))). IfSome (due x left) (λ ds. Ends ds n x new_file old new)) f e)

    go : WithinOrPast FILE_BYTES (length bytes) → Serves n bytes (session_in t given) new_file old new
    go (inl h) =
        let o = opened bytes t stands in
        let found : replica_in (loaded (Some bytes)) ≡ Ok o.0 = rw (h.1) (o.1.found) in
        all_serve n (session o.0 given) (session_in t given) bytes new_file old new (sessions_alike o.0 t given b o.1.stands o.1.sane o.1.writable)
        (subst (λ (r : Result Seen CommandError). IfSome (due_on (Some r) (Some given)) (λ ds. Ends ds n (Some (Some bytes)) new_file old new)) found told)
    go (inr h) =
        let long : replica_in (loaded (Some bytes)) ≡ Err TooLarge = rw (h.1) refl in
        long_serves n t bytes given (Some bytes) new_file old new h.0 (subst (λ (r : Result Seen CommandError). IfSome (due_on (Some r) (Some given)) (λ ds. Ends ds n (Some (Some bytes)) new_file old new)) long told)
