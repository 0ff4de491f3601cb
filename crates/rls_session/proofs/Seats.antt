-- A session over seats, from store to store: what is drafted is made at the end of each stretch.
use Rattle.std.proofs.Common.{◌≡◌, ◌∙◌, ◌≤◌, ◌+◌, ℕ, suc, true, false, List, [], ◌∷◌, ◌++◌, drop, map, Option, refl, sym, ap, subst}
use Rattle.rls_io.specs.Device.{Appends}
use Rattle.rls_session.specs.declared.orders.Order.TheVariants as orders
use Rattle.rls_session.specs.Answering.{IsPrompt}
use Rattle.rls_session.specs.Answers.{Kind, Sitting, resumed}
use Rattle.rls_session.specs.Courses.{Answered, Course, Stretch, course_of, courses, replies_in, replies_on, used_in, used_on}
use Rattle.rls_session.specs.Drafts.{draft_of}
use Rattle.rls_session.specs.Replies.{saved_text}
use Rattle.rls_session.specs.Requests.{Request, Does}
use Rattle.rls_session.specs.Seats.{Seat, changed, closed, course_at, respond, resumed_seat, seated, session_by, worked}
use Rattle.rls_session.proofs.Courses.{courses_begin, courses_on, later, later_none, replies_on_is, used_first, used_on_is}

-- a change, and any other request
pub by_request : {X : Type 0} (K : Kind X) (b : Seat X) (P : Request → Answered (Seat X) → Type 0) → ((at n : ℕ) (cs : List ℕ) → P (Does (orders.Change at n cs)) (changed K b (draft_of at n cs))) → ((r : Request) → P r (worked K b r))
    → (r : Request) → P r (respond K b r)
by_request K b P f g (Does (orders.Change at n cs)) = f at n cs
by_request K b P f g r = g r

module _ {X : Type 0} (K : Kind X) where
  -- the courses after the first
  abbrev pub later_courses : Sitting X → List ℕ → List (Course (Sitting X))
  later_courses d input = map (closed K) (map (course_of (respond K)) (later (respond K) (resumed_seat K) (seated d) input))

  pub session_begins : (d : Sitting X) (input : List ℕ) → session_by K d input ≡ course_at K d input ∷ later_courses d input
  session_begins d input = ap (map (closed K)) (courses_begin (respond K) (resumed_seat K) (seated d) input)

  pub none_later : (d : Sitting X) (input : List ℕ) → (course_at K d input).stores ≡ false → later_courses d input ≡ []
  none_later d input e = ap (λ (l : List (Stretch (Seat X))). map (closed K) (map (course_of (respond K)) l)) (later_none (respond K) (resumed_seat K) (seated d) input e)

  pub session_on : (d : Sitting X) (input : List ℕ) → (course_at K d input).stores ≡ true
      → session_by K d input ≡ course_at K d input ∷ session_by K (resumed K (course_at K d input).state) (drop (suc (course_at K d input).used) input)
  session_on d input e = ap (map (closed K)) (courses_on (respond K) (resumed_seat K) (seated d) input e)

  -- their replies and their bytes are those of the courses over seats
  replies_closed_on : (c : Course (Seat X)) (cs : List (Course (Seat X))) → replies_on (closed K c) (map (closed K) cs) ≡ replies_on c cs
  replies_closed_on c [] = refl
  replies_closed_on c (x ∷ cs) = ap (λ (l : List ℕ). c.replies ++ (saved_text ++ l)) (replies_closed_on x cs)

  pub replies_closed : (cs : List (Course (Seat X))) → replies_in (map (closed K) cs) ≡ replies_in cs
  replies_closed [] = refl
  replies_closed (c ∷ cs) = replies_closed_on c cs

  used_closed_on : (c : Course (Seat X)) (cs : List (Course (Seat X))) → used_on (closed K c) (map (closed K) cs) ≡ used_on c cs
  used_closed_on c [] = refl
  used_closed_on c (x ∷ cs) = ap (λ n. suc c.used + n) (used_closed_on x cs)

  used_closed : (cs : List (Course (Seat X))) → used_in (map (closed K) cs) ≡ used_in cs
  used_closed [] = refl
  used_closed (c ∷ cs) = used_closed_on c cs

  pub session_replies : (d : Sitting X) (input : List ℕ) → (course_at K d input).stores ≡ true
      → replies_in (session_by K d input) ≡ (course_at K d input).replies ++ (saved_text ++ replies_in (session_by K (resumed K (course_at K d input).state) (drop (suc (course_at K d input).used) input)))
  session_replies d input e =
      replies_closed (courses (respond K) (resumed_seat K) (seated d) input)
      ∙ replies_on_is (respond K) (resumed_seat K) (seated d) input e
      ∙ ap (λ (l : List ℕ). (course_at K d input).replies ++ (saved_text ++ l)) (sym (replies_closed (courses (respond K) (resumed_seat K) (seated (resumed K (course_at K d input).state)) (drop (suc (course_at K d input).used) input))))

  pub session_used : (d : Sitting X) (input : List ℕ) → (course_at K d input).stores ≡ true
      → used_in (session_by K d input) ≡ suc (course_at K d input).used + used_in (session_by K (resumed K (course_at K d input).state) (drop (suc (course_at K d input).used) input))
  session_used d input e =
      used_closed (courses (respond K) (resumed_seat K) (seated d) input)
      ∙ used_on_is (respond K) (resumed_seat K) (seated d) input e
      ∙ ap (λ n. suc (course_at K d input).used + n) (sym (used_closed (courses (respond K) (resumed_seat K) (seated (resumed K (course_at K d input).state)) (drop (suc (course_at K d input).used) input))))

  pub session_used_first : (d : Sitting X) (input : List ℕ) → (course_at K d input).used ≤ used_in (session_by K d input)
  session_used_first d input =
      subst (λ n. (course_at K d input).used ≤ n) (sym (used_closed (courses (respond K) (resumed_seat K) (seated d) input))) (used_first (respond K) (resumed_seat K) (seated d) input)

  -- what is answered before the input is read on
  pub prompt_closed : (d : Sitting X) (given : List ℕ) (left old new : Option (List ℕ)) → IsPrompt (λ front. replies_in (courses (respond K) (resumed_seat K) (seated d) front)) given left old new → IsPrompt (λ front. replies_in (session_by K d front)) given left old new
  prompt_closed d given left old new p = record {
    front = p.front;
    more = p.more;
    rest = p.rest;
    given_is = p.given_is;
    left_is = p.left_is;
    unfinished = p.unfinished;
    written = subst (Appends old new) (sym (replies_closed (courses (respond K) (resumed_seat K) (seated d) p.front))) p.written;
  }
