-- What a session with `e` does is what the session without it does with the edits of its drafts.
use Rattle.std.proofs.Common.{◌≡◌, ◌∙◌, Bool, true, false, List, [], ◌∷◌, ◌++◌, append_assoc, refl, sym, ap, subst}
use Rattle.std.specs.Prelude.{if◌then◌else◌}
use Rattle.std.proofs.lemmas.List.{append-nil}
use Rattle.rls_model.specs.declared.edit.Edit.{Edit}
use Rattle.rls_model.specs.declared.edit.Edit.TheVariants as edits
use Rattle.rls_model.specs.Receiving.{State}
use Rattle.rls_seen.specs.Edits.{edited}
use Rattle.rls_seen.specs.Seen.{Seen}
use Rattle.rls_session.specs.declared.orders.Order.TheVariants as orders
use Rattle.rls_session.specs.Answers.{Sitting, answer}
use Rattle.rls_session.specs.Courses.{course}
use Rattle.rls_session.specs.Drafts.{draft_of}
use Rattle.rls_session.specs.InPlace.{IsNoChange, all_lines, asked, draft_lines, in_place, in_place_of, state_after}
use Rattle.rls_session.specs.Requests.{Does, Request, Takes}
use Rattle.rls_session.specs.Seats.{Seat, at_work, goes_with, plan, respond, says_at, seated}
use Rattle.rls_session.specs.SessionLaws.{AreUnawaited, ChangesAreEdits, CoursesAreRequests, IsDraftUnawaited, IsOfHistory, sitting_in}
use Rattle.rls_session.specs.Sessions.{by_history, by_parts}
use Rattle.rls_session.proofs.AlikeSeats.{AreSeatsAlike, respond_alike, seated_alike}
use Rattle.rls_session.proofs.AlikeSittings.{IsAlike}
use Rattle.rls_session.proofs.Fitting.{AreFit, made_draft}
use Rattle.rls_session.proofs.Given.{IsGiven}
use Rattle.rls_session.proofs.InPlace.{Along, AreDone, AreGiven, IsDone, all_placed, all_plain, along, asked_given, course_state}

pub alike_in : (d : Sitting Seen) (t : State) → IsOfHistory d t → IsAlike d (sitting_in d t)
alike_in d t h = record {
  stands = h.stands;
  sane = h.sane;
  writable = h.writable;
  entries = refl;
  cursors = refl;
  tells = refl;
  whole = h.whole;
  texts = h.texts;
  steps = record { same = refl; kept = h.kept; spelled = h.spelled };
}

pub of_history : (d : Sitting Seen) (f : Sitting State) → IsAlike d f → IsOfHistory d f.state
of_history d f a = record { stands = a.stands; sane = a.sane; writable = a.writable; whole = a.whole; texts = a.texts; kept = (a.steps).kept; spelled = (a.steps).spelled }

-- edits that have no fault, and for which nothing waits
each_done : (es : List Edit) (s : Seen) → AreFit s es → AreUnawaited s es → AreDone by_parts s es
each_done [] s f u = tt
each_done (e ∷ es) s f u = (f.1, u.0, each_done es (edited s e) f.2 u.1)

draft_done : (b : Seat Seen) (c : Seat State) → AreSeatsAlike b c → IsDraftUnawaited b → IsDone by_parts b
draft_done b c k u = let d = b.sitting in each_done (plan by_parts d.state b.draft) d.state (made_draft d b.draft (k.sittings).sane k.text k.drafted).fit u

all_done : (rs : List Request) (b : Seat Seen) (c : Seat State) → AreGiven rs → AreSeatsAlike b c → Along (respond by_parts) IsDraftUnawaited b rs → Along (respond by_parts) (IsDone by_parts) b rs
all_done [] b c g k u = draft_done b c k u
all_done (r ∷ rs) b c g k u = (draft_done b c k u.0, all_done rs (respond by_parts b r).state (respond by_history c r).state g.1 (respond_alike b c r g.0 k).states u.1)

-- each request but a change is answered once the draft is made
pub other_is : (b : Seat Seen) (r : Request) → IsNoChange r → let a = answer by_parts (at_work by_parts b) r in respond by_parts b r ≡ says_at a.reply (seated a.state)
other_is b (Does (orders.Change at n cs)) h = absurd h
other_is b r h = refl

-- the lines of a draft's edits are lines
more_given : (es : List Edit) (s : Seen) (rs : List Request) → AreFit s es → AreGiven rs → AreGiven (all_lines es ++ rs)
more_given [] s rs f h = h
more_given (edits.Insert at cs ∷ es) s rs f h = (f.0, more_given es (edited s (edits.Insert at cs)) rs f.2 h)
more_given (edits.Delete at n ∷ es) s rs f h = (f.0, more_given es (edited s (edits.Delete at n)) rs f.2 h)
more_given (edits.Rename ∷ es) s rs f h = (tt, more_given es (edited s edits.Rename) rs f.2 h)
more_given (edits.Leave ∷ es) s rs f h = more_given es (edited s edits.Leave) rs f.2 h

draft_given : (b : Seat Seen) (c : Seat State) (rs : List Request) → AreSeatsAlike b c → AreGiven rs → AreGiven (draft_lines by_parts b ++ rs)
draft_given b c rs k h = let d = b.sitting in more_given (plan by_parts d.state b.draft) d.state rs (made_draft d b.draft (k.sittings).sane k.text k.drafted).fit h

placed_given : (b : Seat Seen) (c : Seat State) (r : Request) (rs : List Request) → AreSeatsAlike b c → IsGiven r → AreGiven rs → AreGiven (in_place_of by_parts b r ++ rs)
placed_given b c (Does (orders.Change at n cs)) rs k g h = go (goes_with by_parts (b.sitting).state b.draft (draft_of at n cs))
  where
    go : (x : Bool) → AreGiven ((if x then [] else draft_lines by_parts b) ++ rs)
    go true = h
    go false = draft_given b c rs k h
placed_given b c (Does order) rs k g h = subst AreGiven (sym (append_assoc (draft_lines by_parts b) (Does order ∷ []) rs)) (draft_given b c (Does order ∷ rs) k (g, h))
placed_given b c (Takes message) rs k g h = subst AreGiven (sym (append_assoc (draft_lines by_parts b) (Takes message ∷ []) rs)) (draft_given b c (Takes message ∷ rs) k (g, h))

pub all_given : (rs : List Request) (b : Seat Seen) (c : Seat State) → AreGiven rs → AreSeatsAlike b c → AreGiven (in_place by_parts b rs)
all_given [] b c g k = subst AreGiven (append-nil (draft_lines by_parts b)) (draft_given b c [] k tt)
all_given (r ∷ rs) b c g k = placed_given b c r (in_place by_parts (respond by_parts b r).state rs) k g.0 (all_given rs (respond by_parts b r).state (respond by_history c r).state g.1 (respond_alike b c r g.0 k).states)

pub changes_are_edits : ChangesAreEdits
changes_are_edits d t input h bytes u v =
    let first = seated d in
    let rs = asked input in
    let b = (course (respond by_parts) first input).state in
    let there : b ≡ state_after (respond by_parts) first rs = course_state (respond by_parts) 0 first input in
    let done = all_done rs first (seated (sitting_in d t)) (asked_given 0 input bytes) (seated_alike d (sitting_in d t) (alike_in d t h)) (along (respond by_parts) IsDraftUnawaited 0 first input u v) in
    let same = ap (at_work by_parts) there ∙ all_placed by_parts rs first done in (
      all_plain by_parts rs first,
      same,
      λ r n. other_is b r n ∙ ap (λ e. let a = answer by_parts e r in says_at a.reply (seated a.state)) same,
    )

pub courses_are_requests : CoursesAreRequests
courses_are_requests d input = course_state (answer by_parts) 0 d input
