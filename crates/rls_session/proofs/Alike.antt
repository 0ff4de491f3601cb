-- A session over what a replica consists of is that over each history, from store to store.
use Rattle.std.proofs.Common.{◌≡◌, ◌∙◌, ◌-◌, ℕ, Bool, true, false, cond, zero, suc, List, [], ◌∷◌, length, map, drop, refl, ap, subst}
use Rattle.rls_codec.specs.CodecLaws.{IsBytes}
use Rattle.rls_codec.proofs.Formats.{IsBytes-drop, IsBytes-tail}
use Rattle.rls_model.specs.Receiving.{State}
use Rattle.rls_seen.specs.Sane.{IsSane}
use Rattle.rls_seen.specs.Seen.{Seen}
use Rattle.rls_seen.specs.Stands.{StandsFor}
use Rattle.rls_seen.proofs.Dropped.{dropped_sane}
use Rattle.rls_seen.proofs.Keeping.{dropped_stands}
use Rattle.rls_file.specs.Stored.{AreWritable}
use Rattle.rls_file.proofs.Files.{dropped_writable}
use Rattle.rls_undo.specs.declared.entry.Entry.{Entry}
use Rattle.rls_undo.specs.Undoing.{last_entries, settled, settled_over}
use Rattle.rls_anchor.specs.Anchors as anchors
use Rattle.rls_anchor.proofs.Places.{settled_alike as anchor_alike}
use Rattle.rls_session.specs.declared.desk.TheConstants.{KEPT_ENTRIES}
use Rattle.rls_session.specs.Cursors.{moved}
use Rattle.rls_session.proofs.Numbered.{all_moved_alike}
use Rattle.rls_session.specs.Answers.{Sitting, resumed, sitting_at}
use Rattle.rls_session.specs.Courses.{Course, course, course_of, stretches, stretches_within}
use Rattle.rls_session.specs.Desks.{AreUndoable}
use Rattle.rls_session.specs.Seats.{Seat, at_work, closed, respond, resumed_seat, seated}
use Rattle.rls_session.specs.Sessions.{by_history, by_parts, session, session_in}
use Rattle.rls_session.proofs.Courses.{IsSameCourse, courses_alike}
use Rattle.rls_session.proofs.Resumed.{whole_left}
use Rattle.rls_session.proofs.Whole.{undoable_back}
use Rattle.rls_session.proofs.Entries.{all_settled_whole, whole_back}
use Rattle.rls_session.proofs.Steps.{settled_steps}
use Rattle.rls_seen.specs.Kept.{dropped}
use Rattle.rls_undo.proofs.Dropping.{greatest_stays}
use Rattle.rls_undo.proofs.Alike.{settled_alike}
use Rattle.rls_session.proofs.Given.{IsGiven, cut_given}
use Rattle.rls_session.proofs.AlikeSittings.{IsAlike}
use Rattle.rls_session.proofs.AlikeSeats.{AreSeatsAlike, at_work_alike, respond_alike, seated_alike}

-- ---- after a store

all_settled : (s : Seen) (t : State) (es : List Entry) → StandsFor s t → AreUndoable s es → map (settled_over s) es ≡ map (settled t.history) es
all_settled s t [] h k = refl
all_settled s t (e ∷ es) h k = let a = settled_alike s t e h k.0 in let b = all_settled s t es h k.1 in cc

-- after a store
pub resumed_alike : (d : Sitting Seen) (f : Sitting State) → IsAlike d f → IsAlike (resumed by_parts d) (resumed by_history f)
resumed_alike d f h =
    let s = d.state in
    let t = f.state in
    record {
      stands = dropped_stands s t h.stands;
      sane = dropped_sane s h.sane;
      writable = dropped_writable s h.writable;
      entries = all_settled s t (last_entries KEPT_ENTRIES d.entries) h.stands (undoable_back s (length d.entries - KEPT_ENTRIES) d.entries (h.whole).undoable) ∙ ap (λ (es : List Entry). map (settled t.history) (last_entries KEPT_ENTRIES es)) h.entries;
      cursors = all_moved_alike s (anchors.settled_over s) (anchors.settled t.history) d.cursors (λ a k. (anchor_alike s t a h.stands k).0) (h.whole).anchored ∙ ap (map (moved (anchors.settled t.history))) h.cursors;
      tells = h.tells;
      whole = whole_left s (last_entries KEPT_ENTRIES d.entries) d.cursors h.sane;
      texts = all_settled_whole s (last_entries KEPT_ENTRIES d.entries) (whole_back (length d.entries - KEPT_ENTRIES) d.entries h.texts);
      steps = settled_steps s (dropped s) t d.recorded f.recorded h.stands (greatest_stays s h.sane) h.steps;
    }

-- courses that are the same, one after another
abbrev pub AreSameCourses : {S T : Type 0} → (S → T → Type 0) → List (Course S) → List (Course T) → Type 0
AreSameCourses R [] [] = Unit {0}
AreSameCourses R [] (d ∷ ds) = ⊥
AreSameCourses R (c ∷ cs) [] = ⊥
AreSameCourses R (c ∷ cs) (d ∷ ds) = IsSameCourse R c d × AreSameCourses R cs ds

-- with the drafts made
resumed_seats : (b : Seat Seen) (g : Seat State) → AreSeatsAlike b g → AreSeatsAlike (resumed_seat by_parts b) (resumed_seat by_history g)
resumed_seats b g h = seated_alike _ _ (resumed_alike (at_work by_parts b) (at_work by_history g) (at_work_alike b g h))

stretches_alike : (n : ℕ) (d : Seat Seen) (f : Seat State) (input : List ℕ) → IsBytes input → AreSeatsAlike d f
    → AreSameCourses AreSeatsAlike (map (course_of (respond by_parts)) (stretches_within (respond by_parts) (resumed_seat by_parts) n d input)) (map (course_of (respond by_history)) (stretches_within (respond by_history) (resumed_seat by_history) n f input))
stretches_alike zero d f input b h = tt
stretches_alike (suc n) d f input b h = (
  same,
  subst (λ (m : ℕ). AreSameCourses AreSeatsAlike (later_of (course (respond by_parts) d input).stores) (their_later (course (respond by_history) f input).stores m)) same.used
      (subst (λ (x : Bool). AreSameCourses AreSeatsAlike (later_of (course (respond by_parts) d input).stores) (their_later x (course (respond by_parts) d input).used)) same.stores (go (course (respond by_parts) d input).stores (λ x y rest b h. stretches_alike n x y rest b h))),
)
  where
    same : IsSameCourse AreSeatsAlike (course (respond by_parts) d input) (course (respond by_history) f input)
    same = courses_alike (respond by_parts) (respond by_history) AreSeatsAlike IsGiven IsBytes (λ d f r g k. let a = respond_alike d f r g k in (a.reply, a.states)) (λ x bytes c. (cut_given (x ∷ bytes) c, IsBytes-tail x bytes c)) 0 d f input b h

    later_of : Bool → List (Course (Seat Seen))
    later_of x = map (course_of (respond by_parts)) (cond x (stretches_within (respond by_parts) (resumed_seat by_parts) n (resumed_seat by_parts (course (respond by_parts) d input).state) (drop (suc (course (respond by_parts) d input).used) input)) [])

    their_later : Bool → ℕ → List (Course (Seat State))
    their_later x m = map (course_of (respond by_history)) (cond x (stretches_within (respond by_history) (resumed_seat by_history) n (resumed_seat by_history (course (respond by_history) f input).state) (drop (suc m) input)) [])

    go : (x : Bool) → ((d : Seat Seen) (f : Seat State) (rest : List ℕ) → IsBytes rest → AreSeatsAlike d f
        → AreSameCourses AreSeatsAlike (map (course_of (respond by_parts)) (stretches_within (respond by_parts) (resumed_seat by_parts) n d rest)) (map (course_of (respond by_history)) (stretches_within (respond by_history) (resumed_seat by_history) n f rest)))
        → AreSameCourses AreSeatsAlike (later_of x) (their_later x (course (respond by_parts) d input).used)
    go false more = tt
    go true more = more (resumed_seat by_parts (course (respond by_parts) d input).state) (resumed_seat by_history (course (respond by_history) f input).state) (drop (suc (course (respond by_parts) d input).used) input) (IsBytes-drop (suc (course (respond by_parts) d input).used) input b) (resumed_seats _ _ same.states)

closed_alike : (cs : List (Course (Seat Seen))) (ds : List (Course (Seat State))) → AreSameCourses AreSeatsAlike cs ds → AreSameCourses IsAlike (map (closed by_parts) cs) (map (closed by_history) ds)
closed_alike [] [] h = tt
closed_alike [] (d ∷ ds) h = absurd h
closed_alike (c ∷ cs) [] h = absurd h
closed_alike (c ∷ cs) (d ∷ ds) h = (record { replies = (h.0).replies; used = (h.0).used; stores = (h.0).stores; states = at_work_alike c.state d.state (h.0).states }, closed_alike cs ds h.1)

pub sessions_alike : (s : Seen) (t : State) (input : List ℕ) → IsBytes input → StandsFor s t → IsSane s → AreWritable s → AreSameCourses IsAlike (session s input) (session_in t input)
unfolding stretches
sessions_alike s t input b h sane writable =
    let n = suc (length input) in
    closed_alike (map (course_of (respond by_parts)) (stretches_within (respond by_parts) (resumed_seat by_parts) n (seated (sitting_at s)) input)) (map (course_of (respond by_history)) (stretches_within (respond by_history) (resumed_seat by_history) n (seated (sitting_at t)) input))
    (stretches_alike n (seated (sitting_at s)) (seated (sitting_at t)) input b
    (seated_alike (sitting_at s) (sitting_at t) (record { stands = h; sane = sane; writable = writable; entries = refl; cursors = refl; tells = refl; whole = record { undoable = tt; anchored = tt }; texts = tt; steps = record { same = refl; kept = tt; spelled = (tt, tt) } })))
