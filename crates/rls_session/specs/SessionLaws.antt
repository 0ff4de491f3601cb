-- The statements of the laws.
use Rattle.std.specs.Prelude.{◌≡◌, ◌≤◌, ◌++◌, ◌⊎◌, ℕ, List, [], ◌∷◌, None, codes, length}
use Rattle.rls_codec.specs.CodecLaws.{IsBytes}
use Rattle.rls_model.specs.Receiving.{State}
use Rattle.rls_seen.specs.Sane.{IsSane}
use Rattle.rls_seen.specs.Seen.{Seen, text_over}
use Rattle.rls_seen.specs.Stands.{StandsFor}
use Rattle.rls_file.specs.Stored.{AreWritable}
use Rattle.rls_undo.specs.UndoLaws.{AreWhole}
use Rattle.rls_steps.specs.GroundLaws as steps
use Rattle.rls_anchor.specs.Anchors.{anchor_over}
use Rattle.rls_places.specs.PlacesLaws.{FitsPlace}
use Rattle.rls_places.specs.Words.{place_word}
use Rattle.rls_model.specs.declared.edit.Edit.{Edit}
use Rattle.rls_model.specs.WellFormed.{IsText}
use Rattle.rls_report.specs.declared.failures.LineFault.{LineFault}
use Rattle.rls_seen.specs.Edits.{edit_fault_over, edited}
use Rattle.rls_seen.specs.Over.{released_all}
use Rattle.rls_session.specs.declared.draft.Draft.{Draft}
use Rattle.rls_session.specs.declared.orders.Order.TheVariants.{Change, Locate}
use Rattle.rls_session.specs.Answers.{Kind, Sitting, answer, spelled}
use Rattle.rls_session.specs.Courses.{Answered, course, holds}
use Rattle.rls_session.specs.Desks.{AreKept, IsWhole}
use Rattle.rls_session.specs.Drafts.{draft_of, shown_by}
use Rattle.rls_session.specs.InPlace.{AreNoChanges, IsNoChange, asked, in_place, state_after}
use Rattle.rls_session.specs.Orders.{order_of}
use Rattle.rls_session.specs.Replies.{anchor_text, cursor_text, located_text, noted_text, refused_text}
use Rattle.rls_session.specs.Requests.{Does, Request}
use Rattle.rls_session.specs.Seats.{IsDrafted, Seat, at_work, made_each, making_fault, plan, respond, says_at, seated, shown}
use Rattle.rls_session.specs.Sessions.{by_parts}

-- A line `a AT` is answered with a word, a line `l` with that word asks for the place that was written, and where nothing has happened since it
-- is answered with AT.
abbrev pub ToldIsFound : Type 0
ToldIsFound = (s : Seen) (at : ℕ) → IsSane s → at ≤ length s.text → FitsPlace (anchor_over s at) → let place = anchor_over s at in
    (spelled by_parts s at ≡ anchor_text place) × (order_of (codes "l " ++ place_word place) ≡ Locate place) × (located_text (by_parts.located s place) ≡ cursor_text at)

-- these edits have no fault, one after another
abbrev pub AreFaultless : Seen → List Edit → Type 0
AreFaultless s [] = Unit {0}
AreFaultless s (edit ∷ edits) = (edit_fault_over s edit ≡ None) × AreFaultless (edited s edit) edits

-- What was kept as a draft is never refused when it is made: its edits have no fault, one after another, and the text after them is the one that
-- was shown.
abbrev pub DraftsAreMade : Type 0
DraftsAreMade = (d : Sitting Seen) (p : Draft) → IsSane d.state → IsText p.text → making_fault by_parts d.state p ≡ None →
    AreFaultless d.state (plan by_parts d.state p) × (text_over (made_each by_parts d (plan by_parts d.state p)).state ≡ shown_by p (text_over d.state))

-- nothing that waits becomes ready when the draft is made
abbrev pub IsUnawaited : Seat Seen → Type 0
IsUnawaited b = let made = (made_each by_parts b.sitting (plan by_parts (b.sitting).state b.draft)).state in released_all made ≡ made

-- a change was noted, and is shown; or it was refused, and what is shown is as before
abbrev pub ShowsChange : {X : Type 0} → Kind X → Seat X → Draft → Answered (Seat X) → Type 0
ShowsChange K b c a =
    ((a.reply ≡ noted_text) × (shown K a.state ≡ shown_by c (shown K b)))
    ⊎ ((fault : LineFault) × (a.reply ≡ refused_text fault) × (shown K a.state ≡ shown K b))

-- After each change the text that is shown is the one before with that replacement, or if it was refused the one before.
abbrev pub ChangesShow : Type 0
ChangesShow = (b : Seat Seen) (at count : ℕ) (text : List ℕ) → IsSane (b.sitting).state → IsText (b.draft).text → IsDrafted by_parts b → IsUnawaited b →
    ShowsChange by_parts b (draft_of at count text) (respond by_parts b (Does (Change at count text)))

-- The replica stands for this history, and may be stored; the session goes back to nothing that was dropped, and to texts that consist of
-- characters. So it is at the beginning of each session, and after each request.
pub record IsOfHistory (d : Sitting Seen) (t : State) : Type 0 where
  pub stands : StandsFor d.state t
  pub sane : IsSane d.state
  pub writable : AreWritable d.state
  pub whole : IsWhole d.state d.entries d.cursors
  pub texts : AreWhole d.entries
  pub kept : AreKept d.state (d.recorded).epoch (d.recorded).names
  pub spelled : steps.IsWhole d.recorded

-- the same sitting at a history
abbrev pub sitting_in : Sitting Seen → State → Sitting State
sitting_in d t = record { state = t; entries = d.entries; cursors = d.cursors; recorded = d.recorded; tells = d.tells }

-- ---- drafts as edits

-- nothing that waits becomes ready by one of these edits, made one after another
abbrev pub AreUnawaited : Seen → List Edit → Type 0
AreUnawaited s [] = Unit {0}
AreUnawaited s (edit ∷ edits) = (released_all (edited s edit) ≡ edited s edit) × AreUnawaited (edited s edit) edits

-- so it is of the edits of a draft
abbrev pub IsDraftUnawaited : Seat Seen → Type 0
IsDraftUnawaited b = AreUnawaited (b.sitting).state (plan by_parts (b.sitting).state b.draft)

-- A session does to its replica, and to all else that it works on, what the session without `e` does in which each draft's edits stand in its place,
-- as lines `i` and `d`. So all other requests are answered the same. In a group nothing ever waits for these edits.
abbrev pub ChangesAreEdits : Type 0
ChangesAreEdits = (d : Sitting Seen) (t : State) (input : List ℕ) → IsOfHistory d t → IsBytes input →
    let first = seated d in let b = (course (respond by_parts) first input).state in
    holds (respond by_parts) (λ c request. IsDraftUnawaited c) first input → IsDraftUnawaited b →
    let lines = in_place by_parts first (asked input) in let e = state_after (answer by_parts) d lines in
    AreNoChanges lines × (at_work by_parts b ≡ e) × ((request : Request) → IsNoChange request → let a = answer by_parts e request in respond by_parts b request ≡ says_at a.reply (seated a.state))

-- without `e` too, a session comes to the sitting after the requests of its input
abbrev pub CoursesAreRequests : Type 0
CoursesAreRequests = (d : Sitting Seen) (input : List ℕ) → (course (answer by_parts) d input).state ≡ state_after (answer by_parts) d (asked input)
