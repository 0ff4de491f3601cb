-- What is shown after a change, and after a draft is made.
use Rattle.std.proofs.Common.{◌≡◌, ◌∙◌, ◌+◌, ◌≤◌, Bool, true, false, cond, List, [], ◌∷◌, length, Option, Some, None, refl, ap, arith, inl, inr}
use Rattle.rls_ident.proofs.Members.{and_left}
use Rattle.rls_model.specs.declared.edit.Edit.{Edit}
use Rattle.rls_model.specs.declared.edit.EditError.{EditError}
use Rattle.rls_model.specs.WellFormed.{IsText}
use Rattle.rls_seen.specs.Edits.{edited}
use Rattle.rls_seen.specs.Over.{released_all}
use Rattle.rls_seen.specs.Sane.{IsSane}
use Rattle.rls_seen.specs.Seen.{Seen, text_over}
use Rattle.rls_stages.specs.Lines.{line_fault}
use Rattle.rls_session.specs.declared.draft.Draft.{Draft}
use Rattle.rls_session.specs.Answers.{Kind, Sitting}
use Rattle.rls_session.specs.Drafts.{draft_of, is_none, joins, merged, shown_by}
use Rattle.rls_session.specs.Replies.{noted_text}
use Rattle.rls_session.specs.Seats.{Seat, at_work, begun_at, begun_draft, changed, draft_fault, goes_with, has_none, made_all, made_each, making_fault, plan, says_at, seat_of, shown}
use Rattle.rls_session.specs.SessionLaws.{AreFaultless, ChangesShow, DraftsAreMade, IsUnawaited, ShowsChange}
use Rattle.rls_session.specs.Sessions.{by_parts}
use Rattle.rls_session.proofs.Drafting.{draft_within, joins_low, total_is}
use Rattle.rls_session.proofs.Drafts.{merges_shown}
use Rattle.rls_session.proofs.Fitting.{AreFit, made_draft}

are_faultless : (s : Seen) (es : List Edit) → AreFit s es → AreFaultless s es
are_faultless s [] w = tt
are_faultless s (e ∷ es) w = (w.1, are_faultless (edited s e) es w.2)

pub drafts_are_made : DraftsAreMade
drafts_are_made d p sane text h = let m = made_draft d p sane text h in (are_faultless d.state (plan by_parts d.state p) m.fit, m.shown)

-- ---- changes

-- the text once the draft is made
worked_text : (b : Seat Seen) → IsSane (b.sitting).state → IsText (b.draft).text → making_fault by_parts (b.sitting).state b.draft ≡ None → IsUnawaited b → text_over (at_work by_parts b).state ≡ shown_by b.draft (text_over (b.sitting).state)
worked_text b sane text h none = go (plan by_parts (b.sitting).state b.draft) (made_draft b.sitting b.draft sane text h).shown none
  where
    d : Sitting Seen
    d = b.sitting

    go : (es : List Edit) → text_over (made_each by_parts d es).state ≡ shown_by b.draft (text_over d.state) → released_all (made_each by_parts d es).state ≡ (made_each by_parts d es).state → text_over (made_all by_parts d es).state ≡ shown_by b.draft (text_over d.state)
    go [] e none = e
    go (x ∷ xs) e none = ap text_over none ∙ e

-- Over any kind of state, where the draft lies within the text, and nothing but its edits happens when it is made, a change is shown: it goes on
-- with the draft, or begins the next.
module _ {X : Type 0} (K : Kind X) (b : Seat X) (c : Draft) (within : is_none b.draft ≡ false → (b.draft).at + (b.draft).count ≤ length (K.text (b.sitting).state)) (same : K.text (at_work K b).state ≡ shown K b) where
  begun_shows : (f : Option EditError) → ShowsChange K b c (begun_draft (at_work K b) c f)
  begun_shows None = inl (refl, ap (shown_by c) same)
  begun_shows (Some e) = inr (line_fault e, refl, same)

  pub change_shows : ShowsChange K b c (changed K b c)
  change_shows = go (goes_with K s b.draft c) refl
    where
      s : X
      s = (b.sitting).state

      go : (x : Bool) → goes_with K s b.draft c ≡ x → ShowsChange K b c (cond x (says_at noted_text (seat_of b.sitting (merged b.draft c))) (begun_at K (at_work K b) c))
      go true e =
          let k = joins_low (length (K.text s)) b.draft c (and_left (joins (length (K.text s)) b.draft c) (has_none (making_fault K s (merged b.draft c))) e) in
          inl (refl, merges_shown b.draft c (K.text s) (within k.0) k.1 k.2)
      go false e = begun_shows (draft_fault K (at_work K b).state c)

pub changes_shown : ChangesShow
changes_shown b at count text sane spelled h none =
    let s = (b.sitting).state in
    change_shows by_parts b (draft_of at count text) (λ some. let within = draft_within s b.draft some h in omega (arith, within, total_is s)) (worked_text b sane spelled h none)
