-- Seats over what a replica consists of and over a history are alike: they answer the same from then on.
use Rattle.std.proofs.Common.{◌≡◌, ◌∙◌, ◌+◌, ◌-◌, ◌&&◌, nat_lt, ℕ, Bool, true, false, cond, eqb, List, [], ◌∷◌, ◌++◌, length, take, drop, Option, Some, None, refl, ap, subst}
use Rattle.std.proofs.lemmas.List.Elements.{All-append, All-drop, All-nil, All-take}
use Rattle.std.specs.Char.{IsScalar}
use Rattle.rls_ident.specs.declared.limits.TheConstants.{GREATEST_NUMBER}
use Rattle.rls_ident.proofs.Members.{and_right}
use Rattle.rls_model.specs.declared.edit.Edit.{Edit}
use Rattle.rls_model.specs.declared.edit.Edit.TheVariants.{Insert, Delete}
use Rattle.rls_model.specs.declared.edit.EditError.{EditError}
use Rattle.rls_model.specs.declared.edit.EditError.TheVariants.{NumbersSpent}
use Rattle.rls_model.specs.EditParts.{or_fault}
use Rattle.rls_model.specs.Receiving.{State}
use Rattle.rls_model.specs.WellFormed.{IsText}
use Rattle.rls_seen.specs.Edits.{edit_fault_over, made_over}
use Rattle.rls_seen.specs.Seen.{Seen, text_over}
use Rattle.rls_seen.specs.Stands.{StandsFor}
use Rattle.rls_seen.proofs.Editing.{edit_faults_alike, made_alike}
use Rattle.rls_seen.proofs.Keeping.{text_alike}
use Rattle.rls_stages.specs.Lines.{fault_in, text_in}
use Rattle.rls_session.specs.declared.draft.Draft.{Draft}
use Rattle.rls_session.specs.declared.orders.Order.TheVariants as orders
use Rattle.rls_session.specs.Answers.{Sitting, says}
use Rattle.rls_session.specs.Courses.{Answered}
use Rattle.rls_session.specs.Drafts.{draft_of, is_none, joins, merged}
use Rattle.rls_session.specs.Replies.{noted_text}
use Rattle.rls_session.specs.Requests.{Request, Does}
use Rattle.rls_session.specs.Seats.{IsDrafted, Seat, at_work, begun_at, begun_draft, changed, draft_fault, goes_before, goes_with, has_none, insertion_by, insertion_fault, is_before, made_all, made_each, making_fault, number_fault, plan, replacing, respond, says_at, seat_of, seated, tuples_at, tuples_by, worked}
use Rattle.rls_session.specs.Sessions.{by_history, by_parts}
use Rattle.rls_session.proofs.Agreeing.{answer_alike, made_almost, number_alike}
use Rattle.rls_session.proofs.AlikeSittings.{IsAlike, IsAlmost, almost, rested_alike}
use Rattle.rls_session.proofs.Drafting.{drafted_so}
use Rattle.rls_session.proofs.Fitting.{AreFit, made_draft}
use Rattle.rls_session.proofs.Given.{IsGiven}

-- the same is drafted, and can be made
pub record AreSeatsAlike (b : Seat Seen) (g : Seat State) : Type 0 where
  pub sittings : IsAlike b.sitting g.sitting
  pub draft : b.draft ≡ g.draft
  pub drafted : IsDrafted by_parts b
  pub text : IsText (b.draft).text

-- the same is answered, and what follows is alike
pub record AreAnsweredAlike (a : Answered (Seat Seen)) (b : Answered (Seat State)) : Type 0 where
  pub reply : a.reply ≡ b.reply
  pub states : AreSeatsAlike a.state b.state

pub seated_alike : (d : Sitting Seen) (f : Sitting State) → IsAlike d f → AreSeatsAlike (seated d) (seated f)
seated_alike d f h = record { sittings = h; draft = refl; drafted = refl; text = All-nil IsScalar }

-- ---- the edits of a draft

module _ (s : Seen) (t : State) (h : StandsFor s t) where
  tuples_alike : (at : ℕ) (cs : List ℕ) → tuples_at by_parts s at cs ≡ tuples_at by_history t at cs
  tuples_alike at cs = ap (λ f. tuples_by f (made_over s (Insert at cs))) (edit_faults_alike s t (Insert at cs) h) ∙ ap (tuples_by (fault_in t (Insert at cs))) (made_alike s t (Insert at cs) h)

  before_alike : (p : Draft) → goes_before by_parts s p ≡ goes_before by_history t p
  before_alike p = ap (λ m. is_before m (tuples_at by_parts s (p.at + p.count) p.text)) (tuples_alike p.at p.text) ∙ ap (is_before (tuples_at by_history t p.at p.text)) (tuples_alike (p.at + p.count) p.text)

  pub plan_alike : (p : Draft) → plan by_parts s p ≡ plan by_history t p
  plan_alike p = ap (λ before. cond (eqb p.count 0) (cond (eqb (length p.text) 0) [] (Insert p.at p.text ∷ [])) (cond (eqb (length p.text) 0) (Delete p.at p.count ∷ []) (replacing before p))) (before_alike p)

  numbers_alike : number_fault by_parts s ≡ number_fault by_history t
  numbers_alike = ap (λ n. cond (nat_lt n GREATEST_NUMBER) None (Some NumbersSpent)) (number_alike s t (Insert 0 []) h)

  insertions_alike : (p : Draft) → insertion_fault by_parts s p ≡ insertion_fault by_history t p
  insertions_alike p =
      let edit = insertion_by (goes_before by_history t p) p in
      ap (λ (f : Option EditError). cond (eqb (length p.text) 0) None f)
      (ap (λ before. or_fault (edit_fault_over s (insertion_by before p)) (number_fault by_parts s)) (before_alike p)
      ∙ (ap (λ f. or_fault f (number_fault by_parts s)) (edit_faults_alike s t edit h) ∙ ap (or_fault (fault_in t edit)) numbers_alike))

  pub draft_faults_alike : (p : Draft) → draft_fault by_parts s p ≡ draft_fault by_history t p
  draft_faults_alike p =
      ap (λ f. cond (eqb p.count 0) f (or_fault (edit_fault_over s (Delete p.at p.count)) (insertion_fault by_parts s p))) (edit_faults_alike s t (Insert p.at p.text) h)
      ∙ ap (λ (f : Option EditError). cond (eqb p.count 0) (fault_in t (Insert p.at p.text)) f)
      (ap (λ f. or_fault f (insertion_fault by_parts s p)) (edit_faults_alike s t (Delete p.at p.count) h) ∙ ap (or_fault (fault_in t (Delete p.at p.count))) (insertions_alike p))

  making_alike : (p : Draft) → making_fault by_parts s p ≡ making_fault by_history t p
  making_alike p = ap (λ (f : Option EditError). cond (is_none p) None f) (draft_faults_alike p)

  goes_alike : (p c : Draft) → goes_with by_parts s p c ≡ goes_with by_history t p c
  goes_alike p c =
      ap (λ (cs : List ℕ). joins (length cs) p c && has_none (making_fault by_parts s (merged p c))) (text_alike s t h)
      ∙ ap (λ f. joins (length (text_in t)) p c && has_none f) (making_alike (merged p c))

-- ---- a draft is made

each_almost : (es : List Edit) (d : Sitting Seen) (f : Sitting State) → AreFit d.state es → IsAlmost d f → IsAlmost (made_each by_parts d es) (made_each by_history f es)
each_almost [] d f w h = h
each_almost (e ∷ es) d f w h = each_almost es _ _ w.2 (made_almost d f e h w.0 w.1)

all_alike : (es : List Edit) (d : Sitting Seen) (f : Sitting State) → AreFit d.state es → IsAlike d f → IsAlike (made_all by_parts d es) (made_all by_history f es)
all_alike [] d f w h = h
all_alike (e ∷ es) d f w h = (rested_alike (says [] (made_each by_parts d (e ∷ es))) (says [] (made_each by_history f (e ∷ es))) (record { reply = refl; states = each_almost (e ∷ es) d f w (almost d f h) })).states

pub at_work_alike : (b : Seat Seen) (g : Seat State) → AreSeatsAlike b g → IsAlike (at_work by_parts b) (at_work by_history g)
at_work_alike b g h =
    let d = b.sitting in
    let f = g.sitting in
    let k = h.sittings in
    let fit = (made_draft d b.draft k.sane h.text h.drafted).fit in
    subst (λ (p : Draft). IsAlike (at_work by_parts b) (made_all by_history f (plan by_history f.state p))) h.draft
    (subst (λ (es : List Edit). IsAlike (at_work by_parts b) (made_all by_history f es)) (plan_alike d.state f.state k.stands b.draft) (all_alike (plan by_parts d.state b.draft) d f fit k))

-- ---- changes

has_none_is : (f : Option EditError) → has_none f ≡ true → f ≡ None
has_none_is None e = refl
has_none_is (Some x) e = absurd (cc)

-- the text of a draft in which a change is
merged_text : (p c : Draft) → IsText p.text → IsText c.text → IsText (merged p c).text
merged_text p c h k =
    let back = drop ((c.at + c.count) - p.at) p.text in
    All-append IsScalar (take (c.at - p.at) p.text) (c.text ++ back) (All-take IsScalar (c.at - p.at) p.text h) (All-append IsScalar c.text back k (All-drop IsScalar ((c.at + c.count) - p.at) p.text h))

begun_alike : (d : Sitting Seen) (f : Sitting State) (c : Draft) → IsText c.text → IsAlike d f → AreAnsweredAlike (begun_at by_parts d c) (begun_at by_history f c)
begun_alike d f c w h = subst (λ (x : Option EditError). AreAnsweredAlike (begun_at by_parts d c) (begun_draft f c x)) (draft_faults_alike d.state f.state h.stands c) (go (draft_fault by_parts d.state c) refl)
  where
    go : (x : Option EditError) → draft_fault by_parts d.state c ≡ x → AreAnsweredAlike (begun_draft d c x) (begun_draft f c x)
    go None e = record { reply = refl; states = record { sittings = h; draft = refl; drafted = drafted_so by_parts d.state c e; text = w } }
    go (Some x) e = record { reply = refl; states = seated_alike d f h }

changed_alike : (b : Seat Seen) (g : Seat State) (c : Draft) → IsText c.text → AreSeatsAlike b g → AreAnsweredAlike (changed by_parts b c) (changed by_history g c)
changed_alike b g c w h =
    subst (λ (x : Bool). AreAnsweredAlike (changed by_parts b c) (cond x (says_at noted_text (seat_of f (merged g.draft c))) (begun_at by_history (at_work by_history g) c)))
    (goes_alike s f.state k.stands b.draft c ∙ ap (λ (p : Draft). goes_with by_history f.state p c) h.draft) (go (goes_with by_parts s b.draft c) refl)
  where
    f : Sitting State
    f = g.sitting

    s : Seen
    s = (b.sitting).state

    k : IsAlike b.sitting g.sitting
    k = h.sittings

    go : (x : Bool) → goes_with by_parts s b.draft c ≡ x
        → AreAnsweredAlike (cond x (says_at noted_text (seat_of b.sitting (merged b.draft c))) (begun_at by_parts (at_work by_parts b) c)) (cond x (says_at noted_text (seat_of f (merged g.draft c))) (begun_at by_history (at_work by_history g) c))
    go true e = record {
      reply = refl;
      states = record {
        sittings = k;
        draft = ap (λ (p : Draft). merged p c) h.draft;
        drafted = has_none_is (making_fault by_parts s (merged b.draft c)) (and_right (joins (length (text_over s)) b.draft c) (has_none (making_fault by_parts s (merged b.draft c))) e);
        text = merged_text b.draft c h.text w;
      };
    }
    go false e = begun_alike (at_work by_parts b) (at_work by_history g) c w (at_work_alike b g h)

worked_alike : (b : Seat Seen) (g : Seat State) (r : Request) → IsGiven r → AreSeatsAlike b g → AreAnsweredAlike (worked by_parts b r) (worked by_history g r)
worked_alike b g r w h = let a = answer_alike (at_work by_parts b) (at_work by_history g) r w (at_work_alike b g h) in record { reply = a.reply; states = seated_alike _ _ a.states }

-- ---- all requests

pub respond_alike : (b : Seat Seen) (g : Seat State) (r : Request) → IsGiven r → AreSeatsAlike b g → AreAnsweredAlike (respond by_parts b r) (respond by_history g r)
respond_alike b g (Does (orders.Change at n cs)) w h = changed_alike b g (draft_of at n cs) w h
respond_alike b g r w h = worked_alike b g r w h
