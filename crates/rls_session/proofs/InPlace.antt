-- A session is its replica's edits: the lines of a draft's edits do what making the draft does.
use Rattle.std.proofs.Common.{◌≡◌, ◌∙◌, ◌-◌, ℕ, zero, suc, Bool, true, false, List, [], ◌∷◌, ◌++◌, Option, Some, None, append_assoc, refl, sym, ap, subst}
use Rattle.std.specs.Prelude.{◌==◌, length, if◌then◌else◌}
use Rattle.std.proofs.lemmas.List.{append-nil}
use Rattle.rls_codec.specs.CodecLaws.{IsBytes}
use Rattle.rls_codec.proofs.Formats.{IsBytes-tail}
use Rattle.rls_model.specs.declared.edit.Edit.{Edit}
use Rattle.rls_model.specs.declared.edit.Edit.TheVariants as edits
use Rattle.rls_model.specs.declared.edit.EditError.{EditError}
use Rattle.rls_model.specs.Machine.{unless_fault}
use Rattle.rls_stages.specs.Lines.{allowed_by, line_fault_of}
use Rattle.rls_session.specs.declared.draft.Draft.{Draft}
use Rattle.rls_session.specs.declared.orders.Order.{Order}
use Rattle.rls_session.specs.declared.orders.Order.TheVariants as orders
use Rattle.rls_session.specs.Answers.{Kind, Sitting, answer, edited, made_sitting, with_state}
use Rattle.rls_session.specs.Courses.{course_from, go_on, holds_from, holds_on}
use Rattle.rls_session.specs.Drafts.{draft_of, merged}
use Rattle.rls_session.specs.InPlace.{AreNoChanges, IsNoChange, all_lines, asked_from, asked_on, draft_lines, in_place, in_place_of, state_after}
use Rattle.rls_session.specs.Replies.{noted_text}
use Rattle.rls_session.specs.Requests.{Does, Request, Takes, cut}
use Rattle.rls_session.specs.Seats.{Seat, at_work, begun_at, begun_draft, draft_fault, goes_before, goes_with, made_all, made_each, plan, replacing, respond, says_at, seat_of}
use Rattle.rls_session.proofs.Courses.{Answers}
use Rattle.rls_session.proofs.Given.{IsGiven, cut_given}

-- ---- requests, one after another

pub state_append : {S : Type 0} (answer : Answers S) (s : S) (rs qs : List Request) → state_after answer s (rs ++ qs) ≡ state_after answer (state_after answer s rs) qs
state_append answer s [] qs = refl
state_append answer s (r ∷ rs) qs = state_append answer (answer s r).state rs qs

-- this holds of the state before them, and of the one after each
abbrev pub Along : {S : Type 0} → Answers S → (S → Type 0) → S → List Request → Type 0
Along answer P s [] = P s
Along answer P s (r ∷ rs) = P s × Along answer P (answer s r).state rs

abbrev pub AreGiven : List Request → Type 0
AreGiven [] = Unit {0}
AreGiven (r ∷ rs) = IsGiven r × AreGiven rs

module _ {S : Type 0} (answer : Answers S) where
  -- a course comes to the state after its requests
  pub course_state : (n : ℕ) (s : S) (bytes : List ℕ) → (course_from answer n s bytes).state ≡ state_after answer s (asked_from n bytes)
  course_state n s [] = refl
  course_state (suc n) s (b ∷ bytes) = course_state n s bytes
  course_state zero s (b ∷ bytes) = go (cut (b ∷ bytes)).request (cut (b ∷ bytes)).size (λ t. course_state ((cut (b ∷ bytes)).size - 1) t bytes)
    where
      go : (r : Request) (size : ℕ) → ((t : S) → (course_from answer (size - 1) t bytes).state ≡ state_after answer t (asked_from (size - 1) bytes))
          → (go_on answer s r size (λ t. course_from answer (size - 1) t bytes)).state ≡ state_after answer s (asked_on r (asked_from (size - 1) bytes))
      go (Does orders.Quit) size rest = refl
      go (Does orders.Store) size rest = refl
      go (Does order) size rest = rest (answer s (Does order)).state
      go (Takes message) size rest = rest (answer s (Takes message)).state

  -- what holds of each request, and at the end, holds along them
  pub along : (P : S → Type 0) (n : ℕ) (s : S) (bytes : List ℕ) → holds_from answer (λ u r. P u) n s bytes → P (course_from answer n s bytes).state → Along answer P s (asked_from n bytes)
  along P n s [] h k = k
  along P (suc n) s (b ∷ bytes) h k = along P n s bytes h k
  along P zero s (b ∷ bytes) h k = go (cut (b ∷ bytes)).request (cut (b ∷ bytes)).size (λ t. along P ((cut (b ∷ bytes)).size - 1) t bytes) h k
    where
      go : (r : Request) (size : ℕ) → ((t : S) → holds_from answer (λ u r. P u) (size - 1) t bytes → P (course_from answer (size - 1) t bytes).state → Along answer P t (asked_from (size - 1) bytes))
          → holds_on answer (λ u r. P u) s r (λ t. holds_from answer (λ u r. P u) (size - 1) t bytes) → P (go_on answer s r size (λ t. course_from answer (size - 1) t bytes)).state → Along answer P s (asked_on r (asked_from (size - 1) bytes))
      go (Does orders.Quit) size rest h k = k
      go (Does orders.Store) size rest h k = k
      go (Does order) size rest h k = (h.0, rest (answer s (Does order)).state h.1 k)
      go (Takes message) size rest h k = (h.0, rest (answer s (Takes message)).state h.1 k)

pub asked_given : (n : ℕ) (bytes : List ℕ) → IsBytes bytes → AreGiven (asked_from n bytes)
asked_given n [] b = tt
asked_given (suc n) (x ∷ bytes) b = asked_given n bytes (IsBytes-tail x bytes b)
asked_given zero (x ∷ bytes) b = go (cut (x ∷ bytes)).request (asked_from ((cut (x ∷ bytes)).size - 1) bytes) (cut_given (x ∷ bytes) b) (asked_given ((cut (x ∷ bytes)).size - 1) bytes (IsBytes-tail x bytes b))
  where
    go : (r : Request) (rs : List Request) → IsGiven r → AreGiven rs → AreGiven (asked_on r rs)
    go (Does orders.Quit) rs g h = tt
    go (Does orders.Store) rs g h = tt
    go (Does order) rs g h = (g, h)
    go (Takes message) rs g h = (g, h)

-- ---- the lines of edits

-- an insertion or a deletion
abbrev pub IsOfLine : Edit → Type 0
IsOfLine (edits.Insert at cs) = Unit {0}
IsOfLine (edits.Delete at n) = Unit {0}
IsOfLine edits.Rename = ⊥
IsOfLine edits.Leave = ⊥

abbrev pub AreOfLines : List Edit → Type 0
AreOfLines [] = Unit {0}
AreOfLines (e ∷ es) = IsOfLine e × AreOfLines es

module _ {X : Type 0} (K : Kind X) where
  pub plan_lines : (s : X) (p : Draft) → AreOfLines (plan K s p)
  plan_lines s p = go (p.count == 0) (length p.text == 0)
    where
      both : (b : Bool) → AreOfLines (replacing b p)
      both true = (tt, (tt, tt))
      both false = (tt, (tt, tt))

      go : (a b : Bool) → AreOfLines (if a then (if b then [] else edits.Insert p.at p.text ∷ []) else if b then edits.Delete p.at p.count ∷ [] else replacing (goes_before K s p) p)
      go true true = tt
      go true false = (tt, tt)
      go false true = (tt, tt)
      go false false = both (goes_before K s p)

  -- none of these edits has a fault, one after another, and after none of them anything is released
  abbrev pub AreDone : X → List Edit → Type 0
  AreDone s [] = Unit {0}
  AreDone s (e ∷ es) = (K.fault s e ≡ None) × (K.released (K.edited s e) ≡ K.edited s e) × AreDone (K.edited s e) es

  abbrev pub IsDone : Seat X → Type 0
  IsDone b = AreDone (b.sitting).state (plan K (b.sitting).state b.draft)

  pub line_made : (d : Sitting X) (e : Edit) → K.fault d.state e ≡ None → K.released (K.edited d.state e) ≡ K.edited d.state e →
      let z = (edited K d (allowed_by K.fault d.state e)).state in with_state z (K.released z.state) ≡ made_sitting K d e
  line_made d e h k =
      ap (λ (f : Option EditError). let z = (edited K d (unless_fault (line_fault_of f) e)).state in with_state z (K.released z.state)) h
      ∙ ap (λ (s : X). with_state (made_sitting K d e) s) k

  lines_made : (es : List Edit) (d : Sitting X) → AreOfLines es → AreDone d.state es → state_after (answer K) d (all_lines es) ≡ made_each K d es
  unfolding answer
  lines_made [] d l w = refl
  lines_made (edits.Insert at cs ∷ es) d l w = ap (λ x. state_after (answer K) x (all_lines es)) (line_made d (edits.Insert at cs) w.0 w.1) ∙ lines_made es (made_sitting K d (edits.Insert at cs)) l.1 w.2
  lines_made (edits.Delete at n ∷ es) d l w = ap (λ x. state_after (answer K) x (all_lines es)) (line_made d (edits.Delete at n) w.0 w.1) ∙ lines_made es (made_sitting K d (edits.Delete at n)) l.1 w.2
  lines_made (edits.Rename ∷ es) d l w = absurd l.0
  lines_made (edits.Leave ∷ es) d l w = absurd l.0

  last_rests : (e : Edit) (es : List Edit) (d : Sitting X) → AreDone d.state (e ∷ es) → K.released (made_each K d (e ∷ es)).state ≡ (made_each K d (e ∷ es)).state
  last_rests e [] d w = w.1
  last_rests e (x ∷ es) d w = last_rests x es (made_sitting K d e) w.2

  all_made : (es : List Edit) (d : Sitting X) → AreDone d.state es → made_all K d es ≡ made_each K d es
  all_made [] d w = refl
  all_made (e ∷ es) d w = ap (λ (s : X). with_state (made_each K d (e ∷ es)) s) (last_rests e es d w)

  -- the lines of a draft make it
  pub draft_made : (b : Seat X) → IsDone b → state_after (answer K) b.sitting (draft_lines K b) ≡ at_work K b
  draft_made b w = let es = plan K (b.sitting).state b.draft in lines_made es b.sitting (plan_lines (b.sitting).state b.draft) w ∙ sym (all_made es b.sitting w)

  -- ---- all requests

  begun_sitting : (d : Sitting X) (c : Draft) → ((begun_at K d c).state).sitting ≡ d
  begun_sitting d c = go (draft_fault K d.state c)
    where
      go : (f : Option EditError) → ((begun_draft d c f).state).sitting ≡ d
      go None = refl
      go (Some e) = refl

  -- what stands in place of a request leads to the sitting of the seat after it
  placed_on : (b : Seat X) (r : Request) → IsDone b → state_after (answer K) b.sitting (in_place_of K b r) ≡ ((respond K b r).state).sitting
  placed_on b (Does (orders.Change at n cs)) w = go (goes_with K (b.sitting).state b.draft c)
    where
      c : Draft
      c = draft_of at n cs

      go : (x : Bool) → state_after (answer K) b.sitting (if x then [] else draft_lines K b) ≡ ((if x then says_at noted_text (seat_of b.sitting (merged b.draft c)) else begun_at K (at_work K b) c).state).sitting
      go true = refl
      go false = draft_made b w ∙ sym (begun_sitting (at_work K b) c)
  placed_on b (Does order) w = state_append (answer K) b.sitting (draft_lines K b) (Does order ∷ []) ∙ ap (λ x. (answer K x (Does order)).state) (draft_made b w)
  placed_on b (Takes message) w = state_append (answer K) b.sitting (draft_lines K b) (Takes message ∷ []) ∙ ap (λ x. (answer K x (Takes message)).state) (draft_made b w)

  pub all_placed : (rs : List Request) (b : Seat X) → Along (respond K) IsDone b rs → at_work K (state_after (respond K) b rs) ≡ state_after (answer K) b.sitting (in_place K b rs)
  all_placed [] b w = sym (draft_made b w)
  all_placed (r ∷ rs) b w =
      let next = (respond K b r).state in
      all_placed rs next w.1
      ∙ sym (state_append (answer K) b.sitting (in_place_of K b r) (in_place K next rs) ∙ ap (λ x. state_after (answer K) x (in_place K next rs)) (placed_on b r w.0))

  -- none of which is a change
  more_lines : (es : List Edit) (rs : List Request) → AreNoChanges rs → AreNoChanges (all_lines es ++ rs)
  more_lines [] rs h = h
  more_lines (edits.Insert at cs ∷ es) rs h = (tt, more_lines es rs h)
  more_lines (edits.Delete at n ∷ es) rs h = (tt, more_lines es rs h)
  more_lines (edits.Rename ∷ es) rs h = (tt, more_lines es rs h)
  more_lines (edits.Leave ∷ es) rs h = more_lines es rs h

  placed_plain : (b : Seat X) (r : Request) (rs : List Request) → AreNoChanges rs → AreNoChanges (in_place_of K b r ++ rs)
  placed_plain b (Does order) rs h = go order
    where
      es : List Edit
      es = plan K (b.sitting).state b.draft

      other : (r : Request) → IsNoChange r → AreNoChanges ((all_lines es ++ r ∷ []) ++ rs)
      other r n = subst AreNoChanges (sym (append_assoc (all_lines es) (r ∷ []) rs)) (more_lines es (r ∷ rs) (n, h))

      change : (x : Bool) → AreNoChanges ((if x then [] else draft_lines K b) ++ rs)
      change true = h
      change false = more_lines es rs h

      go : (order : Order) → AreNoChanges (in_place_of K b (Does order) ++ rs)
      go (orders.Change at n cs) = change (goes_with K (b.sitting).state b.draft (draft_of at n cs))
      go order = other (Does order) tt
  placed_plain b (Takes message) rs h = subst AreNoChanges (sym (append_assoc (draft_lines K b) (Takes message ∷ []) rs)) (more_lines (plan K (b.sitting).state b.draft) (Takes message ∷ rs) (tt, h))

  pub all_plain : (rs : List Request) (b : Seat X) → AreNoChanges (in_place K b rs)
  all_plain [] b = subst AreNoChanges (append-nil (draft_lines K b)) (more_lines (plan K (b.sitting).state b.draft) [] tt)
  all_plain (r ∷ rs) b = placed_plain b r (in_place K (respond K b r).state rs) (all_plain rs (respond K b r).state)
