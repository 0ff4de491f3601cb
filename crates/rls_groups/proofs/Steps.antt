-- A member's state on the way through a session, in a good world: each step keeps the world good, and what may be stored.
use Rattle.std.proofs.Common.{◌≡◌, ◌∙◌, ℕ, zero, suc, List, [], ◌∷◌, ◌++◌, length, Option, Some, None, refl, sym, ap, subst, inr, append_assoc}
use Rattle.std.specs.Prelude.{slice_set}
use Rattle.rls_ident.specs.Lists.{IsIn}
use Rattle.rls_ident.proofs.Members.{in_left}
use Rattle.rls_ops.specs.declared.message.Message.{Message}
use Rattle.rls_codec.specs.CodecLaws.{IsMessage}
use Rattle.rls_model.specs.declared.edit.Edit.{Edit}
use Rattle.rls_model.specs.declared.edit.EditError.{EditError}
use Rattle.rls_model.specs.Editing.{edit_fault, made}
use Rattle.rls_model.specs.History.{members_of}
use Rattle.rls_model.specs.Laws.{IsAt, IsFront, AreEdits}
use Rattle.rls_model.specs.Receiving.{State, accept, after_release, release_all, released_times}
use Rattle.rls_model.specs.Taking.{message_for, message_told, started, take_message}
use Rattle.rls_model.specs.WellFormed.{IsEdit}
use Rattle.rls_model.specs.Worlds.{World, with_state}
use Rattle.rls_model.proofs.HistoryNumbers.{front_self}
use Rattle.rls_model.proofs.MemberSteps.{edited_going, taken_going}
use Rattle.rls_model.proofs.NothingReady.{IsAtRest, edited_done, made_alone}
use Rattle.rls_model.proofs.OnePlace.{get_set_same, set_set}
use Rattle.rls_model.proofs.WorldsCommands.{Stands, with_done}
use Rattle.rls_model.proofs.WorldsGroup.{sent_belongs, set_belongs, told_belongs}
use Rattle.rls_model.proofs.WorldsInvariant.{IsGood}
use Rattle.rls_model.proofs.WorldsLaws.{posts, sends, tells}
use Rattle.rls_model.proofs.WorldsPast.{taking_goes_on}
use Rattle.rls_model.proofs.WorldsArrived.{edit_stays}
use Rattle.rls_file.specs.Storable.{IsStorable}
use Rattle.rls_file.proofs.HistoryRuns.{taken_storable}
use Rattle.rls_file.proofs.HistorySteps.{edited_storing, stored, storing}
use Rattle.rls_undo.specs.Undoing.{performed, unless}
use Rattle.rls_groups.proofs.Staying.{Follows, follows_self, follows_trans}

-- ---- at rest

times_rest : (n : ℕ) (t : State) → IsAtRest t → released_times n t ≡ t
times_rest zero t e = refl
times_rest (suc n) t e = ap (λ o. released_times n (after_release t o)) e ∙ times_rest n t e

-- nothing is released
pub rests : (t : State) → IsAtRest t → release_all t ≡ t
unfolding release_all
rests t e = times_rest (length t.waiting) t e

-- ---- in a world

-- the member has come to this state, which may be stored, and has sent this
pub record IsUnderway (g n : ℕ) (w : World) (i : ℕ) (t : State) (out : List Message) : Type 0 where
  pub stands : Stands g n (with_done w i t out)
  pub storable : IsStorable t

module _ (g n : ℕ) (w : World) (i : ℕ) (s : State) (h : IsAt w i s) where
  pub at : (t : State) (out : List Message) → IsAt (with_done w i t out) i t
  at t out = get_set_same w.states i s t h

  onward : (t u : State) (out : List Message) → with_state (with_done w i t out) i u ≡ with_done w i u out
  onward t u out = ap (λ (xs : List State). record { states = xs; sent = w.sent ++ out }) (set_set w.states i t u)

  module _ (t : State) (out : List Message) (k : IsUnderway g n w i t out) where
    abbrev v : World
    v = with_done w i t out

    moves : (u : State) → IsGood (with_state v i u) → IsFront t.history u.history → IsStorable u → IsUnderway g n w i u out
    moves u good front storable = record { stands = subst (Stands g n) (onward t u out) (record { good = good; belongs = set_belongs g n v i t u (k.stands).belongs (at t out) front }); storable = storable }

    -- an edit without a fault adds its operation alone
    pub edits : (edit : Edit) → IsEdit edit → edit_fault t.history edit ≡ None → IsUnderway g n w i (accept t (made t.history edit)) out
    edits edit e f =
        let u = accept t (made t.history edit) in
        let good = (k.stands).good in
        let alone = made_alone v i t edit good (at t out) (k.storable).rest in
        moves u (subst (λ (x : State). IsGood (with_state v i x)) alone (edited_going v i t edit None good (at t out) e f).good) (inr (front_self t.history))
        (stored (members_of t.history) u (edited_storing (members_of t.history) (started None t) edit (storing t k.storable) e f) (subst IsAtRest alone (edited_done t edit).1))

    -- a message that was sent is taken, and none of its operations refused
    pub takes : (m : Message) (bytes : List ℕ) → IsIn m w.sent → IsMessage bytes m → IsUnderway g n w i (take_message t m).state out × ((take_message t m).counts.refused ≡ [])
    takes m bytes p is =
        let sent = in_left m w.sent out p in
        let going = taken_going v i t m None (k.stands).good (at t out) sent in
        let many : m.members ≡ members_of t.history = (((k.stands).belongs).message m sent).1 ∙ sym (((k.stands).belongs).state i t (at t out)).1 in
        (moves (take_message t m).state going.good (taking_goes_on None t m) (taken_storable t bytes m is many k.storable), going.clean)

    -- a message is made
    posts_on : (m : Message) → Stands g n (record v { sent = v.sent ++ m ∷ [] }) → IsUnderway g n w i t (out ++ m ∷ [])
    posts_on m s =
        let same : record { states = v.states; sent = v.sent ++ m ∷ [] } ≡ with_done w i t (out ++ m ∷ []) = ap (λ (ms : List Message). record { states = slice_set w.states i t; sent = ms }) (append_assoc w.sent out (m ∷ [])) in
        record { stands = subst (Stands g n) same s; storable = k.storable }

    pub sends_on : (to : ℕ) → IsUnderway g n w i t (out ++ message_for t.history to ∷ [])
    sends_on to =
        let m = message_for t.history to in
        posts_on m (record { good = posts v m (k.stands).good (sends v i t to (k.stands).good (at t out)); belongs = sent_belongs g n v t to i (k.stands).belongs (at t out) })

    -- for a member that told these counts, be they what it told or not
    pub tells_on : (to : ℕ) (told : List ℕ) → IsUnderway g n w i t (out ++ message_told t.history to told ∷ [])
    tells_on to told =
        let m = message_told t.history to told in
        posts_on m (record { good = posts v m (k.stands).good (tells v i t to told (k.stands).good (at t out)); belongs = told_belongs g n v t to told i (k.stands).belongs (at t out) })

  -- edits, one after another, up to the first that is refused
  pub performs : (es : List Edit) (t : State) (out : List Message) → AreEdits es → IsUnderway g n w i t out → IsUnderway g n w i (performed t es) out × Follows t (performed t es)
  performs [] t out a k = (k, follows_self t)
  performs (e ∷ es) t out a k = go (edit_fault t.history e) refl (λ l. performs es (accept t (made t.history e)) out a.1 l)
    where
      u : State
      u = accept t (made t.history e)

      go : (f : Option EditError) → edit_fault t.history e ≡ f → (IsUnderway g n w i u out → IsUnderway g n w i (performed u es) out × Follows u (performed u es)) → IsUnderway g n w i (unless f t (performed u es)) out × Follows t (unless f t (performed u es))
      go None q rest =
          let r = rest (edits t out k e a.0 q) in
          (r.0, follows_trans t u (performed u es) (inr (front_self t.history), λ o p. edit_stays (with_done w i t out) i t e o (k.stands).good (at t out) p) r.1)
      go (Some x) q rest = (k, follows_self t)
