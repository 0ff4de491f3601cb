-- A command of a member of a group: the history after it, and what it made of it.
use Rattle.std.proofs.Common.{◌≡◌, ◌∙◌, ℕ, List, [], ◌∷◌, length, Option, Some, None, refl, sym, ap, subst}
use Rattle.std.specs.Prelude.{slice_get, slice_set}
use Rattle.rls_ident.specs.Lists.{IsIn}
use Rattle.rls_ops.specs.declared.message.Message.{Message}
use Rattle.rls_codec.specs.CodecLaws.{IsMessage}
use Rattle.rls_codec.specs.Reading.{message_of}
use Rattle.rls_codec.proofs.MessageFormats.{message_again}
use Rattle.rls_model.specs.declared.edit.Edit.TheVariants as edits
use Rattle.rls_model.specs.declared.receipt.Taken.{Taken}
use Rattle.rls_model.specs.Laws.{IsAt}
use Rattle.rls_model.specs.Receiving.{State}
use Rattle.rls_model.specs.Taking.{take_message}
use Rattle.rls_model.specs.Worlds.{World}
use Rattle.rls_model.proofs.NothingReady.{IsAtRest, taken_done}
use Rattle.rls_model.proofs.OnePlace.{set_get}
use Rattle.rls_model.proofs.WorldsArrived.{message_stays, message_there}
use Rattle.rls_model.proofs.WorldsInvariant.{IsGood}
use Rattle.rls_seen.specs.Seen.{Seen}
use Rattle.rls_report.specs.Reports.{edit_text}
use Rattle.rls_stages.specs.Lines.{allowed_by, fault_in, line_by, text_in}
use Rattle.rls_top.specs.declared.words.Command.{Command}
use Rattle.rls_top.specs.declared.words.Command.TheVariants.{OnFile}
use Rattle.rls_top.specs.declared.words.FileCommand.TheVariants.{Edit, Take, Leave}
use Rattle.rls_top.specs.Due.{Due, Makes, NoCommand, Stops}
use Rattle.rls_top.specs.Groups.{stored_in}
use Rattle.rls_top.proofs.GroupCommands.{Comes, MakesOf, same_ok}
use Rattle.rls_groups.specs.Groups.{AreMade, HasReport, IsCommanded, IsTaken}
use Rattle.rls_groups.specs.Lives.{after_message, after_script, after_words, run_to, states_with}
use Rattle.rls_groups.proofs.Lines.{lines_made}
use Rattle.rls_groups.proofs.Staying.{Follows, follows_self, has_or_holds}
use Rattle.rls_model.proofs.WorldsPast.{taking_goes_on}

-- ---- the history after it

-- a state where another comes in its place
pub set_at : (ss : List State) (i : ℕ) (t : State) (s : Seen) (f : State → State) → slice_get ss i ≡ Some t → states_with ss i (Some s) f ≡ slice_set ss i (f t)
set_at ss i t s f e = rw e refl

makes_after : (c : Option Command) (input : List ℕ) (t : State) (report : List ℕ) (u : State) → MakesOf c input t report u → after_words c input t ≡ u
makes_after (Some (OnFile Edit)) input t report u k = ap (after_script t) k.2 ∙ (ap (run_to t) k.4 ∙ k.5)
makes_after (Some (OnFile Leave)) input t report u k = ap (run_to t) k.2 ∙ k.3
makes_after (Some (OnFile Take)) input t report u k = ap (after_message t) (message_again input k.0 k.1) ∙ k.2
makes_after other input t report u k = absurd k

-- the states after it
pub comes_states : (c : Option Command) (input : List ℕ) (ss : List State) (i : ℕ) (t u : State) (d : Due) → slice_get ss i ≡ Some t → Comes c input t d u → slice_set ss i u ≡ states_with ss i (stored_in d) (after_words c input)
comes_states c input ss i t u NoCommand e k = ap (slice_set ss i) (sym k) ∙ set_get ss i t e
comes_states c input ss i t u (Makes None report refused) e k = ap (slice_set ss i) (sym k) ∙ set_get ss i t e
comes_states c input ss i t u (Makes (Some s) report refused) e k = ap (slice_set ss i) (sym (makes_after c input t report u k)) ∙ sym (set_at ss i t s (after_words c input) e)
comes_states c input ss i t u (Stops x) e k = ap (slice_set ss i) (sym k) ∙ set_get ss i t e

-- ---- what it made of the history

no_more : (n : ℕ) (c : Taken) (report : List ℕ) → report ≡ edit_text n c.released (length c.refused) → c ≡ record { applied = 0; released = 0; repeated = 0; held = 0; refused = [] } → report ≡ edit_text n 0 0
no_more n c report e f = e ∙ ap (λ (x : Taken). edit_text n x.released (length x.refused)) f

module _ (w : World) (i : ℕ) (t : State) (good : IsGood w) (h : IsAt w i t) (rest : IsAtRest t) where
  -- a message that was sent
  pub message_taken : (bytes : List ℕ) (m : Message) → IsIn m w.sent → IsMessage bytes m → IsTaken t bytes (take_message t m).state
  message_taken bytes m p is = (m, is, refl, λ o u. has_or_holds (take_message t m).state o (taken_done t m rest).1 (message_there w i t m o good h p u))

  commanded : (c : Option Command) (input : List ℕ) (report : List ℕ) (u : State) → (c ≡ Some (OnFile Take) → (m : Message) × IsIn m w.sent × IsMessage input m) → MakesOf c input t report u → IsCommanded c input report t u
  commanded (Some (OnFile Edit)) input report u given k =
      let r = lines_made (line_by fault_in text_in) w i t h k.1 k.0 good rest k.3 k.4 in
      (k.0, k.2, no_more (length k.0) (k.1).counts report k.6 r.1, subst (AreMade (line_by fault_in text_in) t k.0) k.5 r.0)
  commanded (Some (OnFile Leave)) input report u given k =
      let r = lines_made (allowed_by fault_in) w i t h k.0 (edits.Leave ∷ []) good rest k.1 k.2 in
      (no_more 1 (k.0).counts report k.4 r.1, subst (AreMade (allowed_by fault_in) t (edits.Leave ∷ [])) k.3 r.0)
  commanded (Some (OnFile Take)) input report u given k =
      let y = given refl in
      let one : y.0 ≡ k.0 = same_ok (message_of input) y.0 k.0 (message_again input y.0 y.2) (message_again input k.0 k.1) in
      subst (IsTaken t input) (ap (λ (m : Message). (take_message t m).state) one ∙ k.2) (message_taken input y.0 y.1 y.2)
  commanded other input report u given k = absurd k

  -- what was there stays there
  makes_follow : (c : Option Command) (input : List ℕ) (report : List ℕ) (u : State) → (c ≡ Some (OnFile Take) → (m : Message) × IsIn m w.sent × IsMessage input m) → MakesOf c input t report u → Follows t u
  makes_follow (Some (OnFile Edit)) input report u given k = subst (Follows t) k.5 (lines_made (line_by fault_in text_in) w i t h k.1 k.0 good rest k.3 k.4).2
  makes_follow (Some (OnFile Leave)) input report u given k = subst (Follows t) k.3 (lines_made (allowed_by fault_in) w i t h k.0 (edits.Leave ∷ []) good rest k.1 k.2).2
  makes_follow (Some (OnFile Take)) input report u given k =
      let y = given refl in
      let one : y.0 ≡ k.0 = same_ok (message_of input) y.0 k.0 (message_again input y.0 y.2) (message_again input k.0 k.1) in
      subst (Follows t) (ap (λ (m : Message). (take_message t m).state) one ∙ k.2) (taking_goes_on None t y.0, λ o p. message_stays w i t y.0 o good h y.1 p)
  makes_follow other input report u given k = absurd k

  pub command_follows : (c : Option Command) (input : List ℕ) (d : Due) (u : State) → (c ≡ Some (OnFile Take) → (m : Message) × IsIn m w.sent × IsMessage input m) → Comes c input t d u → Follows t u
  command_follows c input NoCommand u given k = subst (Follows t) k (follows_self t)
  command_follows c input (Makes None report refused) u given k = subst (Follows t) k (follows_self t)
  command_follows c input (Makes (Some s) report refused) u given k = makes_follow c input report u given k
  command_follows c input (Stops x) u given k = subst (Follows t) k (follows_self t)

  -- by what is called for
  pub command_meant : (c : Option Command) (input : List ℕ) (d : Due) (s : Seen) (u : State) → (c ≡ Some (OnFile Take) → (m : Message) × IsIn m w.sent × IsMessage input m) → stored_in d ≡ Some s → Comes c input t d u →
      HasReport (Some d) (λ report. IsCommanded c input report t (after_words c input t))
  command_meant c input NoCommand s u given e k = absurd (cc)
  command_meant c input (Makes None report refused) s u given e k = absurd (cc)
  command_meant c input (Makes (Some x) report refused) s u given e k = subst (IsCommanded c input report t) (sym (makes_after c input t report u k)) (commanded c input report u given k)
  command_meant c input (Stops x) s u given e k = absurd (cc)
