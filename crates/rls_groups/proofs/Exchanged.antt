-- What `send` prints is sent, and what `take` reads is received.
use Rattle.std.proofs.Common.{◌≡◌, ◌∙◌, ◌++◌, ℕ, List, [], ◌∷◌, refl, sym, ap, subst, append_assoc}
use Rattle.std.specs.Prelude.{Option, Some, None}
use Rattle.rls_ops.specs.Spelling.{message_bytes}
use Rattle.rls_model.specs.History.{History}
use Rattle.rls_model.specs.Laws.{IsAt, IsFront}
use Rattle.rls_model.specs.Receiving.{State}
use Rattle.rls_model.specs.Taking.{message_for}
use Rattle.rls_model.specs.Worlds.{empty_world}
use Rattle.rls_model.proofs.HistoryNumbers.{front_self, front_trans}
use Rattle.rls_top.specs.declared.words.Command.{Command}
use Rattle.rls_top.specs.declared.words.Command.TheVariants.{OnFile}
use Rattle.rls_top.specs.declared.words.FileCommand.TheVariants.{Take}
use Rattle.rls_top.specs.Due.{Due, Makes, NoCommand, Stops}
use Rattle.rls_top.specs.Groups.{due_of}
use Rattle.rls_top.specs.Words.{command_of}
use Rattle.rls_groups.specs.Events.{Commands, Deed, Event, deed_of}
use Rattle.rls_groups.specs.Groups.{GoesOn, HasReport, IsCommanded, IsHeld, IsMeant, IsTaken, WasHeld}
use Rattle.rls_groups.specs.Lives.{Life, after_deed, begun, deed_in, lived}
use Rattle.rls_groups.specs.Rounds.{AreEvents, IsReceived, IsSent, SendsTell, TakesReceive, TellsAll, after}
use Rattle.rls_groups.proofs.Groups.{all_events, begun_lives}
use Rattle.rls_groups.proofs.Law.{each_meant}
use Rattle.rls_groups.proofs.Ordered.{held}
use Rattle.rls_groups.proofs.Rounds.{Moments, at_first, front_of_group, grows, lived_both, moments, printed_by, there_before}
use Rattle.rls_groups.proofs.Staying.{Follows, has_or_holds, is_there}

-- ---- beginnings of a list of events

pub begin : (g n : ℕ) (xs bs ys : List Event) → xs ++ bs ≡ ys → AreEvents g n ys → AreEvents g n xs
begin g n xs bs ys q p = record { large = p.large; some = p.some; few = p.few; events = front_of_group (begun g n) xs bs ((subst (AreEvents g n) (sym q) p).events) }

between : (g n : ℕ) (xs bs ys : List Event) → xs ++ bs ≡ ys → AreEvents g n ys → Moments g n (after g n xs) (after g n ys)
between g n xs bs ys q p = subst (λ (zs : List Event). Moments g n (after g n xs) (after g n zs)) q (moments g n xs bs (subst (AreEvents g n) (sym q) p))

-- ---- what a take makes

has_report : (o : Option Due) (P : List ℕ → Type 0) → HasReport o P → (report : List ℕ) × P report
has_report None P h = absurd h
has_report (Some NoCommand) P h = absurd h
has_report (Some (Makes stored report refused)) P h = (report, h)
has_report (Some (Stops e)) P h = absurd h

takes : (l : Life) (i : ℕ) (t : State) (words : List (List ℕ)) (input : List ℕ) (deed : Deed) (u : State) → deed ≡ Commands words input → command_of words ≡ Some (OnFile Take) → IsMeant l.group i t deed u → IsTaken t input u
takes l i t words input deed u d c m =
    let r = has_report (due_of l.group i words input) (λ report. IsCommanded (command_of words) input report t u) (subst (λ (y : Deed). IsMeant l.group i t y u) d m) in
    subst (λ (y : Option Command). IsCommanded y input r.0 t u) c r.1

-- ---- what is sent and received by a moment

module _ (g n : ℕ) (es fs xs gs zs : List Event) (q1 : es ++ fs ≡ xs) (q2 : xs ++ gs ≡ zs) (p : AreEvents g n zs) where
  -- of a history that goes on from the member's
  pub sent_then : (i to : ℕ) (t : State) (H : History) → IsHeld (after g n xs) i t → IsFront t.history H → WasHeld (after g n zs) i H → TellsAll H to → IsSent (after g n es) (after g n zs) i to (message_bytes (message_for H to))
  sent_then i to t H h since until tells =
      let x = between g n es fs xs q1 (begin g n xs gs zs q2 p) in
      let first = there_before g n (after g n es) (after g n xs) x i t h in
      record {
        first = first.0;
        first_is = first.1;
        sender = H;
        since = front_trans (first.0).history t.history H (grows g n (after g n es) (after g n xs) x i first.0 t first.1 h) since;
        until = until;
        tells = tells;
        message = refl;
      }

module _ (g n : ℕ) (xs gs zs : List Event) (q : xs ++ gs ≡ zs) (p : AreEvents g n zs) (i : ℕ) (u : State) (h : IsHeld (after g n xs) i u) where
  x : Moments g n (after g n xs) (after g n zs)
  x = between g n xs gs zs q p

  last : (t : State) × IsAt (x.last) i t × Follows u t
  last = x.goes i u (at_first g n (after g n xs) (after g n zs) x i u h)

  last_is : IsHeld (after g n zs) i last.0
  last_is = held g n (after g n zs) x.last x.later_lives i last.0 last.1

  -- what the member had then it had
  pub had_then : (H : History) → IsFront H u.history → WasHeld (after g n zs) i H
  had_then H f = (last.0, last_is, front_trans H u.history (last.0).history f (last.2).0)

  -- what was taken by then is received
  pub received_then : (bytes : List ℕ) (t a : State) → IsTaken t bytes a → GoesOn a u → IsReceived (after g n zs) i bytes
  received_then bytes t a taken on = record {
    before = t;
    after = a;
    taken = taken;
    last = last.0;
    last_is = last_is;
    goes_on = (
      front_trans a.history u.history (last.0).history on.0 (last.2).0,
      λ o k. has_or_holds last.0 o ((((x.later_lives).matches).file i last.0 last.1).2).storable.rest ((last.2).1 o (is_there u o (on.1 o k))),
    );
  }

-- right after an event
pub then : (g n : ℕ) (ys : List Event) (e : Event) (i : ℕ) (u : State) → IsHeld (lived (after g n ys) e) i u → IsHeld (after g n (ys ++ (e ∷ []))) i u
then g n ys e i u h = subst (λ (l : Life). IsHeld l i u) (sym (lived_both (begun g n) ys (e ∷ []))) h

-- ---- the laws of commands

pub sends_tell : SendsTell
sends_tell g n es fs xs gs zs i to t words input report q1 q2 p h command due tells =
    subst (λ bytes. IsSent (after g n es) (after g n zs) i to bytes) (sym (printed_by g n xs i to t words input report (begin g n xs gs zs q2 p) h command due))
    (sent_then g n es fs xs gs zs q1 q2 p i to t t.history h (front_self t.history) (had_then g n xs gs zs q2 p i t h t.history (front_self t.history)) tells)

pub takes_receive : TakesReceive
takes_receive g n ys hs zs e words input s q p done deed take stored =
    let r = all_events g n (begun g n) (empty_world g n) zs (begun_lives g n p.large p.few) p.events in
    let m = each_meant g n zs p.events r.0 r.3 ys hs e s q done stored in
    let l = after g n ys in
    let made = deed_in l e in
    let u = after_deed made m.0 in
    received_then g n (ys ++ (e ∷ [])) hs zs (append_assoc ys (e ∷ []) hs ∙ q) p e.member u (then g n ys e e.member u m.2) input m.0 u
    (takes l e.member m.0 words input made u (ap (deed_of (l.desks e.member)) deed) take m.3) (front_self u.history, λ o k. k)
