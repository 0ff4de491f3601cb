-- All members of a world, and all sent messages, have one group.
use Rattle.std.proofs.Common.{◌≡◌, ℕ, zero, suc, List, [], ◌∷◌, ◌++◌, length, refl, sym, ap, ◌∙◌, subst, inl, inr, ⊎_elim}
use Rattle.std.specs.Prelude.{slice_get, Option, Some, None}
use Rattle.rls_ident.specs.Lists.{IsIn}
use Rattle.rls_ident.proofs.Members.{snoc_split}
use Rattle.rls_ops.specs.declared.message.Message.{Message}
use Rattle.rls_model.specs.declared.edit.Edit.{Edit}
use Rattle.rls_model.specs.declared.event.Event.{Event}
use Rattle.rls_model.specs.declared.event.Event.TheVariants as events
use Rattle.rls_model.specs.declared.event.StepError.{StepError}
use Rattle.rls_model.specs.History.{History, Then, group_of, members_of}
use Rattle.rls_model.specs.History as history
use Rattle.rls_model.specs.Receiving.{State}
use Rattle.rls_model.specs.Taking.{Limit, message_for, message_told, take_within}
use Rattle.rls_model.specs.EditRun.{edit_within}
use Rattle.rls_model.specs.Worlds.{World, empty_world, fault_of, with_state, edit_at, send_at, deliver_at, step_of, unless, happens, Happening, run}
use Rattle.rls_model.specs.Laws.{IsAt, IsFront, OneGroup}
use Rattle.rls_model.proofs.OnePlace.{length-set}
use Rattle.rls_model.proofs.HistoryNumbers.{front_members}
use Rattle.rls_model.proofs.WorldsInvariant.{at_split}
use Rattle.rls_model.proofs.WorldsLaws.{fresh, fresh_at, fresh_length, good_after}
use Rattle.rls_model.proofs.WorldsPast.{editing_goes_on, taking_goes_on}

front_group : (P H : History) → IsFront P H → group_of P ≡ group_of H
front_group P (history.Fresh group me members) h = ap group_of h
front_group P (Then G e) (inl h) = ap group_of h
front_group P (Then G e) (inr h) = front_group P G h

-- all have this group and this count of members
pub record Belongs (g n : ℕ) (w : World) : Type 0 where
  pub state : (i : ℕ) (s : State) → IsAt w i s → (group_of s.history ≡ g) × (members_of s.history ≡ n)
  pub message : (m : Message) → IsIn m w.sent → (m.group ≡ g) × (m.members ≡ n)
  pub count : length w.states ≡ n

pub set_belongs : (g n : ℕ) (w : World) (i : ℕ) (s t : State) → Belongs g n w → IsAt w i s → IsFront s.history t.history → Belongs g n (with_state w i t)
set_belongs g n w i s t b h f = record {
  state = λ j u k. ⊎_elim (λ e. let r = b.state i s h in subst (λ (x : State). (group_of x.history ≡ g) × (members_of x.history ≡ n)) e.1 (sym (front_group s.history t.history f) ∙ r.0, sym (front_members s.history t.history f) ∙ r.1))
      (λ q. b.state j u q) (at_split w i j s t u h k);
  message = b.message;
  count = length-set w.states i t ∙ b.count;
}

-- a message of a member, whatever it takes to be known
posted_belongs : (g n : ℕ) (w : World) (s : State) (m : Message) (i : ℕ) → Belongs g n w → IsAt w i s → m.group ≡ group_of s.history → m.members ≡ members_of s.history → Belongs g n (record w { sent = w.sent ++ m ∷ [] })
posted_belongs g n w s m i b h group members = record {
  state = b.state;
  message = λ x p. ⊎_elim (λ q. b.message x q) (λ q. let r = b.state i s h in subst (λ (y : Message). (y.group ≡ g) × (y.members ≡ n)) q (group ∙ r.0, members ∙ r.1)) (snoc_split x m w.sent p);
  count = b.count;
}

pub sent_belongs : (g n : ℕ) (w : World) (s : State) (to i : ℕ) → Belongs g n w → IsAt w i s → Belongs g n (record w { sent = w.sent ++ message_for s.history to ∷ [] })
unfolding message_for
sent_belongs g n w s to i b h = posted_belongs g n w s (message_for s.history to) i b h refl refl

pub told_belongs : (g n : ℕ) (w : World) (s : State) (to : ℕ) (told : List ℕ) (i : ℕ) → Belongs g n w → IsAt w i s → Belongs g n (record w { sent = w.sent ++ message_told s.history to told ∷ [] })
unfolding message_told
told_belongs g n w s to told i b h = posted_belongs g n w s (message_told s.history to told) i b h refl refl

edit_belongs : (g n : ℕ) (limit : Limit) (w : World) (i : ℕ) (edit : Edit) (m : Option State) → slice_get w.states i ≡ m → Belongs g n w → Belongs g n (edit_at limit w i m edit)
edit_belongs g n limit w i edit None e b = b
edit_belongs g n limit w i edit (Some s) e b = set_belongs g n w i s (edit_within limit s edit).state b e (editing_goes_on limit s edit)

send_belongs : (g n : ℕ) (limit : Limit) (w : World) (i to : ℕ) (m : Option State) → slice_get w.states i ≡ m → Belongs g n w → Belongs g n (send_at limit w m to)
send_belongs g n None w i to None e b = b
send_belongs g n (Some zero) w i to None e b = b
send_belongs g n (Some (suc k)) w i to None e b = b
send_belongs g n None w i to (Some s) e b = sent_belongs g n w s to i b e
send_belongs g n (Some zero) w i to (Some s) e b = b
send_belongs g n (Some (suc k)) w i to (Some s) e b = sent_belongs g n w s to i b e

deliver_belongs : (g n : ℕ) (limit : Limit) (w : World) (i : ℕ) (a : Option State) (c : Option Message) → slice_get w.states i ≡ a → Belongs g n w → Belongs g n (deliver_at limit w i a c)
deliver_belongs g n limit w i None None e b = b
deliver_belongs g n limit w i None (Some m) e b = b
deliver_belongs g n limit w i (Some s) None e b = b
deliver_belongs g n limit w i (Some s) (Some m) e b = set_belongs g n w i s (take_within limit s m).state b e (taking_goes_on limit s m)

step_belongs : (g n : ℕ) (limit : Limit) (w : World) (e : Event) → Belongs g n w → Belongs g n (step_of limit w e)
step_belongs g n limit w (events.Edit i edit) b = edit_belongs g n limit w i edit (slice_get w.states i) refl b
step_belongs g n limit w (events.Send from to) b = send_belongs g n limit w from to (slice_get w.states from) refl b
step_belongs g n limit w (events.Deliver k to) b = deliver_belongs g n limit w to (slice_get w.states to) (slice_get w.sent k) refl b
step_belongs g n limit w (events.Drop i) b = b

happens_belongs : (g n : ℕ) (limit : Limit) (w : World) (e : Event) → Belongs g n w → Belongs g n (happens limit w e)
unfolding happens
happens_belongs g n limit w e b = go (fault_of w e)
  where
    go : (f : Option StepError) → Belongs g n (unless f w (step_of limit w e))
    go None = step_belongs g n limit w e b
    go (Some x) = b

run_belongs : (g n : ℕ) (w : World) (hs : List Happening) → Belongs g n w → Belongs g n (run w hs)
run_belongs g n w [] b = b
run_belongs g n w (h ∷ hs) b = run_belongs g n (happens h.limit w h.event) hs (happens_belongs g n h.limit w h.event b)

pub empty_belongs : (g n : ℕ) → Belongs g n (empty_world g n)
unfolding fresh
empty_belongs g n = record {
  state = λ i s h. let r = (fresh_at g n n i s h).1 in (ap (λ (x : State). group_of x.history) (sym r), ap (λ (x : State). members_of x.history) (sym r));
  message = λ m p. absurd p;
  count = fresh_length g n n;
}

pub law : OneGroup
law w hs a =
    let b : Belongs a.0 a.1 w = subst (Belongs a.0 a.1) a.6 (run_belongs a.0 a.1 (empty_world a.0 a.1) hs (empty_belongs a.0 a.1)) in
    let g = good_after w hs a in (
      a.0,
      λ i s h. ((b.state i s h).0, (g.member i s h).members, (g.member i s h).me),
      λ m p. ((b.message m p).0, (b.message m p).1 ∙ sym b.count),
    )
