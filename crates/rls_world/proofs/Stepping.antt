-- Steps of a world, from what became of one replica.
use Rattle.std.proofs.Common.{◌≡◌, ◌∙◌, ℕ, ◌+◌, ◌<◌, ◌++◌, List, [], ◌∷◌, length, refl, sym, ap, subst, inl, inr, ⊎_elim, arith, Some, None, Result, Ok, Err, if◌then◌else◌}
use Rattle.std.specs.Prelude.{All, ◌^◌, slice_get, slice_set}
use Rattle.rls_ident.proofs.Members.{in_split, lt_test}
use Rattle.rls_ops.specs.declared.message.Message.{Message}
use Rattle.rls_model.specs.declared.edit.Edit.{Edit}
use Rattle.rls_model.specs.declared.edit.EditError.{EditError}
use Rattle.rls_model.specs.declared.event.Event.TheVariants as events
use Rattle.rls_model.specs.declared.event.Outcome.{Outcome}
use Rattle.rls_model.specs.declared.event.Outcome.TheVariants as outcomes
use Rattle.rls_model.specs.declared.event.StepError.{StepError}
use Rattle.rls_model.specs.declared.event.StepError.TheVariants as faults
use Rattle.rls_model.specs.declared.receipt.Taken.{Taken}
use Rattle.rls_model.specs.Worlds.{or_else, of_edit}
use Rattle.rls_model.specs.WellFormed.{AreOps}
use Rattle.rls_model.proofs.OnePlace.{length-set, set_get}
use Rattle.rls_seen.specs.Seen.{Seen, members, own_count}
use Rattle.rls_seen.specs.Edits.{edited, made_over, edit_fault_over}
use Rattle.rls_seen.specs.Kept.{dropped}
use Rattle.rls_seen.specs.Messages.{message_beyond, message_over, taken_over, taken_of, IsPartTaken}
use Rattle.rls_seen.specs.Over.{released_all, released_times}
use Rattle.rls_world.specs.Events.{member_fault, message_fault, edit_fault_at, fault_over, with_replica, edited_at, sent_at, delivered_at, dropped_at, happened, edit_outcome, deliver_outcome, outcome_over, IsPartEdited, HasPart, PartTaken, IsStep, IsEdited, IsDelivered, IsPut}
use Rattle.rls_world.specs.Seen.{WorldSeen, IsOfGroup, AreOfGroup, IsSent, IsOneGroup}
use Rattle.rls_world.proofs.Groups.{IsAlike, alike_same, alike_on, accepted_alike, times_alike, all_alike, taken_alike, part_alike, group_at, group_set, of_group}

-- ---- one group

pub with_one_group : (s : WorldSeen) (group i : ℕ) (r u : Seen) → IsOneGroup s group → slice_get s.replicas i ≡ Some r → IsAlike r u → IsOneGroup (with_replica s i u) group
with_one_group s group i r u g e a =
    let n = sym (length-set s.replicas i u) in
    record {
      replicas = subst (λ n. AreOfGroup group n (slice_set s.replicas i u)) n
          (group_set group (length s.replicas) s.replicas i u g.replicas (of_group group (length s.replicas) r u a (group_at group (length s.replicas) s.replicas i r g.replicas e)));
      sent = λ m p. subst (λ n. IsSent group n m) n (g.sent m p);
    }

pub sent_one_group : (s : WorldSeen) (group : ℕ) (m : Message) → IsOneGroup s group → IsSent group (length s.replicas) m → IsOneGroup (record { replicas = s.replicas; sent = s.sent ++ m ∷ [] }) group
sent_one_group s group m g h = record {
  replicas = g.replicas;
  sent = λ x p. ⊎_elim (λ q. g.sent x q) (λ q. ⊎_elim (λ e. subst (IsSent group (length s.replicas)) e h) (λ z. absurd z) q) (in_split x s.sent (m ∷ []) p);
}

-- ---- faults

pub member_there : (s : WorldSeen) (i : ℕ) → i < length s.replicas → member_fault s i ≡ None
member_there s i l = ap (λ b. if b then None else Some (faults.NoMember i)) (lt_test i (length s.replicas) l)

pub message_there : (s : WorldSeen) (k : ℕ) → k < length s.sent → message_fault s k ≡ None
message_there s k l = ap (λ b. if b then None else Some (faults.NoMessage k)) (lt_test k (length s.sent) l)

-- ---- the steps

pub drop_step : (s new : WorldSeen) (i : ℕ) (r u : Seen) → i < length s.replicas → slice_get s.replicas i ≡ Some r → u ≡ dropped r → new ≡ with_replica s i u → IsStep s (events.Drop i) (Ok outcomes.Dropped) new
unfolding happened outcome_over
drop_step s new i r u l e h n = (member_there s i l, refl, n ∙ (ap (with_replica s i) h ∙ ap (dropped_at s i) (sym e)))

pub send_step : (s new : WorldSeen) (from to k : ℕ) (r : Seen) (m : Message) → from < length s.replicas → to < length s.replicas → slice_get s.replicas from ≡ Some r → m ≡ message_over r to → k ≡ length s.sent
    → new ≡ record { replicas = s.replicas; sent = s.sent ++ m ∷ [] } → IsStep s (events.Send from to) (Ok (outcomes.Sent k)) new
unfolding happened outcome_over
send_step s new from to k r m a b e h f n = (
  ap (λ x. or_else x (member_fault s to)) (member_there s from a) ∙ member_there s to b,
  ap outcomes.Sent f,
  n ∙ (ap (λ x. record { replicas = s.replicas; sent = s.sent ++ x ∷ [] }) h ∙ ap (λ o. sent_at s o to) (sym e)),
)

edit_there : (s : WorldSeen) (i : ℕ) (edit : Edit) (r : Seen) → i < length s.replicas → slice_get s.replicas i ≡ Some r → fault_over s (events.Edit i edit) ≡ of_edit (edit_fault_over r edit)
edit_there s i edit r l e = ap (λ x. or_else x (edit_fault_at (slice_get s.replicas i) edit)) (member_there s i l) ∙ ap (λ o. edit_fault_at o edit) e

pub edit_step : (s new : WorldSeen) (i n : ℕ) (edit : Edit) (r u : Seen) → i < length s.replicas → slice_get s.replicas i ≡ Some r → edit_fault_over r edit ≡ None → n ≡ own_count r + 1 → u ≡ released_all (edited r edit)
    → new ≡ with_replica s i u → IsStep s (events.Edit i edit) (Ok (outcomes.Made n)) new
unfolding happened outcome_over
edit_step s new i n edit r u l e f m h k = (
  edit_there s i edit r l e ∙ ap of_edit f,
  ap outcomes.Made m ∙ ap edit_outcome (sym e),
  k ∙ (ap (with_replica s i) h ∙ ap (λ o. edited_at s i o edit) (sym e)),
)

-- the edit is refused
pub edit_refused : (s new : WorldSeen) (i : ℕ) (edit : Edit) (r : Seen) (x : EditError) → i < length s.replicas → slice_get s.replicas i ≡ Some r → edit_fault_over r edit ≡ Some x → new ≡ s → IsStep s (events.Edit i edit) (Err (faults.Edit x)) new
edit_refused s new i edit r x l e f n = (edit_there s i edit r l e ∙ ap of_edit f, n)

deliver_there : (s : WorldSeen) (k to : ℕ) → to < length s.replicas → k < length s.sent → fault_over s (events.Deliver k to) ≡ None
deliver_there s k to a b = ap (λ x. or_else x (message_fault s k)) (member_there s to a) ∙ message_there s k b

pub deliver_step : (s new : WorldSeen) (k to : ℕ) (r u : Seen) (m : Message) (t : Taken) → to < length s.replicas → k < length s.sent → slice_get s.replicas to ≡ Some r → slice_get s.sent k ≡ Some m → t ≡ taken_of (taken_over r m)
    → u ≡ (taken_over r m).state → new ≡ with_replica s to u → IsStep s (events.Deliver k to) (Ok (outcomes.Took t)) new
unfolding happened outcome_over
deliver_step s new k to r u m t a b e f h j n = (
  deliver_there s k to a b,
  ap outcomes.Took h ∙ (ap (λ o. deliver_outcome o (Some m)) (sym e) ∙ ap (deliver_outcome (slice_get s.replicas to)) (sym f)),
  n ∙ (ap (with_replica s to) j ∙ (ap (λ o. delivered_at s to o (Some m)) (sym e) ∙ ap (delivered_at s to (slice_get s.replicas to)) (sym f))),
)

-- only some of the steps were made
pub deliver_cut : (s new : WorldSeen) (k to : ℕ) (r u : Seen) (m : Message) → to < length s.replicas → k < length s.sent → slice_get s.replicas to ≡ Some r → slice_get s.sent k ≡ Some m → IsPartTaken r m u
    → new ≡ with_replica s to u → IsStep s (events.Deliver k to) (Err faults.OutOfMemory) new
deliver_cut s new k to r u m a b e f p n =
    inr (deliver_there s k to a b, subst (λ o. HasPart s to o (PartTaken (slice_get s.sent k)) new) (sym e) (u, subst (λ o. PartTaken o r u) (sym f) p, n))

-- whether or not the edit has a fault
pub edit_cut : (s new : WorldSeen) (i : ℕ) (edit : Edit) (r u : Seen) → i < length s.replicas → slice_get s.replicas i ≡ Some r → IsPartEdited r edit u → new ≡ with_replica s i u → IsStep s (events.Edit i edit) (Err faults.OutOfMemory) new
edit_cut s new i edit r u l e (inl p) n = inl (n ∙ (ap (with_replica s i) p ∙ ap (λ rs. record { replicas = rs; sent = s.sent }) (set_get s.replicas i r e)))
edit_cut s new i edit r u l e (inr p) n =
    inr (edit_there s i edit r l e ∙ ap of_edit p.0, subst (λ o. HasPart s i o (λ x y. IsPartEdited x edit y) new) (sym e) (u, inr p, n))

-- ---- messages

pub message_sent : (group n to : ℕ) (r : Seen) (m : Message) → IsOfGroup group n r → m ≡ message_over r to → r.acks.me < members r → All (λ k. k < 2 ^ 32) m.vector → AreOps m.ops → IsSent group n m
unfolding message_beyond
message_sent group n to r m h e l v o =
    let vector : length m.vector ≡ n = ap (λ (x : Message). length x.vector) e ∙ h.members_are in
    let from : m.from ≡ r.acks.me = ap (λ (x : Message). x.from) e in
    let most = h.members_are in
    record {
      group_is = ap (λ (x : Message). x.group) e ∙ h.group_is;
      members_are = ap (λ (x : Message). x.members) e ∙ h.members_are;
      whole = record { from = omega arith; vector = (vector, v); ops = o };
    }

-- ---- by the answer

pub unchanged : (s : WorldSeen) (i : ℕ) (r u : Seen) → slice_get s.replicas i ≡ Some r → u ≡ r → with_replica s i u ≡ s
unchanged s i r u e h = ap (with_replica s i) h ∙ ap (λ rs. record { replicas = rs; sent = s.sent }) (set_get s.replicas i r e)

pub edited_step : (s : WorldSeen) (i : ℕ) (edit : Edit) (r u : Seen) (a : Result Outcome StepError) → i < length s.replicas → slice_get s.replicas i ≡ Some r → IsEdited r edit a u → IsStep s (events.Edit i edit) a (with_replica s i u)
edited_step s i edit r u (Ok (outcomes.Made n)) l e h = edit_step s (with_replica s i u) i n edit r u l e h.0 h.1 h.2 refl
edited_step s i edit r u (Ok (outcomes.Sent k)) l e h = absurd h
edited_step s i edit r u (Ok (outcomes.Took t)) l e h = absurd h
edited_step s i edit r u (Ok outcomes.Dropped) l e h = absurd h
edited_step s i edit r u (Err faults.OutOfMemory) l e h = edit_cut s (with_replica s i u) i edit r u l e h refl
edited_step s i edit r u (Err (faults.Edit x)) l e h = edit_refused s (with_replica s i u) i edit r x l e h.0 (unchanged s i r u e h.1)
edited_step s i edit r u (Err (faults.NoMember k)) l e h = absurd h
edited_step s i edit r u (Err (faults.NoMessage k)) l e h = absurd h

pub delivered_step : (s : WorldSeen) (k i : ℕ) (r u : Seen) (m : Message) (a : Result Outcome StepError) → i < length s.replicas → k < length s.sent → slice_get s.replicas i ≡ Some r → slice_get s.sent k ≡ Some m → IsDelivered r m a u
    → IsStep s (events.Deliver k i) a (with_replica s i u)
delivered_step s k i r u m (Ok (outcomes.Made n)) b c e f h = absurd h
delivered_step s k i r u m (Ok (outcomes.Sent n)) b c e f h = absurd h
delivered_step s k i r u m (Ok (outcomes.Took t)) b c e f h = deliver_step s (with_replica s i u) k i r u m t b c e f h.0 h.1 refl
delivered_step s k i r u m (Ok outcomes.Dropped) b c e f h = absurd h
delivered_step s k i r u m (Err faults.OutOfMemory) b c e f (inl h) = inl (unchanged s i r u e h)
delivered_step s k i r u m (Err faults.OutOfMemory) b c e f (inr h) = deliver_cut s (with_replica s i u) k i r u m b c e f h refl
delivered_step s k i r u m (Err (faults.Edit x)) b c e f h = absurd h
delivered_step s k i r u m (Err (faults.NoMember n)) b c e f h = absurd h
delivered_step s k i r u m (Err (faults.NoMessage n)) b c e f h = absurd h

pub put_step : (s : WorldSeen) (from to : ℕ) (r : Seen) (m : Message) (ms : List Message) (a : Result Outcome StepError) → from < length s.replicas → to < length s.replicas → slice_get s.replicas from ≡ Some r → m ≡ message_over r to → IsPut s.sent m a ms
    → IsStep s (events.Send from to) a (record { replicas = s.replicas; sent = ms })
put_step s from to r m ms (Ok (outcomes.Made n)) b c e f h = absurd h
put_step s from to r m ms (Ok (outcomes.Sent k)) b c e f h = send_step s (record { replicas = s.replicas; sent = ms }) from to k r m b c e f h.0 (ap (λ ns. record { replicas = s.replicas; sent = ns }) h.1)
put_step s from to r m ms (Ok (outcomes.Took t)) b c e f h = absurd h
put_step s from to r m ms (Ok outcomes.Dropped) b c e f h = absurd h
put_step s from to r m ms (Err faults.OutOfMemory) b c e f h = inl (ap (λ ns. record { replicas = s.replicas; sent = ns }) h)
put_step s from to r m ms (Err (faults.Edit x)) b c e f h = absurd h
put_step s from to r m ms (Err (faults.NoMember n)) b c e f h = absurd h
put_step s from to r m ms (Err (faults.NoMessage n)) b c e f h = absurd h

-- ---- one group again

edited_alike : (r u : Seen) (edit : Edit) (a : Result Outcome StepError) → IsEdited r edit a u → IsAlike r u
unfolding made_over
edited_alike r u edit (Ok (outcomes.Made n)) h = subst (IsAlike r) (sym h.2) (alike_on r (edited r edit) (released_all (edited r edit)) (accepted_alike r (made_over r edit)) (all_alike (edited r edit)))
edited_alike r u edit (Ok (outcomes.Sent k)) h = absurd h
edited_alike r u edit (Ok (outcomes.Took t)) h = absurd h
edited_alike r u edit (Ok outcomes.Dropped) h = absurd h
edited_alike r u edit (Err faults.OutOfMemory) (inl h) = subst (IsAlike r) (sym h) (alike_same r)
edited_alike r u edit (Err faults.OutOfMemory) (inr h) = subst (IsAlike r) (sym h.1.1) (alike_on r (edited r edit) (released_times h.1.0 (edited r edit)) (accepted_alike r (made_over r edit)) (times_alike h.1.0 (edited r edit)))
edited_alike r u edit (Err (faults.Edit x)) h = subst (IsAlike r) (sym h.1) (alike_same r)
edited_alike r u edit (Err (faults.NoMember k)) h = absurd h
edited_alike r u edit (Err (faults.NoMessage k)) h = absurd h

delivered_alike : (r u : Seen) (m : Message) (a : Result Outcome StepError) → IsDelivered r m a u → IsAlike r u
delivered_alike r u m (Ok (outcomes.Made n)) h = absurd h
delivered_alike r u m (Ok (outcomes.Sent k)) h = absurd h
delivered_alike r u m (Ok (outcomes.Took t)) h = subst (IsAlike r) (sym h.1) (taken_alike None r m)
delivered_alike r u m (Ok outcomes.Dropped) h = absurd h
delivered_alike r u m (Err faults.OutOfMemory) (inl h) = subst (IsAlike r) (sym h) (alike_same r)
delivered_alike r u m (Err faults.OutOfMemory) (inr h) = part_alike r u m h
delivered_alike r u m (Err (faults.Edit x)) h = absurd h
delivered_alike r u m (Err (faults.NoMember k)) h = absurd h
delivered_alike r u m (Err (faults.NoMessage k)) h = absurd h

pub edited_one_group : (s : WorldSeen) (group i : ℕ) (r u : Seen) (edit : Edit) (a : Result Outcome StepError) → IsOneGroup s group → slice_get s.replicas i ≡ Some r → IsEdited r edit a u → IsOneGroup (with_replica s i u) group
edited_one_group s group i r u edit a g e h = with_one_group s group i r u g e (edited_alike r u edit a h)

pub delivered_one_group : (s : WorldSeen) (group i : ℕ) (r u : Seen) (m : Message) (a : Result Outcome StepError) → IsOneGroup s group → slice_get s.replicas i ≡ Some r → IsDelivered r m a u → IsOneGroup (with_replica s i u) group
delivered_one_group s group i r u m a g e h = with_one_group s group i r u g e (delivered_alike r u m a h)

pub put_one_group : (s : WorldSeen) (group : ℕ) (m : Message) (ms : List Message) (a : Result Outcome StepError) → IsOneGroup s group → IsSent group (length s.replicas) m → IsPut s.sent m a ms → IsOneGroup (record { replicas = s.replicas; sent = ms }) group
put_one_group s group m ms (Ok (outcomes.Made n)) g t h = absurd h
put_one_group s group m ms (Ok (outcomes.Sent k)) g t h = subst (λ ns. IsOneGroup (record { replicas = s.replicas; sent = ns }) group) (sym h.1) (sent_one_group s group m g t)
put_one_group s group m ms (Ok (outcomes.Took x)) g t h = absurd h
put_one_group s group m ms (Ok outcomes.Dropped) g t h = absurd h
put_one_group s group m ms (Err faults.OutOfMemory) g t h = subst (λ ns. IsOneGroup (record { replicas = s.replicas; sent = ns }) group) (sym h) g
put_one_group s group m ms (Err (faults.Edit x)) g t h = absurd h
put_one_group s group m ms (Err (faults.NoMember n)) g t h = absurd h
put_one_group s group m ms (Err (faults.NoMessage n)) g t h = absurd h
