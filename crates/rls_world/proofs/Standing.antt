-- What a world answers to an event, and what becomes of it, is that of each world that it stands for.
use Rattle.std.proofs.Common.{◌≡◌, ◌⊎◌, ℕ, zero, suc, ◌+◌, ◌++◌, ◌<◌, List, [], ◌∷◌, length, refl, sym, ap, ◌∙◌, subst, arith, inl, inr, Option, Some, None, nat_lt, if◌then◌else◌}
use Rattle.std.specs.Prelude.{slice_get, slice_set}
use Rattle.rls_ident.proofs.Members.{bool_cases, get_in, lt_is}
use Rattle.rls_ops.specs.declared.message.Message.{Message}
use Rattle.rls_model.specs.declared.edit.Edit.{Edit}
use Rattle.rls_model.specs.declared.event.Event.{Event}
use Rattle.rls_model.specs.declared.event.Event.TheVariants as events
use Rattle.rls_model.specs.declared.event.Outcome.TheVariants as outcomes
use Rattle.rls_model.specs.declared.event.StepError.{StepError}
use Rattle.rls_model.specs.declared.event.StepError.TheVariants as faults
use Rattle.rls_model.specs.EditRun.{edit_within}
use Rattle.rls_model.specs.Laws.{IsAt}
use Rattle.rls_model.specs.Receiving.{State}
use Rattle.rls_model.specs.Taking.{take_within}
use Rattle.rls_model.specs.WellFormed.{IsEdit, IsEvent}
use Rattle.rls_model.specs.Worlds.{World, fault_of, outcome_of, happens, or_else, of_edit, step_of, unless, with_state}
use Rattle.rls_model.specs.Worlds as model
use Rattle.rls_seen.specs.Seen.{Seen, members}
use Rattle.rls_seen.specs.Edits.{edit_fault_over}
use Rattle.rls_seen.specs.Kept.{dropped}
use Rattle.rls_seen.specs.Messages.{message_over, IsMessage}
use Rattle.rls_seen.specs.Stands.{StandsFor}
use Rattle.rls_seen.proofs.Editing.{edit_faults_alike, own_alike}
use Rattle.rls_seen.proofs.Keeping.{dropped_stands}
use Rattle.rls_seen.proofs.Sending.{message_alike}
use Rattle.rls_seen.proofs.Taking.{taken_alike}
use Rattle.rls_world.specs.Events.{member_fault, message_fault, edit_fault_at, fault_over, edited_at, sent_at, delivered_at, dropped_at, happened, outcome_over, edit_outcome, deliver_outcome, IsFault, IsPartEdited, HasPart, PartTaken, IsPart}
use Rattle.rls_world.specs.Seen.{WorldSeen, AllStand, StandsForWorld, IsOneGroup}
use Rattle.rls_model.proofs.CutShort.{cut_short}
use Rattle.rls_model.proofs.OnePlace.{set_get}
use Rattle.rls_model.proofs.WorldsLaws.{edit_none}
use Rattle.rls_world.proofs.Groups.{group_at}
use Rattle.rls_world.proofs.Releases.{edit_stands, edit_part}

-- ---- at a place

pub all_length : (ss : List Seen) (ts : List State) → AllStand ss ts → length ss ≡ length ts
all_length [] [] h = refl
all_length [] (t ∷ ts) h = absurd h
all_length (s ∷ ss) [] h = absurd h
all_length (s ∷ ss) (t ∷ ts) h = ap suc (all_length ss ts h.1)

-- both have one, of which the one stands for the other, or neither has
abbrev pub BothAt : Option Seen → Option State → Type 0
BothAt None None = Unit {0}
BothAt None (Some t) = ⊥
BothAt (Some s) None = ⊥
BothAt (Some s) (Some t) = StandsFor s t

pub all_at : (ss : List Seen) (ts : List State) (i : ℕ) → AllStand ss ts → BothAt (slice_get ss i) (slice_get ts i)
all_at [] [] i h = tt
all_at [] (t ∷ ts) i h = absurd h
all_at (s ∷ ss) [] i h = absurd h
all_at (s ∷ ss) (t ∷ ts) zero h = h.0
all_at (s ∷ ss) (t ∷ ts) (suc i) h = all_at ss ts i h.1

all_set : (ss : List Seen) (ts : List State) (i : ℕ) (s : Seen) (t : State) → AllStand ss ts → StandsFor s t → AllStand (slice_set ss i s) (slice_set ts i t)
all_set [] [] i s t h k = tt
all_set [] (u ∷ ts) i s t h k = absurd h
all_set (r ∷ ss) [] i s t h k = absurd h
all_set (r ∷ ss) (u ∷ ts) zero s t h k = (k, h.1)
all_set (r ∷ ss) (u ∷ ts) (suc i) s t h k = (h.0, all_set ss ts i s t h.1 k)

-- the replica of a member stands for its state
pub replica_at : (s : WorldSeen) (w : World) (i : ℕ) (r : Seen) → StandsForWorld s w → slice_get s.replicas i ≡ Some r → (t : State) × IsAt w i t × StandsFor r t
replica_at s w i r h e = go (slice_get w.states i) refl (subst (λ o. BothAt o (slice_get w.states i)) e (all_at s.replicas w.states i h.states))
  where
    go : (t : Option State) → slice_get w.states i ≡ t → BothAt (Some r) t → (u : State) × IsAt w i u × StandsFor r u
    go None f b = absurd b
    go (Some t) f b = (t, f, b)

-- ---- faults

member_alike : (s : WorldSeen) (w : World) (i : ℕ) → StandsForWorld s w → member_fault s i ≡ model.member_fault w i
member_alike s w i h = ap (λ n. if nat_lt i n then None else Some (faults.NoMember i)) (all_length s.replicas w.states h.states)

sent_alike : (s : WorldSeen) (w : World) (k : ℕ) → StandsForWorld s w → message_fault s k ≡ model.message_fault w k
sent_alike s w k h = ap (λ (ms : List Message). if nat_lt k (length ms) then None else Some (faults.NoMessage k)) h.sent

edit_alike : (s : Option Seen) (t : Option State) (edit : Edit) → BothAt s t → edit_fault_at s edit ≡ model.edit_fault_at t edit
edit_alike None None edit h = refl
edit_alike None (Some t) edit h = absurd h
edit_alike (Some s) None edit h = absurd h
edit_alike (Some s) (Some t) edit h = ap of_edit (edit_faults_alike s t edit h)

pub fault_alike : (s : WorldSeen) (w : World) (e : Event) → StandsForWorld s w → fault_over s e ≡ fault_of w e
fault_alike s w (events.Edit i edit) h =
    ap (λ f. or_else f (edit_fault_at (slice_get s.replicas i) edit)) (member_alike s w i h)
    ∙ ap (or_else (model.member_fault w i)) (edit_alike (slice_get s.replicas i) (slice_get w.states i) edit (all_at s.replicas w.states i h.states))
fault_alike s w (events.Send from to) h = ap (λ f. or_else f (member_fault s to)) (member_alike s w from h) ∙ ap (or_else (model.member_fault w from)) (member_alike s w to h)
fault_alike s w (events.Deliver k to) h = ap (λ f. or_else f (message_fault s k)) (member_alike s w to h) ∙ ap (or_else (model.member_fault w to)) (sent_alike s w k h)
fault_alike s w (events.Drop i) h = member_alike s w i h

-- the same reason
pub faults_alike : (s : WorldSeen) (w : World) (e : Event) (f : StepError) → StandsForWorld s w → IsFault f (fault_over s e) → IsFault f (fault_of w e)
faults_alike s w e f h k = subst (IsFault f) (fault_alike s w e h) k

-- ---- outcomes

-- the message is one that may be taken
sent_is : (s : WorldSeen) (group : ℕ) (i k : ℕ) (r : Seen) (m : Message) → IsOneGroup s group → slice_get s.replicas i ≡ Some r → slice_get s.sent k ≡ Some m → IsMessage (members r) m
sent_is s group i k r m g e f =
    subst (λ n. IsMessage n m) (sym (group_at group (length s.replicas) s.replicas i r g.replicas e).members_are) (g.sent m (get_in s.sent k m f)).whole

edit_made : (s : Option Seen) (t : Option State) → BothAt s t → edit_outcome s ≡ model.edit_outcome t
edit_made None None h = refl
edit_made None (Some t) h = absurd h
edit_made (Some s) None h = absurd h
edit_made (Some s) (Some t) h = ap (λ n. outcomes.Made (n + 1)) (own_alike s t h)

deliver_made : (s : Option Seen) (t : Option State) (m : Option Message) → BothAt s t → ((r : Seen) (x : Message) → s ≡ Some r → m ≡ Some x → IsMessage (members r) x) → deliver_outcome s m ≡ model.deliver_outcome t m
deliver_made None None m h f = refl
deliver_made None (Some t) m h f = absurd h
deliver_made (Some s) None m h f = absurd h
deliver_made (Some s) (Some t) None h f = refl
deliver_made (Some s) (Some t) (Some m) h f = ap outcomes.Took (taken_alike None s t m (f s m refl refl) h).0

pub outcome_alike : (s : WorldSeen) (w : World) (e : Event) (group : ℕ) → IsOneGroup s group → StandsForWorld s w → outcome_over s e ≡ outcome_of w e
unfolding outcome_over
outcome_alike s w (events.Edit i edit) group g h = edit_made (slice_get s.replicas i) (slice_get w.states i) (all_at s.replicas w.states i h.states)
outcome_alike s w (events.Send from to) group g h = ap (λ (ms : List Message). outcomes.Sent (length ms)) h.sent
outcome_alike s w (events.Deliver k to) group g h =
    deliver_made (slice_get s.replicas to) (slice_get w.states to) (slice_get s.sent k) (all_at s.replicas w.states to h.states) (λ r m e f. sent_is s group to k r m g e f)
    ∙ ap (λ (ms : List Message). model.deliver_outcome (slice_get w.states to) (slice_get ms k)) h.sent
outcome_alike s w (events.Drop i) group g h = refl

-- ---- what becomes of it

replica_stands : (s : WorldSeen) (w : World) (i : ℕ) (r : Seen) (t : State) → StandsForWorld s w → StandsFor r t → StandsForWorld (record { replicas = slice_set s.replicas i r; sent = s.sent }) (with_state w i t)
replica_stands s w i r t h k = record { states = all_set s.replicas w.states i r t h.states k; sent = h.sent }

edited_go : (s : WorldSeen) (w : World) (i : ℕ) (edit : Edit) (r : Option Seen) (t : Option State) → IsEdit edit → StandsForWorld s w → BothAt r t → edit_fault_at r edit ≡ None → StandsForWorld (edited_at s i r edit) (model.edit_at None w i t edit)
edited_go s w i edit None None d h b f = h
edited_go s w i edit None (Some t) d h b f = absurd b
edited_go s w i edit (Some r) None d h b f = absurd b
edited_go s w i edit (Some r) (Some t) d h b f = replica_stands s w i _ _ h (edit_stands r t edit d (edit_none (edit_fault_over r edit) f) b)

sent_go : (s : WorldSeen) (w : World) (to : ℕ) (r : Option Seen) (t : Option State) → StandsForWorld s w → BothAt r t → ((x : Seen) → r ≡ Some x → to < members x) → StandsForWorld (sent_at s r to) (model.send_at None w t to)
sent_go s w to None None h b l = h
sent_go s w to None (Some t) h b l = absurd b
sent_go s w to (Some r) None h b l = absurd b
sent_go s w to (Some r) (Some t) h b l = record { states = h.states; sent = ap (λ (ms : List Message). ms ++ message_over r to ∷ []) h.sent ∙ ap (λ m. w.sent ++ m ∷ []) (message_alike r t to (l r refl) b) }

delivered_go : (s : WorldSeen) (w : World) (i : ℕ) (r : Option Seen) (t : Option State) (m : Option Message) → StandsForWorld s w → BothAt r t → ((x : Seen) (y : Message) → r ≡ Some x → m ≡ Some y → IsMessage (members x) y) → StandsForWorld (delivered_at s i r m) (model.deliver_at None w i t m)
delivered_go s w i None None m h b f = h
delivered_go s w i None (Some t) m h b f = absurd b
delivered_go s w i (Some r) None m h b f = absurd b
delivered_go s w i (Some r) (Some t) None h b f = h
delivered_go s w i (Some r) (Some t) (Some m) h b f = replica_stands s w i _ _ h (taken_alike None r t m (f r m refl refl) b).1

dropped_go : (s : WorldSeen) (w : World) (i : ℕ) (r : Option Seen) (t : Option State) → StandsForWorld s w → BothAt r t → slice_get w.states i ≡ t → StandsForWorld (dropped_at s i r) w
dropped_go s w i None None h b e = h
dropped_go s w i None (Some t) h b e = absurd b
dropped_go s w i (Some r) None h b e = absurd b
dropped_go s w i (Some r) (Some t) h b e =
    record { states = subst (λ ts. AllStand (slice_set s.replicas i (dropped r)) ts) (set_get w.states i t e) (all_set s.replicas w.states i (dropped r) t h.states (dropped_stands r t b)); sent = h.sent }

-- where an event has no fault, what it does is what it does to the world
pub no_fault : (w : World) (e : Event) (limit : Option ℕ) → fault_of w e ≡ None → happens limit w e ≡ step_of limit w e
unfolding happens
no_fault w e limit f = ap (λ x. unless x w (step_of limit w e)) f

-- and where it has one, nothing
pub some_fault : (w : World) (e : Event) (limit : Option ℕ) (x : StepError) → fault_of w e ≡ Some x → happens limit w e ≡ w
unfolding happens
some_fault w e limit x f = ap (λ y. unless y w (step_of limit w e)) f

pub first_none : (f g : Option StepError) → or_else f g ≡ None → (f ≡ None) × (g ≡ None)
first_none None g e = (refl, e)
first_none (Some x) g e = absurd (cc)

below_of : (i n : ℕ) → (if nat_lt i n then None else Some (faults.NoMember i)) ≡ None → i < n
below_of i n e = bool_cases (nat_lt i n) (λ h. lt_is i n h) (λ h. absurd (let x = ap (λ b. if b then None else Some (faults.NoMember i)) (sym h) in cc))

step_stands : (s : WorldSeen) (w : World) (e : Event) (group : ℕ) → IsEvent e → IsOneGroup s group → StandsForWorld s w → fault_over s e ≡ None → StandsForWorld (happened s e) (step_of None w e)
unfolding happened
step_stands s w (events.Edit i edit) group d g h f =
    edited_go s w i edit (slice_get s.replicas i) (slice_get w.states i) d.1 h (all_at s.replicas w.states i h.states) (first_none (member_fault s i) (edit_fault_at (slice_get s.replicas i) edit) f).1
step_stands s w (events.Send from to) group d g h f =
    sent_go s w to (slice_get s.replicas from) (slice_get w.states from) h (all_at s.replicas w.states from h.states)
    (λ r e. let n = (group_at group (length s.replicas) s.replicas from r g.replicas e).members_are in let l = below_of to (length s.replicas) (first_none (member_fault s from) (member_fault s to) f).1 in omega arith)
step_stands s w (events.Deliver k to) group d g h f =
    subst (λ (ms : List Message). StandsForWorld (delivered_at s to (slice_get s.replicas to) (slice_get s.sent k)) (model.deliver_at None w to (slice_get w.states to) (slice_get ms k))) h.sent
    (delivered_go s w to (slice_get s.replicas to) (slice_get w.states to) (slice_get s.sent k) h (all_at s.replicas w.states to h.states) (λ r m e x. sent_is s group to k r m g e x))
step_stands s w (events.Drop i) group d g h f = dropped_go s w i (slice_get s.replicas i) (slice_get w.states i) h (all_at s.replicas w.states i h.states) refl

pub happened_stands : (s : WorldSeen) (w : World) (e : Event) (group : ℕ) → IsEvent e → IsOneGroup s group → StandsForWorld s w → fault_over s e ≡ None → StandsForWorld (happened s e) (happens None w e)
happened_stands s w e group d g h f = subst (StandsForWorld (happened s e)) (sym (no_fault w e None (sym (fault_alike s w e h) ∙ f))) (step_stands s w e group d g h f)

-- ---- cut short

edit_part_go : (s : WorldSeen) (w : World) (i : ℕ) (edit : Edit) (new : WorldSeen) (r : Option Seen) (t : Option State) → IsEdit edit → StandsForWorld s w → BothAt r t → edit_fault_at r edit ≡ None → HasPart s i r (λ x y. IsPartEdited x edit y) new
    → (n : ℕ) × StandsForWorld new (model.edit_at (Some n) w i t edit)
edit_part_go s w i edit new None t d h b f p = absurd p
edit_part_go s w i edit new (Some r) None d h b f p = absurd b
edit_part_go s w i edit new (Some r) (Some t) d h b f p =
    let q = edit_part r p.0 t edit d (edit_none (edit_fault_over r edit) f) b p.1 in
    (q.0, subst (λ u. StandsForWorld u (with_state w i (edit_within (Some q.0) t edit).state)) (sym p.2) (replica_stands s w i p.0 _ h q.1))

deliver_part_go : (s : WorldSeen) (w : World) (i : ℕ) (new : WorldSeen) (r : Option Seen) (t : Option State) (m : Option Message) → StandsForWorld s w → BothAt r t → ((x : Seen) (y : Message) → r ≡ Some x → m ≡ Some y → IsMessage (members x) y) → HasPart s i r (PartTaken m) new
    → (n : ℕ) × StandsForWorld new (model.deliver_at (Some n) w i t m)
deliver_part_go s w i new None t m h b f p = absurd p
deliver_part_go s w i new (Some r) None m h b f p = absurd b
deliver_part_go s w i new (Some r) (Some t) None h b f p = absurd p.1
deliver_part_go s w i new (Some r) (Some t) (Some m) h b f p =
    let n = p.1.0 in
    let k = subst (λ u. StandsFor u (take_within (Some n) t m).state) (sym p.1.1) (taken_alike (Some n) r t m (f r m refl refl) b).1 in
    (n, subst (λ u. StandsForWorld u (with_state w i (take_within (Some n) t m).state)) (sym p.2) (replica_stands s w i p.0 _ h k))

part_step : (s new : WorldSeen) (w : World) (e : Event) (group : ℕ) → IsEvent e → IsOneGroup s group → StandsForWorld s w → fault_over s e ≡ None → IsPart s e new → (n : ℕ) × StandsForWorld new (step_of (Some n) w e)
part_step s new w (events.Edit i edit) group d g h f p =
    edit_part_go s w i edit new (slice_get s.replicas i) (slice_get w.states i) d.1 h (all_at s.replicas w.states i h.states) (first_none (member_fault s i) (edit_fault_at (slice_get s.replicas i) edit) f).1 p
part_step s new w (events.Send from to) group d g h f p = absurd p
part_step s new w (events.Deliver k to) group d g h f p =
    subst (λ (ms : List Message). (n : ℕ) × StandsForWorld new (model.deliver_at (Some n) w to (slice_get w.states to) (slice_get ms k))) h.sent
    (deliver_part_go s w to new (slice_get s.replicas to) (slice_get w.states to) (slice_get s.sent k) h (all_at s.replicas w.states to h.states) (λ r m e x. sent_is s group to k r m g e x) p)
part_step s new w (events.Drop i) group d g h f p = absurd p

pub part_stands : (s new : WorldSeen) (w : World) (e : Event) (group : ℕ) → IsEvent e → IsOneGroup s group → StandsForWorld s w → (new ≡ s) ⊎ ((fault_over s e ≡ None) × IsPart s e new) → (n : ℕ) × StandsForWorld new (happens (Some n) w e)
part_stands s new w e group d g h (inl p) = (0, subst (StandsForWorld new) (sym (cut_short w e).0) (subst (λ u. StandsForWorld u w) (sym p) h))
part_stands s new w e group d g h (inr p) =
    let q = part_step s new w e group d g h p.0 p.1 in
    (q.0, subst (StandsForWorld new) (sym (no_fault w e (Some q.0) (sym (fault_alike s w e h) ∙ p.0))) q.1)
