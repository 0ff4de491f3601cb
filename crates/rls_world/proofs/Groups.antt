-- No step of a replica changes its group or its count of members.
use Rattle.std.proofs.Common.{◌≡◌, ℕ, zero, suc, true, false, ◌<◌, List, [], ◌∷◌, length, get_or, refl, sym, ◌∙◌, ap, subst, Option, Some, None}
use Rattle.std.specs.Prelude.{slice_get, slice_set, nat_lt}
use Rattle.std.proofs.lemmas.Option.{slice_get-get_or}
use Rattle.rls_ident.proofs.Members.{some_is, lt_is, get_in}
use Rattle.rls_ops.specs.declared.op.Op.{Op}
use Rattle.rls_ops.specs.declared.message.Message.{Message}
use Rattle.rls_model.specs.Answers.{Reason, Answer, Applies, Repeats, Waits, Refuses}
use Rattle.rls_model.proofs.Machines.{acknowledge_keeps, states_after_ops}
use Rattle.rls_seen.specs.Seen.{Seen, members}
use Rattle.rls_seen.specs.Over.{accepted, holding, after_answer, answer_over, received, refusal_over, first_ready, after_refusal, after_release, released, released_times, released_all, acknowledged}
use Rattle.rls_seen.specs.Messages.{IsMessage, by_parts, Course, started, take_ops, taken_within, IsPartTaken}
use Rattle.rls_seen.specs.Kept.{dropped}
use Rattle.rls_seen.proofs.Counting.{members_accepted, members_acknowledged}
use Rattle.rls_world.specs.Seen.{WorldSeen, IsOfGroup, AreOfGroup, IsSent, IsOneGroup}

-- both are of one group and of as many members
abbrev pub IsAlike : Seen → Seen → Type 0
IsAlike r s = (s.group ≡ r.group) × (members s ≡ members r)

pub alike_same : (s : Seen) → IsAlike s s
alike_same s = (refl, refl)

pub alike_on : (r s t : Seen) → IsAlike r s → IsAlike s t → IsAlike r t
alike_on r s t h k = (k.0 ∙ h.0, k.1 ∙ h.1)

-- ---- one step

group_accepted : (s : Seen) (o : Op) → (accepted s o).group ≡ s.group
unfolding accepted
group_accepted s o = refl

pub accepted_alike : (s : Seen) (o : Op) → IsAlike s (accepted s o)
accepted_alike s o = (group_accepted s o, members_accepted s o)

holding_alike : (s : Seen) (W : List Op) → IsAlike s (holding s W)
unfolding holding
holding_alike s W = (refl, refl)

answered_alike : (a : Answer) (s : Seen) (o : Op) → IsAlike s (after_answer a s o)
answered_alike Applies s o = accepted_alike s o
answered_alike Repeats s o = alike_same s
answered_alike Waits s o = holding_alike s _
answered_alike (Refuses r) s o = alike_same s

received_alike : (s : Seen) (o : Op) → IsAlike s (received s o)
unfolding received
received_alike s o = answered_alike (answer_over false s o) s o

refused_alike : (r : Option Reason) (s : Seen) (w : Op) → IsAlike s (after_refusal r s w)
refused_alike None s w = accepted_alike s w
refused_alike (Some r) s w = holding_alike s _

ready_alike : (w : Option Op) (s : Seen) → IsAlike s (after_release s w)
ready_alike None s = alike_same s
ready_alike (Some w) s = refused_alike (refusal_over s w) s w

pub released_alike : (s : Seen) → IsAlike s (released s)
unfolding released
released_alike s = ready_alike (first_ready s) s

group_acknowledged : (s : Seen) (a : ℕ) (v : List ℕ) → (acknowledged s a v).group ≡ s.group
unfolding acknowledged
group_acknowledged s a v = refl

acknowledged_alike : (s : Seen) (a : ℕ) (v : List ℕ) → IsAlike s (acknowledged s a v)
acknowledged_alike s a v = (group_acknowledged s a v, members_acknowledged s a v)

pub dropped_alike : (s : Seen) → IsAlike s (dropped s)
unfolding dropped
dropped_alike s = (refl, refl)

-- ---- many steps

pub times_alike : (n : ℕ) (s : Seen) → IsAlike s (released_times n s)
times_alike zero s = alike_same s
times_alike (suc n) s = alike_on s (released s) (released_times n (released s)) (released_alike s) (times_alike n (released s))

pub all_alike : (s : Seen) → IsAlike s (released_all s)
unfolding released_all
all_alike s = times_alike (length s.waiting) s

ops_alike : (os : List Op) (c : Course) → IsAlike c.state (take_ops c os).state
ops_alike os c =
    states_after_ops by_parts (λ o. Unit {0}) (IsAlike c.state)
    (record { receives = λ s o u h. alike_on c.state s (received s o) h (received_alike s o); releases = λ s h. alike_on c.state s (released s) h (released_alike s) })
    os c (λ o u. tt) (alike_same c.state)

pub taken_alike : (limit : Option ℕ) (s : Seen) (m : Message) → IsAlike s (taken_within limit s m).state
unfolding taken_within
taken_alike limit s m =
    let c = take_ops (started limit s) m.ops in
    let h = ops_alike m.ops (started limit s) in
    acknowledge_keeps by_parts (IsAlike s) c m.from m.vector (alike_on s c.state (acknowledged c.state m.from m.vector) h (acknowledged_alike c.state m.from m.vector)) h

pub part_alike : (s r : Seen) (m : Message) → IsPartTaken s m r → IsAlike s r
part_alike s r m p = subst (IsAlike s) (sym p.1) (taken_alike (Some p.0) s m)

-- ---- all replicas

pub of_group : (group n : ℕ) (r s : Seen) → IsAlike r s → IsOfGroup group n r → IsOfGroup group n s
of_group group n r s a h = record { group_is = a.0 ∙ h.group_is; members_are = a.1 ∙ h.members_are }

pub group_at : (group n : ℕ) (ss : List Seen) (i : ℕ) (s : Seen) → AreOfGroup group n ss → slice_get ss i ≡ Some s → IsOfGroup group n s
group_at group n [] i s h e = absurd (cc)
group_at group n (x ∷ ss) zero s h e = subst (IsOfGroup group n) (some_is x s e) h.0
group_at group n (x ∷ ss) (suc i) s h e = group_at group n ss i s h.1 e

pub group_set : (group n : ℕ) (ss : List Seen) (i : ℕ) (s : Seen) → AreOfGroup group n ss → IsOfGroup group n s → AreOfGroup group n (slice_set ss i s)
group_set group n [] i s h k = tt
group_set group n (x ∷ ss) zero s h k = (k, h.1)
group_set group n (x ∷ ss) (suc i) s h k = (h.0, group_set group n ss i s h.1 k)

-- ---- what is there, of a world that is read in parts

-- the replica is the one of this member
pub record IsThere (s : WorldSeen) (i : ℕ) (r : Seen) : Type 0 where
  pub below : i < length s.replicas
  pub at : slice_get s.replicas i ≡ Some r

pub there : (s w : WorldSeen) (i : ℕ) (r : Seen) → s ≡ w → nat_lt i (length w.replicas) ≡ true → r ≡ get_or s.replicas i r → IsThere s i r
there s w i r same has is =
    let below : i < length s.replicas = subst (λ (x : WorldSeen). i < length x.replicas) (sym same) (lt_is i (length w.replicas) has) in
    record { below = below; at = slice_get-get_or s.replicas i r below ∙ ap (λ (x : Seen). Some x) (sym is) }

-- a message that was sent, and a replica that is there, are of one group
pub record IsSentTo (s : WorldSeen) (k : ℕ) (m : Message) (r : Seen) : Type 0 where
  pub below : k < length s.sent
  pub at : slice_get s.sent k ≡ Some m
  pub group_is : m.group ≡ r.group
  pub members_are : m.members ≡ members r
  pub whole : IsMessage m.members m

pub sent_to : (s : WorldSeen) (g i k : ℕ) (r : Seen) (m : Message) → IsOneGroup s g → IsThere s i r → k < length s.sent → m ≡ get_or s.sent k m → IsSentTo s k m r
sent_to s g i k r m one p below is =
    let at : slice_get s.sent k ≡ Some m = slice_get-get_or s.sent k m below ∙ ap (λ (x : Message). Some x) (sym is) in
    let sent : IsSent g (length s.replicas) m = one.sent m (get_in s.sent k m at) in
    let of_group : IsOfGroup g (length s.replicas) r = group_at g (length s.replicas) s.replicas i r one.replicas p.at in
    record {
      below = below;
      at = at;
      group_is = sent.group_is ∙ sym of_group.group_is;
      members_are = sent.members_are ∙ sym of_group.members_are;
      whole = subst (λ n. IsMessage n m) (sym sent.members_are) sent.whole;
    }
