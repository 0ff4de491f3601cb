-- What the answer to an operation says, and receiving it.
use Rattle.std.proofs.Common.{◌≡◌, ℕ, ◌<◌, ◌==◌, ◌&&◌, not, nat_le, slice_index, Bool, true, false, List, refl, sym, ap, ◌∙◌, subst, Option, Some, None, if◌then◌else◌}
use Rattle.rls_ident.specs.Vectors.{at_most}
use Rattle.rls_ident.proofs.Members.{not_le_is}
use Rattle.rls_ops.specs.declared.op.Op.{Op}
use Rattle.rls_ops.specs.declared.op.Shape.{Shape}
use Rattle.rls_ops.specs.Shapes.{shape_fault}
use Rattle.rls_ops.specs.Same.{op_eq}
use Rattle.rls_ops.proofs.Shaped.{next_of}
use Rattle.rls_model.specs.Answers.{Reason, Answer, Applies, Repeats, Waits, Refuses}
use Rattle.rls_model.specs.History.{count, count_of, members_of}
use Rattle.rls_model.specs.Legal.{MayAccept, IsSound}
use Rattle.rls_model.specs.Receiving.{State, answer, answer_beside, answer_by, after, receive, receive_after, replay, replay_after, verdict_of, waiting_under, with_waiting, without}
use Rattle.rls_model.specs.WellFormed.{IsOp}
use Rattle.rls_model.proofs.OneTree.{author_below}
use Rattle.rls_model.proofs.WaitingFits.{sound_put}
use Rattle.rls_model.proofs.Answered.{causes_go, forked_go, number_go, number_waits}
use Rattle.rls_seen.specs.Seen.{Seen, vector, members}
use Rattle.rls_seen.specs.Over.{answer_over, refusal_over, after_answer, holding, received, replayed}
use Rattle.rls_seen.specs.Sane.{MayApply, MayWait}
use Rattle.rls_seen.specs.Stands.{StandsFor}
use Rattle.rls_seen.proofs.Alike.{members_alike, refusal_alike, answers_alike}
use Rattle.rls_seen.proofs.Accepting.{accepted_stands}
use Rattle.rls_seen.proofs.Keeping.{stands_with}

-- ---- what an answer says of the operation

pub record Fits (v : List ℕ) (o : Op) (reason : Option Reason) : Type 0 where
  pub above : slice_index v o.author < o.seq
  pub causes : at_most o.context v ≡ true
  pub fits : reason ≡ None

beside_go : (v : List ℕ) (r : Option Reason) (o : Op) (w : Option Op) → answer_beside v r o w ≡ Applies → (at_most o.context v ≡ true) × (r ≡ None)
beside_go v r o None e = causes_go (at_most o.context v) r e
beside_go v r o (Some w) e = causes_go (at_most o.context v) r (forked_go (op_eq w o) w (if not (at_most o.context v) then Waits else verdict_of r) e)

pub by_applies : (own : Bool) (v : List ℕ) (me : ℕ) (W : List Op) (r : Option Reason) (o : Op) (f : Option Shape) → answer_by own v me W r o f ≡ Applies → (f ≡ None) × Fits v o r
by_applies own v me W r o (Some f) e = absurd (cc)
by_applies own v me W r o None e =
    let p = number_go (nat_le o.seq (slice_index v o.author)) (not own && (o.author == me)) o.seq (answer_beside v r o (waiting_under W o.author o.seq)) e in
    let q = beside_go v r o (waiting_under W o.author o.seq) p.1 in
    (refl, record { above = not_le_is o.seq (slice_index v o.author) p.0; causes = q.0; fits = q.1 })

pub by_waits : (own : Bool) (v : List ℕ) (me : ℕ) (W : List Op) (r : Option Reason) (o : Op) (f : Option Shape) → answer_by own v me W r o f ≡ Waits → (f ≡ None) × (slice_index v o.author < o.seq)
by_waits own v me W r o (Some f) e = absurd (cc)
by_waits own v me W r o None e =
    (refl, not_le_is o.seq (slice_index v o.author) (number_waits (nat_le o.seq (slice_index v o.author)) (not own && (o.author == me)) o.seq (answer_beside v r o (waiting_under W o.author o.seq)) e).0)

-- an operation that is to be applied may be applied
pub applies : (own : Bool) (s : Seen) (o : Op) → IsOp o → answer_over own s o ≡ Applies → MayApply s o
unfolding answer_over
applies own s o whole e =
    let p = by_applies own (vector s) s.acks.me s.waiting (refusal_over s o) o (shape_fault (members s) o) e in
    record { whole = whole; shape = p.0; above = p.1.above; causes = p.1.causes; fits = p.1.fits }

-- an operation that is to wait may wait
pub waits : (own : Bool) (s : Seen) (o : Op) → IsOp o → answer_over own s o ≡ Waits → MayWait s o
unfolding answer_over
waits own s o whole e =
    let p = by_waits own (vector s) s.acks.me s.waiting (refusal_over s o) o (shape_fault (members s) o) e in
    record { whole = whole; shape = p.0; above = p.1 }

-- ---- by a history that the replica stands for

-- what may be applied may be accepted
pub may_accept : (s : Seen) (t : State) (o : Op) → StandsFor s t → MayApply s o → MayAccept t.history o
may_accept s t o h m =
    let H = t.history in
    let e : shape_fault (members_of H) o ≡ None = ap (λ n. shape_fault n o) (sym (members_alike s t h)) ∙ m.shape in
    let above : count_of H o.author < o.seq = subst (λ v. slice_index v o.author < o.seq) h.vector m.above in
    let causes : at_most o.context (count H) ≡ true = ap (at_most o.context) (sym h.vector) ∙ m.causes in
    record {
      shape = e;
      next = next_of (members_of H) (count H) o e above causes;
      causes = causes;
      fits = sym (refusal_alike s t o m.whole (author_below (members_of H) o e) h) ∙ m.fits;
    }

-- operations wait that fit to the history
pub holding_stands : (s : Seen) (t : State) (W : List Op) → StandsFor s t → IsSound (record { history = t.history; waiting = W }) → StandsFor (holding s W) (record { history = t.history; waiting = W })
unfolding holding
holding_stands s t W h sound = stands_with s t s.epochs s.log W W h sound h.epochs refl h.log

received_go : (own : Bool) (s : Seen) (t : State) (o : Op) → IsOp o → StandsFor s t → (a : Answer) → answer_over own s o ≡ a → StandsFor (after_answer a s o) (after a t o)
received_go own s t o whole h Applies e = accepted_stands s t o whole (may_accept s t o h (applies own s o whole e)) h
received_go own s t o whole h Waits e =
    let may = waits own s o whole e in
    let H = t.history in
    let sound = sound_put H o t.waiting whole (ap (λ n. shape_fault n o) (sym (members_alike s t h)) ∙ may.shape) (subst (λ v. slice_index v o.author < o.seq) h.vector may.above) h.sound in
    let f : with_waiting o (without o.author o.seq t.waiting) ≡ with_waiting o (without o.author o.seq s.waiting) = ap (λ W. with_waiting o (without o.author o.seq W)) (sym h.waiting) in
    subst (λ W. StandsFor (holding s W) (record { history = H; waiting = with_waiting o (without o.author o.seq t.waiting) })) f
    (holding_stands s t (with_waiting o (without o.author o.seq t.waiting)) h sound)
received_go own s t o whole h Repeats e = h
received_go own s t o whole h (Refuses r) e = h

answered : (own : Bool) (s : Seen) (t : State) (o : Op) → IsOp o → StandsFor s t → StandsFor (after_answer (answer_over own s o) s o) (after (answer own t.history t.waiting o) t o)
answered own s t o whole h =
    subst (λ a. StandsFor (after_answer (answer_over own s o) s o) (after a t o)) (answers_alike own s t o whole h) (received_go own s t o whole h (answer_over own s o) refl)

-- receiving
pub received_stands : (s : Seen) (t : State) (o : Op) → IsOp o → StandsFor s t → (answer_over false s o ≡ receive t o) × StandsFor (received s o) (receive_after t o)
unfolding received
received_stands s t o whole h = (answers_alike false s t o whole h, answered false s t o whole h)

-- receiving also own operations
pub replayed_stands : (s : Seen) (t : State) (o : Op) → IsOp o → StandsFor s t → (answer_over true s o ≡ replay t o) × StandsFor (replayed s o) (replay_after t o)
unfolding replayed
replayed_stands s t o whole h = (answers_alike true s t o whole h, answered true s t o whole h)

-- ---- for code that goes by the answer

pub received_is : (s : Seen) (o : Op) (a : Answer) → a ≡ answer_over false s o → after_answer a s o ≡ received s o
unfolding received
received_is s o a e = ap (λ x. after_answer x s o) e

pub replayed_is : (s : Seen) (o : Op) (a : Answer) → a ≡ answer_over true s o → after_answer a s o ≡ replayed s o
unfolding replayed
replayed_is s o a e = ap (λ x. after_answer x s o) e
