-- What the answer to an operation says of it.
use Rattle.std.proofs.Common.{◌≡◌, ℕ, ◌<◌, true, false, Bool, List, Option, Some, None, refl}
use Rattle.std.specs.Prelude.{◌&&◌, not, ◌==◌, nat_le, if◌then◌else◌}
use Rattle.rls_ident.specs.Vectors.{at_most}
use Rattle.rls_ident.proofs.Members.{eq_not, not_le_is}
use Rattle.rls_ops.specs.declared.op.Op.{Op}
use Rattle.rls_ops.specs.declared.op.Shape.{Shape}
use Rattle.rls_ops.specs.Shapes.{shape_fault}
use Rattle.rls_ops.specs.Same.{op_eq}
use Rattle.rls_ops.proofs.Shaped.{next_of}
use Rattle.rls_model.specs.Answers.{Reason, Forked, Own, Answer, Applies, Repeats, Waits, Refuses}
use Rattle.rls_model.specs.History.{History, me_of, members_of, count_of}
use Rattle.rls_model.specs.History.{count as count_in}
use Rattle.rls_model.specs.Fitting.{refusal}
use Rattle.rls_model.specs.Legal.{MayAccept}
use Rattle.rls_model.specs.Receiving.{answer, answer_beside, answer_by, verdict_of, waiting_under}

pub verdict_go : (r : Option Reason) → verdict_of r ≡ Applies → r ≡ None
verdict_go None e = refl
verdict_go (Some r) e = absurd (cc)

pub causes_go : (b : Bool) (r : Option Reason) → (if not b then Waits else verdict_of r) ≡ Applies → (b ≡ true) × (r ≡ None)
causes_go true r e = (refl, verdict_go r e)
causes_go false r e = absurd (cc)

pub forked_go : (b : Bool) (w : Op) (a : Answer) → (if not b then Refuses (Forked w) else a) ≡ Applies → a ≡ Applies
forked_go true w a e = e
forked_go false w a e = absurd (cc)

beside_go : (H : History) (o : Op) (w : Option Op) → answer_beside (count_in H) (refusal H o) o w ≡ Applies → (at_most o.context (count_in H) ≡ true) × (refusal H o ≡ None)
beside_go H o None e = causes_go (at_most o.context (count_in H)) (refusal H o) e
beside_go H o (Some w) e =
    causes_go (at_most o.context (count_in H)) (refusal H o) (forked_go (op_eq w o) w (if not (at_most o.context (count_in H)) then Waits else verdict_of (refusal H o)) e)

pub number_go : (low own : Bool) (n : ℕ) (a : Answer) → (if low then Repeats else if own then Refuses (Own n) else a) ≡ Applies → (low ≡ false) × (a ≡ Applies)
number_go true own n a e = absurd (cc)
number_go false true n a e = absurd (cc)
number_go false false n a e = (refl, e)

pub number_waits : (low own : Bool) (n : ℕ) (a : Answer) → (if low then Repeats else if own then Refuses (Own n) else a) ≡ Waits → (low ≡ false) × (own ≡ false)
number_waits true own n a e = absurd (cc)
number_waits false true n a e = absurd (cc)
number_waits false false n a e = (refl, refl)

pub may_accept : (H : History) (o : Op) → shape_fault (members_of H) o ≡ None → count_of H o.author < o.seq → at_most o.context (count_in H) ≡ true → refusal H o ≡ None → MayAccept H o
may_accept H o e above causes fits = record { shape = e; next = next_of (members_of H) (count_in H) o e above causes; causes = causes; fits = fits }

shape_applies : (own : Bool) (H : History) (W : List Op) (o : Op) (f : Option Shape) → shape_fault (members_of H) o ≡ f → answer_by own (count_in H) (me_of H) W (refusal H o) o f ≡ Applies → MayAccept H o
shape_applies own H W o (Some f) s e = absurd (cc)
shape_applies own H W o None s e =
    let p = number_go (nat_le o.seq (count_of H o.author)) (not own && (o.author == me_of H)) o.seq (answer_beside (count_in H) (refusal H o) o (waiting_under W o.author o.seq)) e in
    let q = beside_go H o (waiting_under W o.author o.seq) p.1 in
    may_accept H o s (not_le_is o.seq (count_of H o.author) p.0) q.0 q.1

-- what is to be applied may be accepted
pub answer_applies : (own : Bool) (H : History) (W : List Op) (o : Op) → answer own H W o ≡ Applies → MayAccept H o
unfolding answer
answer_applies own H W o e = shape_applies own H W o (shape_fault (members_of H) o) refl e

-- what is to wait
pub record IsHeld (H : History) (o : Op) : Type 0 where
  pub shape : shape_fault (members_of H) o ≡ None
  pub above : count_of H o.author < o.seq
  pub other : o.author ≡ me_of H → ⊥

shape_waits : (H : History) (W : List Op) (o : Op) (f : Option Shape) → shape_fault (members_of H) o ≡ f → answer_by false (count_in H) (me_of H) W (refusal H o) o f ≡ Waits → IsHeld H o
shape_waits H W o (Some f) s e = absurd (cc)
shape_waits H W o None s e =
    let p = number_waits (nat_le o.seq (count_of H o.author)) (not false && (o.author == me_of H)) o.seq (answer_beside (count_in H) (refusal H o) o (waiting_under W o.author o.seq)) e in
    record { shape = s; above = not_le_is o.seq (count_of H o.author) p.0; other = eq_not o.author (me_of H) p.1 }

-- what waits may be held
pub answer_waits : (H : History) (W : List Op) (o : Op) → answer false H W o ≡ Waits → IsHeld H o
unfolding answer
answer_waits H W o e = shape_waits H W o (shape_fault (members_of H) o) refl e
