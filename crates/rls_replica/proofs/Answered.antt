-- What an answer says of what waits, and what a release was.
use Rattle.std.proofs.Common.{◌≡◌, ◌∙◌, ◌⊎◌, ℕ, ◌&&◌, ◌==◌, not, Bool, true, false, List, [], ◌∷◌, Option, Some, None, refl, sym, ap, subst, inl, inr, nat_le, slice_index}
use Rattle.std.specs.Prelude.{if◌then◌else◌, IsSomeAnd}
use Rattle.std.specs.List.{list_all}
use Rattle.rls_ident.specs.Vectors.{at_most}
use Rattle.rls_ident.proofs.Members.{and_true, some_is}
use Rattle.rls_ops.specs.declared.op.Op.{Op}
use Rattle.rls_ops.specs.declared.op.Shape.{Shape}
use Rattle.rls_ops.specs.Same.{op_eq}
use Rattle.rls_ops.specs.Shapes.{shape_fault}
use Rattle.rls_ops.specs.Waiting.{comes_before, first_ready_at, is_in_order, waiting_under, without}
use Rattle.rls_ops.proofs.Equal.{op_is}
use Rattle.rls_model.specs.Answers.{Reason, Answer, Repeats, Waits, Refuses, Own, Forked, Released}
use Rattle.rls_model.specs.Receiving.{answer_beside, answer_by, verdict_of}
use Rattle.rls_seen.specs.Seen.{Seen, vector, members}
use Rattle.rls_seen.specs.Over.{answer_over, refusal_over, first_ready, release_of, release_over, released, holding}
use Rattle.rls_seen.specs.Sane.{AreHeld}
use Rattle.rls_seen.proofs.Repeating.{released_refused}

-- ---- an operation that is to wait

-- what waits is in order
pub held_in_order : (n : ℕ) (v : List ℕ) (W : List Op) → AreHeld n v W → is_in_order W ≡ true
held_in_order n v [] h = refl
held_in_order n v (w ∷ W) h = and_true (list_all (comes_before w) W) (is_in_order W) h.4 (held_in_order n v W h.5)

beside_go : (v : List ℕ) (r : Option Reason) (o : Op) (w : Option Op) → answer_beside v r o w ≡ Waits → (w ≡ None) ⊎ (w ≡ Some o)
beside_go v r o None e = inl refl
beside_go v r o (Some w) e = inr (ap (λ x. Some x) (op_is w o (go (op_eq w o) e)))
  where
    go : (b : Bool) → (if not b then Refuses (Forked w) else if not (at_most o.context v) then Waits else verdict_of r) ≡ Waits → b ≡ true
    go true f = refl
    go false f = absurd (cc)

number_go : (low own : Bool) (n : ℕ) (a : Answer) → (if low then Repeats else if own then Refuses (Own n) else a) ≡ Waits → a ≡ Waits
number_go true own n a e = absurd (cc)
number_go false true n a e = absurd (cc)
number_go false false n a e = e

by_go : (own : Bool) (v : List ℕ) (me : ℕ) (W : List Op) (r : Option Reason) (o : Op) (f : Option Shape) → answer_by own v me W r o f ≡ Waits → (waiting_under W o.author o.seq ≡ None) ⊎ (waiting_under W o.author o.seq ≡ Some o)
by_go own v me W r o (Some f) e = absurd (cc)
by_go own v me W r o None e = beside_go v r o (waiting_under W o.author o.seq) (number_go (nat_le o.seq (slice_index v o.author)) (not own && (o.author == me)) o.seq (answer_beside v r o (waiting_under W o.author o.seq)) e)

-- none but this waits under its number
pub waits_alone : (own : Bool) (s : Seen) (o : Op) → answer_over own s o ≡ Waits → (waiting_under s.waiting o.author o.seq ≡ None) ⊎ (waiting_under s.waiting o.author o.seq ≡ Some o)
unfolding answer_over
waits_alone own s o e = by_go own (vector s) s.acks.me s.waiting (refusal_over s o) o (shape_fault (members s) o) e

-- ---- a release

-- the operation and the reason that a release tells
of_release : (s : Seen) (a q : ℕ) (r : Option Reason) (o : Option Op) → release_of s o ≡ Some (record { author = a; seq = q; refusal = r }) → (w : Op) × (o ≡ Some w) × (w.author ≡ a) × (w.seq ≡ q) × (refusal_over s w ≡ r)
of_release s a q r None e = absurd (cc)
of_release s a q r (Some w) e =
    let f = some_is (record { author = w.author; seq = w.seq; refusal = refusal_over s w }) (record { author = a; seq = q; refusal = r }) e in
    (w, refl, ap (λ (x : Released). x.author) f, ap (λ (x : Released). x.seq) f, ap (λ (x : Released). x.refusal) f)

pub told : (s : Seen) (a q : ℕ) (r : Option Reason) → release_over s ≡ Some (record { author = a; seq = q; refusal = r }) → (w : Op) × (first_ready s ≡ Some w) × (w.author ≡ a) × (w.seq ≡ q) × (refusal_over s w ≡ r)
unfolding release_over
told s a q r e = of_release s a q r (first_ready s) e

-- one that is refused
pub refused_is : (s : Seen) (a q : ℕ) (r : Reason) → release_over s ≡ Some (record { author = a; seq = q; refusal = Some r }) → holding s (without a q s.waiting) ≡ released s
refused_is s a q r e =
    let p = told s a q (Some r) e in
    ap (λ b. holding s (without b q s.waiting)) (sym p.2) ∙ (ap (λ x. holding s (without p.0.author x s.waiting)) (sym p.3) ∙ released_refused s p.0 r p.1 p.4)

-- one that fits
pub fits_is : (s : Seen) (a q : ℕ) → release_over s ≡ Some (record { author = a; seq = q; refusal = None }) → IsSomeAnd (first_ready s) (λ w. refusal_over s w ≡ None)
fits_is s a q e = let p = told s a q None e in subst (λ o. IsSomeAnd o (λ w. refusal_over s w ≡ None)) (sym p.1) p.4

-- what waits changes nothing else
pub members_holding : (s : Seen) (W : List Op) → members (holding s W) ≡ members s
unfolding holding
members_holding s W = refl

-- where nothing waits nothing is released
pub nothing_released : (s : Seen) → s.waiting ≡ [] → release_over s ≡ None
unfolding release_over
nothing_released s e = ap (λ (W : List Op). release_of s (first_ready_at (vector s) W)) e
