-- A turn takes a group back, with the stacks exchanged where it does one again.
use Rattle.std.proofs.Common.{◌≡◌, ℕ, List, refl, sym, ap, ◌∙◌, ◌⊎◌, inl, inr, subst}
use Rattle.std.specs.Prelude.{Option, replicate, OnOk, Result, Ok, Err}
use Rattle.rls_ident.specs.declared.epoch_name.EpochName.{EpochName}
use Rattle.rls_model.specs.declared.edit.EditError.{EditError}
use Rattle.rls_seen.specs.Seen.{Seen}
use Rattle.rls_steps.specs.declared.steps.Turn.{Turn}
use Rattle.rls_steps.specs.declared.steps.Turn.TheVariants as turns
use Rattle.rls_steps.specs.Courses.{Steps, Move, Back, course, MayRun, Copies, Shows, copies}
use Rattle.rls_steps.specs.Grounds.{over, Turned, back_on, exchanged}
use Rattle.rls_steps.specs.Groups.{group_size, turned}
use Rattle.rls_steps.specs.Recorded.{Recorded, pieces_of, steps_over}
use Rattle.rls_steps.specs.Turning.{facing, turn_size, moves_of, turned_on}
use Rattle.rls_steps.proofs.Courses.{as_copied}
use Rattle.rls_steps.proofs.Stacks.{turned_course, turned_runs}

faced_twice : (turn : Turn) (r : Recorded) → facing turn (facing turn r) ≡ r
faced_twice turns.Back r = refl
faced_twice turns.Again r = refl

faced_epoch : (turn : Turn) (r : Recorded) → (facing turn r).epoch ≡ r.epoch
faced_epoch turns.Back r = refl
faced_epoch turns.Again r = refl

-- what holds of a group that is taken back, from w to v, holds of a turn, from r to q
pub faced : (turn : Turn) (r w v q : Recorded) (P : Recorded → Recorded → Type 0) → w ≡ facing turn r → q ≡ facing turn v → P w v → P (facing turn r) (facing turn q)
faced turn r w v q P a b p = subst (λ x. P x (facing turn q)) a (subst (P w) (sym (ap (facing turn) b ∙ faced_twice turn v)) p)

-- what stays for the one stays for the other
pub faced_stays : (turn : Turn) (r w v q : Recorded) → w ≡ facing turn r → q ≡ facing turn v → v ≡ w → q ≡ r
faced_stays turn r w v q a b e = b ∙ (ap (facing turn) (e ∙ a) ∙ faced_twice turn r)

pub faced_dropped : (turn : Turn) (r w : Recorded) (e : EpochName) → w ≡ facing turn r → w.epoch ≡ e → r.epoch ≡ e
faced_dropped turn r w e a d = sym (faced_epoch turn r) ∙ (ap (λ (x : Recorded). x.epoch) (sym a) ∙ d)

pub faced_either : (turn : Turn) (r w v q : Recorded) (A : Type 0) (P : Recorded → Recorded → Type 0) → w ≡ facing turn r → q ≡ facing turn v → (A × (v ≡ w)) ⊎ P w v → (A × (q ≡ r)) ⊎ P (facing turn r) (facing turn q)
faced_either turn r w v q A P a b (inl s) = inl (s.0, faced_stays turn r w v q a b s.1)
faced_either turn r w v q A P a b (inr p) = inr (faced turn r w v q P a b p)

-- the moves of a group that is done again are those that take one back, with the stacks exchanged
runs : (turn : Turn) (s : Seen) (r : Recorded) → MayRun (steps_over s (facing turn r)) (replicate (turn_size turn r) Back) → MayRun (steps_over s r) (moves_of turn r)
runs turns.Back s r f = f
runs turns.Again s r f = turned_runs (group_size r.future) (steps_over s r).held (pieces_of r.future) (pieces_of r.past) f

after : (turn : Turn) (s n : Seen) (r q : Recorded) → steps_over n (facing turn q) ≡ course (steps_over s (facing turn r)) (replicate (turn_size turn r) Back) → steps_over n q ≡ course (steps_over s r) (moves_of turn r)
after turns.Back s n r q e = e
after turns.Again s n r q e = ap turned e ∙ sym (turned_course (group_size r.future) (steps_over s r).held (pieces_of r.future) (pieces_of r.past))

pub turn_fits : (turn : Turn) (s : Seen) (r w : Recorded) → w ≡ facing turn r → MayRun (steps_over s w) (replicate (group_size w.past) Back) → MayRun (steps_over s r) (moves_of turn r)
turn_fits turn s r w a f = runs turn s r (subst (λ (x : Recorded). MayRun (steps_over s x) (replicate (group_size x.past) Back)) a f)

pub turn_after : (turn : Turn) (s n : Seen) (r w v q : Recorded) → w ≡ facing turn r → q ≡ facing turn v → steps_over n v ≡ course (steps_over s w) (replicate (group_size w.past) Back) → steps_over n q ≡ course (steps_over s r) (moves_of turn r)
turn_after turn s n r w v q a b e = after turn s n r q (faced turn r w v q (λ x y. steps_over n y ≡ course (steps_over s x) (replicate (group_size x.past) Back)) a b e)

pub turn_shows : (st now : Steps) (ms : List Move) → MayRun st ms → now ≡ course st ms → (c : Copies) → Shows st c → Shows now (copies c ms)
turn_shows st now ms f e c x = subst (λ (z : Steps). Shows z (copies c ms)) (sym e) (as_copied st c ms x f)

-- what is left
is_turned : (turn : Turn) (s n : Seen) (r q : Recorded) (k : ℕ) (f : Option EditError) → back_on over s (facing turn r) ≡ record { steps = k; fault = f; state = n; recorded = facing turn q } → turned_on over turn s r ≡ record { steps = k; fault = f; state = n; recorded = q }
is_turned turns.Back s n r q k f e = e
is_turned turns.Again s n r q k f e = ap (λ (t : Turned Seen). record { steps = t.steps; fault = t.fault; state = t.state; recorded = exchanged t.recorded }) e

pub turn_is : (turn : Turn) (s n : Seen) (r w v q : Recorded) (k : ℕ) (f : Option EditError) → w ≡ facing turn r → q ≡ facing turn v → back_on over s w ≡ record { steps = k; fault = f; state = n; recorded = v } → turned_on over turn s r ≡ record { steps = k; fault = f; state = n; recorded = q }
turn_is turn s n r w v q k f a b e = is_turned turn s n r q k f (faced turn r w v q (λ x y. back_on over s x ≡ record { steps = k; fault = f; state = n; recorded = y }) a b e)

-- what an answer says in two facts
pub both : {T E : Type 0} (r : Result T E) (A B : Type 0) → OnOk r A → OnOk r B → OnOk r (A × B)
both (Ok x) A B a b = (a, b)
both (Err e) A B a b = tt
