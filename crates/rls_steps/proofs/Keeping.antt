-- What is kept within bounds.
use Rattle.std.proofs.Common.{◌≡◌, ℕ, ◌-◌, ◌≤◌, Bool, true, false, length, drop, sym, ap, ◌∙◌, subst, arith}
use Rattle.std.specs.Prelude.{reverse, if◌then◌else◌}
use Rattle.std.proofs.lemmas.List.{length-drop}
use Rattle.rls_seen.specs.Seen.{Seen, idents_over, greatest_over}
use Rattle.rls_steps.specs.Courses.{Steps, Copies, Shows}
use Rattle.rls_steps.specs.Forgetting.{leaving, lightened, without_first, without_overfull}
use Rattle.rls_steps.specs.Index.{AreApart}
use Rattle.rls_steps.specs.Recorded.{Recorded, settled, steps_over}
use Rattle.rls_steps.specs.Sweeping.{swept, with_newest}
use Rattle.rls_steps.proofs.Forgetting.{forgetting_shows}
use Rattle.rls_steps.proofs.Recording.{steps_settled}
use Rattle.rls_steps.proofs.Swept.{sweeping_shows}

-- if nothing is forgotten, it is shown as before
pub kept_all : (s : Seen) (r : Recorded) (c : Copies) → Shows (steps_over s r) c → Shows (steps_over s r) (with_newest (length r.past) c)
kept_all s r c x =
    let none : length r.past - 0 ≡ length r.past = omega arith in
    subst (λ (k : ℕ). Shows (steps_over s r) (with_newest k c)) none (forgetting_shows s r c 0 (omega arith) x)

-- without an overfull group
pub kept_overfull : (s : Seen) (r n : Recorded) (c : Copies) → n ≡ without_overfull r → Shows (steps_over s r) c → Shows (steps_over s n) (with_newest (length n.past) c)
kept_overfull s r n c e x = subst (λ (q : Recorded). Shows (steps_over s q) (with_newest (length q.past) c)) (sym e) (go r.overfull)
  where
    some : length r.past - length r.past ≡ length (drop (length r.past) r.past)
    some = sym (length-drop (length r.past) r.past)

    go : (b : Bool) → let q = if b then without_first (length r.past) r else r in Shows (steps_over s q) (with_newest (length q.past) c)
    go true = subst (λ (k : ℕ). Shows (steps_over s (without_first (length r.past) r)) (with_newest k c)) some (forgetting_shows s r c (length r.past) (omega arith) x)
    go false = kept_all s r c x

-- after a sweep
pub kept_shows : (s : Seen) (r q n : Recorded) (steps chars : ℕ) → q ≡ settled s r → AreApart (reverse q.names) → leaving steps chars q ≤ length q.past →
    n ≡ swept (idents_over s) (lightened steps chars q) → (c : Copies) → Shows (steps_over s r) c → Shows (steps_over s n) (with_newest (length n.past) c)
kept_shows s r q n steps chars e a h f c x =
    let k = leaving steps chars q in
    let w = lightened steps chars q in
    let there : q.epoch ≡ greatest_over s = ap (λ (z : Recorded). z.epoch) e in
    let before : Shows (steps_over s q) c = subst (λ (st : Steps). Shows st c) (sym (ap (steps_over s) e ∙ steps_settled s r)) x in
    let left : length q.past - k ≡ length n.past = sym (ap (λ (z : Recorded). length z.past) f ∙ length-drop k q.past) in
    let all = sweeping_shows s w (with_newest (length q.past - k) c) there a (forgetting_shows s q c k h before) in
    subst (λ (j : ℕ). Shows (steps_over s n) (with_newest j c)) left (subst (λ (z : Recorded). Shows (steps_over s z) (with_newest (length q.past - k) c)) (sym f) all)
