-- Waiting operations stay in order and above the vector.
use Rattle.std.proofs.Common.{◌≡◌, ℕ, suc, ◌+◌, ◌<◌, ◌≤◌, ◌==◌, slice_index, Bool, true, false, cond, List, [], ◌∷◌, refl, sym, ap, subst, arith, inl, inr, ⊎_elim, None}
use Rattle.std.specs.List.{list_all}
use Rattle.rls_ident.specs.Lists.{IsIn}
use Rattle.rls_ident.specs.Vectors.{raise}
use Rattle.rls_ident.proofs.Members.{bool_cases, true_false, eq_is, eq_not, and_true, in_all, all_in}
use Rattle.rls_ident.proofs.Vectors.{raise_other, raise_upto}
use Rattle.rls_ops.specs.declared.op.Op.{Op}
use Rattle.rls_ops.specs.Shapes.{shape_fault}
use Rattle.rls_ops.proofs.Waiting.{before_trans, before_total}
use Rattle.rls_model.specs.Receiving.{is_numbered, comes_before, with_waiting, without}
use Rattle.rls_model.specs.WellFormed.{IsOp}
use Rattle.rls_model.proofs.WaitingFits.{numbered_test, in_without, in_with}
use Rattle.rls_seen.specs.Sane.{IsInRange, AreHeld}

-- what holds of each
pub record IsHeld (n : ℕ) (v : List ℕ) (w : Op) : Type 0 where
  pub whole : IsOp w
  pub range : IsInRange w.body
  pub shape : shape_fault n w ≡ None
  pub above : slice_index v w.author < w.seq

pub held_at : (n : ℕ) (v : List ℕ) (W : List Op) (w : Op) → AreHeld n v W → IsIn w W → IsHeld n v w
held_at n v [] w h p = absurd p
held_at n v (x ∷ W) w h (inl e) = subst (IsHeld n v) e (record { whole = h.0; range = h.1; shape = h.2; above = h.3 })
held_at n v (x ∷ W) w h (inr p) = held_at n v W w h.5 p

-- ---- one fewer

pub held_without : (n : ℕ) (v : List ℕ) (a q : ℕ) (W : List Op) → AreHeld n v W → AreHeld n v (without a q W)
held_without n v a q [] h = tt
held_without n v a q (w ∷ W) h = go (is_numbered a q w) (held_without n v a q W h.5)
  where
    go : (b : Bool) → AreHeld n v (without a q W) → AreHeld n v (cond b (without a q W) (w ∷ without a q W))
    go true k = k
    go false k = (h.0, h.1, h.2, h.3, all_in (comes_before w) (without a q W) (λ x p. in_all (comes_before w) x W h.4 (in_without a q x W p).0), k)

-- ---- above a greater vector

pub held_above : (n : ℕ) (v u : List ℕ) (W : List Op) → ((w : Op) → IsIn w W → slice_index u w.author < w.seq) → AreHeld n v W → AreHeld n u W
held_above n v u [] f h = tt
held_above n v u (w ∷ W) f h = (h.0, h.1, h.2, f w (inl refl), h.4, held_above n v u W (λ x p. f x (inr p)) h.5)

apart : (m c q k : ℕ) → (k ≡ q → ⊥) → m < k → q ≡ m + 1 → c ≤ suc m → c < k
apart m c q k n l e u = omega arith

-- after the author's next operation was accepted
pub held_accepted : (n : ℕ) (v : List ℕ) (a q : ℕ) (W : List Op) → q ≡ slice_index v a + 1 → AreHeld n v W → AreHeld n (raise v a) (without a q W)
held_accepted n v a q W e h = held_above n v (raise v a) (without a q W) above (held_without n v a q W h)
  where
    above : (w : Op) → IsIn w (without a q W) → slice_index (raise v a) w.author < w.seq
    above w p =
        let r = in_without a q w W p in
        let k = (held_at n v W w h r.0).above in
        bool_cases (a == w.author)
        (λ f. let g = eq_is a w.author f in
        let c : slice_index v a ≡ slice_index v w.author = ap (slice_index v) g in
        let u = raise_upto v a w.author in
        bool_cases (w.seq == q)
        (λ x. absurd (true_false (is_numbered a q w) (numbered_test a q w (sym g) (eq_is w.seq q x)) r.1))
        (λ x. let y = eq_not w.seq q x in apart (slice_index v w.author) (slice_index (raise v a) w.author) q w.seq y k (omega arith) u))
        (λ f. let u = raise_other v a w.author (eq_not a w.author f) in omega arith)

-- ---- one more

held_put : (n : ℕ) (v : List ℕ) (o : Op) (W : List Op) → IsHeld n v o → ((w : Op) → IsIn w W → is_numbered o.author o.seq w ≡ false) → AreHeld n v W → AreHeld n v (with_waiting o W)
held_put n v o [] i f h = (i.whole, i.range, i.shape, i.above, refl, tt)
held_put n v o (w ∷ W) i f h = go (comes_before w o) refl (held_put n v o W i (λ x p. f x (inr p)) h.5)
  where
    go : (b : Bool) → comes_before w o ≡ b → AreHeld n v (with_waiting o W) → AreHeld n v (cond b (w ∷ with_waiting o W) (o ∷ w ∷ W))
    go true e k =
        (h.0, h.1, h.2, h.3, all_in (comes_before w) (with_waiting o W) (λ x p. ⊎_elim (λ q. subst (λ y. comes_before w y ≡ true) q e) (λ q. in_all (comes_before w) x W h.4 q) (in_with o x W p)), k)
    go false e k =
        let b = before_total o w e (f w (inl refl)) in
        (i.whole, i.range, i.shape, i.above, and_true (comes_before o w) (list_all (comes_before o) W) b (all_in (comes_before o) W (λ x p. before_trans o w x b (in_all (comes_before w) x W h.4 p))), h)

pub held_with : (n : ℕ) (v : List ℕ) (o : Op) (W : List Op) → IsHeld n v o → AreHeld n v W → AreHeld n v (with_waiting o (without o.author o.seq W))
held_with n v o W i h = held_put n v o (without o.author o.seq W) i (λ w p. (in_without o.author o.seq w W p).1) (held_without n v o.author o.seq W h)
