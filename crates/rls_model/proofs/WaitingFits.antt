-- What waits fits to the history, after an operation was accepted, taken out or put in.
use Rattle.std.proofs.Common.{◌≡◌, ℕ, suc, ◌+◌, ◌≤◌, ◌<◌, Bool, true, false, List, [], ◌∷◌, refl, sym, ap, ◌∙◌, subst, arith, inl, inr, ⊎_elim, nat_lt}
use Rattle.std.specs.Prelude.{if◌then◌else◌, ◌==◌, None}
use Rattle.std.specs.List.{list_all}
use Rattle.rls_ident.specs.Lists.{IsIn}
use Rattle.rls_ident.proofs.Members.{all_in, and_true, bool_cases, eq_is, eq_not, in_all, lt_is, not_lt_is, true_false}
use Rattle.rls_ident.proofs.Vectors.{raise_other, raise_upto}
use Rattle.rls_ops.specs.declared.op.Op.{Op}
use Rattle.rls_ops.specs.Shapes.{shape_fault}
pub use Rattle.rls_ops.proofs.Waiting.{numbered_is, numbered_test, in_without, in_with, length-without, less_without}
use Rattle.rls_ops.proofs.Waiting.{before_trans, before_total}
use Rattle.rls_model.specs.History.{Accepted, History, Then, count, count_of, members_of}
use Rattle.rls_model.specs.Receiving.{is_numbered, comes_before, with_waiting, without}
use Rattle.rls_model.specs.WellFormed.{IsOp}
use Rattle.rls_model.specs.Legal.{MayAccept, AreWaiting}

pub waiting_at : (H : History) (W : List Op) (w : Op) → AreWaiting H W → IsIn w W → IsOp w × (shape_fault (members_of H) w ≡ None) × (count_of H w.author < w.seq)
waiting_at H [] w h p = absurd p
waiting_at H (x ∷ ws) w h (inl e) = subst (λ (y : Op). IsOp y × (shape_fault (members_of H) y ≡ None) × (count_of H y.author < y.seq)) e (h.0, h.1, h.2)
waiting_at H (x ∷ ws) w h (inr p) = waiting_at H ws w h.4 p

pub sound_without : (H : History) (a s : ℕ) (W : List Op) → AreWaiting H W → AreWaiting H (without a s W)
sound_without H a s [] h = tt
sound_without H a s (w ∷ ws) h = go (is_numbered a s w) (sound_without H a s ws h.4)
  where
    go : (b : Bool) → AreWaiting H (without a s ws) → AreWaiting H (if b then without a s ws else w ∷ without a s ws)
    go true k = k
    go false k = (h.0, h.1, h.2, all_in (λ p. comes_before w p) (without a s ws) (λ x p. in_all (λ p. comes_before w p) x ws h.3 (in_without a s x ws p).0), k)

pub sound_grown : (G H : History) (W : List Op) → members_of H ≡ members_of G → ((w : Op) → IsIn w W → count_of H w.author < w.seq) → AreWaiting G W → AreWaiting H W
sound_grown G H [] e f h = tt
sound_grown G H (w ∷ ws) e f h = (h.0, ap (λ n. shape_fault n w) e ∙ h.1, f w (inl refl), h.3, sound_grown G H ws e (λ x p. f x (inr p)) h.4)

pub sound_accepted : (G : History) (o : Op) (W : List Op) → MayAccept G o → AreWaiting G W → AreWaiting (Then G (Accepted o)) (without o.author o.seq W)
sound_accepted G o W m h = sound_grown G (Then G (Accepted o)) (without o.author o.seq W) refl above (sound_without G o.author o.seq W h)
  where
    above : (w : Op) → IsIn w (without o.author o.seq W) → count_of (Then G (Accepted o)) w.author < w.seq
    above w p =
        let r = in_without o.author o.seq w W p in
        let k = (waiting_at G W w h r.0).2 in
        bool_cases (o.author == w.author)
        (λ e. let a = eq_is o.author w.author e in
        let c : count_of G o.author ≡ count_of G w.author = ap (count_of G) a in
        let u = raise_upto (count G) o.author w.author in
        let n = m.next in
        bool_cases (w.seq == o.seq) (λ f. absurd (true_false (is_numbered o.author o.seq w) (numbered_test o.author o.seq w (sym a) (eq_is w.seq o.seq f)) r.1))
        (λ f. apart (eq_not w.seq o.seq f) k c u n))
        (λ e. let u = raise_other (count G) o.author w.author (eq_not o.author w.author e) in omega arith)
      where
        apart : (w.seq ≡ o.seq → ⊥) → count_of G w.author < w.seq → count_of G o.author ≡ count_of G w.author → count_of (Then G (Accepted o)) w.author ≤ suc (count_of G w.author) → o.seq ≡ count_of G o.author + 1 → count_of (Then G (Accepted o)) w.author < w.seq
        apart n k c u e =
            bool_cases (nat_lt (suc (count_of G w.author)) w.seq) (λ f. let g = lt_is (suc (count_of G w.author)) w.seq f in omega arith)
            (λ f. let g = not_lt_is (suc (count_of G w.author)) w.seq f in absurd (n (omega arith)))

sound_with : (H : History) (o : Op) (W : List Op) → IsOp o → shape_fault (members_of H) o ≡ None → count_of H o.author < o.seq → AreWaiting H W → ((x : Op) → IsIn x W → is_numbered o.author o.seq x ≡ false) → AreWaiting H (with_waiting o W)
sound_with H o [] i e l h f = (i, e, l, refl, tt)
sound_with H o (w ∷ ws) i e l h f = go (comes_before w o) refl (sound_with H o ws i e l h.4 (λ x p. f x (inr p)))
  where
    go : (b : Bool) → comes_before w o ≡ b → AreWaiting H (with_waiting o ws) → AreWaiting H (if b then w ∷ with_waiting o ws else o ∷ w ∷ ws)
    go true t k = (h.0, h.1, h.2, all_in (λ p. comes_before w p) (with_waiting o ws) (λ x p. ⊎_elim (λ q. ap (comes_before w) (sym q) ∙ t) (λ q. in_all (λ p. comes_before w p) x ws h.3 q) (in_with o x ws p)), k)
    go false t k =
        let b = before_total o w t (f w (inl refl)) in
        (i, e, l, and_true (comes_before o w) (list_all (λ p. comes_before o p) ws) b (all_in (λ p. comes_before o p) ws (λ x p. before_trans o w x b (in_all (λ p. comes_before w p) x ws h.3 p))), h)

pub sound_put : (H : History) (o : Op) (W : List Op) → IsOp o → shape_fault (members_of H) o ≡ None → count_of H o.author < o.seq → AreWaiting H W → AreWaiting H (with_waiting o (without o.author o.seq W))
sound_put H o W i e l h = sound_with H o (without o.author o.seq W) i e l (sound_without H o.author o.seq W h) (λ x p. (in_without o.author o.seq x W p).1)
