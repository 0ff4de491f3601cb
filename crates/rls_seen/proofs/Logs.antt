-- A log leads from one vector to the other, also with one more operation.
use Rattle.std.proofs.Common.{◌≡◌, ℕ, ◌+◌, ◌≤◌, ◌++◌, not, slice_index, Bool, true, false, cond, List, [], ◌∷◌, length, refl, sym, ap, ◌∙◌, subst, arith, inl, inr, ◌⊎◌, ⊎_elim, None, IsTrue}
use Rattle.std.proofs.lemmas.List.Elements.{filter-append}
use Rattle.rls_ident.specs.Lists.{IsIn}
use Rattle.rls_ident.specs.Vectors.{at_most, join, raise}
use Rattle.rls_ident.proofs.Members.{bool_cases, le_is, not_le_is, snoc_split}
use Rattle.rls_ident.proofs.Vectors.{length-raise, at_most_refl, at_most_trans, index-join, second_below, join_high, join_low, raise_below, raise_above, max_high}
use Rattle.rls_ops.specs.declared.op.Op.{Op}
use Rattle.rls_ops.specs.Rows.{is_covered, missing_for}
use Rattle.rls_ops.specs.Shapes.{shape_fault}
use Rattle.rls_model.specs.WellFormed.{IsOp}
use Rattle.rls_model.proofs.Later.{log_step, uncovered_again}
use Rattle.rls_seen.specs.Over.{logged}
use Rattle.rls_seen.specs.Sane.{Follow}

-- one more operation
pub follow_more : (n : ℕ) (from : List ℕ) (os : List Op) (to : List ℕ) (o : Op) → IsOp o → shape_fault n o ≡ None → o.seq ≡ slice_index to o.author + 1 → at_most o.context to ≡ true
    → Follow n from os to → Follow n from (os ++ o ∷ []) (raise to o.author)
follow_more n from [] to o w e q c f =
    (w, e, subst (λ v. o.seq ≡ slice_index v o.author + 1) (sym f) q, subst (λ v. IsTrue (at_most o.context v)) (sym f) c, ap (λ v. raise v o.author) f)
follow_more n from (p ∷ os) to o w e q c f = (f.0, f.1, f.2, f.3, follow_more n (raise from p.author) os to o w e q c f.4)

-- ---- without what a vector covers

-- the running vector is joined with that vector
follow_joined : (n : ℕ) (stable from : List ℕ) (os : List Op) (to : List ℕ) → length stable ≡ length from → Follow n from os to → Follow n (join stable from) (missing_for stable os) (join stable to)
follow_joined n stable from [] to e f = ap (join stable) f
follow_joined n stable from (o ∷ os) to e f =
    go (is_covered stable o) refl (follow_joined n stable (raise from o.author) os to (e ∙ sym (length-raise from o.author)) f.4)
  where
    go : (b : Bool) → is_covered stable o ≡ b → Follow n (join stable (raise from o.author)) (missing_for stable os) (join stable to) → Follow n (join stable from) (cond (not b) (o ∷ missing_for stable os) (missing_for stable os)) (join stable to)
    go true c ih =
        let q = f.2 in
        let k = le_is o.seq (slice_index stable o.author) c in
        subst (λ v. Follow n v (missing_for stable os) (join stable to)) (raise_below stable from o.author e (omega arith)) ih
    go false c ih =
        let q = f.2 in
        let k = not_le_is o.seq (slice_index stable o.author) c in
        let l : slice_index stable o.author ≤ slice_index from o.author = omega arith in
        let i = index-join stable from o.author e ∙ max_high (slice_index stable o.author) (slice_index from o.author) l in (
          f.0,
          f.1,
          omega arith,
          at_most_trans o.context from (join stable from) f.3 (second_below stable from e),
          subst (λ v. Follow n v (missing_for stable os) (join stable to)) (raise_above stable from o.author e l) ih,
        )

pub follow_dropped : (n : ℕ) (stable from : List ℕ) (os : List Op) (to : List ℕ) → length stable ≡ length from → length stable ≡ length to → at_most from stable ≡ true → at_most stable to ≡ true
    → Follow n from os to → Follow n stable (missing_for stable os) to
follow_dropped n stable from os to e g low high f =
    subst (λ v. Follow n v (missing_for stable os) to) (join_low stable from e low)
    (subst (Follow n (join stable from) (missing_for stable os)) (join_high stable to g high) (follow_joined n stable from os to e f))

-- a log has vectors of one length
pub follow_length : (n : ℕ) (from : List ℕ) (os : List Op) (to : List ℕ) → Follow n from os to → length from ≡ length to
follow_length n from [] to f = ap length f
follow_length n from (o ∷ os) to f = sym (length-raise from o.author) ∙ follow_length n (raise from o.author) os to f.4

-- ---- one more, unless it is stable at once and nothing else is there

-- it is there, or neither it nor anything else is
pub logged_is : (v : List ℕ) (os : List Op) (o : Op) → (logged v os o ≡ os ++ o ∷ []) ⊎ (logged v os o ≡ []) × (os ≡ []) × (is_covered v o ≡ true)
logged_is v [] o = bool_cases (is_covered v o) (λ e. inr (ap (λ b. cond b [] (o ∷ [])) e, refl, e)) (λ e. inl (ap (λ b. cond b [] (o ∷ [])) e))
logged_is v (p ∷ os) o = inl refl

-- what the vector doesn't cover is there in any case
pub missing_logged : (v : List ℕ) (os : List Op) (o : Op) → missing_for v (logged v os o) ≡ missing_for v (os ++ o ∷ [])
missing_logged v [] o = go (is_covered v o) refl
  where
    go : (b : Bool) → is_covered v o ≡ b → missing_for v (cond b [] (o ∷ [])) ≡ missing_for v (o ∷ [])
    go true e = sym (ap (λ b. cond (not b) (o ∷ []) []) e)
    go false e = refl
missing_logged v (p ∷ os) o = refl

-- a log that a vector leaves of all operations is again one, which that vector leaves or the new one
abbrev pub EitherOf : List ℕ → List ℕ → List ℕ → Type 0
EitherOf old new left = (left ≡ old) ⊎ (left ≡ new)

pub either_below : (old new left : List ℕ) → at_most old new ≡ true → EitherOf old new left → at_most left new ≡ true
either_below old new left h e = ⊎_elim (λ f. ap (λ v. at_most v new) f ∙ h) (λ f. ap (λ v. at_most v new) f ∙ at_most_refl new) e

pub logged_log : (old new : List ℕ) (log os : List Op) (o : Op) → at_most old new ≡ true → is_covered old o ≡ false → log ≡ missing_for old os → (left : List ℕ) × EitherOf old new left × (logged new log o ≡ missing_for left (os ++ o ∷ []))
logged_log old new log os o l c e =
    ⊎_elim
    (λ f. (old, inl refl, f ∙ (ap (λ ps. ps ++ o ∷ []) e ∙ sym (log_step old os o c))))
    (λ f. (new, inr refl, f.0 ∙ sym (none f.1 f.2)))
    (logged_is new log o)
  where
    none : log ≡ [] → is_covered new o ≡ true → missing_for new (os ++ o ∷ []) ≡ []
    none f k =
        filter-append (λ (x : Op). not (is_covered new x)) os (o ∷ [])
        ∙ (ap (λ ps. ps ++ missing_for new (o ∷ [])) (sym (uncovered_again old new os l) ∙ ap (missing_for new) (sym e ∙ f)) ∙ ap (λ b. cond (not b) (o ∷ []) []) k)

-- the log leads on from either vector
pub follow_accepted : (n : ℕ) (old new : List ℕ) (os : List Op) (to : List ℕ) (o : Op) → IsOp o → shape_fault n o ≡ None → o.seq ≡ slice_index to o.author + 1 → at_most o.context to ≡ true
    → length new ≡ length to → at_most old new ≡ true → at_most new (raise to o.author) ≡ true → Follow n old os to → (left : List ℕ) × EitherOf old new left × Follow n left (logged new os o) (raise to o.author)
follow_accepted n old new os to o w e q c long low high f =
    let more = follow_more n old os to o w e q c f in
    ⊎_elim
    (λ g. (old, inl refl, subst (λ ps. Follow n old ps (raise to o.author)) (sym g) more))
    (λ g. (
      new,
      inr refl,
      subst (λ ps. Follow n new ps (raise to o.author)) (sym (missing_logged new os o) ∙ (ap (missing_for new) g.0 ∙ sym g.0))
          (follow_dropped n new old (os ++ o ∷ []) (raise to o.author) (long ∙ sym (follow_length n old os to f)) (long ∙ sym (length-raise to o.author)) low high more),
    ))
    (logged_is new os o)

pub logged_split : (v : List ℕ) (os : List Op) (o x : Op) → IsIn x (logged v os o) → IsIn x os ⊎ (o ≡ x)
logged_split v os o x p = ⊎_elim (λ e. snoc_split x o os (subst (IsIn x) e p)) (λ e. absurd (subst (IsIn x) e.0 p)) (logged_is v os o)
