-- Lists of operations that are made one after another.
use Rattle.std.proofs.Common.{◌≡◌, ◌∙◌, ℕ, ◌+◌, ◌<◌, ◌≤◌, not, Bool, true, false, List, ◌∷◌, drop, refl, sym, ap, Some}
use Rattle.std.specs.Prelude.{slice_get, slice_index, if◌then◌else◌}
use Rattle.rls_ident.proofs.Loops.{drop_reads}
use Rattle.rls_ident.proofs.Agreeing.{filter_all}
use Rattle.rls_ident.proofs.Members.{in_filter, le_test, not_le_test}
use Rattle.rls_ops.specs.declared.op.Op.{Op}
use Rattle.rls_ops.specs.Rows.{is_covered, missing_for}

-- the operations from a place on that a vector doesn't cover
uncovered_more : (v : List ℕ) (os : List Op) (i : ℕ) (o : Op) (b : Bool) → slice_get os i ≡ Some o → is_covered v o ≡ b → missing_for v (drop i os) ≡ (if b then missing_for v (drop (i + 1) os) else o ∷ missing_for v (drop (i + 1) os))
uncovered_more v os i o b h e = ap (missing_for v) (drop_reads os i o h) ∙ (ap (λ c. if not c then o ∷ missing_for v (drop (i + 1) os) else missing_for v (drop (i + 1) os)) e ∙ go b (missing_for v (drop (i + 1) os)))
  where
    go : (b : Bool) (rest : List Op) → (if not b then o ∷ rest else rest) ≡ (if b then rest else o ∷ rest)
    go true rest = refl
    go false rest = refl

-- by the test
pub covered_step : (v : List ℕ) (os : List Op) (i : ℕ) (o : Op) → slice_get os i ≡ Some o → is_covered v o ≡ true → missing_for v (drop (i + 1) os) ≡ missing_for v (drop i os)
covered_step v os i o h e = sym (uncovered_more v os i o true h e)

pub uncovered_step : (v : List ℕ) (os : List Op) (i : ℕ) (o : Op) → slice_get os i ≡ Some o → is_covered v o ≡ false → o ∷ missing_for v (drop (i + 1) os) ≡ missing_for v (drop i os)
uncovered_step v os i o h e = sym (uncovered_more v os i o false h e)

-- what is left is left again
pub uncovered_again : (v : List ℕ) (os : List Op) → missing_for v (missing_for v os) ≡ missing_for v os
uncovered_again v os = filter_all (λ o. not (is_covered v o)) (missing_for v os) (λ o k. (in_filter (λ p. not (is_covered v p)) o os k).1)

-- one that is covered
pub covered_next : (v : List ℕ) (os : List Op) (i : ℕ) (o : Op) → slice_get os i ≡ Some o → o.seq ≤ slice_index v o.author → missing_for v (drop (i + 1) os) ≡ missing_for v (drop i os)
covered_next v os i o h l = sym (uncovered_more v os i o true h (le_test o.seq (slice_index v o.author) l))

-- one that isn't
pub uncovered_next : (v : List ℕ) (os : List Op) (i : ℕ) (o : Op) → slice_get os i ≡ Some o → slice_index v o.author < o.seq → o ∷ missing_for v (drop (i + 1) os) ≡ missing_for v (drop i os)
uncovered_next v os i o h l = sym (uncovered_more v os i o false h (not_le_test o.seq (slice_index v o.author) l))
