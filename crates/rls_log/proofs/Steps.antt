-- Going over a log, operation by operation.
use Rattle.std.proofs.Common.{◌≡◌, ◌∙◌, ℕ, zero, suc, ◌+◌, ◌<◌, ◌≤◌, Bool, true, false, not, List, [], ◌∷◌, ◌++◌, length, take, drop, Some, sym, ap, append_assoc, arith, sum_by}
use Rattle.std.specs.Prelude.{slice_get, if◌then◌else◌}
use Rattle.std.specs.List.{flat_map}
use Rattle.std.proofs.lemmas.List.{append-nil, drop_all, length-take}
use Rattle.std.proofs.lemmas.List.Elements.{filter-append}
use Rattle.std.proofs.lemmas.List.Concat.{flat_map-append}
use Rattle.std.proofs.lemmas.List.Sums.{sum_by-cons}
use Rattle.rls_ident.proofs.Members.{some_is, le_test, not_le_test}
use Rattle.rls_ops.specs.declared.op.Op.{Op}
use Rattle.rls_ops.specs.Rows.{is_covered, missing_for}
use Rattle.rls_ops.specs.Sizes.{op_size, front_within}
use Rattle.rls_ops.specs.Spelling.{op_bytes}
use Rattle.rls_codec.proofs.SizeLaws.{op_length}
use Rattle.rls_log.proofs.Uncovered.{uncovered_step}

-- ---- lists

pub get_take : {A : Type 0} (xs : List A) (n i : ℕ) (x : A) → i < n → slice_get xs i ≡ Some x → slice_get (take n xs) i ≡ Some x
get_take [] n i x l h = absurd cc
get_take (y ∷ ys) zero i x l h = absurd (omega (arith, l))
get_take (y ∷ ys) (suc n) zero x l h = h
get_take (y ∷ ys) (suc n) (suc i) x l h = get_take ys n i x (omega (arith, l)) h

pub take_reads : {A : Type 0} (xs : List A) (i : ℕ) (x : A) → slice_get xs i ≡ Some x → take (i + 1) xs ≡ take i xs ++ x ∷ []
take_reads [] i x h = absurd cc
take_reads (y ∷ ys) zero x h = ap (λ z. z ∷ []) (some_is y x h)
take_reads (y ∷ ys) (suc i) x h = let e : suc i + 1 ≡ suc (i + 1) = omega arith in ap (λ n. take n (y ∷ ys)) e ∙ ap (λ zs. y ∷ zs) (take_reads ys i x h)

pub none_left : (n i : ℕ) (os : List Op) → n ≤ i → drop i (take n os) ≡ []
none_left n i os l = drop_all i (take n os) (omega (arith, l, length-take n os))

-- ---- what a vector doesn't cover, so far

alone : (v : List ℕ) (o : Op) (b : Bool) → is_covered v o ≡ b → missing_for v (o ∷ []) ≡ (if b then [] else o ∷ [])
alone v o true e = ap (λ c. if not c then o ∷ [] else []) e
alone v o false e = ap (λ c. if not c then o ∷ [] else []) e

pub taken_covered : (v : List ℕ) (os : List Op) (i : ℕ) (o : Op) → slice_get os i ≡ Some o → is_covered v o ≡ true → missing_for v (take (i + 1) os) ≡ missing_for v (take i os)
taken_covered v os i o h e =
    ap (missing_for v) (take_reads os i o h) ∙ filter-append (λ p. not (is_covered v p)) (take i os) (o ∷ []) ∙ ap (λ ps. missing_for v (take i os) ++ ps) (alone v o true e) ∙ append-nil (missing_for v (take i os))

pub taken_uncovered : (v : List ℕ) (os : List Op) (i : ℕ) (o : Op) → slice_get os i ≡ Some o → is_covered v o ≡ false → missing_for v (take (i + 1) os) ≡ missing_for v (take i os) ++ o ∷ []
taken_uncovered v os i o h e =
    ap (missing_for v) (take_reads os i o h) ∙ filter-append (λ p. not (is_covered v p)) (take i os) (o ∷ []) ∙ ap (λ ps. missing_for v (take i os) ++ ps) (alone v o false e)

-- ---- the longest front within a limit

-- one that no longer fits
pub front_stops : (used limit : ℕ) (o : Op) (os : List Op) → limit < used + op_size o → front_within used limit (o ∷ os) ≡ []
front_stops used limit o os l = ap (λ b. if b then o ∷ front_within (used + op_size o) limit os else []) (not_le_test (used + op_size o) limit l)

-- one that fits
pub front_goes : (used limit : ℕ) (o : Op) (os : List Op) → used + op_size o ≤ limit → front_within used limit (o ∷ os) ≡ o ∷ front_within (used + op_size o) limit os
front_goes used limit o os l = ap (λ b. if b then o ∷ front_within (used + op_size o) limit os else []) (le_test (used + op_size o) limit l)

pub front_more : (v : List ℕ) (os : List Op) (i used limit : ℕ) (o : Op) → slice_get os i ≡ Some o → is_covered v o ≡ false → used + op_size o ≤ limit
    → missing_for v (take (i + 1) os) ++ front_within (used + op_size o) limit (missing_for v (drop (i + 1) os)) ≡ missing_for v (take i os) ++ front_within used limit (missing_for v (drop i os))
front_more v os i used limit o h e l =
    let rest = missing_for v (drop (i + 1) os) in
    ap (λ ps. ps ++ front_within (used + op_size o) limit rest) (taken_uncovered v os i o h e)
    ∙ append_assoc (missing_for v (take i os)) (o ∷ []) (front_within (used + op_size o) limit rest)
    ∙ ap (λ ps. missing_for v (take i os) ++ ps) (sym (front_goes used limit o rest l) ∙ ap (front_within used limit) (uncovered_step v os i o h e))

pub front_ends : (v : List ℕ) (os : List Op) (i used limit : ℕ) (o : Op) → slice_get os i ≡ Some o → is_covered v o ≡ false → limit < used + op_size o
    → missing_for v (take i os) ++ front_within used limit (missing_for v (drop i os)) ≡ missing_for v (take i os)
front_ends v os i used limit o h e l =
    ap (λ ps. missing_for v (take i os) ++ front_within used limit ps) (sym (uncovered_step v os i o h e))
    ∙ ap (λ ps. missing_for v (take i os) ++ ps) (front_stops used limit o (missing_for v (drop (i + 1) os)) l) ∙ append-nil (missing_for v (take i os))

-- ---- sums and bytes

pub size_next : (o : Op) (xs ys : List Op) → ys ≡ o ∷ xs → sum_by op_size ys ≡ op_size o + sum_by op_size xs
size_next o xs ys e = ap (sum_by op_size) e ∙ sum_by-cons op_size o xs

pub flat_pushed : (os : List Op) (o : Op) → flat_map op_bytes (os ++ o ∷ []) ≡ flat_map op_bytes os ++ op_bytes o
flat_pushed os o = flat_map-append op_bytes os (o ∷ []) ∙ ap (λ w. flat_map op_bytes os ++ w) (append-nil (op_bytes o))

pub bytes_next : (o : Op) (xs ys : List Op) (before after total : List ℕ) → ys ≡ o ∷ xs → after ≡ before ++ op_bytes o → before ++ flat_map op_bytes ys ≡ total → after ++ flat_map op_bytes xs ≡ total
bytes_next o xs ys before after total e g h = ap (λ w. w ++ flat_map op_bytes xs) g ∙ append_assoc before (op_bytes o) (flat_map op_bytes xs) ∙ ap (λ zs. before ++ flat_map op_bytes zs) (sym e) ∙ h

pub part_size : (o : Op) (part : List ℕ) → part ≡ op_bytes o → length part ≡ op_size o
part_size o part e = ap length e ∙ op_length o
