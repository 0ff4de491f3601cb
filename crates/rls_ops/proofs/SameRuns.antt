-- Lists of identifiers that have the same maximal runs are equal.
use Rattle.std.proofs.Common.{◌≡◌, ℕ, Bool, true, List, sym, ap, ◌∙◌}
use Rattle.rls_ident.specs.declared.tuple.Tuple.{Tuple}
use Rattle.rls_ident.specs.Identifiers.{ident_eq}
use Rattle.rls_ident.proofs.Members.{bool_cases, not_true}
use Rattle.rls_ident.proofs.Ends.{eq_same, ident_eq_refl}
use Rattle.rls_runs.specs.Runs.{runs_of, idents_of}
use Rattle.rls_runs.proofs.RunsOf.{idents_of_runs}
use Rattle.rls_ops.specs.Same.{idents_eq}
use Rattle.rls_ops.proofs.Equal.{idents_are, idents_same}

pub runs_are : (xs ys : List (List Tuple)) → runs_of xs ≡ runs_of ys → xs ≡ ys
runs_are xs ys e = sym (idents_of_runs xs) ∙ ap idents_of e ∙ idents_of_runs ys

pub runs_tested : (xs ys : List (List Tuple)) (b : Bool) → (b ≡ true → runs_of xs ≡ runs_of ys) → (runs_of xs ≡ runs_of ys → b ≡ true) → b ≡ idents_eq xs ys
runs_tested xs ys b f g =
    bool_cases (idents_eq xs ys)
    (λ e. g (ap runs_of (idents_are xs ys e)) ∙ sym e)
    (λ e. not_true b (λ h. let k = ap (λ zs. idents_eq xs zs) (runs_are xs ys (f h)) in let m = idents_same xs in cc) ∙ sym e)

-- a run is told by its length and its first identifier
pub run_tested : (r q : List Tuple × ℕ) (b : Bool) → r.1 ≡ q.1 → b ≡ ident_eq r.0 q.0 → (b ≡ true → r ≡ q) × (r ≡ q → b ≡ true)
run_tested r q b l e = (
  λ h. ap (λ x. (x, r.1)) (eq_same r.0 q.0 (sym e ∙ h)) ∙ ap (λ n. (q.0, n)) l,
  λ h. e ∙ ap (λ x. ident_eq r.0 x) (ap (λ s. s.0) (sym h)) ∙ ident_eq_refl r.0,
)
