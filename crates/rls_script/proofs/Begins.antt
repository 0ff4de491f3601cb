-- A grapheme cluster begins before it ends.
use Rattle.std.proofs.Common.{◌≡◌, ◌+◌, ◌≤◌, ◌==◌, ℕ, Bool, true, false, cond, eqb, List, [], ◌∷◌, length, Option, Some, None, Result, Ok, Err, IfOk, sym, refl, subst, arith, ◌||◌, nat_lt}
use Rattle.std.proofs.lemmas.Bool.{eqb-true}
use Rattle.rls_script.specs.declared.clusters.ClusterError.{ClusterError}
use Rattle.rls_script.specs.declared.clusters.ClusterError.TheVariants.{Range}
use Rattle.rls_script.specs.Clusters.{begin_of, cluster_before, clusters_of, or_no_boundary}

-- what is chosen by a test
chosen : (b : Bool) (x f at : ℕ) (r : Option ℕ) → cond b (Some x) r ≡ Some f → (b ≡ true → x ≤ at) → (r ≡ Some f → f ≤ at) → f ≤ at
chosen true x f at r e here there = let same : x ≡ f = cc in subst (λ n. n ≤ at) same (here refl)
chosen false x f at r e here there = there e

begins_before : (at from f : ℕ) (pieces : List (List ℕ)) → begin_of at from pieces ≡ Some f → f ≤ at
begins_before at from f [] e = cc
begins_before at from f (piece ∷ pieces) e =
    chosen (eqb (from + length piece) at) from f at (begin_of at (from + length piece) pieces) e
    (λ t. let end = eqb-true (from + length piece) at t in omega arith)
    (λ there. begins_before at (from + length piece) f pieces there)

found_before : (at f : ℕ) (o : Option ℕ) → or_no_boundary at o ≡ Ok f → o ≡ Some f
found_before at f None e = cc
found_before at f (Some g) e = cc

pub cluster_begins : (text : List ℕ) (at f : ℕ) → cluster_before text at ≡ Ok f → f ≤ at
unfolding cluster_before
cluster_begins text at f e = go ((at == 0) || nat_lt (length text) at) (Range at (length text)) e
  where
    go : (b : Bool) (x : ClusterError) → cond b (Err x) (or_no_boundary at (begin_of at 0 (clusters_of text))) ≡ Ok f → f ≤ at
    go true x e = cc
    go false x e = begins_before at 0 f (clusters_of text) (found_before at f (begin_of at 0 (clusters_of text)) e)

-- and so it does at its place in a text
pub begins_within : (text : List ℕ) (k start at : ℕ) (r : Result ℕ ClusterError) → r ≡ cluster_before text k → start + k ≡ at → IfOk r (λ begin. start + begin ≤ at)
begins_within text k start at (Ok begin) e same = omega (arith, cluster_begins text k begin (sym e))
begins_within text k start at (Err x) e same = tt
