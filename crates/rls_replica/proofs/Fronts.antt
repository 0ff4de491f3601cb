-- How far two lists have the same identifiers.
use Rattle.std.proofs.Common.{◌≡◌, ◌∙◌, ℕ, ◌+◌, ◌-◌, ◌<◌, ◌≤◌, List, length, Some, sym, ap, arith}
use Rattle.std.specs.Prelude.{pos, slice_get}
use Rattle.std.proofs.lemmas.Int.{ints}
use Rattle.std.proofs.lemmas.Option.{slice_get_within}
use Rattle.rls_ident.specs.declared.tuple.Tuple.{Tuple}
use Rattle.rls_ident.specs.Identifiers.{shifted}
use Rattle.rls_ident.proofs.Shifted.{shifted_shifted}
use Rattle.rls_runs.specs.Runs.{run_idents}
use Rattle.rls_runs.proofs.Finding.{run_length}
use Rattle.rls_runs.proofs.RunOrder.{run_gets}

-- further along one run
pub moved : (p j : ℕ) (a : List Tuple) → shifted (pos j) (shifted (pos p) a) ≡ shifted (pos (p + j)) a
moved p j a = shifted_shifted (pos j) (pos p) a ∙ ap (λ k. shifted k a) (omega (arith, ints))

-- identifiers of a list that are a run from one on
pub part_within : (xs part : List (List Tuple)) (at from n : ℕ) (a : List Tuple) → part ≡ run_idents (shifted (pos from) a) n → 0 < n
    → ((k : ℕ) → k < n → slice_get xs (at + k) ≡ Some (shifted (pos (from + k)) a)) → at + length part ≤ length xs
part_within xs part at from n a e some f =
    let long : length part ≡ n = ap length e ∙ run_length (shifted (pos from) a) n in
    let last = slice_get_within xs (at + (n - 1)) (shifted (pos (from + (n - 1))) a) (f (n - 1) (omega (arith, some))) in
    omega (arith, long, last, some)

pub part_gets : (xs part : List (List Tuple)) (at from n : ℕ) (a : List Tuple) → part ≡ run_idents (shifted (pos from) a) n → ((k : ℕ) → k < n → slice_get xs (at + k) ≡ Some (shifted (pos (from + k)) a))
    → (k : ℕ) → k < length part → slice_get part k ≡ slice_get xs (at + k)
part_gets xs part at from n a e f k l =
    let long : length part ≡ n = ap length e ∙ run_length (shifted (pos from) a) n in
    let in_run : k < n = omega (arith, long, l) in
    ap (λ ys. slice_get ys k) e ∙ (run_gets (shifted (pos from) a) n k in_run ∙ (ap Some (moved from k a) ∙ sym (f k in_run)))
