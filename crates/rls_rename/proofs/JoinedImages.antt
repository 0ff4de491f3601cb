-- One more stretch behind the runs of an image.
use Rattle.std.proofs.Common.{◌≡◌, ℕ, ◌+◌, ◌<◌, true, false, List, [], ◌∷◌, ◌++◌, None, sym, ap, ◌∙◌, arith, rules}
use Rattle.std.specs.Prelude.{pos, ◌+ℤ◌, ◌≤ℤ◌, ◌&&◌, int_le, nat_lt}
use Rattle.std.proofs.lemmas.Int.{ints}
use Rattle.rls_ident.specs.declared.tuple.Tuple.{Tuple}
use Rattle.rls_ident.specs.Tuples.{offset_of}
use Rattle.rls_ident.specs.Identifiers.{is_ident, is_bounded, ident_eq, last_of, shifted}
use Rattle.rls_ident.proofs.Ends.{eq_same}
use Rattle.rls_ident.proofs.Members.{and_true, lt_test}
use Rattle.rls_ident.proofs.Shifted.{last_offset}
use Rattle.rls_runs.specs.Runs.{run_idents, idents_of, are_apart, is_run, past_offsets}
use Rattle.rls_runs.specs.Places.{last_ident, is_above, touches}
use Rattle.rls_runs.proofs.RunEnds.{touches_at}
use Rattle.rls_runs.proofs.RunJoins.{last_pushed, apart_by_last, apart_longer, idents_pushed, idents_longer}
use Rattle.rls_runs.proofs.RunsOf.{apart_more}

pub stretch_is_run : (x : List Tuple) (n : ℕ) → is_ident x ≡ true → is_bounded x ≡ true → 0 < n → (offset_of (last_of x) +ℤ pos n) ≤ℤ past_offsets → is_run (x, n) ≡ true
stretch_is_run x n i b s r =
    and_true (is_ident x && is_bounded x && nat_lt 0 n) (int_le (offset_of (last_of x) +ℤ pos n) past_offsets) (and_true (is_ident x && is_bounded x) (nat_lt 0 n) (and_true (is_ident x) (is_bounded x) i b) (lt_test 0 n s)) (search rules)

module _ (fs : List (List Tuple × ℕ)) (x : List Tuple) (n : ℕ) (y : List Tuple) (m : ℕ) (some : 0 < m) (apart : are_apart None (fs ++ (x, n) ∷ []) ≡ true) where
  -- it touches the last one
  module _ (t : ident_eq y (shifted (pos n) x) ≡ true) where
    behind : y ≡ shifted (pos n) x
    behind = eq_same y (shifted (pos n) x) t

    pub joined_range : is_ident x ≡ true → (offset_of (last_of y) +ℤ pos m) ≤ℤ past_offsets → (offset_of (last_of x) +ℤ pos (n + m)) ≤ℤ past_offsets
    joined_range i r = let e = ap (λ z. offset_of (last_of z)) behind ∙ last_offset (pos n) x i in omega (arith, ints)

    pub joined_apart : are_apart None (fs ++ (x, n + m) ∷ []) ≡ true
    joined_apart = apart_longer None fs x n (n + m) (omega arith) apart

    pub joined_idents : idents_of (fs ++ (x, n + m) ∷ []) ≡ idents_of (fs ++ (x, n) ∷ []) ++ run_idents y m
    joined_idents = idents_longer fs x n m y behind

  -- it stands apart
  pub pushed_apart : is_run (x, n) ≡ true → is_above (last_ident (idents_of (fs ++ (x, n) ∷ []))) y ≡ true → ident_eq y (shifted (pos n) x) ≡ false → are_apart None ((fs ++ (x, n) ∷ []) ++ (y, m) ∷ []) ≡ true
  pushed_apart r a t =
      let free : touches (last_ident (idents_of (fs ++ (x, n) ∷ []))) y ≡ false = ap (λ o. touches o y) (last_pushed fs (x, n) r) ∙ (sym (touches_at (x, n) y r) ∙ t) in
      apart_more None (fs ++ (x, n) ∷ []) (y, m) apart (lt_test 0 m some) (apart_by_last fs (x, n) (y, m) r a free)

  pub pushed_idents : idents_of ((fs ++ (x, n) ∷ []) ++ (y, m) ∷ []) ≡ idents_of (fs ++ (x, n) ∷ []) ++ run_idents y m
  pushed_idents = idents_pushed (fs ++ (x, n) ∷ []) (y, m)
