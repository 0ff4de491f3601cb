-- Worked examples of runs, by computation.
use Rattle.std.specs.Prelude.{◌≡◌, ℕ, pos, negsuc, List, [], ◌∷◌, ◌++◌, refl, true, false}
use Rattle.rls_ident.specs.declared.tuple.Tuple.{Tuple}
use Rattle.rls_ident.specs.declared.tuple.Tuple.TheVariants.{At}
use Rattle.rls_ident.specs.Tuples.{spot_cmp, tuple_cmp}
use Rattle.rls_runs.specs.Runs.{run_idents, is_increasing, runs_of}

-- the middle position
abbrev mid : ℕ
mid = 2147483647

one_run : runs_of (run_idents (At mid 0 1 (negsuc 0) ∷ []) 6) ≡ (At mid 0 1 (negsuc 0) ∷ [], 6) ∷ []
unfolding spot_cmp tuple_cmp
one_run = refl

-- two characters in the middle of five
abbrev split : List (List Tuple)
split = run_idents (At mid 0 1 (pos 0) ∷ []) 2 ++ run_idents (At mid 0 1 (pos 1) ∷ At mid 0 2 (pos 0) ∷ []) 2 ++ run_idents (At mid 0 1 (pos 2) ∷ []) 3

three_runs : runs_of split ≡ (At mid 0 1 (pos 0) ∷ [], 2) ∷ (At mid 0 1 (pos 1) ∷ At mid 0 2 (pos 0) ∷ [], 2) ∷ (At mid 0 1 (pos 2) ∷ [], 3) ∷ []
unfolding spot_cmp tuple_cmp
three_runs = refl

rises : is_increasing split ≡ true
unfolding spot_cmp tuple_cmp
rises = refl

not_twice : is_increasing ((At mid 0 1 (pos 0) ∷ []) ∷ (At mid 0 1 (pos 0) ∷ []) ∷ []) ≡ false
unfolding spot_cmp tuple_cmp
not_twice = refl
