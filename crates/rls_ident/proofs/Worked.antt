-- Worked examples of identifiers, by computation.
use Rattle.std.specs.Prelude.{◌≡◌, ℕ, pos, negsuc, [], ◌∷◌, refl, true, false}
use Rattle.std.specs.declared.cmp.Ordering.TheVariants.{Less}
use Rattle.rls_ident.specs.declared.tuple.Tuple.TheVariants.{Low, At, High}
use Rattle.rls_ident.specs.Tuples.{spot_cmp, tuple_cmp}
use Rattle.rls_ident.specs.Identifiers.{ident_cmp, is_ident, is_bounded}
use Rattle.rls_ident.specs.Maps.{under}
use Rattle.rls_ident.specs.Between.{between}

-- the middle position
abbrev mid : ℕ
mid = 2147483647

between_nothing : between [] [] 0 1 ≡ At mid 0 1 (pos 0) ∷ []
unfolding spot_cmp tuple_cmp
between_nothing = refl

between_before : between [] (At mid 0 1 (pos 0) ∷ []) 0 2 ≡ At 1073741823 0 2 (pos 0) ∷ []
unfolding spot_cmp tuple_cmp
between_before = refl

between_behind : between (At mid 0 1 (pos 4) ∷ []) [] 1 1 ≡ At 3221225471 1 1 (pos 0) ∷ []
unfolding spot_cmp tuple_cmp
between_behind = refl

between_two : between (At mid 0 1 (pos 1) ∷ []) (At mid 0 1 (pos 2) ∷ []) 0 2 ≡ At mid 0 1 (pos 1) ∷ At mid 0 2 (pos 0) ∷ []
unfolding spot_cmp tuple_cmp
between_two = refl

-- a lower bound that is missing, and an upper one at the least position
between_least : between [] (At 1 0 1 (pos 0) ∷ []) 0 2 ≡ At 1 0 1 (negsuc 0) ∷ At mid 0 2 (pos 0) ∷ []
unfolding spot_cmp tuple_cmp
between_least = refl

under_repeated : under tuple_cmp (At 1 0 1 (pos 0) ∷ At 1 0 1 (pos 0) ∷ []) (At 1 0 1 (pos 0) ∷ []) ≡ true
unfolding spot_cmp tuple_cmp under
under_repeated = refl

prefix_less : ident_cmp (At mid 0 1 (pos 1) ∷ []) (At mid 0 1 (pos 1) ∷ Low ∷ At 5 0 9 (pos 0) ∷ []) ≡ Less
unfolding spot_cmp tuple_cmp
prefix_less = refl

low_alone : is_ident (Low ∷ []) ≡ false
low_alone = refl

-- the ends of the program's range
least_last : is_bounded (At mid 0 1 (negsuc 1073741823) ∷ []) ≡ true
least_last = refl

below_least_last : is_bounded (At mid 0 1 (negsuc 1073741824) ∷ []) ≡ false
below_least_last = refl

least_inner : is_bounded (At mid 0 1 (negsuc 1073741824) ∷ High ∷ At mid 0 2 (pos 0) ∷ []) ≡ true
least_inner = refl

above_greatest : is_bounded (At mid 0 1 (pos 1073741824) ∷ []) ≡ false
above_greatest = refl
