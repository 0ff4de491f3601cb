-- Numbers in decimal digits.
use Rattle.std.proofs.Common.{◌≡◌, ℕ, ◌<◌, ◌≤◌, ◌^◌, ◌≢◌, ◌⊎◌, inl, inr, Bool, true, false, not, ◌&&◌, List, [], ◌∷◌, length, get_or, eqb, ltb, Some, None, Result, Ok, Err, refl, sym, ap, subst, ◌∙◌, arith, bytes_eq}
use Rattle.std.proofs.lemmas.Bool.{and_parts, and_from, both_ways, ltb-true, lt-ltb, cond-true, cond-false, false_from_ne_true, cases_lt, not-true, eqb-false}
use Rattle.std.proofs.lemmas.Bool.Decides.{nat_tests}
use Rattle.std.proofs.lemmas.Fmt.{decimal_is_IsNumeral, decimal-digits_value, first_decimal, decimal_digit}
use Rattle.std.proofs.lemmas.Slice.Eq.{bytes_eq-Decides}
use Rattle.std.proofs.lemmas.Str.Parse.{IsNumeralModel, numerals_by_value, tells_digits, parse_plain, digit_from_value}
use Rattle.std.specs.Char.{is_ascii_digit}
use Rattle.std.specs.Fmt.{decimal}
use Rattle.std.specs.Int.{IsInRange}
use Rattle.std.specs.Result.{result_ok, OkIff}
use Rattle.std.specs.Str.Parse.{ParsesUnsigned, AllDigits, digits_value, IsNumeral}
use Rattle.rls_script.specs.Scripts.{number_of, begins_plainly}

own : IsNumeralModel (AllDigits 10) (digits_value 10)
own = numerals_by_value (AllDigits 10) tells_digits

digit_test : (c : ℕ) → IsInRange 48 57 c → is_ascii_digit c ≡ true
digit_test c h = let low = h.0 in let high = h.1 in grind (arith, nat_tests)

digit_range : (c : ℕ) → is_ascii_digit c ≡ true → IsInRange 48 57 c
digit_range c h = grind (arith, nat_tests)

plain_from : (ds : List ℕ) → IsNumeral 10 ds → (48 < get_or ds 0 0) ⊎ (length ds ≡ 1) → begins_plainly ds ≡ true
plain_from [] h first = absurd (omega (arith, h.0))
plain_from (c ∷ []) h first = digit_test c (digit_from_value c h.1.0)
plain_from (c ∷ d ∷ ds) h (inl first) = and_from _ _ (digit_test c (digit_from_value c h.1.0)) (grind (arith, nat_tests))
plain_from (c ∷ d ∷ ds) h (inr one) = absurd (omega (arith, one))

-- a number's digits begin plainly
decimal_plain : (n : ℕ) → n < 2 ^ 64 → begins_plainly (decimal n) ≡ true
decimal_plain n small = plain_from (decimal n) (decimal_is_IsNumeral n small).0 (by_size (cases_lt n 10))
  where
    by_size : (n < 10) ⊎ (10 ≤ n) → (48 < get_or (decimal n) 0 0) ⊎ (length (decimal n) ≡ 1)
    by_size (inl h) = inr (ap length (decimal_digit n h))
    by_size (inr h) = inl (first_decimal n (omega arith) small)

plain_first : (ds : List ℕ) → begins_plainly ds ≡ true → (get_or ds 0 0 ≢ 43) × (get_or ds 0 0 ≡ 48 → length ds ≡ 1)
plain_first [] h = cc
plain_first (c ∷ []) h = let r = digit_range c h in (λ e. omega (arith, r.0), λ e. refl)
plain_first (c ∷ d ∷ ds) h =
    let both = and_parts (is_ascii_digit c) (not (eqb c 48)) h in
    let r = digit_range c both.0 in
    (λ e. omega (arith, r.0), λ e. absurd (eqb-false c 48 (not-true (eqb c 48) both.1) e))

-- whether these are the digits of their value, which is small
abbrev is_canonical : List ℕ → Bool
is_canonical ds = ltb (digits_value 10 ds) (2 ^ 64) && bytes_eq (decimal (digits_value 10 ds)) ds

canonical_parts : (ds : List ℕ) → is_canonical ds ≡ true → (digits_value 10 ds < 2 ^ 64) × (decimal (digits_value 10 ds) ≡ ds)
canonical_parts ds h =
    let both = and_parts (ltb (digits_value 10 ds) (2 ^ 64)) (bytes_eq (decimal (digits_value 10 ds)) ds) h in
    (ltb-true (digits_value 10 ds) (2 ^ 64) both.0, (bytes_eq-Decides (decimal (digits_value 10 ds)) ds).0 both.1)

none_from : (ds : List ℕ) → (is_canonical ds ≡ true → ⊥) → number_of ds ≡ None
unfolding number_of
none_from ds against = cond-false (is_canonical ds) (Some (digits_value 10 ds)) None (false_from_ne_true (is_canonical ds) against)

some_from : (ds : List ℕ) → digits_value 10 ds < 2 ^ 64 → decimal (digits_value 10 ds) ≡ ds → number_of ds ≡ Some (digits_value 10 ds)
unfolding number_of
some_from ds small same = cond-true (is_canonical ds) (Some (digits_value 10 ds)) None (and_from _ _ (lt-ltb (digits_value 10 ds) (2 ^ 64) small) ((bytes_eq-Decides (decimal (digits_value 10 ds)) ds).1 same))

-- what doesn't begin plainly is no number
pub no_number : (ds : List ℕ) → begins_plainly ds ≡ false → number_of ds ≡ None
no_number ds h = none_from ds (λ yes. let parts = canonical_parts ds yes in both_ways (begins_plainly ds) h (subst (λ (xs : List ℕ). begins_plainly xs ≡ true) parts.1 (decimal_plain (digits_value 10 ds) parts.0)))

-- what begins plainly is the number that parsing gives
pub parsed_number : {E : Type 0} (ds : List ℕ) (r : Result ℕ E) → begins_plainly ds ≡ true → ParsesUnsigned 64 10 ds r → result_ok r ≡ number_of ds
parsed_number {E} ds r plain h = by_result r (parse_plain own 64 ds r h (plain_first ds plain).0)
  where
    by_result : (r : Result ℕ E) → OkIff r (AllDigits 10 ds × (0 < length ds) × (digits_value 10 ds < 2 ^ 64)) (digits_value 10 ds) → result_ok r ≡ number_of ds
    by_result (Ok x) (p, same) = ap (λ n. Some n) same ∙ sym (some_from ds p.2 (decimal-digits_value own ds p.0 p.1 (plain_first ds plain).1 p.2))
    by_result (Err e) against = sym (none_from ds (λ yes.
        let parts = canonical_parts ds yes in
        let numeral = subst (IsNumeral 10) parts.1 (decimal_is_IsNumeral (digits_value 10 ds) parts.0).0 in
        against (numeral.1, numeral.0, parts.0)))
