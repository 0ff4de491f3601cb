-- A place is written as one word.
use Rattle.std.proofs.Common.{◌<◌, ◌^◌, ℕ, suc, List, [], ◌∷◌, ◌++◌, arith, rules}
use Rattle.std.specs.Prelude.{ℤ, pos, negsuc, codes}
use Rattle.std.specs.Fmt.{decimal, signed_decimal}
use Rattle.std.specs.Str.Parse.{AllDigits}
use Rattle.std.proofs.lemmas.Fmt.{decimal_is_IsNumeral}
use Rattle.std.proofs.lemmas.Str.Parse.{digit_from_value}
use Rattle.rls_ident.specs.declared.tuple.Tuple.{Tuple}
use Rattle.rls_ident.specs.declared.tuple.Tuple.TheVariants.{Low, At, High}
use Rattle.rls_ident.specs.declared.epoch_name.EpochName.{EpochName}
use Rattle.rls_ident.specs.declared.epoch_name.EpochName.TheVariants.{Origin, Of}
use Rattle.rls_ops.specs.WellFormed.{IsSmall}
use Rattle.rls_codec.specs.Spelled.{FitsName, FitTuples}
use Rattle.rls_report.specs.Texts.{ident_text, tuple_text}
use Rattle.rls_anchor.specs.declared.anchor.Anchor.TheVariants.{Beginning, After, Before}
use Rattle.rls_places.specs.Words.{epoch_word, named_word}
use Rattle.rls_places.specs.PlacesLaws.{AreOneWord, IsOneWord}
use Rattle.rls_places.proofs.ReadBack.{FitsTuple, IsNear, inner_fits, last_fits}

both : (xs ys : List ℕ) → IsOneWord xs → IsOneWord ys → IsOneWord (xs ++ ys)
both [] ys h k = k
both (x ∷ xs) ys h k = (h.0, h.1, both xs ys h.2 k)

-- a mark between two
marked : (xs ys : List ℕ) (c : ℕ) → 32 < c → c < 127 → IsOneWord xs → IsOneWord ys → IsOneWord (xs ++ (c ∷ ys))
marked xs ys c low high h k = both xs (c ∷ ys) h (low, high, k)

digits : (ds : List ℕ) → AllDigits 10 ds → IsOneWord ds
digits [] h = tt
digits (d ∷ ds) h = let r = digit_from_value d h.0 in let low = r.0 in let high = r.1 in (omega (arith, low), omega (arith, high), digits ds h.1)

number : (n : ℕ) → n < 2 ^ 64 → IsOneWord (decimal n)
number n h = digits (decimal n) (decimal_is_IsNumeral n h).0.1

offset : (o : ℤ) → IsNear o → IsOneWord (signed_decimal o)
offset (pos n) h = number n (omega (arith, h))
offset (negsuc n) h = (omega arith, omega arith, number (suc n) (omega (arith, h)))

point : (n : ℕ) (ys : List ℕ) → IsSmall n → IsOneWord ys → IsOneWord (decimal n ++ (46 ∷ ys))
point n ys h k = marked (decimal n) ys 46 (omega arith) (omega arith) (number n (omega (arith, h))) k

tuple : (t : Tuple) → FitsTuple t → IsOneWord (tuple_text t)
tuple Low h = search rules
tuple (At p r s o) h = point p _ h.0 (point r _ h.1 (point s (signed_decimal o ++ []) h.2 (both (signed_decimal o) [] (offset o h.3) tt)))
tuple High h = search rules

ident : (x : List Tuple) → FitTuples x → IsOneWord (ident_text x)
ident [] h = absurd h
ident (t ∷ []) h = tuple t (last_fits t h).0
ident (t ∷ (u ∷ x)) h = marked (tuple_text t) (ident_text (u ∷ x)) 47 (omega arith) (omega arith) (tuple t (inner_fits t h.0).0) (ident (u ∷ x) h.1)

epoch : (e : EpochName) → FitsName e → IsOneWord (epoch_word e)
epoch Origin h = search rules
epoch (Of r s) h = point r (decimal s) h.0 (number s (omega (arith, h.1)))

named : (side : List ℕ) (e : EpochName) (x : List Tuple) → IsOneWord side → FitsName e → FitTuples x → IsOneWord (named_word side e x)
named side e x k h f = marked side (epoch_word e ++ (58 ∷ ident_text x)) 58 (omega arith) (omega arith) k (marked (epoch_word e) (ident_text x) 58 (omega arith) (omega arith) (epoch e h) (ident x f))

pub are_one_word : AreOneWord
are_one_word Beginning h = search rules
are_one_word (After e x) h = named (codes "after") e x (search rules) h.0 h.1
are_one_word (Before e x) h = named (codes "before") e x (search rules) h.0 h.1
