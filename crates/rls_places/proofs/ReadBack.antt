-- What is written of a place is read back.
use Rattle.std.proofs.Common.{◌≡◌, ◌∙◌, ◌≤◌, ◌<◌, ◌^◌, ◌+◌, ℕ, suc, Bool, true, false, List, [], ◌∷◌, ◌++◌, length, append-nil, Some, None, refl, sym, ap, subst, arith}
use Rattle.std.specs.Prelude.{ℤ, ◌-ℤ◌, pos, negsuc, nat_lt, nat_le, ◌==◌, ◌&&◌, bytes_eq, option_and_then, if◌then◌else◌, codes}
use Rattle.std.specs.Fmt.{decimal, signed_decimal}
use Rattle.std.specs.Int.RustNames.{int_le}
use Rattle.std.specs.Int.{IsInRange}
use Rattle.std.specs.Str.Parse.{AllDigits}
use Rattle.std.proofs.lemmas.Bool.Decides.{nat_tests}
use Rattle.std.proofs.lemmas.Bool.{lt-ltb, leb-true}
use Rattle.std.proofs.lemmas.Fmt.{decimal_is_IsNumeral}
use Rattle.std.proofs.lemmas.Int.{ints}
use Rattle.std.proofs.lemmas.Slice.Eq.{bytes_eq-Decides}
use Rattle.std.proofs.lemmas.Str.Parse.{digit_from_value}
use Rattle.rls_ident.proofs.Members.{and_left, and_right, int_le_is, int_le_test}
use Rattle.rls_ident.specs.declared.limits.TheConstants.{GREATEST_NUMBER, OFFSETS_END}
use Rattle.rls_ident.specs.declared.tuple.Tuple.{Tuple}
use Rattle.rls_ident.specs.declared.tuple.Tuple.TheVariants.{Low, At, High}
use Rattle.rls_ident.specs.declared.epoch_name.EpochName.{EpochName}
use Rattle.rls_ident.specs.declared.epoch_name.EpochName.TheVariants.{Origin, Of}
use Rattle.rls_ident.specs.Identifiers.{first_fault, greatest_offset, is_inner_bounded, is_last_bounded, least_inner, least_offset}
use Rattle.rls_ops.specs.WellFormed.{IsSmall}
use Rattle.rls_codec.specs.Spelled.{FitsAt, FitsInner, FitsName, FitTuples}
use Rattle.rls_script.specs.Scripts.{number_of}
use Rattle.rls_report.specs.Texts.{ident_text, tuple_text}
use Rattle.rls_anchor.specs.declared.anchor.Anchor.TheVariants.{Beginning, After, Before}
use Rattle.rls_anchor.specs.Elsewhere.{located_over}
use Rattle.rls_anchor.proofs.Elsewhere.{located_there}
use Rattle.rls_places.specs.PlacesLaws.{LocatedBack, ReadBack}
use Rattle.rls_places.specs.Words.{below_zero, distance_of, epoch_of_word, epoch_word, from_zero_of, ident_of, ident_of_tuples, if_none, is_colon, is_point, is_slash, named_of, named_word, offset_of, opened_of, place_of, put_tuple, sided, small_of, spot_of, tuple_of, tuples_of, tuples_of_pieces}
use Rattle.rls_places.proofs.Cuts.{Lacks, lacks_more, parts_there, split_none, split_there}

-- ---- numbers

abbrev Misses : (ℕ → Bool) → Type 0
Misses p = (c : ℕ) → IsInRange 48 57 c → p c ≡ false

digits_lack : (p : ℕ → Bool) → Misses p → (ds : List ℕ) → AllDigits 10 ds → Lacks p ds
digits_lack p f [] h = tt
digits_lack p f (d ∷ ds) h = (f d (digit_from_value d h.0), digits_lack p f ds h.1)

decimal_lacks : (p : ℕ → Bool) → Misses p → (n : ℕ) → IsSmall n → Lacks p (decimal n)
decimal_lacks p f n h = digits_lack p f (decimal n) (decimal_is_IsNumeral n (omega (arith, h))).0.1

no_point : Misses is_point
no_point c h = let low = h.0 in grind (arith, nat_tests)

no_slash : Misses is_slash
no_slash c h = let low = h.0 in grind (arith, nat_tests)

no_colon : Misses is_colon
no_colon c h = let high = h.1 in grind (arith, nat_tests)

number_back : (n : ℕ) → n < 2 ^ 64 → number_of (decimal n) ≡ Some n
unfolding number_of
number_back n h =
    ap (λ m. if nat_lt m (2 ^ 64) && bytes_eq (decimal m) (decimal n) then Some m else None) (decimal_is_IsNumeral n h).1
    ∙ rw (lt-ltb n (2 ^ 64) h, (bytes_eq-Decides (decimal n) (decimal n)).1 refl) refl

small_back : (n : ℕ) → IsSmall n → small_of (decimal n) ≡ Some n
small_back n h =
    let test : nat_le n GREATEST_NUMBER ≡ true = grind (arith, nat_tests) in
    ap (option_and_then (λ m. if nat_le m GREATEST_NUMBER then Some m else None)) (number_back n (omega (arith, h))) ∙ ap (λ b. if b then Some n else None) test

distance_back : (n : ℕ) → n ≤ OFFSETS_END + 1 → distance_of (decimal n) ≡ Some n
distance_back n h =
    let test : nat_le n (OFFSETS_END + 1) ≡ true = grind (arith, nat_tests) in
    ap (option_and_then (λ m. if nat_le m (OFFSETS_END + 1) then Some m else None)) (number_back n (omega (arith, h))) ∙ ap (λ b. if b then Some n else None) test

-- ---- offsets

abbrev pub IsNear : ℤ → Type 0
IsNear (pos n) = n ≤ OFFSETS_END + 1
IsNear (negsuc n) = suc n ≤ OFFSETS_END + 1

no_sign : (ds : List ℕ) → 0 < length ds → AllDigits 10 ds → offset_of ds ≡ from_zero_of ds
no_sign [] h k = absurd (omega arith)
no_sign (d ∷ ds) h k =
    let low = (digit_from_value d k.0).0 in
    let test : (d == 45) ≡ false = grind (arith, nat_tests) in
    rw test refl

below_back : (n : ℕ) → below_zero (suc n) ≡ Some (negsuc n)
below_back n =
    let less : pos 0 -ℤ pos (suc n) ≡ negsuc n = omega (arith, ints) in
    ap (λ b. if b then Some (pos 0 -ℤ pos (suc n)) else None) (lt-ltb 0 (suc n) (omega arith)) ∙ ap (λ z. Some z) less

offset_back : (o : ℤ) → IsNear o → offset_of (signed_decimal o) ≡ Some o
offset_back (pos n) h =
    let digits = (decimal_is_IsNumeral n (omega (arith, h))).0 in
    no_sign (decimal n) digits.0 digits.1 ∙ ap (option_and_then (λ m. Some (pos m))) (distance_back n h)
offset_back (negsuc n) h = ap (option_and_then below_zero) (distance_back (suc n) h) ∙ below_back n

offset_lacks : (o : ℤ) → IsNear o → Lacks is_slash (signed_decimal o)
offset_lacks (pos n) h = decimal_lacks is_slash no_slash n (omega (arith, h))
offset_lacks (negsuc n) h = (refl, decimal_lacks is_slash no_slash (suc n) (omega (arith, h)))

-- ---- tuples

-- what follows the first number, the second and the third
abbrev third : ℕ → ℤ → List ℕ
third s o = decimal s ++ (46 ∷ signed_decimal o)

abbrev second : ℕ → ℕ → ℤ → List ℕ
second r s o = decimal r ++ (46 ∷ third s o)

abbrev first : ℕ → ℕ → ℕ → ℤ → List ℕ
first p r s o = decimal p ++ (46 ∷ second r s o)

text_is : (p r s : ℕ) (o : ℤ) → tuple_text (At p r s o) ≡ first p r s o
text_is p r s o = ap (λ x. decimal p ++ (46 ∷ (decimal r ++ (46 ∷ (decimal s ++ (46 ∷ x)))))) (append-nil (signed_decimal o))

-- what begins with a digit is no word of letters
not_word : (ds zs : List ℕ) (w : ℕ) (ws : List ℕ) → 58 ≤ w → 0 < length ds → AllDigits 10 ds → bytes_eq (ds ++ zs) (w ∷ ws) ≡ false
not_word [] zs w ws l h k = absurd (omega arith)
not_word (d ∷ ds) zs w ws l h k =
    let high = (digit_from_value d k.0).1 in
    let test : (d == w) ≡ false = grind (arith, nat_tests) in
    rw test refl

spot_back : (p r s : ℕ) (o : ℤ) → IsSmall p → IsSmall r → IsSmall s → IsNear o → spot_of (first p r s o) ≡ Some (At p r s o)
spot_back p r s o a b c k =
    rw (
      parts_there is_point (decimal p) 46 (second r s o) (decimal_lacks is_point no_point p a) refl,
      parts_there is_point (decimal r) 46 (third s o) (decimal_lacks is_point no_point r b) refl,
      parts_there is_point (decimal s) 46 (signed_decimal o) (decimal_lacks is_point no_point s c) refl,
      small_back p a,
      small_back r b,
      small_back s c,
      offset_back o k,
    ) refl

-- before others or last: each of its numbers fits, and its offset
abbrev pub FitsTuple : Tuple → Type 0
FitsTuple Low = Unit {0}
FitsTuple (At p r s o) = IsSmall p × IsSmall r × IsSmall s × IsNear o
FitsTuple High = Unit {0}

tuple_back : (t : Tuple) → FitsTuple t → tuple_of (tuple_text t) ≡ Some t
tuple_back Low h = refl
tuple_back (At p r s o) h =
    let digits = (decimal_is_IsNumeral p (omega (arith, h.0))).0 in
    let word = first p r s o in
    ap tuple_of (text_is p r s o)
    ∙ (ap (λ b. if b then Some Low else if bytes_eq word (codes "high") then Some High else spot_of word) (not_word (decimal p) (46 ∷ second r s o) 108 (111 ∷ 119 ∷ []) (omega arith) digits.0 digits.1)
    ∙ (ap (λ b. if b then Some High else spot_of word) (not_word (decimal p) (46 ∷ second r s o) 104 (105 ∷ 103 ∷ 104 ∷ []) (omega arith) digits.0 digits.1)
    ∙ spot_back p r s o h.0 h.1 h.2 h.3))
tuple_back High h = refl

tuple_lacks : (t : Tuple) → FitsTuple t → Lacks is_slash (tuple_text t)
tuple_lacks Low h = (refl, (refl, (refl, tt)))
tuple_lacks (At p r s o) h = subst (Lacks is_slash) (sym (text_is p r s o))
    (lacks_more is_slash (decimal p) (46 ∷ second r s o) (decimal_lacks is_slash no_slash p h.0) (
      refl,
      lacks_more is_slash (decimal r) (46 ∷ third s o) (decimal_lacks is_slash no_slash r h.1) (
        refl,
        lacks_more is_slash (decimal s) (46 ∷ signed_decimal o) (decimal_lacks is_slash no_slash s h.2) (refl, offset_lacks o h.3),
      ),
    ))
tuple_lacks High h = (refl, (refl, (refl, (refl, tt))))

-- what fits is one of these, and it may stand where it stands
near_of : (o : ℤ) → int_le least_inner o ≡ true → int_le o greatest_offset ≡ true → IsNear o
near_of (pos n) low high = let l = leb-true _ _ high in omega (arith, ints, l)
near_of (negsuc n) low high = let l = leb-true n OFFSETS_END low in omega (arith, ints, l)

pub inner_fits : (t : Tuple) → FitsInner t → FitsTuple t × (is_inner_bounded t ≡ true)
inner_fits Low h = (tt, refl)
inner_fits (At p r s o) h = ((h.0, h.1, h.2, near_of o (and_left (int_le least_inner o) (int_le o greatest_offset) h.3) (and_right (int_le least_inner o) (int_le o greatest_offset) h.3)), h.3)
inner_fits High h = (tt, refl)

pub last_fits : (t : Tuple) → FitsAt least_offset t → FitsTuple t × (is_last_bounded t ≡ true)
last_fits Low h = absurd h
last_fits (At p r s o) h =
    let low = int_le_is least_offset o (and_left (int_le least_offset o) (int_le o greatest_offset) h.3) in
    ((h.0, h.1, h.2, near_of o (int_le_test least_inner o (omega (arith, ints))) (and_right (int_le least_offset o) (int_le o greatest_offset) h.3)), h.3)
last_fits High h = absurd h

-- ---- identifiers

tuples_back : (x : List Tuple) → FitTuples x → tuples_of (ident_text x) ≡ Some x
tuples_back [] h = absurd h
tuples_back (t ∷ []) h =
    let fits = (last_fits t h).0 in
    ap tuples_of_pieces (split_none is_slash (tuple_text t) (tuple_lacks t fits)) ∙ ap (λ o. put_tuple o (Some [])) (tuple_back t fits)
tuples_back (t ∷ (u ∷ x)) h =
    let fits = (inner_fits t h.0).0 in
    let others = ident_text (u ∷ x) in
    ap tuples_of_pieces (split_there is_slash (tuple_text t) 47 others (tuple_lacks t fits) refl)
    ∙ (ap (λ o. put_tuple o (tuples_of others)) (tuple_back t fits) ∙ ap (put_tuple (Some t)) (tuples_back (u ∷ x) h.1))

no_fault : (i : ℕ) (x : List Tuple) → FitTuples x → first_fault i x ≡ None
no_fault i [] h = absurd h
no_fault i (t ∷ []) h = ap (λ b. if b then None else Some i) (last_fits t h).1
no_fault i (t ∷ (u ∷ x)) h = ap (λ b. if b then first_fault (i + 1) (u ∷ x) else Some i) (inner_fits t h.0).1 ∙ no_fault (i + 1) (u ∷ x) h.1

fit_ident : (x : List Tuple) → FitTuples x → ident_of_tuples x ≡ Some x
fit_ident [] h = absurd h
fit_ident (t ∷ x) h = ap (λ o. if_none o (t ∷ x)) (no_fault 0 (t ∷ x) h)

ident_back : (x : List Tuple) → FitTuples x → ident_of (ident_text x) ≡ Some x
ident_back x h = ap (option_and_then ident_of_tuples) (tuples_back x h) ∙ fit_ident x h

-- ---- epochs and places

epoch_lacks : (e : EpochName) → FitsName e → Lacks is_colon (epoch_word e)
epoch_lacks Origin h = (refl, (refl, (refl, (refl, (refl, (refl, tt))))))
epoch_lacks (Of r s) h = lacks_more is_colon (decimal r) (46 ∷ decimal s) (decimal_lacks is_colon no_colon r h.0) (refl, decimal_lacks is_colon no_colon s h.1)

epoch_back : (e : EpochName) → FitsName e → epoch_of_word (epoch_word e) ≡ Some e
epoch_back Origin h = refl
epoch_back (Of r s) h =
    let digits = (decimal_is_IsNumeral r (omega (arith, h.0))).0 in
    ap (λ b. if b then Some Origin else opened_of (epoch_word (Of r s))) (not_word (decimal r) (46 ∷ decimal s) 111 (114 ∷ 105 ∷ 103 ∷ 105 ∷ 110 ∷ []) (omega arith) digits.0 digits.1)
    ∙ rw (parts_there is_point (decimal r) 46 (decimal s) (decimal_lacks is_point no_point r h.0) refl, small_back r h.0, small_back s h.1) refl

named_back : (side : List ℕ) (e : EpochName) (x : List Tuple) → Lacks is_colon side → FitsName e × FitTuples x → named_of (named_word side e x) ≡ sided side e x
named_back side e x l h =
    rw (parts_there is_colon side 58 (epoch_word e ++ (58 ∷ ident_text x)) l refl, parts_there is_colon (epoch_word e) 58 (ident_text x) (epoch_lacks e h.0) refl, epoch_back e h.0, ident_back x h.1) refl

pub read_back : ReadBack
unfolding place_of
read_back Beginning h = refl
read_back (After e x) h = named_back (codes "after") e x (refl, (refl, (refl, (refl, (refl, tt))))) h
read_back (Before e x) h = named_back (codes "before") e x (refl, (refl, (refl, (refl, (refl, (refl, tt)))))) h

pub located_back : LocatedBack
located_back s at sane within fits = ap (option_and_then (located_over s)) (read_back _ fits) ∙ (located_there s at sane within).0
