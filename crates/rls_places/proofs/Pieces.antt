-- Words in pieces, one after another.
use Rattle.std.proofs.Common.{◌≡◌, ◌∙◌, ◌+◌, ◌<◌, ◌≢◌, ℕ, Bool, true, false, cond, List, [], ◌∷◌, ◌++◌, length, length-drop, append_assoc, Option, Some, None, refl, sym, ap, subst, arith, ltb}
use Rattle.std.proofs.lemmas.Bool.{ltb-true, ltb-false, eqb-true}
use Rattle.std.proofs.lemmas.List.Sums.{fails_before_first}
use Rattle.std.proofs.lemmas.List.Splits.{slice_split_first, slice_split_none}
use Rattle.std.specs.List.{after_first, before_first, position_or_len, slice_split}
use Rattle.std.specs.Prelude.{◌==◌, bytes_eq, codes, option_and_then, if◌then◌else◌}
use Rattle.std.specs.Fmt.{digits}
use Rattle.rls_ident.specs.declared.tuple.Tuple.{Tuple}
use Rattle.rls_ident.specs.Identifiers.{first_fault}
use Rattle.rls_anchor.specs.declared.anchor.Anchor.TheVariants.{Beginning}
use Rattle.rls_script.specs.Scripts.{number_of}
use Rattle.rls_places.specs.Words.{from_zero_of, ident_of, ident_of_tuples, if_none, is_slash, named_of, offset_of, parts_by, place_of, put_tuple, tuple_of, tuples_of, tuples_of_pieces}

pub at_parts : (p : ℕ → Bool) (bytes : List ℕ) (x : List ℕ × List ℕ) → parts_by p bytes ≡ Some x → (slice_split p bytes ≡ x.0 ∷ slice_split p x.1) × (length x.1 < length bytes)
at_parts p bytes x e = go (ltb (position_or_len p bytes) (length bytes)) refl e
  where
    go : (b : Bool) → ltb (position_or_len p bytes) (length bytes) ≡ b → cond {A = Option (List ℕ × List ℕ)} b (Some (before_first p bytes, after_first p bytes)) None ≡ Some x → (slice_split p bytes ≡ x.0 ∷ slice_split p x.1) × (length x.1 < length bytes)
    go false t e = absurd (cc)
    go true t e =
        let l = ltb-true (position_or_len p bytes) (length bytes) t in
        let same : (before_first p bytes, after_first p bytes) ≡ x = cc in
        let n = length-drop (position_or_len p bytes + 1) bytes in
        let less : length (after_first p bytes) < length bytes = omega arith in
        subst (λ (y : List ℕ × List ℕ). (slice_split p bytes ≡ y.0 ∷ slice_split p y.1) × (length y.1 < length bytes)) same (slice_split_first p bytes 0 l, less)

pub no_parts : (p : ℕ → Bool) (bytes : List ℕ) → parts_by p bytes ≡ None → slice_split p bytes ≡ bytes ∷ []
no_parts p bytes e = go (ltb (position_or_len p bytes) (length bytes)) refl e
  where
    go : (b : Bool) → ltb (position_or_len p bytes) (length bytes) ≡ b → cond {A = Option (List ℕ × List ℕ)} b (Some (before_first p bytes, after_first p bytes)) None ≡ None → slice_split p bytes ≡ bytes ∷ []
    go true t e = absurd (cc)
    go false t e = let most = ltb-false (position_or_len p bytes) (length bytes) t in slice_split_none p bytes (λ k d l. fails_before_first p bytes k d (omega (arith, l, most)))

-- ---- tuples one after another

-- these before the others, if those are there
abbrev pub after : List Tuple → Option (List Tuple) → Option (List Tuple)
after ts None = None
after ts (Some us) = Some (ts ++ us)

pub after_none : (o : Option (List Tuple)) → after [] o ≡ o
after_none None = refl
after_none (Some us) = refl

after_one : (ts : List Tuple) (t : Tuple) (o : Option (List Tuple)) → after ts (put_tuple (Some t) o) ≡ after (ts ++ t ∷ []) o
after_one ts t None = refl
after_one ts t (Some us) = ap (λ x. Some x) (sym (append_assoc ts (t ∷ []) us))

-- one more
pub goes_on : (ts : List Tuple) (bytes all : List ℕ) (x : List ℕ × List ℕ) (t : Tuple) → after ts (tuples_of bytes) ≡ tuples_of all → parts_by is_slash bytes ≡ Some x → tuple_of x.0 ≡ Some t → after (ts ++ t ∷ []) (tuples_of x.1) ≡ tuples_of all
goes_on ts bytes all x t h e is =
    sym (after_one ts t (tuples_of x.1))
    ∙ (ap (λ o. after ts (put_tuple o (tuples_of x.1))) (sym is) ∙ (ap (λ ps. after ts (tuples_of_pieces ps)) (sym (at_parts is_slash bytes x e).0) ∙ h))

-- none
pub is_bad : (ts : List Tuple) (bytes all : List ℕ) (x : List ℕ × List ℕ) → after ts (tuples_of bytes) ≡ tuples_of all → parts_by is_slash bytes ≡ Some x → tuple_of x.0 ≡ None → None ≡ tuples_of all
is_bad ts bytes all x h e is =
    ap (λ o. after ts (put_tuple o (tuples_of x.1))) (sym is) ∙ (ap (λ ps. after ts (tuples_of_pieces ps)) (sym (at_parts is_slash bytes x e).0) ∙ h)

-- the last one
pub ends : (ts : List Tuple) (bytes all : List ℕ) (t : Tuple) → after ts (tuples_of bytes) ≡ tuples_of all → parts_by is_slash bytes ≡ None → tuple_of bytes ≡ Some t → Some (ts ++ t ∷ []) ≡ tuples_of all
ends ts bytes all t h e is = ap (λ o. after ts (put_tuple o (Some []))) (sym is) ∙ (ap (λ ps. after ts (tuples_of_pieces ps)) (sym (no_parts is_slash bytes e)) ∙ h)

pub ends_bad : (ts : List Tuple) (bytes all : List ℕ) → after ts (tuples_of bytes) ≡ tuples_of all → parts_by is_slash bytes ≡ None → tuple_of bytes ≡ None → None ≡ tuples_of all
ends_bad ts bytes all h e is = ap (λ o. after ts (put_tuple o (Some []))) (sym is) ∙ (ap (λ ps. after ts (tuples_of_pieces ps)) (sym (no_parts is_slash bytes e)) ∙ h)

-- ---- offsets

-- without a minus in front
pub no_minus : (bytes : List ℕ) → ((rest : List ℕ) → bytes ≢ 45 ∷ rest) → from_zero_of bytes ≡ offset_of bytes
unfolding number_of digits
no_minus [] h = refl
no_minus (c ∷ cs) h = go (c == 45) refl
  where
    go : (b : Bool) → (c == 45) ≡ b → from_zero_of (c ∷ cs) ≡ offset_of (c ∷ cs)
    go true e = absurd (h cs (ap (λ d. d ∷ cs) (eqb-true c 45 e)))
    go false e = rw e refl

-- ---- identifiers and places

pub out_of_place : (bytes : List ℕ) (ts : List Tuple) (i : ℕ) → Some ts ≡ tuples_of bytes → first_fault 0 ts ≡ Some i → None ≡ ident_of bytes
out_of_place bytes ts i h e = sym (go ts e) ∙ ap (option_and_then ident_of_tuples) h
  where
    go : (ts : List Tuple) → first_fault 0 ts ≡ Some i → ident_of_tuples ts ≡ None
    go [] e = refl
    go (t ∷ x) e = ap (λ o. if_none o (t ∷ x)) e

pub at_beginning : (word : List ℕ) → bytes_eq word (codes "beginning") ≡ true → Some Beginning ≡ place_of word
unfolding place_of
at_beginning word h = sym (ap (λ b. if b then Some Beginning else named_of word) h)

pub at_name : (word : List ℕ) → bytes_eq word (codes "beginning") ≡ false → named_of word ≡ place_of word
unfolding place_of
at_name word h = sym (ap (λ b. if b then Some Beginning else named_of word) h)
