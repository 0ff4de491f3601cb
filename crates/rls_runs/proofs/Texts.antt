-- Characters in UTF-8.
use Rattle.std.proofs.Common.{◌≡◌, ℕ, ◌+◌, ◌<◌, List, [], ◌∷◌, ◌++◌, length, get_or, take, true, refl, sym, ap, ◌∙◌, false}
use Rattle.std.specs.Prelude.{encode_utf8, encode_utf8_all}
use Rattle.std.proofs.lemmas.List.{take_more, append-nil}
use Rattle.std.specs.List.{All}
use Rattle.std.specs.Char.{IsScalar}
use Rattle.std.specs.Str.{IsAscii, IsUtf8, all_scalars, chars, is_utf8}
use Rattle.std.proofs.Math.Utf8.{scalar}
use Rattle.std.proofs.lemmas.List.Elements.{All-nil, All-cons, All-head, All-tail}
use Rattle.std.proofs.lemmas.Str.Ascii.{All-from_ascii}
use Rattle.std.proofs.lemmas.Str.{chars-encodes, encode_ascii, encodes-append, encodes_same, is_utf8-from_IsUtf8, IsUtf8-from_is_utf8}
use Rattle.std.proofs.lemmas.Bool.{false_from_ne_true}
use Rattle.rls_ident.proofs.Members.{and_left, and_right, and_true}

pub encodes_more : (cs : List ℕ) (i c : ℕ) → i < length cs → c ≡ get_or cs i c → encode_utf8_all (take (i + 1) cs) ≡ encode_utf8_all (take i cs) ++ encode_utf8 c
encodes_more cs i c lt e =
    ap encode_utf8_all (take_more cs i c lt)
    ∙ encodes-append (take i cs) (get_or cs i c ∷ [])
    ∙ ap (λ w. encode_utf8_all (take i cs) ++ w) (append-nil (encode_utf8 (get_or cs i c)))
    ∙ ap (λ d. encode_utf8_all (take i cs) ++ encode_utf8 d) (sym e)

-- ASCII characters are their own bytes
pub ascii_encodes : (cs : List ℕ) → All (λ c. c < 128) cs → encode_utf8_all cs ≡ cs
ascii_encodes [] h = refl
ascii_encodes (c ∷ cs) h =
    ap (λ w. w ++ encode_utf8_all cs) (encode_ascii c (All-head (λ d. d < 128) c cs h))
    ∙ ap (λ w. c ∷ w) (ascii_encodes cs (All-tail (λ d. d < 128) c cs h))

pub all_ascii : (cs : List ℕ) → IsAscii cs → All (λ c. c < 128) cs
all_ascii cs h = All-from_ascii cs h

-- ---- scalar values

pub all_of_scalars : (cs : List ℕ) → all_scalars cs ≡ true → All IsScalar cs
all_of_scalars [] h = All-nil IsScalar
all_of_scalars (c ∷ cs) h = All-cons IsScalar c cs (and_left (scalar c) (all_scalars cs) h) (all_of_scalars cs (and_right (scalar c) (all_scalars cs) h))

pub scalars_of_all : (cs : List ℕ) → All IsScalar cs → all_scalars cs ≡ true
scalars_of_all [] h = refl
scalars_of_all (c ∷ cs) h = and_true (scalar c) (all_scalars cs) (All-head IsScalar c cs h) (scalars_of_all cs (All-tail IsScalar c cs h))

-- the characters of bytes that are UTF-8
pub scalars_of_utf8 : (bs cs : List ℕ) → IsUtf8 bs → encode_utf8_all cs ≡ bs → All IsScalar cs
scalars_of_utf8 bs cs u e = all_of_scalars cs (ap all_scalars (encodes_same cs u.0 (e ∙ sym u.1.1)) ∙ u.1.0)

-- the characters of a text
pub chars_are : (bytes cs : List ℕ) → IsUtf8 bytes → encode_utf8_all cs ≡ bytes → chars bytes ≡ cs
chars_are bytes cs u e = ap chars (sym e) ∙ chars-encodes cs (scalars_of_all cs (scalars_of_utf8 bytes cs u e))

-- ---- the test for UTF-8

pub utf8_from_text : (bytes : List ℕ) → IsUtf8 bytes → is_utf8 bytes ≡ true
utf8_from_text bytes h = is_utf8-from_IsUtf8 bytes h

pub no_utf8 : (bytes : List ℕ) → ¬ (IsUtf8 bytes) → is_utf8 bytes ≡ false
no_utf8 bytes h = false_from_ne_true (is_utf8 bytes) (λ e. h (IsUtf8-from_is_utf8 bytes e))
