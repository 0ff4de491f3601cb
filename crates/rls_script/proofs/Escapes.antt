-- Texts with escapes, one character after another.
use Rattle.std.proofs.Common.{◌≡◌, ℕ, Bool, true, false, cond, ◌==◌, true≢false, List, [], ◌∷◌, ◌++◌, Option, Some, None, refl, sym, ap, ◌∙◌, append_assoc, option_and_then, length, arith}
use Rattle.std.proofs.lemmas.List.{append-nil}
use Rattle.std.proofs.lemmas.Bool.{eqb-true, false_from_ne_true, or_parts}
use Rattle.std.proofs.lemmas.List.Folds.{list_any-append}
use Rattle.std.proofs.lemmas.Str.{chars-nil, encode_ascii}
use Rattle.std.specs.Prelude.{encode_utf8, encode_utf8_all}
use Rattle.std.specs.List.{list_any}
use Rattle.std.specs.Str.{chars, IsUtf8}
use Rattle.rls_runs.proofs.Texts.{chars_are}
use Rattle.rls_script.specs.Scripts.{is_opening, meaning_of, put_meaning, text_behind, text_of}

pub no_chars : (bytes : List ℕ) → length bytes ≡ 0 → chars bytes ≡ []
no_chars [] h = chars-nil
no_chars (b ∷ bytes) h = absurd (omega (arith, h))

-- these characters stand in front
abbrev pub with_chars : List ℕ → Option (List ℕ) → Option (List ℕ)
with_chars front rest = option_and_then (λ (cs : List ℕ). Some (front ++ cs)) rest

pub with_no_chars : (rest : Option (List ℕ)) → with_chars [] rest ≡ rest
with_no_chars None = refl
with_no_chars (Some cs) = refl

regroup : (front : List ℕ) (d : ℕ) (rest : Option (List ℕ)) → with_chars front (put_meaning (Some d) rest) ≡ with_chars (front ++ d ∷ []) rest
regroup front d None = refl
regroup front d (Some cs) = ap (λ (xs : List ℕ). Some xs) (simp append_assoc refl)

no_meaning : (front : List ℕ) (rest : Option (List ℕ)) → with_chars front (put_meaning None rest) ≡ None
no_meaning front None = refl
no_meaning front (Some cs) = refl

module _ (front : List ℕ) (is_escaped : Bool) (c : ℕ) (cs : List ℕ) (text : Option (List ℕ)) (so_far : with_chars front (text_behind is_escaped (c ∷ cs)) ≡ text) where
  pub opens : is_opening is_escaped c ≡ true → with_chars front (text_behind true cs) ≡ text
  opens h = sym (ap (λ (t : Bool). with_chars front (cond t (text_behind t cs) (put_meaning (meaning_of is_escaped c) (text_behind t cs)))) h) ∙ so_far

  plain : is_opening is_escaped c ≡ false → with_chars front (put_meaning (meaning_of is_escaped c) (text_behind false cs)) ≡ text
  plain h = sym (ap (λ (t : Bool). with_chars front (cond t (text_behind t cs) (put_meaning (meaning_of is_escaped c) (text_behind t cs)))) h) ∙ so_far

  pub means : (d : ℕ) → is_opening is_escaped c ≡ false → meaning_of is_escaped c ≡ Some d → with_chars (front ++ d ∷ []) (text_behind false cs) ≡ text
  means d h m = sym (regroup front d (text_behind false cs)) ∙ ap (λ (x : Option ℕ). with_chars front (put_meaning x (text_behind false cs))) (sym m) ∙ plain h

  pub is_bad : is_opening is_escaped c ≡ false → meaning_of is_escaped c ≡ None → text ≡ None
  is_bad h m = sym (plain h) ∙ ap (λ (x : Option ℕ). with_chars front (put_meaning x (text_behind false cs))) m ∙ no_meaning front (text_behind false cs)

pub is_open : (front : List ℕ) (text : Option (List ℕ)) → with_chars front (text_behind true []) ≡ text → text ≡ None
is_open front text so_far = sym so_far

pub is_whole : (front : List ℕ) (text : Option (List ℕ)) → with_chars front (text_behind false []) ≡ text → text ≡ Some front
is_whole front text so_far = sym so_far ∙ ap (λ (xs : List ℕ). Some xs) (append-nil front)

-- ---- characters that stand for themselves

-- some byte is a backslash
abbrev pub has_backslash : List ℕ → Bool
has_backslash bytes = list_any (λ b. b == 92) bytes

no_backslash : (c : ℕ) → has_backslash (encode_utf8 c) ≡ false → (c == 92) ≡ false
no_backslash c h = false_from_ne_true (c == 92) (λ e. true≢false (sym (ap has_backslash (ap encode_utf8 (eqb-true c 92 e) ∙ encode_ascii 92 (omega arith))) ∙ h))

stand_for_themselves : (cs : List ℕ) → has_backslash (encode_utf8_all cs) ≡ false → text_behind false cs ≡ Some cs
stand_for_themselves [] h = refl
stand_for_themselves (c ∷ cs) h =
    let both = or_parts (has_backslash (encode_utf8 c)) (has_backslash (encode_utf8_all cs)) (sym (list_any-append (λ b. b == 92) (encode_utf8 c) (encode_utf8_all cs)) ∙ h) in
    let rest = stand_for_themselves cs both.1 in
    ap (λ (t : Bool). cond t (text_behind t cs) (put_meaning (meaning_of false c) (text_behind t cs))) (no_backslash c both.0)
    ∙ ap (λ (r : Option (List ℕ)). put_meaning (Some c) r) rest

pub stands_for_itself : (bytes cs : List ℕ) → IsUtf8 bytes → encode_utf8_all cs ≡ bytes → has_backslash bytes ≡ false → text_of (chars bytes) ≡ Some cs
unfolding text_of
stands_for_itself bytes cs u e h = ap (text_behind false) (chars_are bytes cs u e) ∙ stand_for_themselves cs (ap has_backslash e ∙ h)
