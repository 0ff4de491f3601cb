-- Lines and their ends, and the lines of a script one after another.
use Rattle.std.proofs.Common.{◌≡◌, ℕ, suc, ◌+◌, ◌<◌, ◌≤◌, ltb, Bool, true, false, cond, List, [], ◌∷◌, ◌++◌, length, Option, Some, None, unwrap_or, Result, Ok, Err, refl, sym, ap, ◌∙◌, append_assoc, length-append, length-drop, take, drop, eqb, arith}
use Rattle.std.proofs.lemmas.Bool.{cond_both, ltb-false, eqb-false}
use Rattle.std.proofs.lemmas.List.{append-nil, take-append-drop, length-take-le}
use Rattle.std.proofs.lemmas.List.Sums.{prefix_len-le-length}
use Rattle.std.specs.List.{All, position_or_len, before_first, after_first}
use Rattle.rls_script.specs.declared.lines.Line.{Line}
use Rattle.rls_script.specs.Scripts.{is_line_feed, put_byte, script_lines, line_of, put_line, lines_from}

pub position_or_len_le : (p : ℕ → Bool) (xs : List ℕ) → position_or_len p xs ≤ length xs
position_or_len_le p xs = prefix_len-le-length _ xs

-- the place that was found, or the length
pub found_or_len : (p : ℕ → Bool) (xs : List ℕ) (r : Option ℕ) → r ≡ cond (ltb (position_or_len p xs) (length xs)) (Some (position_or_len p xs)) None → unwrap_or r (length xs) ≡ position_or_len p xs
found_or_len p xs r e =
    ap (λ (o : Option ℕ). unwrap_or o (length xs)) e
    ∙ cond_both (ltb (position_or_len p xs) (length xs)) (Some (position_or_len p xs)) None (λ (o : Option ℕ). unwrap_or o (length xs) ≡ position_or_len p xs)
    (λ h. refl)
    (λ h. let le = ltb-false (position_or_len p xs) (length xs) h in let most = position_or_len_le p xs in omega arith)

pub is_longer : (bytes : List ℕ) → eqb (length bytes) 0 ≡ false → 0 < length bytes
is_longer bytes h = let some = eqb-false (length bytes) 0 h in omega arith

pub after_shorter : (bytes : List ℕ) → 0 < length bytes → length (after_first is_line_feed bytes) < length bytes
after_shorter bytes h = omega (arith, length-drop (position_or_len is_line_feed bytes + 1) bytes)

put_feed : (b : ℕ) (lines : List (List ℕ)) → is_line_feed b ≡ true → put_byte b lines ≡ [] ∷ lines
put_feed b [] h = rw h refl
put_feed b (line ∷ lines) h = rw h refl

abbrev Splits : List ℕ → Type 0
Splits bytes = script_lines bytes ≡ before_first is_line_feed bytes ∷ script_lines (after_first is_line_feed bytes)

last_line : (b : ℕ) (t : Bool) → is_line_feed b ≡ t → Splits (b ∷ [])
last_line b true h = rw h refl
last_line b false h = rw h refl

longer_line : (b c : ℕ) (bytes : List ℕ) (t : Bool) → is_line_feed b ≡ t → Splits (c ∷ bytes) → Splits (b ∷ c ∷ bytes)
longer_line b c bytes true h others = put_feed b (script_lines (c ∷ bytes)) h ∙ rw h refl
longer_line b c bytes false h others =
    let k = position_or_len is_line_feed (c ∷ bytes) in
    let one : 1 + k ≡ suc k = omega arith in
    let two : 1 + k + 1 ≡ suc (k + 1) = omega arith in
    ap (put_byte b) others ∙ rw (h, two, one) refl

splits : (b : ℕ) (bytes : List ℕ) → Splits (b ∷ bytes)
splits b [] = last_line b (is_line_feed b) refl
splits b (c ∷ bytes) = longer_line b c bytes (is_line_feed b) refl (splits c bytes)

-- the lines of bytes are the first line and the lines after it
pub first_then_others : (bytes : List ℕ) → 0 < length bytes → script_lines bytes ≡ before_first is_line_feed bytes ∷ script_lines (after_first is_line_feed bytes)
first_then_others [] h = absurd (omega (arith, h))
first_then_others (b ∷ bytes) h = splits b bytes

-- these lines stand in front
abbrev pub with_lines : List Line → Result (List Line) ℕ → Result (List Line) ℕ
with_lines front (Ok lines) = Ok (front ++ lines)
with_lines front (Err n) = Err n

pub with_no_lines : (rest : Result (List Line) ℕ) → with_lines [] rest ≡ rest
with_no_lines (Ok lines) = refl
with_no_lines (Err n) = refl

regroup : (front : List Line) (n : ℕ) (line : Line) (rest : Result (List Line) ℕ) → with_lines front (put_line n (Some line) rest) ≡ with_lines (front ++ line ∷ []) rest
regroup front n line (Ok lines) = ap (λ (xs : List Line). Ok xs) (simp append_assoc refl)
regroup front n line (Err m) = refl

module _ (front : List Line) (bytes : List ℕ) (script : Result (List Line) ℕ) (some : 0 < length bytes)
    (so_far : with_lines front (lines_from (length front + 1) (script_lines bytes)) ≡ script) where
  abbrev with_next : Option Line → Result (List Line) ℕ
  with_next line = with_lines front (put_line (length front + 1) line (lines_from (suc (length front + 1)) (script_lines (after_first is_line_feed bytes))))

  next : with_next (line_of (before_first is_line_feed bytes)) ≡ script
  next = ap (λ lines. with_lines front (lines_from (length front + 1) lines)) (sym (first_then_others bytes some)) ∙ so_far

  pub goes_on : (line : Line) → line_of (before_first is_line_feed bytes) ≡ Some line
      → with_lines (front ++ line ∷ []) (lines_from (length (front ++ line ∷ []) + 1) (script_lines (after_first is_line_feed bytes))) ≡ script
  goes_on line h =
      let k : length (front ++ line ∷ []) + 1 ≡ suc (length front + 1) = omega (arith, length-append front (line ∷ [])) in
      rw k (sym (regroup front (length front + 1) line _)) ∙ ap with_next (sym h) ∙ next

  pub is_bad : line_of (before_first is_line_feed bytes) ≡ None → script ≡ Err (length front + 1)
  is_bad h = sym next ∙ ap with_next h

pub is_whole : (front : List Line) (bytes : List ℕ) (script : Result (List Line) ℕ) → length bytes ≡ 0 → with_lines front (lines_from (length front + 1) (script_lines bytes)) ≡ script → script ≡ Ok front
is_whole front [] script h so_far = sym so_far ∙ ap (λ (xs : List Line). Ok xs) (append-nil front)
is_whole front (b ∷ bytes) script h so_far = absurd (omega (arith, h))

none_then : (xs ys : List ℕ) → All (λ b. is_line_feed b ≡ false) xs → position_or_len is_line_feed (xs ++ ys) ≡ length xs + position_or_len is_line_feed ys
none_then [] ys none = omega arith
none_then (x ∷ xs) ys none =
    let first : is_line_feed x ≡ false = none 0 x (omega arith) in
    let others = none_then xs ys (λ k d lt. none (suc k) d (omega (arith, lt))) in
    rw first (omega (arith, others))

-- the first bytes have no line feed
pub none_in_front : (n : ℕ) (bytes : List ℕ) → n ≤ length bytes → All (λ b. is_line_feed b ≡ false) (take n bytes) → position_or_len is_line_feed bytes ≡ n + position_or_len is_line_feed (drop n bytes)
none_in_front n bytes le none =
    ap (position_or_len is_line_feed) (sym (take-append-drop n bytes))
    ∙ none_then (take n bytes) (drop n bytes) none
    ∙ ap (λ m. m + position_or_len is_line_feed (drop n bytes)) (length-take-le n bytes le)
