-- What an input asks for: the line of an edit is one, the text of a change consists of characters, and a message of bytes.
use Rattle.std.proofs.Common.{◌≡◌, ◌<◌, ◌+◌, ◌++◌, ℕ, zero, suc, Bool, true, false, cond, nat_lt, List, length, take, drop, Option, Some, None, refl, ap, subst, arith, lit<, get_or}
use Rattle.std.specs.Prelude.{bytes_eq, codes, nat_le, slice_index}
use Rattle.std.specs.List.{before_first, position_or_len}
use Rattle.std.specs.Str.{IsUtf8, is_utf8}
use Rattle.std.proofs.lemmas.Bool.{eqb-true}
use Rattle.std.proofs.lemmas.Bool.Decides.{nat_tests}
use Rattle.std.proofs.lemmas.List.Sums.{passes_at_first}
use Rattle.std.proofs.lemmas.Str.{IsCharBoundary-after_ascii, IsUtf8-append, IsUtf8-drop, IsUtf8-from_ascii, IsUtf8-from_is_utf8, is_utf8-from_IsUtf8}
use Rattle.rls_codec.specs.CodecLaws.{IsBytes}
use Rattle.rls_codec.proofs.Formats.{IsBytes-drop, IsBytes-take}
use Rattle.rls_script.specs.Scripts.{insertion_of, is_line_feed, is_space, line_of, line_of_text, line_of_words, number_of, parts_of}
use Rattle.rls_script.specs.declared.lines.Line.{Line}
use Rattle.rls_script.specs.declared.lines.Line.TheVariants as lines
use Rattle.rls_stages.proofs.Meant.{IsGood, IsLine, line_good}
use Rattle.rls_anchor.specs.declared.anchor.Anchor.{Anchor}
use Rattle.rls_model.specs.WellFormed.{IsText}
use Rattle.rls_places.specs.Words.{place_of}
use Rattle.rls_places.proofs.Cuts.{parts_there}
use Rattle.rls_session.specs.declared.orders.Side.{Side}
use Rattle.rls_session.specs.declared.orders.Side.TheVariants.{Before, After}
use Rattle.rls_session.specs.declared.orders.Order.{Order}
use Rattle.rls_session.specs.declared.orders.Order.TheVariants as orders
use Rattle.rls_session.specs.Orders.{change_at, change_by, change_of, change_parts, counts_of, member_of, send_by, send_of, order_of, order_of_letter, order_of_parts, order_of_words, order_or_bad, switch_of, cursor_of, point_by, point_of, version_of}
use Rattle.rls_session.specs.Requests.{Cut, Does, Request, Takes, cut, cut_after, line_size}

-- the line of an edit is one, the text of a change consists of characters, and a message of bytes
abbrev pub IsGiven : Request → Type 0
IsGiven (Does (orders.Edit line)) = IsLine line
IsGiven (Does (orders.Change at n cs)) = IsText cs
IsGiven (Does order) = Unit {0}
IsGiven (Takes message) = IsBytes message

-- the line of an edit
edit_given : (bytes : List ℕ) (l : Option Line) → IsGood l → IsGiven (Does (order_or_bad orders.Edit l))
edit_given bytes None g = tt
edit_given bytes (Some line) g = g

line_same : (bytes : List ℕ) → is_utf8 bytes ≡ true → line_of bytes ≡ line_of_text bytes
unfolding line_of
line_same bytes e = rw e refl

text_good : (bytes : List ℕ) → is_utf8 bytes ≡ true → IsGood (line_of_text bytes)
text_good bytes e = subst IsGood (line_same bytes e) (line_good bytes)

-- one of two orders
given_or : (b : Bool) (o other : Order) → IsGiven (Does o) → IsGiven (Does other) → IsGiven (Does (cond b o other))
given_or true o other g h = g
given_or false o other g h = h

letter_given : (bytes : List ℕ) → IsGood (line_of_text bytes) → IsGiven (Does (order_of_letter bytes))
letter_given bytes g =
    given_or (bytes_eq bytes (codes "u")) orders.Undo _ tt (given_or (bytes_eq bytes (codes "z")) orders.Back _ tt (given_or (bytes_eq bytes (codes "y")) orders.Again _ tt (given_or (bytes_eq bytes (codes "g")) orders.Close _ tt (given_or (bytes_eq bytes (codes "p")) (orders.Place 0) _ tt (given_or (bytes_eq bytes (codes "t")) orders.Text _ tt (given_or (bytes_eq bytes (codes "n")) orders.Stat _ tt
    (given_or (bytes_eq bytes (codes "o")) orders.Costs _ tt (given_or (bytes_eq bytes (codes "v")) (orders.Version 2) _ tt (given_or (bytes_eq bytes (codes "w")) orders.Store _ tt (given_or (bytes_eq bytes (codes "q")) orders.Quit _ tt (edit_given bytes (line_of_text bytes) g)))))))))))

-- ---- changes

-- what stands behind the first space of a text is one
behind_space : (bytes : List ℕ) (x : List ℕ × List ℕ) → IsUtf8 bytes → parts_of bytes ≡ Some x → IsUtf8 x.1
behind_space bytes x u e = go (nat_lt (position_or_len is_space bytes) (length bytes)) refl e
  where
    n : ℕ
    n = position_or_len is_space bytes

    go : (b : Bool) → nat_lt n (length bytes) ≡ b → cond b (Some (before_first is_space bytes, drop (n + 1) bytes)) None ≡ Some x → IsUtf8 x.1
    go false t e = cc
    go true t e =
        let within : n < length bytes = grind (arith, nat_tests) in
        let space = eqb-true (get_or bytes n 0) 32 (passes_at_first is_space bytes 0 within) in
        let same : (before_first is_space bytes, drop (n + 1) bytes) ≡ x = cc in
        subst (λ (p : List ℕ × List ℕ). IsUtf8 p.1) same (IsUtf8-drop bytes (n + 1) u (IsCharBoundary-after_ascii bytes n u within (omega (arith, space))))

-- a line that inserts, by what follows its word
pub insertion_line : (rest : List ℕ) → line_of_text (codes "i " ++ rest) ≡ insertion_of rest
insertion_line rest = ap (line_of_words (codes "i " ++ rest)) (parts_there is_space (codes "i") 32 rest (refl, tt) refl)

insertion_good : (rest : List ℕ) → IsUtf8 rest → IsGood (insertion_of rest)
insertion_good rest u =
    let line = codes "i " ++ rest in
    let whole = IsUtf8-append (codes "i ") rest (IsUtf8-from_ascii (codes "i ") ascii) u in
    subst IsGood (insertion_line rest) (text_good line (is_utf8-from_IsUtf8 line whole))
  where
    ascii : (i : ℕ) → slice_index (codes "i ") i < 128
    ascii zero = lit< tt
    ascii (suc zero) = lit< tt
    ascii (suc (suc i)) = lit< tt

change_given : (others : List ℕ) → IsUtf8 others → IsGiven (Does (change_of others))
change_given others u = go (parts_of others) refl
  where
    by : (at : ℕ) (l : Option Line) → IsGood l → IsGiven (Does (change_by at l))
    by at None g = tt
    by at (Some (lines.Insert n cs)) g = g.1
    by at (Some (lines.Delete p n)) g = tt
    by at (Some (lines.Back p)) g = tt
    by at (Some lines.Rename) g = tt

    at_place : (rest : List ℕ) → IsUtf8 rest → (n : Option ℕ) → IsGiven (Does (change_at rest n))
    at_place rest v None = tt
    at_place rest v (Some at) = by at (insertion_of rest) (insertion_good rest v)

    go : (p : Option (List ℕ × List ℕ)) → parts_of others ≡ p → IsGiven (Does (change_parts p))
    go None e = tt
    go (Some x) e = at_place x.1 (behind_space others x u e) (number_of x.0)

parts_given : (bytes word others : List ℕ) → IsGood (line_of_text bytes) → IsUtf8 others → IsGiven (Does (order_of_parts bytes word others))
parts_given bytes word others g u =
    given_or (bytes_eq word (codes "e")) (change_of others) _ (change_given others u)
    (go (bytes_eq word (codes "k")) (bytes_eq word (codes "j")) (bytes_eq word (codes "p")) (bytes_eq word (codes "a")) (bytes_eq word (codes "l")) (bytes_eq word (codes "m")) (bytes_eq word (codes "s")) (bytes_eq word (codes "c"))
    (bytes_eq word (codes "v")) (number_of others) (switch_of others) (place_of others))
  where
    -- orders of which nothing is asked
    any : {A : Type 0} (order : A → Order) → ((x : A) → IsGiven (Does (order x))) → (o : Option A) → IsGiven (Does (order_or_bad order o))
    any order f None = tt
    any order f (Some x) = f x

    point : (side : Side) (p : Option (List ℕ × List ℕ)) → IsGiven (Does (point_by side others p))
    point side None = any (λ at. orders.Point side at 0) (λ x. tt) (number_of others)
    point side (Some parts) = any (λ at. order_or_bad (orders.Point side at) (cursor_of parts.1)) (λ at. any (orders.Point side at) (λ x. tt) (cursor_of parts.1)) (number_of parts.0)

    send : (p : Option (List ℕ × List ℕ)) → IsGiven (Does (send_by others p))
    send None = any orders.Send (λ x. tt) (member_of others)
    send (Some parts) = any (λ to. order_or_bad (orders.SendTold to) (counts_of parts.1)) (λ to. any (orders.SendTold to) (λ x. tt) (counts_of parts.1)) (member_of parts.0)

    rest : (b c d v : Bool) (n : Option ℕ) (o : Option Bool) → IsGiven (Does (cond b (order_or_bad orders.Take n) (cond c (send_of others) (cond d (order_or_bad orders.Tell o) (cond v (order_or_bad orders.Version (version_of others)) (order_or_bad orders.Edit (line_of_text bytes)))))))
    rest true c d v n o = any orders.Take (λ x. tt) n
    rest false true d v n o = send (parts_of others)
    rest false false true v n o = any orders.Tell (λ x. tt) o
    rest false false false true n o = any orders.Version (λ x. tt) (version_of others)
    rest false false false false n o = edit_given bytes (line_of_text bytes) g

    go : (k j p a l b c d v : Bool) (n : Option ℕ) (o : Option Bool) (at : Option Anchor)
        → IsGiven (Does (cond k (point_of Before others) (cond j (point_of After others) (cond p (order_or_bad orders.Place (cursor_of others)) (cond a (order_or_bad orders.Spell n) (cond l (order_or_bad orders.Locate at)
        (cond b (order_or_bad orders.Take n) (cond c (send_of others) (cond d (order_or_bad orders.Tell o) (cond v (order_or_bad orders.Version (version_of others)) (order_or_bad orders.Edit (line_of_text bytes))))))))))))
    go true j p a l b c d v n o at = point Before (parts_of others)
    go false true p a l b c d v n o at = point After (parts_of others)
    go false false true a l b c d v n o at = any orders.Place (λ x. tt) (cursor_of others)
    go false false false true l b c d v n o at = any orders.Spell (λ x. tt) n
    go false false false false true b c d v n o at = any orders.Locate (λ x. tt) at
    go false false false false false b c d v n o at = rest b c d v n o

order_given : (bytes : List ℕ) → IsGiven (Does (order_of bytes))
unfolding order_of
order_given bytes = go (is_utf8 bytes) refl
  where
    words : IsUtf8 bytes → IsGood (line_of_text bytes) → (p : Option (List ℕ × List ℕ)) → parts_of bytes ≡ p → IsGiven (Does (order_of_words bytes p))
    words u g None e = letter_given bytes g
    words u g (Some x) e = parts_given bytes x.0 x.1 g (behind_space bytes x u e)

    go : (b : Bool) → is_utf8 bytes ≡ b → IsGiven (Does (cond b (order_of_words bytes (parts_of bytes)) orders.Bad))
    go false e = tt
    go true e = words (IsUtf8-from_is_utf8 bytes e) (text_good bytes e) (parts_of bytes) refl

after_given : (order : Order) (rest : List ℕ) → IsBytes rest → IsGiven (Does order) → IsGiven (cut_after order rest).request
after_given (orders.Take n) rest b g = go (nat_le n (length rest))
  where
    go : (x : Bool) → IsGiven (cond {A = Cut} x (record { request = Takes (take n rest); size = n }) (record { request = Does orders.Bad; size = length rest })).request
    go true = IsBytes-take n rest b
    go false = tt
after_given order rest b g = g

pub cut_given : (bytes : List ℕ) → IsBytes bytes → IsGiven (cut bytes).request
unfolding cut
cut_given bytes b = after_given (order_of (before_first is_line_feed bytes)) (drop (line_size bytes) bytes) (IsBytes-drop (line_size bytes) bytes b) (order_given (before_first is_line_feed bytes))
