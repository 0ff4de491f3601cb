-- How far a session goes.
use Rattle.std.proofs.Common.{◌≡◌, ◌∙◌, ◌+◌, ◌<◌, ◌≤◌, ℕ, zero, suc, Bool, true, false, cond, leb, List, [], ◌∷◌, ◌++◌, length, take, drop, Option, Some, None, refl, sym, ap, subst, arith, length-append, length-drop, length-take}
use Rattle.std.specs.Prelude.{bytes_eq, codes, nat_le}
use Rattle.std.specs.List.{position_or_len, before_first}
use Rattle.std.specs.Str.{is_utf8}
use Rattle.std.proofs.lemmas.Bool.Decides.{nat_tests}
use Rattle.std.proofs.lemmas.Grind.{common_steps}
use Rattle.std.proofs.lemmas.List.{take-append-le}
use Rattle.std.proofs.lemmas.Slice.Eq.{bytes_eq-Decides}
use Rattle.rls_script.proofs.LineEnds.{position_or_len_le}
use Rattle.rls_script.specs.Scripts.{insertion_of, is_line_feed, line_of_text, number_of, parts_of}
use Rattle.rls_script.specs.declared.lines.Line.{Line}
use Rattle.rls_script.specs.declared.lines.Line.TheVariants as lines
use Rattle.rls_anchor.specs.declared.anchor.Anchor.{Anchor}
use Rattle.rls_places.specs.Words.{place_of}
use Rattle.rls_session.specs.declared.orders.Side.{Side}
use Rattle.rls_session.specs.declared.orders.Side.TheVariants.{Before, After}
use Rattle.rls_session.specs.declared.orders.Order.{Order}
use Rattle.rls_session.specs.declared.orders.Order.TheVariants.{Edit, Place, Spell, Locate, Point, Take, Send, SendTold, Store, Tell, Version, Quit, Bad}
use Rattle.rls_session.specs.Answering.{HasAll, LacksPart}
use Rattle.rls_session.specs.Courses.{Course, go_on, course}
use Rattle.rls_session.specs.Orders.{change_at, change_by, change_of, change_parts, counts_of, order_or_bad, member_of, send_by, order_of_letter, order_of_parts, order_of_words, order_of, switch_of, cursor_of, point_by, version_of}
use Rattle.rls_session.specs.Requests.{Request, Does, Takes, Cut, line_size, cut_after, with_line, cut}
use Rattle.rls_session.proofs.Courses.{Answers, IsPlain, course_begins}
use Rattle.rls_session.proofs.Positions.{clear_then, in_front, position_front}

-- ---- the orders to store and to quit are one letter

-- these orders end a course
data IsHalt (order : Order) : Type 0 where
  Stores : order ≡ Store → IsHalt order
  Quits : order ≡ Quit → IsHalt order

-- an order that is none of them isn't one
skips : (b : Bool) (o other : Order) (X : Type 0) → (IsHalt o → ⊥) → (IsHalt other → X) → IsHalt (cond b o other) → X
skips true o other X none f h = absurd (none h)
skips false o other X none f h = f h

edit_halts : (l : Option Line) → IsHalt (order_or_bad Edit l) → ⊥
edit_halts None (Stores e) = cc
edit_halts None (Quits e) = cc
edit_halts (Some x) (Stores e) = cc
edit_halts (Some x) (Quits e) = cc

one_letter : (bs : List ℕ) (letter : List ℕ) (o other : Order) → length letter ≡ 1 → (IsHalt other → length bs ≡ 1) → IsHalt (cond (bytes_eq bs letter) o other) → length bs ≡ 1
one_letter bs letter o other one f h = go (bytes_eq bs letter) refl h
  where
    go : (b : Bool) → bytes_eq bs letter ≡ b → IsHalt (cond b o other) → length bs ≡ 1
    go true t h = ap length ((bytes_eq-Decides bs letter).0 t) ∙ one
    go false t h = f h

letter_halts : (bs : List ℕ) → IsHalt (order_of_letter bs) → length bs ≡ 1
letter_halts bs h =
    one_letter bs (codes "u") _ _ refl (one_letter bs (codes "z") _ _ refl (one_letter bs (codes "y") _ _ refl (one_letter bs (codes "g") _ _ refl (one_letter bs (codes "p") _ _ refl (one_letter bs (codes "t") _ _ refl (one_letter bs (codes "n") _ _ refl (one_letter bs (codes "o") _ _ refl (one_letter bs (codes "v") _ _ refl (one_letter bs (codes "w") _ _ refl (one_letter bs (codes "q") _ _ refl (λ k. absurd (edit_halts (line_of_text bs) k)))))))))))) h

-- those with a word and more aren't
any_halts : {A : Type 0} (order : A → Order) → ((x : A) → IsHalt (order x) → ⊥) → (o : Option A) → IsHalt (order_or_bad order o) → ⊥
any_halts order f None (Stores e) = cc
any_halts order f None (Quits e) = cc
any_halts order f (Some x) h = f x h

at_halts : (side : Side) (at n : ℕ) → IsHalt (Point side at n) → ⊥
at_halts side at n (Stores e) = cc
at_halts side at n (Quits e) = cc

spell_halts : (at : ℕ) → IsHalt (Spell at) → ⊥
spell_halts at (Stores e) = cc
spell_halts at (Quits e) = cc

locate_halts : (place : Anchor) → IsHalt (Locate place) → ⊥
locate_halts place (Stores e) = cc
locate_halts place (Quits e) = cc

place_halts : (n : ℕ) → IsHalt (Place n) → ⊥
place_halts n (Stores e) = cc
place_halts n (Quits e) = cc

point_halts : (side : Side) (others : List ℕ) (p : Option (List ℕ × List ℕ)) → IsHalt (point_by side others p) → ⊥
point_halts side others None = any_halts (λ at. Point side at 0) (λ at. at_halts side at 0) (number_of others)
point_halts side others (Some parts) = any_halts (λ at. order_or_bad (Point side at) (cursor_of parts.1)) (λ at. any_halts (Point side at) (at_halts side at) (cursor_of parts.1)) (number_of parts.0)

take_halts : (o : Option ℕ) → IsHalt (order_or_bad Take o) → ⊥
take_halts None (Stores e) = cc
take_halts None (Quits e) = cc
take_halts (Some x) (Stores e) = cc
take_halts (Some x) (Quits e) = cc

send_halts : (to : ℕ) → IsHalt (Send to) → ⊥
send_halts to (Stores e) = cc
send_halts to (Quits e) = cc

told_halts : (to : ℕ) (told : List ℕ) → IsHalt (SendTold to told) → ⊥
told_halts to told (Stores e) = cc
told_halts to told (Quits e) = cc

sent_halts : (others : List ℕ) (p : Option (List ℕ × List ℕ)) → IsHalt (send_by others p) → ⊥
sent_halts others None = any_halts Send send_halts (member_of others)
sent_halts others (Some parts) = any_halts (λ to. order_or_bad (SendTold to) (counts_of parts.1)) (λ to. any_halts (SendTold to) (told_halts to) (counts_of parts.1)) (member_of parts.0)

tell_halts : (o : Option Bool) → IsHalt (order_or_bad Tell o) → ⊥
tell_halts None (Stores e) = cc
tell_halts None (Quits e) = cc
tell_halts (Some x) (Stores e) = cc
tell_halts (Some x) (Quits e) = cc

version_halts : (n : ℕ) → IsHalt (Version n) → ⊥
version_halts n (Stores e) = cc
version_halts n (Quits e) = cc

bad_halts : IsHalt Bad → ⊥
bad_halts (Stores e) = cc
bad_halts (Quits e) = cc

change_halts : (others : List ℕ) → IsHalt (change_of others) → ⊥
change_halts others = go (parts_of others)
  where
    by : (at : ℕ) (l : Option Line) → IsHalt (change_by at l) → ⊥
    by at (Some (lines.Insert n cs)) (Stores e) = cc
    by at (Some (lines.Insert n cs)) (Quits e) = cc
    by at l h = bad_halts h

    at_place : (rest : List ℕ) (n : Option ℕ) → IsHalt (change_at rest n) → ⊥
    at_place rest None h = bad_halts h
    at_place rest (Some at) h = by at (insertion_of rest) h

    go : (p : Option (List ℕ × List ℕ)) → IsHalt (change_parts p) → ⊥
    go None h = bad_halts h
    go (Some x) h = at_place x.1 (number_of x.0) h

parts_halt : (bs word others : List ℕ) → IsHalt (order_of_parts bs word others) → ⊥
parts_halt bs word others h =
    skips (bytes_eq word (codes "e")) _ _ ⊥ (change_halts others) (skips (bytes_eq word (codes "k")) _ _ ⊥ (point_halts Before others (parts_of others)) (skips (bytes_eq word (codes "j")) _ _ ⊥ (point_halts After others (parts_of others)) (skips (bytes_eq word (codes "p")) _ _ ⊥ (any_halts Place place_halts (cursor_of others)) (
    skips (bytes_eq word (codes "a")) _ _ ⊥ (any_halts Spell spell_halts (number_of others)) (skips (bytes_eq word (codes "l")) _ _ ⊥ (any_halts Locate locate_halts (place_of others)) (skips (bytes_eq word (codes "m")) _ _ ⊥ (take_halts (number_of others)) (skips (bytes_eq word (codes "s")) _ _ ⊥ (sent_halts others (parts_of others)) (skips (bytes_eq word (codes "c")) _ _ ⊥ (tell_halts (switch_of others)) (
    skips (bytes_eq word (codes "v")) _ _ ⊥ (any_halts Version version_halts (version_of others)) (edit_halts (line_of_text bs))))))))))) h

halt_letter : (bs : List ℕ) → IsHalt (order_of bs) → length bs ≡ 1
unfolding order_of
halt_letter bs h = go (is_utf8 bs) (parts_of bs) h
  where
    go : (b : Bool) (p : Option (List ℕ × List ℕ)) → IsHalt (cond b (order_of_words bs p) Bad) → length bs ≡ 1
    go false p h = absurd (bad_halts h)
    go true None h = letter_halts bs h
    go true (Some x) h = absurd (parts_halt bs x.0 x.1 h)

quit_letter : (bs : List ℕ) → order_of bs ≡ Quit → length bs ≡ 1
quit_letter bs e = halt_letter bs (Quits e)

store_letter : (bs : List ℕ) → order_of bs ≡ Store → length bs ≡ 1
store_letter bs e = halt_letter bs (Stores e)

-- so its line has a byte
pub quit_letter_size : (bytes : List ℕ) → order_of (before_first is_line_feed bytes) ≡ Quit → 1 ≤ position_or_len is_line_feed bytes
quit_letter_size bytes e =
    let one = quit_letter (before_first is_line_feed bytes) e in
    let front = length-take (position_or_len is_line_feed bytes) bytes in
    omega arith

-- the line of the order to store is its letter, with a line feed if there is one
pub store_letter_size : (bytes : List ℕ) → order_of (before_first is_line_feed bytes) ≡ Store → position_or_len is_line_feed bytes ≡ 1
store_letter_size bytes e =
    let one = store_letter (before_first is_line_feed bytes) e in
    let front = length-take (position_or_len is_line_feed bytes) bytes in
    let le = position_or_len_le is_line_feed bytes in
    omega arith

-- the first request, by the order of its line
pub cut_is : (bytes : List ℕ) (order : Order) → order ≡ order_of (before_first is_line_feed bytes) → cut bytes ≡ with_line (line_size bytes) (cut_after order (drop (line_size bytes) bytes))
unfolding cut
cut_is bytes order e = rw e refl

-- a request comes of its own order alone, if it isn't that for lines that are no order
cut_does : (does order : Order) (rest : List ℕ) → (does ≡ Bad → ⊥) → (cut_after order rest).request ≡ Does does → order ≡ does
cut_does does (Take n) rest other e = go (nat_le n (length rest)) e
  where
    go : (b : Bool) → (cond {A = Cut} b (record { request = Takes (take n rest); size = n }) (record { request = Does Bad; size = length rest })).request ≡ Does does → Take n ≡ does
    go true e = cc
    go false e = absurd (other (cc))
cut_does does order rest other e = cc

-- the requests to quit and to store do
pub cut_quit : (order : Order) (rest : List ℕ) → (cut_after order rest).request ≡ Does Quit → order ≡ Quit
cut_quit order rest e = cut_does Quit order rest (λ q. cc) e

pub cut_store : (order : Order) (rest : List ℕ) → (cut_after order rest).request ≡ Does Store → order ≡ Store
cut_store order rest e = cut_does Store order rest (λ q. cc) e

-- an order that is answered
abbrev pub IsPlainOrder : Order → Type 0
IsPlainOrder order = (order ≡ Quit → ⊥) × (order ≡ Store → ⊥)

pub plain_cut : (order : Order) (rest : List ℕ) → IsPlainOrder order → IsPlain (cut_after order rest).request
plain_cut order rest p = (λ q. p.0 (cut_quit order rest q), λ q. p.1 (cut_store order rest q))

-- ---- what is used at least

used_most : {S : Type 0} (answer : Answers S) (s : S) (bytes : List ℕ) (k : ℕ) → 0 < length bytes → ((cut bytes).request ≡ Does Quit → k ≤ 1) → ((cut bytes).request ≡ Does Store → k ≤ 1) → k ≤ (cut bytes).size → k ≤ (course answer s bytes).used
used_most {S} answer s bytes k some quit store other =
    subst (λ (c : Course S). k ≤ c.used) (sym (course_begins answer s bytes some)) (go (cut bytes).request (cut bytes).size (λ t. course answer t (drop (cut bytes).size bytes)) quit store other)
  where
    go : (r : Request) (n : ℕ) (f : S → Course S) → (r ≡ Does Quit → k ≤ 1) → (r ≡ Does Store → k ≤ 1) → k ≤ n → k ≤ (go_on answer s r n f).used
    go (Does Quit) n f q w o = q refl
    go (Does Store) n f q w o = w refl
    go (Does order) n f q w o = omega arith
    go (Takes message) n f q w o = omega arith

-- if no whole line waits, at least what waits
pub used_no_line : {S : Type 0} (answer : Answers S) (s : S) (waiting rest : List ℕ) → position_or_len is_line_feed waiting ≡ length waiting → length waiting ≤ (course answer s (waiting ++ rest)).used
unfolding cut
used_no_line answer s [] rest none = omega arith
used_no_line answer s (w ∷ ws) rest none =
    let bytes = (w ∷ ws) ++ rest in
    let p = position_or_len is_line_feed bytes in
    let far : p ≡ length (w ∷ ws) + position_or_len is_line_feed rest = clear_then is_line_feed (w ∷ ws) rest none in
    let len = length-append (w ∷ ws) rest in
    let front = length-take p bytes in
    used_most answer s bytes (length (w ∷ ws)) (omega arith)
    (λ q. let one = quit_letter (before_first is_line_feed bytes) (cut_quit (order_of (before_first is_line_feed bytes)) (drop (line_size bytes) bytes) q) in omega arith)
    (λ q. let one = store_letter (before_first is_line_feed bytes) (cut_store (order_of (before_first is_line_feed bytes)) (drop (line_size bytes) bytes) q) in omega arith)
    (omega arith)

-- if the message of the first line doesn't wait whole, at least the line and what waits
pub used_no_message : {S : Type 0} (answer : Answers S) (s : S) (bytes waiting rest : List ℕ) (n : ℕ) → 0 < length bytes → order_of (before_first is_line_feed bytes) ≡ Take n → drop (line_size bytes) bytes ≡ waiting ++ rest → length waiting < n
    → line_size bytes + length waiting ≤ (course answer s bytes).used
unfolding cut
used_no_message answer s bytes waiting rest n some is behind short =
    used_most answer s bytes (line_size bytes + length waiting) some
    (λ q. let no = cut_quit (order_of (before_first is_line_feed bytes)) (drop (line_size bytes) bytes) q in absurd (take_not_quit (sym is ∙ no)))
    (λ q. let no = cut_store (order_of (before_first is_line_feed bytes)) (drop (line_size bytes) bytes) q in absurd (take_not_store (sym is ∙ no)))
    (subst (λ (o : Order). line_size bytes + length waiting ≤ line_size bytes + (cut_after o (drop (line_size bytes) bytes)).size) (sym is) (go (nat_le n (length (drop (line_size bytes) bytes)))))
  where
    take_not_quit : Take n ≡ Quit → ⊥
    take_not_quit e = cc

    take_not_store : Take n ≡ Store → ⊥
    take_not_store e = cc

    go : (b : Bool) → line_size bytes + length waiting ≤ line_size bytes + (cond {A = Cut} b (record { request = Takes (take n (drop (line_size bytes) bytes)); size = n }) (record { request = Does Bad; size = length (drop (line_size bytes) bytes) })).size
    go true = omega arith
    go false = let len : length (drop (line_size bytes) bytes) ≡ length waiting + length rest = ap length behind ∙ length-append waiting rest in omega arith

-- at least the first line, without its line feed
pub used_line : {S : Type 0} (answer : Answers S) (s : S) (bytes : List ℕ) → position_or_len is_line_feed bytes ≤ (course answer s bytes).used
unfolding cut
used_line answer s [] = omega arith
used_line answer s (b ∷ bytes) =
    let all = b ∷ bytes in
    let p = position_or_len is_line_feed all in
    let le = position_or_len_le is_line_feed all in
    let front = length-take p all in
    used_most answer s all p (omega arith)
    (λ q. let one = quit_letter (before_first is_line_feed all) (cut_quit (order_of (before_first is_line_feed all)) (drop (line_size all) all) q) in omega arith)
    (λ q. let one = store_letter (before_first is_line_feed all) (cut_store (order_of (before_first is_line_feed all)) (drop (line_size all) all) q) in omega arith)
    (omega arith)

-- all of the first request, if it is answered
pub used_request : {S : Type 0} (answer : Answers S) (s : S) (bytes : List ℕ) (order : Order) → 0 < length bytes → order ≡ order_of (before_first is_line_feed bytes) → IsPlainOrder order
    → line_size bytes + (cut_after order (drop (line_size bytes) bytes)).size ≤ (course answer s bytes).used
used_request answer s bytes order some is other =
    let c = cut_is bytes order is in
    let n = line_size bytes + (cut_after order (drop (line_size bytes) bytes)).size in
    let size : (cut bytes).size ≡ n = ap (λ (x : Cut). x.size) c in
    used_most answer s bytes n some
    (λ q. absurd (other.0 (cut_quit order (drop (line_size bytes) bytes) (sym (ap (λ (x : Cut). x.request) c) ∙ q))))
    (λ q. absurd (other.1 (cut_store order (drop (line_size bytes) bytes) (sym (ap (λ (x : Cut). x.request) c) ∙ q))))
    (omega arith)

-- ---- the same bytes with others after them

-- a request has no more bytes than there are
after_within : (order : Order) (rest : List ℕ) → (cut_after order rest).size ≤ length rest
after_within (Take n) rest = go (nat_le n (length rest)) refl
  where
    go : (b : Bool) → nat_le n (length rest) ≡ b → (cond {A = Cut} b (record { request = Takes (take n rest); size = n }) (record { request = Does Bad; size = length rest })).size ≤ length rest
    go true t = let h : n ≤ length rest = grind (arith, nat_tests) in h
    go false t = omega arith
after_within order rest = omega arith

pub size_within : (order : Order) (bytes : List ℕ) → line_size bytes + (cut_after order (drop (line_size bytes) bytes)).size ≤ length bytes
size_within order bytes =
    let k = after_within order (drop (line_size bytes) bytes) in
    let d = length-drop (line_size bytes) bytes in
    omega arith

pub drop_front : (n : ℕ) (bytes x : List ℕ) → n ≤ length bytes → drop n (take n bytes ++ x) ≡ x
drop_front n bytes x h =
    let len : length (take n bytes) ≡ n = omega (arith, length-take n bytes) in
    subst (λ (k : ℕ). drop k (take n bytes ++ x) ≡ x) len (drop-append-length (take n bytes) x)
  where
    drop-append-length : (xs ys : List ℕ) → drop (length xs) (xs ++ ys) ≡ ys
    drop-append-length xs ys = grind (arith, common_steps)

-- a line that has its line feed
record Fed (bytes ys : List ℕ) : Type 0 where
  size : line_size ys ≡ line_size bytes
  first : before_first is_line_feed ys ≡ before_first is_line_feed bytes
  there : position_or_len is_line_feed ys < length ys

fed_front : (bytes x : List ℕ) (n : ℕ) → position_or_len is_line_feed bytes < length bytes → line_size bytes ≤ n → n ≤ length bytes → Fed bytes (take n bytes ++ x)
fed_front bytes x n fed least most =
    let p = position_or_len is_line_feed bytes in
    let len : length (take n bytes) ≡ n = omega (arith, length-take n bytes) in
    let at : position_or_len is_line_feed (take n bytes) ≡ p = position_front is_line_feed n bytes (omega arith) most in
    let there : position_or_len is_line_feed (take n bytes ++ x) ≡ p = in_front is_line_feed (take n bytes) x (omega arith) ∙ at in
    let within : p ≤ length (take n bytes) = omega arith in
    let short : p ≤ n = omega arith in
    record {
      size = let l = length-append (take n bytes) x in omega arith;
      there = let l = length-append (take n bytes) x in omega arith;
      first = ap (λ k. take k (take n bytes ++ x)) there ∙ take-append-le p (take n bytes) x within ∙ take_take p n bytes short;
    }
  where
    take_take : (p n : ℕ) (bytes : List ℕ) → p ≤ n → take p (take n bytes) ≡ take p bytes
    take_take zero n bytes h = refl
    take_take (suc p) zero bytes h = absurd (omega arith)
    take_take (suc p) (suc n) [] h = refl
    take_take (suc p) (suc n) (b ∷ bytes) h = ap (λ (l : List ℕ). b ∷ l) (take_take p n bytes (omega arith))

-- what follows it
after_front : (bytes x : List ℕ) (size k : ℕ) → size + k ≤ length bytes → drop size (take (size + k) bytes ++ x) ≡ take k (drop size bytes) ++ x
after_front bytes x zero k h = refl_zero
  where
    refl_zero : take (zero + k) bytes ++ x ≡ take k bytes ++ x
    refl_zero = ap (λ n. take n bytes ++ x) (omega arith)
after_front [] x (suc size) k h = absurd (omega arith)
after_front (b ∷ bytes) x (suc size) k h = ap (λ n. drop (suc size) (take n (b ∷ bytes) ++ x)) more ∙ after_front bytes x size k (omega arith)
  where
    more : suc size + k ≡ suc (size + k)
    more = omega arith

-- the request of an order
after_same : (order : Order) (rest x : List ℕ) → HasAll order rest → cut_after order (take (cut_after order rest).size rest ++ x) ≡ cut_after order rest
after_same (Take n) rest x h =
    let whole : leb n (length rest) ≡ true = grind (arith, nat_tests) in
    rw whole (at whole)
  where
    all_taken : (n : ℕ) (xs : List ℕ) → length xs ≤ n → take n xs ≡ xs
    all_taken n xs h = grind (arith, common_steps)

    at : leb n (length rest) ≡ true → cut_after (Take n) (take n rest ++ x) ≡ record { request = Takes (take n rest); size = n }
    at whole =
        let len : length (take n rest) ≡ n = omega (arith, length-take n rest) in
        let there : leb n (length (take n rest ++ x)) ≡ true = let l = length-append (take n rest) x in let m : n ≤ length (take n rest ++ x) = omega arith in grind (arith, nat_tests) in
        let same : take n (take n rest ++ x) ≡ take n rest = take-append-le n (take n rest) x (omega arith) ∙ all_taken n (take n rest) (omega arith) in
        rw there (ap (λ (l : List ℕ). record { request = Takes l; size = n }) same)
after_same order rest x h = refl

-- a request that is whole stays so, whatever follows it
pub cut_front : (bytes x : List ℕ) (order : Order) → order ≡ order_of (before_first is_line_feed bytes) → position_or_len is_line_feed bytes < length bytes → HasAll order (drop (line_size bytes) bytes)
    → let k = cut_after order (drop (line_size bytes) bytes) in cut (take (line_size bytes + k.size) bytes ++ x) ≡ with_line (line_size bytes) k
cut_front bytes x order is fed whole =
    let size = line_size bytes in
    let rest = drop size bytes in
    let k = cut_after order rest in
    let ys = take (size + k.size) bytes ++ x in
    let f = fed_front bytes x (size + k.size) fed (omega arith) (size_within order bytes) in
    let behind : drop (line_size ys) ys ≡ take k.size rest ++ x = ap (λ n. drop n ys) f.size ∙ after_front bytes x size k.size (size_within order bytes) in
    cut_is ys order (is ∙ ap order_of (sym f.first)) ∙ ap (λ n. with_line n (cut_after order (drop (line_size ys) ys))) f.size ∙ ap (λ (l : List ℕ). with_line size (cut_after order l)) behind ∙ ap (with_line size) (after_same order rest x whole)

-- and one that isn't, as far as it is there
pub lacks_more : (bytes waiting : List ℕ) (order : Order) → order ≡ order_of (before_first is_line_feed bytes) → position_or_len is_line_feed bytes < length bytes → LacksPart order waiting
    → let ys = take (line_size bytes) bytes ++ waiting in (position_or_len is_line_feed ys < length ys) × LacksPart (order_of (before_first is_line_feed ys)) (drop (line_size ys) ys)
lacks_more bytes waiting order is fed lacks =
    let size = line_size bytes in
    let ys = take size bytes ++ waiting in
    let few : size ≤ length bytes = omega arith in
    let f = fed_front bytes waiting size fed (omega arith) few in
    let l = length-append (take size bytes) waiting in
    let m = length-take size bytes in
    let behind : drop (line_size ys) ys ≡ waiting = ap (λ n. drop n ys) f.size ∙ drop_front size bytes waiting few in (
      f.there,
      subst (λ (o : Order). LacksPart o (drop (line_size ys) ys)) (is ∙ ap order_of (sym f.first)) (subst (LacksPart order) (sym behind) lacks),
    )
