-- What comes next, by what waits.
use Rattle.std.proofs.Common.{◌≡◌, ◌∙◌, ◌+◌, ◌<◌, ◌≤◌, ℕ, Bool, true, false, ltb, leb, List, [], ◌++◌, length, take, drop, Option, Some, None, IfSome, IsTrue, refl, sym, ap, subst, arith, length-append}
use Rattle.std.specs.Prelude.{min}
use Rattle.std.specs.List.{position_or_len, before_first}
use Rattle.std.proofs.lemmas.Bool.Decides.{nat_tests}
use Rattle.std.proofs.lemmas.List.{append-nil, take-append-le, drop-append-le}
use Rattle.rls_ident.specs.declared.limits.TheConstants.{INPUT_BYTES}
use Rattle.rls_io.specs.Device.{Keeps}
use Rattle.rls_script.specs.Scripts.{is_line_feed}
use Rattle.rls_script.proofs.LineEnds.{position_or_len_le}
use Rattle.rls_session.specs.declared.orders.Order.{Order}
use Rattle.rls_session.specs.declared.orders.Order.TheVariants.{Bad, Take}
use Rattle.rls_session.specs.Answering.{HasAll, IsAnswered, IsNear, IsNext, IsPast, IsReplied}
use Rattle.rls_session.specs.Intake as intake
use Rattle.rls_session.specs.Intake.{IntakeSeen, to_come, KnowsEnd, TellsEnd}
use Rattle.rls_session.specs.Orders.{order_of}
use Rattle.rls_session.specs.Requests.{Cut, Does, Takes, line_size, cut_after}
use Rattle.rls_session.proofs.Courses.{Answers}
use Rattle.rls_session.proofs.Positions.{in_front, position_more}

-- ---- a line

true_not_false : true ≡ false → ⊥
true_not_false e = cc

-- the first line of what waits is that of all that is to come
record Line (w rest : List ℕ) (n : ℕ) : Type 0 where
  position : position_or_len is_line_feed (w ++ rest) ≡ n
  front : take n (w ++ rest) ≡ take n w
  size : min (n + 1) (length (w ++ rest)) ≡ min (n + 1) (length w)
  past : drop (min (n + 1) (length w)) (w ++ rest) ≡ drop (min (n + 1) (length w)) w ++ rest

line_found : (w rest : List ℕ) (n : ℕ) → n ≡ position_or_len is_line_feed w → (n ≡ length w → rest ≡ []) → Line w rest n
line_found w rest n e none = go (ltb n (length w)) refl
  where
    within : n ≤ length w
    within = let le = position_or_len_le is_line_feed w in omega arith

    small : min (n + 1) (length w) ≤ length w
    small = omega arith

    go : (b : Bool) → ltb n (length w) ≡ b → Line w rest n
    go true t =
        let less : n < length w = grind (arith, nat_tests) in
        record {
          position = in_front is_line_feed w rest (omega arith) ∙ sym e;
          front = take-append-le n w rest within;
          size = omega (arith, length-append w rest);
          past = drop-append-le (min (n + 1) (length w)) w rest small;
        }
    go false t =
        let all : n ≡ length w = let h : length w ≤ n = grind (arith, nat_tests) in let le = within in omega arith in
        let alone : w ++ rest ≡ w = ap (λ (l : List ℕ). w ++ l) (none all) ∙ append-nil w in
        record {
          position = ap (position_or_len is_line_feed) alone ∙ sym e;
          front = take-append-le n w rest within;
          size = ap (λ l. min (n + 1) (length l)) alone;
          past = drop-append-le (min (n + 1) (length w)) w rest small;
        }

pub found_order : (a0 a b : IntakeSeen) (x0 y : Option (List ℕ)) (n size : ℕ) (ws line : List ℕ) (order : Order) → Keeps (to_come a0 x0) (to_come a y) → a.used ≡ a0.used → n ≡ position_or_len is_line_feed a.waiting
    → intake.taken a ≤ INPUT_BYTES + 1 → (n ≡ length a.waiting → intake.taken a ≤ INPUT_BYTES) → (n ≡ length a.waiting → TellsEnd a0 x0 y) → 0 < length a.waiting → ws ≡ a.waiting → line ≡ take n ws → order ≡ order_of line
    → size ≡ min (n + 1) (length ws) → b.waiting ≡ drop size a.waiting → b.used ≡ a.used + size → (n ≡ length a.waiting → IsTrue a.ended) → b.ended ≡ a.ended → KnowsEnd a0 x0 → IsNext (to_come a0 x0) (Some order) a0 b y
found_order a0 a b None y n size ws line order keeps used e few few_end ends some whole is ord len waits uses over same known = tt
found_order a0 a b (Some xs) None n size ws line order keeps used e few few_end ends some whole is ord len waits uses over same known = absurd (cc)
found_order a0 a b (Some xs) (Some rest) n size ws line order keeps used e few few_end ends some whole is ord len waits uses over same known =
    let bytes = a0.waiting ++ xs in
    let split : a.waiting ++ rest ≡ bytes = cc in
    let f = line_found a.waiting rest n e (λ h. ends h known) in
    let size_is : size ≡ min (n + 1) (length a.waiting) = len ∙ ap (λ l. min (n + 1) (length l)) whole in
    let at : position_or_len is_line_feed bytes ≡ n = ap (position_or_len is_line_feed) (sym split) ∙ f.position in
    let first : before_first is_line_feed bytes ≡ line = ap (λ k. take k bytes) at ∙ ap (take n) (sym split) ∙ f.front ∙ sym (is ∙ ap (take n) whole) in
    let line_len : line_size bytes ≡ size = ap (λ k. min (k + 1) (length bytes)) at ∙ ap (λ l. min (n + 1) (length l)) (sym split) ∙ f.size ∙ sym size_is in
    let left : b.waiting ++ rest ≡ drop (line_size bytes) bytes =
    ap (λ (l : List ℕ). l ++ rest) (waits ∙ ap (λ k. drop k a.waiting) size_is) ∙ sym f.past ∙ ap (λ k. drop k (a.waiting ++ rest)) (sym (line_len ∙ size_is)) ∙ ap (drop (line_size bytes)) split in
    record {
      some = omega (arith, ap length split, length-append a.waiting rest);
      order_is = ord ∙ ap order_of (sym first);
      fed = λ going. let more = λ (h : n ≡ length a.waiting). true_not_false (sym (over h) ∙ (sym same ∙ going)) in let le = position_or_len_le is_line_feed a.waiting in omega (arith, ap length split, length-append a.waiting rest, more, le, e, at);
      within = line_within a n few few_end e a0.used (sym used) (position_or_len is_line_feed bytes) at;
      past = record { rest = ap (λ (l : List ℕ). Some l) left; used = uses ∙ ap (λ k. k + size) used ∙ ap (λ k. a0.used + k) (sym line_len) };
    }
  where
    line_within : (a : IntakeSeen) (n : ℕ) → intake.taken a ≤ INPUT_BYTES + 1 → (n ≡ length a.waiting → intake.taken a ≤ INPUT_BYTES) → n ≡ position_or_len is_line_feed a.waiting → (u : ℕ) → u ≡ a.used → (p : ℕ) → p ≡ n → u + p ≤ INPUT_BYTES
    line_within a n few few_end e u f p g = go (ltb n (length a.waiting)) refl
      where
        go : (b : Bool) → ltb n (length a.waiting) ≡ b → u + p ≤ INPUT_BYTES
        go true t = let less : n < length a.waiting = grind (arith, nat_tests) in omega arith
        go false t =
            let le = position_or_len_le is_line_feed a.waiting in
            let all : n ≡ length a.waiting = let h : length a.waiting ≤ n = grind (arith, nat_tests) in omega arith in
            let most = few_end all in
            omega arith

-- ---- what follows a line

pub message_replied : {S : Type 0} (answer : Answers S) (d e : S) (a0 a b : IntakeSeen) (x0 y : Option (List ℕ)) (n : ℕ) (ws front reply : List ℕ) → Keeps (to_come a0 x0) (to_come a y) → a.used ≡ a0.used → n ≤ length a.waiting → ws ≡ a.waiting → front ≡ take n ws
    → IsAnswered (answer d (Takes front)) reply e → b.waiting ≡ drop n a.waiting → b.used ≡ a.used + n → KnowsEnd a0 x0 → IfSome (to_come a0 x0) (λ bytes. IsReplied (answer d) bytes (Take n) reply e a0 b y)
message_replied answer d e a0 a b None y n ws front reply keeps used there whole is said waits uses known = tt
message_replied answer d e a0 a b (Some xs) None n ws front reply keeps used there whole is said waits uses known = absurd (cc)
message_replied answer d e a0 a b (Some xs) (Some rest) n ws front reply keeps used there whole is said waits uses known =
    let bytes = a0.waiting ++ xs in
    let split : a.waiting ++ rest ≡ bytes = cc in
    let test : leb n (length bytes) ≡ true = let l = ap length split in let k = length-append a.waiting rest in let h : n ≤ length bytes = omega arith in grind (arith, nat_tests) in
    let first : front ≡ take n bytes = is ∙ ap (take n) whole ∙ sym (take-append-le n a.waiting rest there) ∙ ap (take n) split in
    let left : b.waiting ++ rest ≡ drop n bytes = ap (λ (l : List ℕ). l ++ rest) waits ∙ sym (drop-append-le n a.waiting rest there) ∙ ap (drop n) split in
    record {
      answered = rw test (subst (λ (m : List ℕ). IsAnswered (answer d (Takes m)) reply e) first said);
      whole = λ going. let l = ap length split in let k = length-append a.waiting rest in omega arith;
      past = rw test (record { rest = ap (λ (l : List ℕ). Some l) left; used = uses ∙ ap (λ k. k + n) used });
    }

pub bad_replied : {S : Type 0} (answer : Answers S) (d e : S) (a0 a b : IntakeSeen) (x0 y : Option (List ℕ)) (n k : ℕ) (reply : List ℕ) → Keeps (to_come a0 x0) (to_come a y) → a.used ≡ a0.used → length a.waiting < n → TellsEnd a0 x0 y → k ≡ length a.waiting
    → IsAnswered (answer d (Does Bad)) reply e → b.waiting ≡ drop k a.waiting → b.used ≡ a.used + k → IsTrue a.ended → b.ended ≡ a.ended → KnowsEnd a0 x0 → IfSome (to_come a0 x0) (λ bytes. IsReplied (answer d) bytes (Take n) reply e a0 b y)
bad_replied answer d e a0 a b None y n k reply keeps used short ends all said waits uses over end known = tt
bad_replied answer d e a0 a b (Some xs) None n k reply keeps used short ends all said waits uses over end known = absurd (cc)
bad_replied answer d e a0 a b (Some xs) (Some rest) n k reply keeps used short ends all said waits uses over end known =
    let bytes = a0.waiting ++ xs in
    let split : a.waiting ++ rest ≡ bytes = cc in
    let none : rest ≡ [] = ends known in
    let alone : a.waiting ≡ bytes = sym (append-nil a.waiting) ∙ ap (λ (l : List ℕ). a.waiting ++ l) (sym none) ∙ split in
    let len : k ≡ length bytes = all ∙ ap length alone in
    let test : leb n (length bytes) ≡ false = let l = ap length alone in let h : length bytes < n = omega arith in grind (arith, nat_tests) in
    let left : b.waiting ++ rest ≡ drop (length bytes) bytes =
    ap (λ (l : List ℕ). b.waiting ++ l) none ∙ append-nil b.waiting ∙ waits ∙ ap (drop k) alone ∙ ap (λ i. drop i bytes) len in
    record {
      answered = rw test said;
      whole = λ going. absurd (true_not_false (sym over ∙ (sym end ∙ going)));
      past = rw test (record { rest = ap (λ (l : List ℕ). Some l) left; used = uses ∙ ap (λ i. i + k) used ∙ ap (λ i. a0.used + i) len });
    }

cut_alone : (order : Order) (bytes : List ℕ) → ((n : ℕ) → order ≡ Take n → ⊥) → cut_after order bytes ≡ record { request = Does order; size = 0 }
cut_alone (Take n) bytes other = absurd (other n refl)
cut_alone order bytes other = refl

has_all : (order : Order) (bytes : List ℕ) → ((n : ℕ) → order ≡ Take n → ⊥) → HasAll order bytes
has_all (Take n) bytes other = absurd (other n refl)
has_all order bytes other = tt

pub order_replied : {S : Type 0} (answer : Answers S) (d e : S) (a : IntakeSeen) (x : Option (List ℕ)) (order : Order) (reply : List ℕ) → ((n : ℕ) → order ≡ Take n → ⊥) → IsAnswered (answer d (Does order)) reply e
    → KnowsEnd a x → IfSome (to_come a x) (λ bytes. IsReplied (answer d) bytes order reply e a a x)
order_replied answer d e a None order reply other said known = tt
order_replied answer d e a (Some xs) order reply other said known =
    let alone = cut_alone order (a.waiting ++ xs) other in
    record {
      answered = subst (λ (c : Cut). IsAnswered (answer d c.request) reply e) (sym alone) said;
      whole = λ going. has_all order (a.waiting ++ xs) other;
      past = subst (λ (c : Cut). IsPast (a.waiting ++ xs) c.size a a (Some xs)) (sym alone) (record { rest = refl; used = omega arith });
    }

-- ---- how far the input is read

-- as far as a line ends
pub line_near : (a0 a : IntakeSeen) (x0 y : Option (List ℕ)) → Keeps (to_come a0 x0) (to_come a y) → length a.waiting ≤ position_or_len is_line_feed a.waiting + 4096 → IfSome (to_come a0 x0) (λ bytes. IsNear bytes y (position_or_len is_line_feed bytes))
line_near a0 a None y keeps ahead = tt
line_near a0 a (Some xs) None keeps ahead = tt
line_near a0 a (Some xs) (Some rest) keeps ahead =
    let split : a.waiting ++ rest ≡ a0.waiting ++ xs = cc in
    let further = position_more is_line_feed a.waiting rest in
    let at : position_or_len is_line_feed (a.waiting ++ rest) ≡ position_or_len is_line_feed (a0.waiting ++ xs) = ap (position_or_len is_line_feed) split in
    omega (arith, ap length split, length-append a.waiting rest)

-- and no further for an order that is whole in its line
pub order_near : (order : Order) (a : IntakeSeen) (x : Option (List ℕ)) → length a.waiting ≤ 4096 → IfSome (to_come a x) (λ bytes. IsNear bytes x (cut_after order bytes).size)
order_near order a None few = tt
order_near order a (Some rest) few = omega (arith, length-append a.waiting rest)
