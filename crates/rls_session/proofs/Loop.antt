-- The loop over requests: what was answered so far, and what is to come.
use Rattle.std.proofs.Common.{◌≡◌, ◌≢◌, ◌∙◌, ◌+◌, ◌<◌, ◌≤◌, ℕ, suc, Bool, true, false, IsTrue, IsFalse, List, [], ◌∷◌, ◌++◌, length, take, drop, Option, Some, None, IfSome, Result, Err, refl, sym, ap, subst, arith, inl, inr, append_assoc, length-append, length-drop, length-take}
use Rattle.std.specs.Prelude.{min}
use Rattle.std.specs.List.{position_or_len, before_first}
use Rattle.std.proofs.lemmas.Grind.{common_steps}
use Rattle.std.proofs.Math.Seq.{take-append-add}
use Rattle.std.proofs.lemmas.List.{append-nil, take-append-drop, take-append-le}
use Rattle.rls_ident.specs.declared.limits.TheConstants.{INPUT_BYTES}
use Rattle.rls_io.specs.Device.{Appends, IsCutShort, Keeps}
use Rattle.rls_script.specs.Scripts.{is_line_feed}
use Rattle.rls_stages.specs.Endings.{IsPart}
use Rattle.rls_stages.proofs.Kept.{part_of_cut}
use Rattle.rls_io.specs.declared.reading.ReadError.{ReadError}
use Rattle.rls_io.specs.declared.reading.ReadError.TheVariants as read
use Rattle.rls_session.specs.declared.answering.AnswerError.{AnswerError}
use Rattle.rls_session.specs.declared.answering.AnswerError.TheVariants.{OutOfMemory, SinkFault, SourceFault, TooLarge}
use Rattle.rls_session.specs.declared.answering.Halt.{Halt}
use Rattle.rls_session.specs.declared.orders.Order.{Order}
use Rattle.rls_session.specs.declared.orders.Order.TheVariants.{Take, Quit, Store}
use Rattle.rls_session.specs.Answering.{of_read, HasNoLine, IsDone, IsNear, IsNext, IsPaused, IsPrompt, IsReplied, IsUnused, LacksPart}
use Rattle.rls_session.specs.Courses.{Course, course, courses, replies_in}
use Rattle.rls_session.specs.Intake.{IntakeSeen, come_at, known_come, taken, to_come, KnowsEnd, KeepsEnd}
use Rattle.rls_session.specs.Orders.{order_of}
use Rattle.rls_session.specs.Requests.{line_size, cut_after, with_line, cut}
use Rattle.rls_session.proofs.Courses.{Answers, Comes, comes_end, comes_first, comes_next, comes_quit, comes_store, courses_end}
use Rattle.rls_session.proofs.Limits.{IsPlainOrder, cut_front, cut_is, drop_front, lacks_more, plain_cut, quit_letter_size, size_within, store_letter_size, used_line, used_no_line, used_no_message, used_request}

-- after some requests of an input, from one state to another: the replies are written, and this is to come
pub record IsOnWay {S : Type 0} (answer : Answers S) (first : S) (given : List ℕ) (s : S) (a : IntakeSeen) (left old new : Option (List ℕ)) : Type 0 where
  pub bytes : List ℕ
  pub to_come_is : to_come a left ≡ Some bytes
  pub known : KnowsEnd a left
  pub replies : List ℕ
  pub comes : Comes answer (course answer first given) replies a.used s bytes
  pub written : Appends old new replies
  -- what was used; unless the input has ended these are whole requests, whatever follows them
  pub front : List ℕ
  pub given_is : given ≡ front ++ bytes
  pub used_is : length front ≡ a.used
  pub settled : IsFalse a.ended → (x : List ℕ) → Comes answer (course answer first (front ++ x)) replies a.used s x

-- if the input is told
abbrev pub OnWay : {S : Type 0} → Answers S → S → Option (List ℕ) → S → IntakeSeen → Option (List ℕ) → Option (List ℕ) → Option (List ℕ) → Type 0
OnWay answer first input s a left old new = IfSome input (λ given. IsOnWay answer first given s a left old new)

-- the line of an order is used, and it isn't answered yet
pub record IsBetween {S : Type 0} (answer : Answers S) (first : S) (given : List ℕ) (s : S) (order : Order) (a : IntakeSeen) (left old new : Option (List ℕ)) : Type 0 where
  pub bytes : List ℕ
  pub some : 0 < length bytes
  pub order_is : order ≡ order_of (before_first is_line_feed bytes)
  pub to_come_is : to_come a left ≡ Some (drop (line_size bytes) bytes)
  pub known : KnowsEnd a left
  pub replies : List ℕ
  pub before : ℕ
  pub used : a.used ≡ before + line_size bytes
  pub within : before + position_or_len is_line_feed bytes ≤ INPUT_BYTES
  pub comes : Comes answer (course answer first given) replies before s bytes
  pub written : Appends old new replies
  pub front : List ℕ
  pub given_is : given ≡ front ++ bytes
  pub used_is : length front ≡ before
  pub settled : IsFalse a.ended → (x : List ℕ) → Comes answer (course answer first (front ++ x)) replies before s x
  pub fed : IsFalse a.ended → position_or_len is_line_feed bytes < length bytes

abbrev pub Between : {S : Type 0} → Answers S → S → Option (List ℕ) → S → Order → IntakeSeen → Option (List ℕ) → Option (List ℕ) → Option (List ℕ) → Type 0
Between answer first input s order a left old new = IfSome input (λ given. IsBetween answer first given s order a left old new)

-- ---- steps

-- more holds of what is told
more : (input : Option (List ℕ)) (P Q : List ℕ → Type 0) → ((given : List ℕ) → input ≡ Some given → P given → Q given) → IfSome input P → IfSome input Q
more None P Q f h = tt
more (Some given) P Q f h = f given refl h

-- a told input stays told, and what is known of its end
pub end_known : (a b : IntakeSeen) (x y : Option (List ℕ)) (bytes : List ℕ) → to_come a x ≡ Some bytes → KnowsEnd a x → KeepsEnd a x b y → KnowsEnd b y
end_known a b None y bytes e k keeps = absurd (cc)
end_known a b (Some xs) y bytes e k keeps = keeps k

-- the input hasn't ended before either
still_open : (a b : IntakeSeen) → (IsTrue a.ended → IsTrue b.ended) → IsFalse b.ended → IsFalse a.ended
still_open a b stays going = go a.ended refl
  where
    go : (e : Bool) → a.ended ≡ e → a.ended ≡ false
    go true e = let both : true ≡ false = sym (stays e) ∙ going in cc
    go false e = e

-- what is known to come does
pub come_known : (a : IntakeSeen) (left : Option (List ℕ)) (bytes : List ℕ) → known_come a left ≡ Some bytes → (to_come a left ≡ Some bytes) × KnowsEnd a left
come_known a left bytes e = go a.ended refl left e
  where
    go : (b : Bool) → a.ended ≡ b → (left : Option (List ℕ)) → come_at b a.waiting left ≡ Some bytes → (to_come a left ≡ Some bytes) × KnowsEnd a left
    go false is left e = (e, λ t. let never : false ≡ true = sym is ∙ t in cc)
    go true is None e = cc
    go true is (Some []) e = (ap (λ (l : List ℕ). Some l) (append-nil a.waiting) ∙ e, λ t. refl)
    go true is (Some (b ∷ rest)) e = cc

pub known_comes : (a : IntakeSeen) (left : Option (List ℕ)) (bytes : List ℕ) → to_come a left ≡ Some bytes → KnowsEnd a left → known_come a left ≡ Some bytes
known_comes a left bytes e k = go a.ended refl left e k
  where
    go : (b : Bool) → a.ended ≡ b → (left : Option (List ℕ)) → to_come a left ≡ Some bytes → KnowsEnd a left → come_at b a.waiting left ≡ Some bytes
    go false is left e k = e
    go true is None e k = cc
    go true is (Some []) e k = ap (λ (l : List ℕ). Some l) (sym (append-nil a.waiting)) ∙ e
    go true is (Some (b ∷ rest)) e k = let never : b ∷ rest ≡ [] = k is in cc

-- nothing was answered yet
pub way_first : {S : Type 0} (answer : Answers S) (first : S) (a : IntakeSeen) (left old : Option (List ℕ)) → a.used ≡ 0 → OnWay answer first (known_come a left) first a left old old
way_first {S} answer first a left old e = go (known_come a left) refl
  where
    at_first : (bytes : List ℕ) → Comes answer (course answer first bytes) [] a.used first bytes
    at_first bytes = rw e (comes_first answer first bytes)

    nothing_appended : (old : Option (List ℕ)) → Appends old old []
    nothing_appended None = tt
    nothing_appended (Some xs) = ap (λ (l : List ℕ). Some l) (sym (append-nil xs))

    go : (o : Option (List ℕ)) → known_come a left ≡ o → OnWay answer first o first a left old old
    go None is = tt
    go (Some given) is =
        let k = come_known a left given is in
        record {
          bytes = given;
          to_come_is = k.0;
          known = k.1;
          replies = [];
          comes = at_first given;
          written = nothing_appended old;
          front = [];
          given_is = refl;
          used_is = sym e;
          settled = λ going x. at_first x;
        }

-- the next order
pub way_order : {S : Type 0} (answer : Answers S) (first s : S) (input : Option (List ℕ)) (o : Option Order) (order : Order) (a b : IntakeSeen) (x y old new : Option (List ℕ)) → OnWay answer first input s a x old new → o ≡ Some order
    → (KnowsEnd a x → IsNext (to_come a x) o a b y) → KeepsEnd a x b y → (IsTrue a.ended → IsTrue b.ended) → Between answer first input s order b y old new
way_order answer first s input o order a b x y old new way is next keeps stays = more input _ _ step way
  where
    step : (given : List ℕ) → input ≡ Some given → IsOnWay answer first given s a x old new → IsBetween answer first given s order b y old new
    step given e w =
        let n = subst (λ (c : Option (List ℕ)). IsNext c (Some order) a b y) w.to_come_is (subst (λ (p : Option Order). IsNext (to_come a x) p a b y) is (next w.known)) in
        record {
          bytes = w.bytes;
          some = n.some;
          order_is = n.order_is;
          to_come_is = (n.past).rest;
          known = end_known a b x y w.bytes w.to_come_is w.known keeps;
          replies = w.replies;
          before = a.used;
          used = (n.past).used;
          within = n.within;
          comes = w.comes;
          written = w.written;
          front = w.front;
          given_is = w.given_is;
          used_is = w.used_is;
          settled = λ going. w.settled (still_open a b stays going);
          fed = n.fed;
        }

-- what comes behind an order that is answered
comes_behind : {S : Type 0} (answer : Answers S) (first s : S) (given : List ℕ) (order : Order) (a : IntakeSeen) (x old new : Option (List ℕ)) (w : IsBetween answer first given s order a x old new) → IsPlainOrder order
    → Comes answer (course answer first given) (w.replies ++ (answer s (cut_after order (drop (line_size w.bytes) w.bytes)).request).reply) (w.before + (line_size w.bytes + (cut_after order (drop (line_size w.bytes) w.bytes)).size))
    (answer s (cut_after order (drop (line_size w.bytes) w.bytes)).request).state (drop (line_size w.bytes + (cut_after order (drop (line_size w.bytes) w.bytes)).size) w.bytes)
comes_behind answer first s given order a x old new w other =
    let rest = drop (line_size w.bytes) w.bytes in
    let k = cut_after order rest in
    let is : (cut w.bytes) ≡ with_line (line_size w.bytes) k = cut_is w.bytes order w.order_is in
    comes_next answer (course answer first given) w.replies w.before s w.bytes k.request (line_size w.bytes + k.size) w.comes w.some (ap (λ c. c.request) is) (ap (λ c. c.size) is) (plain_cut order rest other)

-- the order is answered, and the reply written
pub way_reply : {S : Type 0} (answer : Answers S) (first s t : S) (input : Option (List ℕ)) (order : Order) (reply : List ℕ) (a b : IntakeSeen) (x y old mid new : Option (List ℕ)) → Between answer first input s order a x old mid
    → IsPlainOrder order → (KnowsEnd a x → IfSome (to_come a x) (λ bytes. IsReplied (answer s) bytes order reply t a b y)) → KeepsEnd a x b y → (IsTrue a.ended → IsTrue b.ended) → Appends mid new reply → OnWay answer first input t b y old new
way_reply answer first s t input order reply a b x y old mid new between other replied keeps stays wrote = more input _ _ step between
  where
    appends_both : (old mid new : Option (List ℕ)) (xs ys : List ℕ) → Appends old mid xs → Appends mid new ys → Appends old new (xs ++ ys)
    appends_both None mid new xs ys h k = tt
    appends_both (Some zs) mid new xs ys h k = (subst (λ (m : Option (List ℕ)). Appends m new ys) h k) ∙ ap (λ (l : List ℕ). Some l) (append_assoc zs xs ys)

    step : (given : List ℕ) → input ≡ Some given → IsBetween answer first given s order a x old mid → IsOnWay answer first given t b y old new
    step given e w =
        let size = line_size w.bytes in
        let rest = drop size w.bytes in
        let r = subst (λ (o : Option (List ℕ)). IfSome o (λ bytes. IsReplied (answer s) bytes order reply t a b y)) w.to_come_is (replied w.known) in
        let k = cut_after order rest in
        let on = comes_behind answer first s given order a x old mid w other in
        let there : t ≡ (answer s k.request).state = (r.answered).state_is in
        let said : reply ≡ (answer s k.request).reply = (r.answered).reply_is in
        let left : drop k.size rest ≡ drop (size + k.size) w.bytes = grind (arith, common_steps) in
        let used : w.before + (size + k.size) ≡ b.used = omega (arith, (r.past).used, w.used) in
        let n = size + k.size in
        let few : n ≤ length w.bytes = size_within order w.bytes in
        record {
          bytes = drop k.size rest;
          to_come_is = (r.past).rest;
          known = end_known a b x y rest w.to_come_is w.known keeps;
          replies = w.replies ++ reply;
          comes = rw (said, there, left, ← used) on;
          written = appends_both old mid new w.replies reply w.written wrote;
          front = w.front ++ take n w.bytes;
          given_is = w.given_is ∙ ap (λ (l : List ℕ). w.front ++ l) (sym (take-append-drop n w.bytes) ∙ ap (λ (l : List ℕ). take n w.bytes ++ l) (sym left)) ∙ sym (append_assoc w.front (take n w.bytes) (drop k.size rest));
          used_is = let l = length-take n w.bytes in omega (arith, length-append w.front (take n w.bytes), w.used_is, used);
          settled = λ going x.
              let before = still_open a b stays going in
              let same = cut_front w.bytes x order w.order_is (w.fed before) (r.whole going) in
              let longer : 0 < length (take n w.bytes ++ x) = omega (arith, length-append (take n w.bytes) x, length-take n w.bytes, w.some) in
              let on = comes_next answer (course answer first (w.front ++ (take n w.bytes ++ x))) w.replies w.before s (take n w.bytes ++ x) k.request n (w.settled before (take n w.bytes ++ x)) longer (ap (λ c. c.request) same) (ap (λ c. c.size) same) (plain_cut order rest other) in
              let behind : drop n (take n w.bytes ++ x) ≡ x = drop_front n w.bytes x few in
              rw (said, there, ← used, append_assoc w.front (take n w.bytes) x) (subst (λ (l : List ℕ). Comes answer (course answer first (w.front ++ (take n w.bytes ++ x))) (w.replies ++ (answer s k.request).reply) (w.before + n) (answer s k.request).state l) behind on);
        }

-- ---- ends

-- the input is over
pub way_over : {S : Type 0} (answer : Answers S) (first s : S) (input : Option (List ℕ)) (a b : IntakeSeen) (x y old new : Option (List ℕ)) → OnWay answer first input s a x old new
    → (KnowsEnd a x → IsNext (to_come a x) None a b y) → IfSome input (λ given. IsDone (course answer first given) false s old new)
way_over answer first s input a b x y old new way next = more input _ _ step way
  where
    step : (given : List ℕ) → input ≡ Some given → IsOnWay answer first given s a x old new → IsDone (course answer first given) false s old new
    step given e w =
        let n = subst (λ (o : Option (List ℕ)). IsNext o None a b y) w.to_come_is (next w.known) in
        let all = comes_end answer (course answer first given) w.replies a.used s (subst (λ (l : List ℕ). Comes answer (course answer first given) w.replies a.used s l) n.none w.comes) in
        rw all (record { state_is = refl; stores_is = refl; within = n.within; written = w.written })

-- an order that halts
way_halt : {S : Type 0} (answer : Answers S) (first s : S) (input : Option (List ℕ)) (order : Order) (a : IntakeSeen) (x old new : Option (List ℕ)) (stores : Bool) → Between answer first input s order a x old new
    → ((given : List ℕ) (w : IsBetween answer first given s order a x old new) → course answer first given ≡ record { replies = w.replies; state = s; used = w.before + 1; stores = stores })
    → ((bytes : List ℕ) → order_of (before_first is_line_feed bytes) ≡ order → 1 ≤ position_or_len is_line_feed bytes) → IfSome input (λ given. IsDone (course answer first given) stores s old new)
way_halt answer first s input order a x old new stores between ends one = more input _ _ step between
  where
    step : (given : List ℕ) → input ≡ Some given → IsBetween answer first given s order a x old new → IsDone (course answer first given) stores s old new
    step given e w =
        let letter = one w.bytes (sym w.order_is) in
        let within : w.before + 1 ≤ INPUT_BYTES = omega (arith, w.within, letter) in
        rw (ends given w) (record { state_is = refl; stores_is = refl; within = within; written = w.written })

-- the order to quit
pub way_quit : {S : Type 0} (answer : Answers S) (first s : S) (input : Option (List ℕ)) (order : Order) (a : IntakeSeen) (x old new : Option (List ℕ)) → Between answer first input s order a x old new → order ≡ Quit
    → IfSome input (λ given. IsDone (course answer first given) false s old new)
way_quit answer first s input order a x old new between is = way_halt answer first s input order a x old new false between
    (λ given w. comes_quit answer (course answer first given) w.replies w.before s w.bytes w.comes w.some (ap (λ c. c.request) (cut_is w.bytes Quit (sym is ∙ w.order_is)))) (λ bytes q. quit_letter_size bytes (q ∙ is))

-- the order to store
stored_course : {S : Type 0} (answer : Answers S) (first s : S) (given : List ℕ) (order : Order) (a : IntakeSeen) (x old new : Option (List ℕ)) (w : IsBetween answer first given s order a x old new) → order ≡ Store
    → course answer first given ≡ record { replies = w.replies; state = s; used = w.before + 1; stores = true }
stored_course answer first s given order a x old new w is =
    let q : order_of (before_first is_line_feed w.bytes) ≡ Store = sym w.order_is ∙ is in
    comes_store answer (course answer first given) w.replies w.before s w.bytes w.comes w.some (ap (λ c. c.request) (cut_is w.bytes Store (sym q)))

pub way_store : {S : Type 0} (answer : Answers S) (first s : S) (input : Option (List ℕ)) (order : Order) (a : IntakeSeen) (x old new : Option (List ℕ)) → Between answer first input s order a x old new → order ≡ Store
    → IfSome input (λ given. IsDone (course answer first given) true s old new)
way_store answer first s input order a x old new between is = way_halt answer first s input order a x old new true between
    (λ given w. stored_course answer first s given order a x old new w is) (λ bytes q. omega (arith, store_letter_size bytes (q ∙ is)))

-- what follows it
drop_behind : (front bytes : List ℕ) (k : ℕ) → drop (length front + k) (front ++ bytes) ≡ drop k bytes
drop_behind [] bytes k = let e : 0 + k ≡ k = omega arith in ap (λ n. drop n bytes) e
drop_behind (f ∷ front) bytes k = let e : suc (length front) + k ≡ suc (length front + k) = omega arith in ap (λ n. drop n (f ∷ (front ++ bytes))) e ∙ drop_behind front bytes k

drop_least : (k : ℕ) (xs : List ℕ) → drop (min k (length xs)) xs ≡ drop k xs
drop_least k xs = grind (arith, common_steps)

pub way_paused : {S : Type 0} (answer : Answers S) (first s : S) (input : Option (List ℕ)) (order : Order) (a : IntakeSeen) (x old new : Option (List ℕ)) → Between answer first input s order a x old new → order ≡ Store
    → IfSome input (λ given. IsPaused answer first given a x)
way_paused {S} answer first s input order a x old new between is = more input _ _ step between
  where
    step : (given : List ℕ) → input ≡ Some given → IsBetween answer first given s order a x old new → IsPaused answer first given a x
    step given e w =
        let c = stored_course answer first s given order a x old new w is in
        let size = line_size w.bytes in
        let one = store_letter_size w.bytes (sym w.order_is ∙ is) in
        let used : (course answer first given).used ≡ w.before + 1 = ap (λ (k : Course S). k.used) c in
        let two : size ≡ min 2 (length w.bytes) = ap (λ n. min (n + 1) (length w.bytes)) one in
        let past : suc (course answer first given).used ≡ length w.front + 2 = omega (arith, used, w.used_is) in
        let rest : drop size w.bytes ≡ drop (suc (course answer first given).used) given =
        ap (λ n. drop n w.bytes) two ∙ drop_least 2 w.bytes ∙ sym (drop_behind w.front w.bytes 2) ∙ ap (λ n. drop n (w.front ++ w.bytes)) (sym past) ∙ ap (drop (suc (course answer first given).used)) (sym w.given_is) in
        record {
          rest = known_comes a x (drop (suc (course answer first given).used) given) (w.to_come_is ∙ ap (λ (l : List ℕ). Some l) rest) w.known;
          fed = λ going.
              let there = w.fed going in
              let few : size ≤ length w.bytes = omega arith in
              let len = length-take size w.bytes in
              record {
                front = w.front ++ take size w.bytes;
                given_is = w.given_is ∙ ap (λ (l : List ℕ). w.front ++ l) (sym (take-append-drop size w.bytes) ∙ ap (λ (l : List ℕ). take size w.bytes ++ l) rest) ∙ sym (append_assoc w.front (take size w.bytes) (drop (suc (course answer first given).used) given));
                size = omega (arith, length-append w.front (take size w.bytes), len, past, two, there, one);
                same = λ y. same given w there y (w.settled going (take size w.bytes ++ y)) ∙ sym c;
              };
        }
      where
        same : (given : List ℕ) (w : IsBetween answer first given s order a x old new) → position_or_len is_line_feed w.bytes < length w.bytes → (y : List ℕ)
            → Comes answer (course answer first (w.front ++ (take (line_size w.bytes) w.bytes ++ y))) w.replies w.before s (take (line_size w.bytes) w.bytes ++ y)
            → course answer first ((w.front ++ take (line_size w.bytes) w.bytes) ++ y) ≡ record { replies = w.replies; state = s; used = w.before + 1; stores = true }
        same given w there y comes =
            let size = line_size w.bytes in
            let q : order_of (before_first is_line_feed w.bytes) ≡ Store = sym w.order_is ∙ is in
            let zero : size + 0 ≡ size = omega arith in
            let none : take (size + 0) w.bytes ≡ take size w.bytes = ap (λ n. take n w.bytes) zero in
            let first_is = ap (λ (l : List ℕ). (cut (l ++ y)).request) (sym none) ∙ ap (λ c. c.request) (cut_front w.bytes y Store (sym q) there tt) in
            let longer : 0 < length (take size w.bytes ++ y) = omega (arith, length-append (take size w.bytes) y, length-take size w.bytes, w.some) in
            ap (course answer first) (append_assoc w.front (take size w.bytes) y) ∙ comes_store answer (course answer first (w.front ++ (take size w.bytes ++ y))) w.replies w.before s (take size w.bytes ++ y) comes longer first_is

-- ---- an input that is too long

full_between : {S : Type 0} (answer : Answers S) (whole : Course S) (replies : List ℕ) (used : ℕ) (s : S) (bytes : List ℕ) (k : ℕ) → Comes answer whole replies used s bytes → k ≤ (course answer s bytes).used → INPUT_BYTES < used + k → INPUT_BYTES < whole.used
full_between answer whole replies used s bytes k comes h past = rw (comes.course_is) (omega arith)

-- what waits, and what is left of the input
told_split : (a : IntakeSeen) (left : Option (List ℕ)) (bytes : List ℕ) → to_come a left ≡ Some bytes → (rest : List ℕ) × (left ≡ Some rest) × (bytes ≡ a.waiting ++ rest)
told_split a None bytes e = absurd (cc)
told_split a (Some rest) bytes e = (rest, refl, cc)

come_split : (a : IntakeSeen) (left : Option (List ℕ)) (bytes : List ℕ) → to_come a left ≡ Some bytes → (rest : List ℕ) × (bytes ≡ a.waiting ++ rest)
come_split a None bytes e = absurd (cc)
come_split a (Some rest) bytes e = (rest, cc)

-- no whole line waits
pub way_full : {S : Type 0} (answer : Answers S) (first s : S) (input : Option (List ℕ)) (a b : IntakeSeen) (x y old new : Option (List ℕ)) → OnWay answer first input s a x old new
    → IsUnused a b (to_come a x) (to_come b y) → taken b ≡ INPUT_BYTES + 1 → HasNoLine b → IfSome input (λ given. INPUT_BYTES < (course answer first given).used)
way_full answer first s input a b x y old new way unused full none = more input _ _ step way
  where
    step : (given : List ℕ) → input ≡ Some given → IsOnWay answer first given s a x old new → INPUT_BYTES < (course answer first given).used
    step given e w =
        let same = subst (λ (o : Option (List ℕ)). Keeps o (to_come b y)) w.to_come_is unused.same in
        let split = come_split b y w.bytes same in
        let least = subst (λ (l : List ℕ). length b.waiting ≤ (course answer s l).used) (sym split.1) (used_no_line answer s b.waiting split.0 none) in
        full_between answer (course answer first given) w.replies a.used s w.bytes (length b.waiting) w.comes least (omega (arith, full, unused.used))

-- the message of an order doesn't wait whole
pub between_full : {S : Type 0} (answer : Answers S) (first s : S) (input : Option (List ℕ)) (order : Order) (a b : IntakeSeen) (x y old new : Option (List ℕ)) → Between answer first input s order a x old new
    → IsUnused a b (to_come a x) (to_come b y) → taken b ≡ INPUT_BYTES + 1 → LacksPart order b.waiting → IfSome input (λ given. INPUT_BYTES < (course answer first given).used)
between_full answer first s input (Take n) a b x y old new between unused full none = more input _ _ step between
  where
    step : (given : List ℕ) → input ≡ Some given → IsBetween answer first given s (Take n) a x old new → INPUT_BYTES < (course answer first given).used
    step given e w =
        let same = subst (λ (o : Option (List ℕ)). Keeps o (to_come b y)) w.to_come_is unused.same in
        let split = come_split b y (drop (line_size w.bytes) w.bytes) same in
        let least = used_no_message answer s w.bytes b.waiting split.0 n w.some (sym w.order_is) split.1 none in
        full_between answer (course answer first given) w.replies w.before s w.bytes (line_size w.bytes + length b.waiting) w.comes least (omega (arith, full, unused.used, w.used))
between_full answer first s input order a b x y old new between unused full none = absurd none

-- ---- what was written

part_of : (old new : Option (List ℕ)) (xs ys : List ℕ) → Appends old new xs → IsPart old new (xs ++ ys)
part_of old new xs ys h = (length xs, omega (arith, length-append xs ys), subst (Appends old new) (sym front) h)
  where
    front : take (length xs) (xs ++ ys) ≡ xs
    front = grind (arith, common_steps)

cut_behind : (old mid new : Option (List ℕ)) (xs ys zs : List ℕ) → Appends old mid xs → IsCutShort mid new ys → IsCutShort old new (xs ++ (ys ++ zs))
cut_behind None mid new xs ys zs h p = (0, omega (arith, length-append xs (ys ++ zs), length-append ys zs, p.1), tt)
cut_behind (Some ws) mid new xs ys zs h p =
    let n = p.0 in
    let at : new ≡ Some ((ws ++ xs) ++ take n ys) = subst (λ (m : Option (List ℕ)). Appends m new (take n ys)) h p.2 in
    let front : take (length xs + n) (xs ++ (ys ++ zs)) ≡ xs ++ take n ys = front_is xs ys zs n (omega (arith, p.1)) in
    (length xs + n, omega (arith, length-append xs (ys ++ zs), length-append ys zs, p.1), at ∙ ap (λ (l : List ℕ). Some l) (append_assoc ws xs (take n ys) ∙ ap (λ (l : List ℕ). ws ++ l) (sym front)))
  where
    front_is : (xs ys zs : List ℕ) (n : ℕ) → n ≤ length ys → take (length xs + n) (xs ++ (ys ++ zs)) ≡ xs ++ take n ys
    front_is xs ys zs n h = take-append-add xs (ys ++ zs) n ∙ ap (λ (l : List ℕ). xs ++ l) (take-append-le n ys zs h)

-- up to here
pub way_part : {S : Type 0} (answer : Answers S) (first s : S) (input : Option (List ℕ)) (a : IntakeSeen) (x old new : Option (List ℕ)) → OnWay answer first input s a x old new
    → IfSome input (λ given. IsPart old new (course answer first given).replies)
way_part answer first s input a x old new way = more input _ _ (λ given e w. rw (w.comes.course_is) (part_of old new w.replies (course answer s w.bytes).replies w.written)) way

pub between_part : {S : Type 0} (answer : Answers S) (first s : S) (input : Option (List ℕ)) (order : Order) (a : IntakeSeen) (x old new : Option (List ℕ)) → Between answer first input s order a x old new
    → IfSome input (λ given. IsPart old new (course answer first given).replies)
between_part answer first s input order a x old new between = more input _ _ (λ given e w. rw (w.comes.course_is) (part_of old new w.replies (course answer s w.bytes).replies w.written)) between

-- what is cut short is a part
pub cut_part : (input : Option (List ℕ)) (f : List ℕ → List ℕ) (old new : Option (List ℕ)) → IfSome input (λ given. IsCutShort old new (f given)) → IfSome input (λ given. IsPart old new (f given))
cut_part None f old new h = tt
cut_part (Some given) f old new h = part_of_cut old new (f given) h

-- the reply is cut short
pub reply_cut : {S : Type 0} (answer : Answers S) (first s t : S) (input : Option (List ℕ)) (order : Order) (reply : List ℕ) (a b : IntakeSeen) (x y old mid new : Option (List ℕ)) → Between answer first input s order a x old mid
    → IsPlainOrder order → (KnowsEnd a x → IfSome (to_come a x) (λ bytes. IsReplied (answer s) bytes order reply t a b y)) → IsCutShort mid new reply → IfSome input (λ given. IsCutShort old new (course answer first given).replies)
reply_cut answer first s t input order reply a b x y old mid new between other replied wrote = more input _ _ step between
  where
    step : (given : List ℕ) → input ≡ Some given → IsBetween answer first given s order a x old mid → IsCutShort old new (course answer first given).replies
    step given e w =
        let size = line_size w.bytes in
        let k = cut_after order (drop size w.bytes) in
        let r = subst (λ (o : Option (List ℕ)). IfSome o (λ bytes. IsReplied (answer s) bytes order reply t a b y)) w.to_come_is (replied w.known) in
        let on = comes_behind answer first s given order a x old mid w other in
        let last = course answer (answer s k.request).state (drop (size + k.size) w.bytes) in
        let said : reply ≡ (answer s k.request).reply = (r.answered).reply_is in
        let whole : (course answer first given).replies ≡ w.replies ++ (reply ++ last.replies) = ap (λ (c : Course _). c.replies) on.course_is ∙ append_assoc w.replies (answer s k.request).reply last.replies ∙ ap (λ (l : List ℕ). w.replies ++ (l ++ last.replies)) (sym said) in
        subst (IsCutShort old new) (sym whole) (cut_behind old mid new w.replies reply last.replies w.written wrote)

-- what was written, as the reply says it
pub written : (old new : Option (List ℕ)) (xs ys : List ℕ) → xs ≡ ys → Appends old new xs → Appends old new ys
written old new xs ys e h = subst (Appends old new) e h

-- ---- what is answered before the input is read on

-- all that is whole is answered, and nothing more
answered_front : {S : Type 0} (answer : Answers S) (resumed : S → S) (first s : S) (front replies : List ℕ) (used : ℕ) → ((x : List ℕ) → Comes answer (course answer first (front ++ x)) replies used s x)
    → replies_in (courses answer resumed first front) ≡ replies
answered_front {S} answer resumed first s front replies used f =
    let all = comes_end answer (course answer first front) replies used s (subst (λ (l : List ℕ). Comes answer (course answer first l) replies used s []) (append-nil front) (f [])) in
    ap replies_in (courses_end answer resumed first front (ap (λ (c : Course S). c.stores) all)) ∙ ap (λ (c : Course S). c.replies) all

-- no whole line waits
pub way_prompt : {S : Type 0} (answer : Answers S) (resumed : S → S) (first s : S) (input : Option (List ℕ)) (a b : IntakeSeen) (x y old new : Option (List ℕ)) → OnWay answer first input s a x old new
    → IsUnused a b (to_come a x) (to_come b y) → (IsTrue a.ended → IsTrue b.ended) → IsFalse b.ended → HasNoLine b → IfSome input (λ given. IsPrompt (λ front. replies_in (courses answer resumed first front)) given y old new)
way_prompt answer resumed first s input a b x y old new way unused stays going none = more input _ _ step way
  where
    step : (given : List ℕ) → input ≡ Some given → IsOnWay answer first given s a x old new → IsPrompt (λ front. replies_in (courses answer resumed first front)) given y old new
    step given e w =
        let same = subst (λ (o : Option (List ℕ)). Keeps o (to_come b y)) w.to_come_is unused.same in
        let split = told_split b y w.bytes same in
        record {
          front = w.front;
          more = b.waiting;
          rest = split.0;
          given_is = w.given_is ∙ ap (λ (l : List ℕ). w.front ++ l) split.2;
          left_is = split.1;
          unfinished = inl none;
          written = subst (Appends old new) (sym (answered_front answer resumed first s w.front w.replies a.used (w.settled (still_open a b stays going)))) w.written;
        }

-- the message of an order doesn't wait whole
pub between_prompt : {S : Type 0} (answer : Answers S) (resumed : S → S) (first s : S) (input : Option (List ℕ)) (order : Order) (a b : IntakeSeen) (x y old new : Option (List ℕ)) → Between answer first input s order a x old new
    → IsUnused a b (to_come a x) (to_come b y) → (IsTrue a.ended → IsTrue b.ended) → IsFalse b.ended → LacksPart order b.waiting → IfSome input (λ given. IsPrompt (λ front. replies_in (courses answer resumed first front)) given y old new)
between_prompt answer resumed first s input order a b x y old new between unused stays going lacks = more input _ _ step between
  where
    step : (given : List ℕ) → input ≡ Some given → IsBetween answer first given s order a x old new → IsPrompt (λ front. replies_in (courses answer resumed first front)) given y old new
    step given e w =
        let size = line_size w.bytes in
        let same = subst (λ (o : Option (List ℕ)). Keeps o (to_come b y)) w.to_come_is unused.same in
        let split = told_split b y (drop size w.bytes) same in
        let before = still_open a b stays going in
        record {
          front = w.front;
          more = take size w.bytes ++ b.waiting;
          rest = split.0;
          given_is = w.given_is ∙ ap (λ (l : List ℕ). w.front ++ l) (sym (take-append-drop size w.bytes) ∙ ap (λ (l : List ℕ). take size w.bytes ++ l) split.2 ∙ sym (append_assoc (take size w.bytes) b.waiting split.0));
          left_is = split.1;
          unfinished = inr (lacks_more w.bytes b.waiting order w.order_is (w.fed before) lacks);
          written = subst (Appends old new) (sym (answered_front answer resumed first s w.front w.replies w.before (w.settled before))) w.written;
        }

-- ---- how far the input is read

-- by what was used before
near_on : {S : Type 0} (answer : Answers S) (whole : Course S) (replies front bytes given : List ℕ) (used k : ℕ) (s : S) (left : Option (List ℕ)) → Comes answer whole replies used s bytes → given ≡ front ++ bytes → length front ≡ used
    → k ≤ (course answer s bytes).used → IsNear bytes left k → IsNear given left whole.used
near_on answer whole replies front bytes given used k s None comes is len most near = tt
near_on answer whole replies front bytes given used k s (Some rest) comes is len most near =
    let all : whole.used ≡ used + (course answer s bytes).used = ap (λ (c : Course _). c.used) comes.course_is in
    omega (arith, ap length is, length-append front bytes)

-- a line was looked for
pub way_near : {S : Type 0} (answer : Answers S) (first s : S) (input : Option (List ℕ)) (a : IntakeSeen) (x y old new : Option (List ℕ)) → OnWay answer first input s a x old new
    → IfSome (to_come a x) (λ bytes. IsNear bytes y (position_or_len is_line_feed bytes)) → IfSome input (λ given. IsNear given y (course answer first given).used)
way_near answer first s input a x y old new way near = more input _ _ step way
  where
    step : (given : List ℕ) → input ≡ Some given → IsOnWay answer first given s a x old new → IsNear given y (course answer first given).used
    step given e w =
        let n = subst (λ (o : Option (List ℕ)). IfSome o (λ bytes. IsNear bytes y (position_or_len is_line_feed bytes))) w.to_come_is near in
        near_on answer (course answer first given) w.replies w.front w.bytes given a.used (position_or_len is_line_feed w.bytes) s y w.comes w.given_is w.used_is (used_line answer s w.bytes) n

-- an order was answered, or was to be
pub between_near : {S : Type 0} (answer : Answers S) (first s : S) (input : Option (List ℕ)) (order : Order) (a : IntakeSeen) (x y old new : Option (List ℕ)) → Between answer first input s order a x old new → IsPlainOrder order
    → IfSome (to_come a x) (λ bytes. IsNear bytes y (cut_after order bytes).size) → IfSome input (λ given. IsNear given y (course answer first given).used)
between_near answer first s input order a x y old new between other near = more input _ _ step between
  where
    longer : (bytes : List ℕ) (n k : ℕ) (left : Option (List ℕ)) → n ≤ length bytes → IsNear (drop n bytes) left k → IsNear bytes left (n + k)
    longer bytes n k None h near = tt
    longer bytes n k (Some rest) h near = omega (arith, length-drop n bytes)

    step : (given : List ℕ) → input ≡ Some given → IsBetween answer first given s order a x old new → IsNear given y (course answer first given).used
    step given e w =
        let size = line_size w.bytes in
        let k = cut_after order (drop size w.bytes) in
        let n = subst (λ (o : Option (List ℕ)). IfSome o (λ bytes. IsNear bytes y (cut_after order bytes).size)) w.to_come_is near in
        near_on answer (course answer first given) w.replies w.front w.bytes given w.before (size + k.size) s y w.comes w.given_is w.used_is
        (used_request answer s w.bytes order w.some w.order_is other) (longer w.bytes size k.size y (omega arith) n)

-- an end, as answering tells it
abbrev ended : AnswerError → Result Halt AnswerError
ended e = Err e

pub too_large_of : (e : ReadError) (f : AnswerError) → f ≡ of_read e → ended f ≡ ended TooLarge → e ≡ read.TooLarge
too_large_of read.Fault f is h = let same : f ≡ TooLarge = cc in let never : SourceFault ≡ TooLarge = sym is ∙ same in cc
too_large_of read.TooLarge f is h = refl
too_large_of read.OutOfMemory f is h = let same : f ≡ TooLarge = cc in let never : OutOfMemory ≡ TooLarge = sym is ∙ same in cc

pub not_sink : (e : ReadError) (f : AnswerError) → f ≡ of_read e → ended f ≢ ended SinkFault
not_sink read.Fault f is h = let same : f ≡ SinkFault = cc in let never : SourceFault ≡ SinkFault = sym is ∙ same in cc
not_sink read.TooLarge f is h = let same : f ≡ SinkFault = cc in let never : TooLarge ≡ SinkFault = sym is ∙ same in cc
not_sink read.OutOfMemory f is h = let same : f ≡ SinkFault = cc in let never : OutOfMemory ≡ SinkFault = sym is ∙ same in cc

pub fault_of : (e : ReadError) (f : AnswerError) → f ≡ of_read e → ended f ≡ ended SourceFault → e ≡ read.Fault
fault_of read.Fault f is h = refl
fault_of read.TooLarge f is h = let same : f ≡ SourceFault = cc in let never : TooLarge ≡ SourceFault = sym is ∙ same in cc
fault_of read.OutOfMemory f is h = let same : f ≡ SourceFault = cc in let never : OutOfMemory ≡ SourceFault = sym is ∙ same in cc
