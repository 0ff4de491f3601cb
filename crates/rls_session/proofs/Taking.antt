-- What was taken of an input, by what its reads gave.
use Rattle.std.proofs.Common.{◌≡◌, ◌≢◌, ◌∙◌, ◌+◌, ◌≤◌, ℕ, zero, suc, Bool, true, false, leb, IsTrue, IsFalse, List, [], ◌++◌, length, take, Option, Some, None, Result, Ok, Err, refl, sym, ap, subst, arith, append_assoc, length-append, length-take}
use Rattle.std.specs.Prelude.{nat_eq, Vec}
use Rattle.std.specs.declared.alloc.Global.{Global}
use Rattle.std.specs.List.{position_or_len}
use Rattle.std.proofs.lemmas.Bool.Decides.{nat_tests}
use Rattle.std.proofs.lemmas.Grind.{common_steps}
use Rattle.rls_ident.specs.declared.limits.TheConstants.{INPUT_BYTES}
use Rattle.rls_io.specs.Device.{Keeps}
use Rattle.rls_io.specs.declared.reading.ReadError.{ReadError}
use Rattle.rls_io.specs.declared.reading.ReadError.TheVariants as read_error
use Rattle.rls_io.proofs.Told.{passes_more, passes_none}
use Rattle.rls_script.specs.Scripts.{is_line_feed}
use Rattle.rls_session.specs.declared.orders.Order.{Order}
use Rattle.rls_session.specs.declared.orders.Order.TheVariants as orders
use Rattle.rls_session.specs.AsTold.{AtEnd, Failed, Given, Open, OrderAnswered, OrderTaken, Took, reading_of}
use Rattle.rls_session.specs.Answering.{IsAnswered, IsNear, IsNext, IsOver, IsReplied, IsUnused}
use Rattle.rls_session.specs.Intake.{IntakeSeen, KnowsEnd, taken, to_come}
use Rattle.rls_session.specs.Requests.{Does, cut_after}
use Rattle.rls_session.proofs.AsTold.{given_failed, given_none, given_on, given_so}
use Rattle.rls_session.proofs.Courses.{Answers}
use Rattle.rls_session.proofs.Found.{line_near, order_near, order_replied}

-- ---- reads

-- from one to the next
took_on : (a b c : IntakeSeen) (x y z : List ℕ) → Took a b (Some x) (Some y) → Took b c (Some y) (Some z) → Took a c (Some x) (Some z)
took_on a b c x y z t u = record { same = u.same ∙ t.same; at_end = u.at_end }

module _ {S : Type 0} (read : S → Option (List ℕ) → S → Type 0) where
  -- nothing was read
  pub taken_none : (ok : Bool) (a b : IntakeSeen) (old : S) → b ≡ a → Given read a.ended ok b.ended old old (Took a b)
  taken_none ok a b old e = subst (λ (c : IntakeSeen). Given read a.ended ok c.ended old old (Took a c)) (sym e) (given_none read ok a.ended old (Took a a) (λ x at. record { same = refl; at_end = at }))

  -- a read failed
  pub taken_failed : (a b : IntakeSeen) (old new : S) → b ≡ a → IsFalse a.ended → read old None new → Given read a.ended false b.ended old new (Took a b)
  taken_failed a b old new e going gave = subst (λ (c : IntakeSeen). Given read a.ended false c.ended old new (Took a c)) (sym e) (subst (λ (w : Bool). Given read w false a.ended old new (Took a a)) (sym going) failed)
    where
      failed : Given read false false a.ended old new (Took a a)
      failed = record {
        bytes = [];
        how = Failed;
        came = (old, passes_none read old, gave);
        fits = λ t. let never : false ≡ true = sym going ∙ t in cc;
        holds = λ x y e at. record { same = ap (λ (l : List ℕ). Some (a.waiting ++ l)) (sym e); at_end = λ t. let never : false ≡ true = sym going ∙ t in cc };
      }

  -- a read gave bytes, or none at the end
  pub taken_more : (a b : IntakeSeen) (n : ℕ) (buf : List ℕ) (old new : S) → IsFalse a.ended → n ≤ length buf → read old (Some (take n buf)) new → b.waiting ≡ a.waiting ++ take n buf → b.ended ≡ nat_eq n 0 → Given read a.ended true b.ended old new (Took a b)
  taken_more a b n buf old new going fits gave waits ends = subst (λ (w : Bool). Given read w true b.ended old new (Took a b)) (sym going) (go n fits gave waits ends)
    where
      same : (piece x y : List ℕ) → b.waiting ≡ a.waiting ++ piece → x ≡ piece ++ y → Keeps (to_come a (Some x)) (to_come b (Some y))
      same piece x y waits e = ap (λ (l : List ℕ). Some (l ++ y)) waits ∙ ap (λ (l : List ℕ). Some l) (append_assoc a.waiting piece y ∙ ap (λ (l : List ℕ). a.waiting ++ l) (sym e))

      go : (n : ℕ) → n ≤ length buf → read old (Some (take n buf)) new → b.waiting ≡ a.waiting ++ take n buf → b.ended ≡ nat_eq n 0 → Given read false true b.ended old new (Took a b)
      go zero fits gave waits ends =
          let none : take 0 buf ≡ [] = grind (arith, common_steps) in
          let last : b.ended ≡ true = ends ∙ grind (arith, nat_tests) in
          record {
            bytes = [];
            how = AtEnd;
            came = (old, passes_none read old, subst (λ (l : List ℕ). read old (Some l) new) none gave);
            fits = ap reading_of (sym last);
            holds = λ x y e at. record { same = same [] x y (waits ∙ ap (λ (l : List ℕ). a.waiting ++ l) none) e; at_end = λ t. at refl };
          }
      go (suc n) fits gave waits ends =
          let more : b.ended ≡ false = ends ∙ grind (arith, nat_tests) in
          record {
            bytes = take (suc n) buf;
            how = Open;
            came = passes_more read [] (take (suc n) buf) old old new (passes_none read old) (omega (arith, fits, length-take (suc n) buf)) gave;
            fits = ap reading_of (sym more);
            holds = λ x y e at. record { same = same (take (suc n) buf) x y waits e; at_end = λ t. let never : false ≡ true = sym more ∙ t in cc };
          }

  -- reads after reads
  pub taken_on : (ok : Bool) (a b c : IntakeSeen) (old mid new : S) → Given read a.ended true b.ended old mid (Took a b) → Given read b.ended ok c.ended mid new (Took b c) → Given read a.ended ok c.ended old new (Took a c)
  taken_on ok a b c old mid new t u = given_on read a.ended b.ended ok c.ended old mid new (Took a b) (Took b c) (Took a c) t u (λ x y z. took_on a b c x y z)

-- ---- the next line

-- nothing is to come
over_order : (a b : IntakeSeen) (x y : List ℕ) (n : ℕ) → Took a b (Some x) (Some y) → b.waiting ≡ [] → n ≡ position_or_len is_line_feed b.waiting → b.used ≡ a.used → (n ≡ length b.waiting → IsTrue b.ended) → (n ≡ length b.waiting → taken b ≤ INPUT_BYTES) → IsOver (a.waiting ++ x) a
over_order a b x y n t none at used ended few =
    let all : n ≡ length b.waiting = at ∙ ap (position_or_len is_line_feed) none ∙ sym (ap length none) in
    let rest : y ≡ [] = t.at_end (ended all) in
    let come : Some (b.waiting ++ y) ≡ Some (a.waiting ++ x) = t.same in
    let nothing : b.waiting ++ y ≡ [] = ap (λ (l : List ℕ). l ++ y) none ∙ rest in
    record { none = some_inj (sym come ∙ ap (λ (l : List ℕ). Some l) nothing); within = let most = few all in omega (arith, most, used) }
  where
    some_inj : {u v : List ℕ} → (Some u ≡ Some v) → u ≡ v
    some_inj {u} {v} e = cc

-- how far the input is read for a message
message_near : (a b : IntakeSeen) (x y : List ℕ) (n : ℕ) → Took a b (Some x) (Some y) → length b.waiting ≤ n + 4096 → IsNear (a.waiting ++ x) (Some y) (cut_after (orders.Take n) (a.waiting ++ x)).size
message_near a b x y n t ahead = go (leb n (length (a.waiting ++ x))) refl
  where
    split : b.waiting ++ y ≡ a.waiting ++ x
    split = let come : Some (b.waiting ++ y) ≡ Some (a.waiting ++ x) = t.same in cc

    go : (c : Bool) → leb n (length (a.waiting ++ x)) ≡ c → IsNear (a.waiting ++ x) (Some y) (cut_after (orders.Take n) (a.waiting ++ x)).size
    go true is = rw is (omega (arith, ap length split, length-append b.waiting y, ahead))
    go false is = rw is (omega arith)

-- a reply can't be made for this
abbrev pub failed_by : ReadError → Result (Vec ℕ Global) ReadError
failed_by e = Err e

module _ {S : Type 0} (read : S → Option (List ℕ) → S → Type 0) where
  -- a line was looked for in vain, or its order found no memory
  pub line_failed : (e : ReadError) (ok : Bool) (a b : IntakeSeen) (old new : S) → Given read a.ended ok b.ended old new (Took a b) → b.used ≡ a.used → (length a.waiting ≤ 4096 → length b.waiting ≤ position_or_len is_line_feed b.waiting + 4096)
      → Given read a.ended false b.ended old new (OrderTaken (Err e) a b)
  line_failed e ok a b old new t used ahead = given_failed read a.ended ok b.ended b.ended old new (Took a b) (OrderTaken (Err e) a b) t refl
      (λ x y h. record { next = tt; known = λ k. h.at_end; unused = record { same = h.same; used = used }; near = λ few. line_near a b (Some x) (Some y) h.same (ahead few) })

  -- the input is over
  pub line_over : (a b : IntakeSeen) (n : ℕ) (old new : S) → Given read a.ended true b.ended old new (Took a b) → b.waiting ≡ [] → n ≡ position_or_len is_line_feed b.waiting → b.used ≡ a.used → (n ≡ length b.waiting → IsTrue b.ended) → (n ≡ length b.waiting → taken b ≤ INPUT_BYTES)
      → (length a.waiting ≤ 4096 → length b.waiting ≤ position_or_len is_line_feed b.waiting + 4096) → Given read a.ended true b.ended old new (OrderTaken (Ok None) a b)
  line_over a b n old new t none at used ended few ahead = given_so read a.ended true b.ended b.ended old new (Took a b) (OrderTaken (Ok None) a b) t refl
      (λ x y h. record { next = λ k. over_order a b x y n h none at used ended few; known = λ k. h.at_end; unused = tt; near = λ small. line_near a b (Some x) (Some y) h.same (ahead small) })

  -- an order was found
  pub line_order : (order : Order) (a b c : IntakeSeen) (old new : S) → Given read a.ended true b.ended old new (Took a b) → c.ended ≡ b.ended
      → ((x y : List ℕ) → Took a b (Some x) (Some y) → KnowsEnd a (Some x) → IsNext (to_come a (Some x)) (Some order) a c (Some y))
      → (length a.waiting ≤ 4096 → length b.waiting ≤ position_or_len is_line_feed b.waiting + 4096) → Given read a.ended true c.ended old new (OrderTaken (Ok (Some order)) a c)
  line_order order a b c old new t same next ahead = given_so read a.ended true b.ended c.ended old new (Took a b) (OrderTaken (Ok (Some order)) a c) t same
      (λ x y h. record { next = next x y h; known = λ k e. h.at_end (sym same ∙ e); unused = tt; near = λ small. line_near a b (Some x) (Some y) h.same (ahead small) })

  -- ---- what follows a line

  module _ {T : Type 0} (answer : Answers T) (d : T) where
    -- an order that is whole in its line finds no memory
    pub order_failed : (order : Order) (t : T) (a : IntakeSeen) (old : S) → Given read a.ended false a.ended old old (OrderAnswered (answer d) order t (Err read_error.OutOfMemory) a a)
    order_failed order t a old = given_none read false a.ended old (OrderAnswered (answer d) order t (Err read_error.OutOfMemory) a a)
        (λ x at. record { reply = tt; known = λ k. at; unused = λ other. absurd (other refl); near = order_near order a (Some x) })

    -- it is answered
    pub order_given : (order : Order) (t : T) (reply : Vec ℕ Global) (a : IntakeSeen) (old : S) → ((n : ℕ) → order ≡ orders.Take n → ⊥) → IsAnswered (answer d (Does order)) reply.items t → Given read a.ended true a.ended old old (OrderAnswered (answer d) order t (Ok reply) a a)
    order_given order t reply a old other said = given_none read true a.ended old (OrderAnswered (answer d) order t (Ok reply) a a)
        (λ x at. record { reply = order_replied answer d t a (Some x) order reply.items other said; known = λ k. at; unused = tt; near = order_near order a (Some x) })

    -- a message can't be read, or finds no memory
    pub message_failed : (e : ReadError) (n : ℕ) (t : T) (ok : Bool) (a b c : IntakeSeen) (old new : S) → Given read a.ended ok b.ended old new (Took a b) → c.ended ≡ b.ended → (failed_by e ≢ failed_by read_error.OutOfMemory → c ≡ b) → b.used ≡ a.used → (length a.waiting ≤ 4096 → length b.waiting ≤ n + 4096)
        → Given read a.ended false c.ended old new (OrderAnswered (answer d) (orders.Take n) t (Err e) a c)
    message_failed e n t ok a b c old new g same alike used ahead = given_failed read a.ended ok b.ended c.ended old new (Took a b) (OrderAnswered (answer d) (orders.Take n) t (Err e) a c) g same
        (λ x y h. record {
          reply = tt;
          known = λ k t. h.at_end (sym same ∙ t);
          unused = λ other. subst (λ (i : IntakeSeen). IsUnused a i (to_come a (Some x)) (to_come i (Some y))) (sym (alike other)) (record { same = h.same; used = used });
          near = λ few. message_near a b x y n h (ahead few);
        })

    -- it is answered, or isn't there whole
    pub message_given : (n : ℕ) (t : T) (reply : Vec ℕ Global) (a b c : IntakeSeen) (old new : S) → Given read a.ended true b.ended old new (Took a b) → c.ended ≡ b.ended
        → ((x y : List ℕ) → Took a b (Some x) (Some y) → KnowsEnd a (Some x) → IsReplied (answer d) (a.waiting ++ x) (orders.Take n) reply.items t a c (Some y)) → (length a.waiting ≤ 4096 → length b.waiting ≤ n + 4096)
        → Given read a.ended true c.ended old new (OrderAnswered (answer d) (orders.Take n) t (Ok reply) a c)
    message_given n t reply a b c old new g same replied ahead = given_so read a.ended true b.ended c.ended old new (Took a b) (OrderAnswered (answer d) (orders.Take n) t (Ok reply) a c) g same
        (λ x y h. record { reply = replied x y h; known = λ k t. h.at_end (sym same ∙ t); unused = tt; near = λ few. message_near a b x y n h (ahead few) })
