-- The loop over requests, as over devices that tell what was read and written.
use Rattle.std.proofs.Common.{◌≡◌, ◌+◌, ◌≤◌, ℕ, IsTrue, IsFalse, List, length, Option, Some, None, Ok, Err, refl, subst}
use Rattle.std.specs.Prelude.{Vec}
use Rattle.std.specs.declared.alloc.Global.{Global}
use Rattle.rls_ident.specs.declared.limits.TheConstants.{INPUT_BYTES}
use Rattle.rls_io.specs.Device.{Appends, IsCutShort}
use Rattle.rls_io.specs.declared.reading.ReadError.{ReadError}
use Rattle.rls_io.specs.declared.reading.ReadError.TheVariants as read
use Rattle.rls_seen.specs.Seen.{Seen}
use Rattle.rls_session.specs.declared.answering.AnswerError.{AnswerError}
use Rattle.rls_session.specs.declared.answering.AnswerError.TheVariants.{SinkFault}
use Rattle.rls_session.specs.declared.answering.Halt.TheVariants as halt
use Rattle.rls_session.specs.declared.orders.Order.{Order}
use Rattle.rls_session.specs.declared.orders.Order.TheVariants.{Quit, Store}
use Rattle.rls_session.specs.AsTold.{AllAnswered, OrderAnswered, OrderTaken}
use Rattle.rls_session.specs.Answering.{HasNoLine, LacksPart, of_read}
use Rattle.rls_session.specs.Courses.{course}
use Rattle.rls_session.specs.Intake.{IntakeSeen, known_come, taken}
use Rattle.rls_session.specs.Requests.{Does}
use Rattle.rls_session.specs.Seats.{Seat, respond, resumed_seat}
use Rattle.rls_session.specs.Sent.{SendsFrom}
use Rattle.rls_session.specs.Sessions.{by_parts}
use Rattle.rls_session.proofs.Limits.{IsPlainOrder}
use Rattle.rls_session.proofs.Loop.{Between, OnWay, between_full, between_near, between_part, between_prompt, cut_part, fault_of, not_sink, reply_cut, too_large_of, way_first, way_full, way_near, way_order, way_over, way_part, way_paused, way_prompt, way_quit, way_reply, way_store}
use Rattle.rls_session.proofs.Sent.{AreSent, sent_first, sent_over, sent_quit, sent_reply, sent_store}

-- what was answered so far, and what is to come
pub record Way (first : Seat Seen) (a0 : IntakeSeen) (writable : Type 0) (s : Seat Seen) (a : IntakeSeen) (x y o n : Option (List ℕ)) : Type 0 where
  pub way : OnWay (respond by_parts) first (known_come a0 x) s a y o n
  pub sent : writable → AreSent first (known_come a0 x) s a y

-- the next line was found, or the end
pub record Ordered (first : Seat Seen) (a0 : IntakeSeen) (writable : Type 0) (s : Seat Seen) (a b : IntakeSeen) (order : Option Order) (x z o n : Option (List ℕ)) : Type 0 where
  pub mid : Option (List ℕ)
  pub before : Way first a0 writable s a x mid o n
  pub next : OrderTaken (Ok order) a b mid z

-- its order was answered
pub record Replied (first : Seat Seen) (a0 : IntakeSeen) (writable : Type 0) (s t : Seat Seen) (a b c : IntakeSeen) (found : Option Order) (order : Order) (reply : Vec ℕ Global) (x z o n : Option (List ℕ)) : Type 0 where
  pub mid : Option (List ℕ)
  pub before : Ordered first a0 writable s a b found x mid o n
  pub given : OrderAnswered (respond by_parts s) order t (Ok reply) b c mid z

module _ (first : Seat Seen) (a0 : IntakeSeen) (writable : Type 0) where
  -- nothing was answered yet
  pub begins : (x o : Option (List ℕ)) → a0.used ≡ 0 → Way first a0 writable first a0 x x o o
  begins x o fresh = record { way = way_first (respond by_parts) first a0 x o fresh; sent = λ w. sent_first first a0 x }

  -- the next line can't be read
  pub order_error : (e : ReadError) (f : AnswerError) (s : Seat Seen) (a b : IntakeSeen) (x y z o n : Option (List ℕ)) → f ≡ of_read e → (e ≡ read.TooLarge → (taken b ≡ INPUT_BYTES + 1) × HasNoLine b) → (e ≡ read.Fault → IsFalse b.ended × HasNoLine b)
      → (IsTrue a.ended → IsTrue b.ended) → length a.waiting ≤ 4096 → Way first a0 writable s a x y o n → OrderTaken (Err e) a b y z → AllAnswered first s (Err f) a0 b writable x z o n
  order_error e f s a b x y z o n is full unread stays few w t = record {
    done = tt;
    paused = λ q. cc;
    part = way_part (respond by_parts) first s (known_come a0 x) a y o n w.way;
    cut = λ q. absurd (not_sink e f is q);
    too_large = λ q. let at = full (too_large_of e f is q) in way_full (respond by_parts) first s (known_come a0 x) a b y z o n w.way t.unused at.0 at.1;
    prompt = λ q. let at = unread (fault_of e f is q) in way_prompt (respond by_parts) (resumed_seat by_parts) first s (known_come a0 x) a b y z o n w.way t.unused stays at.0 at.1;
    near = way_near (respond by_parts) first s (known_come a0 x) a y z o n w.way (t.near few);
    sent = λ h. tt;
  }

  -- the input is over
  pub order_over : (found : Option Order) (s : Seat Seen) (a b : IntakeSeen) (x y z o n : Option (List ℕ)) → found ≡ None → length a.waiting ≤ 4096 → Way first a0 writable s a x y o n → OrderTaken (Ok found) a b y z → AllAnswered first s (Ok halt.End) a0 b writable x z o n
  order_over found s a b x y z o n is few w t = go (subst (λ (p : Option Order). OrderTaken (Ok p) a b y z) is t)
    where
      go : OrderTaken (Ok None) a b y z → AllAnswered first s (Ok halt.End) a0 b writable x z o n
      go t = record {
        done = way_over (respond by_parts) first s (known_come a0 x) a b y z o n w.way t.next;
        paused = λ q. cc;
        part = tt;
        cut = λ q. cc;
        too_large = λ q. cc;
        prompt = λ q. cc;
        near = way_near (respond by_parts) first s (known_come a0 x) a y z o n w.way (t.near few);
        sent = λ h. sent_over first s (known_come a0 x) a b y z o n w.way (w.sent h) None refl t.next;
      }

  module _ (found : Option Order) (order : Order) (is : found ≡ Some order) (s : Seat Seen) (a b : IntakeSeen) (stays : IsTrue a.ended → IsTrue b.ended) where
    between : (x y z o n : Option (List ℕ)) → Way first a0 writable s a x y o n → OrderTaken (Ok found) a b y z → Between (respond by_parts) first (known_come a0 x) s order b z o n
    between x y z o n w t = way_order (respond by_parts) first s (known_come a0 x) found order a b y z o n w.way is t.next t.known stays

    -- it is the order to quit
    pub order_quit : (x y z o n : Option (List ℕ)) → order ≡ Quit → length a.waiting ≤ 4096 → Way first a0 writable s a x y o n → OrderTaken (Ok found) a b y z → AllAnswered first s (Ok halt.End) a0 b writable x z o n
    order_quit x y z o n quit few w t = record {
      done = way_quit (respond by_parts) first s (known_come a0 x) order b z o n (between x y z o n w t) quit;
      paused = λ q. cc;
      part = tt;
      cut = λ q. cc;
      too_large = λ q. cc;
      prompt = λ q. cc;
      near = way_near (respond by_parts) first s (known_come a0 x) a y z o n w.way (t.near few);
      sent = λ h. sent_quit first s (known_come a0 x) a b y z o n w.way (w.sent h) found order is t.next quit;
    }

    -- or to store
    pub order_store : (x y z o n : Option (List ℕ)) → order ≡ Store → length a.waiting ≤ 4096 → Way first a0 writable s a x y o n → OrderTaken (Ok found) a b y z → AllAnswered first s (Ok halt.Store) a0 b writable x z o n
    order_store x y z o n store few w t = record {
      done = way_store (respond by_parts) first s (known_come a0 x) order b z o n (between x y z o n w t) store;
      paused = λ q. way_paused (respond by_parts) first s (known_come a0 x) order b z o n (between x y z o n w t) store;
      part = tt;
      cut = λ q. cc;
      too_large = λ q. cc;
      prompt = λ q. cc;
      near = way_near (respond by_parts) first s (known_come a0 x) a y z o n w.way (t.near few);
      sent = λ h. sent_store first s (known_come a0 x) a b y z o n w.way (w.sent h) found order is t.next store;
    }

    module _ (other : IsPlainOrder order) (t : Seat Seen) (c : IntakeSeen) (goes : IsTrue b.ended → IsTrue c.ended) (few : length b.waiting ≤ 4096) where
      -- what belongs to it can't be read
      pub reply_error : (e : ReadError) (f : AnswerError) (x y z o n : Option (List ℕ)) → f ≡ of_read e → (e ≡ read.TooLarge → (taken c ≡ INPUT_BYTES + 1) × LacksPart order c.waiting) → (e ≡ read.Fault → IsFalse c.ended × LacksPart order c.waiting)
          → Ordered first a0 writable s a b found x y o n → OrderAnswered (respond by_parts s) order t (Err e) b c y z → AllAnswered first t (Err f) a0 c writable x z o n
      reply_error e f x y z o n so full unread w h =
          let at = between x w.mid y o n w.before w.next in
          record {
            done = tt;
            paused = λ q. cc;
            part = between_part (respond by_parts) first s (known_come a0 x) order b y o n at;
            cut = λ q. absurd (not_sink e f so q);
            too_large = λ q. let same = too_large_of e f so q in let k = full same in between_full (respond by_parts) first s (known_come a0 x) order b c y z o n at (h.unused (λ p. cc)) k.0 k.1;
            prompt = λ q. let same = fault_of e f so q in let k = unread same in between_prompt (respond by_parts) (resumed_seat by_parts) first s (known_come a0 x) order b c y z o n at (h.unused (λ p. cc)) goes k.0 k.1;
            near = between_near (respond by_parts) first s (known_come a0 x) order b y z o n at other (h.near few);
            sent = λ h. tt;
          }

      module _ (reply : Vec ℕ Global) where
        -- the reply is written
        pub reply_written : (x z o m n : Option (List ℕ)) → (writable → SendsFrom s (Does order)) → Appends m n reply.items → Replied first a0 writable s t a b c found order reply x z o m → Way first a0 writable t c x z o n
        reply_written x z o m n sends wrote r =
            let w = r.before in
            let at = between x w.mid r.mid o m w.before w.next in
            record {
              way = way_reply (respond by_parts) first s t (known_come a0 x) order reply.items b c r.mid z o m n at other (r.given).reply (r.given).known goes wrote;
              sent = λ h. sent_reply first s (known_come a0 x) a b w.mid r.mid o m (w.before).way ((w.before).sent h) t found order reply.items c z is (w.next).next (w.next).known other (r.given).reply (sends h);
            }

        -- or but for some bytes at its end
        pub reply_unwritten : (x z o m n : Option (List ℕ)) → IsCutShort m n reply.items → Replied first a0 writable s t a b c found order reply x z o m → AllAnswered first t (Err SinkFault) a0 c writable x z o n
        reply_unwritten x z o m n wrote r =
            let w = r.before in
            let at = between x w.mid r.mid o m w.before w.next in
            let cut = reply_cut (respond by_parts) first s t (known_come a0 x) order reply.items b c r.mid z o m n at other (r.given).reply wrote in
            record {
              done = tt;
              paused = λ q. cc;
              part = cut_part (known_come a0 x) (λ given. (course (respond by_parts) first given).replies) o n cut;
              cut = λ q. cut;
              too_large = λ q. cc;
              prompt = λ q. cc;
              near = between_near (respond by_parts) first s (known_come a0 x) order b r.mid z o m at other ((r.given).near few);
              sent = λ h. tt;
            }
