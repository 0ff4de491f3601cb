-- Each message that a session answers is one.
use Rattle.std.proofs.Common.{◌≡◌, ◌∙◌, ◌+◌, ◌-◌, ◌<◌, ℕ, zero, suc, Bool, true, false, cond, List, [], ◌∷◌, length, take, drop, Option, Some, None, IfSome, sym, ap, subst, arith, refl}
use Rattle.std.specs.Prelude.{nat_le}
use Rattle.std.proofs.lemmas.Grind.{common_steps}
use Rattle.rls_seen.specs.Seen.{Seen}
use Rattle.rls_session.specs.declared.orders.Order.{Order}
use Rattle.rls_session.specs.declared.orders.Order.TheVariants as orders
use Rattle.rls_session.specs.declared.orders.Order.TheVariants.{Quit, Store}
use Rattle.rls_session.specs.Answering.{IsNext, IsOrder, IsReplied}
use Rattle.rls_session.specs.Courses.{holds, holds_from, holds_on}
use Rattle.rls_session.specs.Intake.{IntakeSeen, KeepsEnd, KnowsEnd, known_come, to_come}
use Rattle.rls_session.specs.Requests.{Request, Does, Takes, Cut, cut, cut_after, line_size, with_line}
use Rattle.rls_session.specs.Seats.{Seat, respond}
use Rattle.rls_session.specs.Sent.{SendsFrom}
use Rattle.rls_session.specs.Sessions.{by_parts}
use Rattle.rls_session.proofs.Courses.{Answers, IsPlain}
use Rattle.rls_session.proofs.Cuts.{cut_some}
use Rattle.rls_session.proofs.Limits.{IsPlainOrder, cut_is, plain_cut}
use Rattle.rls_session.proofs.Loop.{IsOnWay, OnWay, come_known, end_known}

-- ---- what holds of each request, one after another

module _ {S : Type 0} (answer : Answers S) (P : S → Request → Type 0) where
  skipped : (n : ℕ) (s : S) (bytes : List ℕ) → holds answer P s (drop n bytes) → holds_from answer P n s bytes
  skipped zero s bytes h = h
  skipped (suc n) s [] h = tt
  skipped (suc n) s (b ∷ bytes) h = skipped n s bytes h

  -- of the first one, and of those after it
  on : (s : S) (r : Request) (rest : S → Type 0) → IsPlain r → P s r → rest (answer s r).state → holds_on answer P s r rest
  on s (Does Quit) rest other p h = tt
  on s (Does Store) rest other p h = tt
  on s (Does order) rest other p h = (p, h)
  on s (Takes message) rest other p h = (p, h)

  begins : (s : S) (bytes : List ℕ) (r : Request) (n : ℕ) → 0 < length bytes → (cut bytes).request ≡ r → (cut bytes).size ≡ n → IsPlain r → P s r → holds answer P (answer s r).state (drop n bytes) → holds answer P s bytes
  begins s [] r n some is size other p h = absurd (omega (arith, some))
  begins s (b ∷ bytes) r n some is size other p h =
      let left : 0 < n = subst (λ k. 0 < k) size (cut_some b bytes) in
      rw (is, size) (on s r (λ t. holds_from answer P (n - 1) t bytes) other p (rest n left h))
    where
      rest : (k : ℕ) → 0 < k → holds answer P (answer s r).state (drop k (b ∷ bytes)) → holds_from answer P (k - 1) (answer s r).state bytes
      rest zero z h = absurd (omega (arith, z))
      rest (suc k) z h = let less : suc k - 1 ≡ k = omega arith in rw less (skipped k (answer s r).state bytes h)

  quits : (s : S) (bytes : List ℕ) → 0 < length bytes → (cut bytes).request ≡ Does Quit → holds answer P s bytes
  quits s [] some is = tt
  quits s (b ∷ bytes) some is = rw is tt

  halts : (s : S) (bytes : List ℕ) → 0 < length bytes → (cut bytes).request ≡ Does Store → holds answer P s bytes
  halts s [] some is = tt
  halts s (b ∷ bytes) some is = rw is tt

-- ---- what was answered so far

-- each message is one if those are that are still to be answered
abbrev pub AreSent : Seat Seen → Option (List ℕ) → Seat Seen → IntakeSeen → Option (List ℕ) → Type 0
AreSent first input d a left = IfSome input (λ given. IfSome (to_come a left) (λ bytes. holds (respond by_parts) SendsFrom d bytes → holds (respond by_parts) SendsFrom first given))

-- nothing was answered yet
pub sent_first : (first : Seat Seen) (a : IntakeSeen) (left : Option (List ℕ)) → AreSent first (known_come a left) first a left
sent_first first a left = go (known_come a left) refl
  where
    go : (o : Option (List ℕ)) → known_come a left ≡ o → AreSent first o first a left
    go None is = tt
    go (Some given) is = subst (λ (p : Option (List ℕ)). IfSome p (λ bytes. holds (respond by_parts) SendsFrom first bytes → holds (respond by_parts) SendsFrom first given)) (sym (come_known a left given is).0) (λ h. h)

-- what an order to send is answered
sent_after : (d : Seat Seen) (order : Order) (rest : List ℕ) → SendsFrom d (Does order) → SendsFrom d (cut_after order rest).request
sent_after d (orders.Take n) rest f = go (nat_le n (length rest))
  where
    go : (b : Bool) → SendsFrom d (cond {A = Cut} b (record { request = Takes (take n rest); size = n }) (record { request = Does orders.Bad; size = length rest })).request
    go true = tt
    go false = tt
sent_after d (orders.Send to) rest f = f
sent_after d (orders.SendTold to told) rest f = f
sent_after d order rest f = tt

module _ (first d : Seat Seen) (input : Option (List ℕ)) (a b : IntakeSeen) (x y old new : Option (List ℕ)) (way : OnWay (respond by_parts) first input d a x old new) (sent : AreSent first input d a x) where
  -- what is to come, and what is known of it
  with_way : (Q : List ℕ → Type 0) → ((given : List ℕ) → (w : IsOnWay (respond by_parts) first given d a x old new) → (holds (respond by_parts) SendsFrom d w.bytes → holds (respond by_parts) SendsFrom first given) → Q given) → IfSome input Q
  with_way Q f = go input way sent
    where
      go : (i : Option (List ℕ)) → OnWay (respond by_parts) first i d a x old new → AreSent first i d a x → IfSome i Q
      go None w s = tt
      go (Some given) w s = f given w (subst (λ (o : Option (List ℕ)). IfSome o (λ bytes. holds (respond by_parts) SendsFrom d bytes → holds (respond by_parts) SendsFrom first given)) w.to_come_is s)

  -- the input is over
  pub sent_over : (o : Option Order) → o ≡ None → (KnowsEnd a x → IsNext (to_come a x) o a b y) → IfSome input (λ given. holds (respond by_parts) SendsFrom first given)
  sent_over o is next = with_way _ (λ given w f.
      let n = subst (λ (c : Option (List ℕ)). IsNext c None a b y) w.to_come_is (subst (λ (p : Option Order). IsNext (to_come a x) p a b y) is (next w.known)) in
      f (subst (λ (l : List ℕ). holds (respond by_parts) SendsFrom d l) (sym n.none) tt))

  -- the next order
  ordered : (o : Option Order) (order : Order) → o ≡ Some order → (KnowsEnd a x → IsNext (to_come a x) o a b y) → (given : List ℕ) (w : IsOnWay (respond by_parts) first given d a x old new) → IsOrder w.bytes order a b y
  ordered o order is next given w = subst (λ (c : Option (List ℕ)). IsNext c (Some order) a b y) w.to_come_is (subst (λ (p : Option Order). IsNext (to_come a x) p a b y) is (next w.known))

  -- to quit
  pub sent_quit : (o : Option Order) (order : Order) → o ≡ Some order → (KnowsEnd a x → IsNext (to_come a x) o a b y) → order ≡ Quit → IfSome input (λ given. holds (respond by_parts) SendsFrom first given)
  sent_quit o order is next quit = with_way _ (λ given w f.
      let n = ordered o order is next given w in
      f (quits (respond by_parts) SendsFrom d w.bytes n.some (ap (λ c. c.request) (cut_is w.bytes Quit (sym quit ∙ n.order_is)))))

  -- to store
  pub sent_store : (o : Option Order) (order : Order) → o ≡ Some order → (KnowsEnd a x → IsNext (to_come a x) o a b y) → order ≡ Store → IfSome input (λ given. holds (respond by_parts) SendsFrom first given)
  sent_store o order is next store = with_way _ (λ given w f.
      let n = ordered o order is next given w in
      f (halts (respond by_parts) SendsFrom d w.bytes n.some (ap (λ c. c.request) (cut_is w.bytes Store (sym store ∙ n.order_is)))))

  -- one that was answered
  pub sent_reply : (t : Seat Seen) (o : Option Order) (order : Order) (reply : List ℕ) (c : IntakeSeen) (z : Option (List ℕ)) → o ≡ Some order → (KnowsEnd a x → IsNext (to_come a x) o a b y) → KeepsEnd a x b y → IsPlainOrder order
      → (KnowsEnd b y → IfSome (to_come b y) (λ bytes. IsReplied (respond by_parts d) bytes order reply t b c z)) → SendsFrom d (Does order) → AreSent first input t c z
  sent_reply t o order reply c z is next keeps other replied sends = with_way _ (λ given w f.
      let n = ordered o order is next given w in
      let size = line_size w.bytes in
      let rest = drop size w.bytes in
      let r = subst (λ (p : Option (List ℕ)). IfSome p (λ bytes. IsReplied (respond by_parts d) bytes order reply t b c z)) (n.past).rest (replied (end_known a b x y w.bytes w.to_come_is w.known keeps)) in
      let k = cut_after order rest in
      let cut_so : (cut w.bytes) ≡ with_line size k = cut_is w.bytes order n.order_is in
      let left : drop k.size rest ≡ drop (size + k.size) w.bytes = grind (arith, common_steps) in
      let step : holds (respond by_parts) SendsFrom t (drop k.size rest) → holds (respond by_parts) SendsFrom d w.bytes = λ h.
      begins (respond by_parts) SendsFrom d w.bytes k.request (size + k.size) n.some (ap (λ c. c.request) cut_so) (ap (λ c. c.size) cut_so) (plain_cut order rest other) (sent_after d order rest sends)
      (subst (λ (l : List ℕ). holds (respond by_parts) SendsFrom (respond by_parts d k.request).state l) left (subst (λ (u : Seat Seen). holds (respond by_parts) SendsFrom u (drop k.size rest)) (r.answered).state_is h)) in
      subst (λ (p : Option (List ℕ)). IfSome p (λ bytes. holds (respond by_parts) SendsFrom t bytes → holds (respond by_parts) SendsFrom first given)) (sym (r.past).rest) (λ h. f (step h)))
