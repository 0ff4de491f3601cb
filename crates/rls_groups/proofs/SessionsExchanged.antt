-- What a session that stores answers to `s` is sent, and what it takes is received.
use Rattle.std.proofs.Common.{◌≡◌, ◌∙◌, ◌++◌, ◌-◌, ℕ, zero, suc, List, [], ◌∷◌, sym, subst, append_assoc}
use Rattle.rls_ident.proofs.Members.{some_is}
use Rattle.rls_codec.specs.CodecLaws.{IsBytes}
use Rattle.rls_codec.proofs.Formats.{IsBytes-tail}
use Rattle.rls_ops.specs.declared.message.Message.{Message}
use Rattle.rls_model.specs.Laws.{IsFront}
use Rattle.rls_model.specs.Receiving.{State}
use Rattle.rls_model.specs.Worlds.{World, empty_world}
use Rattle.rls_model.proofs.HistoryNumbers.{front_trans}
use Rattle.rls_seen.specs.Seen.{Seen}
use Rattle.rls_stages.proofs.Files.{IsOpened, opened}
use Rattle.rls_top.specs.Groups.{Group}
use Rattle.rls_top.proofs.Groups.{IsThere, Matches, there}
use Rattle.rls_session.specs.declared.orders.Order.TheVariants as orders
use Rattle.rls_session.specs.declared.orders.Order.TheVariants.{Quit, Store}
use Rattle.rls_session.specs.Courses.{holds, holds_from, holds_on}
use Rattle.rls_session.specs.Requests.{Request, Does, Takes, cut}
use Rattle.rls_session.specs.Seats.{Seat, at_work, respond, seated}
use Rattle.rls_session.specs.Sessions.{by_history, by_parts}
use Rattle.rls_session.proofs.Courses.{Answers}
use Rattle.rls_session.proofs.Given.{IsGiven, cut_given}
use Rattle.rls_groups.specs.Events.{Begins, Commands, Deed, Desk, IsOfGroup, IsSession, IsWritten, Performs, Resumes, Sits, Action, at_desk, deed_of, empty_desk, replied_from, unanswered}
use Rattle.rls_groups.specs.Groups.{GoesOn, IsHeld, IsStored, IsTaken, state_after}
use Rattle.rls_groups.specs.Lives.{AreOfGroup, Life, after_deed, begun, lived}
use Rattle.rls_groups.specs.Rounds.{Exchanges, SessionsExchange, after}
use Rattle.rls_groups.proofs.Answered.{IsTold}
use Rattle.rls_groups.proofs.Desks.{well_empty}
use Rattle.rls_groups.proofs.Exchanged.{had_then, received_then, sent_then, then}
use Rattle.rls_groups.proofs.Groups.{Lives, all_events, begun_lives, run_at, session}
use Rattle.rls_groups.proofs.Inputs.{holds_alike}
use Rattle.rls_groups.proofs.Law.{each_meant}
use Rattle.rls_groups.proofs.Ordered.{held}
use Rattle.rls_groups.proofs.Requests.{went}
use Rattle.rls_groups.proofs.Seated.{IsCleanFrom, Later, Seats, later_self, later_trans, made_well, seat_steps}
use Rattle.rls_groups.proofs.Sessions.{first, last}

-- ---- what holds of each request

module _ {S : Type 0} (answer : Answers S) (P Q : S → Request → Type 0) (f : (s : S) (r : Request) → P s r → Q s r) where
  holds_map : (n : ℕ) (s : S) (bytes : List ℕ) → holds_from answer P n s bytes → holds_from answer Q n s bytes
  holds_map n s [] h = tt
  holds_map (suc n) s (x ∷ bytes) h = holds_map n s bytes h
  holds_map zero s (x ∷ bytes) h = go (cut (x ∷ bytes)).request (cut (x ∷ bytes)).size h (λ u k. holds_map ((cut (x ∷ bytes)).size - 1) u bytes k)
    where
      go : (r : Request) (size : ℕ) → holds_on answer P s r (λ u. holds_from answer P (size - 1) u bytes) → ((u : S) → holds_from answer P (size - 1) u bytes → holds_from answer Q (size - 1) u bytes) → holds_on answer Q s r (λ u. holds_from answer Q (size - 1) u bytes)
      go (Does Quit) size h rest = tt
      go (Does Store) size h rest = tt
      go (Does order) size h rest = (f s (Does order) h.0, rest _ h.1)
      go (Takes message) size h rest = (f s (Takes message) h.0, rest _ h.1)

-- from the state at first to the one that is stored: a message is made of a history in between, or taken there
abbrev IsTelling : State → State → Seat State → Request → Type 0
IsTelling t u c (Does (orders.Send to)) = let H = ((at_work by_history c).state).history in IsFront t.history H × IsFront H u.history
IsTelling t u c (Takes message) = let a = state_after (respond by_history c (Takes message)) in IsTaken (at_work by_history c).state message a × GoesOn a u
IsTelling t u c r = Unit {0}

-- ---- in a group

module _ (g n : ℕ) (G : Group) (w : World) (x : Matches g n G w) (i : ℕ) (r : IsThere g n G w x i) (desk : Desk) (input : List ℕ) (s : Seen) (o : IsOpened r.bytes r.state s) where
  telling : (b : Seat Seen) (c : Seat State) (out : List Message) (k : Seats g n G w x i r.state r.at b c out) (u : State) (q : Request) → IsStored u c q → IsTelling r.state u c q
  telling b c out k u (Does (orders.Send to)) d =
      (front_trans (r.state).history ((c.sitting).state).history ((at_work by_history c).state).history k.front ((made_well g n G w x i r.state r.at b c out k).follows).0, ((d.0).goes_on).0)
  telling b c out k u (Takes message) d = (d.2, d.1)
  telling b c out k u q d = tt

  tells : IsSession G i desk input → let u = (at_work by_history (last g n G w x i r desk input s o)).state in holds (respond by_history) (λ c q. IsTelling r.state u c q) (seated (at_desk r.state desk)) input
  tells q =
      (went (respond by_parts) (respond by_history) replied_from (Seats g n G w x i r.state r.at) (Later g n G w x i r.state r.at) (λ b r. IsWritten G r) (IsCleanFrom g n G w x i r.state r.at)
      (λ u c q. IsTelling r.state (at_work by_history u).state c q) (IsTold g n G w x i r.state r.at)
      (λ b c out k. later_self g n G w x i r.state r.at b c out k) (λ e c u h k. later_trans g n G w x i r.state r.at e c u h k)
      IsBytes IsGiven (λ b bytes c. (cut_given (b ∷ bytes) c, IsBytes-tail b bytes c))
      (λ b c out y ok given k.
      let j = seat_steps g n G w x i r.state r.at b c out k y ok given in
      record { more = j.more; reply = j.reply; next = j.next; later = j.later; clean = j.clean; meant = λ u l. telling b c out k (at_work by_history u).state y (j.meant u l); told = j.told })
      0 (seated (at_desk s desk)) (seated (at_desk r.state desk)) input [] q.bytes
      (holds_alike unanswered (respond by_parts) (IsWritten G) 0 tt (seated (at_desk s desk)) input q.written) (first g n G w x i r desk input s o q)).meant

module _ (g n : ℕ) (l : Life) (w : World) (x : Lives g n l w) where
  abbrev IsOf : ℕ → Deed → Type 0
  IsOf i (Commands words input) = Unit {0}
  IsOf i (Sits desk input) = IsSession l.group i desk input

  is_of : (i : ℕ) (action : Action) → IsOfGroup l.group i action → IsOf i (deed_of (l.desks i) action)
  is_of i (Performs words input) p = tt
  is_of i (Begins input) p = session g n l w x i empty_desk input p.member p.given.0 p.given.1 (λ t h. well_empty t)
  is_of i (Resumes input) p = session g n l w x i (l.desks i) input p.member p.given.0 p.given.1 (x.desks i)

  session_tells : (i : ℕ) (desk : Desk) (input : List ℕ) → IsSession l.group i desk input → (t : State) × IsHeld l i t × holds (respond by_history) (λ c q. IsTelling t (after_deed (Sits desk input) t) c q) (seated (at_desk t desk)) input
  session_tells i desk input p =
      let r = there g n l.group w x.matches i p.member in
      let o = opened r.bytes r.state (r.kept).stands in
      (r.state, held g n l w x i r.state r.at, tells g n l.group w x.matches i r desk input o.0 o.1 p)

pub law : SessionsExchange
law g n es fs ys hs zs e desk input s q1 q2 p done deed stored =
    let i = e.member in
    let l = after g n ys in
    let r = all_events g n (begun g n) (empty_world g n) zs (begun_lives g n p.large p.few) p.events in
    let at = r.3 ys (e ∷ hs) q2 in
    let m = each_meant g n zs p.events r.0 r.3 ys hs e s q2 done stored in
    let run = run_at (begun g n) ys hs e (subst (AreOfGroup (begun g n)) (sym q2) p.events) done in
    let is : IsSession l.group i desk input = subst (λ (d : Deed). IsOf g n l at.0 at.1 i d) deed (is_of g n l at.0 at.1 i e.action run) in
    let k = session_tells g n l at.0 at.1 i desk input is in
    let t = k.0 in
    let u = after_deed (Sits desk input) t in
    let same : m.0 ≡ t = some_is m.0 t (sym m.1 ∙ k.1) in
    let here : IsHeld (lived l e) i u = subst (λ (y : State). IsHeld (lived l e) i (after_deed (Sits desk input) y)) same (subst (λ (d : Deed). IsHeld (lived l e) i (after_deed d m.0)) deed m.2) in
    let q3 : (ys ++ (e ∷ [])) ++ hs ≡ zs = append_assoc ys (e ∷ []) hs ∙ q2 in
    (t, k.1, holds_map (respond by_history) (λ c q. IsTelling t u c q) (λ c q. Exchanges (after g n es) (after g n zs) i c q) (exchanges q3 i t u k.1 (then g n ys e i u here)) 0 (seated (at_desk t desk)) input k.2)
  where
    exchanges : (ys ++ (e ∷ [])) ++ hs ≡ zs → (i : ℕ) (t u : State) → IsHeld (after g n ys) i t → IsHeld (after g n (ys ++ (e ∷ []))) i u → (c : Seat State) (q : Request) → IsTelling t u c q → Exchanges (after g n es) (after g n zs) i c q
    exchanges q3 i t u h k c (Does (orders.Send to)) d = λ all.
        let H = ((at_work by_history c).state).history in
        sent_then g n es fs ys (e ∷ hs) zs q1 q2 p i to t H h d.0 (had_then g n (ys ++ (e ∷ [])) hs zs q3 p i u k H d.1) all
    exchanges q3 i t u h k c (Takes message) d = received_then g n (ys ++ (e ∷ [])) hs zs q3 p i u k message (at_work by_history c).state (state_after (respond by_history c (Takes message))) d.0 d.1
    exchanges q3 i t u h k c q d = tt
