-- One round of messages makes members of a group equal.
use Rattle.std.proofs.Common.{◌≡◌, ◌∙◌, ◌++◌, ℕ, List, [], ◌∷◌, true, refl, sym, ap, subst, arith, inl, inr, ◌⊎◌, ⊎_elim, append_assoc}
use Rattle.std.specs.Prelude.{◌==◌, ◌↔◌, Bool, false, if◌then◌else◌, nat_lt, slice_get, Option, Some, Result}
use Rattle.rls_ident.specs.Lists.{IsIn}
use Rattle.rls_ident.proofs.Members.{bool_cases, eq_is, eq_not, lt_is}
use Rattle.rls_ident.proofs.Positions.{get_of}
use Rattle.rls_ops.specs.declared.message.Message.{Message}
use Rattle.rls_ops.specs.declared.op.Op.{Op}
use Rattle.rls_ops.specs.Spelling.{message_bytes}
use Rattle.rls_codec.specs.CodecLaws.{IsMessage}
use Rattle.rls_codec.specs.Reading.{message_of}
use Rattle.rls_codec.proofs.MessageFormats.{message_again}
use Rattle.rls_model.specs.History.{Accepted, Acknowledged, History, Then, ops}
use Rattle.rls_model.specs.History as history
use Rattle.rls_model.specs.Laws.{IsAt, IsFront, WasMade}
use Rattle.rls_model.specs.Receiving.{State}
use Rattle.rls_model.specs.Taking.{message_for}
use Rattle.rls_model.specs.Worlds.{World, empty_world}
use Rattle.rls_model.proofs.HistoryNumbers.{front_legal, front_ops}
use Rattle.rls_model.proofs.OnePlace.{got_below}
use Rattle.rls_model.proofs.WorldsArrived.{IsThere}
use Rattle.rls_model.proofs.WorldsInvariant.{IsGood, one_state}
use Rattle.rls_passages.proofs.Rounds.{HasAll, equal_all, has_all, told_or_known}
use Rattle.rls_file.specs.FileLaws.{AreSpelled}
use Rattle.rls_file.specs.Storable.{IsStorable}
use Rattle.rls_file.proofs.HistoryMessages.{sent_is_message}
use Rattle.rls_seen.specs.Messages.{message_over}
use Rattle.rls_seen.specs.Seen.{Seen, members}
use Rattle.rls_seen.proofs.Sending.{message_alike}
use Rattle.rls_report.specs.declared.failures.CommandError.{CommandError}
use Rattle.rls_report.specs.declared.failures.CommandError.TheVariants.{NotMember}
use Rattle.rls_stages.proofs.Files.{opened}
use Rattle.rls_top.specs.declared.words.Command.{Command}
use Rattle.rls_top.specs.declared.words.Command.TheVariants.{OnFile}
use Rattle.rls_top.specs.declared.words.FileCommand.TheVariants.{Send}
use Rattle.rls_top.specs.Due.{Stops, due_of_send, due_of_words, due_on, shows}
use Rattle.rls_top.specs.Groups.{due_of}
use Rattle.rls_top.specs.Words.{command_of}
use Rattle.rls_top.proofs.GroupCommands.{opened_at, same_ok}
use Rattle.rls_groups.specs.Events.{Event}
use Rattle.rls_groups.specs.Groups.{HasOrHolds, IsHeld}
use Rattle.rls_groups.specs.Lives.{AreOfGroup, Life, begun, lived, lived_all}
use Rattle.rls_groups.specs.Rounds.{AllTold, AreEqual, AreEvents, AreKnown, IsExchanged, IsKnown, IsReceived, IsSent, IsTold, Knows, NobodyEdits, OneHub, OneRound, after}
use Rattle.rls_groups.proofs.Groups.{Goes, Lives, all_events, begun_lives}
use Rattle.rls_groups.proofs.Ordered.{good, held, was}
use Rattle.rls_groups.proofs.Staying.{is_there}

-- ---- a message of what could be stored

front_spelled : (P H : History) → IsFront P H → AreSpelled H → AreSpelled P
front_spelled P (history.Fresh group me members) h s = subst AreSpelled (sym h) s
front_spelled P (Then G e) (inl h) s = subst AreSpelled (sym h) s
front_spelled P (Then G (Accepted o)) (inr h) s = front_spelled P G h s.0
front_spelled P (Then G (Acknowledged a v)) (inr h) s = front_spelled P G h s

front_message : (P : History) (t : State) (to : ℕ) → IsFront P t.history → IsStorable t → IsMessage (message_bytes (message_for P to)) (message_for P to)
front_message P t to h k =
    sent_is_message (record { history = P; waiting = [] }) to
    (record { legal = front_legal P t.history h k.legal; sound = tt; accepted = front_spelled P t.history h k.accepted; waiting = λ w p. absurd p; others = λ w p e. absurd p; rest = refl })

-- ---- two moments of a group

-- worlds that the group has all in common with at these moments, of which the later one goes on from the first
pub record Moments (g n : ℕ) (l m : Life) : Type 0 where
  pub first : World
  pub lives : Lives g n l first
  pub last : World
  pub later_lives : Lives g n m last
  pub goes : Goes first last

pub lived_both : (l : Life) (es fs : List Event) → lived_all l (es ++ fs) ≡ lived_all (lived_all l es) fs
lived_both l [] fs = refl
lived_both l (e ∷ es) fs = lived_both (lived l e) es fs

pub front_of_group : (l : Life) (es fs : List Event) → AreOfGroup l (es ++ fs) → AreOfGroup l es
front_of_group l [] fs p = tt
front_of_group l (e ∷ es) fs p = (p.0, front_of_group (lived l e) es fs p.1)

rest_of_group : (l : Life) (es fs : List Event) → AreOfGroup l (es ++ fs) → AreOfGroup (lived_all l es) fs
rest_of_group l [] fs p = p
rest_of_group l (e ∷ es) fs p = rest_of_group (lived l e) es fs p.1

pub moments : (g n : ℕ) (es fs : List Event) → AreEvents g n (es ++ fs) → Moments g n (after g n es) (after g n (es ++ fs))
moments g n es fs p =
    let l = begun g n in
    let r = all_events g n l (empty_world g n) es (begun_lives g n p.large p.few) (front_of_group l es fs p.events) in
    let q = all_events g n (lived_all l es) r.0 fs r.1 (rest_of_group l es fs p.events) in
    subst (Moments g n (lived_all l es)) (sym (lived_both l es fs)) (record { first = r.0; lives = r.1; last = q.0; later_lives = q.1; goes = q.2 })

module _ (g n : ℕ) (l m : Life) (x : Moments g n l m) where
  abbrev a : World
  a = x.first

  abbrev b : World
  b = x.last

  b_good : IsGood b
  b_good = good g n m b x.later_lives

  pub at_first : (i : ℕ) (t : State) → IsHeld l i t → IsAt a i t
  at_first i t h = ap (λ (ss : List State). slice_get ss i) (x.lives).states ∙ h

  at_last : (i : ℕ) (t : State) → IsHeld m i t → IsAt b i t
  at_last i t h = ap (λ (ss : List State). slice_get ss i) (x.later_lives).states ∙ h

  -- a member's state goes on to the one that it has then
  pub grows : (i : ℕ) (s t : State) → IsHeld l i s → IsHeld m i t → IsFront s.history t.history
  grows i s t h k =
      let r = x.goes i s (at_first i s h) in
      subst (λ (u : State). IsFront s.history u.history) (one_state b i i r.0 t r.1 (at_last i t k) refl) (r.2).0

  -- it had one at first, if it has one then
  pub there_before : (i : ℕ) (t : State) → IsHeld m i t → (s : State) × IsHeld l i s
  there_before i t h =
      let few = got_below b.states i t (at_last i t h) in
      let r = get_of a.states i (let c = (((x.lives).matches).stands).belongs.count in let d = (((x.later_lives).matches).stands).belongs.count in omega (arith, few, c, d)) in
      (r.0, held g n l a x.lives i r.0 r.1)

  -- what is known stays so
  stays_known : (i : ℕ) (o : Op) → Knows l i o → Knows m i o
  stays_known i o k =
      let r = x.goes i k.0 (at_first i k.0 k.1) in
      (r.0, held g n m b x.later_lives i r.0 r.1, front_ops (k.0).history (r.0).history (r.2).0 o k.2)

  -- what one tells that has it is there
  told_there : (from to : ℕ) (s : State) (o : Op) (e : IsExchanged l m from to) → IsHeld m to s → IsIn o (ops (e.1).sender) → IsThere s o
  told_there from to s o e h p =
      ⊎_elim (λ q. arrived (subst (IsIn o) (sym (by.tells).1) q)) (λ q. inl q)
      (told_or_known b b_good from to by.sender s o (was g n m b x.later_lives from by.sender by.until) (at_last to s h) (by.tells).0 p)
    where
      by : IsSent l m from to e.0
      by = e.1

      got : IsReceived m to e.0
      got = e.2

      sent : Message
      sent = message_for by.sender to

      is : IsMessage e.0 sent
      is =
          let u = by.until in
          subst (λ bytes. IsMessage bytes sent) (sym by.message) (front_message by.sender u.0 to u.2 ((((x.later_lives).matches).file from u.0 (at_last from u.0 u.1)).2).storable)

      arrived : IsIn o sent.ops → IsThere s o
      arrived q =
          let t = got.taken in
          let same : sent ≡ t.0 = same_ok (message_of e.0) sent t.0 (message_again e.0 sent is) (message_again e.0 t.0 t.1) in
          let here : HasOrHolds got.last o = (got.goes_on).1 o (t.3 o (subst (λ (y : Message). IsIn o y.ops) same q)) in
          is_there s o (subst (λ (y : State). HasOrHolds y o) (one_state b to to got.last s (at_last to got.last got.last_is) (at_last to s h) refl) here)

  -- what a member had at first it has when it makes a message
  sender_knows : (from to : ℕ) (o : Op) (e : IsExchanged l m from to) → Knows l from o → IsIn o (ops (e.1).sender)
  sender_knows from to o e k =
      let by = e.1 in
      front_ops (by.first).history by.sender by.since o
      (subst (λ (y : State). IsIn o (ops y.history)) (one_state a from from k.0 by.first (at_first from k.0 k.1) (at_first from by.first by.first_is) refl) k.2)

  -- whom each of these members sends a message is told what it doesn't know
  told_by_each : (us : List ℕ) (n : ℕ) → AreKnown l us → ((i : ℕ) → IsIn i us → (i ≡ n → ⊥) → IsExchanged l m i n) → (o : Op) → IsKnown l o → Knows l n o ⊎ IsTold l m n o
  told_by_each us n k e o u =
      let c = k o u in
      bool_cases (c.0 == n)
      (λ f. inl (subst (λ i. Knows l i o) (eq_is c.0 n f) c.2))
      (λ f. let y = e c.0 c.1 (eq_not c.0 n f) in inr (c.0, y, sender_knows c.0 n o y c.2))

  module _ (quiet : NobodyEdits l m) where
    was_known : (o : Op) → WasMade b o → IsKnown l o
    was_known o k = quiet o (k.0, (k.1, held g n m b x.later_lives k.0 k.1 k.2, k.3))

    told_all : (i : ℕ) (s : State) → IsHeld m i s → ((o : Op) → IsKnown l o → Knows l i o ⊎ IsTold l m i o) → HasAll b s
    told_all i s h f =
        has_all b b_good i s (at_last i s h) ((((x.later_lives).matches).file i s (at_last i s h)).2).storable.rest
        (λ o k. ⊎_elim (λ q. inl (front_ops (q.0).history s.history (grows i q.0 s q.1 h) o q.2)) (λ q. told_there q.0 i s o q.1 h q.2) (f o (was_known o k)))

    told : (i : ℕ) (s : State) → IsHeld m i s → ((o : Op) → IsKnown l o → Knows l i o ⊎ IsTold l m i o) → ((o : Op) → IsIn o (ops s.history) ↔ IsKnown l o) × (s.waiting ≡ [])
    told i s h f =
        let r = told_all i s h f in
        (λ o. (λ p. was_known o ((r.0 o).0 p), λ k. let q = stays_known k.0 o k.1 in (r.0 o).1 (k.0, q.0, at_last k.0 q.0 q.1, q.2)), r.1)

    equal : (us : List ℕ) → ((i : ℕ) (s : State) → IsIn i us → IsHeld m i s → (o : Op) → IsKnown l o → Knows l i o ⊎ IsTold l m i o) → AreEqual m us
    equal us f i j s t p q h k =
        equal_all b b_good us (λ i s p h. let is = held g n m b x.later_lives i s h in told_all i s is (f i s p is)) i j s t p q (at_last i s h) (at_last j t k)

-- by way of one member
hub_equal : (g n : ℕ) (l m k : Life) → Moments g n l m → Moments g n m k → NobodyEdits l k → (us : List ℕ) (hub : ℕ) → AreKnown l us → ((i : ℕ) → IsIn i us → (i ≡ hub → ⊥) → IsExchanged l m i hub × IsExchanged m k hub i) → AreEqual k us
hub_equal g n l m k x y quiet us hub known e = equal g n m k y later us each
  where
    early : NobodyEdits l m
    early o q = let r = stays_known g n m k y q.0 o q.1 in quiet o (q.0, r)

    later : NobodyEdits m k
    later o q = let r = quiet o q in (r.0, stays_known g n l m x r.0 o r.1)

    -- the one in the middle knows all
    knows : (z : State) → IsHeld m hub z → (o : Op) → IsKnown m o → Knows m hub o
    knows z h o q = (z, h, ((told g n l m x early hub z h (told_by_each g n l m x us hub known (λ i p f. (e i p f).0))).0 o).1 (early o q))

    each : (i : ℕ) (s : State) → IsIn i us → IsHeld k i s → (o : Op) → IsKnown m o → Knows m i o ⊎ IsTold m k i o
    each i s p h o q =
        bool_cases (i == hub)
        (λ f. let z = there_before g n m k y hub s (subst (λ j. IsHeld k j s) (eq_is i hub f) h) in inl (subst (λ j. Knows m j o) (sym (eq_is i hub f)) (knows z.0 z.1 o q)))
        (λ f. let r = (e i p (eq_not i hub f)).1 in inr (hub, r, sender_knows g n m k y hub i o r (knows (r.1).first (r.1).first_is o q)))

-- ---- what a `send` prints

printed : (known : Bool) (m : Message) (e : CommandError) (report : List ℕ) → Some (if known then shows (message_bytes m) else Stops e) ≡ Some (shows report) → known ≡ true × (report ≡ message_bytes m)
printed true m e report p = (refl, let q : shows (message_bytes m) ≡ shows report = cc in cc)
printed false m e report p = absurd (cc)

-- at a member's file
module _ (g n : ℕ) (l : Life) (w : World) (x : Lives g n l w) where
  sent_at : (i to : ℕ) (t : State) (words : List (List ℕ)) (input report : List ℕ) → IsAt w i t → command_of words ≡ Some (OnFile (Send to)) → due_of l.group i words input ≡ Some (shows report) → report ≡ message_bytes (message_for t.history to)
  sent_at i to t words input report h e p =
      let f = (x.matches).file i t h in
      let o = opened f.0 t (f.2).stands in
      let due : due_of l.group i words input ≡ Some (due_of_send o.0 to) =
      ap (λ (kept : Option (List ℕ)). due_of_words (command_of words) (Some kept) (Some input)) f.1
      ∙ (ap (λ (y : Option Command). due_of_words y (Some (Some f.0)) (Some input)) e ∙ ap (λ (y : Result Seen CommandError). due_on (Send to) y (Some input)) (opened_at f.0 o.0 (f.2).short (o.1).found)) in
      let q = printed (nat_lt to (members o.0)) (message_over o.0 to) (NotMember to) report (sym due ∙ p) in
      q.1 ∙ ap message_bytes (message_alike o.0 t to (lt_is to (members o.0) q.0) (o.1).stands)

pub printed_by : (g n : ℕ) (es : List Event) (i to : ℕ) (t : State) (words : List (List ℕ)) (input report : List ℕ) → AreEvents g n es → let l = after g n es in
    IsHeld l i t → command_of words ≡ Some (OnFile (Send to)) → due_of l.group i words input ≡ Some (shows report) → report ≡ message_bytes (message_for t.history to)
printed_by g n es i to t words input report p h e f =
    let r = all_events g n (begun g n) (empty_world g n) es (begun_lives g n p.large p.few) p.events in
    sent_at g n (after g n es) r.0 r.1 i to t words input report (ap (λ (ss : List State). slice_get ss i) (r.1).states ∙ h) e f

-- ---- the laws

pub all_told : AllTold
all_told g n es fs p quiet i s h f = told g n (after g n es) (after g n (es ++ fs)) (moments g n es fs p) quiet i s h f

pub one_round : OneRound
one_round g n es fs us p quiet k e =
    let l = after g n es in
    let m = after g n (es ++ fs) in
    let x = moments g n es fs p in
    equal g n l m x quiet us (λ i s q h. told_by_each g n l m x us i k (λ j r f. e j i r q f))

pub one_hub : OneHub
one_hub g n es fs hs us hub p quiet k e =
    let all = sym (append_assoc es fs hs) in
    let q : AreEvents g n ((es ++ fs) ++ hs) = subst (AreEvents g n) all p in
    let first : AreEvents g n (es ++ fs) = record { large = q.large; some = q.some; few = q.few; events = front_of_group (begun g n) (es ++ fs) hs q.events } in
    let last = subst (λ (all : List Event). Moments g n (after g n (es ++ fs)) (after g n all)) (sym all) (moments g n (es ++ fs) hs q) in
    hub_equal g n (after g n es) (after g n (es ++ fs)) (after g n (es ++ (fs ++ hs))) (moments g n es fs first) last quiet us hub k e
