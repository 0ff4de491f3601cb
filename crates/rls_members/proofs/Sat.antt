-- A session as events, by the law of what runs leave.
use Rattle.std.proofs.Common.{◌≡◌, ◌≢◌, ◌∙◌, ◌<◌, ◌++◌, ℕ, true, List, [], ◌∷◌, length, get_or, take, Option, Some, None, refl, sym, ap, subst, inl, inr}
use Rattle.std.specs.Prelude.{IfSome, slice_get, slice_set}
use Rattle.std.proofs.lemmas.List.{append-nil}
use Rattle.rls_ident.specs.Lists.{IsIn}
use Rattle.rls_ident.proofs.Members.{eq_refl, in_take}
use Rattle.rls_ident.proofs.Positions.{get_of}
use Rattle.rls_codec.specs.CodecLaws.{IsBytes}
use Rattle.rls_model.specs.Receiving.{State}
use Rattle.rls_model.proofs.OnePlace.{get_set_other, got_below, set_get, set_set}
use Rattle.rls_stages.specs.KeptFile.{Stays}
use Rattle.rls_top.specs.Groups.{Group, IsFileOf}
use Rattle.rls_session.specs.declared.orders.Order.TheVariants.{Quit}
use Rattle.rls_session.specs.Endings.{IsSessionStatus}
use Rattle.rls_session.specs.Requests.{Request, Does, Takes}
use Rattle.rls_session.specs.Serving.{file_after}
use Rattle.rls_groups.specs.Events.{Action, AreWritten, Event, IsWritten, unanswered}
use Rattle.rls_groups.specs.Groups.{GroupsConverge}
use Rattle.rls_groups.specs.Lives.{AreOfGroup, Life, begun, lived, lived_all}
use Rattle.rls_groups.specs.Rounds.{AreEvents, after}
use Rattle.rls_groups.specs.Runs.{SessionsAreOfGroup, actions_of, actions_over, file_at, input_of}
use Rattle.rls_members.specs.Members.{IsLedBy, IsLived, MembersSeen, group_of, with_files}
use Rattle.rls_members.specs.Sessions.{IsLeftBy, IsSessionFor, LeadsOn, sat}
use Rattle.rls_members.proofs.Led.{led_by, set_after}
use Rattle.rls_members.proofs.Lives.{front_of_group, holds_map, more_of_group, stays_written, there_still}
use Rattle.rls_members.proofs.Clean.{converges, fault_not_five}
use Rattle.rls_members.proofs.Commands.{file_there}

-- ---- the file

-- after stores there still is one
pub stored_still : (files : List (List ℕ)) (bytes : List ℕ) → (now : List ℕ) × (file_after files (Some (Some bytes)) ≡ Some (Some now))
stored_still [] bytes = (bytes, refl)
stored_still (file ∷ files) bytes = stored_still files file

pub stays_some : (files : List (List ℕ)) (bytes : List ℕ) (now : Option (List ℕ)) → Stays (file_after files (Some (Some bytes))) (Some now) → (file : List ℕ) × (now ≡ Some file)
stays_some files bytes now h = let p = stored_still files bytes in (p.0, subst (λ (o : Option (Option (List ℕ))). Stays o (Some now)) p.1 h)

-- ---- what may be handed on, where more may

written_more : (g k : Group) → ((message : List ℕ) → IsIn message g.written → IsIn message k.written) → (r : Request) → IsWritten g r → IsWritten k r
written_more g k f (Does Quit) h = tt
written_more g k f (Does order) h = h
written_more g k f (Takes message) h = f message h

are_written_more : (g k : Group) → ((message : List ℕ) → IsIn message g.written → IsIn message k.written) → (input : List ℕ) → AreWritten g input → AreWritten k input
are_written_more g k f input h = holds_map unanswered (λ u r. IsWritten g r) (λ u r. IsWritten k r) (λ u r p. written_more g k f r p) 0 tt input h

module _ (i : ℕ) where
  abbrev does : Action → Event
  does action = record { member = i; action = action; done = true }

  -- ---- the events of a session

  sat_does : (actions : List Action) → actions_of i (sat i actions) ≡ actions
  sat_does [] = refl
  sat_does (action ∷ actions) = rw (eq_refl i) (ap (λ (xs : List Action). action ∷ xs) (sat_does actions))

  -- they change one file
  sat_sets : (l : Life) (actions : List Action) (now : List ℕ) → i < length (l.group).files → file_at (lived_all l (sat i actions)).group i ≡ Some now → ((lived_all l (sat i actions)).group).files ≡ slice_set (l.group).files i now
  sat_sets l [] now m h = sym (set_get (l.group).files i now h)
  sat_sets l (action ∷ actions) now m h =
      let next = lived l (does action) in
      let still = there_still i l (does action) m in
      let mid = get_of (next.group).files i still in
      let one = set_after l i action true mid.0 m mid.1 in
      sat_sets next actions now still h ∙ (ap (λ (files : List (List ℕ)). slice_set files i now) one ∙ set_set (l.group).files i mid.0 now)

  -- they are of the group
  sat_of_group : SessionsAreOfGroup → (g : Group) (input : List ℕ) (l : Life) (actions : List Action) → i < length (l.group).files → IsBytes input → ((action : Action) → IsIn action actions → IsIn action (actions_over input) × AreWritten g (input_of action))
      → ((message : List ℕ) → IsIn message g.written → IsIn message (l.group).written) → AreOfGroup l (sat i actions)
  sat_of_group law g input l [] m b h f = tt
  sat_of_group law g input l (action ∷ actions) m b h f = (
    λ done. law l.group i input action m b (h action (inl refl)).0 (are_written_more g l.group f (input_of action) (h action (inl refl)).1),
    sat_of_group law g input (lived l (does action)) actions (there_still i l (does action) m) b (λ a p. h a (inr p)) (λ message p. stays_written message (does action ∷ []) l (f message p)),
  )

-- ---- of the members

module _ (converge : GroupsConverge) (of_group : SessionsAreOfGroup) (m : MembersSeen) (i : ℕ) (input : List ℕ) (n : ℕ) (old now : List ℕ) (told new_told : Option (List ℕ)) (at : slice_get m.files i ≡ Some old) (given : IsSessionFor m (Some input))
    (served : (l : Life) (j : ℕ) (t : State) → file_at l.group j ≡ Some old → IsFileOf l.group j t → IsBytes input → IsLeftBy l j input n now told new_told) (es : List Event) (led : IsLedBy m es) where
  abbrev l : Life
  l = after m.group (length m.files) es

  here : file_at l.group i ≡ Some old
  here = subst (λ (files : List (List ℕ)). slice_get files i ≡ Some old) led.files_are at

  below : i < length (l.group).files
  below = got_below (l.group).files i old here

  left : IsLeftBy l i input n now told new_told
  left =
      let moment = ((converges converge m.group (length m.files) es led.events).8).moments es [] i (append-nil es) (got_below m.files i old at) in
      served l i moment.state here (moment.member).file given.0

  are_of_group : (actions : List Action) → ((action : Action) → IsIn action actions → IsIn action (actions_over input)) → AreOfGroup l (sat i actions)
  are_of_group actions f = sat_of_group i of_group (group_of m) input l actions below given.0 (λ a p. (f a p, given.1 a (f a p))) led.sent_are

  led_then : (actions : List Action) → ((action : Action) → IsIn action actions → IsIn action (actions_over input)) → Some now ≡ file_at (lived_all l (sat i actions)).group i → IsLedBy (with_files m (slice_set m.files i now)) (es ++ sat i actions)
  led_then actions f h = led_by m es (sat i actions) i now led (are_of_group actions f) (sat_sets i l actions now below (sym h) ∙ ap (λ (files : List (List ℕ)). slice_set files i now) (sym led.files_are))

  pub session_leads : LeadsOn m i input n (with_files m (slice_set m.files i now)) told new_told es
  session_leads =
      let actions = actions_over input in
      record {
        all = λ z. let p = left.all z in (led_then actions (λ a q. q) (p.0 (sat i actions) (sat_does i actions)), p.1 (sat i actions) (sat_does i actions));
        done = left.done;
        led = led_then (take left.done actions) (λ a q. in_take left.done a actions q) (left.file (sat i (take left.done actions)) (sat_does i (take left.done actions)));
        written = left.written;
        clean = λ before rest e. converges converge m.group (length m.files) before (begins before rest e);
      }
    where
      begins : (before rest : List Event) → before ++ rest ≡ es ++ sat i (actions_over input) → AreEvents m.group (length m.files) before
      begins before rest e = record {
        large = (led.events).large;
        some = (led.events).some;
        few = (led.events).few;
        events = front_of_group (begun m.group (length m.files)) before rest (subst (AreOfGroup (begun m.group (length m.files))) (sym e) (more_of_group (begun m.group (length m.files)) es (sat i (actions_over input)) (led.events).events (are_of_group (actions_over input) (λ a q. q))));
      }

-- ---- of the members m, seen as w

pub record Holds (m w : MembersSeen) (i : ℕ) (o : Option (List ℕ)) (n : ℕ) (now : List ℕ) (told new_told : Option (List ℕ)) : Type 0 where
  pub events : IfSome o (λ given. (es : List Event) → IsLedBy w es → LeadsOn w i given n (with_files m (slice_set m.files i now)) told new_told es)
  pub others : (j : ℕ) → j ≢ i → slice_get (slice_set m.files i now) j ≡ slice_get w.files j
  pub sent : m.sent ≡ w.sent
  pub lived : IsLived (with_files m (slice_set m.files i now))

module _ (converge : GroupsConverge) (of_group : SessionsAreOfGroup) (m : MembersSeen) (some : IsLived m) (i n : ℕ) (old now : List ℕ) (told new_told : Option (List ℕ)) (is : old ≡ get_or m.files i old) where
  abbrev pub IsServed : Option (List ℕ) → Type 0
  IsServed o = IfSome o (λ given. (l : Life) (j : ℕ) (t : State) → file_at l.group j ≡ Some old → IsFileOf l.group j t → IsBytes given → IsLeftBy l j given n now told new_told)

  results : (o : Option (List ℕ)) → IsServed o → i < length m.files → IsSessionFor m o → Holds m m i o n now told new_told
  results None served below given = absurd given
  results (Some input) served below given =
      let at = file_there m.files i old below is in
      let leads : (es : List Event) → IsLedBy m es → LeadsOn m i input n (with_files m (slice_set m.files i now)) told new_told es = λ es led. session_leads converge of_group m i input n old now told new_told at given served es led in
      let first : LeadsOn m i input n (with_files m (slice_set m.files i now)) told new_told some.0 = leads some.0 some.1 in
      record { events = leads; others = λ j apart. get_set_other m.files i j now (λ e. apart (sym e)); sent = refl; lived = (some.0 ++ sat i (take first.done (actions_over input)), first.led) }

  pub held : (w : MembersSeen) (o : Option (List ℕ)) → m ≡ w → i < length w.files → IsSessionFor w o → IsServed o → Holds m w i o n now told new_told
  held w o same below given served = subst (λ (x : MembersSeen). i < length x.files → IsSessionFor x o → Holds m x i o n now told new_told) same (results o served) below given

-- its status is another
pub session_not_five : (n : ℕ) → IsSessionStatus n → n ≢ 5
session_not_five n (inl h) e = absurd (let no : 0 ≡ 5 = sym h ∙ e in cc)
session_not_five n (inr (inl h)) e = absurd (let no : 2 ≡ 5 = sym h ∙ e in cc)
session_not_five n (inr (inr (inl h))) e = absurd (let no : 3 ≡ 5 = sym h ∙ e in cc)
session_not_five n (inr (inr (inr (inl h)))) e = absurd (let no : 11 ≡ 5 = sym h ∙ e in cc)
session_not_five n (inr (inr (inr (inr h)))) e = fault_not_five n h e
