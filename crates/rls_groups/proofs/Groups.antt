-- A group whose members work by commands and by sessions: its files stand for the histories of a good world, from event to event.
use Rattle.std.proofs.Common.{◌≡◌, ◌∙◌, ◌<◌, ◌≤◌, ℕ, Bool, true, false, List, [], ◌∷◌, ◌++◌, length, Option, Some, None, Result, Ok, Err, IfOk, refl, sym, ap, subst, inl, inr}
use Rattle.std.specs.Prelude.{◌==◌, IsTrue, slice_get, slice_set, if◌then◌else◌}
use Rattle.std.proofs.lemmas.List.{append-nil}
use Rattle.rls_ident.specs.declared.limits.TheConstants.{MEMBERS}
use Rattle.rls_ident.specs.Lists.{IsIn}
use Rattle.rls_ops.specs.declared.message.Message.{Message}
use Rattle.rls_codec.specs.CodecLaws.{IsBytes, IsMessage}
use Rattle.rls_model.specs.Laws.{IsAt}
use Rattle.rls_model.specs.Receiving.{State}
use Rattle.rls_model.specs.WellFormed.{IsLarge}
use Rattle.rls_model.specs.Worlds.{World, empty_world}
use Rattle.rls_model.proofs.OnePlace.{get_set_other, get_set_same, got_below}
use Rattle.rls_model.proofs.WorldsCommands.{with_done}
use Rattle.rls_model.proofs.WorldsInvariant.{one_state}
use Rattle.rls_ident.proofs.Members.{bool_cases, eq_is, eq_not, some_is}
use Rattle.rls_seen.specs.Seen.{Seen}
use Rattle.rls_report.specs.declared.failures.CommandError.{CommandError}
use Rattle.rls_stages.specs.KeptFile.{loaded, replica_in}
use Rattle.rls_stages.proofs.Files.{IsOpened, opened}
use Rattle.rls_top.specs.declared.words.Command.{Command}
use Rattle.rls_top.specs.declared.words.Command.TheVariants.{OnFile}
use Rattle.rls_top.specs.declared.words.FileCommand.TheVariants.{Take}
use Rattle.rls_top.specs.Due.{Due, due_of_words}
use Rattle.rls_top.specs.Groups.{Group, due_of, files_with, messages_in, stored_in}
use Rattle.rls_top.specs.Words.{command_of}
use Rattle.rls_top.proofs.GroupCommands.{Leads, command_leads, kept_for, opened_at, same_ok}
use Rattle.rls_top.proofs.Groups.{IsLater, IsThere, Matches, fresh_matches, matches_with, there}
use Rattle.rls_session.specs.Courses.{course, holds}
use Rattle.rls_session.specs.SessionLaws.{IsOfHistory}
use Rattle.rls_session.specs.Seats.{respond, seated}
use Rattle.rls_session.specs.Answers.{resumed}
use Rattle.rls_session.specs.Sessions.{by_history, by_parts}
use Rattle.rls_session.proofs.Alike.{resumed_alike}
use Rattle.rls_groups.specs.Events.{Action, AreWritten, Begins, Commands, Deed, Desk, Event, IsOfGroup, IsRun, IsSession, IsUsable, Performs, Resumes, Sits, after_run, at_desk, deed_of, desk_after, desk_by, desk_of, desk_on, due_on, empty_desk, printed_of, replica_at, replied_at, replied_on, saved_of, saved_with, session_at, session_due, stored_by, stored_of}
use Rattle.rls_groups.specs.Groups.{DesksUsable, HasReport, IsClean, IsCommanded, IsHeld, IsMadeAlone, IsMeant, IsSavedOrLong, SessionsClean}
use Rattle.rls_groups.specs.Lives.{AreOfGroup, Life, after_deed, after_words, begun, deed_in, desks_run, lived, lived_all, states_run, states_with}
use Rattle.rls_groups.proofs.Desks.{IsWell, same_desk, well_empty, well_resumed, well_usable}
use Rattle.rls_groups.proofs.Staying.{Follows, follows_self, follows_trans}
use Rattle.rls_groups.proofs.Commands.{command_follows, comes_states, command_meant, set_at}
use Rattle.rls_groups.proofs.Sessions.{All, EndsSo, all, closes, ends_so, found, last_made, of_history, saved_or_long}

-- ---- what a group and a world have in common

-- each member's history went on, and what was there stays there
abbrev pub Goes : World → World → Type 0
Goes w v = (i : ℕ) (t : State) → IsAt w i t → (u : State) × IsAt v i u × Follows t u

goes_self : (w : World) → Goes w w
goes_self w i t h = (t, h, follows_self t)

goes_trans : (w v u : World) → Goes w v → Goes v u → Goes w u
goes_trans w v u f k i t h =
    let p = f i t h in
    let q = k i p.0 p.1 in
    (q.0, q.1, follows_trans t p.0 q.0 p.2 q.2)

goes_with : (w : World) (i : ℕ) (t u : State) (out : List Message) → IsAt w i t → Follows t u → Goes w (with_done w i u out)
goes_with w i t u out h f j z k =
    bool_cases (i == j)
    (λ e. let g = eq_is i j e in (u, ap (slice_get (slice_set w.states i u)) (sym g) ∙ get_set_same w.states i t u h, subst (λ (y : State). Follows y u) (one_state w i j t z h k g) f))
    (λ e. (z, get_set_other w.states i j u (eq_not i j e) ∙ k, follows_self z))

pub as_later : (w v : World) → Goes w v → IsLater w v
as_later w v f i t h = let r = f i t h in (r.0, r.1, (r.2).0)

pub record Lives (g n : ℕ) (l : Life) (w : World) : Type 0 where
  pub matches : Matches g n l.group w
  pub states : w.states ≡ l.states
  -- no session goes back to what its member's file has dropped
  pub desks : (i : ℕ) (t : State) → IsAt w i t → IsWell t (l.desks i)

-- the world after a run
pub record Runs (g n : ℕ) (l : Life) (i : ℕ) (deed : Deed) (w : World) : Type 0 where
  pub world : World
  pub matches : Matches g n (after_run true l.group i deed) world
  pub states : world.states ≡ states_run true l.group l.states i deed
  pub desk : (t : State) → IsAt world i t → IsWell t (desk_after l.group i deed)
  pub others : (j : ℕ) (t : State) → (i ≡ j → ⊥) → IsAt world j t → IsAt w j t
  pub later : Goes w world

module _ (g n : ℕ) (l : Life) (w : World) (x : Lives g n l w) where
  abbrev G : Group
  G = l.group

  -- the member's state
  held : (i : ℕ) (t : State) → IsAt w i t → IsHeld l i t
  held i t h = ap (λ (xs : List State). slice_get xs i) (sym x.states) ∙ h

  -- ---- a command

  module _ (i : ℕ) (words : List (List ℕ)) (input : List ℕ) (p : IsOfGroup l.group i (Performs words input)) where
    abbrev c : Option Command
    c = command_of words

    given : c ≡ Some (OnFile Take) → (m : Message) × IsIn m w.sent × IsMessage input m
    given e = let y = (x.matches).written input (p.given e) in (y.0, y.1, y.2)

    -- what is due, and where it leads
    record Called : Type 0 where
      at : IsThere g n l.group w x.matches i
      due : Due
      is : due_of l.group i words input ≡ Some due
      leads : Leads g n w i at.state at.bytes input c due

    called : Called
    called =
        let r = there g n l.group w x.matches i p.member in
        let q = command_leads g n w i r.state r.bytes input (x.matches).stands r.at r.kept c given in
        record { at = r; due = q.0; is = ap (λ (kept : Option (List ℕ)). due_of_words c (Some kept) (Some input)) r.file ∙ q.1; leads = q.2 }

    pub command_runs : Runs g n l i (Commands words input) w
    command_runs =
        let k = called in
        let r = k.at in
        let q = k.leads in
        let v = with_done w i q.state q.out in
        record {
          world = v;
          matches = subst (λ (o : Option Due). Matches g n (record { files = files_with (l.group).files i (stored_of o); written = (l.group).written ++ printed_of c o }) v) (sym k.is)
              (matches_with g n l.group w x.matches i r (stored_in k.due) (messages_in c k.due) q.state q.out q.stands q.kept q.written);
          states = subst (λ (o : Option Due). v.states ≡ states_with l.states i (stored_of o) (after_words c input)) (sym k.is)
              (ap (λ (xs : List State). slice_set xs i q.state) x.states ∙ comes_states c input l.states i r.state q.state k.due (held i r.state r.at) q.comes);
          desk = λ t h. well_empty t;
          others = λ j t apart h. sym (get_set_other w.states i j q.state apart) ∙ h;
          later = goes_with w i r.state q.state q.out r.at (command_follows w i r.state ((x.matches).stands).good r.at ((r.kept).storable).rest c input k.due q.state given q.comes);
        }

    pub command_means : (s : Seen) → stored_by l.group i (Commands words input) ≡ Some s → (t : State) × IsHeld l i t × IsMeant l.group i t (Commands words input) (after_deed (Commands words input) t)
    command_means s e =
        let k = called in
        let r = k.at in
        let q = k.leads in
        let stored : stored_in k.due ≡ Some s = sym (ap stored_of k.is) ∙ e in (
          r.state,
          held i r.state r.at,
          subst (λ (o : Option Due). HasReport o (λ report. IsCommanded c input report r.state (after_words c input r.state))) (sym k.is)
              (command_meant w i r.state ((x.matches).stands).good r.at ((r.kept).storable).rest c input k.due s q.state given stored q.comes),
        )

  -- ---- a session

  module _ (i : ℕ) (desk : Desk) (input : List ℕ) (p : IsSession l.group i desk input) where
    -- what its requests come to
    record Served : Type 0 where
      at : IsThere g n l.group w x.matches i
      replica : Seen
      opens : IsOpened at.bytes at.state replica
      requests : All g n l.group w x.matches i at desk input replica opens

    served : Served
    served =
        let r = there g n l.group w x.matches i p.member in
        let o = opened r.bytes r.state (r.kept).stands in
        record { at = r; replica = o.0; opens = o.1; requests = all g n l.group w x.matches i r desk input o.0 o.1 p }

    there_is : (k : Served) → replica_at l.group i ≡ Ok k.replica
    there_is k = found g n l.group w x.matches i k.at desk input k.replica k.opens

    -- the group and the states, by the replica that is found and by how the session ends
    abbrev MatchesBy : World → Result Seen CommandError → Type 0
    MatchesBy v y = Matches g n (record { files = files_with (l.group).files i (saved_of (due_on y desk input).ending); written = (l.group).written ++ saved_with (due_on y desk input).ending (replied_on y desk input) }) v

    abbrev MatchesAt : World → List (List ℕ) → Result Seen CommandError → Type 0
    MatchesAt v messages z = Matches g n (record { files = files_with (l.group).files i (saved_of z); written = (l.group).written ++ saved_with z messages }) v

    abbrev StatesBy : World → Result Seen CommandError → Type 0
    StatesBy v y = v.states ≡ states_with l.states i (saved_of (due_on y desk input).ending) (after_deed (Sits desk input))

    abbrev StatesAt : World → Result Seen CommandError → Type 0
    StatesAt v z = v.states ≡ states_with l.states i (saved_of z) (after_deed (Sits desk input))

    -- what it works on after its store
    well_now : (k : Served) → IsWell (after_deed (Sits desk input) k.at.state) (desk_of (resumed by_parts (session_at by_parts k.replica desk input).state))
    well_now k =
        let m = (closes g n l.group w x.matches i k.at desk input k.replica k.opens k.requests).both in
        let d = (session_at by_parts k.replica desk input).state in
        let f = (session_at by_history k.at.state desk input).state in
        subst (IsWell f.state) (sym (same_desk (resumed by_parts d) (resumed by_history f) (resumed_alike d f m.alike))) (well_resumed d f m.alike)

    ended : (k : Served) → EndsSo (session_at by_parts k.replica desk input) → Runs g n l i (Sits desk input) w
    ended k (inl e) =
        let r = k.at in
        let q = k.requests in
        let m = (closes g n l.group w x.matches i r desk input k.replica k.opens q).both in
        let t = m.underway in
        let a = m.alike in
        let s = ((session_at by_parts k.replica desk input).state).state in
        let u = after_deed (Sits desk input) r.state in
        let v = with_done w i u q.more in
        record {
          world = v;
          matches = subst (MatchesBy v) (sym (there_is k)) (subst (MatchesAt v (replied_at k.replica desk input)) (sym e.0)
              (matches_with g n l.group w x.matches i r (Some s) (replied_at k.replica desk input) u q.more t.stands (kept_for s u a.stands a.sane a.writable t.storable e.1) (λ b p. let y = q.told b p in (y.0, y.1, (y.2).0, (y.2).1))));
          states = subst (StatesBy v) (sym (there_is k)) (subst (StatesAt v) (sym e.0) (ap (λ (xs : List State). slice_set xs i u) x.states ∙ sym (set_at l.states i r.state s (after_deed (Sits desk input)) (held i r.state r.at))));
          desk = λ t h. subst (λ (y : State). IsWell y (desk_after l.group i (Sits desk input))) (some_is u t (sym (get_set_same w.states i r.state u r.at) ∙ h)) (subst (λ (y : Result Seen CommandError). IsWell u (desk_on y desk input)) (sym (there_is k)) (subst (λ (z : Result Seen CommandError). IsWell u (desk_by z (session_at by_parts k.replica desk input).state)) (sym e.0) (well_now k)));
          others = λ j t apart h. sym (get_set_other w.states i j u apart) ∙ h;
          later = goes_with w i r.state u q.more r.at (follows_trans r.state _ u (q.later).0 (q.later).1);
        }
    ended k (inr e) = record {
      world = w;
      matches = subst (MatchesBy w) (sym (there_is k)) (subst (MatchesAt w (replied_at k.replica desk input)) (sym e.0)
          (subst (λ (ws : List (List ℕ)). Matches g n (record { files = (l.group).files; written = ws }) w) (sym (append-nil (l.group).written)) x.matches));
      states = subst (StatesBy w) (sym (there_is k)) (subst (StatesAt w) (sym e.0) x.states);
      desk = λ t h. subst (λ (y : Result Seen CommandError). IsWell t (desk_on y desk input)) (sym (there_is k)) (subst (λ (z : Result Seen CommandError). IsWell t (desk_by z (session_at by_parts k.replica desk input).state)) (sym e.0) (well_empty t));
      others = λ j t apart h. h;
      later = goes_self w;
    }

    pub session_runs : Runs g n l i (Sits desk input) w
    session_runs = let k = served in ended k (ends_so (session_at by_parts k.replica desk input))

    pub session_means : (t : State) × IsHeld l i t × IsMeant l.group i t (Sits desk input) (after_deed (Sits desk input) t)
    session_means =
        let k = served in
        let r = k.at in
        let q = k.requests in
        (r.state, held i r.state r.at, (ap (λ (y : Result Seen CommandError). (due_on y desk input).replies) (there_is k) ∙ q.replies, q.meant, last_made g n l.group w x.matches i r desk input k.replica k.opens q))

    pub session_cleans : (s : Seen) × (replica_at l.group i ≡ Ok s) × IsSavedOrLong (session_at by_parts s desk input) (session_due l.group i desk input).ending × let first = seated (at_desk s desk) in holds (respond by_parts) (λ b request. IsMadeAlone b × IsClean l.group b request) first input × IsMadeAlone (course (respond by_parts) first input).state × ((t : State) × IsOfHistory (at_desk s desk) t)
    session_cleans =
        let k = served in
        let c = session_at by_parts k.replica desk input in (
          k.replica,
          there_is k,
          subst (λ (y : Result Seen CommandError). IsSavedOrLong c (due_on y desk input).ending) (sym (there_is k)) (saved_or_long c (ends_so c)),
          (
            (k.requests).clean,
            (closes g n l.group w x.matches i k.at desk input k.replica k.opens k.requests).unawaited,
            ((k.at).state, of_history g n l.group w x.matches i k.at desk input k.replica k.opens p),
          ),
        )

  -- ---- any run

  -- over the replica that the member's file says, what its session works on is usable
  pub usable_desk : (i : ℕ) → i < length (l.group).files → (desk : Desk) → ((t : State) → IsAt w i t → IsWell t desk) → (s : Seen) → replica_at l.group i ≡ Ok s → IsUsable s desk
  usable_desk i m desk well s e =
      let r = there g n l.group w x.matches i m in
      let o = opened r.bytes r.state (r.kept).stands in
      subst (λ (y : Seen). IsUsable y desk) (same_ok (replica_at l.group i) o.0 s (ap (λ (file : Option (List ℕ)). replica_in (loaded file)) r.file ∙ opened_at r.bytes o.0 (r.kept).short o.1.found) e) (well_usable o.0 r.state desk o.1.stands (well r.state r.at))

  if_ok : (y : Result Seen CommandError) (P : Seen → Type 0) → ((s : Seen) → y ≡ Ok s → P s) → IfOk y P
  if_ok (Ok s) P f = f s refl
  if_ok (Err e) P f = tt

  pub session : (i : ℕ) (desk : Desk) (input : List ℕ) → i < length (l.group).files → IsBytes input → AreWritten l.group input → ((t : State) → IsAt w i t → IsWell t desk) → IsSession l.group i desk input
  session i desk input m b p well = record { member = m; usable = if_ok (replica_at l.group i) (λ s. IsUsable s desk) (usable_desk i m desk well); bytes = b; written = p }

  runs : (i : ℕ) (action : Action) → IsOfGroup l.group i action → Runs g n l i (deed_of (l.desks i) action) w
  runs i (Performs words input) p = command_runs i words input p
  runs i (Begins input) p = session_runs i empty_desk input (session i empty_desk input p.member p.given.0 p.given.1 (λ t h. well_empty t))
  runs i (Resumes input) p = session_runs i (l.desks i) input (session i (l.desks i) input p.member p.given.0 p.given.1 (x.desks i))

  pub means : (i : ℕ) (action : Action) (s : Seen) → IsOfGroup l.group i action → let deed = deed_of (l.desks i) action in stored_by l.group i deed ≡ Some s → (t : State) × IsHeld l i t × IsMeant l.group i t deed (after_deed deed t)
  means i (Performs words input) s p e = command_means i words input p s e
  means i (Begins input) s p e = session_means i empty_desk input (session i empty_desk input p.member p.given.0 p.given.1 (λ t h. well_empty t))
  means i (Resumes input) s p e = session_means i (l.desks i) input (session i (l.desks i) input p.member p.given.0 p.given.1 (x.desks i))

  -- and that is its history from then on
  pub held_after : (i : ℕ) (deed : Deed) (s : Seen) (t : State) → stored_by l.group i deed ≡ Some s → IsHeld l i t → slice_get (states_run true l.group l.states i deed) i ≡ Some (after_deed deed t)
  held_after i deed s t e h =
      subst (λ (o : Option Seen). slice_get (states_with l.states i o (after_deed deed)) i ≡ Some (after_deed deed t)) (sym e)
      (ap (λ (xs : List State). slice_get xs i) (set_at l.states i t s (after_deed deed) h) ∙ get_set_same l.states i t (after_deed deed t) h)

  pub cleans : SessionsClean l.group
  cleans i desk input p = session_cleans i desk input p

  pub usable : DesksUsable l
  usable i s e = go (slice_get (l.group).files i) refl
    where
      go : (o : Option (List ℕ)) → slice_get (l.group).files i ≡ o → IsUsable s (l.desks i)
      go None f = absurd (let none : replica_in (loaded None) ≡ Ok s = sym (ap (λ (file : Option (List ℕ)). replica_in (loaded file)) f) ∙ e in cc)
      go (Some bytes) f = usable_desk i (got_below (l.group).files i bytes f) (l.desks i) (x.desks i) s e

  pub event : (e : Event) → IsRun l.group e → (v : World) × Lives g n (lived l e) v × Goes w v
  event e p = go e.done p
    where
      deed : Deed
      deed = deed_in l e

      desks : (v : Runs g n l e.member deed w) (j : ℕ) (t : State) → IsAt v.world j t → IsWell t (desks_run true l.group l.desks e.member deed j)
      desks v j t h =
          bool_cases (e.member == j)
          (λ y. subst (λ (b : Bool). IsWell t (if b then desk_after l.group e.member deed else l.desks j)) (sym y) (v.desk t (subst (λ (k : ℕ). IsAt v.world k t) (sym (eq_is e.member j y)) h)))
          (λ y. subst (λ (b : Bool). IsWell t (if b then desk_after l.group e.member deed else l.desks j)) (sym y) (x.desks j t (v.others j t (eq_not e.member j y) h)))

      go : (done : Bool) → (IsTrue done → IsOfGroup l.group e.member e.action) → (v : World) × Lives g n (record { group = after_run done l.group e.member deed; desks = desks_run done l.group l.desks e.member deed; states = states_run done l.group l.states e.member deed }) v × Goes w v
      go false q = (w, record { matches = x.matches; states = x.states; desks = x.desks }, goes_self w)
      go true q = let r = runs e.member e.action (q refl) in (r.world, record { matches = r.matches; states = r.states; desks = desks r }, r.later)

-- ---- all events

-- at each moment the group and a world have all that in common, and later worlds go on from it
abbrev pub AtEach : ℕ → ℕ → Life → List Event → World → Type 0
AtEach g n l es v = (before after : List Event) → before ++ after ≡ es → (u : World) × Lives g n (lived_all l before) u × Goes u v

pub all_events : (g n : ℕ) (l : Life) (w : World) (es : List Event) → Lives g n l w → AreOfGroup l es → (v : World) × Lives g n (lived_all l es) v × Goes w v × AtEach g n l es v
all_events g n l w [] x p = (w, x, goes_self w, at_once)
  where
    at_once : AtEach g n l [] w
    at_once [] after e = (w, x, goes_self w)
    at_once (b ∷ before) after e = absurd (cc)
all_events g n l w (e ∷ es) x p =
    let q = event g n l w x e p.0 in
    let rest = all_events g n (lived l e) q.0 es q.1 p.1 in
    let later : Goes w rest.0 = goes_trans w q.0 rest.0 q.2 rest.2 in
    (rest.0, rest.1, later, at_each rest.0 later rest.3)
  where
    at_each : (v : World) → Goes w v → AtEach g n (lived l e) es v → AtEach g n l (e ∷ es) v
    at_each v later f [] after q = (w, x, later)
    at_each v later f (b ∷ before) after q =
        let first : b ≡ e = cc in
        let rest : before ++ after ≡ es = cc in
        let r = f before after rest in
        (r.0, subst (λ (y : Event). Lives g n (lived_all (lived l y) before) r.0) (sym first) r.1, r.2)

-- what an event is given
pub run_at : (l : Life) (before after : List Event) (e : Event) → AreOfGroup l (before ++ e ∷ after) → IsRun (lived_all l before).group e
run_at l [] after e p = p.0
run_at l (b ∷ before) after e p = run_at (lived l b) before after e p.1

-- at first
pub begun_lives : (g n : ℕ) → IsLarge g → n ≤ MEMBERS → Lives g n (begun g n) (empty_world g n)
begun_lives g n large few = record { matches = fresh_matches g n large few; states = refl; desks = λ i t h. well_empty t }
