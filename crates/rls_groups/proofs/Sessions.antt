-- A session of a member of a group, over its whole input.
use Rattle.std.proofs.Common.{◌≡◌, ◌∙◌, ◌⊎◌, ◌≤◌, ℕ, Bool, true, false, List, [], ◌∷◌, ◌++◌, length, Option, Result, Ok, Err, IfOk, refl, sym, ap, subst, inl, inr, ◌<◌}
use Rattle.std.specs.Prelude.{nat_lt}
use Rattle.std.proofs.lemmas.List.{append-nil}
use Rattle.rls_ident.specs.declared.limits.TheConstants.{FILE_BYTES, INPUT_BYTES}
use Rattle.rls_ident.proofs.Members.{lt_is, not_lt_is}
use Rattle.rls_ops.specs.declared.message.Message.{Message}
use Rattle.rls_codec.specs.CodecLaws.{IsBytes}
use Rattle.rls_codec.proofs.Formats.{IsBytes-tail}
use Rattle.rls_model.specs.Receiving.{State}
use Rattle.rls_model.specs.Worlds.{World}
use Rattle.rls_model.proofs.HistoryNumbers.{front_self}
use Rattle.rls_model.proofs.OnePlace.{set_get}
use Rattle.rls_model.proofs.WorldsCommands.{Stands, with_done}
use Rattle.rls_seen.specs.Seen.{Seen}
use Rattle.rls_report.specs.declared.failures.CommandError.{CommandError}
use Rattle.rls_report.specs.declared.failures.CommandError.TheVariants.{TooLarge}
use Rattle.rls_stages.specs.KeptFile.{bytes_over, loaded, replica_in}
use Rattle.rls_stages.proofs.Files.{IsOpened}
use Rattle.rls_top.specs.Groups.{Group}
use Rattle.rls_top.proofs.GroupCommands.{opened_at}
use Rattle.rls_top.proofs.Groups.{IsThere, Matches}
use Rattle.rls_session.specs.Answers.{Sitting}
use Rattle.rls_session.specs.Courses.{Course, course}
use Rattle.rls_session.specs.Due.{due_of}
use Rattle.rls_session.specs.SessionLaws.{IsOfHistory}
use Rattle.rls_session.specs.Seats.{Seat, at_work, respond, seated}
use Rattle.rls_session.specs.Sessions.{by_history, by_parts}
use Rattle.rls_session.proofs.AlikeSeats.{seated_alike}
use Rattle.rls_session.proofs.Given.{IsGiven, cut_given}
use Rattle.rls_groups.specs.Events.{Desk, IsSession, IsUsable, IsWritten, at_desk, replica_at, replied_from, unanswered}
use Rattle.rls_groups.specs.Groups.{IsDraftMade, IsSavedOrLong}
use Rattle.rls_groups.proofs.Answered.{IsTold}
use Rattle.rls_groups.proofs.Desks.{usable_alike}
use Rattle.rls_groups.proofs.Inputs.{holds_alike}
use Rattle.rls_groups.proofs.Requests.{Went, went}
use Rattle.rls_groups.proofs.Seated.{IsCleanFrom, IsDone, IsMadeWell, Later, Seats, drafts_made, later_self, later_trans, made_well, seat_steps}
use Rattle.rls_groups.proofs.Staying.{follows_self}

-- ---- how it ends

-- its file is stored and short, or it isn't
abbrev pub EndsSo : Course (Sitting Seen) → Type 0
EndsSo c = (((due_of c).ending ≡ Ok (c.state).state) × (length (bytes_over (c.state).state) ≤ FILE_BYTES)) ⊎ (((due_of c).ending ≡ Err TooLarge) × ((INPUT_BYTES < c.used) ⊎ (FILE_BYTES < length (bytes_over (c.state).state))))

pub ends_so : (c : Course (Sitting Seen)) → EndsSo c
ends_so c = at_input (nat_lt INPUT_BYTES c.used) refl (nat_lt FILE_BYTES (length (bytes_over (c.state).state))) refl
  where
    at_input : (long : Bool) → nat_lt INPUT_BYTES c.used ≡ long → (large : Bool) → nat_lt FILE_BYTES (length (bytes_over (c.state).state)) ≡ large → EndsSo c
    at_input true e large f = inr (rw e refl, inl (lt_is INPUT_BYTES c.used e))
    at_input false e true f = inr (rw (e, f) refl, inr (lt_is FILE_BYTES (length (bytes_over (c.state).state)) f))
    at_input false e false f = inl (rw (e, f) refl, not_lt_is FILE_BYTES (length (bytes_over (c.state).state)) f)

pub saved_or_long : (c : Course (Sitting Seen)) → EndsSo c → IsSavedOrLong c (due_of c).ending
saved_or_long c (inl e) = inl e.0
saved_or_long c (inr e) = inr (e.0, e.1)

-- ---- all its requests

module _ (g n : ℕ) (G : Group) (w : World) (x : Matches g n G w) (i : ℕ) (r : IsThere g n G w x i) (desk : Desk) (input : List ℕ) (s : Seen) (o : IsOpened r.bytes r.state s) where
  -- the member's file says this replica
  pub found : replica_at G i ≡ Ok s
  found = ap (λ (k : Option (List ℕ)). replica_in (loaded k)) r.file ∙ opened_at r.bytes s (r.kept).short o.found

  usable_here : IsSession G i desk input → IsUsable s desk
  usable_here p = subst (λ (y : Result Seen CommandError). IfOk y (λ s. IsUsable s desk)) found p.usable

  -- nothing is sent yet
  begins : Stands g n (with_done w i r.state [])
  begins = subst (Stands g n) (sym (ap (λ (xs : List State). record { states = xs; sent = w.sent ++ [] }) (set_get w.states i r.state r.at) ∙ ap (λ (ms : List Message). record { states = w.states; sent = ms }) (append-nil w.sent))) x.stands

  pub first : IsSession G i desk input → Seats g n G w x i r.state r.at (seated (at_desk s desk)) (seated (at_desk r.state desk)) []
  first q = record {
    alike = seated_alike (at_desk s desk) (at_desk r.state desk) (usable_alike r.bytes s r.state desk o (usable_here q));
    underway = record { stands = begins; storable = (r.kept).storable };
    front = front_self (r.state).history;
  }

  -- and the laws of sessions hold of it
  pub of_history : IsSession G i desk input → IsOfHistory (at_desk s desk) r.state
  of_history q = let a = usable_alike r.bytes s r.state desk o (usable_here q) in record { stands = a.stands; sane = a.sane; writable = a.writable; whole = a.whole; texts = a.texts; kept = (a.steps).kept; spelled = (a.steps).spelled }

  abbrev pub All : Type 0
  All = Went (respond by_parts) (respond by_history) replied_from (Seats g n G w x i r.state r.at) (Later g n G w x i r.state r.at) (λ b r. IsWritten G r) (IsCleanFrom g n G w x i r.state r.at) (IsDone g n G w x i r.state r.at) (IsTold g n G w x i r.state r.at) 0 (seated (at_desk s desk)) (seated (at_desk r.state desk)) input []

  pub all : IsSession G i desk input → All
  all q =
      went (respond by_parts) (respond by_history) replied_from (Seats g n G w x i r.state r.at) (Later g n G w x i r.state r.at) (λ b r. IsWritten G r) (IsCleanFrom g n G w x i r.state r.at) (IsDone g n G w x i r.state r.at) (IsTold g n G w x i r.state r.at)
      (λ b c out k. later_self g n G w x i r.state r.at b c out k) (λ e c u h k. later_trans g n G w x i r.state r.at e c u h k)
      IsBytes IsGiven (λ b bytes c. (cut_given (b ∷ bytes) c, IsBytes-tail b bytes c))
      (λ b c out y ok given k. seat_steps g n G w x i r.state r.at b c out k y ok given)
      0 (seated (at_desk s desk)) (seated (at_desk r.state desk)) input [] q.bytes
      (holds_alike unanswered (respond by_parts) (IsWritten G) 0 tt (seated (at_desk s desk)) input q.written) (first q)

  -- what is drafted at the end is made
  abbrev pub last_here : Seat Seen
  last_here = (course (respond by_parts) (seated (at_desk s desk)) input).state

  abbrev pub last : Seat State
  last = (course (respond by_history) (seated (at_desk r.state desk)) input).state

  pub closes : (q : All) → IsMadeWell g n G w x i r.state r.at last_here last q.more
  closes q = made_well g n G w x i r.state r.at last_here last q.more q.states

  pub last_made : All → IsDraftMade (at_work by_history last).state last
  last_made q =
      let t = (at_work by_history last).state in
      let rest = (((closes q).both).underway.storable).rest in
      drafts_made g n G w x i r.state r.at last_here last q.more q.states (seated (at_work by_history last)) (follows_self t) (follows_self t, follows_self t, rest)
