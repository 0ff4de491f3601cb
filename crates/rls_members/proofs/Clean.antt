-- What the law of groups says of a command over a member's file, whatever led there.
use Rattle.std.proofs.Common.{◌≡◌, ◌≢◌, ◌∙◌, ◌<◌, ◌⊎◌, ℕ, Bool, true, false, List, [], length, Option, Some, None, Result, Ok, Err, refl, sym, ap, subst, inl, inr}
use Rattle.std.specs.Prelude.{if◌then◌else◌, IfSome, IsSomeAnd, encode_utf8_all, nat_lt, slice_get}
use Rattle.std.proofs.lemmas.List.{append-nil}
use Rattle.rls_ident.specs.declared.limits.TheConstants.{FILE_BYTES}
use Rattle.rls_ident.proofs.Members.{bool_cases}
use Rattle.rls_io.specs.Device.{Appends}
use Rattle.rls_ops.specs.declared.message.Message.{Message}
use Rattle.rls_codec.specs.Reading.{message_of}
use Rattle.rls_model.specs.History.{count}
use Rattle.rls_model.specs.Receiving.{State}
use Rattle.rls_model.proofs.OnePlace.{got_below}
use Rattle.rls_seen.specs.Messages.{Course, taken_over}
use Rattle.rls_seen.specs.Seen.{Seen, text_over, vector}
use Rattle.rls_report.specs.declared.failures.CommandError.{CommandError}
use Rattle.rls_report.specs.declared.failures.CommandError.TheVariants.{NoReplica, ReplicaExists, Damaged, BadMembers, BadMe, NotMember, BadLine, Malformed, OtherGroup, Edit, TooLarge}
use Rattle.rls_report.specs.Failures.{error_status}
use Rattle.rls_report.specs.Listing.{ids_over}
use Rattle.rls_report.specs.Reports.{edit_text, take_text}
use Rattle.rls_stages.specs.Endings.{IsFault}
use Rattle.rls_stages.specs.KeptFile.{IsFileFor, StandsIn, loaded, replica_in, saved}
use Rattle.rls_stages.proofs.Files.{opened}
use Rattle.rls_top.proofs.GroupCommands.{same_ok}
use Rattle.rls_top.specs.declared.words.Command.{Command}
use Rattle.rls_top.specs.declared.words.Command.TheVariants.{OnFile}
use Rattle.rls_top.specs.declared.words.FileCommand.TheVariants as commands
use Rattle.rls_top.specs.Due.{Due, Makes, NoCommand, Stops, due, due_of_input, due_of_message, due_of_taken, due_of_words, due_on, due_status, is_for, read, shows, stores}
use Rattle.rls_top.specs.Endings.{IsWritten}
use Rattle.rls_top.specs.Groups.{Group, IsEditing, IsFileOf, IsMadeOrLong, IsOfEditsAlone, IsOfGroup, IsReading, IsTakenTooLong, MemberCommand, due_of, refused_in}
use Rattle.rls_top.specs.Words.{command_of}
use Rattle.rls_groups.specs.Events.{Event, replica_at}
use Rattle.rls_groups.specs.Groups.{GroupsConverge}
use Rattle.rls_groups.specs.Rounds.{AreEvents, after}
use Rattle.rls_members.specs.Members.{Converge, IsLedBy, IsLived, MembersSeen, group_of}
use Rattle.rls_members.specs.Running.{EndsAs, HaveEqualCounts, IsClean, IsGivenTo, TakesAll}

-- ---- statuses

not_five : (e : CommandError) → error_status e ≡ 5 → ⊥
not_five NoReplica h = cc
not_five ReplicaExists h = cc
not_five (Damaged at) h = cc
not_five (BadMembers n) h = cc
not_five (BadMe n) h = cc
not_five (NotMember n) h = cc
not_five (BadLine n) h = cc
not_five (Malformed at) h = cc
not_five (OtherGroup group members) h = cc
not_five (Edit n fault) h = cc
not_five TooLarge h = cc

pub fault_not_five : (n : ℕ) → IsFault n → n ≢ 5
fault_not_five n (inl h) e = absurd (let no : 7 ≡ 5 = sym h ∙ e in cc)
fault_not_five n (inr (inl h)) e = absurd (let no : 8 ≡ 5 = sym h ∙ e in cc)
fault_not_five n (inr (inr (inl h))) e = absurd (let no : 9 ≡ 5 = sym h ∙ e in cc)
fault_not_five n (inr (inr (inr h))) e = absurd (let no : 10 ≡ 5 = sym h ∙ e in cc)

-- what is called for refuses nothing
abbrev Refuses : Due → Type 0
Refuses d = refused_in d ≡ []

made_zero : (d : Due) → Refuses d → (due_status d ≡ 5) → ⊥
made_zero NoCommand r h = cc
made_zero (Makes stored report refused) r h = let zero : due_status (Makes stored report refused) ≡ 0 = rw r refl in let no : 0 ≡ 5 = sym zero ∙ h in cc
made_zero (Stops e) r h = not_five e h

never_five : (d : Option Due) (n : ℕ) → IsSomeAnd d Refuses → IfSome d (λ d. (n ≡ due_status d) ⊎ IsFault n) → n ≢ 5
never_five None n r s = absurd r
never_five (Some d) n r (inl s) = λ e. made_zero d r (sym s ∙ e)
never_five (Some d) n r (inr s) = fault_not_five n s

-- ---- what is printed

-- edits print that they released nothing
edits_print : (d : Option Due) (old new : Option (List ℕ)) → IsSomeAnd d IsOfEditsAlone → IfSome d (λ d. IsWritten d old new) → (edits : ℕ) × Appends old new (edit_text edits 0 0)
edits_print None old new a w = absurd a
edits_print (Some NoCommand) old new a w = absurd a
edits_print (Some (Makes stored report refused)) old new a w = (a.0, subst (Appends old new) a.1 w)
edits_print (Some (Stops e)) old new a w = absurd w

-- a message that was sent is taken
take_status : (X : Type 0) (d : Option Due) (n : ℕ) → IsSomeAnd d Refuses → IsSomeAnd d (IsMadeOrLong X) → IfSome d (λ d. (n ≡ due_status d) ⊎ IsFault n) → (n ≡ 0) ⊎ IsFault n ⊎ (n ≡ 11)
take_status X None n r m s = absurd r
take_status X (Some d) n r m (inr s) = inr (inl s)
take_status X (Some NoCommand) n r m (inl s) = absurd m
take_status X (Some (Makes stored report refused)) n r m (inl s) = inl (s ∙ rw r refl)
take_status X (Some (Stops e)) n r m (inl s) = inr (inr (s ∙ ap error_status m.0))

-- its report counts no refused operation
abbrev CountsNone : Due → Type 0
CountsNone NoCommand = Unit {0}
CountsNone (Makes stored report refused) = refused ≡ [] → (applied released repeated held : ℕ) × (report ≡ take_text applied released repeated held 0)
CountsNone (Stops e) = Unit {0}

taken_counts : (c : Course) → CountsNone (due_of_taken c)
taken_counts c = go (saved c.state)
  where
    go : (r : Result Seen CommandError) → CountsNone (stores r (take_text c.counts.applied c.counts.released c.counts.repeated c.counts.held (length c.counts.refused)) c.counts.refused)
    go (Ok s) = λ none. (c.counts.applied, c.counts.released, c.counts.repeated, c.counts.held, ap (λ xs. take_text c.counts.applied c.counts.released c.counts.repeated c.counts.held (length xs)) none)
    go (Err e) = tt

message_counts : (s : Seen) (r : Result Message ℕ) → CountsNone (due_of_message s r)
message_counts s (Ok m) = go (is_for s m)
  where
    go : (b : Bool) → CountsNone (if b then due_of_taken (taken_over s m) else Stops (OtherGroup m.group m.members))
    go true = taken_counts (taken_over s m)
    go false = tt
message_counts s (Err at) = tt

input_counts : (s : Seen) (r : Result (List ℕ) CommandError) → CountsNone (due_of_input r (λ bytes. due_of_message s (message_of bytes)))
input_counts s (Ok bytes) = message_counts s (message_of bytes)
input_counts s (Err e) = tt

file_counts : (r : Result Seen CommandError) (input : List ℕ) → IfSome (due_on commands.Take r (Some input)) CountsNone
file_counts (Ok s) input = input_counts s (read input)
file_counts (Err e) input = tt

take_counts : (c : Option Command) (file : Option (List ℕ)) (input : List ℕ) → c ≡ Some (OnFile commands.Take) → IfSome (due_of_words c (Some file) (Some input)) CountsNone
take_counts c file input e = subst (λ (c : Option Command). IfSome (due_of_words c (Some file) (Some input)) CountsNone) (sym e) (file_counts (replica_in (loaded file)) input)

take_prints : (d : Option Due) (old new : Option (List ℕ)) → IsSomeAnd d Refuses → IfSome d CountsNone → IfSome d (λ d. IsWritten d old new) → (applied released repeated held : ℕ) × Appends old new (take_text applied released repeated held 0)
take_prints None old new r k w = absurd r
take_prints (Some NoCommand) old new r k w = absurd w
take_prints (Some (Makes stored report refused)) old new r k w = let p = k r in (p.0, p.1, p.2, p.3, subst (Appends old new) p.4 w)
take_prints (Some (Stops e)) old new r k w = absurd w

-- what is read is shown
reading_shows : (c : Option Command) (file : Option (List ℕ)) (input : List ℕ) (s : Seen) → (c ≡ Some (OnFile commands.Text)) ⊎ (c ≡ Some (OnFile commands.Ids)) → replica_in (loaded file) ≡ Ok s → (report : List ℕ) × (due_of_words c (Some file) (Some input) ≡ Some (shows report))
reading_shows c file input s (inl e) h = (encode_utf8_all (text_over s), ap (λ (c : Option Command). due_of_words c (Some file) (Some input)) e ∙ ap (λ (r : Result Seen CommandError). due_on commands.Text r (Some input)) h)
reading_shows c file input s (inr e) h = (ids_over s, ap (λ (c : Option Command). due_of_words c (Some file) (Some input)) e ∙ ap (λ (r : Result Seen CommandError). due_on commands.Ids r (Some input)) h)

shown_prints : (d : Option Due) (report : List ℕ) (old new : Option (List ℕ)) → d ≡ Some (shows report) → IfSome d (λ d. IsWritten d old new) → Appends old new report
shown_prints d report old new e w = subst (λ (d : Option Due). IfSome d (λ d. IsWritten d old new)) e w

-- ---- counts

-- the file's counts are those of the history that it stands for
counts_are : (bytes : List ℕ) (t : State) (s : Seen) → IsFileFor bytes t → replica_in (loaded (Some bytes)) ≡ Ok s → vector s ≡ count t.history
counts_are bytes t s f h = bool_cases (nat_lt FILE_BYTES (length bytes)) (λ y. absurd (let no : Err TooLarge ≡ Ok s = sym (rw y refl) ∙ h in cc)) (λ y. short (sym (rw y refl) ∙ h))
  where
    short : replica_in (Ok (Some bytes)) ≡ Ok s → vector s ≡ count t.history
    short k = let o = opened bytes t f in subst (λ (r : Seen). vector r ≡ count t.history) (same_ok (replica_in (Ok (Some bytes))) o.0 s (o.1).found k) ((o.1).stands).vector

found_below : (files : List (List ℕ)) (j : ℕ) (s : Seen) → replica_in (loaded (slice_get files j)) ≡ Ok s → j < length files
found_below files j s h = go (slice_get files j) refl
  where
    go : (file : Option (List ℕ)) → slice_get files j ≡ file → j < length files
    go (Some bytes) e = got_below files j bytes e
    go None e = absurd (let no : Err NoReplica ≡ Ok s = sym (ap (λ (file : Option (List ℕ)). replica_in (loaded file)) e) ∙ h in cc)

counts_in : (file : Option (List ℕ)) (t : State) (s : Seen) → StandsIn (Some file) t → replica_in (loaded file) ≡ Ok s → vector s ≡ count t.history
counts_in (Some bytes) t s f h = counts_are bytes t s f h
counts_in None t s f h = absurd f

-- ---- a command

-- what the law says of these events
pub converges : GroupsConverge → (group n : ℕ) (es : List Event) → AreEvents group n es → Converge group n es
converges law group n es h = let p = law group n es h.large h.some h.few h.events in (p.1, p.2, p.3, p.4, p.5, p.6, p.7, p.8, p.9)

module _ (law : GroupsConverge) (m : MembersSeen) (es : List Event) (led : IsLedBy m es) (i : ℕ) (words : List (List ℕ)) (input : List ℕ) (n : ℕ) (old new : Option (List ℕ)) (there : i < length m.files) (given : IsGivenTo m words (Some input))
    (ends : EndsAs (due_of (group_of m) i words input) n old new) where
  abbrev g : Group
  g = (after m.group (length m.files) es).group

  says : Converge m.group (length m.files) es
  says = converges law m.group (length m.files) es led.events

  abbrev c : MemberCommand
  c = record { member = i; words = words; input = input }

  of_group : IsOfGroup g c
  of_group = record { member = subst (λ (files : List (List ℕ)). i < length files) led.files_are there; given = λ e. led.sent_are input (given e) }

  -- what is called for is so by the files
  same : (j : ℕ) → due_of (group_of m) j words input ≡ due_of g j words input
  same j = ap (λ (files : List (List ℕ)). due words (Some (slice_get files j)) (Some input)) led.files_are

  refuses : IsSomeAnd (due_of (group_of m) i words input) Refuses
  refuses = subst (λ (d : Option Due). IsSomeAnd d Refuses) (sym (same i)) (says.0 c of_group)

  takes : command_of words ≡ Some (OnFile commands.Take) → TakesAll n old new
  takes e =
      let taken = says.3 c of_group e in
      record {
        status = take_status (IsTakenTooLong g c) (due_of (group_of m) i words input) n refuses (subst (λ (d : Option Due). IsSomeAnd d (IsMadeOrLong (IsTakenTooLong g c))) (sym (same i)) taken) ends.status;
        report = λ z. take_prints (due_of (group_of m) i words input) old new refuses (take_counts (command_of words) (slice_get m.files i) input e) (ends.report (inl z));
      }

  edited : IsEditing words → n ≡ 0 → (edits : ℕ) × Appends old new (edit_text edits 0 0)
  edited e z = edits_print (due_of (group_of m) i words input) old new (subst (λ (d : Option Due). IsSomeAnd d IsOfEditsAlone) (sym (same i)) (says.1 c of_group e)) (ends.report (inl z))

  -- the history of a member
  counted : (j : ℕ) (s : Seen) → replica_at (group_of m) j ≡ Ok s → (t : State) × IsFileOf g j t × (vector s ≡ count t.history)
  counted j s h =
      let moment = (says.8).moments es [] j (append-nil es) (found_below m.files j s h) in
      let file = (moment.member).file in
      (moment.state, file, counts_in (slice_get g.files j) moment.state s file (subst (λ (files : List (List ℕ)). replica_in (loaded (slice_get files j)) ≡ Ok s) led.files_are h))

  shown : IsReading words → n ≡ 0 → (j : ℕ) → HaveEqualCounts m i j → (report : List ℕ) × (due_of (group_of m) j words input ≡ Some (shows report)) × Appends old new report
  shown e z j h =
      let p = reading_shows (command_of words) (slice_get m.files i) input h.first e h.first_is in
      let a = counted i h.first h.first_is in
      let b = counted j h.second h.second_is in
      let equal = says.4 i j a.0 b.0 words input a.1 b.1 (sym a.2 ∙ (h.equal ∙ b.2)) e in
      (p.0, same j ∙ (sym equal ∙ (sym (same i) ∙ p.1)), shown_prints (due_of (group_of m) i words input) p.0 old new p.1 (ends.report (inl z)))

  pub clean : IsClean m i words input n old new
  clean = record { unrefused = never_five (due_of (group_of m) i words input) n refuses ends.status; takes = takes; edits = edited; shows_same = shown }

-- the same of any events that led there
pub clean_so : GroupsConverge → (m : MembersSeen) → IsLived m → (i : ℕ) (words : List (List ℕ)) (input : List ℕ) (n : ℕ) (old new : Option (List ℕ)) → i < length m.files → IsGivenTo m words (Some input) → EndsAs (due_of (group_of m) i words input) n old new → IsClean m i words input n old new
clean_so law m lived i words input n old new there given ends = clean law m lived.0 lived.1 i words input n old new there given ends
