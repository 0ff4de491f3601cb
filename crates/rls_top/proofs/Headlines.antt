-- What comes of a command where the kept file stands for a history, from what it calls for.
use Rattle.std.proofs.Common.{◌≡◌, ◌∙◌, ◌⊎◌, ◌<◌, ◌≤◌, ℕ, Bool, true, false, ltb, List, [], ◌∷◌, length, Option, Some, None, IfSome, Result, Ok, Err, IsTrue, IsFalse, refl, sym, ap, subst, arith, inl, inr}
use Rattle.std.specs.Prelude.{encode_utf8_all, ◌&&◌, ◌==◌, nat_le, nat_lt}
use Rattle.std.proofs.lemmas.Bool.{eqb-true}
use Rattle.std.proofs.lemmas.Bool.Decides.{nat_tests}
use Rattle.rls_ident.specs.declared.limits.TheConstants.{MEMBERS, INPUT_BYTES, FILE_BYTES}
use Rattle.rls_io.specs.Device.{Appends, Keeps, Stores}
use Rattle.rls_ident.proofs.Members.{and_right}
use Rattle.rls_ops.specs.declared.message.Message.{Message}
use Rattle.rls_ops.specs.Spelling.{message_bytes}
use Rattle.rls_codec.specs.CodecLaws.{IsMessage}
use Rattle.rls_codec.specs.Reading.{message_of}
use Rattle.rls_codec.proofs.MessageFormats.{message_again}
use Rattle.rls_model.specs.declared.edit.Edit.TheVariants as edits
use Rattle.rls_model.specs.declared.parts.Parts.{Parts}
use Rattle.rls_model.specs.declared.receipt.Taken.{Taken}
use Rattle.rls_report.specs.declared.failures.LineFault.{LineFault}
use Rattle.rls_model.specs.Answers.{Reason}
use Rattle.rls_model.specs.Document.{text}
use Rattle.rls_model.specs.Machine.{Run, Done, Stopped}
use Rattle.rls_model.specs.History.{group_of, members_of}
use Rattle.rls_model.specs.Legal.{AreNumbers}
use Rattle.rls_model.specs.Parts.{parts}
use Rattle.rls_model.specs.Receiving.{State}
use Rattle.rls_model.specs.Taking.{Progress, message_for, take_message}
use Rattle.rls_seen.specs.Kept.{parts_over}
use Rattle.rls_seen.specs.Messages.{Course, taken_over}
use Rattle.rls_seen.specs.Seen.{Seen, fresh, members, idents_over}
use Rattle.rls_seen.specs.Stands.{StandsFor}
use Rattle.rls_seen.proofs.Alike.{greatest_alike, members_alike}
use Rattle.rls_seen.proofs.Keeping.{parts_alike, text_alike}
use Rattle.rls_seen.proofs.Sending.{message_alike}
use Rattle.rls_seen.proofs.Starting.{fresh_stands}
use Rattle.rls_seen.proofs.Taking.{Goes, taken_stands}
use Rattle.rls_report.specs.declared.failures.CommandError.{CommandError}
use Rattle.rls_report.specs.declared.failures.CommandError.TheVariants.{TooLarge}
use Rattle.rls_report.specs.declared.failures.CommandError.TheVariants as errors
use Rattle.rls_report.specs.Failures.{error_line, error_status}
use Rattle.rls_ident.specs.declared.epoch_name.EpochName.{EpochName}
use Rattle.rls_ident.specs.declared.tuple.Tuple.{Tuple}
use Rattle.rls_model.specs.Epochs.{greatest}
use Rattle.rls_runs.specs.Runs.{runs_of}
use Rattle.rls_seen.proofs.Editing.{idents_alike}
use Rattle.rls_report.specs.Listing.{ids_of, ids_over, ids_text}
use Rattle.rls_report.specs.Reports.{new_text, edit_text, take_text}
use Rattle.rls_report.specs.Stat.{stat_of}
use Rattle.rls_report.proofs.Numbers.{stat_alike}
use Rattle.rls_script.specs.Scripts.{script_of}
use Rattle.rls_script.specs.declared.lines.Line.{Line}
use Rattle.rls_file.specs.Files.{file_bytes}
use Rattle.rls_file.specs.SpelledFiles.{IsHead}
use Rattle.rls_file.specs.Stored.{AreWritable}
use Rattle.rls_top.specs.declared.words.Command.{Command}
use Rattle.rls_top.specs.declared.words.Command.TheVariants.{New, OnFile}
use Rattle.rls_top.specs.declared.words.FileCommand.{FileCommand}
use Rattle.rls_top.specs.declared.words.FileCommand.TheVariants.{Edit, Text, Ids, Stat, Send, Take, Leave}
use Rattle.rls_top.specs.Running.{CommandEnds}
use Rattle.rls_top.specs.Words.{command_of}
use Rattle.rls_stages.specs.KeptFile.{loaded, replica_in, saved, IsReadBack, StandsIn, Stays}
use Rattle.rls_top.specs.Due.{Due, Makes, Stops, due, due_at, due_of_run, due_of_taken, due_of_words, due_of_input, due_of_message, due_of_script, due_line, due_on, due_status, read, refused_lines, stores}
use Rattle.rls_top.specs.Due as dues
use Rattle.rls_stages.specs.Endings.{IsFault, EndsWith, Writes, or_else, own_line}
use Rattle.rls_top.specs.Endings.{IsDone, IsKept, IsPartWritten, IsStored, IsWritten, MayStore, line_at}
use Rattle.rls_top.specs.Headline.{Asks, CommandMeans, IsFileTooLong, IsReadTooLong, IsTooLong, Refuses, Saves, Shows, is_for, new_state}
use Rattle.rls_stages.specs.Lines.{allowed, allowed_by, fault_in, line_by, read_line, text_in}
use Rattle.rls_top.specs.Scripts.{leave_in, script_in}
use Rattle.rls_stages.proofs.Alike.{allowed_alike, lines_alike}
use Rattle.rls_stages.proofs.Kept.{WithinOrPast, within_or_past}
use Rattle.rls_stages.proofs.Statuses.{not_error}
use Rattle.rls_stages.proofs.Files.{IsOpened, opened, stands_stored}
use Rattle.rls_file.proofs.Storable.{fresh_writable, taken_writable}
use Rattle.rls_top.proofs.Alike.{runs_alike, stops_alike}
use Rattle.rls_top.proofs.Fresh.{fresh_short}
use Rattle.rls_top.proofs.Pieces.{is_not_sent, right_numbers}
use Rattle.rls_top.proofs.Scripts.{leave_reads_well, lines_read_well, lines_writable, script_fits}
use Rattle.rls_sync.proofs.Given.{message_given}

-- ---- limits

-- this is called for, or the end for what is too long
abbrev OrTooLong : Due → Due → Type 0 → Type 0
OrTooLong d due too_long = (d ≡ due) ⊎ (too_long × (d ≡ Stops TooLarge))

-- ---- the end

-- by the status that is called for
ends_due : (n : ℕ) (d due : Due) (too_long : Type 0) → OrTooLong d due too_long → (n ≡ due_status d) ⊎ IsFault n → EndsWith n (due_status due) too_long
ends_due n d due too_long (inl e) (inl s) = inl (s ∙ ap due_status e)
ends_due n d due too_long (inr l) (inl s) = inr (inr (s ∙ ap due_status l.1, l.0))
ends_due n d due too_long c (inr f) = inr (inl f)

-- by what was written
written_due : (d : Due) (stored : Option Seen) (report : List ℕ) (refused : List (ℕ × ℕ × Reason)) (too_long : Type 0) (old new : Option (List ℕ)) → OrTooLong d (Makes stored report refused) too_long
    → IsWritten d old new → Appends old new report
written_due d stored report refused too_long old new (inl e) w = subst (λ (x : Due). IsWritten x old new) e w
written_due d stored report refused too_long old new (inr l) w = absurd (subst (λ (x : Due). IsWritten x old new) l.1 w)

-- ---- opening

-- a command on a file that stands for a state calls for what it calls for at the replica of it, unless the file is too long
opened_due : (c : FileCommand) (bytes : List ℕ) (left : Option (List ℕ)) (t : State) (s : Seen) (d : Due) → IsOpened bytes t s → due_at c s left ≡ Some d
    → (e : Due) × (due_on c (replica_in (loaded (Some bytes))) left ≡ Some e) × OrTooLong e d (FILE_BYTES < length bytes)
opened_due c bytes left t s d o at = go (within_or_past FILE_BYTES (length bytes))
  where
    go : WithinOrPast FILE_BYTES (length bytes)
        → (e : Due) × (due_on c (replica_in (loaded (Some bytes))) left ≡ Some e) × OrTooLong e d (FILE_BYTES < length bytes)
    go (inl h) = (d, rw (h.1) (ap (λ (r : Result Seen CommandError). due_on c r left) o.found ∙ at), inl refl)
    go (inr h) = (Stops TooLarge, rw (h.1) refl, inr (h.0, refl))

-- ---- storing

-- this replica is stored, or too long
abbrev StoresOrTooLong : Due → Seen → List ℕ → List (ℕ × ℕ × Reason) → Type 0 → Type 0
StoresOrTooLong d s report refused too_long =
    ((length (file_bytes (parts_over s)) ≤ FILE_BYTES) × (d ≡ Makes (Some s) report refused)) ⊎ (too_long × (d ≡ Stops TooLarge))

stored_or_long : (s : Seen) (report : List ℕ) (refused : List (ℕ × ℕ × Reason)) → StoresOrTooLong (stores (saved s) report refused) s report refused (FILE_BYTES < length (file_bytes (parts_over s)))
stored_or_long s report refused = go (within_or_past FILE_BYTES (length (file_bytes (parts_over s))))
  where
    go : WithinOrPast FILE_BYTES (length (file_bytes (parts_over s)))
        → StoresOrTooLong (stores (saved s) report refused) s report refused (FILE_BYTES < length (file_bytes (parts_over s)))
    go (inl h) = inl (h.0, rw (h.1) refl)
    go (inr h) = inr (h.0, rw (h.1) refl)

-- what is called for at the end is called for at first, unless something before it is too long
through : (d e : Due) (s : Seen) (report : List ℕ) (refused : List (ℕ × ℕ × Reason)) (before at_last : Type 0) → OrTooLong d e before → StoresOrTooLong e s report refused at_last
    → StoresOrTooLong d s report refused (before ⊎ at_last)
through d e s report refused before at_last (inl c) (inl h) = inl (h.0, c ∙ h.1)
through d e s report refused before at_last (inl c) (inr h) = inr (inr (h.0), c ∙ h.1)
through d e s report refused before at_last (inr l) h = inr (inl (l.0), l.1)

plain : (d : Due) (s : Seen) (report : List ℕ) (refused : List (ℕ × ℕ × Reason)) (too_long : Type 0) → StoresOrTooLong d s report refused too_long → OrTooLong d (Makes (Some s) report refused) too_long
plain d s report refused too_long (inl h) = inl (h.1)
plain d s report refused too_long (inr l) = inr l

-- what the run of a command tells, where it is known what is called for
pub record Ends (d : Option Due) (file new_file : Option (Option (List ℕ))) (n : ℕ) (old new : Option (List ℕ)) (fails : Type 0) (errors_old errors_new : Option (List ℕ)) : Type 0 where
  pub status : IfSome d (λ d. (n ≡ due_status d) ⊎ IsFault n)
  pub report : IsDone n → IfSome d (λ d. IsWritten d old new)
  pub partly : n ≡ 9 → IfSome d (λ d. IsPartWritten d old new)
  pub keeps : IsStored n → IfSome d (λ d. IsKept d file new_file)
  pub line : IfSome (line_at d n) (λ line. Writes fails errors_old errors_new line)

-- of a command with these words
pub record Ran (words : List (List ℕ)) (file new_file : Option (Option (List ℕ))) (left : Option (List ℕ)) (n : ℕ) (old new : Option (List ℕ)) (fails : Type 0) (errors_old errors_new : Option (List ℕ)) : Type 0 where
  pub ends : Ends (due words file left) file new_file n old new fails errors_old errors_new
  pub nothing : (IsStored n → ⊥) → new ≡ old
  pub stays : (IsStored n → ⊥) → Stays file new_file
  pub unstored : (MayStore (command_of words) n → ⊥) → Keeps file new_file

-- once all is done the line is that of what is called for
done_line : (n : ℕ) (d : Due) (tells : List ℕ → Type 0) → IsDone n → IfSome (line_at (Some d) n) tells → tells (due_line d)
done_line n d tells (inl e) l = subst (λ (k : ℕ). IfSome (line_at (Some d) k) tells) e l
done_line n d tells (inr e) l = subst (λ (k : ℕ). IfSome (line_at (Some d) k) tells) e l

module _ {file new_file : Option (Option (List ℕ))} {n : ℕ} {old new : Option (List ℕ)} {fails : Type 0} {errors_old errors_new : Option (List ℕ)} where
  -- at what is called for
  ends_at : (d : Option Due) (e : Due) → d ≡ Some e → Ends d file new_file n old new fails errors_old errors_new → Ends (Some e) file new_file n old new fails errors_old errors_new
  ends_at d e is h = subst (λ (x : Option Due). Ends x file new_file n old new fails errors_old errors_new) is h

  saves_so : (d : Due) (s : Seen) (t : State) (report : List ℕ) (refused : List (ℕ × ℕ × Reason)) (too_long : Type 0) (kept : Option (List ℕ)) → StoresOrTooLong d s report refused too_long
      → Ends (Some d) file new_file n old new fails errors_old errors_new → file ≡ Some kept → StandsFor s t → AreWritable s → Saves n t report refused too_long fails new_file old new errors_old errors_new
  saves_so d s t report refused too_long kept c e told h w = record {
    status = ends_due n d (Makes (Some s) report refused) too_long (plain d s report refused too_long c) e.status;
    stored = λ z. stands c (e.keeps z);
    written = λ z. written_due d (Some s) report refused too_long old new (plain d s report refused too_long c) (e.report z);
    told = λ z. lines c (e.report z) (done_line n d (λ line. Writes fails errors_old errors_new line) z e.line);
  }
    where
      stands : StoresOrTooLong d s report refused too_long → IsKept d file new_file → StandsIn new_file t
      stands (inl l) k =
          let at_due : Stores file new_file (file_bytes (parts_over s)) × IsReadBack s = subst (λ (x : Due). IsKept x file new_file) l.1 k in
          let is : new_file ≡ Some (Some (file_bytes (parts_over s))) = subst (λ (f : Option (Option (List ℕ))). Stores f new_file (file_bytes (parts_over s))) told at_due.0 in
          subst (λ (f : Option (Option (List ℕ))). StandsIn f t) (sym is) (stands_stored s t h at_due.1)
      stands (inr l) k = absurd (subst (λ (x : Due). IsKept x file new_file) l.1 k)

      lines : StoresOrTooLong d s report refused too_long → IsWritten d old new → Writes fails errors_old errors_new (due_line d) → Writes fails errors_old errors_new (refused_lines refused)
      lines (inl l) k w = subst (λ (x : Due). Writes fails errors_old errors_new (due_line x)) l.1 w
      lines (inr l) k w = absurd (subst (λ (x : Due). IsWritten x old new) l.1 k)

  -- an early end has no status at which something is stored
  none_stored : (d : Due) (error : CommandError) → d ≡ Stops error → Ends (Some d) file new_file n old new fails errors_old errors_new → IsStored n → ⊥
  none_stored d error is e (inl z) = subst (λ (x : Due). IsWritten x old new) is (e.report (inl z))
  none_stored d error is e (inr (inl z)) = subst (λ (x : Due). IsWritten x old new) is (e.report (inr z))
  none_stored d error is e (inr (inr z)) = subst (λ (x : Due). IsPartWritten x old new) is (e.partly z)

  shows_so : (d : Due) (bytes report : List ℕ) → OrTooLong d (Makes None report []) (FILE_BYTES < length bytes) → Ends (Some d) file new_file n old new fails errors_old errors_new → Shows n bytes report old new
  shows_so d bytes report c e = record {
    status = ends_due n d (Makes None report []) (FILE_BYTES < length bytes) c e.status;
    written = λ z. written_due d None report [] (FILE_BYTES < length bytes) old new c (e.report (inl z));
  }

-- ---- on a file

-- what the words call for is what the command calls for on the file
on_file : (words : List (List ℕ)) (c : FileCommand) (file : Option (Option (List ℕ))) (left : Option (List ℕ)) (bytes : List ℕ) → command_of words ≡ Some (OnFile c) → file ≡ Some (Some bytes)
    → due words file left ≡ due_on c (replica_in (loaded (Some bytes))) left
on_file words c file left bytes e f = ap (λ (w : Option Command). due_of_words w file left) e ∙ ap (λ (x : Option (Option (List ℕ))). due_of_words (Some (OnFile c)) x left) f

-- a command leads from a replica that stands for one state to one that stands for another
pub record Leads (s : Seen) (r : Seen) (t : State) : Type 0 where
  pub stands : StandsFor r t
  pub writable : AreWritable r

-- the listing is that of each history that the replica stands for
pub ids_alike : (s : Seen) (t : State) → StandsFor s t → ids_over s ≡ ids_of t.history
ids_alike s t h = ap (λ (e : EpochName). ids_text e (runs_of (idents_over s))) (greatest_alike s t h) ∙ ap (λ (xs : List (List Tuple)). ids_text (greatest t.history) (runs_of xs)) (idents_alike s t h)

-- ---- the input

-- what is read of an input that isn't too long
read_or_long : (input : List ℕ) (f : List ℕ → Due) → OrTooLong (due_of_input (read input) f) (f input) (INPUT_BYTES < length input)
read_or_long input f = go (within_or_past INPUT_BYTES (length input))
  where
    go : WithinOrPast INPUT_BYTES (length input)
        → OrTooLong (due_of_input (read input) f) (f input) (INPUT_BYTES < length input)
    go (inl h) = inl (rw (h.1) refl)
    go (inr h) = inr (h.0, rw (h.1) refl)

-- what is stored after the input was read, too
read_stored : (input : List ℕ) (f : List ℕ → Due) (s : Seen) (report : List ℕ) (refused : List (ℕ × ℕ × Reason)) (at_last : Type 0) → StoresOrTooLong (f input) s report refused at_last
    → StoresOrTooLong (due_of_input (read input) f) s report refused ((INPUT_BYTES < length input) ⊎ at_last)
read_stored input f s report refused at_last stored = through (due_of_input (read input) f) (f input) s report refused (INPUT_BYTES < length input) at_last (read_or_long input f) stored

-- what is due where both sides came to their ends, which count the same
run_stored : (n : ℕ) (c : Course) (p : Progress) (report : Taken → List ℕ) → Goes n c p
    → StoresOrTooLong (stores (saved c.state) (report c.counts) c.counts.refused) c.state (report p.counts) p.counts.refused (FILE_BYTES < length (file_bytes (parts p.state)))
run_stored n c p report g =
    subst (λ (f : Taken). StoresOrTooLong (stores (saved c.state) (report c.counts) c.counts.refused) c.state (report f) f.refused (FILE_BYTES < length (file_bytes (parts p.state)))) g.counts
    (subst (λ (x : Parts). StoresOrTooLong (stores (saved c.state) (report c.counts) c.counts.refused) c.state (report c.counts) c.counts.refused (FILE_BYTES < length (file_bytes x))) (parts_alike c.state p.state g.states.1) (stored_or_long c.state (report c.counts) c.counts.refused))

-- the message is for the replica where it is for the history
for_same : (s : Seen) (t : State) (m : Message) → StandsFor s t → dues.is_for s m ≡ is_for t.history m
for_same s t m h = ap (λ n. (m.group == n) && (m.members == members s)) h.group ∙ ap (λ n. (m.group == group_of t.history) && (m.members == n)) (members_alike s t h)

pub for_alike : (s : Seen) (t : State) (m : Message) → StandsFor s t → is_for t.history m ≡ true → dues.is_for s m ≡ true
for_alike s t m h e = for_same s t m h ∙ e

-- the numbers of a fresh replica
head_numbers : (group me members : ℕ) → IsHead 1 group members me → AreNumbers group me members
head_numbers group me members h =
    let below = h.me_fits in
    let fit : nat_le members MEMBERS ≡ true = and_right (nat_lt 0 members) (nat_le members MEMBERS) h.members_fit in
    (h.group_fits, below, (let k : members ≤ MEMBERS = grind (arith, nat_tests) in k))

-- ---- what a command shows and saves

-- an end that comes before or behind another that may, too, be that something is too long
either_long : (d e f : Due) (before at_last : Type 0) → OrTooLong e f at_last → OrTooLong d e before → OrTooLong d f (before ⊎ at_last)
either_long d e f before at_last (inl c) (inl h) = inl (h ∙ c)
either_long d e f before at_last (inr l) (inl h) = inr (inr l.0, h ∙ l.1)
either_long d e f before at_last c (inr l) = inr (inl l.0, l.1)

module _ {words : List (List ℕ)} {file new_file : Option (Option (List ℕ))} {left : Option (List ℕ)} {n : ℕ} {old new : Option (List ℕ)} {fails : Type 0} {errors_old errors_new : Option (List ℕ)} (ran : Ran words file new_file left n old new fails errors_old errors_new) where
  refuses_so : (d : Due) (error : CommandError) (too_long : Type 0) → own_line (error_status error) ≡ None → OrTooLong d (Stops error) too_long → Ends (Some d) file new_file n old new fails errors_old errors_new
      → Refuses n error too_long fails file new_file old new errors_old errors_new
  refuses_so d error too_long own c e = record {
    status = ends_due n d (Stops error) too_long c e.status;
    line = λ s. line c s;
    written = ran.nothing (none c);
    kept = λ s. ran.unstored (λ m. unkept s m.1);
    stays = ran.stays (none c);
  }
    where
      none : OrTooLong d (Stops error) too_long → IsStored n → ⊥
      none (inl is) z = none_stored d error is e z
      none (inr l) z = none_stored d TooLarge l.1 e z

      unkept : n ≡ error_status error → IsStored n ⊎ (n ≡ 7) ⊎ (n ≡ 10) → ⊥
      unkept s (inl z) = none c z
      unkept s (inr (inl z)) = not_error error n 7 s z refl
      unkept s (inr (inr z)) = not_error error n 10 s z refl

      -- what is too long has another status
      other : {X : Type 0} → n ≡ error_status error → (n ≡ error_status TooLarge) ⊎ IsFault n → X
      other s (inl z) = absurd (let never : None ≡ Some (error_line TooLarge) = sym (ap own_line s ∙ own) ∙ ap own_line z in cc)
      other s (inr (inl z)) = not_error error n 7 s z refl
      other s (inr (inr (inl z))) = not_error error n 8 s z refl
      other s (inr (inr (inr (inl z)))) = not_error error n 9 s z refl
      other s (inr (inr (inr (inr z)))) = not_error error n 10 s z refl

      line : OrTooLong d (Stops error) too_long → n ≡ error_status error → Writes fails errors_old errors_new (error_line error)
      line (inl is) s = subst (λ (x : Due). Writes fails errors_old errors_new (due_line x)) is
          (subst (λ (o : Option (List ℕ)). IfSome (or_else o (Some (due_line d))) (λ line. Writes fails errors_old errors_new line)) (ap own_line s ∙ own) e.line)
      line (inr l) s = other s (subst (λ (x : Due). (n ≡ due_status x) ⊎ IsFault n) l.1 e.status)

  refused_at : {bytes : List ℕ} {t : State} {s : Seen} (c : FileCommand) (error : CommandError) (d : Due) (too_long : Type 0) → own_line (error_status error) ≡ None → Asks words c file bytes t → IsOpened bytes t s → due_at c s left ≡ Some d
      → ((e : Due) → OrTooLong e d (FILE_BYTES < length bytes) → OrTooLong e (Stops error) too_long) → Refuses n error too_long fails file new_file old new errors_old errors_new
  refused_at {bytes} {t} {s} c error d too_long own a o at long =
      let f = opened_due c bytes left t s d o at in
      refuses_so f.0 error too_long own (long f.0 f.2) (ends_at (due words file left) f.0 (on_file words c file left bytes a.command a.kept ∙ f.1) ran.ends)

  shown_at : {bytes : List ℕ} {t : State} (c : FileCommand) (report : List ℕ) → Asks words c file bytes t → ((s : Seen) → StandsFor s t → due_at c s left ≡ Some (Makes None report [])) → Shows n bytes report old new
  shown_at {bytes} {t} c report a at =
      let o = opened bytes t a.stands in
      let d = opened_due c bytes left t o.0 (Makes None report []) o.1 (at o.0 o.1.stands) in
      shows_so d.0 bytes report d.2 (ends_at (due words file left) d.0 (on_file words c file left bytes a.command a.kept ∙ d.1) ran.ends)

  saved_at : {bytes : List ℕ} {t u : State} {s r : Seen} (c : FileCommand) (report : List ℕ) (refused : List (ℕ × ℕ × Reason)) (d : Due) (too_long : Type 0) → Asks words c file bytes t → IsOpened bytes t s → due_at c s left ≡ Some d → StoresOrTooLong d r report refused too_long → Leads s r u
      → Saves n u report refused ((FILE_BYTES < length bytes) ⊎ too_long) fails new_file old new errors_old errors_new
  saved_at {bytes} {t} {u} {s} {r} c report refused d too_long a o at stored k =
      let f = opened_due c bytes left t s d o at in
      saves_so f.0 r u report refused ((FILE_BYTES < length bytes) ⊎ too_long) (Some bytes) (through f.0 d r report refused (FILE_BYTES < length bytes) too_long f.2 stored)
      (ends_at (due words file left) f.0 (on_file words c file left bytes a.command a.kept ∙ f.1) ran.ends) a.kept k.stands k.writable

  -- the same where the input was read
  read_refused : {bytes : List ℕ} {t : State} {s : Seen} (c : FileCommand) (error : CommandError) (input : List ℕ) (f : List ℕ → Due) → own_line (error_status error) ≡ None → Asks words c file bytes t → IsOpened bytes t s
      → due_at c s left ≡ Some (due_of_input (read input) f) → f input ≡ Stops error → Refuses n error (IsReadTooLong bytes input) fails file new_file old new errors_old errors_new
  read_refused {bytes} c error input f own a o at is =
      let d = due_of_input (read input) f in
      let stopped = subst (λ (x : Due). OrTooLong d x (INPUT_BYTES < length input)) is (read_or_long input f) in
      refused_at c error d (IsReadTooLong bytes input) own a o at (λ e h. either_long e d (Stops error) (FILE_BYTES < length bytes) (INPUT_BYTES < length input) stopped h)

  pub text_shown : {bytes : List ℕ} {t : State} → Asks words Text file bytes t → Shows n bytes (encode_utf8_all (text t.history)) old new
  text_shown {bytes} {t} a = shown_at Text (encode_utf8_all (text t.history)) a (λ s h. ap (λ (cs : List ℕ). Some (Makes None (encode_utf8_all cs) [])) (text_alike s t h))

  pub ids_shown : {bytes : List ℕ} {t : State} → Asks words Ids file bytes t → Shows n bytes (ids_of t.history) old new
  ids_shown {bytes} {t} a = shown_at Ids (ids_of t.history) a (λ s h. ap (λ (line : List ℕ). Some (Makes None line [])) (ids_alike s t h))

  pub stat_shown : {bytes : List ℕ} {t : State} → Asks words Stat file bytes t → Shows n bytes (stat_of t) old new
  stat_shown {bytes} {t} a = shown_at Stat (stat_of t) a (λ s h. ap (λ (lines : List ℕ). Some (Makes None lines [])) (stat_alike s t h))

  pub message_shown : {bytes : List ℕ} {t : State} {to : ℕ} → Asks words (Send to) file bytes t → to < members_of t.history → Shows n bytes (message_bytes (message_for t.history to)) old new
  message_shown {bytes} {t} {to} a l = shown_at (Send to) (message_bytes (message_for t.history to)) a sent
    where
      sent : (s : Seen) → StandsFor s t → due_at (Send to) s left ≡ Some (Makes None (message_bytes (message_for t.history to)) [])
      sent s h =
          let k = members_alike s t h in
          let below : to < members s = omega (arith, k, l) in
          let test : ltb to (members s) ≡ true = grind (arith, nat_tests) in
          rw test (ap (λ (m : Message). Some (Makes None (message_bytes m) [])) (message_alike s t to below h))

  pub edits_saved : {bytes : List ℕ} {t : State} (script : List ℕ) (lines : List Line) (p : Progress) → Asks words Edit file bytes t → left ≡ Some script → script_of script ≡ Ok lines → script_in t lines ≡ Done p
      → Saves n p.state (edit_text (length lines) p.counts.released (length p.counts.refused)) p.counts.refused (IsTooLong bytes script p.state) fails new_file old new errors_old errors_new
  edits_saved {bytes} {t} script lines p a l parsed ended =
      let o = opened bytes t a.stands in
      let s = o.0 in
      let well = lines_read_well lines (script_fits script lines parsed) in
      let r = runs_alike read_line (line_by fault_in text_in) lines_alike s t lines well o.1.stands p ended in
      let c = r.0 in
      let report = λ (f : Taken). edit_text (length lines) f.released (length f.refused) in
      let long = FILE_BYTES < length (file_bytes (parts p.state)) in
      let at_script = λ (bytes : List ℕ). due_of_script s (script_of bytes) in
      let done : at_script script ≡ due_of_run (length lines) (Done c) = ap (due_of_script s) parsed ∙ ap (due_of_run (length lines)) r.1 in
      let stored = subst (λ (d : Due). StoresOrTooLong d c.state (report p.counts) p.counts.refused long) (sym done) (run_stored (members s) c p report r.2) in
      let w = lines_writable read_line s lines c well o.1.sane o.1.writable r.1 in
      saved_at Edit (report p.counts) p.counts.refused (due_of_input (read script) at_script) ((INPUT_BYTES < length script) ⊎ long) a o.1
      (ap (due_at Edit s) l) (read_stored script at_script c.state (report p.counts) p.counts.refused long stored) (record { stands = r.2.states.1; writable = w.1 })

  pub leave_saved : {bytes : List ℕ} {t : State} (p : Progress) → Asks words Leave file bytes t → leave_in t ≡ Done p
      → Saves n p.state (edit_text 1 p.counts.released (length p.counts.refused)) p.counts.refused (IsFileTooLong bytes p.state) fails new_file old new errors_old errors_new
  leave_saved {bytes} {t} p a ended =
      let o = opened bytes t a.stands in
      let s = o.0 in
      let r = runs_alike allowed (allowed_by fault_in) allowed_alike s t (edits.Leave ∷ []) leave_reads_well o.1.stands p ended in
      let report = λ (f : Taken). edit_text 1 f.released (length f.refused) in
      let done : due_at Leave s left ≡ Some (due_of_run 1 (Done r.0)) = ap (λ (x : Run Seen LineFault). Some (due_of_run 1 x)) r.1 in
      let w = lines_writable allowed s (edits.Leave ∷ []) r.0 leave_reads_well o.1.sane o.1.writable r.1 in
      saved_at Leave (report p.counts) p.counts.refused (due_of_run 1 (Done r.0)) (FILE_BYTES < length (file_bytes (parts p.state))) a o.1
      done (run_stored (members s) r.0 p report r.2) (record { stands = r.2.states.1; writable = w.1 })

  pub edits_refused : {bytes : List ℕ} {t : State} (script : List ℕ) (lines : List Line) (k : ℕ) (fault : LineFault) → Asks words Edit file bytes t → left ≡ Some script → script_of script ≡ Ok lines → script_in t lines ≡ Stopped k fault
      → Refuses n (errors.Edit k fault) (IsReadTooLong bytes script) fails file new_file old new errors_old errors_new
  edits_refused {bytes} {t} script lines k fault a l parsed ended =
      let o = opened bytes t a.stands in
      let s = o.0 in
      let well = lines_read_well lines (script_fits script lines parsed) in
      let stopped = stops_alike read_line (line_by fault_in text_in) lines_alike s t lines well o.1.stands k fault ended in
      read_refused Edit (errors.Edit k fault) script (λ (bytes : List ℕ). due_of_script s (script_of bytes)) refl a o.1 (ap (due_at Edit s) l) (ap (due_of_script s) parsed ∙ ap (due_of_run (length lines)) stopped)

  pub script_refused : {bytes : List ℕ} {t : State} (script : List ℕ) (k : ℕ) → Asks words Edit file bytes t → left ≡ Some script → script_of script ≡ Err k
      → Refuses n (errors.BadLine k) (IsReadTooLong bytes script) fails file new_file old new errors_old errors_new
  script_refused {bytes} {t} script k a l parsed =
      let o = opened bytes t a.stands in
      read_refused Edit (errors.BadLine k) script (λ (bytes : List ℕ). due_of_script o.0 (script_of bytes)) refl a o.1 (ap (due_at Edit o.0) l) (ap (due_of_script o.0) parsed)

  pub leave_refused : {bytes : List ℕ} {t : State} (k : ℕ) (fault : LineFault) → Asks words Leave file bytes t → leave_in t ≡ Stopped k fault
      → Refuses n (errors.Edit k fault) (FILE_BYTES < length bytes) fails file new_file old new errors_old errors_new
  leave_refused {bytes} {t} k fault a ended =
      let o = opened bytes t a.stands in
      let s = o.0 in
      let stopped = stops_alike allowed (allowed_by fault_in) allowed_alike s t (edits.Leave ∷ []) leave_reads_well o.1.stands k fault ended in
      refused_at Leave (errors.Edit k fault) (Stops (errors.Edit k fault)) (FILE_BYTES < length bytes) refl a o.1 (ap (λ (x : Run Seen LineFault). Some (due_of_run 1 x)) stopped) (λ e h. h)

  pub send_refused : {bytes : List ℕ} {t : State} {to : ℕ} → Asks words (Send to) file bytes t → members_of t.history ≤ to
      → Refuses n (errors.NotMember to) (FILE_BYTES < length bytes) fails file new_file old new errors_old errors_new
  send_refused {bytes} {t} {to} a l =
      let o = opened bytes t a.stands in
      let k = members_alike o.0 t o.1.stands in
      refused_at (Send to) (errors.NotMember to) (Stops (errors.NotMember to)) (FILE_BYTES < length bytes) refl a o.1 (ap (λ (d : Due). Some d) (is_not_sent o.0 to (omega (arith, k, l)))) (λ e h. h)

  pub bytes_refused : {bytes : List ℕ} {t : State} (given : List ℕ) (at : ℕ) → Asks words Take file bytes t → left ≡ Some given → message_of given ≡ Err at
      → Refuses n (errors.Malformed at) (IsReadTooLong bytes given) fails file new_file old new errors_old errors_new
  bytes_refused {bytes} {t} given at a l malformed =
      let o = opened bytes t a.stands in
      read_refused Take (errors.Malformed at) given (λ (bytes : List ℕ). due_of_message o.0 (message_of bytes)) refl a o.1 (ap (due_at Take o.0) l) (ap (due_of_message o.0) malformed)

  pub message_refused : {bytes : List ℕ} {t : State} (given : List ℕ) (m : Message) → Asks words Take file bytes t → left ≡ Some given → IsMessage given m → IsFalse (is_for t.history m)
      → Refuses n (errors.OtherGroup m.group m.members) (IsReadTooLong bytes given) fails file new_file old new errors_old errors_new
  message_refused {bytes} {t} given m a l is other =
      let o = opened bytes t a.stands in
      read_refused Take (errors.OtherGroup m.group m.members) given (λ (bytes : List ℕ). due_of_message o.0 (message_of bytes)) refl a o.1 (ap (due_at Take o.0) l) (rw (message_again given m is, for_same o.0 t m o.1.stands ∙ other) refl)

  pub message_saved : {bytes : List ℕ} {t : State} (given : List ℕ) (m : Message) → Asks words Take file bytes t → left ≡ Some given → IsMessage given m → IsTrue (is_for t.history m) → let p = take_message t m in
      Saves n p.state (take_text p.counts.applied p.counts.released p.counts.repeated p.counts.held (length p.counts.refused)) p.counts.refused (IsTooLong bytes given p.state) fails new_file old new errors_old errors_new
  message_saved {bytes} {t} given m a l is right =
      let o = opened bytes t a.stands in
      let s = o.0 in
      let p = take_message t m in
      let as_many : m.members ≡ members s = eqb-true m.members (members_of t.history) (and_right (m.group == group_of t.history) (m.members == members_of t.history) right) ∙ sym (members_alike s t o.1.stands) in
      let g = taken_stands None s t m (message_given given m (members s) is as_many) o.1.stands in
      let c = taken_over s m in
      let report = λ (f : Taken). take_text f.applied f.released f.repeated f.held (length f.refused) in
      let long = FILE_BYTES < length (file_bytes (parts p.state)) in
      let at_message = λ (bytes : List ℕ). due_of_message s (message_of bytes) in
      let done : at_message given ≡ due_of_taken c = rw (message_again given m is, for_alike s t m o.1.stands right) refl in
      let stored = subst (λ (d : Due). StoresOrTooLong d c.state (report p.counts) p.counts.refused long) (sym done) (run_stored (members s) c p report g) in
      let w = taken_writable s given m o.1.sane o.1.writable is as_many in
      saved_at Take (report p.counts) p.counts.refused (due_of_input (read given) at_message) ((INPUT_BYTES < length given) ⊎ long) a o.1
      (ap (due_at Take s) l) (read_stored given at_message c.state (report p.counts) p.counts.refused long stored) (record { stands = g.states.1; writable = w.1 })

  pub new_saved : (group me members : ℕ) → command_of words ≡ Some (New group me members) → file ≡ Some None → IsHead 1 group members me → Saves n (new_state group me members) (new_text group me members) [] ⊥ fails new_file old new errors_old errors_new
  new_saved group me members command missing head =
      let numbers = head_numbers group me members head in
      let s = fresh group me members in
      let right = right_numbers group me members numbers in
      let few = fresh_short group me members numbers in
      let short : nat_lt FILE_BYTES (length (file_bytes (parts_over s))) ≡ false = grind (arith, nat_tests) in
      let d : Due = Makes (Some s) (new_text group me members) [] in
      let is : due words file left ≡ Some d = ap (λ (w : Option Command). due_of_words w file left) command ∙ (ap (λ (x : Option (Option (List ℕ))). due_of_words (Some (New group me members)) x left) missing ∙ rw (right.0, short) refl) in
      saves_so d s (new_state group me members) (new_text group me members) [] ⊥ None (inl (few, refl)) (ends_at (due words file left) d is ran.ends) missing
      (fresh_stands group me members numbers) (fresh_writable group me members)

-- ---- all of it

-- what a command means, by how it ended and what line it wrote
pub means_so : {K S W : Type 0} {file_of : K → Option (Option (List ℕ))} {keeper_faults : K → ℕ} {load : K → Bool → K → Type 0} {store : K → List ℕ → Bool → K → Type 0} {left_of : S → Option (List ℕ)} {input_faults : S → ℕ} {told_of : W → Option (List ℕ)} {output_faults : W → ℕ} {fails : Type 0} {errors new_errors : Option (List ℕ)}
    (words : List (List ℕ)) (n : ℕ) (k l : K) (i j : S) (o p : W) → CommandEnds file_of keeper_faults load store left_of input_faults told_of output_faults words n k l i j o p
    → IfSome (line_at (due words (file_of k) (left_of i)) n) (λ line. Writes fails errors new_errors line) → CommandMeans words n (file_of k) (file_of l) (left_of i) (told_of o) (told_of p) fails errors new_errors
means_so {K} {S} {W} {file_of} {keeper_faults} {load} {store} {left_of} {input_faults} {told_of} {output_faults} {fails} {errors} {new_errors} words n k l i j o p e line =
    let ran : Ran words (file_of k) (file_of l) (left_of i) n (told_of o) (told_of p) fails errors new_errors = record {
      ends = record { status = e.status; report = e.report; partly = e.partly; keeps = e.file; line = line };
      nothing = e.nothing;
      stays = e.stays;
      unstored = e.unstored;
    } in
    record {
      text = λ t bytes a. text_shown ran a;
      ids = λ t bytes a. ids_shown ran a;
      stat = λ t bytes a. stat_shown ran a;
      send = λ t bytes to a h. message_shown ran a h;
      edit = λ t bytes script lines p a l parsed ended. edits_saved ran script lines p a l parsed ended;
      leave = λ t bytes p a ended. leave_saved ran p a ended;
      take = λ t bytes given m a l is right. message_saved ran given m a l is right;
      new = new_saved ran;
      send_refused = λ t bytes to a l. send_refused ran a l;
      script_refused = λ t bytes script k a l parsed. script_refused ran script k a l parsed;
      edit_refused = λ t bytes script lines k fault a l parsed ended. edits_refused ran script lines k fault a l parsed ended;
      leave_refused = λ t bytes k fault a ended. leave_refused ran k fault a ended;
      bytes_refused = λ t bytes given at a l malformed. bytes_refused ran given at a l malformed;
      message_refused = λ t bytes given m a l is other. message_refused ran given m a l is other;
    }
