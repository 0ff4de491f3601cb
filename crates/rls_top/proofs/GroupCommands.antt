-- A command of a member of a group: what it calls for, and the history that the stored file stands for.
use Rattle.std.proofs.Common.{◌≡◌, ◌≤◌, ◌<◌, ℕ, Bool, true, false, List, [], ◌∷◌, length, refl, sym, ap, ◌∙◌, subst, inl, inr, ⊎_elim}
use Rattle.std.specs.Prelude.{Option, Some, None, IsSomeAnd, Result, Ok, Err, ◌==◌, nat_lt, if◌then◌else◌}
use Rattle.rls_ident.specs.declared.limits.TheConstants.{INPUT_BYTES, FILE_BYTES}
use Rattle.rls_ident.specs.Lists.{IsIn}
use Rattle.rls_ident.proofs.Members.{and_true, eq_test, lt_is, not_lt_is, not_lt_test}
use Rattle.rls_ops.specs.declared.message.Message.{Message}
use Rattle.rls_ops.specs.Spelling.{message_bytes}
use Rattle.rls_codec.specs.CodecLaws.{IsMessage}
use Rattle.rls_codec.specs.Reading.{message_of}
use Rattle.rls_codec.proofs.MessageFormats.{message_again}
use Rattle.rls_codec.proofs.SizeLaws.{message_length}
use Rattle.rls_model.specs.declared.edit.Edit as model
use Rattle.rls_model.specs.declared.edit.Edit.TheVariants as edits
use Rattle.rls_model.specs.declared.receipt.Taken.{Taken}
use Rattle.rls_model.specs.Answers.{Reason}
use Rattle.rls_model.specs.EditRun as histories
use Rattle.rls_model.specs.History.{group_of, members_of}
use Rattle.rls_model.specs.Laws.{IsAt, IsFront}
use Rattle.rls_model.specs.Machine.{Run, Done, Stopped, no_counts}
use Rattle.rls_model.specs.Parts.{parts}
use Rattle.rls_model.specs.Receiving.{State}
use Rattle.rls_model.specs.Taking.{Progress, message_for, take_message}
use Rattle.rls_model.specs.Worlds.{World}
use Rattle.rls_model.proofs.WorldsCommands.{Does, Rests, Runs, Writes, Reads, Stands, does_stands, lines_on, with_done}
use Rattle.rls_model.proofs.HistoryNumbers.{front_self}
use Rattle.rls_model.proofs.WorldsPast.{taking_goes_on}
use Rattle.rls_model.proofs.WorldsEdits.{AllReadWell}
use Rattle.rls_seen.specs.Messages.{Course, message_over, taken_over}
use Rattle.rls_seen.specs.Sane.{IsSane}
use Rattle.rls_seen.specs.Seen.{Seen, members}
use Rattle.rls_seen.specs.Stands.{StandsFor}
use Rattle.rls_seen.proofs.Alike.{members_alike}
use Rattle.rls_seen.proofs.Keeping.{parts_alike}
use Rattle.rls_seen.proofs.Sending.{message_alike, message_fits}
use Rattle.rls_seen.proofs.Taking.{taken_stands}
use Rattle.rls_file.specs.Files.{file_bytes}
use Rattle.rls_file.specs.Storable.{IsStorable}
use Rattle.rls_file.specs.Kept.{ReadsWell}
use Rattle.rls_file.specs.Stored.{AreWritable}
use Rattle.rls_file.proofs.HistoryFields.{storable_again}
use Rattle.rls_file.proofs.HistoryMessages.{sent_is_message}
use Rattle.rls_file.proofs.HistoryRuns.{lines_storable, taken_storable}
use Rattle.rls_file.proofs.Storable.{taken_writable}
use Rattle.rls_report.specs.Reports.{edit_text, take_text}
use Rattle.rls_report.specs.declared.failures.CommandError.{CommandError}
use Rattle.rls_report.specs.declared.failures.CommandError.TheVariants.{NotMember, TooLarge}
use Rattle.rls_report.specs.declared.failures.LineFault.{LineFault}
use Rattle.rls_script.specs.Scripts.{script_of}
use Rattle.rls_script.specs.declared.lines.Line.{Line}
use Rattle.rls_stages.specs.KeptFile.{IsFileFor, bytes_over, loaded, replica_in, saved}
use Rattle.rls_stages.specs.Lines.{allowed, allowed_by, fault_in, line_by, read_line, text_in}
use Rattle.rls_stages.proofs.Alike.{ReadsAlike, allowed_alike, lines_alike}
use Rattle.rls_stages.proofs.Files.{IsOpened, opened, stands_stored}
use Rattle.rls_stages.proofs.Meant.{IsMeantWell, allowed_well, line_well}
use Rattle.rls_top.specs.declared.words.Command.{Command}
use Rattle.rls_top.specs.declared.words.Command.TheVariants.{New, OnFile, Trial}
use Rattle.rls_top.specs.declared.words.FileCommand.{FileCommand}
use Rattle.rls_top.specs.declared.words.FileCommand.TheVariants.{Edit, Text, Ids, Stat, Send, Take, Leave}
use Rattle.rls_top.specs.Due.{Due, Makes, Stops, NoCommand, due_at, due_of_fresh, due_of_ids, due_of_input, due_of_message, due_of_new, due_of_run, due_of_script, due_of_send, due_of_stat, due_of_taken, due_of_text, due_of_words, due_on, error_of_numbers, read, shows, stores}
use Rattle.rls_top.specs.Groups.{IsMadeOrLong, IsOfEditsAlone, messages_in, messages_of, refused_in, stored_in}
use Rattle.rls_top.specs.Headline.{is_for}
use Rattle.rls_top.specs.Scripts.{leave_in, run_lines, script_in}
use Rattle.rls_top.proofs.Alike.{runs_told}
use Rattle.rls_top.proofs.EditsAlone.{lines_alone}
use Rattle.rls_top.proofs.Headlines.{for_alike}
use Rattle.rls_top.proofs.Scripts.{AreLines, leave_reads_well, line_in, lines_read_well, lines_writable, script_fits}
use Rattle.rls_sync.proofs.Given.{message_given}

-- ---- files

-- a file that a member keeps at this state
pub record IsKeptFor (bytes : List ℕ) (t : State) : Type 0 where
  pub stands : IsFileFor bytes t
  pub short : length bytes ≤ FILE_BYTES
  pub storable : IsStorable t

-- a replica whose file is short is stored as such a file
pub kept_for : (s : Seen) (t : State) → StandsFor s t → IsSane s → AreWritable s → IsStorable t → length (bytes_over s) ≤ FILE_BYTES → IsKeptFor (bytes_over s) t
kept_for s t h sane w k few = record { stands = stands_stored s t h (storable_again s t h sane w k few); short = few; storable = k }

-- the bytes that are kept when this replica's file is stored, if one is
abbrev pub bytes_with : Option Seen → List ℕ → List ℕ
bytes_with None bytes = bytes
bytes_with (Some s) bytes = bytes_over s

-- a file that isn't too long is opened as a replica
pub opened_at : (bytes : List ℕ) (s : Seen) → length bytes ≤ FILE_BYTES → replica_in (Ok (Some bytes)) ≡ Ok s → replica_in (loaded (Some bytes)) ≡ Ok s
opened_at bytes s short e = rw (not_lt_test FILE_BYTES (length bytes) short) e

-- what is read once is read as one thing
pub same_ok : {X E : Type 0} (r : Result X E) (y z : X) → r ≡ Ok y → r ≡ Ok z → y ≡ z
same_ok r y z e f = cc

-- ---- lines over a history

told_well : (ls : List Line) → AreLines ls → AllReadWell (line_by fault_in text_in) ls
told_well ls a l p t edit e = subst (IsMeantWell fault_in t) e (line_well fault_in text_in t l (line_in ls l a p))

leave_well : AllReadWell (allowed_by fault_in) (edits.Leave ∷ [])
leave_well l (inl p) t edit e = subst (IsMeantWell fault_in t) e (subst (λ (x : model.Edit). IsMeantWell fault_in t (allowed_by fault_in t x)) p (allowed_well fault_in text_in t edits.Leave tt))
leave_well l (inr p) t edit e = absurd p

-- ---- a command of the member at this state, over this file

-- what a command makes of the state by storing a file, with this report
abbrev pub MakesOf : Option Command → List ℕ → State → List ℕ → State → Type 0
MakesOf (Some (OnFile Edit)) input t report u =
    (lines : List Line) × (p : Progress) × (script_of input ≡ Ok lines) × AllReadWell (line_by fault_in text_in) lines × (script_in t lines ≡ Done p) × (p.state ≡ u) × (report ≡ edit_text (length lines) p.counts.released (length p.counts.refused))
MakesOf (Some (OnFile Leave)) input t report u = (p : Progress) × AllReadWell (allowed_by fault_in) (edits.Leave ∷ []) × (leave_in t ≡ Done p) × (p.state ≡ u) × (report ≡ edit_text 1 p.counts.released (length p.counts.refused))
MakesOf (Some (OnFile Take)) input t report u = (m : Message) × IsMessage input m × ((take_message t m).state ≡ u)
MakesOf c input t report u = ⊥

-- the state after it
abbrev pub Comes : Option Command → List ℕ → State → Due → State → Type 0
Comes c input t NoCommand u = t ≡ u
Comes c input t (Makes None report refused) u = t ≡ u
Comes c input t (Makes (Some s) report refused) u = MakesOf c input t report u
Comes c input t (Stops e) u = t ≡ u

pub record Leads (g n : ℕ) (w : World) (i : ℕ) (t : State) (bytes input : List ℕ) (c : Option Command) (d : Due) : Type 0 where
  pub state : State
  pub out : List Message
  pub clean : refused_in d ≡ []
  pub stands : Stands g n (with_done w i state out)
  pub front : IsFront t.history state.history
  pub kept : IsKeptFor (bytes_with (stored_in d) bytes) state
  pub written : (b : List ℕ) → IsIn b (messages_in c d) → (m : Message) × IsIn m out × IsMessage b m × (length b ≤ INPUT_BYTES)
  pub comes : Comes c input t d state

module _ (g n : ℕ) (w : World) (i : ℕ) (t : State) (bytes input : List ℕ) (a : Stands g n w) (h : IsAt w i t) (k : IsKeptFor bytes t) where
  unstored : (c : Option Command) (d : Due) → stored_in d ≡ None → Comes c input t d t
  unstored c NoCommand e = refl
  unstored c (Makes None report refused) e = refl
  unstored c (Makes (Some s) report refused) e = absurd (cc)
  unstored c (Stops x) e = refl

  -- nothing is stored
  quiet : (c : Option Command) (d : Due) → stored_in d ≡ None → refused_in d ≡ [] → messages_in c d ≡ [] → Leads g n w i t bytes input c d
  quiet c d e f o = record {
    state = t;
    out = [];
    clean = f;
    stands = (does_stands histories.read_edit g n w i t t [] [] a h (Rests refl refl refl)).1;
    front = front_self t.history;
    kept = subst (λ (x : Option Seen). IsKeptFor (bytes_with x bytes) t) (sym e) k;
    written = λ b p. absurd (subst (λ (xs : List (List ℕ)). IsIn b xs) o p);
    comes = unstored c d e;
  }

  stops : (c : Option Command) (e : CommandError) → Leads g n w i t bytes input c (Stops e)
  stops c e = quiet c (Stops e) refl refl refl

  -- what is due over the kept file
  abbrev LeadsTo : Option Command → Option Due → Type 0
  LeadsTo c o = (d : Due) × (o ≡ Some d) × Leads g n w i t bytes input c d

  -- what is known of a state that is to be stored
  record IsNext {L F : Type 0} (reads : State → L → Result model.Edit F) (s : Seen) (u : State) (refused : List (ℕ × ℕ × Reason)) : Type 0 where
    stands : StandsFor s u
    sane : IsSane s
    writable : AreWritable s
    storable : IsStorable u
    front : IsFront t.history u.history
    does : Does reads w.sent t u refused []

  saves : {L F : Type 0} (reads : State → L → Result model.Edit F) (c : Option Command) (s : Seen) (u : State) (report : List ℕ) (refused : List (ℕ × ℕ × Reason)) → messages_of c report ≡ [] → MakesOf c input t report u → IsNext reads s u refused →
      Leads g n w i t bytes input c (stores (saved s) report refused)
  saves reads c s u report refused e makes x = go (nat_lt FILE_BYTES (length (bytes_over s))) refl
    where
      go : (long : Bool) → nat_lt FILE_BYTES (length (bytes_over s)) ≡ long → Leads g n w i t bytes input c (stores (if long then Err TooLarge else Ok s) report refused)
      go true f = stops c TooLarge
      go false f =
          let r = does_stands reads g n w i t u refused [] a h x.does in
          record {
            state = u;
            out = [];
            clean = r.0;
            stands = r.1;
            front = x.front;
            kept = kept_for s u x.stands x.sane x.writable x.storable (not_lt_is FILE_BYTES (length (bytes_over s)) f);
            written = λ b p. absurd (subst (λ (xs : List (List ℕ)). IsIn b xs) e p);
            comes = makes;
          }

  -- ---- at the replica of the file

  module _ (s : Seen) (o : IsOpened bytes t s) where
    -- lines are run
    runs : {L : Type 0} (reads : Seen → L → Result model.Edit LineFault) (tells : State → L → Result model.Edit LineFault) → ReadsAlike reads tells → (c : Option Command) (size : ℕ) (ls : List L) → ((report : List ℕ) → messages_of c report ≡ []) →
        ((p : Progress) → histories.run_lines tells t ls ≡ Done p → MakesOf c input t (edit_text size p.counts.released (length p.counts.refused)) p.state) → ReadsWell reads ls → AllReadWell tells ls → Leads g n w i t bytes input c (due_of_run size (run_lines reads s ls))
    runs {L = L} reads tells alike c size ls none made well all = go (run_lines reads s ls) refl
      where
        go : (r : Run Seen LineFault) → run_lines reads s ls ≡ r → Leads g n w i t bytes input c (due_of_run size r)
        go (Stopped line fault) e = stops c _
        go (Done x) e =
            let q = runs_told reads tells alike s t ls well o.stands x e in
            let p = q.0 in
            let v = lines_writable reads s ls x well o.sane o.writable e in
            let report = edit_text size x.counts.released (length x.counts.refused) in
            saves tells c x.state p.state report x.counts.refused (none report) (subst (λ (f : Taken). MakesOf c input t (edit_text size f.released (length f.refused)) p.state) (sym q.2.counts) (made p q.1)) (record {
              stands = q.2.states.1;
              sane = v.0;
              writable = v.1;
              storable = lines_storable tells t ls p all k.storable q.1;
              front = lines_on tells t p ls q.1;
              does = Runs ls p all q.1 refl (ap (λ (f : Taken). f.refused) q.2.counts) refl;
            })

    -- and release nothing
    runs_alone : {L : Type 0} (reads : Seen → L → Result model.Edit LineFault) (tells : State → L → Result model.Edit LineFault) → ReadsAlike reads tells → (size : ℕ) (ls : List L) → ReadsWell reads ls → AllReadWell tells ls → IsOfEditsAlone (due_of_run size (run_lines reads s ls))
    runs_alone reads tells alike size ls well all = go (run_lines reads s ls) refl
      where
        kept : (x : Seen) (counts : Taken) (long : Bool) → counts ≡ no_counts → IsOfEditsAlone (stores (if long then Err TooLarge else Ok x) (edit_text size counts.released (length counts.refused)) counts.refused)
        kept x counts true e = tt
        kept x counts false e = (size, ap (λ (f : Taken). edit_text size f.released (length f.refused)) e)

        go : (r : Run Seen LineFault) → run_lines reads s ls ≡ r → IsOfEditsAlone (due_of_run size r)
        go (Stopped line fault) e = tt
        go (Done x) e =
            let q = runs_told reads tells alike s t ls well o.stands x e in
            kept x.state x.counts (nat_lt FILE_BYTES (length (bytes_over x.state))) (q.2.counts ∙ lines_alone tells w i t q.0 ls a.good h (k.storable).rest all q.1)

    -- what is due after a script, by its lines
    script_due : (P : Due → Type 0) → ((e : CommandError) → P (Stops e)) → ((lines : List Line) → script_of input ≡ Ok lines → AreLines lines → P (due_of_run (length lines) (run_lines read_line s lines))) → P (due_of_input (read input) (λ bytes. due_of_script s (script_of bytes)))
    script_due P ends runs = go (nat_lt INPUT_BYTES (length input))
      where
        parsed : (r : Result (List Line) ℕ) → script_of input ≡ r → P (due_of_script s r)
        parsed (Ok lines) e = runs lines e (script_fits input lines e)
        parsed (Err line) e = ends _

        go : (long : Bool) → P (due_of_input (if long then Err TooLarge else Ok input) (λ bytes. due_of_script s (script_of bytes)))
        go true = ends TooLarge
        go false = parsed (script_of input) refl

    edits_lead : LeadsTo (Some (OnFile Edit)) (due_at Edit s (Some input))
    edits_lead = let c : Option Command = Some (OnFile Edit) in (
      _,
      refl,
      script_due (Leads g n w i t bytes input c) (stops c) (λ lines e fits. runs read_line (line_by fault_in text_in) lines_alike c (length lines) lines (λ report. refl) (λ p f. (lines, p, e, told_well lines fits, f, refl, refl)) (lines_read_well lines fits) (told_well lines fits)),
    )

    pub edits_alone : IsSomeAnd (due_at Edit s (Some input)) IsOfEditsAlone
    edits_alone = script_due IsOfEditsAlone (λ e. tt) (λ lines e fits. runs_alone read_line (line_by fault_in text_in) lines_alike (length lines) lines (lines_read_well lines fits) (told_well lines fits))

    pub leave_alone : IsOfEditsAlone (due_of_run 1 (run_lines allowed s (edits.Leave ∷ [])))
    leave_alone = runs_alone allowed (allowed_by fault_in) allowed_alike 1 (edits.Leave ∷ []) leave_reads_well leave_well

    leave_leads : Leads g n w i t bytes input (Some (OnFile Leave)) (due_of_run 1 (run_lines allowed s (edits.Leave ∷ [])))
    leave_leads = runs allowed (allowed_by fault_in) allowed_alike (Some (OnFile Leave)) 1 (edits.Leave ∷ []) (λ report. refl) (λ p e. (p, leave_well, e, refl, refl)) leave_reads_well leave_well

    send_leads : (to : ℕ) → Leads g n w i t bytes input (Some (OnFile (Send to))) (due_of_send s to)
    send_leads to = go (nat_lt to (members s)) refl
      where
        c : Option Command
        c = Some (OnFile (Send to))

        go : (known : Bool) → nat_lt to (members s) ≡ known → Leads g n w i t bytes input c (if known then shows (message_bytes (message_over s to)) else Stops (NotMember to))
        go false e = stops c _
        go true e =
            let m = message_for t.history to in
            let same : message_bytes (message_over s to) ≡ message_bytes m = ap message_bytes (message_alike s t to (lt_is to (members s) e) o.stands) in
            let short : length (message_bytes (message_over s to)) ≤ INPUT_BYTES = subst (λ (x : ℕ). x ≤ INPUT_BYTES) (sym (message_length 3 (message_over s to))) (message_fits s to (o.sane).few) in
            record {
              state = t;
              out = m ∷ [];
              clean = refl;
              stands = (does_stands histories.read_edit g n w i t t [] (m ∷ []) a h (Writes to refl refl refl)).1;
              front = front_self t.history;
              kept = k;
              written = λ b p. ⊎_elim (λ q. (m, inl refl, subst (λ (x : List ℕ). IsMessage x m) (sym same ∙ q) (sent_is_message t to k.storable), subst (λ (x : List ℕ). length x ≤ INPUT_BYTES) q short)) (λ q. absurd q) p;
              comes = refl;
            }

    -- a message that was written
    module _ (m : Message) (p : IsIn m w.sent) (is : IsMessage input m) where
      right : is_for t.history m ≡ true
      right =
          let r = (a.belongs).state i t h in
          let q = (a.belongs).message m p in
          and_true (m.group == group_of t.history) (m.members == members_of t.history) (eq_test m.group (group_of t.history) (q.0 ∙ sym r.0)) (eq_test m.members (members_of t.history) (q.1 ∙ sym r.1))

      as_many : m.members ≡ members_of t.history
      as_many = ((a.belongs).message m p).1 ∙ sym ((a.belongs).state i t h).1

      message_due : due_of_message s (message_of input) ≡ due_of_taken (taken_over s m)
      message_due = rw (message_again input m is, for_alike s t m o.stands right) refl

      taken_leads : Leads g n w i t bytes input (Some (OnFile Take)) (due_of_taken (taken_over s m))
      taken_leads =
          let x = taken_over s m in
          let u = take_message t m in
          let many : m.members ≡ members s = as_many ∙ sym (members_alike s t o.stands) in
          let q = taken_stands None s t m (message_given input m (members s) is many) o.stands in
          let v = taken_writable s input m o.sane o.writable is many in
          saves histories.read_edit (Some (OnFile Take)) x.state u.state (take_text x.counts.applied x.counts.released x.counts.repeated x.counts.held (length x.counts.refused)) x.counts.refused refl (m, is, refl) (record {
            stands = q.states.1;
            sane = v.0;
            writable = v.1;
            storable = taken_storable t input m is as_many k.storable;
            front = taking_goes_on None t m;
            does = Reads m p refl (ap (λ (f : Taken). f.refused) q.counts) refl;
          })

      take_leads : LeadsTo (Some (OnFile Take)) (due_at Take s (Some input))
      take_leads = (_, refl, go (nat_lt INPUT_BYTES (length input)))
        where
          go : (long : Bool) → Leads g n w i t bytes input (Some (OnFile Take)) (due_of_input (if long then Err TooLarge else Ok input) (λ bytes. due_of_message s (message_of bytes)))
          go true = stops (Some (OnFile Take)) TooLarge
          go false = subst (Leads g n w i t bytes input (Some (OnFile Take))) (sym message_due) taken_leads

      -- the file that is then to be stored is that of each history that the kept file stands for
      taken_file : (u : State) (x : Message) → IsFileFor bytes u → IsMessage input x → bytes_over (taken_over s m).state ≡ file_bytes (parts (take_message u x).state)
      taken_file u x f same =
          let v = opened bytes u f in
          let one : s ≡ v.0 = same_ok (replica_in (Ok (Some bytes))) s v.0 o.found v.1.found in
          let is_x : m ≡ x = same_ok (message_of input) m x (message_again input m is) (message_again input x same) in
          let q = taken_stands None s u m (message_given input m (members s) is (as_many ∙ sym (members_alike s t o.stands))) (subst (λ (y : Seen). StandsFor y u) (sym one) v.1.stands) in
          ap file_bytes (parts_alike (taken_over s m).state (take_message u m).state q.states.1) ∙ ap (λ (y : Message). file_bytes (parts (take_message u y).state)) is_x

      -- and it is taken, unless that is too long
      pub take_makes : length input ≤ INPUT_BYTES → (too_long : Type 0) → (((u : State) (x : Message) → IsFileFor bytes u → IsMessage input x → FILE_BYTES < length (file_bytes (parts (take_message u x).state))) → too_long)
          → IsSomeAnd (due_at Take s (Some input)) (IsMadeOrLong too_long)
      take_makes few too_long told = rw (not_lt_test INPUT_BYTES (length input) few) (subst (IsMadeOrLong too_long) (sym message_due) (kept (nat_lt FILE_BYTES (length (bytes_over c.state))) refl))
        where
          c : Course
          c = taken_over s m

          kept : (long : Bool) → nat_lt FILE_BYTES (length (bytes_over c.state)) ≡ long → IsMadeOrLong too_long (stores (if long then Err TooLarge else Ok c.state) (take_text c.counts.applied c.counts.released c.counts.repeated c.counts.held (length c.counts.refused)) c.counts.refused)
          kept true e = (refl, told (λ u x f same. subst (λ (b : List ℕ). FILE_BYTES < length b) (taken_file u x f same) (lt_is FILE_BYTES (length (bytes_over c.state)) e)))
          kept false e = tt

  -- ---- by the command

  new_leads : (group me members : ℕ) → LeadsTo (Some (New group me members)) (due_of_new (error_of_numbers me members) group me members (Some (Some bytes)))
  new_leads group me members = go (error_of_numbers me members)
    where
      c : Option Command
      c = Some (New group me members)

      on_file : (long : Bool) → Leads g n w i t bytes input c (due_of_fresh group me members (if long then Err TooLarge else Ok (Some bytes)))
      on_file true = stops c TooLarge
      on_file false = stops c _

      go : (e : Option CommandError) → LeadsTo c (due_of_new e group me members (Some (Some bytes)))
      go (Some e) = (_, refl, stops c e)
      go None = (_, refl, on_file (nat_lt FILE_BYTES (length bytes)))

  file_leads : (c : FileCommand) → (c ≡ Take → (m : Message) × IsIn m w.sent × IsMessage input m) → (s : Seen) → IsOpened bytes t s → LeadsTo (Some (OnFile c)) (due_at c s (Some input))
  file_leads Text f s o = (_, refl, quiet (Some (OnFile Text)) (due_of_text s) refl refl refl)
  file_leads Ids f s o = (_, refl, quiet (Some (OnFile Ids)) (due_of_ids s) refl refl refl)
  file_leads Stat f s o = (_, refl, quiet (Some (OnFile Stat)) (due_of_stat s) refl refl refl)
  file_leads (Send to) f s o = (_, refl, send_leads s o to)
  file_leads Edit f s o = edits_lead s o
  file_leads Leave f s o = (_, refl, leave_leads s o)
  file_leads Take f s o = let q = f refl in take_leads s o q.0 q.1 q.2

  pub command_leads : (c : Option Command) → (c ≡ Some (OnFile Take) → (m : Message) × IsIn m w.sent × IsMessage input m) → LeadsTo c (due_of_words c (Some (Some bytes)) (Some input))
  command_leads None f = (NoCommand, refl, quiet None NoCommand refl refl refl)
  command_leads (Some (New group me members)) f = new_leads group me members
  command_leads (Some (Trial seed steps)) f = (_, refl, quiet (Some (Trial seed steps)) _ refl refl refl)
  command_leads (Some (OnFile c)) f =
      let o = opened bytes t k.stands in
      subst (λ (r : Result Seen CommandError). LeadsTo (Some (OnFile c)) (due_on c r (Some input))) (sym (opened_at bytes o.0 k.short o.1.found)) (file_leads c (λ e. f (ap (λ (x : FileCommand). Some (OnFile x)) e)) o.0 o.1)
