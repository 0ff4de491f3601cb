-- In a group of members that each keep a file of their own no operation is refused.
use Rattle.std.proofs.Common.{◌≡◌, ◌≤◌, ◌<◌, ◌+◌, ℕ, zero, suc, List, [], ◌∷◌, ◌++◌, length, refl, sym, ap, ◌∙◌, subst, arith, inl, inr, ⊎_elim}
use Rattle.std.specs.Prelude.{option_map, slice_get, slice_set, Option, Some, None, IsSomeAnd, Result, Ok, ◌==◌, encode_utf8_all}
use Rattle.std.proofs.lemmas.List.{length-map}
use Rattle.std.proofs.lemmas.Option.{slice_get-map}
use Rattle.rls_ident.specs.declared.limits.TheConstants.{INPUT_BYTES, MEMBERS, FILE_BYTES}
use Rattle.rls_ident.specs.Lists.{IsIn}
use Rattle.rls_ident.proofs.Members.{bool_cases, eq_is, eq_not, in_left, in_right, in_split, not_lt_test, some_is}
use Rattle.rls_ident.proofs.Positions.{get_of}
use Rattle.rls_ops.specs.declared.message.Message.{Message}
use Rattle.rls_ops.specs.declared.op.Op.{Op}
use Rattle.rls_codec.specs.CodecLaws.{IsMessage}
use Rattle.rls_model.specs.declared.edit.Edit.TheVariants as edits
use Rattle.rls_model.specs.Document.{idents, text}
use Rattle.rls_model.specs.Epochs.{greatest}
use Rattle.rls_model.specs.History.{History, count}
use Rattle.rls_model.specs.Laws.{IsAt, IsFront, IsGathered, IsPartOf, IsPast, ShowSame, edited}
use Rattle.rls_model.specs.Legal.{AreNumbers}
use Rattle.rls_model.specs.Receiving.{State}
use Rattle.rls_model.specs.WellFormed.{IsLarge}
use Rattle.rls_model.specs.Worlds.{World, empty_world}
use Rattle.rls_model.proofs.OneOrder as order
use Rattle.rls_model.proofs.WorldsCommands.{Stands, empty_stands, with_done}
use Rattle.rls_model.proofs.WorldsGathered.{one_history}
use Rattle.rls_model.proofs.WorldsInvariant.{at_later}
use Rattle.rls_model.proofs.WorldsLaws.{equal_good, fresh_at, fresh_length}
use Rattle.rls_model.proofs.WorldsLaws as worlds
use Rattle.rls_model.proofs.OnePlace.{get_set_other, get_set_same, got_below, length-set}
use Rattle.rls_model.proofs.HistoryNumbers.{front_ops, front_self, front_trans}
use Rattle.rls_passages.proofs.Apart as passages
use Rattle.rls_passages.proofs.Lasting.{between, deleted_by, past_legal, past_part, stay}
use Rattle.rls_passages.proofs.Worlds.{good_made}
use Rattle.rls_runs.specs.Runs.{runs_of}
use Rattle.rls_runs.proofs.RunPlaces.{get_left, get_right}
use Rattle.rls_seen.specs.Seen.{Seen, fresh}
use Rattle.rls_seen.proofs.Keeping.{text_alike}
use Rattle.rls_seen.proofs.Starting.{fresh_stands}
use Rattle.rls_seen.proofs.Staying.{fresh_sane}
use Rattle.rls_world.specs.Seen.{fresh_replicas}
use Rattle.rls_world.proofs.Beginning.{fresh_length as replicas_length}
use Rattle.rls_file.proofs.HistoryRuns.{fresh_storable}
use Rattle.rls_file.proofs.Storable.{fresh_writable}
use Rattle.rls_report.specs.Listing.{ids_of, ids_text}
use Rattle.rls_report.specs.declared.failures.CommandError.{CommandError}
use Rattle.rls_top.specs.declared.words.Command.{Command}
use Rattle.rls_top.specs.declared.words.Command.TheVariants.{OnFile}
use Rattle.rls_top.specs.declared.words.FileCommand.{FileCommand}
use Rattle.rls_top.specs.declared.words.FileCommand.TheVariants.{Edit, Text, Ids, Take, Leave}
use Rattle.rls_stages.specs.KeptFile.{IsFileFor, StandsIn, bytes_over, replica_in}
use Rattle.rls_stages.proofs.Files.{IsOpened, opened}
use Rattle.rls_top.specs.Due.{Due, due_at, due_of_words, due_on, shows}
use Rattle.rls_top.specs.Headline.{new_state}
use Rattle.rls_top.specs.Words.{command_of}
use Rattle.rls_top.specs.Groups.{AllTaken, AreOfGroup, BeginsWithNew, EqualCountsShowSame, Group, GroupsClean, InOneOrder, IsFileOf, IsInOrder, IsMadeOrLong, IsOfEditsAlone, IsOfGroup, IsOfMember, IsOnFile, IsOrderedBy, IsReading, IsTakenTooLong, MemberCommand, NoneRefused, NoneReleased, WaitingMade, after_command, after_commands, after_due, due_in, due_of, files_with, fresh_group, messages_in, refused_in, stored_in}
use Rattle.rls_top.proofs.GroupCommands.{IsKeptFor, bytes_with, command_leads, edits_alone, kept_for, leave_alone, opened_at, same_ok, take_makes}
use Rattle.rls_top.proofs.Fresh.{fresh_short}
use Rattle.rls_top.proofs.Headlines.{ids_alike}
use Rattle.rls_top.proofs.Pieces.{right_numbers}

-- ---- what a group and a world have in common

pub record Matches (g n : ℕ) (G : Group) (w : World) : Type 0 where
  pub stands : Stands g n w
  pub count : length G.files ≡ length w.states
  pub file : (i : ℕ) (t : State) → IsAt w i t → (bytes : List ℕ) × (slice_get G.files i ≡ Some bytes) × IsKeptFor bytes t
  pub written : (bytes : List ℕ) → IsIn bytes G.written → (m : Message) × IsIn m w.sent × IsMessage bytes m × (length bytes ≤ INPUT_BYTES)

-- ---- one command after another

-- each member's history went on from the one before
abbrev pub IsLater : World → World → Type 0
IsLater w v = (i : ℕ) (t : State) → IsAt w i t → (u : State) × IsAt v i u × IsFront t.history u.history

pub later_self : (w : World) → IsLater w w
later_self w i t h = (t, h, front_self t.history)

pub later_trans : (w v u : World) → IsLater w v → IsLater v u → IsLater w u
later_trans w v u f k i t h =
    let p = f i t h in
    let q = k i p.0 p.1 in
    (q.0, q.1, front_trans t.history (p.0).history (q.0).history p.2 q.2)

length-with : (files : List (List ℕ)) (i : ℕ) (o : Option Seen) → length (files_with files i o) ≡ length files
length-with files i None = refl
length-with files i (Some s) = length-set files i (bytes_over s)

get_with_same : (files : List (List ℕ)) (i : ℕ) (o : Option Seen) (bytes : List ℕ) → slice_get files i ≡ Some bytes → slice_get (files_with files i o) i ≡ Some (bytes_with o bytes)
get_with_same files i None bytes h = h
get_with_same files i (Some s) bytes h = get_set_same files i bytes (bytes_over s) h

get_with_other : (files : List (List ℕ)) (i j : ℕ) (o : Option Seen) → (i ≡ j → ⊥) → slice_get (files_with files i o) j ≡ slice_get files j
get_with_other files i j None d = refl
get_with_other files i j (Some s) d = get_set_other files i j (bytes_over s) d

module _ (g n : ℕ) (G : Group) (w : World) (x : Matches g n G w) where
  -- the member's state, and its file
  pub record IsThere (i : ℕ) : Type 0 where
    pub state : State
    pub at : IsAt w i state
    pub bytes : List ℕ
    pub file : slice_get G.files i ≡ Some bytes
    pub kept : IsKeptFor bytes state

  pub there : (i : ℕ) → i < length G.files → IsThere i
  there i l =
      let r = get_of w.states i (omega (arith, l, x.count)) in
      let f = x.file i r.0 r.1 in
      record { state = r.0; at = r.1; bytes = f.0; file = f.1; kept = f.2 }

  given : (c : MemberCommand) → IsOfGroup G c → command_of c.words ≡ Some (OnFile Take) → (m : Message) × IsIn m w.sent × IsMessage c.input m × (length c.input ≤ INPUT_BYTES)
  given c p e = x.written c.input (p.given e)

  abbrev done_by : (i : ℕ) → Option Command → Due → Group
  done_by i c d = record { files = files_with G.files i (stored_in d); written = G.written ++ messages_in c d }

  -- a member's file once one was stored
  abbrev FileWith : ℕ → Option Seen → ℕ → State → Type 0
  FileWith i o j u = (bytes : List ℕ) × (slice_get (files_with G.files i o) j ≡ Some bytes) × IsKeptFor bytes u

  -- with this state of a member, where its file is this replica's now, if there is one, and these messages were written
  pub matches_with : (i : ℕ) (r : IsThere i) (o : Option Seen) (messages : List (List ℕ)) (t : State) (out : List Message) → Stands g n (with_done w i t out) → IsKeptFor (bytes_with o r.bytes) t →
      ((b : List ℕ) → IsIn b messages → (m : Message) × IsIn m out × IsMessage b m × (length b ≤ INPUT_BYTES)) → Matches g n (record { files = files_with G.files i o; written = G.written ++ messages }) (with_done w i t out)
  matches_with i r o messages t out stands kept written = record {
    stands = stands;
    count = length-with G.files i o ∙ (x.count ∙ sym (length-set w.states i t));
    file = λ j u q. bool_cases (i == j) (λ e. own j u (eq_is i j e) q) (λ e. other j u (eq_not i j e) q);
    written = λ b q. ⊎_elim (λ u. let y = x.written b u in (y.0, in_left y.0 w.sent out y.1, y.2, y.3)) (λ u. let y = written b u in (y.0, in_right y.0 w.sent out y.1, y.2, y.3)) (in_split b G.written messages q);
  }
    where
      own : (j : ℕ) (u : State) → i ≡ j → IsAt (with_done w i t out) j u → FileWith i o j u
      own j u e q =
          let same : t ≡ u = some_is t u (sym (get_set_same w.states i r.state t r.at) ∙ (ap (slice_get (slice_set w.states i t)) e ∙ q)) in
          subst (λ (y : ℕ). FileWith i o y u) e (bytes_with o r.bytes, get_with_same G.files i o r.bytes r.file, subst (IsKeptFor (bytes_with o r.bytes)) same kept)

      other : (j : ℕ) (u : State) → (i ≡ j → ⊥) → IsAt (with_done w i t out) j u → FileWith i o j u
      other j u e q =
          let f = x.file j u (sym (get_set_other w.states i j t e) ∙ q) in
          (f.0, get_with_other G.files i j o e ∙ f.1, f.2)

  abbrev CommandLeads : MemberCommand → Type 0
  CommandLeads c = (d : Due) × (due_in G c ≡ Some d) × (refused_in d ≡ []) × ((v : World) × Matches g n (done_by c.member (command_of c.words) d) v × IsLater w v)

  command_goes : (c : MemberCommand) → IsOfGroup G c → CommandLeads c
  command_goes c p =
      let i = c.member in
      let r = there i p.member in
      let q = command_leads g n w i r.state r.bytes c.input x.stands r.at r.kept (command_of c.words) (λ e. let y = given c p e in (y.0, y.1, y.2)) in
      let l = q.2 in (
        q.0,
        ap (λ (kept : Option (List ℕ)). due_of_words (command_of c.words) (Some kept) (Some c.input)) r.file ∙ q.1,
        l.clean,
        (with_done w i l.state l.out, matches_with i r (stored_in q.0) (messages_in (command_of c.words) q.0) l.state l.out l.stands l.kept l.written, λ j u k. at_later w i j r.state l.state u r.at l.front k),
      )

  -- what is told of any command
  pub clean : NoneRefused G
  clean c p = let q = command_goes c p in subst (λ (o : Option Due). IsSomeAnd o (λ d. refused_in d ≡ [])) (sym q.1) q.2

  -- of a command on its member's file, from what it makes of the replica
  due_there : (c : MemberCommand) (f : FileCommand) (P : Due → Type 0) (r : IsThere c.member) → command_of c.words ≡ Some (OnFile f) → ((s : Seen) → IsOpened r.bytes r.state s → IsSomeAnd (due_at f s (Some c.input)) P) → IsSomeAnd (due_in G c) P
  due_there c f P r e made =
      let o = opened r.bytes r.state r.kept.stands in
      let at_file = subst (λ (y : Result Seen CommandError). IsSomeAnd (due_on f y (Some c.input)) P) (sym (opened_at r.bytes o.0 r.kept.short o.1.found)) (made o.0 o.1) in
      let at_words = subst (λ (y : Option Command). IsSomeAnd (due_of_words y (Some (Some r.bytes)) (Some c.input)) P) (sym e) at_file in
      subst (λ (kept : Option (List ℕ)). IsSomeAnd (due_of_words (command_of c.words) (Some kept) (Some c.input)) P) (sym r.file) at_words

  pub taken : AllTaken G
  taken c p e =
      let r = there c.member p.member in
      let m = given c p e in
      due_there c Take (IsMadeOrLong (IsTakenTooLong G c)) r e (λ s o. take_makes g n w c.member r.state r.bytes c.input x.stands r.at r.kept s o m.0 m.1 m.2 m.3 (IsTakenTooLong G c)
      (λ long t y f. long t y (subst (λ (kept : Option (List ℕ)). StandsIn (Some kept) t) r.file f)))

  pub alone : NoneReleased G
  alone c p (inl e) = let r = there c.member p.member in due_there c Edit IsOfEditsAlone r e (λ s o. edits_alone g n w c.member r.state r.bytes c.input x.stands r.at r.kept s o)
  alone c p (inr e) = let r = there c.member p.member in due_there c Leave IsOfEditsAlone r e (λ s o. leave_alone g n w c.member r.state r.bytes c.input x.stands r.at r.kept s o)

  -- what is shown of a member's file
  abbrev pub report_of : (words : List (List ℕ)) → IsReading words → History → List ℕ
  report_of words (inl e) H = encode_utf8_all (text H)
  report_of words (inr e) H = ids_of H

  pub shown : (i : ℕ) (words : List (List ℕ)) (input : List ℕ) (r : IsThere i) (e : IsReading words) → due_of G i words input ≡ Some (shows (report_of words e r.state.history))
  shown i words input r (inl e) =
      let o = opened r.bytes r.state r.kept.stands in
      ap (λ (kept : Option (List ℕ)). due_of_words (command_of words) (Some kept) (Some input)) r.file
      ∙ (ap (λ (y : Option Command). due_of_words y (Some (Some r.bytes)) (Some input)) e
      ∙ (ap (λ (y : Result Seen CommandError). due_on Text y (Some input)) (opened_at r.bytes o.0 r.kept.short o.1.found)
      ∙ ap (λ (cs : List ℕ). Some (shows (encode_utf8_all cs))) (text_alike o.0 r.state o.1.stands)))
  shown i words input r (inr e) =
      let o = opened r.bytes r.state r.kept.stands in
      ap (λ (kept : Option (List ℕ)). due_of_words (command_of words) (Some kept) (Some input)) r.file
      ∙ (ap (λ (y : Option Command). due_of_words y (Some (Some r.bytes)) (Some input)) e
      ∙ (ap (λ (y : Result Seen CommandError). due_on Ids y (Some input)) (opened_at r.bytes o.0 r.kept.short o.1.found)
      ∙ ap (λ (line : List ℕ). Some (shows line)) (ids_alike o.0 r.state o.1.stands)))

  same_report : (words : List (List ℕ)) (e : IsReading words) (H K : History) → ShowSame H K → report_of words e H ≡ report_of words e K
  same_report words (inl e) H K same = ap encode_utf8_all same.1
  same_report words (inr e) H K same = ap (λ k. ids_text k (runs_of (idents H))) same.0 ∙ ap (ids_text (greatest K)) same.3

  -- the file tells the count, and what waits
  pub record AreAlike (s t : State) : Type 0 where
    pub counts : count s.history ≡ count t.history
    pub waiting : s.waiting ≡ t.waiting

  both_told : (bytes : List ℕ) (s t : State) → IsFileFor bytes s → IsFileFor bytes t → AreAlike s t
  both_told bytes s t f k =
      let p = opened bytes s f in
      let q = opened bytes t k in
      let same = same_ok (replica_in (Ok (Some bytes))) p.0 q.0 (p.1).found (q.1).found in
      record { counts = sym (p.1).stands.vector ∙ (ap (λ (y : Seen). y.acks.mine) same ∙ (q.1).stands.vector); waiting = sym (p.1).stands.waiting ∙ (ap (λ (y : Seen). y.waiting) same ∙ (q.1).stands.waiting) }

  -- a member whose file stands for this state
  pub of_file : (i : ℕ) (s : State) → IsFileOf G i s → (r : IsThere i) × AreAlike s r.state
  of_file i s f = go (slice_get G.files i) refl f
    where
      go : (o : Option (List ℕ)) → slice_get G.files i ≡ o → StandsIn (Some o) s → (r : IsThere i) × AreAlike s r.state
      go None e f = absurd f
      go (Some bytes) e f =
          let r = there i (got_below G.files i bytes e) in
          let same : bytes ≡ r.bytes = some_is bytes r.bytes (sym e ∙ r.file) in
          (r, both_told r.bytes s r.state (subst (λ (b : List ℕ). IsFileFor b s) same f) r.kept.stands)

  pub waits : WaitingMade G
  waits i s o f p =
      let r = of_file i s f in
      let home = (((x.stands).good).member i (r.0).state (r.0).at).waits o (subst (λ (os : List Op). IsIn o os) (r.1).waiting p) in
      let file = x.file o.author home.0 home.1 in
      (home.0, subst (λ (kept : Option (List ℕ)). StandsIn (Some kept) home.0) (sym file.1) (file.2).stands, home.2)

  pub equal : EqualCountsShowSame G
  equal i j s t words input f k e reads =
      let p = of_file i s f in
      let q = of_file j t k in
      let same = (equal_good w i j (p.0).state (q.0).state (x.stands).good (p.0).at (q.0).at (sym (p.1).counts ∙ (e ∙ (q.1).counts))).1 in
      shown i words input p.0 reads ∙ (ap (λ (r : List ℕ). Some (shows r)) (same_report words reads (p.0).state.history (q.0).state.history same) ∙ sym (shown j words input q.0 reads))

-- ---- all commands

-- at each moment the group and a world have all that in common, and later worlds go on from it
abbrev AtEach : ℕ → ℕ → Group → List MemberCommand → World → Type 0
AtEach g n G cs v = (before after : List MemberCommand) → before ++ after ≡ cs → (u : World) × Matches g n (after_commands G before) u × IsLater u v

all_commands : (g n : ℕ) (G : Group) (w : World) (cs : List MemberCommand) → Matches g n G w → AreOfGroup G cs → (v : World) × Matches g n (after_commands G cs) v × IsLater w v × AtEach g n G cs v
all_commands g n G w [] x p = (w, x, later_self w, at_once)
  where
    at_once : AtEach g n G [] w
    at_once [] after e = (w, x, later_self w)
    at_once (b ∷ before) after e = absurd (cc)
all_commands g n G w (c ∷ cs) x p =
    let q = command_goes g n G w x c p.0 in
    let next = q.3 in
    let here : Matches g n (after_command G c) next.0 = subst (λ (o : Option Due). Matches g n (after_due G c o) next.0) (sym q.1) next.1 in
    let rest = all_commands g n (after_command G c) next.0 cs here p.1 in
    let later : IsLater w rest.0 = later_trans w next.0 rest.0 next.2 rest.2 in
    (rest.0, rest.1, later, at_each rest.0 later rest.3)
  where
    at_each : (v : World) → IsLater w v → AtEach g n (after_command G c) cs v → AtEach g n G (c ∷ cs) v
    at_each v later f [] after e = (w, x, later)
    at_each v later f (b ∷ before) after e =
        let first : b ≡ c = cc in
        let rest : before ++ after ≡ cs = cc in
        let r = f before after rest in
        (r.0, subst (λ (y : MemberCommand). Matches g n (after_commands (after_command G y) before) r.0) (sym first) r.1, r.2)

-- ---- the group at first

replica_at : (g n k i : ℕ) → i < k → slice_get (fresh_replicas g n k) i ≡ Some (fresh g i n)
replica_at g n zero i l = absurd (omega (arith, l))
replica_at g n (suc k) i l =
    let xs = fresh_replicas g n k in
    let size = replicas_length g n k in
    bool_cases (i == k)
    (λ e. let last : i ≡ length xs + 0 = let f = eq_is i k e in omega (arith, f, size) in
    ap (slice_get (xs ++ fresh g k n ∷ [])) last ∙ (get_right xs (fresh g k n ∷ []) 0 ∙ ap (λ j. Some (fresh g j n)) (sym (eq_is i k e))))
    (λ e. let d = eq_not i k e in
    let below : i < k = omega (arith, l, d) in
    get_left xs (fresh g k n ∷ []) i (omega (arith, below, size)) ∙ replica_at g n k i below)

file_at : (g n i : ℕ) → i < n → slice_get (fresh_group g n).files i ≡ Some (bytes_over (fresh g i n))
file_at g n i l = slice_get-map bytes_over (fresh_replicas g n n) i ∙ ap (option_map bytes_over) (replica_at g n n i l)

fresh_kept : (g n i : ℕ) → AreNumbers g i n → IsKeptFor (bytes_over (fresh g i n)) (new_state g i n)
fresh_kept g n i h = kept_for (fresh g i n) (new_state g i n) (fresh_stands g i n h) (fresh_sane g i n h) (fresh_writable g i n) (fresh_storable g i n h) (fresh_short g i n h)

pub fresh_matches : (g n : ℕ) → IsLarge g → n ≤ MEMBERS → Matches g n (fresh_group g n) (empty_world g n)
unfolding worlds.fresh
fresh_matches g n large few = record {
  stands = empty_stands g n large few;
  count = length-map (fresh_replicas g n n) bytes_over ∙ (replicas_length g n n ∙ sym (fresh_length g n n));
  file = λ i t h. let r = fresh_at g n n i t h in (bytes_over (fresh g i n), file_at g n i r.0, subst (IsKeptFor (bytes_over (fresh g i n))) r.1 (fresh_kept g n i (large, r.0, few)));
  written = λ b p. absurd p;
}

pub begins : (g n : ℕ) → IsLarge g → n ≤ MEMBERS → BeginsWithNew g n
begins g n large few i words input l e =
    let h : AreNumbers g i n = (large, l, few) in
    let s = fresh g i n in
    let right = right_numbers g i n h in
    let short = not_lt_test FILE_BYTES (length (bytes_over s)) (fresh_short g i n h) in (
      s,
      ap (λ (c : Option Command). due_of_words c (Some None) (Some input)) e ∙ rw (right.0, short) refl,
      file_at g n i l,
    )

-- ---- one order

-- the member's file at some moment, of which the last world has the history in some member's
pub moment : (g n : ℕ) (G : Group) (u v : World) (M : History) (i : ℕ) → Matches g n G u → IsLater u v → IsGathered v M → i < n → (t : State) × IsAt u i t × IsOfMember g n G i t × IsOrderedBy M t.history
moment g n G u v M i x later all l =
    let size = ((x.stands).belongs).count in
    let r = there g n G u x i (let e = x.count in omega (arith, l, size, e)) in
    let t = r.state in
    let k = ((x.stands).good).member i t r.at in
    let whose = ((x.stands).belongs).state i t r.at in
    let after = later i t r.at in
    let part : IsPartOf t.history M = λ o p. (all.1 o).1 (i, after.0, after.1, front_ops t.history (after.0).history after.2 o p) in (
      t,
      r.at,
      record { file = subst (λ (o : Option (List ℕ)). StandsIn (Some o) t) (sym r.file) r.kept.stands; group_is = whose.0; members_are = whose.1; me_is = k.me; text_is = λ words input e. shown g n G u x i words input r (inl e) },
      (part, (order.law M all.0).2 t.history k.legal part),
    )

-- what a member's history was in the last world, its file stands for a history that goes on from it
on_file : (g n : ℕ) (G : Group) (v : World) → Matches g n G v → (i : ℕ) (H : History) → IsPast v i H → IsOnFile G i H
on_file g n G v x i H p = let f = x.file i p.0 p.1 in (p.0, subst (λ (o : Option (List ℕ)). StandsIn (Some o) p.0) (sym f.1) (f.2).stands, p.2)

ordered : (g n : ℕ) (cs : List MemberCommand) (v : World) → 0 < length v.states → Matches g n (after_commands (fresh_group g n) cs) v → AtEach g n (fresh_group g n) cs v → InOneOrder g n cs
ordered g n cs v some x each =
    let good = (x.stands).good in
    let s = get_of v.states 0 some in
    let all = one_history v 0 s.0 good s.1 in
    let M = all.0 in
    (M, (all.1).0, (order.law M (all.1).0).0, passages.law M (all.1).0 (good_made v M good all.1), λ before after i e l. at_moment M all.1 before i (each before after e) l)
  where
    at_moment : (M : History) → IsGathered v M → (before : List MemberCommand) (i : ℕ) → (u : World) × Matches g n (after_commands (fresh_group g n) before) u × IsLater u v → i < n →
        IsInOrder g n (after_commands (fresh_group g n) before) (after_commands (fresh_group g n) cs) M i
    at_moment M all before i r l =
        let good = (x.stands).good in
        let m = moment g n (after_commands (fresh_group g n) before) r.0 v M i r.1 r.2 all l in
        let later = r.2 i m.0 m.1 in
        let past : (H : History) → IsFront H (m.0).history → IsPast v i H = λ H f. (later.0, later.1, front_trans H (m.0).history (later.0).history f later.2) in
        record {
          state = m.0;
          member = m.2;
          ordered = λ H f. let part = past_part v good M all i H (past H f) in (part, (order.law M all.0).2 H (past_legal v good i H (past H f)) part);
          between = λ j at text H cs c is fits f shows q. between v good M all i at text H cs c is fits (past (edited H (edits.Insert at text)) f) shows q;
          lasting = λ H c f p. ⊎_elim (λ q. inl q) (λ d. inr (deleted_by M H c (IsPast v) (IsOnFile (after_commands (fresh_group g n) cs)) (on_file g n (after_commands (fresh_group g n) cs) v x) d)) (stay v good M all i H c (past H f) p);
        }

pub law : GroupsClean
law g n cs large some few p =
    let r = all_commands g n (fresh_group g n) (empty_world g n) cs (fresh_matches g n large few) p in
    let G = after_commands (fresh_group g n) cs in
    (begins g n large few, clean g n G r.0 r.1, alone g n G r.0 r.1, waits g n G r.0 r.1, taken g n G r.0 r.1, equal g n G r.0 r.1, ordered g n cs r.0 (let size = ((r.1).stands.belongs).count in omega (arith, some, size)) r.1 r.3)
