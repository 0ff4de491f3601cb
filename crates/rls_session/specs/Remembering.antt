-- The texts to which `z` and `y` lead, as long as nobody else edits: those of an editor that keeps a copy of the text before each group.
-- Why: docs/DECISIONS.md, 249.
use Rattle.std.specs.Prelude.{◌≡◌, ◌≤◌, ◌+◌, false, length, true, ℕ, List, [], ◌∷◌, reverse, Option, Some, None, Result, Ok, Err, if◌then◌else◌}
use Rattle.rls_ident.specs.declared.epoch_name.EpochName.{EpochName}
use Rattle.rls_ident.specs.declared.epoch_name.EpochName.TheVariants.{Origin}
use Rattle.rls_ident.specs.Identifiers.{IsIdent}
use Rattle.rls_ident.specs.Lists.{IsIn}
use Rattle.rls_rename.specs.Tree.{is_kept}
use Rattle.rls_model.specs.declared.edit.Edit.{Edit}
use Rattle.rls_model.specs.declared.edit.Edit.TheVariants as edits
use Rattle.rls_model.specs.Document.{Character, chars, ident_in}
use Rattle.rls_model.specs.Epochs.{epochs}
use Rattle.rls_model.specs.History.{History}
use Rattle.rls_model.specs.Receiving.{State}
use Rattle.rls_codec.specs.CodecLaws.{IsBytes}
use Rattle.rls_codec.specs.Reading.{message_of}
use Rattle.rls_ops.specs.declared.message.Message.{Message}
use Rattle.rls_seen.specs.Edits.{edited}
use Rattle.rls_seen.specs.Over.{released_all}
use Rattle.rls_seen.specs.Sane.{IsSane}
use Rattle.rls_seen.specs.Seen.{Seen, text_over}
use Rattle.rls_seen.specs.Stands.{StandsFor}
use Rattle.rls_file.specs.Stored.{AreWritable}
use Rattle.rls_replica.specs.Editing.{edited_text}
use Rattle.rls_report.specs.declared.failures.LineFault.{LineFault}
use Rattle.rls_undo.specs.Undoing.{last_of}
use Rattle.rls_steps.specs.declared.piece.Step.{Step}
use Rattle.rls_steps.specs.Courses.{Copies, Shows, copied_again, copied_back}
use Rattle.rls_steps.specs.Forgetting.{piece_size}
use Rattle.rls_steps.specs.Grounds.{over, recorded_on}
use Rattle.rls_steps.specs.Groups.{goes_on}
use Rattle.rls_steps.specs.Index.{AreApart}
use Rattle.rls_steps.specs.Labelled.{Names}
use Rattle.rls_steps.specs.Recorded.{Recorded, steps_over}
use Rattle.rls_steps.specs.Sweeping.{with_newest}
use Rattle.rls_session.specs.declared.desk.TheConstants.{KEPT_CHARACTERS, KEPT_STEPS}
use Rattle.rls_session.specs.declared.orders.Order.TheVariants as orders
use Rattle.rls_session.specs.Answers.{Sitting, answer, read_line, resumed, sitting_at, with_begun}
use Rattle.rls_session.specs.InPlace.{asked, in_place}
use Rattle.rls_session.specs.Requests.{Request, Does, Takes}
use Rattle.rls_session.specs.Seats.{seated}
use Rattle.rls_session.specs.SessionLaws.{IsOfHistory, sitting_in}
use Rattle.rls_session.specs.Sessions.{by_history, by_parts}
use Rattle.rls_session.specs.Turns.{turned_by_again, turned_by_back}

-- ---- the texts before groups

-- the group of the first of these steps
abbrev pub first_group : List Step → Option ℕ
first_group [] = None
first_group (x ∷ xs) = Some x.group

-- of steps of which the last comes first, and of the text before each: the text before each group, that is before its oldest step
abbrev pub group_texts : List Step → List (List ℕ) → List (List ℕ)
group_texts [] ts = []
group_texts (x ∷ xs) [] = []
group_texts (x ∷ xs) (t ∷ ts) = if goes_on (first_group xs) x.group then group_texts xs ts else t ∷ group_texts xs ts

-- what has these names are identifiers
abbrev pub AreIdents : Names → Type 0
AreIdents [] = Unit {0}
AreIdents (n ∷ ns) = IsIdent n.0 × AreIdents ns

-- they are characters of the history, by their identifiers in this epoch, and none has two names. The newest come first
abbrev pub AreOfChars : History → EpochName → Names → Type 0
AreOfChars H e [] = Unit {0}
AreOfChars H e (n ∷ ns) = ((c : Character) × IsIn c (chars H) × (ident_in H e c ≡ n.0)) × AreOfChars H e ns

pub record AreNamed (H : History) (e : EpochName) (ns : Names) : Type 0 where
  pub chars : AreOfChars H e ns
  pub apart : AreApart ns

-- so it is of what is recorded, in an epoch of the history
pub record NamesCharacters (t : State) (r : Recorded) : Type 0 where
  pub kept : is_kept Origin (epochs t.history) r.epoch ≡ true
  pub named : AreNamed t.history r.epoch (reverse r.names)

-- The text of a session, the texts before the groups that `z` takes back, the last of them first, and those to which `y` leads, the next of
-- them first. Step by step it is the editor of `rls_steps` that keeps a copy of each text.
pub record Remembers (s : Seen) (r : Recorded) (g : Copies) : Type 0 where
  pub copies : Copies
  pub shows : Shows (steps_over s r) copies
  pub now : copies.now ≡ g.now
  pub before : group_texts (reverse r.past) copies.before ≡ g.before
  pub after : group_texts (reverse r.future) copies.after ≡ g.after
  -- what is named are identifiers
  pub idents : AreIdents r.names
  -- what `z` takes back and what `y` does again are two groups
  pub apart : (n : ℕ) → first_group (reverse r.past) ≡ Some n → first_group (reverse r.future) ≡ Some n → ⊥

-- ---- what requests do to them

-- how many characters these steps name
abbrev pub steps_size : List Step → ℕ
steps_size [] = 0
steps_size (x ∷ xs) = piece_size x.piece + steps_size xs

-- what can be taken back is no more than a session keeps
abbrev pub IsWithin : Recorded → Type 0
IsWithin r = (length r.past ≤ KEPT_STEPS) × (steps_size r.past ≤ KEPT_CHARACTERS) × (r.overfull ≡ false)

-- So that memory is bounded, all texts but some of the newest may be forgotten, where what was recorded by then is more than a session keeps
abbrev pub Forgets : Recorded → Copies → Copies → Type 0
Forgets r g e = (k : ℕ) × (e ≡ with_newest k g) × (IsWithin r → e ≡ g)

-- an edit begins a group, unless one is open
abbrev pub edited_texts : Recorded → Copies → Edit → Copies
edited_texts r g edit = record {
  now = edited_text edit g.now;
  before = if goes_on (first_group (reverse r.past)) r.group then g.before else g.now ∷ g.before;
  after = [];
}

-- what an edit leaves before anything is forgotten
abbrev pub recorded_of : Sitting Seen → Edit → Recorded
recorded_of d edit = recorded_on over d.state edit (with_begun by_parts d).recorded

abbrev pub AfterEdit : Sitting Seen → Copies → Result Edit LineFault → Copies → Type 0
AfterEdit d g (Ok (edits.Insert at cs)) e = Forgets (recorded_of d (edits.Insert at cs)) (edited_texts d.recorded g (edits.Insert at cs)) e
AfterEdit d g (Ok (edits.Delete at n)) e = Forgets (recorded_of d (edits.Delete at n)) (edited_texts d.recorded g (edits.Delete at n)) e
AfterEdit d g (Ok edits.Rename) e = Forgets (recorded_of d edits.Rename) g e
AfterEdit d g (Ok edits.Leave) e = Forgets (recorded_of d edits.Leave) g e
AfterEdit d g (Err fault) e = e ≡ g

-- `z` gives the text before the last group, and `y` the one before that was taken back. So as many `z` as there are texts lead back through all of
-- them, and as many `y` give all back (`UndoneAndRedone` of `rls_steps`)
abbrev pub AfterRequest : Sitting Seen → Copies → Request → Copies → Type 0
AfterRequest d g (Does (orders.Edit line)) e = AfterEdit d g (read_line by_parts d.state line) e
AfterRequest d g (Does orders.Back) e = Forgets (turned_by_back d).recorded (copied_back g g.before) e
AfterRequest d g (Does orders.Again) e = Forgets (turned_by_again d).recorded (copied_again g g.after) e
AfterRequest d g request e = e ≡ g

-- ---- as long as nobody else edits

-- nothing that waits is ready
abbrev pub IsQuiet : Seen → Type 0
IsQuiet s = released_all s ≡ s

-- an edit releases nothing
abbrev pub IsAloneEdit : Sitting Seen → Result Edit LineFault → Type 0
IsAloneEdit d (Ok edit) = IsQuiet (edited d.state edit)
IsAloneEdit d (Err fault) = IsQuiet d.state

-- a message brings nothing that changes the text or the epochs
abbrev pub IsAloneMessage : Seen → Result Message ℕ → Type 0
IsAloneMessage s (Ok m) = let n = (by_parts.taken s m).state in (n.text ≡ s.text) × (n.epochs ≡ s.epochs)
IsAloneMessage s (Err at) = Unit {0}

-- Nobody else edits by this request: it releases nothing that waited and takes nothing that edits, and `u`, which is to `z` as somebody else, has
-- nothing to undo. And no edit of `z` and `y` is refused.
abbrev pub IsAlone : Sitting Seen → Request → Type 0
IsAlone d (Does (orders.Edit line)) = IsAloneEdit d (read_line by_parts d.state line)
IsAlone d (Does orders.Undo) = (last_of d.entries ≡ None) × IsQuiet d.state
IsAlone d (Does orders.Back) = let t = turned_by_back d in (t.fault ≡ None) × IsQuiet t.state × IsQuiet d.state
IsAlone d (Does orders.Again) = let t = turned_by_again d in (t.fault ≡ None) × IsQuiet t.state × IsQuiet d.state
IsAlone d (Takes message) = IsAloneMessage d.state (message_of message)
IsAlone d request = Unit {0}

-- A session remembers these texts: its replica stands for this history, and what it has recorded names characters of it.
pub record Recalls (d : Sitting Seen) (t : State) (g : Copies) : Type 0 where
  pub history : IsOfHistory d t
  pub names : NamesCharacters t d.recorded
  pub texts : Remembers d.state d.recorded g

-- request by request, from these texts on, over a replica and over its history
abbrev pub AreRecalled : Sitting Seen → Sitting State → Copies → List Request → Type 0
AreRecalled d f g [] = Recalls d f.state g
AreRecalled d f g (r ∷ rs) = Recalls d f.state g × (IsAlone d r → (e : Copies) × AfterRequest d g r e × AreRecalled (answer by_parts d r).state (answer by_history f r).state e rs)

-- ---- the laws

-- at the beginning of a session there is nothing to go back to
abbrev pub TextsAtFirst : Type 0
TextsAtFirst = (s : Seen) (t : State) → StandsFor s t → IsSane s → AreWritable s → Recalls (sitting_at s) t (record { now = text_over s; before = []; after = [] })

-- A session that remembers these texts goes on to those that follow from its requests, as long as nobody else edits; where its editor's changes (`e`)
-- are the lines of the edits that its drafts mean (`ChangesAreEdits`).
abbrev pub TextsAlong : Type 0
TextsAlong = (d : Sitting Seen) (t : State) (g : Copies) (input : List ℕ) → IsBytes input → Recalls d t g → AreRecalled d (sitting_in d t) g (in_place by_parts (seated d) (asked input))

-- a store changes nothing of it
abbrev pub TextsStay : Type 0
TextsStay = (d : Sitting Seen) (t : State) (g : Copies) → Recalls d t g → Recalls (resumed by_parts d) t g
