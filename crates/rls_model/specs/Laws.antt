-- The statements of the laws.
use Rattle.std.specs.Prelude.{◌≡◌, ◌<◌, ◌≤◌, ◌⊎◌, ◌↔◌, ℕ, ◌+◌, ℤ, pos, ◌-ℤ◌, ◌≤ℤ◌, ◌<ℤ◌, Bool, List, [], ◌∷◌, ◌++◌, map, length, take, drop, filter, slice_get, ◌==◌, Option, Some, None, IsTrue, IsFalse}
use Rattle.std.specs.List.{list_all}
use Rattle.rls_ident.specs.declared.limits.TheConstants.{MEMBERS, OFFSETS_END}
use Rattle.rls_ident.specs.declared.tuple.Tuple.{Tuple}
use Rattle.rls_ident.specs.declared.tuple.Tuple.TheVariants.{At}
use Rattle.rls_ident.specs.declared.epoch_name.EpochName.{EpochName}
use Rattle.rls_ident.specs.declared.epoch_name.EpochName.TheVariants.{Origin}
use Rattle.rls_ident.specs.Lists.{IsIn}
use Rattle.rls_ident.specs.Tuples.{replica_of, seq_of, offset_of}
use Rattle.rls_ident.specs.Identifiers.{last_of, ident_lt}
use Rattle.rls_ident.specs.Vectors.{at_most}
use Rattle.rls_runs.specs.Runs.{runs_of}
use Rattle.rls_rename.specs.Renaming.{new_pos}
use Rattle.rls_rename.specs.Tree.{Epochs, IsTree, IsWindow, is_kept}
use Rattle.rls_rename.specs.Tree as tree
use Rattle.rls_rename.specs.Connected.{spanned}
use Rattle.rls_rename.specs.Keeping.{reached, kept_part}
use Rattle.rls_ops.specs.declared.op.Op.{Op}
use Rattle.rls_ops.specs.declared.op.Body.{Body}
use Rattle.rls_ops.specs.declared.op.Body.TheVariants.{Insert, Rename}
use Rattle.rls_ops.specs.declared.message.Message.{Message}
use Rattle.rls_ops.specs.Shapes.{shape_fault}
use Rattle.rls_model.specs.Answers.{Reason, Applies}
use Rattle.rls_model.specs.declared.edit.Edit.{Edit}
use Rattle.rls_model.specs.declared.edit.Edit.TheVariants as edits
use Rattle.rls_model.specs.declared.edit.EditError.{EditError}
use Rattle.rls_model.specs.declared.event.Event.{Event}
use Rattle.rls_model.specs.declared.event.Event.TheVariants as events
use Rattle.rls_model.specs.History as history
use Rattle.rls_model.specs.History.{Entry, Accepted, Acknowledged, History, Then, group_of, me_of, ops, count, count_of, members_of, has_left, row}
use Rattle.rls_model.specs.Stability.{stable, unstable}
use Rattle.rls_model.specs.Stems.{stems, stem_of, is_used, may_use, stems_after}
use Rattle.rls_model.specs.Epochs.{nodes_after, epochs, greatest, greatest_within}
use Rattle.rls_model.specs.Document.{Character, chars, chars_of, targets_of, ident_in, has_ident, live, idents, text}
use Rattle.rls_model.specs.Fitting.{refusal}
use Rattle.rls_model.specs.Receiving.{State, accept, receive, receive_after}
use Rattle.rls_model.specs.WellFormed.{IsLarge, IsText, IsEdit, IsOp}
use Rattle.rls_model.specs.Legal.{IsLegal, IsSound}
use Rattle.rls_model.specs.Retained.{marked, retained}
use Rattle.rls_model.specs.Editing.{next_seq, made, edit_fault}
use Rattle.rls_model.specs.Taking.{Limit, has_room, Progress, started, take_ops, take_within, take_message, message_told}
use Rattle.rls_model.specs.EditRun.{edit_within, Run, Done, Stopped, run_edits}
use Rattle.rls_model.specs.Worlds.{World, empty_world, with_state, send_at, deliver_at, Happening, whole, happens, run, AreEvents, AreWhole}
-- what a renaming means and keeps, what translation keeps, the smallest connected part, and windows
pub use Rattle.rls_rename.specs.Laws.{Meaning, OrderKept, Inverse, LastKept, PathFree, Spanned, WindowSame}
-- the test of operations
pub use Rattle.rls_ops.specs.Same.{TestsEqual}

-- ---- one history

-- the epochs of a legal history form one tree
abbrev pub OneTree : Type 0
OneTree = (H : History) → IsLegal H → IsTree (record { top = Origin; nodes = epochs H })

-- the identifier's last tuple has this author, number and offset
abbrev pub HasTriple : List Tuple → ℕ → ℕ → ℤ → Type 0
HasTriple x a s k = (replica_of (last_of x) ≡ a) × (seq_of (last_of x) ≡ s) × (offset_of (last_of x) ≡ k)

-- a rename takes one offset of its own stem for each identifier
abbrev pub IsOfRename : Op → Body → ℕ → ℕ → ℤ → Type 0
IsOfRename o (Rename former) a s k = (a ≡ o.author) × (s ≡ o.seq) × (pos 0 ≤ℤ k) × (k <ℤ pos (length former))
IsOfRename o _ a s k = ⊥

-- the operation uses this
abbrev pub IsUsedBy : Op → ℕ → ℕ → ℤ → Type 0
IsUsedBy o a s k = ((c : Character) × IsIn c (chars_of o o.body) × HasTriple c.ident a s k) ⊎ IsOfRename o o.body a s k

-- an insertion may begin with its first identifier
abbrev pub MayBegin : History → Op → Body → Type 0
MayBegin G o (Insert first text) = IsTrue (may_use (stems G) o.author o.seq (last_of first) (length text))
MayBegin G o _ = Unit {0}

-- what a member's next operation uses was used by none before
abbrev pub NoneUsed : Type 0
NoneUsed = (G : History) (o : Op) → IsLegal G → o.seq ≡ count_of G o.author + 1 → MayBegin G o o.body →
    (a s : ℕ) (k : ℤ) → IsUsedBy o a s k → IsFalse (is_used (stems G) a s k)

-- and afterwards just this is used beside what was used before
abbrev pub AllUsed : Type 0
AllUsed = (G : History) (o : Op) → IsLegal G → o.seq ≡ count_of G o.author + 1 → MayBegin G o o.body →
    (a s : ℕ) (k : ℤ) → IsTrue (is_used (stems_after (stems G) o.author o.seq o.body) a s k) ↔ (IsTrue (is_used (stems G) a s k) ⊎ IsUsedBy o a s k)

-- a member's operations
abbrev pub ops_of : History → ℕ → List Op
ops_of H a = filter (λ o. o.author == a) (ops H)

-- a member's stems depend on its own operations alone
abbrev pub OwnStems : Type 0
OwnStems = (G H : History) (a s : ℕ) → IsLegal G → IsLegal H → ops_of G a ≡ ops_of H a → stem_of (stems G) a s ≡ stem_of (stems H) a s

-- the three together
abbrev pub Fresh : Type 0
Fresh = NoneUsed × AllUsed × OwnStems

-- characters that have one identifier in one epoch are one
abbrev pub Distinct : Type 0
Distinct = (H : History) (c d : Character) (e : EpochName) → IsLegal H → IsIn c (chars H) → IsIn d (chars H) → IsTrue (is_kept Origin (epochs H) e) →
    ident_in H e c ≡ ident_in H e d → c ≡ d

-- the text of a legal history consists of characters
abbrev pub TextsAreCharacters : Type 0
TextsAreCharacters = (H : History) → IsLegal H → IsText (text H)

-- the stable vector is at most the count and at most the row of each member that hasn't left, and nothing that may follow lowers it
abbrev pub Stable : Type 0
Stable = (H : History) → IsLegal H →
    IsTrue (at_most (stable H) (count H))
    × ((a : ℕ) → a < members_of H → IsFalse (has_left H a) → IsTrue (at_most (stable H) (row H a)))
    × ((e : Entry) → IsLegal (Then H e) → IsTrue (at_most (stable H) (stable (Then H e))))

-- the history after an edit
abbrev pub edited : History → Edit → History
edited H edit = Then H (Accepted (made H edit))

-- what an edit makes may follow
abbrev pub MadeFits : Type 0
MadeFits = (H : History) (edit : Edit) → IsLegal H → IsEdit edit → edit_fault H edit ≡ None → IsLegal (edited H edit)

-- the text is one run of n characters, of which the first has this offset in the stem that the next own operation of H begins
abbrev pub IsOneRun : History → History → ℤ → ℕ → Type 0
IsOneRun H K k n = runs_of (idents K) ≡ (At (new_pos (idents H)) (me_of H) (next_seq H) k ∷ [], n) ∷ []

-- a rename makes one run of the text, which an insertion right after it lengthens at its end or at its front
abbrev pub RenamedRun : Type 0
RenamedRun = (H : History) (cs : List ℕ) → IsLegal H → IsText cs → edit_fault H edits.Rename ≡ None →
    let K = edited H edits.Rename in let n = length (text H) in
    (IsOneRun H K (pos 0) n × (text K ≡ text H))
    × (edit_fault K (edits.Insert n cs) ≡ None → n + length cs ≤ OFFSETS_END → IsOneRun H (edited K (edits.Insert n cs)) (pos 0) (n + length cs))
    × (edit_fault K (edits.Insert 0 cs) ≡ None → IsOneRun H (edited K (edits.Insert 0 cs)) (pos 0 -ℤ pos (length cs)) (n + length cs))

-- an insertion lands where it was asked for
abbrev pub InsertionLands : Type 0
InsertionLands = (H : History) (at : ℕ) (cs : List ℕ) → IsLegal H → IsEdit (edits.Insert at cs) → edit_fault H (edits.Insert at cs) ≡ None →
    text (edited H (edits.Insert at cs)) ≡ take at (text H) ++ (cs ++ drop at (text H))

-- ---- one order of all characters

-- the order is strict, and total on such characters
abbrev pub IsTotalOrder : (Character → Character → Bool) → (Character → Type 0) → Type 0
IsTotalOrder lt P =
    ((c : Character) → IsFalse (lt c c))
    × ((c d e : Character) → IsTrue (lt c d) → IsTrue (lt d e) → IsTrue (lt c e))
    × ((c d : Character) → P c → P d → (c ≡ d) ⊎ IsTrue (lt c d) ⊎ IsTrue (lt d c))

-- each of these comes before all after it
abbrev pub AreInOrder : (Character → Character → Bool) → List Character → Type 0
AreInOrder lt [] = Unit {0}
AreInOrder lt (c ∷ cs) = IsTrue (list_all (λ d. lt c d) cs) × AreInOrder lt cs

-- these are just the characters that were inserted and that no deletion names, each once and in this order, and make the text
abbrev pub Shows : (Character → Character → Bool) → History → List Character → Type 0
Shows lt H cs =
    ((c : Character) → IsIn c cs ↔ IsIn c (live H))
    × AreInOrder lt cs
    × (map (λ c. c.char) cs ≡ text H)
    × (map (λ c. ident_in H (greatest H) c) cs ≡ idents H)

-- the list of characters after an edit
abbrev pub list_after : History → Edit → List Character → List Character
list_after H (edits.Insert at text) cs = let o = made H (edits.Insert at text) in take at cs ++ (chars_of o o.body ++ drop at cs)
list_after H (edits.Delete at n) cs = take at cs ++ drop n (drop at cs)
list_after H edits.Rename cs = cs
list_after H edits.Leave cs = cs

-- the characters that an edit is to delete
abbrev pub list_deleted : Edit → List Character → List Character
list_deleted (edits.Delete at n) cs = take n (drop at cs)
list_deleted _ cs = []

-- the operation is a deletion that names the character
abbrev pub IsNamedBy : History → Op → Character → Type 0
IsNamedBy H d c = IsTrue (has_ident (targets_of d.body) (ident_in H d.epoch c))

-- each operation of H stands in M
abbrev pub IsPartOf : History → History → Type 0
IsPartOf H M = (o : Op) → IsIn o (ops H) → IsIn o (ops M)

-- c comes before d: the identifier of its birth is less, both translated to the first epoch
abbrev pub precedes : History → Character → Character → Bool
precedes M c d = ident_lt (ident_in M Origin c) (ident_in M Origin d)

-- a legal history orders all characters that were ever inserted there. Each legal history whose operations stand there orders its own
-- ones alike, and shows them in this order; an accepted edit does to them what was asked; and a deletion names, wherever it was accepted,
-- just what was asked
abbrev pub OneOrder : Type 0
OneOrder = (M : History) → IsLegal M → let lt = precedes M in
    IsTotalOrder lt (λ c. IsIn c (chars M))
    × ((H : History) (c d : Character) → IsLegal H → IsPartOf H M → IsIn c (chars H) → IsIn d (chars H) → precedes H c d ≡ lt c d)
    × ((H : History) → IsLegal H → IsPartOf H M → (cs : List Character) × Shows lt H cs × ((ds : List Character) → Shows lt H ds → ds ≡ cs))
    × ((H : History) (edit : Edit) (cs : List Character) → IsLegal H → IsEdit edit → edit_fault H edit ≡ None → IsPartOf (edited H edit) M → Shows lt H cs → Shows lt (edited H edit) (list_after H edit cs))
    × ((H K : History) (edit : Edit) (cs : List Character) (c : Character) → IsLegal H → IsPartOf H M → IsLegal K → IsPartOf K M → Shows lt H cs →
    IsIn (made H edit) (ops K) → IsIn c (chars K) → IsNamedBy K (made H edit) c ↔ IsIn c (list_deleted edit cs))

-- operations of both with one author and one number are one
abbrev pub Agree : History → History → Type 0
Agree G H = (x y : Op) → IsIn x (ops G) → IsIn y (ops H) → x.author ≡ y.author → x.seq ≡ y.seq → x ≡ y

-- two legal histories that agree give a character of both one identifier in each epoch of both, so also in the first one, and two such
-- characters one order. This asks nothing of the members beside
abbrev pub OrderAgreed : Type 0
OrderAgreed = (G H : History) → IsLegal G → IsLegal H → Agree G H →
    ((c : Character) (e : EpochName) → IsIn c (chars G) → IsIn c (chars H) → IsTrue (is_kept Origin (epochs G) e) → IsTrue (is_kept Origin (epochs H) e) → ident_in G e c ≡ ident_in H e c)
    × ((c d : Character) → IsIn c (chars G) → IsIn c (chars H) → IsIn d (chars G) → IsIn d (chars H) → precedes G c d ≡ precedes H c d)

-- ---- windows of epochs

-- all epochs of a history
abbrev pub all_epochs : History → Epochs
all_epochs H = record { top = Origin; nodes = epochs H }

-- the window keeps each retained epoch
abbrev pub KeepsRetained : History → Epochs → Type 0
KeepsRetained H M = IsWindow M (all_epochs H) × ((f : EpochName) → IsIn f (retained H) → IsTrue (is_kept M.top M.nodes f))

-- all epochs are such a window at first, and after each entry the window is one again
abbrev pub KeptOn : Type 0
KeptOn = (H : History) → IsLegal H →
    KeepsRetained H (all_epochs H)
    × ((M : Epochs) (o : Op) → IsLegal (Then H (Accepted o)) → KeepsRetained H M → KeepsRetained (Then H (Accepted o)) (record M { nodes = nodes_after M.nodes o o.body }))
    × ((M : Epochs) (a : ℕ) (v : List ℕ) → IsLegal (Then H (Acknowledged a v)) → KeepsRetained H M → KeepsRetained (Then H (Acknowledged a v)) M)

-- the greatest epoch, the greatest one within what is at least stable, and the retained ones are told from the window alone,
-- which keeps the epoch of each unstable operation and of each that fits
abbrev pub ToldByWindow : Type 0
ToldByWindow = (H : History) (M : Epochs) → IsLegal H → KeepsRetained H M →
    (tree.greatest M.top M.nodes ≡ greatest H)
    × ((v : List ℕ) → IsTrue (at_most (stable H) v) → tree.greatest_within M.top M.nodes v ≡ greatest_within H v)
    × (spanned M.top M.nodes (tree.greatest M.top M.nodes) (reached M (stable H) ++ marked H) ≡ retained H)
    × ((o : Op) → IsIn o (unstable H) → IsTrue (is_kept M.top M.nodes o.epoch))
    × ((o : Op) → o.author < members_of H → refusal H o ≡ None → IsTrue (is_kept M.top M.nodes o.epoch))

-- what is kept of such a window, told from itself, is one too, and its topmost epoch is retained
abbrev pub Dropped : Type 0
Dropped = (H : History) (M : Epochs) → IsLegal H → KeepsRetained H M →
    KeepsRetained H (kept_part M (stable H) (marked H)) × IsIn (kept_part M (stable H) (marked H)).top (retained H)

-- ---- two histories

-- the same operations were accepted
abbrev pub HaveSameOps : History → History → Type 0
HaveSameOps G H = (o : Op) → IsIn o (ops G) ↔ IsIn o (ops H)

-- the same text with the same identifiers, and so with the same runs, at the same greatest epoch
abbrev pub ShowSame : History → History → Type 0
ShowSame G H = (greatest G ≡ greatest H) × (text G ≡ text H) × (idents G ≡ idents H) × (runs_of (idents G) ≡ runs_of (idents H))

-- what two histories show depends on their operations alone
abbrev pub SameOperations : Type 0
SameOperations = (G H : History) → IsLegal G → IsLegal H → HaveSameOps G H → ShowSame G H

-- ---- worlds

-- this is the world of members that began afresh, after these events
abbrev pub IsAfter : World → List Happening → Type 0
IsAfter w hs = (group members : ℕ) × IsLarge group × (0 < members) × (members ≤ MEMBERS) × AreEvents hs × (run (empty_world group members) hs ≡ w)

-- the member has this state
abbrev pub IsAt : World → ℕ → State → Type 0
IsAt w i s = slice_get w.states i ≡ Some s

-- each state is a legal history with waiting operations that fit to it
abbrev pub WorldsLegal : Type 0
WorldsLegal = (w : World) (hs : List Happening) (i : ℕ) (s : State) → IsAfter w hs → IsAt w i s → IsLegal s.history × IsSound s

-- an event that is cut short after no step changes nothing; after enough of them it is whole
abbrev pub CutShort : Type 0
CutShort = (w : World) (e : Event) → (happens (Some 0) w e ≡ w) × ((n : ℕ) × ((m : ℕ) → n ≤ m → happens (Some m) w e ≡ happens None w e))

-- two members with equal counts have the same operations and show the same
abbrev pub EqualVectors : Type 0
EqualVectors = (w : World) (hs : List Happening) (i j : ℕ) (s t : State) → IsAfter w hs → IsAt w i s → IsAt w j t →
    count s.history ≡ count t.history → HaveSameOps s.history t.history × ShowSame s.history t.history

-- no sent message is refused in any part, however far it is taken
abbrev pub NoneTakenRefused : World → Type 0
NoneTakenRefused w = (i : ℕ) (s : State) (m : Message) (limit : Limit) → IsAt w i s → IsIn m w.sent → (take_within limit s m).counts.refused ≡ []

-- the operation of an edit that isn't cut short after no step stands in the history after it
abbrev pub EditApplied : Type 0
EditApplied = (s : State) (edit : Edit) (limit : Limit) → IsTrue (has_room limit) → IsIn (made s.history edit) (ops (edit_within limit s edit).state.history)

-- another member's operation that arrives first under its number, has its shape and its causes, and fits
pub record MayArrive (s : State) (o : Op) : Type 0 where
  pub shape : shape_fault (members_of s.history) o ≡ None
  pub other : o.author ≡ me_of s.history → ⊥
  pub first : count_of s.history o.author < o.seq
  pub alone : (w : Op) → IsIn w s.waiting → w.author ≡ o.author → w.seq ≡ o.seq → w ≡ o
  pub causes : IsTrue (at_most o.context (count s.history))
  pub fits : refusal s.history o ≡ None

-- such an operation is applied and stands in the history, which stays legal; so does one that arrives in a message, at its turn, and
-- whatever follows
abbrev pub ArrivalApplied : Type 0
ArrivalApplied =
    ((s : State) (o : Op) → MayArrive s o → (receive s o ≡ Applies) × IsIn o (ops (receive_after s o).history) × (IsLegal s.history → IsOp o → IsLegal (receive_after s o).history))
    × ((s : State) (m : Message) (limit : Limit) (before after : List Op) (o : Op) → m.ops ≡ before ++ (o ∷ after) → let p = take_ops (started limit s) before in
    IsTrue (has_room p.limit) → MayArrive p.state o → IsIn o (ops (take_within limit s m).state.history))

-- no edit releases what is refused
abbrev pub NoneReleasedRefused : World → Type 0
NoneReleasedRefused w = (i : ℕ) (s : State) (edit : Edit) (limit : Limit) → IsAt w i s → IsEdit edit → edit_fault s.history edit ≡ None → (edit_within limit s edit).counts.refused ≡ []

-- no edit releases anything
abbrev pub NoneReleased : World → Type 0
NoneReleased w = (i : ℕ) (s : State) (edit : Edit) (limit : Limit) → IsAt w i s → IsEdit edit → edit_fault s.history edit ≡ None → (edit_within limit s edit).counts.released ≡ 0

-- each waiting operation was made by its author
abbrev pub WaitingMade : World → Type 0
WaitingMade w = (i : ℕ) (s : State) (o : Op) → IsAt w i s → IsIn o s.waiting → (t : State) × IsAt w o.author t × IsIn o (ops t.history)

-- in a world nothing is refused
abbrev pub NoRefusal : Type 0
NoRefusal = (w : World) (hs : List Happening) → IsAfter w hs → NoneTakenRefused w × NoneReleasedRefused w × WaitingMade w × (AreWhole hs → NoneReleased w)

-- each edit is well formed
abbrev pub AreEdits : List Edit → Type 0
AreEdits [] = Unit {0}
AreEdits (e ∷ es) = IsEdit e × AreEdits es

-- edits of one member, of which none is refused, release nothing that is refused
abbrev pub EditsClean : Type 0
EditsClean = (w : World) (hs : List Happening) (i : ℕ) (s : State) (p : Progress) (edits : List Edit) → IsAfter w hs → IsAt w i s → AreEdits edits → run_edits s edits ≡ Done p → p.counts.refused ≡ []

-- ---- lists in a world

-- H, or a history that it came from
abbrev pub IsFront : History → History → Type 0
IsFront P (history.Fresh group me members) = P ≡ history.Fresh group me members
IsFront P (Then G e) = (P ≡ Then G e) ⊎ IsFront P G

-- this is the member's history, or was it at some time
abbrev pub IsPast : World → ℕ → History → Type 0
IsPast w i H = (s : State) × IsAt w i s × IsFront H s.history

-- some member inserted the character
abbrev pub WasInserted : World → Character → Type 0
WasInserted w c = (i : ℕ) × (s : State) × IsAt w i s × IsIn c (chars s.history)

-- some member knows the operation
abbrev pub WasMade : World → Op → Type 0
WasMade w o = (i : ℕ) × (s : State) × IsAt w i s × IsIn o (ops s.history)

-- whatever happens, past histories stay past ones, and the history right after an edit is one
abbrev pub PastKept : Type 0
PastKept =
    ((w : World) (hs : List Happening) (i : ℕ) (H : History) → IsPast w i H → IsPast (run w hs) i H)
    × ((w : World) (i : ℕ) (s : State) (edit : Edit) (limit : Limit) → IsAt w i s → edit_fault s.history edit ≡ None → IsTrue (has_room limit) →
    IsPast (happens limit w (events.Edit i edit)) i (edited s.history edit))

-- where no event was cut short an edit that isn't either adds its operation to the history, and nothing else
abbrev pub EditAlone : Type 0
EditAlone = (w : World) (hs : List Happening) (i : ℕ) (s : State) (edit : Edit) → IsAfter w hs → AreWhole hs → IsAt w i s → edit_fault s.history edit ≡ None →
    happens None w (events.Edit i edit) ≡ with_state w i (accept s (made s.history edit))

-- each operation that a member knows was made by an edit of its author
abbrev pub MadeByEdits : Type 0
MadeByEdits = (w : World) (hs : List Happening) (o : Op) → IsAfter w hs → WasMade w o →
    (H : History) × (edit : Edit) × IsPast w o.author (edited H edit) × IsEdit edit × (edit_fault H edit ≡ None) × (made H edit ≡ o)

-- a legal history with just the operations of all members
abbrev pub IsGathered : World → History → Type 0
IsGathered w M = IsLegal M × ((o : Op) → IsIn o (ops M) ↔ WasMade w o)

-- there is one
abbrev pub Gathered : Type 0
Gathered = (w : World) (hs : List Happening) → IsAfter w hs → (M : History) × IsGathered w M

-- The strong specification of lists: there is one total order of all characters that any member ever inserted, which whatever happens
-- later keeps; each member at each moment shows just those that were inserted and not deleted as it knows, in this order; each edit does to
-- the list that its member shows what was asked; and a deletion deletes, at each member that knows it, just what was asked.
abbrev pub StrongList : Type 0
StrongList = (w : World) (hs : List Happening) (M : History) → IsAfter w hs → IsGathered w M → let lt = precedes M in
    IsTotalOrder lt (WasInserted w)
    × ((ks : List Happening) (N : History) (c d : Character) → IsGathered (run w ks) N → WasInserted w c → WasInserted w d → lt c d ≡ precedes N c d)
    × ((i : ℕ) (H : History) → IsPast w i H → (cs : List Character) × Shows lt H cs × ((ds : List Character) → Shows lt H ds → ds ≡ cs))
    × ((i : ℕ) (H : History) (edit : Edit) (cs : List Character) → IsEdit edit → edit_fault H edit ≡ None → IsPast w i (edited H edit) → Shows lt H cs → Shows lt (edited H edit) (list_after H edit cs))
    × ((i j : ℕ) (H K : History) (edit : Edit) (cs : List Character) (c : Character) → IsPast w i H → IsPast w j K → Shows lt H cs →
    IsIn (made H edit) (ops K) → IsIn c (chars K) → IsNamedBy K (made H edit) c ↔ IsIn c (list_deleted edit cs))

-- in a world where no event is cut short, a member that takes a sent message then has each of its operations, or holds it until its
-- causes are there
abbrev pub SentArrives : Type 0
SentArrives = (w : World) (hs : List Happening) (i : ℕ) (s : State) (m : Message) (o : Op) → IsAfter w hs → AreWhole hs → IsAt w i s → IsIn m w.sent → IsIn o m.ops → let t = (take_message s m).state in
    IsIn o (ops t.history) ⊎ (IsIn o t.waiting × IsFalse (at_most o.context (count t.history)))

-- ---- commands: runs of edits, and of which group they are

-- the events of a member's edits, one after another
abbrev pub edit_events : ℕ → List Edit → List Happening
edit_events i [] = []
edit_events i (e ∷ es) = whole (events.Edit i e) ∷ edit_events i es

-- edits of one member, of which none is refused, lead to the world that their events lead to
abbrev pub EditsAreEvents : Type 0
EditsAreEvents = (w : World) (i : ℕ) (s : State) (p : Progress) (edits : List Edit) → IsAt w i s → AreEdits edits → run_edits s edits ≡ Done p →
    run w (edit_events i edits) ≡ with_state w i p.state

-- in a world each member has its own number, and all members and all sent messages have one group and one count of members
abbrev pub OneGroup : Type 0
OneGroup = (w : World) (hs : List Happening) → IsAfter w hs → (group : ℕ) ×
    ((i : ℕ) (s : State) → IsAt w i s → (group_of s.history ≡ group) × (members_of s.history ≡ length w.states) × (me_of s.history ≡ i))
    × ((m : Message) → IsIn m w.sent → (m.group ≡ group) × (m.members ≡ length w.states))

-- ---- commands, each done whole or not at all

-- a member edits, and stays as it was where one of these edits is refused; it sends a message; it sends one to a member of which it is said that
-- it told these counts, be they what it told or not; or it takes a sent one, whoever it was for
pub data Command : Type 0 where
  Edits : (member : ℕ) → (edits : List Edit) → Command
  Sends : (from to : ℕ) → Command
  Tells : (from to : ℕ) → (told : List ℕ) → Command
  Takes : (message to : ℕ) → Command

-- the world after a run of the member's edits
abbrev pub after_run : World → ℕ → Run State EditError → World
after_run w i (Done p) = with_state w i p.state
after_run w i (Stopped line fault) = w

abbrev pub edits_at : World → ℕ → Option State → List Edit → World
edits_at w i None edits = w
edits_at w i (Some s) edits = after_run w i (run_edits s edits)

-- a message for a member that told these counts is sent by the member with this state
abbrev pub tell_at : World → Option State → ℕ → List ℕ → World
tell_at w None to told = w
tell_at w (Some s) to told = record w { sent = w.sent ++ message_told s.history to told ∷ [] }

-- the world after a command
abbrev pub obeyed : World → Command → World
obeyed w (Edits i edits) = edits_at w i (slice_get w.states i) edits
obeyed w (Sends from to) = send_at None w (slice_get w.states from) to
obeyed w (Tells from to told) = tell_at w (slice_get w.states from) to told
obeyed w (Takes k to) = deliver_at None w to (slice_get w.states to) (slice_get w.sent k)

-- and after such commands, one after another
abbrev pub obeyed_all : World → List Command → World
obeyed_all w [] = w
obeyed_all w (c ∷ cs) = obeyed_all (obeyed w c) cs

-- the operations that a command tells to be refused
abbrev pub refused_run : Run State EditError → List (ℕ × ℕ × Reason)
refused_run (Done p) = p.counts.refused
refused_run (Stopped line fault) = []

abbrev pub refused_edits : Option State → List Edit → List (ℕ × ℕ × Reason)
refused_edits None edits = []
refused_edits (Some s) edits = refused_run (run_edits s edits)

abbrev pub refused_taken : Option State → Option Message → List (ℕ × ℕ × Reason)
refused_taken (Some s) (Some m) = (take_message s m).counts.refused
refused_taken _ _ = []

abbrev pub told_refused : World → Command → List (ℕ × ℕ × Reason)
told_refused w (Edits i edits) = refused_edits (slice_get w.states i) edits
told_refused w (Sends from to) = []
told_refused w (Tells from to told) = []
told_refused w (Takes k to) = refused_taken (slice_get w.states to) (slice_get w.sent k)

-- a command's edits are well formed
abbrev pub IsCommand : Command → Type 0
IsCommand (Edits i edits) = AreEdits edits
IsCommand _ = Unit {0}

abbrev pub AreCommands : List Command → Type 0
AreCommands [] = Unit {0}
AreCommands (c ∷ cs) = IsCommand c × AreCommands cs

-- whatever members that began afresh were told, none tells a refused operation, and two that have equal counts show the same
abbrev pub CommandsClean : Type 0
CommandsClean = (group members : ℕ) (cs : List Command) → IsLarge group → members ≤ MEMBERS → AreCommands cs → let w = obeyed_all (empty_world group members) cs in
    ((c : Command) → IsCommand c → told_refused w c ≡ [])
    × ((i j : ℕ) (s t : State) → IsAt w i s → IsAt w j t → count s.history ≡ count t.history → HaveSameOps s.history t.history × ShowSame s.history t.history)
