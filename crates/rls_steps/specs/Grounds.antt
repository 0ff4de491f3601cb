-- What is recorded, exactly, over any kind of state: what a replica consists of, or a history and what waits beside it.
-- Why: docs/DECISIONS.md, 126.
use Rattle.std.specs.Prelude.{ℕ, zero, suc, ◌+◌, ◌-◌, false, List, [], ◌∷◌, ◌++◌, map, zip, length, take, drop, reverse, slice_get, Option, Some, None, if◌then◌else◌}
use Rattle.rls_ident.specs.declared.tuple.Tuple.{Tuple}
use Rattle.rls_ident.specs.declared.epoch_name.EpochName.{EpochName}
use Rattle.rls_ident.specs.EpochNames.{name_eq}
use Rattle.rls_model.specs.declared.edit.Edit.{Edit}
use Rattle.rls_model.specs.declared.edit.Edit.TheVariants as edits
use Rattle.rls_model.specs.declared.edit.EditError.{EditError}
use Rattle.rls_model.specs.Document.{idents, text}
use Rattle.rls_model.specs.Editing.{made, edit_fault}
use Rattle.rls_model.specs.Epochs.{greatest, translate}
use Rattle.rls_model.specs.Receiving.{State, accept}
use Rattle.rls_seen.specs.Edits.{made_over, edit_fault_over}
use Rattle.rls_seen.specs.Edits as seen
use Rattle.rls_seen.specs.Over.{placed_over}
use Rattle.rls_seen.specs.Seen.{Seen, idents_over, text_over, greatest_over}
use Rattle.rls_undo.specs.Plans.{ranges_of}
use Rattle.rls_undo.specs.Undoing.{unless}
use Rattle.rls_steps.specs.declared.piece.Step.{Step}
use Rattle.rls_steps.specs.Marks.{Mark, Piece, Put, Cut, label_places, return_place, numbers_from}
use Rattle.rls_steps.specs.Labelled.{Names, label_of, mark, labels_in, label_at, left_of, inserted_by}
use Rattle.rls_steps.specs.Courses.{ident_of, below_or_none, or_empty}
use Rattle.rls_steps.specs.Groups.{group_size, next_group}
use Rattle.rls_steps.specs.Parts.{parts}
use Rattle.rls_steps.specs.Recorded.{Recorded, steps_of}
use Rattle.rls_steps.specs.Sweeping.{kept_in}

-- what recording asks of a state, and how an edit changes one
pub record Ground (X : Type 0) : Type 0 where
  -- the identifiers of the text, and its characters
  pub idents : X → List (List Tuple)
  pub text : X → List ℕ
  -- why an edit is refused, if it is; the state after one that isn't; the identifiers that one inserts
  pub fault : X → Edit → Option EditError
  pub edited : X → Edit → X
  pub inserted : X → Edit → List (List Tuple)
  -- the greatest epoch, and the place in it of an identifier of an epoch
  pub greatest : X → EpochName
  pub placed : X → EpochName → List Tuple → List Tuple

-- what a replica consists of
abbrev pub over : Ground Seen
over = record {
  idents = idents_over;
  text = text_over;
  fault = edit_fault_over;
  edited = seen.edited;
  inserted = λ s edit. inserted_by (made_over s edit).body;
  greatest = greatest_over;
  placed = placed_over;
}

-- a history and what waits beside it
abbrev pub within : Ground State
within = record {
  idents = λ t. idents t.history;
  text = λ t. text t.history;
  fault = λ t edit. edit_fault t.history edit;
  edited = λ t edit. accept t (made t.history edit);
  inserted = λ t edit. inserted_by (made t.history edit).body;
  greatest = λ t. greatest t.history;
  placed = λ t e x. translate t.history e (greatest t.history) x;
}

-- a state whose characters have labels
pub record Held (X : Type 0) : Type 0 where
  pub state : X
  -- the next label
  pub next : ℕ
  -- identifiers of the greatest epoch with their labels, the newest first
  pub names : Names

-- at a replica, where the oldest name comes first
abbrev pub held_at : Seen → ℕ → Names → Held Seen
held_at s next names = record { state = s; next = next; names = reverse names }

-- ---- labels

abbrev pub labelled_on : {X : Type 0} → Option ℕ → Held X → List Tuple → Held X
labelled_on (Some n) h x = h
labelled_on None h x = record { state = h.state; next = suc h.next; names = (x, h.next) ∷ h.names }

abbrev pub labels_on : {X : Type 0} → Held X → List (List Tuple) → Held X
labels_on h [] = h
labels_on h (x ∷ xs) = labels_on (labelled_on (label_of h.names x) h x) xs

abbrev pub marks_on : {X : Type 0} → Ground X → Held X → List Mark
marks_on G h = map (mark h.names) (G.idents h.state)

-- ---- edits, as in Labelled

abbrev pub put_on : {X : Type 0} → Ground X → Held X → ℕ → List ℕ → List ℕ → Held X
put_on G h at labels cs = record {
  state = G.edited h.state (edits.Insert at cs);
  next = h.next;
  names = zip (G.inserted h.state (edits.Insert at cs)) labels ++ h.names;
}

abbrev pub ready_on : {X : Type 0} → Ground X → Held X → ℕ → ℕ → Held X
ready_on G h at n = labels_on h (take (n + 2) (drop (at - 1) (G.idents h.state)))

abbrev pub cut_on : {X : Type 0} → Ground X → Held X → ℕ → ℕ → Held X
cut_on G h at n = record { state = G.edited h.state (edits.Delete at n); next = h.next; names = h.names }

abbrev pub piece_on : {X : Type 0} → Ground X → Held X → ℕ → ℕ → Piece
piece_on G h at n =
    let ms = marks_on G h in
    Cut (labels_in (take n (drop at ms))) (take n (drop at (G.text h.state))) (left_of ms at) (label_at (slice_get ms (at + n)))

-- ---- a piece that is taken back, up to the first edit that is refused, as in Courses

abbrev pub ranges_on : {X : Type 0} → Ground X → Held X → List ℕ → List (ℕ × ℕ)
ranges_on G h labels = reverse (ranges_of (label_places 0 labels (marks_on G h)))

abbrev pub gone_on : {X : Type 0} → Ground X → Held X → Option ℕ → ℕ
gone_on G h None = 0
gone_on G h (Some l) = below_or_none (G.idents h.state) (ident_of h.names l)

abbrev pub place_on : {X : Type 0} → Ground X → Held X → Option ℕ → Option ℕ → ℕ
place_on G h left right = return_place (marks_on G h) left right (gone_on G h left)

-- what it leaves, the pieces that do it again, and the refusal
pub record Left (X : Type 0) : Type 0 where
  pub held : Held X
  pub other : List Piece
  pub fault : Option EditError

abbrev pub cuts_on : {X : Type 0} → Ground X → Held X → List (ℕ × ℕ) → List Piece → Left X
cuts_on G h [] qs = record { held = h; other = qs; fault = None }
cuts_on G h (r ∷ rs) qs =
    let g = ready_on G h r.0 r.1 in
    let e = G.fault h.state (edits.Delete r.0 r.1) in
    unless e (record { held = h; other = qs; fault = e }) (cuts_on G (cut_on G g r.0 r.1) rs (piece_on G g r.0 r.1 ∷ qs))

abbrev pub taken_on : {X : Type 0} → Ground X → Held X → Piece → Left X
taken_on G h (Put labels) = let rs = ranges_on G h labels in cuts_on G h rs (or_empty rs [])
taken_on G h (Cut labels cs left right) =
    let at = place_on G h left right in
    let e = G.fault h.state (edits.Insert at cs) in
    unless e (record { held = h; other = []; fault = e }) (record { held = put_on G h at labels cs; other = Put labels ∷ []; fault = None })

-- ---- steps that are taken back, up to the first edit that is refused

-- the steps that are left, the newest first; those that do it again, the oldest first; and the refusal
pub record Stand (X : Type 0) : Type 0 where
  pub held : Held X
  pub from : List Step
  pub to : List Step
  pub fault : Option EditError

-- the first k of these steps
abbrev pub steps_on : {X : Type 0} → Ground X → ℕ → Held X → List Step → List Step → Stand X
steps_on G zero h xs to = record { held = h; from = xs; to = to; fault = None }
steps_on G (suc k) h [] to = record { held = h; from = []; to = to; fault = None }
steps_on G (suc k) h (x ∷ xs) to =
    let t = taken_on G h x.piece in
    let ys = to ++ steps_of x.group t.other in
    unless t.fault (record { held = t.held; from = x ∷ xs; to = ys; fault = t.fault }) (steps_on G k t.held xs ys)

-- ---- what is recorded

-- identifiers of an epoch in the greatest one
abbrev pub names_on : {X : Type 0} → Ground X → X → EpochName → Names → Names
names_on G s e names = if name_eq e (G.greatest s) then names else map (λ n. (G.placed s e n.0, n.1)) names

abbrev pub held_on : {X : Type 0} → Ground X → X → Recorded → Held X
held_on G s r = record { state = s; next = r.next; names = reverse (names_on G s r.epoch r.names) }

-- everything is in the greatest epoch
abbrev pub settled_on : {X : Type 0} → Ground X → X → Recorded → Recorded
settled_on G s r = record {
  epoch = G.greatest s;
  next = r.next;
  names = names_on G s r.epoch r.names;
  past = r.past;
  future = r.future;
  group = r.group;
  overfull = r.overfull;
  after_sweep = r.after_sweep;
}

-- where no character is named yet, the greatest epoch
abbrev pub epoch_or : Names → EpochName → EpochName → EpochName
epoch_or [] now before = now
epoch_or (n ∷ ns) now before = before

abbrev pub begun_on : {X : Type 0} → Ground X → X → Recorded → Recorded
begun_on G s r = record {
  epoch = epoch_or r.names (G.greatest s) r.epoch;
  next = r.next;
  names = r.names;
  past = r.past;
  future = r.future;
  group = r.group;
  overfull = r.overfull;
  after_sweep = r.after_sweep;
}

-- the open group is ended
abbrev pub closed : Recorded → Recorded
closed r = record { epoch = r.epoch; next = r.next; names = r.names; past = r.past; future = r.future; group = next_group r.group; overfull = false; after_sweep = r.after_sweep }

-- these steps are those of the open group, and nothing can be done again
abbrev pub added_on : {X : Type 0} → Ground X → X → Recorded → Held X → List Step → Recorded
added_on G s r h more = record {
  epoch = G.greatest s;
  next = h.next;
  names = reverse h.names;
  past = r.past ++ more;
  future = [];
  group = r.group;
  overfull = r.overfull;
  after_sweep = r.after_sweep;
}

-- after an edit that isn't refused, at the state before it
abbrev pub recorded_on : {X : Type 0} → Ground X → X → Edit → Recorded → Recorded
recorded_on G s (edits.Insert at cs) r =
    let labels = numbers_from r.next (length cs) in
    let h : Held _ = record { state = s; next = length cs + r.next; names = (held_on G s r).names } in
    added_on G s r (put_on G h at labels cs) (record { group = r.group; piece = Put labels } ∷ [])
recorded_on G s (edits.Delete at n) r =
    let h = ready_on G (held_on G s r) at n in
    added_on G s r h (steps_of r.group (parts (piece_on G h at n)))
recorded_on G s edits.Rename r = r
recorded_on G s edits.Leave r = r

-- a group that is taken back or done again: how many steps it has, the first refusal, and the state and what is recorded after the edits before
-- it
pub record Turned (X : Type 0) : Type 0 where
  pub steps : ℕ
  pub fault : Option EditError
  pub state : X
  pub recorded : Recorded

abbrev pub back_on : {X : Type 0} → Ground X → X → Recorded → Turned X
back_on G s r =
    let n = group_size r.past in
    let t = steps_on G n (held_on G s r) (reverse r.past) r.future in
    record {
      steps = n;
      fault = t.fault;
      state = t.held.state;
      recorded = record {
        epoch = G.greatest s;
        next = t.held.next;
        names = reverse t.held.names;
        past = reverse t.from;
        future = t.to;
        group = next_group r.group;
        overfull = false;
        after_sweep = r.after_sweep;
      };
    }

-- with the stacks exchanged
abbrev pub exchanged : Recorded → Recorded
exchanged r = record { epoch = r.epoch; next = r.next; names = r.names; past = r.future; future = r.past; group = r.group; overfull = r.overfull; after_sweep = r.after_sweep }

abbrev pub again_on : {X : Type 0} → Ground X → X → Recorded → Turned X
again_on G s r = let t = back_on G s (exchanged r) in record { steps = t.steps; fault = t.fault; state = t.state; recorded = exchanged t.recorded }

-- within bounds
abbrev pub kept_on : {X : Type 0} → Ground X → X → ℕ → ℕ → Recorded → Recorded
kept_on G s steps chars r = kept_in (G.idents s) (settled_on G s r) steps chars r

-- ---- the edits that a group's undo or redo makes, up to the first that is refused

abbrev pub cut_edits : {X : Type 0} → Ground X → Held X → List (ℕ × ℕ) → List Edit
cut_edits G h [] = []
cut_edits G h (r ∷ rs) =
    let e = edits.Delete r.0 r.1 in
    unless (G.fault h.state e) [] (e ∷ cut_edits G (cut_on G (ready_on G h r.0 r.1) r.0 r.1) rs)

abbrev pub taken_edits : {X : Type 0} → Ground X → Held X → Piece → List Edit
taken_edits G h (Put labels) = cut_edits G h (ranges_on G h labels)
taken_edits G h (Cut labels cs left right) = let e = edits.Insert (place_on G h left right) cs in unless (G.fault h.state e) [] (e ∷ [])

abbrev pub steps_edits : {X : Type 0} → Ground X → ℕ → Held X → List Step → List Edit
steps_edits G zero h xs = []
steps_edits G (suc k) h [] = []
steps_edits G (suc k) h (x ∷ xs) =
    let t = taken_on G h x.piece in
    taken_edits G h x.piece ++ unless t.fault [] (steps_edits G k t.held xs)

abbrev pub back_edits : {X : Type 0} → Ground X → X → Recorded → List Edit
back_edits G s r = steps_edits G (group_size r.past) (held_on G s r) (reverse r.past)

abbrev pub again_edits : {X : Type 0} → Ground X → X → Recorded → List Edit
again_edits G s r = back_edits G s (exchanged r)
