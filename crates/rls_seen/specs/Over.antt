-- What a replica answers to an operation, and how it changes, read over what it consists of.
use Rattle.std.specs.Prelude.{◌≡◌, ℕ, zero, suc, Bool, true, false, List, [], ◌∷◌, ◌++◌, length, map, zip, find, Option, Some, None, if◌then◌else◌}
use Rattle.rls_ident.specs.declared.tuple.Tuple.{Tuple}
use Rattle.rls_ident.specs.declared.epoch_name.EpochName.{EpochName}
use Rattle.rls_ident.specs.EpochNames.{name_eq}
use Rattle.rls_ident.specs.Vectors.{at_most}
use Rattle.rls_runs.specs.Entries.{Entries, put_all, without_all, with_idents}
use Rattle.rls_runs.specs.Runs.{run_idents}
use Rattle.rls_rename.specs.Renaming.{forward}
use Rattle.rls_rename.specs.Tree.{Epochs, name_of, greatest}
use Rattle.rls_ops.specs.declared.op.Op.{Op}
use Rattle.rls_ops.specs.declared.op.Body.{Body}
use Rattle.rls_ops.specs.declared.op.Body.TheVariants.{Insert, Delete, Rename, Leave}
use Rattle.rls_ops.specs.Shapes.{shape_fault}
use Rattle.rls_ops.specs.Rows.{AcksSeen, row_of, left, raised, parted, stable_of, is_covered}
use Rattle.rls_ops.specs.Rows as rows
use Rattle.rls_model.specs.Answers.{Reason, Answer, Applies, Waits, Released}
use Rattle.rls_model.specs.Stems.{stems_after}
use Rattle.rls_model.specs.Epochs.{renaming_of, nodes_after}
use Rattle.rls_model.specs.Receiving.{without, with_waiting, answer_by}
unfoldable pub use Rattle.rls_seen.specs.Known.{is_known_over}
use Rattle.rls_seen.specs.View.{view}
use Rattle.rls_model.specs.Rules as rules
use Rattle.rls_seen.specs.Seen.{Seen, vector, members, greatest_over, translate_over}

-- ---- why an operation whose causes are there is refused

-- the first of these targets that isn't known
abbrev pub first_unknown_over : Seen → EpochName → List (List Tuple) → Option Reason
first_unknown_over s = rules.first_unknown (view s)

-- the reason that lies in the body
abbrev pub body_refusal_over : Seen → Op → Body → Option Reason
body_refusal_over s = rules.body_refusal (view s)

-- the first reason to refuse the operation. It fits where there is none
unfoldable pub refusal_over : Seen → Op → Option Reason
refusal_over s o = rules.refusal (view s) o

-- ---- the answer to an operation that arrives

-- where `own` says whether the replica's own operations are taken too
unfoldable pub answer_over : Bool → Seen → Op → Answer
answer_over own s o = answer_by own (vector s) s.acks.me s.waiting (refusal_over s o) o (shape_fault (members s) o)

-- ---- an operation is accepted

-- the rows
abbrev pub acks_after : AcksSeen → ℕ → Body → AcksSeen
acks_after acks a (Insert first text) = raised acks a
acks_after acks a (Delete targets) = raised acks a
acks_after acks a (Rename former) = raised acks a
acks_after acks a Leave = parted (raised acks a) a

-- the epochs
abbrev pub epochs_after : Epochs → Op → Epochs
epochs_after E o = record { top = E.top; nodes = nodes_after E.nodes o o.body }

-- the identifier of epoch e in the greatest one
abbrev pub placed_over : Seen → EpochName → List Tuple → List Tuple
placed_over s e x = translate_over s e (greatest_over s) x

-- what an insertion in epoch e adds to the text
abbrev pub added_over : Seen → EpochName → List Tuple → List ℕ → Entries
added_over s e first text = zip (map (placed_over s e) (run_idents first (length text))) text

-- an identifier of the greatest epoch in the epoch that a rename opens
abbrev pub renamed_over : Seen → Op → List (List Tuple) → List Tuple → List Tuple
renamed_over s o former x = forward (renaming_of o former) (translate_over s (greatest_over s) o.epoch x)

-- the epoch that a rename opens is greater than all that are kept
abbrev pub is_greatest_over : Seen → Op → Bool
is_greatest_over s o = name_eq (greatest s.epochs.top (epochs_after s.epochs o).nodes) (name_of (renaming_of o []))

-- the text
abbrev pub text_after : Seen → Op → Body → Entries
text_after s o (Insert first text) = put_all (added_over s o.epoch first text) s.text
text_after s o (Delete targets) = without_all (map (placed_over s o.epoch) targets) s.text
text_after s o (Rename former) = if is_greatest_over s o then with_idents (renamed_over s o former) s.text else s.text
text_after s o Leave = s.text

-- the log after an operation was accepted, where these counts are stable by then: what is stable at once isn't kept, if nothing else is
abbrev pub logged : List ℕ → List Op → Op → List Op
logged stable [] o = if is_covered stable o then [] else o ∷ []
logged stable (p ∷ os) o = p ∷ os ++ o ∷ []

unfoldable pub accepted : Seen → Op → Seen
accepted s o = record {
  group = s.group;
  acks = acks_after s.acks o.author o.body;
  stems = stems_after s.stems o.author o.seq o.body;
  epochs = epochs_after s.epochs o;
  text = text_after s o o.body;
  waiting = without o.author o.seq s.waiting;
  log = logged (stable_of (acks_after s.acks o.author o.body)) s.log o;
}

-- ---- receiving

-- these operations wait
unfoldable pub holding : Seen → List Op → Seen
holding s W = record { group = s.group; acks = s.acks; stems = s.stems; epochs = s.epochs; text = s.text; waiting = W; log = s.log }

-- after this answer
abbrev pub after_answer : Answer → Seen → Op → Seen
after_answer Applies s o = accepted s o
after_answer Waits s o = holding s (with_waiting o (without o.author o.seq s.waiting))
after_answer _ s o = s

unfoldable pub received : Seen → Op → Seen
received s o = after_answer (answer_over false s o) s o

-- where the replica's own operations are taken too
unfoldable pub replayed : Seen → Op → Seen
replayed s o = after_answer (answer_over true s o) s o

-- ---- releasing

-- the first waiting operation whose context is at most the vector
abbrev pub first_ready : Seen → Option Op
first_ready s = find (λ w. at_most w.context (vector s)) s.waiting

-- what is released where this operation is the first ready one
abbrev pub release_of : Seen → Option Op → Option Released
release_of s = rules.release_of (refusal_over s)

-- what is answered where the first ready operation is looked at
unfoldable pub release_over : Seen → Option Released
release_over s = release_of s (first_ready s)

-- after this operation was released with this refusal, if any
abbrev pub after_refusal : Option Reason → Seen → Op → Seen
after_refusal None s w = accepted s w
after_refusal (Some r) s w = holding s (without w.author w.seq s.waiting)

-- where this operation is the first ready one
abbrev pub after_release : Seen → Option Op → Seen
after_release s None = s
after_release s (Some w) = after_refusal (refusal_over s w) s w

unfoldable pub released : Seen → Seen
released s = after_release s (first_ready s)

-- after n releases
abbrev pub released_times : ℕ → Seen → Seen
released_times zero s = s
released_times (suc n) s = released_times n (released s)

-- after releases until none is ready
unfoldable pub released_all : Seen → Seen
released_all s = released_times (length s.waiting) s

-- after some of these releases, in case of want of memory
abbrev pub IsPartReleased : Seen → Seen → Type 0
IsPartReleased old new = (n : ℕ) × (new ≡ released_times n old)

-- ---- acknowledgements

unfoldable pub acknowledged : Seen → ℕ → List ℕ → Seen
acknowledged s a v = record {
  group = s.group;
  acks = rows.acknowledged s.acks a v;
  stems = s.stems;
  epochs = s.epochs;
  text = s.text;
  waiting = s.waiting;
  log = s.log;
}
