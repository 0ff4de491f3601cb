-- What a replica does with an operation that arrives.
-- Why: docs/DECISIONS.md, 5.
use Rattle.std.specs.Prelude.{ℕ, zero, suc, Bool, true, false, not, ◌&&◌, List, length, ◌==◌, nat_le, slice_index, find, Option, Some, None, if◌then◌else◌}
use Rattle.rls_ident.specs.Vectors.{at_most}
use Rattle.rls_ops.specs.declared.op.Op.{Op}
use Rattle.rls_ops.specs.declared.op.Shape.{Shape}
use Rattle.rls_ops.specs.Shapes.{shape_fault}
use Rattle.rls_ops.specs.Same.{op_eq}
pub use Rattle.rls_ops.specs.Waiting.{is_numbered, waiting_under, comes_before, with_waiting, without}
use Rattle.rls_model.specs.Answers.{Reason, Misshapen, Own, Forked, Answer, Applies, Repeats, Waits, Refuses, Released}
use Rattle.rls_model.specs.History.{Accepted, History, Then, count, me_of, members_of}
use Rattle.rls_model.specs.Fitting.{refusal}
use Rattle.rls_model.specs.Rules as rules

-- the answer to an operation whose causes are there
abbrev pub verdict_of : Option Reason → Answer
verdict_of None = Applies
verdict_of (Some r) = Refuses r

-- by the vector and the reason to refuse it, where this operation waits under its number, or none does
abbrev pub answer_beside : List ℕ → Option Reason → Op → Option Op → Answer
answer_beside v reason o None = if not (at_most o.context v) then Waits else verdict_of reason
answer_beside v reason o (Some w) =
    if not (op_eq w o) then Refuses (Forked w)
    else if not (at_most o.context v) then Waits
    else verdict_of reason

-- by the vector, the own number, what waits and the reason to refuse it, where the shape has this fault, or none
abbrev pub answer_by : Bool → List ℕ → ℕ → List Op → Option Reason → Op → Option Shape → Answer
answer_by own v me W reason o (Some s) = Refuses (Misshapen s)
answer_by own v me W reason o None =
    if nat_le o.seq (slice_index v o.author) then Repeats
    else if not own && (o.author == me) then Refuses (Own o.seq)
    else answer_beside v reason o (waiting_under W o.author o.seq)

-- the answer to an operation that arrives, where `own` says whether the replica's own ones are taken too
unfoldable pub answer : Bool → History → List Op → Op → Answer
answer own H W o = answer_by own (count H) (me_of H) W (refusal H o) o (shape_fault (members_of H) o)

-- a history and the operations that wait, in increasing order of author and number
pub record State : Type 0 where
  pub history : History
  pub waiting : List Op

-- the operation is accepted, and takes what waits under its number out
abbrev pub accept : State → Op → State
accept s o = record { history = Then s.history (Accepted o); waiting = without o.author o.seq s.waiting }

-- the state after this answer
abbrev pub after : Answer → State → Op → State
after Applies s o = accept s o
after Waits s o = record { history = s.history; waiting = with_waiting o (without o.author o.seq s.waiting) }
after _ s o = s

-- the answer to an operation that arrives
abbrev pub receive : State → Op → Answer
receive s o = answer false s.history s.waiting o

-- the state after it
abbrev pub receive_after : State → Op → State
receive_after s o = after (receive s o) s o

-- the answer where the replica's own operations are taken too
abbrev pub replay : State → Op → Answer
replay s o = answer true s.history s.waiting o

-- the state after it
abbrev pub replay_after : State → Op → State
replay_after s o = after (replay s o) s o

-- the first waiting operation whose context is at most the count
abbrev pub first_ready : State → Option Op
first_ready s = find (λ w. at_most w.context (count s.history)) s.waiting

-- what is released where this operation is the first ready one
abbrev pub release_of : State → Option Op → Option Released
release_of s = rules.release_of (refusal s.history)

-- what is answered where the first ready operation is looked at
abbrev pub release : State → Option Released
release s = release_of s (first_ready s)

-- the state after this operation was released with this refusal, if any
abbrev pub after_refusal : Option Reason → State → Op → State
after_refusal None s w = accept s w
after_refusal (Some r) s w = record { history = s.history; waiting = without w.author w.seq s.waiting }

-- the state where this operation is the first ready one
abbrev pub after_release : State → Option Op → State
after_release s None = s
after_release s (Some w) = after_refusal (refusal s.history w) s w

-- the state after it
abbrev pub release_after : State → State
release_after s = after_release s (first_ready s)

-- the state after n releases
abbrev pub released_times : ℕ → State → State
released_times zero s = s
released_times (suc n) s = released_times n (release_after s)

-- the state after releases until none is ready: each takes one operation out, so there are at most as many as wait
unfoldable pub release_all : State → State
release_all s = released_times (length s.waiting) s
