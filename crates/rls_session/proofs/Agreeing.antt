-- A session over what a replica consists of is that over each history which the replica stands for.
use Rattle.std.proofs.Common.{◌≡◌, ◌∙◌, ◌<◌, ◌+◌, ◌-◌, ◌++◌, ℕ, Bool, true, false, cond, ltb, List, [], ◌∷◌, length, Option, Some, None, Result, Ok, Err, refl, ap, subst, arith, inl, inr}
use Rattle.std.specs.Prelude.{option_map, ◌&&◌, ◌==◌, codes, encode_utf8_all}
use Rattle.std.proofs.lemmas.Bool.{eqb-true}
use Rattle.std.proofs.lemmas.Bool.Decides.{nat_tests}
use Rattle.rls_ident.proofs.Members.{and_right}
use Rattle.rls_ops.specs.declared.message.Message.{Message}
use Rattle.rls_ops.specs.Spelling.{message_bytes}
use Rattle.rls_ops.specs.WellFormed.{IsInRange}
use Rattle.rls_codec.specs.CodecLaws.{IsBytes}
use Rattle.rls_codec.specs.Reading.{message_of}
use Rattle.rls_codec.specs.Spelled.{Chained, IsSpelled}
use Rattle.rls_codec.proofs.MessageFormats.{message_takes}
use Rattle.rls_ops.specs.declared.op.Op.{Op}
use Rattle.rls_model.specs.declared.edit.Edit.{Edit}
use Rattle.rls_model.specs.declared.edit.EditError.{EditError}
use Rattle.rls_model.specs.declared.receipt.Taken.{Taken}
use Rattle.rls_model.specs.Editing.{made, next_seq}
use Rattle.rls_model.specs.History.{group_of, members_of}
use Rattle.rls_model.specs.Receiving.{State}
use Rattle.rls_model.specs.WellFormed.{IsEdit}
use Rattle.rls_model.specs.Taking.{message_for, message_told, take_message}
use Rattle.rls_seen.specs.Edits.{edit_fault_over, edited, made_over}
use Rattle.rls_seen.specs.Messages.{message_over, message_told_over, taken_over}
use Rattle.rls_seen.specs.Messages as seen
use Rattle.rls_seen.specs.Over.{acknowledged}
use Rattle.rls_seen.specs.Seen.{Seen, members, own_count, text_over}
use Rattle.rls_seen.specs.Stands.{StandsFor}
use Rattle.rls_seen.proofs.Alike.{members_alike}
use Rattle.rls_seen.proofs.Editing.{edited_stands, made_alike}
use Rattle.rls_seen.proofs.Keeping.{text_alike}
use Rattle.rls_seen.proofs.Sending.{message_alike, told_alike as message_told_alike}
use Rattle.rls_seen.proofs.Taking.{taken_stands}
use Rattle.rls_replica.specs.Names.{KeepsNames}
use Rattle.rls_replica.proofs.KeptNames.{accepted_names, acknowledged_names, names_on, ops_names}
use Rattle.rls_report.specs.declared.failures.CommandError.TheVariants.{NotMember, OtherGroup}
use Rattle.rls_report.specs.declared.failures.LineFault.{LineFault}
use Rattle.rls_report.specs.declared.failures.LineFault.TheVariants.{Range}
use Rattle.rls_report.specs.Reports.{take_text}
use Rattle.rls_report.proofs.Numbers.{stat_alike}
use Rattle.rls_script.specs.declared.lines.Line.{Line}
use Rattle.rls_stages.specs.Lines.{fault_in, line_by, text_in}
use Rattle.rls_stages.specs.Lines as lines
use Rattle.rls_stages.proofs.Alike.{lines_alike}
use Rattle.rls_stages.proofs.Meant.{IsLine, IsMeantWell, line_well}
use Rattle.rls_file.proofs.Storable.{IsStoring, edited_storing, given_op, storing, taken_writable}
use Rattle.rls_undo.specs.declared.entry.Entry.{Entry}
use Rattle.rls_undo.specs.Undoing.{caught_up, entries_over, last_of, performed, performed_over, planned, planned_over, refusal, refusal_over, without_last}
use Rattle.rls_undo.proofs.Alike.{caught_up_alike, performed_stands, planned_alike}
use Rattle.rls_undo.proofs.Histories.{plan_edits}
use Rattle.rls_undo.proofs.Performed.{performed_names}
use Rattle.rls_changes.specs.ChangesLaws.{AreInRange}
use Rattle.rls_changes.specs.Edits.{edit_changes, performed_edits_in}
use Rattle.rls_changes.specs.Telling.{taken_changes, taken_changes_in}
use Rattle.rls_changes.proofs.EditsAlike.{performed_alike}
use Rattle.rls_changes.proofs.TakenAlike.{taken_alike as changes_taken_alike}
use Rattle.rls_anchor.specs.Anchors.{place, place_over, settled}
use Rattle.rls_anchor.specs.declared.anchor.Anchor.{Anchor}
use Rattle.rls_anchor.specs.Anchors as anchors
use Rattle.rls_anchor.proofs.Elsewhere.{located_alike}
use Rattle.rls_anchor.proofs.Places.{place_alike, settled_alike}
use Rattle.rls_session.specs.declared.orders.Side.{Side}
use Rattle.rls_session.proofs.Sides.{anchor_alike, anchor_kept, spelled_alike}
use Rattle.rls_session.specs.declared.cursors.Cursor.{Cursor}
use Rattle.rls_session.specs.Cursors.{cursor_in, cursors_moved, cursors_with}
use Rattle.rls_session.proofs.Numbered.{anchored_moved, anchored_with, in_anchored, moved_alike}
use Rattle.rls_session.specs.declared.orders.Order.TheVariants as orders
use Rattle.rls_session.specs.Answers.{Sitting, answer, place_text, placed, pointed, sent, sent_told, made_changes, message_changes, taken, undone, undone_changes, with_begun, with_caught_up, with_cursors}
use Rattle.rls_session.specs.Answers as answers
use Rattle.rls_session.specs.Costs.{costs_text}
use Rattle.rls_session.specs.Courses.{Answered}
use Rattle.rls_session.specs.Replies.{bad_text, bytes_text, cursor_text, failed_text, located_text, ok_text, refused_text}
use Rattle.rls_session.specs.Requests.{Does, Request, Takes}
use Rattle.rls_session.specs.Sessions.{by_history, by_parts}
use Rattle.rls_session.proofs.Sizes.{costs_alike}
use Rattle.rls_session.proofs.Entries.{caught_up_whole, entries_alike, entries_whole, whole_at, whole_front, whole_more}
use Rattle.rls_session.proofs.Steps.{steps_begun, made_steps, steps_after}
use Rattle.rls_session.proofs.Given.{IsGiven}
use Rattle.rls_session.proofs.Whole.{last_undoable, whole_edited, whole_on, whole_undone}
use Rattle.rls_session.proofs.AlikeSittings.{IsAlike, IsAlmost, AreAlike, AreAlmost, almost, performed_storing, told_alike, told_rested_alike}
use Rattle.rls_session.proofs.AlikeSteps.{backed_almost, redone_almost, turned_changes, begun_stays, ended_alike}
use Rattle.rls_sync.proofs.Given.{message_given}

-- ---- edits

pub number_alike : (s : Seen) (t : State) (edit : Edit) → StandsFor s t → own_count s + 1 ≡ next_seq t.history
unfolding made_over made
number_alike s t edit h = ap (λ o. o.seq) (made_alike s t edit h)

-- one that is made
pub made_almost : (d : Sitting Seen) (f : Sitting State) (edit : Edit) → IsAlmost d f → IsEdit edit → edit_fault_over d.state edit ≡ None → IsAlmost (answers.made_sitting by_parts d edit) (answers.made_sitting by_history f edit)
made_almost d f edit h w fits =
    let s = d.state in
    let t = f.state in
    record {
      stands = edited_stands s t edit w fits h.stands;
      storing_is = edited_storing s edit h.storing_is w fits;
      entries = ap (λ es. es ++ entries_over s edit) h.entries ∙ ap (λ es. f.entries ++ es) (entries_alike s t edit h.stands);
      cursors = h.cursors;
      tells = h.tells;
      whole = whole_edited s (edited s edit) d.entries (d.entries ++ entries_over s edit) d.cursors edit (accepted_names s (made_over s edit)) refl h.whole;
      texts = whole_more d.entries (entries_over s edit) h.texts (entries_whole s t edit h.stands);
      steps = made_steps s t edit d.recorded f.recorded h.stands (edited_stands s t edit w fits h.stands) h.steps;
    }

edited_almost : (d : Sitting Seen) (f : Sitting State) (r : Result Edit LineFault) → IsAlike d f → IsMeantWell edit_fault_over d.state r → AreAlmost (answers.edited by_parts d r) (answers.edited by_history f r)
edited_almost d f (Err fault) h w = record { reply = refl; states = almost d f h }
edited_almost d f (Ok edit) h w = record {
  reply = ap ok_text (number_alike d.state f.state edit h.stands);
  states = made_almost d f edit (almost d f h) w.0 w.1;
}

pub line_almost : (d : Sitting Seen) (f : Sitting State) (line : Line) → IsAlike d f → IsLine line → AreAlmost (answers.edited by_parts d (answers.read_line by_parts d.state line)) (answers.edited by_history f (answers.read_line by_history f.state line))
line_almost d f line h w =
    let same : lines.read_line d.state line ≡ line_by fault_in text_in f.state line = lines_alike d.state f.state line h.stands in
    subst (λ (r : Result Edit LineFault). AreAlmost (answers.edited by_parts d (lines.read_line d.state line)) (answers.edited by_history f r)) same (edited_almost d f (lines.read_line d.state line) h (line_well edit_fault_over text_over d.state line w))

line_changes_alike : (d : Sitting Seen) (f : Sitting State) (line : Line) → IsAlike d f → made_changes (answers.read_line by_parts d.state line) ≡ made_changes (answers.read_line by_history f.state line)
line_changes_alike d f line h =
    let same : lines.read_line d.state line ≡ line_by fault_in text_in f.state line = lines_alike d.state f.state line h.stands in
    ap made_changes same

-- ---- undoing

-- what a plan comes to
by_plan : (d : Sitting Seen) (f : Sitting State) (plan : List Edit) (o : Option EditError) → IsAlike d f → StandsFor (performed_over d.state plan) (performed f.state plan) → IsStoring (performed_over d.state plan)
    → AreAlmost (answers.undone_by_plan by_parts d plan o) (answers.undone_by_plan by_history f plan o)
by_plan d f plan None h k st = record {
  reply = refl;
  states = record {
    stands = k;
    storing_is = st;
    entries = ap without_last h.entries;
    cursors = h.cursors;
    tells = h.tells;
    whole = whole_undone d.state (performed_over d.state plan) d.entries (without_last d.entries) d.cursors (performed_names plan d.state) refl h.whole;
    texts = whole_front (length d.entries - 1) d.entries h.texts;
    steps = steps_after d.state (performed_over d.state plan) d.recorded f.recorded (performed_names plan d.state) h.steps;
  };
}
by_plan d f plan (Some e) h k st = record {
  reply = refl;
  states = record {
    stands = k;
    storing_is = st;
    entries = h.entries;
    cursors = h.cursors;
    tells = h.tells;
    whole = whole_on d.state (performed_over d.state plan) d.entries d.cursors (performed_names plan d.state) h.whole;
    texts = h.texts;
    steps = steps_after d.state (performed_over d.state plan) d.recorded f.recorded (performed_names plan d.state) h.steps;
  };
}

undone_almost : (d : Sitting Seen) (f : Sitting State) (o : Option Entry) → last_of d.entries ≡ o → IsAlike d f → AreAlmost (undone by_parts d o) (undone by_history f o)
undone_almost d f None e h = record { reply = refl; states = almost d f h }
undone_almost d f (Some entry) e h =
    let s = d.state in
    let t = f.state in
    let kept = last_undoable s d.entries entry e (h.whole).undoable in
    let plan = planned_over s entry in
    let same : plan ≡ planned t.history entry = planned_alike s t entry h.stands kept in
    let w = plan_edits s entry h.sane (whole_at d.entries (length d.entries - 1) entry e h.texts) in
    let p = performed_stands s t plan w h.stands in
    let here = by_plan d f plan (refusal_over s plan) h p.1 (performed_storing s plan w (storing s h.sane h.writable)) in
    let there = subst (λ (x : Option EditError). AreAlmost (answers.undone_by_plan by_parts d plan (refusal_over s plan)) (answers.undone_by_plan by_history f plan x)) p.0 here in
    subst (λ (es : List Edit). AreAlmost (answers.undone_by_plan by_parts d plan (refusal_over s plan)) (answers.undone_by_plan by_history f es (refusal t es))) same there

-- entries that have caught up
pub caught_up_stays : (d : Sitting Seen) (f : Sitting State) → IsAlike d f → IsAlike (with_caught_up by_parts d) (with_caught_up by_history f)
caught_up_stays d f h =
    let a = caught_up_alike d.state f.state d.entries h.stands ((h.whole).undoable) in
    record {
      stands = h.stands;
      sane = h.sane;
      writable = h.writable;
      entries = a.0 ∙ ap (caught_up (f.state).history) h.entries;
      cursors = h.cursors;
      tells = h.tells;
      whole = record { undoable = a.1; anchored = (h.whole).anchored };
      texts = caught_up_whole d.state d.entries h.texts;
      steps = h.steps;
    }

pub undo_almost : (d : Sitting Seen) (f : Sitting State) → IsAlike d f → AreAlmost (undone by_parts d (last_of d.entries)) (undone by_history f (last_of f.entries))
undo_almost d f h = subst (λ (es : List Entry). AreAlmost (undone by_parts d (last_of d.entries)) (undone by_history f (last_of es))) h.entries (undone_almost d f (last_of d.entries) refl h)

entry_alike : (d : Sitting Seen) (f : Sitting State) (o : Option Entry) → last_of d.entries ≡ o → IsAlike d f → undone_changes by_parts d.state o ≡ undone_changes by_history f.state o
entry_alike d f None e h = refl
entry_alike d f (Some entry) e h =
    let s = d.state in
    let t = f.state in
    let plan = planned_over s entry in
    let same : plan ≡ planned t.history entry = planned_alike s t entry h.stands (last_undoable s d.entries entry e (h.whole).undoable) in
    let w = plan_edits s entry h.sane (whole_at d.entries (length d.entries - 1) entry e h.texts) in
    ap edit_changes (performed_alike s t plan w h.stands) ∙ ap (λ es. edit_changes (performed_edits_in t es)) same

undone_alike : (d : Sitting Seen) (f : Sitting State) → IsAlike d f → undone_changes by_parts d.state (last_of d.entries) ≡ undone_changes by_history f.state (last_of f.entries)
undone_alike d f h = entry_alike d f (last_of d.entries) refl h ∙ ap (λ (es : List Entry). undone_changes by_history f.state (last_of es)) h.entries

-- ---- cursors

pointed_alike : (d : Sitting Seen) (f : Sitting State) (side : Side) (at n : ℕ) → IsAlike d f → AreAlike (pointed by_parts d side at n) (pointed by_history f side at n)
pointed_alike d f side at n h = subst (λ (cs : List ℕ). AreAlike (pointed by_parts d side at n) (by_text cs)) (text_alike s t h.stands) (go (ltb (length (text_over s)) at))
  where
    s : Seen
    s = d.state

    t : State
    t = f.state

    past : ℕ → List ℕ
    past n = refused_text (Range at n)

    here : Anchor
    here = by_parts.anchor s side at

    there : Anchor
    there = by_history.anchor t side at

    by_text : List ℕ → Answered (Sitting State)
    by_text cs = cond (ltb (length cs) at) (answers.says (past (length cs)) f) (answers.says (cursor_text at) (with_cursors f (cursors_with f.cursors n there)))

    go : (b : Bool) → AreAlike
        (cond b (answers.says (past (length (text_over s))) d) (answers.says (cursor_text at) (with_cursors d (cursors_with d.cursors n here))))
        (cond b (answers.says (past (length (text_over s))) f) (answers.says (cursor_text at) (with_cursors f (cursors_with f.cursors n there))))
    go true = record { reply = refl; states = h }
    go false = record {
      reply = refl;
      states = record {
        stands = h.stands;
        sane = h.sane;
        writable = h.writable;
        entries = h.entries;
        cursors = ap (λ (cs : List Cursor). cursors_with cs n here) h.cursors ∙ ap (cursors_with f.cursors n) (anchor_alike s t side at h.stands);
        tells = h.tells;
        whole = record { undoable = (h.whole).undoable; anchored = anchored_with s d.cursors n here (anchor_kept s side at) (h.whole).anchored };
        texts = h.texts;
        steps = h.steps;
      };
    }

-- where one is, and that it has caught up
where_alike : (d : Sitting Seen) (f : Sitting State) (n : ℕ) → IsAlike d f → AreAlike (placed by_parts d n) (placed by_history f n)
where_alike d f n h = record {
  reply = ap (place_text n) (there (cursor_in d.cursors n) refl ∙ ap (λ (cs : List Cursor). option_map (place t.history) (cursor_in cs n)) h.cursors);
  states = record {
    stands = h.stands;
    sane = h.sane;
    writable = h.writable;
    entries = h.entries;
    cursors = moved_alike s (anchors.settled_over s) (settled t.history) d.cursors n (λ a k. (settled_alike s t a h.stands k).0) (h.whole).anchored ∙ ap (λ (cs : List Cursor). cursors_moved (settled t.history) cs n) h.cursors;
    tells = h.tells;
    whole = record { undoable = (h.whole).undoable; anchored = anchored_moved s (anchors.settled_over s) d.cursors n (λ a k. (settled_alike s t a h.stands k).1) (h.whole).anchored };
    texts = h.texts;
    steps = h.steps;
  };
}
  where
    s : Seen
    s = d.state

    t : State
    t = f.state

    there : (o : Option Anchor) → cursor_in d.cursors n ≡ o → option_map (place_over s) o ≡ option_map (place t.history) o
    there None e = refl
    there (Some a) e = ap (λ p. Some p) (place_alike s t a h.stands (in_anchored s d.cursors n a e (h.whole).anchored))

-- ---- messages

taken_names : (s : Seen) (m : Message) → KeepsNames s (taken_over s m).state
unfolding seen.taken_within
taken_names s m = go (seen.has_room c.limit)
  where
    c : seen.Course
    c = seen.take_ops (seen.started None s) m.ops

    go : (b : Bool) → KeepsNames s (cond b (seen.moved c (acknowledged c.state m.from m.vector)) c).state
    go true = names_on s c.state (acknowledged c.state m.from m.vector) (ops_names m.ops (seen.started None s)) (acknowledged_names c.state m.from m.vector)
    go false = ops_names m.ops (seen.started None s)

pub taken_alike : (d : Sitting Seen) (f : Sitting State) (bytes : List ℕ) (r : Result Message ℕ) → IsBytes bytes → message_of bytes ≡ r → IsAlike d f → AreAlike (taken by_parts d r) (taken by_history f r)
taken_alike d f bytes (Err at) b e h = record { reply = refl; states = h }
taken_alike d f bytes (Ok m) b e h = subst (λ (x : Bool). AreAlike (taken by_parts d (Ok m)) (cond x (answers.taken_at f (take_message f.state m)) (answers.says other f))) same (go mine refl)
  where
    s : Seen
    s = d.state

    t : State
    t = f.state

    other : List ℕ
    other = failed_text (OtherGroup m.group m.members)

    mine : Bool
    mine = (m.group == s.group) && (m.members == members s)

    same : mine ≡ ((m.group == group_of t.history) && (m.members == members_of t.history))
    same = ap (λ n. (m.group == n) && (m.members == members s)) (h.stands).group ∙ ap (λ n. (m.group == group_of t.history) && (m.members == n)) (members_alike s t h.stands)

    ours : mine ≡ true → AreAlike (answers.taken_at d (taken_over s m)) (answers.taken_at f (take_message t m))
    ours is =
        let as_many : m.members ≡ members s = eqb-true m.members (members s) (and_right (m.group == s.group) (m.members == members s) is) in
        let message = message_takes bytes m b e in
        let g = taken_stands None s t m (message_given bytes m (members s) message as_many) h.stands in
        let w = taken_writable s bytes m h.sane h.writable message as_many in
        record {
          reply = ap (λ (c : Taken). take_text c.applied c.released c.repeated c.held (length c.refused)) g.counts;
          states = record {
            stands = g.states.1;
            sane = w.0;
            writable = w.1;
            entries = h.entries;
            cursors = h.cursors;
            tells = h.tells;
            whole = whole_on s (taken_over s m).state d.entries d.cursors (taken_names s m) h.whole;
            texts = h.texts;
            steps = steps_after s (taken_over s m).state d.recorded f.recorded (taken_names s m) h.steps;
          };
        }

    go : (x : Bool) → mine ≡ x → AreAlike (cond x (answers.taken_at d (taken_over s m)) (answers.says other d)) (cond x (answers.taken_at f (take_message t m)) (answers.says other f))
    go true is = ours is
    go false is = record { reply = refl; states = h }

-- the offsets of what is spelled are in range
ranged_ops : (n : ℕ) (first : Option Op) (os : List Op) → Chained (λ b. IsSpelled n) first os → AreInRange os
ranged_ops n first [] c o p = absurd p
ranged_ops n first (x ∷ os) c o (inl e) = subst (λ (y : Op). IsInRange y.body) e (given_op n x c.0).ranged
ranged_ops n first (x ∷ os) c o (inr p) = ranged_ops n (Some x) os c.1 o p

message_alike_changes : (d : Sitting Seen) (f : Sitting State) (bytes : List ℕ) (r : Result Message ℕ) → IsBytes bytes → message_of bytes ≡ r → IsAlike d f → message_changes by_parts d.state r ≡ message_changes by_history f.state r
message_alike_changes d f bytes (Err at) b e h = refl
message_alike_changes d f bytes (Ok m) b e h = go mine refl ∙ ap (λ (x : Bool). cond x (taken_changes_in t m) []) same
  where
    s : Seen
    s = d.state

    t : State
    t = f.state

    mine : Bool
    mine = (m.group == s.group) && (m.members == members s)

    same : mine ≡ ((m.group == group_of t.history) && (m.members == members_of t.history))
    same = ap (λ n. (m.group == n) && (m.members == members s)) (h.stands).group ∙ ap (λ n. (m.group == group_of t.history) && (m.members == n)) (members_alike s t h.stands)

    ours : mine ≡ true → taken_changes s m ≡ taken_changes_in t m
    ours is =
        let as_many : m.members ≡ members s = eqb-true m.members (members s) (and_right (m.group == s.group) (m.members == members s) is) in
        let message = message_takes bytes m b e in
        changes_taken_alike None s t m h.sane h.stands (message_given bytes m (members s) message as_many) (ranged_ops m.members None m.ops (message.2).ops)

    go : (x : Bool) → mine ≡ x → cond x (taken_changes s m) [] ≡ cond x (taken_changes_in t m) []
    go true is = ours is
    go false is = refl

sent_alike : (s : Seen) (t : State) (to : ℕ) → StandsFor s t → sent by_parts s to ≡ sent by_history t to
sent_alike s t to h =
    let n = members_alike s t h in
    go (ltb to (members s)) refl ∙ ap (λ k. cond (ltb to k) (bytes_text (codes "message") (message_bytes (message_for t.history to))) (failed_text (NotMember to))) n
  where
    go : (b : Bool) → ltb to (members s) ≡ b
        → cond b (bytes_text (codes "message") (message_bytes (message_over s to))) (failed_text (NotMember to)) ≡ cond b (bytes_text (codes "message") (message_bytes (message_for t.history to))) (failed_text (NotMember to))
    go true e =
        let below : to < members s = grind (arith, nat_tests) in
        ap (λ (m : Message). bytes_text (codes "message") (message_bytes m)) (message_alike s t to below h)
    go false e = refl

sent_told_alike : (s : Seen) (t : State) (to : ℕ) (told : List ℕ) → StandsFor s t → sent_told by_parts s to told ≡ sent_told by_history t to told
sent_told_alike s t to told h =
    let n = members_alike s t h in
    go (length told == members s) refl (ltb to (members s)) refl ∙ ap (λ k. cond (length told == k) (cond (ltb to k) (bytes_text (codes "message") (message_bytes (message_told t.history to told))) (failed_text (NotMember to))) bad_text) n
  where
    go : (a : Bool) → (length told == members s) ≡ a → (b : Bool) → ltb to (members s) ≡ b
        → cond a (cond b (bytes_text (codes "message") (message_bytes (message_told_over s to told))) (failed_text (NotMember to))) bad_text ≡ cond a (cond b (bytes_text (codes "message") (message_bytes (message_told t.history to told))) (failed_text (NotMember to))) bad_text
    go true k true e =
        let below : to < members s = grind (arith, nat_tests) in
        ap (λ (m : Message). bytes_text (codes "message") (message_bytes m)) (message_told_alike s t to told below (eqb-true (length told) (members s) k) h)
    go true k false e = refl
    go false k b e = refl

-- ---- all requests

pub answer_alike : (d : Sitting Seen) (f : Sitting State) (r : Request) → IsGiven r → IsAlike d f → AreAlike (answer by_parts d r) (answer by_history f r)
unfolding answer
answer_alike d f (Does (orders.Edit line)) g h = told_rested_alike d f _ _ _ _ h.tells (line_changes_alike d f line h) (line_almost d f line h g)
answer_alike d f (Does (orders.Change at n cs)) g h = record { reply = refl; states = h }
answer_alike d f (Does orders.Undo) g h =
    let e = with_caught_up by_parts d in
    let u = with_caught_up by_history f in
    let k = caught_up_stays d f h in
    told_rested_alike e u _ _ _ _ h.tells (undone_alike e u k) (undo_almost e u k)
answer_alike d f (Does orders.Back) g h =
    let b = steps_begun d.state f.state d.recorded f.recorded h.stands h.steps in
    let k = begun_stays d f h in
    told_rested_alike (with_begun by_parts d) (with_begun by_history f) _ _ _ _ h.tells (turned_changes _ _ b k).0 (backed_almost _ _ b k)
answer_alike d f (Does orders.Again) g h =
    let b = steps_begun d.state f.state d.recorded f.recorded h.stands h.steps in
    let k = begun_stays d f h in
    told_rested_alike (with_begun by_parts d) (with_begun by_history f) _ _ _ _ h.tells (turned_changes _ _ b k).1 (redone_almost _ _ b k)
answer_alike d f (Does orders.Close) g h = ended_alike d f h
answer_alike d f (Does (orders.Point side at n)) g h = pointed_alike d f side at n h
answer_alike d f (Does (orders.Place n)) g h = where_alike d f n h
answer_alike d f (Does (orders.Spell at)) g h = record { reply = spelled_alike d.state f.state at h.stands; states = h }
answer_alike d f (Does (orders.Locate place)) g h = record { reply = ap located_text (located_alike d.state f.state place h.stands).0; states = h }
answer_alike d f (Does orders.Text) g h = record { reply = ap (λ cs. bytes_text (codes "text") (encode_utf8_all cs)) (text_alike d.state f.state h.stands); states = h }
answer_alike d f (Does (orders.Take len)) g h = record { reply = refl; states = h }
answer_alike d f (Does (orders.Send to)) g h = record { reply = sent_alike d.state f.state to h.stands; states = h }
answer_alike d f (Does (orders.SendTold to told)) g h = record { reply = sent_told_alike d.state f.state to told h.stands; states = h }
answer_alike d f (Does orders.Stat) g h = record { reply = ap (λ (t : List ℕ). bytes_text (codes "stat") t) (stat_alike d.state f.state h.stands); states = h }
answer_alike d f (Does orders.Costs) g h = record { reply = ap costs_text (costs_alike d.state f.state h.stands); states = h }
answer_alike d f (Does (orders.Version n)) g h = record { reply = refl; states = h }
answer_alike d f (Does orders.Store) g h = record { reply = refl; states = h }
answer_alike d f (Does (orders.Tell on)) g h = record {
  reply = refl;
  states = record { stands = h.stands; sane = h.sane; writable = h.writable; entries = h.entries; cursors = h.cursors; tells = refl; whole = h.whole; texts = h.texts; steps = h.steps };
}
answer_alike d f (Does orders.Quit) g h = record { reply = refl; states = h }
answer_alike d f (Does orders.Bad) g h = record { reply = refl; states = h }
answer_alike d f (Takes message) g h = told_alike d f _ _ _ _ h.tells (message_alike_changes d f message (message_of message) g refl h) (taken_alike d f message (message_of message) g refl h)
