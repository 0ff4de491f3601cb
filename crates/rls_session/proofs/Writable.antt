-- What a session works on may be written as a file, after each request.
use Rattle.std.proofs.Common.{◌≡◌, ℕ, Bool, true, false, cond, ltb, List, [], ◌∷◌, length, Option, Some, None, Result, Ok, Err, refl, sym, subst}
use Rattle.std.specs.Prelude.{◌&&◌, ◌==◌}
use Rattle.std.proofs.lemmas.Bool.{eqb-true}
use Rattle.rls_ident.proofs.Members.{and_right}
use Rattle.rls_ops.specs.declared.message.Message.{Message}
use Rattle.rls_codec.specs.CodecLaws.{IsBytes}
use Rattle.rls_codec.specs.Reading.{message_of}
use Rattle.rls_codec.proofs.MessageFormats.{message_takes}
use Rattle.rls_model.specs.declared.edit.Edit.{Edit}
use Rattle.rls_model.specs.declared.edit.Edit.TheVariants as edits
use Rattle.rls_model.specs.declared.edit.EditError.{EditError}
use Rattle.rls_model.specs.EditRun.{unless_fault}
use Rattle.rls_seen.specs.Edits.{edit_fault_over, edited}
use Rattle.rls_seen.specs.Messages.{taken_over}
use Rattle.rls_seen.specs.Sane.{IsSane}
use Rattle.rls_seen.specs.Seen.{Seen, members, text_over}
use Rattle.rls_report.specs.declared.failures.LineFault.{LineFault}
use Rattle.rls_report.specs.declared.failures.LineFault.TheVariants.{Range}
use Rattle.rls_report.specs.declared.failures.CommandError.TheVariants.{OtherGroup}
use Rattle.rls_script.specs.Clusters.{cluster_before}
use Rattle.rls_script.specs.declared.clusters.ClusterError.{ClusterError}
use Rattle.rls_script.specs.declared.clusters.ClusterError.TheVariants as clusters
use Rattle.rls_script.specs.declared.lines.Line.{Line}
use Rattle.rls_script.specs.declared.lines.Line.TheVariants as lines
use Rattle.rls_file.specs.Stored.{AreWritable}
use Rattle.rls_file.proofs.Storable.{IsSized, all_sized, edited_sized, sized, taken_writable}
use Rattle.rls_stages.specs.Lines.{allowed_by, backward_by, line_by, line_fault_of}
use Rattle.rls_undo.specs.declared.entry.Entry.{Entry}
use Rattle.rls_steps.specs.declared.piece.Step.{Step}
use Rattle.rls_steps.specs.Grounds.{over, back_on, again_on, back_edits, again_edits}
use Rattle.rls_steps.proofs.Performing.{turned_state}
use Rattle.rls_undo.specs.Undoing.{last_of, performed_over, planned_over, refusal_over}
use Rattle.rls_session.specs.declared.orders.Side.{Side}
use Rattle.rls_session.specs.declared.orders.Order.{Order}
use Rattle.rls_session.specs.declared.orders.Order.TheVariants as orders
use Rattle.rls_session.specs.Answering.{IsAnswered}
use Rattle.rls_session.specs.Answers.{Sitting, done, if_steps, pointed, read_line, take_told, taken, taken_at, undone, undone_by_plan, with_begun, with_caught_up, with_cursors}
use Rattle.rls_session.specs.Answers as answers
use Rattle.rls_session.specs.Courses.{Answered}
use Rattle.rls_session.specs.Cursors.{cursors_with}
use Rattle.rls_session.specs.Replies.{again_text, back_text, cursor_text, failed_text, nothing_text, refused_text}
use Rattle.rls_session.specs.Sessions.{by_parts}

-- ---- edits

-- what was read as an edit has no fault there
abbrev IsFaultless : Seen → Result Edit LineFault → Type 0
IsFaultless s (Ok edit) = edit_fault_over s edit ≡ None
IsFaultless s (Err e) = Unit {0}

allowed_faultless : (s : Seen) (edit : Edit) → IsFaultless s (allowed_by edit_fault_over s edit)
allowed_faultless s edit = go (edit_fault_over s edit) refl
  where
    go : (f : Option EditError) → edit_fault_over s edit ≡ f → IsFaultless s (unless_fault (line_fault_of f) edit)
    go None e = e
    go (Some f) e = tt

backward_faultless : (s : Seen) (at : ℕ) (r : Result ℕ ClusterError) → IsFaultless s (backward_by edit_fault_over s at r)
backward_faultless s at (Ok from) = allowed_faultless s _
backward_faultless s at (Err (clusters.Range p total)) = tt
backward_faultless s at (Err (clusters.NotBoundary p)) = tt

line_faultless : (s : Seen) (l : Line) → IsFaultless s (line_by edit_fault_over text_over s l)
line_faultless s (lines.Insert at cs) = allowed_faultless s (edits.Insert at cs)
line_faultless s (lines.Delete at n) = allowed_faultless s (edits.Delete at n)
line_faultless s (lines.Back at) = backward_faultless s at (cluster_before (text_over s) at)
line_faultless s lines.Rename = allowed_faultless s edits.Rename

edit_sized : (d : Sitting Seen) (r : Result Edit LineFault) → IsFaultless d.state r → IsSized d.state → IsSized ((answers.edited by_parts d r).state).state
edit_sized d (Ok edit) f h = edited_sized d.state edit h f
edit_sized d (Err fault) f h = h

-- ---- undoing

performed_sized : (s : Seen) (es : List Edit) → IsSized s → IsSized (performed_over s es)
performed_sized s [] h = h
performed_sized s (e ∷ es) h = go (edit_fault_over s e) refl (λ k. performed_sized (edited s e) es k)
  where
    go : (f : Option EditError) → edit_fault_over s e ≡ f → (IsSized (edited s e) → IsSized (performed_over (edited s e) es)) → IsSized (performed_over s (e ∷ es))
    go None q rest = rw q (rest (edited_sized s e h q))
    go (Some x) q rest = rw q h

undone_sized : (d : Sitting Seen) (o : Option Entry) → IsSized d.state → IsSized ((undone by_parts d o).state).state
undone_sized d None h = h
undone_sized d (Some entry) h = go (refusal_over d.state (planned_over d.state entry))
  where
    go : (o : Option EditError) → IsSized ((undone_by_plan by_parts d (planned_over d.state entry) o).state).state
    go None = performed_sized d.state (planned_over d.state entry) h
    go (Some e) = performed_sized d.state (planned_over d.state entry) h

-- ---- steps

none_or_sized : (xs : List Step) (a b : Answered (Sitting Seen)) → IsSized (a.state).state → IsSized (b.state).state → IsSized ((if_steps xs a b).state).state
none_or_sized [] a b h k = h
none_or_sized (x ∷ xs) a b h k = k

turned_sized : (s n : Seen) (es : List Edit) → n ≡ performed_over s es → IsSized s → IsSized n
turned_sized s n es e h = subst IsSized (sym e) (performed_sized s es h)

-- ---- all orders

pointed_same : (d : Sitting Seen) (side : Side) (at n : ℕ) → AreWritable d.state → AreWritable ((pointed by_parts d side at n).state).state
pointed_same d side at n w = go (ltb (length (text_over d.state)) at)
  where
    go : (b : Bool) → AreWritable ((cond {A = Answered (Sitting Seen)} b (answers.says (refused_text (Range at (length (text_over d.state)))) d) (answers.says (cursor_text at) (with_cursors d (cursors_with d.cursors n (by_parts.anchor d.state side at))))).state).state
    go true = w
    go false = w

done_writable : (d : Sitting Seen) (order : Order) → AreWritable d.state → AreWritable ((done by_parts d order).state).state
done_writable d (orders.Edit line) w = all_sized _ (edit_sized d (read_line by_parts d.state line) (line_faultless d.state line) (sized d.state w))
done_writable d (orders.Change at n cs) w = w
done_writable d orders.Undo w =
    let e = with_caught_up by_parts d in
    all_sized _ (undone_sized e (last_of e.entries) (sized d.state w))
done_writable d orders.Back w =
    let s = d.state in
    let e = with_begun by_parts d in
    let r = e.recorded in
    all_sized _ (none_or_sized r.past (answers.says nothing_text e) (answers.turned by_parts e back_text (back_on over s r)) (sized s w) (turned_sized s (back_on over s r).state (back_edits over s r) (turned_state s r).0 (sized s w)))
done_writable d orders.Again w =
    let s = d.state in
    let e = with_begun by_parts d in
    let r = e.recorded in
    all_sized _ (none_or_sized r.future (answers.says nothing_text e) (answers.turned by_parts e again_text (again_on over s r)) (sized s w) (turned_sized s (again_on over s r).state (again_edits over s r) (turned_state s r).1 (sized s w)))
done_writable d orders.Close w = w
done_writable d (orders.Point side at n) w = pointed_same d side at n w
done_writable d (orders.Place n) w = w
done_writable d (orders.Spell at) w = w
done_writable d (orders.Locate place) w = w
done_writable d orders.Text w = w
done_writable d (orders.Take len) w = w
done_writable d (orders.Send to) w = w
done_writable d (orders.SendTold to told) w = w
done_writable d orders.Stat w = w
done_writable d orders.Costs w = w
done_writable d (orders.Version n) w = w
done_writable d orders.Store w = w
done_writable d (orders.Tell on) w = w
done_writable d orders.Quit w = w
done_writable d orders.Bad w = w

-- by the answer
pub answered_writable : (d e : Sitting Seen) (order : Order) (reply : List ℕ) → IsAnswered (done by_parts d order) reply e → AreWritable d.state → AreWritable e.state
answered_writable d e order reply a w = subst (λ (x : Sitting Seen). AreWritable x.state) (sym a.state_is) (done_writable d order w)

-- ---- messages

took_writable : (d : Sitting Seen) (bytes : List ℕ) (r : Result Message ℕ) → IsBytes bytes → message_of bytes ≡ r → IsSane d.state → AreWritable d.state → AreWritable ((taken by_parts d r).state).state
took_writable d bytes (Err at) b e h w = w
took_writable d bytes (Ok m) b e h w = go ((m.group == (d.state).group) && (m.members == members d.state)) refl
  where
    go : (x : Bool) → ((m.group == (d.state).group) && (m.members == members d.state)) ≡ x → AreWritable ((cond {A = Answered (Sitting Seen)} x (taken_at d (taken_over d.state m)) (answers.says (failed_text (OtherGroup m.group m.members)) d)).state).state
    go true is = (taken_writable d.state bytes m h w (message_takes bytes m b e) (eqb-true m.members (members d.state) (and_right (m.group == (d.state).group) (m.members == members d.state) is))).1
    go false is = w

pub taken_stays_writable : (d e : Sitting Seen) (bytes reply : List ℕ) → IsBytes bytes → IsAnswered (take_told by_parts d (message_of bytes)) reply e → IsSane d.state → AreWritable d.state → AreWritable e.state
taken_stays_writable d e bytes reply b a h w = subst (λ (x : Sitting Seen). AreWritable x.state) (sym a.state_is) (took_writable d bytes (message_of bytes) b refl h w)
