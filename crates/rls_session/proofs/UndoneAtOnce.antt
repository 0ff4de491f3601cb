-- An edit that is undone at once.
use Rattle.std.proofs.Common.{◌≡◌, ◌∙◌, ◌-◌, ℕ, Bool, false, List, [], ◌∷◌, ◌++◌, length, map, Option, Some, None, refl, sym, ap, subst, arith, length-append}
use Rattle.std.specs.Prelude.{not, slice_get, if◌then◌else◌}
use Rattle.rls_ident.specs.declared.epoch_name.EpochName.{EpochName}
use Rattle.rls_ident.specs.EpochNames.{name_eq}
use Rattle.rls_ident.proofs.Named.{name_eq_refl}
use Rattle.rls_rename.specs.Tree.{Epochs, greatest}
use Rattle.rls_ops.specs.declared.op.Body.{Body}
use Rattle.rls_ops.specs.declared.op.Body.TheVariants as bodies
use Rattle.rls_model.specs.declared.edit.Edit.{Edit}
use Rattle.rls_model.specs.declared.edit.Edit.TheVariants as edits
use Rattle.rls_model.specs.declared.edit.EditError.{EditError}
use Rattle.rls_model.specs.Receiving.{State}
use Rattle.rls_model.specs.WellFormed.{IsEdit}
use Rattle.rls_seen.specs.Edits.{edit_fault_over, edited, made_over}
use Rattle.rls_seen.specs.Over.{released_all}
use Rattle.rls_seen.specs.Seen.{Seen, greatest_over, text_over}
use Rattle.rls_script.specs.declared.lines.Line.{Line}
use Rattle.rls_script.specs.declared.lines.Line.TheVariants as lines
use Rattle.rls_stages.proofs.Meant.{IsLine}
use Rattle.rls_steps.proofs.Unchanged.{delete_epochs, insert_epochs}
use Rattle.rls_undo.specs.declared.entry.Entry.{Entry}
use Rattle.rls_undo.specs.Plans.{entries_by, epoch_in, gone_by}
use Rattle.rls_undo.specs.Undoing.{entries_over, is_behind, is_of_other, last_of, performed_over, planned_over, refusal_over, settled_over}
use Rattle.rls_undo.specs.UndoLaws.{AreWhole, IsEntry}
use Rattle.rls_undo.proofs.AtOnce.{back_at_once}
use Rattle.rls_session.specs.declared.orders.Order.TheVariants as orders
use Rattle.rls_session.specs.Answers.{Sitting, answer, made_sitting, undone, undone_by_plan, with_caught_up}
use Rattle.rls_session.specs.Requests.{Does}
use Rattle.rls_session.specs.Sessions.{by_parts}
use Rattle.rls_session.specs.SessionLaws.{IsOfHistory, sitting_in}
use Rattle.rls_session.specs.Turns.{UndoneAtOnce}
use Rattle.rls_session.proofs.Agreeing.{answer_alike}
use Rattle.rls_session.proofs.Edited.{alike_in}
use Rattle.rls_session.proofs.InPlace.{line_made}

last_is : (es : List Entry) (x : Entry) → last_of (es ++ x ∷ []) ≡ Some x
last_is es x = ap (slice_get (es ++ x ∷ [])) size ∙ go es
  where
    size : length (es ++ x ∷ []) - 1 ≡ length es
    size = omega (arith, length-append es (x ∷ []))

    go : (ys : List Entry) → slice_get (ys ++ x ∷ []) (length ys) ≡ Some x
    go [] = refl
    go (y ∷ ys) = go ys

last_whole : (es : List Entry) (x : Entry) → AreWhole (es ++ x ∷ []) → IsEntry x
last_whole [] x w = w.0
last_whole (e ∷ es) x w = last_whole es x w.1

entry_epoch : (e : EpochName) (b : Body) (gone : List ℕ) (x : Entry) → entries_by e b gone ≡ x ∷ [] → epoch_in x ≡ e
entry_epoch e (bodies.Insert first text) gone x q = cc
entry_epoch e (bodies.Delete []) gone x q = absurd cc
entry_epoch e (bodies.Delete (y ∷ ys)) gone x q = cc
entry_epoch e (bodies.Rename former) gone x q = absurd cc
entry_epoch e bodies.Leave gone x q = absurd cc

here_epoch : (s : Seen) (edit : Edit) (x : Entry) → entries_over s edit ≡ x ∷ [] → epoch_in x ≡ greatest_over s
unfolding entries_over made_over
here_epoch s edit x q = entry_epoch (made_over s edit).epoch (made_over s edit).body (gone_by edit (text_over s)) x q

module _ (d : Sitting Seen) (edit : Edit) (x : Entry) (q : entries_over d.state edit ≡ x ∷ []) (epochs : (edited d.state edit).epochs ≡ (d.state).epochs) where
  abbrev n : Seen
  n = edited d.state edit

  abbrev e : Sitting Seen
  e = made_sitting by_parts d edit

  entries : e.entries ≡ d.entries ++ x ∷ []
  entries = ap (λ (es : List Entry). d.entries ++ es) q

  behind : is_behind (greatest_over n) e.entries ≡ false
  behind =
      ap (is_behind (greatest_over n)) entries
      ∙ (ap (is_of_other (greatest_over n)) (last_is d.entries x)
      ∙ ap not (ap (λ (g : EpochName). name_eq g (greatest_over n)) (here_epoch d.state edit x q ∙ sym (ap (λ (E : Epochs). greatest E.top E.nodes) epochs)) ∙ name_eq_refl (greatest_over n)))

  last_here : last_of (with_caught_up by_parts e).entries ≡ Some x
  last_here = ap (λ (b : Bool). last_of (if b then map (settled_over n) e.entries else e.entries)) behind ∙ (ap last_of entries ∙ last_is d.entries x)

  undone_here : refusal_over n (planned_over n x) ≡ None → released_all (performed_over n (planned_over n x)) ≡ performed_over n (planned_over n x) →
      ((answer by_parts e (Does orders.Undo)).state).state ≡ performed_over n (planned_over n x)
  unfolding answer
  undone_here f quiet =
      ap (λ (o : Option Entry). released_all ((undone by_parts (with_caught_up by_parts e) o).state).state) last_here
      ∙ (ap (λ (o : Option EditError). released_all ((undone_by_plan by_parts (with_caught_up by_parts e) (planned_over n x) o).state).state) f ∙ quiet)

module _ (d : Sitting Seen) (t : State) (h : IsOfHistory d t) (edit : Edit) (line : Line) (x : Entry) (i : IsEdit edit) (f : edit_fault_over d.state edit ≡ None) (q : entries_over d.state edit ≡ x ∷ []) (epochs : (edited d.state edit).epochs ≡ (d.state).epochs) (ok : IsLine line)
    (state : (answer by_parts d (Does (orders.Edit line))).state ≡ made_sitting by_parts d edit) where
  is_entry : IsEntry x
  is_entry =
      let a = (answer_alike d (sitting_in d t) (Does (orders.Edit line)) ok (alike_in d t h)).states in
      last_whole d.entries x (subst AreWhole (ap (λ (e : Sitting Seen). e.entries) state ∙ entries d edit x q epochs) a.texts)

  at_once : let n = edited d.state edit in let m = performed_over n (planned_over n x) in released_all n ≡ n → refusal_over n (planned_over n x) ≡ None → released_all m ≡ m →
      text_over ((answer by_parts (answer by_parts d (Does (orders.Edit line))).state (Does orders.Undo)).state).state ≡ text_over d.state
  at_once quiet r rest =
      ap (λ (e : Sitting Seen). text_over ((answer by_parts e (Does orders.Undo)).state).state) state
      ∙ (ap text_over (undone_here d edit x q epochs r rest) ∙ back_at_once d.state edit x h.sane is_entry i f q r)

no_rename : (s : Seen) → entries_over s edits.Rename ≡ []
unfolding entries_over made_over
no_rename s = refl

no_leave : (s : Seen) → entries_over s edits.Leave ≡ []
unfolding entries_over made_over
no_leave s = refl

none_one : (es : List Entry) (x : Entry) → es ≡ [] → es ≡ x ∷ [] → ⊥
none_one es x e f = let both : [] ≡ x ∷ [] = sym e ∙ f in cc

pub undone_at_once : UndoneAtOnce
unfolding answer
undone_at_once d t (edits.Insert at cs) x h i f q quiet r rest =
    at_once d t h (edits.Insert at cs) (lines.Insert at cs) x i f q (insert_epochs d.state at cs) i (line_made by_parts d (edits.Insert at cs) f quiet) quiet r rest
undone_at_once d t (edits.Delete at n) x h i f q quiet r rest =
    at_once d t h (edits.Delete at n) (lines.Delete at n) x i f q (delete_epochs d.state at n) i (line_made by_parts d (edits.Delete at n) f quiet) quiet r rest
undone_at_once d t edits.Rename x h i f q quiet r rest = absurd (none_one _ x (no_rename d.state) q)
undone_at_once d t edits.Leave x h i f q quiet r rest = absurd (none_one _ x (no_leave d.state) q)
