-- A session, request by request: the texts to which `z` and `y` lead, as long as nobody else edits.
use Rattle.std.proofs.Common.{◌≡◌, ◌∙◌, ℕ, zero, suc, Bool, true, false, cond, ltb, List, [], ◌∷◌, length, Option, None, Result, Ok, Err, inr, refl, sym, ap, subst, arith}
use Rattle.rls_replica.specs.Names.{keeps}
use Rattle.std.specs.Prelude.{IsTrue, map, reverse, if◌then◌else◌}
use Rattle.std.proofs.lemmas.List.{length-reverse}
use Rattle.rls_ident.proofs.Members.{eq_test}
use Rattle.rls_codec.specs.CodecLaws.{IsBytes}
use Rattle.rls_codec.specs.Reading.{message_of}
use Rattle.rls_ops.specs.declared.message.Message.{Message}
use Rattle.rls_model.specs.declared.edit.Edit.{Edit}
use Rattle.rls_model.specs.declared.edit.Edit.TheVariants as edits
use Rattle.rls_model.specs.Editing.{edit_fault, made}
use Rattle.rls_model.specs.Laws.{AreEdits}
use Rattle.rls_model.specs.Receiving.{State, accept}
use Rattle.rls_model.specs.WellFormed.{IsEdit}
use Rattle.rls_model.proofs.HistoryNumbers.{front_self}
use Rattle.rls_model.proofs.Made as making
use Rattle.rls_seen.proofs.Editing.{edit_faults_alike, edited_stands}
use Rattle.rls_replica.proofs.KeptNames.{accepted_names}
use Rattle.rls_steps.proofs.Agreeing.{recorded_alike, turned_alike}
use Rattle.rls_steps.proofs.Performing.{turned_edits_alike, turned_performed}
use Rattle.rls_steps.specs.Index.{AreApart}
use Rattle.rls_seen.specs.Edits.{edit_fault_over, edited, made_over}
use Rattle.rls_seen.specs.Over.{accepted, released_all}
use Rattle.rls_seen.specs.Kept.{dropped}
use Rattle.rls_seen.specs.Seen.{Seen, greatest_over, text_over}
use Rattle.rls_seen.proofs.Dropped.{dropped_sane, greatest_left}
use Rattle.rls_seen.proofs.Making.{edited_sane}
use Rattle.rls_report.specs.declared.failures.CommandError.TheVariants.{OtherGroup}
use Rattle.rls_report.specs.declared.failures.LineFault.{LineFault}
use Rattle.rls_report.specs.declared.failures.LineFault.TheVariants.{Range}
use Rattle.rls_script.specs.declared.lines.Line.{Line}
use Rattle.rls_stages.proofs.Meant.{IsLine, IsMeantWell, line_well}
use Rattle.rls_undo.specs.declared.entry.Entry.{Entry}
use Rattle.rls_undo.specs.Undoing.{caught_up_over, is_of_other, last_of, settled_over}
use Rattle.rls_steps.specs.declared.piece.Step.{Step}
use Rattle.rls_steps.specs.Courses.{Copies, copied_again, copied_back}
use Rattle.rls_steps.specs.GroundLaws.{IsWhole}
use Rattle.rls_steps.specs.Grounds.{Turned, again_on, back_on, begun_on, exchanged, over, recorded_on, within}
use Rattle.rls_steps.specs.Groups.{front_size, group_size, in_front}
use Rattle.rls_steps.specs.Recorded.{Recorded, steps_over}
use Rattle.rls_steps.specs.Sweeping.{with_newest}
use Rattle.rls_session.specs.declared.orders.Side.{Side}
use Rattle.rls_session.specs.declared.orders.Order.TheVariants as orders
use Rattle.rls_session.specs.Answers.{Sitting, answer, if_steps, is_for, read_line, resumed, undone, with_begun, with_caught_up, with_cursors}
use Rattle.rls_session.specs.Answers as answers
use Rattle.rls_session.specs.Courses.{Answered}
use Rattle.rls_session.specs.Cursors.{cursors_with}
use Rattle.rls_session.specs.InPlace.{asked, in_place}
use Rattle.rls_session.specs.Remembering.{AfterEdit, AfterRequest, AreRecalled, NamesCharacters, Recalls, Forgets, IsAlone, IsAloneEdit, IsAloneMessage, IsQuiet, Remembers, TextsAlong, TextsAtFirst, TextsStay, group_texts}
use Rattle.rls_session.specs.Replies.{again_text, back_text, cursor_text, failed_text, nothing_text, refused_text}
use Rattle.rls_session.specs.Requests.{Does, Request, Takes}
use Rattle.rls_session.specs.Sessions.{by_history, by_parts}
use Rattle.rls_session.proofs.Agreeing.{answer_alike}
use Rattle.rls_session.proofs.AlikeSittings.{IsAlike}
use Rattle.rls_session.specs.Seats.{seated}
use Rattle.rls_session.proofs.AlikeSeats.{seated_alike}
use Rattle.rls_session.specs.SessionLaws.{sitting_in}
use Rattle.rls_session.proofs.Alike.{resumed_alike}
use Rattle.rls_session.proofs.Edited.{alike_in, all_given, of_history}
use Rattle.rls_session.proofs.Given.{IsGiven}
use Rattle.rls_session.proofs.InPlace.{AreGiven, asked_given}
use Rattle.rls_session.proofs.Steps.{recorded_kept, steps_begun}
use Rattle.rls_session.proofs.NamesAlong.{recorded_after}
use Rattle.rls_session.proofs.NamesKept.{back_recorded, begun_recorded, delete_recorded, insert_recorded, later_recorded, none_recorded, once_over, settled_recorded}
use Rattle.rls_session.proofs.Remembering.{again_remembers, back_remembers, begun_remembers, delete_remembers, first_remembers, insert_remembers, kept_remembers, newest_all, rename_remembers, same_names, same_remembers, settled_remembers}

-- these texts are remembered after the answer
abbrev Goes : (Copies → Type 0) → Sitting Seen → Type 0
Goes P e = (g : Copies) × P g × Remembers e.state e.recorded g

-- nothing is released
quiet_goes : (P : Copies → Type 0) (s : Seen) (r : Recorded) → IsQuiet s → ((g : Copies) × P g × Remembers s r g) → (g : Copies) × P g × Remembers (released_all s) r g
quiet_goes P s r q x = (x.0, x.1, subst (λ (n : Seen). Remembers n r x.0) (sym q) x.2)

leave_text : (s : Seen) → (edited s edits.Leave).text ≡ s.text
unfolding accepted made_over
leave_text s = refl

leave_epochs : (s : Seen) → (edited s edits.Leave).epochs ≡ s.epochs
unfolding accepted made_over
leave_epochs s = refl

no_group : (xs : List Step) → group_size xs ≡ 0 → reverse xs ≡ []
no_group xs e = go (reverse xs) e
  where
    go : (ys : List Step) → front_size ys ≡ 0 → ys ≡ []
    go [] e = refl
    go (y ∷ ys) e =
        let one : in_front y.group (y ∷ ys) ≡ suc (in_front y.group ys) = ap (λ (c : Bool). if c then suc (in_front y.group ys) else 0) (eq_test y.group y.group refl) in
        absurd (omega (arith, e, one))

module _ (d : Sitting Seen) (f : Sitting State) (a : IsAlike d f) (g : Copies) (m : Remembers d.state d.recorded g) (k : NamesCharacters f.state f.recorded) where
  abbrev b : Recorded
  b = begun_on over d.state d.recorded

  begun : Remembers d.state b g
  begun = begun_remembers d.state d.recorded g m

  whole : IsWhole b
  whole = (a.steps).spelled

  kept : IsTrue (keeps d.state b.epoch)
  kept = (steps_begun d.state f.state d.recorded f.recorded a.stands a.steps).kept

  -- what is recorded names characters, and none has two names
  names : NamesCharacters f.state b
  names = subst (NamesCharacters f.state) (sym (steps_begun d.state f.state d.recorded f.recorded a.stands a.steps).same) (begun_recorded f.state f.recorded k)

  names_edited : (edit : Edit) → IsEdit edit → edit_fault (f.state).history edit ≡ None → NamesCharacters (accept f.state (made (f.state).history edit)) (recorded_on within f.state edit b)
  names_edited (edits.Insert at cs) i e = insert_recorded f.state b at cs (a.stands).legal i e names
  names_edited (edits.Delete at n) i e = delete_recorded f.state b at n (a.stands).legal i e names
  names_edited edits.Rename i e = let G = (f.state).history in later_recorded f.state (accept f.state (made G edits.Rename)) b (inr (front_self G)) (making.law G edits.Rename (a.stands).legal i e) names
  names_edited edits.Leave i e = let G = (f.state).history in later_recorded f.state (accept f.state (made G edits.Leave)) b (inr (front_self G)) (making.law G edits.Leave (a.stands).legal i e) names

  once_edited : (edit : Edit) → IsEdit edit → edit_fault_over d.state edit ≡ None → AreApart ((steps_over (edited d.state edit) (recorded_on over d.state edit b)).held).names
  once_edited edit i e =
      let n = accept f.state (made (f.state).history edit) in
      let there = names_edited edit i (sym (edit_faults_alike d.state f.state edit a.stands) ∙ e) in
      once_over (edited d.state edit) n (recorded_on over d.state edit b) (edited_stands d.state f.state edit i e a.stands)
      (accepted_names d.state (made_over d.state edit) (recorded_on over d.state edit b).epoch (recorded_kept d.state edit b kept))
      (subst (NamesCharacters n) (sym (recorded_alike d.state f.state edit b a.stands kept whole).0) there)

  once_back : let t = back_on over d.state b in AreApart ((steps_over t.state t.recorded).held).names
  once_back =
      let x = (turned_alike d.state f.state b a.stands a.sane kept whole).0 in
      let es = subst AreEdits (turned_edits_alike d.state f.state b a.stands a.sane kept whole).0 ((turned_performed d.state b a.sane whole).0).whole in
      let q = (back_recorded f.state b (a.stands).legal es names).1 in
      once_over (back_on over d.state b).state (back_on within f.state b).state (back_on over d.state b).recorded x.stands x.kept (subst (NamesCharacters (back_on within f.state b).state) (sym x.recorded) q)

  once_again : let t = again_on over d.state b in AreApart ((steps_over t.state t.recorded).held).names
  once_again =
      let x = (turned_alike d.state f.state b a.stands a.sane kept whole).1 in
      let es = subst AreEdits (turned_edits_alike d.state f.state b a.stands a.sane kept whole).1 ((turned_performed d.state b a.sane whole).1).whole in
      let q = (back_recorded f.state (exchanged b) (a.stands).legal es (record { kept = names.kept; named = names.named })).1 in
      once_over (again_on over d.state b).state (again_on within f.state b).state (again_on over d.state b).recorded x.stands x.kept (subst (NamesCharacters (again_on within f.state b).state) (sym x.recorded) (record { kept = q.kept; named = q.named }))

  -- ---- edits

  edit_goes : (y : Result Edit LineFault) → IsMeantWell edit_fault_over d.state y → IsAloneEdit d y → let x = (answers.edited by_parts d y).state in (e : Copies) × AfterEdit d g y e × Remembers (released_all x.state) x.recorded e
  edit_goes (Err fault) w q = (g, refl, subst (λ (n : Seen). Remembers n d.recorded g) (sym q) m)
  edit_goes (Ok (edits.Insert at cs)) w q =
      quiet_goes _ (edited d.state (edits.Insert at cs)) _ q (kept_remembers (edited d.state (edits.Insert at cs)) _ _ (once_edited (edits.Insert at cs) w.0 w.1) (insert_remembers d.state b g at cs begun w.0 w.1))
  edit_goes (Ok (edits.Delete at n)) w q =
      quiet_goes _ (edited d.state (edits.Delete at n)) _ q (kept_remembers (edited d.state (edits.Delete at n)) _ _ (once_edited (edits.Delete at n) w.0 w.1) (delete_remembers d.state b g at n begun w.0 w.1))
  edit_goes (Ok edits.Rename) w q =
      quiet_goes _ (edited d.state edits.Rename) _ q (kept_remembers (edited d.state edits.Rename) _ _ (once_edited edits.Rename w.0 w.1) (rename_remembers d.state b g a.sane w.1 kept begun))
  edit_goes (Ok edits.Leave) w q =
      quiet_goes _ (edited d.state edits.Leave) _ q (kept_remembers (edited d.state edits.Leave) _ _ (once_edited edits.Leave w.0 w.1) (same_remembers d.state (edited d.state edits.Leave) b g (edited_sane d.state edits.Leave a.sane w.0 w.1) (leave_text d.state) (same_names d.state (edited d.state edits.Leave) b.epoch b.names (leave_epochs d.state)) begun))

  edit_line : (line : Line) → IsLine line → IsAlone d (Does (orders.Edit line)) → Goes (AfterRequest d g (Does (orders.Edit line))) (answer by_parts d (Does (orders.Edit line))).state
  unfolding answer
  edit_line line ok q = edit_goes (read_line by_parts d.state line) (line_well edit_fault_over text_over d.state line ok) q

  -- ---- steps

  some_size : (xs : List Step) (x : Step) (ys : List Step) → xs ≡ x ∷ ys → (k : ℕ) × (group_size xs ≡ suc k)
  some_size xs x ys e = go (group_size xs) refl
    where
      go : (n : ℕ) → group_size xs ≡ n → (k : ℕ) × (group_size xs ≡ suc k)
      go (suc k) q = (k, q)
      go zero q =
          let none : length (reverse xs) ≡ 0 = ap length (no_group xs q) in
          let size = length-reverse xs in
          let some : length xs ≡ suc (length ys) = ap length e in
          absurd (omega (arith, none, size, some))

  -- where there is none
  none_before : (r : Recorded) → b.past ≡ [] → Forgets r (copied_back g g.before) g
  none_before r e =
      let none : g.before ≡ [] = sym m.before ∙ ap (λ (xs : List Step). group_texts (reverse xs) (m.copies).before) e in
      (length g.before, sym (ap (λ (ts : List (List ℕ)). with_newest (length g.before) (copied_back g ts)) none ∙ newest_all g), λ i. sym (ap (copied_back g) none))

  none_after : (r : Recorded) → b.future ≡ [] → Forgets r (copied_again g g.after) g
  none_after r e =
      let none : g.after ≡ [] = sym m.after ∙ ap (λ (xs : List Step). group_texts (reverse xs) (m.copies).after) e in
      (length g.before, sym (ap (λ (ts : List (List ℕ)). with_newest (length g.before) (copied_again g ts)) none ∙ newest_all g), λ i. sym (ap (copied_again g) none))

  back_goes : IsAlone d (Does orders.Back) → Goes (AfterRequest d g (Does orders.Back)) (answer by_parts d (Does orders.Back)).state
  unfolding answer
  back_goes q = go b.past refl
    where
      t : Turned Seen
      t = back_on over d.state b

      go : (xs : List Step) → b.past ≡ xs → let x = (if_steps xs (answers.says nothing_text (with_begun by_parts d)) (answers.turned by_parts (with_begun by_parts d) back_text t)).state in
          (e : Copies) × Forgets t.recorded (copied_back g g.before) e × Remembers (released_all x.state) x.recorded e
      go [] e = (g, none_before t.recorded e, subst (λ (n : Seen). Remembers n b g) (sym q.2) begun)
      go (y ∷ ys) e =
          let k = some_size b.past y ys e in
          quiet_goes (Forgets t.recorded (copied_back g g.before)) t.state _ q.1 (kept_remembers t.state t.recorded (copied_back g g.before) once_back (back_remembers d.state b g k.0 a.sane whole begun k.1 q.0))

  again_goes : IsAlone d (Does orders.Again) → Goes (AfterRequest d g (Does orders.Again)) (answer by_parts d (Does orders.Again)).state
  unfolding answer
  again_goes q = go b.future refl
    where
      t : Turned Seen
      t = again_on over d.state b

      go : (xs : List Step) → b.future ≡ xs → let x = (if_steps xs (answers.says nothing_text (with_begun by_parts d)) (answers.turned by_parts (with_begun by_parts d) again_text t)).state in
          (e : Copies) × Forgets t.recorded (copied_again g g.after) e × Remembers (released_all x.state) x.recorded e
      go [] e = (g, none_after t.recorded e, subst (λ (n : Seen). Remembers n b g) (sym q.2) begun)
      go (y ∷ ys) e =
          let k = some_size b.future y ys e in
          quiet_goes (Forgets t.recorded (copied_again g g.after)) t.state _ q.1 (kept_remembers t.state t.recorded (copied_again g g.after) once_again (again_remembers d.state b g k.0 a.sane whole begun k.1 q.0))

  -- ---- undoing, where there is nothing to undo

  caught_none : last_of d.entries ≡ None → last_of (caught_up_over d.state d.entries) ≡ None
  caught_none e = ap (λ (o : Option Entry). last_of (if is_of_other (greatest_over d.state) o then map (settled_over d.state) d.entries else d.entries)) e ∙ e

  undo_goes : IsAlone d (Does orders.Undo) → Goes (AfterRequest d g (Does orders.Undo)) (answer by_parts d (Does orders.Undo)).state
  unfolding answer
  undo_goes q =
      let e = with_caught_up by_parts d in
      subst (λ (o : Option Entry). let x = (undone by_parts e o).state in (h : Copies) × (h ≡ g) × Remembers (released_all x.state) x.recorded h) (sym (caught_none q.0)) (g, refl, subst (λ (n : Seen). Remembers n d.recorded g) (sym q.1) m)

  -- ---- messages

  record IsAsBefore (e : Sitting Seen) : Type 0 where
    text : (e.state).text ≡ (d.state).text
    epochs : (e.state).epochs ≡ (d.state).epochs
    recorded : e.recorded ≡ d.recorded

  taken_same : (r : Result Message ℕ) → IsAloneMessage d.state r → IsAsBefore (answers.taken by_parts d r).state
  taken_same (Err at) q = record { text = refl; epochs = refl; recorded = refl }
  taken_same (Ok y) q = go (is_for by_parts d.state y)
    where
      go : (c : Bool) → IsAsBefore (if c then answers.taken_at d (by_parts.taken d.state y) else answers.says (failed_text (OtherGroup y.group y.members)) d).state
      go true = record { text = q.0; epochs = q.1; recorded = refl }
      go false = record { text = refl; epochs = refl; recorded = refl }

  take_goes : (bytes : List ℕ) → IsBytes bytes → IsAlone d (Takes bytes) → Goes (AfterRequest d g (Takes bytes)) (answer by_parts d (Takes bytes)).state
  unfolding answer
  take_goes bytes ok q =
      let x = taken_same (message_of bytes) q in
      let e = (answers.taken by_parts d (message_of bytes)).state in
      let sane = ((answer_alike d f (Takes bytes) ok a).states).sane in
      (g, refl, subst (λ (r : Recorded). Remembers e.state r g) (sym x.recorded) (same_remembers d.state e.state d.recorded g sane x.text (same_names d.state e.state (d.recorded).epoch (d.recorded).names x.epochs) m))

  -- ---- all others

  same_goes : (e : Sitting Seen) → e.state ≡ d.state → e.recorded ≡ d.recorded → (h : Copies) × (h ≡ g) × Remembers e.state e.recorded h
  same_goes e s r = (g, refl, subst (λ (n : Seen). Remembers n e.recorded g) (sym s) (subst (λ (q : Recorded). Remembers d.state q g) (sym r) m))

  pointed_goes : (side : Side) (at n : ℕ) → Goes (λ h. h ≡ g) (answer by_parts d (Does (orders.Point side at n))).state
  unfolding answer
  pointed_goes side at n = go (ltb (length (text_over d.state)) at)
    where
      go : (c : Bool) → Goes (λ h. h ≡ g) (cond {A = Answered (Sitting Seen)} c (answers.says (refused_text (Range at (length (text_over d.state)))) d) (answers.says (cursor_text at) (with_cursors d (cursors_with d.cursors n (by_parts.anchor d.state side at))))).state
      go true = same_goes d refl refl
      go false = (g, refl, m)

  request_goes : (r : Request) → IsGiven r → IsAlone d r → Goes (AfterRequest d g r) (answer by_parts d r).state
  unfolding answer
  request_goes (Does (orders.Edit line)) ok q = edit_line line ok q
  request_goes (Does orders.Undo) ok q = undo_goes q
  request_goes (Does orders.Back) ok q = back_goes q
  request_goes (Does orders.Again) ok q = again_goes q
  request_goes (Does orders.Close) ok q = (g, refl, record { copies = m.copies; shows = m.shows; now = m.now; before = m.before; after = m.after; idents = m.idents; apart = m.apart })
  request_goes (Does (orders.Point side at n)) ok q = pointed_goes side at n
  request_goes (Does order) ok q = (g, refl, m)
  request_goes (Takes bytes) ok q = take_goes bytes ok q

recalled : (d : Sitting Seen) (f : Sitting State) (g : Copies) → IsAlike d f → NamesCharacters f.state f.recorded → Remembers d.state d.recorded g → Recalls d f.state g
recalled d f g a k m = record { history = of_history d f a; names = subst (NamesCharacters f.state) (sym (a.steps).same) k; texts = m }

all_go : (rs : List Request) (d : Sitting Seen) (f : Sitting State) (g : Copies) → AreGiven rs → IsAlike d f → NamesCharacters f.state f.recorded → Remembers d.state d.recorded g → AreRecalled d f g rs
all_go [] d f g ok a k m = recalled d f g a k m
all_go (r ∷ rs) d f g ok a k m = (
  recalled d f g a k m,
  λ q. let x = request_goes d f a g m k r ok.0 q in (x.0, x.1, all_go rs (answer by_parts d r).state (answer by_history f r).state x.0 ok.1 (answer_alike d f r ok.0 a).states (recorded_after d f a k r ok.0) x.2),
)

-- ---- the laws

pub texts_at_first : TextsAtFirst
texts_at_first s t stands sane writable = record {
  history = record { stands = stands; sane = sane; writable = writable; whole = record { undoable = tt; anchored = tt }; texts = tt; kept = tt; spelled = (tt, tt) };
  names = none_recorded t;
  texts = first_remembers s sane;
}

pub texts_along : TextsAlong
texts_along d t g input bytes h =
    let a = alike_in d t h.history in
    let first = all_given (asked input) (seated d) (seated (sitting_in d t)) (asked_given 0 input bytes) (seated_alike d (sitting_in d t) a) in
    all_go (in_place by_parts (seated d) (asked input)) d (sitting_in d t) g first a h.names h.texts

pub texts_stay : TextsStay
unfolding dropped
texts_stay d t g h =
    let s = d.state in
    let b = begun_on over s d.recorded in
    let a = resumed_alike d (sitting_in d t) (alike_in d t h.history) in
    let legal = ((h.history).stands).legal in
    record {
      history = of_history (resumed by_parts d) (resumed by_history (sitting_in d t)) a;
      names = subst (NamesCharacters t) (sym (a.steps).same) (settled_recorded t (begun_on within t d.recorded) legal (begun_recorded t d.recorded h.names));
      texts = settled_remembers s (dropped s) b g (dropped_sane s (h.history).sane) refl (greatest_left s (h.history).sane) (begun_remembers s d.recorded g h.texts);
    }
