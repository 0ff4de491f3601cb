-- In a good world the edits of a script refuse nothing that waits.
use Rattle.std.proofs.Common.{◌≡◌, ℕ, Bool, true, false, List, [], ◌∷◌, length, sym, ap, ◌∙◌, subst, inl, inr}
use Rattle.std.specs.Prelude.{if◌then◌else◌, None, Result, Ok}
use Rattle.rls_model.specs.declared.edit.Edit.{Edit}
use Rattle.rls_model.specs.Receiving.{State, accept}
use Rattle.rls_model.specs.WellFormed.{IsEdit}
use Rattle.rls_model.specs.Editing.{made, edit_fault}
use Rattle.rls_model.specs.Taking.{by_history, has_room, Progress, started, moved, with_releases}
use Rattle.rls_model.specs.EditRun.{edit_step, Done, run_lines, read_edit}
use Rattle.rls_model.specs.Worlds.{World, with_state}
use Rattle.rls_model.specs.Laws.{IsAt, AreEdits, EditsClean}
use Rattle.rls_ident.specs.Lists.{IsIn}
use Rattle.rls_model.proofs.Machines.{read_is, running_keeps}
use Rattle.rls_model.proofs.WorldsInvariant.{IsGood}
use Rattle.rls_model.proofs.WorldsLaws.{good_after}
use Rattle.rls_model.proofs.MemberSteps.{IsGoing, here, keep, start, edits_own, releases_going}

-- one more edit without a fault
pub edit_going : (w : World) (i : ℕ) (s : State) (p : Progress) (edit : Edit) → IsAt w i s → IsGoing w i p → IsEdit edit → edit_fault (p.state).history edit ≡ None → IsGoing w i (edit_step p edit)
edit_going w i s p edit h g e f = go (has_room p.limit)
  where
    go : (b : Bool) → IsGoing w i (if b then moved p (accept p.state (made (p.state).history edit)) else p)
    go true = record {
      good = keep w i s p.state (accept p.state (made (p.state).history edit)) h g.good
          (edits_own (with_state w i p.state) i p.state edit ((g.good).member i p.state (here w i s p.state h)) e f);
      clean = g.clean;
    }
    go false = g

-- what a line is read as is well formed and has no fault
abbrev pub ReadsWell : {L F : Type 0} → (State → L → Result Edit F) → L → Type 0
ReadsWell {L} {F} reads l = (s : State) (edit : Edit) → reads s l ≡ Ok edit → IsEdit edit × (edit_fault s.history edit ≡ None)

abbrev pub AllReadWell : {L F : Type 0} → (State → L → Result Edit F) → List L → Type 0
AllReadWell {L} reads ls = (l : L) → IsIn l ls → ReadsWell reads l

-- lines that are not stopped refuse nothing, and leave a good world
pub lines_going : {L F : Type 0} (reads : State → L → Result Edit F) (w : World) (i : ℕ) (s : State) (q : Progress) (ls : List L) → IsGood w → IsAt w i s → AllReadWell reads ls → run_lines reads s ls ≡ Done q → IsGoing w i q
unfolding run_lines
lines_going {L} reads w i s q ls g h a e = running_keeps by_history reads (IsGoing w i) ls line 1 (started None s) q e (start w i s None g h)
  where
    line : (l : L) → IsIn l ls → (p : Progress) (edit : Edit) → reads p.state l ≡ Ok edit → IsGoing w i p → IsGoing w i (with_releases (edit_step p edit))
    line l u p edit f k = let r = edit_step p edit in let b = a l u p.state edit f in releases_going w i s (length (r.state).waiting) r h (edit_going w i s p edit h k b.0 b.1)

pub edit_in : (es : List Edit) (edit : Edit) → AreEdits es → IsIn edit es → IsEdit edit
edit_in [] edit a u = absurd u
edit_in (e ∷ es) edit a (inl f) = subst IsEdit f a.0
edit_in (e ∷ es) edit a (inr u) = edit_in es edit a.1 u

pub edits_read : (es : List Edit) → AreEdits es → AllReadWell read_edit es
edits_read es a l u s edit e = let r = read_is by_history s l edit e in (subst IsEdit r.0 (edit_in es l a u), ap (edit_fault s.history) (sym r.0) ∙ r.1)

-- edits that are not stopped refuse nothing
pub edits_clean : EditsClean
edits_clean w hs i s q es a h b e = (lines_going read_edit w i s q es (good_after w hs a) h (edits_read es b) e).clean
