-- Courses of steps.
use Rattle.std.proofs.Common.{◌≡◌, ℕ, zero, suc, ◌≤◌, ◌+◌, arith, append_assoc, List, [], ◌∷◌, ◌++◌, length, take, drop, inl, inr, refl, sym, ap, ◌∙◌, subst}
use Rattle.std.specs.Prelude.{reverse, replicate, slice_get, Some, None}
use Rattle.rls_ident.specs.declared.tuple.Tuple.{Tuple}
use Rattle.rls_ident.specs.Lists.{IsIn}
use Rattle.rls_ident.proofs.Lists.{Lt, lt_irrefl}
use Rattle.rls_ident.proofs.Tuples.{tuples}
use Rattle.rls_runs.specs.Entries.{Entries}
use Rattle.rls_runs.proofs.Sorted.{AreAbove, Rises, rises_of_increasing}
use Rattle.rls_model.specs.declared.edit.Edit.TheVariants as edits
use Rattle.rls_model.specs.WellFormed.{IsEdit}
use Rattle.rls_seen.specs.Edits.{edit_fault_over, edited}
use Rattle.rls_seen.specs.Seen.{Seen, text_over}
use Rattle.rls_seen.proofs.EditedText.{inserted, deleted}
use Rattle.rls_undo.specs.Plans.{ranges_of}
use Rattle.rls_steps.specs.Marks.{Unknown, marks, Piece, Put, Cut, label_places}
use Rattle.rls_steps.specs.Back.{AreDistinct}
use Rattle.rls_steps.specs.Labelled.{Labelled, marked, marked_by, IsLabelled, Leads, ready_over, cut_over, cut_piece}
use Rattle.rls_steps.specs.Courses.{copies, UndoneAndRedone, Taken, cut_ranges, or_empty, gone_place, taken_back, FitRanges, FitsBack, FitsFirst, Steps, Move, Insertion, Deletion, Back, Again, Renaming, stepped_back, stepped_again, moved, MayMove, at_first, Copies, copied_back, copied_again, copied, Shows, AsCopied, AsCopiedFromFirst}
use Rattle.rls_steps.proofs.Putting.{cut_taken_back}
use Rattle.rls_steps.proofs.Renaming.{renaming_leads}
use Rattle.rls_steps.proofs.Stepping.{insertion_leads, deletion_leads, put_taken_back, ready_seen}

-- what is known of a piece that was taken back
record IsTaken (h : Labelled) (r : Taken) (ps : List Piece) (t : List ℕ) (ts us : List (List ℕ)) : Type 0 where
  pub labelled : IsLabelled r.held
  pub text : text_over r.held.seen ≡ t
  pub back : Leads r.held ps ts
  pub forth : Leads r.held r.other (text_over h.seen ∷ us)

taken : (h : Labelled) (p : Piece) (ps qs : List Piece) (t : List ℕ) (ts us : List (List ℕ)) → IsLabelled h → Leads h (p ∷ ps) (t ∷ ts) → Leads h qs us → FitsBack h p → IsTaken h (taken_back h p qs) ps t ts us
taken h (Cut labels cs left right) ps qs t ts us i l k f =
    let r = cut_taken_back h labels cs left right (gone_place h left) ps qs t ts us i l k f.0 f.1 in
    record { labelled = r.0; text = r.1; back = r.2; forth = r.3 }
taken h (Put labels) ps qs t ts us i l k f = go (put_taken_back h labels ps qs t ts us i l k)
  where
    Out : List (ℕ × ℕ) → Type 0
    Out rs = FitRanges h (reverse rs) → IsTaken h (cut_ranges h (reverse rs) (or_empty (reverse rs) qs)) ps t ts us

    go : (at : ℕ) × (ranges_of (label_places 0 labels (marks (marked h))) ≡ (at, length labels) ∷ [])
        × (IsEdit (edits.Delete at (length labels)) → edit_fault_over h.seen (edits.Delete at (length labels)) ≡ None →
        IsLabelled (cut_over (ready_over h at (length labels)) at (length labels)) × (text_over (cut_over (ready_over h at (length labels)) at (length labels)).seen ≡ t)
        × Leads (cut_over (ready_over h at (length labels)) at (length labels)) ps ts
        × Leads (cut_over (ready_over h at (length labels)) at (length labels)) (cut_piece (ready_over h at (length labels)) at (length labels) ∷ qs) (text_over h.seen ∷ us))
        → IsTaken h (taken_back h (Put labels) qs) ps t ts us
    go (at, range, out) =
        let one : Out ((at, length labels) ∷ []) = λ g. let r = out g.0.0 g.0.1 in record { labelled = r.0; text = r.1; back = r.2; forth = r.3 } in
        subst Out (sym range) one f

-- ---- one move

none_leads : (h : Labelled) → Leads h [] []
none_leads h = record { given = tt; back = refl }

back_shows : (st : Steps) (c : Copies) (ps : List Piece) (ts : List (List ℕ)) → Shows st c → Leads st.held ps ts → FitsFirst st.held ps → Shows (stepped_back st ps) (copied_back c ts)
back_shows st c [] [] x l f = x
back_shows st c [] (t ∷ ts) x l f = absurd (let e = l.back in cc)
back_shows st c (p ∷ ps) [] x l f = absurd (l.back)
back_shows st c (p ∷ ps) (t ∷ ts) x l f =
    let r = taken st.held p ps st.future t ts c.after x.labelled l x.forth f in
    let q = taken_back st.held p st.future in
    record { labelled = r.labelled; text = r.text; back = r.back; forth = subst (λ (u : List ℕ). Leads q.held q.other (u ∷ c.after)) x.text r.forth }

again_shows : (st : Steps) (c : Copies) (ps : List Piece) (ts : List (List ℕ)) → Shows st c → Leads st.held ps ts → FitsFirst st.held ps → Shows (stepped_again st ps) (copied_again c ts)
again_shows st c [] [] x l f = x
again_shows st c [] (t ∷ ts) x l f = absurd (let e = l.back in cc)
again_shows st c (p ∷ ps) [] x l f = absurd (l.back)
again_shows st c (p ∷ ps) (t ∷ ts) x l f =
    let r = taken st.held p ps st.past t ts c.before x.labelled l x.back f in
    let q = taken_back st.held p st.past in
    record { labelled = r.labelled; text = r.text; back = subst (λ (u : List ℕ). Leads q.held q.other (u ∷ c.before)) x.text r.forth; forth = r.back }

pub move_shows : (st : Steps) (c : Copies) (m : Move) → Shows st c → MayMove st m → Shows (moved st m) (copied c m)
move_shows st c (Insertion at cs) x f =
    let h = st.held in
    let r = insertion_leads h at cs st.past c.before x.labelled x.back f.0 f.1 in
    let n = moved st (Insertion at cs) in
    record {
      labelled = r.0;
      text = inserted h.seen at cs x.labelled.sane f.0 f.1 ∙ ap (λ (u : List ℕ). take at u ++ (cs ++ drop at u)) x.text;
      back = subst (λ (u : List ℕ). Leads n.held n.past (u ∷ c.before)) x.text r.1;
      forth = none_leads n.held;
    }
move_shows st c (Deletion at k) x f =
    let h = st.held in
    let r = deletion_leads h at k st.past c.before x.labelled x.back f.0 f.1 in
    let g = ready_over h at k in
    let n = moved st (Deletion at k) in
    let same : g.seen ≡ h.seen = ready_seen h at k st.past c.before x.labelled x.back in
    record {
      labelled = r.0;
      text = ap (λ (s : Seen). text_over (edited s (edits.Delete at k))) same ∙ (deleted h.seen at k x.labelled.sane ∙ ap (λ (u : List ℕ). take at u ++ drop (at + k) u) x.text);
      back = subst (λ (u : List ℕ). Leads n.held n.past (u ∷ c.before)) x.text r.1;
      forth = none_leads n.held;
    }
move_shows st c Back x f = back_shows st c st.past c.before x x.back f
move_shows st c Again x f = again_shows st c st.future c.after x x.forth f
move_shows st c (Renaming s) x f =
    let a = renaming_leads st.held s st.past c.before x.labelled x.back f in
    let b = renaming_leads st.held s st.future c.after x.labelled x.forth f in
    record { labelled = a.0; text = a.1 ∙ x.text; back = a.2; forth = b.2 }

pub as_copied : AsCopied
as_copied st c [] x f = x
as_copied st c (m ∷ ms) x f = as_copied (moved st m) (copied c m) ms (move_shows st c m x f.0) f.1

-- ---- at first

pub rises_distinct : (es : Entries) → Rises es → AreDistinct (marks (marked_by [] es))
rises_distinct [] r = tt
rises_distinct (e ∷ es) r = (λ p. apart es r.0 p, rises_distinct es r.1)
  where
    unknown : (x y : List Tuple) → Unknown x ≡ Unknown y → x ≡ y
    unknown x y q = cc

    apart : (ds : Entries) → AreAbove e ds → IsIn (Unknown e.0) (marks (marked_by [] ds)) → ⊥
    apart [] a p = absurd p
    apart (d ∷ ds) a (inl q) = lt_irrefl (subst (λ z. Lt tuples e.0 z) (unknown d.0 e.0 q) a.0)
    apart (d ∷ ds) a (inr p) = apart ds a.1 p

pub from_first : AsCopiedFromFirst
from_first s ms sane f =
    let st = at_first s in
    let c : Copies = record { now = text_over s; before = []; after = [] } in
    let x : Shows st c = record {
      labelled = record { sane = sane; given = tt; idents = λ y p. absurd p; distinct = rises_distinct s.text (rises_of_increasing s.text sane.idents.1) };
      text = refl;
      back = none_leads st.held;
      forth = none_leads st.held;
    } in
    (as_copied st c ms x f).text

-- ---- k undos, and k redos

now_undone : (k : ℕ) (now : List ℕ) (before after : List (List ℕ)) → k ≤ length before → slice_get (now ∷ before) k ≡ Some ((copies (record { now = now; before = before; after = after }) (replicate k Back)).now)
now_undone zero now before after h = refl
now_undone (suc k) now [] after h = absurd (omega (arith, h))
now_undone (suc k) now (t ∷ ts) after h = now_undone k t ts (now ∷ after) (omega (arith, h))

copies_append : (ms ns : List Move) (c : Copies) → copies c (ms ++ ns) ≡ copies (copies c ms) ns
copies_append [] ns c = refl
copies_append (m ∷ ms) ns c = copies_append ms ns (copied c m)

again_last : (k : ℕ) → replicate (suc k) Again ≡ replicate k Again ++ Again ∷ []
again_last zero = refl
again_last (suc k) = ap (λ ms. Again ∷ ms) (again_last k)

all_redone : (k : ℕ) (now : List ℕ) (before after : List (List ℕ)) → k ≤ length before →
    copies (record { now = now; before = before; after = after }) (replicate k Back ++ replicate k Again) ≡ record { now = now; before = before; after = after }
all_redone zero now before after h = refl
all_redone (suc k) now [] after h = absurd (omega (arith, h))
all_redone (suc k) now (t ∷ ts) after h =
    let one : Copies = record { now = t; before = ts; after = now ∷ after } in
    let same : replicate k Back ++ replicate (suc k) Again ≡ (replicate k Back ++ replicate k Again) ++ Again ∷ [] = ap (λ ms. replicate k Back ++ ms) (again_last k) ∙ sym (append_assoc (replicate k Back) (replicate k Again) (Again ∷ [])) in
    ap (copies one) same
    ∙ (copies_append (replicate k Back ++ replicate k Again) (Again ∷ []) one ∙ ap (λ (c : Copies). copied c Again) (all_redone k t ts (now ∷ after) (omega (arith, h))))

pub undone_and_redone : UndoneAndRedone
undone_and_redone c k h = (now_undone k c.now c.before c.after h, all_redone k c.now c.before c.after h)
