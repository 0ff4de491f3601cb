-- The statements of the laws on replicas.
use Rattle.std.specs.Prelude.{◌≡◌, ℕ, List, [], ◌∷◌, length, Option, None}
use Rattle.rls_ident.specs.declared.tuple.Tuple.{Tuple}
use Rattle.rls_ident.specs.Identifiers.{IsIdent}
use Rattle.rls_ident.specs.Lists.{IsIn}
use Rattle.rls_model.specs.declared.edit.Edit.TheVariants as edits
use Rattle.rls_model.specs.WellFormed.{IsEdit}
use Rattle.rls_ops.specs.declared.op.Op.{Op}
use Rattle.rls_ops.specs.declared.op.Body.TheVariants.{Rename}
use Rattle.rls_seen.specs.Over.{accepted}
use Rattle.rls_seen.specs.Sane.{IsSane, IsInRange, MayApply}
use Rattle.rls_seen.specs.Edits.{edit_fault_over}
use Rattle.rls_seen.specs.Seen.{Seen, text_over, greatest_over}
use Rattle.rls_undo.specs.Plans.{ranges_of}
use Rattle.rls_steps.specs.Marks.{marks, Piece, Put, Cut, label_places, return_place, numbers_from}
use Rattle.rls_steps.specs.Labelled.{Labelled, marked, IsLabelled, Leads, label_all, put_over, insert_over, ready_over, cut_over, cut_piece, renamed_over, IsRenamed}

-- labels that characters get change nothing
abbrev pub LabelledLead : Type 0
LabelledLead = (h : Labelled) (xs : List (List Tuple)) (ps : List Piece) (ts : List (List ℕ)) → ((x : List Tuple) → IsIn x xs → IsIdent x) → IsLabelled h → Leads h ps ts →
    IsLabelled (label_all h xs) × ((label_all h xs).seen ≡ h.seen) × Leads (label_all h xs) ps ts

-- what was cut out comes back: the text is the one before, and both the pieces below and the other way lead on from there
abbrev pub CutTakenBack : Type 0
CutTakenBack = (h : Labelled) (labels cs : List ℕ) (left right : Option ℕ) (gone : ℕ) (ps qs : List Piece) (t : List ℕ) (ts us : List (List ℕ)) → IsLabelled h →
    Leads h (Cut labels cs left right ∷ ps) (t ∷ ts) → Leads h qs us →
    let at = return_place (marks (marked h)) left right gone in
    let n = put_over h at labels cs in
    IsEdit (edits.Insert at cs) → edit_fault_over h.seen (edits.Insert at cs) ≡ None →
    IsLabelled n × (text_over n.seen ≡ t) × Leads n ps ts × Leads n (Put labels ∷ qs) (text_over h.seen ∷ us)

-- what was put in goes again, in one deletion: the text is the one before, and both the pieces below and the other way lead on from there
abbrev pub PutTakenBack : Type 0
PutTakenBack = (h : Labelled) (labels : List ℕ) (ps qs : List Piece) (t : List ℕ) (ts us : List (List ℕ)) → IsLabelled h → Leads h (Put labels ∷ ps) (t ∷ ts) → Leads h qs us →
    (at : ℕ) × (ranges_of (label_places 0 labels (marks (marked h))) ≡ (at, length labels) ∷ [])
    × (IsEdit (edits.Delete at (length labels)) → edit_fault_over h.seen (edits.Delete at (length labels)) ≡ None →
    let g = ready_over h at (length labels) in
    let n = cut_over g at (length labels) in
    IsLabelled n × (text_over n.seen ≡ t) × Leads n ps ts × Leads n (cut_piece g at (length labels) ∷ qs) (text_over h.seen ∷ us))

-- an own insertion and an own deletion are steps
abbrev pub InsertionLeads : Type 0
InsertionLeads = (h : Labelled) (at : ℕ) (cs : List ℕ) (ps : List Piece) (ts : List (List ℕ)) → IsLabelled h → Leads h ps ts → IsEdit (edits.Insert at cs) → edit_fault_over h.seen (edits.Insert at cs) ≡ None →
    let n = insert_over h at cs in
    IsLabelled n × Leads n (Put (numbers_from h.next (length cs)) ∷ ps) (text_over h.seen ∷ ts)

abbrev pub DeletionLeads : Type 0
DeletionLeads = (h : Labelled) (at n : ℕ) (ps : List Piece) (ts : List (List ℕ)) → IsLabelled h → Leads h ps ts → IsEdit (edits.Delete at n) → edit_fault_over h.seen (edits.Delete at n) ≡ None →
    let g = ready_over h at n in
    let m = cut_over g at n in
    IsLabelled m × Leads m (cut_piece g at n ∷ ps) (text_over h.seen ∷ ts)

-- a rename changes nothing
abbrev pub RenamingLeads : Type 0
RenamingLeads = (h : Labelled) (s : Seen) (ps : List Piece) (ts : List (List ℕ)) → IsLabelled h → Leads h ps ts → IsRenamed h.seen s →
    let n = renamed_over h (greatest_over h.seen) s in
    IsLabelled n × (text_over s ≡ text_over h.seen) × Leads n ps ts

-- so a rename that may be applied changes nothing, whoever made it
abbrev pub AppliedRenames : Type 0
AppliedRenames = (s : Seen) (o : Op) (former : List (List Tuple)) → IsSane s → MayApply s o → IsInRange o.body → o.body ≡ Rename former → IsRenamed s (accepted s o)
