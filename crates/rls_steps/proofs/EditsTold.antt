-- What is told of steps that are taken back is what their edits change.
use Rattle.std.proofs.Common.{◌≡◌, ◌∙◌, ℕ, suc, List, [], ◌∷◌, ◌++◌, map, take, drop, append_assoc, refl, sym, ap, subst}
use Rattle.std.specs.Prelude.{slice_get, reverse, Option, Some}
use Rattle.std.proofs.lemmas.List.{append-nil, take-append-drop}
use Rattle.rls_changes.proofs.Edited.{edits_append}
use Rattle.rls_ident.proofs.Loops.{drop_reads}
use Rattle.rls_model.specs.declared.edit.Edit.{Edit}
use Rattle.rls_model.specs.declared.edit.Edit.TheVariants as edits
use Rattle.rls_model.specs.declared.edit.EditError.{EditError}
use Rattle.rls_model.specs.declared.edit.EditError.TheVariants as faults
use Rattle.rls_seen.specs.Edits.{edit_fault_over, IsFault}
use Rattle.rls_seen.specs.Seen.{Seen}
use Rattle.rls_undo.specs.Undoing.{unless}
use Rattle.rls_changes.specs.declared.change.Change.{Change}
use Rattle.rls_changes.specs.Edits.{edit_changes}
use Rattle.rls_steps.specs.declared.piece.Step.{Step}
use Rattle.rls_steps.specs.Marks.{Piece, Put, Cut}
use Rattle.rls_steps.specs.Labelled.{Labelled, ready_over, cut_over, cut_piece}
use Rattle.rls_steps.specs.Courses.{FitRanges, FitsBack, cut_ranges, place_over, ranges_over, taken_back}
use Rattle.rls_steps.specs.Returning.{first_fault, back_fault}
use Rattle.rls_steps.specs.StepChanges.{range_change, piece_changes}
use Rattle.rls_steps.specs.Grounds.{over, Held, Left, ready_on, cut_on, cut_edits, taken_edits, taken_on, steps_edits}
use Rattle.rls_steps.proofs.Grounded.{on, on_place, on_ranges, on_ready, is_fault, last_first, taken_fit, IsLeft}

-- ---- ranges

-- those that are cut out come first
front_edits : (h : Labelled) (front rest : List (ℕ × ℕ)) (qs : List Piece) → FitRanges h front →
    edit_changes (cut_edits over (on h) (front ++ rest)) ≡ map range_change front ++ edit_changes (cut_edits over (on (cut_ranges h front qs).held) rest)
front_edits h [] rest qs f = refl
front_edits h (r ∷ rs) rest qs f =
    let g = ready_over h r.0 r.1 in
    let later : Held Seen → List Edit = λ z. cut_edits over (cut_on over z r.0 r.1) (rs ++ rest) in
    ap (λ (o : Option EditError). edit_changes (unless o [] (edits.Delete r.0 r.1 ∷ later (ready_on over (on h) r.0 r.1)))) f.0.1
    ∙ (ap (λ (z : Held Seen). range_change r ∷ edit_changes (later z)) (on_ready h r.0 r.1)
    ∙ ap (λ (cs : List Change). range_change r ∷ cs) (front_edits (cut_over g r.0 r.1) rs rest (cut_piece g r.0 r.1 ∷ qs) f.1))

all_edits : (h : Labelled) (rs : List (ℕ × ℕ)) → FitRanges h rs → edit_changes (cut_edits over (on h) rs) ≡ map range_change rs
all_edits h rs f =
    ap (λ (ss : List (ℕ × ℕ)). edit_changes (cut_edits over (on h) ss)) (sym (append-nil rs))
    ∙ (front_edits h rs [] [] f ∙ append-nil (map range_change rs))

-- where the first is refused
met_edits : (h : Labelled) (rs : List (ℕ × ℕ)) (e : EditError) → first_fault h rs ≡ Some e → cut_edits over (on h) rs ≡ []
met_edits h [] e q = refl
met_edits h (r ∷ rs) e q = ap (λ (o : Option EditError). unless o [] (edits.Delete r.0 r.1 ∷ cut_edits over (cut_on over (ready_on over (on h) r.0 r.1) r.0 r.1) rs)) q

-- up to the one that is refused
pub range_edits : (h g : Labelled) (rs : List (ℕ × ℕ)) (i : ℕ) (r : ℕ × ℕ) (e : EditError) (cs ds es : List Change) → (e ≡ faults.OutOfMemory → ⊥) → slice_get rs i ≡ Some r → FitRanges h (take i rs) → g ≡ (cut_ranges h (take i rs) []).held →
    IsFault e (edit_fault_over g.seen (edits.Delete r.0 r.1)) → ds ≡ cs ++ map range_change (take i rs) → es ≡ ds → es ≡ cs ++ edit_changes (cut_edits over (on h) rs)
range_edits h g rs i r e cs ds es n a f q m d k =
    let front = take i rs in
    let rest = drop i rs in
    let met : first_fault g rest ≡ Some e = is_fault e (first_fault g rest) n (subst (λ (ss : List (ℕ × ℕ)). IsFault e (first_fault g ss)) (sym (drop_reads rs i r a)) m) in
    let all : edit_changes (cut_edits over (on h) rs) ≡ map range_change front =
    ap (λ (ss : List (ℕ × ℕ)). edit_changes (cut_edits over (on h) ss)) (sym (take-append-drop i rs))
    ∙ (front_edits h front rest [] f
    ∙ (ap (λ (z : Labelled). map range_change front ++ edit_changes (cut_edits over (on z) rest)) (sym q)
    ∙ (ap (λ (xs : List Edit). map range_change front ++ edit_changes xs) (met_edits g rest e met) ∙ append-nil (map range_change front)))) in
    k ∙ (d ∙ ap (λ (xs : List Change). cs ++ xs) (sym all))

-- those of labels
pub label_edits : (h : Labelled) (labels : List ℕ) (rs : List (ℕ × ℕ)) (cs ds : List Change) → rs ≡ ranges_over h labels → ds ≡ cs ++ edit_changes (cut_edits over (on h) rs) → ds ≡ cs ++ edit_changes (taken_edits over (on h) (Put labels))
label_edits h labels rs cs ds q d = d ∙ ap (λ (ss : List (ℕ × ℕ)). cs ++ edit_changes (cut_edits over (on h) ss)) (q ∙ sym (on_ranges h labels))

-- ---- a text that is back

-- refused
pub put_edits : (h : Labelled) (labels text : List ℕ) (left right : Option ℕ) (e : EditError) (cs ds : List Change) → (e ≡ faults.OutOfMemory → ⊥) → IsFault e (back_fault h (Cut labels text left right)) → ds ≡ cs →
    ds ≡ cs ++ edit_changes (taken_edits over (on h) (Cut labels text left right))
put_edits h labels text left right e cs ds n f d =
    let q = is_fault e (back_fault h (Cut labels text left right)) n f in
    let one : ℕ → List Edit = λ at. unless (edit_fault_over h.seen (edits.Insert at text)) [] (edits.Insert at text ∷ []) in
    let none : taken_edits over (on h) (Cut labels text left right) ≡ [] =
    ap one (on_place h left right) ∙ ap (λ (o : Option EditError). unless o [] (edits.Insert (place_over h left right) text ∷ [])) q in
    d ∙ (sym (append-nil cs) ∙ ap (λ (es : List Edit). cs ++ edit_changes es) (sym none))

-- ---- a piece

piece_edits : (h : Labelled) (p : Piece) → FitsBack h p → edit_changes (taken_edits over (on h) p) ≡ piece_changes h p
piece_edits h (Put labels) f = ap (λ (rs : List (ℕ × ℕ)). edit_changes (cut_edits over (on h) rs)) (on_ranges h labels) ∙ all_edits h (ranges_over h labels) f
piece_edits h (Cut labels text left right) f =
    let one : ℕ → List Edit = λ at. unless (edit_fault_over h.seen (edits.Insert at text)) [] (edits.Insert at text ∷ []) in
    ap (λ at. edit_changes (one at)) (on_place h left right) ∙ ap (λ (o : Option EditError). edit_changes (unless o [] (edits.Insert (place_over h left right) text ∷ []))) f.1

-- ---- steps

next_edits : ℕ → Labelled → List Step → Step → Left Seen → List Edit
next_edits k h front x t = taken_edits over (on h) x.piece ++ unless t.fault [] (steps_edits over k t.held (reverse front))

first_edits : (k : ℕ) (h : Labelled) (from front : List Step) (x : Step) (t : Left Seen) → from ≡ front ++ x ∷ [] → taken_on over (on h) x.piece ≡ t → steps_edits over (suc k) (on h) (reverse from) ≡ next_edits k h front x t
unfolding next_edits
first_edits k h from front x t q e = ap (λ (xs : List Step). steps_edits over (suc k) (on h) xs) (last_first from front x q) ∙ ap (λ (y : Left Seen). taken_edits over (on h) x.piece ++ unless y.fault [] (steps_edits over k y.held (reverse front))) e

-- one that was taken back
pub once_edits : (k : ℕ) (h n : Labelled) (from front : List Step) (x : Step) (cs ds : List Change) → from ≡ front ++ x ∷ [] → FitsBack h x.piece → n ≡ (taken_back h x.piece []).held → ds ≡ cs ++ piece_changes h x.piece →
    ds ++ edit_changes (steps_edits over k (on n) (reverse front)) ≡ cs ++ edit_changes (steps_edits over (suc k) (on h) (reverse from))
unfolding next_edits
once_edits k h n from front x cs ds q f a d =
    let here = taken_edits over (on h) x.piece in
    let rest = steps_edits over k (on (taken_back h x.piece []).held) (reverse front) in
    let all : edit_changes (steps_edits over (suc k) (on h) (reverse from)) ≡ piece_changes h x.piece ++ edit_changes rest =
    ap edit_changes (first_edits k h from front x _ q (taken_fit h x.piece f)) ∙ (edits_append here rest ∙ ap (λ (xs : List Change). xs ++ edit_changes rest) (piece_edits h x.piece f)) in
    ap (λ (z : Labelled). ds ++ edit_changes (steps_edits over k (on z) (reverse front))) a
    ∙ (ap (λ (xs : List Change). xs ++ edit_changes rest) d ∙ (append_assoc cs (piece_changes h x.piece) (edit_changes rest) ∙ ap (λ (xs : List Change). cs ++ xs) (sym all)))

-- one that is refused
pub stop_edits : (k : ℕ) (e : EditError) (h n : Labelled) (from front old other : List Step) (x : Step) (cs ds : List Change) → from ≡ front ++ x ∷ [] → IsLeft e h x.piece n x.group old other → ds ≡ cs ++ edit_changes (taken_edits over (on h) x.piece) →
    ds ≡ cs ++ edit_changes (steps_edits over (suc k) (on h) (reverse from))
unfolding next_edits
stop_edits k e h n from front old other x cs ds q l d =
    let here = taken_edits over (on h) x.piece in
    let all : steps_edits over (suc k) (on h) (reverse from) ≡ here = first_edits k h from front x _ q l.is ∙ append-nil here in
    d ∙ ap (λ (es : List Edit). cs ++ edit_changes es) (sym all)
