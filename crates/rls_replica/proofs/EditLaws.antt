-- Edits, seen by a history that the replica stands for.
use Rattle.std.proofs.Common.{◌≡◌, ℕ, ◌+◌, List, [], ◌∷◌, length, refl, sym, ap, ◌∙◌, subst, arith, None}
use Rattle.std.specs.Prelude.{pos, Some, if◌then◌else◌}
use Rattle.std.proofs.lemmas.Int.{ints}
use Rattle.std.proofs.lemmas.List.{length-map}
use Rattle.rls_ident.specs.declared.tuple.Tuple.{Tuple}
use Rattle.rls_ident.specs.declared.tuple.Tuple.TheVariants.{At}
use Rattle.rls_ident.proofs.Members.{eq_refl}
use Rattle.rls_runs.specs.Runs.{runs_of}
use Rattle.rls_runs.proofs.Sorted.{Entry}
use Rattle.rls_rename.specs.Renaming.{new_pos}
use Rattle.rls_model.specs.declared.edit.Edit.{Edit}
use Rattle.rls_model.specs.declared.edit.Edit.TheVariants as edits
use Rattle.rls_model.specs.declared.edit.EditError.{EditError}
use Rattle.rls_model.specs.Document.{text}
use Rattle.rls_model.specs.Editing.{own_stem, made, edit_fault, next_seq}
use Rattle.rls_model.specs.Stems.{stem_of, with_stem, new_stem}
use Rattle.rls_model.proofs.StemLists.{found_same}
use Rattle.rls_model.specs.History.{me_of}
use Rattle.rls_model.specs.Receiving.{State, accept}
use Rattle.rls_model.proofs.RenamedRun as renamed
use Rattle.rls_model.specs.WellFormed.{IsEdit}
use Rattle.rls_seen.specs.Edits.{edit_fault_over, edited, made_over, IsFault}
use Rattle.rls_seen.specs.Over.{accepted}
use Rattle.rls_seen.specs.Seen.{Seen, own_count, idents_over, text_over}
use Rattle.rls_seen.specs.Stands.{StandsFor}
use Rattle.rls_seen.proofs.Editing.{idents_alike, own_alike, edit_faults_alike, edited_stands}
use Rattle.rls_seen.proofs.Keeping.{text_alike}
use Rattle.rls_seen.proofs.EditedText as whole_text
use Rattle.rls_seen.specs.Sane.{IsSane}
use Rattle.rls_replica.specs.Editing.{IsOneRun, edited_text}

-- a refused edit is refused by the history
pub refused_alike : (s : Seen) (t : State) (edit : Edit) (e : EditError) → StandsFor s t → IsFault e (edit_fault_over s edit) → IsFault e (edit_fault t.history edit)
refused_alike s t edit e h f = subst (IsFault e) (edit_faults_alike s t edit h) f

-- a rename leaves one run
run_renamed : (s : Seen) (t : State) → StandsFor s t → edit_fault_over s edits.Rename ≡ None →
    runs_of (idents_over (edited s edits.Rename)) ≡ (At (new_pos (idents_over s)) s.acks.me (own_count s + 1) (pos 0) ∷ [], length (text_over s)) ∷ []
run_renamed s t h f =
    let H = t.history in
    let l = renamed.law H [] h.legal (λ k d i. absurd (omega arith)) (sym (edit_faults_alike s t edits.Rename h) ∙ f) in
    let st = edited_stands s t edits.Rename tt f h in
    ap runs_of (idents_alike (edited s edits.Rename) (accept t (made H edits.Rename)) st)
    ∙ l.0.0
    ∙ ap (λ (xs : List (List Tuple)). (At (new_pos xs) (me_of H) (next_seq H) (pos 0) ∷ [], length (text H)) ∷ []) (sym (idents_alike s t h))
    ∙ ap (λ me. (At (new_pos (idents_over s)) me (next_seq H) (pos 0) ∷ [], length (text H)) ∷ []) (sym h.me)
    ∙ ap (λ n. (At (new_pos (idents_over s)) s.acks.me (n + 1) (pos 0) ∷ [], length (text H)) ∷ []) (sym (own_alike s t h))
    ∙ ap (λ (cs : List ℕ). (At (new_pos (idents_over s)) s.acks.me (own_count s + 1) (pos 0) ∷ [], length cs) ∷ []) (sym (text_alike s t h))

-- its stem is the one that the rename begins
stem_renamed : (s : Seen) (p : ℕ) → own_stem (edited s edits.Rename).stems (edited s edits.Rename).acks.me (At p s.acks.me (own_count s + 1) (pos 0)) ≡ Some (new_stem s.acks.me (own_count s + 1) (length (idents_over s)))
unfolding accepted made_over
stem_renamed s p =
    let w = new_stem s.acks.me (own_count s + 1) (length (idents_over s)) in
    ap (λ b. if b then stem_of (with_stem w s.stems) s.acks.me (own_count s + 1) else None) (eq_refl s.acks.me) ∙ found_same w s.stems

pub one_run : (s : Seen) (t : State) → StandsFor s t → edit_fault_over s edits.Rename ≡ None → IsOneRun s (edited s edits.Rename)
one_run s t h f =
    let id : Entry → List Tuple = λ z. z.0 in
    let char : Entry → ℕ = λ z. z.1 in
    let n : length (idents_over s) ≡ length (text_over s) = length-map s.text id ∙ sym (length-map s.text char) in
    let run = run_renamed s t h f in
    let w = new_stem s.acks.me (own_count s + 1) (length (idents_over s)) in
    let own = stem_renamed s (new_pos (idents_over s)) in
    (record { run = run; stem = (w, own, omega (arith, ints)) }, record { run = run; stem = (w, own, refl) })

-- the text after an edit is the edited text
pub text-edited : (s : Seen) (edit : Edit) → IsSane s → IsEdit edit → edit_fault_over s edit ≡ None → text_over (edited s edit) ≡ edited_text edit (text_over s)
text-edited s (edits.Insert at cs) sane i h = whole_text.inserted s at cs sane i h
text-edited s (edits.Delete at n) sane i h = whole_text.deleted s at n sane
text-edited s edits.Rename sane i h = whole_text.renamed s
text-edited s edits.Leave sane i h = whole_text.parted s
