-- Insertions of which it is known to which place they go.
use Rattle.std.proofs.Common.{◌≡◌, ◌∙◌, ◌<◌, ℕ, true, List, Option, None, length, map, take, drop, ◌++◌, append_assoc, refl, sym, ap, subst}
use Rattle.std.specs.Prelude.{Some, IfSome, zip, pos, ◌+ℤ◌, ◌≤ℤ◌, ◌&&◌, nat_lt, int_le}
use Rattle.rls_ident.specs.declared.tuple.Tuple.{Tuple}
use Rattle.rls_ident.specs.declared.epoch_name.EpochName.{EpochName}
use Rattle.rls_ident.specs.Identifiers.{is_ident, is_bounded, last_of}
use Rattle.rls_ident.specs.Tuples.{offset_of}
use Rattle.rls_ident.proofs.Members.{and_true, lt_test, int_le_test}
use Rattle.rls_runs.specs.Entries.{Entries, idents_in, put_all}
use Rattle.rls_runs.specs.Runs.{is_increasing, run_idents, past_offsets}
use Rattle.rls_runs.proofs.RunOrder.{rising_of}
use Rattle.rls_rename.specs.Tree.{Epochs, greatest, translate}
use Rattle.rls_doc.specs.Documents.{AreNew}
use Rattle.rls_doc.proofs.Added.{are_new}
use Rattle.rls_blocks.specs.Trees.{IsPiece, piece_entries}
use Rattle.rls_blocks.specs.Edits.{inserted}
use Rattle.rls_tree.proofs.Puts.{idents_inserted, put_inserted}
use Rattle.rls_ops.specs.declared.op.Op.{Op}
use Rattle.rls_ops.specs.declared.op.Body.{Body}
use Rattle.rls_model.specs.declared.edit.Edit.{Edit}
use Rattle.rls_model.specs.declared.edit.Edit.TheVariants as edits
use Rattle.rls_model.specs.WellFormed.{IsEdit}
use Rattle.rls_seen.specs.Edits.{edit_fault_over, edited, made_over}
use Rattle.rls_seen.specs.Sane.{IsSane}
use Rattle.rls_seen.specs.Seen.{Seen}
use Rattle.rls_seen.proofs.EditedText.{delete_made, epoch_made, first_made, insert_made, insert_place, inserted_entries, zip_entries}
use Rattle.rls_seen.proofs.Making.{edited_sane}
use Rattle.rls_replica.specs.Changing.{GoesTo, IsPlaceOf, MayInsert}
use Rattle.rls_replica.specs.Editing.{edit_place}
use Rattle.rls_replica.proofs.SameEpoch.{unmoved}

-- ---- how the text takes it

pub piece_is : (first : List Tuple) (text : List ℕ) → is_ident first ≡ true → is_bounded first ≡ true → 0 < length text → (offset_of (last_of first) +ℤ pos (length text)) ≤ℤ past_offsets → IsPiece (first, length text) text
piece_is first text i b some end =
    let n = length text in
    let a = is_ident first && is_bounded first in
    let e = offset_of (last_of first) +ℤ pos n in
    record {
      sound = and_true (a && nat_lt 0 n) (int_le e past_offsets) (and_true a (nat_lt 0 n) (and_true (is_ident first) (is_bounded first) i b) (lt_test 0 n some)) (int_le_test e past_offsets end);
      as_many = refl;
    }

-- what goes to its place is put among the text as it is
pub goes_in : (E : Epochs) (es : Entries) (e : EpochName) (first : List Tuple) (text : List ℕ) (i : ℕ) → GoesTo E es e first text i
    → inserted i (piece_entries ((first, length text), text)) es ≡ put_all (zip (map (translate E.nodes e (greatest E.top E.nodes)) (run_idents first (length text))) text) es
goes_in E es e first text i g =
    let p = piece_entries ((first, length text), text) in
    sym (put_inserted i p es (rising_of (take i (idents_in es) ++ (idents_in p ++ drop i (idents_in es))) (ap is_increasing (sym (idents_inserted i p es)) ∙ g.rises)))
    ∙ ap (λ xs. put_all (zip xs text) es) (sym (unmoved E.nodes e (greatest E.top E.nodes) (run_idents first (length text)) g.epoch))

-- in the greatest epoch too none of its identifiers is there
pub new_in : (E : Epochs) (es : Entries) (e : EpochName) (first : List Tuple) (text : List ℕ) → MayInsert E es e first text → e ≡ greatest E.top E.nodes → AreNew (run_idents first (length text)) (idents_in es)
new_in E es e first text may same =
    let xs = run_idents first (length text) in
    subst (λ ys. AreNew ys (idents_in es)) (unmoved E.nodes e (greatest E.top E.nodes) xs same) (are_new (map (translate E.nodes e (greatest E.top E.nodes)) xs) (idents_in es) may.new)

-- the place that is told
pub told : (E : Epochs) (es : Entries) (e : EpochName) (first : List Tuple) (text : List ℕ) (place : Option ℕ) (i : ℕ) → place ≡ Some i → IfSome place (λ j. GoesTo E es e first text j) → GoesTo E es e first text i
told E es e first text place i k h = subst (λ (p : Option ℕ). IfSome p (λ j. GoesTo E es e first text j)) k h

-- ---- own edits

-- an own insertion goes where it was asked for
insertion_goes : (s : Seen) (at : ℕ) (cs : List ℕ) → IsSane s → IsEdit (edits.Insert at cs) → edit_fault_over s (edits.Insert at cs) ≡ None
    → GoesTo s.epochs s.text (made_over s (edits.Insert at cs)).epoch (first_made s at (length cs)) cs at
insertion_goes s at cs sane whole fits =
    let edit = edits.Insert at cs in
    let x = first_made s at (length cs) in
    let there : (edited s edit).text ≡ inserted at (piece_entries ((x, length cs), cs)) s.text =
    inserted_entries s at cs sane whole fits ∙ ap (λ (es : Entries). take at s.text ++ (es ++ drop at s.text)) (sym (zip_entries x cs)) ∙ sym (append_assoc (take at s.text) (piece_entries ((x, length cs), cs)) (drop at s.text)) in
    record {
      epoch = epoch_made s edit;
      within = insert_place s at cs fits;
      rises = ap (λ (es : Entries). is_increasing (idents_in es)) (sym there) ∙ (edited_sane s edit sane whole fits).idents.1;
    }

pub place_made : (s : Seen) (edit : Edit) (o : Op) → IsSane s → IsEdit edit → edit_fault_over s edit ≡ None → o ≡ made_over s edit → IfSome (edit_place edit) (λ i. IsPlaceOf s.epochs s.text o.epoch o.body i)
place_made s (edits.Insert at cs) o sane whole fits made =
    subst (λ (p : Op). IsPlaceOf s.epochs s.text p.epoch p.body at) (sym made)
    (subst (λ (b : Body). IsPlaceOf s.epochs s.text (made_over s (edits.Insert at cs)).epoch b at) (sym (insert_made s at cs)) (insertion_goes s at cs sane whole fits))
place_made s (edits.Delete at n) o sane whole fits made = subst (λ (b : Body). IsPlaceOf s.epochs s.text o.epoch b at) (sym (ap (λ (p : Op). p.body) made ∙ delete_made s at n)) tt
place_made s edits.Rename o sane whole fits made = tt
place_made s edits.Leave o sane whole fits made = tt
