-- An insertion, whose characters get the next labels.
use Rattle.std.proofs.Common.{◌≡◌, ℕ, ◌+◌, List, [], ◌∷◌, ◌++◌, length, ap, ◌∙◌, arith}
use Rattle.std.specs.Prelude.{reverse, zip}
use Rattle.rls_model.specs.declared.edit.Edit.{Edit}
use Rattle.rls_model.specs.declared.edit.Edit.TheVariants as edits
use Rattle.rls_seen.specs.Edits.{made_over, edited}
use Rattle.rls_seen.specs.Seen.{Seen, greatest_over}
use Rattle.rls_steps.specs.declared.piece.Step.{Step}
use Rattle.rls_steps.specs.Marks.{Put, numbers_from}
use Rattle.rls_steps.specs.Labelled.{Names, Labelled, inserted_by, insert_over}
use Rattle.rls_steps.specs.Courses.{Steps, Insertion, moved}
use Rattle.rls_steps.specs.Grounds.{over, recorded_on}
use Rattle.rls_steps.specs.Recorded.{Recorded, IsInsertion, IsRecorded, held_by, settled, steps_over}
use Rattle.rls_steps.proofs.Unchanged.{insert_epochs}
use Rattle.rls_steps.proofs.Recording.{record_of, insert_recorded, steps_settled}
use Rattle.rls_steps.proofs.Grounded.{insert_exact, recorded_settled}

abbrev labelled_at : ℕ → Names → Seen → Labelled
labelled_at next names s = record { seen = s; next = next; names = names }

labelled_is : (s t : Seen) (i j : ℕ) (ns ms : Names) → s ≡ t → i ≡ j → ns ≡ ms → labelled_at i ns s ≡ labelled_at j ms t
labelled_is s t i j ns ms a b c = ap (labelled_at i ns) a ∙ (ap (λ (k : ℕ). labelled_at k ns t) b ∙ ap (λ (xs : Names). labelled_at j xs t) c)

insert_held : (s n : Seen) (next more count : ℕ) (names names' : Names) (at : ℕ) (cs : List ℕ) → count ≡ length cs → n ≡ edited s (edits.Insert at cs) → more ≡ next + count →
    reverse names' ≡ zip (inserted_by (made_over s (edits.Insert at cs)).body) (numbers_from next count) ++ reverse names → held_by n more names' ≡ insert_over (held_by s next names) at cs
insert_held s n next more count names names' at cs k a m h =
    let q : more ≡ length cs + next = omega (arith, m, k) in
    let given : ℕ → Names = λ j. zip (inserted_by (made_over s (edits.Insert at cs)).body) (numbers_from next j) ++ reverse names in
    labelled_is n (edited s (edits.Insert at cs)) more (length cs + next) (reverse names') (given (length cs)) a q (h ∙ ap given k)

abbrev put_step : ℕ → ℕ → ℕ → Step
put_step group next count = record { group = group; piece = Put (numbers_from next count) }

-- what is recorded of an insertion
pub record IsPut (edit : Edit) (s n : Seen) (r q : Recorded) : Type 0 where
  pub recorded : IsRecorded edit s r n q
  pub exact : q ≡ recorded_on over s edit r

pub insert_step : (edit : Edit) (count : ℕ) (s n : Seen) (r w : Recorded) (more : ℕ) (names : Names) (past future : List Step) → IsInsertion edit count → w ≡ r → r.epoch ≡ greatest_over s → future ≡ [] →
    n ≡ edited s edit → more ≡ w.next + count → reverse names ≡ zip (inserted_by (made_over s edit).body) (numbers_from w.next count) ++ reverse w.names → past ≡ w.past ++ record { group = w.group; piece = Put (numbers_from w.next count) } ∷ [] →
    IsPut edit s n r (record { epoch = w.epoch; next = more; names = names; past = past; future = future; group = w.group; overfull = w.overfull; after_sweep = w.after_sweep })
insert_step (edits.Insert at cs) count s n r w more names past future i v q z a m h p =
    let there : w.epoch ≡ greatest_over s = ap (λ (x : Recorded). x.epoch) v ∙ q in
    let same : n.epochs ≡ s.epochs = ap (λ (x : Seen). x.epochs) a ∙ insert_epochs s at cs in
    let held = insert_held s n w.next more count w.names names at cs i a m h in
    let put : past ≡ w.past ++ put_step w.group w.next (length cs) ∷ [] = p ∙ ap (λ (j : ℕ). w.past ++ put_step w.group w.next j ∷ []) i in
    record {
      recorded = ap (λ (xs : List Step). steps_over n (record_of w.epoch more names past xs w.group w.overfull w.after_sweep)) z
          ∙ (insert_recorded s n w.epoch w.next more w.names names w.past past w.future w.group w.overfull w.after_sweep at cs there same held put
          ∙ ap (λ (x : Recorded). moved (steps_over s x) (Insertion at cs)) v);
      exact = insert_exact s n w.epoch w.next more w.names names w.past past w.future future w.group w.overfull w.after_sweep at cs there held put z ∙ ap (λ (x : Recorded). recorded_on over s (edits.Insert at cs) x) v;
    }
insert_step (edits.Delete at k) count s n r w more names past future i v q z a m h p = absurd i
insert_step edits.Rename count s n r w more names past future i v q z a m h p = absurd i
insert_step edits.Leave count s n r w more names past future i v q z a m h p = absurd i

pub insert_same : (edit : Edit) (count : ℕ) (s n : Seen) → IsInsertion edit count → n ≡ edited s edit → n.epochs ≡ s.epochs
insert_same (edits.Insert at cs) count s n i a = ap (λ (x : Seen). x.epochs) a ∙ insert_epochs s at cs
insert_same (edits.Delete at k) count s n i a = absurd i
insert_same edits.Rename count s n i a = absurd i
insert_same edits.Leave count s n i a = absurd i

-- ---- what is recorded once everything is in the greatest epoch

pub settled_recorded : (edit : Edit) (count : ℕ) (s n : Seen) (r v q : Recorded) → IsInsertion edit count → v ≡ settled s r → IsRecorded edit s v n q → IsRecorded edit s r n q
settled_recorded (edits.Insert at cs) count s n r v q i e h = h ∙ ap (λ (st : Steps). moved st (Insertion at cs)) (ap (steps_over s) e ∙ steps_settled s r)
settled_recorded (edits.Delete at k) count s n r v q i e h = absurd i
settled_recorded edits.Rename count s n r v q i e h = absurd i
settled_recorded edits.Leave count s n r v q i e h = absurd i

pub settled_exact : (edit : Edit) (count : ℕ) (s : Seen) (r v q : Recorded) → IsInsertion edit count → v ≡ settled s r → q ≡ recorded_on over s edit v → q ≡ recorded_on over s edit r
settled_exact (edits.Insert at cs) count s r v q i e h = h ∙ (ap (λ (x : Recorded). recorded_on over s (edits.Insert at cs) x) e ∙ recorded_settled s (edits.Insert at cs) r tt)
settled_exact (edits.Delete at k) count s r v q i e h = absurd i
settled_exact edits.Rename count s r v q i e h = absurd i
settled_exact edits.Leave count s r v q i e h = absurd i
