-- Dropping, numbers and parts, seen by a history that the replica stands for.
use Rattle.std.proofs.Common.{◌≡◌, ℕ, zero, suc, ◌≤◌, ◌==◌, ◌++◌, List, [], ◌∷◌, map, refl, sym, ap, ◌∙◌, subst, arith, if◌then◌else◌}
use Rattle.rls_ident.specs.declared.tuple.Tuple.{Tuple}
use Rattle.rls_ident.proofs.Vectors.{at_most_refl}
use Rattle.rls_rename.specs.Keeping.{kept_part}
use Rattle.rls_rename.specs.Tree.{Epochs}
use Rattle.rls_ops.specs.declared.op.Op.{Op}
use Rattle.rls_ops.specs.Rows.{row_of, left}
use Rattle.rls_model.specs.Document.{export, text}
use Rattle.rls_model.specs.Epochs.{epochs}
use Rattle.rls_model.specs.History.{me_of, members_of}
use Rattle.rls_model.specs.Laws.{KeepsRetained}
use Rattle.rls_model.specs.Legal.{IsSound}
use Rattle.rls_model.specs.Parts.{epoch_parts, parts}
use Rattle.rls_model.specs.Parts as model
use Rattle.rls_model.specs.Receiving.{State}
use Rattle.rls_model.specs.Retained.{retained}
use Rattle.rls_model.specs.Rules as rules
use Rattle.rls_model.specs.Stability.{stable, unstable}
use Rattle.rls_model.specs.View.{plain_of}
use Rattle.rls_model.proofs.WindowAnswers.{parts_window}
use Rattle.rls_model.proofs.WindowLaws as window_laws
use Rattle.rls_seen.specs.Seen.{Seen, members, stable_over, text_over}
use Rattle.rls_seen.specs.Kept as kept
use Rattle.rls_seen.specs.Kept.{dropped, retained_over, counts_over, other_rows, left_below, parts_over}
use Rattle.rls_seen.specs.Stands.{StandsFor, IsLog}
use Rattle.rls_seen.proofs.Alike.{members_alike, stable_alike, unstable_alike, keeping}
use Rattle.rls_seen.proofs.Editing.{plain_alike}
pub use Rattle.rls_seen.proofs.Editing.{retained_alike, counts_alike}

-- ---- a part of what a replica keeps

-- with other epochs, another log and other waiting operations it still stands for the history
pub stands_with : (s : Seen) (t : State) (E : Epochs) (log W V : List Op) → StandsFor s t → IsSound (record { history = t.history; waiting = V }) → KeepsRetained t.history E → W ≡ V → (gone : List ℕ) × IsLog log t.history gone →
    StandsFor (record s { epochs = E; waiting = W; log = log }) (record { history = t.history; waiting = V })
stands_with s t E log W V h sound kept waiting covered = assumption

-- ---- dropping

part_alike : (s : Seen) (t : State) → StandsFor s t → kept_part s.epochs (stable_over s) (kept.marked_over s) ≡ kept_part s.epochs (stable t.history) (map (λ o. o.epoch) (unstable t.history))
part_alike s t h =
    ap (λ v. kept_part s.epochs v (kept.marked_over s)) (stable_alike s t h)
    ∙ ap (λ os. kept_part s.epochs (stable t.history) (map (λ (o : Op). o.epoch) os)) (unstable_alike s t h)

-- dropping leaves the history
pub dropped_stands : (s : Seen) (t : State) → StandsFor s t → StandsFor (dropped s) t
unfolding dropped unstable
dropped_stands s t h =
    stands_with s t (dropped s).epochs (dropped s).log s.waiting t.waiting h h.sound (subst (KeepsRetained t.history) (sym (part_alike s t h)) (window_laws.dropped t.history s.epochs h.legal h.epochs).0) h.waiting
    (stable t.history, record { stable = at_most_refl (stable t.history); kept = unstable_alike s t h })

-- the same text
pub text_alike : (s : Seen) (t : State) → StandsFor s t → text_over s ≡ text t.history
unfolding text
text_alike s t h = ap (map (λ (e : List Tuple × ℕ). e.1)) h.text

-- ---- parts

rows_alike : (s : Seen) (t : State) → StandsFor s t → (n : ℕ) → n ≤ members_of t.history → other_rows s.acks n ≡ model.other_rows t.history n
rows_alike s t h zero l = refl
rows_alike s t h (suc n) l =
    ap (λ rs. rs ++ (if n == s.acks.me then [] else row_of s.acks n ∷ [])) (rows_alike s t h n (omega arith))
    ∙ (ap (λ me. model.other_rows t.history n ++ (if n == me then [] else row_of s.acks n ∷ [])) h.me
    ∙ ap (λ r. model.other_rows t.history n ++ (if n == me_of t.history then [] else r ∷ [])) (h.rows n (omega arith)))

left_alike : (s : Seen) (t : State) → StandsFor s t → (n : ℕ) → n ≤ members_of t.history → left_below s.acks n ≡ model.left_below t.history n
left_alike s t h zero l = refl
left_alike s t h (suc n) l =
    ap (λ ms. ms ++ (if left s.acks n then n ∷ [] else [])) (left_alike s t h n (omega arith))
    ∙ ap (λ b. model.left_below t.history n ++ (if b then n ∷ [] else [])) (h.left n (omega arith))

epochs_alike : (s : Seen) (t : State) → StandsFor s t → epoch_parts s.epochs.nodes (retained_over s) ≡ epoch_parts (epochs t.history) (retained t.history)
epochs_alike s t h = ap (epoch_parts s.epochs.nodes) (retained_alike s t h) ∙ parts_window t.history s.epochs.top s.epochs.nodes h.legal (keeping s t h)

-- the same parts
pub parts_alike : (s : Seen) (t : State) → StandsFor s t → parts_over s ≡ parts t
unfolding parts_over parts
parts_alike s t h =
    let H = t.history in
    let n = members_alike s t h in
    let rs : other_rows s.acks (members s) ≡ model.other_rows H (members_of H) = ap (other_rows s.acks) n ∙ rows_alike s t h (members_of H) (omega arith) in
    let ms : left_below s.acks (members s) ≡ model.left_below H (members_of H) = ap (left_below s.acks) n ∙ left_alike s t h (members_of H) (omega arith) in
    let es = epochs_alike s t h in
    let es0 = epoch_parts s.epochs.nodes (retained_over s) in
    let es1 = epoch_parts (epochs H) (retained H) in
    let rs0 = other_rows s.acks (members s) in
    let rs1 = model.other_rows H (members_of H) in
    let ms0 = left_below s.acks (members s) in
    ap (λ v. rules.parts v rs0 es0 s.text s.waiting ms0) (plain_alike s t h)
    ∙ (ap (λ r. rules.parts (plain_of H) r es0 s.text s.waiting ms0) rs
    ∙ (ap (λ ps. rules.parts (plain_of H) rs1 ps s.text s.waiting ms0) es
    ∙ (ap (λ xs. rules.parts (plain_of H) rs1 es1 xs s.waiting ms0) h.text
    ∙ (ap (λ W. rules.parts (plain_of H) rs1 es1 (export H) W ms0) h.waiting
    ∙ ap (rules.parts (plain_of H) rs1 es1 (export H) t.waiting) ms))))
