-- Entries that are undone in a history.
use Rattle.std.proofs.Common.{◌≡◌, ℕ, suc, ◌+◌, ◌<◌, Bool, true, false, List, [], ◌∷◌, ◌++◌, map, length, take, drop, refl, sym, ap, ◌∙◌, subst, arith, inl, inr}
use Rattle.std.specs.Prelude.{None, reverse, zip, ◌==◌, if◌then◌else◌}
use Rattle.std.proofs.lemmas.List.{length-map}
use Rattle.rls_ident.specs.declared.tuple.Tuple.{Tuple}
use Rattle.rls_ident.specs.Lists.{IsIn}
use Rattle.rls_ident.proofs.Agreeing.{map_same}
use Rattle.rls_runs.proofs.RunEnds.{count_most}
use Rattle.rls_runs.specs.Entries.{has_ident, without_all}
use Rattle.rls_runs.specs.Places.{below_count}
use Rattle.rls_runs.specs.Runs.{run_idents}
use Rattle.rls_model.specs.Document.{idents}
use Rattle.rls_model.specs.Epochs.{greatest, translate}
use Rattle.rls_model.specs.Receiving.{State}
use Rattle.rls_model.specs.WellFormed.{IsEdit}
use Rattle.rls_model.specs.Laws.{AreEdits}
use Rattle.rls_seen.specs.Seen.{Seen, idents_over}
use Rattle.rls_seen.specs.Over.{placed_over}
use Rattle.rls_seen.specs.Sane.{IsSane}
use Rattle.rls_seen.specs.Stands.{StandsFor}
use Rattle.rls_seen.proofs.Accepting.{placed_alike}
use Rattle.rls_seen.proofs.Editing.{idents_alike}
use Rattle.rls_seen.proofs.Needed.{total_room}
use Rattle.rls_replica.specs.Names.{keeps}
use Rattle.rls_undo.specs.declared.entry.Entry.{Entry}
use Rattle.rls_undo.specs.declared.entry.Entry.TheVariants.{Inserted, Removed}
use Rattle.rls_undo.specs.Plans.{places_from, put_place, ranges_of, deletion, epoch_in}
use Rattle.rls_undo.specs.Undoing.{planned, planned_over, performed, performed_over, refusal, refusal_over}
use Rattle.rls_undo.specs.UndoLaws.{UndoesIn, IsUndone, IsUndoneIn, IsEntry}
use Rattle.rls_undo.proofs.Alike.{planned_alike, performed_stands}
use Rattle.rls_undo.proofs.Finding.{in_reverse, ranges_all}
use Rattle.rls_undo.proofs.Performed.{undone}

-- ---- planned edits are well formed

range_place : (ps : List ℕ) (r : ℕ × ℕ) → IsIn r (ranges_of ps) → IsIn r.0 ps
range_place [] r p = absurd p
range_place (i ∷ ps) r p = go (ranges_of ps) (range_place ps r) p
  where
    go : (rs : List (ℕ × ℕ)) → (IsIn r rs → IsIn r.0 ps) → IsIn r (put_place i rs) → IsIn r.0 (i ∷ ps)
    go [] f (inl e) = inl (ap (λ (q : ℕ × ℕ). q.0) e)
    go [] f (inr q) = absurd q
    go ((j, n) ∷ rs) f q = one (suc i == j) q
      where
        one : (b : Bool) → IsIn r (if b then (i, suc n) ∷ rs else (i, 1) ∷ (j, n) ∷ rs) → IsIn r.0 (i ∷ ps)
        one true (inl e) = inl (ap (λ (q : ℕ × ℕ). q.0) e)
        one true (inr u) = inr (f (inr u))
        one false (inl e) = inl (ap (λ (q : ℕ × ℕ). q.0) e)
        one false (inr u) = inr (f u)

place_within : (n : ℕ) (ts xs : List (List Tuple)) (p : ℕ) → IsIn p (places_from n ts xs) → p < n + length xs
place_within n ts [] p q = absurd q
place_within n ts (x ∷ xs) p q = go (has_ident ts x) (place_within (suc n) ts xs p) q
  where
    go : (b : Bool) → (IsIn p (places_from (suc n) ts xs) → p < suc n + length xs) → IsIn p (if b then n ∷ places_from (suc n) ts xs else places_from (suc n) ts xs) → p < n + suc (length xs)
    go true f (inl e) = subst (λ k. k < n + suc (length xs)) e (omega arith)
    go true f (inr u) = let l = f u in omega arith
    go false f u = let l = f u in omega arith

are_deletions : (rs : List (ℕ × ℕ)) → ((r : ℕ × ℕ) → IsIn r rs → IsEdit (deletion r)) → AreEdits (map deletion rs)
are_deletions [] f = tt
are_deletions (r ∷ rs) f = (f r (inl refl), are_deletions rs (λ q p. f q (inr p)))

pub plan_edits : (s : Seen) (entry : Entry) → IsSane s → IsEntry entry → AreEdits (planned_over s entry)
unfolding planned_over
plan_edits s (Inserted e ids) sane i =
    let xs = idents_over s in
    let ps = places_from 0 (map (placed_over s e) ids) xs in
    let room = total_room s sane in
    let l : length xs ≡ length s.text = length-map s.text (λ (y : List Tuple × ℕ). y.0) in
    are_deletions (reverse (ranges_of ps)) (λ r p.
    let q = in_reverse r (ranges_of ps) p in
    let a = place_within 0 (map (placed_over s e) ids) xs r.0 (range_place ps r q) in
    let b = ranges_all xs (map (placed_over s e) ids) r q in
    (omega arith, omega arith))
plan_edits s (Removed e first cs) sane i =
    let xs = idents_over s in
    let room = total_room s sane in
    let l : length xs ≡ length s.text = length-map s.text (λ (y : List Tuple × ℕ). y.0) in
    let b = count_most xs (placed_over s e first) in
    ((omega arith, i), tt)

-- ---- in a history

in_history : (s : Seen) (t u : State) (new : Seen) (entry : Entry) → StandsFor s t → StandsFor new u → keeps s (epoch_in entry) ≡ true → IsUndone s entry new → IsUndoneIn t.history entry u.history
in_history s t u new (Inserted e ids) h k kept d =
    let place : List Tuple → List Tuple = λ x. translate t.history e (greatest t.history) x in
    sym k.text ∙ (d
    ∙ (ap (λ ts. without_all ts s.text) (map_same (placed_over s e) place ids (λ x p. placed_alike s t h e x kept))
    ∙ ap (without_all (map place ids)) h.text))
in_history s t u new (Removed e first cs) h k kept d =
    let x = translate t.history e (greatest t.history) first in
    let at : below_count (idents_over s) (placed_over s e first) ≡ below_count (idents t.history) x =
    ap (λ xs. below_count xs (placed_over s e first)) (idents_alike s t h) ∙ ap (below_count (idents t.history)) (placed_alike s t h e first kept) in
    let mid = zip (run_idents d.0 (length cs)) cs in (
      d.0,
      sym k.text ∙ (d.1
          ∙ (ap (λ p. take p s.text ++ (mid ++ drop p s.text)) at
          ∙ ap (λ es. take (below_count (idents t.history) x) es ++ (mid ++ drop (below_count (idents t.history) x) es)) h.text)),
    )

pub undone_in : UndoesIn
undone_in s t entry sane h kept i f =
    let p = planned_alike s t entry h kept in
    let w = plan_edits s entry sane i in
    let r = performed_stands s t (planned_over s entry) w h in
    let fit : refusal_over s (planned_over s entry) ≡ None = r.0 ∙ (ap (refusal t) p ∙ f) in
    let stands : StandsFor (performed_over s (planned_over s entry)) (performed t (planned t.history entry)) = subst (λ es. StandsFor (performed_over s (planned_over s entry)) (performed t es)) p r.1 in
    in_history s t (performed t (planned t.history entry)) (performed_over s (planned_over s entry)) entry h stands kept (undone s entry sane i fit)

-- what is performed of an entry's plan, seen by a history
pub undo_stands : (s n : Seen) (t : State) (entry : Entry) → IsSane s → IsEntry entry → keeps s (epoch_in entry) ≡ true → StandsFor s t → n ≡ performed_over s (planned_over s entry) →
    (planned_over s entry ≡ planned t.history entry) × StandsFor n (performed t (planned t.history entry))
undo_stands s n t entry sane i kept h e =
    let p = planned_alike s t entry h kept in
    let r = performed_stands s t (planned_over s entry) (plan_edits s entry sane i) h in
    (p, subst (λ (u : Seen). StandsFor u (performed t (planned t.history entry))) (sym e) (subst (λ es. StandsFor (performed_over s (planned_over s entry)) (performed t es)) p r.1))
