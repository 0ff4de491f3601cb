-- What own edits change, one after another, leads from the text before to the text after.
use Rattle.std.proofs.Common.{◌≡◌, ◌∙◌, ℕ, ◌+◌, ◌≤◌, ◌<◌, List, [], ◌∷◌, ◌++◌, map, length, take, get_or, append_assoc, add-one, length-append, refl, sym, ap, subst, arith}
use Rattle.std.specs.Prelude.{Option, Some, None, reverse}
use Rattle.std.proofs.lemmas.List.{append-nil}
use Rattle.std.proofs.Math.Seq.{take-append_seam, take-suc}
use Rattle.rls_model.specs.declared.edit.Edit.{Edit}
use Rattle.rls_model.specs.declared.edit.Edit.TheVariants as edits
use Rattle.rls_model.specs.declared.edit.EditError.{EditError}
use Rattle.rls_model.specs.WellFormed.{IsEdit}
use Rattle.rls_model.proofs.Made.{or_none}
use Rattle.rls_model.specs.Laws.{AreEdits}
use Rattle.rls_seen.specs.Edits.{edit_fault_over, edited}
use Rattle.rls_seen.specs.Sane.{IsSane}
use Rattle.rls_seen.specs.Seen.{Seen, idents_over, own_count, text_over}
use Rattle.rls_seen.specs.Over.{placed_over}
use Rattle.rls_seen.proofs.Making.{edited_sane}
use Rattle.rls_replica.specs.Editing.{edited_text}
use Rattle.rls_replica.proofs.EditLaws.{text-edited}
use Rattle.rls_undo.specs.declared.entry.Entry.{Entry}
use Rattle.rls_undo.specs.declared.entry.Entry.TheVariants.{Inserted, Removed}
use Rattle.rls_undo.specs.Plans.{deletion, places_from, ranges_of}
use Rattle.rls_undo.specs.Undoing.{planned_over, plan_over, performed_over, refusal_over, unless, IsPart}
use Rattle.rls_undo.proofs.Performed.{own_more}
use Rattle.rls_changes.specs.declared.change.Change.{Change}
use Rattle.rls_changes.specs.Changes.{played}
use Rattle.rls_changes.specs.ChangesLaws.{own_changes, Lead}
use Rattle.rls_changes.specs.Edits.{edit_changes, performed_edits, AllPerformed, EditsExact, EditsPlayed, IsToldPart}
use Rattle.rls_changes.proofs.Joining.{played_append}

-- ---- several edits

pub edits_append : (xs ys : List Edit) → edit_changes (xs ++ ys) ≡ edit_changes xs ++ edit_changes ys
edits_append [] ys = refl
edits_append (e ∷ xs) ys = ap (λ zs. own_changes e ++ zs) (edits_append xs ys) ∙ sym (append_assoc (own_changes e) (edit_changes xs) (edit_changes ys))

own_plays : (e : Edit) (text : List ℕ) → played (own_changes e) text ≡ edited_text e text
own_plays (edits.Insert at cs) text = refl
own_plays (edits.Delete at n) text = refl
own_plays edits.Rename text = refl
own_plays edits.Leave text = refl

pub edits_played : EditsPlayed
edits_played s [] sane w = refl
edits_played s (e ∷ es) sane w = go (edit_fault_over s e) refl (λ q. edits_played (edited s e) es (edited_sane s e sane w.0 q) w.1)
  where
    go : (f : Option EditError) → edit_fault_over s e ≡ f
        → (edit_fault_over s e ≡ None → played (edit_changes (performed_edits (edited s e) es)) (text_over (edited s e)) ≡ text_over (performed_over (edited s e) es))
        → played (edit_changes (unless f [] (e ∷ performed_edits (edited s e) es))) (text_over s) ≡ text_over (unless f s (performed_over (edited s e) es))
    go None q ih =
        played_append (own_changes e) (edit_changes (performed_edits (edited s e) es)) (text_over s)
        ∙ (ap (played (edit_changes (performed_edits (edited s e) es))) (own_plays e (text_over s) ∙ sym (text-edited s e sane w.0 q)) ∙ ih q)
    go (Some x) q ih = refl

pub all_performed : AllPerformed
all_performed s [] h = refl
all_performed s (e ∷ es) h =
    let p = or_none (edit_fault_over s e) (refusal_over (edited s e) es) h in
    let ih = all_performed (edited s e) es p.1 in
    rw p.0 (ap (λ zs. e ∷ zs) ih)

pub edits_exact : EditsExact
edits_exact [] = (refl, refl)
edits_exact (edits.Insert at cs ∷ es) = let h = edits_exact es in (ap (λ zs. cs ++ zs) h.0, h.1)
edits_exact (edits.Delete at n ∷ es) = let h = edits_exact es in (h.0, ap (λ k. n + k) h.1)
edits_exact (edits.Rename ∷ es) = edits_exact es
edits_exact (edits.Leave ∷ es) = edits_exact es

-- ---- how many are performed

pub counted : (s : Seen) (es : List Edit) → IsSane s → AreEdits es → own_count (performed_over s es) ≡ own_count s + length (performed_edits s es)
counted s [] sane w = omega arith
counted s (e ∷ es) sane w = go (edit_fault_over s e) refl (λ q. counted (edited s e) es (edited_sane s e sane w.0 q) w.1)
  where
    go : (f : Option EditError) → edit_fault_over s e ≡ f
        → (edit_fault_over s e ≡ None → own_count (performed_over (edited s e) es) ≡ own_count (edited s e) + length (performed_edits (edited s e) es))
        → own_count (unless f s (performed_over (edited s e) es)) ≡ own_count s + length (unless f [] (e ∷ performed_edits (edited s e) es))
    go None q ih = let h = ih q in let m = own_more s e sane in omega arith
    go (Some x) q ih = omega arith

-- those that are performed come first
performed_first : (s : Seen) (es : List Edit) → (rest : List Edit) × (es ≡ performed_edits s es ++ rest)
performed_first s [] = ([], refl)
performed_first s (e ∷ es) = go (edit_fault_over s e) (performed_first (edited s e) es)
  where
    go : (f : Option EditError) → ((rest : List Edit) × (es ≡ performed_edits (edited s e) es ++ rest)) → (rest : List Edit) × (e ∷ es ≡ unless f [] (e ∷ performed_edits (edited s e) es) ++ rest)
    go None h = (h.0, ap (λ zs. e ∷ zs) h.1)
    go (Some x) h = (e ∷ es, refl)

-- each of these is one change
abbrev pub AreOnes : List Edit → Type 0
AreOnes [] = Unit {0}
AreOnes (e ∷ es) = (length (own_changes e) ≡ 1) × AreOnes es

ones_front : (xs ys : List Edit) → AreOnes (xs ++ ys) → AreOnes xs
ones_front [] ys h = tt
ones_front (e ∷ xs) ys h = (h.0, ones_front xs ys h.1)

ones_length : (es : List Edit) → AreOnes es → length (edit_changes es) ≡ length es
ones_length [] h = refl
ones_length (e ∷ es) h =
    let l = length-append (own_changes e) (edit_changes es) in
    let ih = ones_length es h.1 in
    let one = h.0 in
    omega arith

deletion_ones : (rs : List (ℕ × ℕ)) → AreOnes (map deletion rs)
deletion_ones [] = tt
deletion_ones (r ∷ rs) = (refl, deletion_ones rs)

planned_ones : (s : Seen) (entry : Entry) → AreOnes (planned_over s entry)
unfolding planned_over
planned_ones s (Inserted e ids) = deletion_ones (reverse (ranges_of (places_from 0 (map (placed_over s e) ids) (idents_over s))))
planned_ones s (Removed e first cs) = (refl, tt)

pub plan_ones : (s : Seen) (o : Option Entry) → AreOnes (plan_over s o)
plan_ones s None = tt
plan_ones s (Some entry) = planned_ones s entry

edits_front : (xs ys : List Edit) → AreEdits (xs ++ ys) → AreEdits xs
edits_front [] ys h = tt
edits_front (e ∷ xs) ys h = (h.0, edits_front xs ys h.1)

-- ---- cut back to the changes of those that were performed

cut_told : (plan front rest : List Edit) (cs pushed cut : List Change) (k : ℕ) → plan ≡ front ++ rest → AreOnes plan → k ≡ length front
    → pushed ≡ cs ++ edit_changes plan → cut ≡ take (length cs + k) pushed → cut ≡ cs ++ edit_changes front
cut_told plan front rest cs pushed cut k are ones l e f =
    let m = ones_length front (ones_front front rest (subst AreOnes are ones)) in
    let n = length-append cs (edit_changes front) in
    let q : length cs + k ≡ length (cs ++ edit_changes front) = omega arith in
    let p : pushed ≡ (cs ++ edit_changes front) ++ edit_changes rest =
    e ∙ (ap (λ es. cs ++ edit_changes es) are ∙ (ap (λ zs. cs ++ zs) (edits_append front rest) ∙ sym (append_assoc cs (edit_changes front) (edit_changes rest)))) in
    f ∙ (ap (λ j. take j pushed) q ∙ (ap (take (length (cs ++ edit_changes front))) p ∙ take-append_seam (cs ++ edit_changes front) (edit_changes rest)))

part_count : (s n : Seen) (plan : List Edit) → IsSane s → AreEdits plan → (p : IsPart s plan n) → own_count n ≡ own_count s + length p.front
part_count s n plan sane w p =
    let v = edits_front p.front p.rest (subst AreEdits p.are w) in
    ap (λ (u : Seen). own_count u) p.after ∙ (counted s p.front sane v ∙ ap (λ (es : List Edit). own_count s + length es) (all_performed s p.front p.fit))

pub part_more : (s n : Seen) (plan : List Edit) → IsSane s → AreEdits plan → IsPart s plan n → own_count s ≤ own_count n
part_more s n plan sane w p = let c = part_count s n plan sane w p in omega arith

pub told_part : (s n : Seen) (plan : List Edit) (cs pushed cut : List Change) (k : ℕ) → IsSane s → AreEdits plan → AreOnes plan → IsPart s plan n
    → pushed ≡ cs ++ edit_changes plan → own_count n ≡ own_count s + k → cut ≡ take (length cs + k) pushed → IsToldPart s plan n cs cut
told_part s n plan cs pushed cut k sane w ones p e c f =
    let d = part_count s n plan sane w p in
    let l : k ≡ length p.front = omega arith in
    record { front = p.front; rest = p.rest; are = p.are; fit = p.fit; led = p.after; told = cut_told plan p.front p.rest cs pushed cut k p.are ones l e f }

-- up to the first refusal
pub told_refused : (s n : Seen) (plan : List Edit) (cs pushed cut : List Change) (k : ℕ) → IsSane s → AreEdits plan → AreOnes plan → n ≡ performed_over s plan
    → pushed ≡ cs ++ edit_changes plan → own_count n ≡ own_count s + k → cut ≡ take (length cs + k) pushed → cut ≡ cs ++ edit_changes (performed_edits s plan)
told_refused s n plan cs pushed cut k sane w ones p e c f =
    let d = ap (λ (u : Seen). own_count u) p ∙ counted s plan sane w in
    let l : k ≡ length (performed_edits s plan) = omega arith in
    let r = performed_first s plan in
    cut_told plan (performed_edits s plan) r.0 cs pushed cut k r.1 ones l e f

-- ---- where they lead

front_leads : (s n : Seen) (front : List Edit) (cs ds : List Change) → IsSane s → AreEdits front → refusal_over s front ≡ None → n ≡ performed_over s front → ds ≡ cs ++ edit_changes front
    → Lead cs ds (text_over s) (text_over n)
front_leads s n front cs ds sane w h p e = record {
  fresh = edit_changes front;
  added = e;
  leads =
      ap (λ (es : List Edit). played (edit_changes es) (text_over s)) (sym (all_performed s front h))
      ∙ (edits_played s front sane w ∙ ap (λ (u : Seen). text_over u) (sym p));
}

pub whole_leads : (s n : Seen) (plan : List Edit) (cs ds : List Change) → IsSane s → AreEdits plan → refusal_over s plan ≡ None → n ≡ performed_over s plan → ds ≡ cs ++ edit_changes plan
    → Lead cs ds (text_over s) (text_over n)
whole_leads s n plan cs ds sane w h p e = front_leads s n plan cs ds sane w h p e

pub part_leads : (s n : Seen) (plan : List Edit) (cs ds : List Change) → IsSane s → AreEdits plan → IsToldPart s plan n cs ds → Lead cs ds (text_over s) (text_over n)
part_leads s n plan cs ds sane w p = front_leads s n p.front cs ds sane (edits_front p.front p.rest (subst AreEdits p.are w)) p.fit p.led p.told

-- ---- one edit after another

edits_back : (xs : List Edit) (e : Edit) → AreEdits xs → IsEdit e → AreEdits (xs ++ e ∷ [])
edits_back [] e h w = (w, tt)
edits_back (x ∷ xs) e h w = (h.0, edits_back xs e h.1 w)

-- one more of these
pub next_told : (es : List Edit) (e : Edit) (i : ℕ) (cs ds fs : List Change) → i < length es → e ≡ get_or es i e → AreEdits (take i es) → IsEdit e
    → ds ≡ cs ++ edit_changes (take i es) → fs ≡ ds ++ own_changes e → (fs ≡ cs ++ edit_changes (take (i + 1) es)) × AreEdits (take (i + 1) es)
next_told es e i cs ds fs l is w one h k =
    let m : take (i + 1) es ≡ take i es ++ e ∷ [] = rw add-one (take-suc es i e l ∙ ap (λ x. take i es ++ x ∷ []) (sym is)) in
    let a : edit_changes (take i es ++ e ∷ []) ≡ edit_changes (take i es) ++ own_changes e = edits_append (take i es) (e ∷ []) ∙ ap (λ zs. edit_changes (take i es) ++ zs) (append-nil (own_changes e)) in (
      k ∙ (ap (λ zs. zs ++ own_changes e) h ∙ (append_assoc cs (edit_changes (take i es)) (own_changes e) ∙ ap (λ zs. cs ++ zs) (sym a ∙ sym (ap edit_changes m)))),
      subst AreEdits (sym m) (edits_back (take i es) e w one),
    )

-- what stood before still stands in front
pub front_stays : (cs ds fresh : List Change) → ds ≡ cs ++ fresh → take (length cs) ds ≡ cs
front_stays cs ds fresh e = ap (take (length cs)) e ∙ take-append_seam cs fresh
