-- The edits that taking back makes.
use Rattle.std.proofs.Common.{◌≡◌, ℕ, zero, suc, ◌+◌, ◌-◌, List, [], ◌∷◌, ◌++◌, take, drop, refl, sym, ap, ◌∙◌, subst}
use Rattle.std.specs.Prelude.{IsTrue, reverse, Option, Some, None}
use Rattle.rls_ident.specs.declared.tuple.Tuple.{Tuple}
use Rattle.rls_model.proofs.Made.{or_none}
use Rattle.rls_model.specs.declared.edit.Edit.{Edit}
use Rattle.rls_model.specs.declared.edit.Edit.TheVariants as edits
use Rattle.rls_model.specs.declared.edit.EditError.{EditError}
use Rattle.rls_model.specs.Editing.{or_fault, edit_fault, made}
use Rattle.rls_model.specs.Receiving.{State, accept}
use Rattle.rls_model.specs.Laws.{AreEdits}
use Rattle.rls_replica.specs.Names.{keeps}
use Rattle.rls_seen.specs.Edits.{edit_fault_over, edited}
use Rattle.rls_seen.specs.Sane.{IsSane}
use Rattle.rls_seen.specs.Seen.{Seen, idents_over}
use Rattle.rls_seen.specs.Stands.{StandsFor}
use Rattle.rls_seen.proofs.Editing.{edit_faults_alike, edited_stands}
use Rattle.rls_seen.proofs.Making.{edited_sane}
use Rattle.rls_undo.specs.Undoing.{unless, performed, performed_over, refusal, refusal_over}
use Rattle.rls_undo.proofs.Performed.{delete_edit}
use Rattle.rls_steps.specs.declared.piece.Step.{Step}
use Rattle.rls_steps.specs.Marks.{Piece, Put, Cut}
use Rattle.rls_steps.specs.Labelled.{label_of}
use Rattle.rls_steps.specs.Courses.{or_empty}
use Rattle.rls_steps.specs.Groups.{group_size}
use Rattle.rls_steps.specs.Recorded.{Recorded, steps_of}
use Rattle.rls_steps.specs.Grounds.{Ground, over, within, Held, labelled_on, labels_on, put_on, ready_on, cut_on, piece_on, ranges_on, place_on, Left, cuts_on, taken_on, Stand, steps_on, held_on, back_on, again_on, exchanged, cut_edits, taken_edits, steps_edits, back_edits, again_edits}
use Rattle.rls_steps.specs.GroundLaws.{IsSpelled, AreSpelled, IsWhole, ArePerformed, ArePerformedIn, TurnedPerformed, TurnedPerformedIn, TurnedEditsAlike}
use Rattle.rls_steps.proofs.Agreeing.{to, ready_to, labels_state, insert_edit, place_to, ranges_to, taken_to, held_to, spelled_back}

-- ---- over any kind of state

abbrev performed_on : {X : Type 0} → Ground X → X → List Edit → X
performed_on G s [] = s
performed_on G s (e ∷ es) = unless (G.fault s e) s (performed_on G (G.edited s e) es)

abbrev refusal_on : {X : Type 0} → Ground X → X → List Edit → Option EditError
refusal_on G s [] = None
refusal_on G s (e ∷ es) = or_fault (G.fault s e) (refusal_on G (G.edited s e) es)

record IsDone {X : Type 0} (G : Ground X) (s : X) (es : List Edit) (n : X) : Type 0 where
  state : n ≡ performed_on G s es
  fit : refusal_on G s es ≡ None

none_done : {X : Type 0} (G : Ground X) (s : X) → IsDone G s [] s
none_done G s = record { state = refl; fit = refl }

one_done : {X : Type 0} (G : Ground X) (s : X) (e : Edit) (es : List Edit) (n : X) → G.fault s e ≡ None → IsDone G (G.edited s e) es n → IsDone G s (e ∷ es) n
one_done G s e es n q i = record {
  state = i.state ∙ sym (ap (λ (f : Option EditError). unless f s (performed_on G (G.edited s e) es)) q);
  fit = ap (λ (f : Option EditError). or_fault f (refusal_on G (G.edited s e) es)) q ∙ i.fit;
}

both_done : {X : Type 0} (G : Ground X) (es fs : List Edit) (s m n : X) → IsDone G s es m → IsDone G m fs n → IsDone G s (es ++ fs) n
both_done G [] fs s m n i j = subst (λ z. IsDone G z fs n) i.state j
both_done G (e ∷ es) fs s m n i j =
    let f = or_none (G.fault s e) (refusal_on G (G.edited s e) es) i.fit in
    let there : m ≡ performed_on G (G.edited s e) es = i.state ∙ ap (λ (o : Option EditError). unless o s (performed_on G (G.edited s e) es)) f.0 in
    one_done G s e (es ++ fs) n f.0 (both_done G es fs (G.edited s e) m n (record { state = there; fit = f.1 }) j)

one_still : {X : Type 0} (o : Option ℕ) (h : Held X) (x : List Tuple) → (labelled_on o h x).state ≡ h.state
one_still None h x = refl
one_still (Some n) h x = refl

labels_still : {X : Type 0} (h : Held X) (xs : List (List Tuple)) → (labels_on h xs).state ≡ h.state
labels_still h [] = refl
labels_still h (x ∷ xs) = labels_still (labelled_on (label_of h.names x) h x) xs ∙ one_still (label_of h.names x) h x

cuts_done : {X : Type 0} (G : Ground X) (h : Held X) (rs : List (ℕ × ℕ)) (qs : List Piece) → IsDone G h.state (cut_edits G h rs) (cuts_on G h rs qs).held.state
cuts_done G h [] qs = none_done G h.state
cuts_done {X} G h (r ∷ rs) qs =
    let e = edits.Delete r.0 r.1 in
    let g = ready_on G h r.0 r.1 in
    let still : g.state ≡ h.state = labels_still h (take (r.1 + 2) (drop (r.0 - 1) (G.idents h.state))) in
    let i = cuts_done G (cut_on G g r.0 r.1) rs (piece_on G g r.0 r.1 ∷ qs) in
    let es = cut_edits G (cut_on G g r.0 r.1) rs in
    let a = cuts_on G (cut_on G g r.0 r.1) rs (piece_on G g r.0 r.1 ∷ qs) in
    go (G.fault h.state e) (e ∷ es) a (λ q. one_done G h.state e es a.held.state q (subst (λ (z : X). IsDone G (G.edited z e) es a.held.state) still i))
  where
    go : (f : Option EditError) (es : List Edit) (a : Left X) → (f ≡ None → IsDone G h.state es a.held.state) → IsDone G h.state (unless f [] es) (unless f (record { held = h; other = qs; fault = f }) a).held.state
    go None es a i = i refl
    go (Some x) es a i = none_done G h.state

taken_done : {X : Type 0} (G : Ground X) (h : Held X) (x : Piece) → IsDone G h.state (taken_edits G h x) (taken_on G h x).held.state
taken_done G h (Put labels) = let rs = ranges_on G h labels in cuts_done G h rs (or_empty rs [])
taken_done {X} G h (Cut labels cs left right) =
    let at = place_on G h left right in
    let e = edits.Insert at cs in
    let n = G.edited h.state e in
    go (G.fault h.state e) (λ q. one_done G h.state e [] n q (none_done G n))
  where
    go : (f : Option EditError) → (f ≡ None → IsDone G h.state (edits.Insert (place_on G h left right) cs ∷ []) (put_on G h (place_on G h left right) labels cs).state) →
        IsDone G h.state (unless f [] (edits.Insert (place_on G h left right) cs ∷ []))
        (unless {A = Left X} f (record { held = h; other = []; fault = f }) (record { held = put_on G h (place_on G h left right) labels cs; other = Put labels ∷ []; fault = None })).held.state
    go None i = i refl
    go (Some x) i = none_done G h.state

steps_done : {X : Type 0} (G : Ground X) (k : ℕ) (h : Held X) (xs ys : List Step) → IsDone G h.state (steps_edits G k h xs) (steps_on G k h xs ys).held.state
steps_done G zero h xs ys = none_done G h.state
steps_done G (suc k) h [] ys = none_done G h.state
steps_done {X} G (suc k) h (x ∷ xs) ys =
    let t = taken_on G h x.piece in
    let zs = ys ++ steps_of x.group t.other in
    both_done G (taken_edits G h x.piece) (unless t.fault [] (steps_edits G k t.held xs)) h.state t.held.state _ (taken_done G h x.piece)
    (go t.fault t.held (x ∷ xs) zs (steps_edits G k t.held xs) (steps_on G k t.held xs zs) (steps_done G k t.held xs zs))
  where
    go : (f : Option EditError) (g : Held X) (xs zs : List Step) (es : List Edit) (a : Stand X) → IsDone G g.state es a.held.state → IsDone G g.state (unless f [] es) (unless f (record { held = g; from = xs; to = zs; fault = f }) a).held.state
    go None g xs zs es a i = i
    go (Some x) g xs zs es a i = none_done G g.state

back_done : {X : Type 0} (G : Ground X) (s : X) (r : Recorded) → IsDone G s (back_edits G s r) (back_on G s r).state
back_done G s r = steps_done G (group_size r.past) (held_on G s r) (reverse r.past) r.future

-- ---- at a replica and at a history

performed_same : (s : Seen) (es : List Edit) → (performed_on over s es ≡ performed_over s es) × (refusal_on over s es ≡ refusal_over s es)
performed_same s [] = (refl, refl)
performed_same s (e ∷ es) =
    let i = performed_same (edited s e) es in
    (ap (λ (n : Seen). unless (edit_fault_over s e) s n) i.0, ap (or_fault (edit_fault_over s e)) i.1)

performed_same_in : (t : State) (es : List Edit) → (performed_on within t es ≡ performed t es) × (refusal_on within t es ≡ refusal t es)
performed_same_in t [] = (refl, refl)
performed_same_in t (e ∷ es) =
    let i = performed_same_in (accept t (made t.history e)) es in
    (ap (λ (n : State). unless (edit_fault t.history e) t n) i.0, ap (or_fault (edit_fault t.history e)) i.1)

done_in : (t : State) (es : List Edit) (n : State) → IsDone within t es n → ArePerformedIn t es n
done_in t es n i = let p = performed_same_in t es in record { state = i.state ∙ p.0; fit = sym p.1 ∙ i.fit }

pub turned_performed_in : TurnedPerformedIn
turned_performed_in t r = (
  done_in t (back_edits within t r) (back_on within t r).state (back_done within t r),
  done_in t (again_edits within t r) (again_on within t r).state (back_done within t (exchanged r)),
)

-- ---- well formed edits

record IsWell (es : List Edit) (n : Seen) : Type 0 where
  edits : AreEdits es
  sane : IsSane n

cuts_well : (h : Held Seen) (rs : List (ℕ × ℕ)) (qs : List Piece) → IsSane h.state → IsWell (cut_edits over h rs) (cuts_on over h rs qs).held.state
cuts_well h [] qs s = record { edits = tt; sane = s }
cuts_well h (r ∷ rs) qs s =
    let e = edits.Delete r.0 r.1 in
    let g = ready_on over h r.0 r.1 in
    let still : g.state ≡ h.state = labels_state h (take (r.1 + 2) (drop (r.0 - 1) (idents_over h.state))) in
    let ps = piece_on over g r.0 r.1 ∷ qs in
    let es = cut_edits over (cut_on over g r.0 r.1) rs in
    go (edit_fault_over h.state e) (e ∷ es) (cuts_on over (cut_on over g r.0 r.1) rs ps)
    (λ q. let w = delete_edit h.state r.0 r.1 s q in
    let i = cuts_well (cut_on over g r.0 r.1) rs ps (subst (λ (z : Seen). IsSane (edited z e)) (sym still) (edited_sane h.state e s w q)) in
    record { edits = (w, i.edits); sane = i.sane })
  where
    go : (f : Option EditError) (es : List Edit) (a : Left Seen) → (f ≡ None → IsWell es a.held.state) → IsWell (unless f [] es) (unless f (record { held = h; other = qs; fault = f }) a).held.state
    go None es a i = i refl
    go (Some x) es a i = record { edits = tt; sane = s }

taken_well : (h : Held Seen) (x : Piece) → IsSane h.state → IsSpelled x → IsWell (taken_edits over h x) (taken_on over h x).held.state
taken_well h (Put labels) s w = let rs = ranges_on over h labels in cuts_well h rs (or_empty rs []) s
taken_well h (Cut labels cs left right) s w =
    let at = place_on over h left right in
    go (edit_fault_over h.state (edits.Insert at cs))
    (λ q. let k = insert_edit h.state at cs s w q in record { edits = ((k, w), tt); sane = edited_sane h.state (edits.Insert at cs) s (k, w) q })
  where
    go : (f : Option EditError) → (f ≡ None → IsWell (edits.Insert (place_on over h left right) cs ∷ []) (put_on over h (place_on over h left right) labels cs).state) →
        IsWell (unless f [] (edits.Insert (place_on over h left right) cs ∷ []))
        (unless {A = Left Seen} f (record { held = h; other = []; fault = f }) (record { held = put_on over h (place_on over h left right) labels cs; other = Put labels ∷ []; fault = None })).held.state
    go None i = i refl
    go (Some x) i = record { edits = tt; sane = s }

edits_append : (es fs : List Edit) → AreEdits es → AreEdits fs → AreEdits (es ++ fs)
edits_append [] fs a b = b
edits_append (e ∷ es) fs a b = (a.0, edits_append es fs a.1 b)

steps_well : (k : ℕ) (h : Held Seen) (xs ys : List Step) → IsSane h.state → AreSpelled xs → IsWell (steps_edits over k h xs) (steps_on over k h xs ys).held.state
steps_well zero h xs ys s w = record { edits = tt; sane = s }
steps_well (suc k) h [] ys s w = record { edits = tt; sane = s }
steps_well (suc k) h (x ∷ xs) ys s w =
    let t = taken_on over h x.piece in
    let zs = ys ++ steps_of x.group t.other in
    let i = taken_well h x.piece s w.0 in
    let j = go t.fault t.held (x ∷ xs) zs (steps_edits over k t.held xs) (steps_on over k t.held xs zs) i.sane (steps_well k t.held xs zs i.sane w.1) in
    record { edits = edits_append (taken_edits over h x.piece) (unless t.fault [] (steps_edits over k t.held xs)) i.edits j.edits; sane = j.sane }
  where
    go : (f : Option EditError) (g : Held Seen) (xs zs : List Step) (es : List Edit) (a : Stand Seen) → IsSane g.state → IsWell es a.held.state →
        IsWell (unless f [] es) (unless f (record { held = g; from = xs; to = zs; fault = f }) a).held.state
    go None g xs zs es a s i = i
    go (Some x) g xs zs es a s i = record { edits = tt; sane = s }

back_performed : (s : Seen) (r : Recorded) → IsSane s → IsWhole r → ArePerformed s (back_edits over s r) (back_on over s r).state
back_performed s r sane w =
    let i = back_done over s r in
    let p = performed_same s (back_edits over s r) in
    record { state = i.state ∙ p.0; fit = sym p.1 ∙ i.fit; whole = (steps_well (group_size r.past) (held_on over s r) (reverse r.past) r.future sane (spelled_back r.past w.0)).edits }

pub turned_performed : TurnedPerformed
turned_performed s r sane w = (back_performed s r sane w, back_performed s (exchanged r) sane (w.1, w.0))

-- ---- both are the same edits

same_unless : (o p : Option EditError) (es fs : List Edit) → p ≡ o → (o ≡ None → fs ≡ es) → unless p [] fs ≡ unless o [] es
same_unless None p es fs q i = ap (λ (f : Option EditError). unless f [] fs) q ∙ i refl
same_unless (Some x) p es fs q i = ap (λ (f : Option EditError). unless f [] fs) q

cut_edits_to : (h : Held Seen) (t : State) (rs : List (ℕ × ℕ)) → StandsFor h.state t → IsSane h.state → cut_edits within (to h t) rs ≡ cut_edits over h rs
cut_edits_to h t [] p s = refl
cut_edits_to h t (r ∷ rs) p s =
    let e = edits.Delete r.0 r.1 in
    let g = ready_on over h r.0 r.1 in
    let n = accept t (made t.history e) in
    let still : g.state ≡ h.state = labels_state h (take (r.1 + 2) (drop (r.0 - 1) (idents_over h.state))) in
    let later : Held State → List Edit = λ z. e ∷ cut_edits within (cut_on within z r.0 r.1) rs in
    same_unless (edit_fault_over h.state e) (edit_fault t.history e) (e ∷ cut_edits over (cut_on over g r.0 r.1) rs) (later (ready_on within (to h t) r.0 r.1)) (sym (edit_faults_alike h.state t e p))
    (λ q. let w = delete_edit h.state r.0 r.1 s q in
    let stands = subst (λ (z : Seen). StandsFor (edited z e) n) (sym still) (edited_stands h.state t e w q p) in
    let sane = subst (λ (z : Seen). IsSane (edited z e)) (sym still) (edited_sane h.state e s w q) in
    ap later (ready_to h t r.0 r.1 p) ∙ ap (λ (es : List Edit). e ∷ es) (cut_edits_to (cut_on over g r.0 r.1) n rs stands sane))

taken_edits_to : (h : Held Seen) (t : State) (x : Piece) → StandsFor h.state t → IsSane h.state → taken_edits within (to h t) x ≡ taken_edits over h x
taken_edits_to h t (Put labels) p s = ap (λ (rs : List (ℕ × ℕ)). cut_edits within (to h t) rs) (ranges_to h t labels p) ∙ cut_edits_to h t (ranges_on over h labels) p s
taken_edits_to h t (Cut labels cs left right) p s =
    let at = place_on over h left right in
    ap (λ (i : ℕ). unless (edit_fault t.history (edits.Insert i cs)) [] (edits.Insert i cs ∷ [])) (place_to h t left right p)
    ∙ ap (λ (f : Option EditError). unless f [] (edits.Insert at cs ∷ [])) (sym (edit_faults_alike h.state t (edits.Insert at cs) p))

steps_edits_to : (n : ℕ) (h : Held Seen) (t : State) (xs : List Step) → StandsFor h.state t → IsSane h.state → AreSpelled xs → steps_edits within n (to h t) xs ≡ steps_edits over n h xs
steps_edits_to zero h t xs p s w = refl
steps_edits_to (suc n) h t [] p s w = refl
steps_edits_to (suc n) h t (x ∷ xs) p s w =
    let a = taken_on over h x.piece in
    let i = taken_to h t x.piece p s w.0 in
    let es = taken_edits over h x.piece in
    let rest : Left State → List Edit = λ y. unless y.fault [] (steps_edits within n y.held xs) in
    ap (λ (fs : List Edit). fs ++ rest (taken_on within (to h t) x.piece)) (taken_edits_to h t x.piece p s)
    ∙ (ap (λ (y : Left State). es ++ rest y) i.is
    ∙ ap (λ (fs : List Edit). es ++ unless a.fault [] fs) (steps_edits_to n a.held i.after xs i.stands i.sane w.1))

back_edits_to : (s : Seen) (t : State) (r : Recorded) → StandsFor s t → IsSane s → IsTrue (keeps s r.epoch) → IsWhole r → back_edits over s r ≡ back_edits within t r
back_edits_to s t r p sane kept w =
    let n = group_size r.past in
    sym (ap (λ (z : Held State). steps_edits within n z (reverse r.past)) (held_to s t r p kept) ∙ steps_edits_to n (held_on over s r) t (reverse r.past) p sane (spelled_back r.past w.0))

pub turned_edits_alike : TurnedEditsAlike
turned_edits_alike s t r p sane kept w = (back_edits_to s t r p sane kept w, back_edits_to s t (exchanged r) p sane kept (w.1, w.0))

-- the state alone, whatever is recorded
pub turned_state : (s : Seen) (r : Recorded) → ((back_on over s r).state ≡ performed_over s (back_edits over s r)) × ((again_on over s r).state ≡ performed_over s (again_edits over s r))
turned_state s r = (at r, at (exchanged r))
  where
    at : (q : Recorded) → (back_on over s q).state ≡ performed_over s (back_edits over s q)
    at q = (back_done over s q).state ∙ (performed_same s (back_edits over s q)).0
