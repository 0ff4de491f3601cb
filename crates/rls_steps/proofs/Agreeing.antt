-- What is recorded over a replica's parts is what is recorded over each history that the replica stands for.
use Rattle.std.proofs.Common.{◌≡◌, ℕ, zero, suc, ◌+◌, ◌-◌, ◌<◌, ◌^◌, Bool, true, false, List, [], ◌∷◌, ◌++◌, map, length, take, drop, refl, sym, ap, ◌∙◌, subst, arith}
use Rattle.std.specs.Prelude.{IsTrue, nat_le, ◌/◌, zip, reverse, slice_get, Option, Some, None, if◌then◌else◌}
use Rattle.std.specs.Char.{IsScalar}
use Rattle.std.proofs.lemmas.List.{reverse-append}
use Rattle.std.proofs.lemmas.List.Elements.{All-drop, All-take}
use Rattle.rls_ident.specs.declared.tuple.Tuple.{Tuple}
use Rattle.rls_ident.specs.declared.epoch_name.EpochName.{EpochName}
use Rattle.rls_ident.specs.EpochNames.{name_eq}
use Rattle.rls_ident.specs.declared.limits.TheConstants.{CHARACTERS}
use Rattle.rls_ident.proofs.Agreeing.{map_same}
use Rattle.rls_ident.proofs.Members.{bool_cases}
use Rattle.rls_rename.specs.Tree.{Epochs, is_kept}
use Rattle.rls_rename.proofs.Kept.{greatest_kept}
use Rattle.rls_ops.specs.WellFormed.{IsText}
use Rattle.rls_ops.specs.declared.op.Op.{Op}
use Rattle.rls_model.specs.declared.edit.Edit.TheVariants as edits
use Rattle.rls_model.specs.declared.edit.EditError.{EditError}
use Rattle.rls_model.specs.Document.{text}
use Rattle.rls_model.specs.Editing.{made, edit_fault}
use Rattle.rls_model.specs.Epochs.{greatest, translate}
use Rattle.rls_model.specs.Receiving.{State, accept}
use Rattle.rls_model.proofs.Characters.{text_chars}
use Rattle.rls_replica.specs.Names.{keeps}
use Rattle.rls_seen.specs.Edits.{edit_fault_over, edited}
use Rattle.rls_seen.specs.Over.{placed_over}
use Rattle.rls_seen.specs.Sane.{IsSane}
use Rattle.rls_seen.specs.Seen.{Seen, idents_over, text_over, greatest_over}
use Rattle.rls_seen.specs.Stands.{StandsFor}
use Rattle.rls_seen.proofs.Accepting.{placed_alike}
use Rattle.rls_seen.proofs.Alike.{greatest_alike}
use Rattle.rls_seen.proofs.Editing.{idents_alike, made_alike, edit_faults_alike, edited_stands}
use Rattle.rls_seen.proofs.EditedText.{insert_place}
use Rattle.rls_seen.proofs.Keeping.{text_alike}
use Rattle.rls_seen.proofs.Making.{edited_sane}
use Rattle.rls_seen.proofs.Needed.{total_room}
use Rattle.rls_undo.specs.Plans.{ranges_of}
use Rattle.rls_undo.specs.Undoing.{unless}
use Rattle.rls_undo.proofs.Performed.{delete_edit}
use Rattle.rls_steps.specs.declared.piece.Step.{Step}
use Rattle.rls_steps.specs.Marks.{Mark, Piece, Put, Cut, label_places, return_place, numbers_from}
use Rattle.rls_steps.specs.Labelled.{Names, label_of, mark, labels_in, label_at, left_of, inserted_by}
use Rattle.rls_steps.specs.Courses.{below_or_none, ident_of, or_empty}
use Rattle.rls_steps.specs.Groups.{group_size, next_group}
use Rattle.rls_steps.specs.Parts.{parts, parts_of, last_label}
use Rattle.rls_steps.specs.Recorded.{Recorded, steps_of}
use Rattle.rls_steps.specs.Forgetting.{leaving, lightened, without_first, without_overfull}
use Rattle.rls_steps.specs.Sweeping.{swept, kept_in}
use Rattle.rls_steps.specs.Grounds.{over, within, Held, labelled_on, labels_on, marks_on, put_on, ready_on, cut_on, piece_on, ranges_on, gone_on, place_on, Left, cuts_on, taken_on, Stand, steps_on, names_on, held_on, settled_on, added_on, Turned, back_on, exchanged}
use Rattle.rls_steps.specs.GroundLaws.{IsSpelled, AreSpelled, IsWhole, AreAlike, TurnedAlike, RecordedAlike, KeptAlike}
use Rattle.rls_steps.proofs.Unchanged.{insert_epochs, delete_epochs}

-- the same labels at a history
abbrev pub to : Held Seen → State → Held State
to h t = record { state = t; next = h.next; names = h.names }

-- ---- labels

labelled_to : (o : Option ℕ) (h : Held Seen) (t : State) (x : List Tuple) → labelled_on o (to h t) x ≡ to (labelled_on o h x) t
labelled_to None h t x = refl
labelled_to (Some n) h t x = refl

labels_to : (h : Held Seen) (t : State) (xs : List (List Tuple)) → labels_on (to h t) xs ≡ to (labels_on h xs) t
labels_to h t [] = refl
labels_to h t (x ∷ xs) = ap (λ (z : Held State). labels_on z xs) (labelled_to (label_of h.names x) h t x) ∙ labels_to (labelled_on (label_of h.names x) h x) t xs

one_state : (o : Option ℕ) (h : Held Seen) (x : List Tuple) → (labelled_on o h x).state ≡ h.state
one_state None h x = refl
one_state (Some n) h x = refl

pub labels_state : (h : Held Seen) (xs : List (List Tuple)) → (labels_on h xs).state ≡ h.state
labels_state h [] = refl
labels_state h (x ∷ xs) = labels_state (labelled_on (label_of h.names x) h x) xs ∙ one_state (label_of h.names x) h x

marks_to : (h : Held Seen) (t : State) → StandsFor h.state t → marks_on within (to h t) ≡ marks_on over h
marks_to h t p = ap (λ (xs : List (List Tuple)). map (mark h.names) xs) (sym (idents_alike h.state t p))

pub ready_to : (h : Held Seen) (t : State) (at n : ℕ) → StandsFor h.state t → ready_on within (to h t) at n ≡ to (ready_on over h at n) t
ready_to h t at n p =
    ap (λ (xs : List (List Tuple)). labels_on (to h t) (take (n + 2) (drop (at - 1) xs))) (sym (idents_alike h.state t p)) ∙ labels_to h t (take (n + 2) (drop (at - 1) (idents_over h.state)))

piece_to : (h : Held Seen) (t : State) (at n : ℕ) → StandsFor h.state t → piece_on within (to h t) at n ≡ piece_on over h at n
piece_to h t at n p =
    let ms = marks_on over h in
    ap (λ (ks : List Mark). Cut (labels_in (take n (drop at ks))) (take n (drop at (text t.history))) (left_of ks at) (label_at (slice_get ks (at + n)))) (marks_to h t p)
    ∙ ap (λ (cs : List ℕ). Cut (labels_in (take n (drop at ms))) (take n (drop at cs)) (left_of ms at) (label_at (slice_get ms (at + n)))) (sym (text_alike h.state t p))

put_to : (h : Held Seen) (t : State) (at : ℕ) (labels cs : List ℕ) → StandsFor h.state t → put_on within (to h t) at labels cs ≡ to (put_on over h at labels cs) (accept t (made t.history (edits.Insert at cs)))
put_to h t at labels cs p =
    let n = accept t (made t.history (edits.Insert at cs)) in
    ap (λ (o : Op). record { state = n; next = h.next; names = zip (inserted_by o.body) labels ++ h.names }) (sym (made_alike h.state t (edits.Insert at cs) p))

-- ---- characters

text_spelled : (s : Seen) (t : State) → StandsFor s t → IsText (text_over s)
text_spelled s t p = subst IsText (sym (text_alike s t p)) (text_chars t.history p.legal)

piece_spelled : (h : Held Seen) (t : State) (at n : ℕ) → StandsFor h.state t → IsSpelled (piece_on over h at n)
piece_spelled h t at n p = All-take IsScalar n (drop at (text_over h.state)) (All-drop IsScalar at (text_over h.state) (text_spelled h.state t p))

-- so are these pieces
pub AreAll : List Piece → Type 0
AreAll [] = Unit {0}
AreAll (p ∷ ps) = IsSpelled p × AreAll ps

-- ---- a piece that is taken back

pub record IsSame (h : Held Seen) (a : Left Seen) (b : Left State) : Type 0 where
  pub after : State
  pub is : b ≡ record { held = to a.held after; other = a.other; fault = a.fault }
  pub stands : StandsFor a.held.state after
  pub sane : IsSane a.held.state
  pub spelled : AreAll a.other
  pub epochs : a.held.state.epochs ≡ h.state.epochs

cuts_to : (h : Held Seen) (t : State) (rs : List (ℕ × ℕ)) (qs : List Piece) → StandsFor h.state t → IsSane h.state → AreAll qs → IsSame h (cuts_on over h rs qs) (cuts_on within (to h t) rs qs)
unfolding AreAll
cuts_to h t [] qs p s w = record { after = t; is = refl; stands = p; sane = s; spelled = w; epochs = refl }
cuts_to h t (r ∷ rs) qs p s w =
    let e = edits.Delete r.0 r.1 in
    let g = ready_on over h r.0 r.1 in
    let n = accept t (made t.history e) in
    let still : g.state ≡ h.state = labels_state h (take (r.1 + 2) (drop (r.0 - 1) (idents_over h.state))) in
    let here : StandsFor g.state t = subst (λ (x : Seen). StandsFor x t) (sym still) p in
    let a = cuts_on over (cut_on over g r.0 r.1) rs (piece_on over g r.0 r.1 ∷ qs) in
    let later : Held State → Left State = λ z. cuts_on within (cut_on within z r.0 r.1) rs (piece_on within z r.0 r.1 ∷ qs) in
    let b = later (ready_on within (to h t) r.0 r.1) in
    let there : b ≡ cuts_on within (to (cut_on over g r.0 r.1) n) rs (piece_on over g r.0 r.1 ∷ qs) =
    ap later (ready_to h t r.0 r.1 p) ∙ ap (λ (x : Piece). cuts_on within (to (cut_on over g r.0 r.1) n) rs (x ∷ qs)) (piece_to g t r.0 r.1 here) in
    subst (λ (f : Option EditError). IsSame h (cuts_on over h (r ∷ rs) qs) (unless f (record { held = to h t; other = qs; fault = f }) b)) (edit_faults_alike h.state t e p)
    (go h t qs a b (edit_fault_over h.state e) p s w
    (λ q. let stands = subst (λ (x : Seen). StandsFor (edited x e) n) (sym still) (edited_stands h.state t e (delete_edit h.state r.0 r.1 s q) q p) in
    let sane = subst (λ (x : Seen). IsSane (edited x e)) (sym still) (edited_sane h.state e s (delete_edit h.state r.0 r.1 s q) q) in
    let i = cuts_to (cut_on over g r.0 r.1) n rs (piece_on over g r.0 r.1 ∷ qs) stands sane (piece_spelled g t r.0 r.1 here, w) in
    record { after = i.after; is = there ∙ i.is; stands = i.stands; sane = i.sane; spelled = i.spelled; epochs = i.epochs ∙ (delete_epochs g.state r.0 r.1 ∙ ap (λ (x : Seen). x.epochs) still) }))
  where
    go : (h : Held Seen) (t : State) (qs : List Piece) (a : Left Seen) (b : Left State) (f : Option EditError) → StandsFor h.state t → IsSane h.state → AreAll qs → (f ≡ None → IsSame h a b) →
        IsSame h (unless f (record { held = h; other = qs; fault = f }) a) (unless f (record { held = to h t; other = qs; fault = f }) b)
    go h t qs a b None p s w i = i refl
    go h t qs a b (Some x) p s w i = record { after = t; is = refl; stands = p; sane = s; spelled = w; epochs = refl }

pub insert_edit : (s : Seen) (at : ℕ) (cs : List ℕ) → IsSane s → IsText cs → edit_fault_over s (edits.Insert at cs) ≡ None → at < 2 ^ 64
insert_edit s at cs sane w f =
    let p = insert_place s at cs f in
    let r = total_room s sane in
    omega (arith, p, r)

pub ranges_to : (h : Held Seen) (t : State) (labels : List ℕ) → StandsFor h.state t → ranges_on within (to h t) labels ≡ ranges_on over h labels
ranges_to h t labels p = ap (λ (ms : List Mark). reverse (ranges_of (label_places 0 labels ms))) (marks_to h t p)

gone_to : (h : Held Seen) (t : State) (left : Option ℕ) → StandsFor h.state t → gone_on within (to h t) left ≡ gone_on over h left
gone_to h t None p = refl
gone_to h t (Some l) p = ap (λ (xs : List (List Tuple)). below_or_none xs (ident_of h.names l)) (sym (idents_alike h.state t p))

pub place_to : (h : Held Seen) (t : State) (left right : Option ℕ) → StandsFor h.state t → place_on within (to h t) left right ≡ place_on over h left right
place_to h t left right p =
    ap (λ (ms : List Mark). return_place ms left right (gone_on within (to h t) left)) (marks_to h t p) ∙ ap (λ (i : ℕ). return_place (marks_on over h) left right i) (gone_to h t left p)

pub taken_to : (h : Held Seen) (t : State) (x : Piece) → StandsFor h.state t → IsSane h.state → IsSpelled x → IsSame h (taken_on over h x) (taken_on within (to h t) x)
unfolding AreAll
taken_to h t (Put labels) p s w =
    let rs = ranges_on over h labels in
    subst (λ (rs : List (ℕ × ℕ)). IsSame h (taken_on over h (Put labels)) (cuts_on within (to h t) rs (or_empty rs []))) (sym (ranges_to h t labels p))
    (cuts_to h t rs (or_empty rs []) p s (empty_spelled rs))
  where
    empty_spelled : (rs : List (ℕ × ℕ)) → AreAll (or_empty rs [])
    empty_spelled [] = (tt, tt)
    empty_spelled (r ∷ rs) = tt
taken_to h t (Cut labels cs left right) p s w =
    let at = place_on over h left right in
    let e = edits.Insert at cs in
    let n = accept t (made t.history e) in
    let back : ℕ → Left State = λ i. record { held = put_on within (to h t) i labels cs; other = Put labels ∷ []; fault = None } in
    let b : Left State = record { held = to (put_on over h at labels cs) n; other = Put labels ∷ []; fault = None } in
    let there : back at ≡ b = ap (λ (z : Held State). record { held = z; other = Put labels ∷ []; fault = None }) (put_to h t at labels cs p) in
    subst (λ (i : ℕ). IsSame h (taken_on over h (Cut labels cs left right)) (unless (edit_fault t.history (edits.Insert i cs)) (record { held = to h t; other = []; fault = edit_fault t.history (edits.Insert i cs) }) (back i))) (sym (place_to h t left right p))
    (subst (λ (f : Option EditError). IsSame h (taken_on over h (Cut labels cs left right)) (unless f (record { held = to h t; other = []; fault = f }) (back at))) (edit_faults_alike h.state t e p)
    (go (edit_fault_over h.state e) (record { held = put_on over h at labels cs; other = Put labels ∷ []; fault = None }) (back at)
    (λ q. record {
      after = n;
      is = there;
      stands = edited_stands h.state t e (insert_edit h.state at cs s w q, w) q p;
      sane = edited_sane h.state e s (insert_edit h.state at cs s w q, w) q;
      spelled = (tt, tt);
      epochs = insert_epochs h.state at cs;
    })))
  where
    go : (f : Option EditError) (a : Left Seen) (b : Left State) → (f ≡ None → IsSame h a b) → IsSame h (unless f (record { held = h; other = []; fault = f }) a) (unless f (record { held = to h t; other = []; fault = f }) b)
    go None a b i = i refl
    go (Some x) a b i = record { after = t; is = refl; stands = p; sane = s; spelled = tt; epochs = refl }

-- ---- texts of steps

all_append : (ps qs : List Piece) → AreAll ps → AreAll qs → AreAll (ps ++ qs)
unfolding AreAll
all_append [] qs a b = b
all_append (p ∷ ps) qs a b = (a.0, all_append ps qs a.1 b)

all_back : (ps : List Piece) → AreAll ps → AreAll (reverse ps)
unfolding AreAll
all_back [] a = tt
all_back (p ∷ ps) a = subst AreAll (sym (reverse-append (p ∷ []) ps)) (all_append (reverse ps) (p ∷ []) (all_back ps a.1) (a.0, tt))

spelled_append : (xs ys : List Step) → AreSpelled xs → AreSpelled ys → AreSpelled (xs ++ ys)
spelled_append [] ys a b = b
spelled_append (x ∷ xs) ys a b = (a.0, spelled_append xs ys a.1 b)

pub spelled_back : (xs : List Step) → AreSpelled xs → AreSpelled (reverse xs)
spelled_back [] a = tt
spelled_back (x ∷ xs) a = subst AreSpelled (sym (reverse-append (x ∷ []) xs)) (spelled_append (reverse xs) (x ∷ []) (spelled_back xs a.1) (a.0, tt))

spelled_drop : (n : ℕ) (xs : List Step) → AreSpelled xs → AreSpelled (drop n xs)
spelled_drop zero xs a = a
spelled_drop (suc n) [] a = tt
spelled_drop (suc n) (x ∷ xs) a = spelled_drop n xs a.1

spelled_each : (g : ℕ) (ps : List Piece) → AreAll ps → AreSpelled (map (λ (p : Piece). record { group = g; piece = p }) ps)
unfolding AreAll
spelled_each g [] a = tt
spelled_each g (p ∷ ps) a = (a.0, spelled_each g ps a.1)

spelled_of : (g : ℕ) (ps : List Piece) → AreAll ps → AreSpelled (steps_of g ps)
spelled_of g ps a = spelled_each g (reverse ps) (all_back ps a)

parts_spelled : (most k : ℕ) (labels cs : List ℕ) (left right : Option ℕ) → IsText cs → AreAll (parts_of most k labels cs left right)
unfolding AreAll
parts_spelled most zero labels cs left right w = (w, tt)
parts_spelled most (suc k) labels cs left right w =
    let whole = Cut labels cs left right ∷ [] in
    let first = Cut (take most labels) (take most cs) left right in
    let rest = parts_of most k (drop most labels) (drop most cs) (last_label (take most labels)) right in
    bool_cases (nat_le (length cs) most)
    (λ b. subst (λ (c : Bool). AreAll (if c then whole else first ∷ rest)) (sym b) (w, tt))
    (λ b. subst (λ (c : Bool). AreAll (if c then whole else first ∷ rest)) (sym b) (All-take IsScalar most cs w, parts_spelled most k (drop most labels) (drop most cs) (last_label (take most labels)) right (All-drop IsScalar most cs w)))

-- ---- steps that are taken back

record IsSameStand (h : Held Seen) (a : Stand Seen) (b : Stand State) : Type 0 where
  after : State
  is : b ≡ record { held = to a.held after; from = a.from; to = a.to; fault = a.fault }
  stands : StandsFor a.held.state after
  sane : IsSane a.held.state
  from : AreSpelled a.from
  done : AreSpelled a.to
  epochs : a.held.state.epochs ≡ h.state.epochs

steps_to : (n : ℕ) (h : Held Seen) (t : State) (xs ys : List Step) → StandsFor h.state t → IsSane h.state → AreSpelled xs → AreSpelled ys → IsSameStand h (steps_on over n h xs ys) (steps_on within n (to h t) xs ys)
steps_to zero h t xs ys p s u v = record { after = t; is = refl; stands = p; sane = s; from = u; done = v; epochs = refl }
steps_to (suc n) h t [] ys p s u v = record { after = t; is = refl; stands = p; sane = s; from = u; done = v; epochs = refl }
steps_to (suc n) h t (x ∷ xs) ys p s u v =
    let a = taken_on over h x.piece in
    let i = taken_to h t x.piece p s u.0 in
    let zs = ys ++ steps_of x.group a.other in
    let next : Left State → Stand State = λ y. let ws = ys ++ steps_of x.group y.other in unless y.fault (record { held = y.held; from = x ∷ xs; to = ws; fault = y.fault }) (steps_on within n y.held xs ws) in
    let w = spelled_append ys (steps_of x.group a.other) v (spelled_of x.group a.other i.spelled) in
    let r = steps_to n a.held i.after xs zs i.stands i.sane u.1 w in
    let all : IsSameStand h (steps_on over n a.held xs zs) (steps_on within n (to a.held i.after) xs zs) =
    record { after = r.after; is = r.is; stands = r.stands; sane = r.sane; from = r.from; done = r.done; epochs = r.epochs ∙ i.epochs } in
    subst (λ (y : Left State). IsSameStand h (steps_on over (suc n) h (x ∷ xs) ys) (next y)) (sym i.is)
    (go a.fault a.held i.after (x ∷ xs) zs (steps_on over n a.held xs zs) (steps_on within n (to a.held i.after) xs zs) i.stands i.sane u w i.epochs all)
  where
    go : (f : Option EditError) (g : Held Seen) (after : State) (xs zs : List Step) (a : Stand Seen) (b : Stand State) → StandsFor g.state after → IsSane g.state → AreSpelled xs → AreSpelled zs → g.state.epochs ≡ h.state.epochs → IsSameStand h a b →
        IsSameStand h (unless f (record { held = g; from = xs; to = zs; fault = f }) a) (unless f (record { held = to g after; from = xs; to = zs; fault = f }) b)
    go None g after xs zs a b p s u v e i = i
    go (Some x) g after xs zs a b p s u v e i = record { after = after; is = refl; stands = p; sane = s; from = u; done = v; epochs = e }

-- ---- what is recorded

names_to : (s : Seen) (t : State) (e : EpochName) (names : Names) → StandsFor s t → IsTrue (keeps s e) → names_on within t e names ≡ names_on over s e names
names_to s t e names p k =
    let f : List Tuple × ℕ → List Tuple × ℕ = λ n. (placed_over s e n.0, n.1) in
    let g : List Tuple × ℕ → List Tuple × ℕ = λ n. (translate t.history e (greatest t.history) n.0, n.1) in
    let same : map f names ≡ map g names = map_same f g names (λ n i. ap (λ x. (x, n.1)) (placed_alike s t p e n.0 k)) in
    sym (ap (λ (ms : Names). if name_eq e (greatest_over s) then names else ms) same ∙ ap (λ (h : EpochName). if name_eq e h then names else map g names) (greatest_alike s t p))

pub held_to : (s : Seen) (t : State) (r : Recorded) → StandsFor s t → IsTrue (keeps s r.epoch) → held_on within t r ≡ to (held_on over s r) t
held_to s t r p k = ap (λ (ns : Names). record { state = t; next = r.next; names = reverse ns }) (names_to s t r.epoch r.names p k)

pub settled_to : (s : Seen) (t : State) (r : Recorded) → StandsFor s t → IsTrue (keeps s r.epoch) → settled_on over s r ≡ settled_on within t r
settled_to s t r p k =
    let there : EpochName → Names → Recorded = λ e ns. record { epoch = e; next = r.next; names = ns; past = r.past; future = r.future; group = r.group; overfull = r.overfull; after_sweep = r.after_sweep } in
    ap (λ (e : EpochName). there e (names_on over s r.epoch r.names)) (greatest_alike s t p) ∙ ap (there (greatest t.history)) (sym (names_to s t r.epoch r.names p k))

back_alike : (s : Seen) (t : State) (r : Recorded) → StandsFor s t → IsSane s → IsTrue (keeps s r.epoch) → IsWhole r → AreAlike (back_on over s r) (back_on within t r)
back_alike s t r p sane kept w =
    let n = group_size r.past in
    let h = held_on over s r in
    let i = steps_to n h t (reverse r.past) r.future p sane (spelled_back r.past w.0) w.1 in
    let a = steps_on over n h (reverse r.past) r.future in
    let left : EpochName → ℕ → Names → List Step → List Step → Recorded = λ e m ns xs ys. record { epoch = e; next = m; names = reverse ns; past = reverse xs; future = ys; group = next_group r.group; overfull = false; after_sweep = r.after_sweep } in
    let later : Stand State → Turned State = λ y. record { steps = n; fault = y.fault; state = y.held.state; recorded = left (greatest t.history) y.held.next y.held.names y.from y.to } in
    let there : back_on within t r ≡ later (record { held = to a.held i.after; from = a.from; to = a.to; fault = a.fault }) =
    ap (λ (z : Held State). later (steps_on within n z (reverse r.past) r.future)) (held_to s t r p kept) ∙ ap later i.is in
    subst (λ (b : Turned State). AreAlike (back_on over s r) b) (sym there)
    (record {
      steps = refl;
      fault = refl;
      recorded = ap (λ (e : EpochName). left e a.held.next a.held.names a.from a.to) (greatest_alike s t p);
      stands = i.stands;
      sane = i.sane;
      whole = (spelled_back a.from i.from, i.done);
      kept = subst (λ (E : Epochs). IsTrue (is_kept E.top E.nodes (greatest_over s))) (sym i.epochs) (greatest_kept s.epochs.top s.epochs.nodes);
    })

pub turned_alike : TurnedAlike
turned_alike s t r p sane kept w =
    let b = back_alike s t (exchanged r) p sane kept (w.1, w.0) in (
      back_alike s t r p sane kept w,
      record { steps = b.steps; fault = b.fault; recorded = ap exchanged b.recorded; stands = b.stands; sane = b.sane; whole = (b.whole.1, b.whole.0); kept = b.kept },
    )

added_to : (s : Seen) (t : State) (r : Recorded) (h : Held Seen) (n : State) (more : List Step) → StandsFor s t → added_on over s r h more ≡ added_on within t r (to h n) more
added_to s t r h n more p =
    ap (λ (e : EpochName). record { epoch = e; next = h.next; names = reverse h.names; past = r.past ++ more; future = []; group = r.group; overfull = r.overfull; after_sweep = r.after_sweep }) (greatest_alike s t p)

pub recorded_alike : RecordedAlike
recorded_alike s t (edits.Insert at cs) r p kept w =
    let labels = numbers_from r.next (length cs) in
    let more : List Step = record { group = r.group; piece = Put labels } ∷ [] in
    let h : Held Seen = record { state = s; next = length cs + r.next; names = (held_on over s r).names } in
    let later : Names → Recorded = λ ns. added_on within t r (put_on within (record { state = t; next = length cs + r.next; names = reverse ns }) at labels cs) more in (
      added_to s t r (put_on over h at labels cs) (accept t (made t.history (edits.Insert at cs))) more p
          ∙ (sym (ap (λ (z : Held State). added_on within t r z more) (put_to h t at labels cs p)) ∙ sym (ap later (names_to s t r.epoch r.names p kept))),
      (spelled_append r.past more w.0 (tt, tt), tt),
    )
recorded_alike s t (edits.Delete at n) r p kept w =
    let g = held_on over s r in
    let h = ready_on over g at n in
    let still : h.state ≡ s = labels_state g (take (n + 2) (drop (at - 1) (idents_over s))) in
    let here : StandsFor h.state t = subst (λ (x : Seen). StandsFor x t) (sym still) p in
    let more = steps_of r.group (parts (piece_on over h at n)) in
    let later : Held State → Recorded = λ z. added_on within t r z (steps_of r.group (parts (piece_on within z at n))) in
    let cs = take n (drop at (text_over h.state)) in (
      added_to s t r h t more p
          ∙ (sym (ap (λ (x : Piece). added_on within t r (to h t) (steps_of r.group (parts x))) (piece_to h t at n here))
          ∙ (sym (ap later (ready_to g t at n p)) ∙ sym (ap (λ (z : Held State). later (ready_on within z at n)) (held_to s t r p kept)))),
      (spelled_append r.past more w.0 (spelled_of r.group (parts (piece_on over h at n)) (parts_spelled CHARACTERS (length cs) _ cs _ _ (piece_spelled h t at n here))), tt),
    )
recorded_alike s t edits.Rename r p kept w = (refl, w)
recorded_alike s t edits.Leave r p kept w = (refl, w)

pub kept_alike : KeptAlike
kept_alike s t steps chars r p kept w =
    let n = leaving steps chars r in
    let swept_at = swept (idents_over s) (lightened steps chars (settled_on over s r)) in (
      ap (λ (z : Recorded). kept_in (idents_over s) z steps chars r) (settled_to s t r p kept) ∙ ap (λ (xs : List (List Tuple)). kept_in xs (settled_on within t r) steps chars r) (idents_alike s t p),
      bool_cases (nat_le (length r.names / 2) r.after_sweep)
          (λ b. subst (λ (c : Bool). IsWhole (if c then without_overfull r else swept_at)) (sym b) (rest r.overfull))
          (λ b. subst (λ (c : Bool). IsWhole (if c then without_overfull r else swept_at)) (sym b) (spelled_drop n r.past w.0, w.1)),
    )
  where
    rest : (b : Bool) → IsWhole (if b then without_first (length r.past) r else r)
    rest true = (spelled_drop (length r.past) r.past w.0, w.1)
    rest false = w
