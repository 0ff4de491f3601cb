-- What taking back changes, whatever others did.
use Rattle.std.proofs.Common.{◌≡◌, ℕ, suc, ◌+◌, ◌-◌, Bool, true, List, [], ◌∷◌, ◌++◌, map, length, take, drop, inl, inr, refl, sym, ap, ◌∙◌, subst}
use Rattle.std.specs.Prelude.{None, Some, Option, reverse, filter, if◌then◌else◌}
use Rattle.rls_ident.specs.declared.tuple.Tuple.{Tuple}
use Rattle.rls_ident.specs.Identifiers.{ident_eq}
use Rattle.rls_ident.specs.Lists.{IsIn}
use Rattle.rls_ident.proofs.Ends.{eq_same, ident_eq_refl}
use Rattle.rls_ident.proofs.Members.{same_bool, in_any, any_in, in_filter, filter_in, map_in}
use Rattle.rls_runs.specs.Entries.{Entries, has_ident, idents_in}
use Rattle.rls_runs.proofs.Sorted.{Entry}
use Rattle.rls_seen.specs.Edits.{edit_fault_over, edited}
use Rattle.rls_seen.specs.Seen.{Seen, idents_over}
use Rattle.rls_seen.proofs.EditedText.{first_made, inserted_entries, zip_entries}
use Rattle.rls_undo.specs.Plans.{places_from, ranges_of, deletion}
use Rattle.rls_undo.specs.Undoing.{performed_over, refusal_over}
use Rattle.rls_undo.proofs.Cutting.{cuts, cut_targets}
use Rattle.rls_undo.proofs.Performed.{performed_cuts}
use Rattle.rls_steps.specs.Marks.{marks, is_one_of, label_places, Piece, Put, Cut}
use Rattle.rls_steps.specs.Labelled.{Names, Labelled, label_of, mark, marked, marked_by, new_label, label_all, ready_over, cut_over, cut_piece}
use Rattle.rls_steps.specs.Courses.{cut_ranges, or_empty, place_over, labelled_idents, FitRanges, TakesOwnAlone}

-- labels leave the replica as it is
one_seen : (h : Labelled) (x : List Tuple) (o : Option ℕ) → (new_label o h x).seen ≡ h.seen
one_seen h x None = refl
one_seen h x (Some n) = refl

pub label_seen : (h : Labelled) (xs : List (List Tuple)) → (label_all h xs).seen ≡ h.seen
label_seen h [] = refl
label_seen h (x ∷ xs) = label_seen (new_label (label_of h.names x) h x) xs ∙ one_seen h x (label_of h.names x)

-- ranges that are cut out are deletions, one after another
ranges_seen : (h : Labelled) (rs : List (ℕ × ℕ)) (qs : List Piece) → FitRanges h rs → (refusal_over h.seen (map deletion rs) ≡ None) × ((cut_ranges h rs qs).held.seen ≡ performed_over h.seen (map deletion rs))
ranges_seen h [] qs f = (refl, refl)
ranges_seen h (r ∷ rs) qs f =
    let g = ready_over h r.0 r.1 in
    let e = deletion r in
    let same : (cut_over g r.0 r.1).seen ≡ edited h.seen e = ap (λ (s : Seen). edited s e) (label_seen h (take (r.1 + 2) (drop (r.0 - 1) (idents_over h.seen)))) in
    let ih = ranges_seen (cut_over g r.0 r.1) rs (cut_piece g r.0 r.1 ∷ qs) f.1 in
    let a = subst (λ (s : Seen). refusal_over s (map deletion rs) ≡ None) same ih.0 in
    let b = ih.1 ∙ ap (λ (s : Seen). performed_over s (map deletion rs)) same in
    let k : edit_fault_over h.seen e ≡ None = f.0.1 in
    rw k (a, b)

-- the places of labels are those of the identifiers that have them
has_same : (names : Names) (labels : List ℕ) (xs : List (List Tuple)) (x : List Tuple) → IsIn x xs → has_ident (filter (λ y. is_one_of labels (mark names y)) xs) x ≡ is_one_of labels (mark names x)
has_same names labels xs x p =
    let t : List Tuple → Bool = λ y. is_one_of labels (mark names y) in
    same_bool (has_ident (filter t xs) x) (t x)
    (λ h. let f = in_any (λ y. ident_eq y x) (filter t xs) h in subst (λ y. t y ≡ true) (eq_same f.0 x f.2) (in_filter t f.0 xs f.1).1)
    (λ h. any_in (λ y. ident_eq y x) x (filter t xs) (filter_in t x xs p h) (ident_eq_refl x))

places_same : (names : Names) (labels : List ℕ) (ts : List (List Tuple)) (i : ℕ) (es : Entries) → ((e : Entry) → IsIn e es → has_ident ts e.0 ≡ is_one_of labels (mark names e.0)) →
    label_places i labels (marks (marked_by names es)) ≡ places_from i ts (idents_in es)
places_same names labels ts i [] h = refl
places_same names labels ts i (e ∷ es) h =
    let rest = places_same names labels ts (suc i) es (λ x p. h x (inr p)) in
    let f : List ℕ → List ℕ = λ is. if is_one_of labels (mark names e.0) then i ∷ is else is in
    here (is_one_of labels (mark names e.0)) (label_places (suc i) labels (marks (marked_by names es))) (places_from (suc i) ts (idents_in es)) rest
    ∙ ap (λ (b : Bool). if b then i ∷ places_from (suc i) ts (idents_in es) else places_from (suc i) ts (idents_in es)) (sym (h e (inl refl)))
  where
    here : (b : Bool) (is js : List ℕ) → is ≡ js → (if b then i ∷ is else is) ≡ (if b then i ∷ js else js)
    here b is js q = ap (λ ks. if b then i ∷ ks else ks) q

pub own_alone : TakesOwnAlone
own_alone h (Put labels) qs sane f =
    let s = h.seen in
    let ts = labelled_idents h labels in
    let places = label_places 0 labels (marks (marked h)) in
    let same : places ≡ places_from 0 ts (idents_over s) = places_same h.names labels ts 0 s.text (λ e p. has_same h.names labels (idents_over s) e.0 (map_in (λ (x : Entry). x.0) e s.text p)) in
    let rs = reverse (ranges_of places) in
    let seen = ranges_seen h rs (or_empty rs qs) f in
    let c = performed_cuts (ranges_of places) s sane seen.0 in
    ap (λ (u : Seen). u.text) seen.1 ∙ (c.text ∙ (ap (λ is. cuts (ranges_of is) s.text) same ∙ cut_targets ts s.text))
own_alone h (Cut labels cs left right) qs sane f =
    let at = place_over h left right in
    let x = first_made h.seen at (length cs) in
    (x, inserted_entries h.seen at cs sane f.0 f.1 ∙ ap (λ mid. take at h.seen.text ++ (mid ++ drop at h.seen.text)) (sym (zip_entries x cs)))
