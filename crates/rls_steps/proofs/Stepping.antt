-- Own edits as steps.
use Rattle.std.proofs.Common.{◌≡◌, ℕ, zero, suc, ◌+◌, ◌-◌, ◌<◌, ◌≤◌, List, [], ◌∷◌, ◌++◌, map, length, take, drop, inl, inr, refl, sym, ap, ◌∙◌, ◌⊎◌, subst, arith}
use Rattle.std.specs.Prelude.{Bool, ◌==◌, slice_get, Option, Some, None, if◌then◌else◌}
use Rattle.std.proofs.lemmas.List.{take-append-drop, length-map, length-drop}
use Rattle.std.proofs.Math.Seq.{length-take-le}
use Rattle.rls_ident.specs.declared.tuple.Tuple.{Tuple}
use Rattle.rls_ident.specs.Identifiers.{ident_eq, IsIdent}
use Rattle.rls_ident.specs.Lists.{IsIn}
use Rattle.rls_ident.proofs.Ends.{ident_eq_refl}
use Rattle.rls_ident.proofs.Members.{bool_cases, map_in, in_split, in_left, in_right, in_take, in_drop, not_zero}
use Rattle.rls_runs.specs.Entries.{Entries, chars_in}
use Rattle.rls_runs.proofs.Sorted.{Entry}
use Rattle.rls_model.specs.declared.edit.Edit.TheVariants as edits
use Rattle.rls_model.specs.declared.edit.EditError.TheVariants as faults
use Rattle.rls_model.proofs.OneTree.{none_else}
use Rattle.rls_model.specs.WellFormed.{IsEdit}
use Rattle.rls_model.proofs.Spliced.{take_map, drop_map, append_map}
use Rattle.rls_seen.specs.Edits.{edit_fault_over}
use Rattle.rls_seen.specs.Seen.{Seen, idents_over, text_over}
use Rattle.rls_seen.proofs.EditedText.{deleted_entries, delete_place, take_drop_drop, range_none}
use Rattle.rls_seen.proofs.Making.{edited_sane}
use Rattle.rls_seen.proofs.TextLists.{ident_in}
use Rattle.rls_undo.specs.Plans.{ranges_of}
use Rattle.rls_steps.specs.Marks.{Mark, Known, Unknown, Marked, marks, chars, known, Piece, Put, Cut, label_places, put_in, cut_out, numbers_from}
use Rattle.rls_steps.specs.Back.{AreDistinct, AreGiven, IsGiven, EndsIn, LeadBack}
use Rattle.rls_steps.specs.Labelled.{Names, Labelled, label_of, mark_by, mark, marked_by, marked, IsLabelled, Leads, new_label, label_all, labels_in, label_at, left_of, ready_over, cut_over, cut_piece, with_next}
use Rattle.rls_steps.specs.StepLaws.{DeletionLeads, InsertionLeads, PutTakenBack}
use Rattle.rls_steps.proofs.Naming.{chars_marked, label_given, relabelled, given_most, pieces_most}
use Rattle.rls_steps.proofs.Backing.{put_back, distinct_right, three, known_marks}
use Rattle.rls_steps.proofs.Putting.{marked_put, put_labelled}

-- ---- what has labels

abbrev pub IsNamed : Names → List Tuple → Type 0
IsNamed names x = (n : ℕ) × (label_of names x ≡ Some n)

keeps_name : (h : Labelled) (y x : List Tuple) (o : Option ℕ) → label_of h.names y ≡ o → IsNamed h.names x → IsNamed (new_label o h y).names x
keeps_name h y x (Some n) e k = k
keeps_name h y x None e k = bool_cases (ident_eq y x)
    (λ t. (h.next, ap (λ (b : Bool). if b then Some h.next else label_of h.names x) t))
    (λ f. (k.0, ap (λ (b : Bool). if b then Some h.next else label_of h.names x) f ∙ k.1))

gets_name : (h : Labelled) (x : List Tuple) (o : Option ℕ) → label_of h.names x ≡ o → IsNamed (new_label o h x).names x
gets_name h x (Some n) e = (n, e)
gets_name h x None e = (h.next, ap (λ (b : Bool). if b then Some h.next else label_of h.names x) (ident_eq_refl x))

all_keep : (h : Labelled) (ys : List (List Tuple)) (x : List Tuple) → IsNamed h.names x → IsNamed (label_all h ys).names x
all_keep h [] x k = k
all_keep h (y ∷ ys) x k = all_keep (new_label (label_of h.names y) h y) ys x (keeps_name h y x (label_of h.names y) refl k)

pub all_named : (h : Labelled) (ys : List (List Tuple)) (x : List Tuple) → IsIn x ys → IsNamed (label_all h ys).names x
all_named h [] x p = absurd p
all_named h (y ∷ ys) x (inl e) = all_keep (new_label (label_of h.names y) h y) ys x (subst (λ z. IsNamed (new_label (label_of h.names y) h y).names z) e (gets_name h y (label_of h.names y) refl))
all_named h (y ∷ ys) x (inr p) = all_named (new_label (label_of h.names y) h y) ys x p

-- named characters
named_known : (names : Names) (es : Entries) → ((e : Entry) → IsIn e es → IsNamed names e.0) → marked_by names es ≡ known (labels_in (marks (marked_by names es))) (chars_in es)
named_known names [] h = refl
named_known names (e ∷ es) h =
    let ih = named_known names es (λ x p. h x (inr p)) in
    go (label_of names e.0) (h e (inl refl)) ih
  where
    go : (o : Option ℕ) → (n : ℕ) × (o ≡ Some n) → marked_by names es ≡ known (labels_in (marks (marked_by names es))) (chars_in es)
        → ((mark_by e.0 o, e.1) ∷ marked_by names es) ≡ known (labels_in (mark_by e.0 o ∷ marks (marked_by names es))) (e.1 ∷ chars_in es)
    go None k ih = absurd (let q = k.1 in cc)
    go (Some n) k ih = ap (λ m. (Known n, e.1) ∷ m) ih

labels_length : (names : Names) (es : Entries) → ((e : Entry) → IsIn e es → IsNamed names e.0) → length (labels_in (marks (marked_by names es))) ≡ length (chars_in es)
labels_length names [] h = refl
labels_length names (e ∷ es) h = go (label_of names e.0) (h e (inl refl)) (labels_length names es (λ x p. h x (inr p)))
  where
    go : (o : Option ℕ) → (n : ℕ) × (o ≡ Some n) → length (labels_in (marks (marked_by names es))) ≡ length (chars_in es)
        → length (labels_in (mark_by e.0 o ∷ marks (marked_by names es))) ≡ suc (length (chars_in es))
    go None k ih = absurd (let q = k.1 in cc)
    go (Some n) k ih = ap suc ih

-- ---- the range and its neighbours

take_more : {A : Type 0} (n : ℕ) (x : A) (xs : List A) → IsIn x (take n xs) → IsIn x (take (suc n) xs)
take_more zero x xs p = absurd p
take_more (suc n) x [] p = absurd p
take_more (suc n) x (y ∷ ys) (inl e) = inl e
take_more (suc n) x (y ∷ ys) (inr p) = inr (take_more n x ys p)

drop_suc : {A : Type 0} (k : ℕ) (xs : List A) → drop (suc k) xs ≡ drop 1 (drop k xs)
drop_suc zero xs = refl
drop_suc (suc k) [] = refl
drop_suc (suc k) (x ∷ xs) = drop_suc k xs

range_ready : {A : Type 0} (at n : ℕ) (x : A) (xs : List A) → IsIn x (take n (drop at xs)) → IsIn x (take (n + 2) (drop (at - 1) xs))
range_ready {A = A} zero n x xs p =
    let two : suc (suc n) ≡ n + 2 = omega arith in
    let none : 0 ≡ 0 - 1 = omega arith in
    subst (λ j. IsIn x (take (n + 2) (drop j xs))) none (subst (λ k. IsIn x (take k xs)) two (take_more (suc n) x xs (take_more n x xs p)))
range_ready {A = A} (suc k) n x xs p =
    let two : suc (suc n) ≡ n + 2 = omega arith in
    let one : k ≡ suc k - 1 = omega arith in
    subst (λ j. IsIn x (take (n + 2) (drop j xs))) one (subst (λ i. IsIn x (take i (drop k xs))) two (go (drop k xs) (subst (λ ys. IsIn x (take n ys)) (drop_suc k xs) p)))
  where
    go : (ys : List A) → IsIn x (take n (drop 1 ys)) → IsIn x (take (suc (suc n)) ys)
    go [] q = take_more (suc n) x [] (take_more n x [] q)
    go (y ∷ ys) q = inr (take_more n x ys q)

left_ready : {A : Type 0} (k n : ℕ) (x : A) (xs : List A) → slice_get xs k ≡ Some x → IsIn x (take (n + 2) (drop (suc k - 1) xs))
left_ready {A = A} k n x xs h =
    let one : k ≡ suc k - 1 = omega arith in
    let two : suc (suc n) ≡ n + 2 = omega arith in
    subst (λ j. IsIn x (take (n + 2) (drop j xs))) one (subst (λ i. IsIn x (take i (drop k xs))) two (go k xs h))
  where
    go : (k : ℕ) (xs : List A) → slice_get xs k ≡ Some x → IsIn x (take (suc (suc n)) (drop k xs))
    go zero [] h = absurd (cc)
    go zero (y ∷ ys) h = let e : y ≡ x = cc in inl e
    go (suc k) [] h = absurd (cc)
    go (suc k) (y ∷ ys) h = go k ys h

-- the last one of a front has a label
record LastKnown (m : Marked) (k : ℕ) : Type 0 where
  pub label : ℕ
  pub is : label_at (slice_get (marks m) k) ≡ Some label
  pub more : Marked
  pub char : ℕ
  pub ends : take (suc k) m ≡ more ++ (Known label, char) ∷ []

last_known : (names : Names) (k : ℕ) (es : Entries) → suc k ≤ length es → ((x : List Tuple) → slice_get (map (λ (e : Entry). e.0) es) k ≡ Some x → IsNamed names x) → LastKnown (marked_by names es) k
last_known names k [] h w = absurd (omega (arith, h))
last_known names zero (e ∷ es) h w = one (label_of names e.0) (w e.0 refl)
  where
    one : (o : Option ℕ) → (n : ℕ) × (o ≡ Some n) → LastKnown ((mark_by e.0 o, e.1) ∷ marked_by names es) 0
    one None q = absurd (let r = q.1 in cc)
    one (Some n) q = record { label = n; is = refl; more = []; char = e.1; ends = refl }
last_known names (suc k) (e ∷ es) h w =
    let r = last_known names k es (omega (arith, h)) w in
    record { label = r.label; is = r.is; more = (mark names e.0, e.1) ∷ r.more; char = r.char; ends = ap (λ m. (mark names e.0, e.1) ∷ m) r.ends }

ends_named : (names : Names) (es : Entries) (at : ℕ) → at ≤ length es → ((k : ℕ) (x : List Tuple) → suc k ≡ at → slice_get (map (λ (e : Entry). e.0) es) k ≡ Some x → IsNamed names x) →
    EndsIn (take at (marked_by names es)) (left_of (marks (marked_by names es)) at)
ends_named names es zero h w = refl
ends_named names es (suc k) h w =
    let r = last_known names k es h (λ x e. w k x refl e) in
    subst (λ (l : Option ℕ). EndsIn (take (suc k) (marked_by names es)) l) (sym r.is) (r.more, r.char, r.ends)

-- ---- labels that stand in the text were given

entry_given : (next : ℕ) (names : Names) (x : List Tuple) (k : ℕ) → AreGiven next (map (λ p. p.1) names) → mark names x ≡ Known k → k < next
entry_given next names x k g h = go (label_of names x) refl h
  where
    go : (o : Option ℕ) → label_of names x ≡ o → mark_by x o ≡ Known k → k < next
    go None e q = absurd (cc)
    go (Some n) e q = let same : n ≡ k = cc in subst (λ j. j < next) same (label_given next names x n g e)

marks_given : (next : ℕ) (names : Names) (es : Entries) (k : ℕ) → AreGiven next (map (λ p. p.1) names) → IsIn (Known k) (marks (marked_by names es)) → k < next
marks_given next names [] k g p = absurd p
marks_given next names (e ∷ es) k g (inl q) = entry_given next names e.0 k g q
marks_given next names (e ∷ es) k g (inr p) = marks_given next names es k g p

labels_given : (next : ℕ) (ms : List Mark) → ((k : ℕ) → IsIn (Known k) ms → k < next) → AreGiven next (labels_in ms)
labels_given next [] h = tt
labels_given next (Known n ∷ ms) h = (h n (inl refl), labels_given next ms (λ k p. h k (inr p)))
labels_given next (Unknown x ∷ ms) h = labels_given next ms (λ k p. h k (inr p))

label_at_given : (next : ℕ) (ms : List Mark) (k : ℕ) → ((j : ℕ) → IsIn (Known j) ms → j < next) → IsGiven next (label_at (slice_get ms k))
label_at_given next [] k h = tt
label_at_given next (Known n ∷ ms) zero h = h n (inl refl)
label_at_given next (Unknown x ∷ ms) zero h = tt
label_at_given next (m ∷ ms) (suc k) h = label_at_given next ms k (λ j p. h j (inr p))

left_given : (next : ℕ) (ms : List Mark) (at : ℕ) → ((j : ℕ) → IsIn (Known j) ms → j < next) → IsGiven next (left_of ms at)
left_given next ms zero h = tt
left_given next ms (suc k) h = label_at_given next ms k h

-- ---- an edit that isn't refused isn't empty

some_inserted : (s : Seen) (at : ℕ) (cs : List ℕ) → edit_fault_over s (edits.Insert at cs) ≡ None → 0 < length cs
some_inserted s at cs h = not_zero (length cs) (none_else (length cs == 0) faults.EmptyEdit _ (range_none s (edits.Insert at cs) h)).0

some_deleted : (s : Seen) (at n : ℕ) → edit_fault_over s (edits.Delete at n) ≡ None → 0 < n
some_deleted s at n h = not_zero n (none_else (n == 0) faults.EmptyEdit _ (range_none s (edits.Delete at n) h)).0

-- ---- a range that is cut out

pub distinct_without : (xs ys zs : List Mark) → AreDistinct (xs ++ (ys ++ zs)) → AreDistinct (xs ++ zs)
distinct_without [] ys zs d = distinct_right ys zs d
distinct_without (x ∷ xs) ys zs d = (λ p. d.0 (wider (in_split x xs zs p)), distinct_without xs ys zs d.1)
  where
    wider : IsIn x xs ⊎ IsIn x zs → IsIn x (xs ++ (ys ++ zs))
    wider (inl q) = in_left x xs (ys ++ zs) q
    wider (inr q) = in_right x xs (ys ++ zs) (in_right x ys zs q)

cut_map : {A B : Type 0} (f : A → B) (at n : ℕ) (xs : List A) → map f (take n (drop at xs)) ≡ take n (drop at (map f xs))
cut_map f at n xs = take_map f n (drop at xs) ∙ ap (take n) (drop_map f at xs)

marked_cut : (g : Labelled) (at n : ℕ) → IsLabelled g → marked (cut_over g at n) ≡ cut_out (marked g) at n
marked_cut g at n i =
    let f : Entry → Mark × ℕ = λ e. (mark g.names e.0, e.1) in
    ap (marked_by g.names) (deleted_entries g.seen at n i.sane)
    ∙ (append_map f (take at g.seen.text) (drop (at + n) g.seen.text)
    ∙ (ap (λ m. m ++ marked_by g.names (drop (at + n) g.seen.text)) (take_map f at g.seen.text) ∙ ap (λ m. take at (marked g) ++ m) (drop_map f (at + n) g.seen.text)))

-- what the range and the character before it have
record IsReady (g : Labelled) (at n : ℕ) : Type 0 where
  pub range : (e : Entry) → IsIn e (take n (drop at g.seen.text)) → IsNamed g.names e.0
  pub left : (k : ℕ) (x : List Tuple) → suc k ≡ at → slice_get (idents_over g.seen) k ≡ Some x → IsNamed g.names x

record IsOut (g : Labelled) (at n : ℕ) (qs : List Piece) (us : List (List ℕ)) : Type 0 where
  pub is : IsLabelled (cut_over g at n)
  pub leads : Leads (cut_over g at n) (cut_piece g at n ∷ qs) (text_over g.seen ∷ us)

cut_leads : (g : Labelled) (at n : ℕ) (qs : List Piece) (us : List (List ℕ)) → IsLabelled g → IsReady g at n → Leads g qs us → 0 < n → IsEdit (edits.Delete at n) → edit_fault_over g.seen (edits.Delete at n) ≡ None → IsOut g at n qs us
cut_leads g at n qs us i ready l some w f =
    let text = g.seen.text in
    let m = marked g in
    let ms = marks m in
    let seg = take n (drop at text) in
    let name : Entry → Mark × ℕ = λ e. (mark g.names e.0, e.1) in
    let labels = labels_in (take n (drop at ms)) in
    let cs = take n (drop at (text_over g.seen)) in
    let size = (delete_place g.seen at n f).0 in
    let seg_marks : marks (marked_by g.names seg) ≡ take n (drop at ms) = ap marks (cut_map name at n text) ∙ cut_map (λ (e : Mark × ℕ). e.0) at n m in
    let seg_chars : chars_in seg ≡ cs = cut_map (λ (e : Entry). e.1) at n text in
    let there : take n (drop at m) ≡ known labels cs =
    sym (cut_map name at n text) ∙ (named_known g.names seg ready.range ∙ (ap (λ ks. known (labels_in ks) (chars_in seg)) seg_marks ∙ ap (known labels) seg_chars)) in
    let fit : length labels ≡ length cs = ap (λ ks. length (labels_in ks)) (sym seg_marks) ∙ (labels_length g.names seg ready.range ∙ ap length seg_chars) in
    let total : length (text_over g.seen) ≡ length text = length-map text (λ (e : Entry). e.1) in
    let long : length cs ≡ n = length-take-le n (drop at (text_over g.seen)) (let d = length-drop at (text_over g.seen) in omega (arith, d, total, size)) in
    let whole : take at m ++ (known labels cs ++ drop (at + n) m) ≡ m = ap (λ k. take at m ++ (k ++ drop (at + n) m)) (sym there) ∙ take_drop_drop n at m in
    let out = marked_cut g at n i in
    let apart : AreDistinct (marks (take at m ++ (known labels cs ++ drop (at + n) m))) = subst (λ (k : Marked). AreDistinct (marks k)) (sym whole) i.distinct in
    let given : (k : ℕ) → IsIn (Known k) ms → k < g.next = λ k p. marks_given g.next g.names text k i.given p in
    record {
      is = record {
        sane = edited_sane g.seen (edits.Delete at n) i.sane w f;
        given = i.given;
        idents = i.idents;
        distinct = subst (λ (k : Marked). AreDistinct (marks k)) (sym out)
            (subst AreDistinct (sym (append_map (λ (e : Mark × ℕ). e.0) (take at m) (drop (at + n) m)))
            (distinct_without (marks (take at m)) (marks (known labels cs)) (marks (drop (at + n) m))
            (subst AreDistinct (three (take at m) (known labels cs) (drop (at + n) m)) apart)));
      };
      leads = record {
        given = (subst (λ (ks : List Mark). AreGiven g.next (labels_in ks)) seg_marks (labels_given g.next (marks (marked_by g.names seg)) (λ k p. marks_given g.next g.names seg k i.given p)), left_given g.next ms at given, l.given);
        back = (
          take at m,
          drop (at + n) m,
          record {
            is = out;
            fit = fit;
            some = omega (arith, long, some);
            left_is = ends_named g.names text at (omega (arith, size)) ready.left;
            distinct = apart;
          },
          ap chars whole ∙ chars_marked g.names text,
          subst (λ (k : Marked). LeadBack k qs us) (sym whole) l.back,
        );
      };
    }

-- ---- what has labels is ready

ready_is : (h : Labelled) (at n : ℕ) → (ready_over h at n).seen ≡ h.seen → IsReady (ready_over h at n) at n
ready_is h at n same =
    let ids : Seen → List (List Tuple) = idents_over in
    let near = take (n + 2) (drop (at - 1) (idents_over h.seen)) in
    record {
      range = λ e p. all_named h near e.0 (range_ready at n e.0 (idents_over h.seen)
          (subst (λ (s : Seen). IsIn e.0 (take n (drop at (idents_over s)))) same (subst (λ xs. IsIn e.0 xs) (cut_map (λ (x : Entry). x.0) at n (ready_over h at n).seen.text) (map_in (λ (x : Entry). x.0) e (take n (drop at (ready_over h at n).seen.text)) p))));
      left = λ k x q r. all_named h near x (subst (λ j. IsIn x (take (n + 2) (drop (j - 1) (idents_over h.seen)))) q (left_ready k n x (idents_over h.seen) (subst (λ (s : Seen). slice_get (idents_over s) k ≡ Some x) same r)));
    }

near_idents : (h : Labelled) (at n : ℕ) → IsLabelled h → (x : List Tuple) → IsIn x (take (n + 2) (drop (at - 1) (idents_over h.seen))) → IsIdent x
near_idents h at n i x p = ident_in (idents_over h.seen) i.sane.idents x (in_drop (at - 1) x (idents_over h.seen) (in_take (n + 2) x (drop (at - 1) (idents_over h.seen)) p))

pub ready_seen : (h : Labelled) (at n : ℕ) (ps : List Piece) (ts : List (List ℕ)) → IsLabelled h → Leads h ps ts → (ready_over h at n).seen ≡ h.seen
ready_seen h at n ps ts i l = (relabelled h (take (n + 2) (drop (at - 1) (idents_over h.seen))) (near_idents h at n i) ps ts i l).seen

pub deletion_leads : DeletionLeads
deletion_leads h at n ps ts i l w f =
    let some = some_deleted h.seen at n f in
    let g = ready_over h at n in
    let r = relabelled h (take (n + 2) (drop (at - 1) (idents_over h.seen))) (near_idents h at n i) ps ts i l in
    let f2 = subst (λ (s : Seen). edit_fault_over s (edits.Delete at n) ≡ None) (sym r.seen) f in
    let o = cut_leads g at n ps ts r.is (ready_is h at n r.seen) r.leads some w f2 in
    (o.is, subst (λ (s : Seen). Leads (cut_over g at n) (cut_piece g at n ∷ ps) (text_over s ∷ ts)) r.seen o.leads)

-- ---- what was put in goes

first_place : List (ℕ × ℕ) → ℕ
first_place [] = 0
first_place (r ∷ rs) = r.0

record IsGone (g : Labelled) (labels : List ℕ) (at : ℕ) (ps : List Piece) (t : List ℕ) (ts : List (List ℕ)) : Type 0 where
  pub range : ranges_of (label_places 0 labels (marks (marked g))) ≡ (at, length labels) ∷ []
  pub text : chars (cut_out (marked g) at (length labels)) ≡ t
  pub back : LeadBack (cut_out (marked g) at (length labels)) ps ts

gone_at : (g : Labelled) (labels : List ℕ) (ps : List Piece) (t : List ℕ) (ts : List (List ℕ)) → Leads g (Put labels ∷ ps) (t ∷ ts) → (at : ℕ) × IsGone g labels at ps t ts
gone_at g labels ps t ts l = go (put_back (marked g) labels ps [] t ts [] l.back refl)
  where
    Rest : ℕ → List ℕ → Type 0
    Rest at cs = (left right : Option ℕ) → EndsIn (take at (marked g)) left → LeadBack (cut_out (marked g) at (length labels)) (Cut labels cs left right ∷ []) (chars (marked g) ∷ [])

    go : (at : ℕ) × (cs : List ℕ) × (ranges_of (label_places 0 labels (marks (marked g))) ≡ (at, length labels) ∷ []) × (take (length labels) (drop at (marked g)) ≡ known labels cs)
        × (chars (cut_out (marked g) at (length labels)) ≡ t) × LeadBack (cut_out (marked g) at (length labels)) ps ts × ((left right : Option ℕ) → EndsIn (take at (marked g)) left → LeadBack (cut_out (marked g) at (length labels)) (Cut labels cs left right ∷ []) (chars (marked g) ∷ []))
        → (at : ℕ) × IsGone g labels at ps t ts
    go (at, cs, range, taken, text, back, rest) = (at, record { range = range; text = text; back = back })

some_put : (m : Marked) (labels : List ℕ) (ps : List Piece) (t : List ℕ) (ts : List (List ℕ)) → LeadBack m (Put labels ∷ ps) (t ∷ ts) → 0 < length labels
some_put m labels ps t ts (front, cs, rest, put, same, back) = omega (arith, put.fit, put.some)

pub put_taken_back : PutTakenBack
unfolding first_place
put_taken_back h labels ps qs t ts us i l k =
    let a = gone_at h labels ps t ts l in
    let at = a.0 in
    let n = length labels in
    let near = take (n + 2) (drop (at - 1) (idents_over h.seen)) in
    let g = ready_over h at n in
    let r = relabelled h near (near_idents h at n i) (Put labels ∷ ps) (t ∷ ts) i l in
    let q = relabelled h near (near_idents h at n i) qs us i k in
    let b = gone_at g labels ps t ts r.leads in
    let same : b.0 ≡ at = ap first_place (sym b.1.range ∙ (ap ranges_of (r.places labels l.given.0) ∙ a.1.range)) in
    let gone = subst (λ (j : ℕ). IsGone g labels j ps t ts) same b.1 in (
      at,
      a.1.range,
      λ w f.
          let f2 = subst (λ (s : Seen). edit_fault_over s (edits.Delete at n) ≡ None) (sym r.seen) f in
          let o = cut_leads g at n qs us r.is (ready_is h at n r.seen) q.leads (some_put (marked h) labels ps t ts l.back) w f2 in
          let out = marked_cut g at n r.is in
          let m = cut_over g at n in (
            o.is,
            sym (chars_marked m.names m.seen.text) ∙ (ap chars out ∙ gone.text),
            record { given = r.leads.given.1; back = subst (λ (z : Marked). LeadBack z ps ts) (sym out) gone.back },
            subst (λ (s : Seen). Leads m (cut_piece g at n ∷ qs) (text_over s ∷ us)) r.seen o.leads,
          ),
    )

-- ---- an insertion

distinct_with : (xs ys zs : List Mark) → AreDistinct (xs ++ zs) → AreDistinct ys → ((m : Mark) → IsIn m ys → IsIn m (xs ++ zs) → ⊥) → AreDistinct (xs ++ (ys ++ zs))
distinct_with [] [] zs d e h = d
distinct_with [] (y ∷ ys) zs d e h = (
  λ p. apart (in_split y ys zs p),
  distinct_with [] ys zs d e.1 (λ m p q. h m (inr p) q),
)
  where
    apart : IsIn y ys ⊎ IsIn y zs → ⊥
    apart (inl q) = e.0 q
    apart (inr q) = h y (inl refl) q
distinct_with (x ∷ xs) ys zs d e h = (
  λ p. apart (in_split x xs (ys ++ zs) p),
  distinct_with xs ys zs d.1 e (λ m p q. h m p (inr q)),
)
  where
    within : IsIn x ys ⊎ IsIn x zs → ⊥
    within (inl q) = h x q (inl refl)
    within (inr q) = d.0 (in_right x xs zs q)

    apart : IsIn x xs ⊎ IsIn x (ys ++ zs) → ⊥
    apart (inl q) = d.0 (in_left x xs zs q)
    apart (inr q) = within (in_split x ys zs q)

number_from : (i n : ℕ) (m : Mark) → IsIn m (map Known (numbers_from i n)) → (k : ℕ) × (i ≤ k) × (k < i + n) × (m ≡ Known k)
number_from i zero m p = absurd p
number_from i (suc n) m (inl e) = (i, omega arith, omega arith, sym e)
number_from i (suc n) m (inr p) = let r = number_from (suc i) n m p in (r.0, omega (arith, r.1), omega (arith, r.2), r.3)

numbers_distinct : (i n : ℕ) → AreDistinct (map Known (numbers_from i n))
numbers_distinct i zero = tt
numbers_distinct i (suc n) = (λ p. let r = number_from (suc i) n (Known i) p in let e : i ≡ r.0 = known_is i r.0 r.3 in absurd (omega (arith, r.1, e)), numbers_distinct (suc i) n)
  where
    known_is : (a b : ℕ) → Known a ≡ Known b → a ≡ b
    known_is a b e = cc

numbers_given : (i n next : ℕ) → i + n ≤ next → AreGiven next (numbers_from i n)
numbers_given i zero next h = tt
numbers_given i (suc n) next h = (omega (arith, h), numbers_given (suc i) n next (omega (arith, h)))

numbers_length : (i n : ℕ) → length (numbers_from i n) ≡ n
numbers_length i zero = refl
numbers_length i (suc n) = ap suc (numbers_length (suc i) n)

pub insertion_leads : InsertionLeads
insertion_leads h at cs ps ts i l w f =
    let some = some_inserted h.seen at cs f in
    let n = length cs in
    let g = with_next h n in
    let labels = numbers_from h.next n in
    let m = marked h in
    let more : h.next ≤ n + h.next = omega arith in
    let here : IsLabelled g = record { sane = i.sane; given = given_most h.next (n + h.next) (map (λ p. p.1) h.names) more i.given; idents = i.idents; distinct = i.distinct } in
    let fit = numbers_length h.next n in
    let given = numbers_given h.next n (n + h.next) (omega arith) in
    let front = take at m in
    let rest = drop at m in
    let both : front ++ rest ≡ m = take-append-drop at m in
    let old : AreDistinct (marks front ++ marks rest) = subst AreDistinct (append_map (λ (e : Mark × ℕ). e.0) front rest) (subst (λ (k : Marked). AreDistinct (marks k)) (sym both) i.distinct) in
    let apart : AreDistinct (marks (put_in m at labels cs)) =
    subst AreDistinct (sym (three front (known labels cs) rest ∙ ap (λ ks. marks front ++ (ks ++ marks rest)) (known_marks labels cs fit)))
    (distinct_with (marks front) (map Known labels) (marks rest) old (numbers_distinct h.next n) (λ k p q.
    let r = number_from h.next n k p in
    let q2 : IsIn (Known r.0) (marks m) = subst (λ (z : Marked). IsIn (Known r.0) (marks z)) both (subst (λ (ks : List Mark). IsIn (Known r.0) ks) (sym (append_map (λ (e : Mark × ℕ). e.0) front rest)) (subst (λ (j : Mark). IsIn j (marks front ++ marks rest)) r.3 q)) in
    let less = marks_given h.next h.names h.seen.text r.0 i.given q2 in
    absurd (omega (arith, less, r.1)))) in
    let put = marked_put g at labels cs here fit w f in (
      put_labelled g at labels cs here fit given apart w f,
      record {
        given = (given, pieces_most h.next (n + h.next) ps more l.given);
        back = subst (λ (z : Marked). LeadBack z (Put labels ∷ ps) (text_over h.seen ∷ ts)) (sym put) (
          front,
          cs,
          rest,
          record { is = refl; fit = fit; some = some; distinct = apart },
          ap chars both ∙ chars_marked h.names h.seen.text,
          subst (λ (z : Marked). LeadBack z ps ts) (sym both) l.back,
        );
      },
    )
