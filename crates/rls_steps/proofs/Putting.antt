-- Characters that are put in at a replica, with labels.
use Rattle.std.proofs.Common.{◌≡◌, ℕ, List, [], ◌∷◌, ◌++◌, map, length, take, drop, inl, inr, refl, sym, ap, ◌∙◌, subst, arith}
use Rattle.std.specs.Prelude.{Bool, false, pos, zip, Option, Some, None, if◌then◌else◌}
use Rattle.rls_ident.specs.declared.tuple.Tuple.{Tuple}
use Rattle.rls_ident.specs.Identifiers.{ident_eq, shifted, IsIdent}
use Rattle.rls_ident.specs.Lists.{IsIn}
use Rattle.rls_ident.proofs.Ends.{eq_same, ident_eq_refl}
use Rattle.rls_ident.proofs.Lists.{Lt, lt_irrefl}
use Rattle.rls_ident.proofs.Members.{not_true}
use Rattle.rls_ident.proofs.Tuples.{tuples}
use Rattle.rls_runs.specs.Entries.{Entries}
use Rattle.rls_runs.specs.Runs.{run_idents}
use Rattle.rls_runs.proofs.Sorted.{Entry, Rises, rises_of_increasing}
use Rattle.rls_ops.specs.declared.op.Body.{Body}
use Rattle.rls_model.specs.declared.edit.Edit.TheVariants as edits
use Rattle.rls_model.specs.WellFormed.{IsEdit}
use Rattle.rls_model.proofs.Spliced.{entries, entries_rise, take_map, drop_map, append_map}
use Rattle.rls_seen.specs.Edits.{made_over, edit_fault_over, edited}
use Rattle.rls_seen.proofs.EditedText.{inserted_entries, run_ident, first_ident, first_made, insert_made, cross, rises_right}
use Rattle.rls_seen.proofs.Making.{edited_sane}
use Rattle.rls_steps.specs.Marks.{Mark, Known, Marked, marks, chars, known, Piece, Put, Cut, return_place, put_in}
use Rattle.rls_steps.specs.Back.{AreDistinct, AreGiven, LeadBack}
use Rattle.rls_steps.specs.Labelled.{Names, Labelled, label_of, mark_by, mark, marked_by, marked, IsLabelled, inserted_by, put_over}
use Rattle.rls_steps.specs.StepLaws.{CutTakenBack}
use Rattle.rls_steps.proofs.Backing.{cut_back}
use Rattle.rls_steps.proofs.Naming.{chars_marked}

-- ---- names before others

apart_eq : (x y : List Tuple) → (x ≡ y → ⊥) → ident_eq x y ≡ false
apart_eq x y h = not_true (ident_eq x y) (λ t. h (eq_same x y t))

-- none of them is this identifier's
label_skip : (ys : List (List Tuple)) (ls : List ℕ) (names : Names) (z : List Tuple) → ((y : List Tuple) → IsIn y ys → y ≡ z → ⊥) → label_of (zip ys ls ++ names) z ≡ label_of names z
label_skip [] ls names z h = refl
label_skip (y ∷ ys) [] names z h = refl
label_skip (y ∷ ys) (l ∷ ls) names z h =
    ap (λ (b : Bool). if b then Some l else label_of (zip ys ls ++ names) z) (apart_eq y z (h y (inl refl)))
    ∙ label_skip ys ls names z (λ w p. h w (inr p))

same_marked : (names more : Names) (es : Entries) → ((e : Entry) → IsIn e es → label_of more e.0 ≡ label_of names e.0) → marked_by more es ≡ marked_by names es
same_marked names more [] h = refl
same_marked names more (e ∷ es) h = let a = h e (inl refl) in let b = same_marked names more es (λ x p. h x (inr p)) in let c = ap (mark_by e.0) a in cc

-- the identifiers of a run
run_entry : (x : List Tuple) (cs : List ℕ) (y : List Tuple) → IsIn y (run_idents x (length cs)) → (e : Entry) × IsIn e (entries x cs) × (e.0 ≡ y)
run_entry x [] y p = absurd p
run_entry x (c ∷ cs) y (inl q) = ((x, c), inl refl, q)
run_entry x (c ∷ cs) y (inr p) = let r = run_entry (shifted (pos 1) x) cs y p in (r.0, inr r.1, r.2)

-- what is put in has its labels
known_entries : (x : List Tuple) (cs labels : List ℕ) (names : Names) → length labels ≡ length cs → Rises (entries x cs) → marked_by (zip (run_idents x (length cs)) labels ++ names) (entries x cs) ≡ known labels cs
known_entries x [] [] names h r = refl
known_entries x [] (l ∷ ls) names h r = absurd (omega (arith, h))
known_entries x (c ∷ cs) [] names h r = absurd (omega (arith, h))
known_entries x (c ∷ cs) (l ∷ ls) names h r =
    let es = entries (shifted (pos 1) x) cs in
    let rest = zip (run_idents (shifted (pos 1) x) (length cs)) ls ++ names in
    let here : mark ((x, l) ∷ rest) x ≡ Known l = ap (λ (b : Bool). mark_by x (if b then Some l else label_of rest x)) (ident_eq_refl x) in
    let more = same_marked rest ((x, l) ∷ rest) es (λ e p. ap (λ (b : Bool). if b then Some l else label_of rest e.0) (apart_eq x e.0 (λ q. lt_irrefl (subst (λ z. Lt tuples x z) (sym q) (cross ((x, c) ∷ []) es r (x, c) e (inl refl) p))))) in
    let ih = known_entries (shifted (pos 1) x) cs ls names (omega (arith, h)) r.1 in
    let both : marked_by ((x, l) ∷ rest) es ≡ known ls cs = more ∙ ih in
    let f : Mark × ℕ → Marked = λ e. e ∷ marked_by ((x, l) ∷ rest) es in
    ap (λ k. (k, c) ∷ marked_by ((x, l) ∷ rest) es) here ∙ ap (λ m. (Known l, c) ∷ m) both

pub marked_put : (h : Labelled) (at : ℕ) (labels cs : List ℕ) → IsLabelled h → length labels ≡ length cs → IsEdit (edits.Insert at cs) → edit_fault_over h.seen (edits.Insert at cs) ≡ None →
    marked (put_over h at labels cs) ≡ put_in (marked h) at labels cs
marked_put h at labels cs i fit w f =
    let s = h.seen in
    let x = first_made s at (length cs) in
    let ys = run_idents x (length cs) in
    let more = zip ys labels ++ h.names in
    let g : Entry → Mark × ℕ = λ e. (mark more e.0, e.1) in
    let old : Entry → Mark × ℕ = λ e. (mark h.names e.0, e.1) in
    let there = inserted_entries s at cs i.sane w f in
    let sane = edited_sane s (edits.Insert at cs) i.sane w f in
    let front = take at s.text in
    let mid = entries x cs in
    let rest = drop at s.text in
    let r : Rises (front ++ (mid ++ rest)) = subst Rises there (rises_of_increasing (edited s (edits.Insert at cs)).text sane.idents.1) in
    let r2 = rises_right front (mid ++ rest) r in
    let named : zip (inserted_by (made_over s (edits.Insert at cs)).body) labels ++ h.names ≡ more = ap (λ (b : Body). zip (inserted_by b) labels ++ h.names) (insert_made s at cs) in
    let old_front = same_marked h.names more front (λ e p. label_skip ys labels h.names e.0 (λ y q same.
    let k = run_entry x cs y q in
    lt_irrefl (subst (λ z. Lt tuples e.0 z) (k.2 ∙ same) (cross front (mid ++ rest) r e k.0 p (in_first k.0 mid rest k.1))))) in
    let old_rest = same_marked h.names more rest (λ e p. label_skip ys labels h.names e.0 (λ y q same.
    let k = run_entry x cs y q in
    lt_irrefl (subst (λ z. Lt tuples z e.0) (k.2 ∙ same) (cross mid rest r2 k.0 e k.1 p)))) in
    ap (λ (names : Names). marked_by names (edited s (edits.Insert at cs)).text) named
    ∙ (ap (marked_by more) there
    ∙ (append_map g front (mid ++ rest)
    ∙ (ap (λ z. z ++ marked_by more (mid ++ rest)) (old_front ∙ take_map old at s.text)
    ∙ ap (λ z. take at (marked h) ++ z) (append_map g mid rest
    ∙ (ap (λ z. z ++ marked_by more rest) (known_entries x cs labels h.names fit (entries_rise x cs (first_ident s at cs i.sane w f)))
    ∙ ap (λ z. known labels cs ++ z) (old_rest ∙ drop_map old at s.text))))))
  where
    in_first : (e : Entry) (xs ys : List Entry) → IsIn e xs → IsIn e (xs ++ ys)
    in_first e [] ys p = absurd p
    in_first e (x ∷ xs) ys (inl q) = inl q
    in_first e (x ∷ xs) ys (inr p) = inr (in_first e xs ys p)

given_zip : (next : ℕ) (ys : List (List Tuple)) (ls : List ℕ) (names : Names) → AreGiven next ls → AreGiven next (map (λ p. p.1) names) → AreGiven next (map (λ p. p.1) (zip ys ls ++ names))
given_zip next [] ls names g h = h
given_zip next (y ∷ ys) [] names g h = h
given_zip next (y ∷ ys) (l ∷ ls) names g h = (g.0, given_zip next ys ls names g.1 h)

idents_zip : (ys : List (List Tuple)) (ls : List ℕ) (names : Names) → ((x : List Tuple) → IsIn x ys → IsIdent x) → ((x : List Tuple) → IsIn x (map (λ p. p.0) names) → IsIdent x) → (x : List Tuple) → IsIn x (map (λ p. p.0) (zip ys ls ++ names)) → IsIdent x
idents_zip [] ls names g h x p = h x p
idents_zip (y ∷ ys) [] names g h x p = h x p
idents_zip (y ∷ ys) (l ∷ ls) names g h x (inl e) = g x (inl e)
idents_zip (y ∷ ys) (l ∷ ls) names g h x (inr p) = idents_zip ys ls names (λ z q. g z (inr q)) h x p

pub put_labelled : (h : Labelled) (at : ℕ) (labels cs : List ℕ) → IsLabelled h → length labels ≡ length cs → AreGiven h.next labels → AreDistinct (marks (put_in (marked h) at labels cs)) → IsEdit (edits.Insert at cs) → edit_fault_over h.seen (edits.Insert at cs) ≡ None →
    IsLabelled (put_over h at labels cs)
put_labelled h at labels cs i fit g d w f = record {
  sane = edited_sane h.seen (edits.Insert at cs) i.sane w f;
  given = given_zip h.next (inserted_by (made_over h.seen (edits.Insert at cs)).body) labels h.names g i.given;
  idents = idents_zip (inserted_by (made_over h.seen (edits.Insert at cs)).body) labels h.names (λ x p. run_ident (first_made h.seen at (length cs)) (length cs) (first_ident h.seen at cs i.sane w f) x (subst (λ (b : Body). IsIn x (inserted_by b)) (insert_made h.seen at cs) p)) i.idents;
  distinct = subst (λ (m : Marked). AreDistinct (marks m)) (sym (marked_put h at labels cs i fit w f)) d;
}

third : {A B C : Type 0} → A × B × C → C
third (a, b, c) = c

put_distinct : (m : Marked) (labels : List ℕ) (ps : List Piece) (t : List ℕ) (ts : List (List ℕ)) → LeadBack m (Put labels ∷ ps) (t ∷ ts) → AreDistinct (marks m)
put_distinct m labels ps t ts (front, cs, rest, put, same, back) = put.distinct

cut_fits : (m : Marked) (labels cs : List ℕ) (left right : Option ℕ) (ps : List Piece) (t : List ℕ) (ts : List (List ℕ)) → LeadBack m (Cut labels cs left right ∷ ps) (t ∷ ts) → length labels ≡ length cs
cut_fits m labels cs left right ps t ts (front, rest, cut, same, back) = cut.fit

pub cut_taken_back : CutTakenBack
cut_taken_back h labels cs left right gone ps qs t ts us i l k w f =
    let at = return_place (marks (marked h)) left right gone in
    let there = put_in (marked h) at labels cs in
    let b = cut_back (marked h) labels cs left right gone ps qs t ts us l.back k.back in
    let forth = third {A = chars there ≡ t} {B = LeadBack there ps ts} {C = LeadBack there (Put labels ∷ qs) (chars (marked h) ∷ us)} b in
    let fit = cut_fits (marked h) labels cs left right ps t ts l.back in
    let distinct = put_distinct there labels qs (chars (marked h)) us forth in
    let m = marked_put h at labels cs i fit w f in
    let n = put_over h at labels cs in (
      put_labelled h at labels cs i fit l.given.0 distinct w f,
      sym (chars_marked n.names n.seen.text) ∙ (ap chars m ∙ b.0),
      record { given = l.given.2; back = subst (λ (z : Marked). LeadBack z ps ts) (sym m) b.1 },
      record {
        given = (l.given.0, k.given);
        back = subst (λ (u : List ℕ). LeadBack (marked n) (Put labels ∷ qs) (u ∷ us)) (chars_marked h.names h.seen.text) (subst (λ (z : Marked). LeadBack z (Put labels ∷ qs) (chars (marked h) ∷ us)) (sym m) forth);
      },
    )
