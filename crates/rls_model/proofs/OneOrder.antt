-- A legal history orders all characters that were ever inserted there, and each history within it shows its own ones in this order.
use Rattle.std.proofs.Common.{◌≡◌, ℕ, zero, suc, Bool, true, false, List, [], ◌∷◌, ◌++◌, map, take, drop, refl, sym, ap, ◌∙◌, subst, inl, inr, ⊎_elim}
use Rattle.std.specs.Prelude.{◌↔◌, None, not, filter}
use Rattle.std.specs.Ordering.{is_lt, is_eq}
use Rattle.std.proofs.lemmas.Cmp.{lists_total, tied_itself}
use Rattle.rls_ident.specs.declared.tuple.Tuple.{Tuple}
use Rattle.rls_ident.specs.declared.epoch_name.EpochName.{EpochName}
use Rattle.rls_ident.specs.declared.epoch_name.EpochName.TheVariants.{Origin}
use Rattle.rls_ident.specs.Lists.{IsIn}
use Rattle.rls_ident.specs.Identifiers.{IsIdent, ident_lt, ident_eq}
use Rattle.rls_ident.proofs.Agreeing.{map_same}
use Rattle.rls_ident.proofs.Ends.{eq_same}
use Rattle.rls_ident.proofs.Lists.{lt_irrefl, lt_trans, tri}
use Rattle.rls_ident.proofs.Members.{all_in, any_in, in_all, in_any, in_drop, in_filter, filter_in, in_left, in_map, in_right, in_split, in_take, map_in, not_is, not_true, take_or_drop, true_false}
use Rattle.rls_ident.proofs.Tuples.{tuples, tuple_total, lt_of, of_lt}
use Rattle.rls_rename.specs.Tree.{is_kept}
use Rattle.rls_ops.specs.declared.op.Op.{Op}
use Rattle.rls_model.specs.declared.edit.Edit.{Edit}
use Rattle.rls_model.specs.declared.edit.Edit.TheVariants as edits
use Rattle.rls_model.specs.History.{Accepted, History, Then, ops}
use Rattle.rls_model.specs.Epochs.{epochs, greatest, translate}
use Rattle.rls_model.specs.Document.{Character, chars, chars_of, targets_of, ident_in, has_ident, live, export, idents, text}
use Rattle.rls_model.specs.WellFormed.{IsEdit}
use Rattle.rls_model.specs.Legal.{IsLegal}
use Rattle.rls_model.specs.Editing.{made, edit_fault}
use Rattle.rls_model.specs.Laws.{edited, IsTotalOrder, AreInOrder, Shows, list_after, list_deleted, IsNamedBy, IsPartOf, precedes, OneOrder}
use Rattle.rls_runs.proofs.Sorted.{Entry, IsBelow, Rises, above_at, same_rising}
use Rattle.rls_model.proofs.OneTree.{history_ident, history_translate, history_order}
use Rattle.rls_model.proofs.Distinct.{known}
use Rattle.rls_model.proofs.SameOps.{op_kept, same_chars, same_ident, entry_of, live_char, top_kept, export_rises, in_export, export_in}
use Rattle.rls_model.proofs.Named.{one_ident}
use Rattle.rls_model.proofs.Made as making
use Rattle.rls_model.proofs.Spliced.{entries, above_of, take_map, drop_map, append_map}
use Rattle.rls_model.proofs.Insertion.{born, born_entries, entry_old, entry_new, live_old, live_new, Inserts, made_first, made_export}
use Rattle.rls_model.proofs.RenamedRun.{live_back, live_stays}
use Rattle.rls_model.proofs.TextSteps.{live_delete, leave_live}

-- ---- lists in order

map_map : {A B C : Type 0} (f : B → C) (g : A → B) (xs : List A) → map (λ x. f (g x)) xs ≡ map f (map g xs)
map_map f g [] = refl
map_map f g (x ∷ xs) = ap (λ ys. f (g x) ∷ ys) (map_map f g xs)

-- nothing stands both before and after a place
apart_at : (lt : Character → Character → Bool) → ((c : Character) → lt c c ≡ false) → (n : ℕ) (cs : List Character) → AreInOrder lt cs → (c : Character) → IsIn c (take n cs) → IsIn c (drop n cs) → ⊥
apart_at lt f zero cs h c p q = absurd p
apart_at lt f (suc n) [] h c p q = absurd p
apart_at lt f (suc n) (x ∷ xs) h c (inl e) q = true_false (lt c c) (subst (λ (y : Character). lt y c ≡ true) e (in_all (λ d. lt x d) c xs h.0 (in_drop n c xs q))) (f c)
apart_at lt f (suc n) (x ∷ xs) h c (inr p) q = apart_at lt f n xs h.1 c p q

order_drop : (lt : Character → Character → Bool) (n : ℕ) (cs : List Character) → AreInOrder lt cs → AreInOrder lt (drop n cs)
order_drop lt zero cs h = h
order_drop lt (suc n) [] h = tt
order_drop lt (suc n) (x ∷ xs) h = order_drop lt n xs h.1

-- where a part is taken out the rest stays in order
order_cut : (lt : Character → Character → Bool) (at n : ℕ) (cs : List Character) → AreInOrder lt cs → AreInOrder lt (take at cs ++ drop n (drop at cs))
order_cut lt zero n cs h = order_drop lt n cs h
order_cut lt (suc at) n [] h = order_drop lt n [] h
order_cut lt (suc at) n (x ∷ xs) h =
    let t : Character → Bool = λ d. lt x d in (
      all_in t (take at xs ++ drop n (drop at xs))
          (λ y p. ⊎_elim (λ q. in_all t y xs h.0 (in_take at y xs q)) (λ q. in_all t y xs h.0 (in_drop at y xs (in_drop n y (drop at xs) q))) (in_split y (take at xs) (drop n (drop at xs)) p)),
      order_cut lt at n xs h.1,
    )

-- ---- the order

irreflexive : (M : History) (c : Character) → precedes M c c ≡ false
irreflexive M c = not_true (precedes M c c) (λ h. lt_irrefl (lt_of (ident_in M Origin c) (ident_in M Origin c) h))

total : (M : History) → IsLegal M → IsTotalOrder (precedes M) (λ c. IsIn c (chars M))
total M m = (
  irreflexive M,
  λ c d e h k. of_lt (ident_in M Origin c) (ident_in M Origin e) (lt_trans (lt_of (ident_in M Origin c) (ident_in M Origin d) h) (lt_of (ident_in M Origin d) (ident_in M Origin e) k)),
  λ c d p q. ⊎_elim (λ l. inr (inl (of_lt (ident_in M Origin c) (ident_in M Origin d) l)))
      (λ r. ⊎_elim (λ e. inl (one_ident M m c d p q Origin refl e)) (λ l. inr (inr (of_lt (ident_in M Origin d) (ident_in M Origin c) l))) r)
      (tri tuples (ident_in M Origin c) (ident_in M Origin d)),
)

-- ---- what a cut leaves

in_cut : (at n : ℕ) (cs : List Character) (c : Character) → IsIn c (take at cs ++ drop n (drop at cs)) → IsIn c cs
in_cut at n cs c p = ⊎_elim (λ q. in_take at c cs q) (λ q. in_drop at c cs (in_drop n c (drop at cs) q)) (in_split c (take at cs) (drop n (drop at cs)) p)

apart_cut : (lt : Character → Character → Bool) → ((c : Character) → lt c c ≡ false) → (at n : ℕ) (cs : List Character) → AreInOrder lt cs → (c : Character) → IsIn c (take at cs ++ drop n (drop at cs)) → IsIn c (take n (drop at cs)) → ⊥
apart_cut lt f at n cs h c p q =
    ⊎_elim (λ t. apart_at lt f at cs h c t (in_take n c (drop at cs) q)) (λ t. apart_at lt f n (drop at cs) (order_drop lt at cs h) c q t) (in_split c (take at cs) (drop n (drop at cs)) p)

-- ---- a history within another

module _ (M K : History) (m : IsLegal M) (k : IsLegal K) (s : IsPartOf K M) where
  there : (c : Character) → IsIn c (chars K) → IsIn c (chars M)
  there c p = same_chars K M s c p

  same : (c : Character) → IsIn c (chars K) → (e : EpochName) → is_kept Origin (epochs K) e ≡ true → ident_in K e c ≡ ident_in M e c
  same c p e q = same_ident K M k m s c p e q

  same_order : (c d : Character) → IsIn c (chars K) → IsIn d (chars K) → precedes K c d ≡ precedes M c d
  same_order c d p q = ap (λ x. ident_lt x (ident_in K Origin d)) (same c p Origin refl) ∙ ap (λ x. ident_lt (ident_in M Origin c) x) (same d q Origin refl)

  at_origin : (c : Character) → IsIn c (chars K) → ident_in M Origin c ≡ translate M (greatest K) Origin (ident_in K (greatest K) c)
  at_origin c p =
      sym (history_translate M c.epoch (greatest K) Origin c.ident m (known M m c (there c p)).0) ∙ ap (translate M (greatest K) Origin) (sym (same c p (greatest K) (top_kept K)))

  good : (c : Character) → IsIn c (chars K) → IsIdent (ident_in K (greatest K) c)
  good c p = history_ident K c.epoch (greatest K) c.ident k (known K k c p).0

  order_is : (c d : Character) → IsIn c (chars K) → IsIn d (chars K) → precedes M c d ≡ ident_lt (ident_in K (greatest K) c) (ident_in K (greatest K) d)
  order_is c d p q =
      let x = ident_in K (greatest K) c in
      let y = ident_in K (greatest K) d in
      ap (λ z. ident_lt z (ident_in M Origin d)) (at_origin c p)
      ∙ (ap (λ z. ident_lt (translate M (greatest K) Origin x) z) (at_origin d q) ∙ ap is_lt (history_order M (greatest K) Origin x y m (good c p) (good d q)))

  ordered : (cs : List Character) → ((c : Character) → IsIn c cs → IsIn c (chars K)) → Rises (map (entry_of K) cs) → AreInOrder (precedes M) cs
  ordered [] f r = tt
  ordered (c ∷ cs) f r = (
    all_in (λ d. precedes M c d) cs
        (λ d p. order_is c d (f c (inl refl)) (f d (inr p)) ∙ of_lt (ident_in K (greatest K) c) (ident_in K (greatest K) d) (above_at (entry_of K c) (entry_of K d) (map (entry_of K) cs) r.0 (map_in (entry_of K) d cs p))),
    ordered cs (λ d p. f d (inr p)) r.1,
  )

  rising : (cs : List Character) → ((c : Character) → IsIn c cs → IsIn c (chars K)) → AreInOrder (precedes M) cs → Rises (map (entry_of K) cs)
  rising [] f r = tt
  rising (c ∷ cs) f r = (
    above_of (entry_of K c) (map (entry_of K) cs)
        (λ y p. let q = in_map (entry_of K) y cs p in
        subst (λ (z : Entry). IsBelow (entry_of K c) z) q.2
        (lt_of (ident_in K (greatest K) c) (ident_in K (greatest K) q.0) (sym (order_is c q.0 (f c (inl refl)) (f q.0 (inr q.1))) ∙ in_all (λ d. precedes M c d) q.0 cs r.0 q.1))),
    rising cs (λ d p. f d (inr p)) r.1,
  )

  -- characters that make the export are shown
  shows_of : (cs : List Character) → map (entry_of K) cs ≡ export K → ((c : Character) → IsIn c cs → IsIn c (live K)) → Shows (precedes M) K cs
  unfolding text idents
  shows_of cs e f = (
    λ c. (
      f c,
      λ p. let q = in_map (entry_of K) (entry_of K c) cs (subst (IsIn (entry_of K c)) (sym e) (export_in K c p)) in
          subst (λ (d : Character). IsIn d cs) (one_ident K k q.0 c (live_char K q.0 (f q.0 q.1)) (live_char K c p) (greatest K) (top_kept K) (ap (λ (y : Entry). y.0) q.2)) q.1,
    ),
    ordered cs (λ c p. live_char K c (f c p)) (subst Rises (sym e) (export_rises K k)),
    map_map (λ (y : Entry). y.1) (entry_of K) cs ∙ ap (map (λ (y : Entry). y.1)) e,
    map_map (λ (y : Entry). y.0) (entry_of K) cs ∙ ap (map (λ (y : Entry). y.0)) e,
  )

  -- the live characters in order make the export
  entries_of : (cs : List Character) → ((c : Character) → IsIn c cs ↔ IsIn c (live K)) → AreInOrder (precedes M) cs → map (entry_of K) cs ≡ export K
  entries_of cs f r =
      same_rising (map (entry_of K) cs) (export K) (rising cs (λ c p. live_char K c ((f c).0 p)) r) (export_rises K k)
      (λ z p. let q = in_map (entry_of K) z cs p in subst (λ (y : Entry). IsIn y (export K)) q.2 (export_in K q.0 ((f q.0).0 q.1)))
      (λ z p. let q = in_export K z p in subst (λ (y : Entry). IsIn y (map (entry_of K) cs)) q.2 (map_in (entry_of K) q.0 cs ((f q.0).1 q.1)))

  live_shows : (cs : List Character) → ((c : Character) → IsIn c cs ↔ IsIn c (live K)) → AreInOrder (precedes M) cs → Shows (precedes M) K cs
  live_shows cs f r = shows_of cs (entries_of cs f r) (λ c p. (f c).0 p)

  -- there is one such list
  picked : (ys : List Entry) → ((y : Entry) → IsIn y ys → IsIn y (export K)) → (cs : List Character) × (map (entry_of K) cs ≡ ys) × ((c : Character) → IsIn c cs → IsIn c (live K))
  picked [] f = ([], refl, λ c p. absurd p)
  picked (y ∷ ys) f =
      let r = in_export K y (f y (inl refl)) in
      let q = picked ys (λ z p. f z (inr p)) in (
        r.0 ∷ q.0,
        ap (λ z. z ∷ map (entry_of K) q.0) r.2 ∙ ap (λ zs. y ∷ zs) q.1,
        λ c p. ⊎_elim (λ e. subst (λ (d : Character). IsIn d (live K)) e r.1) (λ u. q.2 c u) p,
      )

  one_list : (cs ds : List Character) → ((c : Character) → IsIn c cs → IsIn c (chars K)) → ((c : Character) → IsIn c ds → IsIn c (chars K)) → map (entry_of K) cs ≡ map (entry_of K) ds → cs ≡ ds
  one_list [] [] f g e = refl
  one_list [] (d ∷ ds) f g e = absurd (cc)
  one_list (c ∷ cs) [] f g e = absurd (cc)
  one_list (c ∷ cs) (d ∷ ds) f g e =
      let h : entry_of K c ≡ entry_of K d = cc in
      let t : map (entry_of K) cs ≡ map (entry_of K) ds = cc in
      ap (λ x. x ∷ cs) (one_ident K k c d (f c (inl refl)) (g d (inl refl)) (greatest K) (top_kept K) (ap (λ (y : Entry). y.0) h))
      ∙ ap (λ xs. d ∷ xs) (one_list cs ds (λ x p. f x (inr p)) (λ x p. g x (inr p)) t)

  shown : (cs : List Character) × Shows (precedes M) K cs × ((ds : List Character) → Shows (precedes M) K ds → ds ≡ cs)
  shown =
      let r = picked (export K) (λ y p. p) in (
        r.0,
        shows_of r.0 r.1 r.2,
        λ ds h. one_list ds r.0 (λ c p. live_char K c ((h.0 c).0 p)) (λ c p. live_char K c (r.2 c p)) (entries_of ds h.0 h.1 ∙ sym r.1),
      )

-- ---- edits

made_part : (H : History) (edit : Edit) (M : History) → IsPartOf (edited H edit) M → IsPartOf H M
made_part H edit M f o p = f o (in_left o (ops H) (made H edit ∷ []) p)

module _ (M H : History) (m : IsLegal M) (l : IsLegal H) where
  -- where nothing lives that didn't, and all that did
  same_shows : (o : Op) → IsLegal (Then H (Accepted o)) → IsPartOf (Then H (Accepted o)) M → (cs : List Character) → Shows (precedes M) H cs →
      ((c : Character) → IsIn c (live H) → IsIn c (live (Then H (Accepted o)))) → ((c : Character) → IsIn c (live (Then H (Accepted o))) → IsIn c (live H)) → Shows (precedes M) (Then H (Accepted o)) cs
  same_shows o k s cs h f g = live_shows M (Then H (Accepted o)) m k s cs (λ c. (λ p. f c ((h.0 c).0 p), λ p. (h.0 c).1 (g c p))) h.1

  insert_shows : (at : ℕ) (tx : List ℕ) (cs : List Character) → IsEdit (edits.Insert at tx) → edit_fault H (edits.Insert at tx) ≡ None → IsPartOf (edited H (edits.Insert at tx)) M → Shows (precedes M) H cs →
      Shows (precedes M) (edited H (edits.Insert at tx)) (list_after H (edits.Insert at tx) cs)
  unfolding made
  insert_shows at tx cs i f s h =
      let edit = edits.Insert at tx in
      let o = made H edit in
      let K = edited H edit in
      let k = making.law H edit l i f in
      let x = made_first H at tx in
      let j : Inserts H o x tx = record { legal = k; body = refl; here = refl } in
      let new = chars_of o o.body in
      let old : (ds : List Character) → map (entry_of K) ds ≡ map (entry_of H) ds = λ ds. map_same (entry_of K) (entry_of H) ds (λ c p. entry_old H o x tx refl c) in
      let fresh : map (entry_of K) new ≡ entries x tx = map_same (entry_of K) born new (λ c p. entry_new H o x tx j c p) ∙ born_entries o 0 x tx in
      let all : map (entry_of H) cs ≡ export H = entries_of M H m l (made_part H edit M s) cs h.0 h.1 in
      let front : map (entry_of K) (take at cs) ≡ take at (export H) = old (take at cs) ∙ (take_map (entry_of H) at cs ∙ ap (take at) all) in
      let rest : map (entry_of K) (drop at cs) ≡ drop at (export H) = old (drop at cs) ∙ (drop_map (entry_of H) at cs ∙ ap (drop at) all) in
      shows_of M K m k s (take at cs ++ (new ++ drop at cs))
      (append_map (entry_of K) (take at cs) (new ++ drop at cs)
      ∙ (ap (λ ys. ys ++ map (entry_of K) (new ++ drop at cs)) front
      ∙ (ap (λ ys. take at (export H) ++ ys) (append_map (entry_of K) new (drop at cs) ∙ (ap (λ ys. ys ++ map (entry_of K) (drop at cs)) fresh ∙ ap (λ ys. entries x tx ++ ys) rest))
      ∙ sym (made_export H at tx l i f))))
      (λ c p. ⊎_elim (λ q. live_old H o x tx refl c ((h.0 c).0 (in_take at c cs q)))
      (λ q. ⊎_elim (λ t. live_new H o x tx j c t) (λ t. live_old H o x tx refl c ((h.0 c).0 (in_drop at c cs t))) (in_split c new (drop at cs) q)) (in_split c (take at cs) (new ++ drop at cs) p))

  -- the targets of a deletion are the identifiers of the characters of its range
  targets_are : (at n : ℕ) (cs : List Character) → Shows (precedes M) H cs → targets_of (made H (edits.Delete at n)).body ≡ map (λ c. ident_in H (greatest H) c) (take n (drop at cs))
  unfolding made
  targets_are at n cs h =
      let f : Character → List Tuple = λ c. ident_in H (greatest H) c in
      ap (λ xs. take n (drop at xs)) (sym h.3) ∙ (ap (take n) (sym (drop_map f at cs)) ∙ sym (take_map f n (drop at cs)))

  shown_char : (cs : List Character) → Shows (precedes M) H cs → (c : Character) → IsIn c cs → IsIn c (chars H)
  shown_char cs h c p = live_char H c ((h.0 c).0 p)

  -- so what is named in the greatest epoch is one of the range
  has_is : (at n : ℕ) (cs : List Character) → Shows (precedes M) H cs → (c : Character) → IsIn c (chars H) →
      has_ident (targets_of (made H (edits.Delete at n)).body) (ident_in H (greatest H) c) ≡ true → IsIn c (take n (drop at cs))
  has_is at n cs h c p e =
      let f : Character → List Tuple = λ c. ident_in H (greatest H) c in
      let x = f c in
      let mid = take n (drop at cs) in
      let r = in_any (λ y. ident_eq y x) (map f mid) (ap (λ xs. has_ident xs x) (sym (targets_are at n cs h)) ∙ e) in
      let q = in_map f r.0 mid r.1 in
      let t : f q.0 ≡ f c = q.2 ∙ eq_same r.0 x r.2 in
      subst (λ (d : Character). IsIn d mid) (one_ident H l q.0 c (shown_char cs h q.0 (in_drop at q.0 cs (in_take n q.0 (drop at cs) q.1))) p (greatest H) (top_kept H) t) q.1

  is_has : (at n : ℕ) (cs : List Character) → Shows (precedes M) H cs → (c : Character) → IsIn c (take n (drop at cs)) → has_ident (targets_of (made H (edits.Delete at n)).body) (ident_in H (greatest H) c) ≡ true
  is_has at n cs h c p =
      let f : Character → List Tuple = λ c. ident_in H (greatest H) c in
      let x = f c in
      let mid = take n (drop at cs) in
      ap (λ xs. has_ident xs x) (targets_are at n cs h) ∙ any_in (λ y. ident_eq y x) x (map f mid) (map_in f c mid p) (ap is_eq (tied_itself (lists_total tuple_total) x))

  live_after : (at n : ℕ) → live (edited H (edits.Delete at n)) ≡ filter (λ c. not (has_ident (targets_of (made H (edits.Delete at n)).body) (ident_in H (greatest H) c))) (live H)
  unfolding made
  live_after at n = live_delete H (made H (edits.Delete at n)) (take n (drop at (idents H))) refl

  delete_shows : (at n : ℕ) (cs : List Character) → IsEdit (edits.Delete at n) → edit_fault H (edits.Delete at n) ≡ None → IsPartOf (edited H (edits.Delete at n)) M → Shows (precedes M) H cs →
      Shows (precedes M) (edited H (edits.Delete at n)) (list_after H (edits.Delete at n) cs)
  delete_shows at n cs i f s h =
      let edit = edits.Delete at n in
      let o = made H edit in
      let K = edited H edit in
      let k = making.law H edit l i f in
      let named : Character → Bool = λ c. has_ident (targets_of o.body) (ident_in H (greatest H) c) in
      let left : live K ≡ filter (λ c. not (named c)) (live H) = live_after at n in
      let back = drop n (drop at cs) in
      live_shows M K m k s (take at cs ++ back)
      (λ c. (
        λ p. let q = (h.0 c).0 (in_cut at n cs c p) in
            subst (λ (xs : List Character). IsIn c xs) (sym left)
            (filter_in (λ c. not (named c)) c (live H) q (ap not (not_true (named c) (λ e. apart_cut (precedes M) (irreflexive M) at n cs h.1 c p (has_is at n cs h c (live_char H c q) e))))),
        λ p. let r = in_filter (λ c. not (named c)) c (live H) (subst (λ (xs : List Character). IsIn c xs) left p) in
            let q = (h.0 c).1 r.0 in
            ⊎_elim (λ t. in_left c (take at cs) back t)
            (λ t. ⊎_elim (λ u. absurd (true_false (named c) (is_has at n cs h c u) (not_is (named c) r.1))) (λ u. in_right c (take at cs) back u) (take_or_drop n c (drop at cs) t)) (take_or_drop at c cs q),
      ))
      (order_cut (precedes M) at n cs h.1)

  edit_shows : (edit : Edit) (cs : List Character) → IsEdit edit → edit_fault H edit ≡ None → IsPartOf (edited H edit) M → Shows (precedes M) H cs → Shows (precedes M) (edited H edit) (list_after H edit cs)
  unfolding made
  edit_shows (edits.Insert at tx) cs i f s h = insert_shows at tx cs i f s h
  edit_shows (edits.Delete at n) cs i f s h = delete_shows at n cs i f s h
  edit_shows edits.Rename cs i f s h =
      let o = made H edits.Rename in
      let k = making.law H edits.Rename l i f in
      same_shows o k s cs h (λ c p. live_stays H o (idents H) k refl c p) (λ c p. live_back H o (idents H) k refl c p)
  edit_shows edits.Leave cs i f s h =
      let o = made H edits.Leave in
      let e = leave_live H o refl in
      same_shows o (making.law H edits.Leave l i f) s cs h (λ c p. subst (λ (xs : List Character). IsIn c xs) (sym e) p) (λ c p. subst (λ (xs : List Character). IsIn c xs) e p)

  -- ---- what a deletion names, wherever it was accepted

  deletion : (K : History) → IsPartOf H M → IsLegal K → IsPartOf K M → (at n : ℕ) (cs : List Character) → Shows (precedes M) H cs → IsIn (made H (edits.Delete at n)) (ops K) → (c : Character) → IsIn c (chars K) →
      IsNamedBy K (made H (edits.Delete at n)) c ↔ IsIn c (take n (drop at cs))
  unfolding made
  deletion K s k t at n cs h p c q = (
    λ e. let r = in_any (λ y. ident_eq y (ident_in K g c)) (map f mid) (ap (λ xs. has_ident xs (ident_in K g c)) (sym (targets_are at n cs h)) ∙ e) in
        let u = in_map f r.0 mid r.1 in
        let v = shown_char cs h u.0 (in_drop at u.0 cs (in_take n u.0 (drop at cs) u.1)) in
        let w : ident_in M g u.0 ≡ ident_in M g c = sym (same M H m l s u.0 v g (top_kept H)) ∙ (u.2 ∙ (eq_same r.0 (ident_in K g c) r.2 ∙ same M K m k t c q g kept)) in
        subst (λ (d : Character). IsIn d mid) (one_ident M m u.0 c (there M H m l s u.0 v) (there M K m k t c q) g kept_all w) u.1,
    λ u. let v = shown_char cs h c (in_drop at c cs (in_take n c (drop at cs) u)) in
        let w : ident_in H g c ≡ ident_in K g c = same M H m l s c v g (top_kept H) ∙ sym (same M K m k t c q g kept) in
        ap (has_ident (targets_of (made H (edits.Delete at n)).body)) (sym w) ∙ is_has at n cs h c u,
  )
    where
      g : EpochName
      g = greatest H

      f : Character → List Tuple
      f c = ident_in H g c

      mid : List Character
      mid = take n (drop at cs)

      kept : is_kept Origin (epochs K) g ≡ true
      kept = op_kept K k (made H (edits.Delete at n)) p

      kept_all : is_kept Origin (epochs M) g ≡ true
      kept_all = op_kept M m (made H (edits.Delete at n)) (t (made H (edits.Delete at n)) p)

  none_named : (K : History) (d : Op) (c : Character) → targets_of d.body ≡ [] → IsNamedBy K d c → ⊥
  none_named K d c e h = let x = ap (λ xs. has_ident xs (ident_in K d.epoch c)) (sym e) ∙ h in absurd (cc)

  names_asked : (K : History) (edit : Edit) → IsPartOf H M → IsLegal K → IsPartOf K M → (cs : List Character) → Shows (precedes M) H cs → IsIn (made H edit) (ops K) → (c : Character) → IsIn c (chars K) →
      IsNamedBy K (made H edit) c ↔ IsIn c (list_deleted edit cs)
  unfolding made
  names_asked K (edits.Insert at tx) s k t cs h p c q = (λ e. absurd (none_named K (made H (edits.Insert at tx)) c refl e), λ u. absurd u)
  names_asked K (edits.Delete at n) s k t cs h p c q = deletion K s k t at n cs h p c q
  names_asked K edits.Rename s k t cs h p c q = (λ e. absurd (none_named K (made H edits.Rename) c refl e), λ u. absurd u)
  names_asked K edits.Leave s k t cs h p c q = (λ e. absurd (none_named K (made H edits.Leave) c refl e), λ u. absurd u)

pub law : OneOrder
law M m = (
  total M m,
  λ H c d l s p q. same_order M H m l s c d p q,
  λ H l s. shown M H m l s,
  λ H edit cs l i f s h. edit_shows M H m l edit cs i f s h,
  λ H K edit cs c l s k t h p q. names_asked M H m l K edit s k t cs h p c q,
)
