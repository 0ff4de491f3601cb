-- What a member made after the front P of its history is refused by no other member that has its causes.
use Rattle.std.proofs.Common.{◌≡◌, ℕ, ◌+◌, ◌≤◌, ◌<◌, Bool, true, false, List, [], ◌∷◌, length, refl, sym, ap, ◌∙◌, subst, arith, inl, inr, ⊎_elim, nat_le}
use Rattle.std.specs.Prelude.{if◌then◌else◌, not, ◌&&◌, ◌||◌, ◌==◌, slice_index, Option, Some, None, drop}
use Rattle.std.specs.List.{list_any}
use Rattle.std.specs.Ordering.{is_eq}
use Rattle.std.proofs.lemmas.Cmp.{lists_total, tied_itself}
use Rattle.rls_ident.specs.declared.tuple.Tuple.{Tuple}
use Rattle.rls_ident.specs.declared.epoch_name.EpochName.{EpochName}
use Rattle.rls_ident.specs.declared.epoch_name.EpochName.TheVariants.{Origin, Of}
use Rattle.rls_ident.specs.Lists.{IsIn, AreIn}
use Rattle.rls_ident.specs.EpochNames.{name_eq, is_within}
use Rattle.rls_ident.specs.Identifiers.{ident_eq, last_of}
use Rattle.rls_ident.specs.Tuples.{replica_of, seq_of, offset_of}
use Rattle.rls_ident.specs.Vectors.{at_most}
use Rattle.rls_ident.proofs.Tuples.{tuple_total}
use Rattle.rls_ident.proofs.Members.{any_in, bool_cases, eq_is, filter_in, in_any, in_drop, in_filter, in_left, in_map, in_right, in_take, le_is, le_test, not_is, not_le_is, not_le_test, not_true, or_left, or_right, snoc_split, true_false}
use Rattle.rls_ident.proofs.Vectors.{at_most_trans, index_le}
use Rattle.rls_ident.proofs.Ends.{eq_same}
use Rattle.rls_rename.specs.Tree.{Node, is_kept, has_node, names, name_of}
use Rattle.rls_rename.specs.Tree as tree
use Rattle.rls_rename.proofs.Paths.{name_eq_refl}
use Rattle.rls_rename.proofs.SameNodes.{translate_within}
use Rattle.rls_ops.specs.declared.op.Op.{Op}
use Rattle.rls_ops.specs.declared.op.Body.{Body}
use Rattle.rls_ops.specs.declared.op.Body.TheVariants.{Insert, Delete, Rename, Leave}
use Rattle.rls_model.specs.declared.edit.Edit.{Edit}
use Rattle.rls_model.specs.declared.edit.Edit.TheVariants as edits
use Rattle.rls_model.specs.declared.parts.Stem.{Stem}
use Rattle.rls_model.specs.Answers as answers
use Rattle.rls_model.specs.Answers.{Backward, WrongEpoch, WrongStem, UnknownTarget}
use Rattle.rls_model.specs.History.{Accepted, Acknowledged, History, Then, ops, count, count_of, me_of, members_of, has_left, row}
use Rattle.rls_model.specs.History as history
use Rattle.rls_model.specs.Stability.{is_covered, stable, unstable}
use Rattle.rls_model.specs.Stems.{stems, stem_of, due_of, due_offset, is_due, ends_at_low, may_use}
use Rattle.rls_model.specs.Epochs.{epochs, nodes_after, greatest, greatest_within, translate}
use Rattle.rls_model.specs.Document.{Character, chars, targets_of, ident_in, has_ident, is_named, live, export, idents}
use Rattle.rls_model.specs.Fitting.{is_known, first_unknown, body_refusal, refusal}
use Rattle.rls_model.specs.Legal.{IsLegal}
use Rattle.rls_model.specs.Editing.{made}
use Rattle.rls_model.specs.Laws.{ops_of, MayBegin}
use Rattle.rls_model.proofs.OneTree.{nodes, parents, epoch_kept, fits_epoch, author_below, named_le, history_translate}
use Rattle.rls_model.proofs.Stable.{stable_row}
use Rattle.rls_model.proofs.Fresh.{own_stems, may_begin}
use Rattle.rls_model.proofs.Distinct.{known}
use Rattle.rls_model.proofs.SameOps.{op_kept, same_epochs, in_chars, chars_in, in_export}
use Rattle.rls_model.proofs.Made.{own_epoch, fit_chain}
use Rattle.rls_model.proofs.HistoryNumbers.{number_counted, with_number, ops_from, same_from, fits_left, own_context, leave_of, left_by}
use Rattle.rls_model.proofs.TreesWithin.{in_names, greatest_part}

-- the operation's targets are identifiers of characters that live in P
abbrev pub AreLiving : History → Op → Type 0
AreLiving P o = (x : List Tuple) → IsIn x (targets_of o.body) → (c : Character) × IsIn c (live P) × (ident_in P o.epoch c ≡ x)

-- an identifier of the text is a live character's
text_lives : (H : History) (x : List Tuple) → IsIn x (idents H) → (c : Character) × IsIn c (live H) × (ident_in H (greatest H) c ≡ x)
unfolding idents
text_lives H x p =
    let r = in_map (λ (y : List Tuple × ℕ). y.0) x (export H) p in
    let q = in_export H r.0 r.1 in
    (q.0, q.1, ap (λ (y : List Tuple × ℕ). y.0) q.2 ∙ r.2)

-- what an edit deletes lives
pub made_living : (H : History) (edit : Edit) → AreLiving H (made H edit)
unfolding made
made_living H (edits.Insert at text) x p = absurd p
made_living H (edits.Delete at n) x p = text_lives H x (in_drop at x (idents H) (in_take n x (drop at (idents H)) p))
made_living H edits.Rename x p = absurd p
made_living H edits.Leave x p = absurd p

-- an operation that its author made after P and that a member with history H, which has its causes, hasn't accepted
pub record Arrives (H P : History) (o : Op) : Type 0 where
  pub here : IsLegal H
  pub home : IsLegal (Then P (Accepted o))
  pub own : o.author ≡ me_of P
  pub members : members_of P ≡ members_of H
  pub one : (x y : Op) → IsIn x (ops H) → IsIn y (ops P) → x.author ≡ y.author → x.seq ≡ y.seq → x ≡ y
  pub next : count_of H o.author < o.seq
  pub causes : at_most o.context (count H) ≡ true
  pub row : at_most (row H o.author) (count P) ≡ true
  pub living : AreLiving P o

-- ---- nodes and their renames

node_op : (G : History) (n : Node) → IsIn n (epochs G) → (u : Op) × (xs : List (List Tuple)) × IsIn u (ops G) × (u.body ≡ Rename xs) × (Of u.author u.seq ≡ name_of n.renaming)
node_op (history.Fresh group me members) n p = absurd p
node_op (Then G (Acknowledged b v)) n p = node_op G n p
node_op (Then G (Accepted w)) n p = go w.body refl p (λ q. node_op G n q)
  where
    old : (u : Op) × (xs : List (List Tuple)) × IsIn u (ops G) × (u.body ≡ Rename xs) × (Of u.author u.seq ≡ name_of n.renaming) →
        (u : Op) × (xs : List (List Tuple)) × IsIn u (ops (Then G (Accepted w))) × (u.body ≡ Rename xs) × (Of u.author u.seq ≡ name_of n.renaming)
    old r = (r.0, r.1, in_left r.0 (ops G) (w ∷ []) r.2, r.3, r.4)

    go : (b : Body) → w.body ≡ b → IsIn n (nodes_after (epochs G) w b) → (IsIn n (epochs G) → (u : Op) × (xs : List (List Tuple)) × IsIn u (ops G) × (u.body ≡ Rename xs) × (Of u.author u.seq ≡ name_of n.renaming)) →
        (u : Op) × (xs : List (List Tuple)) × IsIn u (ops (Then G (Accepted w))) × (u.body ≡ Rename xs) × (Of u.author u.seq ≡ name_of n.renaming)
    go (Insert first text) e q ih = old (ih q)
    go (Delete targets) e q ih = old (ih q)
    go (Rename xs) e (inl f) ih = (w, xs, in_right w (ops G) (w ∷ []) (inl refl), e, ap (λ (m : Node). name_of m.renaming) f)
    go (Rename xs) e (inr q) ih = old (ih q)
    go Leave e q ih = old (ih q)

op_node : (G : History) (u : Op) (xs : List (List Tuple)) → IsIn u (ops G) → u.body ≡ Rename xs → has_node (epochs G) (Of u.author u.seq) ≡ true
op_node (history.Fresh group me members) u xs p e = absurd p
op_node (Then G (Acknowledged b v)) u xs p e = op_node G u xs p e
op_node (Then G (Accepted w)) u xs p e = ⊎_elim (λ q. old w.body (op_node G u xs q e)) (λ q. new w.body (ap (λ (z : Op). z.body) q ∙ e) q) (snoc_split u w (ops G) p)
  where
    old : (b : Body) → has_node (epochs G) (Of u.author u.seq) ≡ true → has_node (nodes_after (epochs G) w b) (Of u.author u.seq) ≡ true
    old (Insert first text) h = h
    old (Delete targets) h = h
    old (Rename ys) h = or_right (name_eq (Of w.author w.seq) (Of u.author u.seq)) (has_node (epochs G) (Of u.author u.seq)) h
    old Leave h = h

    new : (b : Body) → b ≡ Rename xs → w ≡ u → has_node (nodes_after (epochs G) w b) (Of u.author u.seq) ≡ true
    new b f q =
        subst (λ c. has_node (nodes_after (epochs G) w c) (Of u.author u.seq) ≡ true) (sym f)
        (or_left (name_eq (Of w.author w.seq) (Of u.author u.seq)) (has_node (epochs G) (Of u.author u.seq)) (ap (λ (z : Op). name_eq (Of z.author z.seq) (Of u.author u.seq)) q ∙ name_eq_refl (Of u.author u.seq)))

module _ (H P : History) (o : Op) (A : Arrives H P o) where
  context_is : o.context ≡ count P
  context_is = own_context P o A.home A.own

  below : at_most (count P) (count H) ≡ true
  below = ap (λ v. at_most v (count H)) (sym context_is) ∙ A.causes

  same_count : count_of H o.author ≡ count_of P o.author
  same_count =
      let h = index_le (count P) (count H) o.author below in
      let n = A.next in
      let m = A.home.2.next in
      omega arith

  -- what stands in P stands here
  to_here : (x : Op) → IsIn x (ops P) → IsIn x (ops H)
  to_here x p =
      let c = number_counted P A.home.0 x p in
      let b = index_le (count P) (count H) x.author below in
      let k = c.1 in
      let r = with_number H A.here x.author x.seq c.0 (omega arith) in
      subst (λ y. IsIn y (ops H)) (A.one r.0 x r.1 p r.2 r.3) r.1

  -- and what stands here with a number that P counts stands in P
  to_home : (x : Op) → IsIn x (ops H) → x.seq ≤ count_of P x.author → IsIn x (ops P)
  to_home x p h =
      let c = number_counted H A.here x p in
      let r = with_number P A.home.0 x.author x.seq c.0 h in
      subst (λ y. IsIn y (ops P)) (sym (A.one x r.0 p r.1 (sym r.2) (sym r.3))) r.1

  -- ---- the author hasn't left

  no_left : has_left H o.author ≡ false
  no_left = not_true (has_left H o.author) (λ h.
      let r = leave_of H o.author h in
      let c = (number_counted H A.here r.0 r.1).1 in
      let e : count_of H (r.0).author ≡ count_of P o.author = ap (count_of H) r.2 ∙ same_count in
      let f : count_of P (r.0).author ≡ count_of P o.author = ap (count_of P) r.2 in
      let q = to_home r.0 r.1 (omega arith) in
      true_false (has_left P o.author) (left_by P r.0 o.author q r.2 r.3) (fits_left P o A.home.2.fits))

  -- ---- its epoch is the greatest within its context

  same_tree : AreIn (epochs P) (epochs H)
  same_tree = same_epochs P H to_here

  inside : (e : EpochName) → has_node (epochs P) e ≡ true → is_within e (count P) ≡ true
  inside Origin h = refl
  inside (Of a s) h = le_test s (count_of P a) (named_le P A.home.0 a s h)

  outside : (e : EpochName) → IsIn e (names (epochs H)) → is_within e (count P) ≡ true → has_node (epochs P) e ≡ true
  outside e p w =
      let r = in_names (epochs H) e p in
      let q = node_op H r.0 r.1 in
      let f : Of (q.0).author (q.0).seq ≡ e = q.4 ∙ r.2 in
      let k = le_is (q.0).seq (count_of P (q.0).author) (ap (λ d. is_within d (count P)) f ∙ w) in
      ap (has_node (epochs P)) (sym f) ∙ op_node P q.0 q.1 (to_home q.0 q.2 k) q.3

  epoch_is : o.epoch ≡ greatest P
  epoch_is = fits_epoch P o A.home.2.fits ∙ (ap (greatest_within P) context_is ∙ own_epoch P A.home.0)

  epoch_due : o.epoch ≡ greatest_within H o.context
  unfolding greatest greatest_within
  epoch_due =
      epoch_is
      ∙ (greatest_part Origin (epochs P) (epochs H) (count P) (nodes P A.home.0) (parents P A.home.0) (nodes H A.here) (parents H A.here) same_tree inside outside
      ∙ ap (tree.greatest_within Origin (epochs H)) (sym context_is))

  -- ---- its stem

  same_own : ops_of P o.author ≡ ops_of H o.author
  same_own =
      let p = ops_from P A.home.0 o.author in
      let q = ops_from H A.here o.author in
      same_from 1 (ops_of P o.author) (ops_of H o.author) p.0 q.0 (p.1 ∙ (sym same_count ∙ sym q.1))
      (λ x y u v e.
      let f = in_filter (λ (z : Op). z.author == o.author) x (ops P) u in
      let g = in_filter (λ (z : Op). z.author == o.author) y (ops H) v in
      sym (A.one y x g.0 f.0 (eq_is y.author o.author g.1 ∙ sym (eq_is x.author o.author f.1)) (sym e)))

  same_stem : (q : ℕ) → stem_of (stems P) o.author q ≡ stem_of (stems H) o.author q
  same_stem q = own_stems P H o.author q A.home.0 A.here same_own

  same_use : (t : Tuple) (n : ℕ) → may_use (stems P) o.author o.seq t n ≡ may_use (stems H) o.author o.seq t n
  same_use t n =
      let F : Option Stem → Bool = λ m.
      is_due (if replica_of t == o.author then (if seq_of t == o.seq then Some 0 else due_of m) else None) (offset_of t) || ((replica_of t == o.author) && ends_at_low m (offset_of t) n) in
      ap F (same_stem (seq_of t))

  -- ---- its targets

  char_stays : (c : Character) → IsIn c (chars P) → IsIn c (chars H)
  unfolding chars
  char_stays c p = let r = in_chars c (ops P) p in chars_in c r.0 (ops H) (to_here r.0 r.1) r.2

  same_ident : (c : Character) → IsIn c (chars P) → (e : EpochName) → is_kept Origin (epochs P) e ≡ true → ident_in P e c ≡ ident_in H e c
  unfolding translate
  same_ident c p e k =
      translate_within Origin (epochs P) (epochs H) (nodes P A.home.0) (parents P A.home.0) (nodes H A.here) (parents H A.here) same_tree c.epoch e c.ident (known P A.home.0 c p).1 k

  epoch_kept_home : is_kept Origin (epochs P) o.epoch ≡ true
  epoch_kept_home = epoch_kept P o A.home.2.fits

  -- the identifier in the operation's epoch of a character that lived at home is known
  char_known : (c : Character) → IsIn c (live P) → is_known H o.epoch (ident_in P o.epoch c) ≡ true
  unfolding is_known live is_named unstable
  char_known c p =
      let f = in_filter (λ d. not (is_named P d)) c (chars P) p in
      let x = ident_in P o.epoch c in
      let e : ident_in P o.epoch c ≡ ident_in H o.epoch c = same_ident c f.0 o.epoch epoch_kept_home in
      let q = char_stays c f.0 in
      let same : (y : List Tuple) → y ≡ x → ident_eq y x ≡ true = λ y g. ap (λ z. ident_eq z x) g ∙ ap is_eq (tied_itself (lists_total tuple_total) x) in
      bool_cases (is_named H c)
      (λ n. or_right (list_any (λ d. ident_eq (ident_in H o.epoch d) x) (live H)) (list_any (λ d. list_any (λ t. ident_eq (translate H d.epoch o.epoch t) x) (targets_of d.body)) (unstable H))
      (let r = in_any (λ d. has_ident (targets_of d.body) (ident_in H d.epoch c)) (ops H) n in
      let d = r.0 in
      let s = in_any (λ y. ident_eq y (ident_in H d.epoch c)) (targets_of d.body) r.2 in
      let t : s.0 ≡ ident_in H d.epoch c = eq_same s.0 (ident_in H d.epoch c) s.2 in
      let back : translate H d.epoch o.epoch s.0 ≡ x =
      ap (translate H d.epoch o.epoch) t ∙ (history_translate H c.epoch d.epoch o.epoch c.ident A.here (known H A.here c q).0 ∙ sym e) in
      let new : count_of P d.author < d.seq =
      bool_cases (nat_le d.seq (count_of P d.author))
      (λ k. absurd (true_false (is_named P c)
      (any_in (λ d. has_ident (targets_of d.body) (ident_in P d.epoch c)) d (ops P) (to_home d r.1 (le_is d.seq (count_of P d.author) k))
      (ap (has_ident (targets_of d.body)) (same_ident c f.0 d.epoch (op_kept P A.home.0 d (to_home d r.1 (le_is d.seq (count_of P d.author) k)))) ∙ r.2))
      (not_is (is_named P c) f.1)))
      (λ k. not_le_is d.seq (count_of P d.author) k) in
      let low = index_le (stable H) (count P) d.author
      (at_most_trans (stable H) (row H o.author) (count P) (stable_row H o.author (omega (arith, author_below (members_of P) o A.home.2.shape, A.members)) no_left) A.row) in
      let u : IsIn d (unstable H) = filter_in (λ o. not (is_covered (stable H) o)) d (ops H) r.1 (ap not (not_le_test d.seq (slice_index (stable H) d.author) (omega arith))) in
      any_in (λ d. list_any (λ t. ident_eq (translate H d.epoch o.epoch t) x) (targets_of d.body)) d (unstable H) u
      (any_in (λ t. ident_eq (translate H d.epoch o.epoch t) x) s.0 (targets_of d.body) s.1 (same (translate H d.epoch o.epoch s.0) back))))
      (λ n. or_left (list_any (λ d. ident_eq (ident_in H o.epoch d) x) (live H)) (list_any (λ d. list_any (λ t. ident_eq (translate H d.epoch o.epoch t) x) (targets_of d.body)) (unstable H))
      (any_in (λ d. ident_eq (ident_in H o.epoch d) x) c (live H) (filter_in (λ d. not (is_named H d)) c (chars H) q (ap not n)) (same (ident_in H o.epoch c) (sym e))))

  none_unknown : (xs : List (List Tuple)) → ((x : List Tuple) → IsIn x xs → is_known H o.epoch x ≡ true) → first_unknown H o.epoch xs ≡ None
  none_unknown [] f = refl
  none_unknown (x ∷ xs) f = ap (λ b. if b then first_unknown H o.epoch xs else Some (UnknownTarget x)) (f x (inl refl)) ∙ none_unknown xs (λ y p. f y (inr p))

  no_body : (b : Body) → o.body ≡ b → body_refusal H o b ≡ None
  no_body (Insert first text) e =
      let m : may_use (stems P) o.author o.seq (last_of first) (length text) ≡ true = subst (MayBegin P o) e (may_begin P o A.home.2) in
      ap (λ c. if c then None else Some (WrongStem (due_offset (stems H) o.author o.seq (last_of first)))) (sym (same_use (last_of first) (length text)) ∙ m)
  no_body (Delete targets) e =
      none_unknown targets (λ x p.
      let r = A.living x (subst (λ (b : Body). IsIn x (targets_of b)) (sym e) p) in
      ap (is_known H o.epoch) (sym r.2) ∙ char_known r.0 r.1)
  no_body (Rename former) e = refl
  no_body Leave e = refl

  pub fits_here : refusal H o ≡ None
  unfolding refusal
  fits_here =
      fit_chain (has_left H o.author) (at_most (row H o.author) o.context) (name_eq o.epoch (greatest_within H o.context))
      (answers.Left (count_of H o.author)) (Backward (row H o.author)) (WrongEpoch (greatest_within H o.context)) (body_refusal H o o.body)
      no_left (ap (at_most (row H o.author)) context_is ∙ A.row) (ap (name_eq o.epoch) (sym epoch_due) ∙ name_eq_refl o.epoch) (no_body o.body refl)

  pub next_here : o.seq ≡ count_of H o.author + 1
  next_here = A.home.2.next ∙ ap (λ n. n + 1) (sym same_count)
