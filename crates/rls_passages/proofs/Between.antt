-- Who writes between two neighbours of a passage has seen one of them.
use Rattle.std.proofs.Common.{◌≡◌, ℕ, suc, ◌≤◌, ◌<◌, length, true, List, [], ◌∷◌, ◌++◌, refl, sym, ap, ◌∙◌, subst, arith, inl, inr, ◌⊎◌, ⊎_elim, append_assoc}
use Rattle.std.specs.Prelude.{ℤ, pos, ◌+ℤ◌, slice_index}
use Rattle.std.proofs.lemmas.Int.{ints}
use Rattle.rls_ident.specs.declared.tuple.Tuple.{Tuple}
use Rattle.rls_ident.specs.declared.tuple.Tuple.TheVariants.{Low, At, High}
use Rattle.rls_ident.specs.declared.epoch_name.EpochName.{EpochName}
use Rattle.rls_ident.specs.declared.epoch_name.EpochName.TheVariants.{Origin}
use Rattle.rls_ident.specs.Lists.{IsIn}
use Rattle.rls_ident.specs.Vectors.{at_most}
use Rattle.rls_ident.specs.Tuples.{replica_of, seq_of, offset_of, is_at, raised, at_offset}
use Rattle.rls_ident.specs.Identifiers.{IsIdent, last_of, shifted}
use Rattle.rls_ident.proofs.Gaps.{letter_between}
use Rattle.rls_ident.proofs.Lists.{Lt, lt_cancel, lt_irrefl, lt_longer, lt_trans, sandwich}
use Rattle.rls_ident.proofs.Shifted.{last_at, last_shifted, raised_offset, raised_replica, raised_seq}
use Rattle.rls_ident.proofs.Tuples.{tuples, lt_of, next, split_last}
use Rattle.rls_rename.specs.Renaming.{Renaming}
use Rattle.rls_rename.specs.Tree.{Node, path, forward_all, back_all}
use Rattle.rls_rename.specs.Tree as tree
use Rattle.rls_rename.proofs.Growth.{translate_same}
use Rattle.rls_rename.proofs.Paths.{among_node, former_among, path-among, translate_is}
use Rattle.rls_rename.proofs.SameNodes.{path_within}
use Rattle.rls_rename.proofs.Triples.{AreCovered}
use Rattle.rls_ops.specs.declared.op.Op.{Op}
use Rattle.rls_ops.specs.declared.op.Body.{Body}
use Rattle.rls_ops.specs.declared.op.Body.TheVariants.{Insert, Delete, Rename, Leave}
use Rattle.rls_model.specs.History.{History, ops, count}
use Rattle.rls_model.specs.Epochs.{epochs, renaming_of, greatest, translate}
use Rattle.rls_model.specs.Document.{Character, chars, chars_of, chars_from, ident_in}
use Rattle.rls_model.specs.Legal.{IsLegal}
use Rattle.rls_model.specs.Editing.{made}
use Rattle.rls_model.specs.Laws.{IsOfRename, IsUsedBy, precedes}
use Rattle.rls_model.proofs.OneTree.{nodes, parents, history_ident, history_translate, history_order}
use Rattle.rls_model.proofs.Distinct.{known}
use Rattle.rls_model.proofs.SameOps.{chars_in, in_chars, in_nodes, number_of, same_epochs, top_kept}
use Rattle.rls_passages.specs.Passages.{IsInsertedBy, AreMadeIn, SeenBetween}
use Rattle.rls_passages.proofs.Inner.{Inner, inner_at, inner_more}
use Rattle.rls_passages.proofs.Kept.{down_inner, up_inner}
use Rattle.rls_passages.proofs.Told.{IsNear, near_more, AreTold, char_told, former_told, new_told}
use Rattle.rls_passages.proofs.Within.{UsedWithin, told_more, within_more, context_counted, told, one_use}

-- ---- what lies between an identifier and the next one begins with it

shifted_end : (k : ℤ) (base : List Tuple) (t : Tuple) → shifted k (base ++ (t ∷ [])) ≡ base ++ (raised k t ∷ [])
shifted_end k [] t = refl
shifted_end k (s ∷ []) t = refl
shifted_end k (s ∷ (u ∷ base)) t = ap (λ x. s ∷ x) (shifted_end k (u ∷ base) t)

pub begins_with : (x y : List Tuple) → IsIdent x → Lt tuples x y → Lt tuples y (shifted (pos 1) x) → (v : List Tuple) × (y ≡ x ++ v) × Lt tuples [] v
begins_with x y i l h =
    let r = split_last x i in
    let base = r.0 in
    let s = r.1 in
    let d = at_offset s s.offset in
    let c = at_offset s (s.offset +ℤ pos 1) in
    let low : Lt tuples (base ++ (d ∷ [])) y = subst (λ z. Lt tuples z y) r.2 l in
    let high : Lt tuples y (base ++ (c ∷ [])) = subst (λ z. Lt tuples y z) (ap (shifted (pos 1)) r.2 ∙ shifted_end (pos 1) base d) h in
    let w = sandwich base y (c ∷ []) (λ k. lt_irrefl (lt_trans k (lt_trans (lt_longer base d []) low))) high in
    let v = letter_between d c (next s s.offset (s.offset +ℤ pos 1) refl) w.0 (lt_cancel base (subst (λ z. Lt tuples (base ++ (d ∷ [])) z) w.1 low)) w.2 in
    (v.0, w.1 ∙ (ap (λ z. base ++ z) v.1 ∙ (sym (append_assoc base (d ∷ []) v.0) ∙ ap (λ z. z ++ v.0) (sym r.2))), v.2)

-- the last tuple of an identifier is an inner one of what is longer and begins with it
pub last_inner : (T : Tuple → Type 0) (x v : List Tuple) → IsIdent x → Lt tuples [] v → Inner T (x ++ v) → T (last_of x)
last_inner T [] v i l h = absurd (cc)
last_inner T (t ∷ []) v i l h = inner_at T [] t v l h
last_inner T (t ∷ (u ∷ x)) v i l h = last_inner T (u ∷ x) v i l h.1

pub near_at : (U : ℕ → ℕ → ℤ → Type 0) (t : Tuple) → is_at t ≡ true → IsNear U t → U (replica_of t) (seq_of t) (offset_of t) ⊎ U (replica_of t) (seq_of t) (offset_of t +ℤ pos 1)
near_at U Low i h = absurd (cc)
near_at U (At p r s k) i h = h
near_at U High i h = absurd (cc)

-- ---- an operation's epoch is that of its characters

epoch_from : (o : Op) (i : ℕ) (x : List Tuple) (cs : List ℕ) (c : Character) → IsIn c (chars_from o i x cs) → c.epoch ≡ o.epoch
epoch_from o i x [] c p = absurd p
epoch_from o i x (d ∷ cs) c (inl e) = sym (ap (λ (c : Character). c.epoch) e)
epoch_from o i x (d ∷ cs) c (inr p) = epoch_from o (suc i) (shifted (pos 1) x) cs c p

pub epoch_of : (o : Op) (b : Body) (c : Character) → IsIn c (chars_of o b) → c.epoch ≡ o.epoch
epoch_of o (Insert first text) c p = epoch_from o 0 first text c p
epoch_of o (Delete targets) c p = absurd p
epoch_of o (Rename xs) c p = absurd p
epoch_of o Leave c p = absurd p

-- the character's own triple
abbrev pub HasOwn : (ℕ → ℕ → ℤ → Type 0) → Character → Type 0
HasOwn U c = U (replica_of (last_of c.ident)) (seq_of (last_of c.ident)) (offset_of (last_of c.ident))

-- ---- the characters of a legal history, in any epoch

module _ (M : History) (l : IsLegal M) where
  -- the order in any epoch
  pub order_at : (c d : Character) → IsIn c (chars M) → IsIn d (chars M) → (f : EpochName) → precedes M c d ≡ true → Lt tuples (ident_in M f c) (ident_in M f d)
  order_at c d p q f h =
      let i = (known M l c p).0 in
      let j = (known M l d q).0 in
      let k = lt_of (ident_in M Origin c) (ident_in M Origin d) h in
      let a = history_translate M c.epoch Origin f c.ident l i in
      let b = history_translate M d.epoch Origin f d.ident l j in
      let g = history_order M Origin f (ident_in M Origin c) (ident_in M Origin d) l (history_ident M c.epoch Origin c.ident l i) (history_ident M d.epoch Origin d.ident l j) in
      subst (λ z. Lt tuples z (ident_in M f d)) a (subst (λ z. Lt tuples (translate M Origin f (ident_in M Origin c)) z) b (record { less = g ∙ k.less }))

  pub at_birth : (c : Character) → IsIn c (chars M) → (f : EpochName) → c.epoch ≡ f → ident_in M f c ≡ c.ident
  unfolding translate
  at_birth c p f e = ap (λ g. tree.translate (epochs M) c.epoch g c.ident) (sym e) ∙ translate_same (epochs M) c.epoch c.ident (nodes M l) (known M l c p).0

  pub is_char : (o : Op) (x : Character) → IsInsertedBy M o x → IsIn x (chars M)
  unfolding chars
  is_char o x p = chars_in x o (ops M) p.0 p.1

-- ---- the law

module _ (M : History) (l : IsLegal M) (all : AreMadeIn M) where
  -- a rename took this offset
  abbrev Renamed : ℕ → ℕ → ℤ → Type 0
  Renamed a s k = (q : Op) × (xs : List (List Tuple)) × IsIn q (ops M) × (q.body ≡ Rename xs) × IsOfRename q (Rename xs) a s k

  -- an operation within the vector used the offset, or a rename took it
  abbrev Marked : List ℕ → ℕ → ℕ → ℤ → Type 0
  Marked v a s k = UsedWithin M v a s k ⊎ Renamed a s k

  all_marked : (v : List ℕ) → AreCovered (Marked v) (epochs M)
  all_marked v R p =
      let n = among_node (epochs M) R p in
      let r = in_nodes M n.0 n.1 in
      let e : renaming_of r.0 r.1 ≡ R = ap (λ (m : Node). m.renaming) r.4 ∙ n.2 in
      subst (λ (S : Renaming). (j : ℕ) → j < length S.former → Marked v S.replica S.seq (pos j)) e
      (λ j m. inr (r.0, r.1, r.2, r.3, (refl, refl, omega (arith, ints), omega (arith, ints))))

  -- a character's offset that is marked was used by its insertion, which the vector counts
  own_seen : (v : List ℕ) (c : Character) → IsIn c (chars M) → HasOwn (Marked v) c → c.seq ≤ slice_index v c.author
  unfolding chars
  own_seen v c p h =
      let r = in_chars c (ops M) p in
      let u : HasOwn (IsUsedBy r.0) c = inl (c, r.2, (refl, refl, refl)) in
      let a = replica_of (last_of c.ident) in
      let s = seq_of (last_of c.ident) in
      let k = offset_of (last_of c.ident) in
      let n = number_of r.0 (r.0).body c r.2 in
      ⊎_elim
      (λ w. let e : w.0 ≡ r.0 = one_use M l w.0 r.0 w.1 r.1 a s k w.3 u in
      let g : (r.0).seq ≤ slice_index v (r.0).author = subst (λ (x : Op). x.seq ≤ slice_index v x.author) e w.2 in
      subst (λ b. c.seq ≤ slice_index v b) n.0 (subst (λ m. m ≤ slice_index v (r.0).author) n.1 g))
      (λ w. let i : IsOfRename w.0 (w.0).body a s k = subst (λ b. IsOfRename w.0 b a s k) (sym w.3) w.4 in
      let e : r.0 ≡ w.0 = one_use M l r.0 w.0 r.1 w.2 a s k u (inr i) in
      let f : (r.0).body ≡ Rename w.1 = ap (λ (x : Op). x.body) e ∙ w.3 in
      absurd (subst (λ b. IsIn c (chars_of r.0 b)) f r.2))
      h

  -- what an operation inserted, back in the first epoch
  at_top : (o : Op) (x : Character) → IsInsertedBy M o x → Inner (IsNear (UsedWithin M o.context)) (back_all (path (epochs M) x.epoch) x.ident)
  unfolding made
  at_top o x p =
      let made_in = all o p.0 in
      let H = made_in.0 in
      let h = made_in.2 in
      let part = made_in.3 in
      let e : made H made_in.1 ≡ o = made_in.6 in
      let c : count H ≡ o.context = ap (λ (y : Op). y.context) e in
      let U = UsedWithin M o.context in
      let are_told : AreTold U H = λ q i. told_more (UsedWithin M q.context) U (within_more M q.context o.context (subst (λ v. at_most q.context v ≡ true) c (context_counted H h q i))) q.body (told M l all q (part q i)) in
      let f : greatest H ≡ x.epoch = ap (λ (y : Op). y.epoch) e ∙ sym (epoch_of o o.body x p.1) in
      let w : path (epochs H) (greatest H) ≡ path (epochs M) x.epoch = path_within Origin (epochs H) (epochs M) (nodes H h) (parents H h) (nodes M l) (parents M l) (same_epochs H M part) (greatest H) (top_kept H) ∙ ap (path (epochs M)) f in
      let T = IsNear U in
      subst (λ Rs. Inner T (back_all Rs x.ident)) w
      (up_inner T (epochs H) (path (epochs H) (greatest H)) x.ident tt tt (λ R q. (former_among (epochs H) (nodes H h) R q, former_told U H are_told R q)) (path-among (epochs H) (greatest H)) (char_told U o o.body (told M l all o p.0) x p.1))

  -- and in any epoch
  at_any : (o : Op) (x : Character) → IsInsertedBy M o x → IsIn x (chars M) → (f : EpochName) → Inner (IsNear (Marked o.context)) (ident_in M f x)
  unfolding translate
  at_any o x p q f =
      let ns = epochs M in
      let n = nodes M l in
      let U = UsedWithin M o.context in
      let V = Marked o.context in
      subst (Inner (IsNear V)) (sym (translate_is ns x.epoch f x.ident n (known M l x q).0))
      (down_inner (IsNear V) ns (path ns f) (back_all (path ns x.epoch) x.ident) (λ R r. new_told V ns R (former_among ns n R r) (all_marked o.context) r) (path-among ns f)
      (inner_more (IsNear U) (IsNear V) (near_more U V (λ a s k u. inl u)) (back_all (path ns x.epoch) x.ident) (at_top o x p)))

  pub law : SeenBetween M
  law o x c d p q r f h k =
      let in_x = is_char M l o x p in
      let g = f.0 in
      let y = ident_in M g c in
      let i : IsIdent y = history_ident M c.epoch g c.ident l (known M l c q).0 in
      let V = Marked o.context in
      let low : Lt tuples y (ident_in M g x) = order_at M l c x q in_x g h in
      let high : Lt tuples (ident_in M g x) (shifted (pos 1) y) = subst (λ z. Lt tuples (ident_in M g x) z) f.4 (order_at M l x d in_x r g k) in
      let b = begins_with y (ident_in M g x) i low high in
      let t = last_of c.ident in
      let inner : IsNear V t = subst (IsNear V) f.2 (last_inner (IsNear V) y b.0 i b.2 (subst (Inner (IsNear V)) b.1 (at_any o x p in_x g))) in
      let a : is_at t ≡ true = ap is_at (sym f.2) ∙ last_at y i in
      let e : last_of d.ident ≡ raised (pos 1) t = sym f.3 ∙ (ap last_of f.4 ∙ (last_shifted (pos 1) y ∙ ap (raised (pos 1)) f.2)) in
      let e1 : replica_of t ≡ replica_of (last_of d.ident) = sym (ap replica_of e ∙ raised_replica (pos 1) t) in
      let e2 : seq_of t ≡ seq_of (last_of d.ident) = sym (ap seq_of e ∙ raised_seq (pos 1) t) in
      let e3 : offset_of t +ℤ pos 1 ≡ offset_of (last_of d.ident) = sym (ap offset_of e ∙ raised_offset (pos 1) t a) in
      ⊎_elim (λ u. inl (own_seen o.context c q u))
      (λ u. inr (own_seen o.context d r (subst (λ n. V n (seq_of (last_of d.ident)) (offset_of (last_of d.ident))) e1 (subst (λ n. V (replica_of t) n (offset_of (last_of d.ident))) e2 (subst (λ n. V (replica_of t) (seq_of t) n) e3 u)))))
      (near_at V t a inner)
