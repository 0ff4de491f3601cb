-- Passages that were written apart stand apart, and so do insertions, in histories of edits and in worlds.
use Rattle.std.proofs.Common.{◌≡◌, ℕ, suc, ◌≤◌, true, List, [], ◌∷◌, refl, sym, ap, ◌∙◌, subst, arith, inl, inr, ◌⊎◌, ⊎_elim}
use Rattle.std.specs.Prelude.{pos, slice_index}
use Rattle.std.proofs.lemmas.Int.{ints}
use Rattle.rls_ident.specs.declared.tuple.Tuple.{Tuple}
use Rattle.rls_ident.specs.Lists.{IsIn}
use Rattle.rls_ident.specs.Identifiers.{IsIdent, last_of, shifted}
use Rattle.rls_ident.proofs.Lists.{Lt, lt_irrefl, lt_trans}
use Rattle.rls_ident.proofs.Members.{true_false}
use Rattle.rls_ident.proofs.Shifted.{shifted_less, shifted_none}
use Rattle.rls_ident.proofs.Tuples.{tuples}
use Rattle.rls_ops.specs.declared.op.Op.{Op}
use Rattle.rls_ops.specs.declared.op.Body.{Body}
use Rattle.rls_ops.specs.declared.op.Body.TheVariants.{Insert, Delete, Rename, Leave}
use Rattle.rls_model.specs.History.{History, ops}
use Rattle.rls_model.specs.Document.{Character, chars, chars_of, chars_from, ident_in}
use Rattle.rls_model.specs.Legal.{IsLegal}
use Rattle.rls_model.specs.Laws.{IsTotalOrder, precedes}
use Rattle.rls_model.proofs.OneTree.{history_ident}
use Rattle.rls_model.proofs.Distinct.{known}
use Rattle.rls_model.proofs.HistoryNumbers.{one_number}
use Rattle.rls_model.proofs.OneOrder as order
use Rattle.rls_model.proofs.SameOps.{in_chars, number_of}
use Rattle.rls_passages.specs.Passages.{HasSeen, Follows, IsPassage, AreMadeIn, IsInsertedBy, AreUnseen, IsPassageOf, PassagesApart, InsertionsApart, MadeApart}
use Rattle.rls_passages.proofs.Between.{is_char, order_at, at_birth}
use Rattle.rls_passages.proofs.Between as between

-- ---- the characters of an insertion are a passage

module _ (M : History) (l : IsLegal M) where
  pub follows_born : (c d : Character) → IsIn c (chars M) → IsIn d (chars M) → d.epoch ≡ c.epoch → d.ident ≡ shifted (pos 1) c.ident → Follows M d c
  follows_born c d p q e f =
      let a = at_birth M l c p c.epoch refl in
      let b = at_birth M l d q c.epoch e in
      (c.epoch, (known M l c p).1, ap last_of a, ap last_of b, b ∙ (f ∙ ap (shifted (pos 1)) (sym a)))

  pub from_passage : (o : Op) (i : ℕ) (x : List Tuple) (cs : List ℕ) → ((c : Character) → IsIn c (chars_from o i x cs) → IsIn c (chars M)) → IsPassage M (chars_from o i x cs)
  from_passage o i x [] f = tt
  from_passage o i x (c ∷ []) f = tt
  from_passage o i x (c ∷ (d ∷ cs)) f = (follows_born _ _ (f _ (inl refl)) (f _ (inr (inl refl))) refl refl, from_passage o (suc i) (shifted (pos 1) x) (d ∷ cs) (λ c p. f c (inr p)))

  op_passage : (o : Op) (b : Body) → ((c : Character) → IsIn c (chars_of o b) → IsIn c (chars M)) → IsPassage M (chars_of o b)
  op_passage o (Insert first text) f = from_passage o 0 first text f
  op_passage o (Delete targets) f = tt
  op_passage o (Rename xs) f = tt
  op_passage o Leave f = tt

-- ---- the laws

module _ (M : History) (l : IsLegal M) (all : AreMadeIn M) where
  total : IsTotalOrder (precedes M) (λ c. IsIn c (chars M))
  total = (order.law M l).0

  both_ways : (c d : Character) → precedes M c d ≡ true → precedes M d c ≡ true → ⊥
  both_ways c d h k = true_false (precedes M c c) (total.1 c d c h k) (total.0 c)

  inserted : (c : Character) → IsIn c (chars M) → (o : Op) × IsInsertedBy M o c
  unfolding chars
  inserted c p = let r = in_chars c (ops M) p in (r.0, (r.1, r.2))

  -- of two neighbours the first one comes first
  follows_after : (c d : Character) → IsIn c (chars M) → IsIn d (chars M) → Follows M d c → precedes M c d ≡ true
  follows_after c d p q f =
      let g = f.0 in
      let y = ident_in M g c in
      let i : IsIdent y = history_ident M c.epoch g c.ident l (known M l c p).0 in
      let above : Lt tuples y (ident_in M g d) = subst (λ z. Lt tuples y z) (sym f.4) (subst (λ z. Lt tuples z (shifted (pos 1) y)) (shifted_none y) (shifted_less (pos 0) (pos 1) y i (omega (arith, ints)))) in
      ⊎_elim (λ e. absurd (lt_irrefl (subst (λ (b : Character). Lt tuples y (ident_in M g b)) (sym e) above)))
      (λ r. ⊎_elim (λ h. h) (λ h. absurd (lt_irrefl (lt_trans above (order_at M l d c q p g h)))) r)
      (total.2 c d p q)

  -- x comes before all of these, or after all of them
  abbrev Sides : Character → List Character → Type 0
  Sides x cs = ((c : Character) → IsIn c cs → precedes M x c ≡ true) ⊎ ((c : Character) → IsIn c cs → precedes M c x ≡ true)

  before_more : (x c : Character) (cs : List Character) → precedes M x c ≡ true → ((d : Character) → IsIn d cs → precedes M x d ≡ true) → (d : Character) → IsIn d (c ∷ cs) → precedes M x d ≡ true
  before_more x c cs h f d (inl e) = subst (λ y. precedes M x y ≡ true) e h
  before_more x c cs h f d (inr p) = f d p

  after_more : (x c : Character) (cs : List Character) → precedes M c x ≡ true → ((d : Character) → IsIn d cs → precedes M d x ≡ true) → (d : Character) → IsIn d (c ∷ cs) → precedes M d x ≡ true
  after_more x c cs h f d (inl e) = subst (λ y. precedes M y x ≡ true) e h
  after_more x c cs h f d (inr p) = f d p

  -- who has seen none of a passage writes nothing in it
  one_side : (o : Op) (x : Character) (cs : List Character) → IsInsertedBy M o x → IsPassageOf M cs → (IsIn x cs → ⊥) → ((c : Character) → IsIn c cs → HasSeen o c → ⊥) → Sides x cs
  one_side o x [] p w n u = inl (λ c q. absurd q)
  one_side o x (c ∷ []) p w n u =
      ⊎_elim (λ e. absurd (n (inl e)))
      (λ r. ⊎_elim (λ h. inr (after_more x c [] h (λ d q. absurd q))) (λ h. inl (before_more x c [] h (λ d q. absurd q))) r)
      (total.2 c x (w.1 c (inl refl)) (is_char M l o x p))
  one_side o x (c ∷ (d ∷ cs)) p w n u =
      let in_c = w.1 c (inl refl) in
      let in_d = w.1 d (inr (inl refl)) in
      let in_x = is_char M l o x p in
      let f = (w.0).0 in
      let before : ((e : Character) → IsIn e (d ∷ cs) → precedes M x e ≡ true) → Sides x (c ∷ (d ∷ cs)) =
      λ g. ⊎_elim (λ e. absurd (n (inl e)))
      (λ r. ⊎_elim
      (λ h. absurd (⊎_elim (u c (inl refl)) (u d (inr (inl refl))) (between.law M l all o x c d p in_c in_d f h (g d (inl refl)))))
      (λ h. inl (before_more x c (d ∷ cs) h g))
      r)
      (total.2 c x in_c in_x) in
      let after : ((e : Character) → IsIn e (d ∷ cs) → precedes M e x ≡ true) → Sides x (c ∷ (d ∷ cs)) =
      λ g. inr (after_more x c (d ∷ cs) (total.1 c d x (follows_after c d in_c in_d f) (g d (inl refl))) g) in
      ⊎_elim before after (one_side o x (d ∷ cs) p ((w.0).1, λ e q. w.1 e (inr q)) (λ q. n (inr q)) (λ e q. u e (inr q)))

  passages : PassagesApart M
  passages [] ds v w f g n = inl (λ c d p q. absurd p)
  passages (c ∷ cs) ds v w f g n =
      let r = inserted c (v.1 c (inl refl)) in
      let side : (d : Character) → IsIn d ds → Sides d (c ∷ cs) =
      λ d q. let s = inserted d (w.1 d q) in one_side s.0 d (c ∷ cs) s.1 v (λ p. n d p q) (λ b p. g s.0 d b q p s.1) in
      ⊎_elim
      (λ h. inl (λ b d p q. ⊎_elim (λ k. absurd (both_ways c d (h d q) (k c (inl refl)))) (λ k. k b p) (side d q)))
      (λ h. inr (λ d b q p. ⊎_elim (λ k. k b p) (λ k. absurd (both_ways c d (k c (inl refl)) (h d q))) (side d q)))
      (one_side r.0 c ds r.1 w (n c (inl refl)) (λ d q. f r.0 c d (inl refl) q r.1))

  -- the operation that inserted a character of this one is this one
  the_op : (o q : Op) (c : Character) → IsIn o (ops M) → IsIn c (chars_of o o.body) → IsInsertedBy M q c → q ≡ o
  the_op o q c p r s =
      let m = number_of o o.body c r in
      let n = number_of q q.body c s.1 in
      one_number M l q o s.0 p (n.0 ∙ sym m.0) (n.1 ∙ sym m.1)

  unseen : (o p : Op) → IsIn o (ops M) → (p.seq ≤ slice_index o.context p.author → ⊥) → AreUnseen M (chars_of o o.body) (chars_of p p.body)
  unseen o p a h q c d r s i k =
      let e = the_op o q c a r i in
      let n = number_of p p.body d s in
      h (subst (λ (x : Op). p.seq ≤ slice_index x.context p.author) e (subst (λ b. p.seq ≤ slice_index q.context b) (sym n.0) (subst (λ m. m ≤ slice_index q.context d.author) (sym n.1) k)))

  insertions : InsertionsApart M
  insertions o p a b h k n =
      passages (chars_of o o.body) (chars_of p p.body) (op_passage M l o o.body (λ c q. is_char M l o c (a, q)), λ c q. is_char M l o c (a, q)) (op_passage M l p p.body (λ c q. is_char M l p c (b, q)), λ c q. is_char M l p c (b, q))
      (unseen o p a h) (unseen p o b k)
      (λ c q r. n (the_op p o c b r (a, q)))

pub law : MadeApart
law M l all = (between.law M l all, passages M l all, insertions M l all)
