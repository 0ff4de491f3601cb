-- What was used within a vector, and that an operation writes nothing else than what is near to that, within its context.
use Rattle.std.proofs.Common.{◌≡◌, ℕ, ◌≤◌, true, List, [], ◌∷◌, refl, sym, ap, ◌∙◌, subst, arith, inl, inr, ⊎_elim}
use Rattle.std.specs.Prelude.{ℤ, slice_index}
use Rattle.rls_ident.specs.Lists.{IsIn}
use Rattle.rls_ident.specs.Vectors.{at_most}
use Rattle.rls_ident.proofs.Members.{in_left, in_right, snoc_split}
use Rattle.rls_ident.proofs.Vectors.{index_le, at_most_trans}
use Rattle.rls_ops.specs.declared.op.Op.{Op}
use Rattle.rls_ops.specs.declared.op.Body.{Body}
use Rattle.rls_ops.specs.declared.op.Body.TheVariants.{Insert, Delete, Rename, Leave}
use Rattle.rls_model.specs.History.{Accepted, Acknowledged, History, Then, ops, count, count_of}
use Rattle.rls_model.specs.History as history
use Rattle.rls_model.specs.Legal.{IsLegal}
use Rattle.rls_model.specs.Editing.{made}
use Rattle.rls_model.specs.Laws.{IsUsedBy, IsFront, IsPartOf}
use Rattle.rls_model.proofs.Fresh.{all_used, none_used, may_begin}
use Rattle.rls_model.proofs.Distinct.{UsedIn}
use Rattle.rls_model.proofs.HistoryNumbers.{number_counted, with_number, one_number, front_self, front_trans, front_legal, front_count, front_ops, op_front}
use Rattle.rls_passages.specs.Passages.{AreMadeIn}
use Rattle.rls_passages.proofs.Inner.{inner_more, every_more}
use Rattle.rls_passages.proofs.Told.{IsNear, near_more, IsTold, AreTold, made_told}

-- ---- who used an offset

-- some operation did
pub used_by : (H : History) → IsLegal H → (a s : ℕ) (k : ℤ) → UsedIn H a s k → (q : Op) × IsIn q (ops H) × IsUsedBy q a s k
used_by (history.Fresh group me members) l a s k u = absurd (cc)
used_by (Then G (Acknowledged b v)) l a s k u = used_by G l.0 a s k u
used_by (Then G (Accepted o)) l a s k u =
    ⊎_elim (λ p. let r = used_by G l.0 a s k p in (r.0, in_left r.0 (ops G) (o ∷ []) r.1, r.2))
    (λ p. (o, in_right o (ops G) (o ∷ []) (inl refl), p))
    ((all_used G o l.0 l.2.next (may_begin G o l.2) a s k).0 u)

pub by_used : (H : History) → IsLegal H → (q : Op) → IsIn q (ops H) → (a s : ℕ) (k : ℤ) → IsUsedBy q a s k → UsedIn H a s k
by_used (history.Fresh group me members) l q p a s k u = absurd p
by_used (Then G (Acknowledged b v)) l q p a s k u = by_used G l.0 q p a s k u
by_used (Then G (Accepted o)) l q p a s k u =
    (all_used G o l.0 l.2.next (may_begin G o l.2) a s k).1
    (⊎_elim (λ r. inl (by_used G l.0 q r a s k u)) (λ e. inr (subst (λ (x : Op). IsUsedBy x a s k) (sym e) u)) (snoc_split q o (ops G) p))

-- and only one
twice : (G : History) (o q : Op) → IsLegal (Then G (Accepted o)) → IsIn q (ops G) → (a s : ℕ) (k : ℤ) → IsUsedBy q a s k → IsUsedBy o a s k → ⊥
twice G o q l p a s k u v =
    let e = none_used G o l.0 l.2.next (may_begin G o l.2) a s k v in
    let f = by_used G l.0 q p a s k u in
    absurd (cc)

pub one_use : (H : History) → IsLegal H → (q r : Op) → IsIn q (ops H) → IsIn r (ops H) → (a s : ℕ) (k : ℤ) → IsUsedBy q a s k → IsUsedBy r a s k → q ≡ r
one_use (history.Fresh group me members) l q r p m a s k u v = absurd p
one_use (Then G (Acknowledged b w)) l q r p m a s k u v = one_use G l.0 q r p m a s k u v
one_use (Then G (Accepted o)) l q r p m a s k u v =
    ⊎_elim
    (λ x. ⊎_elim (λ y. one_use G l.0 q r x y a s k u v) (λ e. absurd (twice G o q l x a s k u (subst (λ (z : Op). IsUsedBy z a s k) (sym e) v))) (snoc_split r o (ops G) m))
    (λ e. ⊎_elim (λ y. absurd (twice G o r l y a s k v (subst (λ (z : Op). IsUsedBy z a s k) (sym e) u))) (λ f. sym e ∙ f) (snoc_split r o (ops G) m))
    (snoc_split q o (ops G) p)

-- ---- within a vector

-- an operation of M that the vector counts used this
abbrev pub UsedWithin : History → List ℕ → ℕ → ℕ → ℤ → Type 0
UsedWithin M v a s k = (q : Op) × IsIn q (ops M) × (q.seq ≤ slice_index v q.author) × IsUsedBy q a s k

pub within_more : (M : History) (v w : List ℕ) → at_most v w ≡ true → (a s : ℕ) (k : ℤ) → UsedWithin M v a s k → UsedWithin M w a s k
within_more M v w h a s k u = let le = index_le v w (u.0).author h in let g = u.2 in (u.0, u.1, omega arith, u.3)

pub told_more : (U V : ℕ → ℕ → ℤ → Type 0) → ((a s : ℕ) (k : ℤ) → U a s k → V a s k) → (b : Body) → IsTold U b → IsTold V b
told_more U V f (Insert first text) h = inner_more (IsNear U) (IsNear V) (near_more U V f) first h
told_more U V f (Delete targets) h = tt
told_more U V f (Rename former) h = λ a p. let r = h a p in (every_more (IsNear U) (IsNear V) (near_more U V f) a r.0, f _ _ _ r.1)
told_more U V f Leave h = tt

-- the context of an operation of H is at most its count
pub context_counted : (H : History) → IsLegal H → (q : Op) → IsIn q (ops H) → at_most q.context (count H) ≡ true
context_counted H l q p =
    let r = op_front H q p in
    let m = (front_legal (Then r.0 (Accepted q)) H r.1 l).2 in
    let f : IsFront r.0 H = front_trans r.0 (Then r.0 (Accepted q)) H (inr (front_self r.0)) r.1 in
    at_most_trans q.context (count r.0) (count H) m.causes (front_count r.0 H f)

module _ (M : History) (l : IsLegal M) (all : AreMadeIn M) where
  -- what a part of M used, its count counts
  part_within : (H : History) → IsLegal H → IsPartOf H M → (a s : ℕ) (k : ℤ) → UsedIn H a s k → UsedWithin M (count H) a s k
  part_within H h part a s k u = let r = used_by H h a s k u in (r.0, part r.0 r.1, (number_counted H h r.0 r.1).1, r.2)

  -- an operation of M that G counts stands in G
  pub counted_in : (G : History) → IsFront G M → (q : Op) → IsIn q (ops M) → q.seq ≤ count_of G q.author → IsIn q (ops G)
  counted_in G f q p h =
      let r = with_number G (front_legal G M f l) q.author q.seq (number_counted M l q p).0 h in
      subst (λ (x : Op). IsIn x (ops G)) (one_number M l r.0 q (front_ops G M f r.0 r.1) p r.2 r.3) r.1

  -- the next operation, after told ones
  next_told : (G : History) (o : Op) → IsFront (Then G (Accepted o)) M → IsIn o (ops M) → ((q : Op) → IsIn q (ops G) → IsTold (UsedWithin M q.context) q.body) → IsTold (UsedWithin M o.context) o.body
  unfolding made
  next_told G o f p ih =
      let made_in = all o p in
      let H = made_in.0 in
      let h = made_in.2 in
      let part = made_in.3 in
      let e : made H made_in.1 ≡ o = made_in.6 in
      let c : count H ≡ o.context = ap (λ (x : Op). x.context) e in
      let g : IsFront G M = front_trans G (Then G (Accepted o)) M (inr (front_self G)) f in
      let m = (front_legal (Then G (Accepted o)) M f l).2 in
      let U = UsedWithin M (count H) in
      let told : AreTold U H =
      λ q i. let n = (number_counted H h q i).1 in
      let le = index_le o.context (count G) q.author m.causes in
      let ce : count_of H q.author ≡ slice_index o.context q.author = ap (λ v. slice_index v q.author) c in
      let in_g = counted_in G g q (part q i) (omega arith) in
      told_more (UsedWithin M q.context) U (within_more M q.context (count H) (context_counted H h q i)) q.body (ih q in_g) in
      let r = made_told U H h (part_within H h part) told made_in.1 in
      subst (λ (x : Op). IsTold (UsedWithin M x.context) x.body) e r

  fronts_told : (G : History) → IsFront G M → (q : Op) → IsIn q (ops G) → IsTold (UsedWithin M q.context) q.body
  fronts_told (history.Fresh group me members) f q p = absurd p
  fronts_told (Then G (Acknowledged b v)) f q p = fronts_told G (front_trans G (Then G (Acknowledged b v)) M (inr (front_self G)) f) q p
  fronts_told (Then G (Accepted o)) f q p =
      let g : IsFront G M = front_trans G (Then G (Accepted o)) M (inr (front_self G)) f in
      ⊎_elim (λ r. fronts_told G g q r)
      (λ e. subst (λ (x : Op). IsTold (UsedWithin M x.context) x.body) e (next_told G o f (front_ops (Then G (Accepted o)) M f o (in_right o (ops G) (o ∷ []) (inl refl))) (λ x r. fronts_told G g x r)))
      (snoc_split q o (ops G) p)

  -- each operation writes nothing but its last tuple that isn't near to what was used within its context
  pub told : (o : Op) → IsIn o (ops M) → IsTold (UsedWithin M o.context) o.body
  told o p = fronts_told M (front_self M) o p
