-- Bounds that hold from an edge on, up to the next.
use Rattle.std.proofs.Common.{◌≡◌, ◌∙◌, ℕ, ◌≤◌, ◌⊎◌, false, cond, List, Option, Some, None, refl, sym, ap, subst, inl, inr, ⊎_elim, Ordering, arith}
use Rattle.std.specs.Prelude.{unwrap_or}
use Rattle.std.specs.Option.{IsSome}
use Rattle.std.specs.BTreeMap.{is_at}
use Rattle.std.specs.HashMap.Eq.{lookup_congr}
use Rattle.std.specs.declared.cmp.Ordering.TheVariants.{Less, Equal, Greater}
use Rattle.std.specs.Ordering.{eq_by_cmp, is_eq, is_gt, ordering_reverse}
use Rattle.std.specs.Cmp.{IsTotalOrder}
use Rattle.std.proofs.lemmas.Cmp.{alike_right, eq_by_cmp_equiv, int_cmp_total, nat_cmp_total, on_total, then_total, tied_itself, upto}
use Rattle.rls_ident.proofs.Members.{bool_cases, equal_is, some_is}
use Rattle.rls_replica.specs.declared.bounds.Edge.{Edge}
use Rattle.rls_replica.specs.Bounds.{IsBetween, IsBounded, IsFloor, IsUpTo, edge_cmp, number_in}

-- ---- the order of edges

pub edge_total : IsTotalOrder edge_cmp
edge_total = then_total (on_total (λ e. e.author) nat_cmp_total) (then_total (on_total (λ e. e.mark.replica) nat_cmp_total) (then_total (on_total (λ e. e.mark.seq) nat_cmp_total) (on_total (λ e. e.mark.offset) int_cmp_total)))

abbrev IsBelow : Edge → Edge → Type 0
IsBelow a b = edge_cmp a b ≡ Less

side : (a b : Edge) (r : Ordering) → edge_cmp a b ≡ r → IsBelow a b ⊎ IsUpTo b a
side a b Less e = inl e
side a b Equal e = inr (ap is_gt (edge_total.antisymm b a ∙ ap ordering_reverse e))
side a b Greater e = inr (ap is_gt (edge_total.antisymm b a ∙ ap ordering_reverse e))

sides : (a b : Edge) → IsBelow a b ⊎ IsUpTo b a
sides a b = side a b (edge_cmp a b) refl

tie : (a b : Edge) (r : Ordering) → edge_cmp a b ≡ r → is_gt r ≡ false → IsBelow a b ⊎ (edge_cmp a b ≡ Equal)
tie a b Less e h = inl e
tie a b Equal e h = inr e
tie a b Greater e h = cc

below_or_tied : (a b : Edge) → IsUpTo a b → IsBelow a b ⊎ (edge_cmp a b ≡ Equal)
below_or_tied a b h = tie a b (edge_cmp a b) refl h

upto_below : (a b c : Edge) → IsUpTo a b → IsBelow b c → IsBelow a c
upto_below a b c h k = ⊎_elim (λ l. edge_total.trans a b c l k) (λ e. edge_total.congr a b c e ∙ k) (below_or_tied a b h)

below_upto : (a b c : Edge) → IsBelow a b → IsUpTo b c → IsBelow a c
below_upto a b c h k = ⊎_elim (λ l. edge_total.trans a b c h l) (λ e. sym (alike_right edge_total b c a e) ∙ h) (below_or_tied b c k)

pub upto_itself : (a : Edge) → IsUpTo a a
upto_itself a = ap is_gt (tied_itself edge_total a)

not_both : (a b : Edge) → IsUpTo a b → IsBelow b a → ⊥
not_both a b h k = let l = upto_below a b a h k in let e = tied_itself edge_total a in cc

above_is : (a b : Edge) → IsBelow a b → edge_cmp b a ≡ Greater
above_is a b h = edge_total.antisymm b a ∙ ap ordering_reverse h

-- ---- numbers at edges

same_number : (es : List (Edge × ℕ)) (a b : Edge) → edge_cmp a b ≡ Equal → number_in es a ≡ number_in es b
same_number es a b e = lookup_congr (eq_by_cmp edge_cmp) (eq_by_cmp_equiv edge_total).congr es a b (ap is_eq e)

some_of : (r : Option ℕ) (n : ℕ) → r ≡ Some n → IsSome r
some_of None n e = cc
some_of (Some m) n e = refl

-- the number at the last edge up to one is its bound
pub floor_most : (es : List (Edge × ℕ)) (e : Edge) (r : Option ℕ) → IsFloor es e r → (q : ℕ) → IsBounded es e q → q ≤ unwrap_or r 0
floor_most es e None f q b = let k = f b.0 b.3 in let l = b.2 in absurd (cc)
floor_most es e (Some n) f q b = ⊎_elim
    (λ l. let k = f.3 b.0 b.3 (some_of (number_in es b.0) b.1 b.2) in absurd (cc))
    (λ u. ⊎_elim
    (λ l. let k = b.4 f.0 l f.2 in let m = f.1 in absurd (cc))
    (λ t. subst (λ m. q ≤ m) (some_is b.1 n (sym b.2 ∙ (same_number es b.0 f.0 t ∙ f.1))) b.5)
    (below_or_tied b.0 f.0 u))
    (sides f.0 b.0)

-- one that is taken out between two edges is no other
pub taken_out : (es new : List (Edge × ℕ)) (first past out : Edge) → IsBetween first past out → ((p : Edge) → number_in new p ≡ cond (is_at (edge_cmp out) p) None (number_in es p)) → (e : Edge) → (IsBetween first past e → ⊥) → number_in new e ≡ number_in es e
taken_out es new first past out b took e apart = bool_cases (is_eq (edge_cmp out e))
    (λ t. let k = equal_is (edge_cmp out e) t in absurd (apart (sym (alike_right edge_total out e first k) ∙ b.0, sym (edge_total.congr out e past k) ∙ b.1)))
    (λ f. took e ∙ ap (λ c. cond c None (number_in es e)) f)

-- ---- a bound that is set

pub record IsSet (es new : List (Edge × ℕ)) (first past : Edge) (number further : ℕ) : Type 0 where
  pub order : IsBelow first past
  pub here : number_in new first ≡ Some number
  pub there : number_in new past ≡ Some further
  pub between : (p : Edge) → IsBetween first past p → number_in new p ≡ None
  pub others : (p : Edge) → IsBelow p first ⊎ IsBelow past p → number_in new p ≡ number_in es p
  pub most : (q : ℕ) → IsBounded es past q → q ≤ further

-- what is put at both ends, after what is between them was taken out
pub set_of : (es cleared half new : List (Edge × ℕ)) (first past : Edge) (number further : ℕ) → IsBelow first past → ((q : ℕ) → IsBounded es past q → q ≤ further) → ((p : Edge) → IsBetween first past p → number_in cleared p ≡ None)
    → ((p : Edge) → (IsBetween first past p → ⊥) → number_in cleared p ≡ number_in es p) → ((p : Edge) → number_in half p ≡ cond (is_at (edge_cmp past) p) (Some further) (number_in cleared p))
    → ((p : Edge) → number_in new p ≡ cond (is_at (edge_cmp first) p) (Some number) (number_in half p)) → IsSet es new first past number further
set_of es cleared half new first past number further order most none same put_past put_first = record {
  order = order;
  here = put_first first ∙ ap (λ r. cond (is_eq r) (Some number) (number_in half first)) (tied_itself edge_total first);
  there = not_first past Less order refl ∙ (put_past past ∙ ap (λ r. cond (is_eq r) (Some further) (number_in cleared past)) (tied_itself edge_total past));
  between = λ p b. not_first p Less b.0 refl ∙ (not_past p Greater (above_is p past b.1) refl ∙ none p b);
  others = λ p h. ⊎_elim
      (λ l. not_first p Greater (above_is p first l) refl ∙ (not_past p Greater (above_is p past (edge_total.trans p first past l order)) refl ∙ same p (λ b. not_both first p (ap is_gt b.0) l)))
      (λ l. not_first p Less (edge_total.trans first past p order l) refl ∙ (not_past p Less l refl ∙ same p (λ b. not_both past p (ap is_gt l) b.1)))
      h;
  most = most;
}
  where
    not_first : (p : Edge) (r : Ordering) → edge_cmp first p ≡ r → is_eq r ≡ false → number_in new p ≡ number_in half p
    not_first p r e h = put_first p ∙ ap (λ b. cond b (Some number) (number_in half p)) (ap is_eq e ∙ h)

    not_past : (p : Edge) (r : Ordering) → edge_cmp past p ≡ r → is_eq r ≡ false → number_in half p ≡ number_in cleared p
    not_past p r e h = put_past p ∙ ap (λ b. cond b (Some further) (number_in cleared p)) (ap is_eq e ∙ h)

module _ (es new : List (Edge × ℕ)) (first past : Edge) (number further : ℕ) (h : IsSet es new first past number further) where
  -- from the first edge up to the other one
  pub set_there : (e : Edge) → IsUpTo first e → IsBelow e past → IsBounded new e number
  set_there e u l = (first, number, h.here, u, λ p b v. h.between p (b, upto_below p e past v l), omega arith)

  -- and elsewhere as before
  pub set_kept : (e : Edge) (q : ℕ) → (IsUpTo first e → IsBelow e past → q ≤ number) → IsBounded es e q → IsBounded new e q
  set_kept e q most b = ⊎_elim before (λ u. ⊎_elim (within u) further_on (sides e past)) (sides e first)
    where
      before : IsBelow e first → IsBounded new e q
      before l = (b.0, b.1, h.others b.0 (inl (upto_below b.0 e first b.3 l)) ∙ b.2, b.3, λ p k u. h.others p (inl (upto_below p e first u l)) ∙ b.4 p k u, b.5)

      within : IsUpTo first e → IsBelow e past → IsBounded new e q
      within u l = let s = set_there e u l in (s.0, s.1, s.2, s.3, s.4, let m = most u l in let n = s.5 in omega (arith, m, n))

      further_on : IsUpTo past e → IsBounded new e q
      further_on u = ⊎_elim
          (λ l. (b.0, b.1, h.others b.0 (inr l) ∙ b.2, b.3, λ p k v. h.others p (inr (edge_total.trans past b.0 p l k)) ∙ b.4 p k v, b.5))
          (λ w. (past, further, h.there, u, λ p l v. h.others p (inr l) ∙ b.4 p (upto_below b.0 past p w l) v, h.most q (b.0, b.1, b.2, w, λ p k v. b.4 p k (upto edge_total p past e v u), b.5)))
          (sides past b.0)
