-- In a good world some legal history has just the operations of all members.
use Rattle.std.proofs.Common.{◌≡◌, ℕ, zero, suc, ◌≤◌, ◌<◌, true, List, [], ◌∷◌, length, refl, sym, ap, ◌∙◌, subst, arith, inl, ⊎_elim, nat_le, nat_lt}
use Rattle.std.specs.Prelude.{◌==◌, slice_get, slice_index, Option, Some, None}
use Rattle.rls_ident.specs.Lists.{IsIn}
use Rattle.rls_ident.specs.Vectors.{at_most}
use Rattle.rls_ident.proofs.Members.{and_true, bool_cases, eq_is, eq_not, in_left, in_right, le_is, le_test, lt_is, not_le_is, not_lt_is, snoc_split, some_is}
use Rattle.rls_ident.proofs.Vectors.{at_most_trans}
use Rattle.rls_ops.specs.declared.op.Op.{Op}
use Rattle.rls_model.specs.History.{Accepted, Acknowledged, History, Then, ops, count, count_of, members_of}
use Rattle.rls_model.specs.History as history
use Rattle.rls_model.specs.Receiving.{State, accept}
use Rattle.rls_model.specs.Legal.{IsLegal}
use Rattle.rls_model.specs.Worlds.{World, with_state}
use Rattle.rls_model.specs.Laws.{IsAt, IsFront, IsGathered, Gathered}
use Rattle.rls_model.proofs.Stable.{length-count}
use Rattle.rls_model.proofs.OnePlace.{got_below, get_set_same, set_get}
use Rattle.rls_model.proofs.HistoryNumbers.{number_counted, with_number, front_self, front_trans, front_members, front_ops}
use Rattle.rls_model.proofs.WorldsInvariant.{IsHome, IsMember, IsGood, home_later}
use Rattle.rls_model.proofs.WorldsArrivals.{one_op, own_counted, home_shape, may_accept}
use Rattle.rls_model.proofs.MemberSteps.{accepts, keep}
use Rattle.rls_model.proofs.WorldsLaws.{good_after}

-- ---- counts

pub at_each : (v w : List ℕ) → length v ≡ length w → ((i : ℕ) → slice_index v i ≤ slice_index w i) → at_most v w ≡ true
at_each [] w e f = refl
at_each (m ∷ ms) [] e f = absurd (omega arith)
at_each (m ∷ ms) (n ∷ ns) e f = and_true (nat_le m n) (at_most ms ns) (le_test m n (f 0)) (at_each ms ns (omega arith) (λ i. f (suc i)))

-- a history with all operations of another counts as many
pub part_count : (P H : History) → IsLegal P → IsLegal H → members_of P ≡ members_of H → ((o : Op) → IsIn o (ops P) → IsIn o (ops H)) → at_most (count P) (count H) ≡ true
part_count P H l m e f = at_each (count P) (count H) (length-count P ∙ (e ∙ sym (length-count H))) each
  where
    each : (a : ℕ) → count_of P a ≤ count_of H a
    each a =
        bool_cases (nat_lt 0 (count_of P a))
        (λ z. let r = with_number P l a (count_of P a) (lt_is 0 (count_of P a) z) (omega arith) in
        let c = (number_counted H m r.0 (f r.0 r.1)).1 in
        let g : count_of H (r.0).author ≡ count_of H a = ap (count_of H) r.2 in
        let n = r.3 in
        omega arith)
        (λ z. let k = not_lt_is 0 (count_of P a) z in omega arith)

below : (j n : ℕ) → j < suc n → (j ≡ n → ⊥) → j < n
below j n q f = bool_cases (nat_lt j n) (λ c. lt_is j n c) (λ c. let d = not_lt_is j n c in absurd (f (omega arith)))

-- ---- one member takes what it lacks

-- the member may come to this state, whose operations stand in their authors' histories
record Reaches (w : World) (i : ℕ) (s t : State) : Type 0 where
  good : IsGood (with_state w i t)
  grows : IsFront s.history t.history
  known : (o : Op) → IsIn o (ops t.history) → IsHome w o

module _ (w : World) (i : ℕ) (s : State) (g : IsGood w) (h : IsAt w i s) where
  one_more : (t : State) → Reaches w i s t → (o : Op) → IsHome w o → (P : History) → IsLegal (Then P (Accepted o)) → members_of P ≡ members_of s.history → ((x : Op) → IsIn x (ops P) → IsIn x (ops t.history)) →
      (u : State) × Reaches w i s u × IsFront t.history u.history × IsIn o (ops u.history)
  one_more t r o k P l e f =
      let v = with_state w i t in
      let at : IsAt v i t = get_set_same w.states i s t h in
      let mine : IsMember v i t = (r.good).member i t at in
      let home : IsHome v o = home_later w i s t o h r.grows k in
      let next = l.2.next in
      bool_cases (nat_le o.seq (count_of t.history o.author))
      (λ c. let x = with_number t.history mine.legal o.author o.seq (omega arith) (le_is o.seq (count_of t.history o.author) c) in
      (t, r, front_self t.history, subst (λ y. IsIn y (ops t.history)) (one_op v x.0 o r.good (mine.home x.0 x.1) home x.2 x.3) x.1))
      (λ c. let above = not_le_is o.seq (count_of t.history o.author) c in
      let other : o.author ≡ i → ⊥ = λ q. let d = own_counted v i t o r.good at home q in omega arith in
      let causes = at_most_trans o.context (count P) (count t.history) l.2.causes (part_count P t.history l.0 mine.legal (e ∙ front_members s.history t.history r.grows) f) in
      let m = may_accept v i t o r.good at home other above causes in
      let b = accepts v i t o mine (home_shape v i t o r.good at home).0 m (inl home) (λ q. absurd (other (q ∙ mine.me))) in (
        accept t o,
        record {
          good = keep w i s t (accept t o) h r.good b;
          grows = front_trans s.history t.history (accept t o).history r.grows b.grows;
          known = λ x p. ⊎_elim (λ q. r.known x q) (λ q. subst (IsHome w) q k) (snoc_split x o (ops t.history) p);
        },
        b.grows,
        in_right o (ops t.history) (o ∷ []) (inl refl),
      ))

  all_of : (Q : History) → IsLegal Q → members_of Q ≡ members_of s.history → ((o : Op) → IsIn o (ops Q) → IsHome w o) → (t : State) → Reaches w i s t →
      (u : State) × Reaches w i s u × IsFront t.history u.history × ((o : Op) → IsIn o (ops Q) → IsIn o (ops u.history))
  all_of (history.Fresh group me members) l e f t r = (t, r, front_self t.history, λ o p. absurd p)
  all_of (Then G (Acknowledged b v)) l e f t r = all_of G l.0 e f t r
  all_of (Then G (Accepted o)) l e f t r =
      let a = all_of G l.0 e (λ x p. f x (in_left x (ops G) (o ∷ []) p)) t r in
      let b = one_more a.0 a.1 o (f o (in_right o (ops G) (o ∷ []) (inl refl))) G l e a.3 in (
        b.0,
        b.1,
        front_trans t.history (a.0).history (b.0).history a.2 b.2,
        λ x p. ⊎_elim (λ q. front_ops (a.0).history (b.0).history b.2 x (a.3 x q)) (λ q. subst (λ (y : Op). IsIn y (ops (b.0).history)) q b.3) (snoc_split x o (ops G) p),
      )

  -- it has all operations of these members
  abbrev HasAll : ℕ → State → Type 0
  HasAll n t = (j : ℕ) (u : State) → j < n → IsAt w j u → (o : Op) → IsIn o (ops u.history) → IsIn o (ops t.history)

  up_to : (n : ℕ) → (t : State) × Reaches w i s t × HasAll n t
  up_to zero = (
    s,
    record { good = subst (λ xs. IsGood (record w { states = xs })) (sym (set_get w.states i s h)) g; grows = front_self s.history; known = (g.member i s h).home },
    λ j u q k o p. absurd (omega arith),
  )
  up_to (suc n) = go (slice_get w.states n) refl (up_to n)
    where
      go : (m : Option State) → slice_get w.states n ≡ m → (t : State) × Reaches w i s t × HasAll n t → (t : State) × Reaches w i s t × HasAll (suc n) t
      go None e a = (
        a.0,
        a.1,
        λ j u q k o p. bool_cases (j == n) (λ c. let d : slice_get w.states j ≡ None = ap (slice_get w.states) (eq_is j n c) ∙ e in absurd (cc)) (λ c. a.2 j u (below j n q (eq_not j n c)) k o p),
      )
      go (Some z) e a =
          let its = g.member n z e in
          let b = all_of z.history its.legal (its.members ∙ sym (g.member i s h).members) its.home a.0 a.1 in (
            b.0,
            b.1,
            λ j u q k o p. bool_cases (j == n)
                (λ c. let d : u ≡ z = some_is u z (sym k ∙ (ap (slice_get w.states) (eq_is j n c) ∙ e)) in b.3 o (subst (λ (y : State). IsIn o (ops y.history)) d p))
                (λ c. front_ops (a.0).history (b.0).history b.2 o (a.2 j u (below j n q (eq_not j n c)) k o p)),
          )

  -- one that goes on from this member's
  pub grown_history : (M : History) × IsGathered w M × IsFront s.history M
  grown_history =
      let r = up_to (length w.states) in (
        (r.0).history,
        (
          (((r.1).good).member i r.0 (get_set_same w.states i s r.0 h)).legal,
          λ o. (λ p. let k = (r.1).known o p in (o.author, k.0, k.1, k.2), λ k. r.2 k.0 k.1 (got_below w.states k.0 k.1 k.2) k.2 o k.3),
        ),
        (r.1).grows,
      )

  pub one_history : (M : History) × IsGathered w M
  one_history = (grown_history.0, grown_history.1)

none_there : (xs : List State) → slice_get xs 0 ≡ None → length xs ≡ 0
none_there [] e = refl
none_there (x ∷ xs) e = absurd (cc)

pub law : Gathered
law w hs a = go (slice_get w.states 0) refl
  where
    go : (m : Option State) → slice_get w.states 0 ≡ m → (M : History) × IsGathered w M
    go (Some s) e = one_history w 0 s (good_after w hs a) e
    go None e = (
      history.Fresh a.0 0 a.1,
      ((a.2, a.3, a.4), λ o. (λ p. absurd p, λ k. let b = got_below w.states k.0 k.1 k.2 in let n = none_there w.states e in absurd (omega arith))),
    )
