-- What histories that members had tell others, and that who has heard of all operations has them.
use Rattle.std.proofs.Common.{◌≡◌, ℕ, ◌<◌, true, false, List, [], ◌∷◌, refl, sym, ap, ◌∙◌, subst, arith, inl, inr, ◌⊎◌, ⊎_elim}
use Rattle.std.specs.Prelude.{not, ◌==◌, ◌↔◌, filter, if◌then◌else◌, slice_index}
use Rattle.rls_ident.specs.Lists.{IsIn}
use Rattle.rls_ident.specs.Vectors.{at_most}
use Rattle.rls_ident.proofs.Members.{bool_cases, eq_is, filter_in, le_is}
use Rattle.rls_ident.proofs.Vectors.{at_most_antisym, at_most_trans, index_le}
use Rattle.rls_ops.specs.declared.op.Op.{Op}
use Rattle.rls_model.specs.History.{Accepted, Acknowledged, History, Then, ops, count, me_of, members_of, has_left, acknowledged, row}
use Rattle.rls_model.specs.History as history
use Rattle.rls_model.specs.Stability.{unstable, is_covered, stable}
use Rattle.rls_model.specs.Receiving.{State}
use Rattle.rls_model.specs.Taking.{missing_for}
use Rattle.rls_model.specs.Worlds.{World}
use Rattle.rls_model.specs.Laws.{HaveSameOps, IsAt, IsFront, IsGathered, IsPast, WasMade}
use Rattle.rls_model.specs.Rounds.{AreEqual}
use Rattle.rls_model.proofs.Stable.{length-count, stable_row}
use Rattle.rls_model.proofs.SameOps as same_ops
use Rattle.rls_model.proofs.OnePlace.{got_below}
use Rattle.rls_model.proofs.HistoryNumbers.{IsAck, acks_below, front_count, front_me, front_members, number_counted, with_number}
use Rattle.rls_model.proofs.WaitingFits.{waiting_at}
use Rattle.rls_model.proofs.WorldsInvariant.{IsGood, IsMember, one_state}
use Rattle.rls_model.proofs.WorldsArrivals.{one_op}
use Rattle.rls_model.proofs.WorldsArrived.{IsThere}
use Rattle.rls_model.proofs.WorldsGathered.{grown_history, part_count}
use Rattle.rls_model.proofs.NothingReady.{IsAtRest}
use Rattle.rls_model.proofs.Rounds.{all_known, none_in}
use Rattle.rls_passages.proofs.Lasting.{past_home, past_legal}

-- what was acknowledged stays so
front_acks : (P H : History) → IsFront P H → (a : ℕ) (v : List ℕ) → IsAck P a v → IsAck H a v
front_acks P (history.Fresh group me members) h a v p = subst (λ Q. IsAck Q a v) h p
front_acks P (Then G e) (inl h) a v p = subst (λ Q. IsAck Q a v) h p
front_acks P (Then G (Accepted o)) (inr h) a v p = front_acks P G h a v p
front_acks P (Then G (Acknowledged b w)) (inr h) a v p = inr (front_acks P G h a v p)

-- it has just the operations of all members, and nothing waits there
abbrev pub HasAll : World → State → Type 0
HasAll w s = ((o : Op) → IsIn o (ops s.history) ↔ WasMade w o) × (s.waiting ≡ [])

module _ (w : World) (g : IsGood w) where
  -- ---- what a row tells is known

  row_known : (i j : ℕ) (P : History) (t : State) → IsPast w i P → IsAt w j t → at_most (row P j) (count t.history) ≡ true
  row_known i j P t p k = bool_cases (j == me_of P) own other
    where
      s : State
      s = p.0

      r : IsMember w i s
      r = g.member i s p.1

      own : (j == me_of P) ≡ true → at_most (row P j) (count t.history) ≡ true
      own e =
          let same : s ≡ t = one_state w i j s t p.1 k (sym r.me ∙ (sym (front_me P s.history p.2) ∙ sym (eq_is j (me_of P) e))) in
          ap (λ b. at_most (if b then count P else acknowledged P j) (count t.history)) e ∙ front_count P t.history (subst (λ (x : State). IsFront P x.history) same p.2)

      ack : (v : List ℕ) → IsAck P j v → at_most v (count t.history) ≡ true
      ack v a =
          let c = r.acks j v (front_acks P s.history p.2 j v a) in
          let same : c.0 ≡ t = one_state w j j c.0 t c.2 k refl in
          ap (λ u. at_most u (count t.history)) (sym c.4) ∙ front_count c.1 t.history (subst (λ (x : State). IsFront c.1 x.history) same c.3)

      other : (j == me_of P) ≡ false → at_most (row P j) (count t.history) ≡ true
      other e =
          ap (λ b. at_most (if b then count P else acknowledged P j) (count t.history)) e
          ∙ acks_below P j (count t.history) (length-count t.history ∙ ((g.member j t k).members ∙ (sym r.members ∙ sym (front_members P s.history p.2)))) ack

  -- an operation of another member's history that a vector covers which tells no more than is known
  covered_known : (i j : ℕ) (P : History) (t : State) (o : Op) (v : List ℕ) → IsPast w i P → IsAt w j t → IsIn o (ops P) → at_most v (count t.history) ≡ true → is_covered v o ≡ true → IsIn o (ops t.history)
  covered_known i j P t o v p k m l c =
      let q = g.member j t k in
      let n = number_counted P (past_legal w g i P p) o m in
      let a = le_is o.seq (slice_index v o.author) c in
      let b = index_le v (count t.history) o.author l in
      let x = with_number t.history q.legal o.author o.seq n.0 (omega (arith, n.1, a, b)) in
      subst (λ y. IsIn y (ops t.history)) (one_op w x.0 o g (q.home x.0 x.1) (past_home w g i P p o m) x.2 x.3) x.1

  -- so what a member had is in the message that it made then for another one, or known there
  pub told_or_known : (i j : ℕ) (P : History) (t : State) (o : Op) → IsPast w i P → IsAt w j t → has_left P j ≡ false → IsIn o (ops P) → IsIn o (missing_for (row P j) (unstable P)) ⊎ IsIn o (ops t.history)
  unfolding unstable
  told_or_known i j P t o p k l m =
      bool_cases (is_covered (stable P) o)
      (λ c. inr (covered_known i j P t o (stable P) p k m (at_most_trans (stable P) (row P j) (count t.history) (stable_row P j below l) tells) c))
      (λ c. bool_cases (is_covered (row P j) o)
      (λ d. inr (covered_known i j P t o (row P j) p k m tells d))
      (λ d. inl (filter_in (λ x. not (is_covered (row P j) x)) o (filter (λ x. not (is_covered (stable P) x)) (ops P)) (filter_in (λ x. not (is_covered (stable P) x)) o (ops P) m (ap not c)) (ap not d))))
    where
      tells : at_most (row P j) (count t.history) ≡ true
      tells = row_known i j P t p k

      below : j < members_of P
      below =
          let a = got_below w.states j t k in
          let b = (g.member i p.0 p.1).members in
          let c = front_members P (p.0).history p.2 in
          omega (arith, a, b, c)

  -- ---- who has heard of all

  pub has_all : (i : ℕ) (s : State) → IsAt w i s → IsAtRest s → ((o : Op) → WasMade w o → IsThere s o) → HasAll w s
  has_all i s h rest f = (λ o. (λ p. (i, s, h, p), known o), none_in s.waiting waits_not)
    where
      me : IsMember w i s
      me = g.member i s h

      M : (M : History) × IsGathered w M × IsFront s.history M
      M = grown_history w i s g h

      members : members_of M.0 ≡ members_of s.history
      members = sym (front_members s.history M.0 M.2)

      known : (o : Op) → WasMade w o → IsIn o (ops s.history)
      known o k = all_known M.0 s M.1.0 me.legal members rest (λ x p. f x ((M.1.1 x).0 p)) o ((M.1.1 o).1 k)

      waits_not : (o : Op) → IsIn o s.waiting → ⊥
      waits_not o p =
          let k = me.waits o p in
          let c = (number_counted s.history me.legal o (known o (o.author, k.0, k.1, k.2))).1 in
          let d = (waiting_at s.history s.waiting o me.sound p).2 in
          omega (arith, c, d)

  -- members of which each has all are equal
  pub equal_all : (us : List ℕ) → ((n : ℕ) (s : State) → IsIn n us → IsAt w n s → HasAll w s) → AreEqual w us
  equal_all us each i j s t p k h e =
      let x = each i s p h in
      let y = each j t k e in
      let mine = g.member i s h in
      let its = g.member j t e in
      let same : HaveSameOps s.history t.history = λ o. (λ u. (y.0 o).1 ((x.0 o).0 u), λ u. (x.0 o).1 ((y.0 o).0 u)) in
      let members = mine.members ∙ sym its.members in
      let counts = at_most_antisym (count s.history) (count t.history) (part_count s.history t.history mine.legal its.legal members (λ o u. (same o).0 u)) (part_count t.history s.history its.legal mine.legal (sym members) (λ o u. (same o).1 u)) in
      (counts, same, same_ops.law s.history t.history mine.legal its.legal same, x.1, y.1)
