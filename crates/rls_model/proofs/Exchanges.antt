-- Each message by told counts brings something, until nothing is missing.
use Rattle.std.proofs.Common.{◌≡◌, ℕ, zero, suc, ◌<◌, ◌≤◌, ◌+◌, Bool, true, false, cond, List, [], ◌∷◌, ◌++◌, length, max, refl, sym, ap, ◌∙◌, subst, arith, inl, inr, ◌⊎◌, ⊎_elim, append-nil}
use Rattle.std.specs.Prelude.{not, nat_le, ◌==◌, filter, if◌then◌else◌, slice_get, slice_index, slice_set, Option, Some, None, IsFalse}
use Rattle.std.proofs.lemmas.List.{get_or-set_same, get_or-set_other}
use Rattle.std.proofs.lemmas.List.Elements.{filter-append}
use Rattle.rls_ident.specs.Lists.{IsIn}
use Rattle.rls_ident.specs.Vectors.{at_most, join}
use Rattle.rls_ident.proofs.Members.{bool_cases, eq_is, eq_not, eq_test, in_left, in_right, le_is, le_test, not_found, snoc_split, true_false}
use Rattle.rls_ident.proofs.Vectors.{at_most_refl, at_most_trans, index-join, index_le, join_below, length-join}
use Rattle.rls_ops.specs.declared.op.Op.{Op}
use Rattle.rls_ops.specs.declared.message.Message.{Message}
use Rattle.rls_ops.specs.Rows.{missing_for}
use Rattle.rls_ops.specs.Sizes.{head_size, op_size, front_within}
use Rattle.rls_model.specs.History.{Accepted, Acknowledged, History, Then, ops, count, count_of, members_of, me_of, has_left, acknowledged, row}
use Rattle.rls_model.specs.History as history
use Rattle.rls_model.specs.Stability.{unstable, is_covered, stable}
use Rattle.rls_model.specs.Legal.{IsLegal}
use Rattle.rls_model.specs.Receiving.{State}
use Rattle.rls_model.specs.Rules.{told_of}
use Rattle.rls_model.specs.Taking.{take_within, take_message, told_row}
use Rattle.rls_model.specs.Worlds.{World, Happening, with_state, run, AreWhole}
use Rattle.rls_model.specs.Laws.{IsAfter, IsAt}
use Rattle.rls_model.specs.Exchanges.{AreTold, Brings, HasAll, HaveRoom, IsBrought, TurnsBring, exchange_at, exchanged, in_turn, told_within}
use Rattle.rls_model.proofs.Stable.{length-acknowledged, length-count, stable_row}
use Rattle.rls_model.proofs.OnePlace.{got_below}
use Rattle.rls_model.proofs.HistoryNumbers.{front_count, number_counted, with_number}
use Rattle.rls_model.proofs.OnePlace.{length-set}
use Rattle.rls_model.proofs.WorldsInvariant.{IsGood, IsMember, at_split, one_state}
use Rattle.rls_model.proofs.WorldsArrived.{message_there}
use Rattle.rls_model.proofs.WorldsGathered.{at_each, part_count}
use Rattle.rls_model.proofs.WorldsLaws.{good_after, posts, rests_after, sends_by, state_rests}
use Rattle.rls_model.proofs.WorldsPast.{taking_goes_on}
use Rattle.rls_model.proofs.MemberSteps.{taken_going}
use Rattle.rls_model.proofs.NothingReady.{IsAtRest, taken_done}
use Rattle.rls_model.proofs.Rounds.{covered_known, row_known}

-- what a member has of another one is at most what that one made
own_below : (w : World) (i j : ℕ) (s t : State) → IsGood w → IsAt w i s → IsAt w j t → count_of s.history j ≤ count_of t.history j
own_below w i j s t g h k = go (count_of s.history j) refl
  where
    go : (n : ℕ) → n ≡ count_of s.history j → n ≤ count_of t.history j
    go zero e = omega arith
    go (suc m) e =
        let x = with_number s.history (g.member i s h).legal j (suc m) (omega arith) (omega (arith, e)) in
        let home = (g.member i s h).home x.0 x.1 in
        let same : home.0 ≡ t = one_state w (x.0).author j home.0 t home.1 k x.2 in
        let c = (number_counted t.history (g.member j t k).legal x.0 (subst (λ (y : State). IsIn x.0 (ops y.history)) same home.2)).1 in
        let f : count_of t.history (x.0).author ≡ count_of t.history j = ap (count_of t.history) x.2 in
        let n = x.3 in
        omega arith

-- ---- what is missing

module _ (w : World) (i j : ℕ) (s t : State) (told : List ℕ) (g : IsGood w) (h : IsAt w i s) (k : IsAt w j t) (stays : has_left s.history j ≡ false) (are : AreTold told j t.history) where
  abbrev its : List ℕ
  its = told_of (count s.history) j told

  abbrev known : List ℕ
  known = told_row s.history j told

  same_members : members_of s.history ≡ members_of t.history
  same_members = (g.member i s h).members ∙ sym (g.member j t k).members

  counts_length : length (count s.history) ≡ length (count t.history)
  counts_length = length-count s.history ∙ (same_members ∙ sym (length-count t.history))

  its_length : length its ≡ length (count t.history)
  its_length = length-set told j (count_of s.history j) ∙ are.0

  below : j < length told
  below = let a = got_below w.states j t k in let b = (g.member j t k).members in let c = length-count t.history in let d = are.0 in omega arith

  its_own : slice_index its j ≡ count_of s.history j
  its_own = get_or-set_same told j (count_of s.history j) 0 below

  its_other : (a : ℕ) → (a ≡ j → ⊥) → slice_index its a ≡ count_of t.history a
  its_other a f = get_or-set_other told j a (count_of s.history j) 0 f ∙ are.1 a f

  its_at : (a : ℕ) → slice_index its a ≤ count_of t.history a
  its_at a = bool_cases (a == j)
      (λ e. let f = eq_is a j e in subst (λ n. slice_index its n ≤ count_of t.history n) (sym f) (let x = its_own in let y = own_below w i j s t g h k in omega arith))
      (λ e. let x = its_other a (eq_not a j e) in omega arith)

  row_length : length (row s.history j) ≡ length its
  row_length = bool_cases (j == me_of s.history)
      (λ e. ap (λ b. length (if b then count s.history else acknowledged s.history j)) e ∙ (counts_length ∙ sym its_length))
      (λ e. ap (λ b. length (if b then count s.history else acknowledged s.history j)) e ∙ (length-acknowledged s.history (g.member i s h).legal j ∙ (sym (length-count s.history) ∙ (counts_length ∙ sym its_length))))

  known_below : at_most known (count t.history) ≡ true
  known_below = join_below (row s.history j) its (count t.history) (row_known w i j s t g h k) (at_each its (count t.history) its_length its_at)

  stable_below : at_most (stable s.history) (count t.history) ≡ true
  stable_below = at_most_trans (stable s.history) (row s.history j) (count t.history) (stable_row s.history j (let a = below in let b = are.0 in let c = length-count t.history in let d = same_members in omega arith) stays) (row_known w i j s t g h k)

  -- what the other member has is known to be there
  told_covers : (o : Op) → IsIn o (ops s.history) → IsIn o (ops t.history) → is_covered known o ≡ true
  told_covers o p q =
      let x = (number_counted s.history (g.member i s h).legal o p).1 in
      let y = (number_counted t.history (g.member j t k).legal o q).1 in
      let z = index-join (row s.history j) its o.author row_length in
      let l : o.seq ≤ slice_index its o.author = bool_cases (o.author == j)
      (λ e. let f = eq_is o.author j e in let u = ap (slice_index its) f in let v = its_own in let n = ap (count_of s.history) f in omega arith)
      (λ e. let u = its_other o.author (eq_not o.author j e) in omega arith) in
      le_test o.seq (slice_index known o.author) (omega (arith, z, l))

  abbrev missing : List Op → List Op
  missing os = missing_for known (missing_for (stable s.history) os)

  missing_both : (os us : List Op) → missing (os ++ us) ≡ missing os ++ missing us
  missing_both os us = ap (missing_for known) (filter-append (λ o. not (is_covered (stable s.history) o)) os us) ∙ filter-append (λ o. not (is_covered known o)) (missing_for (stable s.history) os) (missing_for (stable s.history) us)

  -- the first of these operations that the other member lacks, and all of whose causes it has
  abbrev IsFirst : List Op → Type 0
  IsFirst os = (o : Op) × (rest : List Op) × (missing os ≡ o ∷ rest) × IsIn o (ops s.history) × (IsIn o (ops t.history) → ⊥) × (at_most o.context (count t.history) ≡ true)

  abbrev NoneLacks : History → Type 0
  NoneLacks Q = HasAll Q t.history × (missing (ops Q) ≡ [])

  first_missing : (Q : History) → IsLegal Q → members_of Q ≡ members_of t.history → HasAll Q s.history → NoneLacks Q ⊎ IsFirst (ops Q)
  first_missing (history.Fresh group me members) l e f = inl (λ o p. absurd p, refl)
  first_missing (Then G (Acknowledged c v)) l e f = first_missing G l.0 e f
  first_missing (Then G (Accepted u)) l e f =
      ⊎_elim
      (λ r. last r.0 r.1)
      (λ r. inr (r.0, r.1 ++ missing (u ∷ []), missing_both (ops G) (u ∷ []) ∙ ap (λ os. os ++ missing (u ∷ [])) r.2, r.3, r.4, r.5))
      (first_missing G l.0 e (λ o p. f o (in_left o (ops G) (u ∷ []) p)))
    where
      here : IsIn u (ops s.history)
      here = f u (in_right u (ops G) (u ∷ []) (inl refl))

      has : HasAll G t.history → IsIn u (ops t.history) → HasAll (Then G (Accepted u)) t.history
      has a p o q = ⊎_elim (λ x. a o x) (λ x. subst (λ (y : Op). IsIn y (ops t.history)) x p) (snoc_split o u (ops G) q)

      last : HasAll G t.history → missing (ops G) ≡ [] → NoneLacks (Then G (Accepted u)) ⊎ IsFirst (ops G ++ (u ∷ []))
      last a n =
          let whole : missing (ops G ++ (u ∷ [])) ≡ missing (u ∷ []) = missing_both (ops G) (u ∷ []) ∙ ap (λ os. os ++ missing (u ∷ [])) n in
          bool_cases (is_covered (stable s.history) u)
          (λ c. inl (has a (covered_known w i j s t u (stable s.history) g h k here stable_below c), whole ∙ ap (λ b. missing_for known (cond (not b) (u ∷ []) [])) c))
          (λ c. bool_cases (is_covered known u)
          (λ d. inl (has a (covered_known w i j s t u known g h k here known_below d), whole ∙ (ap (λ b. missing_for known (cond (not b) (u ∷ []) [])) c ∙ ap (λ b. cond (not b) (u ∷ []) []) d)))
          (λ d. inr (
            u,
            [],
            whole ∙ (ap (λ b. missing_for known (cond (not b) (u ∷ []) [])) c ∙ ap (λ b. cond (not b) (u ∷ []) []) d),
            here,
            λ q. true_false (is_covered known u) (told_covers u here q) d,
            at_most_trans u.context (count G) (count t.history) l.2.causes (part_count G t.history l.0 (g.member j t k).legal e a),
          )))

  -- ---- what the message brings

  module _ (limit : ℕ) (rests : IsAtRest t) (room : HaveRoom limit s.history) where
    abbrev message : Message
    message = told_within limit s.history j told

    abbrev after : State
    after = (take_message t message).state

    abbrev posted : World
    posted = record w { sent = w.sent ++ message ∷ [] }

    pub posted_good : IsGood posted
    posted_good = posts w message g (sends_by limit w i s known g h)

    -- an operation that is the first one of the message
    in_message : (o : Op) (rest : List Op) → missing (ops s.history) ≡ o ∷ rest → IsIn o (ops s.history) → IsIn o message.ops
    unfolding unstable
    in_message o rest e p =
        let head = head_size (members_of s.history) in
        subst (λ os. IsIn o (front_within head limit os)) (sym e)
        (subst (λ b. IsIn o (if b then o ∷ front_within (head + op_size o) limit rest else [])) (sym (le_test (head + op_size o) limit (room o p))) (inl refl))

    brought : (o : Op) → IsIn o message.ops → at_most o.context (count t.history) ≡ true → IsIn o (ops after.history)
    brought o p causes =
        let there = message_there posted j t message o posted_good k (in_right message w.sent (message ∷ []) (inl refl)) p in
        let later = at_most_trans o.context (count t.history) (count after.history) causes (front_count t.history after.history (taking_goes_on None t message)) in
        ⊎_elim (λ q. q) (λ q. absurd (true_false (at_most o.context (count after.history)) later (not_found (λ x. at_most x.context (count after.history)) o after.waiting (taken_done t message rests).1 q))) there

    pub brings : HasAll s.history t.history ⊎ IsBrought s.history t.history after.history
    brings = ⊎_elim
        (λ r. inl r.0)
        (λ r. inr (r.0, r.3, r.4, brought r.0 (in_message r.0 r.1 r.2 r.3) r.5))
        (first_missing s.history (g.member i s h).legal same_members (λ o p. p))

-- ---- in turn

-- what an exchange keeps
record GoodAtRest (w : World) : Type 0 where
  good : IsGood w
  rests : (i : ℕ) (s : State) → IsAt w i s → IsAtRest s

exchange_keeps : (limit : ℕ) (w : World) (i j : ℕ) (a b : Option State) → slice_get w.states i ≡ a → slice_get w.states j ≡ b → GoodAtRest w → GoodAtRest (exchange_at limit w j a b)
exchange_keeps limit w i j None None e f g = g
exchange_keeps limit w i j None (Some t) e f g = g
exchange_keeps limit w i j (Some s) None e f g = g
exchange_keeps limit w i j (Some s) (Some t) e f g =
    let m = told_within limit s.history j (count t.history) in
    let v : World = record w { sent = w.sent ++ m ∷ [] } in
    let good = posts w m g.good (sends_by limit w i s (told_row s.history j (count t.history)) g.good e) in
    record {
      good = (taken_going v j t m None good f (in_right m w.sent (m ∷ []) (inl refl))).good;
      rests = state_rests v j t (take_within None t m).state f g.rests (taken_done t m (g.rests j t f)).1;
    }

turns_keep : (limit n i j : ℕ) (w : World) → GoodAtRest w → GoodAtRest (in_turn limit n w i j)
turns_keep limit zero i j w g = g
turns_keep limit (suc n) i j w g = turns_keep limit n j i (exchanged limit w i j) (exchange_keeps limit w i j (slice_get w.states i) (slice_get w.states j) refl refl g)

pub law : TurnsBring
law limit n i j w hs a q a1 b s t told h k stays are room =
    let v = in_turn limit n w i j in
    let g = turns_keep limit n i j w (record { good = good_after w hs a; rests = rests_after w hs a q }) in
    brings v a1 b s t told g.good h k stays are limit (g.rests b t k) room
