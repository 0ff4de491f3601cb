-- What a file keeps for operations that some member may not have.
use Rattle.std.proofs.Common.{◌≡◌, ◌+◌, ◌<◌, ◌≤◌, ◌||◌, ℕ, zero, suc, Bool, true, false, not, List, [], ◌∷◌, length, map, get_or, if◌then◌else◌, refl, sym, ap, ◌∙◌, subst, arith, inl, inr, ⊎_elim}
use Rattle.std.specs.Prelude.{◌==◌, slice_index, sum}
use Rattle.std.specs.Ordering.{is_lt}
use Rattle.std.specs.declared.cmp.Ordering.TheVariants.{Less}
use Rattle.rls_ident.specs.declared.epoch_name.EpochName.{EpochName}
use Rattle.rls_ident.specs.declared.epoch_name.EpochName.TheVariants.{Origin, Of}
use Rattle.rls_ident.specs.EpochNames.{is_within}
use Rattle.rls_ident.specs.Lists.{AreIn, IsIn}
use Rattle.rls_ident.specs.Vectors.{at_most, raise}
use Rattle.rls_ident.proofs.Members.{are_in, bool_cases, each_in, in_filter, in_split, le_test, not_is}
use Rattle.rls_ident.proofs.Vectors.{at_most_antisym, at_most_refl, length-raise, sum-raise}
use Rattle.rls_rename.specs.Connected.{AreConnected, AreRising, spanned}
use Rattle.rls_rename.specs.Keeping.{reached}
use Rattle.rls_rename.specs.Tree.{Node, epoch_cmp, greatest_within, is_kept, names}
use Rattle.rls_rename.proofs.Hull.{in_kept}
use Rattle.rls_rename.proofs.Kept.{greatest_kept}
use Rattle.rls_rename.proofs.Order.{less_self, level_same, within_is}
use Rattle.rls_rename.proofs.SameNodes.{greatest_top}
use Rattle.rls_rename.proofs.Smallest.{spanned_law}
use Rattle.rls_ops.specs.declared.op.Op.{Op}
use Rattle.rls_ops.specs.Rows.{awaited, awaits, left, row_of, stable_of}
use Rattle.rls_model.specs.Parts.{epoch_parts}
use Rattle.rls_model.proofs.OneTree.{author_below}
use Rattle.rls_model.proofs.Stable.{IsBelow, below_append, least_greatest}
use Rattle.rls_seen.specs.Kept.{needed_over, parts_over, retained_over}
use Rattle.rls_seen.specs.Sane.{Follow, IsCounted, IsSane}
use Rattle.rls_seen.specs.Seen.{Seen, greatest_over, members, stable_over, unstable_over, vector}
use Rattle.rls_seen.proofs.Logs.{follow_dropped, follow_length}
use Rattle.rls_seen.proofs.Sending.{length-stable}
use Rattle.rls_seen.proofs.StableRows.{stable_mine}
use Rattle.rls_file.specs.InFlight.{AllAcknowledged, InFlight}

-- ---- operations

-- one count for each operation
follow_count : (n : ℕ) (from : List ℕ) (os : List Op) (to : List ℕ) → length from ≡ n → Follow n from os to → length os + sum from ≡ sum to
follow_count n from [] to e f = let same = ap sum f in omega (arith, same)
follow_count n from (o ∷ os) to e f =
    let below = author_below n o f.1 in
    let rest = follow_count n (raise from o.author) os to (length-raise from o.author ∙ e) f.4 in
    let more = sum-raise from o.author (omega (arith, below, e)) in
    omega (arith, rest, more)

-- the unstable operations lead from the stable vector to the own one
unstable_follow : (s : Seen) → IsSane s → Follow (members s) (stable_over s) (unstable_over s) (vector s)
unstable_follow s h =
    let log = h.log in
    let size = length-stable s.acks h.rows in
    let from = follow_length (members s) log.0 s.log (vector s) log.1.follow in
    follow_dropped (members s) (stable_over s) log.0 s.log (vector s) (size ∙ sym from) size log.1.stable (stable_mine s.acks) log.1.follow

unstable_count : (s : Seen) → IsSane s → length (unstable_over s) + sum (stable_over s) ≡ sum (vector s)
unstable_count s h = follow_count (members s) (stable_over s) (unstable_over s) (vector s) (length-stable s.acks h.rows) (unstable_follow s h)

-- ---- where all is acknowledged

none_long : {A : Type 0} (xs : List A) → length xs ≡ 0 → xs ≡ []
none_long [] e = refl
none_long (x ∷ xs) e = absurd (omega (arith, e))

awaited_left : (b c : Bool) → (b || not c) ≡ true → b ≡ false → c ≡ false
awaited_left true c h e = absurd (cc)
awaited_left false true h e = absurd (cc)
awaited_left false false h e = refl

module _ (s : Seen) (h : IsSane s) (k : AllAcknowledged s) where
  row_above : (a : ℕ) → a < members s → awaits s.acks a ≡ true → at_most (vector s) (row_of s.acks a) ≡ true
  row_above a l e =
      bool_cases (a == s.acks.me) (λ f. subst (λ b. at_most s.acks.mine (if b then s.acks.mine else get_or s.acks.others a []) ≡ true) (sym f) (at_most_refl s.acks.mine)) (λ f. k a l (awaited_left (a == s.acks.me) (left s.acks a) e f))

  rows_above : (n : ℕ) → n ≤ members s → IsBelow (vector s) (awaited s.acks n)
  rows_above zero l = tt
  rows_above (suc n) l = below_append (vector s) (awaited s.acks n) (if awaits s.acks n then row_of s.acks n ∷ [] else []) (rows_above n (omega arith)) (go (awaits s.acks n) refl)
    where
      go : (b : Bool) → awaits s.acks n ≡ b → IsBelow (vector s) (if b then row_of s.acks n ∷ [] else [])
      go true e = (row_above n (omega arith) e, tt)
      go false e = tt

  all_stable : stable_over s ≡ vector s
  unfolding stable_of
  all_stable = at_most_antisym (stable_over s) (vector s) (stable_mine s.acks) (least_greatest (vector s) (vector s) (awaited s.acks (members s)) (at_most_refl (vector s)) (rows_above (members s) (omega arith)))

  none_unstable : unstable_over s ≡ []
  none_unstable = let n = unstable_count s h in let e = ap sum all_stable in none_long (unstable_over s) (omega (arith, n, e))

  -- ---- epochs

  abbrev ns : List Node
  ns = s.epochs.nodes

  abbrev top : EpochName
  top = s.epochs.top

  abbrev last : EpochName
  last = greatest_over s

  counted_within : (v : List ℕ) (e : EpochName) → IsCounted v e → is_within e v ≡ true
  counted_within v Origin c = refl
  counted_within v (Of r q) c = le_test q (slice_index v r) c.2

  last_within : greatest_within top ns (stable_over s) ≡ last
  last_within =
      let kept = greatest_kept top ns in
      within_is top ns (stable_over s) h.epochs.nodes h.epochs.below last kept (inr (subst (λ v. is_within last v ≡ true) (sym all_stable) (counted_within (vector s) last (h.epochs.counted last kept)))) (λ e p a. greatest_top top ns e p)

  -- only the greatest one must stay
  needed_last : (e : EpochName) → IsIn e (last ∷ needed_over s) → last ≡ e
  needed_last e (inl p) = p
  needed_last e (inr p) = ⊎_elim reached_last (λ q. absurd (subst (λ (os : List Op). IsIn e (map (λ o. o.epoch) os)) none_unstable q)) (in_split e (reached s.epochs (stable_over s)) (map (λ o. o.epoch) (unstable_over s)) p)
    where
      reached_last : IsIn e (reached s.epochs (stable_over s)) → last ≡ e
      reached_last q =
          let r = in_filter (λ f. not (is_lt (epoch_cmp ns f (greatest_within top ns (stable_over s))))) e (top ∷ names ns) q in
          let kept = in_kept top ns e r.0 in
          let test = subst (λ g. is_lt (epoch_cmp ns e g) ≡ false) last_within (not_is (is_lt (epoch_cmp ns e (greatest_within top ns (stable_over s)))) r.1) in
          level_same top ns h.epochs.nodes h.epochs.below last e (greatest_kept top ns) kept (greatest_top top ns e kept) (λ l. let x = ap is_lt l in absurd (cc))

  -- a rising list of one epoch alone
  alone : (es : List EpochName) → AreIn es (last ∷ []) → IsIn last es → AreRising ns es → es ≡ last ∷ []
  alone [] a p r = absurd p
  alone (e ∷ []) a p r = ⊎_elim (λ q. ap (λ x. x ∷ []) (sym q)) (λ q. absurd q) a.0
  alone (e ∷ (f ∷ es)) a p r = ⊎_elim (λ q. ⊎_elim (λ u. absurd (less_self ns last (subst (λ x. epoch_cmp ns last x ≡ Less) (sym u) (subst (λ x. epoch_cmp ns x f ≡ Less) (sym q) r.0)))) (λ u. absurd u) a.1.0) (λ q. absurd q) a.0

  last_retained : retained_over s ≡ last ∷ []
  unfolding retained_over
  last_retained =
      let kept = greatest_kept top ns in
      let law = spanned_law s.epochs last (needed_over s) (h.epochs.nodes, h.epochs.below) (λ e p. subst (λ x. is_kept top ns x ≡ true) (needed_last e p) kept) in
      let connected : AreConnected s.epochs last (last ∷ []) = (kept, inl refl, λ f p d. ⊎_elim (λ q. absurd (d (sym q))) (λ q. absurd q) p) in
      alone (spanned top ns last (needed_over s)) (law.2 last (last ∷ []) connected (are_in (last ∷ needed_over s) (last ∷ []) (λ e p. inl (needed_last e p)))) (each_in last (last ∷ needed_over s) (spanned top ns last (needed_over s)) law.1 (inl refl)) law.3

-- ---- the law

pub law : InFlight
unfolding parts_over
law s h = (unstable_count s h, λ k. (none_unstable s h k, ap (epoch_parts s.epochs.nodes) (last_retained s h k)))
