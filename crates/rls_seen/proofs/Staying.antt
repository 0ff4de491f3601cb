-- A replica is sane at first, and stays sane where it receives, releases and notes.
use Rattle.std.proofs.Common.{◌≡◌, ℕ, zero, suc, ◌<◌, ◌≤◌, ◌==◌, ◌||◌, ◌&&◌, not, nat_le, slice_index, Bool, true, false, cond, List, [], length, replicate, get_or, set, refl, sym, ap, ◌∙◌, subst, arith, Option, Some, None}
use Rattle.std.specs.Prelude.{All}
use Rattle.std.proofs.lemmas.List.{get_or-set_same, get_or-set_other, get_or-replicate, get_or_past, length-replicate}
use Rattle.rls_ident.specs.declared.epoch_name.EpochName.TheVariants.{Origin, Of}
use Rattle.rls_ident.specs.declared.epoch_name.EpochName.{EpochName}
use Rattle.rls_ident.specs.EpochNames.{name_eq}
use Rattle.rls_ident.specs.Lists.{IsIn}
use Rattle.rls_ident.specs.Vectors.{at_most, join}
use Rattle.rls_ident.proofs.Members.{bool_cases, true_false, and_left, and_right, eq_is, eq_not, le_is, not_le_is, found_in}
use Rattle.rls_ident.proofs.Vectors.{at_most_refl, at_most_trans, zeros_below, index-join}
use Rattle.rls_ident.proofs.Named.{within_more}
use Rattle.rls_ops.specs.declared.op.Op.{Op}
use Rattle.rls_ops.specs.Rows.{row_of, left, stable_of, noted}
use Rattle.rls_ops.specs.Rows as rows
use Rattle.rls_ops.proofs.KeptRows.{row_length, starting_rows, noted_rows, length-row}
use Rattle.rls_model.specs.Answers.{Reason, Answer, Applies, Repeats, Waits, Refuses}
use Rattle.rls_model.specs.Legal.{AreNumbers}
use Rattle.rls_model.specs.Receiving.{without, with_waiting}
use Rattle.rls_model.specs.WellFormed.{IsSmall, IsOp}
use Rattle.rls_seen.specs.Seen.{Seen, vector, members, fresh}
use Rattle.rls_seen.specs.Over.{holding, after_answer, answer_over, received, replayed, refusal_over, first_ready, after_refusal, after_release, released, released_times, released_all, acknowledged}
use Rattle.rls_seen.specs.Sane.{IsSane, IsCounted, IsInRange, AreHeld, IsLogOf, MayApply, MayWait}
use Rattle.rls_seen.proofs.Applied.{accepted_sane, missing_less}
use Rattle.rls_seen.proofs.Held.{IsHeld, held_at, held_without, held_with}
use Rattle.rls_seen.proofs.Receiving.{applies, waits}
use Rattle.rls_seen.proofs.StableRows.{stable_most, stable_noted}

-- ---- at first

abbrev zeros : ℕ → List ℕ
zeros n = replicate n 0

zero_at : (n k : ℕ) → slice_index (zeros n) k ≡ 0
zero_at zero k = refl
zero_at (suc n) zero = refl
zero_at (suc n) (suc k) = zero_at n k

small_zeros : (n : ℕ) → All IsSmall (zeros n)
small_zeros n = λ k d l. let e : length (zeros n) ≡ n = length-replicate n 0 in subst IsSmall (sym (get_or-replicate n k 0 d (omega arith))) (omega arith)

zero_row : (k m a : ℕ) → slice_index (get_or (replicate k (zeros m)) a []) a ≡ 0
zero_row k m a =
    bool_cases (nat_le k a)
    (λ e. let x = le_is k a e in let y : length (replicate k (zeros m)) ≡ k = length-replicate k (zeros m) in ap (λ r. slice_index r a) (get_or_past (replicate k (zeros m)) a [] (omega arith)))
    (λ e. ap (λ r. slice_index r a) (get_or-replicate k a (zeros m) [] (not_le_is k a e)) ∙ zero_at m a)

own_at : (n me a : ℕ) → slice_index (row_of (rows.starting_at me (zeros n)) a) a ≤ slice_index (zeros n) a
own_at n me a = go (a == me) (zero_row (length (zeros n)) (length (zeros n)) a)
  where
    others : List (List ℕ)
    others = replicate (length (zeros n)) (zeros (length (zeros n)))

    go : (b : Bool) → slice_index (get_or others a []) a ≡ 0 → slice_index (cond b (zeros n) (get_or others a [])) a ≤ slice_index (zeros n) a
    go true e = omega arith
    go false e = omega arith

only_origin : (e : EpochName) → (name_eq e Origin || false) ≡ true → Origin ≡ e
only_origin Origin h = refl
only_origin (Of r q) h = absurd (cc)

zeros_stable : (n me : ℕ) → me < length (zeros n) → at_most (zeros n) (stable_of (rows.starting_at me (zeros n))) ≡ true
zeros_stable n me l =
    let acks = rows.starting_at me (zeros n) in
    let r = starting_rows me (zeros n) l in
    stable_most (zeros n) acks (at_most_refl (zeros n)) (λ a k w. zeros_below n (row_of acks a) (length-row acks a r k ∙ length-replicate n 0))

pub fresh_sane : (group me n : ℕ) → AreNumbers group me n → IsSane (fresh group me n)
fresh_sane group me n l =
    let e : length (zeros n) ≡ n = length-replicate n 0 in
    let inside = l.1 in
    let few = l.2 in
    let acks = rows.starting_at me (zeros n) in
    record {
      group = l.0;
      few = omega arith;
      small = small_zeros n;
      rows = starting_rows me (zeros n) (omega arith);
      own = λ a k. own_at n me a;
      stems = tt;
      epochs = record {
        nodes = tt;
        below = tt;
        counted = λ e k. subst (IsCounted (zeros n)) (only_origin e k) tt;
        few = λ x p. absurd p;
        covered = λ x p. absurd p;
      };
      within = (Origin, refl, refl);
      idents = (refl, refl);
      used = λ x p. absurd p;
      waiting = tt;
      log = (zeros n, record { stable = zeros_stable n me (omega arith); follow = refl });
      unstable = λ x p. absurd p;
      leaves = λ x p. absurd p;
      total = omega arith;
      former = omega arith;
    }

-- ---- receiving

-- these operations wait
pub holding_sane : (s : Seen) (W : List Op) → IsSane s → AreHeld (members s) (vector s) W → IsSane (holding s W)
unfolding holding
holding_sane s W h w =
    let log : (from : List ℕ) × IsLogOf (holding s W) from = (h.log.0, record { stable = h.log.1.stable; follow = h.log.1.follow }) in
    assumption

-- one more waits
pub put_sane : (s : Seen) (o : Op) → IsSane s → MayWait s o → IsInRange o.body → IsSane (holding s (with_waiting o (without o.author o.seq s.waiting)))
put_sane s o h m r =
    holding_sane s (with_waiting o (without o.author o.seq s.waiting)) h
    (held_with (members s) (vector s) o s.waiting (record { whole = m.whole; range = r; shape = m.shape; above = m.above }) h.waiting)

-- one fewer waits
pub forgotten_sane : (s : Seen) (a q : ℕ) → IsSane s → IsSane (holding s (without a q s.waiting))
forgotten_sane s a q h = holding_sane s (without a q s.waiting) h (held_without (members s) (vector s) a q s.waiting h.waiting)

answer_sane : (own : Bool) (s : Seen) (o : Op) → IsSane s → IsOp o → IsInRange o.body → (a : Answer) → answer_over own s o ≡ a → IsSane (after_answer a s o)
answer_sane own s o h w r Applies e = accepted_sane s o h (applies own s o w e) r
answer_sane own s o h w r Waits e = put_sane s o h (waits own s o w e) r
answer_sane own s o h w r Repeats e = h
answer_sane own s o h w r (Refuses x) e = h

pub received_sane : (s : Seen) (o : Op) → IsSane s → IsOp o → IsInRange o.body → IsSane (received s o)
unfolding received
received_sane s o h w r = answer_sane false s o h w r (answer_over false s o) refl

pub replayed_sane : (s : Seen) (o : Op) → IsSane s → IsOp o → IsInRange o.body → IsSane (replayed s o)
unfolding replayed
replayed_sane s o h w r = answer_sane true s o h w r (answer_over true s o) refl

-- ---- releasing

-- the first ready operation
pub record IsReady (s : Seen) (w : Op) : Type 0 where
  pub held : IsHeld (members s) (vector s) w
  pub causes : at_most w.context (vector s) ≡ true
  pub there : IsIn w s.waiting

pub ready : (s : Seen) (w : Op) → IsSane s → first_ready s ≡ Some w → IsReady s w
ready s w h e =
    let p = found_in (λ x. at_most x.context (vector s)) w s.waiting e in
    record { held = held_at (members s) (vector s) s.waiting w h.waiting p.0; causes = p.1; there = p.0 }

-- a ready one that nothing refuses may be applied
pub ready_may : (s : Seen) (w : Op) → IsSane s → first_ready s ≡ Some w → refusal_over s w ≡ None → MayApply s w
ready_may s w h e f =
    let r = ready s w h e in
    record { whole = r.held.whole; shape = r.held.shape; above = r.held.above; causes = r.causes; fits = f }

refusal_sane : (s : Seen) (w : Op) → IsSane s → first_ready s ≡ Some w → (r : Option Reason) → refusal_over s w ≡ r → IsSane (after_refusal r s w)
refusal_sane s w h e None f = accepted_sane s w h (ready_may s w h e f) (ready s w h e).held.range
refusal_sane s w h e (Some r) f = forgotten_sane s w.author w.seq h

release_sane : (s : Seen) → IsSane s → (o : Option Op) → first_ready s ≡ o → IsSane (after_release s o)
release_sane s h None e = h
release_sane s h (Some w) e = refusal_sane s w h e (refusal_over s w) refl

pub released_sane : (s : Seen) → IsSane s → IsSane (released s)
unfolding released
released_sane s h = release_sane s h (first_ready s) refl

pub times_sane : (n : ℕ) (s : Seen) → IsSane s → IsSane (released_times n s)
times_sane zero s h = h
times_sane (suc n) s h = times_sane n (released s) (released_sane s h)

pub released_all_sane : (s : Seen) → IsSane s → IsSane (released_all s)
unfolding released_all
released_all_sane s h = times_sane (length s.waiting) s h

-- ---- acknowledgements

noted_own : (s : Seen) (a : ℕ) (v : List ℕ) → IsSane s → a < members s → length v ≡ members s → slice_index v a ≤ slice_index (vector s) a → (c : ℕ) → c < members s
    → slice_index (row_of (noted s.acks a v) c) c ≤ slice_index (vector s) c
noted_own s a v h l e below c m = go (c == s.acks.me) refl (h.own c m)
  where
    old : List ℕ
    old = get_or s.acks.others a []

    new : List ℕ
    new = join old v

    inside : a < length s.acks.others
    inside = let r = h.rows.rows in omega arith

    joined : (x : Bool) → (a == s.acks.me) ≡ x → slice_index (cond x (vector s) old) a ≤ slice_index (vector s) a → a ≡ c → (c == s.acks.me) ≡ false → slice_index new c ≤ slice_index (vector s) c
    joined true f k q g = absurd (true_false (a == s.acks.me) f (ap (λ d. d == s.acks.me) q ∙ g))
    joined false f k q g =
        let i = index-join old v a (row_length (members s) s.acks.others a [] h.rows.counts_are inside ∙ sym e) in
        subst (λ d. slice_index new d ≤ slice_index (vector s) d) q (omega arith)

    other : (c == s.acks.me) ≡ false → slice_index (get_or s.acks.others c []) c ≤ slice_index (vector s) c → slice_index (get_or (set s.acks.others a new) c []) c ≤ slice_index (vector s) c
    other g k =
        bool_cases (c == a)
        (λ f. let q : a ≡ c = sym (eq_is c a f) in
        let r : get_or (set s.acks.others a new) c [] ≡ new = subst (λ d. get_or (set s.acks.others a new) d [] ≡ new) q (get_or-set_same s.acks.others a new [] inside) in
        subst (λ w. slice_index w c ≤ slice_index (vector s) c) (sym r) (joined (a == s.acks.me) refl (h.own a l) q g))
        (λ f. subst (λ w. slice_index w c ≤ slice_index (vector s) c) (sym (get_or-set_other s.acks.others a c new [] (eq_not c a f))) k)

    go : (x : Bool) → (c == s.acks.me) ≡ x → slice_index (cond x (vector s) (get_or s.acks.others c [])) c ≤ slice_index (vector s) c → slice_index (cond x (vector s) (get_or (set s.acks.others a new) c [])) c ≤ slice_index (vector s) c
    go true g k = k
    go false g k = other g k

noted_sane : (s : Seen) (a : ℕ) (v : List ℕ) → IsSane s → a < members s → length v ≡ members s → slice_index v a ≤ slice_index (vector s) a
    → IsSane (record { group = s.group; acks = noted s.acks a v; stems = s.stems; epochs = s.epochs; text = s.text; waiting = s.waiting; log = s.log })
noted_sane s a v h l e below =
    let grows = stable_noted s.acks a v h.rows l e in
    record {
      group = h.group;
      few = h.few;
      small = h.small;
      rows = noted_rows s.acks a v h.rows l e;
      own = noted_own s a v h l e below;
      stems = h.stems;
      epochs = h.epochs;
      within = (h.within.0, h.within.1, within_more h.within.0 (stable_of s.acks) (stable_of (noted s.acks a v)) grows h.within.2);
      idents = h.idents;
      used = h.used;
      waiting = h.waiting;
      log = (h.log.0, record { stable = at_most_trans h.log.0 (stable_of s.acks) (stable_of (noted s.acks a v)) h.log.1.stable grows; follow = h.log.1.follow });
      unstable = λ x p. h.unstable x (missing_less (stable_of s.acks) (stable_of (noted s.acks a v)) s.log x grows p);
      leaves = λ x p q. let r = h.leaves x p q in record { left = r.left; last = r.last };
      total = h.total;
      former = h.former;
    }

pub acknowledged_sane : (s : Seen) (a : ℕ) (v : List ℕ) → IsSane s → a < members s → length v ≡ members s → IsSane (acknowledged s a v)
unfolding acknowledged
acknowledged_sane s a v h l e = go (rows.counts s.acks a v) refl
  where
    go : (x : Bool) → rows.counts s.acks a v ≡ x → IsSane (record { group = s.group; acks = cond x (noted s.acks a v) s.acks; stems = s.stems; epochs = s.epochs; text = s.text; waiting = s.waiting; log = s.log })
    go true f =
        let b = not (a == s.acks.me) in
        let c = nat_le (slice_index v a) (slice_index s.acks.mine a) in
        noted_sane s a v h l e (le_is (slice_index v a) (slice_index s.acks.mine a) (and_right b c (and_left (b && c) (not (at_most v (row_of s.acks a))) f)))
    go false f = h
