-- The operations of the replica that has given parts.
use Rattle.std.proofs.Common.{◌≡◌, ℕ, suc, ◌+◌, ◌<◌, ◌==◌, ◌&&◌, ◌||◌, not, nat_lt, slice_index, Bool, true, false, cond, List, [], ◌∷◌, length, refl, sym, ap, ◌∙◌, subst, arith, inl, inr, Option, Some, None}
use Rattle.std.specs.List.{list_all}
use Rattle.rls_ident.specs.EpochNames.{name_eq}
use Rattle.rls_ident.specs.Lists.{IsIn}
use Rattle.rls_ident.specs.Vectors.{at_most, raise}
use Rattle.rls_ident.proofs.Members.{and_left, and_right, and_true, eq_is, lt_is, in_any, not_le_test, eq_not, not_is}
use Rattle.rls_ident.proofs.Named.{name_eq_is}
use Rattle.rls_ident.proofs.Vectors.{at_most_refl, at_most_trans, at_most-raise, index_le}
use Rattle.rls_ops.specs.declared.op.Op.{Op}
use Rattle.rls_ops.specs.Rows.{missing_for, is_covered}
use Rattle.rls_ops.specs.Shapes.{shape_fault}
use Rattle.rls_ops.proofs.Equal.{numbers_are}
use Rattle.rls_ops.proofs.Waiting.{before_trans}
use Rattle.rls_model.specs.declared.parts.Parts.{Parts}
use Rattle.rls_model.specs.History.{is_leave}
use Rattle.rls_model.specs.Receiving.{comes_before}
use Rattle.rls_model.specs.WellFormed.{IsOp}
use Rattle.rls_model.proofs.OneTree.{author_below}
use Rattle.rls_seen.specs.Sane.{AreHeld, Follow, IsInRange, IsLast, IsLogOf}
use Rattle.rls_seen.specs.Seen.{stable_over, unstable_over}
use Rattle.rls_parts.specs.Given.{AreGiven}
use Rattle.rls_parts.specs.Reading.{has_member, names_of, stable_of_parts}
use Rattle.rls_parts.specs.Restored.{acks_of, seen_of}
use Rattle.rls_parts.specs.Rules.{is_fine, log_fault, is_next, is_kept_name, is_last, raised_by, ends_at_vector, held_fault, may_wait, waits_behind}
use Rattle.rls_parts.proofs.Passing.{log_first, held_first}
use Rattle.rls_parts.proofs.RestoredRows.{left_given, stable_given}

-- ---- an unstable operation

pub fine_none : {A : Type 0} (f : Option A) → is_fine f ≡ true → f ≡ None
fine_none None h = refl
fine_none (Some x) h = absurd (cc)

-- what the rule says of it
record IsNextOp (p : Parts) (v : List ℕ) (o : Op) : Type 0 where
  shape : shape_fault p.members o ≡ None
  next : o.seq ≡ slice_index v o.author + 1
  causes : at_most o.context v ≡ true
  kept : is_kept_name p o.epoch ≡ true
  last : is_last p o ≡ true

next_of : (p : Parts) (v : List ℕ) (o : Op) → is_next p v o ≡ true → IsNextOp p v o
next_of p v o h =
    let a = is_fine (shape_fault p.members o) in
    let b = o.seq == slice_index v o.author + 1 in
    let c = at_most o.context v in
    let d = is_kept_name p o.epoch in
    let e = is_last p o in
    let h4 = and_left (a && b && c && d) e h in
    let h3 = and_left (a && b && c) d h4 in
    let h2 = and_left (a && b) c h3 in
    record {
      shape = fine_none (shape_fault p.members o) (and_left a b h2);
      next = eq_is o.seq (slice_index v o.author + 1) (and_right a b h2);
      causes = and_right (a && b) c h3;
      kept = and_right (a && b && c) d h4;
      last = and_right (a && b && c && d) e h;
    }

-- ---- the log

follow_of : (p : Parts) (v : List ℕ) (i : ℕ) (os : List Op) → log_fault p v i os ≡ None → ((o : Op) → IsIn o os → IsOp o) → Follow p.members v os (raised_by v os)
follow_of p v i [] h w = refl
follow_of p v i (o ∷ os) h w =
    let r = log_first p v i o os h in
    let n = next_of p v o r.0 in
    (w o (inl refl), n.shape, n.next, n.causes, follow_of p (raise v o.author) (suc i) os r.1 (λ q k. w q (inr k)))

-- none is covered by the vector from which they lead
all_missing : (p : Parts) (from v : List ℕ) (i : ℕ) (os : List Op) → at_most from v ≡ true → log_fault p v i os ≡ None → missing_for from os ≡ os
all_missing p from v i [] l h = refl
all_missing p from v i (o ∷ os) l h =
    let r = log_first p v i o os h in
    let n = (next_of p v o r.0).next in
    let k = index_le from v o.author l in
    let e : is_covered from o ≡ false = not_le_test o.seq (slice_index from o.author) (omega arith) in
    ap (λ b. cond (not b) (o ∷ missing_for from os) (missing_for from os)) e
    ∙ ap (λ qs. o ∷ qs) (all_missing p from (raise v o.author) (suc i) os (at_most_trans from v (raise v o.author) l (at_most-raise v o.author)) r.1)

pub stable_restored : (p : Parts) → AreGiven p → stable_over (seen_of p) ≡ stable_of_parts p
unfolding seen_of
stable_restored p g = stable_given p g

pub unstable_restored : (p : Parts) → AreGiven p → log_fault p (stable_of_parts p) 0 p.log ≡ None → unstable_over (seen_of p) ≡ p.log
unfolding seen_of
unstable_restored p g h = ap (λ v. missing_for v p.log) (stable_given p g) ∙ all_missing p (stable_of_parts p) (stable_of_parts p) 0 p.log (at_most_refl (stable_of_parts p)) h

pub log_restored : (p : Parts) → AreGiven p → ((o : Op) → IsIn o p.log → IsOp o) → log_fault p (stable_of_parts p) 0 p.log ≡ None → ends_at_vector p ≡ true → (from : List ℕ) × IsLogOf (seen_of p) from
unfolding seen_of
log_restored p g w h e =
    let v = stable_of_parts p in (
      v,
      record {
        stable = ap (at_most v) (stable_given p g) ∙ at_most_refl v;
        follow = subst (λ n. Follow n v p.log p.vector) (sym g.vector) (subst (Follow p.members v p.log) (numbers_are (raised_by v p.log) p.vector e) (follow_of p v 0 p.log h w));
      },
    )

-- what the rule says of each operation, wherever it stands
each_next : (p : Parts) (v : List ℕ) (i : ℕ) (os : List Op) → log_fault p v i os ≡ None → (o : Op) → IsIn o os → (u : List ℕ) × IsNextOp p u o
each_next p v i [] h o q = absurd q
each_next p v i (x ∷ os) h o (inl e) = (v, subst (IsNextOp p v) e (next_of p v x (log_first p v i x os h).0))
each_next p v i (x ∷ os) h o (inr q) = each_next p (raise v x.author) (suc i) os (log_first p v i x os h).1 o q

-- its epoch is one of the list
pub epoch_named : (p : Parts) (v : List ℕ) → log_fault p v 0 p.log ≡ None → (o : Op) → IsIn o p.log → IsIn o.epoch (names_of p.epochs)
epoch_named p v h o q =
    let n = (each_next p v 0 p.log h o q).1 in
    let r = in_any (λ f. name_eq f o.epoch) (names_of p.epochs) n.kept in
    subst (λ f. IsIn f (names_of p.epochs)) (name_eq_is r.0 o.epoch r.2) r.1

last_go : (b c : Bool) → (not b || c) ≡ true → b ≡ true → c ≡ true
last_go true c h e = h
last_go false c h e = absurd (cc)

-- a leave is its author's last operation
pub leave_restored : (p : Parts) → AreGiven p → (v : List ℕ) → log_fault p v 0 p.log ≡ None → (o : Op) → IsIn o p.log → is_leave o.body ≡ true → IsLast (acks_of p) o
leave_restored p g v h o q l =
    let n = (each_next p v 0 p.log h o q).1 in
    let a = has_member p.left o.author in
    let b = o.seq == slice_index p.vector o.author in
    let k = last_go (is_leave o.body) (a && b) n.last l in
    record {
      left = left_given p o.author (author_below p.members o n.shape) ∙ and_left a b k;
      last = eq_is o.seq (slice_index p.vector o.author) (and_right a b k);
    }

-- ---- what waits

-- what the test says of one that waits
pub record MayWait (members me : ℕ) (v : List ℕ) (before : Option Op) (o : Op) : Type 0 where
  pub shape : shape_fault members o ≡ None
  pub other : o.author ≡ me → ⊥
  pub above : slice_index v o.author < o.seq
  pub behind : waits_behind before o ≡ true
  pub causes : at_most o.context v ≡ false

pub may_wait_is : (members me : ℕ) (v : List ℕ) (before : Option Op) (o : Op) → may_wait members me v before o ≡ true → MayWait members me v before o
may_wait_is members me v before o e =
    let a = is_fine (shape_fault members o) in
    let b = not (o.author == me) in
    let c = nat_lt (slice_index v o.author) o.seq in
    let d = waits_behind before o in
    let f = not (at_most o.context v) in
    let p = and_left (a && b && c && d) f e in
    let q = and_left (a && b && c) d p in
    let r = and_left (a && b) c q in
    record {
      shape = fine_none (shape_fault members o) (and_left a b r);
      other = eq_not o.author me (not_is (o.author == me) (and_right a b r));
      above = lt_is (slice_index v o.author) o.seq (and_right (a && b) c q);
      behind = and_right (a && b && c) d p;
      causes = not_is (at_most o.context v) (and_right (a && b && c && d) f e);
    }

waits : (p : Parts) (before : Option Op) (o : Op) → may_wait p.members p.me p.vector before o ≡ true → MayWait p.members p.me p.vector before o
waits p before o h = may_wait_is p.members p.me p.vector before o h

-- what comes before one of them comes before all after it
before_all : (p : Parts) (q w : Op) (i : ℕ) (ws : List Op) → comes_before q w ≡ true → held_fault p (Some w) i ws ≡ None → list_all (comes_before q) ws ≡ true
before_all p q w i [] b h = refl
before_all p q w i (x ∷ ws) b h =
    let r = held_first p (Some w) i x ws h in
    let c = before_trans q w x b (waits p (Some w) x r.0).behind in
    and_true (comes_before q x) (list_all (comes_before q) ws) c (before_all p q x (suc i) ws c r.1)

behind_all : (p : Parts) (w : Op) (i : ℕ) (ws : List Op) → held_fault p (Some w) i ws ≡ None → list_all (comes_before w) ws ≡ true
behind_all p w i [] h = refl
behind_all p w i (x ∷ ws) h =
    let r = held_first p (Some w) i x ws h in
    let b = (waits p (Some w) x r.0).behind in
    and_true (comes_before w x) (list_all (comes_before w) ws) b (before_all p w x (suc i) ws b r.1)

pub held_go : (p : Parts) (before : Option Op) (i : ℕ) (ws : List Op) → held_fault p before i ws ≡ None → ((o : Op) → IsIn o ws → IsOp o × IsInRange o.body) → AreHeld p.members p.vector ws
held_go p before i [] h w = tt
held_go p before i (x ∷ ws) h w =
    let r = held_first p before i x ws h in
    let n = waits p before x r.0 in
    let k = w x (inl refl) in
    (k.0, k.1, n.shape, n.above, behind_all p x (suc i) ws r.1, held_go p (Some x) (suc i) ws r.1 (λ o q. w o (inr q)))

pub held_restored : (p : Parts) → AreGiven p → ((o : Op) → IsIn o p.held → IsOp o × IsInRange o.body) → held_fault p None 0 p.held ≡ None → AreHeld (length p.vector) p.vector p.held
held_restored p g w h = subst (λ n. AreHeld n p.vector p.held) (sym g.vector) (held_go p None 0 p.held h w)
