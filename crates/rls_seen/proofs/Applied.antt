-- A replica stays sane where an operation is accepted that may be applied.
use Rattle.std.proofs.Common.{◌≡◌, ℕ, ◌+◌, ◌^◌, ◌<◌, ◌≤◌, ◌==◌, ◌||◌, not, slice_index, Bool, true, false, cond, List, [], ◌∷◌, length, get_or, refl, sym, ap, ◌∙◌, subst, arith, inl, inr, ◌⊎◌, ⊎_elim}
use Rattle.std.specs.Prelude.{All, ◌&&◌, nat_lt, pos, sum, sum_by, ◌*◌}
use Rattle.std.proofs.lemmas.Grind.{get_or_default_zero}
use Rattle.rls_ident.specs.declared.limits.TheConstants.{IDENTIFIERS}
use Rattle.rls_ident.specs.declared.epoch_name.EpochName.{EpochName}
use Rattle.rls_ident.specs.declared.epoch_name.EpochName.TheVariants.{Origin, Of}
use Rattle.rls_ident.specs.EpochNames.{name_eq}
use Rattle.rls_ident.specs.Lists.{IsIn}
use Rattle.rls_ident.specs.Vectors.{at_most, raise}
use Rattle.rls_ident.proofs.Members.{bool_cases, true_false, and_true, eq_is, eq_not, eq_refl, or_left, or_right, le_is, le_test, not_is, not_lt_is, in_filter, filter_in}
use Rattle.rls_ident.proofs.Vectors.{length-raise, at_most_trans, raise_other, index-raise_same, index-raise_le, index_le}
use Rattle.rls_ident.proofs.Named.{within_more}
use Rattle.rls_rename.specs.Tree.{Node, Epochs, is_of, has_node, is_kept}
use Rattle.rls_rename.proofs.Kept.{kept_more}
use Rattle.rls_rename.proofs.Paths.{name_eq_is}
use Rattle.rls_ops.specs.declared.op.Op.{Op}
use Rattle.rls_ops.specs.declared.op.Body.{Body}
use Rattle.rls_ops.specs.declared.op.Body.TheVariants.{Insert, Delete, Rename, Leave}
use Rattle.rls_ops.specs.Rows.{AreRows, row_of, left, stable_of, is_covered, missing_for}
use Rattle.rls_ops.specs.Shapes.{body_limit, body_len}
use Rattle.rls_model.specs.declared.parts.Stem.{Stem}
use Rattle.rls_model.specs.Epochs.{nodes_after, renaming_of}
use Rattle.rls_model.specs.History.{is_leave}
use Rattle.rls_model.specs.Receiving.{without}
use Rattle.rls_model.specs.Stems.{stems_after}
use Rattle.rls_model.specs.WellFormed.{IsSmall}
use Rattle.rls_seen.specs.Seen.{Seen, vector, members}
use Rattle.rls_seen.specs.Over.{acks_after, epochs_after, logged, accepted, text_after}
use Rattle.rls_seen.specs.Sane.{IsSane, IsCounted, IsCovered, AreEpochs, IsInRange, IsLast, AreStems, AreHeld, Follow, MayApply}
use Rattle.rls_seen.proofs.Accepting.{acks_mine, places_after, row_after, left_after}
use Rattle.rls_seen.proofs.Fitting.{Facts, facts, stems_accepted}
use Rattle.rls_seen.proofs.Held.{held_accepted}
use Rattle.rls_seen.proofs.Logs.{either_below, follow_accepted, logged_split}
use Rattle.rls_seen.proofs.Sending.{length-stable}
use Rattle.rls_seen.proofs.Sizes.{total_after, former_after}
use Rattle.rls_seen.proofs.StableRows.{stable_accepted, stable_mine}
use Rattle.rls_seen.proofs.Written.{later_used, rename_covered, rename_tree, written_after}

-- ---- counts

index_at : (v : List ℕ) → All IsSmall v → (a : ℕ) → a < length v → IsSmall (slice_index v a)
index_at v h a l = h a 0 l

small_raised : (v : List ℕ) (a : ℕ) → a < length v → slice_index v a + 1 < 2 ^ 32 → All IsSmall v → All IsSmall (raise v a)
small_raised v a l n h = λ k d i.
    let e = get_or_default_zero (raise v a) k d i in
    let m : length (raise v a) ≡ length v = length-raise v a in
    subst IsSmall (sym e)
    (bool_cases (a == k)
    (λ f. let g = index-raise_same v a l in subst (λ b. IsSmall (slice_index (raise v a) b)) (eq_is a k f) (omega arith))
    (λ f. subst IsSmall (sym (raise_other v a k (eq_not a k f))) (index_at v h k (omega arith))))

-- no row counts more of its own member
own_after : (s : Seen) (a : ℕ) (b : Body) → AreRows s.acks → ((c : ℕ) → c < members s → slice_index (row_of s.acks c) c ≤ slice_index (vector s) c) → (c : ℕ) → c < members s
    → slice_index (row_of (acks_after s.acks a b) c) c ≤ slice_index (raise (vector s) a) c
own_after s a b h f c l =
    subst (λ r. slice_index r c ≤ slice_index (raise (vector s) a) c) (sym (row_after s.acks a b c)) (go (c == s.acks.me) (f c l))
  where
    go : (x : Bool) → slice_index (cond x s.acks.mine (get_or s.acks.others c [])) c ≤ slice_index s.acks.mine c → slice_index (cond x (raise s.acks.mine a) (get_or s.acks.others c [])) c ≤ slice_index (raise s.acks.mine a) c
    go true k = omega arith
    go false k = let m = index-raise_le s.acks.mine a c in omega arith

-- ---- epochs

counted_raised : (v : List ℕ) (a : ℕ) (e : EpochName) → IsCounted v e → IsCounted (raise v a) e
counted_raised v a Origin c = tt
counted_raised v a (Of r q) c =
    let l : length (raise v a) ≡ length v = length-raise v a in
    let m = index-raise_le v a r in
    let x = c.0 in
    let y = c.2 in
    (omega arith, c.1, omega arith)

same_epochs : (v : List ℕ) (a : ℕ) (ss ts : List Stem) (E : Epochs) → ((n : Node) → IsIn n E.nodes → IsCovered ts n) → AreEpochs v ss E → AreEpochs (raise v a) ts E
same_epochs v a ss ts E f h = record { nodes = h.nodes; below = h.below; counted = λ e k. counted_raised v a e (h.counted e k); few = h.few; covered = f }

still_covered : (s : Seen) (o : Op) → IsSane s → Facts s o → (n : Node) → IsIn n s.epochs.nodes → IsCovered (stems_after s.stems o.author o.seq o.body) n
still_covered s o sane f n p j l = later_used s o sane f n.renaming.replica n.renaming.seq (pos j) (sane.epochs.covered n p j l)

new_or_old : (top e : EpochName) (node : Node) (older : List Node) → is_kept top (node ∷ older) e ≡ true → (is_of node e ≡ true) ⊎ (is_kept top older e ≡ true)
new_or_old top e node older k =
    bool_cases (is_of node e) (λ h. inl h) (λ h. inr (sym (ap (λ b. name_eq e top || (b || has_node older e)) h) ∙ k))

epochs_go : (s : Seen) (o : Op) (b : Body) → IsSane s → MayApply s o → o.body ≡ b → AreEpochs (raise (vector s) o.author) (stems_after s.stems o.author o.seq o.body) (record { top = s.epochs.top; nodes = nodes_after s.epochs.nodes o b })
epochs_go s o (Insert first text) sane m e = same_epochs (vector s) o.author s.stems (stems_after s.stems o.author o.seq o.body) s.epochs (still_covered s o sane (facts s o m)) sane.epochs
epochs_go s o (Delete targets) sane m e = same_epochs (vector s) o.author s.stems (stems_after s.stems o.author o.seq o.body) s.epochs (still_covered s o sane (facts s o m)) sane.epochs
epochs_go s o Leave sane m e = same_epochs (vector s) o.author s.stems (stems_after s.stems o.author o.seq o.body) s.epochs (still_covered s o sane (facts s o m)) sane.epochs
epochs_go s o (Rename former) sane m e =
    let f = facts s o m in
    let v = vector s in
    let t = rename_tree s o former sane m e in
    let node : Node = record { parent = o.epoch; renaming = renaming_of o former } in
    let len : length (raise v o.author) ≡ length v = length-raise v o.author in
    let up = index-raise_same v o.author f.shaped.author in
    let next = f.next in
    let in_vector = f.shaped.author in
    let new : IsCounted (raise v o.author) (Of o.author o.seq) = (omega arith, omega arith, omega arith) in
    let few : length former ≤ IDENTIFIERS = not_lt_is IDENTIFIERS (length former) (ap (λ b. nat_lt (body_limit b) (body_len b)) (sym e) ∙ f.shaped.few) in
    record {
      nodes = t.0;
      below = t.1;
      counted = λ g k. ⊎_elim
          (λ h. subst (IsCounted (raise v o.author)) (name_eq_is (Of o.author o.seq) g h) new)
          (λ h. counted_raised v o.author g (sane.epochs.counted g h))
          (new_or_old s.epochs.top g node s.epochs.nodes k);
      few = λ n p. ⊎_elim (λ h. subst (λ (x : Node). length x.renaming.former ≤ IDENTIFIERS) h few) (λ h. sane.epochs.few n h) p;
      covered = λ n p. ⊎_elim
          (λ h. subst (IsCovered (stems_after s.stems o.author o.seq o.body)) h (rename_covered s o former sane f e))
          (λ h. still_covered s o sane f n h)
          p;
    }

pub kept_after : (s : Seen) (o : Op) (b : Body) (e : EpochName) → is_kept s.epochs.top s.epochs.nodes e ≡ true → is_kept s.epochs.top (nodes_after s.epochs.nodes o b) e ≡ true
kept_after s o (Insert first text) e k = k
kept_after s o (Delete targets) e k = k
kept_after s o (Rename former) e k = kept_more s.epochs.top (record { parent = o.epoch; renaming = renaming_of o former }) s.epochs.nodes e k
kept_after s o Leave e k = k

-- ---- the log

-- what a greater vector doesn't cover, a lesser one doesn't cover either
pub missing_less : (v w : List ℕ) (os : List Op) (o : Op) → at_most v w ≡ true → IsIn o (missing_for w os) → IsIn o (missing_for v os)
missing_less v w os o h p =
    let r = in_filter (λ x. not (is_covered w x)) o os p in
    filter_in (λ x. not (is_covered v x)) o os r.0 (go (is_covered v o) refl (not_is (is_covered w o) r.1))
  where
    go : (b : Bool) → is_covered v o ≡ b → is_covered w o ≡ false → not (is_covered v o) ≡ true
    go false e f = ap not e
    go true e f =
        let a = index_le v w o.author h in
        let b = le_is o.seq (slice_index v o.author) e in
        absurd (true_false (is_covered w o) (le_test o.seq (slice_index w o.author) (omega arith)) f)

missing_in : (v : List ℕ) (os : List Op) (o : Op) → IsIn o (missing_for v os) → IsIn o os × (is_covered v o ≡ false)
missing_in v os o p = let r = in_filter (λ x. not (is_covered v x)) o os p in (r.0, not_is (is_covered v o) r.1)

in_missing : (v : List ℕ) (os : List Op) (o : Op) → IsIn o os → is_covered v o ≡ false → IsIn o (missing_for v os)
in_missing v os o p e = filter_in (λ x. not (is_covered v x)) o os p (ap not e)

-- an unstable one of the longer log
unstable_split : (v : List ℕ) (os : List Op) (o x : Op) → IsIn x (missing_for v (logged v os o)) → IsIn x (missing_for v os) ⊎ (o ≡ x)
unstable_split v os o x p =
    let r = missing_in v (logged v os o) x p in
    ⊎_elim (λ q. inl (in_missing v os x q r.1)) (λ e. inr e) (logged_split v os o x r.0)

-- a leave that was accepted before is the last of its author
last_before : (s : Seen) (o x : Op) → IsSane s → Facts s o → IsLast s.acks x → IsLast (acks_after s.acks o.author o.body) x
last_before s o x sane f h =
    let inside : o.author < length s.acks.left = let a = f.shaped.author in let b = sane.rows.marks in omega arith in
    let other : o.author ≡ x.author → ⊥ = λ e. true_false (left s.acks x.author) h.left (ap (left s.acks) (sym e) ∙ f.stays) in
    record {
      left = left_after s.acks o.author o.body x.author inside ∙ or_left (left s.acks x.author) _ h.left;
      last = h.last ∙ (sym (raise_other s.acks.mine o.author x.author other) ∙ sym (ap (λ v. slice_index v x.author) (acks_mine s.acks o.author o.body)));
    }

-- a leave that is accepted now
last_now : (s : Seen) (o : Op) → IsSane s → Facts s o → is_leave o.body ≡ true → IsLast (acks_after s.acks o.author o.body) o
last_now s o sane f h =
    let inside : o.author < length s.acks.left = let a = f.shaped.author in let b = sane.rows.marks in omega arith in
    let up = index-raise_same s.acks.mine o.author f.shaped.author in
    let n = f.next in
    record {
      left = left_after s.acks o.author o.body o.author inside ∙ or_right (left s.acks o.author) ((o.author == o.author) && is_leave o.body) (and_true (o.author == o.author) (is_leave o.body) (eq_refl o.author) h);
      last = let e : slice_index (acks_after s.acks o.author o.body).mine o.author ≡ slice_index (raise s.acks.mine o.author) o.author = ap (λ v. slice_index v o.author) (acks_mine s.acks o.author o.body) in omega arith;
    }

-- ---- all

pub accepted_sane : (s : Seen) (o : Op) → IsSane s → MayApply s o → IsInRange o.body → IsSane (accepted s o)
unfolding accepted
accepted_sane s o sane m r =
    let f = facts s o m in
    let v = vector s in
    let a = o.author in
    let b = o.body in
    let u = raise v a in
    let new = acks_after s.acks a b in
    let mine : new.mine ≡ u = acks_mine s.acks a b in
    let len : length u ≡ length v = length-raise v a in
    let count : length new.mine ≡ length v = ap length mine ∙ len in
    let grows : at_most (stable_of s.acks) (stable_of new) ≡ true = stable_accepted s.acks a b sane.rows f.shaped.author in
    let sn = stable_of new in
    let rows = places_after s.acks a b sane.rows in
    let later = at_most_trans sane.log.0 (stable_of s.acks) sn sane.log.1.stable grows in
    let log = follow_accepted (members s) sane.log.0 sn s.log v o m.whole m.shape f.next m.causes (length-stable new rows ∙ count) later (subst (λ x. at_most sn x ≡ true) mine (stable_mine new)) sane.log.1.follow in
    let w = written_after s o sane m in
    let ts = stems_after s.stems a o.seq b in
    let small : slice_index v a + 1 < 2 ^ 32 = let q = m.whole.seq in let n = f.next in omega arith in
    record {
      group = sane.group;
      few = let n = sane.few in omega arith;
      small = subst (All IsSmall) (sym mine) (small_raised v a f.shaped.author small sane.small);
      rows = rows;
      own = λ c l. subst (λ x. slice_index (row_of new c) c ≤ slice_index x c) (sym mine) (own_after s a b sane.rows sane.own c (omega arith));
      stems = subst (λ x. AreStems x ts) (sym mine) (stems_accepted s o sane f r);
      epochs = subst (λ x. AreEpochs x ts (epochs_after s.epochs o)) (sym mine) (epochs_go s o b sane m refl);
      within = (sane.within.0, kept_after s o b sane.within.0 sane.within.1, within_more sane.within.0 (stable_of s.acks) (stable_of new) grows sane.within.2);
      idents = w.idents;
      used = w.known;
      waiting = subst (λ x. AreHeld (length x) x (without a o.seq s.waiting)) (sym mine)
          (subst (λ n. AreHeld n u (without a o.seq s.waiting)) (sym len) (held_accepted (members s) v a o.seq s.waiting f.next sane.waiting));
      log = (
        log.0,
        record {
          stable = either_below sane.log.0 sn log.0 later log.1;
          follow = subst (λ x. Follow (length x) log.0 (logged sn s.log o) x) (sym mine) (subst (λ n. Follow n log.0 (logged sn s.log o) u) (sym len) log.2);
        },
      );
      unstable = λ x p. ⊎_elim
          (λ q. kept_after s o b x.epoch (sane.unstable x (missing_less (stable_of s.acks) (stable_of new) s.log x grows q)))
          (λ e. subst (λ (y : Op). is_kept s.epochs.top (nodes_after s.epochs.nodes o b) y.epoch ≡ true) e (kept_after s o b o.epoch f.kept))
          (unstable_split (stable_of new) s.log o x p);
      leaves = λ x p l. ⊎_elim
          (λ q. last_before s o x sane f (sane.leaves x q l))
          (λ e. subst (IsLast new) e (last_now s o sane f (subst (λ (y : Op). is_leave y.body ≡ true) (sym e) l)))
          (logged_split sn s.log o x p);
      total = subst (λ x. length (text_after s o b) ≤ 2 ^ 63 + IDENTIFIERS * sum x) (sym mine) (total_after s o f.shaped.author f.shaped.few sane.total);
      former = subst (λ x. sum_by (λ (n : Node). length n.renaming.former) (nodes_after s.epochs.nodes o b) ≤ 2 ^ 54 + IDENTIFIERS * sum x) (sym mine) (former_after s o f.shaped.author f.shaped.few sane.former);
    }
