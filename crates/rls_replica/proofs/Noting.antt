-- What is noted of the identifiers that unstable deletions name stays right, and what none names by that, none names.
use Rattle.std.proofs.Common.{◌≡◌, ◌∙◌, ◌⊎◌, ℕ, zero, suc, ◌+◌, ◌<◌, ◌≤◌, not, Bool, true, false, List, [], ◌∷◌, ◌++◌, length, map, take, drop, Option, Some, None, refl, sym, ap, subst, inl, inr, ⊎_elim, arith, append_assoc, append-nil}
use Rattle.std.specs.Prelude.{IfSome, IfNone, cond, slice_get, slice_index, ◌&&◌}
use Rattle.std.specs.List.{list_any}
use Rattle.std.proofs.lemmas.List.{length-append, take-append-le}
use Rattle.rls_ident.specs.declared.tuple.Tuple.{Tuple}
use Rattle.rls_ident.specs.declared.epoch_name.EpochName.{EpochName}
use Rattle.rls_ident.specs.declared.epoch_name.EpochName.TheVariants.{Of}
use Rattle.rls_ident.specs.Identifiers.{ident_eq}
use Rattle.rls_ident.specs.Lists.{IsIn}
use Rattle.rls_ident.specs.Vectors.{at_most}
use Rattle.rls_ident.proofs.Ends.{eq_same, same_eq}
use Rattle.rls_ident.proofs.Members.{and_none, true_false, map_in, any_in, in_any, filter_in, in_filter, in_left, in_right, in_split, in_take, in_drop, le_test, not_is, not_true, same_bool, some_is, take_or_drop}
use Rattle.rls_runs.specs.Entries.{has_ident}
use Rattle.rls_runs.specs.Runs.{AreIdents, joined}
use Rattle.rls_rename.specs.Tree.{is_kept, is_of, translate}
use Rattle.rls_rename.proofs.Kept.{greatest_kept}
use Rattle.rls_rename.proofs.Growth.{translate_other}
use Rattle.rls_rename.proofs.Paths.{name_eq_is, translate_translate}
use Rattle.rls_ops.specs.declared.op.Op.{Op}
use Rattle.rls_ops.specs.declared.op.Body.{Body}
use Rattle.rls_ops.specs.declared.op.Body.TheVariants.{Insert, Delete, Rename, Leave}
use Rattle.rls_ops.specs.Rows.{is_covered, missing_for, stable_of, noted}
use Rattle.rls_ops.specs.Rows as rows
use Rattle.rls_model.specs.Document.{targets_of}
use Rattle.rls_model.specs.Epochs.{renaming_of, nodes_after}
use Rattle.rls_seen.specs.Seen.{Seen, members, stable_over, greatest_over, translate_over}
use Rattle.rls_seen.specs.Over.{accepted, acknowledged, acks_after, holding, logged}
use Rattle.rls_seen.specs.Sane.{IsSane, MayApply}
use Rattle.rls_seen.proofs.Applied.{missing_less}
use Rattle.rls_seen.proofs.Fitting.{facts, name_new}
use Rattle.rls_seen.proofs.Logs.{logged_is}
use Rattle.rls_seen.proofs.Needed.{log_author}
use Rattle.rls_seen.proofs.TextLists.{ident_in}
use Rattle.rls_seen.proofs.StableRows.{stable_accepted, stable_noted}
use Rattle.rls_replica.specs.declared.gone.Gone.{Gone}
use Rattle.rls_replica.specs.declared.gone.Named.{Named}
use Rattle.rls_log.specs.Heads.{kind_in}
use Rattle.rls_log.specs.declared.head.OpKind.TheVariants as kind
use Rattle.rls_replica.specs.Gone.{AllNoted, AreNoted, AreNamed, NamesNothing, IsGone, IsNoted}
use Rattle.rls_replica.specs.Lookups.{is_named_by, is_named_over}
use Rattle.rls_replica.proofs.KeptNames.{accepted_names}
use Rattle.rls_replica.proofs.Logged.{logged_before}

-- ---- lists of identifiers

-- what isn't found in a list isn't in it
pub not_there : (ids : List (List Tuple)) (x : List Tuple) → has_ident ids x ≡ false → IsIn x ids → ⊥
not_there ids x h p = let t = any_in (λ t. ident_eq t x) x ids p (same_eq x x refl) in absurd (cc)

joined_append : (ls ms : List (List (List Tuple))) → joined (ls ++ ms) ≡ joined ls ++ joined ms
joined_append [] ms = refl
joined_append (l ∷ ls) ms = ap (λ xs. l ++ xs) (joined_append ls ms) ∙ sym (append_assoc l (joined ls) (joined ms))

joined_one_more : (old new : List (List (List Tuple))) (ids : List (List Tuple)) → new ≡ old ++ ids ∷ [] → joined new ≡ joined old ++ ids
joined_one_more old new ids e = ap joined e ∙ (joined_append old (ids ∷ []) ∙ ap (λ xs. joined old ++ xs) (append-nil ids))

-- the last list is put there or taken out
pub put_last : (old new : List (List (List Tuple))) (ids : List (List Tuple)) (x : List Tuple) → new ≡ old ++ ids ∷ [] → IsIn x (joined old) ⊎ IsIn x ids → IsIn x (joined new)
put_last old new ids x e p = subst (IsIn x) (sym (joined_one_more old new ids e)) (⊎_elim (in_left x (joined old) ids) (in_right x (joined old) ids) p)

pub take_last : (old new : List (List (List Tuple))) (ids : List (List Tuple)) (x : List Tuple) → old ≡ new ++ ids ∷ [] → IsIn x (joined old) → IsIn x (joined new) ⊎ IsIn x ids
take_last old new ids x e p = in_split x (joined new) ids (subst (IsIn x) (joined_one_more new old ids e) p)

-- ---- operations that name nothing

no_targets : (b : Body) → (kind_in b ≡ kind.Delete → ⊥) → targets_of b ≡ []
no_targets (Insert first text) h = refl
no_targets (Delete targets) h = absurd (h refl)
no_targets (Rename former) h = refl
no_targets Leave h = refl

pub nothing_named : (s : Seen) (e : EpochName) (x : List Tuple) (o : Op) → NamesNothing s o → false ≡ (not (is_covered (stable_over s) o) && is_named_by s e x o)
nothing_named s e x o n =
    ⊎_elim (λ c. ap (λ b. not b && is_named_by s e x o) (sym c))
    (λ k. sym (and_none (not (is_covered (stable_over s) o))) ∙ ap (λ ts. not (is_covered (stable_over s) o) && list_any (λ t. ident_eq (translate_over s o.epoch e t) x) ts) (sym (no_targets o.body k))) n

pub no_names : (s : Seen) (e : EpochName) (o : Op) → NamesNothing s o → AreNamed s e o None
no_names s e o n t free p = ⊎_elim (λ c. true_false (is_covered (stable_over s) o) c free) (λ k. subst (IsIn t) (no_targets o.body k) p) n

-- what was found at a place
pub found_at : (os : List Op) (i : ℕ) (r : Option Op) (o : Op) → r ≡ Some o → IfSome r (λ (p : Op). slice_get os i ≡ Some p) → slice_get os i ≡ Some o
found_at os i r o e h = subst (λ (x : Option Op). IfSome x (λ (p : Op). slice_get os i ≡ Some p)) e h

pub nothing_at : (s : Seen) (i : ℕ) (r : Option Op) → r ≡ None → IfNone r ((o : Op) → slice_get s.log i ≡ Some o → NamesNothing s o) → (o : Op) → slice_get s.log i ≡ Some o → NamesNothing s o
nothing_at s i r e h = subst (λ (x : Option Op). IfNone x ((o : Op) → slice_get s.log i ≡ Some o → NamesNothing s o)) e h

-- ---- what none names by what is noted

pub cleared_by : (s : Seen) (g : Gone) (e : EpochName) (x : List Tuple) → IsSane s → IsGone s g
    → ((a q : ℕ) → a < members s → IsNoted g.named a (translate_over s e g.epoch x) q → q ≤ slice_index (stable_over s) a) → is_named_over s e x (drop g.noted s.log) ≡ is_named_over s e x s.log
cleared_by s g e x sane h low = same_bool (is_named_over s e x (drop n s.log)) (is_named_over s e x s.log) more less
  where
    n : ℕ
    n = g.noted

    is_missing : Op → Bool
    is_missing o = not (is_covered (stable_over s) o)

    none : (d : Op) → IsIn d (missing_for (stable_over s) (take n s.log)) → is_named_by s e x d ≡ true → ⊥
    none d p named =
        let r = in_any (λ t. ident_eq (translate_over s d.epoch e t) x) (targets_of d.body) named in
        let there = h.noted d p r.0 r.1 in
        let q = in_filter is_missing d (take n s.log) p in
        let same : translate_over s d.epoch g.epoch r.0 ≡ translate_over s e g.epoch x =
        sym (translate_translate s.epochs.nodes d.epoch e g.epoch r.0 sane.epochs.nodes there.0) ∙ ap (translate_over s e g.epoch) (eq_same (translate_over s d.epoch e r.0) x r.2) in
        let most = low d.author d.seq (log_author s d sane (in_take n d s.log q.0)) (subst (λ y. IsNoted g.named d.author y d.seq) same there.1) in
        true_false (is_covered (stable_over s) d) (le_test d.seq (slice_index (stable_over s) d.author) most) (not_is (is_covered (stable_over s) d) q.1)

    more : is_named_over s e x (drop n s.log) ≡ true → is_named_over s e x s.log ≡ true
    more p =
        let r = in_any (is_named_by s e x) (missing_for (stable_over s) (drop n s.log)) p in
        let q = in_filter is_missing r.0 (drop n s.log) r.1 in
        any_in (is_named_by s e x) r.0 (missing_for (stable_over s) s.log) (filter_in is_missing r.0 s.log (in_drop n r.0 s.log q.0) q.1) r.2

    less : is_named_over s e x s.log ≡ true → is_named_over s e x (drop n s.log) ≡ true
    less p =
        let r = in_any (is_named_by s e x) (missing_for (stable_over s) s.log) p in
        let q = in_filter is_missing r.0 s.log r.1 in
        ⊎_elim (λ k. absurd (none r.0 (filter_in is_missing r.0 (take n s.log) k q.1) r.2))
        (λ k. any_in (is_named_by s e x) r.0 (missing_for (stable_over s) (drop n s.log)) (filter_in is_missing r.0 (drop n s.log) k q.1) r.2) (take_or_drop n r.0 s.log q.0)

-- nothing is noted
pub nothing_noted : (s : Seen) (g : Gone) → g.epoch ≡ greatest_over s → g.noted ≡ 0 → IsGone s g
nothing_noted s g e z = record {
  kept = subst (λ f. is_kept s.epochs.top s.epochs.nodes f ≡ true) (sym e) (greatest_kept s.epochs.top s.epochs.nodes);
  few = omega (arith, z);
  noted = λ d p. absurd (subst (λ n. IsIn d (missing_for (stable_over s) (take n s.log))) z p);
}

-- ---- one operation more

-- the targets of a deletion, translated
pub names_of : (i s : Seen) (e : EpochName) (d : Op) (ts ids : List (List Tuple)) → i ≡ s → d.body ≡ Delete ts → AreIdents ts → ids ≡ map (translate_over i d.epoch e) ts → AreNamed s e d (Some ids)
names_of i s e d ts ids v b h m = λ t q.
    let p = subst (λ c. IsIn t (targets_of c)) b q in
    (ident_in ts h t p, subst (λ (u : Seen). IsIn (translate_over u d.epoch e t) ids) v (subst (IsIn (translate_over i d.epoch e t)) (sym m) (map_in (translate_over i d.epoch e) t ts p)))

one_more : (n : ℕ) (os : List Op) (o d : Op) → slice_get os n ≡ Some o → IsIn d (take (suc n) os) → IsIn d (take n os) ⊎ (o ≡ d)
one_more n [] o d g p = absurd p
one_more zero (q ∷ os) o d g (inl e) = inr (sym (some_is q o g) ∙ e)
one_more zero (q ∷ os) o d g (inr p) = absurd p
one_more (suc n) (q ∷ os) o d g (inl e) = inl (inl e)
one_more (suc n) (q ∷ os) o d g (inr p) = ⊎_elim (λ k. inl (inr k)) inr (one_more n os o d g p)

-- what it names is noted, or it names nothing
module _ (s : Seen) (e : EpochName) (old new : Named) (n : ℕ) (o : Op) (got : slice_get s.log n ≡ Some o) (h : AllNoted s e old (take n s.log)) where
  with_one : ((d : Op) (x : List Tuple) → IsIn d (take n s.log) → IsNoted old d.author x d.seq → IsNoted new d.author x d.seq) → (is_covered (stable_over s) o ≡ false → AreNoted s e new o) → AllNoted s e new (take (n + 1) s.log)
  with_one kept f d p t q =
      let m : n + 1 ≡ suc n = omega arith in
      let r = in_filter (λ x. not (is_covered (stable_over s) x)) d (take (n + 1) s.log) p in
      ⊎_elim (λ k. let a = h d (filter_in (λ x. not (is_covered (stable_over s) x)) d (take n s.log) k r.1) t q in (a.0, kept d (translate_over s d.epoch e t) k a.1))
      (λ k. subst (λ x. is_covered (stable_over s) x ≡ false → AreNoted s e new x) k f (not_is (is_covered (stable_over s) d) r.1) t q) (one_more n s.log o d got (subst (λ k. IsIn d (take k s.log)) m r.0))

  pub with_names : IsSane s → (ids : List (List Tuple)) → AreNamed s e o (Some ids) → ((a : ℕ) (x : List Tuple) (q : ℕ) → (a ≡ o.author → q ≤ o.seq) → IsNoted old a x q → IsNoted new a x q)
      → ((x : List Tuple) → IsIn x ids → IsNoted new o.author x o.seq) → AllNoted s e new (take (n + 1) s.log)
  with_names sane ids named kept put =
      with_one (λ d x p b. kept d.author x d.seq (logged_before s n d o sane p got) b) (λ u t q. let a = named t q in (a.0, put (translate_over s o.epoch e t) a.1))

pub without_names : (s : Seen) (e : EpochName) (es : Named) (n : ℕ) (o : Op) → slice_get s.log n ≡ Some o → AllNoted s e es (take n s.log) → AreNamed s e o None → AllNoted s e es (take (n + 1) s.log)
without_names s e es n o got h named = with_one s e es es n o got h (λ d x p b. b) (λ u t q. absurd (named t u q))

-- ---- a step of the replica

-- epochs that were kept are kept, and translated between as before; the log may be longer, and less of it may be unstable
module _ (s r : Seen) (sane : IsSane s) (keeps : (e : EpochName) → is_kept s.epochs.top s.epochs.nodes e ≡ true → is_kept r.epochs.top r.epochs.nodes e ≡ true)
    (same : (e f : EpochName) (x : List Tuple) → is_kept s.epochs.top s.epochs.nodes e ≡ true → is_kept s.epochs.top s.epochs.nodes f ≡ true → translate_over r e f x ≡ translate_over s e f x)
    (more : List Op) (log : r.log ≡ s.log ++ more) (less : at_most (stable_over s) (stable_over r) ≡ true) where
  pub gone_next : (g : Gone) → IsGone s g → IsGone r g
  gone_next g h = record {
    kept = keeps g.epoch h.kept;
    few = let l = ap length log ∙ length-append s.log more in omega (arith, l, h.few);
    noted = λ d p t q.
        let front : take g.noted r.log ≡ take g.noted s.log = ap (take g.noted) log ∙ take-append-le g.noted s.log more h.few in
        let old = missing_less (stable_over s) (stable_over r) (take g.noted s.log) d less (subst (λ os. IsIn d (missing_for (stable_over r) os)) front p) in
        let is = in_filter (λ o. not (is_covered (stable_over s) o)) d (take g.noted s.log) old in
        let unstable = filter_in (λ o. not (is_covered (stable_over s) o)) d s.log (in_take g.noted d s.log is.0) is.1 in
        let there = h.noted d old t q in
        (there.0, subst (λ y. IsNoted g.named d.author y d.seq) (sym (same d.epoch g.epoch t (sane.unstable d unstable) h.kept)) there.1);
  }

pub if_gone : (s r : Seen) (g : Option Gone) → ((x : Gone) → IsGone s x → IsGone r x) → IfSome g (λ x. IsGone s x) → IfSome g (λ x. IsGone r x)
if_gone s r None f h = h
if_gone s r (Some g) f h = f g h

-- what waits is no part of it
pub gone_holding : (s : Seen) (W : List Op) (g : Gone) → IsGone s g → IsGone (holding s W) g
unfolding holding
gone_holding s W g h = record { kept = h.kept; few = h.few; noted = h.noted }

-- an acknowledgement
pub gone_acknowledged : (s : Seen) (a : ℕ) (v : List ℕ) → IsSane s → a < members s → length v ≡ members s → (g : Gone) → IsGone s g → IsGone (acknowledged s a v) g
unfolding acknowledged
gone_acknowledged s a v sane l e g h = go (rows.counts s.acks a v)
  where
    go : (x : Bool) → IsGone (record { group = s.group; acks = cond x (noted s.acks a v) s.acks; stems = s.stems; epochs = s.epochs; text = s.text; waiting = s.waiting; log = s.log }) g
    go true = gone_next s (record { group = s.group; acks = noted s.acks a v; stems = s.stems; epochs = s.epochs; text = s.text; waiting = s.waiting; log = s.log }) sane (λ f k. k) (λ f k x p q. refl) [] (sym (append-nil s.log)) (stable_noted s.acks a v sane.rows l e) g h
    go false = record { kept = h.kept; few = h.few; noted = h.noted }

-- an operation is accepted
new_one : (s : Seen) (o : Op) (former : List (List Tuple)) → IsSane s → MayApply s o → (e : EpochName) → is_kept s.epochs.top s.epochs.nodes e ≡ true → is_of (record { parent = o.epoch; renaming = renaming_of o former }) e ≡ false
new_one s o former sane m e k =
    not_true (is_of (record { parent = o.epoch; renaming = renaming_of o former }) e)
    (λ q. let fresh = name_new s o sane (facts s o m) in let is = name_eq_is (Of o.author o.seq) e q in let there = subst (λ f. is_kept s.epochs.top s.epochs.nodes f ≡ true) (sym is) k in absurd (cc))

translated_after : (s : Seen) (o : Op) (b : Body) → IsSane s → MayApply s o → (e f : EpochName) (x : List Tuple) → is_kept s.epochs.top s.epochs.nodes e ≡ true → is_kept s.epochs.top s.epochs.nodes f ≡ true
    → translate (nodes_after s.epochs.nodes o b) e f x ≡ translate s.epochs.nodes e f x
translated_after s o (Insert first text) sane m e f x k l = refl
translated_after s o (Delete targets) sane m e f x k l = refl
translated_after s o (Rename former) sane m e f x k l = translate_other (record { parent = o.epoch; renaming = renaming_of o former }) s.epochs.nodes e f x (new_one s o former sane m e k) (new_one s o former sane m f l)
translated_after s o Leave sane m e f x k l = refl

-- the log is longer, or it stays
logged_more : (v : List ℕ) (os : List Op) (o : Op) → (more : List Op) × (logged v os o ≡ os ++ more)
logged_more v os o = ⊎_elim (λ e. (o ∷ [], e)) (λ e. ([], e.0 ∙ (sym e.1 ∙ sym (append-nil os)))) (logged_is v os o)

pub gone_accepted : (s : Seen) (o : Op) → IsSane s → MayApply s o → (g : Gone) → IsGone s g → IsGone (accepted s o) g
unfolding accepted
gone_accepted s o sane m =
    let more = logged_more (stable_of (acks_after s.acks o.author o.body)) s.log o in
    gone_next s (accepted s o) sane (accepted_names s o) (translated_after s o o.body sane m) more.0 more.1 (stable_accepted s.acks o.author o.body sane.rows (facts s o m).shaped.author)
