-- What is remembered as known stays so when an operation of the text is accepted.
use Rattle.std.proofs.Common.{◌≡◌, ◌∙◌, ◌⊎◌, ℕ, zero, suc, ◌<◌, ◌≤◌, ◌==◌, ◌++◌, not, true, false, List, [], ◌∷◌, length, map, get_or, Option, Some, None, refl, sym, ap, subst, inl, inr, ⊎_elim, arith, if◌then◌else◌}
use Rattle.std.specs.Prelude.{IfSome, slice_index}
use Rattle.std.specs.List.{list_any}
use Rattle.std.proofs.lemmas.Bool.{cases_lt}
use Rattle.rls_ident.specs.declared.tuple.Tuple.{Tuple}
use Rattle.rls_ident.specs.Identifiers.{IsIdent, ident_eq}
use Rattle.rls_ident.specs.Lists.{IsIn}
use Rattle.rls_ident.specs.Vectors.{at_most, meet, raise}
use Rattle.rls_ident.proofs.Ends.{eq_same, same_eq}
use Rattle.rls_ident.proofs.Members.{any_in, bool_cases, filter_in, in_any, in_filter, in_left, in_map, in_right, map_in, not_is, not_le_is, not_le_test, or_left, or_right, or_split}
use Rattle.rls_ident.proofs.Vectors.{at_most_trans, at_most-meet_left, at_most-meet_right, index_le, length-raise}
use Rattle.rls_runs.specs.Entries.{Entries, has_ident}
use Rattle.rls_runs.specs.Runs.{joined}
use Rattle.rls_rename.specs.Tree.{Epochs}
use Rattle.rls_rename.proofs.Growth.{translate_same}
use Rattle.rls_runs.proofs.Sorted.{put_all_in}
use Rattle.rls_ops.specs.declared.op.Op.{Op}
use Rattle.rls_ops.specs.declared.op.Body.{Body}
use Rattle.rls_ops.specs.declared.op.Body.TheVariants.{Insert, Delete, Rename, Leave}
use Rattle.rls_ops.specs.Rows.{AcksSeen, AreRows, awaits, is_covered, raised, row_of, stable_of}
use Rattle.rls_ops.specs.Waiting.{without}
use Rattle.rls_model.specs.declared.parts.Stem.{Stem}
use Rattle.rls_model.specs.Document.{targets_of}
use Rattle.rls_model.specs.Epochs.{nodes_after}
use Rattle.rls_model.specs.Stems.{stems_after}
use Rattle.rls_seen.specs.Over.{accepted, acks_after, added_over, epochs_after, is_known_over, logged, text_after}
use Rattle.rls_seen.specs.Sane.{IsSane}
use Rattle.rls_seen.specs.Seen.{Seen, greatest_over, stable_over, translate_over, unstable_over}
use Rattle.rls_seen.proofs.Accepting.{places_after}
use Rattle.rls_seen.proofs.Logs.{missing_logged}
use Rattle.rls_seen.proofs.Sending.{length-stable}
use Rattle.rls_seen.proofs.StableRows.{stable_most, stable_row}
use Rattle.rls_replica.specs.declared.known.Known.{Known}
use Rattle.rls_replica.specs.declared.gone.Gone.{Gone}
use Rattle.rls_replica.specs.Known.{IsKnown, KeepsKnown}
use Rattle.rls_replica.specs.View.{IsWhole}
use Rattle.rls_replica.proofs.Logged.{logged_upto}

-- ---- what was unstable

meet_high : (u w : List ℕ) (b n : ℕ) → length u ≡ length w → n ≤ slice_index u b → n ≤ slice_index w b → n ≤ slice_index (meet u w) b
meet_high [] [] b n l h k = h
meet_high [] (y ∷ w) b n l h k = absurd (omega (arith, l))
meet_high (x ∷ u) [] b n l h k = absurd (omega (arith, l))
meet_high (x ∷ u) (y ∷ w) zero n l h k = omega (arith, h, k)
meet_high (x ∷ u) (y ∷ w) (suc b) n l h k = meet_high u w b n (omega (arith, l)) h k

-- an operation that was accepted before stays unstable when one of any member is accepted
still_unstable : (acks : AcksSeen) (a b n : ℕ) → AreRows acks → slice_index (stable_of acks) b < n → n ≤ slice_index acks.mine b → slice_index (stable_of (raised acks a)) b < n
still_unstable acks a b n h low high = ⊎_elim (λ l. l) (λ l. let m = meet_high t acks.mine b n long l high in let le = index_le (meet t acks.mine) (stable_of acks) b least in absurd (omega (arith, m, le, low))) (cases_lt (slice_index t b) n)
  where
    t : List ℕ
    t = stable_of (raised acks a)

    long : length t ≡ length acks.mine
    long = length-stable (raised acks a) (places_after acks a (Insert [] []) h) ∙ length-raise acks.mine a

    row : (c : ℕ) → c < length acks.mine → awaits acks c ≡ true → at_most (meet t acks.mine) (row_of acks c) ≡ true
    row c l w =
        let x = get_or acks.others c [] in
        bool_cases (c == acks.me)
        (λ e. subst (λ b. at_most (meet t acks.mine) (if b then acks.mine else x) ≡ true) (sym e) (at_most-meet_right t acks.mine))
        (λ e.
        let k : at_most t x ≡ true = subst (λ b. at_most t (if b then raise acks.mine a else x) ≡ true) e (stable_row (raised acks a) c (omega (arith, l, length-raise acks.mine a)) w) in
        subst (λ b. at_most (meet t acks.mine) (if b then acks.mine else x) ≡ true) (sym e) (at_most_trans (meet t acks.mine) t x (at_most-meet_left t acks.mine) k))

    least : at_most (meet t acks.mine) (stable_of acks) ≡ true
    least = stable_most (meet t acks.mine) acks (at_most-meet_right t acks.mine) row

-- ---- an operation is accepted

-- an entry of the text stays, or the operation names its identifier
abbrev StaysOrNamed : Seen → Op → Entries → Type 0
StaysOrNamed s o es = (z : List Tuple × ℕ) → IsIn z s.text → IsIn z es ⊎ ((t : List Tuple) × IsIn t (targets_of o.body) × (translate_over s o.epoch (greatest_over s) t ≡ z.0))

module _ (s : Seen) (o : Op) (sane : IsSane s) (acks : AcksSeen) (ss : List Stem) (es : Entries) (W : List Op) (stays : (d : Op) → IsIn d s.log → is_covered (stable_over s) d ≡ false → is_covered (stable_of acks) d ≡ false) (text : StaysOrNamed s o es) where
  abbrev r : Seen
  r = record { group = s.group; acks = acks; stems = ss; epochs = s.epochs; text = es; waiting = W; log = logged (stable_of acks) s.log o }

  still : (d : Op) → IsIn d (s.log ++ o ∷ []) → is_covered (stable_of acks) d ≡ false → IsIn d (unstable_over r)
  still d p f = subst (IsIn d) (sym (missing_logged (stable_of acks) s.log o)) (filter_in (λ x. not (is_covered (stable_of acks) x)) d (s.log ++ o ∷ []) p (ap not f))

  -- what is known stays so, if the operation isn't stable at once or doesn't name it
  known_after : (x : List Tuple) → IsIdent x × (is_known_over s (greatest_over s) x ≡ true) → ((t : List Tuple) → IsIn t (targets_of o.body) → translate_over s o.epoch (greatest_over s) t ≡ x → is_covered (stable_of acks) o ≡ false)
      → IsIdent x × (is_known_over r (greatest_over s) x ≡ true)
  unfolding is_known_over
  known_after x h free =
      let i = h.0 in
      let g = greatest_over s in
      let y = translate_over s g g x in
      let is : y ≡ x = translate_same s.epochs.nodes g x sane.epochs.nodes i in (
        i,
        ⊎_elim
            (λ q.
            let z = in_any (λ (e : List Tuple × ℕ). ident_eq e.0 y) s.text q in
            ⊎_elim (λ there. or_left _ _ (any_in (λ (e : List Tuple × ℕ). ident_eq e.0 y) z.0 es there z.2))
            (λ t.
            let e : translate_over s o.epoch g t.0 ≡ x = t.2 ∙ (eq_same z.0.0 y z.2 ∙ is) in
            or_right _ _ (any_in (λ d. list_any (λ u. ident_eq (translate_over s d.epoch g u) x) (targets_of d.body)) o (unstable_over r) (still o (in_right o s.log (o ∷ []) (inl refl)) (free t.0 t.1 e))
            (any_in (λ u. ident_eq (translate_over s o.epoch g u) x) t.0 (targets_of o.body) t.1 (same_eq (translate_over s o.epoch g t.0) x e)))) (text z.0 z.1))
            (λ q.
            let d = in_any (λ d. list_any (λ u. ident_eq (translate_over s d.epoch g u) x) (targets_of d.body)) (unstable_over s) q in
            let log = in_filter (λ c. not (is_covered (stable_over s) c)) d.0 s.log d.1 in
            or_right _ _ (any_in (λ c. list_any (λ u. ident_eq (translate_over s c.epoch g u) x) (targets_of c.body)) d.0 (unstable_over r)
            (still d.0 (in_left d.0 s.log (o ∷ []) log.0) (stays d.0 log.0 (not_is (is_covered (stable_over s) d.0) log.1))) d.2))
            (or_split _ _ h.1),
      )

-- what is kept of what was remembered is known
pub known_accepted : (s : Seen) (o : Op) → IsSane s → (was k : Known) → KeepsKnown (epochs_after s.epochs o) (stable_of (acks_after s.acks o.author o.body)) o o.body was k → IsKnown s was → IsKnown (accepted s o) k
unfolding accepted
known_accepted s o sane was k keeps h = go o.body refl keeps
  where
    -- those of the log that were unstable
    stays : (d : Op) → IsIn d s.log → is_covered (stable_over s) d ≡ false → is_covered (stable_of (raised s.acks o.author)) d ≡ false
    stays d p f =
        not_le_test d.seq (slice_index (stable_of (raised s.acks o.author)) d.author)
        (still_unstable s.acks o.author d.author d.seq sane.rows (not_le_is d.seq (slice_index (stable_over s) d.author) f) (logged_upto s d sane p))

    to : List Tuple → List Tuple
    to = translate_over s o.epoch (greatest_over s)

    after : Body → Seen
    after b = record { group = s.group; acks = acks_after s.acks o.author b; stems = stems_after s.stems o.author o.seq b; epochs = record { top = s.epochs.top; nodes = nodes_after s.epochs.nodes o b }; text = text_after s o b; waiting = without o.author o.seq s.waiting; log = logged (stable_of (acks_after s.acks o.author b)) s.log o }

    deleted : (targets : List (List Tuple)) → o.body ≡ Delete targets → StaysOrNamed s o (text_after s o (Delete targets))
    deleted targets e z p =
        bool_cases (has_ident (map to targets) z.0)
        (λ t.
        let w = in_any (λ v. ident_eq v z.0) (map to targets) t in
        let u = in_map to w.0 targets w.1 in
        inr (u.0, subst (λ c. IsIn u.0 (targets_of c)) (sym e) u.1, u.2 ∙ eq_same w.0 z.0 w.2))
        (λ f. inl (filter_in (λ (v : List Tuple × ℕ). not (has_ident (map to targets) v.0)) z s.text p (ap not f)))

    go : (b : Body) → o.body ≡ b → KeepsKnown (record { top = s.epochs.top; nodes = nodes_after s.epochs.nodes o b }) (stable_of (acks_after s.acks o.author b)) o b was k → IsKnown (after b) k
    go (Insert first text) e q = λ x p out.
        known_after s o sane (raised s.acks o.author) (stems_after s.stems o.author o.seq (Insert first text)) (text_after s o (Insert first text)) (without o.author o.seq s.waiting) stays
        (λ z r. inl (put_all_in z (added_over s o.epoch first text) s.text (inr r))) x
        (h x (subst (λ (m : Known). IsIn x (joined m.lists.items)) q p) (subst (λ (m : Known). IsIn x (joined m.lost.items) → ⊥) q out))
        (λ t r. absurd (subst (λ c. IsIn t (targets_of c)) e r))
    go (Delete targets) e q = λ x p out.
        ⊎_elim
        (λ f.
        one targets e x (h x (subst (λ (m : Known). IsIn x (joined m.lists.items)) f.1 p) (subst (λ (m : Known). IsIn x (joined m.lost.items) → ⊥) f.1 out)) (λ t r i. f.0))
        (λ f.
        one targets e x (h x (subst (λ ls. IsIn x (joined ls.items)) f.0 p) (λ r. out (f.1 x (inl r))))
        (λ t r i. absurd (out (f.1 x (inr (subst (λ z. IsIn z (map to targets)) i (map_in to t targets (subst (λ c. IsIn t (targets_of c)) e r)))))))) q
      where
        one : (targets : List (List Tuple)) → o.body ≡ Delete targets → (x : List Tuple) → IsIdent x × (is_known_over s (greatest_over s) x ≡ true)
            → ((t : List Tuple) → IsIn t (targets_of o.body) → to t ≡ x → is_covered (stable_of (raised s.acks o.author)) o ≡ false) → IsIdent x × (is_known_over (after (Delete targets)) (greatest_over s) x ≡ true)
        one targets e = known_after s o sane (raised s.acks o.author) (stems_after s.stems o.author o.seq (Delete targets)) (text_after s o (Delete targets)) (without o.author o.seq s.waiting) stays (deleted targets e)
    go (Rename former) e q = absurd q
    go Leave e q = absurd q

-- so is what is kept by a step of the replica, which takes out what was remembered
pub next_known : (i s : Seen) (n : ℕ) (names : Option Gone) (was taken now : Option Known) (o : Op) (E : Epochs) (v : List ℕ) → i ≡ s → IsWhole i n names was → taken ≡ was → E ≡ epochs_after s.epochs o → v ≡ stable_of (acks_after s.acks o.author o.body)
    → IfSome now (λ k. (w : Known) × (taken ≡ Some w) × KeepsKnown E v o o.body w k) → IfSome now (λ k. IsKnown (accepted s o) k)
next_known i s n names was taken None o E v e h t f g keeps = tt
next_known i s n names was taken (Some k) o E v e h t f g keeps =
    known_accepted s o (subst IsSane e h.sane) keeps.0 k (subst (λ u. KeepsKnown (epochs_after s.epochs o) u o o.body keeps.0 k) g (subst (λ D. KeepsKnown D v o o.body keeps.0 k) f keeps.2))
    (subst (λ (m : Option Known). IfSome m (λ y. IsKnown s y)) (sym t ∙ keeps.1) (subst (λ u. IfSome was (λ y. IsKnown u y)) e h.known_are))
