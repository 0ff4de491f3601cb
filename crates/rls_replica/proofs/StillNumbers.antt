-- What is counted after dropping is what was counted before.
use Rattle.std.proofs.Common.{◌≡◌, ℕ, suc, ◌≤◌, Bool, true, false, cond, List, [], ◌∷◌, length, map, refl, sym, ap, ◌∙◌, subst, arith, inl, inr, ⊎_elim}
use Rattle.std.specs.Prelude.{filter, not, sum_by}
use Rattle.std.specs.Ordering.{is_lt}
use Rattle.rls_ident.specs.declared.epoch_name.EpochName.{EpochName}
use Rattle.rls_ident.specs.Lists.{IsIn}
use Rattle.rls_ident.proofs.Agreeing.{filter_all}
use Rattle.rls_ident.proofs.Members.{filter_in, in_filter, in_left, in_right, in_split}
use Rattle.rls_rename.specs.Keeping.{is_below, kept_part, part, reached}
use Rattle.rls_rename.specs.Tree.{Node, Epochs, epoch_cmp, greatest_within, is_kept, names}
use Rattle.rls_rename.proofs.Hull.{in_kept, kept_in}
use Rattle.rls_rename.proofs.Ordered.{spanned_members, spanned_same}
use Rattle.rls_rename.proofs.Windows.{Window, cmp_window, kept_window, within_window}
use Rattle.rls_runs.specs.Runs.{runs_of}
use Rattle.rls_ops.specs.declared.op.Op.{Op}
use Rattle.rls_ops.specs.Rows.{is_covered}
use Rattle.rls_model.specs.declared.counts.Counts.{Counts}
use Rattle.rls_seen.specs.Kept.{counts_over, dropped, kept_former, marked_over, needed_over, retained_over}
use Rattle.rls_seen.specs.Sane.{IsSane}
use Rattle.rls_seen.specs.Seen.{Seen, greatest_over, idents_over, stable_over, unstable_over}
use Rattle.rls_seen.specs.View.{plain}
use Rattle.rls_seen.proofs.Dropped.{dropped_sane, greatest_left, needed_kept, part_left, greatest_reached}
use Rattle.rls_seen.proofs.Numbers.{kept_epochs_dropped, kept_former_dropped}

-- ---- the epochs that are at least the greatest one within a vector

reached_cmp : (M E : Epochs) (v : List ℕ) → Window M.top M.nodes E.top E.nodes → is_kept M.top M.nodes (greatest_within E.top E.nodes v) ≡ true → (g : EpochName) → is_kept M.top M.nodes g ≡ true
    → epoch_cmp M.nodes g (greatest_within M.top M.nodes v) ≡ epoch_cmp E.nodes g (greatest_within E.top E.nodes v)
reached_cmp M E v w k g h = ap (epoch_cmp M.nodes g) (within_window w v k) ∙ cmp_window w g (greatest_within E.top E.nodes v) h k

into_reached : (M E : Epochs) (v : List ℕ) → Window M.top M.nodes E.top E.nodes → is_kept M.top M.nodes (greatest_within E.top E.nodes v) ≡ true → (g : EpochName) → IsIn g (reached M v) → IsIn g (reached E v)
into_reached M E v w k g p =
    let r = in_filter (λ e. not (is_lt (epoch_cmp M.nodes e (greatest_within M.top M.nodes v)))) g (M.top ∷ names M.nodes) p in
    let h = in_kept M.top M.nodes g r.0 in
    filter_in (λ e. not (is_lt (epoch_cmp E.nodes e (greatest_within E.top E.nodes v)))) g (E.top ∷ names E.nodes) (kept_in E.top E.nodes g (kept_window w g h)) (sym (ap (λ o. not (is_lt o)) (reached_cmp M E v w k g h)) ∙ r.1)

from_reached : (M E : Epochs) (v : List ℕ) → Window M.top M.nodes E.top E.nodes → is_kept M.top M.nodes (greatest_within E.top E.nodes v) ≡ true → (g : EpochName) → is_kept M.top M.nodes g ≡ true → IsIn g (reached E v) → IsIn g (reached M v)
from_reached M E v w k g h p =
    let r = in_filter (λ e. not (is_lt (epoch_cmp E.nodes e (greatest_within E.top E.nodes v)))) g (E.top ∷ names E.nodes) p in
    filter_in (λ e. not (is_lt (epoch_cmp M.nodes e (greatest_within M.top M.nodes v)))) g (M.top ∷ names M.nodes) (kept_in M.top M.nodes g h) (ap (λ o. not (is_lt o)) (reached_cmp M E v w k g h) ∙ r.1)

-- ---- what must stay

same_unstable : (s : Seen) → unstable_over (dropped s) ≡ unstable_over s
unfolding dropped
same_unstable s = let t : Op → Bool = λ o. not (is_covered (stable_over s) o) in filter_all t (unstable_over s) (λ o p. (in_filter t o s.log p).1)

-- what is left of the epochs
abbrev left_of : Seen → Epochs
left_of s = kept_part s.epochs (stable_over s) (marked_over s)

threshold_kept : (s : Seen) → IsSane s → is_kept (left_of s).top (left_of s).nodes (greatest_within s.epochs.top s.epochs.nodes (stable_over s)) ≡ true
threshold_kept s sane =
    let m = greatest_within s.epochs.top s.epochs.nodes (stable_over s) in
    (part_left s sane).needed m (inr (in_left m (reached s.epochs (stable_over s)) (marked_over s) (greatest_reached s.epochs (stable_over s))))

into_needed : (s : Seen) → IsSane s → (g : EpochName) → IsIn g (greatest_over (dropped s) ∷ needed_over (dropped s)) → IsIn g (greatest_over s ∷ needed_over s)
unfolding dropped
into_needed s sane g (inl e) = inl (sym (greatest_left s sane) ∙ e)
into_needed s sane g (inr p) =
    let st = stable_over s in
    ⊎_elim
    (λ q. inr (in_left g (reached s.epochs st) (marked_over s) (into_reached (left_of s) s.epochs st (part_left s sane).window (threshold_kept s sane) g q)))
    (λ q. inr (in_right g (reached s.epochs st) (marked_over s) (subst (λ os. IsIn g (map (λ (o : Op). o.epoch) os)) (same_unstable s) q)))
    (in_split g (reached (left_of s) st) (marked_over (dropped s)) p)

from_needed : (s : Seen) → IsSane s → (g : EpochName) → IsIn g (greatest_over s ∷ needed_over s) → IsIn g (greatest_over (dropped s) ∷ needed_over (dropped s))
unfolding dropped
from_needed s sane g (inl e) = inl (greatest_left s sane ∙ e)
from_needed s sane g (inr p) =
    let st = stable_over s in
    ⊎_elim
    (λ q. inr (in_left g (reached (left_of s) st) (marked_over (dropped s)) (from_reached (left_of s) s.epochs st (part_left s sane).window (threshold_kept s sane) g ((part_left s sane).needed g (inr p)) q)))
    (λ q. inr (in_right g (reached (left_of s) st) (marked_over (dropped s)) (subst (λ os. IsIn g (map (λ (o : Op). o.epoch) os)) (sym (same_unstable s)) q)))
    (in_split g (reached s.epochs st) (marked_over s) p)

-- the same epochs are retained
retained_still : (s : Seen) → IsSane s → retained_over (dropped s) ≡ retained_over s
unfolding dropped retained_over
retained_still s sane =
    let D = dropped s in
    let w = (part_left s sane).window in
    let kept = needed_kept D (dropped_sane s sane) in
    spanned_same w (greatest_over D) (needed_over D) kept
    ∙ spanned_members s.epochs.top s.epochs.nodes sane.epochs.nodes sane.epochs.below (greatest_over D) (needed_over D) (greatest_over s) (needed_over s) (λ e p. kept_window w e (kept e p)) (needed_kept s sane) (into_needed s sane) (from_needed s sane)

-- ---- numbers

fewer : (t : Node → Bool) (ns : List Node) → length (filter t ns) ≤ length ns
fewer t [] = omega arith
fewer t (n ∷ ns) = go (t n) (fewer t ns)
  where
    go : (b : Bool) → length (filter t ns) ≤ length ns → length (cond b (n ∷ filter t ns) (filter t ns)) ≤ suc (length ns)
    go true h = omega (arith, h)
    go false h = omega (arith, h)

-- where as many are left, all are
all_left : (t : Node → Bool) (ns : List Node) → length (filter t ns) ≡ length ns → filter t ns ≡ ns
all_left t [] h = refl
all_left t (n ∷ ns) h = go (t n) h (λ e. all_left t ns e)
  where
    go : (b : Bool) → length (cond b (n ∷ filter t ns) (filter t ns)) ≡ suc (length ns) → (length (filter t ns) ≡ length ns → filter t ns ≡ ns) → cond b (n ∷ filter t ns) (filter t ns) ≡ n ∷ ns
    go true e rest = ap (λ ms. n ∷ ms) (rest (omega (arith, e)))
    go false e rest = let l = fewer t ns in absurd (omega (arith, e, l))

-- nothing more is dropped by dropping again
former_still : (s : Seen) → IsSane s → kept_former (dropped (dropped s)) ≡ kept_former (dropped s)
unfolding dropped part
former_still s sane =
    let D = dropped s in
    let again = kept_epochs_dropped D (dropped_sane s sane) in
    let before = kept_epochs_dropped s sane in
    let names = ap length (retained_still s sane) in
    ap (λ ns. sum_by (λ (n : Node). length n.renaming.former) ns) (all_left (is_below D.epochs.nodes (greatest_over D) (needed_over D)) D.epochs.nodes (omega (arith, again, before, names)))

abbrev numbers : Seen → ℕ → ℕ → ℕ → Counts
numbers s unstable epochs former = record { total = length (idents_over s); runs = length (runs_of (idents_over s)); held = length s.waiting; unstable = unstable; epochs = epochs; former = former }

pub counts_still : (s : Seen) → IsSane s → counts_over (dropped s) ≡ counts_over s
unfolding counts_over dropped
counts_still s sane =
    let D = dropped s in
    let former : (plain D).former ≡ (plain s).former = sym (kept_former_dropped D) ∙ (former_still s sane ∙ kept_former_dropped s) in
    ap (λ os. numbers s (length os) (length (retained_over D)) (plain D).former) (same_unstable s)
    ∙ (ap (λ es. numbers s (length (unstable_over s)) (length es) (plain D).former) (retained_still s sane) ∙ ap (numbers s (length (unstable_over s)) (length (retained_over s))) former)
