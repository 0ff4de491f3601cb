-- What a replica drops and counts.
use Rattle.std.proofs.Common.{◌≡◌, ◌∙◌, ℕ, Bool, true, false, List, [], ◌∷◌, ◌++◌, ◌||◌, length, None, refl, sym, ap, subst, inl, inr, ⊎_elim, arith}
use Rattle.std.proofs.lemmas.List.{length-map}
use Rattle.std.specs.Prelude.{sum_by}
use Rattle.rls_ident.specs.declared.tuple.Tuple.{Tuple}
use Rattle.rls_ident.specs.declared.epoch_name.EpochName.{EpochName}
use Rattle.rls_ident.specs.declared.epoch_name.EpochName.TheVariants.{Origin, Of}
use Rattle.rls_ident.specs.EpochNames.{name_eq, is_of_member}
use Rattle.rls_ident.specs.Lists.{IsIn}
use Rattle.rls_ident.proofs.Members.{in_map, lt_test, or_left, or_right, or_split}
use Rattle.rls_rename.specs.Tree.{Epochs, AreNodes, is_kept}
use Rattle.rls_rename.specs.Connected.{spanned, spanned_renamings}
use Rattle.rls_rename.proofs.Hull.{in_spanned}
use Rattle.rls_rename.specs.Keeping.{kept_part, reached}
use Rattle.rls_rename.proofs.Paths.{name_eq_is, name_eq_refl}
use Rattle.rls_runs.specs.Runs.{runs_of}
use Rattle.rls_ops.specs.declared.op.Op.{Op}
use Rattle.rls_ops.specs.Rows.{missing_for}
use Rattle.rls_ops.specs.Shapes.{shape_fault}
use Rattle.rls_ops.proofs.Shaped.{shaped}
use Rattle.rls_epoch.specs.Seen.{is_marked}
use Rattle.rls_model.specs.declared.parts.EpochPart.{EpochPart}
use Rattle.rls_model.specs.declared.parts.Stem.{Stem}
use Rattle.rls_model.specs.declared.parts.TextRun.{TextRun}
use Rattle.rls_model.specs.Parts.{epoch_parts, text_runs}
use Rattle.rls_seen.specs.Seen.{Seen, vector, members, stable_over, unstable_over, greatest_over, idents_over}
use Rattle.rls_seen.specs.Sane.{IsSane, IsCounted}
use Rattle.rls_seen.specs.Kept.{marked_over, needed_over, dropped, retained_over, counts_over, other_rows, left_below, parts_over}
use Rattle.rls_seen.proofs.Marks.{AreSame, same_kept}
use Rattle.rls_seen.proofs.Numbers.{kept_operations_dropped, kept_epochs_dropped, kept_former_dropped}
use Rattle.rls_seen.proofs.Sending.{length-stable}
use Rattle.rls_replica.specs.KeptJust.{KeepsJust}

-- ---- marks

marked_in : (es : List EpochName) (e : EpochName) → is_marked es e ≡ true → IsIn e es
marked_in [] e h = absurd (cc)
marked_in (f ∷ es) e h = ⊎_elim (λ q. inl (name_eq_is f e q)) (λ q. inr (marked_in es e q)) (or_split (name_eq f e) (is_marked es e) h)

in_marked : (es : List EpochName) (e : EpochName) → IsIn e es → is_marked es e ≡ true
in_marked [] e p = absurd p
in_marked (f ∷ es) e (inl q) = or_left (name_eq f e) (is_marked es e) (ap (name_eq f) (sym q) ∙ name_eq_refl f)
in_marked (f ∷ es) e (inr p) = or_right (name_eq f e) (is_marked es e) (in_marked es e p)

same_marks : (es fs : List EpochName) → ((e : EpochName) → is_marked es e ≡ is_marked fs e) → AreSame es fs
same_marks es fs h = (λ g p. marked_in fs g (sym (h g) ∙ in_marked es g p), λ g p. marked_in es g (h g ∙ in_marked fs g p))

-- one more mark
pub marked_next : (n a m : Bool) → (a || (n || m)) ≡ ((n || a) || m)
marked_next true true m = refl
marked_next true false m = refl
marked_next false a m = refl

-- ---- members

-- each kept epoch is one of a member's
pub of_members : (s : Seen) → IsSane s → (e : EpochName) → is_kept s.epochs.top s.epochs.nodes e ≡ true → is_of_member (length (stable_over s)) e ≡ true
of_members s h e k = go e (h.epochs.counted e k)
  where
    go : (f : EpochName) → IsCounted (vector s) f → is_of_member (length (stable_over s)) f ≡ true
    go Origin c = refl
    go (Of r q) c = let l = length-stable s.acks h.rows in let m = c.0 in lt_test r (length (stable_over s)) (omega arith)

-- and so it is of one that the context of an operation counts
pub of_context : (s : Seen) → IsSane s → (o : Op) → shape_fault (members s) o ≡ None → (e : EpochName) → is_kept s.epochs.top s.epochs.nodes e ≡ true → is_of_member (length o.context) e ≡ true
of_context s h o f e k = go e (h.epochs.counted e k)
  where
    go : (g : EpochName) → IsCounted (vector s) g → is_of_member (length o.context) g ≡ true
    go Origin c = refl
    go (Of r q) c = let l = (shaped (members s) o f).context in let m = c.0 in lt_test r (length o.context) (omega arith)

-- ---- dropping

pub dropped_is : (s : Seen) (E : Epochs) (marks : List EpochName) (log : List Op) → AreNodes s.epochs.nodes → ((e : EpochName) → is_marked marks e ≡ is_marked (marked_over s) e)
    → E ≡ kept_part s.epochs (stable_over s) marks → log ≡ missing_for (stable_over s) s.log
    → record { group = s.group; acks = s.acks; stems = s.stems; epochs = E; text = s.text; waiting = s.waiting; log = log } ≡ dropped s
unfolding dropped
dropped_is s E marks log n f e l = let k : E ≡ kept_part s.epochs (stable_over s) (marked_over s) = e ∙ same_kept s.epochs n (stable_over s) marks (marked_over s) (same_marks marks (marked_over s) f) in cc

pub keeps_just : (s : Seen) → IsSane s → KeepsJust (dropped s) (counts_over s)
unfolding counts_over
keeps_just s h = record { operations = kept_operations_dropped s; epochs = kept_epochs_dropped s h; former = kept_former_dropped s }

pub members_dropped : (s : Seen) → members (dropped s) ≡ members s
unfolding dropped
members_dropped s = refl

-- ---- numbers

pub counts_are : (s : Seen) (total runs held unstable epochs former : ℕ) → total ≡ length s.text → runs ≡ length (runs_of (idents_over s)) → held ≡ length s.waiting → unstable ≡ length (marked_over s)
    → epochs ≡ length (retained_over s) → former ≡ sum_by (λ R. length R.former) (spanned_renamings s.epochs.nodes (greatest_over s) (needed_over s))
    → record { total = total; runs = runs; held = held; unstable = unstable; epochs = epochs; former = former } ≡ counts_over s
unfolding counts_over
counts_are s total runs held unstable epochs former a b c d e f =
    let g : unstable ≡ length (unstable_over s) = d ∙ length-map (unstable_over s) (λ (o : Op). o.epoch) in
    let h : total ≡ length (idents_over s) = a ∙ sym (length-map s.text (λ (e : List Tuple × ℕ). e.0)) in cc

-- what is retained, by the stable vector and the marked epochs
pub retained_are : (s : Seen) (v : List ℕ) (marked names : List EpochName) → v ≡ stable_over s → marked ≡ marked_over s
    → names ≡ spanned s.epochs.top s.epochs.nodes (greatest_over s) (reached s.epochs v ++ marked) → names ≡ retained_over s
unfolding retained_over
retained_are s v marked names e f h =
    h ∙ (ap (λ w. spanned s.epochs.top s.epochs.nodes (greatest_over s) (reached s.epochs w ++ marked)) e ∙ ap (λ es. spanned s.epochs.top s.epochs.nodes (greatest_over s) (reached s.epochs (stable_over s) ++ es)) f)

-- and how many former identifiers
pub former_is : (s : Seen) (v : List ℕ) (marked : List EpochName) (former : ℕ) → v ≡ stable_over s → marked ≡ marked_over s
    → former ≡ sum_by (λ R. length R.former) (spanned_renamings s.epochs.nodes (greatest_over s) (reached s.epochs v ++ marked))
    → former ≡ sum_by (λ R. length R.former) (spanned_renamings s.epochs.nodes (greatest_over s) (needed_over s))
former_is s v marked former e f h =
    h ∙ (ap (λ w. sum_by (λ R. length R.former) (spanned_renamings s.epochs.nodes (greatest_over s) (reached s.epochs w ++ marked))) e
    ∙ ap (λ es. sum_by (λ R. length R.former) (spanned_renamings s.epochs.nodes (greatest_over s) (reached s.epochs (stable_over s) ++ es))) f)

-- each is kept
pub marked_kept : (s : Seen) → IsSane s → (e : EpochName) → IsIn e (marked_over s) → is_kept s.epochs.top s.epochs.nodes e ≡ true
marked_kept s h e p = let r = in_map (λ (o : Op). o.epoch) e (unstable_over s) p in subst (λ f. is_kept s.epochs.top s.epochs.nodes f ≡ true) r.2 (h.unstable r.0 r.1)

pub retained_kept : (s : Seen) (names : List EpochName) → names ≡ retained_over s → (e : EpochName) → IsIn e names → is_kept s.epochs.top s.epochs.nodes e ≡ true
unfolding retained_over
retained_kept s names h e p = (in_spanned s.epochs.top s.epochs.nodes (greatest_over s) (needed_over s) e (subst (λ es. IsIn e es) h p)).0

-- ---- parts

pub parts_are : (s : Seen) (members me : ℕ) (vector : List ℕ) (rows : List (List ℕ)) (stems : List Stem) (epochs : List EpochPart) (text : List TextRun) (log held : List Op) (left : List ℕ) → members ≡ length s.acks.mine → me ≡ s.acks.me
    → vector ≡ s.acks.mine → rows ≡ other_rows s.acks members → stems ≡ s.stems → epochs ≡ epoch_parts s.epochs.nodes (retained_over s) → text ≡ text_runs s.text
    → log ≡ unstable_over s → held ≡ s.waiting → left ≡ left_below s.acks members
    → record { group = s.group; members = members; me = me; vector = vector; rows = rows; stems = stems; epochs = epochs; text = text; log = log; held = held; left = left } ≡ parts_over s
unfolding parts_over
parts_are s members me vector rows stems epochs text log held left a b c d e f g h i j =
    let k : rows ≡ other_rows s.acks (length s.acks.mine) = d ∙ ap (other_rows s.acks) a in
    let l : left ≡ left_below s.acks (length s.acks.mine) = j ∙ ap (left_below s.acks) a in
    cc
