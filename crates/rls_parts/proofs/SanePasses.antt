-- The parts of a sane replica break no rule, where what waits may wait.
use Rattle.std.proofs.Common.{◌≡◌, ℕ, suc, ◌+◌, ◌<◌, not, Bool, true, false, List, [], ◌∷◌, ◌++◌, length, map, refl, sym, ap, ◌∙◌, subst, arith, inl, inr, ⊎_elim, Some, None, if◌then◌else◌}
use Rattle.std.specs.Ordering.{is_lt}
use Rattle.rls_ident.specs.declared.tuple.Tuple.{Tuple}
use Rattle.rls_ident.specs.declared.epoch_name.EpochName.{EpochName}
use Rattle.rls_ident.specs.EpochNames.{name_eq, is_within}
use Rattle.rls_ident.specs.Identifiers.{follows, last_of}
use Rattle.rls_ident.specs.Tuples.{replica_of, seq_of, offset_of}
use Rattle.rls_ident.specs.Lists.{IsIn}
use Rattle.rls_ident.proofs.Members.{all_in, and_true, any_in, filter_in, in_filter, in_left, in_right, map_in, in_split}
use Rattle.rls_ident.proofs.Named.{name_eq_refl}
use Rattle.rls_ops.proofs.Equal.{numbers_same}
use Rattle.rls_runs.specs.Entries.{Entries, idents_in}
use Rattle.rls_runs.specs.Runs.{idents_of, run_idents}
use Rattle.rls_rename.specs.Connected.{spanned}
use Rattle.rls_rename.specs.Keeping.{reached}
use Rattle.rls_rename.specs.Tree.{Node, Epochs, is_kept, names, epoch_cmp, greatest, greatest_within, translate}
use Rattle.rls_rename.proofs.Hull.{in_kept, kept_in, needed_spanned, spanned_in}
use Rattle.rls_rename.proofs.Kept.{greatest_kept}
use Rattle.rls_rename.proofs.Ordered.{spanned_members, spanned_same}
use Rattle.rls_rename.proofs.Windows.{Window, cmp_window, greatest_window, kept_window, translate_window, within_window}
use Rattle.rls_ops.specs.declared.op.Op.{Op}
use Rattle.rls_ops.specs.Rows.{is_covered, left}
use Rattle.rls_ops.specs.Same.{numbers_eq}
use Rattle.rls_model.specs.declared.parts.EpochPart.{EpochPart}
use Rattle.rls_model.specs.declared.parts.TextRun.{TextRun}
use Rattle.rls_model.specs.declared.parts.Parts.{Parts}
use Rattle.rls_model.specs.Parts.{epoch_parts, put_text, text_runs}
use Rattle.rls_model.specs.Stems.{is_used}
use Rattle.rls_seen.specs.Kept.{marked_over, needed_over, retained_over, parts_over}
use Rattle.rls_seen.specs.Sane.{AreEpochs, Follow, IsSane}
use Rattle.rls_seen.specs.Seen.{Seen, vector, members, stable_over, unstable_over, greatest_over, translate_over, idents_over}
use Rattle.rls_seen.proofs.Dropped.{needed_kept, within_is_within, greatest_reached}
use Rattle.rls_seen.proofs.Logs.{follow_dropped, follow_length}
use Rattle.rls_seen.proofs.Sending.{length-stable}
use Rattle.rls_seen.proofs.StableRows.{stable_mine}
use Rattle.rls_parts.specs.Given.{HaveTexts}
use Rattle.rls_parts.specs.PartsLaws.{SanePasses}
use Rattle.rls_parts.specs.Reading.{has_member, top_name, nodes_of, greatest_of_parts, names_of, in_epoch, stable_of_parts}
use Rattle.rls_parts.specs.Rules.{epoch_fault, text_fault, is_text_of, is_used_everywhere, is_used_tuple, log_fault, ends_at_vector, has_stable, names_eq, retained_of_parts, are_retained}
use Rattle.rls_parts.proofs.Passing.{passed}
use Rattle.rls_parts.proofs.RestoredText.{runs_in, idents_restored, entries_again}
use Rattle.rls_parts.proofs.SaneEpochs.{IsRetained, retained_is, epochs_pass, window_all, named_all, names_all}
use Rattle.rls_parts.proofs.SaneLog.{log_passes, log_ends, authors_below, last_passes}
use Rattle.rls_parts.proofs.SaneRows.{rows_pass, stable_parts, left_same}
use Rattle.rls_parts.proofs.SaneStems.{stems_pass}

-- ---- text

put_texts : (e : List Tuple × ℕ) (rs : List TextRun) → HaveTexts rs → HaveTexts (put_text e rs)
put_texts e [] h = (refl, tt)
put_texts e (r ∷ rs) h = go (follows r.run.0 e.0)
  where
    go : (b : Bool) → HaveTexts (if b then record { run = (e.0, r.run.1 + 1); text = e.1 ∷ r.text } ∷ rs else record { run = (e.0, 1); text = e.1 ∷ [] } ∷ r ∷ rs)
    go true = (let x = h.0 in omega arith, h.1)
    go false = (refl, h)

pub have_texts : (es : Entries) → HaveTexts (text_runs es)
have_texts [] = tt
have_texts (e ∷ es) = put_texts e (text_runs es) (have_texts es)

in_runs : (rs : List TextRun) (r : TextRun) (x : List Tuple) → IsIn r rs → IsIn x (run_idents r.run.0 r.run.1) → IsIn x (idents_of (runs_in rs))
in_runs [] r x q i = absurd q
in_runs (s ∷ rs) r x (inl e) i = in_left x (run_idents s.run.0 s.run.1) (idents_of (runs_in rs)) (subst (λ (t : TextRun). IsIn x (run_idents t.run.0 t.run.1)) (sym e) i)
in_runs (s ∷ rs) r x (inr q) i = in_right x (run_idents s.run.0 s.run.1) (idents_of (runs_in rs)) (in_runs rs r x q i)

in_text : (es : Entries) (r : TextRun) (x : List Tuple) → IsIn r (text_runs es) → IsIn x (run_idents r.run.0 r.run.1) → IsIn x (idents_in es)
in_text es r x q i = subst (IsIn x) (sym (idents_restored (text_runs es) (have_texts es)) ∙ ap idents_in (entries_again es)) (in_runs (text_runs es) r x q i)

text_passes : (p : Parts) (i : ℕ) (rs : List TextRun) → ((r : TextRun) → IsIn r rs → is_text_of p r ≡ true) → text_fault p i rs ≡ None
text_passes p i [] f = refl
text_passes p i (r ∷ rs) f = ap (λ b. if b then text_fault p (suc i) rs else Some i) (f r (inl refl)) ∙ text_passes p (suc i) rs (λ s q. f s (inr q))

-- ---- epochs

names_pass : (es : List EpochName) → names_eq es es ≡ true
names_pass [] = refl
names_pass (e ∷ es) = and_true (name_eq e e) (names_eq es es) (name_eq_refl e) (names_pass es)

-- the epochs that are at least the greatest one within a vector, where that is kept in the window
reached_same : (E : Epochs) (U : EpochName) (A : List Node) (v : List ℕ) → Window U A E.top E.nodes → is_kept U A (greatest_within E.top E.nodes v) ≡ true → (g : EpochName) → is_kept U A g ≡ true
    → (IsIn g (reached (record { top = U; nodes = A }) v) → IsIn g (reached E v)) × (IsIn g (reached E v) → IsIn g (reached (record { top = U; nodes = A }) v))
reached_same E U A v w k g h =
    let m = greatest_within E.top E.nodes v in
    let n = greatest_within U A v in
    let same : n ≡ m = within_window w v k in
    let cmp : epoch_cmp A g n ≡ epoch_cmp E.nodes g m = ap (epoch_cmp A g) same ∙ cmp_window w g m h k in (
      λ q. filter_in (λ e. not (is_lt (epoch_cmp E.nodes e m))) g (E.top ∷ names E.nodes) (kept_in E.top E.nodes g (kept_window w g h))
          (ap (λ o. not (is_lt o)) (sym cmp) ∙ (in_filter (λ e. not (is_lt (epoch_cmp A e n))) g (U ∷ names A) q).1),
      λ q. filter_in (λ e. not (is_lt (epoch_cmp A e n))) g (U ∷ names A) (kept_in U A g h)
          (ap (λ o. not (is_lt o)) cmp ∙ (in_filter (λ e. not (is_lt (epoch_cmp E.nodes e m))) g (E.top ∷ names E.nodes) q).1),
    )

-- ---- all rules

-- the parts of a sane replica, as far as they are asked for here
record AreOf (s : Seen) (p : Parts) : Type 0 where
  sane : IsSane s
  members_are : p.members ≡ members s
  vector_is : p.vector ≡ vector s
  stems_are : p.stems ≡ s.stems
  text_is : p.text ≡ text_runs s.text
  log_is : p.log ≡ unstable_over s
  stable_is : stable_of_parts p ≡ stable_over s
  left_are : (a : ℕ) → a < members s → has_member p.left a ≡ left s.acks a
  first : EpochName
  rest : List EpochName
  retained : retained_over s ≡ first ∷ rest
  listed : IsRetained s.epochs.top s.epochs.nodes first rest
  epochs_are : p.epochs ≡ epoch_parts s.epochs.nodes (first ∷ rest)

are_of : (s : Seen) → IsSane s → AreOf s (parts_over s)
unfolding parts_over retained_over
are_of s h =
    let r = retained_is s.epochs.top s.epochs.nodes (greatest_over s) (needed_over s) h.epochs.nodes h.epochs.below (greatest_kept s.epochs.top s.epochs.nodes) in
    record {
      sane = h;
      members_are = refl;
      vector_is = refl;
      stems_are = refl;
      text_is = refl;
      log_is = refl;
      stable_is = stable_parts s h;
      left_are = left_same s;
      first = r.0;
      rest = r.1;
      retained = r.2;
      listed = r.3;
      epochs_are = ap (epoch_parts s.epochs.nodes) r.2;
    }

module _ (s : Seen) (p : Parts) (o : AreOf s p) where
  abbrev ns : List Node
  ns = s.epochs.nodes

  abbrev top : EpochName
  top = s.epochs.top

  abbrev es : List EpochPart
  es = epoch_parts ns (o.first ∷ o.rest)

  abbrev inner : List Node
  inner = nodes_of es

  count : length p.vector ≡ p.members
  count = ap length o.vector_is ∙ sym o.members_are

  tree : AreEpochs p.vector p.stems s.epochs
  tree = subst (λ v. AreEpochs v p.stems s.epochs) (sym o.vector_is) (subst (λ ss. AreEpochs (vector s) ss s.epochs) (sym o.stems_are) o.sane.epochs)

  window : Window o.first inner top ns
  window = window_all p top ns o.first o.rest tree count o.listed

  -- what is retained is kept in the window
  inside : (g : EpochName) → IsIn g (retained_over s) → is_kept o.first inner g ≡ true
  inside g q = named_all p top ns o.first o.rest tree count o.listed g (subst (IsIn g) o.retained q)

  names_are : names_of p.epochs ≡ retained_over s
  names_are = ap names_of o.epochs_are ∙ (names_all p top ns o.first o.rest tree count o.listed ∙ sym o.retained)

  needed_inside : (g : EpochName) → IsIn g (greatest_over s ∷ needed_over s) → is_kept o.first inner g ≡ true
  unfolding retained_over
  needed_inside g q = inside g (spanned_in top ns (greatest_over s) (needed_over s) g (needed_kept s o.sane g q) (needed_spanned ns o.listed.nodes (greatest_over s) (needed_over s) g q))

  needed_names : (g : EpochName) → IsIn g (greatest_over s ∷ needed_over s) → IsIn g (names_of p.epochs)
  unfolding retained_over
  needed_names g q =
      subst (IsIn g) (sym names_are) (spanned_in top ns (greatest_over s) (needed_over s) g (needed_kept s o.sane g q) (needed_spanned ns o.listed.nodes (greatest_over s) (needed_over s) g q))

  great : greatest_of_parts p ≡ greatest_over s
  great = ap (λ xs. greatest (top_name xs) (nodes_of xs)) o.epochs_are ∙ greatest_window window (needed_inside (greatest_over s) (inl refl))

  rule_3 : epoch_fault p [] p.epochs ≡ None
  rule_3 = epochs_pass p top ns o.first o.rest tree count o.listed o.epochs_are

  -- ---- rule 4

  moved : (f : EpochName) (x : List Tuple) → IsIn f (retained_over s) → in_epoch p f x ≡ translate_over s (greatest_over s) f x
  moved f x q =
      ap (λ xs. translate (nodes_of xs) (greatest_of_parts p) f x) o.epochs_are
      ∙ (ap (λ g. translate inner g f x) great ∙ translate_window window (greatest_over s) f x (needed_inside (greatest_over s) (inl refl)) (inside f q))

  used : (x : List Tuple) → IsIn x (idents_over s) → is_used_everywhere p x ≡ true
  used x i =
      all_in (λ f. is_used_tuple p (last_of (in_epoch p f x))) (names_of p.epochs)
      (λ f q. let r = subst (IsIn f) names_are q in
      let u = o.sane.used x i f (kept_window window f (inside f r)) in
      ap (λ y. is_used_tuple p (last_of y)) (moved f x r)
      ∙ (ap (λ ss. is_used ss (replica_of (last_of (translate_over s (greatest_over s) f x))) (seq_of (last_of (translate_over s (greatest_over s) f x))) (offset_of (last_of (translate_over s (greatest_over s) f x)))) o.stems_are ∙ u))

  rule_4 : text_fault p 0 p.text ≡ None
  rule_4 =
      text_passes p 0 p.text
      (λ r q. all_in (is_used_everywhere p) (run_idents r.run.0 r.run.1) (λ x i. used x (in_text s.text r x (subst (IsIn r) o.text_is q) i)))

  -- ---- rules 5 and 6

  follow : Follow p.members (stable_of_parts p) p.log (vector s)
  follow =
      let l = o.sane.log in
      let len = length-stable s.acks o.sane.rows in
      let from = follow_length (members s) l.0 s.log (vector s) l.1.follow in
      let f = follow_dropped (members s) (stable_over s) l.0 s.log (vector s) (len ∙ sym from) len l.1.stable (stable_mine s.acks) l.1.follow in
      subst (λ n. Follow n (stable_of_parts p) p.log (vector s)) (sym o.members_are)
      (subst (λ v. Follow (members s) v p.log (vector s)) (sym o.stable_is) (subst (λ os. Follow (members s) (stable_over s) os (vector s)) (sym o.log_is) f))

  rule_5 : log_fault p (stable_of_parts p) 0 p.log ≡ None
  rule_5 =
      log_passes p (stable_of_parts p) 0 p.log (vector s) follow
      (λ x q. let u = subst (IsIn x) o.log_is q in
      any_in (λ f. name_eq f x.epoch) x.epoch (names_of p.epochs)
      (needed_names x.epoch (inr (in_right x.epoch (reached s.epochs (stable_over s)) (marked_over s) (map_in (λ (y : Op). y.epoch) x (unstable_over s) u)))) (name_eq_refl x.epoch))
      (λ x q. let u = subst (IsIn x) o.log_is q in
      let a = authors_below p.members (stable_of_parts p) p.log (vector s) follow x q in
      let m = o.members_are in
      last_passes p s.acks x o.vector_is (o.left_are x.author (omega arith)) (λ l. o.sane.leaves x (in_filter (λ y. not (is_covered (stable_over s) y)) x s.log u).0 l))

  rule_6 : ends_at_vector p ≡ true
  rule_6 = ap (λ v. numbers_eq v p.vector) (log_ends p.members (stable_of_parts p) p.log (vector s) follow ∙ sym o.vector_is) ∙ numbers_same p.vector

  -- ---- rule 7

  abbrev least : EpochName
  least = greatest_within top ns (stable_over s)

  least_needed : IsIn least (greatest_over s ∷ needed_over s)
  least_needed = inr (in_left least (reached s.epochs (stable_over s)) (marked_over s) (greatest_reached s.epochs (stable_over s)))

  stable_there : has_stable p ≡ true
  stable_there =
      let w = o.sane.within in
      any_in (λ e. is_within e (stable_of_parts p)) least (names_of p.epochs)
      (needed_names least least_needed)
      (ap (is_within least) o.stable_is ∙ within_is_within s.epochs (stable_over s) o.listed.nodes o.listed.below w.0 w.1 w.2)

  -- the window's own epochs that must stay are the replica's
  abbrev own : List EpochName
  own = reached (record { top = o.first; nodes = inner }) (stable_over s) ++ marked_over s

  from_own : (g : EpochName) → IsIn g (greatest_over s ∷ own) → IsIn g (greatest_over s ∷ needed_over s)
  from_own g (inl e) = inl e
  from_own g (inr q) =
      ⊎_elim
      (λ r. let k = in_kept o.first inner g (in_filter (λ e. not (is_lt (epoch_cmp inner e (greatest_within o.first inner (stable_over s))))) g (o.first ∷ names inner) r).0 in
      inr (in_left g (reached s.epochs (stable_over s)) (marked_over s) ((reached_same s.epochs o.first inner (stable_over s) window (needed_inside least least_needed) g k).0 r)))
      (λ r. inr (in_right g (reached s.epochs (stable_over s)) (marked_over s) r))
      (in_split g (reached (record { top = o.first; nodes = inner }) (stable_over s)) (marked_over s) q)

  to_own : (g : EpochName) → IsIn g (greatest_over s ∷ needed_over s) → IsIn g (greatest_over s ∷ own)
  to_own g (inl e) = inl e
  to_own g (inr q) =
      ⊎_elim
      (λ r. inr (in_left g (reached (record { top = o.first; nodes = inner }) (stable_over s)) (marked_over s) ((reached_same s.epochs o.first inner (stable_over s) window (needed_inside least least_needed) g (needed_inside g (inr q))).1 r)))
      (λ r. inr (in_right g (reached (record { top = o.first; nodes = inner }) (stable_over s)) (marked_over s) r))
      (in_split g (reached s.epochs (stable_over s)) (marked_over s) q)

  spanned_own : spanned o.first inner (greatest_over s) own ≡ retained_over s
  unfolding retained_over
  spanned_own =
      let g = greatest_over s in
      spanned_members o.first inner window.nodes window.below g own g (needed_over s) (λ f q. needed_inside f (from_own f q)) needed_inside from_own to_own
      ∙ spanned_same window g (needed_over s) needed_inside

  retained_same : retained_of_parts p ≡ retained_over s
  unfolding retained_of_parts
  retained_same =
      ap (λ xs. spanned (top_name xs) (nodes_of xs) (greatest_of_parts p) (reached (record { top = top_name xs; nodes = nodes_of xs }) (stable_of_parts p) ++ map (λ x. x.epoch) p.log)) o.epochs_are
      ∙ (ap (λ g. spanned o.first inner g (reached (record { top = o.first; nodes = inner }) (stable_of_parts p) ++ map (λ x. x.epoch) p.log)) great
      ∙ (ap (λ v. spanned o.first inner (greatest_over s) (reached (record { top = o.first; nodes = inner }) v ++ map (λ x. x.epoch) p.log)) o.stable_is
      ∙ (ap (λ (os : List Op). spanned o.first inner (greatest_over s) (reached (record { top = o.first; nodes = inner }) (stable_over s) ++ map (λ x. x.epoch) os)) o.log_is ∙ spanned_own)))

  rule_7 : are_retained p ≡ true
  rule_7 =
      and_true (has_stable p) (names_eq (names_of p.epochs) (retained_of_parts p)) stable_there
      (ap (names_eq (names_of p.epochs)) (retained_same ∙ sym names_are) ∙ names_pass (names_of p.epochs))

pub sane_passes : SanePasses
unfolding parts_over
sane_passes s h w =
    let p = parts_over s in
    let o = are_of s h in
    passed p
    (record {
      rows = rows_pass s h;
      stems = stems_pass p refl None 0 s.stems h.stems (λ t q. refl);
      epochs = rule_3 s p o;
      text = rule_4 s p o;
      log = rule_5 s p o;
      ends = rule_6 s p o;
      retained = rule_7 s p o;
      held = w;
    })
