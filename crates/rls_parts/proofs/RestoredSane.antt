-- The replica that has given parts, which break no rule, is sane.
use Rattle.std.proofs.Common.{◌≡◌, ◌+◌, ◌*◌, ◌^◌, ◌≤◌, true, List, length, ap, ◌∙◌, subst, arith, None}
use Rattle.std.specs.Prelude.{sum}
use Rattle.rls_ident.specs.declared.limits.TheConstants.{IDENTIFIERS}
use Rattle.rls_ident.specs.declared.tuple.Tuple.{Tuple}
use Rattle.rls_ident.specs.declared.epoch_name.EpochName.{EpochName}
use Rattle.rls_ident.specs.EpochNames.{is_within}
use Rattle.rls_ident.specs.Lists.{IsIn}
use Rattle.rls_ident.proofs.Members.{and_left}
use Rattle.rls_rename.specs.Tree.{is_kept}
use Rattle.rls_ops.specs.declared.op.Op.{Op}
use Rattle.rls_model.specs.declared.parts.Parts.{Parts}
use Rattle.rls_model.specs.History.{is_leave}
use Rattle.rls_seen.specs.Sane.{IsLast, IsUsed}
use Rattle.rls_seen.specs.Seen.{vector, stable_over, unstable_over, idents_over, greatest_over, translate_over}
use Rattle.rls_parts.specs.Given.{AreGiven, AreRanged}
use Rattle.rls_parts.specs.PartsLaws.{RestoredSane}
use Rattle.rls_parts.specs.Reading.{names_of, stable_of_parts}
use Rattle.rls_parts.specs.Restored.{seen_of}
use Rattle.rls_parts.specs.Rules.{has_stable, names_eq, retained_of_parts, Passes}
use Rattle.rls_parts.proofs.Passing.{passes}
use Rattle.rls_parts.proofs.RestoredEpochs.{IsTreeOf, tree_given, named_kept, epochs_restored, within_restored, used_restored, former_restored}
use Rattle.rls_parts.proofs.RestoredLog.{stable_restored, unstable_restored, log_restored, epoch_named, leave_restored, held_restored}
use Rattle.rls_parts.proofs.RestoredRows.{rows_given, own_given}
use Rattle.rls_parts.proofs.RestoredStems.{stems_restored}
use Rattle.rls_parts.proofs.RestoredText.{are_idents, idents_restored, in_some_run, total_restored}

within_of : (p : Parts) → AreGiven p → Passes p → IsTreeOf p p.epochs → (e : EpochName) × (is_kept (seen_of p).epochs.top (seen_of p).epochs.nodes e ≡ true) × (is_within e (stable_over (seen_of p)) ≡ true)
unfolding seen_of
within_of p g h t =
    let r = within_restored p t (and_left (has_stable p) (names_eq (names_of p.epochs) (retained_of_parts p)) h.retained) in
    (r.0, r.1, ap (is_within r.0) (stable_restored p g) ∙ r.2)

used_of : (p : Parts) → AreGiven p → Passes p → IsTreeOf p p.epochs → (x : List Tuple) → IsIn x (idents_over (seen_of p)) → (f : EpochName) → is_kept (seen_of p).epochs.top (seen_of p).epochs.nodes f ≡ true
    → IsUsed p.stems (translate_over (seen_of p) (greatest_over (seen_of p)) f x)
unfolding seen_of
used_of p g h t x q f k =
    let r = in_some_run p.text x (subst (IsIn x) (idents_restored p.text g.text.1) q) in
    used_restored p t h.text r.0 r.1 x r.2 f k

unstable_of : (p : Parts) → AreGiven p → Passes p → IsTreeOf p p.epochs → (o : Op) → IsIn o (unstable_over (seen_of p)) → is_kept (seen_of p).epochs.top (seen_of p).epochs.nodes o.epoch ≡ true
unfolding seen_of
unstable_of p g h t o q =
    let i : IsIn o p.log = subst (IsIn o) (unstable_restored p g h.log) q in
    named_kept p p.epochs t o.epoch (epoch_named p (stable_of_parts p) h.log o i)

leaves_of : (p : Parts) → AreGiven p → Passes p → (o : Op) → IsIn o (seen_of p).log → is_leave o.body ≡ true → IsLast (seen_of p).acks o
unfolding seen_of
leaves_of p g h o q l = leave_restored p g (stable_of_parts p) h.log o q l

total_of : (p : Parts) → AreGiven p → AreRanged p → length (seen_of p).text ≤ 2 ^ 63 + IDENTIFIERS * sum (vector (seen_of p))
unfolding seen_of
total_of p g w = let a = total_restored p.text w.runs in let b = g.text_few in omega arith

pub sane : RestoredSane
unfolding seen_of
sane p g w b =
    let h = passes p b in
    let t = tree_given p p.epochs g.epochs h.epochs in
    let stems = stems_restored p g.vector None 0 p.stems h.stems in
    let epochs = epochs_restored p g.vector stems w.former t in
    record {
      group = w.group;
      few = let e = g.vector in let l = g.few in omega arith;
      small = w.vector;
      rows = rows_given p g;
      own = λ a l. own_given p g h.rows a (let e = g.vector in omega arith);
      stems = stems;
      epochs = epochs;
      within = within_of p g h t;
      idents = are_idents p.text g.text w.runs;
      used = used_of p g h t;
      waiting = held_restored p g w.held h.held;
      log = log_restored p g w.log h.log h.ends;
      unstable = unstable_of p g h t;
      leaves = leaves_of p g h;
      total = total_of p g w;
      former = let a = former_restored p.epochs epochs.few in let l = g.epochs_few in omega arith;
    }
