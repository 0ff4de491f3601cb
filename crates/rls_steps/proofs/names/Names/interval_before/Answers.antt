use Rattle.std.proofs.Common.{ℕ, ◌-◌, List, length, get_or, ap, ◌∙◌, sym, refl, subst, arith}
use Rattle.std.specs.Prelude.{reverse, Some}
use Rattle.std.proofs.lemmas.Option.{slice_get_read, slice_get-get_or}
use Rattle.rls_ident.proofs.Positions.{get_of}
use Rattle.rls_ident.specs.declared.tuple.Tuple.{Tuple}
use Rattle.rls_steps.specs.Labelled.{Names}
use Rattle.rls_steps.specs.NameRuns.{named, name_at}
use Rattle.rls_steps.specs.Index.{tail_at}
use Rattle.rls_steps.proofs.Indexing.{starts_long, starts_begin, place_short, place_name, tail_name}
use Rattle.rls_steps.proofs.LabelRuns.{older_in}
use Rattle.rls_steps.proofs.Stretches.{name_in}
use Rattle.rls_steps.specs.Bounds.{HasLabel}
use Rattle.rls_steps.specs.declared.interval.Interval.{Interval}
use Rattle.rls_steps.specs.Intervals.{IsBetween}
use Rattle.rls_steps.proofs.names.Names.interval_before.Goals as goal

pub run_at-run-requires : goal.run_at-run-requires
run_at-run-requires c = let b = starts_begin _ _ c.args.i (c.deref.ensures.value ∙ c.self.invariant.kept.starts) (omega (arith, c.requires.place, ap length c.self.view_is)) in record { some = b.0; first = b.1 }

pub index-requires : goal.index-requires
index-requires c = omega (arith, ap length (c.deref.ensures.value ∙ c.self.invariant.kept.starts) ∙ starts_long 0 c.self.inside.runs.items, c.run_at-run.ensures.within)

pub returns-in-Some : goal.returns-in-Some
returns-in-Some c = record {
  between = λ n m ms t p q.
      let rs = c.self.inside.runs.items in
      let ss = c.deref.result.now in
      let vs = c.self.inside.intervals.items in
      let k = c.run_at-run.result in
      let starts = c.deref.ensures.value ∙ c.self.invariant.kept.starts in
      let long = ap length starts ∙ starts_long 0 rs in
      let h = c.run_at-run.ensures.within in
      let w = get_of rs k (omega (arith, long, h)) in
      let r = w.0 in
      let at = slice_get-get_or ss k 0 h in
      let short = place_short rs ss c.args.i k r starts (omega (arith, c.requires.place, ap length c.self.view_is)) h c.run_at-run.ensures.below c.run_at-run.ensures.above w.1 in
      let is = place_name rs ss c.args.i k r starts h c.run_at-run.ensures.below w.1 short in
      let tail = ap (λ (ks : Names). tail_at (reverse ks) c.args.i) c.self.view_is ∙ t in
      let j = c.args.i - get_or ss k 0 in
      let name = ap (λ (u : List Tuple × ℕ). u.1) (tail_name (named rs) c.args.i (name_at r j) n ms is tail) in
      let old = older_in rs ss c.args.i k (get_or ss k 0) r n m ms c.self.invariant.kept.sound starts w.1 at c.run_at-run.ensures.below short tail p (q ∙ sym name) in
      let has : HasLabel rs k m.1 = (r, name_at r j, w.1, name_in r j short, name ∙ sym q) in
      let all = c.self.invariant.noted.all in
      let g = slice_get_read vs (length vs) k c.index.result.now refl (omega (arith, long, h, all)) c.index.ensures in
      subst (λ (v : Interval). IsBetween v m.0) (sym c.deref-in-Some.ensures)
      (c.self.invariant.noted.each k old.0 (Some c.in-Some.interval) old.1 m (g ∙ ap Some c.in-Some.is) has old.2 old.3 old.4);
}
