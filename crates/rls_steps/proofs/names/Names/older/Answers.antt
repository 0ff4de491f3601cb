use Rattle.std.proofs.Common.{◌≡◌, ◌<◌, ℕ, ◌-◌, List, length, take, get_or, ap, ◌∙◌, sym, refl, subst, arith}
use Rattle.std.specs.Prelude.{reverse}
use Rattle.std.proofs.lemmas.Option.{slice_get_read, slice_get-get_or}
use Rattle.rls_ident.specs.declared.tuple.Tuple.{Tuple}
use Rattle.rls_ident.proofs.Members.{some_is}
use Rattle.rls_steps.specs.Labelled.{Names}
use Rattle.rls_steps.specs.NameRuns.{Stretch, named, name_at}
use Rattle.rls_steps.specs.Index.{newest_at, tail_at}
use Rattle.rls_steps.proofs.Indexing.{starts_long, starts_begin, place_short, place_name, tail_name}
use Rattle.rls_steps.proofs.LabelRuns.{none_skipped, older_is}
use Rattle.rls_steps.proofs.Stretches.{name_in}
use Rattle.rls_steps.specs.Bounds.{HasLabel}
use Rattle.rls_steps.proofs.names.Names.older.Goals as goal

pub run_at-run-requires : goal.run_at-run-requires
run_at-run-requires c = let b = starts_begin _ _ c.args.i (c.deref.ensures.value ∙ c.self.invariant.kept.starts) (omega (arith, c.requires.place, ap length c.self.view_is)) in record { some = b.0; first = b.1 }

pub index-requires : goal.index-requires
index-requires c = omega (arith, ap length (c.deref.ensures.value ∙ c.self.invariant.kept.starts) ∙ starts_long 0 c.self.inside.runs.items, c.run_at-run.ensures.within)

pub label-label-requires : goal.label-label-requires
label-label-requires c =
    let rs = c.self.inside.runs.items in
    let ss = c.deref.result.now in
    let k = c.run_at-run.result in
    let starts = c.deref.ensures.value ∙ c.self.invariant.kept.starts in
    let long = ap length starts ∙ starts_long 0 rs in
    let h = c.run_at-run.ensures.within in
    let g = slice_get_read rs (length rs) k c.index.result.now refl (omega (arith, long, h)) c.index.ensures in
    let s = slice_get_read ss (length ss) k c.index-2.result.now refl h (c.index-2.ensures ∙ ap (λ ks. get_or ks k c.index-2.result.now) (sym c.deref.ensures.value)) in
    let t = slice_get-get_or ss k 0 h in
    let same : c.index-2.result.now ≡ get_or ss k 0 = some_is c.index-2.result.now (get_or ss k 0) (sym s ∙ t) in
    record {
      place = subst (λ n. c.args.i - n < c.index.result.now.len) (sym same) (place_short rs ss c.args.i k c.index.result.now starts (omega (arith, c.requires.place, ap length c.self.view_is)) h c.run_at-run.ensures.below c.run_at-run.ensures.above g);
    }

pub newest_in-requires-clause-few : goal.newest_in-requires-clause-few
newest_in-requires-clause-few c =
    let all = ap (λ (rs : List Stretch). length (named rs)) c.deref-2.ensures.value in
    let view = ap length c.self.view_is in
    let few = c.len-len.ensures.len in
    omega (arith, all, view, few)

pub count_before-count-requires : goal.count_before-count-requires
count_before-count-requires c =
    let long = ap length (c.deref.ensures.value ∙ c.self.invariant.kept.starts) ∙ starts_long 0 c.self.inside.runs.items in
    let h = c.run_at-run.ensures.within in
    let all = c.self.invariant.bounded.older.all in
    record { run = omega (arith, long, h, all) }

pub newest_in-requires-clause-count : goal.newest_in-requires-clause-count
newest_in-requires-clause-count c =
    let long = ap length (c.deref.ensures.value ∙ c.self.invariant.kept.starts) ∙ starts_long 0 c.self.inside.runs.items in
    let h = c.run_at-run.ensures.within in
    let all = ap length c.deref-2.ensures.value in
    let few = c.count_before-count.ensures.few in
    omega (arith, long, h, all, few)

pub returns : goal.returns
returns c = record {
  older = λ n ns t.
      let rs = c.self.inside.runs.items in
      let ss = c.deref.result.now in
      let k = c.run_at-run.result in
      let r = c.index.result.now in
      let starts = c.deref.ensures.value ∙ c.self.invariant.kept.starts in
      let long = ap length starts ∙ starts_long 0 rs in
      let h = c.run_at-run.ensures.within in
      let g = slice_get_read rs (length rs) k r refl (omega (arith, long, h)) c.index.ensures in
      let at = slice_get-get_or ss k 0 h in
      let own = slice_get_read ss (length ss) k c.index-2.result.now refl h (c.index-2.ensures ∙ ap (λ ks. get_or ks k c.index-2.result.now) (sym c.deref.ensures.value)) in
      let same : c.index-2.result.now ≡ get_or ss k 0 = some_is c.index-2.result.now (get_or ss k 0) (sym own ∙ at) in
      let short = place_short rs ss c.args.i k r starts (omega (arith, c.requires.place, ap length c.self.view_is)) h c.run_at-run.ensures.below c.run_at-run.ensures.above g in
      let is = place_name rs ss c.args.i k r starts h c.run_at-run.ensures.below g short in
      let tail = ap (λ (ks : Names). tail_at (reverse ks) c.args.i) c.self.view_is ∙ t in
      let name = tail_name (named rs) c.args.i (name_at r (c.args.i - get_or ss k 0)) n ns is tail in
      let old = older_is rs ss c.args.i k (get_or ss k 0) r n ns c.self.invariant.kept.sound starts g at c.run_at-run.ensures.below short tail in
      let label = c.label-label.ensures.label ∙ ap (λ m. (name_at r (c.args.i - m)).1) same in
      let count = c.count_before-count.result in
      let l = c.label-label.result in
      let few = c.count_before-count.ensures.few in
      let has : HasLabel rs k l = (r, name_at r (c.args.i - get_or ss k 0), g, name_in r (c.args.i - get_or ss k 0) short, sym label) in
      let none = c.count_before-count.ensures.none rs l c.self.invariant.bounded has in
      c.newest_in.ensures.newest
      ∙ (ap (λ (qs : List Stretch). newest_at (reverse (named (take count qs))) l) c.deref-2.ensures.value
      ∙ (sym (none_skipped rs l count (k - count) k (omega (arith, few)) (omega (arith, long, h)) none)
      ∙ (ap (newest_at (reverse (named (take k rs)))) label ∙ (old ∙ ap (λ (m : List Tuple × ℕ). newest_at ns m.1) name))));
}
