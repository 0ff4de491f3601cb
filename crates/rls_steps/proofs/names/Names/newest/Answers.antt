use Rattle.std.proofs.Common.{◌≡◌, List, length, take, ap, ◌∙◌, sym, subst, arith}
use Rattle.std.specs.Prelude.{reverse}
use Rattle.rls_steps.specs.Labelled.{Names}
use Rattle.rls_steps.specs.NameRuns.{Stretch, named}
use Rattle.rls_steps.specs.Index.{newest_at}
use Rattle.rls_steps.specs.Bounds.{HaveNone}
use Rattle.rls_steps.proofs.LabelRuns.{newest_skipped}
use Rattle.rls_steps.proofs.names.Names.newest.Goals as goal

pub newest_in-requires-clause-few : goal.newest_in-requires-clause-few
newest_in-requires-clause-few c =
    let all = ap (λ (rs : List Stretch). length (named rs)) c.deref.ensures.value in
    let view = ap length c.self.view_is in
    let few = c.len-len.ensures.len in
    omega (arith, all, view, few)

pub newest_in-requires-clause-count : goal.newest_in-requires-clause-count
newest_in-requires-clause-count c =
    let all = ap length c.deref.ensures.value in
    let few = c.count_at-count.ensures.few in
    omega (arith, all, few)

pub returns : goal.returns
returns c = record {
  newest = let rs = c.self.inside.runs.items in
      let n = c.count_at-count.result in
      let l = c.args.label in
      let size : c.len.result ≡ length rs = omega arith in
      let few = c.count_at-count.ensures.few in
      let none = subst (λ k. HaveNone rs n k l l) size (c.count_at-count.ensures.none rs c.self.invariant.bounded) in
      c.newest_in.ensures.newest
      ∙ (ap (λ (qs : List Stretch). newest_at (reverse (named (take n qs))) l) c.deref.ensures.value
      ∙ (sym (newest_skipped rs l n (omega (arith, few, size)) none) ∙ ap (λ (ks : Names). newest_at (reverse ks) l) c.self.view_is));
}
