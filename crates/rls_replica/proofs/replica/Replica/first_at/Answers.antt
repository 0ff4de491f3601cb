use Rattle.std.proofs.Common.{◌≡◌, ◌+◌, ap, ◌∙◌}
use Rattle.std.specs.Prelude.{option_copied, slice_get}
use Rattle.std.proofs.lemmas.Result.{IfOk-weaker}
use Rattle.rls_runs.specs.Entries.{idents_in}
use Rattle.rls_blocks.specs.Trees.{entries_of}
use Rattle.rls_model.specs.Editing.{get_before, first_between}
use Rattle.rls_seen.specs.Seen.{Seen, idents_over, own_count}
use Rattle.rls_replica.proofs.Neighbours.{told_bounds, before_is}
use Rattle.rls_replica.proofs.replica.Replica.first_at.Goals as goal

pub first_between-requires-clause-order : goal.first_between-requires-clause-order
first_between-requires-clause-order c =
    let at = c.args.at in
    let xs = idents_in (entries_of c.self.inside.document.blocks) in
    let v = ap idents_over c.self.view_is in
    let left : option_copied c.as_ref.result ≡ get_before (idents_over c.args.self.now) at =
    c.as_ref.ensures.value ∙ c.of-left.ensures.ident ∙ before_is xs at _ c.neighbours.ensures.none c.neighbours.ensures.before ∙ ap (λ ys. get_before ys at) v in
    let right : option_copied c.as_ref-2.result ≡ slice_get (idents_over c.args.self.now) at =
    c.as_ref-2.ensures.value ∙ c.of-right.ensures.ident ∙ c.neighbours.ensures.behind ∙ ap (λ ys. slice_get ys at) v in
    told_bounds (idents_over c.args.self.now) at _ _ c.sane.ensures.sane.idents.1 left right

pub returns : goal.returns
returns c =
    let at = c.args.at in
    let n = c.args.count in
    let s = c.args.self.now in
    let seq = c.own_count-seq.result + 1 in
    let xs = idents_in (entries_of c.self.inside.document.blocks) in
    let v = ap idents_over c.self.view_is in
    let a = option_copied c.as_ref.result in
    let b = option_copied c.as_ref-2.result in
    let left : a ≡ get_before (idents_over s) at =
    c.as_ref.ensures.value ∙ c.of-left.ensures.ident ∙ before_is xs at _ c.neighbours.ensures.none c.neighbours.ensures.before ∙ ap (λ ys. get_before ys at) v in
    let right : b ≡ slice_get (idents_over s) at =
    c.as_ref-2.ensures.value ∙ c.of-right.ensures.ident ∙ c.neighbours.ensures.behind ∙ ap (λ ys. slice_get ys at) v in
    let same =
    ap (λ (u : Seen). first_between u.stems c.me.result seq a b n) c.self.view_is ∙ ap (λ m. first_between s.stems m seq a b n) c.me.ensures.me
    ∙ ap (λ k. first_between s.stems s.acks.me (k + 1) a b n) c.own_count-seq.ensures.count ∙ ap (λ o. first_between s.stems s.acks.me (own_count s + 1) o b n) left
    ∙ ap (λ o. first_between s.stems s.acks.me (own_count s + 1) (get_before (idents_over s) at) o n) right in
    record { first = IfOk-weaker c.first_between.result _ _ (λ x e. e ∙ same) c.first_between.ensures.first }
