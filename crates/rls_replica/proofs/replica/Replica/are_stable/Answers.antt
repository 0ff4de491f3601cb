use Rattle.std.proofs.Common.{◌≡◌, ◌∙◌, ◌≤◌, ap, subst, sym, ⊎_elim, arith}
use Rattle.std.specs.Prelude.{slice_index}
use Rattle.std.proofs.lemmas.Bool.{cases_lt}
use Rattle.rls_ident.specs.Identifiers.{last_of}
use Rattle.rls_seen.specs.Seen.{Seen, stable_over}
use Rattle.rls_replica.specs.Bounds.{IsBounded, edge_of, mark_in}
use Rattle.rls_replica.proofs.Edges.{edge_at}
use Rattle.rls_replica.proofs.replica.Replica.are_stable.Goals as goal

pub loop-author-preserved : goal.loop-author-preserved
loop-author-preserved c = λ a q l b.
    let n = c.loop-author.author in
    let es = c.args.bounds.now.numbers.entries in
    let v = stable_over c.args.self.now in
    let is : c.get.result ≡ slice_index v n = c.get.ensures.count ∙ ap (λ w. slice_index w n) (c.stable.ensures.stable ∙ ap (λ (u : Seen). stable_over u) c.self.view_is) in
    let mark : c.of-mark.result ≡ mark_in (last_of c.args.id.now) = c.of-mark.ensures.mark ∙ ap mark_in (sym c.last.ensures.last) in
    let up = c.if-at-get.false in
    ⊎_elim (λ m. c.loop-author.invariant a q m b)
    (λ m.
    let same : a ≡ n = omega (arith, l, m) in
    let here = subst (λ k. IsBounded es (edge_of k c.args.id.now) q) same b in
    let most = c.at.ensures.most q (subst (λ k. IsBounded es (edge_at n k) q) (sym mark) here) in
    subst (λ k. q ≤ slice_index v k) (sym same) (omega (arith, most, is, up)))
    (cases_lt a n)
