use Rattle.std.proofs.Common.{◌≡◌, ◌∙◌, refl, sym, ap, subst}
use Rattle.std.specs.Prelude.{pos}
use Rattle.std.specs.declared.cmp.Ordering.TheVariants.{Less}
use Rattle.rls_ident.specs.Identifiers.{last_of}
use Rattle.rls_runs.proofs.RunOrder.{run_ident, run_some}
use Rattle.rls_replica.specs.Bounds.{edge_cmp, edge_of, later, mark_in}
use Rattle.rls_replica.proofs.Edges.{edge_at, run_from, run_order, run_to, same_author}
use Rattle.rls_replica.proofs.bounds.Bounds.note_run.Goals as goal

pub set-requires : goal.set-requires
set-requires c =
    let r = c.args.run.now in
    let a = c.args.author in
    let m = c.of.result in
    let begins : m ≡ mark_in (last_of r.0) = c.of.ensures.mark ∙ ap mark_in (sym c.last-last.ensures.last ∙ ap last_of c.first.ensures.first) in
    let ends : c.past.result ≡ later (pos r.1) m = c.past.ensures.mark ∙ (ap (later (pos c.len.result)) (sym c.of.ensures.mark) ∙ ap (λ n. later (pos n) m) c.len.ensures.len) in
    record { order = subst (λ p. edge_cmp (edge_at a m) (edge_at a p) ≡ Less) (sym ends) (run_order r.0 r.1 a m (run_ident r c.len.ensures.run) begins (run_some r c.len.ensures.run)) }

pub returns : goal.returns
returns c =
    let r = c.args.run.now in
    let a = c.args.author in
    let m = c.of.result in
    let past = edge_at a c.past.result in
    let is = run_ident r c.len.ensures.run in
    let begins : m ≡ mark_in (last_of r.0) = c.of.ensures.mark ∙ ap mark_in (sym c.last-last.ensures.last ∙ ap last_of c.first.ensures.first) in
    let ends : c.past.result ≡ later (pos r.1) m = c.past.ensures.mark ∙ (ap (later (pos c.len.result)) (sym c.of.ensures.mark) ∙ ap (λ n. later (pos n) m) c.len.ensures.len) in
    record {
      kept = λ b x q h k. c.in_ok-set.ensures.kept (edge_of b x) q (λ u l. h (same_author (edge_at a m) past (edge_of b x) a refl refl u l)) k;
      named = λ x p. c.in_ok-set.ensures.set (edge_of a x) (run_from r.0 r.1 a m is begins x p) (subst (λ p. edge_cmp (edge_of a x) (edge_at a p) ≡ Less) (sym ends) (run_to r.0 r.1 a m is begins x p));
    }
