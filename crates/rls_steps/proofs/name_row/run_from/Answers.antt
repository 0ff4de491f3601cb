use Rattle.std.proofs.Common.{ℕ, ◌+◌, List, sym, ap, ◌∙◌, arith}
use Rattle.std.specs.Prelude.{pos}
use Rattle.rls_ident.specs.declared.tuple.Tuple.{Tuple}
use Rattle.rls_ident.specs.Tuples.{offset_of}
use Rattle.rls_ident.specs.Identifiers.{last_of, shifted}
use Rattle.rls_steps.specs.NameRuns.{name_at}
use Rattle.rls_steps.proofs.LabelSteps.{further}
use Rattle.rls_steps.proofs.Stretches.{name_in}
use Rattle.rls_steps.proofs.name_row.run_from.Goals as goal

pub overflow_sub-min : goal.overflow_sub-min
overflow_sub-min c =
    let r = c.args.run.now in
    let f = c.in-Some.ensures.found in
    let most = (c.labels-greatest.ensures.labels (name_at r c.in-Some.place) (name_in r c.in-Some.place f.0)).1 in
    let e = f.1 in
    omega (arith, most, e, c.min.ensures, c.requires.high)

pub returns-in-Ok-clause-names : goal.returns-in-Ok-clause-names
returns-in-Ok-clause-names c = λ k h.
    let r = c.args.run.now in
    let f = c.in-Some.ensures.found in
    let g = c.labels-greatest.ensures.greatest in
    let size = ap (λ (z : List Tuple × ℕ). z.1) c.in-Ok.ensures.ok in
    let first = ap (λ (z : List Tuple × ℕ). z.0) c.in-Ok.ensures.ok ∙ c.in_ok-ident.ensures.ident in
    let top = g.2 in
    let w = further r.down (offset_of (last_of r.first)) r.first r.label r.len c.in-Some.place g.0 c.args.label k c.requires.sound.within f.0 g.1 f.1 (omega (arith, h, size, top, c.min.ensures, c.min-more.ensures, c.if-more-eq0.false)) in
    (w.0, w.1, w.2 ∙ ap (λ x. (shifted (pos k) x, c.args.label + k)) (sym first))
