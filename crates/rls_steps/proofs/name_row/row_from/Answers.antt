use Rattle.std.proofs.Common.{◌≡◌, ℕ, ◌+◌, ◌-◌, ◌<◌, ◌≤◌, List, length, refl, subst, arith}
use Rattle.std.specs.Prelude.{pos, Option, IfSome}
use Rattle.std.proofs.lemmas.Option.{slice_get_read}
use Rattle.rls_ident.specs.declared.tuple.Tuple.{Tuple}
use Rattle.rls_ident.specs.Identifiers.{shifted}
use Rattle.rls_steps.specs.NameRuns.{name_at}
use Rattle.rls_steps.proofs.Rows.{if_both, row_is}
use Rattle.rls_steps.proofs.Stretches.{sound_at}
use Rattle.rls_steps.proofs.name_row.row_from.Goals as goal

pub run_from-requires-clause-sound : goal.run_from-requires-clause-sound
run_from-requires-clause-sound c =
    let rs = c.args.runs.now in
    let last = c.min-count.result - 1 in
    let r = c.index-runs-last.result in
    sound_at rs last r c.requires.sound (slice_get_read rs (length rs) last r refl (omega (arith, c.min-count.ensures, c.if-count-eq0.false)) c.index-runs-last.is)

pub returns-in_ok-row-in-Some-clause-row : goal.returns-in_ok-row-in-Some-clause-row
returns-in_ok-row-in-Some-clause-row c =
    let rs = c.args.runs.now in
    let last = c.min-count.result - 1 in
    let r = c.index-runs-last.result in
    let l = c.args.label in
    let span = c.span_at-span.result in
    let few = c.min-count.ensures in
    let g = slice_get_read rs (length rs) last r refl (omega (arith, few, c.if-count-eq0.false)) c.index-runs-last.is in
    let own = subst (λ (o : Option (List Tuple × ℕ)). IfSome o (λ z. (k : ℕ) → k < z.1 → (j : ℕ) × (j < r.len) × (name_at r j ≡ (shifted (pos k) z.0, l + k)))) c.in-Some.is c.in_ok-run_from.ensures.names in
    let top = subst (λ (o : Option (List Tuple × ℕ)). IfSome o (λ z. (k : ℕ) → k < z.1 → l + k ≤ span.high)) c.in-Some.is c.in_ok-run_from.ensures.high in
    if_both c.in_ok-row-in-Some.row
    (λ row e before. row_is rs last span.low span.high span.count l r c.in-Some.run' row c.requires.sound g (c.span_at-span.ensures.none rs c.requires.bounded) c.span_at-span.ensures.low (λ i a b. omega (arith, few, a, b)) e own top
    (λ j s m has h p q. before rs j s m c.requires.bounded c.requires.noted has h p q))
    c.in_ok-row-in-Some.ensures.run c.in_ok-row-in-Some.ensures.before
