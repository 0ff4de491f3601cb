use Rattle.std.proofs.Common.{◌≡◌, true, take, ap, ◌∙◌}
use Rattle.rls_runs.specs.Places.{last_ident, is_above}
use Rattle.rls_runs.specs.Entries.{idents_in}
use Rattle.rls_doc.proofs.Rising.{above_taken}
use Rattle.rls_doc.proofs.Steps.{entry_at}
use Rattle.rls_doc.proofs.plain.runs_among.Goals as goal

pub append-requires-clause-above : goal.append-requires-clause-above
append-requires-clause-above c =
    let es = c.args.entries.now in
    let e = c.loop-id-item.result in
    let i = c.loop-id.id-index in
    let g = entry_at es i e c.loop-id-test.true c.loop-id-item.is in
    let above : is_above (last_ident (idents_in (take i es))) e.0 ≡ true = above_taken es i e c.requires.rises g in
    ap (λ xs. is_above (last_ident xs) c.in_ok-single.field-0.0) c.loop-id.invariant ∙ ap (λ r. is_above (last_ident (idents_in (take i es))) r.0) c.in_ok-single.ensures.single ∙ above
