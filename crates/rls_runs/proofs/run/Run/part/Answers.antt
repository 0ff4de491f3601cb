use Rattle.std.proofs.Common.{Err, ap, ◌∙◌, arith}
use Rattle.std.specs.Prelude.{pos}
use Rattle.std.proofs.lemmas.Int.{ints}
use Rattle.rls_ident.specs.Identifiers.{last_of, shifted}
use Rattle.rls_ident.specs.Tuples.{offset_of}
use Rattle.rls_runs.proofs.Cuts.{part_ends}
use Rattle.rls_runs.proofs.run.Run.part.Goals as goal

pub unreachable-requires-in-Err-OffsetEnd : goal.unreachable-requires-in-Err-OffsetEnd
unreachable-requires-in-Err-OffsetEnd c =
    let r = c.args.self.now in
    let end = (c.in-Err-OffsetEnd.ensures.offset_end).0 (ap (λ e. Err e) c.in-Err-OffsetEnd.field-0-is) in
    let at = ap (λ x. offset_of (last_of x)) (c.in_ok-shifted.ensures.shifted ∙ ap (shifted (pos c.args.from)) c.first.ensures.first) in
    let most = part_ends r c.args.from c.args.len c.first.ensures.run c.requires.within in
    omega (arith, ints, end, at, most)
