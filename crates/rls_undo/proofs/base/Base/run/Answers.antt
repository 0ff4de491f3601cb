use Rattle.std.proofs.Common.{◌≡◌, ◌∙◌, ap, arith, Err, w32}
use Rattle.std.proofs.lemmas.Int.{ints, to_z-of_z}
use Rattle.rls_ident.specs.Tuples.{offset_of}
use Rattle.rls_ident.specs.Identifiers.{last_of}
use Rattle.rls_undo.proofs.Keeping.{offset_with}
use Rattle.rls_undo.proofs.base.Base.run.Goals as goal

pub unreachable-requires-in-Err-OffsetEnd : goal.unreachable-requires-in-Err-OffsetEnd
unreachable-requires-in-Err-OffsetEnd c =
    let at : offset_of (last_of c.in_ok-ident.field-0) ≡ c.args.offset = ap (λ x. offset_of (last_of x)) c.in_ok-ident.ensures.ident ∙ (offset_with _ c.args.self.now.id c.len-len.ensures.ident ∙ to_z-of_z w32 c.args.offset c.ranges.offset) in
    let past = c.in-Err-OffsetEnd.ensures.offset_end.0 (ap (λ x. Err x) c.in-Err-OffsetEnd.field-0-is) in
    let within = c.requires.within in
    omega (arith, ints)
