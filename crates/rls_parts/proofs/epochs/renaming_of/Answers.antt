use Rattle.std.proofs.Common.{length, ap, ◌∙◌, arith, Err}
use Rattle.rls_parts.proofs.epochs.renaming_of.Goals as goal

pub unreachable-requires-in-Err-TooMany : goal.unreachable-requires-in-Err-TooMany
unreachable-requires-in-Err-TooMany c =
    let many = (c.new.ensures.too_many c.in-Err-TooMany.field-0-0).0 (c.in-Err-TooMany.is ∙ ap (λ e. Err e) c.in-Err-TooMany.field-0-is) in
    let same = ap length c.in_ok-copy.ensures.copy in
    let few = c.requires.few in
    let is = many.0 in
    let more = many.1 in
    absurd (omega arith)
