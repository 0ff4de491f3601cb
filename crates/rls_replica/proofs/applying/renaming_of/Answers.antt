use Rattle.std.proofs.Common.{◌∙◌, Err, length, ap, arith}
use Rattle.rls_replica.proofs.applying.renaming_of.Goals as goal

pub unreachable-requires-in-Err-TooMany : goal.unreachable-requires-in-Err-TooMany
unreachable-requires-in-Err-TooMany c =
    let p = (c.new.ensures.too_many c.in-Err-TooMany.field-0-0).0 (c.in-Err-TooMany.is ∙ ap (λ e. Err e) c.in-Err-TooMany.field-0-is) in
    let e = p.0 in
    let l = p.1 in
    let f = c.requires.few in
    omega (arith, ap length c.in_ok-copy.ensures.copy)
