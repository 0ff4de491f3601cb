use Rattle.std.proofs.Common.{◌++◌, ap, ◌∙◌}
use Rattle.std.proofs.Math.Facts.{to_z-of_z}
use Rattle.rls_ident.specs.declared.tuple.Tuple.TheVariants.{At}
use Rattle.rls_ops.specs.Spelling.{tuple_bytes}
use Rattle.rls_codec.proofs.puts.put_spot.Goals as goal

-- the offset is passed on as its bits
pub returns-clause-ok : goal.returns-clause-ok
returns-clause-ok c =
    let bytes = c.spot_bytes.ensures.bytes ∙ ap (λ offset. tuple_bytes (At c.args.pos c.args.replica c.args.seq offset)) (to_z-of_z c.ranges.offset) in
    c.in_ok-extend_from_slice.ensures.items ∙ ap (λ appended. c.args.out.now.items ++ appended) bytes
