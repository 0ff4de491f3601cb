use Rattle.std.proofs.Common.{rules}
use Rattle.std.specs.Prelude.{FitsSigned}
use Rattle.std.specs.Int.{w32}
use Rattle.std.proofs.lemmas.Int.{to_z-of_z}
use Rattle.rls_ops.specs.Spelling.{four_bytes, signed_bytes}
use Rattle.rls_fields.proofs.Puts.{three_puts}
use Rattle.rls_fields.proofs.write_stems.put_stem.Goals as goal

pub returns : goal.returns
returns c =
    let fits : FitsSigned w32 c.args.stem.now.low = search rules in
    let low = rw (to_z-of_z w32 c.args.stem.now.low fits) at c.in_ok-put_i32.ensures.ok in
    record {
      ok =
          three_puts c.args.out.now.items c.put_u32.new.out.items c.put_i32.new.out.items c.put_u32-2.new.out.items (four_bytes c.args.stem.now.s0) (signed_bytes c.args.stem.now.low) (four_bytes c.args.stem.now.next)
          c.in_ok-put_u32.ensures.ok low c.in_ok-put_u32-2.ensures.ok;
    }
