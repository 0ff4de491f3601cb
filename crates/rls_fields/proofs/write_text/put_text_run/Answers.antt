use Rattle.std.proofs.Common.{arith}
use Rattle.rls_codec.proofs.SizeLaws.{short_ident, chars_length}
use Rattle.rls_fields.proofs.write_text.put_text_run.Goals as goal

pub put_run-requires : goal.put_run-requires
put_run-requires c = short_ident c.args.run.now.0 (omega (arith, c.requires.small))

pub put_text-requires : goal.put_text-requires
put_text-requires c = omega (arith, chars_length c.args.text.now, c.requires.small)
