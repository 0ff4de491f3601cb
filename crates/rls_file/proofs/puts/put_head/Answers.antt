use Rattle.std.proofs.Common.{codes, ◌∷◌, []}
use Rattle.rls_ops.specs.Spelling.{four_bytes, eight_bytes}
use Rattle.rls_codec.proofs.Appending.{five_puts}
use Rattle.rls_file.proofs.puts.put_head.Goals as goal

pub returns : goal.returns
returns c = record {
  ok =
      five_puts c.args.out.now.items c.put_magic.new.out.items c.put_byte.new.out.items c.put_u64.new.out.items c.put_u32.new.out.items c.put_u32-2.new.out.items (codes "RLSF") (4 ∷ []) (eight_bytes c.args.group)
      (four_bytes c.args.members) (four_bytes c.args.me) c.in_ok-put_magic.ensures.ok c.in_ok-put_byte.ensures.ok c.in_ok-put_u64.ensures.ok c.in_ok-put_u32.ensures.ok c.in_ok-put_u32-2.ensures.ok;
}
