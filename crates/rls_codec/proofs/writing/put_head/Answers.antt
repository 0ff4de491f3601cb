use Rattle.std.specs.Prelude.{codes}
use Rattle.std.proofs.Common.{[], ◌∷◌}
use Rattle.rls_ops.specs.Spelling.{four_bytes, eight_bytes, vector_bytes, message_form, message_head}
use Rattle.rls_codec.proofs.Appending.{six_puts}
use Rattle.rls_codec.proofs.writing.put_head.Goals as goal

pub returns-clause-ok : goal.returns-clause-ok
unfolding message_head
returns-clause-ok c =
    six_puts c.args.out.now.items c.put_magic.new.out.items c.put_byte.new.out.items c.put_u64.new.out.items c.put_u32.new.out.items c.put_u32-2.new.out.items c.put_vector.new.out.items
    (codes "RLSM") (message_form ∷ []) (eight_bytes c.args.group) (four_bytes c.args.members) (four_bytes c.args.from) (vector_bytes c.args.vector.now)
    c.in_ok-put_magic.ensures.ok c.in_ok-put_byte.ensures.ok c.in_ok-put_u64.ensures.ok c.in_ok-put_u32.ensures.ok c.in_ok-put_u32-2.ensures.ok c.in_ok-put_vector.ensures.ok
