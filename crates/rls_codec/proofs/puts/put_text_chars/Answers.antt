use Rattle.rls_codec.proofs.Appending.{puts_parts}
use Rattle.rls_codec.proofs.puts.put_text_chars.Goals as goal

pub returns-in_ok-put_chars-2-clause-ok : goal.returns-in_ok-put_chars-2-clause-ok
returns-in_ok-put_chars-2-clause-ok c =
    puts_parts c.args.out.now.items c.put_chars.new.out.items c.put_chars-then-not-is_empty.new.out.items c.as_slices.result.0.now c.as_slices.result.1.now c.args.text.now c.as_slices.ensures.chars c.in_ok-put_chars.ensures.ok c.in_ok-put_chars-2.ensures.ok
