use Rattle.std.proofs.Common.{◌∙◌, arith}
use Rattle.std.proofs.lemmas.Str.Pattern.{strip_prefix_char}
use Rattle.rls_places.proofs.Pieces.{no_minus}
use Rattle.rls_places.proofs.reading.signed.Goals as goal

pub returns-in-None : goal.returns-in-None
returns-in-None c = record { offset = c.from_zero.ensures.offset ∙ no_minus c.args.word.now (rw c.in-None.is at (strip_prefix_char 45 c.args.word.now c.strip_prefix.result c.strip_prefix.ensures.cases (omega arith))) }
