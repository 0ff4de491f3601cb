use Rattle.std.proofs.Common.{◌∙◌, sym, ap}
use Rattle.std.specs.Str.{chars}
use Rattle.std.specs.Str.Iter.{chars_rest}
use Rattle.std.proofs.lemmas.Str.{Chars-Drains, encodes-chars}
use Rattle.rls_runs.proofs.text.chars_of.Goals as goal

pub returns : goal.returns
returns c =
    let ran = c.in_ok-extend.ensures.ran in
    let whole = encodes-chars c.args.s.now c.utf8.s in
    let rest = ap chars_rest ran.2 ∙ c.chars.ensures.rest in
    let read = Chars-Drains (chars c.args.s.now) ran.1 ran.0 (whole ∙ sym rest) ran.4 in
    record { utf8 = rw (ran.3.0, c.in_ok-chars.ensures.items, read) whole }
