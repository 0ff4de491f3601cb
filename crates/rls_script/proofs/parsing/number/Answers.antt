use Rattle.std.proofs.Common.{sym, ◌∙◌}
use Rattle.rls_script.proofs.Numbers.{no_number, parsed_number}
use Rattle.rls_script.proofs.parsing.number.Goals as goal

pub returns-then-not-is_plain : goal.returns-then-not-is_plain
returns-then-not-is_plain c = record {
  value = sym (no_number c.args.digits.now (rw c.as_bytes.ensures.value at (sym c.is_plain.ensures.plain ∙ c.if-not-is_plain.true)));
}

pub returns : goal.returns
returns c = record {
  value = c.ok.ensures.value ∙ parsed_number c.args.digits.now c.parse.result (rw c.as_bytes.ensures.value at (sym c.is_plain.ensures.plain ∙ c.if-not-is_plain.false)) c.parse.ensures.value.0;
}
