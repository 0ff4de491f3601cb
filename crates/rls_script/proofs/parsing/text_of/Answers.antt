use Rattle.std.proofs.Common.{sym, ap, ◌∙◌}
use Rattle.rls_script.proofs.Escapes.{has_backslash, stands_for_itself}
use Rattle.rls_script.proofs.parsing.text_of.Goals as goal

pub returns : goal.returns
returns c =
    let none = ap has_backslash (sym c.as_bytes.ensures.value) ∙ (sym c.contains.ensures.value ∙ c.if-contains.false) in
    record { text = sym (stands_for_itself c.args.escaped.now c.in_ok-text.text c.utf8.escaped c.in_ok-text.ensures.utf8 none) }
