use Rattle.std.proofs.Common.{ℕ, List, Some, sym, ap, ◌∙◌, arith}
use Rattle.std.specs.Prelude.{reverse}
use Rattle.std.proofs.lemmas.List.{length-reverse}
use Rattle.rls_ident.specs.declared.tuple.Tuple.{Tuple}
use Rattle.rls_steps.proofs.Walking.{newest_short, newest_ident, none_ident}
use Rattle.rls_steps.proofs.finding.newest_ident.Goals as goal

pub name-requires : goal.name-requires
name-requires c =
    let short = newest_short (reverse c.args.names.now) c.args.label c.in-Some.at (sym c.in-Some.ensures.newest) in
    let size = length-reverse c.args.names.now in
    record { place = omega (arith, short, size) }

pub returns-in-None : goal.returns-in-None
returns-in-None c = record { ident = sym (none_ident (reverse c.args.names.now) c.args.label (sym c.in-None.ensures.newest)) }

pub returns-in_ok-ident-in-Some : goal.returns-in_ok-ident-in-Some
returns-in_ok-ident-in-Some c =
    let r = newest_ident (reverse c.args.names.now) c.args.label c.in-Some.at (sym c.in-Some.ensures.newest) in
    let name = ap (λ (m : List Tuple × ℕ). m.0) (c.in_ok-ident-in-Some.ensures.tail r.0 r.1 r.2) in
    record { ident = ap Some name ∙ sym r.3 }
