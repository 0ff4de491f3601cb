use Rattle.std.proofs.Common.{◌≡◌, ◌∙◌, Option, sym, subst}
use Rattle.std.specs.Prelude.{IfOk}
use Rattle.rls_anchor.specs.declared.anchor.Anchor.{Anchor}
use Rattle.rls_places.proofs.Pieces.{at_beginning, at_name}
use Rattle.rls_places.proofs.reading.place_of.Goals as goal

pub returns-then-eq : goal.returns-then-eq
returns-then-eq c = record { place = at_beginning c.args.word.now (sym c.eq.ensures ∙ c.if-eq.true) }

pub returns : goal.returns
returns c = record { place = subst (λ (o : Option Anchor). IfOk c.named.result (λ place. place ≡ o)) (at_name c.args.word.now (sym c.eq.ensures ∙ c.if-eq.false)) c.named.ensures.place }
