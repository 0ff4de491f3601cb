use Rattle.std.proofs.Common.{sym, ◌∙◌}
use Rattle.std.specs.Prelude.{pos}
use Rattle.rls_ident.specs.Identifiers.{shifted}
use Rattle.rls_ident.proofs.Ends.{eq_same}
use Rattle.rls_steps.proofs.Stretches.{shifted_offset, follows_not}
use Rattle.rls_steps.proofs.name_run.place_from.Goals as goal

pub returns-in-None-clause-missed : goal.returns-in-None-clause-missed
returns-in-None-clause-missed c =
    λ none k h e. c.offset_place.ensures.not_there c.in-None.is k h (shifted_offset c.args.low.now c.args.high.now c.last.result c.last-2.result k c.last.ensures.ident c.last.ensures.last c.last-2.ensures.last e)

pub returns-then-follows_by-clause-found : goal.returns-then-follows_by-clause-found
returns-then-follows_by-clause-found c =
    (c.in-Some.ensures.there.0, eq_same c.args.high.now (shifted (pos c.in-Some.by) c.args.low.now) (sym c.follows_by.ensures.follows ∙ c.if-follows_by.true))

pub returns-else-follows_by-clause-missed : goal.returns-else-follows_by-clause-missed
returns-else-follows_by-clause-missed c =
    λ none k h e. follows_not c.args.low.now c.args.high.now c.last.result c.last-2.result k c.in-Some.by c.last.ensures.ident c.last.ensures.last c.last-2.ensures.last c.in-Some.ensures.there.1 (sym c.follows_by.ensures.follows ∙ c.if-follows_by.false) e
