use Rattle.std.proofs.Common.{◌∙◌, sym}
use Rattle.rls_anchor.proofs.Elsewhere.{locate_none, locate_some, located_alike}
use Rattle.rls_anchor.proofs.anchor.Anchor.locate.Goals as goal

pub returns-then-not-branch-clause-place : goal.returns-then-not-branch-clause-place
returns-then-not-branch-clause-place c = locate_none c.args.replica.now c.args.self.now (sym c.in_ok-is_retained.ensures.retained ∙ c.if-not-branch.true)

pub returns-then-not-branch-clause-stands : goal.returns-then-not-branch-clause-stands
returns-then-not-branch-clause-stands c = λ t h. returns-then-not-branch-clause-place c ∙ (located_alike c.args.replica.now t c.args.self.now h).0

pub returns-in-Ok-clause-place : goal.returns-in-Ok-clause-place
returns-in-Ok-clause-place c = locate_some c.args.replica.now c.args.self.now c.in-Ok.at (sym c.in_ok-is_retained.ensures.retained ∙ c.if-not-branch.false) c.in-Ok.ensures.place

pub returns-in-Ok-clause-stands : goal.returns-in-Ok-clause-stands
returns-in-Ok-clause-stands c = λ t h. returns-in-Ok-clause-place c ∙ (located_alike c.args.replica.now t c.args.self.now h).0
