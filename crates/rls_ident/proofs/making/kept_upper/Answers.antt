use Rattle.std.proofs.Common.{◌∙◌, sym, ap, arith}
use Rattle.std.specs.Prelude.{◌+◌, ◌∷◌, drop}
use Rattle.rls_ident.specs.Between.{below}
use Rattle.rls_ident.proofs.BetweenSteps.{under_inner, under_last}
use Rattle.rls_ident.proofs.making.kept_upper.Goals as goal

pub returns-then-i-len-clause-below : goal.returns-then-i-len-clause-below
returns-then-i-len-clause-below c = λ r s l. under_inner r s c.args.hi.now c.args.i c.tuple-tuple.result c.tuple-tuple.ensures.found (omega arith) l

pub returns-else-i-len-clause-below : goal.returns-else-i-len-clause-below
returns-else-i-len-clause-below c = λ r s l. under_last r s c.args.hi.now c.args.i c.tuple-tuple.result c.tuple-tuple.ensures.found (omega arith) l ∙ ap (λ t. t ∷ below (drop (c.args.i + 1) c.args.hi.now) r s) (sym c.just_before.ensures.before)
