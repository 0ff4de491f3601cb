use Rattle.std.proofs.Common.{◌≡◌, ◌∙◌, ◌+◌, ◌<◌, ℕ, Some, ap, arith}
use Rattle.std.specs.Prelude.{pos, slice_get}
use Rattle.rls_ident.specs.Identifiers.{shifted}
use Rattle.rls_runs.specs.Runs.{run_idents}
use Rattle.rls_replica.proofs.Fronts.{part_gets, part_within}
use Rattle.rls_replica.proofs.naming.part_of.Goals as goal

module _ (c : goal.In_ok-part) where
  idents : c.in_ok-part.part ≡ run_idents (shifted (pos c.locate-from.result.1) c.locate-from.result.0.now.0) c.min-len.result
  idents = c.in_ok-part.ensures.idents ∙ ap (λ r. run_idents r.0 r.1) c.in_ok-piece.ensures.part

  there : (k : ℕ) → k < c.min-len.result → slice_get c.args.ids.now (c.args.at + k) ≡ Some (shifted (pos (c.locate-from.result.1 + k)) c.locate-from.result.0.now.0)
  there k l = c.locate-from.ensures.idents k (omega (arith, l, c.min-len.ensures))

pub returns-clause-within : goal.returns-clause-within
returns-clause-within c =
    part_within c.args.ids.now c.in_ok-part.part c.args.at c.locate-from.result.1 c.min-len.result c.locate-from.result.0.now.0 (idents c) (omega (arith, c.max.ensures, c.min-len.ensures, c.locate-from.ensures.within)) (there c)

pub returns-clause-part : goal.returns-clause-part
returns-clause-part c = part_gets c.args.ids.now c.in_ok-part.part c.args.at c.locate-from.result.1 c.min-len.result c.locate-from.result.0.now.0 (idents c) (there c)
