use Rattle.std.proofs.Common.{ap, ◌∙◌, arith}
use Rattle.rls_ident.specs.Tuples.{tuple_cmp}
use Rattle.rls_ident.specs.Maps.{under}
use Rattle.rls_ident.proofs.Shifted.{shifted_none}
use Rattle.rls_rename.proofs.Stretches.{side_along}
use Rattle.rls_rename.proofs.stretch.Stretch.side_end.Goals as goal

pub loop-low-init : goal.loop-low-init
loop-low-init c =
    let s = c.args.self.now.some in
    record {
      order = s;
      within = omega arith;
      above = omega arith;
      below = omega arith;
      same = ap (λ x. under tuple_cmp x c.args.pattern.now) (shifted_none c.args.self.now.first) ∙ c.requires.under;
    }

pub returns-clause-side : goal.returns-clause-side
returns-clause-side c = side_along c.args.pattern.now c.args.self.now.first c.loop-low.low c.args.is_under c.len-len.ensures.ident c.requires.under c.loop-low.invariant.same
