use Rattle.std.proofs.Common.{sym, ◌∙◌, arith}
use Rattle.std.specs.declared.cmp.Ordering.TheVariants.{Less, Equal, Greater}
use Rattle.rls_rename.proofs.Replacing.{head_read, head_ended}
use Rattle.rls_rename.proofs.heads.less.Goals as goal

pub returns-in-Less : goal.returns-in-Less
returns-in-Less c = record { less = head_read c.args.head.now c.args.other.now c.loop-i.i c.tuple.result _ Less _ c.tuple.ensures.found (omega arith) (sym c.in-Less.is ∙ c.compare.ensures.order) c.loop-i.invariant }

pub returns-in-Greater : goal.returns-in-Greater
returns-in-Greater c = record { less = head_read c.args.head.now c.args.other.now c.loop-i.i c.tuple.result _ Greater _ c.tuple.ensures.found (omega arith) (sym c.in-Greater.is ∙ c.compare.ensures.order) c.loop-i.invariant }

pub loop-i-preserved : goal.loop-i-preserved
loop-i-preserved c = head_read c.args.head.now c.args.other.now c.loop-i.i c.tuple.result _ Equal _ c.tuple.ensures.found (omega arith) (sym c.in-Equal.is ∙ c.compare.ensures.order) c.loop-i.invariant

pub returns : goal.returns
returns c = record { less = head_ended c.args.head.now c.args.other.now c.loop-i.i _ (omega arith) c.loop-i.invariant }
