use Rattle.std.proofs.Common.{◌∙◌, sym, arith}
use Rattle.rls_runs.proofs.RunEnds.{count_most}
use Rattle.rls_runs.proofs.RunOrder.{rising_of}
use Rattle.rls_replica.proofs.Merges.{counted_less, counted_rest}
use Rattle.rls_replica.proofs.uniting.below.Goals as goal

pub returns-clause-within : goal.returns-clause-within
returns-clause-within c = let l = count_most c.args.ids.now c.in_ok-other.other in omega (arith, l, c.count_below.ensures.count)

pub returns-clause-less : goal.returns-clause-less
returns-clause-less c = λ y g x s. counted_less c.args.ids.now c.count_below.result x y c.in_ok-other.other (rising_of c.args.ids.now c.total-total.ensures.idents.1) c.count_below.ensures.count (sym c.in_ok-other.ensures.found ∙ g) s

pub returns-clause-rest : goal.returns-clause-rest
returns-clause-rest c = λ k x y l g h. counted_rest c.args.ids.now c.count_below.result k x y c.in_ok-other.other (rising_of c.args.ids.now c.total-total.ensures.idents.1) c.count_below.ensures.count (sym c.in_ok-other.ensures.found ∙ g) l h
