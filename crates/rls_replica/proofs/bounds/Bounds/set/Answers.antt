use Rattle.std.proofs.Common.{ℕ, List}
use Rattle.rls_replica.specs.declared.bounds.Edge.{Edge}
use Rattle.rls_replica.proofs.Bounding.{IsSet, set_kept, set_of, set_there}
use Rattle.rls_replica.proofs.bounds.Bounds.set.Goals as goal

pub returns : goal.returns
returns c =
    let es : List (Edge × ℕ) = c.args.self.now.numbers.entries in
    let new : List (Edge × ℕ) = c.put-2.new.self.numbers.entries in
    let is : IsSet es new c.args.first c.args.past c.args.number c.at-further.result =
    set_of es c.clear.new.self.numbers.entries c.put.new.self.numbers.entries new c.args.first c.args.past c.args.number c.at-further.result c.requires.order c.at-further.ensures.most c.clear.ensures.between c.clear.ensures.others c.in_ok-put.ensures.put c.in_ok-put-2.ensures.put in
    record {
      kept = set_kept es new c.args.first c.args.past c.args.number c.at-further.result is;
      set = set_there es new c.args.first c.args.past c.args.number c.at-further.result is;
    }
