use Rattle.std.proofs.Common.{◌-◌, length, take, ap, ◌∙◌, arith}
use Rattle.rls_steps.specs.Labelled.{Names}
use Rattle.rls_steps.specs.NameRuns.{named}
use Rattle.rls_steps.proofs.Indexing.{indexed_less, some_runs, less_take}
use Rattle.rls_steps.proofs.names.Names.pop.Goals as goal

pub drop_last-requires : goal.drop_last-requires
drop_last-requires c =
    let count = c.self.invariant.count in
    record { some = some_runs c.self.inside.runs.items (omega (arith, count)) }

pub invariant_of-self : goal.invariant_of-self
invariant_of-self c =
    indexed_less c.self.inside.runs.items c.drop_last.new.runs.items c.self.inside.starts.items c.drop_last.new.starts.items c.self.inside.firsts.entries c.drop_last.new.firsts.entries c.self.inside.bounds c.self.inside.intervals.items c.self.inside.len c.self.inside.height c.self.invariant
    c.drop_last.ensures.kept c.drop_last.ensures.fewer c.drop_last.ensures.count c.drop_last.ensures.names

pub returns : goal.returns
returns c = record {
  names = let w = c.drop_last.ensures.names in
      let ns = named c.self.inside.runs.items in
      less_take ns (named c.drop_last.new.runs.items) w.0 w.1 ∙ ap (λ (ks : Names). take (length ks - 1) ks) c.self.view_is;
}
