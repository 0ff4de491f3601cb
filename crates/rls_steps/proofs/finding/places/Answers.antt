use Rattle.std.specs.Prelude.{reverse}
use Rattle.rls_steps.proofs.Found.{places_found}
use Rattle.rls_steps.proofs.finding.places.Goals as goal

pub returns : goal.returns
returns c = record {
  places = places_found c.args.replica.now.text (reverse c.args.names.now) c.args.labels.now c.in_ok-places.places.items c.sort_unstable.new.self.items c.dedup.new.self.items
      c.sane.ensures.sane.idents.1 c.apart.ensures.apart c.in_ok-places.ensures.places c.sort_unstable.ensures.permutation c.sort_unstable.ensures.sorted c.dedup.ensures.filtered;
}
