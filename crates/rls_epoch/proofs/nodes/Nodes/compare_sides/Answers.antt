use Rattle.std.proofs.Common.{ap, ◌∙◌}
use Rattle.rls_epoch.specs.Climbing.{name_cmp}
use Rattle.rls_epoch.specs.Sorted.{place_name}
use Rattle.rls_epoch.proofs.nodes.Nodes.compare_sides.Goals as goal

pub returns-in-Some-Some : goal.returns-in-Some-Some
returns-in-Some-Some c =
    rw (c.in-Some-Some.is-0, c.in-Some-Some.is-1) record {
      order = c.compare_names.ensures.order
          ∙ (ap (λ e. name_cmp e c.name_of-in-Some-Some.result) c.name_of.ensures.name ∙ ap (name_cmp (place_name c.args.self.now.placed c.in-Some-Some.x)) c.name_of-in-Some-Some.ensures.name);
    }
