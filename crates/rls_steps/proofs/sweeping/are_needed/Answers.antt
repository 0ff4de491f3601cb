use Rattle.std.proofs.Common.{◌+◌, ◌-◌, get_or, arith}
use Rattle.rls_ident.proofs.Members.{eq_is}
use Rattle.rls_steps.proofs.SweptRuns.{found_at, needed_between}
use Rattle.rls_steps.proofs.sweeping.are_needed.Goals as goal

pub returns-then-more-labels : goal.returns-then-more-labels
returns-then-more-labels c = record {
  needed = λ t n p.
      let ls = c.args.labels.now in
      let low = c.labels-low.result.0 in
      let high = c.labels-low.result.1 in
      let at = c.in-Ok.at in
      let w = c.labels-low.ensures.labels n p in
      let first = found_at ls low at c.in-Ok.ensures.position c.requires.rising in
      let short = first.0 in
      let last = eq_is (get_or ls (at + (high - low)) 0) high t in
      needed_between ls at low high n.1 c.requires.rising (omega (arith, short, c.if-more-labels.true)) first.1 last w.0 w.1;
}
