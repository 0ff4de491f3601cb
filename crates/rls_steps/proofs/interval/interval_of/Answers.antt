use Rattle.std.proofs.Common.{arith}
use Rattle.rls_steps.specs.declared.interval.Interval.{Interval}
use Rattle.rls_steps.proofs.Intervals.{part_between}
use Rattle.rls_steps.proofs.interval.interval_of.Goals as goal

pub returns : goal.returns
returns c =
    let v : Interval = record { low = c.in_ok-low.low; high = c.in_ok-high.high } in
    let a = c.in-Some.ensures.found in
    let b = c.in-Some-find_label.ensures.found in
    record {
      low = (c.in-Some.from, a.0, a.1);
      high = (c.in-Some-find_label.to, b.0, b.1);
      between = λ n p least most.
          let e = a.1 in
          let f = b.1 in
          part_between c.args.run.now v c.in-Some.from c.in-Some-find_label.to c.requires.sound c.last-low.ensures.ident a.0 b.0 c.in_ok-low.ensures.ident c.in_ok-high.ensures.ident n p (omega (arith, least, e)) (omega (arith, most, f));
    }
