use Rattle.std.proofs.Common.{◌≡◌, ◌++◌, ◌-◌}
use Rattle.rls_world.specs.Draws.{letters, after_draws}
use Rattle.rls_world.proofs.draws.Draws.letters.Given as goal

-- the rest is still to come
abbrev pub invariant-loop : goal.invariant-loop
invariant-loop l = record {
  letters : l.text ++ letters (l.count - l.counter) l.self.state ≡ letters l.count l.fn.self.state;
  state : after_draws (l.count - l.counter) l.self.state ≡ after_draws l.count l.fn.self.state;
}
