use Rattle.std.proofs.Common.{◌≡◌, length, drop}
use Rattle.rls_epoch.specs.Ways.{AreWithin, led}
use Rattle.rls_epoch.proofs.nodes.Nodes.ident_led.Given as goal

-- what is left leads to where all steps lead
abbrev pub invariant-loop-step : goal.invariant-loop-step
invariant-loop-step l = record {
  within : AreWithin (length l.self.placed) (drop l.step-index l.rest);
  rest : led l.self.placed (drop l.step-index l.rest) l.at ≡ led l.self.placed l.steps l.id;
}
