use Rattle.std.proofs.Common.{◌≡◌, map, take}
use Rattle.rls_seen.specs.Over.{placed_over}
use Rattle.rls_steps.proofs.labelling.translated.Given as goal

-- those in front are there
abbrev pub invariant-names : goal.invariant-names
invariant-names l = l.there ≡ map (λ n. (placed_over l.replica l.epoch n.0, n.1)) (take l.i l.names)
