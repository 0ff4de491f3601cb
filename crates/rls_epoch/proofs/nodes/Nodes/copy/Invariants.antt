use Rattle.std.proofs.Common.{◌≡◌, take}
use Rattle.rls_epoch.proofs.nodes.Nodes.copy.Given as goal

-- those in front of the index were copied
abbrev pub invariant-loop-node : goal.invariant-loop-node
invariant-loop-node l = l.list.items ≡ take l.node-index l.self-inside.list.items
