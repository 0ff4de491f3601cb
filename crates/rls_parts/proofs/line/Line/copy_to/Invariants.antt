use Rattle.std.proofs.Common.{◌≡◌, ◌++◌, map, take}
use Rattle.rls_parts.specs.Reaches.{stem_at}
use Rattle.rls_parts.proofs.line.Line.copy_to.Given as goal

-- the stems up to the index were put after the others
abbrev pub invariant-loop-reach : goal.invariant-loop-reach
invariant-loop-reach l = l.stems ≡ l.fn.stems ++ map (stem_at l.author) (take l.reach-index l.reach-items)
