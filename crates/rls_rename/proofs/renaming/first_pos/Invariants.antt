use Rattle.std.proofs.Common.{◌≡◌, drop}
use Rattle.rls_rename.specs.Renaming.{first_pos}
use Rattle.rls_rename.proofs.renaming.first_pos.Given as goal

abbrev pub invariant-loop-i : goal.invariant-loop-i
invariant-loop-i l = first_pos (drop l.i l.id) ≡ first_pos l.id
