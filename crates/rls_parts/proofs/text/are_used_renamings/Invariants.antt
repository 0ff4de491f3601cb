use Rattle.std.proofs.Common.{◌≡◌, drop}
use Rattle.std.specs.List.{list_all}
use Rattle.rls_model.specs.declared.parts.Parts.{Parts}
use Rattle.rls_parts.specs.Used.{is_used_renaming}
use Rattle.rls_parts.proofs.text.are_used_renamings.Given as goal

-- those of the epochs so far were used
abbrev pub invariant-loop-i : goal.invariant-loop-i
invariant-loop-i l = (p : Parts) → p.stems ≡ l.stems.stems → list_all (is_used_renaming p) (drop l.i l.list) ≡ list_all (is_used_renaming p) (drop 1 l.list)
