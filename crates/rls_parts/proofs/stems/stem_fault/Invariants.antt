use Rattle.std.proofs.Common.{◌≡◌, drop, None}
use Rattle.std.specs.Prelude.{option_copied}
use Rattle.rls_parts.specs.Rules.{stem_fault}
use Rattle.rls_parts.proofs.stems.stem_fault.Given as goal

-- the stems so far pass
abbrev pub invariant-loop-i : goal.invariant-loop-i
invariant-loop-i l = stem_fault l.parts (option_copied l.before) l.i (drop l.i l.parts.stems) ≡ stem_fault l.parts None 0 l.parts.stems
