use Rattle.std.proofs.Common.{◌≡◌, drop}
use Rattle.std.specs.List.{list_any}
use Rattle.rls_ident.specs.EpochNames.{is_within}
use Rattle.rls_parts.specs.Reading.{names_of}
use Rattle.rls_parts.proofs.retained.has_stable.Given as goal

-- none of the epochs so far is stable
abbrev pub invariant-loop-i : goal.invariant-loop-i
invariant-loop-i l = list_any (λ e. is_within e l.stable) (names_of (drop l.i l.parts.epochs)) ≡ list_any (λ e. is_within e l.stable) (names_of l.parts.epochs)
