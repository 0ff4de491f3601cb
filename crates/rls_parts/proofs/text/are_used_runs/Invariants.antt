use Rattle.std.proofs.Common.{◌≡◌, drop}
use Rattle.std.specs.List.{list_all}
use Rattle.rls_ident.specs.Identifiers.{last_of}
use Rattle.rls_runs.specs.Runs.{idents_of}
use Rattle.rls_model.specs.declared.parts.Parts.{Parts}
use Rattle.rls_parts.specs.Rules.{is_used_tuple}
use Rattle.rls_parts.proofs.text.are_used_runs.Given as goal

-- those of the runs so far were used
abbrev pub invariant-loop-i : goal.invariant-loop-i
invariant-loop-i l = (p : Parts) → p.stems ≡ l.stems.stems → list_all (λ x. is_used_tuple p (last_of x)) (idents_of (drop l.i l.runs)) ≡ list_all (λ x. is_used_tuple p (last_of x)) (idents_of l.runs)
