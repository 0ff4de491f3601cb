use Rattle.std.proofs.Common.{◌≡◌, drop, length}
use Rattle.std.specs.Prelude.{IfSome, IsTrue}
use Rattle.rls_parts.specs.Reading.{stable_of_parts}
use Rattle.rls_parts.specs.Rules.{is_kept_name, log_fault, raised_by}
use Rattle.rls_parts.proofs.log.log_fault.Given as goal

-- the operations so far pass, and the epoch of the last one is kept
abbrev pub invariant-loop-i : goal.invariant-loop-i
invariant-loop-i l = record {
  counts : length l.running ≡ l.parts.members;
  pass : log_fault l.parts l.running l.i (drop l.i l.parts.log) ≡ log_fault l.parts (stable_of_parts l.parts) 0 l.parts.log;
  found : IfSome l.found (λ e. IsTrue (is_kept_name l.parts e));
  raised : raised_by l.running (drop l.i l.parts.log) ≡ raised_by (stable_of_parts l.parts) l.parts.log;
}
