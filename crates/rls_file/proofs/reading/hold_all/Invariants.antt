use Rattle.std.proofs.Common.{◌≡◌, ◌-◌, List, None}
use Rattle.rls_codec.specs.Reading.{chain_at}
use Rattle.rls_codec.proofs.Loop.{with_front}
use Rattle.rls_model.specs.History.{History}
use Rattle.rls_ops.specs.declared.op.Op.{Op}
use Rattle.rls_file.specs.Journals.{IsReplayOf}
use Rattle.rls_file.specs.ReadingJournals.{IsAfter, waiting_at, last_of}
use Rattle.rls_file.proofs.Holding.{beside}
use Rattle.rls_file.proofs.reading.hold_all.Given as goal

-- what waits, with what is left, is what all of it makes
abbrev pub invariant-waiting : goal.invariant-waiting
invariant-waiting l = record {
  read : (H : History) → IsAfter H l.fn.replica → (W : List Op) × IsReplayOf (beside H W) l.replica × (with_front W (chain_at (waiting_at H) (last_of W) (l.count - l.counter) l.rest) ≡ chain_at (waiting_at H) None l.count l.bytes);
}
