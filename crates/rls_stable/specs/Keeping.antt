-- What is kept beside the rows.
use Rattle.std.specs.Prelude.{◌≡◌, ℕ, List, length}
use Rattle.rls_ops.specs.Rows.{AcksSeen, stable_of}

-- the least of the awaited rows
pub record IsKept (acks : AcksSeen) (stable : List ℕ) : Type 0 where
  pub place : length stable ≡ length acks.mine
  pub least : stable ≡ stable_of acks
