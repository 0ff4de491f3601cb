-- The answers to an operation. They say what the code's types say, whose shared operation also has an address.
use Rattle.std.specs.Prelude.{ℕ, List, Option, Some, None}
use Rattle.rls_ident.specs.declared.tuple.Tuple.{Tuple}
use Rattle.rls_ident.specs.declared.epoch_name.EpochName.{EpochName}
use Rattle.rls_ops.specs.declared.op.Op.{Op}
use Rattle.rls_ops.specs.declared.op.Shape.{Shape}
use Rattle.rls_model.specs.declared.receipt.Refusal.{Refusal}
use Rattle.rls_model.specs.declared.receipt.Refusal.TheVariants as refusals
use Rattle.rls_model.specs.declared.receipt.Receipt.{Receipt}
use Rattle.rls_model.specs.declared.receipt.Receipt.TheVariants as receipts

-- why an operation is refused
pub data Reason : Type 0 where
  Misshapen : (shape : Shape) → Reason
  Own : (seq : ℕ) → Reason
  Forked : (held : Op) → Reason
  Left : (seq : ℕ) → Reason
  Backward : (known : List ℕ) → Reason
  WrongEpoch : (due : EpochName) → Reason
  WrongStem : (due : Option ℕ) → Reason
  UnknownTarget : (id : List Tuple) → Reason

-- what becomes of an operation that arrives
pub data Answer : Type 0 where
  Applies : Answer
  Repeats : Answer
  Waits : Answer
  Refuses : (reason : Reason) → Answer

-- the reason that the code's refusal tells
abbrev pub reason_of : Refusal → Reason
reason_of (refusals.Shape s) = Misshapen s
reason_of (refusals.Own n) = Own n
reason_of (refusals.Forked b) = Forked b.value
reason_of (refusals.Left n) = Left n
reason_of (refusals.Backward v) = Backward v
reason_of (refusals.WrongEpoch e) = WrongEpoch e
reason_of (refusals.WrongStem d) = WrongStem d
reason_of (refusals.UnknownTarget x) = UnknownTarget x

-- the reason, if there is one
abbrev pub reason_in : Option Refusal → Option Reason
reason_in None = None
reason_in (Some r) = Some (reason_of r)

-- the answer that the code's receipt tells
abbrev pub answer_of : Receipt → Answer
answer_of receipts.Applied = Applies
answer_of receipts.Repeated = Repeats
answer_of receipts.Held = Waits
answer_of (receipts.Refused r) = Refuses (reason_of r)

-- an operation that was released, and why it was refused, if it was
pub record Released : Type 0 where
  pub author : ℕ
  pub seq : ℕ
  pub refusal : Option Reason
