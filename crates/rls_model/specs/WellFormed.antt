-- Which numbers and lists an event may have.
use Rattle.std.specs.Prelude.{ℕ, ◌<◌}
pub use Rattle.rls_ops.specs.WellFormed.{IsSmall, IsLarge, IsVector, IsName, IsText, IsBody, IsOp, AreOps}
use Rattle.rls_model.specs.declared.edit.Edit.{Edit}
use Rattle.rls_model.specs.declared.edit.Edit.TheVariants as edits
use Rattle.rls_model.specs.declared.event.Event.{Event}
use Rattle.rls_model.specs.declared.event.Event.TheVariants as events
use Rattle.rls_model.specs.History.{Entry, Accepted, Acknowledged}

-- an acknowledgement is a member's and has a count for each
abbrev pub IsEntry : ℕ → Entry → Type 0
IsEntry members (Accepted o) = IsOp o
IsEntry members (Acknowledged a v) = (a < members) × IsVector members v

-- a well formed edit
abbrev pub IsEdit : Edit → Type 0
IsEdit (edits.Insert at text) = IsLarge at × IsText text
IsEdit (edits.Delete at n) = IsLarge at × IsLarge n
IsEdit edits.Rename = Unit {0}
IsEdit edits.Leave = Unit {0}

-- an event of a world
abbrev pub IsEvent : Event → Type 0
IsEvent (events.Edit i edit) = IsSmall i × IsEdit edit
IsEvent (events.Send from to) = IsSmall from × IsSmall to
IsEvent (events.Deliver k to) = IsLarge k × IsSmall to
IsEvent (events.Drop i) = IsSmall i
