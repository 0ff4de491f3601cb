use Rattle.std.proofs.Common.{◌≡◌, ◌-◌, None}
use Rattle.rls_codec.specs.Reading.{chain_at}
use Rattle.rls_fields.specs.Listed.{latest, behind}
use Rattle.rls_fields.proofs.lists.list.Given as goal

abbrev pub invariant-loop : goal.invariant-loop
invariant-loop g l = behind l.list (chain_at (g.I.Items.item_at l.items) (latest l.list) (l.count - l.counter) l.rest) ≡ chain_at (g.I.Items.item_at l.items) None l.count l.bytes
