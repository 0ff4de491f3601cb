use Rattle.std.proofs.Common.{◌≡◌, take}
use Rattle.rls_blocks.specs.Rests.{parts_of}
use Rattle.rls_blocks.proofs.rest.copies.Given as goal

abbrev pub invariant-loop-part : goal.invariant-loop-part
invariant-loop-part l = record { copied : l.blocks.items ≡ parts_of (take l.part-index l.parts) l.block }
