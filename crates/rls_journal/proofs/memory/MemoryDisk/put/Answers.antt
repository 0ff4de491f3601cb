use Rattle.std.proofs.Common.{◌≡◌, ◌+◌, ◌-◌, ◌≤◌, ◌++◌, ◌∷◌, [], ℕ, length, ap, subst, sym, ◌∙◌, arith}
use Rattle.rls_journal.specs.declared.contents.Entry.TheVariants as entry
use Rattle.rls_journal.specs.Areas.{Areas, area_of}
use Rattle.rls_journal.specs.Memory.{reading}
use Rattle.rls_journal.specs.Records.{HasRoom}
use Rattle.rls_journal.proofs.Recorded.{few_entries, fits_left, seen_wrote, kept_wrote}
use Rattle.rls_journal.proofs.memory.MemoryDisk.put.Goals as goal

pub unwrap-requires : goal.unwrap-requires
unwrap-requires c =
    let i = c.self.inside in
    c.extend_from_slice.ensures.succeeds (omega (arith, fits_left i.first i.current i.entries i.written i.most i.left i.room i.failing.items i.faults c.args.self.now (length c.args.bytes.now) c.self.invariant c.self.view_is c.requires.room, c.self.invariant.left_is, c.self.invariant.room_fits))

pub put-requires-clause-room : goal.put-requires-clause-room
put-requires-clause-room c =
    let i = c.self.inside in
    let room = c.self.invariant.has_room in
    let fits = fits_left i.first i.current i.entries i.written i.most i.left i.room i.failing.items i.faults c.args.self.now (length c.args.bytes.now) c.self.invariant c.self.view_is c.requires.room in
    record { slot0 = omega (arith, room.slot0, fits); slot1 = omega (arith, room.slot1, fits); gate = omega (arith, room.gate, fits) }

pub overflow_sub-self : goal.overflow_sub-self
overflow_sub-self c =
    let i = c.self.inside in
    fits_left i.first i.current i.entries i.written i.most i.left i.room i.failing.items i.faults c.args.self.now (length c.args.bytes.now) c.self.invariant c.self.view_is c.requires.room

pub unwrap-requires-2 : goal.unwrap-requires-2
unwrap-requires-2 c =
    let i = c.self.inside in
    c.push.ensures.succeeds (omega (arith, few_entries i.first i.entries.items i.written.items i.most i.room i.failing.items i.faults c.args.self.now c.self.view_is c.requires.few, c.self.invariant.most_fits))

pub invariant_of-self : goal.invariant_of-self
invariant_of-self c =
    let i = c.self.inside in
    let kept = c.self.invariant in
    let bytes = c.args.bytes.now in
    let extended : c.extend_from_slice.new.self.items ≡ i.written.items ++ bytes = rw c.unwrap.ensures at c.extend_from_slice.ensures.items in
    let pushed : c.push.new.self.items ≡ i.entries.items ++ entry.Wrote c.args.area c.args.at (length bytes) ∷ [] = rw c.unwrap-2.ensures at c.push.ensures.items in
    let few = few_entries i.first i.entries.items i.written.items i.most i.room i.failing.items i.faults c.args.self.now c.self.view_is c.requires.few in
    let fits = fits_left i.first i.current i.entries i.written i.most i.left i.room i.failing.items i.faults c.args.self.now (length bytes) kept c.self.view_is c.requires.room in
    let P : Areas → Type 0 = λ a. c.args.at ≤ length (area_of a c.args.area) in
    let within = subst P (sym (kept.now_is ∙ ap reading c.self.view_is)) c.requires.within in
    let Q : ℕ → Type 0 = λ n. HasRoom i.current n in
    let same : i.left ≡ (i.left - length bytes) + length bytes = omega (arith, fits) in
    kept_wrote i.first i.current i.entries c.push.new.self i.written i.most i.left i.room kept few c.push.ensures.capacity c.extend_from_slice.new.self c.put.new.self c.args.area c.args.at bytes c.requires.area within fits
    extended c.extend_from_slice.ensures.capacity c.put.ensures.areas (c.put.ensures.room (i.left - length bytes) (subst Q same kept.has_room)) pushed

pub returns : goal.returns
returns c =
    let i = c.self.inside in
    let bytes = c.args.bytes.now in
    let extended : c.extend_from_slice.new.self.items ≡ i.written.items ++ bytes = rw c.unwrap.ensures at c.extend_from_slice.ensures.items in
    let pushed : c.push.new.self.items ≡ i.entries.items ++ entry.Wrote c.args.area c.args.at (length bytes) ∷ [] = rw c.unwrap-2.ensures at c.push.ensures.items in
    record { done = seen_wrote i.first i.entries.items c.push.new.self.items i.written.items c.extend_from_slice.new.self.items i.most i.room i.failing.items i.faults c.args.self.now c.args.area c.args.at bytes c.self.invariant.bytes_are c.self.view_is extended pushed }
