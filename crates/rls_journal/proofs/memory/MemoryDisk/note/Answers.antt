use Rattle.std.proofs.Common.{◌≡◌, ◌++◌, ◌∷◌, [], arith}
use Rattle.rls_journal.proofs.Recorded.{few_entries, seen_noted, kept_noted}
use Rattle.rls_journal.proofs.memory.MemoryDisk.note.Goals as goal

pub unwrap-requires : goal.unwrap-requires
unwrap-requires c =
    let i = c.self.inside in
    c.push.ensures.succeeds (omega (arith, few_entries i.first i.entries.items i.written.items i.most i.room i.failing.items i.faults c.args.self.now c.self.view_is c.requires.few, c.self.invariant.most_fits))

pub invariant_of-self : goal.invariant_of-self
invariant_of-self c =
    let i = c.self.inside in
    let pushed : c.push.new.self.items ≡ i.entries.items ++ c.args.entry ∷ [] = rw c.unwrap.ensures at c.push.ensures.items in
    kept_noted i.first i.current i.entries c.push.new.self i.written i.most i.left i.room c.self.invariant (few_entries i.first i.entries.items i.written.items i.most i.room i.failing.items i.faults c.args.self.now c.self.view_is c.requires.few) c.push.ensures.capacity c.args.entry c.requires.nothing pushed

pub returns : goal.returns
returns c =
    let i = c.self.inside in
    let pushed : c.push.new.self.items ≡ i.entries.items ++ c.args.entry ∷ [] = rw c.unwrap.ensures at c.push.ensures.items in
    record { done = seen_noted i.first i.entries.items c.push.new.self.items i.written.items i.most i.room i.failing.items i.faults c.args.self.now c.args.entry c.requires.nothing c.self.view_is pushed }
