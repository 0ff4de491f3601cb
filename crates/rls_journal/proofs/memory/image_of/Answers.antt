use Rattle.std.proofs.Common.{arith}
use Rattle.rls_journal.specs.declared.contents.Entry.TheVariants as entry
use Rattle.rls_journal.proofs.Replays.{next_fits, entry_more, no_entry_more}
use Rattle.rls_journal.proofs.memory.image_of.Goals as goal

pub split_at-requires : goal.split_at-requires
split_at-requires c = omega (arith, c.len.ensures.len, next_fits c.args.entries.now c.loop-entry.entry-index entry.Looked c.loop-entry.rest.now c.loop-entry-test.true c.loop-entry.invariant.fits)

pub loop-entry-preserved : goal.loop-entry-preserved
loop-entry-preserved c =
    let more = entry_more c.args.filler c.args.area c.args.entries.now c.loop-entry.entry-index c.len.result entry.Looked c.loop-entry.rest.now c.split_at.result.0.now c.split_at.result.1.now
    c.loop-entry.seen.items c.deref.result.now c.loop-entry.image.items c.replay_seen.new.seen.items c.replay_image.new.image.items _ c.loop-entry-test.true c.len.ensures.len c.split_at.ensures.front c.split_at.ensures.back
    c.deref.ensures.value c.in_ok-replay_image.ensures.image c.in_ok-replay_seen.ensures.seen c.loop-entry.invariant.fits c.loop-entry.invariant.image in
    record { fits = more.0; image = more.1 }

pub returns : goal.returns
returns c = record { image = no_entry_more c.args.filler c.args.area c.args.entries.now c.loop-entry.entry-index c.loop-entry.rest.now c.loop-entry.seen.items c.loop-entry.image.items _ c.loop-entry-test.false c.loop-entry.invariant.image }
