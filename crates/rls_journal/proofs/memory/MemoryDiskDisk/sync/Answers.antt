use Rattle.std.proofs.Common.{◌∙◌, ap, Some}
use Rattle.rls_journal.specs.Areas.{Areas}
use Rattle.rls_journal.specs.Memory.{DiskState, Synced, can_leave, done, reading}
use Rattle.rls_journal.proofs.Parts.{durable_written}
use Rattle.rls_journal.proofs.States.{IsSynced, is_synced}
use Rattle.rls_journal.proofs.memory.MemoryDiskDisk.sync.Goals as goal

synced : (c : goal.After-note) → IsSynced c.args.area c.args.self.now c.note.new.self
synced c = is_synced c.args.self.now c.note.new.self c.args.area c.requires.area (c.note.ensures.done ∙ ap (λ (s : DiskState). done s (Synced c.args.area)) c.in_ok-enter.ensures.ok)

pub returns-clause-durable : goal.returns-clause-durable
returns-clause-durable c = λ retries. (synced c).durable

pub returns-clause-written : goal.returns-clause-written
returns-clause-written c = durable_written c.args.area (λ area at n. Unit {0}) (reading c.args.self.now) (can_leave c.note.new.self) (synced c).durable

pub returns-clause-same : goal.returns-clause-same
returns-clause-same c = ap (λ (a : Areas). Some a) (synced c).same

pub returns-clause-crash : goal.returns-clause-crash
returns-clause-crash c = (synced c).narrows

pub returns-clause-time : goal.returns-clause-time
returns-clause-time c = (synced c).goes
