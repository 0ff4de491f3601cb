use Rattle.std.proofs.Common.{◌≡◌, List, ℕ, length, take, ◌∙◌, ap, arith}
use Rattle.rls_journal.specs.declared.contents.Entry.{Entry}
use Rattle.rls_journal.specs.Areas.{area_of}
use Rattle.rls_journal.specs.Memory.{DeviceCall, DiskState, image_after}
use Rattle.rls_journal.specs.Records.{calls_of, bytes_in}
use Rattle.rls_journal.proofs.Recorded.{calls_counted}
use Rattle.rls_journal.proofs.Replays.{calls_taken, bytes_taken, ok_same}
use Rattle.rls_journal.proofs.memory.MemoryDisk.image.Goals as goal

pub split_at-requires : goal.split_at-requires
split_at-requires c =
    let i = c.self.inside in
    omega (arith, c.requires.calls, ap (λ (s : DiskState). length s.calls) c.self.view_is, calls_counted i.entries.items i.written.items, ap length c.deref.ensures.value)

pub image_of-requires : goal.image_of-requires
image_of-requires c =
    let i = c.self.inside in
    let front = c.split_at.ensures.front ∙ ap (λ (l : List Entry). take c.args.calls l) c.deref.ensures.value in
    record { fits = omega (arith, ap bytes_in front, bytes_taken c.args.calls i.entries.items, c.self.invariant.bytes_are, ap length c.deref-2.ensures.value) }

pub returns : goal.returns
returns c =
    let i = c.self.inside in
    let s = c.args.self.now in
    let front = c.split_at.ensures.front ∙ ap (λ (l : List Entry). take c.args.calls l) c.deref.ensures.value in
    let first : c.area.result.now ≡ area_of s.first c.args.area = c.area.ensures.area ∙ ap (λ (v : DiskState). area_of v.first c.args.area) c.self.view_is in
    let calls : calls_of c.split_at.result.0.now c.deref-2.result.now ≡ take c.args.calls s.calls =
    ap (λ (l : List Entry). calls_of l c.deref-2.result.now) front ∙ ap (λ (l : List ℕ). calls_of (take c.args.calls i.entries.items) l) c.deref-2.ensures.value
    ∙ calls_taken c.args.calls i.entries.items i.written.items ∙ ap (λ (v : DiskState). take c.args.calls v.calls) c.self.view_is in
    record {
      image = ok_same c.image_of.result _ _ (ap (λ (l : List ℕ). image_after c.args.filler c.args.area l l (calls_of c.split_at.result.0.now c.deref-2.result.now)) first
          ∙ ap (λ (l : List DeviceCall). image_after c.args.filler c.args.area (area_of s.first c.args.area) (area_of s.first c.args.area) l) calls) c.image_of.ensures.image;
    }
