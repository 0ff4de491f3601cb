use Rattle.std.proofs.Common.{◌≡◌, ◌<◌, length, slice_index, refl, arith}
use Rattle.std.proofs.lemmas.List.{get_or_read_under}
use Rattle.rls_log.proofs.Bounds.{one_noted}
use Rattle.rls_log.proofs.latest.Latest.note.Goals as goal

pub returns-then-index-head : goal.returns-then-index-head
returns-then-index-head c =
    let ns = c.args.self.now.counts.items in
    let a = c.args.head.now.author in
    let known : a < length ns = omega (arith, c.if-author-len.true, c.len.ensures, c.args.self.now.counts.ok.0) in
    let got : c.index.result.now ≡ slice_index ns a = get_or_read_under ns a (length ns) c.index.result.now 0 c.index.ensures known refl in
    let less : slice_index ns a < c.args.head.now.seq = omega (arith, c.if-index-head.true, got) in
    record { noted = λ os o head before rising. one_noted ns os o a c.args.head.now.seq head.author head.seq known less (before rising) }
