use Rattle.std.proofs.Common.{◌∙◌, List, ℕ, map, sym, ap}
use Rattle.rls_ident.specs.declared.tuple.Tuple.{Tuple}
use Rattle.rls_ident.specs.declared.epoch_name.EpochName.{EpochName}
use Rattle.rls_ident.proofs.Named.{name_eq_is}
use Rattle.rls_rename.specs.Tree.{translate}
use Rattle.rls_runs.specs.Runs.{run_idents}
use Rattle.rls_epoch.specs.Seen.{nodes_of}
use Rattle.rls_epoch.specs.Ways.{step_map}
use Rattle.rls_epoch.proofs.KnownRuns.{image_before}
use Rattle.rls_epoch.proofs.nodes.Nodes.known_before.Goals as goal

pub returns : goal.returns
returns c =
    let ps = c.args.self.now.placed in
    let k = c.args.after.now in
    let e = c.ends-from.result in
    let run : List Tuple × ℕ = c.in-Some.run' in
    let image : List Tuple × ℕ = c.in-Some-2.image in
    let step = step_map ps c.args.stop.now.step in
    let next = name_eq_is e.1 k.from (sym c.same.ensures.same ∙ c.if-not-same.false) in
    let there = rw c.in-Some-2.is at c.in_ok-image.ensures.image in
    let from = ap (λ (f : EpochName). map (translate (nodes_of ps) f k.to) (map step (run_idents run.0 run.1))) (sym next) in
    record { known = image_before (nodes_of ps) c.count-count.ensures.laid.nodes e.0 e.1 k.to step c.ends-from.ensures.step run image c.len-len.ensures.run (there ∙ from) }
