use Rattle.std.proofs.Common.{◌++◌, length, take, drop, sym, ap, ◌∙◌, subst}
use Rattle.std.specs.Prelude.{zip}
use Rattle.std.proofs.lemmas.List.{length-map}
use Rattle.rls_runs.specs.Runs.{run_idents, idents_of}
use Rattle.rls_runs.specs.Entries.{with_idents}
use Rattle.rls_runs.proofs.Finding.{run_length}
use Rattle.rls_blocks.specs.Trees.{entries_of}
use Rattle.rls_blocks.specs.Edits.{Shows}
use Rattle.rls_tree.proofs.Mapping.{zip_mapped}
use Rattle.rls_tree.proofs.tree.BlockTree.map_next.Goals as goal

pub push_runs-requires-clause-as_many : goal.push_runs-requires-clause-as_many
push_runs-requires-clause-as_many g c =
    let run = c.in_ok-run.run' in
    ap length (ap idents_of c.as_slice.ensures.runs ∙ c.in_ok-runs.ensures.map.idents) ∙ length-map (run_idents run.0 run.1) (g.F.RunMap.image c.args.map.now) ∙ run_length run.0 run.1 ∙ sym c.in_ok-run.ensures.as_many

pub returns-clause-shows : goal.returns-clause-shows
returns-clause-shows g c =
    let f = g.F.RunMap.image c.args.map.now in
    let rest = drop c.args.at (entries_of c.args.self.now.blocks) in
    let run = c.in_ok-run.run' in
    let cs = c.in_ok-run.text in
    let ids = ap idents_of c.as_slice.ensures.runs ∙ c.in_ok-runs.ensures.map.idents in
    let is = ap (λ xs. zip xs cs) ids ∙ zip_mapped f (run_idents run.0 run.1) cs ∙ ap (with_idents f) c.in_ok-run.ensures.entries ∙ ap (λ n. with_idents f (take n rest)) (sym c.len-len.ensures.len) in
    subst (λ es. Shows (entries_of c.args.blocks.now.items ++ es) c.push_runs.new.blocks.items) is c.in_ok-push_runs.ensures.shows
