use Rattle.std.proofs.Common.{◌≡◌, ◌+◌, ◌≤◌, Ok, length, take, drop, ap, sym, ◌∙◌, arith}
use Rattle.rls_ident.proofs.Members.{eq_is}
use Rattle.rls_runs.specs.Runs.{run_idents}
use Rattle.rls_runs.specs.Entries.{idents_in}
use Rattle.rls_runs.specs.Places.{find_ident}
use Rattle.rls_blocks.specs.Trees.{entries_of}
use Rattle.rls_runs.proofs.RunOrder.{run_some}
use Rattle.rls_tree.proofs.AtBlocks.{run_stands}
use Rattle.rls_tree.proofs.tree.BlockTree.stands_at.Goals as goal

pub returns-in-Ok : goal.returns-in-Ok
returns-in-Ok c =
    let b = c.locate-at.result.0.now in
    let r = c.args.run.now in
    let some = run_some r c.len-len.ensures.run in
    let found = ap (λ q. find_ident (run_idents q.0 q.1) r.0) (sym c.run.ensures.run) ∙ ap (find_ident (run_idents c.run.result.now.0 c.run.result.now.1)) (sym c.first.ensures.first) ∙ sym c.in-Ok.ensures.find in
    let here : c.in-Ok.place ≡ c.locate-at.result.1 → (c.args.i + r.1 ≤ length (entries_of c.args.self.now.blocks)) × (take r.1 (drop c.args.i (idents_in (entries_of c.args.self.now.blocks))) ≡ run_idents r.0 r.1) =
    λ e. run_stands c.args.self.now.blocks c.args.i c.locate-at.result.1 b c.chars.ensures.pieces c.locate-at.ensures.located c.len.ensures.piece c.locate-at.ensures.within r (found ∙ ap Ok e) some (omega arith) in
    record { within = λ t. (here (eq_is c.in-Ok.place c.locate-at.result.1 t)).0; idents = λ t. (here (eq_is c.in-Ok.place c.locate-at.result.1 t)).1 }
