use Rattle.std.proofs.Common.{sym, ◌∙◌}
use Rattle.rls_runs.specs.Runs.{run_idents}
use Rattle.rls_runs.proofs.Finding.{run_length}
use Rattle.rls_blocks.specs.Trees.{entries_of}
use Rattle.rls_runs.proofs.Gaps.{read_ok, read_err}
use Rattle.rls_tree.proofs.Puts.{end_none, end_some}
use Rattle.rls_tree.proofs.tree.BlockTree.end_of_gap.Goals as goal

pub returns-then-i-chars : goal.returns-then-i-chars
returns-then-i-chars c =
    let es = entries_of c.args.self.now.blocks in
    let r = c.args.run.now in
    record { end = c.len.ensures.len ∙ sym (run_length r.0 r.1) ∙ sym (end_none es (run_idents r.0 r.1) c.args.i (c.if-i-chars.true ∙ c.chars.ensures.chars)) }

pub returns-in-Ok : goal.returns-in-Ok
returns-in-Ok c =
    let es = entries_of c.args.self.now.blocks in
    let r = c.args.run.now in
    let x = c.in_ok-ident.field-0 in
    let f = read_ok (run_idents r.0 r.1) x c.in-Ok.place (sym c.in-Ok.ensures.find) in
    record { end = sym f.1 ∙ sym (end_some es (run_idents r.0 r.1) c.args.i x c.in_ok-ident.ensures.ident) }

pub returns : goal.returns
returns c =
    let es = entries_of c.args.self.now.blocks in
    let r = c.args.run.now in
    let x = c.in_ok-ident.field-0 in
    let f = read_err (run_idents r.0 r.1) x c.in-Err.below (sym c.in-Err.ensures.find) in
    record { end = sym f.1 ∙ sym (end_some es (run_idents r.0 r.1) c.args.i x c.in_ok-ident.ensures.ident) }
