use Rattle.std.proofs.Common.{refl, sym, ap, ◌∙◌, subst}
use Rattle.std.specs.Prelude.{zip}
use Rattle.std.proofs.lemmas.Result.{on_ok_weaker}
use Rattle.rls_runs.specs.Entries.{idents_in, put_all}
use Rattle.rls_doc.specs.Documents.{AreNew}
use Rattle.rls_blocks.specs.Trees.{entries_of}
use Rattle.rls_tree.proofs.Puts.{only_idents, only_sound}
use Rattle.rls_tree.proofs.document.BlockTreeDocument.insert_runs.Goals as goal

pub insert_run-requires-clause-piece : goal.insert_run-requires-clause-piece
insert_run-requires-clause-piece c =
    let one = sym c.len.ensures.len ∙ c.if-len-eq1.true in
    record { sound = only_sound c.args.runs.now c.get-run.result.now c.first.result.now c.args.text.now one c.get-run.ensures.run c.requires.as_many c.first.ensures.first c.first.ensures.run; as_many = refl }

pub insert_run-requires-clause-new : goal.insert_run-requires-clause-new
insert_run-requires-clause-new c =
    let one = sym c.len.ensures.len ∙ c.if-len-eq1.true in
    let ids = only_idents c.args.runs.now c.get-run.result.now c.first.result.now c.args.text.now one c.get-run.ensures.run c.requires.as_many c.first.ensures.first in
    subst (λ xs. AreNew xs (idents_in (entries_of c.args.self.now.blocks))) ids c.requires.new

pub returns-then-len-eq1-clause-ok : goal.returns-then-len-eq1-clause-ok
returns-then-len-eq1-clause-ok c =
    let one = sym c.len.ensures.len ∙ c.if-len-eq1.true in
    let ids = only_idents c.args.runs.now c.get-run.result.now c.first.result.now c.args.text.now one c.get-run.ensures.run c.requires.as_many c.first.ensures.first in
    on_ok_weaker c.insert_run.result (λ e. e ∙ ap (λ xs. put_all (zip xs c.args.text.now) (entries_of c.args.self.now.blocks)) (sym ids)) c.insert_run.ensures.ok
