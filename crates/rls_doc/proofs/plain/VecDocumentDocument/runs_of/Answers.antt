use Rattle.std.proofs.Common.{◌≡◌, true, take, drop, sym, ap, ◌∙◌, subst}
use Rattle.std.proofs.lemmas.Result.{IfOk-weaker}
use Rattle.rls_runs.specs.Runs.{is_increasing}
use Rattle.rls_runs.specs.Entries.{Entries, idents_in}
use Rattle.rls_doc.proofs.Rising.{increasing_part, idents_part}
use Rattle.rls_doc.proofs.plain.VecDocumentDocument.runs_of.Goals as goal

pub runs_among-requires : goal.runs_among-requires
runs_among-requires c =
    let es = c.self.inside.entries.items in
    let part : c.split_at-2.result.0.now ≡ take c.args.count (drop c.args.from es) = c.split_at-2.ensures.front ∙ ap (take c.args.count) (c.split_at.ensures.back ∙ ap (drop c.args.from) c.as_slice.ensures.value) in
    record { rises = subst (λ xs. is_increasing (idents_in xs) ≡ true) (sym part) (increasing_part c.args.from c.args.count es c.self.invariant) }

pub returns : goal.returns
returns c =
    let es = c.self.inside.entries.items in
    let part : c.split_at-2.result.0.now ≡ take c.args.count (drop c.args.from es) = c.split_at-2.ensures.front ∙ ap (take c.args.count) (c.split_at.ensures.back ∙ ap (drop c.args.from) c.as_slice.ensures.value) in
    record { runs = IfOk-weaker c.runs_among.result _ _ (λ xs e. e ∙ ap idents_in part ∙ idents_part c.args.from c.args.count es ∙ ap (λ (ys : Entries). take c.args.count (drop c.args.from (idents_in ys))) c.self.view_is) c.runs_among.ensures.runs }
