use Rattle.std.proofs.Common.{◌≡◌, ◌+◌, ◌++◌, true, sym, ap, ◌∙◌, subst}
use Rattle.std.proofs.lemmas.Result.{on_ok_weaker}
use Rattle.rls_runs.specs.Runs.{is_run}
use Rattle.rls_runs.proofs.Cuts.{joined_is}
use Rattle.rls_blocks.proofs.block.Block.extend.Goals as goal

pub lengthen-requires : goal.lengthen-requires
lengthen-requires c =
    let own = c.args.self.now.0 in
    let longer = joined_is own c.args.run.now c.len-len.ensures.piece.sound c.len-more.ensures.run c.requires.touches in
    record { fits = subst (λ k. is_run (own.0, own.1 + k) ≡ true) (sym c.requires.as_many) longer }

pub returns-clause-ok : goal.returns-clause-ok
returns-clause-ok c =
    let b = c.args.self.now in
    on_ok_weaker c.lengthen.result (λ e. e ∙ ap (λ k. ((b.0.0, b.0.1 + k), b.1 ++ c.args.text.now)) c.requires.as_many) c.lengthen.ensures.ok
