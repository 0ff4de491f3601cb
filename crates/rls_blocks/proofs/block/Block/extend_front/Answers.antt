use Rattle.std.proofs.Common.{◌≡◌, true, sym, subst, ◌∙◌}
use Rattle.std.proofs.lemmas.Result.{on_ok_weaker}
use Rattle.rls_runs.specs.Runs.{is_run}
use Rattle.rls_runs.proofs.Cuts.{joined_is}
use Rattle.rls_blocks.specs.Trees.{Piece}
use Rattle.rls_blocks.proofs.Changes.{joined_before}
use Rattle.rls_blocks.proofs.block.Block.extend_front.Goals as goal

pub lengthen_front-requires : goal.lengthen_front-requires
lengthen_front-requires c =
    let n : Piece = (c.args.run.now, c.args.text.now) in
    let longer = joined_is n.0 c.args.self.now.0 c.len-more.ensures.run c.len-len.ensures.piece.sound c.requires.touches in
    record { fits = subst (λ (b : Piece). is_run b.0 ≡ true) (sym (joined_before n c.args.self.now (record { sound = c.len-more.ensures.run; as_many = c.requires.as_many }) c.requires.touches)) longer }

pub returns-clause-ok : goal.returns-clause-ok
returns-clause-ok c =
    let n : Piece = (c.args.run.now, c.args.text.now) in
    on_ok_weaker c.lengthen_front.result (λ e. e ∙ joined_before n c.args.self.now (record { sound = c.len-more.ensures.run; as_many = c.requires.as_many }) c.requires.touches) c.lengthen_front.ensures.ok
