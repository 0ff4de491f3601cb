use Rattle.std.proofs.Common.{◌≡◌, ◌++◌, ◌∷◌, [], Some, true, false, sym, ap, ◌∙◌}
use Rattle.rls_ident.specs.Identifiers.{follows}
use Rattle.rls_runs.specs.Runs.{run_last}
use Rattle.rls_blocks.specs.Trees.{Piece}
use Rattle.rls_blocks.specs.Edits.{goes_on, joined}
use Rattle.rls_blocks.proofs.Loose.{last_append}
use Rattle.rls_blocks.proofs.Patches.{items_show, pushed_new, pushed_last}
use Rattle.rls_blocks.proofs.patch.push_after.Goals as goal

pub joined-requires : goal.joined-requires
joined-requires c =
    let n : Piece = c.args.block in
    record { touches = ap (λ r. follows n.0.0 (run_last r)) (sym c.run.ensures.run) ∙ ap (λ x. follows x (run_last c.run.result.now)) (sym (c.first.ensures.first ∙ ap (λ r. r.0) c.run-2.ensures.run)) ∙ sym c.touches.ensures.touches ∙ c.if-touches.true }

pub returns-then-touches : goal.returns-then-touches
returns-then-touches c =
    let rest = c.args.blocks.now.items in
    let p : Piece = c.args.last in
    let n : Piece = c.args.block in
    let t : follows n.0.0 (run_last p.0) ≡ true = ap (λ r. follows n.0.0 (run_last r)) (sym c.run.ensures.run) ∙ ap (λ x. follows x (run_last c.run.result.now)) (sym (c.first.ensures.first ∙ ap (λ r. r.0) c.run-2.ensures.run)) ∙ sym c.touches.ensures.touches ∙ c.if-touches.true in
    let e : c.push.new.self.items ≡ rest ++ joined p n ∷ [] = c.in_ok-push.ensures.items ∙ ap (λ q. rest ++ q ∷ []) c.in_ok-both.ensures.joined in
    record { shows = items_show e (pushed_last rest p n c.requires.loose c.len-last.ensures.piece c.len-len.ensures.piece t) }

pub returns : goal.returns
returns c =
    let rest = c.args.blocks.now.items in
    let p : Piece = c.args.last in
    let n : Piece = c.args.block in
    let t : goes_on (Some p.0) n.0.0 ≡ false = ap (λ r. follows n.0.0 (run_last r)) (sym c.run.ensures.run) ∙ ap (λ x. follows x (run_last c.run.result.now)) (sym (c.first.ensures.first ∙ ap (λ r. r.0) c.run-2.ensures.run)) ∙ sym c.touches.ensures.touches ∙ c.if-touches.false in
    let s = pushed_new (rest ++ p ∷ []) n c.requires.loose (ap (λ r. goes_on r n.0.0) (last_append rest p) ∙ t) in
    record { shows = items_show (c.in_ok-push-3.ensures.items ∙ ap (λ bs. bs ++ n ∷ []) c.in_ok-push-2.ensures.items) s }
