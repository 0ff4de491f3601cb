use Rattle.std.proofs.Common.{◌≡◌, ℕ, true, List, sym, ap, ◌∙◌}
use Rattle.std.specs.Prelude.{pos, nat_eq, ◌&&◌}
use Rattle.rls_ident.specs.declared.tuple.Tuple.{Tuple}
use Rattle.rls_ident.specs.Identifiers.{ident_eq, shifted, follows}
use Rattle.rls_ident.proofs.Members.{eq_test}
use Rattle.rls_runs.specs.Runs.{run_last}
use Rattle.rls_runs.proofs.RunEnds.{touches_at}
use Rattle.rls_blocks.specs.Trees.{Piece}
use Rattle.rls_blocks.specs.Edits.{begins_with}
use Rattle.rls_blocks.specs.Beside.{lent}
use Rattle.rls_blocks.proofs.insert.begins_with.Goals as goal

pub returns-then-at-eq0 : goal.returns-then-at-eq0
returns-then-at-eq0 c =
    let b : Piece = c.in-Some.block.now in
    let r : List Tuple × ℕ = (c.args.first.now, c.args.len) in
    let first = c.first.ensures.first ∙ ap (λ q. q.0) c.run.ensures.run in
    let touches = c.follows_by.ensures.follows ∙ ap (λ x. ident_eq x (shifted (pos c.args.len) c.args.first.now)) first ∙ touches_at r b.0.0 c.requires.run in
    let front : nat_eq c.in-Some.at 0 ≡ true = eq_test c.in-Some.at 0 c.if-at-eq0.true in
    record { begins = touches ∙ sym (ap (λ t. t && follows b.0.0 (run_last r)) front) ∙ sym (ap (λ p. begins_with (lent p) r) c.in-Some.is) }
