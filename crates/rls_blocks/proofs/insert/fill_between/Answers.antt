use Rattle.std.proofs.Common.{◌≡◌, ◌++◌, ◌∷◌, Some, true, length, sym, ap, ◌∙◌, subst, arith}
use Rattle.std.proofs.lemmas.Result.{IfOk-weaker}
use Rattle.std.specs.Prelude.{None, nat_eq, ◌&&◌}
use Rattle.rls_ident.specs.Identifiers.{follows}
use Rattle.rls_ident.proofs.Members.{eq_is, and_left}
use Rattle.rls_runs.specs.Runs.{run_before, run_last}
use Rattle.rls_blocks.specs.Trees.{Piece, entries_of, piece_entries, runs_in}
use Rattle.rls_blocks.specs.Edits.{located, begins_with, ends_with, goes_on, leads_to, inserted, Shows}
use Rattle.rls_blocks.specs.Beside.{located_before}
use Rattle.rls_blocks.proofs.Pieces.{entries_append}
use Rattle.rls_blocks.proofs.Changes.{put_between}
use Rattle.rls_blocks.proofs.AtPlaces.{located_behind, located_here}
use Rattle.rls_blocks.proofs.Placed.{begins_is}
use Rattle.rls_blocks.proofs.Insertions.{before_is}
use Rattle.rls_blocks.proofs.insert.fill_between.Goals as goal

pub fill_gap-requires-clause-ends : goal.fill_gap-requires-clause-ends
fill_gap-requires-clause-ends c =
    let h = c.in-Between.ensures.splits in
    let f = c.in-Between.front.blocks in
    ap (λ (q : Piece). goes_on (run_before None (runs_in f)) q.0.0) (c.into_parts-run.ensures.parts ∙ c.in-Ok.ensures.block)
    ∙ sym (before_is f c.in-Between.behind.blocks c.args.i c.args.first.now h.front_are h.place)
    ∙ ap (λ xs. ends_with (located_before None xs c.args.i) c.args.first.now) (sym h.blocks) ∙ c.requires.ends

pub fill_gap-requires-clause-begins : goal.fill_gap-requires-clause-begins
fill_gap-requires-clause-begins c =
    let h = c.in-Between.ensures.splits in
    let n : Piece = ((c.args.first.now, length c.args.text.now), c.args.text.now) in
    let g = c.in-Between.behind.blocks in
    ap (λ (q : Piece). leads_to (Some q.0) (runs_in g)) (c.into_parts-run.ensures.parts ∙ c.in-Ok.ensures.block)
    ∙ sym (begins_is c.in-Between.front.blocks g c.args.i n.0 h.front_are h.behind_are h.place)
    ∙ ap (λ xs. begins_with (located xs c.args.i) n.0) (sym h.blocks) ∙ c.requires.begins

pub unreachable-requires : goal.unreachable-requires
unreachable-requires c =
    let h = c.in-Within.ensures.splits in
    let f = c.in-Within.field-0.blocks in
    let b = c.in-Within.field-1 in
    let g = c.in-Within.field-3.blocks in
    let at = c.in-Within.field-2 in
    let n : Piece = ((c.args.first.now, length c.args.text.now), c.args.text.now) in
    let there : located c.args.link.blocks c.args.i ≡ Some (b, at) =
    ap (λ bs. located bs c.args.i) h.blocks ∙ located_behind f (b ∷ g) c.args.i at h.front_are (sym h.place) ∙ located_here b g at h.within in
    let both : (nat_eq at 0 && follows b.0.0 (run_last n.0)) ≡ true = ap (λ p. begins_with p n.0) (sym there) ∙ c.requires.begins in
    let none = eq_is at 0 (and_left (nat_eq at 0) (follows b.0.0 (run_last n.0)) both) in
    omega (arith, none, h.some)

pub returns-clause-ok : goal.returns-clause-ok
returns-clause-ok c =
    let h = c.in-Between.ensures.splits in
    let f = c.in-Between.front.blocks in
    let g = c.in-Between.behind.blocks in
    let n : Piece = ((c.args.first.now, length c.args.text.now), c.args.text.now) in
    let put = put_between (entries_of f) (piece_entries n) (entries_of g) c.args.i h.place ∙ ap (inserted c.args.i (piece_entries n)) (sym (entries_append f g) ∙ ap entries_of (sym h.blocks)) in
    let given = ap (λ (q : Piece). entries_of f ++ piece_entries q ++ entries_of g) (c.into_parts-run.ensures.parts ∙ c.in-Ok.ensures.block) in
    IfOk-weaker c.fill_gap.result _ _ (λ new k. subst (λ es. Shows es new.blocks) (given ∙ put) k) c.fill_gap.ensures.ok
