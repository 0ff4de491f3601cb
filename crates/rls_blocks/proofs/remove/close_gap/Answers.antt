use Rattle.std.proofs.Common.{◌≡◌, ◌++◌, ◌∷◌, false, length, sym, ap, ◌∙◌, subst, arith, length-append}
use Rattle.rls_blocks.specs.Trees.{Piece, entries_of}
use Rattle.rls_blocks.specs.Edits.{goes_on, Shows}
use Rattle.rls_blocks.proofs.Loose.{last_run}
use Rattle.rls_blocks.proofs.Ranges.{gap_last, gap_free, gap_merged, last_touches}
use Rattle.rls_blocks.proofs.remove.close_gap.Goals as goal

pub returns-in_default-clause-ok : goal.returns-in_default-clause-ok
returns-in_default-clause-ok c = gap_last c.args.front.blocks c.args.gone.blocks c.args.behind.blocks c.in_default.ensures.empty c.requires.apart

pub returns-then-not-ends_before-clause-ok : goal.returns-then-not-ends_before-clause-ok
returns-then-not-ends_before-clause-ok c =
    let f = c.args.front.blocks in
    let s = c.in-Some.first in
    let at = c.first.ensures.first ∙ ap (λ r. r.0) c.run.ensures.run in
    let free : goes_on (last_run f) s.0.0 ≡ false = ap (goes_on (last_run f)) (sym at) ∙ sym c.if-not-ends_before.ensures.goes_on in
    subst (Shows (entries_of f ++ entries_of c.args.behind.blocks)) (sym c.join.ensures.blocks) (gap_free f c.args.gone.blocks c.args.behind.blocks c.in-Some.far.blocks s c.in-Some.ensures.blocks c.requires.apart free)

pub merge-requires : goal.merge-requires
merge-requires c =
    let f = c.args.front.blocks in
    let at = c.first.ensures.first ∙ ap (λ r. r.0) c.run.ensures.run in
    record { touches = sym (last_touches f c.in-Some-end_out.rest.blocks c.in-Some-end_out.last c.in-Some.first.0.0 c.in-Some-end_out.ensures.blocks) ∙ ap (goes_on (last_run f)) (sym at) ∙ sym c.if-not-ends_before.ensures.goes_on }

pub join-requires-in-Ok : goal.join-requires-in-Ok
join-requires-in-Ok c =
    let both = ap (λ (b : Piece). length b.1) c.in-Ok.ensures.ok in
    record { chars_fit = omega (arith, both, length-append c.in-Some-end_out.last.1 c.in-Some.first.1, c.in-Some-end_out.ensures.chars, c.in-Some.ensures.chars) }

pub returns-in-Ok-clause-ok : goal.returns-in-Ok-clause-ok
returns-in-Ok-clause-ok c =
    let f = c.args.front.blocks in
    let g = c.args.behind.blocks in
    let p = c.in-Some-end_out.last in
    let s = c.in-Some.first in
    let rest = c.in-Some-end_out.rest.blocks in
    let far = c.in-Some.far.blocks in
    let at = c.first.ensures.first ∙ ap (λ r. r.0) c.run.ensures.run in
    let touches = sym (last_touches f rest p s.0.0 c.in-Some-end_out.ensures.blocks) ∙ ap (goes_on (last_run f)) (sym at) ∙ sym c.if-not-ends_before.ensures.goes_on in
    subst (Shows (entries_of f ++ entries_of g)) (sym (c.join-in-Ok.ensures.blocks ∙ ap (λ b. rest ++ b ∷ far) c.in-Ok.ensures.ok))
    (gap_merged f c.args.gone.blocks g rest far p s c.in-Some-end_out.ensures.blocks c.in-Some.ensures.blocks c.requires.apart c.in-Some-end_out.ensures.piece c.in-Some.ensures.piece touches)
