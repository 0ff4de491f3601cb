use Rattle.std.proofs.Common.{◌≡◌, ◌++◌, ◌∷◌, [], Some, true, length, sym, ap, ◌∙◌, subst, arith, append_assoc, length-append}
use Rattle.std.specs.Prelude.{None}
use Rattle.rls_runs.proofs.RunOrder.{run_some}
use Rattle.rls_blocks.specs.Trees.{Piece, entries_of, piece_entries, runs_in}
use Rattle.rls_blocks.specs.Edits.{joined, leads_to, are_loose, Shows}
use Rattle.rls_blocks.proofs.Cases.{filled}
use Rattle.rls_blocks.proofs.Ranges.{last_touches}
use Rattle.rls_blocks.proofs.insert.fill_gap.Goals as goal

pub fill-requires : goal.fill-requires
fill-requires c =
    let p = c.in-Some.last in
    record {
      as_many = c.requires.as_many;
      ends = sym (last_touches c.args.front.blocks c.in-Some.rest.blocks p c.args.run.0 c.in-Some.ensures.blocks) ∙ c.requires.ends;
      begins = ap (λ bs. leads_to (Some c.args.run) (runs_in bs)) (sym c.in-Some-end_out.ensures.blocks) ∙ c.requires.begins;
    }

pub join-requires : goal.join-requires
join-requires c =
    let p = c.in-Some.last in
    let s = c.in-Some-end_out.first in
    let both = ap (λ (b : Piece). length b.1) c.in-Ok.ensures.ok in
    record { chars_fit = omega (arith, both, length-append p.1 (c.args.text ++ s.1), length-append c.args.text s.1, c.in-Some.ensures.chars, c.in-Some-end_out.ensures.chars) }

pub returns-in-Ok-clause-ok : goal.returns-in-Ok-clause-ok
returns-in-Ok-clause-ok c =
    let n : Piece = (c.args.run, c.args.text) in
    let p = c.in-Some.last in
    let rest = c.in-Some.rest.blocks in
    let s = c.in-Some-end_out.first in
    let far = c.in-Some-end_out.far.blocks in
    let e = c.in-Some.ensures.blocks in
    let d = c.in-Some-end_out.ensures.blocks in
    let ends = sym (last_touches c.args.front.blocks rest p n.0.0 e) ∙ c.requires.ends in
    let begins = ap (λ bs. leads_to (Some n.0) (runs_in bs)) (sym d) ∙ c.requires.begins in
    let loose : are_loose None (runs_in (rest ++ (p ∷ []) ++ ((s ∷ []) ++ far))) ≡ true = subst (λ bs. are_loose None (runs_in bs) ≡ true) (ap (λ bs. bs ++ c.args.behind.blocks) e ∙ ap (λ bs. (rest ++ p ∷ []) ++ bs) d) c.requires.loose in
    let shows = filled rest far p s n loose c.in-Some.ensures.piece.as_many c.requires.as_many (run_some p.0 c.in-Some.ensures.piece.sound) (run_some n.0 c.len-run.ensures.run) (run_some s.0 c.in-Some-end_out.ensures.piece.sound) ends begins in
    let new = c.join.ensures.blocks ∙ ap (λ b. rest ++ b ∷ far) c.in-Ok.ensures.ok ∙ sym (append_assoc rest (joined p (joined n s) ∷ []) far) in
    subst (λ bs. Shows (entries_of bs ++ piece_entries n ++ entries_of c.args.behind.blocks) c.join.result.blocks) (sym e)
    (subst (λ bs. Shows (entries_of (rest ++ p ∷ []) ++ piece_entries n ++ entries_of bs) c.join.result.blocks) (sym d)
    (subst (Shows (entries_of (rest ++ p ∷ []) ++ piece_entries n ++ entries_of (s ∷ far))) (sym new) shows))
