use Rattle.std.proofs.Common.{◌≡◌, ℕ, ◌-◌, Bool, List, Option, length, refl, sym, ap, ◌∙◌, subst, arith}
use Rattle.std.proofs.lemmas.Result.{IfOk-weaker}
use Rattle.rls_ident.specs.declared.tuple.Tuple.{Tuple}
use Rattle.rls_runs.proofs.RunEnds.{run_short}
use Rattle.rls_blocks.specs.Trees.{Piece, entries_of, piece_entries}
use Rattle.rls_blocks.specs.Edits.{begins_with, ends_with, inserted, Shows}
use Rattle.rls_blocks.proofs.Placed.{around}
use Rattle.rls_blocks.proofs.Insertions.{before_some, before_there, after_there, front_shows, last_shows, may_first, may_last}
use Rattle.rls_blocks.proofs.insert.insert_at.Goals as goal

-- what was asked of the places beside
begun_there : (p q : Option (Piece × ℕ)) (x : List Tuple) (k n : ℕ) (t : Bool) → p ≡ q → k ≡ n → t ≡ begins_with p (x, k) → begins_with q (x, n) ≡ t
begun_there p q x k n t e f h = sym (h ∙ ap (λ o. begins_with o (x, k)) e ∙ ap (λ m. begins_with q (x, m)) f)

ended_there : (p q : Option (Piece × ℕ)) (x : List Tuple) (t : Bool) → p ≡ q → t ≡ ends_with p x → ends_with q x ≡ t
ended_there p q x t e h = sym (h ∙ ap (λ o. ends_with o x) e)

pub overflow_cast-len : goal.overflow_cast-len
overflow_cast-len c = omega (arith, run_short (c.args.first.now, length c.args.text.now) c.requires.piece.sound, c.len-len.ensures.len)

pub with_change-requires-clause-place : goal.with_change-requires-clause-place
with_change-requires-clause-place c =
    let begins = begun_there _ _ _ _ _ _ c.beside.ensures.behind c.len-len.ensures.len c.if-begins_with.ensures.begins in
    after_there c.args.link.blocks c.args.i (c.args.first.now, length c.args.text.now) c.chars-chars.ensures.pieces begins

pub with_change-requires-clause-may : goal.with_change-requires-clause-may
with_change-requires-clause-may c =
    let bs = c.args.link.blocks in
    let n : Piece = ((c.args.first.now, length c.args.text.now), c.args.text.now) in
    let begins = begun_there _ _ _ _ _ _ c.beside.ensures.behind c.len-len.ensures.len c.if-begins_with.ensures.begins in
    may_first bs n c.args.i c.args.text refl (around bs c.args.i c.chars-chars.ensures.pieces (after_there bs c.args.i n.0 c.chars-chars.ensures.pieces begins)) c.requires.piece begins

pub returns-then-begins_with-clause-ok : goal.returns-then-begins_with-clause-ok
returns-then-begins_with-clause-ok c =
    let bs = c.args.link.blocks in
    let i = c.args.i in
    let n : Piece = ((c.args.first.now, length c.args.text.now), c.args.text.now) in
    let begins = begun_there _ _ _ _ _ _ c.beside.ensures.behind c.len-len.ensures.len c.if-begins_with.ensures.begins in
    let ends = ended_there _ _ _ _ c.beside.ensures.before c.if-ends.ensures.ends in
    let r = around bs i c.chars-chars.ensures.pieces (after_there bs i n.0 c.chars-chars.ensures.pieces begins) in
    let shows = front_shows bs n i r c.requires.piece c.requires.loose c.args.text refl begins ends in
    IfOk-weaker c.with_change.result _ _ (λ new h. subst (Shows (inserted i (piece_entries n) (entries_of bs))) (sym h) shows) c.with_change.ensures.ok

pub with_change-requires-then-ends-2-clause-may : goal.with_change-requires-then-ends-2-clause-may
with_change-requires-then-ends-2-clause-may c =
    let bs = c.args.link.blocks in
    let i = c.args.i in
    let n : Piece = ((c.args.first.now, length c.args.text.now), c.args.text.now) in
    let ends = ended_there _ _ _ _ c.beside.ensures.before c.if-ends-2.ensures.ends in
    let some = before_some bs i n.0.0 ends in
    let place = c.requires.place in
    may_last bs n (i - 1) c.args.text refl (around bs (i - 1) c.chars-chars.ensures.pieces (omega (arith, some, place))) c.requires.piece (ap (λ p. ends_with p n.0.0) (sym (before_there bs i some)) ∙ ends)

pub returns-then-ends-2-clause-ok : goal.returns-then-ends-2-clause-ok
returns-then-ends-2-clause-ok c =
    let bs = c.args.link.blocks in
    let i = c.args.i in
    let n : Piece = ((c.args.first.now, length c.args.text.now), c.args.text.now) in
    let ends = ended_there _ _ _ _ c.beside.ensures.before c.if-ends-2.ensures.ends in
    let begins = begun_there _ _ _ _ _ _ c.beside.ensures.behind c.len-len.ensures.len c.if-begins_with.ensures.begins in
    let some = before_some bs i n.0.0 ends in
    let place = c.requires.place in
    let r = around bs (i - 1) c.chars-chars.ensures.pieces (omega (arith, some, place)) in
    let shows = last_shows bs n (i - 1) r c.requires.piece c.requires.loose i (omega (arith, some)) begins c.requires.rises c.args.text refl (ap (λ p. ends_with p n.0.0) (sym (before_there bs i some)) ∙ ends) in
    IfOk-weaker c.with_change-then-ends-2.result _ _ (λ new h. subst (Shows (inserted i (piece_entries n) (entries_of bs))) (sym h) shows) c.with_change-then-ends-2.ensures.ok
