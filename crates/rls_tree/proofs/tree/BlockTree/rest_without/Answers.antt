use Rattle.std.proofs.Common.{◌≡◌, ℕ, ◌+◌, ◌-◌, ◌<◌, false, length, take, drop, sym, ap, ◌∙◌, subst, arith, rules}
use Rattle.std.specs.Prelude.{IfSome}
use Rattle.std.proofs.lemmas.Grind.{common_steps}
use Rattle.rls_runs.specs.Entries.{idents_in, without_all}
use Rattle.rls_blocks.specs.Trees.{Piece, entries_of}
use Rattle.rls_blocks.specs.Rests.{parts_in, AreParts, IsRest}
use Rattle.rls_tree.specs.Targets.{AreMembers}
use Rattle.rls_tree.proofs.Targets.{members_less}
use Rattle.rls_tree.proofs.Rested.{between, low, here, end_most, rested_shows}
use Rattle.rls_tree.proofs.tree.BlockTree.rest_without.Goals as goal

pub overflow_sub-start : goal.overflow_sub-start
overflow_sub-start c =
    let within : c.in_ok-first.first < length (entries_of c.args.self.now.blocks) = omega (arith, c.in_ok-first.ensures.within, c.if-first-total.false, c.chars-total.ensures.chars) in
    low _ c.in_ok-first.first _ _ c.chars-total.ensures.pieces within c.locate-at.ensures.located

pub overflow_add-end : goal.overflow_add-end
overflow_add-end c =
    let within : c.in_ok-first.first < length (entries_of c.args.self.now.blocks) = omega (arith, c.in_ok-first.ensures.within, c.if-first-total.false, c.chars-total.ensures.chars) in
    omega (arith, end_most _ c.in_ok-first.first _ _ c.chars-total.ensures.pieces within c.locate-at.ensures.located c.len.ensures.piece, c.len.ensures.len, c.chars-total.ensures.chars)

pub next_target-requires-2 : goal.next_target-requires-2
next_target-requires-2 c =
    let within : c.in_ok-first.first < length (entries_of c.args.self.now.blocks) = omega (arith, c.in_ok-first.ensures.within, c.if-first-total.false, c.chars-total.ensures.chars) in
    record { place = omega (arith, end_most _ c.in_ok-first.first _ _ c.chars-total.ensures.pieces within c.locate-at.ensures.located c.len.ensures.piece, c.len.ensures.len) }

pub parts_without-requires-clause-within : goal.parts_without-requires-clause-within
parts_without-requires-clause-within c =
    let within : c.in_ok-first.first < length (entries_of c.args.self.now.blocks) = omega (arith, c.in_ok-first.ensures.within, c.if-first-total.false, c.chars-total.ensures.chars) in
    omega (arith, end_most _ c.in_ok-first.first _ _ c.chars-total.ensures.pieces within c.locate-at.ensures.located c.len.ensures.piece, c.len.ensures.len)

pub new-requires-clause-parts : goal.new-requires-clause-parts
new-requires-clause-parts c =
    let start = c.in_ok-first.first - c.locate-at.result.1 in
    let n : start + c.len.result - start ≡ c.locate-at.result.0.now.0.1 = omega (arith, c.len.ensures.len, c.len.ensures.piece.as_many) in
    subst (AreParts 0 c.deref.result.now) n (subst (λ ps. AreParts 0 ps (start + c.len.result - start)) (sym c.deref.ensures.value) c.in_ok-parts.ensures.parts)

pub returns-clause-between : goal.returns-clause-between
returns-clause-between c =
    let within : c.in_ok-first.first < length (entries_of c.args.self.now.blocks) = omega (arith, c.in_ok-first.ensures.within, c.if-first-total.false, c.chars-total.ensures.chars) in
    between _ c.in_ok-first.first _ _ c.chars-total.ensures.pieces within c.locate-at.ensures.located

pub returns-clause-within : goal.returns-clause-within
returns-clause-within c =
    omega (arith, c.in_ok-first.ensures.within, c.if-first-total.false, c.chars-total.ensures.chars)

pub returns-clause-is_rest : goal.returns-clause-is_rest
returns-clause-is_rest c =
    let within : c.in_ok-first.first < length (entries_of c.args.self.now.blocks) = omega (arith, c.in_ok-first.ensures.within, c.if-first-total.false, c.chars-total.ensures.chars) in
    subst (λ o. IfSome o (λ (p : Piece × ℕ). IsRest c.in_ok-rest.rest p.0)) (sym (here _ c.in_ok-first.first _ _ c.chars-total.ensures.pieces within c.locate-at.ensures.located c.len.ensures.piece)) c.in_ok-rest.ensures.is_rest

pub returns-clause-shows : goal.returns-clause-shows
returns-clause-shows c =
    let bs = c.args.self.now.blocks in
    let i = c.in_ok-first.first in
    let at = c.locate-at.result.1 in
    let b = c.locate-at.result.0.now in
    let within : i < length (entries_of bs) = omega (arith, c.in_ok-first.ensures.within, c.if-first-total.false, c.chars-total.ensures.chars) in
    let es = entries_of bs in
    let ts = c.args.targets.now in
    let xs = idents_in es in
    let ps = c.deref.result.now in
    let is : ps ≡ c.in_ok-parts.parts.items = c.deref.ensures.value in
    let some : 0 < length ps = first_of (search rules, grind (arith, common_steps)) in
    let start = i - at in
    let n : start + c.len.result - start ≡ length b.1 = omega (arith, c.len.ensures.len) in
    let m : start + c.len.result - start ≡ b.0.1 = omega (arith, c.len.ensures.len, c.len.ensures.piece.as_many) in
    let end : start + c.len.result ≡ start + length b.1 = ap (λ k. start + k) c.len.ensures.len in
    let front = members_less false ts xs 0 0 start i (omega arith) (omega arith) c.in_ok-first.ensures.none in
    let behind : AreMembers false ts xs (start + c.len.result) (length es) = members_less false ts xs (start + c.len.result) (start + c.len.result) (length es) c.in_ok-later.later (omega arith) (omega (arith, c.if-later-total.false, c.chars-total.ensures.chars)) c.in_ok-later.ensures.none in
    rested_shows bs i at b c.chars-total.ensures.pieces within c.locate-at.ensures.located c.len.ensures.piece ts ps c.in_ok-rest.rest (subst (AreParts 0 ps) m (subst (λ qs. AreParts 0 qs (start + c.len.result - start)) (sym is) c.in_ok-parts.ensures.parts)) some c.in_ok-rest.ensures.rest
    (ap (λ qs. parts_in qs (drop start es)) is ∙ c.in_ok-parts.ensures.stay ∙ ap (λ k. without_all ts (take k (drop start es))) n) c.blocks-blocks.ensures.apart front (subst (λ k. AreMembers false ts xs k (length es)) end behind)
