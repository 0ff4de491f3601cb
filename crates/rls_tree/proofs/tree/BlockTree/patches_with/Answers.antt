use Rattle.std.proofs.Common.{◌≡◌, ℕ, ◌<◌, ◌≤◌, ◌∷◌, [], false, List, length, drop, refl, sym, ap, ◌∙◌, subst, arith}
use Rattle.std.specs.Prelude.{reverse, None}
use Rattle.std.proofs.lemmas.List.{reverse-append}
use Rattle.rls_tree.specs.declared.insertion.Gap.{Gap}
use Rattle.rls_blocks.specs.Trees.{entries_of, runs_in}
use Rattle.rls_blocks.specs.Edits.{goes_on}
use Rattle.rls_blocks.specs.Patches.{before, IsBetween}
use Rattle.rls_tree.specs.Gaps.{filled, AreGaps}
use Rattle.rls_blocks.proofs.Loose.{last_run, loose_of}
use Rattle.rls_tree.proofs.Planned.{end_of, all_patches}
use Rattle.rls_tree.proofs.Filled.{first_gap, gaps_within}
use Rattle.rls_tree.proofs.Grown.{Grown, start, first_grown, low_of, rest_fits, next, all_shows}
use Rattle.rls_tree.proofs.tree.BlockTree.patches_with.Goals as goal

no_gaps : (gs : List Gap) → length gs ≤ 0 → gs ≡ []
no_gaps [] h = refl
no_gaps (g ∷ gs) h = absurd (omega (arith, h))

pub loop-gap-init : goal.loop-gap-init
loop-gap-init c =
    let bs = c.args.self.now.blocks in
    let es = entries_of bs in
    let gs = c.args.gaps.items in
    subst (Grown (filled 0 gs es (λ k. drop k es)) bs gs) (sym (ap reverse c.new-patches.ensures.items)) (start bs gs c.chars-chars.ensures.pieces (loose_of None (runs_in bs) c.blocks-blocks.ensures.apart) c.requires.places)

pub start_for-from-requires : goal.start_for-from-requires
start_for-from-requires c =
    let g = c.in-Some.gap.now in
    let was = first_grown g (c.in-Some.ensures.item).3.0 c.in-Some.ensures.lookup c.loop-gap.invariant in
    record { place = gaps_within (drop 1 c.loop-gap.gaps.items) g.at (length (entries_of c.args.self.now.blocks)) was.places.1 }

pub patch_with-requires : goal.patch_with-requires
patch_with-requires c =
    let es = entries_of c.args.self.now.blocks in
    let gs = c.loop-gap.gaps.items in
    let g = c.in-Some.gap.now in
    let from = c.start_for-from in
    let some = (c.in-Some.ensures.item).3.0 in
    let e = first_gap gs g some c.in-Some.ensures.lookup in
    let was = first_grown g some c.in-Some.ensures.lookup c.loop-gap.invariant in
    let l = rest_fits (filled 0 c.args.gaps.items es (λ k. drop k es)) c.args.self.now.blocks (reverse c.loop-gap.patches.items) g (drop 1 gs) from.result was from.ensures.order from.ensures.last in
    record {
      places = subst (λ xs. AreGaps from.result xs (length es)) (sym e) (from.ensures.order, was.places.1);
      some = some;
      room = omega (arith, l, ap (λ xs. length (filled from.result xs es (λ k. drop k es))) e, c.requires.room);
    }

module _ (c : goal.In_ok-push) where
  from_last : (at : ℕ) → IsBetween at c.args.self.now.blocks → at < c.in-Some.gap.now.at → at ≤ c.in_ok-patch.patch.from
  from_last at b l = subst (λ k. at ≤ k) (sym c.in_ok-patch.ensures.from) (c.start_for-from.ensures.last at b l)

  pushed : reverse c.push.new.self.items ≡ c.in_ok-patch.patch ∷ reverse c.loop-gap.patches.items
  pushed = ap reverse c.in_ok-push.ensures.items ∙ reverse-append c.loop-gap.patches.items (c.in_ok-patch.patch ∷ [])

pub loop-gap-smaller : goal.loop-gap-smaller
loop-gap-smaller c =
    let es = entries_of c.args.self.now.blocks in
    let p = c.in_ok-patch.patch in
    let g = c.in-Some.gap.now in
    let was = first_grown g (c.in-Some.ensures.item).3.0 c.in-Some.ensures.lookup c.loop-gap.invariant in
    let l = low_of (filled 0 c.args.gaps.items es (λ k. drop k es)) c.args.self.now.blocks (reverse c.loop-gap.patches.items) g (drop 1 c.loop-gap.gaps.items) p.from was (from_last c) in
    omega (arith, ap end_of (pushed c), l, c.in_ok-patch.ensures.fewer, c.in_ok-patch.ensures.from)

pub loop-gap-preserved : goal.loop-gap-preserved
loop-gap-preserved c =
    let bs = c.args.self.now.blocks in
    let es = entries_of bs in
    let all = filled 0 c.args.gaps.items es (λ k. drop k es) in
    let gs = c.loop-gap.gaps.items in
    let more = c.patch_with.new.gaps.items in
    let g = c.in-Some.gap.now in
    let p = c.in_ok-patch.patch in
    let given = c.in_ok-patch.ensures in
    let from = c.start_for-from.ensures in
    let f = sym given.from in
    let was = first_grown g (c.in-Some.ensures.item).3.0 c.in-Some.ensures.lookup c.loop-gap.invariant in
    let e = first_gap gs g (c.in-Some.ensures.item).3.0 c.in-Some.ensures.lookup in
    let begins : p.from ≡ g.at → goes_on (last_run (before g.at bs)) g.block.0.0 ≡ false = λ q. from.apart (f ∙ q) in
    let entries = given.entries ∙ ap (λ k. filled k gs es (λ j. drop j es)) f ∙ ap (λ xs. filled p.from xs es (λ j. drop j es)) e in
    subst (Grown all bs more) (sym (pushed c))
    (next all bs (reverse c.loop-gap.patches.items) g (drop 1 gs) more p c.chars-chars.ensures.pieces was c.len-len.ensures.piece (subst (λ k. IsBetween k bs) f from.between) (subst (λ k. k ≤ g.at) f from.order) (from_last c) begins
    given.order given.between given.places given.gap given.some entries given.pieces given.loose given.apart)

pub returns-clause-patches : goal.returns-clause-patches
returns-clause-patches c =
    let ps = reverse c.loop-gap.patches.items in
    all_patches c.args.self.now.blocks ps (end_of ps) c.chars-chars.ensures.pieces c.loop-gap.invariant.plan

pub returns-clause-shows : goal.returns-clause-shows
returns-clause-shows c =
    let bs = c.args.self.now.blocks in
    let es = entries_of bs in
    let all = filled 0 c.args.gaps.items es (λ k. drop k es) in
    let ps = reverse c.loop-gap.patches.items in
    let none = no_gaps c.loop-gap.gaps.items (c.in_default.ensures.item).3 in
    all_shows all bs ps c.chars-chars.ensures.pieces (subst (λ xs. Grown all bs xs ps) none c.loop-gap.invariant)
