use Rattle.std.proofs.Common.{◌∙◌, ◌+◌, false, sym, subst, arith}
use Rattle.std.proofs.lemmas.List.{length-map}
use Rattle.rls_runs.specs.Entries.{idents_in}
use Rattle.rls_runs.proofs.RunOrder.{rising_of}
use Rattle.rls_blocks.specs.Trees.{entries_of}
use Rattle.rls_runs.proofs.RunEnds.{count_most}
use Rattle.rls_tree.specs.Targets.{AreMembers}
use Rattle.rls_tree.proofs.Targets.{members_more, none_behind, short, none_later, none_before_next, next_later}
use Rattle.rls_tree.proofs.tree.BlockTree.next_target.Goals as goal

pub returns-then-below-total-clause-none : goal.returns-then-below-total-clause-none
returns-then-below-total-clause-none c =
    let xs = idents_in (entries_of c.args.self.now.blocks) in
    let ts = c.args.targets.now in
    let none = none_later ts xs c.loop-i.i c.in-Err.below c.in_ok-ident.field-0 (rising_of ts c.total-total.ensures.idents.1) (rising_of xs c.blocks-blocks.ensures.rises) (sym c.find-in-loop-i.ensures.find ∙ c.in-Err.is) c.in_ok-ident.ensures.ident c.chars-then-below-total.result (c.if-below-total.true ∙ c.total.ensures.total) in
    members_more false ts xs c.args.at c.loop-i.i c.chars-then-below-total.result c.loop-i.invariant.none none

pub returns-then-below-total-clause-there : goal.returns-then-below-total-clause-there
returns-then-below-total-clause-there c =
    let es = entries_of c.args.self.now.blocks in
    let l = length-map es (λ e. e.0) in
    none_behind _ c.args.targets.now (idents_in es) c.chars-then-below-total.result (c.chars-then-below-total.result + 1) (omega (arith, l, c.chars-then-below-total.ensures.chars))

pub get-requires : goal.get-requires
get-requires c =
    let xs = idents_in (entries_of c.args.self.now.blocks) in
    let ts = c.args.targets.now in
    let s = short ts xs c.loop-i.i c.in-Err.below c.in_ok-ident.field-0 (rising_of ts c.total-total.ensures.idents.1) (rising_of xs c.blocks-blocks.ensures.rises) (sym c.find-in-loop-i.ensures.find ∙ c.in-Err.is) c.in_ok-ident.ensures.ident in
    record { place = omega (arith, s, c.if-below-total.false, c.total.ensures.total) }

pub loop-i-smaller : goal.loop-i-smaller
loop-i-smaller c =
    let xs = idents_in (entries_of c.args.self.now.blocks) in
    let ts = c.args.targets.now in
    let later = next_later ts xs c.loop-i.i c.in-Err.below c.in_ok-ident.field-0 (rising_of ts c.total-total.ensures.idents.1) (rising_of xs c.blocks-blocks.ensures.rises) (sym c.find-in-loop-i.ensures.find ∙ c.in-Err.is) c.in_ok-ident.ensures.ident c.in_ok-get.field-0 c.in_ok-get.ensures.found in
    omega (arith, later, c.count_below-i.ensures.count, c.loop-i-test.true, c.chars.ensures.chars)

pub loop-i-preserved : goal.loop-i-preserved
loop-i-preserved c =
    let es = entries_of c.args.self.now.blocks in
    let xs = idents_in es in
    let ts = c.args.targets.now in
    let own = rising_of ts c.total-total.ensures.idents.1 in
    let rising = rising_of xs c.blocks-blocks.ensures.rises in
    let found = sym c.find-in-loop-i.ensures.find ∙ c.in-Err.is in
    let later = next_later ts xs c.loop-i.i c.in-Err.below c.in_ok-ident.field-0 own rising found c.in_ok-ident.ensures.ident c.in_ok-get.field-0 c.in_ok-get.ensures.found in
    let none = none_before_next ts xs c.loop-i.i c.in-Err.below c.in_ok-ident.field-0 own rising found c.in_ok-ident.ensures.ident c.in_ok-get.field-0 c.in_ok-get.ensures.found in
    let most = count_most xs c.in_ok-get.field-0 in
    let l = length-map es (λ e. e.0) in
    record {
      order = omega (arith, later, c.count_below-i.ensures.count, c.loop-i.invariant.order);
      within = omega (arith, most, c.count_below-i.ensures.count, l);
      none = subst (AreMembers false ts xs c.args.at) (sym c.count_below-i.ensures.count) (members_more false ts xs c.args.at c.loop-i.i _ c.loop-i.invariant.none none);
    }

pub returns-clause-there : goal.returns-clause-there
returns-clause-there c =
    let es = entries_of c.args.self.now.blocks in
    let l = length-map es (λ e. e.0) in
    none_behind _ c.args.targets.now (idents_in es) c.loop-i.i (c.loop-i.i + 1) (omega (arith, l, c.loop-i-test.false, c.chars.ensures.chars))
