use Rattle.std.proofs.Common.{◌≡◌, ◌-◌, ◌++◌, true, None, sym, ap, ◌∙◌, subst, arith}
use Rattle.std.proofs.lemmas.Result.{IfOk-weaker}
use Rattle.rls_runs.specs.Runs.{are_apart}
use Rattle.rls_blocks.specs.Trees.{entries_of, runs_in}
use Rattle.rls_blocks.specs.Edits.{removed, Shows}
use Rattle.rls_blocks.proofs.Ranges.{gap_out, back_out, front_out, ends_out, middle_out}
use Rattle.rls_blocks.proofs.remove.remove_range.Goals as goal

pub returns-in-Some-clause-ok : goal.returns-in-Some-clause-ok
returns-in-Some-clause-ok c =
    IfOk-weaker c.with_change.result _ _ (λ new h. subst (Shows (removed c.args.i c.args.count (entries_of c.args.link.blocks))) (sym h) c.in-Some.ensures.shows) c.with_change.ensures.ok

pub close_gap-requires-clause-apart : goal.close_gap-requires-clause-apart
close_gap-requires-clause-apart c =
    subst (λ bs. are_apart None (runs_in bs) ≡ true) (c.in-Between.ensures.splits.blocks ∙ ap (λ bs. bs ++ c.in-Between.behind.blocks) c.in-Between-split.ensures.splits.blocks) c.requires.apart

pub returns-in-Between-split-clause-ok : goal.returns-in-Between-split-clause-ok
returns-in-Between-split-clause-ok c =
    let out = gap_out c.args.link.blocks c.in-Between.near.blocks c.in-Between-split.front.blocks c.in-Between-split.gone.blocks c.in-Between.behind.blocks c.args.i c.args.count c.in-Between.ensures.splits c.in-Between-split.ensures.splits in
    IfOk-weaker c.close_gap.result _ _ (λ new h. subst (λ es. Shows es new.blocks) out h) c.close_gap.ensures.ok

pub returns-in-Within-split-clause-ok : goal.returns-in-Within-split-clause-ok
returns-in-Within-split-clause-ok c =
    let shows = back_out c.args.link.blocks c.in-Between.near.blocks c.in-Within-split.front.blocks c.in-Within-split.gone.blocks c.in-Between.behind.blocks c.args.i c.args.count c.in-Within-split.first c.in-Within-split.at c.in-Between.ensures.splits c.in-Within-split.ensures.splits c.requires.apart in
    IfOk-weaker c.remove_back.result _ _ (λ new h. subst (Shows (removed c.args.i c.args.count (entries_of c.args.link.blocks))) (sym h) shows) c.remove_back.ensures.ok

pub returns-then-i-before-clause-ok : goal.returns-then-i-before-clause-ok
returns-then-i-before-clause-ok c =
    let shows = middle_out c.args.link.blocks c.in-Within.near.blocks c.in-Within.behind.blocks c.in-Within.last (c.args.i - c.chars-before.result) c.in-Within.end c.args.i c.args.count c.in-Within.ensures.splits (omega arith) (omega arith) (omega arith) c.requires.apart in
    IfOk-weaker c.remove_middle.result _ _ (λ new h. subst (Shows (removed c.args.i c.args.count (entries_of c.args.link.blocks))) (sym h) shows) c.remove_middle.ensures.ok

pub returns-in-Between-split-2-clause-ok : goal.returns-in-Between-split-2-clause-ok
returns-in-Between-split-2-clause-ok c =
    let shows = front_out c.args.link.blocks c.in-Within.near.blocks c.in-Between-split-2.front.blocks c.in-Between-split-2.gone.blocks c.in-Within.behind.blocks c.args.i c.args.count c.in-Within.last c.in-Within.end c.in-Within.ensures.splits c.in-Between-split-2.ensures.splits c.requires.apart in
    IfOk-weaker c.remove_front.result _ _ (λ new h. subst (Shows (removed c.args.i c.args.count (entries_of c.args.link.blocks))) (sym h) shows) c.remove_front.ensures.ok

pub returns-in-Within-split-2-clause-ok : goal.returns-in-Within-split-2-clause-ok
returns-in-Within-split-2-clause-ok c =
    let shows = ends_out c.args.link.blocks c.in-Within.near.blocks c.in-Within-split-2.front.blocks c.in-Within-split-2.gone.blocks c.in-Within.behind.blocks c.args.i c.args.count c.in-Within-split-2.first c.in-Within.last c.in-Within-split-2.at c.in-Within.end c.in-Within.ensures.splits c.in-Within-split-2.ensures.splits c.requires.apart in
    IfOk-weaker c.remove_ends.result _ _ (λ new h. subst (Shows (removed c.args.i c.args.count (entries_of c.args.link.blocks))) (sym h) shows) c.remove_ends.ensures.ok
