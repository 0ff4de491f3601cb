use Rattle.std.proofs.Common.{◌++◌, length, take, drop, sym, ap, ◌∙◌, subst, arith}
use Rattle.std.proofs.lemmas.List.{take_all, map-append, length-map}
use Rattle.std.proofs.lemmas.Result.{IfOk-weaker}
use Rattle.std.proofs.Math.Seq.{take-add}
use Rattle.rls_runs.specs.Runs.{is_increasing}
use Rattle.rls_runs.specs.Entries.{idents_in, with_idents}
use Rattle.rls_runs.proofs.Sorted.{Entry}
use Rattle.rls_doc.proofs.Rising.{increasing_mapped}
use Rattle.rls_blocks.specs.Trees.{entries_of}
use Rattle.rls_blocks.specs.Edits.{Shows}
use Rattle.rls_tree.proofs.tree.BlockTree.mapped.Goals as goal

pub loop-at-preserved : goal.loop-at-preserved
loop-at-preserved g c =
    let f = g.F.RunMap.image c.args.map.now in
    let es = entries_of c.args.self.now.blocks in
    let at = c.loop-at.at in
    let n = c.in_ok-at.field-0 in
    let all = ap (λ zs. zs ++ with_idents f (take n (drop at es))) c.loop-at.invariant.shows.entries_are ∙ sym (map-append (λ e. (f e.0, e.1)) (take at es) (take n (drop at es))) ∙ ap (with_idents f) (sym (take-add at n es)) in
    record { within = c.in_ok-at.ensures.within; shows = subst (λ zs. Shows zs c.map_next.new.blocks.items) all c.in_ok-at.ensures.shows }

pub of_loose_blocks-requires : goal.of_loose_blocks-requires
of_loose_blocks-requires g c =
    let f = g.F.RunMap.image c.args.map.now in
    let es = entries_of c.args.self.now.blocks in
    let is = c.loop-at.invariant.shows.entries_are ∙ ap (with_idents f) (take_all c.loop-at.at es (omega arith)) in
    record {
      loose = c.loop-at.invariant.shows.loose;
      rises = ap (λ zs. is_increasing (idents_in zs)) is ∙ increasing_mapped f (g.met.F.RunMap.keeps_order c.args.map.now) es c.are_idents.ensures.idents c.blocks-blocks.ensures.rises;
      chars_fit = omega (arith, ap length is, length-map {B = Entry} es (λ e. (f e.0, e.1)));
    }

pub returns : goal.returns
returns g c =
    let f = g.F.RunMap.image c.args.map.now in
    let es = entries_of c.args.self.now.blocks in
    let is = c.loop-at.invariant.shows.entries_are ∙ ap (with_idents f) (take_all c.loop-at.at es (omega arith)) in
    record { mapped = IfOk-weaker c.of_loose_blocks.result _ _ (λ tree h. ap entries_of h ∙ is) c.of_loose_blocks.ensures.blocks }
