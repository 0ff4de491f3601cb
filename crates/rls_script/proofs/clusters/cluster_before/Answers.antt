use Rattle.std.proofs.Common.{sym, arith}
use Rattle.unicode_segmentation.specs.Iter.{graphemes_left}
use Rattle.rls_script.proofs.Places.{clusters_read, starts, goes_on, ends, passes, is_zero, is_above}
use Rattle.rls_script.proofs.clusters.cluster_before.Goals as goal

pub returns-then-at-eq0 : goal.returns-then-at-eq0
returns-then-at-eq0 c = record { cluster = rw c.char_count.ensures.count (sym (is_zero c.args.text.now c.args.at c.if-at-eq0.true)); clusters = clusters_read c.args.text.now c.utf8.text }

pub loop-cluster-init : goal.loop-cluster-init
loop-cluster-init c =
    rw (c.into_iter-cluster-iterator.ensures.into_iter_gives, c.graphemes-cluster-items.ensures.left) (starts c.args.text.now c.args.at c.utf8.text (omega (arith, c.if-at-eq0.false)))

pub returns-then-len-at : goal.returns-then-len-at
returns-then-len-at c =
    let place = rw c.in-Some.ensures.steps at c.loop-cluster.invariant in
    record {
      cluster = sym (ends c.args.text.now c.args.at c.loop-cluster.begin c.in-Some.cluster.now (graphemes_left c.next.new.self) c.char_count-len.ensures.utf8 place
          (omega (arith, place.below, c.char_count-len.ensures.count, c.if-len-at.true)));
      clusters = clusters_read c.args.text.now c.utf8.text;
    }

pub returns-then-len-at-2 : goal.returns-then-len-at-2
returns-then-len-at-2 c =
    let place = rw c.in-Some.ensures.steps at c.loop-cluster.invariant in
    record {
      cluster = sym (passes c.args.text.now c.args.at c.loop-cluster.begin c.in-Some.cluster.now (graphemes_left c.next.new.self) c.char_count-len.ensures.utf8 place
          (omega (arith, place.below, c.char_count-len.ensures.count, c.if-len-at-2.true)));
      clusters = clusters_read c.args.text.now c.utf8.text;
    }

pub loop-cluster-preserved : goal.loop-cluster-preserved
loop-cluster-preserved c =
    let place = rw c.in-Some.ensures.steps at c.loop-cluster.invariant in
    rw c.char_count-len.ensures.count
    (goes_on c.args.text.now c.args.at c.loop-cluster.begin c.in-Some.cluster.now (graphemes_left c.next.new.self) c.char_count-len.ensures.utf8 place
    (omega (arith, place.below, c.char_count-len.ensures.count, c.if-len-at.false, c.if-len-at-2.false)))

pub returns : goal.returns
returns c = record { cluster = sym (is_above c.args.text.now c.args.at c.loop-cluster.begin (rw c.in-None.ensures.steps.0 at c.loop-cluster.invariant)); clusters = clusters_read c.args.text.now c.utf8.text }
