use Rattle.std.proofs.Common.{◌≡◌, set, sym, subst, arith}
use Rattle.std.specs.Prelude.{slice_index}
use Rattle.rls_rename.specs.Tree.{epoch_cmp}
use Rattle.rls_epoch.specs.Maxima.{AreMaxima}
use Rattle.rls_epoch.specs.Seen.{nodes_of}
use Rattle.rls_epoch.proofs.UpTo.{added_maxima, before_added, old_whole}
use Rattle.rls_epoch.proofs.tree.Tree.add_maximum.Goals as goal

pub find_maxima-requires : goal.find_maxima-requires
find_maxima-requires c = record { whole = old_whole c.count-count.ensures.laid c.requires.added }

pub maximum_at-number-requires : goal.maximum_at-number-requires
maximum_at-number-requires c =
    let t = c.args.self.now in
    record {
      whole = old_whole c.count-count.ensures.laid c.requires.added;
      within = c.requires.within;
      before = before_added t.by_name_is c.count-count.ensures.laid c.requires.added c.args.index c.requires.within c.requires.index (c.has_later.ensures.alone c.if-has_later.false);
    }

pub set_entry-requires : goal.set_entry-requires
set_entry-requires c =
    let w = old_whole c.count-count.ensures.laid c.requires.added in
    let p = c.place_by_name.ensures.within in
    record { within = omega arith }

pub returns : goal.returns
returns c =
    let t = c.args.self.now in
    let n = c.maximum_at-number.result in
    let put : c.set_entry.new.list ≡ set c.args.maxima.now (slice_index t.by_name.items c.args.index) n = rw c.place_by_name.ensures.place at c.set_entry.ensures.set in
    record {
      maxima = subst (AreMaxima (epoch_cmp (nodes_of t.nodes.placed)) t.nodes.top t.nodes.placed) (sym put)
          (added_maxima t.by_name_is c.count-count.ensures.laid c.requires.added c.args.index c.requires.within c.requires.index (c.has_later.ensures.alone c.if-has_later.false) n c.maximum_at-number.ensures.maximum);
    }
