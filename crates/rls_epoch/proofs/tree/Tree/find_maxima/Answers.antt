use Rattle.std.proofs.Common.{◌+◌, ◌-◌, sym, subst, arith}
use Rattle.rls_rename.specs.Tree.{epoch_cmp}
use Rattle.rls_epoch.specs.Maxima.{AreFirst}
use Rattle.rls_epoch.specs.Seen.{nodes_of}
use Rattle.rls_epoch.proofs.UpTo.{first_all, first_next}
use Rattle.rls_epoch.proofs.tree.Tree.find_maxima.Goals as goal

pub loop-i-init : goal.loop-i-init
loop-i-init c = record { whole = c.requires.whole; first = λ a h w. absurd (omega arith) }

pub maximum_at-number-requires : goal.maximum_at-number-requires
maximum_at-number-requires c =
    let v = c.loop-i.invariant in
    let i = c.loop-i.i in
    record { whole = v.whole; within = omega arith; before = λ z. v.first (i - 1) (omega arith) (omega arith) }

pub set_entry-requires : goal.set_entry-requires
set_entry-requires c = let p = c.place_by_name.ensures.within in let w = c.loop-i.invariant.whole in record { within = omega arith }

pub loop-i-preserved : goal.loop-i-preserved
loop-i-preserved c =
    let t = c.args.self.now in
    let i = c.loop-i.i in
    subst (AreFirst (epoch_cmp (nodes_of t.nodes.placed)) t.nodes.top t.nodes.placed t.by_name.items (i + 1)) (sym (rw c.place_by_name.ensures.place at c.set_entry.ensures.set))
    (first_next t.by_name_is i (omega arith) c.loop-i.invariant c.maximum_at-number.result c.maximum_at-number.ensures.maximum)

pub returns : goal.returns
returns c = record { maxima = first_all c.args.self.now.by_name_is c.loop-i.i c.loop-i.invariant (omega arith) }
