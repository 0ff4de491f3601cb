use Rattle.std.proofs.Common.{◌≡◌, ◌-◌, true, false, sym, ap, ◌∙◌, arith}
use Rattle.std.specs.Prelude.{slice_index}
use Rattle.rls_epoch.specs.Maxima.{name_in, up_to}
use Rattle.rls_epoch.proofs.UpTo.{maximum_apart, maximum_first, maximum_greater}
use Rattle.rls_epoch.proofs.tree.Tree.maximum_at.Goals as goal

pub returns-then-i-eq0 : goal.returns-then-i-eq0
returns-then-i-eq0 c = rw c.place_by_name-place.ensures.place record { maximum = maximum_first c.args.self.now.by_name_is c.args.self.now.nodes.top c.args.i c.requires.within (omega arith) }

pub returns-then-not-is_up_to : goal.returns-then-not-is_up_to
returns-then-not-is_up_to c =
    let ps = c.args.self.now.nodes.placed in
    let names = c.args.self.now.by_name.items in
    let i = c.args.i in
    let u : up_to (name_in ps names i) (name_in ps names (i - 1)) ≡ false =
    rw (c.name_of.ensures.name, c.name_of-2.ensures.name, c.place_by_name-place.ensures.place, c.place_by_name-before.ensures.place) at (sym c.is_up_to.ensures.up_to ∙ c.if-not-is_up_to.true) in
    rw c.place_by_name-place.ensures.place record { maximum = maximum_apart c.args.self.now.by_name_is c.args.self.now.nodes.top i c.requires.within (omega arith) u }

pub greater-requires : goal.greater-requires
greater-requires c =
    let p = c.place_by_name-place.ensures.within in
    let b = c.place_by_name-before.ensures.place in
    let m = (c.requires.before (omega arith)).in_range in
    let e = c.entry.ensures.entry ∙ ap (slice_index c.args.maxima.now) b in
    record { first = omega arith; second = omega arith }

pub returns : goal.returns
returns c =
    let ps = c.args.self.now.nodes.placed in
    let names = c.args.self.now.by_name.items in
    let i = c.args.i in
    let before = slice_index c.args.maxima.now (slice_index names (i - 1)) in
    let u : up_to (name_in ps names i) (name_in ps names (i - 1)) ≡ true =
    rw (c.name_of.ensures.name, c.name_of-2.ensures.name, c.place_by_name-place.ensures.place, c.place_by_name-before.ensures.place) at (sym c.is_up_to.ensures.up_to ∙ c.if-not-is_up_to.false) in
    let is = rw (c.entry.ensures.entry, c.place_by_name-place.ensures.place, c.place_by_name-before.ensures.place) at c.greater.ensures.greater in
    record { maximum = maximum_greater c.args.self.now.by_name_is c.args.self.now.nodes.top i c.requires.within (omega arith) u before (c.requires.before (omega arith)) c.greater.result is }
