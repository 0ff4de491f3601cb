use Rattle.std.proofs.Common.{◌≡◌, ◌-◌, true, false, sym, ◌∙◌, arith}
use Rattle.rls_epoch.specs.Maxima.{name_in, up_to}
use Rattle.rls_epoch.proofs.UpTo.{maximum_before, maximum_none, maximum_other}
use Rattle.rls_epoch.proofs.tree.Tree.greatest_up_to.Goals as goal

pub returns-then-end-eq0 : goal.returns-then-end-eq0
returns-then-end-eq0 c = record { maximum = maximum_none c.args.self.now.by_name_is c.requires.maxima c.names_up_to-end.ensures.end (omega arith) }

pub place_by_name-before-requires : goal.place_by_name-before-requires
place_by_name-before-requires c = let r = c.names_up_to-end.ensures.end.in_range in record { within = omega arith }

pub returns-then-is_up_to : goal.returns-then-is_up_to
returns-then-is_up_to c =
    let t = c.args.self.now in
    let n = c.names_up_to-end.result in
    let u : up_to c.args.name (name_in t.nodes.placed t.by_name.items (n - 1)) ≡ true = rw (c.name_of.ensures.name, c.place_by_name-before.ensures.place) at (sym c.is_up_to.ensures.up_to ∙ c.if-is_up_to.true) in
    rw (c.entry.ensures.entry, c.place_by_name-before.ensures.place) record {
      maximum = maximum_before t.by_name_is c.requires.maxima c.names_up_to-end.ensures.end (omega arith) u;
    }

pub returns-else-is_up_to : goal.returns-else-is_up_to
returns-else-is_up_to c =
    let t = c.args.self.now in
    let n = c.names_up_to-end.result in
    let u : up_to c.args.name (name_in t.nodes.placed t.by_name.items (n - 1)) ≡ false = rw (c.name_of.ensures.name, c.place_by_name-before.ensures.place) at (sym c.is_up_to.ensures.up_to ∙ c.if-is_up_to.false) in
    record { maximum = maximum_other t.by_name_is c.requires.maxima c.names_up_to-end.ensures.end (omega arith) u }
