use Rattle.std.proofs.Common.{◌≡◌, get_or, false, sym, ap, ◌∙◌, arith}
use Rattle.rls_ident.specs.EpochNames.{name_eq}
use Rattle.rls_epoch.specs.Sorted.{place_name}
use Rattle.rls_epoch.proofs.Found.{name_next, none_at_end, none_here}
use Rattle.rls_epoch.proofs.tree.Tree.find.Goals as goal

pub returns-then-len-i-clause-none : goal.returns-then-len-i-clause-none
returns-then-len-i-clause-none c =
    none_at_end c.args.self.now.nodes.top c.args.self.now.by_name_is c.names_below-i.ensures.cut (ap (name_eq c.args.name) (sym c.epoch_of-top.ensures.name) ∙ (sym c.same.ensures.same ∙ c.if-same.false)) (omega arith)

pub returns-then-same-2-clause-some : goal.returns-then-same-2-clause-some
returns-then-same-2-clause-some c =
    name_next c.args.self.now.nodes.top c.args.self.now.nodes.placed c.place_by_name-place.result c.args.name c.place_by_name-place.ensures.within (ap (λ e. name_eq e c.args.name) (sym c.name_of.ensures.name) ∙ (sym c.same-2.ensures.same ∙ c.if-same-2.true))

pub returns-else-same-2-clause-none : goal.returns-else-same-2-clause-none
returns-else-same-2-clause-none c =
    let other : name_eq (place_name c.args.self.now.nodes.placed (get_or c.args.self.now.by_name.items c.names_below-i.result 0)) c.args.name ≡ false =
    rw (c.name_of.ensures.name, c.place_by_name-place.ensures.place) at (sym c.same-2.ensures.same ∙ c.if-same-2.false) in
    none_here c.args.self.now.nodes.top c.args.self.now.by_name_is c.names_below-i.ensures.cut (ap (name_eq c.args.name) (sym c.epoch_of-top.ensures.name) ∙ (sym c.same.ensures.same ∙ c.if-same.false))
    (omega arith) other
