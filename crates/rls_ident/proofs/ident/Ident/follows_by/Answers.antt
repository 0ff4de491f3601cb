use Rattle.std.proofs.Common.{◌∙◌}
use Rattle.std.specs.Prelude.{pos}
use Rattle.rls_ident.proofs.Ends.{further_at, further_not}
use Rattle.rls_ident.proofs.ident.Ident.follows_by.Goals as goal

pub returns-then-is_further : goal.returns-then-is_further
returns-then-is_further c =
    let next = c.is_further.ensures.further.0 c.if-is_further.true in
    let e = further_at (pos c.args.by) c.self.inside.front.items c.other.inside.front.items c.self.inside.last c.other.inside.last c.args.self.now c.args.other.now c.self.view_is c.other.view_is next in
    record { follows = rw (c.deref.ensures.value, c.deref-then-is_further.ensures.value) at c.same_tuples.ensures.same ∙ e }

pub returns-else-is_further : goal.returns-else-is_further
returns-else-is_further c =
    record { follows = c.if-is_further.false ∙ further_not (pos c.args.by) c.self.inside.front.items c.other.inside.front.items c.self.inside.last c.other.inside.last c.args.self.now c.args.other.now c.self.view_is c.other.view_is (λ q. cc (c.is_further.ensures.further.1 q, c.if-is_further.false)) }
