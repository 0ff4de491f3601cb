use Rattle.std.proofs.Common.{◌≡◌, ◌+◌, false, sym, ◌∙◌, arith}
use Rattle.rls_epoch.specs.Maxima.{name_in, up_to}
use Rattle.rls_epoch.proofs.UpTo.{alone_last, alone_next}
use Rattle.rls_epoch.proofs.tree.Tree.has_later.Goals as goal

pub returns-then-next-len : goal.returns-then-next-len
returns-then-next-len c = record { alone = λ f. alone_last c.args.self.now.by_name_is c.args.index c.requires.within (omega arith) }

pub returns : goal.returns
returns c =
    let ps = c.args.self.now.nodes.placed in
    let names = c.args.self.now.by_name.items in
    let i = c.args.index in
    record {
      alone = λ f.
          let u : up_to (name_in ps names (i + 1)) (name_in ps names i) ≡ false = rw (c.name_by_name.ensures.name, c.name_by_name-2.ensures.name) at (sym c.is_up_to.ensures.up_to ∙ f) in
          alone_next c.args.self.now.by_name_is i (omega arith) u;
    }
