use Rattle.std.proofs.Common.{◌∙◌, None, ap}
use Rattle.std.specs.Option.{option_map}
use Rattle.rls_blocks.specs.Edits.{located}
use Rattle.rls_blocks.specs.Beside.{lent, located_before, ident_there}
use Rattle.rls_tree.proofs.Starts.{ident_at, ident_before, within_at, within_before}
use Rattle.rls_tree.proofs.tree.BlockTree.neighbours.Goals as goal

pub ident_at-requires : goal.ident_at-requires
ident_at-requires c =
    record { within = within_before c.self.inside.root.blocks c.args.i (lent c.beside.result.0) c.beside.ensures.before }

pub ident_at-requires-2 : goal.ident_at-requires-2
ident_at-requires-2 c =
    record { within = within_at c.self.inside.root.blocks c.args.i (lent c.beside.result.1) c.beside.ensures.behind }

pub returns-clause-none : goal.returns-clause-none
returns-clause-none c e = c.ident_at.ensures.ident ∙ ap (option_map ident_there) (c.beside.ensures.before ∙ ap (located_before None c.self.inside.root.blocks) e)

pub returns-clause-before : goal.returns-clause-before
returns-clause-before c s =
    c.ident_at.ensures.ident ∙ ap (option_map ident_there) (c.beside.ensures.before ∙ ap (λ t. located_before None t.blocks c.args.i) c.self.view_is) ∙ ident_before c.args.self.now.blocks c.args.i c.chars-chars.ensures.pieces s

pub returns-clause-behind : goal.returns-clause-behind
returns-clause-behind c =
    c.ident_at-2.ensures.ident ∙ ap (option_map ident_there) (c.beside.ensures.behind ∙ ap (λ t. located t.blocks c.args.i) c.self.view_is) ∙ ident_at c.args.self.now.blocks c.args.i c.chars-chars.ensures.pieces
