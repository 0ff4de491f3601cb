use Rattle.std.proofs.Common.{sym, ap, ◌∙◌, subst}
use Rattle.rls_runs.specs.Runs.{idents_of, place_of}
use Rattle.rls_runs.specs.Entries.{idents_in}
use Rattle.rls_runs.specs.Places.{find_ident}
use Rattle.rls_runs.proofs.RunOrder.{Rising}
use Rattle.rls_blocks.specs.Trees.{runs_in, entries_of}
use Rattle.rls_blocks.proofs.Parts.{pieces_rising, found_place}
use Rattle.rls_tree.proofs.tree.BlockTree.place.Goals as goal

pub find-requires : goal.find-requires
find-requires c =
    record { rises = subst (λ bs. Rising (idents_of (runs_in bs))) (sym c.in-Some.ensures.blocks) (pieces_rising c.self.inside.root.blocks c.chars-chars.ensures.pieces c.self.invariant) }

pub returns-in-None : goal.returns-in-None
returns-in-None c =
    record {
      place = ap (λ l. find_ident (idents_of (runs_in l.blocks)) c.args.id.now) (sym c.in-None.ensures.empty)
          ∙ found_place c.self.inside.root.blocks c.args.id.now c.chars-chars.ensures.pieces c.self.invariant
          ∙ ap (λ s. place_of c.args.id.now (idents_in (entries_of s.blocks))) c.self.view_is;
    }

pub returns-in-Some : goal.returns-in-Some
returns-in-Some c =
    record {
      place = c.find.ensures.find
          ∙ ap (λ bs. find_ident (idents_of (runs_in bs)) c.args.id.now) c.in-Some.ensures.blocks
          ∙ found_place c.self.inside.root.blocks c.args.id.now c.chars-chars.ensures.pieces c.self.invariant
          ∙ ap (λ s. place_of c.args.id.now (idents_in (entries_of s.blocks))) c.self.view_is;
    }
