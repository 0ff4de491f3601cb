use Rattle.std.proofs.Common.{Some, sym, ap, ◌∙◌}
use Rattle.std.proofs.lemmas.Option.{slice_get-get_or}
use Rattle.rls_ident.proofs.Members.{get_in}
use Rattle.rls_epoch.proofs.tree.Tree.place_by_name.Goals as goal

pub returns-clause-within : goal.returns-clause-within
returns-clause-within c =
    let k = c.index.result.now in
    let places = c.args.self.now.by_name.items in
    c.args.self.now.by_name_is.within k (get_in places c.args.i k (slice_get-get_or places c.args.i k c.requires.within ∙ ap Some (sym c.index.ensures)))
