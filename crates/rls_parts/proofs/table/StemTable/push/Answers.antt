use Rattle.std.proofs.Common.{◌≡◌, sym, ap, ◌∙◌, subst, true}
use Rattle.rls_ident.specs.Lists.{IsIn}
use Rattle.rls_model.specs.Stems.{with_stem}
use Rattle.rls_parts.proofs.Behind.{newest_of, put_behind}
use Rattle.rls_parts.proofs.table.StemTable.push.Goals as goal

pub put-requires-clause-newest : goal.put-requires-clause-newest
put-requires-clause-newest c t q e = newest_of c.args.stem.now t (c.requires.last t (subst (IsIn t) c.reserve.ensures.stems q)) e

pub returns-clause-ok : goal.returns-clause-ok
returns-clause-ok c =
    c.put.ensures.stems ∙ (ap (with_stem c.args.stem.now) c.reserve.ensures.stems ∙ put_behind c.args.stem.now c.args.self.now.stems c.requires.last)
