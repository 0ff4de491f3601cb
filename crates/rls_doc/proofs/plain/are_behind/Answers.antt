use Rattle.std.proofs.Common.{sym, ap, ◌∙◌, option_copied}
use Rattle.rls_doc.proofs.Rising.{behind_last}
use Rattle.rls_doc.proofs.plain.are_behind.Goals as goal

pub returns-in-Less : goal.returns-in-Less
returns-in-Less c = record {
  behind = λ t. behind_last c.args.entries.now c.args.added.now c.in-Some-Some.last.now c.in-Some-Some.first.now c.requires.rises c.requires.added
      (sym c.last.ensures.value ∙ ap option_copied c.in-Some-Some.is-0) (sym c.first.ensures.value ∙ ap option_copied c.in-Some-Some.is-1) (sym c.compare.ensures.order ∙ c.in-Less.is);
}
