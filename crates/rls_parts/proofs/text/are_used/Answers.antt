use Rattle.std.proofs.Common.{ap, ◌∙◌}
use Rattle.std.specs.List.{list_all}
use Rattle.rls_ident.specs.Identifiers.{last_of}
use Rattle.rls_runs.specs.Runs.{idents_of}
use Rattle.rls_runs.proofs.RunsOf.{idents_of_runs}
use Rattle.rls_parts.specs.Rules.{is_used_tuple}
use Rattle.rls_parts.proofs.text.are_used.Goals as goal

pub returns : goal.returns
returns c = record {
  used = λ p s. c.are_used_runs.ensures.used p s
      ∙ (ap (λ rs. list_all (λ x. is_used_tuple p (last_of x)) (idents_of rs)) c.as_slice.ensures.runs ∙ ap (list_all (λ x. is_used_tuple p (last_of x))) (idents_of_runs c.args.ids.now));
}
