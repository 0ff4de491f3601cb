use Rattle.std.proofs.Common.{◌∙◌, ap}
use Rattle.std.specs.List.{position}
use Rattle.rls_script.specs.Scripts.{is_space}
use Rattle.rls_script.proofs.Words.{may_cut_before, may_cut_after}
use Rattle.rls_script.proofs.parsing.parts.Goals as goal

pub range-requires-clause-end_boundary : goal.range-requires-clause-end_boundary
range-requires-clause-end_boundary c = may_cut_before c.args.text.now c.in_ok-at.at (c.in_ok-at.ensures.space ∙ ap (position is_space) c.as_bytes.ensures.value)

pub range_from-requires : goal.range_from-requires
range_from-requires c = λ _. may_cut_after c.args.text.now c.in_ok-at.at (c.in_ok-at.ensures.space ∙ ap (position is_space) c.as_bytes.ensures.value) c.utf8.text
