use Rattle.std.proofs.lemmas.Result.{IfOk-weaker}
use Rattle.rls_rename.proofs.Stretches.{low_goes}
use Rattle.rls_rename.proofs.gap_maps.low.Goals as goal

pub returns : goal.returns
returns c = record { low = IfOk-weaker c.prefixed_if.result _ _ (λ z g. low_goes z.first z.len c.in_ok-is_under.ensures.front g) c.prefixed_if.ensures.put }
