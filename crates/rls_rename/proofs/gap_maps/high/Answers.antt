use Rattle.std.proofs.lemmas.Result.{IfOk-weaker}
use Rattle.rls_rename.proofs.Stretches.{high_goes}
use Rattle.rls_rename.proofs.gap_maps.high.Goals as goal

pub returns : goal.returns
returns c = record { high = IfOk-weaker c.prefixed_if.result _ _ (λ z g. high_goes z.first z.len c.in_ok-is_under.ensures.front g) c.prefixed_if.ensures.put }
