-- The worked examples of where passages end.
use Rattle.std.specs.Prelude.{refl}
use Rattle.rls_model.specs.Computing.{computing}
use Rattle.rls_passages.specs.Limits.{Limits}

pub law : Limits
unfolding computing
law = ((refl, refl), (refl, refl), (refl, refl, refl))
