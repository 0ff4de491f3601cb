use Rattle.std.proofs.Common.{[], ◌∷◌, ap}
use Rattle.rls_rename.proofs.Patterns.{new_above_longer}
use Rattle.rls_rename.proofs.new_maps.new_above_inverse.Goals as goal

pub low_inverse-requires-clause-longer : goal.low_inverse-requires-clause-longer
low_inverse-requires-clause-longer c =
    new_above_longer c.args.first c.args.i c.args.z.first (c.tuple_at.result ∷ []) (ap (λ t. t ∷ []) c.tuple_at.ensures.tuple) c.len-len.ensures.ident c.requires.less
