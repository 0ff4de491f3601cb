use Rattle.std.proofs.Common.{[], ◌∷◌, ap}
use Rattle.rls_rename.proofs.Patterns.{new_below_longer}
use Rattle.rls_rename.proofs.new_maps.new_below_inverse.Goals as goal

pub high_inverse-requires-clause-longer : goal.high_inverse-requires-clause-longer
high_inverse-requires-clause-longer c =
    new_below_longer c.args.first c.args.z.first (c.tuple_before.result ∷ []) (ap (λ t. t ∷ []) c.tuple_before.ensures.tuple) c.len-len.ensures.ident c.requires.less
