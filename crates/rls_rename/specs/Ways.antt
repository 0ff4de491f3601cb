-- The two ways of a renaming.
use Rattle.std.specs.Prelude.{List}
use Rattle.rls_ident.specs.declared.tuple.Tuple.{Tuple}
use Rattle.rls_rename.specs.declared.renaming.Way.{Way}
use Rattle.rls_rename.specs.declared.renaming.Way.TheVariants.{Forward, Back}
use Rattle.rls_rename.specs.Renaming.{Renaming, forward, back}

-- forward or back
abbrev pub renamed : Way → Renaming → List Tuple → List Tuple
renamed Forward R = forward R
renamed Back R = back R
