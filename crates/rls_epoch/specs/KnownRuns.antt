-- Images that are known: runs of one epoch that are runs of another, too.
use Rattle.std.specs.Prelude.{◌≡◌, List, map}
use Rattle.std.specs.List.{All}
use Rattle.rls_rename.specs.Tree.{Node, translate}
use Rattle.rls_runs.specs.Runs.{run_idents}
use Rattle.rls_epoch.specs.declared.known.Known.{Known}
use Rattle.rls_epoch.specs.declared.known.KnownImages.{KnownImages}

-- the image's identifiers are the run's in the other epoch, in the same order
abbrev pub IsKnown : List Node → Known → Type 0
IsKnown nodes k = run_idents k.image.0 k.image.1 ≡ map (translate nodes k.from k.to) (run_idents k.run.0 k.run.1)

-- so are all in the table
abbrev pub AreKnown : List Node → KnownImages → Type 0
AreKnown nodes t = All (λ k. IsKnown nodes k.value) t.known.items
