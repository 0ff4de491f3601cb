-- The blocks of a tree as parts.
use Rattle.std.specs.Prelude.{List, map}
use Rattle.rls_model.specs.declared.parts.TextRun.{TextRun}
use Rattle.rls_blocks.specs.Trees.{Piece}

-- a run with its characters
abbrev pub run_with_text : Piece → TextRun
run_with_text b = record { run = b.0; text = b.1 }

abbrev pub runs_with_texts : List Piece → List TextRun
runs_with_texts bs = map run_with_text bs
