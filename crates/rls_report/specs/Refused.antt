-- The lines that tell refused operations.
use Rattle.std.specs.Prelude.{ℕ, List, [], ◌∷◌, ◌++◌, codes, Option, Some, None}
use Rattle.std.specs.Fmt.{decimal}
use Rattle.rls_ops.specs.declared.op.Shape.{Shape}
use Rattle.rls_ops.specs.declared.op.Shape.TheVariants.{Author, Context, EmptyBody, TooLong, OffsetEnd}
use Rattle.rls_model.specs.Answers.{Reason, Misshapen, Own, Forked, Left, Backward, WrongEpoch, WrongStem, UnknownTarget}
use Rattle.rls_report.specs.Texts.{line, spaced, name_text, ident_text}

abbrev pub shape_text : Shape → List ℕ
shape_text Author = codes "author"
shape_text Context = codes "context"
shape_text EmptyBody = codes "empty"
shape_text (TooLong n) = codes "too long " ++ decimal n
shape_text OffsetEnd = codes "offset end"

abbrev pub stem_text : Option ℕ → List ℕ
stem_text None = codes "none"
stem_text (Some k) = decimal k

abbrev pub reason_text : Reason → List ℕ
reason_text (Misshapen s) = shape_text s
reason_text (Own n) = codes "own"
reason_text (Forked o) = codes "forked"
reason_text (Left n) = codes "left " ++ decimal n
reason_text (Backward v) = codes "backward" ++ spaced v
reason_text (WrongEpoch e) = codes "wrong epoch " ++ name_text e
reason_text (WrongStem k) = codes "wrong stem " ++ stem_text k
reason_text (UnknownTarget x) = codes "unknown target " ++ ident_text x

-- the line that tells a refused operation of this author and number
abbrev pub refused_line : ℕ → ℕ → Reason → List ℕ
refused_line author seq reason = line (codes "refused " ∷ decimal author ∷ codes " " ∷ decimal seq ∷ codes " " ∷ reason_text reason ∷ [])
