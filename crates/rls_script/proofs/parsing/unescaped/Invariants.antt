use Rattle.std.proofs.Common.{◌≡◌, false}
use Rattle.std.specs.Str.{chars, IsUtf8}
use Rattle.std.specs.Str.Iter.{chars_rest}
use Rattle.rls_script.specs.Scripts.{text_behind}
use Rattle.rls_script.proofs.Escapes.{with_chars}
use Rattle.rls_script.proofs.parsing.unescaped.Given as goal

abbrev pub invariant-loop-character : goal.invariant-loop-character
invariant-loop-character l = record {
  utf8 : IsUtf8 (chars_rest l.character-iterator);
  text : with_chars l.plain (text_behind l.is_escaped (chars (chars_rest l.character-iterator))) ≡ text_behind false (chars l.escaped);
}
