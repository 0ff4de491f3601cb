use Rattle.std.proofs.Common.{false, sym, ◌∙◌}
use Rattle.std.proofs.lemmas.Str.{chars_past_char, IsUtf8-past_char}
use Rattle.std.specs.Str.{chars}
use Rattle.std.specs.Str.Iter.{chars_rest}
use Rattle.rls_script.specs.Scripts.{text_behind, text_of}
use Rattle.rls_script.proofs.Escapes.{no_chars, with_no_chars, opens, means, is_bad, is_open, is_whole}
use Rattle.rls_script.proofs.parsing.unescaped.Goals as goal

pub loop-character-init : goal.loop-character-init
loop-character-init c = record {
  utf8 = rw (c.into_iter-character-iterator.ensures.into_iter_gives, c.chars-character-items.ensures.rest) c.utf8.escaped;
  text = rw (c.in_ok-plain.ensures.empty, c.into_iter-character-iterator.ensures.into_iter_gives, c.chars-character-items.ensures.rest) (with_no_chars (text_behind false (chars c.args.escaped.now)));
}

pub loop-character-preserved-then-is_opening : goal.loop-character-preserved-then-is_opening
loop-character-preserved-then-is_opening c =
    let past = chars_past_char _ _ _ c.loop-character.invariant.utf8 c.in-Some.ensures.steps.0 in
    record {
      utf8 = IsUtf8-past_char _ _ _ c.loop-character.invariant.utf8 c.in-Some.ensures.steps.0;
      text = opens c.loop-character.plain c.loop-character.is_escaped c.in-Some.character (chars (chars_rest c.next.new.self)) (text_behind false (chars c.args.escaped.now))
          (rw past at c.loop-character.invariant.text) (sym c.is_opening.ensures.opening ∙ c.if-is_opening.true);
    }

pub returns-in_default : goal.returns-in_default
unfolding text_of
returns-in_default c =
    let past = chars_past_char _ _ _ c.loop-character.invariant.utf8 c.in-Some.ensures.steps.0 in
    record {
      text = sym (is_bad c.loop-character.plain c.loop-character.is_escaped c.in-Some.character (chars (chars_rest c.next.new.self)) (text_behind false (chars c.args.escaped.now))
          (rw past at c.loop-character.invariant.text) (sym c.is_opening.ensures.opening ∙ c.if-is_opening.false)
          (sym c.meaning.ensures.meaning ∙ c.in_default.is));
    }

pub loop-character-preserved : goal.loop-character-preserved
loop-character-preserved c =
    let past = chars_past_char _ _ _ c.loop-character.invariant.utf8 c.in-Some.ensures.steps.0 in
    record {
      utf8 = IsUtf8-past_char _ _ _ c.loop-character.invariant.utf8 c.in-Some.ensures.steps.0;
      text = rw c.in_ok-push.ensures.ok (means c.loop-character.plain c.loop-character.is_escaped c.in-Some.character (chars (chars_rest c.next.new.self)) (text_behind false (chars c.args.escaped.now))
          (rw past at c.loop-character.invariant.text) c.in-Some-meaning.meant (sym c.is_opening.ensures.opening ∙ c.if-is_opening.false)
          (sym c.meaning.ensures.meaning ∙ c.in-Some-meaning.is));
    }

pub returns-then-is_escaped : goal.returns-then-is_escaped
unfolding text_of
returns-then-is_escaped c =
    let none = no_chars (chars_rest c.loop-character.character-iterator) c.in-None.ensures.steps.0.0 in
    record { text = sym (is_open c.loop-character.plain (text_behind false (chars c.args.escaped.now)) (rw (none, c.if-is_escaped.true) at c.loop-character.invariant.text)) }

pub returns : goal.returns
unfolding text_of
returns c =
    let none = no_chars (chars_rest c.loop-character.character-iterator) c.in-None.ensures.steps.0.0 in
    record {
      text = sym (is_whole c.loop-character.plain (text_behind false (chars c.args.escaped.now)) (rw (none, c.if-is_escaped.false) at c.loop-character.invariant.text));
    }
