-- The worked examples of premises that don't hold.
use Rattle.std.specs.Fmt.{digits}
use Rattle.std.specs.Prelude.{refl}
use Rattle.std.specs.Str.{chars, is_utf8}
use lib.Utf8.{encode}
use Rattle.rls_undo.specs.Computing.{computing}
use Rattle.rls_script.specs.Scripts.{number_of, text_of}
use Rattle.rls_session.specs.Answers.{answer}
use Rattle.rls_session.specs.Orders.{order_of}
use Rattle.rls_session.specs.Requests.{cut}
use Rattle.rls_groups.specs.Premises.{PutBack, UnsavedHandedOn, UsedTwice}

pub unsaved_handed_on : UnsavedHandedOn
unfolding computing answer order_of cut is_utf8 chars encode digits number_of text_of
unsaved_handed_on = (refl, refl, refl, refl)

pub put_back : PutBack
unfolding computing answer order_of cut is_utf8 chars encode digits number_of text_of
put_back = refl

pub used_twice : UsedTwice
unfolding computing answer order_of cut is_utf8 chars encode digits number_of text_of
used_twice = (refl, refl, refl, refl)
