-- Opens the words of this crate and of those below it, so that closed terms compute.
use lib.Utf8.{encode}
use Rattle.std.specs.Str.{is_utf8, chars}
use Rattle.rls_ident.specs.Tuples.{spot_cmp, tuple_cmp}
use Rattle.rls_ops.specs.Spelling.{op_bytes, message_in_form}
use Rattle.rls_codec.specs.Reading.{chain_at, spot_at, inner_at, last_at, ident_at, run_at, runs_at, name_at, text_at, body_at, op_fields_at, op_at, op_from, message_at, message_and_form_at, message_of}

-- name it under `unfolding`
unfoldable pub computing : Unit {0}
unfolding encode is_utf8 chars spot_cmp tuple_cmp op_bytes message_in_form chain_at spot_at inner_at last_at ident_at run_at runs_at name_at text_at body_at op_fields_at op_at op_from message_at message_and_form_at message_of
computing = tt
