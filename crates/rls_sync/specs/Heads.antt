-- What stands in a message before its operations.
use Rattle.std.specs.Prelude.{ℕ, List}
use Rattle.rls_ops.specs.Spelling.{message_form, message_head}
use Rattle.rls_seen.specs.Seen.{Seen, members, vector}

-- in that of a replica
abbrev pub start_of : Seen → List ℕ
start_of s = message_head message_form s.group (members s) s.acks.me (vector s)
