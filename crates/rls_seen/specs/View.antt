-- What rules look at, of a replica.
-- Why: docs/DECISIONS.md, 110.
use Rattle.std.specs.Prelude.{length, sum_by}
use Rattle.rls_rename.specs.Connected.{spanned_renamings}
use Rattle.rls_ops.specs.Rows.{row_of, left}
use Rattle.rls_model.specs.View.{Plain, View}
use Rattle.rls_seen.specs.Known.{is_known_over, needed_over, retained_over}
use Rattle.rls_seen.specs.Seen.{Seen, vector, members, unstable_over, greatest_over, due_over, idents_over}

-- of what a replica consists of
abbrev pub plain : Seen → Plain
plain s = record {
  group = s.group;
  me = s.acks.me;
  members = members s;
  vector = vector s;
  has_left = left s.acks s.acks.me;
  stems = s.stems;
  greatest = greatest_over s;
  idents = idents_over s;
  unstable = unstable_over s;
  retained = retained_over s;
  former = sum_by (λ R. length R.former) (spanned_renamings s.epochs.nodes (greatest_over s) (needed_over s));
}

abbrev pub view : Seen → View
view s = record { plain = plain s; row = row_of s.acks; has_left = left s.acks; due = due_over s; is_known = is_known_over s }
