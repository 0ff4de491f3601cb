-- Where a cursor stands that comes from another replica.
-- Why: docs/DECISIONS.md, 151.
use Rattle.std.specs.Prelude.{ℕ, Bool, true, List, Option, Some, None, if◌then◌else◌}
use Rattle.std.specs.List.{list_any}
use Rattle.rls_ident.specs.declared.epoch_name.EpochName.{EpochName}
use Rattle.rls_ident.specs.EpochNames.{name_eq}
use Rattle.rls_model.specs.History.{History}
use Rattle.rls_model.specs.Retained.{retained}
use Rattle.rls_seen.specs.Kept.{retained_over}
use Rattle.rls_seen.specs.Seen.{Seen}
use Rattle.rls_anchor.specs.declared.anchor.Anchor.{Anchor}
use Rattle.rls_anchor.specs.declared.anchor.Anchor.TheVariants.{Beginning, After, Before}
use Rattle.rls_anchor.specs.Anchors.{place, place_over}

-- the epoch is one of these
abbrev pub has_epoch : List EpochName → EpochName → Bool
has_epoch es e = list_any (name_eq e) es

-- the anchor's epoch is one of these; the beginning is in each
abbrev pub is_in_one_of : List EpochName → Anchor → Bool
is_in_one_of es Beginning = true
is_in_one_of es (After e x) = has_epoch es e
is_in_one_of es (Before e x) = has_epoch es e

-- the place, over a history, of an anchor whose epoch is retained. It needn't be one that was made here, nor need its character have come
unfoldable pub located : History → Anchor → Option ℕ
located H a = if is_in_one_of (retained H) a then Some (place H a) else None

-- and over what a replica consists of, whether or not what needn't be retained was dropped
unfoldable pub located_over : Seen → Anchor → Option ℕ
located_over s a = if is_in_one_of (retained_over s) a then Some (place_over s a) else None
