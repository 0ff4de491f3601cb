-- How the targets of a deletion are looked up.
use Rattle.std.specs.Prelude.{◌≡◌, ℕ, ◌+◌, ◌<◌, ◌≤◌, Bool, IsTrue, List, Option, Some, None, length, map, drop, slice_get}
use Rattle.std.specs.List.{list_any}
use Rattle.rls_ident.specs.declared.tuple.Tuple.{Tuple}
use Rattle.rls_ident.specs.declared.epoch_name.EpochName.{EpochName}
use Rattle.rls_ident.specs.Identifiers.{ident_eq}
use Rattle.rls_rename.specs.Tree.{is_kept}
use Rattle.rls_ops.specs.declared.op.Op.{Op}
use Rattle.rls_ops.specs.Rows.{missing_for}
use Rattle.rls_model.specs.Answers.{Reason, UnknownTarget}
use Rattle.rls_model.specs.Document.{targets_of}
use Rattle.rls_seen.specs.Seen.{Seen, greatest_over, stable_over, translate_over}
use Rattle.rls_seen.specs.Over.{first_unknown_over}
use Rattle.rls_replica.specs.declared.naming.Targets.{Targets}

-- the target of epoch e is one of the operation's
abbrev pub is_named_by : Seen → EpochName → List Tuple → Op → Bool
is_named_by s e x d = list_any (λ t. ident_eq (translate_over s d.epoch e t) x) (targets_of d.body)

-- it is a target of one of these that is unstable
abbrev pub is_named_over : Seen → EpochName → List Tuple → List Op → Bool
is_named_over s e x os = list_any (is_named_by s e x) (missing_for (stable_over s) os)

-- the reason for a target that isn't known
abbrev pub unknown_in : Option (List Tuple) → Option Reason
unknown_in None = None
unknown_in (Some x) = Some (UnknownTarget x)

-- ---- targets from a place on

-- there are some, of an epoch that is kept, with their images in the greatest one
pub record AreTargets (s : Seen) (z : Targets) : Type 0 where
  pub kept : IsTrue (is_kept s.epochs.top s.epochs.nodes z.epoch)
  pub place : z.at < length z.ids.now
  pub images : z.images.now ≡ map (translate_over s z.epoch (greatest_over s)) z.ids.now

-- the first n of them are known
pub record AreKnown (s : Seen) (z : Targets) (n : ℕ) : Type 0 where
  pub within : z.at + n ≤ length z.ids.now
  pub known : first_unknown_over s z.epoch (drop (z.at + n) z.ids.now) ≡ first_unknown_over s z.epoch (drop z.at z.ids.now)

-- the first of them isn't known
abbrev pub IsUnknown : Seen → Targets → Type 0
IsUnknown s z = (x : List Tuple) → slice_get z.ids.now z.at ≡ Some x → first_unknown_over s z.epoch (drop z.at z.ids.now) ≡ Some (UnknownTarget x)
