-- What testing a rule answers that makes something on the way.
use Rattle.std.specs.Prelude.{◌≡◌, ℕ, ◌+◌, Bool, true, false, not, ◌&&◌, ◌||◌, ◌==◌, nat_lt, slice_index, List, [], Result, Ok, Err, None, Some}
use Rattle.rls_ident.specs.Vectors.{at_most}
use Rattle.rls_log.specs.declared.head.OpHead.{OpHead}
use Rattle.rls_log.specs.declared.head.OpKind.{OpKind}
use Rattle.rls_log.specs.declared.head.OpKind.TheVariants.{Insert, Delete, Rename, Leave}
use Rattle.rls_epoch.specs.Seen.{EpochsSeen}
use Rattle.rls_model.specs.declared.parts.Parts.{Parts}
use Rattle.rls_parts.specs.Reading.{epochs_of, has_member, stable_of_parts}
use Rattle.rls_parts.specs.Rules.{epoch_fault, is_kept_name, log_fault, ends_at_vector}

abbrev pub is_leaving : OpKind → Bool
is_leaving Insert = false
is_leaving Delete = false
is_leaving Rename = false
is_leaving Leave = true

-- the epochs of parts that keep rule 3, or the place of the first entry that breaks it
abbrev pub AreTested : Parts → Result EpochsSeen ℕ → Type 0
AreTested p (Ok e) = (epoch_fault p [] p.epochs ≡ None) × (e.epochs ≡ epochs_of p)
AreTested p (Err i) = epoch_fault p [] p.epochs ≡ Some i

-- rule 5 of one operation, by its head
abbrev pub is_head_last : Parts → OpHead → Bool
is_head_last p h = not (is_leaving h.kind) || (has_member p.left h.author && (h.seq == slice_index p.vector h.author))

-- and its context
abbrev pub is_head_next : Parts → List ℕ → OpHead → List ℕ → Bool
is_head_next p v h context =
    nat_lt h.author p.members && (h.members == p.members) && h.is_shaped && (h.seq == slice_index v h.author + 1) && at_most context v && is_kept_name p h.epoch && is_head_last p h

-- whether the unstable operations, which keep rule 5, lead to the vector, or the place of the first that breaks it
abbrev pub IsLogTested : Parts → Result Bool ℕ → Type 0
IsLogTested p (Ok ends) = (log_fault p (stable_of_parts p) 0 p.log ≡ None) × (ends ≡ ends_at_vector p)
IsLogTested p (Err i) = log_fault p (stable_of_parts p) 0 p.log ≡ Some i
