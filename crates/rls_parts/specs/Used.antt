-- Which offsets of a stem were used, and which identifiers of a renaming.
use Rattle.std.specs.Prelude.{ℕ, ℤ, pos, ◌+ℤ◌, Bool, false, ◌&&◌, List, length, Option, Some, None}
use Rattle.std.specs.Int.RustNames.{int_le}
use Rattle.std.specs.List.{list_all}
use Rattle.rls_ident.specs.declared.epoch_name.EpochName.{EpochName}
use Rattle.rls_ident.specs.declared.epoch_name.EpochName.TheVariants.{Origin, Of}
use Rattle.rls_ident.specs.Identifiers.{last_of}
use Rattle.rls_model.specs.declared.parts.EpochPart.{EpochPart}
use Rattle.rls_model.specs.declared.parts.Parts.{Parts}
use Rattle.rls_model.specs.declared.parts.Stem.{Stem}
use Rattle.rls_model.specs.Stems.{stem_of}
use Rattle.rls_parts.specs.Rules.{is_used_tuple}

-- n offsets from k on were used
abbrev pub covers : Option Stem → ℤ → ℕ → Bool
covers None k n = false
covers (Some t) k n = int_le t.low k && int_le (k +ℤ pos n) (pos t.next)

-- the first n offsets of the stem of the epoch's rename were used
abbrev pub covers_new : List Stem → EpochName → ℕ → Bool
covers_new ss Origin n = false
covers_new ss (Of r s) n = covers (stem_of ss r s) (pos 0) n

-- the last tuple of each former and of each new identifier of the epoch's renaming was used
abbrev pub is_used_renaming : Parts → EpochPart → Bool
is_used_renaming p e = covers_new p.stems e.name (length e.former) && list_all (λ x. is_used_tuple p (last_of x)) e.former
