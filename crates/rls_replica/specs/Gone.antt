-- What is kept of the identifiers that unstable deletions name.
use Rattle.std.specs.Prelude.{IfSome, ◌≡◌, ◌≤◌, ◌⊎◌, ℕ, List, Option, Some, None, length, take, true, false, IsTrue}
use Rattle.rls_ident.specs.declared.tuple.Tuple.{Tuple}
use Rattle.rls_ident.specs.declared.epoch_name.EpochName.{EpochName}
use Rattle.rls_ident.specs.Identifiers.{IsIdent}
use Rattle.rls_ident.specs.Lists.{IsIn}
use Rattle.rls_rename.specs.Tree.{is_kept}
use Rattle.rls_ops.specs.declared.op.Op.{Op}
use Rattle.rls_ops.specs.Rows.{is_covered, missing_for}
use Rattle.rls_log.specs.Heads.{kind_in}
use Rattle.rls_log.specs.declared.head.OpKind.TheVariants.{Delete}
use Rattle.rls_model.specs.Document.{targets_of}
use Rattle.rls_seen.specs.Seen.{Seen, stable_over, translate_over}
use Rattle.rls_runs.specs.Runs.{joined}
use Rattle.rls_replica.specs.declared.gone.Gone.{Gone}
use Rattle.rls_replica.specs.declared.gone.Named.{Named}
use Rattle.rls_replica.specs.Bounds.{IsBounded, edge_of}

-- it is noted that a deletion of the author with this number may name the identifier
abbrev pub IsNoted : Named → ℕ → List Tuple → ℕ → Type 0
IsNoted n a x q = IsIn x (joined n.lists.items) × IfSome n.bounds (λ b. IsBounded b.numbers.entries (edge_of a x) q)

-- so is each identifier of epoch e that an operation names
abbrev pub AreNoted : Seen → EpochName → Named → Op → Type 0
AreNoted s e n d = (t : List Tuple) → IsIn t (targets_of d.body) → IsIdent t × IsNoted n d.author (translate_over s d.epoch e t) d.seq

-- and what the unstable ones of these name
abbrev pub AllNoted : Seen → EpochName → Named → List Op → Type 0
AllNoted s e n os = (d : Op) → IsIn d (missing_for (stable_over s) os) → AreNoted s e n d

-- what is kept is right
pub record IsGone (s : Seen) (g : Gone) : Type 0 where
  pub kept : IsTrue (is_kept s.epochs.top s.epochs.nodes g.epoch)
  pub few : g.noted ≤ length s.log
  pub noted : AllNoted s g.epoch g.named (take g.noted s.log)

-- the operation is stable, or no deletion
abbrev pub NamesNothing : Seen → Op → Type 0
NamesNothing s d = (is_covered (stable_over s) d ≡ true) ⊎ (kind_in d.body ≡ Delete → ⊥)

-- the identifiers that one operation names, if it is an unstable deletion
abbrev pub AreNamed : Seen → EpochName → Op → Option (List (List Tuple)) → Type 0
AreNamed s e d None = (t : List Tuple) → is_covered (stable_over s) d ≡ false → IsIn t (targets_of d.body) → ⊥
AreNamed s e d (Some ids) = (t : List Tuple) → IsIn t (targets_of d.body) → IsIdent t × IsIn (translate_over s d.epoch e t) ids
