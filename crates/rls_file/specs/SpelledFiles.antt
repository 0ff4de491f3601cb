-- Which contents have a spelling as a file: those that keep the rules of the format.
use Rattle.std.specs.Prelude.{◌≡◌, ◌<◌, ◌-◌, ℕ, zero, suc, Bool, pos, ◌&&◌, List, [], ◌++◌, ◌==◌, length, nat_lt, Option, Some, None, IsTrue, FitsSigned, MatchBool}
use Rattle.std.specs.Int.{w32}
use Rattle.rls_ops.specs.declared.op.Op.{Op}
use Rattle.rls_ops.specs.WellFormed.{IsSmall, IsLarge}
use Rattle.rls_codec.specs.Reading.{is_member_count}
use Rattle.rls_codec.specs.Spelled.{Chained, FitsBehind, FitRuns, FitsName, FitsText, FitsVector, IsSpelled}
use Rattle.rls_model.specs.History.{Entry, Accepted, Acknowledged, History, Fresh, Then, group_of, me_of, members_of}
use Rattle.rls_model.specs.History.{count as count_in}
use Rattle.rls_model.specs.Receiving.{State}
use Rattle.rls_model.specs.declared.parts.Stem.{Stem}
use Rattle.rls_model.specs.declared.parts.EpochPart.{EpochPart}
use Rattle.rls_model.specs.declared.parts.TextRun.{TextRun}
use Rattle.rls_model.specs.declared.parts.Parts.{Parts}
use Rattle.rls_parts.specs.Rules.{may_wait}
use Rattle.rls_file.specs.Files.{entries_of, own_of, others_of, Content, Journal, Snapshot}
use Rattle.rls_file.specs.ReadingFiles.{is_above, run_before, may_be_next, is_new, is_file_form}

-- the numbers at the head of a file
pub record IsHead (form group members me : ℕ) : Type 0 where
  pub form_fits : IsTrue (is_file_form form)
  pub group_fits : IsLarge group
  pub members_fit : IsTrue (is_member_count members)
  pub me_fits : me < members

-- ---- form 1

-- an entry after this history
abbrev pub FitsEntry : History → Entry → Type 0
FitsEntry H (Accepted o) = IsSpelled (members_of H) o × IsTrue (may_be_next H o)
FitsEntry H (Acknowledged from counts) = IsSmall from × (from < members_of H) × FitsVector (members_of H) counts × IsTrue (is_new H (Acknowledged from counts))

-- each entry fits after those before
abbrev pub IsReadable : History → Type 0
IsReadable (Fresh group me members) = Unit {0}
IsReadable (Then H e) = IsReadable H × FitsEntry H e

-- operations that wait one after the other
abbrev pub FitWaiting : ℕ → ℕ → List ℕ → List Op → Type 0
FitWaiting members me vector os = IsSmall (length os) × Chained (λ before o. IsSpelled members o × IsTrue (may_wait members me vector before o)) None os

pub record IsSpelledJournal (s : State) : Type 0 where
  pub head : IsHead 1 (group_of s.history) (members_of s.history) (me_of s.history)
  pub entry_count : IsSmall (length (entries_of s.history))
  pub entries : IsReadable s.history
  pub waiting : FitWaiting (members_of s.history) (me_of s.history) (count_in s.history) s.waiting

-- ---- forms 2 to 4

-- members that have left, each above the one before
abbrev pub FitLefts : ℕ → List ℕ → Type 0
FitLefts members ns = IsSmall (length ns) × Chained (λ before n. IsSmall n × IsTrue (nat_lt n members && is_above before n)) None ns

-- a stem of this author
abbrev pub FitsStem : ℕ → ℕ → Stem → Type 0
FitsStem form author s = (s.author ≡ author) × IsSmall s.s0 × MatchBool (form == 2) (s.low ≡ pos 0) (FitsSigned w32 s.low) × IsSmall s.next

abbrev pub AreOwn : ℕ → ℕ → List Stem → Type 0
AreOwn form a ss = IsSmall (length ss) × Chained (λ before. FitsStem form a) None ss

-- the stems of n members from this one on, by member
abbrev pub Grouped : ℕ → ℕ → ℕ → List Stem → Type 0
Grouped form a zero ss = ss ≡ []
Grouped form a (suc n) ss = AreOwn form a (own_of a ss) × (ss ≡ own_of a ss ++ others_of a ss) × Grouped form (suc a) n (others_of a ss)

-- an epoch after the one before
abbrev pub FitsEpoch : Option EpochPart → EpochPart → Type 0
FitsEpoch None e = FitsName e.name × (e.parent ≡ None) × (e.former ≡ [])
FitsEpoch (Some before) e = FitsName e.name × ((k : ℕ) × (e.parent ≡ Some k) × IsSmall k) × FitRuns e.former

-- a text run after the one before
abbrev pub FitsTextRun : Option TextRun → TextRun → Type 0
FitsTextRun before r = FitsBehind (run_before before) r.run × FitsText r.text × IsTrue (length r.text == r.run.1)

abbrev pub FitOps : ℕ → List Op → Type 0
FitOps members os = IsSmall (length os) × Chained (λ before. IsSpelled members) None os

pub record IsSpelledParts (form members : ℕ) (p : Parts) : Type 0 where
  pub vector : FitsVector members p.vector
  pub rows : (length p.rows ≡ members - 1) × Chained (λ before. FitsVector members) None p.rows
  pub left : MatchBool (form == 4) (FitLefts members p.left) (p.left ≡ [])
  pub stems : Grouped form 0 members p.stems
  pub epoch_count : IsSmall (length p.epochs) × IsTrue (nat_lt 0 (length p.epochs))
  pub epochs : Chained FitsEpoch None p.epochs
  pub text : IsSmall (length p.text) × Chained FitsTextRun None p.text
  pub log : FitOps members p.log
  pub held : FitOps members p.held

pub record IsSpelledSnapshot (form : ℕ) (p : Parts) : Type 0 where
  pub head : IsHead form p.group p.members p.me
  pub later : (form == 1) ≡ Bool.false
  pub parts : IsSpelledParts form p.members p

-- a content that has a spelling
abbrev pub IsSpelledContent : Content → Type 0
IsSpelledContent (Journal s) = IsSpelledJournal s
IsSpelledContent (Snapshot form p) = IsSpelledSnapshot form p
