-- Whole files, loaded.
use Rattle.std.proofs.Common.{◌≡◌, ℕ, ◌-◌, ◌<◌, ◌≤◌, ◌^◌, Bool, List, [], ◌∷◌, length, min, Some, None, Result, Ok, Err, refl, sym, ap, ◌∙◌, subst, arith, ◌⊎◌, inl, inr}
use Rattle.std.specs.Prelude.{nat_lt, IfOk, IsOkAnd}
use Rattle.std.specs.Int.{w32, w64}
use Rattle.rls_ident.proofs.Members.{neq_test}
use Rattle.rls_codec.specs.declared.fault.ReadError.{ReadError}
use Rattle.rls_codec.specs.declared.fault.ReadError.TheVariants.{Fault}
use Rattle.rls_codec.specs.declared.fault.ReadError.TheVariants as read
use Rattle.rls_codec.specs.CodecLaws.{IsBytes}
use Rattle.rls_codec.specs.Gives.{Fails}
use Rattle.rls_codec.specs.Reading.{Read, ◌>>=◌, with_rule, number_at, is_member_count, whole}
use Rattle.rls_model.specs.declared.parts.Parts.{Parts}
use Rattle.rls_model.specs.Legal.{IsLegal}
use Rattle.rls_model.specs.Parts.{parts}
use Rattle.rls_model.specs.Receiving.{State}
use Rattle.rls_seen.specs.Kept.{dropped}
use Rattle.rls_seen.specs.Seen.{Seen}
use Rattle.rls_seen.specs.Stands.{StandsFor}
use Rattle.rls_seen.proofs.Keeping.{dropped_stands}
use Rattle.rls_parts.specs.Given.{AreGiven}
use Rattle.rls_parts.specs.Restored.{seen_of}
use Rattle.rls_parts.specs.Rules.{broken}
use Rattle.rls_fields.specs.Fields.{place_of_broken, snapshot_bytes}
use Rattle.rls_file.specs.Files.{Content, Journal, Snapshot}
use Rattle.rls_file.specs.Journals.{IsReplayOf}
use Rattle.rls_file.specs.ReadingJournals.{after_form_at}
use Rattle.rls_file.specs.ReadingFiles.{content_at, form_at, file_at, tested, unless_broken, file_of}
use Rattle.rls_file.specs.SpelledFiles.{IsSpelledSnapshot}
use Rattle.rls_file.specs.FileLaws.{IsFile}
use Rattle.rls_file.proofs.FileFormats.{file, file_reads, file_takes, whole_takes}
use Rattle.rls_file.proofs.GivenParts.{parts_are_given}
use Rattle.rls_file.proofs.WholeFiles.{after_form, file_is, fault_of}
use Rattle.rls_file.specs.declared.loading.FileError.{FileError}
use Rattle.rls_file.specs.declared.loading.FileError.TheVariants.{Damaged, OutOfMemory}
use Rattle.rls_file.specs.Loading.{snapshot_behind, damage_of, ReadsParts, IsLoaded, StandsFrom, Loads, LoadsBytes, FileStandsFor, seen_in}
use Rattle.rls_file.specs.Kept.{LoadedIsWritable}
use Rattle.rls_file.specs.Stored.{AreWritable}
use Rattle.rls_file.proofs.Bounded.{whole_length, place_within}
use Rattle.rls_file.proofs.Files.{journal_opens}
use Rattle.rls_file.proofs.Snapshots.{snapshot_sane, snapshot_writable}

-- ---- behind the form

-- what follows the form, where it is known whether that is a journal's
abbrev behind_with : ℕ → Bool → List ℕ → Read Content
behind_with form b bytes =
    number_at w64 bytes >>= λ group. with_rule is_member_count (number_at w32) group.1 >>= λ members. with_rule (λ n. nat_lt n members.0) (number_at w32) members.1 >>= λ me. content_at form group.0 members.0 me.0 b me.1

pub snapshot_is : (bytes rest : List ℕ) (form : ℕ) → form_at bytes ≡ Ok (form, rest) → 1 < form → file_at bytes ≡ snapshot_behind form rest
unfolding snapshot_behind
snapshot_is bytes rest form h lt =
    file_is bytes ∙ ap (λ r. r >>= λ f. after_form f.0 f.1) h ∙ ap (λ b. behind_with form b rest) (neq_test form 1 (λ e. omega (arith, e, lt)))

-- ---- faults

pub head_fails : (e : ReadError) (bytes : List ℕ) → Fails e (form_at bytes) → Loads (Err (damage_of (length bytes) e)) bytes
head_fails read.OutOfMemory bytes h = tt
head_fails (Fault left) bytes h = fault_of bytes left (file_is bytes ∙ ap (λ r. r >>= λ f. after_form f.0 f.1) h)

pub parts_fail : (e : ReadError) (bytes rest : List ℕ) (form : ℕ) → form_at bytes ≡ Ok (form, rest) → 1 < form → Fails e (snapshot_behind form rest) → ReadsParts form (Err (damage_of (length bytes) e)) bytes
parts_fail read.OutOfMemory bytes rest form h lt f = tt
parts_fail (Fault left) bytes rest form h lt f = ap (whole bytes) (snapshot_is bytes rest form h lt ∙ f)

pub parts_surplus : (bytes rest after : List ℕ) (form : ℕ) (p : Parts) → form_at bytes ≡ Ok (form, rest) → 1 < form → snapshot_behind form rest ≡ Ok (Snapshot form p, after) → 0 < length after
    → whole bytes (file_at bytes) ≡ Err (length bytes - length after)
parts_surplus bytes rest [] form p h lt r some = absurd (omega (arith, some))
parts_surplus bytes rest (b ∷ more) form p h lt r some = ap (whole bytes) (snapshot_is bytes rest form h lt ∙ r)

pub parts_done : (bytes rest after : List ℕ) (form : ℕ) (p : Parts) → form_at bytes ≡ Ok (form, rest) → 1 < form → snapshot_behind form rest ≡ Ok (Snapshot form p, after) → length after ≤ 0 → whole bytes (file_at bytes) ≡ Ok (Snapshot form p)
parts_done bytes rest [] form p h lt r none = ap (whole bytes) (snapshot_is bytes rest form h lt ∙ r)
parts_done bytes rest (b ∷ more) form p h lt r none = absurd (omega (arith, none))

-- ---- parts that were read

abbrev said : ℕ → Parts → Result Content ℕ
said form p = Ok (Snapshot form p)

same_parts : (form : ℕ) (p q : Parts) → said form p ≡ said form q → p ≡ q
same_parts form p q e = cc

not_both : {A : Type 0} (r : Result A ℕ) (x : A) (e : ℕ) → r ≡ Ok x → r ≡ Err e → ⊥
not_both r x e h k = let c = sym h ∙ k in cc

spelled : (bytes : List ℕ) (form : ℕ) (p : Parts) → IsBytes bytes → whole bytes (file_at bytes) ≡ Ok (Snapshot form p) → (bytes ≡ snapshot_bytes form p) × IsSpelledSnapshot form p
spelled bytes form p h e = whole_takes file bytes (Snapshot form p) h e

pub given : (bytes : List ℕ) (form : ℕ) (p : Parts) → IsBytes bytes → whole bytes (file_at bytes) ≡ Ok (Snapshot form p) → AreGiven p
given bytes form p h e = parts_are_given form p (spelled bytes form p h e).1

pub parts_loaded : (bytes : List ℕ) (form : ℕ) (p : Parts) (r : Seen) → whole bytes (file_at bytes) ≡ Ok (Snapshot form p) → broken p ≡ None → r ≡ seen_of p → ((t : State) → IsLegal t.history → parts t ≡ p → StandsFor r t) → Loads (Ok r) bytes
unfolding file_of
parts_loaded bytes form p r e none is stands = (Snapshot form p, ap (λ x. x >>= tested) e ∙ ap (unless_broken form p) none, (is, stands))

pub fault_loads : (form : ℕ) (e : FileError) (bytes : List ℕ) → ReadsParts form (Err e) bytes → Loads (Err e) bytes
unfolding file_of
fault_loads form (Damaged at) bytes h = ap (λ x. x >>= tested) h
fault_loads form OutOfMemory bytes h = tt

-- the place of a broken rule is what the file answers
pub broken_loads : (bytes : List ℕ) (form rule index r i at : ℕ) (p : Parts) → IsBytes bytes → length bytes < 2 ^ 64 → whole bytes (file_at bytes) ≡ Ok (Snapshot form p) → broken p ≡ Some (record { rule = rule; index = index })
    → r ≡ rule → i ≡ index → at ≡ min (place_of_broken form p (record { rule = r; index = i })) (2 ^ 64 - 1) → Loads (Err (Damaged at)) bytes
unfolding file_of
broken_loads bytes form rule index r i at p b l h broke same also place =
    let s = spelled bytes form p b h in
    let within = place_within form p s.1.parts.stems rule index in
    let all = ap length s.0 ∙ whole_length form p s.1.parts.stems in
    let there : place_of_broken form p (record { rule = r; index = i }) ≡ place_of_broken form p (record { rule = rule; index = index }) =
    ap (λ n. place_of_broken form p (record { rule = n; index = i })) same ∙ ap (λ n. place_of_broken form p (record { rule = rule; index = n })) also in
    let is : place_of_broken form p (record { rule = rule; index = index }) ≡ at = omega (arith, place, there, within, all, l) in
    ap (λ x. x >>= tested) h ∙ ap (unless_broken form p) broke ∙ ap (λ n. Err n) is

-- ---- journals

pub journal_fails : (e : ReadError) (bytes rest : List ℕ) → file_at bytes ≡ after_form_at rest → Fails e (after_form_at rest) → Loads (Err (damage_of (length bytes) e)) bytes
journal_fails read.OutOfMemory bytes rest h f = tt
journal_fails (Fault left) bytes rest h f = fault_of bytes left (h ∙ f)

pub journal_surplus : (bytes rest after : List ℕ) (t : State) → file_at bytes ≡ after_form_at rest → after_form_at rest ≡ Ok (Journal t, after) → 0 < length after → file_of bytes ≡ Err (length bytes - length after)
unfolding file_of
journal_surplus bytes rest [] t h r some = absurd (omega (arith, some))
journal_surplus bytes rest (b ∷ more) t h r some = ap (λ x. whole bytes x >>= tested) (h ∙ r)

journal_is : (bytes rest after : List ℕ) (t : State) → file_at bytes ≡ after_form_at rest → after_form_at rest ≡ Ok (Journal t, after) → length after ≤ 0 → file_of bytes ≡ Ok (Journal t)
unfolding file_of
journal_is bytes rest [] t h r none = ap (λ x. whole bytes x >>= tested) (h ∙ r)
journal_is bytes rest (b ∷ more) t h r none = absurd (omega (arith, none))

-- a journal's replica, after it has dropped what is stable
pub journal_loaded : (bytes rest after : List ℕ) (t : State) (s r : Seen) → file_at bytes ≡ after_form_at rest → after_form_at rest ≡ Ok (Journal t, after) → length after ≤ 0 → IsReplayOf t s → r ≡ dropped s → Loads (Ok r) bytes
journal_loaded bytes rest after t s r h read none replay is =
    (Journal t, journal_is bytes rest after t h read none, (is ∙ ap dropped replay.is, subst (λ (x : Seen). StandsFor x t) (sym is) (dropped_stands s t replay.stands)))

-- ---- clauses

loads_ok : (r : Result Seen FileError) (bytes : List ℕ) → Loads r bytes → IfOk r (λ s. (c : Content) × (file_of bytes ≡ Ok c) × (s ≡ seen_in c))
loads_ok (Ok s) bytes h = (h.0, h.1, h.2.0)
loads_ok (Err e) bytes h = tt

loads_damaged : (r : Result Seen FileError) (bytes : List ℕ) → Loads r bytes → (at : ℕ) → r ≡ Err (Damaged at) → file_of bytes ≡ Err at
loads_damaged r bytes h at e = subst (λ x. Loads x bytes) e h

abbrev content_ok : Content → Result Content ℕ
content_ok c = Ok c

same_content : (c d : Content) → content_ok c ≡ content_ok d → c ≡ d
same_content c d e = cc

loads_found : (r : Result Seen FileError) (bytes : List ℕ) → Loads r bytes → (c : Content) → file_of bytes ≡ Ok c → IsOkAnd r (λ s. s ≡ seen_in c) ⊎ (r ≡ Err OutOfMemory)
loads_found (Ok s) bytes h c e = inl (h.2.0 ∙ ap seen_in (same_content h.0 c (sym h.1 ∙ e)))
loads_found (Err (Damaged at)) bytes h c e = absurd (not_both (file_of bytes) c at e h)
loads_found (Err OutOfMemory) bytes h c e = inr refl

-- in the words of files
loads_file : (r : Result Seen FileError) (bytes : List ℕ) → IsBytes bytes → Loads r bytes → IfOk r (λ s. (c : Content) × IsFile bytes c × (s ≡ seen_in c))
loads_file (Ok s) bytes b h = (h.0, file_takes bytes h.0 b h.1, h.2.0)
loads_file (Err e) bytes b h = tt

loads_every : (r : Result Seen FileError) (bytes : List ℕ) → Loads r bytes → (c : Content) → IsFile bytes c → IsOkAnd r (λ s. s ≡ seen_in c) ⊎ (r ≡ Err OutOfMemory)
loads_every r bytes h c f = loads_found r bytes h c (file_reads bytes c f)

loaded_stands : (s : Seen) (c : Content) (bytes : List ℕ) (t : State) → file_of bytes ≡ Ok c → IsLoaded s c → FileStandsFor bytes t → StandsFor s t
loaded_stands s c bytes t e l (inl f) = subst (StandsFrom s) (same_content c (Journal t) (sym e ∙ f)) l.1
loaded_stands s c bytes t e l (inr f) = subst (StandsFrom s) (same_content c (Snapshot f.1.0 (parts t)) (sym e ∙ f.1.1)) l.1 t f.0 refl

loads_stands : (r : Result Seen FileError) (bytes : List ℕ) → Loads r bytes → IfOk r (λ s. (t : State) → FileStandsFor bytes t → StandsFor s t)
loads_stands (Ok s) bytes h = λ t f. loaded_stands s h.0 bytes t h.1 h.2 f
loads_stands (Err e) bytes h = tt

-- what a file says is sane and may be written
pub loaded_writable : LoadedIsWritable
loaded_writable bytes (Journal t) f = (let opened = journal_opens t f.0 in (opened.sane, opened.writable))
loaded_writable bytes (Snapshot form p) f = (snapshot_sane form p f.0 f.1, snapshot_writable form p f.0 f.1)

loads_writable : (r : Result Seen FileError) (bytes : List ℕ) → IsBytes bytes → Loads r bytes → IfOk r AreWritable
loads_writable (Ok s) bytes b h = subst AreWritable (sym h.2.0) (loaded_writable bytes h.0 (file_takes bytes h.0 b h.1)).1
loads_writable (Err e) bytes b h = tt

-- what the bytes say is what loading them answers
pub loads_bytes : (r : Result Seen FileError) (bytes : List ℕ) → IsBytes bytes → Loads r bytes → LoadsBytes r bytes
loads_bytes r bytes b h = record {
  ok = loads_ok r bytes h;
  damaged = loads_damaged r bytes h;
  found = loads_found r bytes h;
  file = loads_file r bytes b h;
  every_file = loads_every r bytes h;
  writable = loads_writable r bytes b h;
  stands = loads_stands r bytes h;
}
