-- The format of whole files, and what follows from it.
use Rattle.std.proofs.Common.{◌≡◌, ℕ, ◌<◌, Bool, true, false, List, [], ◌∷◌, ◌++◌, length, Option, Some, None, Ok, refl, sym, ap, subst, ◌∙◌, arith}
use Rattle.std.specs.Prelude.{nat_lt, nat_le, ◌==◌, codes}
use Rattle.std.proofs.lemmas.List.{append-nil}
use Rattle.std.proofs.lemmas.Bool.{and_parts, ltb-true, lt-ltb, leb-true, eqb-true}
use Rattle.rls_ops.specs.Spelling.{four_bytes, eight_bytes}
use Rattle.rls_ops.specs.WellFormed.{IsSmall, IsLarge}
use Rattle.rls_codec.specs.Reading.{Read, ◌>>=◌, is_member_count, whole}
use Rattle.rls_codec.specs.CodecLaws.{IsBytes}
use Rattle.rls_codec.proofs.Formats.{Spells, bind_ok, field, fitting, spelling, seen, ruled, byte, small_count, small_from}
use Rattle.rls_codec.proofs.PartFormats.{small, large}
use Rattle.rls_codec.proofs.MessageFormats.{magic, magic_is, HasMagic, whole_ok}
use Rattle.rls_model.specs.History.{Fresh, group_of, me_of, members_of}
use Rattle.rls_model.specs.History.{count as count_in}
use Rattle.rls_model.specs.Receiving.{State}
use Rattle.rls_model.specs.declared.parts.Parts.{Parts}
use Rattle.rls_parts.specs.Rules.{Broken, broken}
use Rattle.rls_file.specs.Files.{entries_of, Content, Journal, Snapshot, content_bytes, journal_bytes, snapshot_bytes}
use Rattle.rls_file.specs.ReadingFiles.{is_file_form, content_at, file_at, tested, unless_broken, file_of}
use Rattle.rls_file.specs.FileLaws.{IsUnbroken, IsFile}
use Rattle.rls_file.specs.SpelledFiles.{IsHead, IsReadable, FitWaiting, IsSpelledParts, IsSpelledContent}
use Rattle.rls_file.proofs.JournalFormats.{FitsJournal, journal_rest, journal}
use Rattle.rls_file.proofs.SnapshotFormats.{Head, rest_bytes, snapshot}

-- the numbers at the head
abbrev form_of : Content → ℕ
form_of (Journal s) = 1
form_of (Snapshot form p) = form

abbrev group_in : Content → ℕ
group_in (Journal s) = group_of s.history
group_in (Snapshot form p) = p.group

abbrev members_in : Content → ℕ
members_in (Journal s) = members_of s.history
members_in (Snapshot form p) = p.members

abbrev me_in : Content → ℕ
me_in (Journal s) = me_of s.history
me_in (Snapshot form p) = p.me

-- what follows the head
abbrev content_rest : Content → List ℕ
content_rest (Journal s) = journal_rest s
content_rest (Snapshot form p) = rest_bytes form p.members p

abbrev IsHeaded : ℕ → ℕ → ℕ → ℕ → Content → Type 0
IsHeaded form group members me c = (form_of c ≡ form) × (group_in c ≡ group) × (members_in c ≡ members) × (me_in c ≡ me)

-- the rules after the head
abbrev FitRest : Content → Type 0
FitRest (Journal s) = IsSmall (length (entries_of s.history)) × IsReadable s.history × FitWaiting (members_of s.history) (me_of s.history) (count_in s.history) s.waiting
FitRest (Snapshot form p) = ((form == 1) ≡ false) × IsSpelledParts form p.members p

abbrev FitsContent : ℕ → ℕ → ℕ → ℕ → Content → Type 0
FitsContent form group members me c = IsHeaded form group members me c × FitRest c

abbrev no_parts : Parts
no_parts = record { group = 0; members = 0; me = 0; vector = []; rows = []; stems = []; epochs = []; text = []; log = []; held = []; left = [] }

abbrev state_in : Content → State
state_in (Journal s) = s
state_in (Snapshot form p) = record { history = Fresh 0 0 0; waiting = [] }

abbrev parts_in : Content → Parts
parts_in (Journal s) = no_parts
parts_in (Snapshot form p) = p

no_true : false ≡ true → ⊥
no_true e = cc

content : (form group members me : ℕ) (b : Bool) → (form == 1) ≡ b → Spells (content_at form group members me b) content_rest (FitsContent form group members me)
content form group members me true h = spelling content_rest (seen (FitsContent form group members me) Journal state_in (journal group members me) there back) same
  where
    there : (s : State) → FitsJournal group members me s → (s ≡ s) × FitsContent form group members me (Journal s)
    there s f = (refl, ((sym (eqb-true form 1 h), f.1.0, f.1.1, f.1.2), (f.0, f.1.4, subst (λ m. FitWaiting m (me_of s.history) (count_in s.history) s.waiting) (sym f.1.1) (subst (λ a. FitWaiting members a (count_in s.history) s.waiting) (sym f.1.2) f.2))))

    back : (c : Content) → FitsContent form group members me c → (Journal (state_in c) ≡ c) × FitsJournal group members me (state_in c)
    back (Journal s) f = (refl, (f.1.0, (f.0.1, f.0.2, f.0.3, refl, f.1.1), subst (λ m. FitWaiting m me (count_in s.history) s.waiting) f.0.2 (subst (λ a. FitWaiting (members_of s.history) a (count_in s.history) s.waiting) f.0.3 f.1.2)))
    back (Snapshot g p) f = absurd (no_true (sym f.1.0 ∙ ap (λ n. n == 1) f.0.0 ∙ h))

    same : (c : Content) → FitsContent form group members me c → journal_rest (state_in c) ≡ content_rest c
    same (Journal s) f = refl
    same (Snapshot g p) f = absurd (no_true (sym f.1.0 ∙ ap (λ n. n == 1) f.0.0 ∙ h))
content form group members me false h = spelling content_rest (seen (FitsContent form group members me) (Snapshot form) parts_in (snapshot form group members me) there back) same
  where
    there : (p : Parts) → Head group members me p × IsSpelledParts form members p → (p ≡ p) × FitsContent form group members me (Snapshot form p)
    there p f = (refl, ((refl, f.0.0, f.0.1, f.0.2), (h, subst (λ m. IsSpelledParts form m p) (sym f.0.1) f.1)))

    back : (c : Content) → FitsContent form group members me c → (Snapshot form (parts_in c) ≡ c) × (Head group members me (parts_in c) × IsSpelledParts form members (parts_in c))
    back (Journal s) f = absurd (no_true (sym h ∙ ap (λ n. n == 1) (sym f.0.0)))
    back (Snapshot g p) f = (ap (λ k. Snapshot k p) (sym f.0.0), ((f.0.1, f.0.2, f.0.3), subst (λ m. IsSpelledParts form m p) f.0.2 (subst (λ k. IsSpelledParts k p.members p) f.0.0 f.1.1)))

    same : (c : Content) → FitsContent form group members me c → rest_bytes form members (parts_in c) ≡ content_rest c
    same (Journal s) f = absurd (no_true (sym h ∙ ap (λ n. n == 1) (sym f.0.0)))
    same (Snapshot g p) f = ap (λ k. rest_bytes k members p) (sym f.0.0) ∙ ap (λ m. rest_bytes g m p) (sym f.0.2)

form_byte : (n : ℕ) → is_file_form n ≡ true → n < 256
form_byte n e = omega (arith, leb-true n 4 (and_parts (nat_lt 0 n) (nat_le n 4) e).1)

-- what fits, field by field
abbrev Fits : Content → Type 0
Fits c = HasMagic (codes "RLSF") (codes "RLSF") × (((form_of c < 256) × (is_file_form (form_of c) ≡ true)) × (IsLarge (group_in c) × ((IsSmall (members_in c) × (is_member_count (members_in c) ≡ true)) × ((IsSmall (me_in c) × (nat_lt (me_in c) (members_in c) ≡ true)) × FitsContent (form_of c) (group_in c) (members_in c) (me_in c) c))))

pub file : Spells file_at content_bytes IsSpelledContent
unfolding file_at journal_bytes snapshot_bytes
file = spelling content_bytes
    (fitting IsSpelledContent
    (field (λ c. codes "RLSF") (magic (codes "RLSF")) (λ m hm. field form_of (ruled is_file_form byte) (λ form hf. field group_in large (λ group hg. field members_in (ruled is_member_count small) (λ members hc. field me_in (ruled (λ n. nat_lt n members) small) (λ me hm. content form group members me (form == 1) refl)
    (λ me c h f. f.0.3)) (λ members c h f. f.1.0.2)) (λ group c h f. f.1.1.0.1)) (λ form c h f. f.1.1.1.0.0)) (λ m c h f. sym (magic_is (codes "RLSF") m h.1)))
    to from)
    same
  where
    head_of : (c : Content) → Fits c → IsHead (form_of c) (group_in c) (members_in c) (me_in c)
    head_of c f = record { form_fits = f.1.0.1; group_fits = f.1.1.0; members_fit = f.1.1.1.0.1; me_fits = ltb-true (me_in c) (members_in c) f.1.1.1.1.0.1 }

    to : (c : Content) → Fits c → IsSpelledContent c
    to (Journal s) f = record { head = head_of (Journal s) f; entry_count = f.1.1.1.1.1.1.0; entries = f.1.1.1.1.1.1.1; waiting = f.1.1.1.1.1.1.2 }
    to (Snapshot form p) f = record { head = head_of (Snapshot form p) f; later = f.1.1.1.1.1.1.0; parts = f.1.1.1.1.1.1.1 }

    headed : (c : Content) → IsHead (form_of c) (group_in c) (members_in c) (me_in c) → FitRest c → Fits c
    headed c h r = ((refl, refl), ((form_byte (form_of c) h.form_fits, h.form_fits), (h.group_fits, ((small_count (members_in c) h.members_fit, h.members_fit), ((small_from (me_in c) (members_in c) h.members_fit h.me_fits, lt-ltb (me_in c) (members_in c) h.me_fits), ((refl, refl, refl, refl), r))))))

    from : (c : Content) → IsSpelledContent c → Fits c
    from (Journal s) f = headed (Journal s) f.head (f.entry_count, f.entries, f.waiting)
    from (Snapshot form p) f = headed (Snapshot form p) f.head (f.later, f.parts)

    same : (c : Content) → IsSpelledContent c → codes "RLSF" ++ ((form_of c ∷ []) ++ (eight_bytes (group_in c) ++ (four_bytes (members_in c) ++ (four_bytes (me_in c) ++ content_rest c)))) ≡ content_bytes c
    same (Journal s) f = refl
    same (Snapshot form p) f = refl

-- ---- whole files

pub whole_again : {A : Type 0} {r : List ℕ → Read A} {s : A → List ℕ} {F : A → Type 0} → Spells r s F → (x : A) → F x → whole (s x) (r (s x)) ≡ Ok x
whole_again {r = r} {s = s} one x f = ap (whole (s x)) (ap r (sym (append-nil (s x))) ∙ one.again x [] f)

pub whole_takes : {A : Type 0} {r : List ℕ → Read A} {s : A → List ℕ} {F : A → Type 0} → Spells r s F → (bytes : List ℕ) (x : A) → IsBytes bytes → whole bytes (r bytes) ≡ Ok x → (bytes ≡ s x) × F x
whole_takes {r = r} {s = s} one bytes x h e =
    let t = one.takes bytes x [] h (whole_ok bytes x (r bytes) e) in
    (t.0.parts ∙ append-nil (s x), t.1)

-- a content that is spelled is read, and then its rules are tested
pub file_again : (c : Content) → IsSpelledContent c → file_of (content_bytes c) ≡ tested c
unfolding file_of
file_again c f = ap (λ r. r >>= tested) (whole_again file c f)

unbroken_is : (c : Content) → IsUnbroken c → tested c ≡ Ok c
unbroken_is (Journal s) w = refl
unbroken_is (Snapshot form p) w = ap (unless_broken form p) w

unbroken : (form : ℕ) (p : Parts) (b : Option Broken) (c : Content) → unless_broken form p b ≡ Ok c → (Snapshot form p ≡ c) × (b ≡ None)
unbroken form p None c e = (cc, refl)
unbroken form p (Some b) c e = absurd cc

is_unbroken : (c d : Content) → tested c ≡ Ok d → (c ≡ d) × IsUnbroken c
is_unbroken (Journal s) d e = (cc, tt)
is_unbroken (Snapshot form p) d e = unbroken form p (broken p) d e

pub file_reads : (bytes : List ℕ) (c : Content) → IsFile bytes c → file_of bytes ≡ Ok c
file_reads bytes c f = ap file_of f.2 ∙ file_again c f.0 ∙ unbroken_is c f.1

pub file_takes : (bytes : List ℕ) (c : Content) → IsBytes bytes → file_of bytes ≡ Ok c → IsFile bytes c
unfolding file_of
file_takes bytes c h e =
    let b = bind_ok (whole bytes (file_at bytes)) (tested) c e in
    let w = is_unbroken b.0 c b.2 in
    let t = whole_takes file bytes b.0 h b.1 in
    subst (IsFile bytes) w.0 (t.1, w.1, t.0)
