-- The formats of entries and of a journal after its head.
use Rattle.std.proofs.Common.{◌≡◌, ℕ, zero, suc, ◌<◌, true, List, [], ◌∷◌, ◌++◌, length, Ok, refl, sym, ap, subst, ◌∙◌, append_assoc, arith, lit<}
use Rattle.std.specs.Prelude.{nat_lt, nat_le, IsTrue}
use Rattle.std.specs.List.{concat, flat_map}
use Rattle.std.proofs.lemmas.List.{append-nil}
use Rattle.std.proofs.lemmas.Bool.{ltb-true, lt-ltb, leb-true}
use Rattle.rls_ops.specs.declared.op.Op.{Op}
use Rattle.rls_ops.specs.declared.op.Body.TheVariants.{Leave}
use Rattle.rls_ident.specs.declared.epoch_name.EpochName.TheVariants.{Origin}
use Rattle.rls_ops.specs.Spelling.{four_bytes, vector_bytes, op_bytes, counted}
use Rattle.rls_ops.specs.WellFormed.{IsSmall}
use Rattle.rls_codec.specs.Reading.{Read, ◌>>=◌, with_rule, counted_at, op_at}
use Rattle.rls_codec.specs.Spelled.{FitsVector, IsSpelled}
use Rattle.rls_codec.specs.CodecLaws.{IsBytes}
use Rattle.rls_codec.proofs.Formats.{Takes, Spells, bind_ok, ok_is, done, field, fitting, spelling, seen, ruled, byte, counted_parts}
use Rattle.rls_codec.proofs.PartFormats.{small, vector}
use Rattle.rls_codec.proofs.MessageFormats.{op}
use Rattle.rls_model.specs.History.{Entry, Accepted, Acknowledged, History, Fresh, Then, group_of, me_of, members_of}
use Rattle.rls_model.specs.History.{count as count_in}
use Rattle.rls_model.specs.Receiving.{State}
use Rattle.rls_parts.specs.Rules.{may_wait}
use Rattle.rls_file.specs.Files.{entry_bytes, entries_of}
use Rattle.rls_file.specs.ReadingFiles.{steps_at, may_be_next, is_new, entry_of_kind, any_entry_at, entry_at, journal_at}
use Rattle.rls_file.specs.SpelledFiles.{FitsEntry, IsReadable, FitWaiting}

-- ---- entries

abbrev entry_kind : Entry → ℕ
entry_kind (Accepted o) = 0
entry_kind (Acknowledged from counts) = 1

abbrev behind_kind : Entry → List ℕ
behind_kind (Accepted o) = op_bytes o
behind_kind (Acknowledged from counts) = concat (four_bytes from ∷ vector_bytes counts ∷ [])

abbrev no_op : Op
no_op = record { author = 0; seq = 0; context = []; epoch = Origin; body = Leave }

abbrev op_in : Entry → Op
op_in (Accepted o) = o
op_in (Acknowledged from counts) = no_op

abbrev from_in : Entry → ℕ
from_in (Accepted o) = 0
from_in (Acknowledged from counts) = from

abbrev counts_in : Entry → List ℕ
counts_in (Accepted o) = []
counts_in (Acknowledged from counts) = counts

-- what fits but for the rule of an acknowledgement
abbrev FitsAnyEntry : History → Entry → Type 0
FitsAnyEntry H (Accepted o) = IsSpelled (members_of H) o × IsTrue (may_be_next H o)
FitsAnyEntry H (Acknowledged from counts) = IsSmall from × (from < members_of H) × FitsVector (members_of H) counts

abbrev OfKind : History → ℕ → Entry → Type 0
OfKind H k e = (entry_kind e ≡ k) × FitsAnyEntry H e

entry_kinds : (H : History) (k : ℕ) → nat_le k 1 ≡ true → Spells (entry_of_kind H k) behind_kind (OfKind H k)
entry_kinds H zero h = spelling behind_kind (seen (OfKind H 0) Accepted op_in (ruled (may_be_next H) (op (members_of H))) (λ o f. (refl, (refl, f))) back) same
  where
    back : (e : Entry) → OfKind H 0 e → (Accepted (op_in e) ≡ e) × (IsSpelled (members_of H) (op_in e) × (may_be_next H (op_in e) ≡ true))
    back (Accepted o) f = (refl, f.1)
    back (Acknowledged from counts) f = absurd (omega (arith, f.0))

    same : (e : Entry) → OfKind H 0 e → op_bytes (op_in e) ≡ behind_kind e
    same (Accepted o) f = refl
    same (Acknowledged from counts) f = absurd (omega (arith, f.0))
entry_kinds H (suc zero) h = spelling behind_kind
    (fitting (OfKind H 1)
    (field from_in (ruled (λ n. nat_lt n (members_of H)) small) (λ from h0. field counts_in (vector (members_of H)) (λ counts h1. done (Acknowledged from counts))
    (λ counts e h f. ap counts_in f)) (λ from e h f. ap from_in f.1))
    to back) same
  where
    to : (e : Entry) → (IsSmall (from_in e) × (nat_lt (from_in e) (members_of H) ≡ true)) × (FitsVector (members_of H) (counts_in e) × (e ≡ Acknowledged (from_in e) (counts_in e))) → OfKind H 1 e
    to (Accepted o) f = absurd cc
    to (Acknowledged from counts) f = (refl, (f.0.0, ltb-true from (members_of H) f.0.1, f.1.0))

    back : (e : Entry) → OfKind H 1 e → (IsSmall (from_in e) × (nat_lt (from_in e) (members_of H) ≡ true)) × (FitsVector (members_of H) (counts_in e) × (e ≡ Acknowledged (from_in e) (counts_in e)))
    back (Accepted o) f = absurd (omega (arith, f.0))
    back (Acknowledged from counts) f = ((f.1.0, lt-ltb from (members_of H) f.1.1), (f.1.2, refl))

    same : (e : Entry) → OfKind H 1 e → four_bytes (from_in e) ++ (vector_bytes (counts_in e) ++ []) ≡ behind_kind e
    same (Accepted o) f = absurd (omega (arith, f.0))
    same (Acknowledged from counts) f = refl
entry_kinds H (suc (suc k)) h = absurd (omega (arith, leb-true (suc (suc k)) 1 h))

any_entry : (H : History) → Spells (any_entry_at H) entry_bytes (FitsAnyEntry H)
any_entry H = spelling entry_bytes (fitting (FitsAnyEntry H) (field entry_kind (ruled (λ k. nat_le k 1) byte) (λ k h. entry_kinds H k h.1) (λ k e h f. f.0)) (λ e f. f.1.1) from) same
  where
    from : (e : Entry) → FitsAnyEntry H e → ((entry_kind e < 256) × (nat_le (entry_kind e) 1 ≡ true)) × ((entry_kind e ≡ entry_kind e) × FitsAnyEntry H e)
    from (Accepted o) f = ((lit< tt, refl), (refl, f))
    from (Acknowledged a v) f = ((lit< tt, refl), (refl, f))

    same : (e : Entry) → FitsAnyEntry H e → (entry_kind e ∷ []) ++ behind_kind e ≡ entry_bytes e
    same (Accepted o) f = refl
    same (Acknowledged a v) f = refl

-- an entry after this history
pub entry : (H : History) → Spells (entry_at H) entry_bytes (FitsEntry H)
unfolding entry_at
entry H = fitting (FitsEntry H) (ruled (is_new H) (any_entry H)) to from
  where
    to : (e : Entry) → FitsAnyEntry H e × (is_new H e ≡ true) → FitsEntry H e
    to (Accepted o) f = f.0
    to (Acknowledged a v) f = (f.0.0, f.0.1, f.0.2, f.1)

    from : (e : Entry) → FitsEntry H e → FitsAnyEntry H e × (is_new H e ≡ true)
    from (Accepted o) f = (f, refl)
    from (Acknowledged a v) f = ((f.0, f.1, f.2), f.3)

-- ---- parts that are read in a state

-- the state after these
abbrev pub behind : {S A : Type 0} → (S → A → S) → S → List A → S
behind next state [] = state
behind next state (x ∷ xs) = behind next (next state x) xs

-- each part fits in its state
abbrev pub Steps : {S A : Type 0} → (S → A → Type 0) → (S → A → S) → S → List A → Type 0
Steps F next state [] = Unit {0}
Steps F next state (x ∷ xs) = F state x × Steps F next (next state x) xs

pub record Stepped {S A : Type 0} (spell : A → List ℕ) (F : S → A → Type 0) (next : S → A → S) (state : S) (n : ℕ) (bytes : List ℕ) (last : S) (rest : List ℕ) : Type 0 where
  pub parts : List A
  pub count : length parts ≡ n
  pub fit : Steps F next state parts
  pub end : last ≡ behind next state parts
  pub taken : Takes bytes (flat_map spell parts) rest

module _ {S A : Type 0} (part : S → List ℕ → Read A) (next : S → A → S) (spell : A → List ℕ) (F : S → A → Type 0) (one : (state : S) → Spells (part state) spell (F state)) where
  pub steps_again : (state : S) (xs : List A) (rest : List ℕ) → Steps F next state xs → steps_at part next state (length xs) (flat_map spell xs ++ rest) ≡ Ok (behind next state xs, rest)
  unfolding steps_at
  steps_again state [] rest fits = refl
  steps_again state (x ∷ xs) rest fits =
      ap (steps_at part next state (suc (length xs))) (append_assoc (spell x) (flat_map spell xs) rest)
      ∙ ap (λ r. r >>= λ first. steps_at part next (next state first.0) (length xs) first.1) ((one state).again x (flat_map spell xs ++ rest) fits.0)
      ∙ steps_again (next state x) xs rest fits.1

  pub steps_take : (state : S) (n : ℕ) (bytes : List ℕ) (last : S) (rest : List ℕ) → IsBytes bytes → steps_at part next state n bytes ≡ Ok (last, rest) → Stepped spell F next state n bytes last rest
  unfolding steps_at
  steps_take state zero bytes last rest h e =
      let p = ok_is (state, bytes) (last, rest) e in
      record {
        parts = [];
        count = refl;
        fit = tt;
        end = sym (ap (λ (q : S × List ℕ). q.0) p);
        taken = record { parts = ap (λ (q : S × List ℕ). q.1) p; rest_fits = subst IsBytes (ap (λ (q : S × List ℕ). q.1) p) h };
      }
  steps_take state (suc n) bytes last rest h e =
      let a = bind_ok (part state bytes) (λ first. steps_at part next (next state first.0) n first.1) (last, rest) e in
      let first = (one state).takes bytes a.0.0 a.0.1 h a.1 in
      let others = steps_take (next state a.0.0) n a.0.1 last rest first.0.rest_fits a.2 in
      record {
        parts = a.0.0 ∷ others.parts;
        count = ap suc others.count;
        fit = (first.1, others.fit);
        end = others.end;
        taken = record {
          parts = first.0.parts ∙ ap (λ (t : List ℕ). spell a.0.0 ++ t) others.taken.parts ∙ sym (append_assoc (spell a.0.0) (flat_map spell others.parts) rest);
          rest_fits = others.taken.rest_fits;
        };
      }

  pub steps_pushed : (state : S) (xs : List A) (x : A) → Steps F next state xs → F (behind next state xs) x → Steps F next state (xs ++ x ∷ [])
  steps_pushed state [] x fits f = (f, tt)
  steps_pushed state (y ∷ ys) x fits f = (fits.0, steps_pushed (next state y) ys x fits.1 f)

behind_pushed : {S A : Type 0} (next : S → A → S) (state : S) (xs : List A) (x : A) → behind next state (xs ++ x ∷ []) ≡ next (behind next state xs) x
behind_pushed next state [] x = refl
behind_pushed next state (y ∷ ys) x = behind_pushed next (next state y) ys x

-- ---- histories

abbrev start_of : History → History
start_of H = Fresh (group_of H) (me_of H) (members_of H)

behind_entries : (H : History) → behind Then (start_of H) (entries_of H) ≡ H
behind_entries (Fresh group me members) = refl
behind_entries (Then H e) = behind_pushed Then (start_of H) (entries_of H) e ∙ ap (λ K. Then K e) (behind_entries H)

entries_behind : (H : History) (es : List Entry) → entries_of (behind Then H es) ≡ entries_of H ++ es
entries_behind H [] = sym (append-nil (entries_of H))
entries_behind H (e ∷ es) = entries_behind (Then H e) es ∙ append_assoc (entries_of H) (e ∷ []) es

start_behind : (H : History) (es : List Entry) → start_of (behind Then H es) ≡ start_of H
start_behind H [] = refl
start_behind H (e ∷ es) = start_behind (Then H e) es

readable_steps : (H : History) → IsReadable H → Steps FitsEntry Then (start_of H) (entries_of H)
readable_steps (Fresh group me members) f = tt
readable_steps (Then H e) f = steps_pushed entry_at Then entry_bytes FitsEntry entry (start_of H) (entries_of H) e (readable_steps H f.0) (subst (λ K. FitsEntry K e) (sym (behind_entries H)) f.1)

steps_readable : (H : History) (es : List Entry) → IsReadable H → Steps FitsEntry Then H es → IsReadable (behind Then H es)
steps_readable H [] f s = f
steps_readable H (e ∷ es) f s = steps_readable (Then H e) es (f, s.0) s.1

-- a history that begins with these numbers and has n entries
abbrev pub IsHistory : ℕ → ℕ → ℕ → ℕ → History → Type 0
IsHistory group members me n H = (group_of H ≡ group) × (members_of H ≡ members) × (me_of H ≡ me) × (length (entries_of H) ≡ n) × IsReadable H

pub history : (group members me n : ℕ) → Spells (steps_at entry_at Then (Fresh group me members) n) (λ H. flat_map entry_bytes (entries_of H)) (IsHistory group members me n)
history group members me n = record { again = again; takes = takes }
  where
    again : (H : History) (rest : List ℕ) → IsHistory group members me n H → steps_at entry_at Then (Fresh group me members) n (flat_map entry_bytes (entries_of H) ++ rest) ≡ Ok (H, rest)
    again H rest f =
        let bytes : List ℕ = flat_map entry_bytes (entries_of H) ++ rest in
        let start : Fresh group me members ≡ start_of H = ap (λ g. Fresh g me members) (sym f.0) ∙ ap (λ m. Fresh (group_of H) me m) (sym f.1) ∙ ap (λ a. Fresh (group_of H) a (members_of H)) (sym f.2) in
        ap (λ s. steps_at entry_at Then s n bytes) start
        ∙ ap (λ k. steps_at entry_at Then (start_of H) k bytes) (sym f.3)
        ∙ steps_again entry_at Then entry_bytes FitsEntry entry (start_of H) (entries_of H) rest (readable_steps H f.4)
        ∙ ap (λ K. Ok (K, rest)) (behind_entries H)

    takes : (bytes : List ℕ) (H : History) (rest : List ℕ) → IsBytes bytes → steps_at entry_at Then (Fresh group me members) n bytes ≡ Ok (H, rest) → Takes bytes (flat_map entry_bytes (entries_of H)) rest × IsHistory group members me n H
    takes bytes H rest h e =
        let t = steps_take entry_at Then entry_bytes FitsEntry entry (Fresh group me members) n bytes H rest h e in
        let is : entries_of H ≡ t.parts = ap entries_of t.end ∙ entries_behind (Fresh group me members) t.parts in
        let start : start_of H ≡ Fresh group me members = ap start_of t.end ∙ start_behind (Fresh group me members) t.parts in (
          subst (λ es. Takes bytes (flat_map entry_bytes es) rest) (sym is) t.taken,
          (ap group_of start, ap members_of start, ap me_of start, ap length is ∙ t.count, subst IsReadable (sym t.end) (steps_readable (Fresh group me members) t.parts tt t.fit)),
        )

-- ---- journals

waiting : (members me : ℕ) (vector : List ℕ) → Spells (counted_at (λ before. with_rule (may_wait members me vector before) (op_at members))) (counted op_bytes) (FitWaiting members me vector)
waiting members me vector = counted_parts (λ before. with_rule (may_wait members me vector before) (op_at members)) op_bytes (λ before o. IsSpelled members o × (may_wait members me vector before o ≡ true)) (λ before. ruled (may_wait members me vector before) (op members))

-- what follows the head of a journal
abbrev pub journal_rest : State → List ℕ
journal_rest s = concat (counted entry_bytes (entries_of s.history) ∷ counted op_bytes s.waiting ∷ [])

-- what fits after the head
abbrev pub FitsJournal : ℕ → ℕ → ℕ → State → Type 0
FitsJournal group members me s = IsSmall (length (entries_of s.history)) × IsHistory group members me (length (entries_of s.history)) s.history × FitWaiting members me (count_in s.history) s.waiting

pub journal : (group members me : ℕ) → Spells (journal_at group members me) journal_rest (FitsJournal group members me)
unfolding journal_at
journal group members me = spelling journal_rest
    (fitting (FitsJournal group members me)
    (field (λ s. length (entries_of s.history)) small (λ n h0. field (λ s. s.history) (history group members me n) (λ H h1. field (λ s. s.waiting) (waiting members me (count_in H)) (λ W h2. done (record { history = H; waiting = W }))
    (λ W s h f. ap (λ (y : State). y.waiting) f)) (λ H s h f. ap (λ (y : State). y.history) f.1)) (λ n s h f. f.0.3))
    (λ s f. (f.0, f.1.0, f.1.1.0)) (λ s f. (f.0, (f.1, (f.2, refl)))))
    (λ s f. sym (append_assoc (four_bytes (length (entries_of s.history))) (flat_map entry_bytes (entries_of s.history)) (counted op_bytes s.waiting ++ [])))
