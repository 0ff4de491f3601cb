-- A line of a script is a well formed edit, and none that is refused is made.
use Rattle.std.proofs.Common.{◌≡◌, ◌∙◌, ◌<◌, ◌≤◌, ◌-◌, ◌^◌, ℕ, suc, Bool, true, false, cond, List, [], ◌∷◌, ◌++◌, length, Option, Some, None, Result, Ok, Err, refl, sym, ap, subst, arith, zero, lit<, append_assoc, get_or}
use Rattle.std.specs.Prelude.{slice_index, ◌&&◌, ◌==◌, nat_lt, bytes_eq, codes, option_and_then}
use Rattle.std.proofs.lemmas.Bool.Decides.{nat_tests}
use Rattle.std.proofs.Math.Utf8.{scalar}
use Rattle.std.specs.Fmt.{decimal}
use Rattle.std.specs.List.{position_or_len, before_first, after_first}
use Rattle.std.specs.Str.{IsUtf8, is_utf8, chars, all_scalars}
use Rattle.std.specs.Str.Parse.{digits_value}
use Rattle.std.proofs.lemmas.Bool.{eqb-true}
use Rattle.std.proofs.lemmas.Fmt.{IsAscii-decimal}
use Rattle.std.proofs.lemmas.List.Sums.{passes_at_first, split_at_first}
use Rattle.std.proofs.lemmas.Str.{IsUtf8-append, IsUtf8-from_ascii, IsUtf8-from_is_utf8, chars-append, scalars-chars}
use Rattle.std.proofs.lemmas.Slice.Eq.{bytes_eq-Decides}
use Rattle.rls_ident.proofs.Members.{and_left, and_right}
use Rattle.rls_runs.proofs.Texts.{all_of_scalars}
use Rattle.rls_model.specs.declared.edit.Edit.{Edit}
use Rattle.rls_model.specs.declared.edit.Edit.TheVariants as edits
use Rattle.rls_model.specs.declared.edit.EditError.{EditError}
use Rattle.rls_model.specs.EditRun.{unless_fault}
use Rattle.rls_model.specs.WellFormed.{IsEdit, IsLarge, IsText}
use Rattle.rls_report.specs.declared.failures.LineFault.{LineFault}
use Rattle.rls_script.specs.Scripts.{line_of, is_space, parts_of, number_of, text_of, text_behind, is_opening, put_meaning, meaning_of, insertion_of, deletion_of, backward_of, line_of_parts, line_of_words, line_of_text}
use Rattle.rls_script.specs.Clusters.{cluster_before}
use Rattle.rls_script.specs.declared.clusters.ClusterError.{ClusterError}
use Rattle.rls_script.specs.declared.clusters.ClusterError.TheVariants as clusters
use Rattle.rls_script.specs.declared.lines.Line.{Line}
use Rattle.rls_script.specs.declared.lines.Line.TheVariants.{Insert, Delete, Back, Rename}
use Rattle.rls_stages.specs.Lines.{allowed_by, backward_by, line_by, line_fault_of}
use Rattle.rls_script.proofs.Begins.{cluster_begins}

-- ---- what lines mean

-- the numbers and the text of a line are in range
abbrev pub IsLine : Line → Type 0
IsLine (Insert at cs) = IsLarge at × IsText cs
IsLine (Delete at n) = IsLarge at × IsLarge n
IsLine (Back at) = IsLarge at
IsLine Rename = Unit {0}

-- what is meant, if this was read as an edit, has no fault there
abbrev pub IsMeantWell : {X : Type 0} → (X → Edit → Option EditError) → X → Result Edit LineFault → Type 0
IsMeantWell fault x (Ok edit) = IsEdit edit × (fault x edit ≡ None)
IsMeantWell fault x (Err e) = Unit {0}

module _ {X : Type 0} (fault : X → Edit → Option EditError) (text : X → List ℕ) (x : X) where
  pub allowed_well : (edit : Edit) → IsEdit edit → IsMeantWell fault x (allowed_by fault x edit)
  allowed_well edit w = go (fault x edit) refl
    where
      go : (f : Option EditError) → fault x edit ≡ f → IsMeantWell fault x (unless_fault (line_fault_of f) edit)
      go None e = (w, e)
      go (Some f) e = tt

  backward_well : (at : ℕ) (r : Result ℕ ClusterError) → IsLarge at → ((f : ℕ) → r ≡ Ok f → f ≤ at) → IsMeantWell fault x (backward_by fault x at r)
  backward_well at (Ok from) l begins = let b = begins from refl in allowed_well (edits.Delete from (at - from)) (omega arith, omega arith)
  backward_well at (Err (clusters.Range p total)) l begins = tt
  backward_well at (Err (clusters.NotBoundary p)) l begins = tt

  pub line_well : (l : Line) → IsLine l → IsMeantWell fault x (line_by fault text x l)
  line_well (Insert at cs) w = allowed_well (edits.Insert at cs) w
  line_well (Delete at n) w = allowed_well (edits.Delete at n) w
  line_well (Back at) w = backward_well at (cluster_before (text x) at) w (λ f e. cluster_begins (text x) at f e)
  line_well Rename w = allowed_well edits.Rename tt

-- ---- characters

scalars_append : (xs ys : List ℕ) → all_scalars (xs ++ ys) ≡ true → all_scalars ys ≡ true
scalars_append [] ys h = h
scalars_append (x ∷ xs) ys h = scalars_append xs ys (and_right (scalar x) (all_scalars (xs ++ ys)) h)

space_utf8 : IsUtf8 (32 ∷ [])
space_utf8 = IsUtf8-from_ascii (32 ∷ []) ascii
  where
    ascii : (i : ℕ) → slice_index (32 ∷ []) i < 128
    ascii zero = lit< tt
    ascii (suc i) = lit< tt

-- what stands behind text and a space is text, where the whole is
chars_behind : (a b : List ℕ) → IsUtf8 a → all_scalars (chars (a ++ (32 ∷ b))) ≡ true → all_scalars (chars b) ≡ true
chars_behind a b u h =
    let front = a ++ (32 ∷ []) in
    let same : a ++ (32 ∷ b) ≡ front ++ b = sym (append_assoc a (32 ∷ []) b) in
    let split = chars-append front b (IsUtf8-append a (32 ∷ []) u space_utf8) in
    scalars_append (chars front) (chars b) (subst (λ (cs : List ℕ). all_scalars cs ≡ true) (ap chars same ∙ split) h)

-- what stands before the first space and behind it
parts_are : (bytes : List ℕ) (x : List ℕ × List ℕ) → parts_of bytes ≡ Some x → bytes ≡ x.0 ++ (32 ∷ x.1)
parts_are bytes x e = go (nat_lt (position_or_len is_space bytes) (length bytes)) refl e
  where
    front : List ℕ
    front = before_first is_space bytes

    rest : List ℕ
    rest = after_first is_space bytes

    go : (b : Bool) → nat_lt (position_or_len is_space bytes) (length bytes) ≡ b → cond b (Some (front, rest)) None ≡ Some x → bytes ≡ x.0 ++ (32 ∷ x.1)
    go false t e = cc
    go true t e =
        let within : position_or_len is_space bytes < length bytes = grind (arith, nat_tests) in
        let space = eqb-true (get_or bytes (position_or_len is_space bytes) 0) 32 (passes_at_first is_space bytes 0 within) in
        let split = split_at_first is_space bytes 0 within in
        let are : bytes ≡ front ++ (32 ∷ rest) = subst (λ (c : ℕ). bytes ≡ front ++ (c ∷ rest)) space split in
        let same : (front, rest) ≡ x = cc in
        subst (λ (p : List ℕ × List ℕ). bytes ≡ p.0 ++ (32 ∷ p.1)) same are

-- ---- numbers and texts

number_fits : (ds : List ℕ) (n : ℕ) → number_of ds ≡ Some n → (n < 2 ^ 64) × (ds ≡ decimal n)
unfolding number_of
number_fits ds n e = go (nat_lt (digits_value 10 ds) (2 ^ 64)) refl (bytes_eq (decimal (digits_value 10 ds)) ds) refl e
  where
    v : ℕ
    v = digits_value 10 ds

    go : (a : Bool) → nat_lt v (2 ^ 64) ≡ a → (b : Bool) → bytes_eq (decimal v) ds ≡ b → cond (a && b) (Some v) None ≡ Some n → (n < 2 ^ 64) × (ds ≡ decimal n)
    go true l true d e =
        let below : v < 2 ^ 64 = grind (arith, nat_tests) in
        let same : v ≡ n = cc in
        (subst (λ (m : ℕ). m < 2 ^ 64) same below, sym ((bytes_eq-Decides (decimal v) ds).0 d) ∙ ap decimal same)
    go true l false d e = cc
    go false l b d e = cc

-- one more character in front
put_fits : (m : Option ℕ) (r : Option (List ℕ)) (text : List ℕ) → put_meaning m r ≡ Some text → ((d : ℕ) → m ≡ Some d → scalar d ≡ true) → ((ts : List ℕ) → r ≡ Some ts → all_scalars ts ≡ true)
    → all_scalars text ≡ true
put_fits None r text e f h = cc
put_fits (Some d) None text e f h = cc
put_fits (Some d) (Some ts) text e f h =
    let same : d ∷ ts ≡ text = cc in
    subst (λ (cs : List ℕ). all_scalars cs ≡ true) same (rw (f d refl, h ts refl) refl)

meaning_fits : (is_escaped : Bool) (c d : ℕ) → scalar c ≡ true → meaning_of is_escaped c ≡ Some d → scalar d ≡ true
meaning_fits false c d h e = let same : c ≡ d = cc in subst (λ (x : ℕ). scalar x ≡ true) same h
meaning_fits true c d h e = go (c == 110) (c == 114) (c == 92) e
  where
    go : (a b f : Bool) → cond a (Some 10) (cond b (Some 13) (cond f (Some 92) None)) ≡ Some d → scalar d ≡ true
    go true b f e = let same : 10 ≡ d = cc in subst (λ (x : ℕ). scalar x ≡ true) same refl
    go false true f e = let same : 13 ≡ d = cc in subst (λ (x : ℕ). scalar x ≡ true) same refl
    go false false true e = let same : 92 ≡ d = cc in subst (λ (x : ℕ). scalar x ≡ true) same refl
    go false false false e = cc

text_fits : (is_escaped : Bool) (cs text : List ℕ) → all_scalars cs ≡ true → text_behind is_escaped cs ≡ Some text → all_scalars text ≡ true
text_fits true [] text h e = cc
text_fits false [] text h e = let same : [] ≡ text = cc in subst (λ (ts : List ℕ). all_scalars ts ≡ true) same refl
text_fits is_escaped (c ∷ cs) text h e =
    go (text_behind (is_opening is_escaped c) cs) (λ ts f. text_fits (is_opening is_escaped c) cs ts (and_right (scalar c) (all_scalars cs) h) f) (is_opening is_escaped c) e
  where
    go : (rest : Option (List ℕ)) → ((ts : List ℕ) → rest ≡ Some ts → all_scalars ts ≡ true) → (b : Bool) → cond b rest (put_meaning (meaning_of is_escaped c) rest) ≡ Some text → all_scalars text ≡ true
    go rest behind true e = behind text e
    go rest behind false e = put_fits (meaning_of is_escaped c) rest text e (λ d m. meaning_fits is_escaped c d (and_left (scalar c) (all_scalars cs) h) m) behind

-- ---- lines

-- a line of the grammar, where this was one
abbrev pub IsGood : Option Line → Type 0
IsGood None = Unit {0}
IsGood (Some l) = IsLine l

insertion_good : (others : List ℕ) → all_scalars (chars others) ≡ true → IsGood (insertion_of others)
unfolding text_of
insertion_good others h = go (parts_of others) refl
  where
    good : (a b : List ℕ) → others ≡ a ++ (32 ∷ b) → (n : Option ℕ) → number_of a ≡ n → (t : Option (List ℕ)) → text_behind false (chars b) ≡ t
        → IsGood (option_and_then (λ at. option_and_then (λ text. Some (Insert at text)) t) n)
    good a b e None f t k = tt
    good a b e (Some at) f None k = tt
    good a b e (Some at) f (Some text) k =
        let fits = number_fits a at f in
        let ascii : IsUtf8 a = subst IsUtf8 (sym fits.1) (IsUtf8-from_ascii (decimal at) (IsAscii-decimal at fits.0)) in
        let plain = chars_behind a b ascii (subst (λ (bs : List ℕ). all_scalars (chars bs) ≡ true) e h) in
        (fits.0, all_of_scalars text (text_fits false (chars b) text plain k))

    go : (p : Option (List ℕ × List ℕ)) → parts_of others ≡ p
        → IsGood (option_and_then (λ parts. option_and_then (λ at. option_and_then (λ text. Some (Insert at text)) (text_of (chars parts.1))) (number_of parts.0)) p)
    go None e = tt
    go (Some x) e = good x.0 x.1 (parts_are others x e) (number_of x.0) refl (text_behind false (chars x.1)) refl

deletion_good : (others : List ℕ) → IsGood (deletion_of others)
deletion_good others = go (parts_of others)
  where
    good : (a b : List ℕ) (n : Option ℕ) → number_of a ≡ n → (m : Option ℕ) → number_of b ≡ m → IsGood (option_and_then (λ at. option_and_then (λ count. Some (Delete at count)) m) n)
    good a b None f m k = tt
    good a b (Some at) f None k = tt
    good a b (Some at) f (Some count) k = ((number_fits a at f).0, (number_fits b count k).0)

    go : (p : Option (List ℕ × List ℕ)) → IsGood (option_and_then (λ parts. option_and_then (λ at. option_and_then (λ count. Some (Delete at count)) (number_of parts.1)) (number_of parts.0)) p)
    go None = tt
    go (Some x) = good x.0 x.1 (number_of x.0) refl (number_of x.1) refl

backward_good : (others : List ℕ) → IsGood (backward_of others)
backward_good others = go (number_of others) refl
  where
    go : (n : Option ℕ) → number_of others ≡ n → IsGood (option_and_then (λ at. Some (Back at)) n)
    go None e = tt
    go (Some at) e = (number_fits others at e).0

-- by the first word
word_good : (word others : List ℕ) → all_scalars (chars (word ++ (32 ∷ others))) ≡ true → IsGood (line_of_parts word others)
word_good word others h = go (bytes_eq word (codes "i")) refl (bytes_eq word (codes "d")) (bytes_eq word (codes "b"))
  where
    letter : IsUtf8 (codes "i")
    letter = IsUtf8-from_ascii (codes "i") ascii
      where
        ascii : (i : ℕ) → slice_index (codes "i") i < 128
        ascii zero = lit< tt
        ascii (suc i) = lit< tt

    go : (a : Bool) → bytes_eq word (codes "i") ≡ a → (b c : Bool) → IsGood (cond a (insertion_of others) (cond b (deletion_of others) (cond c (backward_of others) None)))
    go true e b c = insertion_good others (chars_behind word others (subst IsUtf8 (sym ((bytes_eq-Decides word (codes "i")).0 e)) letter) h)
    go false e true c = deletion_good others
    go false e false true = backward_good others
    go false e false false = tt

pub line_good : (bytes : List ℕ) → IsGood (line_of bytes)
unfolding line_of
line_good bytes = go (is_utf8 bytes) refl
  where
    renaming : (b : Bool) → IsGood (cond b (Some Rename) None)
    renaming true = tt
    renaming false = tt

    words : all_scalars (chars bytes) ≡ true → (p : Option (List ℕ × List ℕ)) → parts_of bytes ≡ p → IsGood (line_of_words bytes p)
    words h None e = renaming (bytes_eq bytes (codes "r"))
    words h (Some x) e = word_good x.0 x.1 (subst (λ (bs : List ℕ). all_scalars (chars bs) ≡ true) (parts_are bytes x e) h)

    go : (b : Bool) → is_utf8 bytes ≡ b → IsGood (cond b (line_of_text bytes) None)
    go true e = words (scalars-chars bytes (IsUtf8-from_is_utf8 bytes e)) (parts_of bytes) refl
    go false e = tt
