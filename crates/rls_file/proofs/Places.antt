-- A broken rule has the place of what it names.
use Rattle.std.proofs.Common.{◌≡◌, ℕ, zero, suc, ◌+◌, ◌-◌, ◌*◌, ◌<◌, ◌≤◌, Bool, true, false, cond, List, [], ◌∷◌, ◌++◌, length, take, drop, Option, Some, None, refl, sym, ap, subst, ◌∙◌, append_assoc, arith, inl, inr, ◌⊎◌}
use Rattle.std.specs.Prelude.{slice_get, option_map, ◌==◌}
use Rattle.std.specs.List.{flat_map}
use Rattle.std.proofs.lemmas.List.{take-append-drop, length-append, length-take-le}
use Rattle.std.proofs.lemmas.Option.{slice_get_within}
use Rattle.std.proofs.lemmas.Grind.{flat_map-append}
use Rattle.rls_ident.proofs.Loops.{drop_reads}
use Rattle.rls_ident.proofs.Members.{some_is}
use Rattle.rls_ops.specs.Spelling.{four_bytes, vector_bytes, op_bytes, counted, signed_bytes}
use Rattle.rls_codec.specs.Spelled.{Chained}
use Rattle.rls_model.specs.declared.parts.Stem.{Stem}
use Rattle.rls_model.specs.declared.parts.Parts.{Parts}
use Rattle.rls_parts.specs.Rules.{Broken}
use Rattle.rls_file.specs.Files.{head_bytes, stem_bytes, own_of, others_of, stems_bytes, epoch_bytes, text_run_bytes, snapshot_bytes, stem_size, rows_place, stems_place, epochs_place, text_place, log_place, held_place, bytes_before, stem_place, place_of_broken}
use Rattle.rls_file.specs.SpelledFiles.{FitsStem, Grouped, IsSpelledSnapshot}
use Rattle.rls_file.specs.FileLaws.{StandsAt, named_by}

-- ---- parts of lists of bytes

-- after these bytes
after : (a bytes part : List ℕ) (place : ℕ) → StandsAt bytes place part → StandsAt (a ++ bytes) (length a + place) part
after a bytes part place s = record {
  front = a ++ s.front;
  rest = s.rest;
  parts = ap (λ (w : List ℕ). a ++ w) s.parts ∙ sym (append_assoc a s.front (part ++ s.rest));
  place_is = omega (arith, s.place_is, length-append a s.front);
}

-- before these bytes
before : (bytes b part : List ℕ) (place : ℕ) → StandsAt bytes place part → StandsAt (bytes ++ b) place part
before bytes b part place s = record {
  front = s.front;
  rest = s.rest ++ b;
  parts = ap (λ (w : List ℕ). w ++ b) s.parts ∙ append_assoc s.front (part ++ s.rest) b ∙ ap (λ (w : List ℕ). s.front ++ w) (append_assoc part s.rest b);
  place_is = s.place_is;
}

-- first of all
first : (part b : List ℕ) → StandsAt (part ++ b) 0 part
first part b = record { front = []; rest = b; parts = refl; place_is = refl }

-- at an equal place
moved : (bytes part : List ℕ) (place there : ℕ) → place ≡ there → StandsAt bytes place part → StandsAt bytes there part
moved bytes part place there e s = record { front = s.front; rest = s.rest; parts = s.parts; place_is = sym e ∙ s.place_is }

-- part i stands after the parts before it
listed : {A : Type 0} (part : A → List ℕ) (xs : List A) (i : ℕ) (x : A) → slice_get xs i ≡ Some x → StandsAt (flat_map part xs) (length (flat_map part (take i xs))) (part x)
listed part xs i x e = record {
  front = flat_map part (take i xs);
  rest = flat_map part (drop (i + 1) xs);
  parts = ap (flat_map part) (sym (take-append-drop i xs) ∙ ap (λ ys. take i xs ++ ys) (drop_reads xs i x e)) ∙ flat_map-append part (take i xs) (x ∷ drop (i + 1) xs);
  place_is = refl;
}

-- the same after their number
counted_part : {A : Type 0} (part : A → List ℕ) (xs : List A) (i : ℕ) (x : A) → slice_get xs i ≡ Some x → StandsAt (counted part xs) (bytes_before part xs i) (part x)
counted_part part xs i x e = after (four_bytes (length xs)) (flat_map part xs) (part x) (length (flat_map part (take i xs))) (listed part xs i x e)

-- ---- stems

stem_length : (form : ℕ) (s : Stem) → length (stem_bytes form s) ≡ stem_size form
stem_length form s = by_form (form == 2)
  where
    by_form : (b : Bool) → length (four_bytes s.s0 ++ (cond b [] (signed_bytes s.low) ++ (four_bytes s.next ++ []))) ≡ cond b 8 12
    by_form true = refl
    by_form false = refl

distribute : (k m n : ℕ) → k * (m + n) ≡ k * m + k * n
distribute k m n = grind arith

own_length : (form : ℕ) (ss : List Stem) → length (flat_map (stem_bytes form) ss) ≡ stem_size form * length ss
own_length form [] = omega arith
own_length form (s ∷ ss) =
    let l : length (flat_map (stem_bytes form) (s ∷ ss)) ≡ length (stem_bytes form s) + length (flat_map (stem_bytes form) ss) = length-append (stem_bytes form s) (flat_map (stem_bytes form) ss) in
    let d : stem_size form * length (s ∷ ss) ≡ stem_size form * 1 + stem_size form * length ss = ap (λ n. stem_size form * n) (omega arith) ∙ distribute (stem_size form) 1 (length ss) in
    let one : stem_size form * 1 ≡ stem_size form = grind arith in
    omega (arith, l, d, one, stem_length form s, own_length form ss)

-- where an element of two lists stands
get_split : {A : Type 0} (xs ys : List A) (i : ℕ) (x : A) → slice_get (xs ++ ys) i ≡ Some x → ((i < length xs) × (slice_get xs i ≡ Some x)) ⊎ ((j : ℕ) × (i ≡ length xs + j) × (slice_get ys j ≡ Some x))
get_split [] ys i x e = inr (i, omega arith, e)
get_split (z ∷ xs) ys zero x e = inl (omega arith, e)
get_split (z ∷ xs) ys (suc i) x e =
    elim (get_split xs ys i x e) [
      | inl h ↦ inl (omega (arith, h.0), h.1)
      | inr h ↦ inr (h.0, omega (arith, h.1), h.2)
    ]

own_author : (form a : ℕ) (b : Option Stem) (ss : List Stem) (i : ℕ) (s : Stem) → Chained (λ before. FitsStem form a) b ss → slice_get ss i ≡ Some s → s.author ≡ a
own_author form a b [] i s c e = absurd cc
own_author form a b (q ∷ ss) zero s c e = let is : q ≡ s = cc in ap (λ (y : Stem). y.author) (sym is) ∙ c.0.0
own_author form a b (q ∷ ss) (suc i) s c e = own_author form a (Some q) ss i s c.1 e

own_part : (form : ℕ) (ss : List Stem) (i : ℕ) (s : Stem) → slice_get ss i ≡ Some s → StandsAt (counted (stem_bytes form) ss) (4 + stem_size form * i) (stem_bytes form s)
own_part form ss i s e =
    let few : length (take i ss) ≡ i = length-take-le i ss (omega (arith, slice_get_within ss i s e)) in
    let place : bytes_before (stem_bytes form) ss i ≡ 4 + stem_size form * i = ap (λ n. 4 + n) (own_length form (take i ss) ∙ ap (λ n. stem_size form * n) few) in
    moved (counted (stem_bytes form) ss) (stem_bytes form s) (bytes_before (stem_bytes form) ss i) (4 + stem_size form * i) place (counted_part (stem_bytes form) ss i s e)

counted_own : (form : ℕ) (ss : List Stem) → length (counted (stem_bytes form) ss) ≡ 4 + stem_size form * length ss
counted_own form ss = omega (arith, length-append (four_bytes (length ss)) (flat_map (stem_bytes form) ss), own_length form ss)

-- where the stems of n members from a on are
pub record StemAt (form a n i : ℕ) (ss : List Stem) (s : Stem) : Type 0 where
  pub from : a ≤ s.author
  pub at : StandsAt (stems_bytes form a n ss) (4 * (s.author - a + 1) + stem_size form * i) (stem_bytes form s)

pub grouped_stem : (form a n : ℕ) (ss : List Stem) (i : ℕ) (s : Stem) → Grouped form a n ss → slice_get ss i ≡ Some s → StemAt form a n i ss s
grouped_stem form a zero ss i s g e = absurd (none (sym (ap (λ ys. slice_get ys i) g) ∙ e))
  where
    none : slice_get [] i ≡ Some s → ⊥
    none h = cc
grouped_stem form a (suc n) ss i s g e =
    let own = own_of a ss in
    let others = others_of a ss in
    let size = stem_size form in
    elim (get_split own others i s (sym (ap (λ ys. slice_get ys i) g.1) ∙ e)) [
      | inl h ↦
          let author : s.author ≡ a = own_author form a None own i s g.0.1 h.1 in
          record {
            from = omega (arith, author);
            at = moved (stems_bytes form a (suc n) ss) (stem_bytes form s) (4 + size * i) (4 * (s.author - a + 1) + size * i) (omega (arith, author))
                (before (counted (stem_bytes form) own) (stems_bytes form (suc a) n others) (stem_bytes form s) (4 + size * i) (own_part form own i s h.1));
          }
      | inr h ↦
          let t = grouped_stem form (suc a) n others h.0 s g.2 h.2 in
          let place = 4 * (s.author - suc a + 1) + size * h.0 in
          let d : size * i ≡ size * length own + size * h.0 = ap (λ k. size * k) h.1 ∙ distribute size (length own) h.0 in
          record {
            from = omega (arith, t.from);
            at = moved (stems_bytes form a (suc n) ss) (stem_bytes form s) (length (counted (stem_bytes form) own) + place) (4 * (s.author - a + 1) + size * i) (omega (arith, t.from, d, counted_own form own))
                (after (counted (stem_bytes form) own) (stems_bytes form (suc a) n others) (stem_bytes form s) place t.at);
          }
    ]

pub stems_length : (form a n : ℕ) (ss : List Stem) → Grouped form a n ss → length (stems_bytes form a n ss) ≡ 4 * n + stem_size form * length ss
stems_length form a zero ss g = rw (ap (λ (ys : List Stem). length ys) g) (omega arith)
stems_length form a (suc n) ss g =
    let own = own_of a ss in
    let others = others_of a ss in
    let size = stem_size form in
    let l : length (stems_bytes form a (suc n) ss) ≡ length (counted (stem_bytes form) own) + length (stems_bytes form (suc a) n others) = length-append (counted (stem_bytes form) own) (stems_bytes form (suc a) n others) in
    let d : size * length ss ≡ size * length own + size * length others = ap (λ k. size * k) (ap (λ (ys : List Stem). length ys) g.1 ∙ length-append own others) ∙ distribute size (length own) (length others) in
    omega (arith, l, d, counted_own form own, stems_length form (suc a) n others g.2)

-- ---- the sections of a snapshot, each with all that follows it

abbrev from_held : Parts → List ℕ
from_held p = counted op_bytes p.held ++ []

abbrev from_log : Parts → List ℕ
from_log p = counted op_bytes p.log ++ from_held p

abbrev from_text : Parts → List ℕ
from_text p = counted text_run_bytes p.text ++ from_log p

abbrev from_epochs : Parts → List ℕ
from_epochs p = counted epoch_bytes p.epochs ++ from_text p

abbrev from_stems : ℕ → Parts → List ℕ
from_stems form p = stems_bytes form 0 p.members p.stems ++ from_epochs p

abbrev left_bytes : ℕ → Parts → List ℕ
left_bytes form p = cond (form == 4) (counted four_bytes p.left) []

abbrev from_rows : ℕ → Parts → List ℕ
from_rows form p = flat_map vector_bytes p.rows ++ (left_bytes form p ++ from_stems form p)

in_rows : (form : ℕ) (p : Parts) (part : List ℕ) (k : ℕ) → StandsAt (from_rows form p) k part → StandsAt (snapshot_bytes form p) (rows_place p + k) part
unfolding snapshot_bytes
in_rows form p part k s =
    let head = head_bytes form p.group p.members p.me in
    let v = vector_bytes p.vector in
    let l : rows_place p ≡ 21 + length v = length-append (head_bytes 0 p.group p.members p.me) v in
    moved (head ++ (v ++ from_rows form p)) part (21 + (length v + k)) (rows_place p + k) (omega (arith, l)) (after head (v ++ from_rows form p) part (length v + k) (after v (from_rows form p) part k s))

in_stems : (form : ℕ) (p : Parts) (part : List ℕ) (k : ℕ) → StandsAt (from_stems form p) k part → StandsAt (snapshot_bytes form p) (stems_place form p + k) part
in_stems form p part k s =
    let rows = flat_map vector_bytes p.rows in
    let left : length (left_bytes form p) ≡ cond (form == 4) (length (counted four_bytes p.left)) 0 = by_form (form == 4) in
    moved (snapshot_bytes form p) part (rows_place p + (length rows + (length (left_bytes form p) + k))) (stems_place form p + k) (omega (arith, left))
    (in_rows form p part (length rows + (length (left_bytes form p) + k)) (after rows (left_bytes form p ++ from_stems form p) part (length (left_bytes form p) + k) (after (left_bytes form p) (from_stems form p) part k s)))
  where
    by_form : (b : Bool) → length (cond b (counted four_bytes p.left) []) ≡ cond b (length (counted four_bytes p.left)) 0
    by_form true = refl
    by_form false = refl

module _ (form : ℕ) (p : Parts) (g : Grouped form 0 p.members p.stems) where
  in_epochs : (part : List ℕ) (k : ℕ) → StandsAt (from_epochs p) k part → StandsAt (snapshot_bytes form p) (epochs_place form p + k) part
  in_epochs part k s =
      let stems = stems_bytes form 0 p.members p.stems in
      moved (snapshot_bytes form p) part (stems_place form p + (length stems + k)) (epochs_place form p + k) (omega (arith, stems_length form 0 p.members p.stems g)) (in_stems form p part (length stems + k) (after stems (from_epochs p) part k s))

  in_text : (part : List ℕ) (k : ℕ) → StandsAt (from_text p) k part → StandsAt (snapshot_bytes form p) (text_place form p + k) part
  in_text part k s =
      let epochs = counted epoch_bytes p.epochs in
      moved (snapshot_bytes form p) part (epochs_place form p + (length epochs + k)) (text_place form p + k) (omega arith) (in_epochs part (length epochs + k) (after epochs (from_text p) part k s))

  in_log : (part : List ℕ) (k : ℕ) → StandsAt (from_log p) k part → StandsAt (snapshot_bytes form p) (log_place form p + k) part
  in_log part k s =
      let text = counted text_run_bytes p.text in
      moved (snapshot_bytes form p) part (text_place form p + (length text + k)) (log_place form p + k) (omega arith) (in_text part (length text + k) (after text (from_log p) part k s))

  in_held : (part : List ℕ) (k : ℕ) → StandsAt (from_held p) k part → StandsAt (snapshot_bytes form p) (held_place form p + k) part
  in_held part k s =
      let log = counted op_bytes p.log in
      moved (snapshot_bytes form p) part (log_place form p + (length log + k)) (held_place form p + k) (omega arith) (in_log part (length log + k) (after log (from_held p) part k s))

  -- ---- the rules

  some_of : {A : Type 0} (f : A → List ℕ) (o : Option A) (named : List ℕ) → option_map f o ≡ Some named → (x : A) × (o ≡ Some x) × (f x ≡ named)
  some_of f None named e = absurd cc
  some_of f (Some x) named e = (x, refl, cc)

  named_as : (bytes part named : List ℕ) (place : ℕ) → part ≡ named → StandsAt bytes place part → StandsAt bytes place named
  named_as bytes part named place e s = subst (StandsAt bytes place) e s

  rule_1 : (i : ℕ) (named : List ℕ) → option_map vector_bytes (slice_get p.rows i) ≡ Some named → StandsAt (snapshot_bytes form p) (rows_place p + length (flat_map vector_bytes (take i p.rows))) named
  rule_1 i named e =
      let x = some_of vector_bytes (slice_get p.rows i) named e in
      named_as (snapshot_bytes form p) (vector_bytes x.0) named _ x.2
      (in_rows form p (vector_bytes x.0) (length (flat_map vector_bytes (take i p.rows))) (before (flat_map vector_bytes p.rows) (left_bytes form p ++ from_stems form p) (vector_bytes x.0) _ (listed vector_bytes p.rows i x.0 x.1)))

  rule_2 : (i : ℕ) (named : List ℕ) → option_map (stem_bytes form) (slice_get p.stems i) ≡ Some named → StandsAt (snapshot_bytes form p) (stem_place form p i (slice_get p.stems i)) named
  rule_2 i named e =
      let x = some_of (stem_bytes form) (slice_get p.stems i) named e in
      let s = x.0 in
      let t = grouped_stem form 0 p.members p.stems i s g x.1 in
      let k = 4 * (s.author - 0 + 1) + stem_size form * i in
      let place : stems_place form p + k ≡ stem_place form p i (slice_get p.stems i) = sum (stems_place form p) s.author (stem_size form * i) ∙ ap (stem_place form p i) (sym x.1) in
      named_as (snapshot_bytes form p) (stem_bytes form s) named _ x.2
      (moved (snapshot_bytes form p) (stem_bytes form s) (stems_place form p + k) _ place (in_stems form p (stem_bytes form s) k (before (stems_bytes form 0 p.members p.stems) (from_epochs p) (stem_bytes form s) k t.at)))
    where
      sum : (q a z : ℕ) → q + (4 * (a - 0 + 1) + z) ≡ q + 4 * (a + 1) + z
      sum q a z = omega arith

  rule_3 : (i : ℕ) (named : List ℕ) → option_map epoch_bytes (slice_get p.epochs i) ≡ Some named → StandsAt (snapshot_bytes form p) (epochs_place form p + bytes_before epoch_bytes p.epochs i) named
  rule_3 i named e =
      let x = some_of epoch_bytes (slice_get p.epochs i) named e in
      named_as (snapshot_bytes form p) (epoch_bytes x.0) named _ x.2
      (in_epochs (epoch_bytes x.0) (bytes_before epoch_bytes p.epochs i) (before (counted epoch_bytes p.epochs) (from_text p) (epoch_bytes x.0) _ (counted_part epoch_bytes p.epochs i x.0 x.1)))

  rule_4 : (i : ℕ) (named : List ℕ) → option_map text_run_bytes (slice_get p.text i) ≡ Some named → StandsAt (snapshot_bytes form p) (text_place form p + bytes_before text_run_bytes p.text i) named
  rule_4 i named e =
      let x = some_of text_run_bytes (slice_get p.text i) named e in
      named_as (snapshot_bytes form p) (text_run_bytes x.0) named _ x.2
      (in_text (text_run_bytes x.0) (bytes_before text_run_bytes p.text i) (before (counted text_run_bytes p.text) (from_log p) (text_run_bytes x.0) _ (counted_part text_run_bytes p.text i x.0 x.1)))

  rule_5 : (i : ℕ) (named : List ℕ) → option_map op_bytes (slice_get p.log i) ≡ Some named → StandsAt (snapshot_bytes form p) (log_place form p + bytes_before op_bytes p.log i) named
  rule_5 i named e =
      let x = some_of op_bytes (slice_get p.log i) named e in
      named_as (snapshot_bytes form p) (op_bytes x.0) named _ x.2
      (in_log (op_bytes x.0) (bytes_before op_bytes p.log i) (before (counted op_bytes p.log) (from_held p) (op_bytes x.0) _ (counted_part op_bytes p.log i x.0 x.1)))

  -- the number field before a list
  at_number : {A : Type 0} (part : A → List ℕ) (xs : List A) (rest : List ℕ) → StandsAt (counted part xs ++ rest) 0 (four_bytes (length xs))
  at_number part xs rest = before (counted part xs) rest (four_bytes (length xs)) 0 (first (four_bytes (length xs)) (flat_map part xs))

  rule_6 : (named : List ℕ) → Some (four_bytes (length p.log)) ≡ Some named → StandsAt (snapshot_bytes form p) (log_place form p) named
  rule_6 named e =
      named_as (snapshot_bytes form p) (four_bytes (length p.log)) named _ (some_is (four_bytes (length p.log)) named e)
      (moved (snapshot_bytes form p) (four_bytes (length p.log)) (log_place form p + 0) (log_place form p) (omega arith) (in_log (four_bytes (length p.log)) 0 (at_number op_bytes p.log (from_held p))))

  rule_7 : (named : List ℕ) → Some (four_bytes (length p.epochs)) ≡ Some named → StandsAt (snapshot_bytes form p) (epochs_place form p) named
  rule_7 named e =
      named_as (snapshot_bytes form p) (four_bytes (length p.epochs)) named _ (some_is (four_bytes (length p.epochs)) named e)
      (moved (snapshot_bytes form p) (four_bytes (length p.epochs)) (epochs_place form p + 0) (epochs_place form p) (omega arith) (in_epochs (four_bytes (length p.epochs)) 0 (at_number epoch_bytes p.epochs (from_text p))))

  rule_8 : (i : ℕ) (named : List ℕ) → option_map op_bytes (slice_get p.held i) ≡ Some named → StandsAt (snapshot_bytes form p) (held_place form p + bytes_before op_bytes p.held i) named
  rule_8 i named e =
      let x = some_of op_bytes (slice_get p.held i) named e in
      named_as (snapshot_bytes form p) (op_bytes x.0) named _ x.2
      (in_held (op_bytes x.0) (bytes_before op_bytes p.held i) (before (counted op_bytes p.held) [] (op_bytes x.0) _ (counted_part op_bytes p.held i x.0 x.1)))

  -- one of two places, by a test
  pick : (t : Bool) (bytes named : List ℕ) (m n : Option (List ℕ)) (j k : ℕ) → (m ≡ Some named → StandsAt bytes j named) → (n ≡ Some named → StandsAt bytes k named) → cond t m n ≡ Some named → StandsAt bytes (cond t j k) named
  pick true bytes named m n j k f h e = f e
  pick false bytes named m n j k f h e = h e

  pub place_of : (b : Broken) (named : List ℕ) → named_by form p b ≡ Some named → StandsAt (snapshot_bytes form p) (place_of_broken form p b) named
  unfolding place_of_broken
  place_of b named e =
      let bytes = snapshot_bytes form p in
      pick (b.rule == 1) bytes named _ _ _ _ (rule_1 b.index named) (pick (b.rule == 2) bytes named _ _ _ _ (rule_2 b.index named) (pick (b.rule == 3) bytes named _ _ _ _ (rule_3 b.index named) (pick (b.rule == 4) bytes named _ _ _ _ (rule_4 b.index named)
      (pick (b.rule == 5) bytes named _ _ _ _ (rule_5 b.index named) (pick (b.rule == 6) bytes named _ _ _ _ (rule_6 named) (pick (b.rule == 7) bytes named _ _ _ _ (rule_7 named) (rule_8 b.index named))))))) e

pub places_of_broken : (form : ℕ) (p : Parts) (b : Broken) (named : List ℕ) → IsSpelledSnapshot form p → named_by form p b ≡ Some named → StandsAt (snapshot_bytes form p) (place_of_broken form p b) named
places_of_broken form p b named f e = place_of form p f.parts.stems b named e
