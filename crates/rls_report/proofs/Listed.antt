-- The text of the listing.
use Rattle.std.proofs.Common.{◌≡◌, ℕ, ℤ, pos, negsuc, true, false, List, [], ◌∷◌, ◌++◌, map, refl, sym, ap, ap₂, ◌∙◌, append_assoc, codes}
use Rattle.std.specs.Fmt.{decimal, signed_decimal}
use Rattle.std.specs.List.{join_with_byte}
use Rattle.serde_json.proofs.OnLiterals.{serde_json_on_literals}
use Rattle.serde_json.specs.Data.{Data, array, number}
use Rattle.serde_json.specs.Find.{of_integer}
use Rattle.serde_json.specs.View.{items_of}
use Rattle.serde_json.specs.Written.{compact_text, items_text, has_float, items_have_float}
use Rattle.rls_ident.specs.declared.tuple.Tuple.{Tuple}
use Rattle.rls_ident.specs.declared.tuple.Tuple.TheVariants.{Low, At, High}
use Rattle.rls_ident.specs.declared.epoch_name.EpochName.{EpochName}
use Rattle.rls_ident.specs.declared.epoch_name.EpochName.TheVariants.{Origin, Of}
use Rattle.rls_report.specs.Listing.{json_list, json_tuple, json_name, json_run, ids_text, tuple_data, name_data, run_data, ids_data}

-- this is the text of the data, which holds no float
abbrev pub Writes : Data → List ℕ → Type 0
Writes d text = (compact_text d ≡ text) × (has_float d ≡ false)

-- ---- lists

module _ {X : Type 0} (data_of : X → Data) (text_of : X → List ℕ) (one : (x : X) → Writes (data_of x) (text_of x)) where
  later : (x : X) (xs : List X) → items_text true (items_of (map data_of (x ∷ xs))) ≡ 44 ∷ join_with_byte 44 (map text_of (x ∷ xs)) ++ 93 ∷ []
  later x [] = ap (λ (bytes : List ℕ). 44 ∷ bytes ++ 93 ∷ []) (one x).0
  later x (y ∷ xs) =
      ap₂ (λ (bytes : List ℕ) (others : List ℕ). 44 ∷ bytes ++ others) (one x).0 (later y xs) ∙ ap (λ (bytes : List ℕ). 44 ∷ bytes) (sym (append_assoc (text_of x) (44 ∷ join_with_byte 44 (map text_of (y ∷ xs))) (93 ∷ [])))

  no_float : (xs : List X) → items_have_float (items_of (map data_of xs)) ≡ false
  no_float [] = refl
  no_float (x ∷ xs) = rw ((one x).1, no_float xs) refl

  first_text : (xs : List X) → compact_text (array (items_of (map data_of xs))) ≡ json_list (map text_of xs)
  first_text [] = refl
  first_text (x ∷ []) = ap (λ (bytes : List ℕ). 91 ∷ bytes ++ 93 ∷ []) (one x).0
  first_text (x ∷ y ∷ xs) =
      ap₂ (λ (bytes : List ℕ) (others : List ℕ). 91 ∷ bytes ++ others) (one x).0 (later y xs) ∙ ap (λ (bytes : List ℕ). 91 ∷ bytes) (sym (append_assoc (text_of x) (44 ∷ join_with_byte 44 (map text_of (y ∷ xs))) (93 ∷ [])))

  pub list_writes : (xs : List X) → Writes (array (items_of (map data_of xs))) (json_list (map text_of xs))
  list_writes xs = (first_text xs, no_float xs)

-- ---- numbers

signed_writes : (z : ℤ) → Writes (number (of_integer z)) (signed_decimal z)
signed_writes (pos n) = (refl, refl)
signed_writes (negsuc n) = (refl, refl)

tuple_writes : (t : Tuple) → Writes (tuple_data t) (json_tuple t)
unfolding serde_json_on_literals
tuple_writes Low = (refl, refl)
tuple_writes (At p r s o) = (rw (signed_writes o).0 (simp append_assoc refl), rw (signed_writes o).1 refl)
tuple_writes High = (refl, refl)

name_writes : (e : EpochName) → Writes (name_data e) (json_name e)
unfolding serde_json_on_literals
name_writes Origin = (refl, refl)
name_writes (Of r s) = (simp append_assoc refl, refl)

run_writes : (r : List Tuple × ℕ) → Writes (run_data r) (json_run r)
unfolding serde_json_on_literals
run_writes r =
    let first = list_writes tuple_data json_tuple tuple_writes r.0 in
    (ap (λ (list : List ℕ). codes "{\"first\":" ++ (list ++ (codes ",\"length\":" ++ (decimal r.1 ++ codes "}")))) first.0, rw first.1 refl)

pub ids_listed : (epoch : EpochName) (runs : List (List Tuple × ℕ)) → (has_float (ids_data epoch runs) ≡ false) × (compact_text (ids_data epoch runs) ++ 10 ∷ [] ≡ ids_text epoch runs)
unfolding ids_text serde_json_on_literals
ids_listed epoch runs =
    let name = name_writes epoch in
    let list = list_writes run_data json_run run_writes runs in
    (rw (name.1, list.1) refl, ap₂ (λ (first : List ℕ) (second : List ℕ). (codes "{\"epoch\":" ++ (first ++ (codes ",\"runs\":" ++ (second ++ codes "}")))) ++ 10 ∷ []) name.0 list.0 ∙ simp append_assoc refl)

-- the line, piece by piece
pub pieces_listed : (epoch : EpochName) (runs : List (List Tuple × ℕ)) (a b c d e : List ℕ) → a ≡ codes "{\"epoch\":" → b ≡ a ++ json_name epoch → c ≡ b ++ codes ",\"runs\":[" → d ≡ c ++ join_with_byte 44 (map json_run runs) → e ≡ d ++ codes "]}\n" → e ≡ ids_text epoch runs
unfolding ids_text
pieces_listed epoch runs a b c d e f g h i j =
    let one : b ≡ codes "{\"epoch\":" ++ json_name epoch = g ∙ ap (λ (bytes : List ℕ). bytes ++ json_name epoch) f in
    let two : c ≡ (codes "{\"epoch\":" ++ json_name epoch) ++ codes ",\"runs\":[" = h ∙ ap (λ (bytes : List ℕ). bytes ++ codes ",\"runs\":[") one in
    let list = join_with_byte 44 (map json_run runs) in
    let three : d ≡ ((codes "{\"epoch\":" ++ json_name epoch) ++ codes ",\"runs\":[") ++ list = i ∙ ap (λ (bytes : List ℕ). bytes ++ list) two in
    j ∙ ap (λ (bytes : List ℕ). bytes ++ codes "]}\n") three ∙ simp append_assoc refl
