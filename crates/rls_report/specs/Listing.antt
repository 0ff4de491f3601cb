-- The listing of identifiers, as one line of JSON.
use Rattle.std.specs.Prelude.{ℕ, List, [], ◌∷◌, ◌++◌, codes, map}
use Rattle.std.specs.List.{join_with_byte, concat}
use Rattle.std.specs.Fmt.{decimal, signed_decimal}
use Rattle.serde_json.specs.Data.{Data, null, number, string, array, object, unsigned, no_items, item, no_members, member}
use Rattle.serde_json.specs.Find.{of_integer}
use Rattle.serde_json.specs.View.{items_of}
use Rattle.rls_ident.specs.declared.tuple.Tuple.{Tuple}
use Rattle.rls_ident.specs.declared.tuple.Tuple.TheVariants.{Low, At, High}
use Rattle.rls_ident.specs.declared.epoch_name.EpochName.{EpochName}
use Rattle.rls_ident.specs.declared.epoch_name.EpochName.TheVariants.{Origin, Of}
use Rattle.rls_runs.specs.Runs.{runs_of}
use Rattle.rls_model.specs.Document.{idents}
use Rattle.rls_model.specs.Epochs.{greatest}
use Rattle.rls_model.specs.History.{History}
use Rattle.rls_seen.specs.Seen.{Seen, greatest_over, idents_over}

-- ---- the text

-- parts between brackets, with a comma between two
abbrev pub json_list : List (List ℕ) → List ℕ
json_list parts = 91 ∷ join_with_byte 44 parts ++ 93 ∷ []

abbrev pub json_tuple : Tuple → List ℕ
json_tuple Low = codes "\"low\""
json_tuple (At p r s o) = json_list (decimal p ∷ decimal r ∷ decimal s ∷ signed_decimal o ∷ [])
json_tuple High = codes "\"high\""

abbrev pub json_name : EpochName → List ℕ
json_name Origin = codes "null"
json_name (Of r s) = json_list (decimal r ∷ decimal s ∷ [])

abbrev pub json_run : List Tuple × ℕ → List ℕ
json_run r = concat (codes "{\"first\":" ∷ json_list (map json_tuple r.0) ∷ codes ",\"length\":" ∷ decimal r.1 ∷ codes "}" ∷ [])

-- an epoch and runs
unfoldable pub ids_text : EpochName → List (List Tuple × ℕ) → List ℕ
ids_text epoch runs = concat (codes "{\"epoch\":" ∷ json_name epoch ∷ codes ",\"runs\":" ∷ json_list (map json_run runs) ∷ codes "}\n" ∷ [])

-- of a history: its greatest epoch and the maximal runs of its identifiers
abbrev pub ids_of : History → List ℕ
ids_of H = ids_text (greatest H) (runs_of (idents H))

-- and the same over what a replica consists of
abbrev pub ids_over : Seen → List ℕ
ids_over s = ids_text (greatest_over s) (runs_of (idents_over s))

-- ---- the same as data

abbrev pub tuple_data : Tuple → Data
tuple_data Low = string (codes "low")
tuple_data (At p r s o) = array (item (number (unsigned p)) (item (number (unsigned r)) (item (number (unsigned s)) (item (number (of_integer o)) no_items))))
tuple_data High = string (codes "high")

abbrev pub ident_data : List Tuple → Data
ident_data x = array (items_of (map tuple_data x))

abbrev pub name_data : EpochName → Data
name_data Origin = null
name_data (Of r s) = array (item (number (unsigned r)) (item (number (unsigned s)) no_items))

abbrev pub run_data : List Tuple × ℕ → Data
run_data r = object (member (codes "first") (ident_data r.0) (member (codes "length") (number (unsigned r.1)) no_members))

abbrev pub ids_data : EpochName → List (List Tuple × ℕ) → Data
ids_data epoch runs = object (member (codes "epoch") (name_data epoch) (member (codes "runs") (array (items_of (map run_data runs))) no_members))
