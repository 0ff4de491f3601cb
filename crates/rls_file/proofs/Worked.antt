-- Worked examples of files, by computation.
use Rattle.std.specs.Prelude.{◌≡◌, ℕ, zero, suc, ◌+◌, pos, List, [], ◌∷◌, ◌++◌, take, drop, length, refl, Option, Some, None, Result, Ok, Err, codes, map}
use Rattle.rls_ident.specs.declared.tuple.Tuple.TheVariants.{At}
use Rattle.rls_ident.specs.declared.epoch_name.EpochName.TheVariants.{Origin}
use Rattle.rls_ops.specs.declared.op.Op.{Op}
use Rattle.rls_ops.specs.declared.op.Body.{Body}
use Rattle.rls_ops.specs.declared.op.Body.TheVariants.{Insert}
use Rattle.rls_file.specs.Computing.{computing}
use Rattle.rls_model.specs.declared.parts.Parts.{Parts}
use Rattle.rls_model.specs.History.{Accepted, History, Fresh, Then}
use Rattle.rls_model.specs.Receiving.{State}
use Rattle.rls_model.specs.Parts.{parts}
use Rattle.rls_parts.specs.Rules.{Broken}
use Rattle.rls_file.specs.Files.{place_of_broken, journal_bytes, snapshot_bytes, file_bytes, Content, Journal, Snapshot}
use Rattle.rls_file.specs.ReadingFiles.{file_of}
use Rattle.rls_codec.proofs.Hex.{hex}

abbrev op_of : ℕ → List ℕ → Body → Op
op_of seq context b = record { author = 0; seq = seq; context = context; epoch = Origin; body = b }

abbrev hello : List ℕ → Op
hello context = op_of 1 context (Insert (At 2147483647 0 1 (pos 0) ∷ []) (codes "hello"))

abbrev journal_74 : List ℕ
journal_74 = hex "524c5346 01 0000000000000007 00000001 00000000 00000001 00 00000000 00000001 00000000 00 00 00000001 01 7fffffff 00000000 00000001 00000000 00000005 68656c6c6f 00000000"

abbrev journal_115 : ℕ → List ℕ
journal_115 offset = hex "524c5346 01 0000000000000007 00000001 00000000 00000002 00 00000000 00000001 00000000 00 00 00000001 01 7fffffff 00000000 00000001 00000000 00000005 68656c6c6f 00 00000000 00000002 00000001 00 00 00000001 01 7fffffff 00000000 00000001 000000" ++ (offset ∷ []) ++ hex "00000001 21 00000000"

lengths : (length journal_74 ∷ length (journal_115 5) ∷ []) ≡ 74 ∷ 115 ∷ []
lengths = refl

abbrev history_74 : History
history_74 = Then (Fresh 7 0 1) (Accepted (hello (0 ∷ [])))

abbrev history_115 : History
history_115 = Then history_74 (Accepted (op_of 2 (1 ∷ []) (Insert (At 2147483647 0 1 (pos 5) ∷ []) (codes "!"))))

-- nothing waits after this history
abbrev journal : History → State
journal H = record { history = H; waiting = [] }

writes_74 : journal_bytes (journal history_74) ≡ journal_74
unfolding computing
writes_74 = refl

reads_74 : file_of journal_74 ≡ Ok (Journal (journal history_74))
unfolding computing
reads_74 = refl

reads_115 : file_of (journal_115 5) ≡ Ok (Journal (journal history_115))
unfolding computing
reads_115 = refl

writes_115 : journal_bytes (journal history_115) ≡ journal_115 5
unfolding computing
writes_115 = refl

broken_event : file_of (journal_115 4) ≡ Err 71
unfolding computing
broken_event = refl

-- ---- snapshots

abbrev hello_parts : ℕ → Parts
hello_parts low = record {
  group = 7;
  members = 2;
  me = 0;
  vector = 1 ∷ 0 ∷ [];
  rows = (0 ∷ 0 ∷ []) ∷ [];
  stems = record { author = 0; s0 = 1; low = pos low; next = 5 } ∷ [];
  epochs = record { name = Origin; parent = None; former = [] } ∷ [];
  text = record { run = (At 2147483647 0 1 (pos 0) ∷ [], 5); text = codes "hello" } ∷ [];
  log = hello (0 ∷ 0 ∷ []) ∷ [];
  held = [];
  left = [];
}

abbrev file_160 : List ℕ
file_160 = hex "524c5346 04 0000000000000007 00000002 00000000 0000000100000000 0000000000000000 00000000 00000001 00000001 00000000 00000005 00000000 00000001 00 00000001 00000001 01 7fffffff 00000000 00000001 00000000 00000005 00000005 68656c6c6f 00000001 00000000 00000001 0000000000000000 00 00 00000001 01 7fffffff 00000000 00000001 00000000 00000005 68656c6c6f 00000000"

abbrev file_156 : List ℕ
file_156 = hex "524c5346 03 0000000000000007 00000002 00000000 0000000100000000 0000000000000000 00000001 00000001 00000000 00000005 00000000 00000001 00 00000001 00000001 01 7fffffff 00000000 00000001 00000000 00000005 00000005 68656c6c6f 00000001 00000000 00000001 0000000000000000 00 00 00000001 01 7fffffff 00000000 00000001 00000000 00000005 68656c6c6f 00000000"

abbrev file_152 : List ℕ
file_152 = hex "524c5346 02 0000000000000007 00000002 00000000 0000000100000000 0000000000000000 00000001 00000001 00000005 00000000 00000001 00 00000001 00000001 01 7fffffff 00000000 00000001 00000000 00000005 00000005 68656c6c6f 00000001 00000000 00000001 0000000000000000 00 00 00000001 01 7fffffff 00000000 00000001 00000000 00000005 68656c6c6f 00000000"

snapshot_lengths : (length file_160 ∷ length file_156 ∷ length file_152 ∷ []) ≡ 160 ∷ 156 ∷ 152 ∷ []
snapshot_lengths = refl

writes_160 : file_bytes (hello_parts 0) ≡ file_160
unfolding computing
writes_160 = refl

spells_156 : snapshot_bytes 3 (hello_parts 0) ≡ file_156
unfolding computing
spells_156 = refl

spells_152 : snapshot_bytes 2 (hello_parts 0) ≡ file_152
unfolding computing
spells_152 = refl

-- the parts that a file says, and nothing for a journal
abbrev parts_of : Result Content ℕ → Option Parts
parts_of (Ok (Snapshot form p)) = Some p
parts_of _ = None

abbrev place_of : Result Content ℕ → ℕ
place_of (Ok c) = 1000
place_of (Err at) = at

reads_them : map (λ bytes. parts_of (file_of bytes)) (file_160 ∷ file_156 ∷ file_152 ∷ []) ≡ Some (hello_parts 0) ∷ Some (hello_parts 0) ∷ Some (hello_parts 0) ∷ []
unfolding computing
reads_them = refl

-- where the rules 1 to 7 have their places, at their first entries
abbrev first_of : ℕ → Broken
first_of rule = record { rule = rule; index = 0 }

places : map (λ rule. place_of_broken 4 (hello_parts 0) (first_of rule)) (1 ∷ 2 ∷ 3 ∷ 4 ∷ 5 ∷ 6 ∷ 7 ∷ []) ≡ 29 ∷ 45 ∷ 65 ∷ 70 ∷ 108 ∷ 104 ∷ 61 ∷ []
unfolding computing
places = refl

places_in_3 : map (λ rule. place_of_broken 3 (hello_parts 0) (first_of rule)) (1 ∷ 2 ∷ 3 ∷ 4 ∷ 5 ∷ 6 ∷ 7 ∷ []) ≡ 29 ∷ 41 ∷ 61 ∷ 66 ∷ 104 ∷ 100 ∷ 57 ∷ []
unfolding computing
places_in_3 = refl

places_in_2 : map (λ rule. place_of_broken 2 (hello_parts 0) (first_of rule)) (1 ∷ 2 ∷ 3 ∷ 4 ∷ 5 ∷ 6 ∷ 7 ∷ []) ≡ 29 ∷ 41 ∷ 57 ∷ 62 ∷ 100 ∷ 96 ∷ 53 ∷ []
unfolding computing
places_in_2 = refl

-- the file with another low byte of the stem's next offset: 4 leaves a character without an offset, 0 is out of range
abbrev with_byte : List ℕ → ℕ → ℕ → List ℕ
with_byte bytes i b = take i bytes ++ b ∷ drop (i + 1) bytes

broken_files : map (λ bytes. place_of (file_of bytes)) (with_byte file_160 56 4 ∷ with_byte file_156 52 4 ∷ with_byte file_152 48 4 ∷ with_byte file_160 56 0 ∷ with_byte file_156 52 0 ∷ with_byte file_152 48 0 ∷ []) ≡ 70 ∷ 66 ∷ 62 ∷ 45 ∷ 41 ∷ 41 ∷ []
unfolding computing
broken_files = refl

-- ---- small files

abbrev file_66 : List ℕ
file_66 = hex "524c5346 04 0000000000000007 00000002 00000000 0000000000000000 0000000000000000 00000000 0000000000000000 00000001 00 00000000 00000000 00000000"

abbrev file_62 : List ℕ
file_62 = hex "524c5346 02 0000000000000007 00000002 00000000 0000000000000000 0000000000000000 0000000000000000 00000001 00 00000000 00000000 00000000"

abbrev file_50 : List ℕ
file_50 = hex "524c5346 04 0000000000000007 00000001 00000000 ffffffff 00000000 00000000 00000001 00 00000000 00000000 00000000"

abbrev file_46 : List ℕ
file_46 = hex "524c5346 02 0000000000000007 00000001 00000000 ffffffff 00000000 00000001 00 00000000 00000000 00000000"

small_lengths : map (λ (bs : List ℕ). length bs) (file_66 ∷ file_62 ∷ file_50 ∷ file_46 ∷ []) ≡ 66 ∷ 62 ∷ 50 ∷ 46 ∷ []
small_lengths = refl

-- the parts of a fresh replica, and of a sole member whose numbers are spent
abbrev fresh_parts : Parts
fresh_parts = parts (journal (Fresh 7 0 2))

abbrev spent_parts : Parts
spent_parts = record (parts (journal (Fresh 7 0 1))) { vector = 4294967295 ∷ [] }

-- of the newest form, and of the two before it
abbrev files_of : Parts → List (List ℕ)
files_of p = file_bytes p ∷ snapshot_bytes 2 p ∷ snapshot_bytes 3 p ∷ []

abbrev small_files : List (List ℕ)
small_files = file_66 ∷ file_62 ∷ with_byte file_62 4 3 ∷ file_50 ∷ file_46 ∷ with_byte file_46 4 3 ∷ []

writes_small : files_of fresh_parts ++ files_of spent_parts ≡ small_files
unfolding computing
writes_small = refl

reads_small : map (λ bytes. parts_of (file_of bytes)) small_files ≡ Some fresh_parts ∷ Some fresh_parts ∷ Some fresh_parts ∷ Some spent_parts ∷ Some spent_parts ∷ Some spent_parts ∷ []
unfolding computing
reads_small = refl

-- cut off, empty, and with one byte more; with a form that there isn't
small_places : map (λ bytes. place_of (file_of bytes)) (take 30 file_66 ∷ take 30 file_62 ∷ [] ∷ (file_66 ++ 0 ∷ []) ∷ with_byte file_66 4 0 ∷ with_byte file_66 4 5 ∷ []) ≡ 29 ∷ 29 ∷ 0 ∷ 66 ∷ 4 ∷ 4 ∷ []
unfolding computing
small_places = refl

-- the file of the newest form in the place of the journal
file_96 : length (file_bytes (parts (journal history_74))) ≡ 96
unfolding computing
file_96 = refl

reads_96 : file_of (file_bytes (parts (journal history_74))) ≡ Ok (Snapshot 4 (parts (journal history_74)))
unfolding computing
reads_96 = refl

abbrev counts_from : ℕ → ℕ → List ℕ
counts_from i zero = []
counts_from i (suc n) = i ∷ counts_from (suc i) n

cuts_of_160 : map (λ n. place_of (file_of (take n file_160))) (counts_from 0 161) ≡ 0 ∷ 0 ∷ 0 ∷ 0 ∷ 4 ∷ 5 ∷ 5 ∷ 5 ∷ 5 ∷ 5 ∷ 5 ∷ 5 ∷ 5 ∷ 13 ∷ 13 ∷ 13 ∷ 13 ∷ 17 ∷ 17 ∷ 17 ∷ 17 ∷ 21 ∷ 21 ∷ 21 ∷ 21 ∷ 25 ∷ 25 ∷ 25 ∷ 25 ∷ 29 ∷ 29 ∷ 29 ∷ 29 ∷ 33 ∷ 33 ∷ 33 ∷ 33 ∷ 37 ∷ 37 ∷ 37 ∷ 37 ∷ 41 ∷ 41 ∷ 41 ∷ 41 ∷ 45 ∷ 45 ∷ 45 ∷ 45 ∷ 49 ∷ 49 ∷ 49 ∷ 49 ∷ 53 ∷ 53 ∷ 53 ∷ 53 ∷ 57 ∷ 57 ∷ 57 ∷ 57 ∷ 61 ∷ 61 ∷ 61 ∷ 61 ∷ 65 ∷ 66 ∷ 66 ∷ 66 ∷ 66 ∷ 70 ∷ 70 ∷ 70 ∷ 70 ∷ 74 ∷ 75 ∷ 75 ∷ 75 ∷ 75 ∷ 79 ∷ 79 ∷ 79 ∷ 79 ∷ 83 ∷ 83 ∷ 83 ∷ 83 ∷ 87 ∷ 87 ∷ 87 ∷ 87 ∷ 91 ∷ 91 ∷ 91 ∷ 91 ∷ 95 ∷ 95 ∷ 95 ∷ 95 ∷ 99 ∷ 99 ∷ 99 ∷ 99 ∷ 99 ∷ 104 ∷ 104 ∷ 104 ∷ 104 ∷ 108 ∷ 108 ∷ 108 ∷ 108 ∷ 112 ∷ 112 ∷ 112 ∷ 112 ∷ 116 ∷ 116 ∷ 116 ∷ 116 ∷ 120 ∷ 120 ∷ 120 ∷ 120 ∷ 124 ∷ 125 ∷ 126 ∷ 126 ∷ 126 ∷ 126 ∷ 130 ∷ 131 ∷ 131 ∷ 131 ∷ 131 ∷ 135 ∷ 135 ∷ 135 ∷ 135 ∷ 139 ∷ 139 ∷ 139 ∷ 139 ∷ 143 ∷ 143 ∷ 143 ∷ 143 ∷ 147 ∷ 147 ∷ 147 ∷ 147 ∷ 151 ∷ 151 ∷ 151 ∷ 151 ∷ 151 ∷ 156 ∷ 156 ∷ 156 ∷ 156 ∷ 1000 ∷ []
unfolding computing
cuts_of_160 = refl

cuts_of_156 : map (λ n. place_of (file_of (take n file_156))) (counts_from 0 157) ≡ 0 ∷ 0 ∷ 0 ∷ 0 ∷ 4 ∷ 5 ∷ 5 ∷ 5 ∷ 5 ∷ 5 ∷ 5 ∷ 5 ∷ 5 ∷ 13 ∷ 13 ∷ 13 ∷ 13 ∷ 17 ∷ 17 ∷ 17 ∷ 17 ∷ 21 ∷ 21 ∷ 21 ∷ 21 ∷ 25 ∷ 25 ∷ 25 ∷ 25 ∷ 29 ∷ 29 ∷ 29 ∷ 29 ∷ 33 ∷ 33 ∷ 33 ∷ 33 ∷ 37 ∷ 37 ∷ 37 ∷ 37 ∷ 41 ∷ 41 ∷ 41 ∷ 41 ∷ 45 ∷ 45 ∷ 45 ∷ 45 ∷ 49 ∷ 49 ∷ 49 ∷ 49 ∷ 53 ∷ 53 ∷ 53 ∷ 53 ∷ 57 ∷ 57 ∷ 57 ∷ 57 ∷ 61 ∷ 62 ∷ 62 ∷ 62 ∷ 62 ∷ 66 ∷ 66 ∷ 66 ∷ 66 ∷ 70 ∷ 71 ∷ 71 ∷ 71 ∷ 71 ∷ 75 ∷ 75 ∷ 75 ∷ 75 ∷ 79 ∷ 79 ∷ 79 ∷ 79 ∷ 83 ∷ 83 ∷ 83 ∷ 83 ∷ 87 ∷ 87 ∷ 87 ∷ 87 ∷ 91 ∷ 91 ∷ 91 ∷ 91 ∷ 95 ∷ 95 ∷ 95 ∷ 95 ∷ 95 ∷ 100 ∷ 100 ∷ 100 ∷ 100 ∷ 104 ∷ 104 ∷ 104 ∷ 104 ∷ 108 ∷ 108 ∷ 108 ∷ 108 ∷ 112 ∷ 112 ∷ 112 ∷ 112 ∷ 116 ∷ 116 ∷ 116 ∷ 116 ∷ 120 ∷ 121 ∷ 122 ∷ 122 ∷ 122 ∷ 122 ∷ 126 ∷ 127 ∷ 127 ∷ 127 ∷ 127 ∷ 131 ∷ 131 ∷ 131 ∷ 131 ∷ 135 ∷ 135 ∷ 135 ∷ 135 ∷ 139 ∷ 139 ∷ 139 ∷ 139 ∷ 143 ∷ 143 ∷ 143 ∷ 143 ∷ 147 ∷ 147 ∷ 147 ∷ 147 ∷ 147 ∷ 152 ∷ 152 ∷ 152 ∷ 152 ∷ 1000 ∷ []
unfolding computing
cuts_of_156 = refl

cuts_of_152 : map (λ n. place_of (file_of (take n file_152))) (counts_from 0 153) ≡ 0 ∷ 0 ∷ 0 ∷ 0 ∷ 4 ∷ 5 ∷ 5 ∷ 5 ∷ 5 ∷ 5 ∷ 5 ∷ 5 ∷ 5 ∷ 13 ∷ 13 ∷ 13 ∷ 13 ∷ 17 ∷ 17 ∷ 17 ∷ 17 ∷ 21 ∷ 21 ∷ 21 ∷ 21 ∷ 25 ∷ 25 ∷ 25 ∷ 25 ∷ 29 ∷ 29 ∷ 29 ∷ 29 ∷ 33 ∷ 33 ∷ 33 ∷ 33 ∷ 37 ∷ 37 ∷ 37 ∷ 37 ∷ 41 ∷ 41 ∷ 41 ∷ 41 ∷ 45 ∷ 45 ∷ 45 ∷ 45 ∷ 49 ∷ 49 ∷ 49 ∷ 49 ∷ 53 ∷ 53 ∷ 53 ∷ 53 ∷ 57 ∷ 58 ∷ 58 ∷ 58 ∷ 58 ∷ 62 ∷ 62 ∷ 62 ∷ 62 ∷ 66 ∷ 67 ∷ 67 ∷ 67 ∷ 67 ∷ 71 ∷ 71 ∷ 71 ∷ 71 ∷ 75 ∷ 75 ∷ 75 ∷ 75 ∷ 79 ∷ 79 ∷ 79 ∷ 79 ∷ 83 ∷ 83 ∷ 83 ∷ 83 ∷ 87 ∷ 87 ∷ 87 ∷ 87 ∷ 91 ∷ 91 ∷ 91 ∷ 91 ∷ 91 ∷ 96 ∷ 96 ∷ 96 ∷ 96 ∷ 100 ∷ 100 ∷ 100 ∷ 100 ∷ 104 ∷ 104 ∷ 104 ∷ 104 ∷ 108 ∷ 108 ∷ 108 ∷ 108 ∷ 112 ∷ 112 ∷ 112 ∷ 112 ∷ 116 ∷ 117 ∷ 118 ∷ 118 ∷ 118 ∷ 118 ∷ 122 ∷ 123 ∷ 123 ∷ 123 ∷ 123 ∷ 127 ∷ 127 ∷ 127 ∷ 127 ∷ 131 ∷ 131 ∷ 131 ∷ 131 ∷ 135 ∷ 135 ∷ 135 ∷ 135 ∷ 139 ∷ 139 ∷ 139 ∷ 139 ∷ 143 ∷ 143 ∷ 143 ∷ 143 ∷ 143 ∷ 148 ∷ 148 ∷ 148 ∷ 148 ∷ 1000 ∷ []
unfolding computing
cuts_of_152 = refl
