-- Worked examples of operations and messages as bytes, by computation.
use Rattle.std.specs.Prelude.{◌≡◌, ℕ, ◌+◌, pos, List, [], ◌∷◌, ◌++◌, take, drop, length, refl, Result, Ok, Err, codes, map, zero, suc}
use Rattle.rls_ident.specs.declared.tuple.Tuple.TheVariants.{At}
use Rattle.rls_ident.specs.declared.epoch_name.EpochName.TheVariants.{Origin}
use Rattle.rls_ops.specs.declared.op.Op.{Op}
use Rattle.rls_ops.specs.declared.op.Body.{Body}
use Rattle.rls_ops.specs.declared.op.Body.TheVariants.{Insert, Delete}
use Rattle.rls_ops.specs.declared.message.Message.{Message}
use Rattle.rls_ops.specs.Spelling.{op_bytes, message_in_form, message_bytes}
use Rattle.rls_codec.specs.Reading.{op_from, message_of}
use Rattle.rls_codec.specs.Computing.{computing}
use Rattle.rls_codec.proofs.Hex.{hex}

abbrev op_of : Body → Op
op_of b = record { author = 0; seq = 1; context = 0 ∷ 0 ∷ []; epoch = Origin; body = b }

abbrev hello : Op
hello = op_of (Insert (At 2147483647 0 1 (pos 0) ∷ []) (codes "hello"))

abbrev message : ℕ → List Op → Message
message n ops = record { group = 7; members = 2; from = 0; vector = n ∷ 0 ∷ []; ops = ops }

abbrev pub empty_message : List ℕ
empty_message = hex "524c534d 03 0000000000000007 00000002 00000000 00000000 00000000 00000000"

abbrev pub hello_message : List ℕ
hello_message = hex "524c534d 03 0000000000000007 00000002 00000000 00000001 00000000 00000001 00000000 00000001 00000000 00000000 00 00 00000001 01 7fffffff 00000000 00000001 00000000 00000005 68656c6c6f"

has_33_bytes : length empty_message ≡ 33
has_33_bytes = refl

has_81_bytes : length hello_message ≡ 81
has_81_bytes = refl

messages_written : (message_bytes (message 0 []) ≡ empty_message) × (message_bytes (message 1 (hello ∷ [])) ≡ hello_message)
unfolding computing
messages_written = (refl, refl)

messages_read : (message_of empty_message ≡ Ok (message 0 [])) × (message_of hello_message ≡ Ok (message 1 (hello ∷ [])))
unfolding computing
messages_read = (refl, refl)

-- the 81 bytes with another byte at this place
abbrev with_byte : ℕ → ℕ → List ℕ
with_byte i b = take i hello_message ++ b ∷ drop (i + 1) hello_message

-- the message in the older forms
spells_older : map (λ form. message_in_form form (message 1 (hello ∷ []))) (1 ∷ 2 ∷ []) ≡ with_byte 4 1 ∷ with_byte 4 2 ∷ []
unfolding computing
spells_older = refl

reads_older : map (λ form. message_of (with_byte 4 form)) (1 ∷ 2 ∷ []) ≡ Ok (message 1 (hello ∷ [])) ∷ Ok (message 1 (hello ∷ [])) ∷ []
unfolding computing
reads_older = refl

-- the place of a fault, or 1000
abbrev place_of : {A : Type 0} → Result A ℕ → ℕ
place_of (Ok x) = 1000
place_of (Err at) = at

abbrev counts_from : ℕ → ℕ → List ℕ
counts_from i zero = []
counts_from i (suc n) = i ∷ counts_from (suc i) n

-- the message cut at each length from 0 on
cuts_of_81 : map (λ n. place_of (message_of (take n hello_message))) (counts_from 0 82) ≡ 0 ∷ 0 ∷ 0 ∷ 0 ∷ 4 ∷ 5 ∷ 5 ∷ 5 ∷ 5 ∷ 5 ∷ 5 ∷ 5 ∷ 5 ∷ 13 ∷ 13 ∷ 13 ∷ 13 ∷ 17 ∷ 17 ∷ 17 ∷ 17 ∷ 21 ∷ 21 ∷ 21 ∷ 21 ∷ 25 ∷ 25 ∷ 25 ∷ 25 ∷ 29 ∷ 29 ∷ 29 ∷ 29 ∷ 33 ∷ 33 ∷ 33 ∷ 33 ∷ 37 ∷ 37 ∷ 37 ∷ 37 ∷ 41 ∷ 41 ∷ 41 ∷ 41 ∷ 45 ∷ 45 ∷ 45 ∷ 45 ∷ 49 ∷ 50 ∷ 51 ∷ 51 ∷ 51 ∷ 51 ∷ 55 ∷ 56 ∷ 56 ∷ 56 ∷ 56 ∷ 60 ∷ 60 ∷ 60 ∷ 60 ∷ 64 ∷ 64 ∷ 64 ∷ 64 ∷ 68 ∷ 68 ∷ 68 ∷ 68 ∷ 72 ∷ 72 ∷ 72 ∷ 72 ∷ 76 ∷ 76 ∷ 76 ∷ 76 ∷ 76 ∷ 1000 ∷ []
unfolding computing
cuts_of_81 = refl

one_byte_more : message_of (hello_message ++ 0 ∷ []) ≡ Err 81
unfolding computing
one_byte_more = refl

-- a fifth kind of operation
kind_4 : message_of (with_byte 50 4) ≡ Err 50
unfolding computing
kind_4 = refl

forms : map (λ form. place_of (message_of (with_byte 4 form))) (counts_from 0 5) ≡ 4 ∷ 1000 ∷ 1000 ∷ 1000 ∷ 4 ∷ []
unfolding computing
forms = refl

-- the magic text, no members, 65 members, a sender that is no member, the kind of an epoch, of a tuple at the end, an offset that is too great, a byte that is no UTF-8
other_faults : map (λ (p : ℕ × ℕ). place_of (message_of (with_byte p.0 p.1))) ((3, 0) ∷ (16, 0) ∷ (16, 65) ∷ (20, 2) ∷ (49, 2) ∷ (55, 0) ∷ (55, 2) ∷ (68, 64) ∷ (68, 192) ∷ (68, 191) ∷ (78, 255) ∷ []) ≡ 0 ∷ 13 ∷ 13 ∷ 17 ∷ 49 ∷ 55 ∷ 55 ∷ 68 ∷ 1000 ∷ 68 ∷ 76 ∷ []
unfolding computing
other_faults = refl

-- a deletion by member 1 with these bytes of its runs
abbrev deletion : List ℕ → List ℕ
deletion runs = hex "00000001 00000001 00000000 00000000 00 01" ++ runs

abbrev fault_of_runs : List ℕ → ℕ
fault_of_runs runs = place_of (op_from 2 (deletion runs) 0)

two_runs : op_from 2 (deletion (hex "00000002 00000001 01 00000005 00000001 00000001 00000000 00000001 00000001 01 00000005 00000001 00000001 00000002 00000002")) 0
    ≡ Ok (record { author = 1; seq = 1; context = 0 ∷ 0 ∷ []; epoch = Origin; body = Delete ((At 5 1 1 (pos 0) ∷ []) ∷ (At 5 1 1 (pos 2) ∷ []) ∷ (At 5 1 1 (pos 3) ∷ []) ∷ []) }, 72)
unfolding computing
two_runs = refl

-- 14 + 4 for each member + 25 for each run
deletion_bytes : length (op_bytes (record { author = 1; seq = 1; context = 0 ∷ 0 ∷ []; epoch = Origin; body = Delete ((At 5 1 1 (pos 0) ∷ []) ∷ (At 5 1 1 (pos 2) ∷ []) ∷ []) })) ≡ 22 + 25 + 25
unfolding computing
deletion_bytes = refl

-- two runs that touch, that fall, that overlap; a run of none; a run past the greatest offset
runs_refused : map fault_of_runs
    (hex "00000002 00000001 01 00000005 00000001 00000001 00000000 00000001 00000001 01 00000005 00000001 00000001 00000001 00000001"
    ∷ hex "00000002 00000001 01 00000005 00000001 00000001 00000000 00000001 00000001 01 00000004 00000001 00000001 00000001 00000001"
    ∷ hex "00000001 00000001 01 00000005 00000001 00000001 00000000 00000000"
    ∷ hex "00000001 00000001 01 00000005 00000001 00000001 3fffffff 00000002" ∷ [])
    ≡ 47 ∷ 47 ∷ 43 ∷ 43 ∷ []
unfolding computing
runs_refused = refl

leave : op_from 2 (7 ∷ deletion []) 1 ≡ Err 19
unfolding computing
leave = refl

-- the message of 33 bytes cut at each length, and with one byte more
cuts_of_33 : map (λ n. place_of (message_of (take n (empty_message ++ 0 ∷ [])))) (counts_from 0 35) ≡ 0 ∷ 0 ∷ 0 ∷ 0 ∷ 4 ∷ 5 ∷ 5 ∷ 5 ∷ 5 ∷ 5 ∷ 5 ∷ 5 ∷ 5 ∷ 13 ∷ 13 ∷ 13 ∷ 13 ∷ 17 ∷ 17 ∷ 17 ∷ 17 ∷ 21 ∷ 21 ∷ 21 ∷ 21 ∷ 25 ∷ 25 ∷ 25 ∷ 25 ∷ 29 ∷ 29 ∷ 29 ∷ 29 ∷ 1000 ∷ 33 ∷ []
unfolding computing
cuts_of_33 = refl
