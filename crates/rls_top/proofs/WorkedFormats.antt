-- The numbers of docs/FORMATS.md that no worked example of a lower crate has: sizes of parts, limits, words of commands, and bounds of offsets.
use Rattle.std.specs.Prelude.{◌≡◌, ◌+◌, ◌*◌, ◌-ℤ◌, ℕ, true, false, pos, List, [], ◌∷◌, ◌++◌, codes, length, map, refl, Some, None, is_ok}
use Rattle.rls_ident.specs.declared.limits.TheConstants.{CHARACTERS, FILE_BYTES, GREATEST_NUMBER, GREATEST_OFFSET, IDENTIFIERS, INPUT_BYTES, LEAST_OFFSET, MEMBERS, OFFSETS_END, OPERATION_BYTES}
use Rattle.rls_ident.specs.declared.tuple.Tuple.{Tuple}
use Rattle.rls_ident.specs.declared.tuple.Tuple.TheVariants.{At, High, Low}
use Rattle.rls_ident.specs.declared.epoch_name.EpochName.TheVariants.{Of, Origin}
use Rattle.rls_ops.specs.declared.op.Body.TheVariants.{Leave}
use Rattle.rls_ops.specs.Spelling.{ident_bytes, name_bytes, op_bytes, run_bytes, tuple_bytes}
use Rattle.rls_codec.specs.Reading.{run_at}
use Rattle.rls_codec.proofs.Hex.{hex}
use Rattle.rls_top.specs.declared.words.Command.TheVariants.{New, Trial}
use Rattle.rls_top.specs.Computing.{computing}
use Rattle.rls_top.specs.Words.{command_of}

-- ---- sizes

abbrev one : Tuple
one = At 1 2 3 (pos 4)

abbrev sizes : List (List ℕ) → List ℕ
sizes pieces = map (λ (bytes : List ℕ). length bytes) pieces

-- 17 bytes or 1, 4 and the tuples, 4 more, 1 or 9
parts_have : sizes (tuple_bytes one ∷ tuple_bytes Low ∷ tuple_bytes High ∷ ident_bytes (one ∷ []) ∷ ident_bytes (Low ∷ one ∷ []) ∷ run_bytes (one ∷ [], 5) ∷ name_bytes Origin ∷ name_bytes (Of 0 1) ∷ [])
    ≡ 17 ∷ 1 ∷ 1 ∷ 21 ∷ 22 ∷ 25 ∷ 1 ∷ 9 ∷ []
unfolding computing
parts_have = refl

-- 9 bytes, 4 for each of three members, and the name of the epoch, without a body
leave_has : length (op_bytes (record { author = 0; seq = 1; context = 0 ∷ 0 ∷ 0 ∷ []; epoch = Of 1 1; body = Leave })) ≡ 9 + 4 * 3 + 9
unfolding computing
leave_has = refl

-- ---- limits

limits : MEMBERS ∷ OPERATION_BYTES ∷ INPUT_BYTES ∷ FILE_BYTES ∷ CHARACTERS ∷ IDENTIFIERS ∷ GREATEST_NUMBER ∷ OFFSETS_END ∷ []
    ≡ 64 ∷ 16777216 ∷ 67108864 ∷ 268435456 ∷ 1048576 ∷ 4194304 ∷ 4294967295 ∷ 1073741824 ∷ []
limits = refl

offsets : (LEAST_OFFSET ≡ pos 0 -ℤ pos 1073741824) × (GREATEST_OFFSET ≡ pos 1073741823)
offsets = (refl, refl)

-- ---- words

-- the greatest numbers, and one more
numbers : map (λ (ws : List (List ℕ)). command_of ws)
    ((codes "new" ∷ codes "18446744073709551615" ∷ codes "4294967295" ∷ codes "4294967295" ∷ [])
    ∷ (codes "new" ∷ codes "18446744073709551616" ∷ codes "0" ∷ codes "2" ∷ [])
    ∷ (codes "new" ∷ codes "7" ∷ codes "4294967296" ∷ codes "2" ∷ [])
    ∷ (codes "new" ∷ codes "7" ∷ codes "0" ∷ codes "4294967296" ∷ [])
    ∷ (codes "trial" ∷ codes "2147483647" ∷ codes "100000" ∷ [])
    ∷ (codes "trial" ∷ codes "2147483648" ∷ codes "1" ∷ [])
    ∷ (codes "trial" ∷ codes "1" ∷ codes "100001" ∷ [])
    ∷ (codes "send" ∷ codes "01" ∷ [])
    ∷ (codes "send" ∷ codes "+1" ∷ [])
    ∷ (codes "session" ∷ []) ∷ [])
    ≡ Some (New 18446744073709551615 4294967295 4294967295) ∷ None ∷ None ∷ None ∷ Some (Trial 2147483647 100000) ∷ None ∷ None ∷ None ∷ None ∷ None ∷ []
unfolding computing
numbers = refl

-- ---- offsets

-- runs of these lengths, whose identifier ends with this offset, or has a tuple with this offset before its last
abbrev ending : List ℕ → List ℕ → List ℕ
ending offset len = hex "00000001 01 00000001 00000002 00000003" ++ offset ++ len

abbrev inner : List ℕ → List ℕ
inner offset = hex "00000002 01 00000001 00000002 00000003" ++ offset ++ hex "01 00000001 00000002 00000003 00000004 00000001"

-- the least and the greatest last offset, and one beyond; a run up to the greatest one, and one longer; the least and the greatest offset before the
-- last, and one beyond; no tuple, and no character
offsets_read : map (λ (bytes : List ℕ). is_ok (run_at bytes))
    (ending (hex "c0000000") (hex "00000001") ∷ ending (hex "bfffffff") (hex "00000001") ∷ ending (hex "3fffffff") (hex "00000001") ∷ ending (hex "40000000") (hex "00000001")
    ∷ ending (hex "3ffffffe") (hex "00000002") ∷ ending (hex "3fffffff") (hex "00000002")
    ∷ inner (hex "bfffffff") ∷ inner (hex "bffffffe") ∷ inner (hex "3fffffff") ∷ inner (hex "40000000")
    ∷ hex "00000000 00000001" ∷ ending (hex "00000004") (hex "00000000") ∷ [])
    ≡ true ∷ false ∷ true ∷ false ∷ true ∷ false ∷ true ∷ false ∷ true ∷ false ∷ false ∷ false ∷ []
unfolding computing
offsets_read = refl
