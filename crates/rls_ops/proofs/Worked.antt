-- Worked examples of operations, by computation.
use Rattle.std.specs.Prelude.{◌≡◌, ◌+◌, pos, [], ◌∷◌, refl, Some, None, codes, true, false}
use Rattle.rls_ident.specs.declared.tuple.Tuple.TheVariants.{At}
use Rattle.rls_ident.specs.declared.epoch_name.EpochName.TheVariants.{Origin, Of}
use Rattle.rls_ident.specs.Tuples.{spot_cmp, tuple_cmp}
use Rattle.rls_ops.specs.declared.op.Op.{Op}
use Rattle.rls_ops.specs.declared.op.Body.{Body}
use Rattle.rls_ops.specs.declared.op.Body.TheVariants.{Insert, Delete, Leave}
use Rattle.rls_ops.specs.declared.op.Shape.TheVariants.{Author, Context, EmptyBody, OffsetEnd}
use Rattle.rls_ops.specs.Shapes.{shape_fault}
use Rattle.rls_ops.specs.Same.{op_eq}
use Rattle.rls_ops.specs.Sizes.{op_size, head_size}

-- member 0's first operation, of two members
abbrev first_op : Body → Op
first_op b = record { author = 0; seq = 1; context = 0 ∷ 0 ∷ []; epoch = Origin; body = b }

abbrev hello : Op
hello = first_op (Insert (At 2147483647 0 1 (pos 0) ∷ []) (codes "hello"))

hello_size : op_size hello ≡ 48
hello_size = refl

-- a message with this operation alone
message_size : head_size 2 + op_size hello ≡ 81
message_size = refl

-- and without
empty_message_size : head_size 2 ≡ 33
empty_message_size = refl

-- a deletion of one run of one-tuple identifiers
deletion_size : op_size (first_op (Delete ((At 5 1 1 (pos 0) ∷ []) ∷ (At 5 1 1 (pos 1) ∷ []) ∷ []))) ≡ 22 + 25
unfolding spot_cmp tuple_cmp
deletion_size = refl

well_shaped : shape_fault 2 hello ≡ None
well_shaped = refl

no_member : shape_fault 0 hello ≡ Some Author
no_member = refl

-- the number is 0, a count is missing, and the own count isn't one less than the number
no_number : shape_fault 2 (record hello { seq = 0 }) ≡ Some Context
no_number = refl

short_context : shape_fault 2 (record hello { context = 0 ∷ [] }) ≡ Some Context
short_context = refl

wrong_count : shape_fault 2 (record hello { context = 1 ∷ 0 ∷ [] }) ≡ Some Context
wrong_count = refl

no_characters : shape_fault 2 (first_op (Insert (At 5 0 1 (pos 0) ∷ []) [])) ≡ Some EmptyBody
no_characters = refl

-- a leave has nothing in it and is well shaped
leave_shaped : shape_fault 2 (first_op Leave) ≡ None
leave_shaped = refl

last_offset : shape_fault 2 (first_op (Insert (At 5 0 1 (pos 1073741823) ∷ []) (codes "a"))) ≡ None
last_offset = refl

past_last_offset : shape_fault 2 (first_op (Insert (At 5 0 1 (pos 1073741823) ∷ []) (codes "ab"))) ≡ Some OffsetEnd
past_last_offset = refl

same_op : op_eq hello hello ≡ true
unfolding spot_cmp tuple_cmp
same_op = refl

other_epoch : op_eq hello (record hello { epoch = Of 0 1 }) ≡ false
unfolding spot_cmp tuple_cmp
other_epoch = refl
