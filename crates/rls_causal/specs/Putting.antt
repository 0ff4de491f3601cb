-- How an operation is put among those that wait.
use Rattle.std.specs.Prelude.{◌≡◌, false, List, Option, Some, None}
use Rattle.rls_ops.specs.declared.op.Op.{Op}
use Rattle.rls_ops.specs.Same.{op_eq}
use Rattle.rls_ops.specs.Waiting.{waiting_under, with_waiting}
use Rattle.rls_causal.specs.declared.held.Put.{Put}
use Rattle.rls_causal.specs.declared.held.Put.TheVariants.{Added, Same, Forked}

-- the answer to an operation where this one waits under its number, or none does
abbrev pub IsAnswer : Put → Option Op → Op → Type 0
IsAnswer Added w o = w ≡ None
IsAnswer Same w o = w ≡ Some o
IsAnswer (Forked held) w o = (w ≡ Some held.value) × (op_eq held.value o ≡ false)

-- the list where this operation waits under o's number, or none does
abbrev pub put_beside : Option Op → Op → List Op → List Op
put_beside None o W = with_waiting o W
put_beside (Some w) o W = W

-- the list after an operation was put
abbrev pub put_in : Op → List Op → List Op
put_in o W = put_beside (waiting_under W o.author o.seq) o W
