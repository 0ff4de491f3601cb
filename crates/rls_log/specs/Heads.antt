-- What is known of an operation without its body.
use Rattle.std.specs.Prelude.{◌≡◌, ℕ, Bool, List, length, is_some, not}
use Rattle.rls_ops.specs.declared.op.Op.{Op}
use Rattle.rls_ops.specs.declared.op.Body.{Body}
use Rattle.rls_ops.specs.declared.op.Body.TheVariants as body
use Rattle.rls_ops.specs.Rows.{covers}
use Rattle.rls_ops.specs.Shapes.{shape_fault}
use Rattle.rls_log.specs.declared.head.OpHead.{OpHead}
use Rattle.rls_log.specs.declared.head.OpKind.{OpKind}
use Rattle.rls_log.specs.declared.head.OpKind.TheVariants as kind

-- what a body does
abbrev pub kind_in : Body → OpKind
kind_in (body.Insert first text) = kind.Insert
kind_in (body.Delete targets) = kind.Delete
kind_in (body.Rename former) = kind.Rename
kind_in body.Leave = kind.Leave

-- the operation has the right shape among as many members as its context counts
abbrev pub is_shaped : Op → Bool
is_shaped o = not (is_some (shape_fault (length o.context) o))

-- the vector covers the operation of which the head tells
abbrev pub is_head_covered : List ℕ → OpHead → Bool
is_head_covered v h = covers v h.author h.seq

-- the head tells what it tells of this operation
pub record IsHeadOf (h : OpHead) (o : Op) : Type 0 where
  pub author : h.author ≡ o.author
  pub seq : h.seq ≡ o.seq
  pub epoch : h.epoch ≡ o.epoch
  pub members : h.members ≡ length o.context
  pub kind : h.kind ≡ kind_in o.body
  pub shaped : h.is_shaped ≡ is_shaped o
