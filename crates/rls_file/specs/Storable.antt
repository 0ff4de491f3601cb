-- What a journal may hold.
use Rattle.std.specs.Prelude.{◌≡◌, None}
use Rattle.rls_ident.specs.Lists.{IsIn}
use Rattle.rls_ops.specs.declared.op.Op.{Op}
use Rattle.rls_codec.specs.Spelled.{IsSpelled}
use Rattle.rls_model.specs.History.{me_of, members_of}
use Rattle.rls_model.specs.Legal.{IsLegal, IsSound}
use Rattle.rls_model.specs.Receiving.{State, first_ready}
use Rattle.rls_file.specs.FileLaws.{AreSpelled}

-- a legal history of operations that have a spelling, and operations that wait for causes; these are sound, have a spelling, and are
-- of other members
pub record IsStorable (t : State) : Type 0 where
  pub legal : IsLegal t.history
  pub sound : IsSound t
  pub accepted : AreSpelled t.history
  pub waiting : (w : Op) → IsIn w t.waiting → IsSpelled (members_of t.history) w
  pub others : (w : Op) → IsIn w t.waiting → w.author ≡ me_of t.history → ⊥
  pub rest : first_ready t ≡ None
