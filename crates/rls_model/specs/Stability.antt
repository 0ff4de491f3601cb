-- What every member that hasn't left has accepted.
-- Why: docs/DECISIONS.md, 20.
use Rattle.std.specs.Prelude.{ℕ, zero, suc, Bool, not, ◌||◌, List, [], ◌∷◌, ◌++◌, ◌==◌, filter, if◌then◌else◌}
use Rattle.rls_ops.specs.declared.op.Op.{Op}
use Rattle.rls_ops.specs.Rows.{is_news}
pub use Rattle.rls_ops.specs.Rows.{least_of, is_covered}
use Rattle.rls_model.specs.History.{History, me_of, members_of, ops, count, count_of, has_left, row}

-- the member's row is waited for
abbrev pub is_awaited : History → ℕ → Bool
is_awaited H a = (a == me_of H) || not (has_left H a)

-- the awaited rows of the members below n
abbrev pub awaited_rows : History → ℕ → List (List ℕ)
awaited_rows H zero = []
awaited_rows H (suc n) = awaited_rows H n ++ (if is_awaited H n then row H n ∷ [] else [])

-- member by member, the least count of the own row and the rows of all other members that haven't left
unfoldable pub stable : History → List ℕ
stable H = least_of (count H) (awaited_rows H (members_of H))

-- the operations that aren't stable, in order
unfoldable pub unstable : History → List Op
unstable H = filter (λ o. not (is_covered (stable H) o)) (ops H)

-- an acknowledgement is counted
abbrev pub is_counted : History → ℕ → List ℕ → Bool
is_counted H a v = is_news (me_of H) (count_of H a) (row H a) a v
