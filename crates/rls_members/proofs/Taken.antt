-- A message that a member takes.
use Rattle.std.proofs.Common.{◌≡◌, ℕ, List, Some, sym, subst}
use Rattle.std.specs.Prelude.{slice_get}
use Rattle.rls_ident.specs.Lists.{IsIn}
use Rattle.rls_ident.proofs.Members.{get_in}
use Rattle.rls_members.specs.Members.{MembersSeen}
use Rattle.rls_members.specs.Running.{IsGivenTo}

-- it was sent, so it may be taken
pub may_take : (w : MembersSeen) (number : ℕ) (words : List (List ℕ)) (given message : List ℕ) → given ≡ message → slice_get w.sent number ≡ Some message → IsGivenTo w words (Some given)
may_take w number words given message is at = λ e. subst (λ (bytes : List ℕ). IsIn bytes w.sent) (sym is) (get_in w.sent number message at)
