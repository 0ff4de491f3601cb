-- Replicas that show the same.
use Rattle.std.specs.Prelude.{◌≡◌}
use Rattle.rls_seen.specs.Seen.{Seen, text_over, idents_over, greatest_over}

-- the same text with the same identifiers, and so with the same runs, at the same greatest epoch
pub record ShowsSame (r s : Seen) : Type 0 where
  pub greatest : greatest_over r ≡ greatest_over s
  pub text : text_over r ≡ text_over s
  pub idents : idents_over r ≡ idents_over s
