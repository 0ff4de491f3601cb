-- The input, cut into requests.
use Rattle.std.specs.Prelude.{ℕ, ◌+◌, min, List, length, take, drop, nat_le, if◌then◌else◌}
use Rattle.std.specs.List.{position_or_len, before_first}
use Rattle.rls_script.specs.Scripts.{is_line_feed}
use Rattle.rls_session.specs.declared.orders.Order.{Order}
use Rattle.rls_session.specs.declared.orders.Order.TheVariants.{Take, Bad}
use Rattle.rls_session.specs.Orders.{order_of}

-- an order that is whole in its line, or the bytes of a message that came after its line
pub data Request : Type 0 where
  Does : (order : Order) → Request
  Takes : (message : List ℕ) → Request

-- a request and how many bytes it has
pub record Cut : Type 0 where
  pub request : Request
  pub size : ℕ

-- how many bytes the first line has, with its line feed, which the last may lack
abbrev pub line_size : List ℕ → ℕ
line_size bytes = min (position_or_len is_line_feed bytes + 1) (length bytes)

-- the request of an order, if this comes after its line, and how much of that belongs to it. A message that isn't there whole is
-- bad, and takes what there is
abbrev pub cut_after : Order → List ℕ → Cut
cut_after (Take n) rest =
    if nat_le n (length rest) then record { request = Takes (take n rest); size = n }
    else record { request = Does Bad; size = length rest }
cut_after order rest = record { request = Does order; size = 0 }

-- if the line has n bytes
abbrev pub with_line : ℕ → Cut → Cut
with_line n c = record { request = c.request; size = n + c.size }

-- the first request of an input that isn't empty
unfoldable pub cut : List ℕ → Cut
cut bytes = with_line (line_size bytes) (cut_after (order_of (before_first is_line_feed bytes)) (drop (line_size bytes) bytes))
