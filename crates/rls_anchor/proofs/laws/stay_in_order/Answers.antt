use Rattle.rls_anchor.proofs.Orders.{stay_in_order, stay_in_order_across}
use Rattle.rls_anchor.proofs.laws.stay_in_order.Goals as goal

pub returns : goal.returns
returns c = record { order = stay_in_order; across = stay_in_order_across }
