use Rattle.std.specs.Map.{lookup}
use Rattle.std.specs.Prelude.{nat_eq}
use Rattle.rls_causal.proofs.Opened.{is_none, opened_queues, opened_same}
use Rattle.rls_causal.proofs.held.open.Goals as goal

pub returns-clause-queues : goal.returns-clause-queues
returns-clause-queues c = opened_queues c.args.author c.in_ok-insert_sorted.field-0.0 c.new.result c.args.queues.now.entries c.insert_sorted.new.self.entries c.new.ensures.empty (is_none (lookup (nat_eq c.args.author) c.args.queues.now.entries) c.contains_key.result c.contains_key.ensures c.if-contains_key.false) c.in_ok-insert_sorted.ensures.entries c.requires.queues (c.in_ok-insert_sorted.ensures.sorted c.requires.queues.sorted) c.in_ok-insert_sorted.ensures.unique

pub returns-clause-same : goal.returns-clause-same
returns-clause-same c = opened_same c.args.author c.in_ok-insert_sorted.field-0.0 c.new.result c.args.queues.now.entries c.insert_sorted.new.self.entries c.new.ensures.empty (is_none (lookup (nat_eq c.args.author) c.args.queues.now.entries) c.contains_key.result c.contains_key.ensures c.if-contains_key.false) c.in_ok-insert_sorted.ensures.entries
