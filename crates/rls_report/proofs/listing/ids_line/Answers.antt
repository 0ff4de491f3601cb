use Rattle.std.proofs.Common.{sym, ◌∙◌, string_bytes}
use Rattle.rls_report.proofs.Listed.{ids_listed, pieces_listed}
use Rattle.rls_report.proofs.listing.ids_line.Goals as goal

pub returns-clause-line : goal.returns-clause-line
returns-clause-line c =
    let first = rw c.new-line.ensures.bytes at c.in_ok-push_str.ensures.bytes in
    pieces_listed c.args.epoch c.args.runs.now (string_bytes c.push_str.new.self) (string_bytes c.put_name.new.text) (string_bytes c.push_str-2.new.self) (string_bytes c.put_runs.new.text) (string_bytes c.push_str-3.new.self) first c.in_ok-put_name.ensures.ok c.in_ok-push_str-2.ensures.bytes c.in_ok-put_runs.ensures.ok c.in_ok-push_str-3.ensures.bytes

pub returns-clause-data : goal.returns-clause-data
returns-clause-data c = returns-clause-line c ∙ sym (ids_listed c.args.epoch c.args.runs.now).1
