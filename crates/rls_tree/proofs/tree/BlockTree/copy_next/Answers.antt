use Rattle.std.proofs.Common.{◌≡◌, ◌+◌, ◌-◌, ◌++◌, false, take, drop, sym, ap, ◌∙◌, arith}
use Rattle.std.proofs.lemmas.List.{append-nil}
use Rattle.rls_runs.specs.Entries.{idents_in, without_all}
use Rattle.rls_blocks.specs.Trees.{Piece, entries_of, piece_entries}
use Rattle.rls_tree.proofs.Targets.{part_stays, part_goes, members_less}
use Rattle.rls_tree.proofs.tree.BlockTree.copy_next.Goals as goal

pub returns-then-next-at-clause-entries : goal.returns-then-next-at-clause-entries
returns-then-next-at-clause-entries c =
    let es = entries_of c.args.self.now.blocks in
    let ts = c.args.targets.now in
    let at = c.args.at in
    let n = c.in_ok-gone.gone in
    let own = entries_of c.args.blocks.now.items in
    let m : n ≡ at + n - at = omega arith in
    sym (append-nil own) ∙ ap (λ zs. own ++ zs) (sym (part_goes ts es at n c.in_ok-gone.ensures.targets) ∙ ap (λ k. without_all ts (take k (drop at es))) m)

pub returns-clause-entries : goal.returns-clause-entries
returns-clause-entries c =
    let es = entries_of c.args.self.now.blocks in
    let ts = c.args.targets.now in
    let at = c.args.at in
    let n = c.in_ok-run.run'.1 in
    let own = entries_of c.args.blocks.now.items in
    let len = c.len-len.ensures.len in
    let m : n ≡ at + c.len-len.result - at = omega (arith, len) in
    let stay = part_stays ts es at n (members_less false ts (idents_in es) at at (at + n) c.in_ok-next.next (omega arith) (omega (arith, c.in_ok-run.ensures.most, c.most_of.ensures.most, c.in_ok-next.ensures.order)) c.in_ok-next.ensures.none) in
    c.in_ok-push_block.ensures.shows.entries_are ∙ ap (λ (q : Piece). own ++ piece_entries q) c.new.ensures.block
    ∙ ap (λ zs. own ++ zs) (c.in_ok-run.ensures.entries ∙ sym stay ∙ ap (λ k. without_all ts (take k (drop at es))) m)

pub returns-clause-loose : goal.returns-clause-loose
returns-clause-loose c = c.in_ok-push_block.ensures.shows.loose
