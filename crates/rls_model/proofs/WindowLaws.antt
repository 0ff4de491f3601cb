-- The laws of windows and of dropping.
use Rattle.std.proofs.Common.{subst}
use Rattle.rls_ident.specs.Lists.{IsIn}
use Rattle.rls_rename.specs.Tree as tree
use Rattle.rls_rename.specs.Keeping.{kept_nodes}
use Rattle.rls_rename.proofs.Windows.{of_window, window_of}
use Rattle.rls_rename.proofs.Smallest.{part_is}
use Rattle.rls_model.specs.History.{History, Accepted, Acknowledged}
use Rattle.rls_rename.specs.Tree.{Epochs}
use Rattle.rls_model.specs.Legal.{IsLegal}
use Rattle.rls_model.specs.Stability.{stable, unstable}
use Rattle.rls_model.specs.Retained.{retained}
use Rattle.rls_model.specs.Laws.{all_epochs, KeepsRetained, KeptOn, ToldByWindow, Dropped}
use Rattle.rls_model.proofs.OneTree as one_tree
use Rattle.rls_model.proofs.Dropping.{Keeps, greatest_same, within_same, retained_same, unstable_retained, fits_retained, needed_over, over_kept, drop_keeps_at}
use Rattle.rls_model.proofs.Later.{window_step, whole_keeps}

keeps_of : (H : History) (M : Epochs) → IsLegal H → KeepsRetained H M → Keeps H M.top M.nodes
keeps_of H M l k = record { window = window_of M (all_epochs H) (one_tree.law H l) k.0; keeps = k.1 }

of_keeps : (H : History) (M : Epochs) → Keeps H M.top M.nodes → KeepsRetained H M
of_keeps H M k = (of_window M (all_epochs H) k.window, k.keeps)

pub kept_on : KeptOn
kept_on H l = (
  of_keeps H (all_epochs H) (whole_keeps H l),
  λ M o m k. of_keeps _ _ (window_step H (Accepted o) m M.top M.nodes (keeps_of H M l k)),
  λ M a v m k. of_keeps _ _ (window_step H (Acknowledged a v) m M.top M.nodes (keeps_of H M l k)),
)

pub told_by_window : ToldByWindow
told_by_window H M l k =
    let w = keeps_of H M l k in (
      greatest_same H M.top M.nodes l w,
      λ v h. within_same H M.top M.nodes v l w h,
      retained_same H M.top M.nodes l w,
      λ o p. k.1 o.epoch (unstable_retained H l o p),
      λ o a f. k.1 o.epoch (fits_retained H o l a f),
    )

pub dropped : Dropped
dropped H M l k =
    let w = keeps_of H M l k in
    let g = tree.greatest M.top M.nodes in
    let es = needed_over M.top M.nodes (stable H) (unstable H) in
    let all = over_kept H M.top M.nodes l w in
    let r = part_is M k.0.0 g es all in
    let d = drop_keeps_at H M.top M.nodes l w r.0 r.1 r.2 in (
      subst (KeepsRetained H) r.3 (of_keeps H (record { top = r.0; nodes = kept_nodes M.nodes g es }) d.1),
      subst (λ (E : Epochs). IsIn E.top (retained H)) r.3 d.0,
    )
