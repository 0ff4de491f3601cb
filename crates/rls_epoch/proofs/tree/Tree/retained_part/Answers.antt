use Rattle.std.proofs.Common.{◌≡◌, ℕ, suc, List, ◌∷◌, ◌++◌, take, drop, length, ap, ◌∙◌, subst, arith}
use Rattle.rls_ident.specs.declared.epoch_name.EpochName.{EpochName}
use Rattle.rls_rename.specs.Tree.{greatest}
use Rattle.rls_rename.specs.Keeping.{reached}
use Rattle.rls_epoch.specs.declared.placed.Placed.{Placed}
use Rattle.rls_epoch.specs.Marks.{AreNumbered, kept_names, kept_sum}
use Rattle.rls_epoch.specs.Seen.{nodes_of}
use Rattle.rls_epoch.proofs.Left.{former_retained, names_retained}
use Rattle.rls_epoch.proofs.Shrinking.{NumberedFor, written}
use Rattle.rls_epoch.proofs.tree.Tree.retained_part.Goals as goal

-- the numbers that the marks have in the end
module _ (c : goal.After-drop-marks-2) where
  abbrev ps : List Placed
  ps = c.args.self.now.nodes.placed

  abbrev xs : List ℕ
  xs = c.number_needed-number.new.marks

  abbrev needed : List EpochName
  needed = reached (record { top = c.args.self.now.nodes.top; nodes = nodes_of ps }) c.args.stable.now ++ c.args.marked.now

  numbers : AreNumbered c.args.self.now.nodes.top ps xs c.number_needed-number.result (greatest c.args.self.now.nodes.top (nodes_of ps)) needed
  numbers = subst (λ (zs : List ℕ). NumberedFor c.args.self.now.nodes.top ps zs xs c.number_needed-number.result c.args.stable.now) c.as_mut_slice.ensures.value c.number_needed-number.ensures.needed c.args.marked.now c.in_ok-marks.ensures.named

  as_many : length xs ≡ length c.in_ok-marks.marks.items
  as_many = let m = c.as_mut_slice.ensures.value in omega arith

  whole : length xs ≡ suc (length ps)
  whole = as_many ∙ c.in_ok-marks.ensures.whole

  all : (zs : List ℕ) → zs ≡ take c.in_ok-marks.marks.len (xs ++ drop (length xs) c.in_ok-marks.marks.items) → zs ≡ xs
  all zs e = e ∙ written xs c.in_ok-marks.marks.items c.in_ok-marks.marks.len (omega arith) as_many

pub returns-clause-names : goal.returns-clause-names
returns-clause-names c =
    let order = c.args.self.now.order.items in
    c.in_ok-names.ensures.names
    ∙ (ap (λ (zs : List ℕ). c.epoch_of-first.result ∷ kept_names (ps c) zs order) (all c c.as_slice.result.now c.as_slice.ensures.value)
    ∙ (ap (λ (f : EpochName). f ∷ kept_names (ps c) (xs c) order) c.epoch_of-first.ensures.name
    ∙ names_retained c.args.self.now.nodes.top (ps c) order c.count-count.ensures.laid c.args.self.now.order_is (xs c) c.number_needed-number.result c.number_needed-number.ensures.within (whole c) (greatest c.args.self.now.nodes.top (nodes_of (ps c))) (needed c) (numbers c)))

pub returns-clause-former : goal.returns-clause-former
returns-clause-former c =
    c.former_kept-former.ensures.former
    ∙ (ap (λ (zs : List ℕ). kept_sum (drop 1 zs) (ps c)) (all c c.as_slice-2.result.now c.as_slice-2.ensures.value)
    ∙ former_retained c.args.self.now.nodes.top (ps c) c.args.self.now.order.items c.count-count.ensures.laid c.args.self.now.order_is (xs c) c.number_needed-number.result c.number_needed-number.ensures.within (whole c) (greatest c.args.self.now.nodes.top (nodes_of (ps c))) (needed c) (numbers c))
