use Rattle.std.proofs.Common.{vec_len, ◌≡◌, ℕ, suc, List, length, drop, replicate, sym, ap, ◌∙◌, subst, arith}
use Rattle.std.proofs.lemmas.List.{length-replicate}
use Rattle.rls_rename.specs.Keeping.{kept_part}
use Rattle.rls_rename.specs.Tree.{epoch_cmp}
use Rattle.rls_ident.specs.declared.epoch_name.EpochName.{EpochName}
use Rattle.rls_epoch.specs.declared.placed.Placed.{Placed}
use Rattle.rls_epoch.specs.Links.{epoch_at}
use Rattle.rls_epoch.specs.Marks.{kept_placed, kept_sum}
use Rattle.rls_epoch.specs.Maxima.{AreMaxima}
use Rattle.rls_epoch.specs.Seen.{EpochsSeen, former_sum, marks_of, nodes_of}
use Rattle.rls_epoch.proofs.Compacting.{kept_placed_fewer}
use Rattle.rls_epoch.proofs.Shrinking.{IsLeft, left_of, written}
use Rattle.rls_epoch.proofs.Whole.{marks_none}
use Rattle.rls_epoch.proofs.epochs.Epochs.keep.Goals as goal
use Rattle.rls_epoch.proofs.epochs.Epochs.keep.Goals.{After-deref_mut-2}

pub keep-requires-clause-numbered : goal.keep-requires-clause-numbered
keep-requires-clause-numbered c =
    let xs = c.number_needed-number.new.marks in
    let ms = c.self.inside.marks in
    let lx : length xs ≡ length ms.items = let m = c.deref_mut.ensures.value in omega arith in
    let l = left_of c.self.invariant c.deref_mut.result.now xs c.number_needed-number.result c.args.stable.now c.deref_mut.ensures.value (omega arith) c.number_needed-number.ensures.within c.number_needed-number.ensures.needed in
    rw (c.deref-2.ensures.value, written xs ms.items ms.len (omega arith) lx) (_, _, l.numbers)

-- what is left
module _ (c : After-deref_mut-2) where
  abbrev top : EpochName
  top = c.self.inside.tree.nodes.top

  abbrev ps : List Placed
  ps = c.self.inside.tree.nodes.placed

  abbrev xs : List ℕ
  xs = c.number_needed-number.new.marks

  abbrev new : List Placed
  new = kept_placed xs (drop 1 xs) ps

  as_many : length xs ≡ length c.self.inside.marks.items
  as_many = let m = c.deref_mut.ensures.value in omega arith

  left : IsLeft top ps c.self.inside.marks.items xs c.number_needed-number.result c.args.stable.now
  left =
      left_of c.self.invariant c.deref_mut.result.now xs c.number_needed-number.result c.args.stable.now c.deref_mut.ensures.value (omega arith) c.number_needed-number.ensures.within c.number_needed-number.ensures.needed

  nodes : c.keep.new.self.nodes.placed ≡ new
  nodes =
      c.keep.ensures.placed ∙ ap (λ (zs : List ℕ). kept_placed zs (drop 1 zs) ps) (c.deref-2.ensures.value ∙ written xs c.self.inside.marks.items c.self.inside.marks.len (omega arith) as_many)

  sum : c.former_kept-self-inside.result ≡ kept_sum (drop 1 xs) ps
  sum =
      c.former_kept-self-inside.ensures.former ∙ ap (λ (zs : List ℕ). kept_sum (drop 1 zs) ps) (c.deref.ensures.value ∙ written xs c.self.inside.marks.items c.self.inside.marks.len (omega arith) as_many)

  short : vec_len c.truncate.new.self ≡ length c.keep.new.self.nodes.placed
  short =
      let few = kept_placed_fewer xs (drop 1 xs) ps in
      let n = ap length nodes in
      let w = c.self.invariant.maxima_are.whole in
      let k = c.count-count.ensures.count in
      let l = c.truncate.ensures.len in
      omega (arith, n, k, l)

pub find_maxima-requires : goal.find_maxima-requires
find_maxima-requires c = record { whole = c.deref_mut-2.ensures.len ∙ short c }

pub invariant_of-self : goal.invariant_of-self
invariant_of-self c =
    let x : After-deref_mut-2 = c.before.before.before.before.before.before.before in
    let maxima = c.find_maxima.new.maxima in
    let t = c.keep.new.self in
    let each = c.find_maxima.ensures.maxima.whole in
    let size = short x in
    let filled : c.fill.new.self.items ≡ replicate (vec_len c.truncate-2.new.self) 0 = rw c.none.ensures.mark at (c.fill.ensures.items (λ y e. e)) in
    let cut : vec_len c.truncate-2.new.self ≡ suc (length t.nodes.placed) =
    let n = ap length (nodes x) in let few = kept_placed_fewer (xs x) (drop 1 (xs x)) (ps x) in let k = c.count-count.ensures.count in let l = c.truncate-2.ensures.len in let m = c.self.invariant.marks_whole in omega (arith, n, k, l, m) in
    record {
      laid = c.count-count.ensures.laid;
      maxima_are = subst (AreMaxima (epoch_cmp (nodes_of t.nodes.placed)) t.nodes.top t.nodes.placed) (sym (written maxima c.truncate.new.self.items c.truncate.new.self.len (omega arith) (omega arith))) c.find_maxima.ensures.maxima;
      marks_whole = ap length filled ∙ (length-replicate (vec_len c.truncate-2.new.self) 0 ∙ cut);
      sum = sum x ∙ ((left x).sum ∙ sym (ap (λ (zs : List Placed). former_sum (nodes_of zs)) (nodes x)));
    }

pub returns-clause-epochs : goal.returns-clause-epochs
returns-clause-epochs c =
    let x : After-deref_mut-2 = c.before.before.before.before.before.before.before in
    ap (λ (f : EpochName). record { top = f; nodes = nodes_of c.keep.new.self.nodes.placed }) c.keep.ensures.top
    ∙ (ap (λ (zs : List Placed). record { top = epoch_at (top x) (ps x) c.number_needed-number.result; nodes = nodes_of zs }) (nodes x) ∙ ((left x).part_is ∙ ap (λ (z : EpochsSeen). kept_part z.epochs c.args.stable.now z.marks) c.self.view_is))

pub returns-clause-marks : goal.returns-clause-marks
returns-clause-marks c =
    ap (marks_of c.keep.new.self.nodes.top c.keep.new.self.nodes.placed) (rw c.none.ensures.mark at (c.fill.ensures.items (λ y e. e)))
    ∙ marks_none c.keep.new.self.nodes.top c.keep.new.self.nodes.placed (vec_len c.truncate-2.new.self)
