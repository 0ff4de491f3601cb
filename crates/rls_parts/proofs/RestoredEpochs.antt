-- The epochs of the replica that has given parts.
use Rattle.std.proofs.Common.{◌≡◌, ℕ, suc, ◌+◌, ◌*◌, ◌<◌, ◌≤◌, slice_index, true, List, [], ◌∷◌, length, refl, sym, ap, ◌∙◌, subst, arith, inl, inr, Option, Some, None}
use Rattle.std.specs.Prelude.{pos, sum_by}
use Rattle.std.proofs.lemmas.Int.{ints}
use Rattle.std.proofs.lemmas.List.Sums.{sum_by-cons}
use Rattle.rls_ident.specs.declared.limits.TheConstants.{IDENTIFIERS}
use Rattle.rls_ident.specs.declared.tuple.Tuple.{Tuple}
use Rattle.rls_ident.specs.declared.epoch_name.EpochName.{EpochName}
use Rattle.rls_ident.specs.declared.epoch_name.EpochName.TheVariants.{Origin, Of}
use Rattle.rls_ident.specs.EpochNames.{is_within}
use Rattle.rls_ident.specs.Identifiers.{last_of}
use Rattle.rls_ident.specs.Lists.{IsIn}
use Rattle.rls_ident.proofs.Members.{in_all, in_any, in_map, le_is}
use Rattle.rls_runs.specs.Runs.{AreIdents, run_idents}
use Rattle.rls_rename.specs.Tree.{Node, name_of, is_kept}
use Rattle.rls_rename.proofs.Former.{former_of}
use Rattle.rls_model.specs.declared.parts.EpochPart.{EpochPart}
use Rattle.rls_model.specs.declared.parts.Stem.{Stem}
use Rattle.rls_model.specs.declared.parts.TextRun.{TextRun}
use Rattle.rls_model.specs.declared.parts.Parts.{Parts}
use Rattle.rls_model.specs.Stems.{stem_of, has_used}
use Rattle.rls_model.proofs.StemLists.{used_from}
use Rattle.rls_seen.specs.Sane.{AreStems, IsUsed, IsCounted, IsCovered, AreEpochs}
use Rattle.rls_seen.proofs.StemNumbers.{found_stem}
use Rattle.rls_parts.specs.Given.{AreEpochParts}
use Rattle.rls_parts.specs.Reading.{top_name, with_node, nodes_onto, nodes_of, epochs_of, names_of, in_epoch, stable_of_parts}
use Rattle.rls_parts.specs.Rules.{epoch_fault, may_be_top, has_offsets, is_covered_by, has_stable, text_fault, is_text_of, is_used_everywhere, is_used_tuple}
use Rattle.rls_parts.specs.Building.{IsEntry}
use Rattle.rls_parts.proofs.EpochLists.{IsNodeOf, IsBuilt, opened_name, first_top, each_entry, built, are_nodes}
use Rattle.rls_parts.proofs.Passing.{text_each}

-- ---- the tree

-- entries that pass their rule, of which the first has no parent
pub record IsTreeOf (p : Parts) (es : List EpochPart) : Type 0 where
  pub first : EpochPart
  pub rest : List EpochPart
  pub is : es ≡ first ∷ rest
  pub top : may_be_top p first.name ≡ true
  pub behind : epoch_fault p (first ∷ []) rest ≡ None
  pub tree : IsBuilt p es first rest (nodes_of es)

pub tree_of : (p : Parts) (f : EpochPart) (fs : List EpochPart) → f.parent ≡ None → epoch_fault p [] (f ∷ fs) ≡ None → IsTreeOf p (f ∷ fs)
tree_of p f fs n h = let r = first_top p f fs h in record { first = f; rest = fs; is = refl; top = r.0; behind = r.1; tree = built p f fs n h }

pub tree_given : (p : Parts) (es : List EpochPart) → AreEpochParts es → epoch_fault p [] es ≡ None → IsTreeOf p es
tree_given p [] g h = absurd g
tree_given p (f ∷ fs) g h = tree_of p f fs g.0 h

-- the kept epochs are those of the list
pub kept_named : (p : Parts) (es : List EpochPart) → IsTreeOf p es → (g : EpochName) → is_kept (top_name es) (nodes_of es) g ≡ true → IsIn g (names_of es)
kept_named p es t g k = subst (λ xs. IsIn g (names_of xs)) (sym t.is) (t.tree.kept g k)

pub named_kept : (p : Parts) (es : List EpochPart) → IsTreeOf p es → (g : EpochName) → IsIn g (names_of es) → is_kept (top_name es) (nodes_of es) g ≡ true
named_kept p es t g q = t.tree.named g (subst (λ xs. IsIn g (names_of xs)) t.is q)

-- ---- what is known of an epoch

counted_top : (p : Parts) → length p.vector ≡ p.members → (e : EpochName) → may_be_top p e ≡ true → IsCounted p.vector e
counted_top p v Origin h = tt
counted_top p v (Of r s) h = counted_opened (opened_name p (Of r s) h)
  where
    counted_opened : (a : ℕ) × (b : ℕ) × (Of r s ≡ Of a b) × (a < p.members) × (0 < b) × (b ≤ slice_index p.vector a) → IsCounted p.vector (Of r s)
    counted_opened w = subst (IsCounted p.vector) (sym w.2) (let l = w.3 in omega arith, w.4, w.5)

counted_entry : (p : Parts) → length p.vector ≡ p.members → (earlier : List EpochPart) (e : EpochPart) → IsEntry p earlier e → IsCounted p.vector e.name
counted_entry p v earlier e c = subst (IsCounted p.vector) (sym c.named) (let l = c.member in omega arith, c.begun, c.counted)

pub counted_named : (p : Parts) → length p.vector ≡ p.members → (es : List EpochPart) → IsTreeOf p es → (g : EpochName) → IsIn g (names_of es) → IsCounted p.vector g
counted_named p v es t g q = go (subst (λ xs. IsIn g (names_of xs)) t.is q)
  where
    go : IsIn g (names_of (t.first ∷ t.rest)) → IsCounted p.vector g
    go (inl h) = subst (IsCounted p.vector) h (counted_top p v t.first.name t.top)
    go (inr h) =
        let r = in_map (λ (e : EpochPart). e.name) g t.rest h in
        let c = each_entry p t.first [] t.rest t.behind r.0 r.1 in
        subst (IsCounted p.vector) r.2 (counted_entry p v c.0 r.0 c.1)

has_stem : (o : Option Stem) (n : ℕ) → has_offsets o n ≡ true → (t : Stem) × (o ≡ Some t) × (n ≤ t.next)
has_stem None n h = absurd (cc)
has_stem (Some t) n h = (t, refl, le_is n t.next h)

covered_by : (v : List ℕ) (ss : List Stem) (n : Node) → AreStems v ss → is_covered_by ss (name_of n.renaming) (length n.renaming.former) ≡ true → IsCovered ss n
covered_by v ss n a h j l =
    let r = n.renaming.replica in
    let s = n.renaming.seq in
    let w = has_stem (stem_of ss r s) (length n.renaming.former) h in
    let t = w.0 in
    let m = found_stem v ss r s t a w.1 in
    let low = m.low in
    let next = w.2 in
    ap (λ o. has_used o (pos j)) w.1 ∙ used_from t (pos j) (omega (arith, ints)) (omega (arith, ints))

-- what the rule says of the entry of a node
node_entry : (p : Parts) (es : List EpochPart) → IsTreeOf p es → (n : Node) → IsIn n (nodes_of es) → (e : EpochPart) × IsIn e es × IsNodeOf es e n × ((earlier : List EpochPart) × IsEntry p earlier e)
node_entry p es t n q = let r = t.tree.made n q in (r.0, subst (IsIn r.0) (sym t.is) (inr r.1), r.2, r.3)

pub epochs_restored : (p : Parts) → length p.vector ≡ p.members → AreStems p.vector p.stems → ((e : EpochPart) → IsIn e p.epochs → AreIdents e.former) → IsTreeOf p p.epochs → AreEpochs p.vector p.stems (epochs_of p)
epochs_restored p v a f t = record {
  nodes = are_nodes (nodes_of p.epochs) t.tree.once
      (λ n q. let r = node_entry p p.epochs t n q in
      let l = r.3.1.some in
      let e = ap length r.2.former in
      former_of n.renaming.former (omega arith) (subst AreIdents (sym r.2.former) (f r.0 r.1)));
  below = t.tree.below;
  counted = λ g k. counted_named p v p.epochs t g (kept_named p p.epochs t g k);
  few = λ n q. let r = node_entry p p.epochs t n q in let l = r.3.1.few in let e = ap length r.2.former in omega arith;
  covered = λ n q.
      let r = node_entry p p.epochs t n q in
      let c = r.3.1 in
      covered_by p.vector p.stems n a
      (ap (λ x. is_covered_by p.stems x (length n.renaming.former)) (r.2.named ∙ c.named) ∙ (ap (λ xs. is_covered_by p.stems (Of c.replica c.seq) (length xs)) r.2.former ∙ c.covered));
}

-- ---- some epoch is stable

pub within_restored : (p : Parts) → IsTreeOf p p.epochs → has_stable p ≡ true → (e : EpochName) × (is_kept (top_name p.epochs) (nodes_of p.epochs) e ≡ true) × (is_within e (stable_of_parts p) ≡ true)
within_restored p t h =
    let r = in_any (λ e. is_within e (stable_of_parts p)) (names_of p.epochs) h in
    (r.0, named_kept p p.epochs t r.0 r.1, r.2)

-- ---- the last tuple of each identifier was used in each epoch

pub used_restored : (p : Parts) → IsTreeOf p p.epochs → text_fault p 0 p.text ≡ None → (r : TextRun) → IsIn r p.text → (x : List Tuple) → IsIn x (run_idents r.run.0 r.run.1)
    → (f : EpochName) → is_kept (top_name p.epochs) (nodes_of p.epochs) f ≡ true → IsUsed p.stems (in_epoch p f x)
used_restored p t h r q x i f k =
    let a : is_text_of p r ≡ true = text_each p 0 p.text h r q in
    let b = in_all (is_used_everywhere p) x (run_idents r.run.0 r.run.1) a i in
    in_all (λ g. is_used_tuple p (last_of (in_epoch p g x))) f (names_of p.epochs) b (kept_named p p.epochs t f k)

-- ---- how many former identifiers

with_length : (all : List EpochPart) (e : EpochPart) (x : EpochName) (o : Option ℕ) (older : List Node) → length (with_node all e x o older) ≤ suc (length older)
with_length all e Origin o older = omega arith
with_length all e (Of r s) None older = omega arith
with_length all e (Of r s) (Some k) older = omega arith

onto_length : (all : List EpochPart) (older : List Node) (es : List EpochPart) → length (nodes_onto all older es) ≤ length older + length es
onto_length all older [] = omega arith
onto_length all older (e ∷ es) =
    let h = onto_length all (with_node all e e.name e.parent older) es in
    let k = with_length all e e.name e.parent older in
    omega arith

sum_few : (m : ℕ) (ns : List Node) → ((n : Node) → IsIn n ns → length n.renaming.former ≤ m) → sum_by (λ (n : Node). length n.renaming.former) ns ≤ length ns * m
sum_few m [] f = omega arith
sum_few m (n ∷ ns) f =
    let a = f n (inl refl) in
    let b = sum_few m ns (λ k q. f k (inr q)) in
    let c = sum_by-cons (λ (k : Node). length k.renaming.former) n ns in
    let d : suc (length ns) * m ≡ m + length ns * m = omega arith in
    omega arith

pub former_restored : (es : List EpochPart) → ((n : Node) → IsIn n (nodes_of es) → length n.renaming.former ≤ IDENTIFIERS) → sum_by (λ (n : Node). length n.renaming.former) (nodes_of es) ≤ length es * IDENTIFIERS
unfolding nodes_of
former_restored es f =
    let a = sum_few IDENTIFIERS (nodes_onto es [] es) f in
    let b = onto_length es [] es in
    omega arith
