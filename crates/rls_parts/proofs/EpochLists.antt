-- The entries of epochs that pass their rule make a tree.
use Rattle.std.proofs.Common.{◌≡◌, ℕ, zero, suc, ◌<◌, ◌≤◌, ◌&&◌, ◌||◌, nat_le, nat_lt, slice_index, true, false, List, [], ◌∷◌, ◌++◌, length, slice_get, get_or, append-nil, refl, sym, ap, ◌∙◌, subst, arith, inl, inr, ⊎_elim, Option, Some, None, append_assoc, length-append}
use Rattle.std.specs.List.{list_any}
use Rattle.std.proofs.lemmas.List.{map-append}
use Rattle.rls_ident.specs.declared.limits.TheConstants.{IDENTIFIERS}
use Rattle.rls_ident.specs.declared.epoch_name.EpochName.{EpochName}
use Rattle.rls_ident.specs.declared.epoch_name.EpochName.TheVariants.{Origin, Of}
use Rattle.rls_ident.specs.EpochNames.{name_eq}
use Rattle.rls_ident.specs.Lists.{IsIn}
use Rattle.rls_model.proofs.WindowAnswers.{AreNamedOnce}
use Rattle.rls_ident.proofs.Members.{AreOnce, and_left, and_right, any_in, in_left, in_right, in_split, snoc_split, in_map, le_is, lt_is, not_is, not_true, or_left, or_right, or_split}
use Rattle.rls_ident.proofs.Named.{name_eq_is, name_eq_refl}
use Rattle.rls_rename.specs.Renaming.{IsFormer}
use Rattle.rls_rename.specs.Tree.{Node, name_of, is_of, has_node, is_kept, AreNodes, AreBelow}
use Rattle.rls_rename.proofs.Kept.{kept_more}
use Rattle.rls_rename.proofs.Order.{kept_here}
use Rattle.rls_model.specs.declared.parts.EpochPart.{EpochPart}
use Rattle.rls_model.specs.declared.parts.Parts.{Parts}
use Rattle.rls_parts.specs.Reading.{name_or_origin, top_name, with_node, nodes_onto, nodes_of, names_of}
use Rattle.rls_parts.specs.Rules.{epoch_fault, is_epoch_behind, is_new, is_opened, is_place_below, is_former_count, is_covered_by, is_greater, may_be_top}
use Rattle.rls_parts.specs.Building.{IsEntry, AreEntries}
use Rattle.rls_parts.proofs.Passing.{epoch_first}

-- ---- what the rule says of an entry past the first

pub opened_name : (p : Parts) (n : EpochName) → is_opened p n ≡ true → (r : ℕ) × (s : ℕ) × (n ≡ Of r s) × (r < p.members) × (0 < s) × (s ≤ slice_index p.vector r)
opened_name p Origin h = absurd (cc)
opened_name p (Of r s) h =
    let a = nat_lt r p.members in
    let b = nat_lt 0 s in
    let c = nat_le s (slice_index p.vector r) in
    let k = and_left (a && b) c h in
    (r, s, refl, lt_is r p.members (and_left a b k), lt_is 0 s (and_right a b k), le_is s (slice_index p.vector r) (and_right (a && b) c h))

place_of : (i : ℕ) (o : Option ℕ) → is_place_below i o ≡ true → (k : ℕ) × (o ≡ Some k) × (k < i)
place_of i None h = absurd (cc)
place_of i (Some k) h = (k, refl, lt_is k i h)

not_among : (earlier : List EpochPart) (n : EpochName) → is_new earlier n ≡ true → IsIn n (names_of earlier) → ⊥
not_among earlier n h q =
    let r = in_map (λ (e : EpochPart). e.name) n earlier q in
    let a : list_any (λ (f : EpochPart). name_eq f.name n) earlier ≡ true = any_in (λ f. name_eq f.name n) r.0 earlier r.1 (ap (λ m. name_eq m n) r.2 ∙ name_eq_refl n) in
    let b = not_is (list_any (λ (f : EpochPart). name_eq f.name n) earlier) h in
    absurd (cc)

-- but for its order
pub entry_is : (p : Parts) (earlier : List EpochPart) (e : EpochPart)
    → (is_new earlier e.name && is_opened p e.name && is_place_below (length earlier) e.parent && is_former_count (length e.former) && is_covered_by p.stems e.name (length e.former)) ≡ true
    → IsEntry p earlier e
entry_is p earlier e h5 =
    let h4 = and_left _ _ h5 in
    let h3 = and_left _ _ h4 in
    let h2 = and_left _ _ h3 in
    let o = opened_name p e.name (and_right _ _ h2) in
    let k = place_of (length earlier) e.parent (and_right _ _ h3) in
    let n = and_right _ _ h4 in
    record {
      replica = o.0;
      seq = o.1;
      named = o.2;
      member = o.3;
      begun = o.4;
      counted = o.5;
      place = k.0;
      parent = k.1;
      below = k.2;
      new = not_among earlier e.name (and_left _ _ h2);
      some = lt_is 0 (length e.former) (and_left _ _ n);
      few = le_is (length e.former) IDENTIFIERS (and_right _ _ n);
      covered = ap (λ m. is_covered_by p.stems m (length e.former)) (sym o.2) ∙ and_right _ _ h5;
    }

pub behind_is : (p : Parts) (earlier : List EpochPart) (e : EpochPart) → is_epoch_behind p earlier e ≡ true → IsEntry p earlier e
behind_is p earlier e h = entry_is p earlier e (and_left _ _ h)

-- the first entry and one after it
pub first_top : (p : Parts) (e : EpochPart) (es : List EpochPart) → epoch_fault p [] (e ∷ es) ≡ None → (may_be_top p e.name ≡ true) × (epoch_fault p (e ∷ []) es ≡ None)
first_top p e es h = epoch_first p [] e es h

pub next_behind : (p : Parts) (f : EpochPart) (fs : List EpochPart) (e : EpochPart) (es : List EpochPart) → epoch_fault p (f ∷ fs) (e ∷ es) ≡ None → IsEntry p (f ∷ fs) e × (epoch_fault p ((f ∷ fs) ++ e ∷ []) es ≡ None)
next_behind p f fs e es h = let r = epoch_first p (f ∷ fs) e es h in (behind_is p (f ∷ fs) e r.0, r.1)

-- each entry past the first, wherever it stands
pub each_entry : (p : Parts) (f : EpochPart) (fs es : List EpochPart) → epoch_fault p (f ∷ fs) es ≡ None → (e : EpochPart) → IsIn e es → (earlier : List EpochPart) × IsEntry p earlier e
each_entry p f fs [] h e q = absurd q
each_entry p f fs (x ∷ es) h e (inl d) = (f ∷ fs, subst (IsEntry p (f ∷ fs)) d (next_behind p f fs x es h).0)
each_entry p f fs (x ∷ es) h e (inr q) = each_entry p f (fs ++ x ∷ []) es (next_behind p f fs x es h).1 e q

-- ---- names

pub name_at : (es : List EpochPart) (k : ℕ) → name_or_origin (slice_get es k) ≡ get_or (names_of es) k Origin
name_at [] k = refl
name_at (e ∷ es) zero = refl
name_at (e ∷ es) (suc k) = name_at es k

pub get_in : {A : Type 0} (xs : List A) (k : ℕ) (d : A) → k < length xs → IsIn (get_or xs k d) xs
get_in [] k d h = absurd (omega arith)
get_in (x ∷ xs) zero d h = inl refl
get_in (x ∷ xs) (suc k) d h = inr (get_in xs k d (omega arith))

place_named : (es fs : List EpochPart) (k : ℕ) → k < length es → IsIn (name_or_origin (slice_get (es ++ fs) k)) (names_of es)
place_named [] fs k h = absurd (omega arith)
place_named (e ∷ es) fs zero h = inl refl
place_named (e ∷ es) fs (suc k) h = inr (place_named es fs k (omega arith))

names_push : (es : List EpochPart) (e : EpochPart) → names_of (es ++ e ∷ []) ≡ names_of es ++ e.name ∷ []
names_push es e = map-append (λ (x : EpochPart). x.name) es (e ∷ [])

once_push : (es : List EpochName) (e : EpochName) → AreOnce es → (IsIn e es → ⊥) → AreOnce (es ++ e ∷ [])
once_push [] e o n = ((λ q. q), tt)
once_push (f ∷ es) e o n = ((λ q. ⊎_elim (λ h. o.0 h) (λ h. n (inl (sym h))) (snoc_split f e es q)), once_push es e o.1 (λ q. n (inr q)))

-- names that stand once stand at one place
pub once_at : (es : List EpochName) (j k : ℕ) → AreOnce es → j < k → k < length es → get_or es j Origin ≡ get_or es k Origin → ⊥
once_at [] j k o l h e = absurd (omega arith)
once_at (f ∷ es) j zero o l h e = absurd (omega arith)
once_at (f ∷ es) zero (suc k) o l h e = o.0 (subst (λ x. IsIn x es) (sym e) (get_in es k Origin (omega arith)))
once_at (f ∷ es) (suc j) (suc k) o l h e = once_at es j k o.1 (omega arith) (omega arith) e

-- ---- the node of an entry

-- the node is that of the entry, and its parent stands at the entry's place in the list
pub record IsNodeOf (all : List EpochPart) (e : EpochPart) (n : Node) : Type 0 where
  pub place : ℕ
  pub parent : e.parent ≡ Some place
  pub within : place < length all
  pub named : name_of n.renaming ≡ e.name
  pub older : n.parent ≡ name_or_origin (slice_get all place)
  pub former : n.renaming.former ≡ e.former

abbrev pub node_for : List EpochPart → EpochPart → ℕ → ℕ → ℕ → Node
node_for all e r s k = record { parent = name_or_origin (slice_get all k); renaming = record { former = e.former; replica = r; seq = s } }

pub node_made : (all : List EpochPart) (e : EpochPart) (r s k : ℕ) (older : List Node) → e.name ≡ Of r s → e.parent ≡ Some k → with_node all e e.name e.parent older ≡ node_for all e r s k ∷ older
node_made all e r s k older n h = ap (λ x. with_node all e x e.parent older) n ∙ ap (λ o. with_node all e (Of r s) o older) h

pub none_made : (all : List EpochPart) (e : EpochPart) (x : EpochName) (older : List Node) → with_node all e x None older ≡ older
none_made all e Origin older = refl
none_made all e (Of r s) older = refl

-- ---- the tree

-- the nodes of the entries f and fs, of which f is the topmost, of a list
pub record IsBuilt (p : Parts) (all : List EpochPart) (f : EpochPart) (fs : List EpochPart) (ns : List Node) : Type 0 where
  pub once : AreNamedOnce ns
  pub below : AreBelow (top_name all) ns
  pub kept : (g : EpochName) → is_kept (top_name all) ns g ≡ true → IsIn g (names_of (f ∷ fs))
  pub named : (g : EpochName) → IsIn g (names_of (f ∷ fs)) → is_kept (top_name all) ns g ≡ true
  pub made : (n : Node) → IsIn n ns → (e : EpochPart) × IsIn e fs × IsNodeOf all e n × ((earlier : List EpochPart) × IsEntry p earlier e)
  pub nodes : (e : EpochPart) → IsIn e fs → (n : Node) × IsIn n ns × IsNodeOf all e n
  pub names_once : AreOnce (names_of (f ∷ fs))

one_top : (p : Parts) (f : EpochPart) (es : List EpochPart) → IsBuilt p (f ∷ es) f [] []
one_top p f es = record {
  once = tt;
  below = tt;
  kept = λ g h. ⊎_elim (λ q. inl (sym (name_eq_is g f.name q))) (λ q. absurd (cc)) (or_split (name_eq g f.name) false h);
  named = λ g h. ⊎_elim (λ q. or_left (name_eq g f.name) false (ap (name_eq g) q ∙ name_eq_refl g)) (λ q. absurd q) h;
  made = λ n q. absurd q;
  nodes = λ e q. absurd q;
  names_once = ((λ q. q), tt);
}

top_of : (all : List EpochPart) (f : EpochPart) (rest : List EpochPart) → all ≡ f ∷ rest → top_name all ≡ f.name
top_of all f rest e = ap top_name e

-- one more entry
module _ (p : Parts) (all : List EpochPart) (f : EpochPart) (fs : List EpochPart) (e : EpochPart) (es : List EpochPart) (ns : List Node) (is : all ≡ (f ∷ fs) ++ e ∷ es) (c : IsEntry p (f ∷ fs) e) (b : IsBuilt p all f fs ns) where
  abbrev top : EpochName
  top = top_name all

  abbrev n : Node
  n = node_for all e c.replica c.seq c.place

  mine : name_of n.renaming ≡ e.name
  mine = sym c.named

  place : n.parent ≡ name_or_origin (slice_get all c.place)
  place = refl

  former : n.renaming.former ≡ e.former
  former = refl

  not_kept : is_kept top ns (name_of n.renaming) ≡ true → ⊥
  not_kept h = c.new (subst (λ g. IsIn g (names_of (f ∷ fs))) mine (b.kept (name_of n.renaming) h))

  within : c.place < length all
  within = let l = c.below in let a = ap length is in let b2 = length-append (f ∷ fs) (e ∷ es) in omega arith

  is_node : IsNodeOf all e n
  is_node = record { place = c.place; parent = c.parent; within = within; named = mine; older = place; former = former }

  older : is_kept top ns n.parent ≡ true
  older = b.named n.parent (subst (λ g. IsIn g (names_of (f ∷ fs))) (ap (λ es2. name_or_origin (slice_get es2 c.place)) (sym is) ∙ sym place) (place_named (f ∷ fs) (e ∷ es) c.place c.below))

  kept : (g : EpochName) → is_kept top (n ∷ ns) g ≡ true → IsIn g (names_of (f ∷ fs) ++ e.name ∷ [])
  kept g h =
      ⊎_elim (λ q. in_left g (names_of (f ∷ fs)) (e.name ∷ []) (b.kept g (or_left (name_eq g (top_name all)) (has_node ns g) q)))
      (λ q. ⊎_elim (λ r. in_right g (names_of (f ∷ fs)) (e.name ∷ []) (inl (sym mine ∙ name_eq_is (name_of n.renaming) g r)))
      (λ r. in_left g (names_of (f ∷ fs)) (e.name ∷ []) (b.kept g (or_right (name_eq g (top_name all)) (has_node ns g) r)))
      (or_split (is_of n g) (has_node ns g) q))
      (or_split (name_eq g (top_name all)) (is_of n g || has_node ns g) h)

  named : (g : EpochName) → IsIn g (names_of (f ∷ fs) ++ e.name ∷ []) → is_kept top (n ∷ ns) g ≡ true
  named g h =
      ⊎_elim (λ q. kept_more (top_name all) n ns g (b.named g q))
      (λ q. ⊎_elim (λ r. subst (λ m. is_kept (top_name all) (n ∷ ns) m ≡ true) (mine ∙ r) (kept_here (top_name all) n ns)) (λ r. absurd r) q)
      (in_split g (names_of (f ∷ fs)) (e.name ∷ []) h)

  names : names_of (f ∷ fs) ++ e.name ∷ [] ≡ names_of (f ∷ (fs ++ e ∷ []))
  names = sym (names_push (f ∷ fs) e)

  made : (m : Node) → IsIn m (n ∷ ns) → (x : EpochPart) × IsIn x (fs ++ e ∷ []) × IsNodeOf all x m × ((earlier : List EpochPart) × IsEntry p earlier x)
  made m (inl q) = (e, in_right e fs (e ∷ []) (inl refl), subst (IsNodeOf all e) q is_node, (f ∷ fs, c))
  made m (inr q) = let r = b.made m q in (r.0, in_left r.0 fs (e ∷ []) r.1, r.2, r.3)

  nodes : (x : EpochPart) → IsIn x (fs ++ e ∷ []) → (m : Node) × IsIn m (n ∷ ns) × IsNodeOf all x m
  nodes x q =
      ⊎_elim (λ h. let r = b.nodes x h in (r.0, inr r.1, r.2)) (λ h. (n, inl refl, subst (λ y. IsNodeOf all y n) h is_node)) (snoc_split x e fs q)

  grown : IsBuilt p all f (fs ++ e ∷ []) (n ∷ ns)
  grown = record {
    once = (not_true (has_node ns (name_of n.renaming)) (λ h. not_kept (or_right (name_eq (name_of n.renaming) (top_name all)) (has_node ns (name_of n.renaming)) h)), b.once);
    below = (older, not_true (is_of n (top_name all)) (λ h. not_kept (or_left (name_eq (name_of n.renaming) (top_name all)) (has_node ns (name_of n.renaming)) h)), b.below);
    kept = λ g h. subst (IsIn g) names (kept g h);
    named = λ g h. named g (subst (IsIn g) (sym names) h);
    made = made;
    nodes = nodes;
    names_once = subst AreOnce names (once_push (names_of (f ∷ fs)) e.name b.names_once c.new);
  }

  one_more : IsBuilt p all f (fs ++ e ∷ []) (with_node all e e.name e.parent ns)
  one_more = subst (IsBuilt p all f (fs ++ e ∷ [])) (sym (node_made all e c.replica c.seq c.place ns c.named c.parent)) grown

pub are_entries : (p : Parts) (f : EpochPart) (fs es : List EpochPart) → epoch_fault p (f ∷ fs) es ≡ None → AreEntries p f fs es
are_entries p f fs [] h = tt
are_entries p f fs (e ∷ es) h = let r = next_behind p f fs e es h in (r.0, are_entries p f (fs ++ e ∷ []) es r.1)

built_on : (p : Parts) (all : List EpochPart) (f : EpochPart) (fs es : List EpochPart) (ns : List Node) → all ≡ (f ∷ fs) ++ es → AreEntries p f fs es → IsBuilt p all f fs ns → IsBuilt p all f (fs ++ es) (nodes_onto all ns es)
built_on p all f fs [] ns is h b = subst (λ gs. IsBuilt p all f gs ns) (sym (append-nil fs)) b
built_on p all f fs (e ∷ es) ns is r b =
    let on = is ∙ sym (append_assoc (f ∷ fs) (e ∷ []) es) in
    subst (λ gs. IsBuilt p all f gs (nodes_onto all (with_node all e e.name e.parent ns) es)) (append_assoc fs (e ∷ []) es)
    (built_on p all f (fs ++ e ∷ []) es (with_node all e e.name e.parent ns) on r.1 (one_more p all f fs e es ns is r.0 b))

-- all entries, of which the first has no parent
pub built_by : (p : Parts) (f : EpochPart) (es : List EpochPart) → f.parent ≡ None → AreEntries p f [] es → IsBuilt p (f ∷ es) f es (nodes_of (f ∷ es))
unfolding nodes_of
built_by p f es n h =
    let start : with_node (f ∷ es) f f.name f.parent [] ≡ [] = ap (λ o. with_node (f ∷ es) f f.name o []) n ∙ none_made (f ∷ es) f f.name [] in
    subst (λ ns. IsBuilt p (f ∷ es) f es (nodes_onto (f ∷ es) ns es)) (sym start) (built_on p (f ∷ es) f [] es [] refl h (one_top p f es))

pub built : (p : Parts) (f : EpochPart) (es : List EpochPart) → f.parent ≡ None → epoch_fault p [] (f ∷ es) ≡ None → IsBuilt p (f ∷ es) f es (nodes_of (f ∷ es))
built p f es n h = built_by p f es n (are_entries p f [] es (first_top p f es h).1)

-- with increasing former lists they are a tree
pub are_nodes : (ns : List Node) → AreNamedOnce ns → ((n : Node) → IsIn n ns → IsFormer n.renaming.former) → AreNodes ns
are_nodes [] o f = tt
are_nodes (n ∷ ns) o f = (f n (inl refl), o.0, are_nodes ns o.1 (λ m q. f m (inr q)))
