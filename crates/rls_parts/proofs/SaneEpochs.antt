-- The retained epochs of a sane replica pass their rule, and make a window.
use Rattle.std.proofs.Common.{◌≡◌, ℕ, suc, ◌-◌, ◌<◌, ◌≤◌, ◌&&◌, not, nat_le, nat_lt, slice_index, true, List, [], ◌∷◌, ◌++◌, length, map, get_or, refl, sym, ap, ◌∙◌, subst, arith, inl, inr, ⊎_elim, Option, Some, None, if◌then◌else◌, append-nil, append_assoc, length-append}
use Rattle.std.specs.Prelude.{position, ℤ, pos, ◌<ℤ◌}
use Rattle.std.specs.declared.cmp.Ordering.TheVariants.{Less}
use Rattle.std.specs.List.{list_any}
use Rattle.std.specs.Int.RustNames.{int_le, int_lt}
use Rattle.std.specs.Ordering.{is_lt}
use Rattle.std.specs.Cmp.Lexicographic.{slice_cmp}
use Rattle.std.proofs.lemmas.Int.{ints}
use Rattle.std.proofs.lemmas.List.Quantifiers.{position-Some}
use Rattle.std.proofs.lemmas.List.{length-map, map-append, get_or_append_left}
use Rattle.rls_ident.specs.declared.limits.TheConstants.{IDENTIFIERS}
use Rattle.rls_ident.specs.declared.epoch_name.EpochName.{EpochName}
use Rattle.rls_ident.specs.declared.epoch_name.EpochName.TheVariants.{Origin, Of}
use Rattle.rls_ident.specs.EpochNames.{name_eq}
use Rattle.rls_ident.specs.Lists.{IsIn}
use Rattle.rls_model.proofs.WindowAnswers.{named_once, node_found}
use Rattle.rls_ident.proofs.Members.{AreOnce, and_true, are_in, in_any, in_left, in_right, in_split, in_map, map_in, and_right, le_test, lt_test, not_true, or_split}
use Rattle.rls_ident.proofs.Named.{name_eq_is}
use Rattle.rls_rename.specs.Renaming.{Renaming, IsFormer}
use Rattle.rls_rename.specs.Tree.{Node, name_of, has_node, is_kept, AreNodes, AreBelow, path, renaming_cmp, epoch_cmp}
use Rattle.rls_rename.specs.Connected.{spanned}
use Rattle.rls_rename.proofs.Former.{former_in}
use Rattle.rls_rename.proofs.Hull.{IsPart, front_none, node_at, path_same, spanned_in, spanned_part, spanned_top, top_spanned}
use Rattle.rls_rename.proofs.Order.{less_flips, less_self, longer_less}
use Rattle.rls_rename.proofs.Ordered.{Rises, spanned_rises, below_at}
use Rattle.rls_rename.proofs.SameNodes.{path_member, path_top}
use Rattle.rls_rename.proofs.Windows.{Window, cmp_window}
use Rattle.rls_rename.proofs.Made.{former_some}
use Rattle.rls_model.specs.declared.parts.EpochPart.{EpochPart}
use Rattle.rls_model.specs.declared.parts.Parts.{Parts}
use Rattle.rls_model.specs.declared.parts.Stem.{Stem}
use Rattle.rls_model.specs.Parts.{node_of, top_part, epoch_part, epoch_parts}
use Rattle.rls_model.specs.Stems.{stem_of, has_used}
use Rattle.rls_seen.specs.Sane.{AreEpochs, IsCounted, IsCovered}
use Rattle.rls_parts.specs.Reading.{nodes_of, names_of}
use Rattle.rls_parts.specs.Rules.{epoch_fault, is_epoch_behind, is_new, is_opened, is_place_below, is_former_count, has_offsets, is_covered_by, is_greater, last_name, may_be_top}
use Rattle.rls_parts.specs.Building.{AreEntries, IsEntry}
use Rattle.rls_parts.proofs.EpochLists.{IsNodeOf, IsBuilt, are_nodes, built_by, name_at}
use Rattle.rls_parts.proofs.RestoredParts.{place_found}
use Rattle.rls_parts.proofs.StandsAgain.{part_name, part_names, same_node}

-- ---- lists of names

-- an element of a list stands at some place
place_in : (es : List EpochName) (x : EpochName) → IsIn x es → (k : ℕ) × (k < length es) × (x ≡ get_or es k Origin)
place_in [] x q = absurd q
place_in (e ∷ es) x (inl h) = (0, omega arith, sym h)
place_in (e ∷ es) x (inr q) = let r = place_in es x q in (suc r.0, omega (arith, r.1), r.2)

-- ---- the rule's tests

opened_test : (p : Parts) (r s : ℕ) → r < p.members → 0 < s → s ≤ slice_index p.vector r → is_opened p (Of r s) ≡ true
opened_test p r s a b c =
    and_true (nat_lt r p.members && nat_lt 0 s) (nat_le s (slice_index p.vector r)) (and_true (nat_lt r p.members) (nat_lt 0 s) (lt_test r p.members a) (lt_test 0 s b)) (le_test s (slice_index p.vector r) c)

top_passes : (p : Parts) → length p.vector ≡ p.members → (e : EpochName) → IsCounted p.vector e → may_be_top p e ≡ true
top_passes p v Origin h = refl
top_passes p v (Of r s) h = opened_test p r s (let l = h.0 in omega arith) h.1 h.2

entry_passes : (p : Parts) (f : EpochPart) (fs : List EpochPart) (e : EpochPart) → IsEntry p (f ∷ fs) e → is_greater (f ∷ fs) e ≡ true → is_epoch_behind p (f ∷ fs) e ≡ true
entry_passes p f fs e c g =
    let earlier = f ∷ fs in
    let t1 = is_new earlier e.name in
    let t2 = is_opened p e.name in
    let t3 = is_place_below (length earlier) e.parent in
    let t4 = is_former_count (length e.former) in
    let t5 = is_covered_by p.stems e.name (length e.former) in
    let t6 = is_greater earlier e in
    let new : t1 ≡ true = ap not (not_true (list_any (λ (x : EpochPart). name_eq x.name e.name) earlier)
    (λ h. let r = in_any (λ (x : EpochPart). name_eq x.name e.name) earlier h in
    c.new (subst (λ y. IsIn y (names_of earlier)) (name_eq_is r.0.name e.name r.2) (map_in (λ (x : EpochPart). x.name) r.0 earlier r.1)))) in
    let opened : t2 ≡ true = ap (is_opened p) c.named ∙ opened_test p c.replica c.seq c.member c.begun c.counted in
    let place : t3 ≡ true = ap (is_place_below (length earlier)) c.parent ∙ lt_test c.place (length earlier) c.below in
    let count : t4 ≡ true = and_true (nat_lt 0 (length e.former)) (nat_le (length e.former) IDENTIFIERS) (lt_test 0 (length e.former) c.some) (le_test (length e.former) IDENTIFIERS c.few) in
    let covered : t5 ≡ true = ap (λ x. is_covered_by p.stems x (length e.former)) c.named ∙ c.covered in
    and_true (t1 && t2 && t3 && t4 && t5) t6
    (and_true (t1 && t2 && t3 && t4) t5 (and_true (t1 && t2 && t3) t4 (and_true (t1 && t2) t3 (and_true t1 t2 new opened) place) count) covered) g

pub int_less : (x y : ℤ) → int_lt x y ≡ true → x <ℤ y
int_less x y h = omega (arith, ints)

-- the first n offsets of a stem whose offset n - 1 was used
offsets_used : (o : Option Stem) (n : ℕ) → 0 < n → has_used o (pos (n - 1)) ≡ true → has_offsets o n ≡ true
offsets_used None n l h = absurd (cc)
offsets_used (Some t) n l h =
    let k = int_less (pos (n - 1)) (pos t.next) (and_right (int_le t.low (pos (n - 1))) (int_lt (pos (n - 1)) (pos t.next)) h) in
    le_test n t.next (omega (arith, ints))

covered_test : (ss : List Stem) (n : Node) → IsFormer n.renaming.former → IsCovered ss n → is_covered_by ss (name_of n.renaming) (length n.renaming.former) ≡ true
covered_test ss n f c =
    let l = former_some n.renaming.former f in
    let k = length n.renaming.former in
    offsets_used (stem_of ss n.renaming.replica n.renaming.seq) k (omega arith) (c (k - 1) (omega arith))

-- ---- a connected rising list of kept epochs

-- the epochs u and gs, of which u is the topmost, among the nodes ns
pub record IsRetained (top : EpochName) (ns : List Node) (u : EpochName) (gs : List EpochName) : Type 0 where
  pub nodes : AreNodes ns
  pub below : AreBelow top ns
  pub part : IsPart top ns u (λ f. IsIn f (u ∷ gs))
  pub rises : Rises ns (u ∷ gs)

-- the first of a rising connected part is its topmost
first_is : (top : EpochName) (ns : List Node) (u x : EpochName) (xs : List EpochName) → IsPart top ns u (λ f. IsIn f (x ∷ xs)) → Rises ns (x ∷ xs) → IsIn u (x ∷ xs) → x ≡ u
first_is top ns u x xs c r (inl h) = h
first_is top ns u x xs c r (inr q) =
    let l : epoch_cmp ns x u ≡ Less = below_at ns x u xs r.0 q in
    let f = c.below x (inl refl) in
    absurd (go f.0 f.1 l)
  where
    go : (z : List Renaming) → path ns x ≡ path ns u ++ z → epoch_cmp ns x u ≡ Less → ⊥
    go [] e l = less_self ns u (ap (λ p. slice_cmp renaming_cmp p (path ns u)) (sym (append-nil (path ns u)) ∙ sym e) ∙ l)
    go (R ∷ z) e l = less_flips ns x u l (ap (slice_cmp renaming_cmp (path ns u)) e ∙ longer_less (path ns u) R z)

pub retained_is : (top : EpochName) (ns : List Node) (e : EpochName) (es : List EpochName) → AreNodes ns → AreBelow top ns → is_kept top ns e ≡ true → (u : EpochName) × (gs : List EpochName) × (spanned top ns e es ≡ u ∷ gs) × IsRetained top ns u gs
retained_is top ns e es d b k =
    let t = spanned_top top ns d b e es k in
    go (spanned top ns e es) refl (spanned_part top ns d b e es t.0 t.1 t.2) (spanned_rises top ns d b e es) (spanned_in top ns e es t.0 t.1 (top_spanned ns d e es t.0 t.2))
  where
    go : (xs : List EpochName) → spanned top ns e es ≡ xs → {u : EpochName} → IsPart top ns u (λ f. IsIn f xs) → Rises ns xs → IsIn u xs → (v : EpochName) × (gs : List EpochName) × (spanned top ns e es ≡ v ∷ gs) × IsRetained top ns v gs
    go [] h {u = u} c r q = absurd q
    go (x ∷ xs) h {u = u} c r q =
        let i = first_is top ns u x xs c r q in
        (x, xs, h, record { nodes = d; below = b; part = subst (λ v. IsPart top ns v (λ f. IsIn f (x ∷ xs))) (sym i) c; rises = r })

once_split : (xs ys : List EpochName) (x : EpochName) → AreOnce (xs ++ x ∷ ys) → IsIn x xs → ⊥
once_split [] ys x o z = absurd z
once_split (y ∷ xs) ys x o (inl z) = o.0 (subst (λ t. IsIn t (xs ++ x ∷ ys)) (sym z) (in_right x xs (x ∷ ys) (inl refl)))
once_split (y ∷ xs) ys x o (inr z) = once_split xs ys x o.1 z

-- the last of a list of names
abbrev last_from : EpochName → List EpochName → EpochName
last_from x [] = x
last_from x (e ∷ es) = last_from e es

last_in : (x : EpochName) (es : List EpochName) → IsIn (last_from x es) (x ∷ es)
last_in x [] = inl refl
last_in x (e ∷ es) = inr (last_in e es)

last_less : (ns : List Node) (x : EpochName) (xs : List EpochName) (e : EpochName) (rest : List EpochName) → Rises ns (x ∷ (xs ++ e ∷ rest)) → epoch_cmp ns (last_from x xs) e ≡ Less
last_less ns x [] e rest r = below_at ns x e (e ∷ rest) r.0 (inl refl)
last_less ns x (y ∷ xs) e rest r = last_less ns y xs e rest r.1

rises_once : (ns : List Node) (es : List EpochName) → Rises ns es → AreOnce es
rises_once ns [] r = tt
rises_once ns (e ∷ es) r = ((λ q. less_self ns e (below_at ns e e es r.0 q)), rises_once ns es r.1)

module _ (p : Parts) (top : EpochName) (ns : List Node) (u : EpochName) (gs : List EpochName) (a : AreEpochs p.vector p.stems (record { top = top; nodes = ns })) (v : length p.vector ≡ p.members) (w : IsRetained top ns u gs) where
  once : AreOnce (u ∷ gs)
  once = rises_once ns (u ∷ gs) w.rises

  -- the part of an epoch
  abbrev entry : EpochName → EpochPart
  entry e = epoch_part (u ∷ gs) e (node_of ns e)

  entry_name : (es : List EpochName) → names_of (map entry es) ≡ es
  entry_name es = part_names ns (u ∷ gs) es

  -- ---- the node of an epoch after the topmost

  other_than_u : (e : EpochName) → IsIn e gs → e ≡ u → ⊥
  other_than_u e q h = once.0 (subst (λ x. IsIn x gs) h q)

  node_for : (e : EpochName) → IsIn e gs → (n : Node) × IsIn n ns × (name_of n.renaming ≡ e)
  node_for e q =
      ⊎_elim (λ h. absurd (no_top (name_eq_is e top h))) (λ h. node_at ns e h) (or_split (name_eq e top) (has_node ns e) (w.part.kept e (inr q)))
    where
      no_top : e ≡ top → ⊥
      no_top h =
          let f = w.part.below e (inr q) in
          let z : path ns e ≡ [] = ap (path ns) h ∙ path_top top ns w.below in
          let s : [] ≡ path ns u = front_none (path ns u) (f.0, sym z ∙ f.1) in
          other_than_u e q (path_same top ns w.nodes w.below e u (w.part.kept e (inr q)) (w.part.kept u (inl refl)) (z ∙ s))

  entry_is : (e : EpochName) (n : Node) → IsIn n ns → name_of n.renaming ≡ e → entry e ≡ epoch_part (u ∷ gs) e (Some n)
  entry_is e n q h = ap (epoch_part (u ∷ gs) e) (ap (node_of ns) (sym h) ∙ node_found ns (named_once ns w.nodes) n q)

  -- the parent of a node is less than its epoch
  parent_before : (n : Node) → IsIn n ns → epoch_cmp ns n.parent (name_of n.renaming) ≡ Less
  parent_before n q = ap (slice_cmp renaming_cmp (path ns n.parent)) (path_member top n ns w.nodes w.below q) ∙ longer_less (path ns n.parent) n.renaming []

  -- ---- each entry is one by the rule, but for its order

  -- it stands after its parent
  parent_place : (done rest : List EpochName) (e : EpochName) → gs ≡ done ++ e ∷ rest → Rises ns (u ∷ gs) → (x : EpochName) → IsIn x (u ∷ gs) → epoch_cmp ns x e ≡ Less → IsIn x (u ∷ done)
  parent_place done rest e is r x q l =
      let split : (u ∷ gs) ≡ (u ∷ done) ++ e ∷ rest = ap (λ xs. u ∷ xs) is in
      ⊎_elim (λ h. h) (λ h. absurd (later h)) (in_split x (u ∷ done) (e ∷ rest) (subst (IsIn x) split q))
    where
      tail_rises : (xs ys : List EpochName) → Rises ns (xs ++ ys) → Rises ns ys
      tail_rises [] ys z = z
      tail_rises (y ∷ xs) ys z = tail_rises xs ys z.1

      later : IsIn x (e ∷ rest) → ⊥
      later (inl h) = less_self ns e (subst (λ y. epoch_cmp ns y e ≡ Less) (sym h) l)
      later (inr h) =
          let z : Rises ns (e ∷ rest) = tail_rises (u ∷ done) (e ∷ rest) (subst (Rises ns) (ap (λ xs. u ∷ xs) is) r) in
          less_flips ns x e l (below_at ns e x rest z.0 h)

  is_entry : (done rest : List EpochName) (e : EpochName) → gs ≡ done ++ e ∷ rest → IsEntry p (top_part u ∷ map entry done) (entry e)
  is_entry done rest e is =
      let q : IsIn e gs = subst (IsIn e) (sym is) (in_right e done (e ∷ rest) (inl refl)) in
      let n = node_for e q in
      go q n.0 n.1 n.2
    where
      go : IsIn e gs → (n : Node) → IsIn n ns → name_of n.renaming ≡ e → IsEntry p (top_part u ∷ map entry done) (entry e)
      go q n i h =
          let c = subst (IsCounted p.vector) (sym h) (a.counted e (w.part.kept e (inr q))) in
          let up : IsIn n.parent (u ∷ gs) = w.part.parents n i (subst (λ x. IsIn x (u ∷ gs)) (sym h) (inr q)) (λ z. other_than_u e q (sym h ∙ z)) in
          let before : IsIn n.parent (u ∷ done) = parent_place done rest e is w.rises n.parent up (subst (λ x. epoch_cmp ns n.parent x ≡ Less) h (parent_before n i)) in
          let k = place_in (u ∷ done) n.parent before in
          let split : u ∷ gs ≡ (u ∷ done) ++ e ∷ rest = ap (λ xs. u ∷ xs) is in
          let at : n.parent ≡ get_or (u ∷ gs) k.0 Origin = k.2 ∙ (sym (get_or_append_left (u ∷ done) (e ∷ rest) Origin k.0 k.1) ∙ ap (λ xs. get_or xs k.0 Origin) (sym split)) in
          let len : k.0 < length (u ∷ gs) = let l = k.1 in let x = ap length split in let y = length-append (u ∷ done) (e ∷ rest) in omega arith in
          let names : names_of (top_part u ∷ map entry done) ≡ u ∷ done = ap (λ xs. u ∷ xs) (entry_name done) in
          let f = former_in ns w.nodes n i in
          subst (IsEntry p (top_part u ∷ map entry done)) (sym (entry_is e n i h))
          (record {
            replica = n.renaming.replica;
            seq = n.renaming.seq;
            named = sym h;
            member = let x = c.0 in omega arith;
            begun = c.1;
            counted = c.2;
            place = k.0;
            parent = place_found (u ∷ gs) k.0 n.parent once len at;
            below = let l = k.1 in let x = length-map done entry in omega arith;
            new = λ z. fresh (subst (IsIn e) names z);
            some = former_some n.renaming.former f;
            few = a.few n i;
            covered = covered_test p.stems n f (a.covered n i);
          })
        where
          fresh : IsIn e (u ∷ done) → ⊥
          fresh (inl z) = other_than_u e q (sym z)
          fresh (inr z) = once_split done rest e (subst AreOnce is once.1) z

  are_entries : (done rest : List EpochName) → gs ≡ done ++ rest → AreEntries p (top_part u) (map entry done) (map entry rest)
  are_entries done [] is = tt
  are_entries done (e ∷ rest) is = (
    is_entry done rest e is,
    subst (λ fs. AreEntries p (top_part u) fs (map entry rest)) (map-append entry done (e ∷ [])) (are_entries (done ++ e ∷ []) rest (is ∙ sym (append_assoc done (e ∷ []) rest))),
  )

  -- ---- the nodes of a front part are among the nodes

  -- the entries of the first of them
  abbrev front : List EpochName → List EpochPart
  front es = top_part u ∷ map entry es

  entries_front : (xs ys : List EpochName) (done : List EpochPart) → AreEntries p (top_part u) done (map entry (xs ++ ys)) → AreEntries p (top_part u) done (map entry xs)
  entries_front [] ys done h = tt
  entries_front (x ∷ xs) ys done h = (h.0, entries_front xs ys (done ++ entry x ∷ []) h.1)

  front_built : (es rest : List EpochName) → gs ≡ es ++ rest → IsBuilt p (front es) (top_part u) (map entry es) (nodes_of (front es))
  front_built es rest is = built_by p (top_part u) (map entry es) refl (entries_front es rest [] (subst (λ xs. AreEntries p (top_part u) [] (map entry xs)) is (are_entries [] gs refl)))

  node_again : (es rest : List EpochName) → gs ≡ es ++ rest → (m : Node) → IsIn m (nodes_of (front es)) → IsIn m ns
  node_again es rest is m q =
      let b = front_built es rest is in
      let r = b.made m q in
      let t = in_map entry r.0 es r.1 in
      let i : IsIn t.0 gs = subst (IsIn t.0) (sym is) (in_left t.0 es rest t.1) in
      let n = node_for t.0 i in
      let x : IsNodeOf (front es) (epoch_part (u ∷ gs) t.0 (Some n.0)) m = subst (λ y. IsNodeOf (front es) y m) (sym t.2 ∙ entry_is t.0 n.0 n.1 n.2) r.2 in
      let k = x.place in
      let l : k < length (u ∷ es) = let y = x.within in let z = length-map es entry in omega arith in
      let names : names_of (front es) ≡ u ∷ es = ap (λ xs. u ∷ xs) (entry_name es) in
      let split : u ∷ gs ≡ (u ∷ es) ++ rest = ap (λ xs. u ∷ xs) is in
      let up : m.parent ≡ get_or (u ∷ gs) k Origin = x.older ∙ (name_at (front es) k ∙ (ap (λ xs. get_or xs k Origin) names ∙ (sym (get_or_append_left (u ∷ es) rest Origin k l) ∙ ap (λ xs. get_or xs k Origin) (sym split)))) in
      let there : n.0.parent ≡ get_or (u ∷ gs) k Origin = name_at_place (u ∷ gs) n.0.parent k x.parent in
      subst (λ y. IsIn y ns) (sym (same_node m n.0 (up ∙ sym there) x.former (x.named ∙ sym n.2))) n.1
    where
      name_at_place : (es : List EpochName) (e : EpochName) (k : ℕ) → position (name_eq e) es ≡ Some k → e ≡ get_or es k Origin
      name_at_place es e k h = let r = position-Some (name_eq e) es k Origin h in name_eq_is e (get_or es k Origin) r.1

  front_window : (es rest : List EpochName) → gs ≡ es ++ rest → Window u (nodes_of (front es)) top ns
  front_window es rest is =
      let b = front_built es rest is in
      record {
        nodes = are_nodes (nodes_of (front es)) b.once (λ n q. former_in ns w.nodes n (node_again es rest is n q));
        below = b.below;
        whole = w.nodes;
        tree = w.below;
        each = are_in (nodes_of (front es)) ns (node_again es rest is);
        first = w.part.kept u (inl refl);
      }

  front_named : (es rest : List EpochName) → gs ≡ es ++ rest → (g : EpochName) → IsIn g (u ∷ es) → is_kept u (nodes_of (front es)) g ≡ true
  front_named es rest is g q = (front_built es rest is).named g (subst (IsIn g) (ap (λ xs. u ∷ xs) (sym (entry_name es))) q)

  -- ---- each entry is greater than the one before

  last_map : (f : EpochPart) (es : List EpochName) → last_name (f ∷ map entry es) ≡ last_from f.name es
  last_map f [] = refl
  last_map f (e ∷ es) = last_map (entry e) es ∙ ap (λ x. last_from x es) (part_name (u ∷ gs) e (node_of ns e))

  greater : (done rest : List EpochName) (e : EpochName) → gs ≡ done ++ e ∷ rest → is_greater (front done) (entry e) ≡ true
  greater done rest e is =
      let end = last_from u done in
      let more : gs ≡ (done ++ e ∷ []) ++ rest = is ∙ sym (append_assoc done (e ∷ []) rest) in
      let t = front_window (done ++ e ∷ []) rest more in
      let k = front_named (done ++ e ∷ []) rest more in
      let l : epoch_cmp ns end e ≡ Less = last_less ns u done e rest (subst (Rises ns) (ap (λ xs. u ∷ xs) is) w.rises) in
      let m : epoch_cmp (nodes_of (front (done ++ e ∷ []))) end e ≡ Less =
      cmp_window t end e (k end (in_left end (u ∷ done) (e ∷ []) (last_in u done))) (k e (inr (in_right e done (e ∷ []) (inl refl)))) ∙ l in
      let same : front done ++ entry e ∷ [] ≡ front (done ++ e ∷ []) = ap (λ es. top_part u ∷ es) (sym (map-append entry done (e ∷ []))) in
      ap (λ es. is_lt (epoch_cmp (nodes_of es) (last_name (front done)) (entry e).name)) same
      ∙ (ap (λ x. is_lt (epoch_cmp (nodes_of (front (done ++ e ∷ []))) x (entry e).name)) (last_map (top_part u) done)
      ∙ (ap (λ x. is_lt (epoch_cmp (nodes_of (front (done ++ e ∷ []))) end x)) (part_name (u ∷ gs) e (node_of ns e)) ∙ ap is_lt m))

  passes : (done rest : List EpochName) → gs ≡ done ++ rest → epoch_fault p (front done) (map entry rest) ≡ None
  passes done [] is = refl
  passes done (e ∷ rest) is =
      ap (λ b. if b then epoch_fault p (front done ++ entry e ∷ []) (map entry rest) else Some (length (front done)))
      (entry_passes p (top_part u) (map entry done) (entry e) (is_entry done rest e is) (greater done rest e is))
      ∙ subst (λ fs. epoch_fault p (top_part u ∷ fs) (map entry rest) ≡ None) (map-append entry done (e ∷ [])) (passes (done ++ e ∷ []) rest (is ∙ sym (append_assoc done (e ∷ []) rest)))

  -- ---- all of them

  pub epochs_pass : p.epochs ≡ epoch_parts ns (u ∷ gs) → epoch_fault p [] p.epochs ≡ None
  epochs_pass e =
      ap (epoch_fault p []) e
      ∙ (ap (λ b. if b then epoch_fault p (front []) (map entry gs) else Some 0) (top_passes p v u (a.counted u (w.part.kept u (inl refl)))) ∙ passes [] gs refl)

  pub window_all : Window u (nodes_of (epoch_parts ns (u ∷ gs))) top ns
  window_all = front_window gs [] (sym (append-nil gs))

  pub named_all : (g : EpochName) → IsIn g (u ∷ gs) → is_kept u (nodes_of (epoch_parts ns (u ∷ gs))) g ≡ true
  named_all = front_named gs [] (sym (append-nil gs))

  pub kept_all : (g : EpochName) → is_kept u (nodes_of (epoch_parts ns (u ∷ gs))) g ≡ true → IsIn g (u ∷ gs)
  kept_all g k = subst (IsIn g) (ap (λ xs. u ∷ xs) (entry_name gs)) ((front_built gs [] (sym (append-nil gs))).kept g k)

  pub names_all : names_of (epoch_parts ns (u ∷ gs)) ≡ u ∷ gs
  names_all = ap (λ xs. u ∷ xs) (entry_name gs)
