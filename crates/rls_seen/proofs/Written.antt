-- The text of a replica after an operation: its identifiers rise, and their last tuples were used in each kept epoch.
use Rattle.std.proofs.Common.{◌≡◌, ℕ, zero, suc, ◌<◌, ◌||◌, not, Bool, true, false, List, [], ◌∷◌, length, map, refl, sym, ap, ◌∙◌, subst, arith, inl, inr, ◌⊎◌, ⊎_elim, if◌then◌else◌}
use Rattle.std.specs.Prelude.{ℤ, pos, filter, zip}
use Rattle.std.specs.declared.cmp.Ordering.TheVariants.{Less}
use Rattle.std.proofs.lemmas.Int.{ints}
use Rattle.rls_ident.specs.declared.tuple.Tuple.{Tuple}
use Rattle.rls_ident.specs.declared.epoch_name.EpochName.{EpochName}
use Rattle.rls_ident.specs.declared.epoch_name.EpochName.TheVariants.{Of}
use Rattle.rls_ident.specs.EpochNames.{name_eq}
use Rattle.rls_ident.specs.Identifiers.{IsIdent, ident_cmp, last_of, shifted}
use Rattle.rls_ident.specs.Lists.{IsIn}
use Rattle.rls_ident.specs.Tuples.{replica_of, seq_of, offset_of}
use Rattle.rls_ident.proofs.Members.{bool_cases, true_false, eq_not, in_map, in_filter}
use Rattle.rls_ops.specs.Shapes.{is_empty}
use Rattle.rls_runs.specs.Runs.{AreIdents, run_idents}
use Rattle.rls_rename.specs.Renaming.{Renaming}
use Rattle.rls_rename.specs.Tree.{Node, name_of, is_of, has_node, is_kept, AreNodes, AreBelow, greatest, translate}
use Rattle.rls_rename.proofs.Former.{former_of}
use Rattle.rls_rename.proofs.Growth.{kept_other, translate_other, translate_child, translate_back}
use Rattle.rls_rename.proofs.Kept.{greatest_kept, kept_more}
use Rattle.rls_rename.proofs.Order.{older_cmp, level_same, kept_before}
use Rattle.rls_rename.proofs.Paths.{among_node, name_eq_is, name_eq_refl, translate_ident, translate_translate, translate_order}
use Rattle.rls_rename.proofs.SameNodes.{greatest_top}
use Rattle.rls_rename.proofs.Triples.{HasLast, AreCovered, forward_in, newborn_in}
use Rattle.rls_rename.proofs.Triples as triples
use Rattle.rls_ops.specs.declared.op.Op.{Op}
use Rattle.rls_ops.specs.declared.op.Body.{Body}
use Rattle.rls_ops.specs.declared.op.Body.TheVariants.{Insert, Delete, Rename, Leave}
use Rattle.rls_model.specs.declared.parts.Stem.{Stem}
use Rattle.rls_model.specs.Document.{chars_of, chars_from, has_ident, put_all}
use Rattle.rls_model.specs.Epochs.{nodes_after, renaming_of}
use Rattle.rls_model.specs.Laws.{IsUsedBy, IsOfRename}
use Rattle.rls_model.specs.Stems.{is_used, stems_after}
use Rattle.rls_model.specs.WellFormed.{IsBody}
use Rattle.rls_model.proofs.Fresh.{unused, still_used, now_used}
use Rattle.rls_model.proofs.Insertion.{born, born_entries}
use Rattle.rls_runs.proofs.Sorted.{Entry, IsBelow, Rises, AreApart, AllApart, rises_all, in_put_all, distinct_of, rises_of_increasing, rises_filter}
use Rattle.rls_model.proofs.Spliced.{entries, entries_rise}
use Rattle.rls_model.proofs.TextSteps.{entry_ident}
use Rattle.rls_seen.specs.Seen.{Seen, greatest_over, idents_over}
use Rattle.rls_seen.specs.Over.{placed_over, added_over, renamed_over, is_greatest_over, text_after}
use Rattle.rls_seen.specs.Sane.{IsSane, IsCovered, MayApply, IsNewborn}
use Rattle.rls_seen.proofs.Accepting.{added_go}
use Rattle.rls_seen.proofs.Fitting.{Facts, facts, change, name_new}
use Rattle.rls_seen.proofs.TextLists.{ids, moved, ident_in, idents_of, rises_map, entry_in, in_entry}

-- ---- used last tuples

abbrev pub Used : List Stem → ℕ → ℕ → ℤ → Type 0
Used ss a q k = is_used ss a q k ≡ true

-- the nodes of a replica are covered
pub covered : (ss : List Stem) (ns : List Node) → ((n : Node) → IsIn n ns → IsCovered ss n) → AreCovered (Used ss) ns
covered ss ns f R p =
    let r = among_node ns R p in
    subst (λ (S : Renaming). triples.IsCovered (Used ss) S) r.2 (f r.0 r.1)

-- in each kept epoch the last tuple of x, an identifier of epoch g, was used
abbrev pub IsKnown : List Stem → EpochName → List Node → EpochName → List Tuple → Type 0
IsKnown ss top ns g x = (f : EpochName) → is_kept top ns f ≡ true → HasLast (Used ss) (translate ns g f x)

abbrev pub Grows : List Stem → List Stem → Type 0
Grows ss ts = (a q : ℕ) (k : ℤ) → Used ss a q k → Used ts a q k

known_more : (ss ts : List Stem) (top : EpochName) (ns : List Node) (g : EpochName) (x : List Tuple) → Grows ss ts → IsKnown ss top ns g x → IsKnown ts top ns g x
known_more ss ts top ns g x m k f l = let y = translate ns g f x in m (replica_of (last_of y)) (seq_of (last_of y)) (offset_of (last_of y)) (k f l)

-- also after one more rename
known_renamed : (ss ts : List Stem) (top : EpochName) (node : Node) (older : List Node) (g : EpochName) (x : List Tuple) → AreNodes (node ∷ older) → AreBelow top (node ∷ older) → Grows ss ts → triples.IsCovered (Used ts) node.renaming
    → IsIdent x → is_kept top older g ≡ true → IsKnown ss top older g x → IsKnown ts top (node ∷ older) g x
known_renamed ss ts top node older g x n b m v i k u f l =
    let here = kept_other top node older g n b k in
    bool_cases (is_of node f)
    (λ e. let y = translate older g node.parent x in
    subst (HasLast (Used ts)) (sym (translate_child node older g f x n i here e))
    (forward_in (Used ts) node.renaming y n.0 (translate_ident older g node.parent x n.2 i) v (m (replica_of (last_of y)) (seq_of (last_of y)) (offset_of (last_of y)) (u node.parent b.0))))
    (λ e. let y = translate older g f x in
    subst (HasLast (Used ts)) (sym (translate_other node older g f x here e))
    (m (replica_of (last_of y)) (seq_of (last_of y)) (offset_of (last_of y)) (u f (kept_before top node older f e l))))

-- and where it is taken along to another epoch
known_moved : (ss : List Stem) (top : EpochName) (ns : List Node) (g h : EpochName) (x : List Tuple) → AreNodes ns → IsIdent x → IsKnown ss top ns g x → IsKnown ss top ns h (translate ns g h x)
known_moved ss top ns g h x n i u f l = subst (HasLast (Used ss)) (sym (translate_translate ns g h f x n i)) (u f l)

-- ---- a text

-- identifiers of the greatest epoch that rise, with used last tuples
pub record IsWritten (ss : List Stem) (top : EpochName) (ns : List Node) (es : List Entry) : Type 0 where
  pub idents : AreIdents (ids es)
  pub known : (x : List Tuple) → IsIn x (ids es) → IsKnown ss top ns (greatest top ns) x

pub written : (s : Seen) → IsSane s → IsWritten s.stems s.epochs.top s.epochs.nodes s.text
written s sane = record { idents = sane.idents; known = sane.used }

-- the same nodes, and no more identifiers
fewer : (ss ts : List Stem) (top : EpochName) (ns : List Node) (es : List Entry) (p : Entry → Bool) → Grows ss ts → IsWritten ss top ns es → IsWritten ts top ns (filter p es)
fewer ss ts top ns es p m w = record {
  idents = idents_of (filter p es) (rises_filter p es (rises_of_increasing es w.idents.1)) (λ x q. ident_in (ids es) w.idents x (was x q));
  known = λ x q. known_more ss ts top ns (greatest top ns) x m (w.known x (was x q));
}
  where
    was : (x : List Tuple) → IsIn x (ids (filter p es)) → IsIn x (ids es)
    was x q =
        let r = entry_in (filter p es) x q in
        subst (λ y. IsIn y (ids es)) r.2 (in_entry es r.0 (in_filter p r.0 es r.1).0)

same : (ss ts : List Stem) (top : EpochName) (ns : List Node) (es : List Entry) → Grows ss ts → IsWritten ss top ns es → IsWritten ts top ns es
same ss ts top ns es m w = record { idents = w.idents; known = λ x q. known_more ss ts top ns (greatest top ns) x m (w.known x q) }

-- ---- an insertion

ids_zip : (xs : List (List Tuple)) (cs : List ℕ) → length xs ≡ length cs → ids (zip xs cs) ≡ xs
ids_zip [] [] e = refl
ids_zip [] (c ∷ cs) e = refl
ids_zip (x ∷ xs) [] e = absurd (omega arith)
ids_zip (x ∷ xs) (c ∷ cs) e = ap (λ ys. x ∷ ys) (ids_zip xs cs (omega arith))

length-map_run : (f : List Tuple → List Tuple) (x : List Tuple) (n : ℕ) → length (map f (run_idents x n)) ≡ n
length-map_run f x zero = refl
length-map_run f x (suc n) = ap suc (length-map_run f (shifted (pos 1) x) n)

-- the identifiers that it adds
pub added_ids : (s : Seen) (e : EpochName) (first : List Tuple) (text : List ℕ) → ids (added_over s e first text) ≡ map (placed_over s e) (run_idents first (length text))
added_ids s e first text = ids_zip (map (placed_over s e) (run_idents first (length text))) text (length-map_run (placed_over s e) first (length text))

entry_used : (o : Op) (x : List Tuple) (cs : List ℕ) → o.body ≡ Insert x cs → (y : Entry) → IsIn y (entries x cs) → IsUsedBy o (replica_of (last_of y.0)) (seq_of (last_of y.0)) (offset_of (last_of y.0))
entry_used o x cs e y p =
    let r = in_map born y (chars_from o 0 x cs) (subst (IsIn y) (sym (born_entries o 0 x cs)) p) in
    let c = r.0 in
    let q : IsIn c (chars_of o o.body) = subst (λ b. IsIn c (chars_of o b)) (sym e) r.1 in
    let f : c.ident ≡ y.0 = ap (λ (z : Entry). z.0) r.2 in
    inl (c, q, (ap (λ z. replica_of (last_of z)) f, ap (λ z. seq_of (last_of z)) f, ap (λ z. offset_of (last_of z)) f))

placed_below : (s : Seen) (e : EpochName) (x y : Entry) → AreNodes s.epochs.nodes → IsIdent x.0 → IsIdent y.0 → IsBelow x y → IsBelow (moved (placed_over s e) x) (moved (placed_over s e) y)
placed_below s e x y n i j l = record { less = translate_order s.epochs.nodes e (greatest_over s) x.0 y.0 n i j ∙ l.less }

added_rises : (s : Seen) (e : EpochName) (first : List Tuple) (text : List ℕ) → AreNodes s.epochs.nodes → IsIdent first → Rises (added_over s e first text)
added_rises s e first text n i =
    subst Rises (sym (added_go (placed_over s e) first text))
    (rises_map (placed_over s e) (entries first text)
    (λ x y p q l. placed_below s e x y n (entry_ident first text i x p) (entry_ident first text i y q) l)
    (entries_rise first text i))

-- an entry that is added is that of the operation, taken along
added_in : (s : Seen) (e : EpochName) (first : List Tuple) (text : List ℕ) (x : List Tuple) → IsIn x (ids (added_over s e first text)) → (y : Entry) × IsIn y (entries first text) × (placed_over s e y.0 ≡ x)
added_in s e first text x p =
    let q = entry_in (map (moved (placed_over s e)) (entries first text)) x (subst (λ es. IsIn x (ids es)) (added_go (placed_over s e) first text) p) in
    let r = in_map (moved (placed_over s e)) q.0 (entries first text) q.1 in
    (r.0, r.1, ap (λ (z : Entry). z.0) r.2 ∙ q.2)

added_new : (s : Seen) (o : Op) (first : List Tuple) (text : List ℕ) → IsSane s → Facts s o → o.body ≡ Insert first text → IsIdent first → (x : List Tuple) → IsIn x (ids (added_over s o.epoch first text)) → IsIn x (idents_over s) → ⊥
added_new s o first text sane f e i x p q =
    let ns = s.epochs.nodes in
    let g = greatest_over s in
    let r = added_in s o.epoch first text x p in
    let y = r.0.0 in
    let j = entry_ident first text i r.0 r.1 in
    let a : translate ns g o.epoch x ≡ y = ap (translate ns g o.epoch) (sym r.2) ∙ translate_back ns o.epoch g y sane.epochs.nodes j in
    let u : HasLast (Used s.stems) y = subst (HasLast (Used s.stems)) a (sane.used x q o.epoch f.kept) in
    let n = unused s.stems o (change s o sane f) (replica_of (last_of y)) (seq_of (last_of y)) (offset_of (last_of y)) (entry_used o first text e r.0 r.1) in
    absurd (cc)

pub newborn : (s : Seen) (o : Op) (first : List Tuple) (text : List ℕ) → IsSane s → MayApply s o → o.body ≡ Insert first text → IsNewborn s o first text
newborn s o first text sane m e =
    let f = facts s o m in
    let b : IsBody (Insert first text) = subst IsBody e m.whole.body in
    let i = b.0 in
    let n = sane.epochs.nodes in
    let xs = added_ids s o.epoch first text in
    record {
      idents = subst AreIdents xs
          (idents_of (added_over s o.epoch first text) (added_rises s o.epoch first text n i)
          (λ x p. let r = added_in s o.epoch first text x p in subst IsIdent r.2 (translate_ident s.epochs.nodes o.epoch (greatest_over s) r.0.0 n (entry_ident first text i r.0 r.1))));
      new = λ x p q. added_new s o first text sane f e i x (subst (IsIn x) (sym xs) p) q;
    }

-- ---- after an operation

pub later_used : (s : Seen) (o : Op) → IsSane s → Facts s o → Grows s.stems (stems_after s.stems o.author o.seq o.body)
later_used s o sane f a q k u = still_used s.stems o (change s o sane f) a q k u

apart_of : (x : Entry) (ys : List Entry) → ((y : Entry) → IsIn y ys → x.0 ≡ y.0 → ⊥) → AreApart x ys
apart_of x [] f = tt
apart_of x (y ∷ ys) f = (f y (inl refl), apart_of x ys (λ z p. f z (inr p)))

all_apart : (xs ys : List Entry) → ((x y : Entry) → IsIn x xs → IsIn y ys → x.0 ≡ y.0 → ⊥) → AllApart xs ys
all_apart [] ys f = tt
all_apart (x ∷ xs) ys f = (apart_of x ys (λ y q. f x y (inl refl) q), all_apart xs ys (λ z y p q. f z y (inr p) q))

-- insertion
inserted : (s : Seen) (o : Op) (first : List Tuple) (text : List ℕ) → IsSane s → Facts s o → o.body ≡ Insert first text → IsIdent first
    → IsWritten (stems_after s.stems o.author o.seq o.body) s.epochs.top s.epochs.nodes (put_all (added_over s o.epoch first text) s.text)
inserted s o first text sane f e i =
    let ns = s.epochs.nodes in
    let g = greatest_over s in
    let n = sane.epochs.nodes in
    let ts = stems_after s.stems o.author o.seq o.body in
    let w = written s sane in
    let es = added_over s o.epoch first text in
    let grows = later_used s o sane f in
    let ch = change s o sane f in
    let r : Rises es = added_rises s o.epoch first text n i in
    let split : (x : List Tuple) → IsIn x (ids (put_all es s.text)) → IsIn x (ids es) ⊎ IsIn x (ids s.text) =
    λ x p. let q = entry_in (put_all es s.text) x p in
    ⊎_elim (λ a. inl (subst (λ y. IsIn y (ids es)) q.2 (in_entry es q.0 a))) (λ a. inr (subst (λ y. IsIn y (ids s.text)) q.2 (in_entry s.text q.0 a))) (in_put_all q.0 es s.text q.1) in
    record {
      idents = idents_of (put_all es s.text)
          (rises_all es s.text (rises_of_increasing s.text w.idents.1) (distinct_of es r)
          (all_apart es s.text (λ x y p q d. added_new s o first text sane f e i x.0 (in_entry es x p) (subst (λ z. IsIn z (ids s.text)) (sym d) (in_entry s.text y q)))))
          (λ x p. ⊎_elim
          (λ a. let b = added_in s o.epoch first text x a in subst IsIdent b.2 (translate_ident ns o.epoch g b.0.0 n (entry_ident first text i b.0 b.1)))
          (λ a. ident_in (ids s.text) w.idents x a)
          (split x p));
      known = λ x p. ⊎_elim
          (λ a. let b = added_in s o.epoch first text x a in
          let y = b.0.0 in
          let j = entry_ident first text i b.0 b.1 in
          let u = entry_used o first text e b.0 b.1 in
          let fresh : HasLast (Used s.stems) y → ⊥ = λ v. let c = unused s.stems o ch (replica_of (last_of y)) (seq_of (last_of y)) (offset_of (last_of y)) u in true_false (is_used s.stems (replica_of (last_of y)) (seq_of (last_of y)) (offset_of (last_of y))) v c in
          let taken : HasLast (Used ts) y = now_used s.stems o ch (replica_of (last_of y)) (seq_of (last_of y)) (offset_of (last_of y)) u in
          let c = covered s.stems ns sane.epochs.covered in
          let d : AreCovered (Used ts) ns = λ R q k l. grows R.replica R.seq (pos k) (c R q k l) in
          subst (IsKnown ts s.epochs.top ns g) b.2
          (known_moved ts s.epochs.top ns o.epoch g y n j (λ h k. newborn_in (Used s.stems) (Used ts) ns o.epoch h y n c d j fresh taken)))
          (λ a. known_more s.stems ts s.epochs.top ns g x grows (w.known x a))
          (split x p);
    }

-- the greatest epoch after a rename
pub next_greatest : (top : EpochName) (node : Node) (older : List Node) → AreNodes (node ∷ older) → AreBelow top (node ∷ older)
    → (greatest top (node ∷ older) ≡ name_of node.renaming) ⊎ (greatest top (node ∷ older) ≡ greatest top older)
next_greatest top node older n b =
    let k = greatest top (node ∷ older) in
    let g = greatest top older in
    let gk = kept_more top node older g (greatest_kept top older) in
    bool_cases (is_of node k)
    (λ e. inl (sym (name_eq_is (name_of node.renaming) k e)))
    (λ e. let h = kept_before top node older k e (greatest_kept top (node ∷ older)) in
    inr (level_same top (node ∷ older) n b k g (greatest_kept top (node ∷ older)) gk (greatest_top top (node ∷ older) g gk)
    (λ q. greatest_top top older k h (sym (older_cmp top node older n b g k (greatest_kept top older) h) ∙ q))))

-- the rename covers its new identifiers
pub rename_covered : (s : Seen) (o : Op) (former : List (List Tuple)) → IsSane s → Facts s o → o.body ≡ Rename former → triples.IsCovered (Used (stems_after s.stems o.author o.seq o.body)) (renaming_of o former)
rename_covered s o former sane f e j l =
    let P : Body → Type 0 = λ b. IsOfRename o b o.author o.seq (pos j) in
    let q : P (Rename former) = (refl, refl, omega (arith, ints), omega (arith, ints)) in
    now_used s.stems o (change s o sane f) o.author o.seq (pos j) (inr (subst P (sym e) q))

-- the nodes after a rename form a tree
pub rename_tree : (s : Seen) (o : Op) (former : List (List Tuple)) → IsSane s → MayApply s o → o.body ≡ Rename former
    → AreNodes (record { parent = o.epoch; renaming = renaming_of o former } ∷ s.epochs.nodes) × AreBelow s.epochs.top (record { parent = o.epoch; renaming = renaming_of o former } ∷ s.epochs.nodes)
rename_tree s o former sane m e =
    let f = facts s o m in
    let node : Node = record { parent = o.epoch; renaming = renaming_of o former } in
    let b : IsBody (Rename former) = subst IsBody e m.whole.body in
    let z : is_empty (Rename former) ≡ false = ap is_empty (sym e) ∙ f.shaped.some in
    let l : 0 < length former = let k = eq_not (length former) 0 z in omega arith in
    let new = name_new s o sane f in (
      (former_of former l b, not_there (name_eq (Of o.author o.seq) s.epochs.top) (has_node s.epochs.nodes (Of o.author o.seq)) new, sane.epochs.nodes),
      (f.kept, not_here (name_eq (Of o.author o.seq) s.epochs.top) (has_node s.epochs.nodes (Of o.author o.seq)) new, sane.epochs.below),
    )
  where
    not_there : (x y : Bool) → (x || y) ≡ false → y ≡ false
    not_there true y h = absurd (cc)
    not_there false y h = h

    not_here : (x y : Bool) → (x || y) ≡ false → x ≡ false
    not_here true y h = absurd (cc)
    not_here false y h = refl

-- rename
renamed : (s : Seen) (o : Op) (former : List (List Tuple)) → IsSane s → MayApply s o → o.body ≡ Rename former
    → IsWritten (stems_after s.stems o.author o.seq o.body) s.epochs.top (record { parent = o.epoch; renaming = renaming_of o former } ∷ s.epochs.nodes) (text_after s o (Rename former))
renamed s o former sane m e =
    let f = facts s o m in
    let older = s.epochs.nodes in
    let node : Node = record { parent = o.epoch; renaming = renaming_of o former } in
    let ns = node ∷ older in
    let top = s.epochs.top in
    let g = greatest_over s in
    let n = (rename_tree s o former sane m e).0 in
    let b = (rename_tree s o former sane m e).1 in
    let ts = stems_after s.stems o.author o.seq o.body in
    let w = written s sane in
    let gk : is_kept top older g ≡ true = greatest_kept top older in
    let known : (x : List Tuple) → IsIn x (ids s.text) → IsKnown ts top ns g x =
    λ x p. known_renamed s.stems ts top node older g x n b (later_used s o sane f) (rename_covered s o former sane f e) (ident_in (ids s.text) w.idents x p) gk (w.known x p) in
    let moves : List Entry = map (moved (renamed_over s o former)) s.text in
    let fresh : EpochName = Of o.author o.seq in
    let yes : greatest top ns ≡ fresh → IsWritten ts top ns moves =
    λ q. let is : (x : List Tuple) → IsIdent x → translate ns g fresh x ≡ renamed_over s o former x =
    λ x i. translate_child node older g fresh x n i (kept_other top node older g n b gk) (name_eq_refl fresh) in
    let order : (x y : Entry) → IsIn x s.text → IsIn y s.text → IsBelow x y → IsBelow (moved (renamed_over s o former) x) (moved (renamed_over s o former) y) =
    λ x y p r l. let i = ident_in (ids s.text) w.idents x.0 (in_entry s.text x p) in
    let j = ident_in (ids s.text) w.idents y.0 (in_entry s.text y r) in
    record { less = subst (λ z. ident_cmp z (renamed_over s o former y.0) ≡ Less) (is x.0 i) (subst (λ z. ident_cmp (translate ns g fresh x.0) z ≡ Less) (is y.0 j) (translate_order ns g fresh x.0 y.0 n i j ∙ l.less)) } in
    let from : (x : List Tuple) → IsIn x (ids moves) → (y : List Tuple) × IsIn y (ids s.text) × (translate ns g fresh y ≡ x) =
    λ x p. let a = entry_in moves x p in
    let c = in_map (moved (renamed_over s o former)) a.0 s.text a.1 in
    let d = in_entry s.text c.0 c.1 in
    (c.0.0, d, is c.0.0 (ident_in (ids s.text) w.idents c.0.0 d) ∙ (ap (λ (z : Entry). z.0) c.2 ∙ a.2)) in
    record {
      idents = idents_of moves (rises_map (renamed_over s o former) s.text order (rises_of_increasing s.text w.idents.1))
          (λ x p. let a = from x p in subst IsIdent a.2 (translate_ident ns g fresh a.0 n (ident_in (ids s.text) w.idents a.0 a.1)));
      known = λ x p. let a = from x p in
          subst (λ h. IsKnown ts top ns h x) (sym q) (subst (IsKnown ts top ns fresh) a.2 (known_moved ts top ns g fresh a.0 n (ident_in (ids s.text) w.idents a.0 a.1) (known a.0 a.1)));
    } in
    let no : greatest top ns ≡ g → IsWritten ts top ns s.text =
    λ q. record { idents = w.idents; known = λ x p. subst (λ h. IsKnown ts top ns h x) (sym q) (known x p) } in
    let test : is_greatest_over s o ≡ name_eq (greatest top ns) fresh = ap (λ c. name_eq (greatest top (nodes_after older o c)) fresh) e in
    bool_cases (is_greatest_over s o)
    (λ q. subst (IsWritten ts top ns) (sym (ap (λ c. if c then moves else s.text) q)) (yes (name_eq_is (greatest top ns) fresh (sym test ∙ q))))
    (λ q. subst (IsWritten ts top ns) (sym (ap (λ c. if c then moves else s.text) q))
    (no (⊎_elim
    (λ h. absurd (true_false (is_greatest_over s o) (test ∙ (ap (λ c. name_eq c fresh) h ∙ name_eq_refl fresh)) q))
    (λ h. h)
    (next_greatest top node older n b))))

written_go : (s : Seen) (o : Op) (b : Body) → IsSane s → MayApply s o → o.body ≡ b → IsWritten (stems_after s.stems o.author o.seq o.body) s.epochs.top (nodes_after s.epochs.nodes o b) (text_after s o b)
written_go s o (Insert first text) sane m e = let b : IsBody (Insert first text) = subst IsBody e m.whole.body in inserted s o first text sane (facts s o m) e b.0
written_go s o (Delete targets) sane m e =
    fewer s.stems (stems_after s.stems o.author o.seq o.body) s.epochs.top s.epochs.nodes s.text (λ y. not (has_ident (map (placed_over s o.epoch) targets) y.0)) (later_used s o sane (facts s o m)) (written s sane)
written_go s o (Rename former) sane m e = renamed s o former sane m e
written_go s o Leave sane m e = same s.stems (stems_after s.stems o.author o.seq o.body) s.epochs.top s.epochs.nodes s.text (later_used s o sane (facts s o m)) (written s sane)

-- the text after an operation that may be applied
pub written_after : (s : Seen) (o : Op) → IsSane s → MayApply s o → IsWritten (stems_after s.stems o.author o.seq o.body) s.epochs.top (nodes_after s.epochs.nodes o o.body) (text_after s o o.body)
written_after s o sane m = written_go s o o.body sane m refl
