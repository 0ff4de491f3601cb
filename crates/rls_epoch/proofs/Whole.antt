-- A tree with one more node, and its marks.
use Rattle.std.proofs.Common.{◌≡◌, ◌≤◌, ◌<◌, ℕ, zero, suc, ◌+◌, true, false, List, [], ◌∷◌, ◌++◌, map, length, set, take, drop, Option, Some, None, refl, sym, ap, ◌∙◌, subst, inl, inr, ◌⊎◌, ⊎_elim, arith, length-append}
use Rattle.std.specs.Prelude.{◌||◌, replicate, slice_get, insert}
use Rattle.std.specs.Option.{option_map}
use Rattle.std.specs.declared.cmp.Ordering.TheVariants.{Less}
use Rattle.std.proofs.lemmas.Bool.{cases_lt}
use Rattle.std.proofs.lemmas.List.{length-map, map-append}
use Rattle.std.proofs.lemmas.List.Sums.{sum_by-cons}
use Rattle.std.proofs.lemmas.Option.{slice_get-map}
use Rattle.rls_ident.specs.declared.epoch_name.EpochName.{EpochName}
use Rattle.rls_ident.specs.EpochNames.{name_eq}
use Rattle.rls_ident.specs.Lists.{IsIn}
use Rattle.rls_ident.proofs.Members.{some_is, or_false, or_swap, or_again}
use Rattle.rls_rename.specs.Renaming.{IsFormer}
use Rattle.rls_rename.specs.Tree.{Node, name_of, has_node, is_kept, AreNodes, AreBelow}
use Rattle.rls_epoch.specs.declared.placed.Placed.{Placed}
use Rattle.rls_epoch.specs.Links.{name_at, AreLinked}
use Rattle.rls_epoch.specs.Seen.{AreLaid, node_of, nodes_of, former_sum, epochs_by_number, is_marked, marked_of, marks_of}
use Rattle.rls_epoch.specs.Sorted.{place_name, names_at, AreRising, AreSorted, IsCut}
use Rattle.rls_epoch.proofs.Laid.{nodes_last}
use Rattle.rls_epoch.proofs.Sorting.{Cmp, IsOrder, all_in, cut_insert, in_inserted, inserted_in, map-insert, rising_same}

-- ---- links

pub get_end : {A : Type 0} (xs : List A) (x : A) (k : ℕ) (y : A) → slice_get (xs ++ x ∷ []) k ≡ Some y → (slice_get xs k ≡ Some y) ⊎ ((k ≡ length xs) × (x ≡ y))
get_end [] x zero y h = inr (refl, some_is x y h)
get_end [] x (suc k) y h = absurd (cc)
get_end (z ∷ xs) x zero y h = inl h
get_end (z ∷ xs) x (suc k) y h = ⊎_elim (λ g. inl g) (λ g. inr (ap suc g.0, g.1)) (get_end xs x k y h)

pub get_last : {A : Type 0} (xs : List A) (x : A) → slice_get (xs ++ x ∷ []) (length xs) ≡ Some x
get_last [] x = refl
get_last (y ∷ xs) x = get_last xs x

get_more : (ps : List Placed) (p : Placed) (k : ℕ) (q : Placed) → slice_get ps k ≡ Some q → slice_get (ps ++ p ∷ []) k ≡ Some q
get_more [] p k q h = absurd (cc)
get_more (r ∷ ps) p zero q h = h
get_more (r ∷ ps) p (suc k) q h = get_more ps p k q h

name_more : (top : EpochName) (ps : List Placed) (p : Placed) (n : ℕ) (e : EpochName) → name_at top ps n ≡ Some e → name_at top (ps ++ p ∷ []) n ≡ Some e
name_more top ps p zero e h = h
name_more top ps p (suc k) e h = go (slice_get ps k) refl h
  where
    go : (o : Option Placed) → slice_get ps k ≡ o → option_map (λ (z : Placed). name_of z.renaming) o ≡ Some e → option_map (λ (z : Placed). name_of z.renaming) (slice_get (ps ++ p ∷ []) k) ≡ Some e
    go None g j = absurd (cc)
    go (Some q) g j = ap (option_map (λ (z : Placed). name_of z.renaming)) (get_more ps p k q g) ∙ j

links_more : (top : EpochName) (ps : List Placed) (p : Placed) → AreLinked top ps → p.up ≤ length ps → name_at top ps p.up ≡ Some p.parent → AreLinked top (ps ++ p ∷ [])
links_more top ps p l u n = record {
  earlier = λ k q h. ⊎_elim (λ g. l.earlier k q g) (λ g. let e : p.up ≡ q.up = ap (λ (z : Placed). z.up) g.1 in omega (arith, g.0)) (get_end ps p k q h);
  parents = λ k q h. ⊎_elim (λ g. name_more top ps p q.up q.parent (l.parents k q g)) (λ g. subst (λ (z : Placed). name_at top (ps ++ p ∷ []) z.up ≡ Some z.parent) g.1 (name_more top ps p p.up p.parent n)) (get_end ps p k q h);
}

-- ---- one more node

pub laid_more : (top : EpochName) (ps : List Placed) (p : Placed) → AreLaid top ps → p.up ≤ length ps → name_at top ps p.up ≡ Some p.parent → IsFormer p.renaming.former → is_kept top (nodes_of ps) (name_of p.renaming) ≡ false → is_kept top (nodes_of ps) p.parent ≡ true → AreLaid top (ps ++ p ∷ [])
laid_more top ps p l u n f k q =
    let o = or_false (name_eq (name_of p.renaming) top) (has_node (nodes_of ps) (name_of p.renaming)) k in
    let N : List Node = node_of p ∷ nodes_of ps in
    let nodes : AreNodes N = (f, o.1, l.nodes) in
    let below : AreBelow top N = (q, o.0, l.below) in
    record {
      nodes = subst AreNodes (sym (nodes_last ps p)) nodes;
      below = subst (AreBelow top) (sym (nodes_last ps p)) below;
      links = links_more top ps p l.links u n;
    }

-- ---- places

pub place_more : (ps : List Placed) (p : Placed) (k : ℕ) → k < length ps → place_name (ps ++ p ∷ []) k ≡ place_name ps k
place_more [] p k h = absurd (omega arith)
place_more (q ∷ ps) p zero h = refl
place_more (q ∷ ps) p (suc k) h = place_more ps p k (omega arith)

pub place_last : (ps : List Placed) (p : Placed) → place_name (ps ++ p ∷ []) (length ps) ≡ name_of p.renaming
place_last [] p = refl
place_last (q ∷ ps) p = place_last ps p

pub names_more : (ps : List Placed) (p : Placed) (places : List ℕ) → ((k : ℕ) → IsIn k places → k < length ps) → names_at (ps ++ p ∷ []) places ≡ names_at ps places
names_more ps p [] h = refl
names_more ps p (k ∷ places) h = ap (λ e. e ∷ names_at (ps ++ p ∷ []) places) (place_more ps p k (h k (inl refl))) ∙ ap (λ es. place_name ps k ∷ es) (names_more ps p places (λ j q. h j (inr q)))

pub sorted_more : (cmp later : Cmp) (ps : List Placed) (p : Placed) (places : List ℕ) (i : ℕ) → AreSorted cmp ps places → IsOrder later → ((e f : EpochName) → IsIn e (names_at ps places) → IsIn f (names_at ps places) → cmp e f ≡ later e f) →
    IsCut later (names_at ps places) (name_of p.renaming) i → ((f : EpochName) → IsIn f (names_at ps places) → (later f (name_of p.renaming) ≡ Less → ⊥) → later (name_of p.renaming) f ≡ Less) → AreSorted later (ps ++ p ∷ []) (insert places i (length ps))
sorted_more cmp later ps p places i s o same c other =
    let more = ps ++ p ∷ [] in
    let n : length more ≡ length ps + 1 = length-append ps (p ∷ []) in
    let names = names_more ps p places s.within in
    let rising = cut_insert later o (names_at ps places) (rising_same cmp later (names_at ps places) same s.rising) (name_of p.renaming) i c other in
    let here = place_last ps p in
    record {
      within = λ k q. ⊎_elim (λ e. omega arith) (λ g. let l = s.within k g in omega arith) (in_inserted k (length ps) places i q);
      rising = subst (AreRising later)
          (sym (map-insert (place_name more) places i (length ps) ∙ (ap (λ xs. front i xs (place_name more (length ps))) names ∙ ap (front i (names_at ps places)) here))) rising;
      complete = λ k l. ∣ inserted_in k (length ps) places i (⊎_elim (λ m. inr (all_in s k m)) (λ m. inl (omega arith)) (cases_lt k (length ps))) ∣₁;
    }
  where
    front : ℕ → List EpochName → EpochName → List EpochName
    front j xs e = take j xs ++ (e ∷ drop j xs)

-- ---- marks

marked_more : (es : List EpochName) (ms : List ℕ) (e : EpochName) → length ms ≡ length es → marked_of (es ++ e ∷ []) (ms ++ 0 ∷ []) ≡ marked_of es ms
marked_more [] [] e h = refl
marked_more [] (m ∷ ms) e h = absurd (omega arith)
marked_more (f ∷ es) [] e h = absurd (omega arith)
marked_more (f ∷ es) (zero ∷ ms) e h = marked_more es ms e (omega arith)
marked_more (f ∷ es) (suc m ∷ ms) e h = ap (λ xs. f ∷ xs) (marked_more es ms e (omega arith))

-- a node without a mark
pub marks_more : (top : EpochName) (ps : List Placed) (p : Placed) (ms : List ℕ) → length ms ≡ suc (length ps) → marks_of top (ps ++ p ∷ []) (ms ++ 0 ∷ []) ≡ marks_of top ps ms
marks_more top ps p ms h =
    ap (λ es. marked_of (top ∷ es) (ms ++ 0 ∷ [])) (map-append (λ (z : Placed). name_of z.renaming) ps (p ∷ []))
    ∙ marked_more (top ∷ map (λ (z : Placed). name_of z.renaming) ps) ms (name_of p.renaming) (omega (arith, h, length-map ps (λ (z : Placed). name_of z.renaming)))

marked_none : (es : List EpochName) (n : ℕ) → marked_of es (replicate n 0) ≡ []
marked_none [] n = refl
marked_none (e ∷ es) zero = refl
marked_none (e ∷ es) (suc n) = marked_none es n

pub marks_none : (top : EpochName) (ps : List Placed) (n : ℕ) → marks_of top ps (replicate n 0) ≡ []
marks_none top ps n = marked_none (top ∷ map (λ (z : Placed). name_of z.renaming) ps) n

-- ---- one mark more

marked_set : (es : List EpochName) (ms : List ℕ) (n : ℕ) (name e : EpochName) → slice_get es n ≡ Some name → n < length ms → is_marked (marked_of es (set ms n 1)) e ≡ (name_eq name e || is_marked (marked_of es ms) e)
marked_set es [] n name e g h = absurd (omega arith)
marked_set [] (m ∷ ms) n name e g h = absurd (cc)
marked_set (f ∷ es) (zero ∷ ms) zero name e g h = ap (λ x. name_eq x e || is_marked (marked_of es ms) e) (some_is f name g)
marked_set (f ∷ es) (suc m ∷ ms) zero name e g h = ap (λ x. name_eq x e || is_marked (marked_of es ms) e) (some_is f name g) ∙ (sym (or_again (name_eq name e) (is_marked (marked_of es ms) e)) ∙ ap (λ x. name_eq name e || (name_eq x e || is_marked (marked_of es ms) e)) (sym (some_is f name g)))
marked_set (f ∷ es) (zero ∷ ms) (suc n) name e g h = marked_set es ms n name e g (omega arith)
marked_set (f ∷ es) (suc m ∷ ms) (suc n) name e g h = ap (λ b. name_eq f e || b) (marked_set es ms n name e g (omega arith)) ∙ or_swap (name_eq f e) (name_eq name e) (is_marked (marked_of es ms) e)

by_number : (top : EpochName) (ps : List Placed) (n : ℕ) (e : EpochName) → name_at top ps n ≡ Some e → slice_get (epochs_by_number top ps) n ≡ Some e
by_number top ps zero e h = h
by_number top ps (suc k) e h = slice_get-map (λ (z : Placed). name_of z.renaming) ps k ∙ h

pub marks_set : (top : EpochName) (ps : List Placed) (ms : List ℕ) (n : ℕ) (name e : EpochName) → name_at top ps n ≡ Some name → n < length ms → is_marked (marks_of top ps (set ms n 1)) e ≡ (name_eq name e || is_marked (marks_of top ps ms) e)
marks_set top ps ms n name e h l = marked_set (epochs_by_number top ps) ms n name e (by_number top ps n name h) l

-- ---- former identifiers

pub sum_more : (ps : List Placed) (p : Placed) (total n : ℕ) → total ≡ former_sum (nodes_of ps) → n ≡ length p.renaming.former → total + n ≡ former_sum (nodes_of (ps ++ p ∷ []))
sum_more ps p total n s h = omega (arith, s, h, sum_by-cons (λ node. length node.renaming.former) (node_of p) (nodes_of ps)) ∙ ap (λ ns. former_sum ns) (sym (nodes_last ps p))
