-- The tree of epochs grows entry by entry.
use Rattle.std.proofs.Common.{◌≡◌, ℕ, zero, suc, ◌+◌, ◌-◌, ◌*◌, ◌^◌, ◌<◌, ◌≤◌, ◌&&◌, not, Bool, true, false, List, [], ◌∷◌, ◌++◌, length, get_or, take, drop, refl, sym, ap, ◌∙◌, subst, arith, inl, inr, Some, None, append-nil, append_assoc, length-append}
use Rattle.std.specs.Prelude.{slice_get, sum_by, if◌then◌else◌}
use Rattle.std.specs.List.{list_any}
use Rattle.std.specs.Ordering.{is_lt}
use Rattle.rls_ident.specs.declared.limits.TheConstants.{IDENTIFIERS}
use Rattle.rls_ident.specs.declared.epoch_name.EpochName.{EpochName}
use Rattle.rls_ident.specs.declared.epoch_name.EpochName.TheVariants.{Of}
use Rattle.rls_ident.specs.EpochNames.{name_eq}
use Rattle.rls_ident.specs.Lists.{IsIn}
use Rattle.rls_ident.proofs.Members.{any_in, in_any, in_map, map_in, not_true, same_bool}
use Rattle.rls_ident.proofs.Named.{name_eq_is, name_eq_refl}
use Rattle.rls_rename.specs.Renaming.{Renaming}
use Rattle.rls_rename.specs.Tree.{Node, Epochs, epoch_cmp, is_kept}
use Rattle.rls_model.specs.declared.parts.EpochPart.{EpochPart}
use Rattle.rls_model.specs.declared.parts.Parts.{Parts}
use Rattle.rls_parts.specs.Given.{AreEpochParts}
use Rattle.rls_parts.specs.Reading.{epochs_of, top_name, name_or_origin, with_node, nodes_onto, nodes_of, names_of}
use Rattle.rls_parts.specs.Rules.{epoch_fault, is_epoch_behind, is_epoch_of, is_greater, is_new, last_name, may_be_top}
use Rattle.rls_parts.proofs.EpochLists.{IsBuilt, built_by, entry_is, node_for, node_made, none_made}
use Rattle.rls_parts.proofs.RestoredEpochs.{former_restored}
use Rattle.rls_parts.specs.Building.{AreEntries, IsEntry, IsTreeBefore, opens}

-- ---- nodes of more entries

onto_append : (all : List EpochPart) (ns : List Node) (es fs : List EpochPart) → nodes_onto all ns (es ++ fs) ≡ nodes_onto all (nodes_onto all ns es) fs
onto_append all ns [] fs = refl
onto_append all ns (e ∷ es) fs = onto_append all (with_node all e e.name e.parent ns) es fs

get_front : (es more : List EpochPart) (k : ℕ) → k < length es → slice_get (es ++ more) k ≡ slice_get es k
get_front [] more k l = absurd (omega arith)
get_front (e ∷ es) more zero l = refl
get_front (e ∷ es) more (suc k) l = get_front es more k (omega arith)

abbrev node_of_name : EpochPart → EpochName → ℕ → ℕ → Node
node_of_name e n r s = record { parent = n; renaming = record { former = e.former; replica = r; seq = s } }

-- parents are looked up among the entries before
same_onto : (p : Parts) (f : EpochPart) (done es more : List EpochPart) (ns : List Node) → AreEntries p f done es → nodes_onto (((f ∷ done) ++ es) ++ more) ns es ≡ nodes_onto ((f ∷ done) ++ es) ns es
same_onto p f done [] more ns h = refl
same_onto p f done (e ∷ es) more ns h =
    let c = h.0 in
    let all = (f ∷ done) ++ e ∷ es in
    let l = c.below in
    let k : c.place < length all = let x = length-append (f ∷ done) (e ∷ es) in omega arith in
    let one : with_node (all ++ more) e e.name e.parent ns ≡ with_node all e e.name e.parent ns =
    node_made (all ++ more) e c.replica c.seq c.place ns c.named c.parent
    ∙ (ap (λ o. node_of_name e (name_or_origin o) c.replica c.seq ∷ ns) (get_front all more c.place k) ∙ sym (node_made all e c.replica c.seq c.place ns c.named c.parent)) in
    let group : (f ∷ done) ++ e ∷ es ≡ (f ∷ (done ++ e ∷ [])) ++ es = sym (append_assoc (f ∷ done) (e ∷ []) es) in
    ap (λ ms. nodes_onto (all ++ more) ms es) one
    ∙ (ap (λ xs. nodes_onto (xs ++ more) (with_node all e e.name e.parent ns) es) group
    ∙ (same_onto p f (done ++ e ∷ []) es more (with_node all e e.name e.parent ns) h.1 ∙ ap (λ xs. nodes_onto xs (with_node all e e.name e.parent ns) es) (sym group)))

nodes_push : (p : Parts) (f : EpochPart) (fs : List EpochPart) (e : EpochPart) → f.parent ≡ None → AreEntries p f [] fs → (c : IsEntry p (f ∷ fs) e) → nodes_of ((f ∷ fs) ++ e ∷ []) ≡ node_for (f ∷ fs) e c.replica c.seq c.place ∷ nodes_of (f ∷ fs)
unfolding nodes_of
nodes_push p f fs e n h c =
    let es = f ∷ fs in
    let all = es ++ e ∷ [] in
    let top : (a : List EpochPart) → with_node a f f.name f.parent [] ≡ [] = λ a. ap (λ o. with_node a f f.name o []) n ∙ none_made a f f.name [] in
    let rest : nodes_onto all [] es ≡ nodes_onto es [] es =
    ap (λ ns. nodes_onto all ns fs) (top all) ∙ (same_onto p f [] fs (e ∷ []) [] h ∙ ap (λ ns. nodes_onto es ns fs) (sym (top es))) in
    onto_append all [] es (e ∷ [])
    ∙ (node_made all e c.replica c.seq c.place (nodes_onto all [] es) c.named c.parent
    ∙ (ap (λ ns. node_for all e c.replica c.seq c.place ∷ ns) rest
    ∙ ap (λ o. record { parent = name_or_origin o; renaming = record { former = e.former; replica = c.replica; seq = c.seq } } ∷ nodes_onto es [] es) (get_front es (e ∷ []) c.place c.below)))

entries_push : (p : Parts) (f : EpochPart) (done es : List EpochPart) (e : EpochPart) → AreEntries p f done es → IsEntry p (f ∷ (done ++ es)) e → AreEntries p f done (es ++ e ∷ [])
entries_push p f done [] e h c = (subst (λ xs. IsEntry p (f ∷ xs) e) (append-nil done) c, tt)
entries_push p f done (x ∷ es) e h c = (h.0, entries_push p f (done ++ x ∷ []) es e h.1 (subst (λ xs. IsEntry p (f ∷ xs) e) (sym (append_assoc done (x ∷ []) es)) c))

take_suc : (es : List EpochPart) (i : ℕ) (e : EpochPart) → slice_get es i ≡ Some e → take (suc i) es ≡ take i es ++ e ∷ []
take_suc [] i e h = absurd (cc)
take_suc (x ∷ es) zero e h = let y : x ≡ e = cc in ap (λ z. z ∷ []) y
take_suc (x ∷ es) (suc i) e h = ap (λ xs. x ∷ xs) (take_suc es i e h)

pub take_next : (es : List EpochPart) (i : ℕ) (e : EpochPart) → slice_get es i ≡ Some e → take (i + 1) es ≡ take i es ++ e ∷ []
take_next es i e h = let one : i + 1 ≡ suc i = omega arith in ap (λ k. take k es) one ∙ take_suc es i e h

length-take_of : (i : ℕ) (xs : List EpochPart) → i ≤ length xs → length (take i xs) ≡ i
length-take_of zero xs l = refl
length-take_of (suc i) [] l = absurd (omega arith)
length-take_of (suc i) (x ∷ xs) l = ap suc (length-take_of i xs (omega arith))

drop_suc : (es : List EpochPart) (i : ℕ) (e : EpochPart) → slice_get es i ≡ Some e → drop i es ≡ e ∷ drop (suc i) es
drop_suc [] i e h = absurd (cc)
drop_suc (x ∷ es) zero e h = let y : x ≡ e = cc in ap (λ z. z ∷ es) y
drop_suc (x ∷ es) (suc i) e h = drop_suc es i e h

drop_first : (es : List EpochPart) (i : ℕ) (e : EpochPart) → slice_get es i ≡ Some e → drop i es ≡ e ∷ drop (i + 1) es
drop_first es i e h = let one : suc i ≡ i + 1 = omega arith in drop_suc es i e h ∙ ap (λ k. e ∷ drop k es) one

-- ---- what is known of the tree

built_before : (p : Parts) (i : ℕ) (E : Epochs) (t : IsTreeBefore p i E) → IsBuilt p (t.first ∷ t.rest) t.first t.rest (nodes_of (t.first ∷ t.rest))
built_before p i E t = built_by p t.first t.rest t.alone t.entries

pub kept_is : (p : Parts) (i : ℕ) (E : Epochs) → IsTreeBefore p i E → (g : EpochName) → not (is_kept E.top E.nodes g) ≡ is_new (take i p.epochs) g
kept_is p i E t g =
    let b = built_before p i E t in
    let es = t.first ∷ t.rest in
    let ns = nodes_of es in
    ap (λ (x : Epochs). not (is_kept x.top x.nodes g)) t.tree
    ∙ (ap not
    (same_bool (is_kept t.first.name ns g) (list_any (λ (x : EpochPart). name_eq x.name g) es)
    (λ h. let r = in_map (λ (x : EpochPart). x.name) g es (b.kept g h) in any_in (λ (x : EpochPart). name_eq x.name g) r.0 es r.1 (ap (λ m. name_eq m g) r.2 ∙ name_eq_refl g))
    (λ h. let r = in_any (λ (x : EpochPart). name_eq x.name g) es h in b.named g (subst (λ m. IsIn m (names_of es)) (name_eq_is r.0.name g r.2) (map_in (λ (x : EpochPart). x.name) r.0 es r.1))))
    ∙ ap (λ xs. is_new xs g) (sym t.is))

-- an entry that may be put into the tree
pub record MayAdd (p : Parts) (i : ℕ) (E : Epochs) (e : EpochPart) : Type 0 where
  pub earlier : List EpochPart
  pub entry : IsEntry p earlier e
  pub fresh : is_kept E.top E.nodes (Of entry.replica entry.seq) ≡ false
  pub kept : is_kept E.top E.nodes (name_or_origin (slice_get p.epochs entry.place)) ≡ true
  pub total : sum_by (λ (n : Node). length n.renaming.former) E.nodes + length e.former ≤ suc i * IDENTIFIERS
  pub grown : IsTreeBefore p (i + 1) (record { top = E.top; nodes = record { parent = name_or_origin (slice_get p.epochs entry.place); renaming = record { former = e.former; replica = entry.replica; seq = entry.seq } } ∷ E.nodes })

sum_before : (p : Parts) (i : ℕ) (E : Epochs) → IsTreeBefore p i E → i ≤ length p.epochs → sum_by (λ (n : Node). length n.renaming.former) E.nodes ≤ i * IDENTIFIERS
sum_before p i E t l =
    let es = t.first ∷ t.rest in
    let b = built_before p i E t in
    let few = former_restored es (λ n q. let r = b.made n q in let c = r.3.1 in let x = c.few in let y = ap length r.2.former in omega arith) in
    let len : length es ≡ i = ap length (sym t.is) ∙ length-take_of i p.epochs l in
    let same : sum_by (λ (n : Node). length n.renaming.former) E.nodes ≡ sum_by (λ (n : Node). length n.renaming.former) (nodes_of es) = ap (λ (x : Epochs). sum_by (λ (n : Node). length n.renaming.former) x.nodes) t.tree in
    let scaled : length es * IDENTIFIERS ≡ i * IDENTIFIERS = ap (λ n. n * IDENTIFIERS) len in
    omega arith

pub may_add : (p : Parts) (i : ℕ) (E : Epochs) (e : EpochPart) → IsTreeBefore p i E → slice_get p.epochs i ≡ Some e → i < length p.epochs → opens p (take i p.epochs) e ≡ true → MayAdd p i E e
may_add p i E e t g l h =
    let f = t.first in
    let fs = t.rest in
    let es = f ∷ fs in
    let c : IsEntry p es e = entry_is p es e (ap (λ xs. opens p xs e) (sym t.is) ∙ h) in
    let b = built_before p i E t in
    let len : length es ≡ i = ap length (sym t.is) ∙ length-take_of i p.epochs (omega arith) in
    let at : slice_get es c.place ≡ slice_get p.epochs c.place =
    ap (λ xs. slice_get xs c.place) (sym t.is) ∙ get_taken i p.epochs c.place (let x = c.below in omega arith) (omega arith) in
    let up : EpochName = name_or_origin (slice_get p.epochs c.place) in
    let node : Node = record { parent = up; renaming = record { former = e.former; replica = c.replica; seq = c.seq } } in
    let kept : is_kept f.name (nodes_of es) (name_or_origin (slice_get es c.place)) ≡ true = b.named (name_or_origin (slice_get es c.place)) (named_at es c.place c.below) in
    let fresh : is_kept f.name (nodes_of es) (Of c.replica c.seq) ≡ false = not_true (is_kept f.name (nodes_of es) (Of c.replica c.seq)) (λ q. c.new (subst (λ m. IsIn m (names_of es)) (sym c.named) (b.kept (Of c.replica c.seq) q))) in
    let push = nodes_push p f fs e t.alone t.entries c in
    let same : node_for es e c.replica c.seq c.place ≡ node = ap (λ o. record { parent = name_or_origin o; renaming = record { former = e.former; replica = c.replica; seq = c.seq } }) at in
    let sum = sum_before p i E t (omega arith) in
    let few = c.few in
    record {
      earlier = es;
      entry = c;
      fresh = ap (λ (x : Epochs). is_kept x.top x.nodes (Of c.replica c.seq)) t.tree ∙ fresh;
      kept = ap (λ (x : Epochs). is_kept x.top x.nodes up) t.tree ∙ (ap (λ o. is_kept f.name (nodes_of es) (name_or_origin o)) (sym at) ∙ kept);
      total = omega arith;
      grown = record {
        first = f;
        rest = fs ++ e ∷ [];
        is = take_next p.epochs i e g ∙ ap (λ xs. xs ++ e ∷ []) t.is;
        alone = t.alone;
        entries = entries_push p f [] fs e t.entries c;
        tree = ap (λ (x : Epochs). record { top = x.top; nodes = node ∷ x.nodes }) t.tree ∙ ap (λ ns. record { top = f.name; nodes = ns }) (ap (λ n. n ∷ nodes_of es) (sym same) ∙ sym push);
      };
    }
  where
    named_at : (xs : List EpochPart) (k : ℕ) → k < length xs → IsIn (name_or_origin (slice_get xs k)) (names_of xs)
    named_at [] k l = absurd (omega arith)
    named_at (x ∷ xs) zero l = inl refl
    named_at (x ∷ xs) (suc k) l = inr (named_at xs k (omega arith))

    get_taken : (i : ℕ) (xs : List EpochPart) (k : ℕ) → k < i → i ≤ length xs → slice_get (take i xs) k ≡ slice_get xs k
    get_taken zero xs k l m = absurd (omega arith)
    get_taken (suc i) [] k l m = absurd (omega arith)
    get_taken (suc i) (x ∷ xs) zero l m = refl
    get_taken (suc i) (x ∷ xs) (suc k) l m = get_taken i xs k (omega arith) (omega arith)

-- ---- the first tree, and the last

alone_nodes : (e : EpochPart) → e.parent ≡ None → nodes_of (e ∷ []) ≡ []
unfolding nodes_of
alone_nodes e n = ap (λ o. with_node (e ∷ []) e e.name o []) n ∙ none_made (e ∷ []) e e.name []

pub first_tree : (p : Parts) (e : EpochPart) → slice_get p.epochs 0 ≡ Some e → e.parent ≡ None → IsTreeBefore p 1 (record { top = e.name; nodes = [] })
first_tree p e g n = record { first = e; rest = []; is = take_next p.epochs 0 e g; alone = n; entries = tt; tree = ap (λ ns. record { top = e.name; nodes = ns }) (sym (alone_nodes e n)) }

pub last_tree : (p : Parts) (E : Epochs) → IsTreeBefore p (length p.epochs) E → E ≡ epochs_of p
last_tree p E t =
    let is : p.epochs ≡ t.first ∷ t.rest = sym (take_whole p.epochs) ∙ t.is in
    t.tree ∙ ap (λ xs. record { top = top_name xs; nodes = nodes_of xs }) (sym is)
  where
    take_whole : (xs : List EpochPart) → take (length xs) xs ≡ xs
    take_whole [] = refl
    take_whole (x ∷ xs) = ap (λ ys. x ∷ ys) (take_whole xs)

-- ---- the rule, entry by entry

-- an entry that doesn't keep its rule is the first that breaks it
pub entry_ends : (p : Parts) (i : ℕ) (e : EpochPart) (f : EpochPart) (fs : List EpochPart) → take i p.epochs ≡ f ∷ fs → slice_get p.epochs i ≡ Some e → i ≤ length p.epochs → is_epoch_behind p (take i p.epochs) e ≡ false → epoch_fault p (take i p.epochs) (drop i p.epochs) ≡ Some i
entry_ends p i e f fs is g l h =
    let earlier = take i p.epochs in
    let n : is_epoch_of p earlier e ≡ false = ap (λ xs. is_epoch_of p xs e) is ∙ (ap (λ xs. is_epoch_behind p xs e) (sym is) ∙ h) in
    ap (epoch_fault p earlier) (drop_first p.epochs i e g)
    ∙ (ap (λ b. if b then epoch_fault p (earlier ++ e ∷ []) (drop (i + 1) p.epochs) else Some (length earlier)) n ∙ ap Some (length-take_of i p.epochs l))

-- ---- what the code is asked for

pub within : (es : List EpochPart) (i : ℕ) (e : EpochPart) → slice_get es i ≡ Some e → i < length es
within [] i e h = absurd (cc)
within (x ∷ es) zero e h = omega arith
within (x ∷ es) (suc i) e h = let l = within es i e h in omega arith

same_number : (a b c d : ℕ) → Of a b ≡ Of c d → (a ≡ c) × (b ≡ d)
same_number a b c d e = (cc, cc)

same_place : (j k : ℕ) → Some j ≡ Some k → j ≡ k
same_place j k e = cc

pub record CanAdd (p : Parts) (i : ℕ) (F : Epochs) (parent : EpochName) (R : Renaming) : Type 0 where
  pub fresh : is_kept F.top F.nodes (Of R.replica R.seq) ≡ false
  pub kept : is_kept F.top F.nodes parent ≡ true
  pub total : sum_by (λ (n : Node). length n.renaming.former) F.nodes + length R.former < 2 ^ 64
  pub grown : IsTreeBefore p (i + 1) (record { top = F.top; nodes = record { parent = parent; renaming = R } ∷ F.nodes })

pub can_add : (p : Parts) (i : ℕ) (E F : Epochs) (e par : EpochPart) (r s k : ℕ) (R : Renaming) → F ≡ E → IsTreeBefore p i E → slice_get p.epochs i ≡ Some e → length p.epochs < 2 ^ 32 → opens p (take i p.epochs) e ≡ true
    → e.name ≡ Of r s → e.parent ≡ Some k → slice_get p.epochs k ≡ Some par → R ≡ record { former = e.former; replica = r; seq = s } → CanAdd p i F par.name R
can_add p i E F e par r s k R f t g few o named parent at is =
    let l = within p.epochs i e g in
    let m = may_add p i E e t g l o in
    let n = same_number m.entry.replica m.entry.seq r s (sym m.entry.named ∙ named) in
    let j = same_place m.entry.place k (sym m.entry.parent ∙ parent) in
    let up : name_or_origin (slice_get p.epochs m.entry.place) ≡ par.name = ap (λ x. name_or_origin (slice_get p.epochs x)) j ∙ ap name_or_origin at in
    let ren : record { former = e.former; replica = m.entry.replica; seq = m.entry.seq } ≡ R = ap (λ a. record { former = e.former; replica = a; seq = m.entry.seq }) n.0 ∙ (ap (λ b. record { former = e.former; replica = r; seq = b }) n.1 ∙ sym is) in
    let tot = m.total in
    let former : length R.former ≡ length e.former = ap (λ (x : Renaming). length x.former) is in
    let sum : sum_by (λ (x : Node). length x.renaming.former) F.nodes ≡ sum_by (λ (x : Node). length x.renaming.former) E.nodes = ap (λ (x : Epochs). sum_by (λ (y : Node). length y.renaming.former) x.nodes) f in
    record {
      fresh = ap (λ (x : Epochs). is_kept x.top x.nodes (Of R.replica R.seq)) f ∙ (ap (λ (x : Renaming). is_kept E.top E.nodes (Of x.replica x.seq)) (sym ren) ∙ m.fresh);
      kept = ap (λ (x : Epochs). is_kept x.top x.nodes par.name) f ∙ (ap (is_kept E.top E.nodes) (sym up) ∙ m.kept);
      total = omega arith;
      grown = subst (IsTreeBefore p (i + 1))
          (ap (λ x. record { top = E.top; nodes = record { parent = x; renaming = record { former = e.former; replica = m.entry.replica; seq = m.entry.seq } } ∷ E.nodes }) up
          ∙ (ap (λ x. record { top = E.top; nodes = record { parent = par.name; renaming = x } ∷ E.nodes }) ren
          ∙ ap (λ (x : Epochs). record { top = x.top; nodes = record { parent = par.name; renaming = R } ∷ x.nodes }) (sym f)))
          m.grown;
    }

-- ---- the order

taken_name : (es : List EpochPart) (i j : ℕ) (e : EpochPart) → slice_get es j ≡ Some e → j < i → IsIn e.name (names_of (take i es))
taken_name es zero j e h l = absurd (omega arith)
taken_name [] (suc i) j e h l = absurd (cc)
taken_name (x ∷ es) (suc i) zero e h l = let y : x ≡ e = cc in inl (ap (λ (z : EpochPart). z.name) y)
taken_name (x ∷ es) (suc i) (suc j) e h l = inr (taken_name es i j e h (omega arith))

pub tree_keeps : (p : Parts) (i j : ℕ) (E : Epochs) (e : EpochPart) → IsTreeBefore p i E → slice_get p.epochs j ≡ Some e → j < i → is_kept E.top E.nodes e.name ≡ true
tree_keeps p i j E e t h l =
    let es = t.first ∷ t.rest in
    ap (λ (x : Epochs). is_kept x.top x.nodes e.name) t.tree
    ∙ (built_before p i E t).named e.name (subst (λ xs. IsIn e.name (names_of xs)) t.is (taken_name p.epochs i j e h l))

last_suc : (es : List EpochPart) (j : ℕ) (e : EpochPart) → slice_get es j ≡ Some e → last_name (take (suc j) es) ≡ e.name
last_suc [] j e h = absurd (cc)
last_suc (x ∷ es) zero e h = let y : x ≡ e = cc in ap (λ (z : EpochPart). z.name) y
last_suc (x ∷ []) (suc j) e h = absurd (cc)
last_suc (x ∷ (y ∷ es)) (suc j) e h = last_suc (y ∷ es) j e h

pub greater_so : (p : Parts) (i : ℕ) (E : Epochs) (last e : EpochPart) (b : Bool) → 0 < i → IsTreeBefore p (i + 1) E → slice_get p.epochs (i - 1) ≡ Some last → slice_get p.epochs i ≡ Some e → b ≡ is_lt (epoch_cmp E.nodes last.name e.name) → b ≡ is_greater (take i p.epochs) e
greater_so p i E last e b s t h g k =
    let one : suc (i - 1) ≡ i = omega arith in
    let nodes : E.nodes ≡ nodes_of (take i p.epochs ++ e ∷ []) = ap (λ (x : Epochs). x.nodes) t.tree ∙ ap nodes_of (sym t.is ∙ take_next p.epochs i e g) in
    let name : last.name ≡ last_name (take i p.epochs) = sym (last_suc p.epochs (i - 1) last h) ∙ ap (λ n. last_name (take n p.epochs)) one in
    k ∙ (ap (λ ns. is_lt (epoch_cmp ns last.name e.name)) nodes ∙ ap (λ n. is_lt (epoch_cmp (nodes_of (take i p.epochs ++ e ∷ [])) n e.name)) name)

-- ---- the first entry

pub first_so : (p : Parts) (list : List EpochPart) (d : EpochPart) (E : Epochs) → AreEpochParts p.epochs → list ≡ p.epochs → E ≡ record { top = (get_or list 0 d).name; nodes = [] } → may_be_top p (get_or list 0 d).name ≡ true
    → IsTreeBefore p 1 E × (epoch_fault p (take 1 p.epochs) (drop 1 p.epochs) ≡ epoch_fault p [] p.epochs)
first_so p list d E a l t m = go p.epochs refl a
  where
    go : (es : List EpochPart) → p.epochs ≡ es → AreEpochParts es → IsTreeBefore p 1 E × (epoch_fault p (take 1 p.epochs) (drop 1 p.epochs) ≡ epoch_fault p [] p.epochs)
    go [] e a = absurd a
    go (x ∷ xs) e a =
        let first : get_or list 0 d ≡ x = ap (λ ys. get_or ys 0 d) (l ∙ e) in
        let top : may_be_top p x.name ≡ true = ap (λ (y : EpochPart). may_be_top p y.name) (sym first) ∙ m in
        let same : E ≡ record { top = x.name; nodes = [] } = t ∙ ap (λ (y : EpochPart). record { top = y.name; nodes = [] }) first in (
          subst (IsTreeBefore p 1) (sym same) (first_tree p x (ap (λ ys. slice_get ys 0) e) a.0),
          ap (λ ys. epoch_fault p (take 1 ys) (drop 1 ys)) e ∙ (sym (ap (λ b. if b then epoch_fault p (x ∷ []) xs else Some 0) top) ∙ ap (epoch_fault p []) (sym e)),
        )

pub at_index : (list es : List EpochPart) (i : ℕ) (e : EpochPart) → list ≡ es → i < length list → e ≡ get_or list i e → slice_get es i ≡ Some e
at_index list es i e l h k = ap (λ xs. slice_get xs i) (sym l) ∙ here list i h k
  where
    here : (xs : List EpochPart) (i : ℕ) → i < length xs → e ≡ get_or xs i e → slice_get xs i ≡ Some e
    here [] i h k = absurd (omega arith)
    here (x ∷ xs) zero h k = ap Some (sym k)
    here (x ∷ xs) (suc i) h k = here xs i (omega arith) k

-- where the entry breaks the rule
pub broken_at : (p : Parts) (i : ℕ) (E : Epochs) (list : List EpochPart) (e : EpochPart) → IsTreeBefore p i E → list ≡ p.epochs → i < length list → e ≡ get_or list i e → (opens p (take i p.epochs) e && is_greater (take i p.epochs) e) ≡ false → epoch_fault p (take i p.epochs) (drop i p.epochs) ≡ epoch_fault p [] p.epochs
    → epoch_fault p [] p.epochs ≡ Some i
broken_at p i E list e t l k r n h =
    let g = at_index list p.epochs i e l k r in
    sym h ∙ entry_ends p i e t.first t.rest t.is g (let m = within p.epochs i e g in omega arith) n

pub whole_at : (p : Parts) (i : ℕ) (E : Epochs) (list : List EpochPart) → IsTreeBefore p i E → list ≡ p.epochs → i ≤ length list → length list ≤ i → epoch_fault p (take i p.epochs) (drop i p.epochs) ≡ epoch_fault p [] p.epochs → (epoch_fault p [] p.epochs ≡ None) × (E ≡ epochs_of p)
whole_at p i E list t e l m h =
    let n : i ≡ length p.epochs = let x = ap length e in omega arith in (
      sym h ∙ ap (epoch_fault p (take i p.epochs)) (ap (λ k. drop k p.epochs) n ∙ none_left p.epochs),
      last_tree p E (subst (λ k. IsTreeBefore p k E) n t),
    )
  where
    none_left : (xs : List EpochPart) → drop (length xs) xs ≡ []
    none_left [] = refl
    none_left (x ∷ xs) = none_left xs
