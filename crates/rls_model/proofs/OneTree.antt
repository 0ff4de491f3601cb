-- The epochs of a legal history form one tree.
use Rattle.std.proofs.Common.{◌≡◌, ℕ, ◌≤◌, ◌<◌, Bool, true, false, List, [], ◌∷◌, length, refl, sym, ap, ◌∙◌, subst, arith, nat_lt, nat_eq}
use Rattle.std.specs.Prelude.{if◌then◌else◌, ◌&&◌, ◌||◌, not, Option, Some, None}
use Rattle.std.proofs.lemmas.Bool.Decides.{nat_tests}
use Rattle.std.proofs.lemmas.Bool.{and_parts, eqb-true}
use Rattle.rls_ident.specs.declared.tuple.Tuple.{Tuple}
use Rattle.rls_ident.specs.declared.epoch_name.EpochName.{EpochName}
use Rattle.rls_ident.specs.declared.epoch_name.EpochName.TheVariants.{Origin, Of}
use Rattle.rls_ident.specs.EpochNames.{name_eq}
use Rattle.rls_ident.specs.Identifiers.{IsIdent, ident_cmp}
use Rattle.rls_ident.specs.Vectors.{at_most}
use Rattle.rls_ident.proofs.Vectors.{index-raise_same, index-raise_le}
use Rattle.rls_rename.specs.Tree.{has_node, is_kept, AreNodes, AreBelow}
use Rattle.rls_rename.proofs.Former.{former_of}
use Rattle.rls_rename.proofs.Kept.{greatest_within_kept}
use Rattle.rls_rename.proofs.Paths.{name_eq_is, translate_ident, translate_translate, translate_order}
use Rattle.rls_ops.specs.declared.op.Op.{Op}
use Rattle.rls_ops.specs.declared.op.Body.{Body}
use Rattle.rls_ops.specs.declared.op.Body.TheVariants.{Insert, Delete, Rename, Leave}
use Rattle.rls_ops.specs.declared.op.Shape.TheVariants.{Author, Context, EmptyBody}
use Rattle.rls_ops.specs.Shapes.{shape_fault, is_next_of, is_empty}
use Rattle.rls_model.specs.Answers.{Left, Backward, WrongEpoch}
use Rattle.rls_model.specs.History.{Accepted, Acknowledged, History, Fresh, Then, count, count_of, members_of, has_left, row}
use Rattle.rls_model.specs.Epochs.{epochs, nodes_after, greatest_within, translate}
use Rattle.rls_model.specs.Fitting.{refusal, body_refusal}
use Rattle.rls_model.specs.WellFormed.{IsBody}
use Rattle.rls_model.specs.Legal.{MayAccept, IsLegal}
use Rattle.rls_model.specs.Laws.{OneTree}
use Rattle.rls_model.proofs.Stable.{length-count}

-- no fault is found: the first test failed, and the rest finds none
pub none_else : {A : Type 0} (b : Bool) (x : A) (r : Option A) → (if b then Some x else r) ≡ None → (b ≡ false) × (r ≡ None)
none_else true x r h = absurd (cc)
none_else false x r h = (refl, h)

pub not_not : (b : Bool) → not b ≡ false → b ≡ true
not_not true h = refl
not_not false h = absurd (cc)

-- ---- what the shape says

pub author_below : (members : ℕ) (o : Op) → shape_fault members o ≡ None → o.author < members
author_below members o h =
    let p = none_else (not (nat_lt o.author members)) Author _ h in
    let q = not_not (nat_lt o.author members) p.0 in
    grind (arith, nat_tests)

some_former : (xs : List (List Tuple)) → is_empty (Rename xs) ≡ false → 0 < length xs
some_former [] h = absurd (cc)
some_former (x ∷ xs) h = omega arith

pub former_some : (members : ℕ) (o : Op) (b : Body) → o.body ≡ b → shape_fault members o ≡ None → is_empty b ≡ false
former_some members o b e h =
    let p = none_else (not (nat_lt o.author members)) Author _ h in
    let q = none_else (not (is_next_of o members)) Context _ p.1 in
    let r = none_else (is_empty o.body) EmptyBody _ q.1 in
    ap is_empty (sym e) ∙ r.0

-- ---- names

-- the author's count after its next operation is the number of that operation
pub count_next : (G : History) (o : Op) → MayAccept G o → o.seq ≤ count_of (Then G (Accepted o)) o.author
count_next G o m =
    let below : o.author < length (count G) = omega (arith, author_below (members_of G) o m.shape, length-count G) in
    omega (arith, m.next, index-raise_same (count G) o.author below)

-- an epoch's number was counted
pub named_le : (H : History) → IsLegal H → (a s : ℕ) → has_node (epochs H) (Of a s) ≡ true → s ≤ count_of H a
named_le (Fresh group me members) l a s h = absurd (cc)
named_le (Then G (Acknowledged b v)) l a s h = named_le G l.0 a s h
named_le (Then G (Accepted o)) l a s h = go o.body h (named_le G l.0 a s)
  where
    old : s ≤ count_of G a → s ≤ count_of (Then G (Accepted o)) a
    old k = omega (arith, index-raise_le (count G) o.author a)

    new : (c : Bool) → (nat_eq o.author a && nat_eq o.seq s) ≡ c → (c || has_node (epochs G) (Of a s)) ≡ true → (has_node (epochs G) (Of a s) ≡ true → s ≤ count_of G a) → s ≤ count_of (Then G (Accepted o)) a
    new false e k ih = old (ih k)
    new true e k ih =
        let p = and_parts (nat_eq o.author a) (nat_eq o.seq s) e in
        let q : o.author ≡ a = eqb-true o.author a p.0 in
        let r : o.seq ≡ s = eqb-true o.seq s p.1 in
        let P : ℕ → Type 0 = λ b. s ≤ count_of (Then G (Accepted o)) b in
        let t : s ≤ count_of (Then G (Accepted o)) o.author = omega (arith, count_next G o l.2) in
        subst P q t

    go : (b : Body) → has_node (nodes_after (epochs G) o b) (Of a s) ≡ true → (has_node (epochs G) (Of a s) ≡ true → s ≤ count_of G a) → s ≤ count_of (Then G (Accepted o)) a
    go (Insert first text) k ih = old (ih k)
    go (Delete targets) k ih = old (ih k)
    go (Rename xs) k ih = new (nat_eq o.author a && nat_eq o.seq s) refl k ih
    go Leave k ih = old (ih k)

-- a new number is no earlier rename's
pub new_name : (G : History) (o : Op) → IsLegal G → MayAccept G o → has_node (epochs G) (Of o.author o.seq) ≡ false
new_name G o l m = go (has_node (epochs G) (Of o.author o.seq)) refl
  where
    go : (b : Bool) → has_node (epochs G) (Of o.author o.seq) ≡ b → b ≡ false
    go false e = refl
    go true e = let h = named_le G l o.author o.seq e in let k = m.next in absurd (omega arith)

pub nodes : (H : History) → IsLegal H → AreNodes (epochs H)
nodes (Fresh group me members) l = tt
nodes (Then G (Acknowledged a v)) l = nodes G l.0
nodes (Then G (Accepted o)) l = go o.body refl l.1.body (nodes G l.0)
  where
    go : (b : Body) → o.body ≡ b → IsBody b → AreNodes (epochs G) → AreNodes (nodes_after (epochs G) o b)
    go (Insert first text) e i n = n
    go (Delete targets) e i n = n
    go (Rename xs) e i n = (former_of xs (some_former xs (former_some (members_of G) o (Rename xs) e l.2.shape)) i, new_name G o l.0 l.2, n)
    go Leave e i n = n

-- ---- parents

-- an operation that fits has the greatest epoch within its context
pub fits_epoch : (G : History) (o : Op) → refusal G o ≡ None → o.epoch ≡ greatest_within G o.context
unfolding refusal
fits_epoch G o h =
    let p = none_else (has_left G o.author) (Left (count_of G o.author)) _ h in
    let q = none_else (not (at_most (row G o.author) o.context)) (Backward (row G o.author)) _ p.1 in
    let r = none_else (not (name_eq o.epoch (greatest_within G o.context))) (WrongEpoch (greatest_within G o.context)) (body_refusal G o o.body) q.1 in
    name_eq_is o.epoch (greatest_within G o.context) (not_not (name_eq o.epoch (greatest_within G o.context)) r.0)

-- and nothing in its body is refused
pub fits_body : (G : History) (o : Op) → refusal G o ≡ None → body_refusal G o o.body ≡ None
unfolding refusal
fits_body G o h =
    let p = none_else (has_left G o.author) (Left (count_of G o.author)) _ h in
    let q = none_else (not (at_most (row G o.author) o.context)) (Backward (row G o.author)) _ p.1 in
    let r = none_else (not (name_eq o.epoch (greatest_within G o.context))) (WrongEpoch (greatest_within G o.context)) (body_refusal G o o.body) q.1 in
    r.1

pub epoch_kept : (G : History) (o : Op) → refusal G o ≡ None → is_kept Origin (epochs G) o.epoch ≡ true
unfolding greatest_within
epoch_kept G o h = ap (is_kept Origin (epochs G)) (fits_epoch G o h) ∙ greatest_within_kept Origin (epochs G) o.context

pub parents : (H : History) → IsLegal H → AreBelow Origin (epochs H)
parents (Fresh group me members) l = tt
parents (Then G (Acknowledged a v)) l = parents G l.0
parents (Then G (Accepted o)) l = go o.body (parents G l.0)
  where
    go : (b : Body) → AreBelow Origin (epochs G) → AreBelow Origin (nodes_after (epochs G) o b)
    go (Insert first text) n = n
    go (Delete targets) n = n
    go (Rename xs) n = (epoch_kept G o l.2.fits, refl, n)
    go Leave n = n

pub law : OneTree
law H l = (nodes H l, parents H l)

-- ---- so translation in a legal history doesn't depend on the way, and keeps the order

pub history_ident : (H : History) (e f : EpochName) (x : List Tuple) → IsLegal H → IsIdent x → IsIdent (translate H e f x)
unfolding translate
history_ident H e f x l i = translate_ident (epochs H) e f x (nodes H l) i

pub history_translate : (H : History) (e f g : EpochName) (x : List Tuple) → IsLegal H → IsIdent x → translate H f g (translate H e f x) ≡ translate H e g x
unfolding translate
history_translate H e f g x l i = translate_translate (epochs H) e f g x (nodes H l) i

pub history_order : (H : History) (e f : EpochName) (x y : List Tuple) → IsLegal H → IsIdent x → IsIdent y → ident_cmp (translate H e f x) (translate H e f y) ≡ ident_cmp x y
unfolding translate
history_order H e f x y l i j = translate_order (epochs H) e f x y (nodes H l) i j
