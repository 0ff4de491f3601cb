-- An insertion lands where it was asked for.
use Rattle.std.proofs.Common.{◌≡◌, ℕ, zero, suc, ◌+◌, ◌-◌, ◌≤◌, ◌<◌, Bool, true, false, List, [], ◌∷◌, ◌++◌, map, length, take, drop, refl, sym, ap, ◌∙◌, subst, inl, inr, ◌⊎◌, ⊎_elim, arith, nat_lt}
use Rattle.std.specs.Prelude.{not, ◌&&◌, ◌||◌, ◌==◌, if◌then◌else◌, Option, Some, None, ℤ, pos, ◌+ℤ◌, ◌-ℤ◌, slice_get}
use Rattle.std.specs.Int.RustNames.{int_le}
use Rattle.std.specs.List.{list_any}
use Rattle.std.specs.Ordering.{int_eq}
use Rattle.std.proofs.lemmas.Int.{ints}
use Rattle.std.proofs.lemmas.List.{length-map}
use Rattle.rls_ident.specs.declared.tuple.Tuple.{Tuple}
use Rattle.rls_ident.specs.declared.epoch_name.EpochName.{EpochName}
use Rattle.rls_ident.specs.declared.epoch_name.EpochName.TheVariants.{Origin}
use Rattle.rls_ident.specs.Lists.{IsIn}
use Rattle.rls_ident.specs.Tuples.{offset_of}
use Rattle.rls_ident.specs.Identifiers.{IsIdent, last_of, shifted, least_offset, greatest_offset}
use Rattle.rls_ident.specs.Between.{between}
use Rattle.rls_ident.proofs.BetweenLaws.{IsOver, between_over}
use Rattle.rls_ident.proofs.Lists.{Lt, lt_trans}
use Rattle.rls_ident.proofs.Members.{not_true, not_is, and_right, in_left, in_right, in_split, in_map, map_in, in_filter, filter_in, in_any, in_take, in_drop, take_or_drop, not_lt_is}
use Rattle.rls_ident.proofs.Shifted.{shifted_none, shifted_shifted, shifted_less, ident_shifted}
use Rattle.rls_ident.proofs.Tuples.{tuples, lt_of}
use Rattle.rls_rename.specs.Tree.{Node}
use Rattle.rls_rename.specs.Tree as tree
use Rattle.rls_rename.proofs.Growth.{translate_same}
use Rattle.rls_ops.specs.declared.op.Op.{Op}
use Rattle.rls_ops.specs.declared.op.Body.TheVariants.{Insert}
use Rattle.rls_model.specs.declared.edit.Edit.TheVariants as edits
use Rattle.rls_model.specs.declared.edit.EditError.TheVariants as faults
use Rattle.rls_model.specs.declared.parts.Stem.{Stem}
use Rattle.rls_model.specs.History.{Accepted, History, Then, me_of, ops}
use Rattle.rls_model.specs.Stems.{stems}
use Rattle.rls_model.specs.Epochs.{epochs, nodes_after, greatest, translate}
use Rattle.rls_model.specs.Document.{Character, chars, chars_of, chars_from, targets_of, ident_in, has_ident, is_named, live, export, idents, text}
use Rattle.rls_model.specs.WellFormed.{IsEdit}
use Rattle.rls_model.specs.Legal.{IsLegal}
use Rattle.rls_model.specs.Editing.{own_stem, ends_below, may_append, may_prepend, or_missing, first_before, first_between, get_before, next_seq, made, edit_fault}
use Rattle.rls_model.specs.Laws.{edited, InsertionLands}
use Rattle.rls_model.proofs.OneTree.{nodes, none_else}
use Rattle.rls_model.proofs.Distinct.{known, char_split}
use Rattle.rls_runs.proofs.Sorted.{Entry, Rises, same_rising}
use Rattle.rls_runs.specs.Places.{is_above}
use Rattle.rls_model.proofs.SameOps.{entry_of, export_rises, in_export, export_in}
use Rattle.rls_model.proofs.Ranges.{idents_good}
use Rattle.rls_model.proofs.Began.{IsNeighbour}
use Rattle.rls_model.proofs.Made as made
use Rattle.rls_model.proofs.Named.{char_old, char_new, newborn_unnamed}
use Rattle.rls_model.proofs.Spliced.{IsAfter, IsBefore, AreNeighbours, ids, entries, chars-entries, entry_place, entries_rise, rises_splice, take_below, drop_above, neighbours, take_map, drop_map, append_map}
use Rattle.rls_model.proofs.Made.{neighbour, neighbour_before}

-- ---- where the first identifier of an insertion lies

after_more : (left : Option (List Tuple)) (y : List Tuple) (k : ℕ) → IsIdent y → IsAfter left y → IsAfter left (shifted (pos k) y)
after_more None y k i h = tt
after_more (Some l) y zero i h = subst (λ z. Lt tuples l z) (sym (shifted_none y)) h
after_more (Some l) y (suc k) i h =
    lt_trans h (subst (λ z. Lt tuples z (shifted (pos (suc k)) y)) (shifted_none y) (shifted_less (pos 0) (pos (suc k)) y i (omega (arith, ints))))

before_less : (right : Option (List Tuple)) (y : List Tuple) (k : ℕ) → IsIdent y → IsBefore (shifted (pos k) y) right → IsBefore y right
before_less None y k i h = tt
before_less (Some r) y zero i h = subst (λ z. Lt tuples z r) (shifted_none y) h
before_less (Some r) y (suc k) i h =
    lt_trans (subst (λ z. Lt tuples z (shifted (pos (suc k)) y)) (shifted_none y) (shifted_less (pos 0) (pos (suc k)) y i (omega (arith, ints)))) h

-- z lies between the neighbours
abbrev pub LiesBetween : Option (List Tuple) → Option (List Tuple) → List Tuple → Type 0
LiesBetween left right z = IsAfter left z × IsBefore z right

over_of : (left right : Option (List Tuple)) → IsNeighbour right → AreNeighbours left right → IsOver (or_missing left) (or_missing right)
over_of left None i h = tt
over_of left (Some []) i h = absurd (cc)
over_of None (Some (u ∷ us)) i h = (i, record { less = refl })
over_of (Some l) (Some (u ∷ us)) i h = (i, h)

between_lies : (left right : Option (List Tuple)) (a s : ℕ) (d : ℤ) → IsNeighbour right → AreNeighbours left right → LiesBetween left right (shifted d (between (or_missing left) (or_missing right) a s))
between_lies None None a s d i h = (tt, tt)
between_lies (Some l) None a s d i h = ((between_over l [] a s d tt).0, tt)
between_lies left (Some []) a s d i h = absurd (cc)
between_lies None (Some (u ∷ us)) a s d i h = (tt, (between_over [] (u ∷ us) a s d (i, record { less = refl })).1)
between_lies (Some l) (Some (u ∷ us)) a s d i h = between_over l (u ∷ us) a s d (i, h)

above_is : (left : Option (List Tuple)) (z : List Tuple) → is_above left z ≡ true → IsAfter left z
above_is None z h = tt
above_is (Some l) z h = lt_of l z h

below_is : (z : List Tuple) (right : Option (List Tuple)) → ends_below z right ≡ true → IsBefore z right
below_is z None h = tt
below_is z (Some r) h = lt_of z r h

before_lies : (ss : List Stem) (a s : ℕ) (left right : Option (List Tuple)) (n k : ℕ) → k < n → IsNeighbour right → AreNeighbours left right → LiesBetween left right (shifted (pos k) (first_before ss a s left right n))
before_lies ss a s left None n k l i h = between_lies left None a s (pos k) i h
before_lies ss a s left (Some x) n k l i h = go (own_stem ss a (last_of x))
  where
    pick : (b : Bool) → (b ≡ true → is_above left (shifted (pos 0 -ℤ pos n) x) ≡ true) → LiesBetween left (Some x) (shifted (pos k) (if b then shifted (pos 0 -ℤ pos n) x else between (or_missing left) x a s))
    pick false f = between_lies left (Some x) a s (pos k) i h
    pick true f =
        let d = pos 0 -ℤ pos n in
        let m = shifted_less (d +ℤ pos k) (pos 0) x i (omega (arith, ints)) in (
          after_more left (shifted d x) k (ident_shifted d x i) (above_is left (shifted d x) (f refl)),
          subst (λ z. Lt tuples z x) (sym (shifted_shifted (pos k) d x)) (subst (λ z. Lt tuples (shifted (d +ℤ pos k) x) z) (shifted_none x) m),
        )

    go : (o : Option Stem) → LiesBetween left (Some x) (shifted (pos k) (if may_prepend o left x n then shifted (pos 0 -ℤ pos n) x else between (or_missing left) x a s))
    go None = pick false (λ e. absurd (cc))
    go (Some u) = pick (may_prepend (Some u) left x n)
        (λ e. and_right (int_eq (offset_of (last_of x)) u.low && int_le least_offset (offset_of (last_of x) -ℤ pos n)) (is_above left (shifted (pos 0 -ℤ pos n) x)) e)

-- each identifier of the insertion lies between the neighbours
pub first_lies : (ss : List Stem) (a s : ℕ) (left right : Option (List Tuple)) (n k : ℕ) → k < n → IsNeighbour left → IsNeighbour right → AreNeighbours left right → LiesBetween left right (shifted (pos k) (first_between ss a s left right n))
first_lies ss a s None right n k l i j h = before_lies ss a s None right n k l j h
first_lies ss a s (Some x) right n k l i j h = go (own_stem ss a (last_of x))
  where
    pick : (b : Bool) → (b ≡ true → ends_below (shifted (pos n) x) right ≡ true) → LiesBetween (Some x) right (shifted (pos k) (if b then shifted (pos 1) x else first_before ss a s (Some x) right n))
    pick false f = before_lies ss a s (Some x) right n k l j h
    pick true f =
        let y = shifted (pos k) (shifted (pos 1) x) in
        let m = n - suc k in
        let e : (pos 1 +ℤ pos k) +ℤ pos m ≡ pos n = sum m (omega arith) in
        let q : shifted (pos m) y ≡ shifted (pos n) x = shifted_shifted (pos m) (pos k) (shifted (pos 1) x) ∙ (shifted_shifted (pos k +ℤ pos m) (pos 1) x ∙ ap (λ d. shifted d x) (assoc (pos 1) (pos k) (pos m) ∙ e)) in
        let c = shifted_less (pos 0) (pos 1 +ℤ pos k) x i (omega (arith, ints)) in (
          subst (λ z. Lt tuples x z) (sym (shifted_shifted (pos k) (pos 1) x)) (subst (λ z. Lt tuples z (shifted (pos 1 +ℤ pos k) x)) (shifted_none x) c),
          before_less right y m (ident_shifted (pos k) (shifted (pos 1) x) (ident_shifted (pos 1) x i)) (subst (λ z. IsBefore z right) (sym q) (below_is (shifted (pos n) x) right (f refl))),
        )
      where
        sum : (m : ℕ) → suc k + m ≡ n → (pos 1 +ℤ pos k) +ℤ pos m ≡ pos n
        sum m e = omega (arith, ints)

        assoc : (a b c : ℤ) → a +ℤ (b +ℤ c) ≡ (a +ℤ b) +ℤ c
        assoc a b c = omega (arith, ints)

    go : (o : Option Stem) → LiesBetween (Some x) right (shifted (pos k) (if may_append o x right n then shifted (pos 1) x else first_before ss a s (Some x) right n))
    go None = pick false (λ e. absurd (cc))
    go (Some u) = pick (may_append (Some u) x right n)
        (λ e. and_right (int_eq (offset_of (last_of x) +ℤ pos 1) (pos u.next) && int_le (offset_of (last_of x) +ℤ pos n) greatest_offset) (ends_below (shifted (pos n) x) right) e)

-- ---- the live characters after an insertion

-- some of these deletions names the character
abbrev is_named_by : List Node → List Op → Character → Bool
is_named_by ns os c = list_any (λ d. has_ident (targets_of d.body) (tree.translate ns c.epoch d.epoch c.ident)) os

named_is : (H : History) (c : Character) → is_named H c ≡ is_named_by (epochs H) (ops H) c
unfolding is_named translate
named_is H c = refl

any_snoc : {A : Type 0} (t : A → Bool) (xs : List A) (y : A) → t y ≡ false → list_any t (xs ++ (y ∷ [])) ≡ list_any t xs
any_snoc t [] y h = ap (λ b. b || false) h
any_snoc t (x ∷ xs) y h = ap (λ b. t x || b) (any_snoc t xs y h)

-- an operation whose body is an insertion, at the greatest epoch
pub record Inserts (G : History) (o : Op) (x : List Tuple) (cs : List ℕ) : Type 0 where
  pub legal : IsLegal (Then G (Accepted o))
  pub body : o.body ≡ Insert x cs
  pub here : o.epoch ≡ greatest G

same_nodes : (G : History) (o : Op) (x : List Tuple) (cs : List ℕ) → o.body ≡ Insert x cs → epochs (Then G (Accepted o)) ≡ epochs G
same_nodes G o x cs e = ap (nodes_after (epochs G) o) e

pub same_greatest : (G : History) (o : Op) (x : List Tuple) (cs : List ℕ) → o.body ≡ Insert x cs → greatest (Then G (Accepted o)) ≡ greatest G
unfolding greatest
same_greatest G o x cs e = ap (tree.greatest Origin) (same_nodes G o x cs e)

pub same_ident : (G : History) (o : Op) (x : List Tuple) (cs : List ℕ) → o.body ≡ Insert x cs → (f : EpochName) (c : Character) → ident_in (Then G (Accepted o)) f c ≡ ident_in G f c
unfolding translate
same_ident G o x cs e f c = ap (λ ns. tree.translate ns c.epoch f c.ident) (same_nodes G o x cs e)

named_by_old : (G : History) (o : Op) (x : List Tuple) (cs : List ℕ) → o.body ≡ Insert x cs → (c : Character) → is_named (Then G (Accepted o)) c ≡ is_named_by (epochs (Then G (Accepted o))) (ops G) c
named_by_old G o x cs e c =
    let ns = epochs (Then G (Accepted o)) in
    named_is (Then G (Accepted o)) c ∙ any_snoc (λ d. has_ident (targets_of d.body) (tree.translate ns c.epoch d.epoch c.ident)) (ops G) o (ap (λ b. has_ident (targets_of b) (tree.translate ns c.epoch o.epoch c.ident)) e)

pub same_named : (G : History) (o : Op) (x : List Tuple) (cs : List ℕ) → o.body ≡ Insert x cs → (c : Character) → is_named (Then G (Accepted o)) c ≡ is_named G c
same_named G o x cs e c = named_by_old G o x cs e c ∙ (ap (λ ns. is_named_by ns (ops G) c) (same_nodes G o x cs e) ∙ sym (named_is G c))

-- no deletion names a new character
pub new_unnamed : (G : History) (o : Op) (x : List Tuple) (cs : List ℕ) → IsLegal (Then G (Accepted o)) → o.body ≡ Insert x cs → (c : Character) → IsIn c (chars_of o o.body) → is_named (Then G (Accepted o)) c ≡ false
unfolding translate
new_unnamed G o x cs l e c p =
    let ns = epochs (Then G (Accepted o)) in
    not_true (is_named (Then G (Accepted o)) c)
    (λ h. let r = in_any (λ d. has_ident (targets_of d.body) (tree.translate ns c.epoch d.epoch c.ident)) (ops G) (sym (named_by_old G o x cs e c) ∙ h) in
    newborn_unnamed G o l c p r.0 r.1 r.2)

live_is : (H : History) (c : Character) → IsIn c (live H) → IsIn c (chars H) × (not (is_named H c) ≡ true)
unfolding live
live_is H c p = in_filter (λ c. not (is_named H c)) c (chars H) p

is_live : (H : History) (c : Character) → IsIn c (chars H) → is_named H c ≡ false → IsIn c (live H)
unfolding live
is_live H c p h = filter_in (λ c. not (is_named H c)) c (chars H) p (ap not h)

live_split : (G : History) (o : Op) (x : List Tuple) (cs : List ℕ) → o.body ≡ Insert x cs → (c : Character) → IsIn c (live (Then G (Accepted o))) → IsIn c (live G) ⊎ IsIn c (chars_of o o.body)
live_split G o x cs e c p =
    let r = live_is (Then G (Accepted o)) c p in
    ⊎_elim (λ q. inl (is_live G c q (sym (same_named G o x cs e c) ∙ not_is (is_named (Then G (Accepted o)) c) r.1))) (λ q. inr q) (char_split G o c r.0)

pub live_old : (G : History) (o : Op) (x : List Tuple) (cs : List ℕ) → o.body ≡ Insert x cs → (c : Character) → IsIn c (live G) → IsIn c (live (Then G (Accepted o)))
live_old G o x cs e c p = let r = live_is G c p in is_live (Then G (Accepted o)) c (char_old G o c r.0) (same_named G o x cs e c ∙ not_is (is_named G c) r.1)

pub live_new : (G : History) (o : Op) (x : List Tuple) (cs : List ℕ) → Inserts G o x cs → (c : Character) → IsIn c (chars_of o o.body) → IsIn c (live (Then G (Accepted o)))
live_new G o x cs i c p = is_live (Then G (Accepted o)) c (char_new G o c p) (new_unnamed G o x cs i.legal i.body c p)

-- ---- the export

-- the identifier of its birth, and the character
abbrev pub born : Character → Entry
born c = (c.ident, c.char)

pub born_entries : (o : Op) (i : ℕ) (x : List Tuple) (cs : List ℕ) → map born (chars_from o i x cs) ≡ entries x cs
born_entries o i x [] = refl
born_entries o i x (c ∷ cs) = ap (λ ys. (x, c) ∷ ys) (born_entries o (suc i) (shifted (pos 1) x) cs)

pub born_in : (o : Op) (i : ℕ) (x : List Tuple) (cs : List ℕ) (c : Character) → IsIn c (chars_from o i x cs) → c.epoch ≡ o.epoch
born_in o i x [] c p = absurd p
born_in o i x (d ∷ cs) c (inl e) = sym (ap (λ (c : Character). c.epoch) e)
born_in o i x (d ∷ cs) c (inr p) = born_in o (suc i) (shifted (pos 1) x) cs c p

new_from_body : (o : Op) (x : List Tuple) (cs : List ℕ) → o.body ≡ Insert x cs → (c : Character) → IsIn c (chars_of o o.body) → IsIn c (chars_from o 0 x cs)
new_from_body o x cs e c p = subst (λ b. IsIn c (chars_of o b)) e p

body_from_new : (o : Op) (x : List Tuple) (cs : List ℕ) → o.body ≡ Insert x cs → (c : Character) → IsIn c (chars_from o 0 x cs) → IsIn c (chars_of o o.body)
body_from_new o x cs e c p = subst (λ b. IsIn c (chars_of o b)) (sym e) p

pub entry_old : (G : History) (o : Op) (x : List Tuple) (cs : List ℕ) → o.body ≡ Insert x cs → (c : Character) → entry_of (Then G (Accepted o)) c ≡ entry_of G c
entry_old G o x cs e c = ap (λ z. (z, c.char)) (same_ident G o x cs e (greatest (Then G (Accepted o))) c ∙ ap (λ f. ident_in G f c) (same_greatest G o x cs e))

stays : (H : History) (f : EpochName) (c : Character) → IsLegal H → IsIdent c.ident → c.epoch ≡ f → ident_in H f c ≡ c.ident
unfolding translate
stays H f c l i e = ap (λ g. tree.translate (epochs H) c.epoch g c.ident) (sym e) ∙ translate_same (epochs H) c.epoch c.ident (nodes H l) i

pub entry_new : (G : History) (o : Op) (x : List Tuple) (cs : List ℕ) → Inserts G o x cs → (c : Character) → IsIn c (chars_of o o.body) → entry_of (Then G (Accepted o)) c ≡ born c
entry_new G o x cs i c p =
    let K = Then G (Accepted o) in
    let q = born_in o 0 x cs c (new_from_body o x cs i.body c p) in
    ap (λ z. (z, c.char)) (stays K (greatest K) c i.legal (known K i.legal c (char_new G o c p)).0 (q ∙ (i.here ∙ sym (same_greatest G o x cs i.body))))

-- each identifier of the insertion lies between the neighbours of the place
abbrev pub Lies : History → ℕ → List Tuple → List ℕ → Type 0
Lies G at x cs = (k : ℕ) → k < length cs → LiesBetween (get_before (ids (export G)) at) (slice_get (ids (export G)) at) (shifted (pos k) x)

spliced : History → ℕ → List Tuple → List ℕ → List Entry
spliced G at x cs = take at (export G) ++ (entries x cs ++ drop at (export G))

spliced_rises : (G : History) (at : ℕ) (x : List Tuple) (cs : List ℕ) → IsLegal G → IsIdent x → at ≤ length (export G) → Lies G at x cs → Rises (spliced G at x cs)
unfolding spliced
spliced_rises G at x cs l i h f =
    rises_splice at (export G) (entries x cs) (export_rises G l) (entries_rise x cs i)
    (λ m y p q. let r = entry_place x cs m p in subst (λ z. Lt tuples y.0 z) (sym r.2) (take_below at (export G) h (export_rises G l) (shifted (pos r.0) x) (f r.0 r.1).0 y q))
    (λ m y p q. let r = entry_place x cs m p in subst (λ z. Lt tuples z y.0) (sym r.2) (drop_above at (export G) (export_rises G l) (shifted (pos r.0) x) (f r.0 r.1).1 y q))

into_spliced : (G : History) (o : Op) (at : ℕ) (x : List Tuple) (cs : List ℕ) → Inserts G o x cs → (z : Entry) → IsIn z (export (Then G (Accepted o))) → IsIn z (spliced G at x cs)
unfolding spliced
into_spliced G o at x cs i z p =
    let r = in_export (Then G (Accepted o)) z p in
    ⊎_elim
    (λ q. let e = subst (λ (w : Entry). IsIn w (export G)) (sym (entry_old G o x cs i.body r.0) ∙ r.2) (export_in G r.0 q) in
    ⊎_elim (λ t. in_left z (take at (export G)) (entries x cs ++ drop at (export G)) t) (λ t. in_right z (take at (export G)) (entries x cs ++ drop at (export G)) (in_right z (entries x cs) (drop at (export G)) t)) (take_or_drop at z (export G) e))
    (λ q. let e = map_in born r.0 (chars_from o 0 x cs) (new_from_body o x cs i.body r.0 q) in
    let t = subst (λ ys. IsIn (born r.0) ys) (born_entries o 0 x cs) e in
    let u = subst (λ (w : Entry). IsIn w (entries x cs)) (sym (entry_new G o x cs i r.0 q) ∙ r.2) t in
    in_right z (take at (export G)) (entries x cs ++ drop at (export G)) (in_left z (entries x cs) (drop at (export G)) u))
    (live_split G o x cs i.body r.0 r.1)

from_spliced : (G : History) (o : Op) (at : ℕ) (x : List Tuple) (cs : List ℕ) → Inserts G o x cs → (z : Entry) → IsIn z (spliced G at x cs) → IsIn z (export (Then G (Accepted o)))
unfolding spliced
from_spliced G o at x cs i z p =
    let K = Then G (Accepted o) in
    let old : IsIn z (export G) → IsIn z (export K) = λ q. let r = in_export G z q in
    subst (λ (w : Entry). IsIn w (export K)) (entry_old G o x cs i.body r.0 ∙ r.2) (export_in K r.0 (live_old G o x cs i.body r.0 r.1)) in
    let new : IsIn z (entries x cs) → IsIn z (export K) = λ q. let r = in_map born z (chars_from o 0 x cs) (subst (λ ys. IsIn z ys) (sym (born_entries o 0 x cs)) q) in
    let c = body_from_new o x cs i.body r.0 r.1 in
    subst (λ (w : Entry). IsIn w (export K)) (entry_new G o x cs i r.0 c ∙ r.2) (export_in K r.0 (live_new G o x cs i r.0 c)) in
    ⊎_elim (λ q. old (in_take at z (export G) q)) (λ q. ⊎_elim new (λ t. old (in_drop at z (export G) t)) (in_split z (entries x cs) (drop at (export G)) q))
    (in_split z (take at (export G)) (entries x cs ++ drop at (export G)) p)

-- the export after an insertion at the greatest epoch whose identifiers lie between the neighbours of a place
pub export_insert : (G : History) (o : Op) (at : ℕ) (x : List Tuple) (cs : List ℕ) → IsLegal (Then G (Accepted o)) → o.body ≡ Insert x cs → o.epoch ≡ greatest G → IsIdent x → at ≤ length (export G) → Lies G at x cs →
    export (Then G (Accepted o)) ≡ take at (export G) ++ (entries x cs ++ drop at (export G))
unfolding spliced
export_insert G o at x cs l e f i h k =
    let r : Inserts G o x cs = record { legal = l; body = e; here = f } in
    same_rising (export (Then G (Accepted o))) (spliced G at x cs) (export_rises (Then G (Accepted o)) l) (spliced_rises G at x cs l.0 i h k) (into_spliced G o at x cs r) (from_spliced G o at x cs r)

-- ---- the law

-- the first identifier of the insertion that the edit makes
abbrev pub made_first : History → ℕ → List ℕ → List Tuple
made_first H at cs = first_between (stems H) (me_of H) (next_seq H) (get_before (idents H) at) (slice_get (idents H) at) (length cs)

at_most_length : (H : History) (at : ℕ) (cs : List ℕ) → edit_fault H (edits.Insert at cs) ≡ None → at ≤ length (idents H)
at_most_length H at cs h =
    let s = made.fault_split H (edits.Insert at cs) h in
    let p = none_else (length cs == 0) faults.EmptyEdit _ s.1 in
    let q = none_else (nat_lt (length (idents H)) at) (faults.Range at (length (idents H))) _ p.1 in
    not_lt_is (length (idents H)) at q.0

made_lies : (H : History) (at : ℕ) (cs : List ℕ) → IsLegal H → Lies H at (made_first H at cs) cs
unfolding idents
made_lies H at cs l k h =
    let g = idents_good H l in
    first_lies (stems H) (me_of H) (next_seq H) (get_before (idents H) at) (slice_get (idents H) at) (length cs) k h (neighbour_before (idents H) g.0 at) (neighbour (idents H) g.0 at) (neighbours at (export H) (export_rises H l))

made_export_at : (H : History) (at : ℕ) (cs : List ℕ) → IsLegal H → IsLegal (edited H (edits.Insert at cs)) → at ≤ length (idents H) → export (edited H (edits.Insert at cs)) ≡ take at (export H) ++ (entries (made_first H at cs) cs ++ drop at (export H))
unfolding made idents
made_export_at H at cs l k m =
    export_insert H (made H (edits.Insert at cs)) at (made_first H at cs) cs k refl refl k.1.body.0 (subst (λ n. at ≤ n) (length-map (export H) (λ (y : Entry). y.0)) m) (made_lies H at cs l)

-- the export after an insertion
pub made_export : (H : History) (at : ℕ) (cs : List ℕ) → IsLegal H → IsEdit (edits.Insert at cs) → edit_fault H (edits.Insert at cs) ≡ None → export (edited H (edits.Insert at cs)) ≡ take at (export H) ++ (entries (made_first H at cs) cs ++ drop at (export H))
made_export H at cs l i h = made_export_at H at cs l (made.law H (edits.Insert at cs) l i h) (at_most_length H at cs h)

pub law : InsertionLands
unfolding text
law H at cs l i h =
    let E = export H in
    let M = entries (made_first H at cs) cs in
    let f : Entry → ℕ = λ y. y.1 in
    ap (map f) (made_export H at cs l i h)
    ∙ (append_map f (take at E) (M ++ drop at E)
    ∙ (ap (λ ys. ys ++ map f (M ++ drop at E)) (take_map f at E)
    ∙ ap (λ ys. take at (map f E) ++ ys) (append_map f M (drop at E) ∙ (ap (λ ys. ys ++ map f (drop at E)) (chars-entries (made_first H at cs) cs) ∙ ap (λ ys. cs ++ ys) (drop_map f at E)))))
