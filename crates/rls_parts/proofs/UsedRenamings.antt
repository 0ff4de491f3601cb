-- Renamings of which each former and each new identifier has a last tuple that was used: what was used in one epoch was used in each.
use Rattle.std.proofs.Common.{◌≡◌, ℕ, ◌<◌, true, List, [], length, drop, Option, Some, None, ap, ◌∙◌, subst, arith}
use Rattle.std.specs.Prelude.{pos, ◌+ℤ◌}
use Rattle.std.specs.Int.RustNames.{int_le}
use Rattle.std.specs.List.{list_all}
use Rattle.std.proofs.lemmas.Int.{ints}
use Rattle.rls_ident.specs.declared.tuple.Tuple.{Tuple}
use Rattle.rls_ident.specs.declared.epoch_name.EpochName.{EpochName}
use Rattle.rls_ident.specs.Identifiers.{IsIdent, last_of}
use Rattle.rls_ident.specs.Lists.{IsIn}
use Rattle.rls_ident.proofs.Members.{and_left, and_right, in_all, int_le_is}
use Rattle.rls_rename.specs.Tree.{Node, name_of, AreNodes, translate}
use Rattle.rls_rename.proofs.Paths.{among_node}
use Rattle.rls_rename.proofs.Triples.{HasFormer, stays_in}
use Rattle.rls_model.specs.declared.parts.EpochPart.{EpochPart}
use Rattle.rls_model.specs.declared.parts.Parts.{Parts}
use Rattle.rls_model.specs.declared.parts.Stem.{Stem}
use Rattle.rls_model.specs.Stems.{stem_of, has_used}
use Rattle.rls_model.proofs.StemLists.{used_from}
use Rattle.rls_seen.specs.Sane.{IsCovered}
use Rattle.rls_seen.proofs.Written.{Used, covered}
use Rattle.rls_parts.specs.Given.{AreEpochParts}
use Rattle.rls_parts.specs.Reading.{nodes_of}
use Rattle.rls_parts.specs.Rules.{epoch_fault, is_used_tuple}
use Rattle.rls_parts.proofs.RestoredEpochs.{tree_given}
use Rattle.rls_parts.specs.Used.{covers, covers_new, is_used_renaming}

covered_at : (o : Option Stem) (n j : ℕ) → covers o (pos 0) n ≡ true → j < n → has_used o (pos j) ≡ true
covered_at None n j h l = absurd (cc)
covered_at (Some t) n j h l =
    let a = int_le t.low (pos 0) in
    let b = int_le (pos 0 +ℤ pos n) (pos t.next) in
    let low = int_le_is t.low (pos 0) (and_left a b h) in
    let end = int_le_is (pos 0 +ℤ pos n) (pos t.next) (and_right a b h) in
    used_from t (pos j) (omega (arith, ints)) (omega (arith, ints))

-- the test of an entry, for its node
node_used : (p : Parts) (e : EpochPart) (n : Node) → is_used_renaming p e ≡ true → name_of n.renaming ≡ e.name → n.renaming.former ≡ e.former → IsCovered p.stems n × HasFormer (Used p.stems) n.renaming
node_used p e n h named former =
    let a = covers_new p.stems e.name (length e.former) in
    let b = list_all (λ x. is_used_tuple p (last_of x)) e.former in
    let new : covers_new p.stems (name_of n.renaming) (length n.renaming.former) ≡ true =
    ap (λ m. covers_new p.stems m (length n.renaming.former)) named ∙ (ap (λ (xs : List (List Tuple)). covers_new p.stems e.name (length xs)) former ∙ and_left a b h) in (
      (λ j l. covered_at (stem_of p.stems n.renaming.replica n.renaming.seq) (length n.renaming.former) j new l),
      (λ x q. in_all (λ y. is_used_tuple p (last_of y)) x e.former (and_right a b h) (subst (IsIn x) former q)),
    )

nodes_used : (p : Parts) → AreEpochParts p.epochs → epoch_fault p [] p.epochs ≡ None → list_all (is_used_renaming p) (drop 1 p.epochs) ≡ true → (n : Node) → IsIn n (nodes_of p.epochs) → IsCovered p.stems n × HasFormer (Used p.stems) n.renaming
nodes_used p a rule h n q =
    let t = tree_given p p.epochs a rule in
    let m = t.tree.made n q in
    let rest : drop 1 p.epochs ≡ t.rest = ap (drop 1) t.is in
    node_used p m.0 n (in_all (is_used_renaming p) m.0 t.rest (subst (λ es. list_all (is_used_renaming p) es ≡ true) rest h) m.1) (m.2).named (m.2).former

pub used_always : (p : Parts) (e f : EpochName) (x : List Tuple) → AreEpochParts p.epochs → epoch_fault p [] p.epochs ≡ None → AreNodes (nodes_of p.epochs) → list_all (is_used_renaming p) (drop 1 p.epochs) ≡ true
    → IsIdent x → is_used_tuple p (last_of x) ≡ true → is_used_tuple p (last_of (translate (nodes_of p.epochs) e f x)) ≡ true
used_always p e f x a rule n h i u =
    let ns = nodes_of p.epochs in
    let k = nodes_used p a rule h in
    stays_in (Used p.stems) ns e f x n (λ R q. let r = among_node ns R q in subst (HasFormer (Used p.stems)) r.2 (k r.0 r.1).1) (covered p.stems ns (λ m q. (k m q).0)) i u
