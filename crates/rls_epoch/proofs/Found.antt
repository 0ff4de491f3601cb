-- Where an epoch is found by its name.
use Rattle.std.proofs.Common.{◌≡◌, ℕ, zero, suc, ◌+◌, ◌<◌, ◌≤◌, true, false, List, length, get_or, Option, Some, None, refl, sym, ap, ◌∙◌, arith, ⊎_elim}
use Rattle.std.specs.Prelude.{slice_get}
use Rattle.std.specs.Option.{option_map}
use Rattle.std.proofs.lemmas.List.{length-map}
use Rattle.std.proofs.lemmas.Option.{slice_get-get_or, slice_get-map, slice_get_within}
use Rattle.rls_ident.specs.declared.epoch_name.EpochName.{EpochName}
use Rattle.rls_ident.specs.EpochNames.{name_eq}
use Rattle.rls_ident.specs.Lists.{IsIn}
use Rattle.rls_ident.proofs.Members.{not_true, or_left, or_right, or_split, some_is, get_in}
use Rattle.rls_ident.proofs.Positions.{get_of}
use Rattle.rls_ident.proofs.Named.{name_eq_is, name_eq_refl}
use Rattle.rls_rename.specs.Tree.{name_of, has_node, is_kept}
use Rattle.rls_epoch.specs.declared.placed.Placed.{Placed}
use Rattle.rls_epoch.specs.Climbing.{name_cmp}
use Rattle.rls_epoch.specs.Links.{name_at, epoch_at, up_at}
use Rattle.rls_epoch.specs.Seen.{nodes_of, AreLaid}
use Rattle.rls_epoch.specs.Sorted.{place_name, names_at, AreSorted, IsCut}
use Rattle.rls_epoch.proofs.Ordering.{names_order}
use Rattle.rls_epoch.proofs.Orders.{sorted_in, place_kept}
use Rattle.rls_epoch.proofs.Reading.{name_read, up_read}
use Rattle.rls_epoch.proofs.Sorting.{cut_found}

-- a place that is read is one of these
pub read_in : (places : List ℕ) (m : ℕ) → m < length places → IsIn (get_or places m 0) places
read_in places m h = get_in places m (get_or places m 0) (slice_get-get_or places m 0 h)

-- the number after a place
pub next_at : (top : EpochName) (ps : List Placed) (k : ℕ) → epoch_at top ps (k + 1) ≡ place_name ps k
next_at top ps k = let e : k + 1 ≡ suc k = omega arith in ap (epoch_at top ps) e

pub name_next : (top : EpochName) (ps : List Placed) (k : ℕ) (e : EpochName) → k < length ps → name_eq (place_name ps k) e ≡ true → name_at top ps (k + 1) ≡ Some e
name_next top ps k e h q =
    let r = get_of ps k h in
    let n : k + 1 ≡ suc k = omega arith in
    ap (name_at top ps) n ∙ (ap (option_map (λ (z : Placed). name_of z.renaming)) r.1 ∙ ap Some (sym (name_read ps k r.0 r.1) ∙ name_eq_is (place_name ps k) e q))

-- the parent of a node comes before it
pub up_earlier : (top : EpochName) (ps : List Placed) → AreLaid top ps → (k : ℕ) → k < length ps → up_at ps k ≤ k
up_earlier top ps l k h = let r = get_of ps k h in let e = up_read ps k r.0 r.1 in let b = l.links.earlier k r.0 r.1 in omega arith

-- what has a number is kept
pub kept_at : (top : EpochName) (ps : List Placed) (n : ℕ) (e : EpochName) → name_at top ps n ≡ Some e → is_kept top (nodes_of ps) e ≡ true
kept_at top ps zero e h = or_left (name_eq e top) (has_node (nodes_of ps) e) (ap (name_eq e) (some_is top e h) ∙ name_eq_refl e)
kept_at top ps (suc k) e h = go (slice_get ps k) refl h
  where
    go : (o : Option Placed) → slice_get ps k ≡ o → option_map (λ (z : Placed). name_of z.renaming) o ≡ Some e → is_kept top (nodes_of ps) e ≡ true
    go None g j = absurd (cc)
    go (Some p) g j =
        let q : place_name ps k ≡ e = name_read ps k p g ∙ some_is (name_of p.renaming) e j in
        or_right (name_eq e top) (has_node (nodes_of ps) e) (ap (has_node (nodes_of ps)) (sym q) ∙ place_kept ps k (slice_get_within ps k p g))

-- a name that isn't at its place isn't there
module _ (top : EpochName) {ps : List Placed} {by_name : List ℕ} (s : AreSorted name_cmp ps by_name) {e : EpochName} {i : ℕ} (c : IsCut name_cmp (names_at ps by_name) e i) (n : name_eq e top ≡ false) where
  found : has_node (nodes_of ps) e ≡ true → slice_get (names_at ps by_name) i ≡ Some e
  found h = cut_found name_cmp names_order (names_at ps by_name) s.rising e i c (sorted_in name_cmp ps by_name s e h)

  no_node : (has_node (nodes_of ps) e ≡ true → ⊥) → is_kept top (nodes_of ps) e ≡ false
  no_node f = not_true (is_kept top (nodes_of ps) e) (λ q. ⊎_elim (λ h. absurd (cc)) f (or_split (name_eq e top) (has_node (nodes_of ps) e) q))

  pub none_at_end : length by_name ≤ i → is_kept top (nodes_of ps) e ≡ false
  none_at_end l = no_node (λ h. let w = slice_get_within (names_at ps by_name) i e (found h) in let m = length-map by_name (place_name ps) in absurd (omega arith))

  pub none_here : i < length by_name → name_eq (place_name ps (get_or by_name i 0)) e ≡ false → is_kept top (nodes_of ps) e ≡ false
  none_here l q =
      no_node
      (λ h. let g = slice_get-map (place_name ps) by_name i ∙ ap (option_map (place_name ps)) (slice_get-get_or by_name i 0 l) in
      let r = some_is (place_name ps (get_or by_name i 0)) e (sym g ∙ found h) in
      let t = ap (λ z. name_eq z e) r ∙ name_eq_refl e in
      absurd (cc))
