-- Anchors that come from elsewhere.
use Rattle.std.proofs.Common.{◌≡◌, ◌∙◌, ℕ, zero, suc, Bool, true, false, List, Some, None, inl, refl, sym, subst, ap}
use Rattle.std.specs.Prelude.{Option, if◌then◌else◌, slice_get}
use Rattle.rls_ident.specs.declared.tuple.Tuple.{Tuple}
use Rattle.rls_ident.specs.declared.epoch_name.EpochName.{EpochName}
use Rattle.rls_ident.specs.EpochNames.{name_eq}
use Rattle.rls_ident.proofs.Members.{any_in, in_any}
use Rattle.rls_ident.proofs.Named.{name_eq_is, name_eq_refl}
use Rattle.rls_rename.proofs.Hull.{in_spanned, needed_spanned, spanned_in}
use Rattle.rls_rename.proofs.Kept.{greatest_kept}
use Rattle.rls_model.specs.Receiving.{State}
use Rattle.rls_seen.specs.Kept.{dropped, needed_over, retained_over}
use Rattle.rls_seen.specs.Sane.{IsSane}
use Rattle.rls_seen.specs.Seen.{Seen, greatest_over, idents_over}
use Rattle.rls_seen.specs.Stands.{StandsFor}
use Rattle.rls_seen.proofs.Editing.{retained_alike}
use Rattle.rls_seen.proofs.Keeping.{dropped_stands}
use Rattle.rls_replica.specs.Names.{keeps}
use Rattle.rls_anchor.specs.declared.anchor.Anchor.{Anchor}
use Rattle.rls_anchor.specs.declared.anchor.Anchor.TheVariants.{Beginning, After, Before}
use Rattle.rls_anchor.specs.AnchorLaws.{IsAnchored, LocatedAlike, LocatedThere}
use Rattle.rls_anchor.specs.Anchors.{anchor_before_over, anchor_over, behind, in_front, place, place_over}
use Rattle.rls_anchor.specs.Elsewhere.{has_epoch, is_in_one_of, located, located_over}
use Rattle.rls_anchor.proofs.Places.{made_at, made_before, place_alike}

-- a retained epoch is kept
one_kept : (s : Seen) (e : EpochName) → has_epoch (retained_over s) e ≡ true → keeps s e ≡ true
unfolding retained_over
one_kept s e h =
    let r = in_any (name_eq e) (retained_over s) h in
    let same : e ≡ r.0 = name_eq_is e r.0 r.2 in
    subst (λ (f : EpochName). keeps s f ≡ true) (sym same) (in_spanned s.epochs.top s.epochs.nodes (greatest_over s) (needed_over s) r.0 r.1).0

anchor_kept : (s : Seen) (a : Anchor) → is_in_one_of (retained_over s) a ≡ true → IsAnchored s a
anchor_kept s Beginning h = tt
anchor_kept s (After e x) h = one_kept s e h
anchor_kept s (Before e x) h = one_kept s e h

-- over a replica as over a history that it stands for
alike : (s : Seen) (t : State) (a : Anchor) → StandsFor s t → located_over s a ≡ located t.history a
unfolding located located_over
alike s t a h = go (is_in_one_of (retained_over s) a) refl ∙ ap (λ es. if is_in_one_of es a then Some (place t.history a) else None) (retained_alike s t h)
  where
    go : (b : Bool) → is_in_one_of (retained_over s) a ≡ b → (if b then Some (place_over s a) else None) ≡ (if b then Some (place t.history a) else None)
    go true e = ap (λ p. Some p) (place_alike s t a h (anchor_kept s a e))
    go false e = refl

pub located_alike : LocatedAlike
located_alike s t a h = (alike s t a h, alike (dropped s) t a (dropped_stands s t h) ∙ sym (alike s t a h))

-- the greatest epoch is retained
greatest_one : (s : Seen) → IsSane s → has_epoch (retained_over s) (greatest_over s) ≡ true
unfolding retained_over
greatest_one s sane =
    let g = greatest_over s in
    let there = spanned_in s.epochs.top s.epochs.nodes g (needed_over s) g (greatest_kept s.epochs.top s.epochs.nodes) (needed_spanned s.epochs.nodes sane.epochs.nodes g (needed_over s) g (inl refl)) in
    any_in (name_eq g) g (retained_over s) there (name_eq_refl g)

made_within : (s : Seen) (at : ℕ) → IsSane s → is_in_one_of (retained_over s) (anchor_over s at) ≡ true
made_within s zero sane = refl
made_within s (suc k) sane = go (slice_get (idents_over s) k)
  where
    go : (x : Option (List Tuple)) → is_in_one_of (retained_over s) (behind (greatest_over s) x) ≡ true
    go None = refl
    go (Some x) = greatest_one s sane

before_within : (s : Seen) (at : ℕ) → IsSane s → is_in_one_of (retained_over s) (anchor_before_over s at) ≡ true
before_within s at sane = go (slice_get (idents_over s) at)
  where
    go : (x : Option (List Tuple)) → is_in_one_of (retained_over s) (in_front (greatest_over s) x (anchor_over s at)) ≡ true
    go None = made_within s at sane
    go (Some x) = greatest_one s sane

where_it_is : (s : Seen) (a : Anchor) (at : ℕ) → is_in_one_of (retained_over s) a ≡ true → place_over s a ≡ at → located_over s a ≡ Some at
unfolding located_over
where_it_is s a at w p = ap (λ b. if b then Some (place_over s a) else None) w ∙ ap (λ q. Some q) p

pub located_there : LocatedThere
located_there s at sane h = (where_it_is s (anchor_over s at) at (made_within s at sane) (made_at s at sane h), where_it_is s (anchor_before_over s at) at (before_within s at sane) (made_before s at sane h))

-- ---- of the code

-- how it is where the epoch is retained or isn't
pub locate_none : (s : Seen) (a : Anchor) → is_in_one_of (retained_over s) a ≡ false → None ≡ located_over s a
unfolding located_over
locate_none s a h = sym (ap (λ b. if b then Some (place_over s a) else None) h)

pub locate_some : (s : Seen) (a : Anchor) (at : ℕ) → is_in_one_of (retained_over s) a ≡ true → at ≡ place_over s a → Some at ≡ located_over s a
locate_some s a at h p = sym (where_it_is s a at h (sym p))
