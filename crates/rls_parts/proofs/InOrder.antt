-- The first rule that is broken, where those before pass.
use Rattle.std.proofs.Common.{◌≡◌, ℕ, Bool, true, false, [], subst, ap, ◌∙◌, refl, sym, Option, Some, None}
use Rattle.std.specs.Prelude.{Result, Ok, Err}
use Rattle.rls_epoch.specs.Seen.{EpochsSeen}
use Rattle.rls_model.specs.declared.parts.Parts.{Parts}
use Rattle.rls_parts.specs.Reading.{epochs_of, stable_of_parts}
use Rattle.rls_parts.specs.Rules.{Broken, or_broken, row_fault, stem_fault, epoch_fault, text_fault, log_fault, whole_fault, ends_at_vector, are_retained, held_fault, broken}
use Rattle.rls_parts.specs.declared.tested.PartsError.{PartsError}
use Rattle.rls_parts.specs.declared.tested.PartsError.TheVariants as errors
use Rattle.rls_parts.specs.Tested.{AreTested, IsLogTested}

abbrev pub at : ℕ → ℕ → Broken
at r i = record { rule = r; index = i }

next : (r : ℕ) (f : Option ℕ) (later x : Option Broken) → f ≡ None → later ≡ x → or_broken r f later ≡ x
next r f later x e h = ap (λ g. or_broken r g later) e ∙ h

here : (r : ℕ) (f : Option ℕ) (later : Option Broken) (i : ℕ) → f ≡ Some i → or_broken r f later ≡ Some (at r i)
here r f later i e = ap (λ g. or_broken r g later) e

module _ (p : Parts) where
  abbrev r8 : Option Broken
  r8 = or_broken 8 (held_fault p None 0 p.held) None

  abbrev r7 : Option Broken
  r7 = or_broken 7 (whole_fault (are_retained p)) r8

  abbrev r6 : Option Broken
  r6 = or_broken 6 (whole_fault (ends_at_vector p)) r7

  abbrev r5 : Option Broken
  r5 = or_broken 5 (log_fault p (stable_of_parts p) 0 p.log) r6

  abbrev r4 : Option Broken
  r4 = or_broken 4 (text_fault p 0 p.text) r5

  abbrev r3 : Option Broken
  r3 = or_broken 3 (epoch_fault p [] p.epochs) r4

  abbrev r2 : Option Broken
  r2 = or_broken 2 (stem_fault p None 0 p.stems) r3

  pub by_1 : (i : ℕ) → row_fault p 0 p.rows ≡ Some i → broken p ≡ Some (at 1 i)
  unfolding broken
  by_1 i e = here 1 (row_fault p 0 p.rows) r2 i e

  past_1 : (x : Option Broken) → row_fault p 0 p.rows ≡ None → r2 ≡ x → broken p ≡ x
  unfolding broken
  past_1 x a h = next 1 (row_fault p 0 p.rows) r2 x a h

  pub by_2 : (i : ℕ) → row_fault p 0 p.rows ≡ None → stem_fault p None 0 p.stems ≡ Some i → broken p ≡ Some (at 2 i)
  by_2 i a e = past_1 (Some (at 2 i)) a (here 2 (stem_fault p None 0 p.stems) r3 i e)

  past_2 : (x : Option Broken) → row_fault p 0 p.rows ≡ None → stem_fault p None 0 p.stems ≡ None → r3 ≡ x → broken p ≡ x
  past_2 x a b h = past_1 x a (next 2 (stem_fault p None 0 p.stems) r3 x b h)

  pub by_3 : (i : ℕ) → row_fault p 0 p.rows ≡ None → stem_fault p None 0 p.stems ≡ None → epoch_fault p [] p.epochs ≡ Some i → broken p ≡ Some (at 3 i)
  by_3 i a b e = past_2 (Some (at 3 i)) a b (here 3 (epoch_fault p [] p.epochs) r4 i e)

  past_3 : (x : Option Broken) → row_fault p 0 p.rows ≡ None → stem_fault p None 0 p.stems ≡ None → epoch_fault p [] p.epochs ≡ None → r4 ≡ x → broken p ≡ x
  past_3 x a b c h = past_2 x a b (next 3 (epoch_fault p [] p.epochs) r4 x c h)

  pub by_4 : (i : ℕ) → row_fault p 0 p.rows ≡ None → stem_fault p None 0 p.stems ≡ None → epoch_fault p [] p.epochs ≡ None → text_fault p 0 p.text ≡ Some i → broken p ≡ Some (at 4 i)
  by_4 i a b c e = past_3 (Some (at 4 i)) a b c (here 4 (text_fault p 0 p.text) r5 i e)

  -- rules 1 to 4 pass
  pub record Four : Type 0 where
    pub rows : row_fault p 0 p.rows ≡ None
    pub stems : stem_fault p None 0 p.stems ≡ None
    pub epochs : epoch_fault p [] p.epochs ≡ None
    pub text : text_fault p 0 p.text ≡ None

  past_4 : (x : Option Broken) → Four → r5 ≡ x → broken p ≡ x
  past_4 x f h = past_3 x f.rows f.stems f.epochs (next 4 (text_fault p 0 p.text) r5 x f.text h)

  pub by_5 : (i : ℕ) → Four → log_fault p (stable_of_parts p) 0 p.log ≡ Some i → broken p ≡ Some (at 5 i)
  by_5 i f e = past_4 (Some (at 5 i)) f (here 5 (log_fault p (stable_of_parts p) 0 p.log) r6 i e)

  past_5 : (x : Option Broken) → Four → log_fault p (stable_of_parts p) 0 p.log ≡ None → r6 ≡ x → broken p ≡ x
  past_5 x f g h = past_4 x f (next 5 (log_fault p (stable_of_parts p) 0 p.log) r6 x g h)

  pub by_6 : Four → log_fault p (stable_of_parts p) 0 p.log ≡ None → false ≡ ends_at_vector p → broken p ≡ Some (at 6 0)
  by_6 f g e = past_5 (Some (at 6 0)) f g (here 6 (whole_fault (ends_at_vector p)) r7 0 (ap whole_fault (sym e)))

  past_6 : (x : Option Broken) → Four → log_fault p (stable_of_parts p) 0 p.log ≡ None → true ≡ ends_at_vector p → r7 ≡ x → broken p ≡ x
  past_6 x f g k h = past_5 x f g (next 6 (whole_fault (ends_at_vector p)) r7 x (ap whole_fault (sym k)) h)

  pub by_7 : Four → log_fault p (stable_of_parts p) 0 p.log ≡ None → true ≡ ends_at_vector p → false ≡ are_retained p → broken p ≡ Some (at 7 0)
  by_7 f g k e = past_6 (Some (at 7 0)) f g k (here 7 (whole_fault (are_retained p)) r8 0 (ap whole_fault (sym e)))

  past_7 : (x : Option Broken) → Four → log_fault p (stable_of_parts p) 0 p.log ≡ None → true ≡ ends_at_vector p → true ≡ are_retained p → r8 ≡ x → broken p ≡ x
  past_7 x f g k l h = past_6 x f g k (next 7 (whole_fault (are_retained p)) r8 x (ap whole_fault (sym l)) h)

  pub by_8 : (i : ℕ) → Four → log_fault p (stable_of_parts p) 0 p.log ≡ None → true ≡ ends_at_vector p → true ≡ are_retained p → held_fault p None 0 p.held ≡ Some i → broken p ≡ Some (at 8 i)
  by_8 i f g k l e = past_7 (Some (at 8 i)) f g k l (here 8 (held_fault p None 0 p.held) None i e)

  pub by_none : Four → log_fault p (stable_of_parts p) 0 p.log ≡ None → true ≡ ends_at_vector p → true ≡ are_retained p → held_fault p None 0 p.held ≡ None → broken p ≡ None
  by_none f g k l e = past_7 None f g k l (next 8 (held_fault p None 0 p.held) None None e refl)

-- ---- what the tests answered

pub tree_ok : (p : Parts) (r : Result EpochsSeen ℕ) (e : EpochsSeen) → AreTested p r → r ≡ Ok e → (epoch_fault p [] p.epochs ≡ None) × (e.epochs ≡ epochs_of p)
tree_ok p r e t h = subst (AreTested p) h t

pub tree_err : (p : Parts) (r : Result EpochsSeen ℕ) (i : ℕ) → AreTested p r → r ≡ Err i → epoch_fault p [] p.epochs ≡ Some i
tree_err p r i t h = subst (AreTested p) h t

pub log_ok : (p : Parts) (r : Result Bool ℕ) (b : Bool) → IsLogTested p r → r ≡ Ok b → (log_fault p (stable_of_parts p) 0 p.log ≡ None) × (b ≡ ends_at_vector p)
log_ok p r b t h = subst (IsLogTested p) h t

pub log_err : (p : Parts) (r : Result Bool ℕ) (i : ℕ) → IsLogTested p r → r ≡ Err i → log_fault p (stable_of_parts p) 0 p.log ≡ Some i
log_err p r i t h = subst (IsLogTested p) h t

same_rule : {A : Type 0} (r i s j : ℕ) → ◌≡◌ {A = Result A PartsError} (Err (errors.Broken r i)) (Err (errors.Broken s j)) → r ≡ s
same_rule r i s j e = cc

same_index : {A : Type 0} (r i s j : ℕ) → ◌≡◌ {A = Result A PartsError} (Err (errors.Broken r i)) (Err (errors.Broken s j)) → i ≡ j
same_index r i s j e = cc

-- the answer tells the rule and the place
pub told : {A : Type 0} (p : Parts) (r i s j : ℕ) → ◌≡◌ {A = Result A PartsError} (Err (errors.Broken r i)) (Err (errors.Broken s j)) → broken p ≡ Some (at r i) → broken p ≡ Some (at s j)
told p r i s j e h = h ∙ (ap (λ x. Some (at x i)) (same_rule r i s j e) ∙ ap (λ x. Some (at s x)) (same_index r i s j e))
