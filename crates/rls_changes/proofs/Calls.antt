-- What calls know of the changes that they put after others.
use Rattle.std.proofs.Common.{◌≡◌, ◌∙◌, ℕ, List, ◌++◌, length, take, Result, Ok, Err, ap}
use Rattle.std.specs.Prelude.{IfOk, OnOk}
use Rattle.std.proofs.Math.Seq.{take-append_seam}
use Rattle.rls_changes.specs.declared.change.Change.{Change}

-- cut back to the changes before
pub cut_back : (cs fresh now cut : List Change) (n : ℕ) → n ≡ length cs → now ≡ cs ++ fresh → cut ≡ take n now → cut ≡ cs
cut_back cs fresh now cut n l e f = f ∙ (ap (λ k. take k now) l ∙ (ap (take (length cs)) e ∙ take-append_seam cs fresh))

-- ---- what is known of a result in either case

pub if_ok : {T E : Type 0} → (r : Result T E) (P : T → Type 0) (Q : Type 0) (R : T → Type 0) → ((x : T) → P x → Q → R x) → IfOk r P → OnOk r Q → IfOk r R
if_ok (Ok x) P Q R f p q = f x p q
if_ok (Err e) P Q R f p q = tt

pub on_ok : {T E : Type 0} → (r : Result T E) (P Q : Type 0) → (P → Q) → OnOk r P → OnOk r Q
on_ok (Ok x) P Q f p = f p
on_ok (Err e) P Q f p = tt
