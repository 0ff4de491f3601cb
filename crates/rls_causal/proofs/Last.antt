-- The last operation of queues that stand one after another.
use Rattle.std.proofs.Common.{◌≡◌, ℕ, zero, suc, ◌-◌, ◌<◌, List, [], ◌∷◌, ◌++◌, Option, None, Some, length, drop, refl, ap, ◌∙◌, arith}
use Rattle.std.specs.Prelude.{slice_get}
use Rattle.std.proofs.lemmas.List.{append-nil, length-append}
use Rattle.std.proofs.lemmas.Option.{slice_get_within, slice_get-get_or}
use Rattle.rls_ident.proofs.Members.{some_is}
use Rattle.rls_ops.specs.declared.op.Op.{Op}
use Rattle.rls_causal.specs.Queues.{joined}

abbrev pub last_of : List Op → Option Op
last_of W = slice_get W (length W - 1)

not_empty : (W : List Op) (x : Op) → last_of W ≡ Some x → 0 < length W
not_empty W x h = let l = slice_get_within W (length W - 1) x h in omega (arith, l)

last_none : (W : List Op) → last_of W ≡ None → W ≡ []
last_none [] h = refl
last_none (w ∷ ws) h = let e : last_of (w ∷ ws) ≡ Some _ = slice_get-get_or (w ∷ ws) (length (w ∷ ws) - 1) w (omega arith) in absurd (cc)

last_step : (x : Op) (W : List Op) → 0 < length W → last_of (x ∷ W) ≡ last_of W
last_step x [] h = absurd (omega arith)
last_step x (w ∷ ws) h = ap (slice_get (x ∷ w ∷ ws)) {x = suc (suc (length ws)) - 1} {y = suc (length ws)} (omega arith) ∙ ap (slice_get (w ∷ ws)) {x = length ws} {y = suc (length ws) - 1} (omega arith)

last_append : (V W : List Op) → 0 < length W → last_of (V ++ W) ≡ last_of W
last_append [] W h = refl
last_append (v ∷ vs) W h = last_step v (vs ++ W) (let e = length-append vs W in omega (arith, e)) ∙ last_append vs W h

-- where the queues behind one are empty, its last operation is the last of all
pub last_in : (Ws : List (List Op)) (i : ℕ) (W : List Op) (x : Op) → slice_get Ws i ≡ Some W → joined (drop (suc i) Ws) ≡ [] → last_of W ≡ Some x → last_of (joined Ws) ≡ Some x
last_in [] i W x f b e = absurd (cc)
last_in (V ∷ Vs) zero W x f b e = ap (λ J. last_of (V ++ J)) b ∙ ap last_of (append-nil V) ∙ ap last_of (some_is V W f) ∙ e
last_in (V ∷ Vs) (suc i) W x f b e = let rest = last_in Vs i W x f b e in last_append V (joined Vs) (not_empty (joined Vs) x rest) ∙ rest

-- and where it is empty too, all from it on are
pub none_from : (Ws : List (List Op)) (i : ℕ) (W : List Op) → slice_get Ws i ≡ Some W → joined (drop (suc i) Ws) ≡ [] → last_of W ≡ None → joined (drop i Ws) ≡ []
none_from [] i W f b e = absurd (cc)
none_from (V ∷ Vs) zero W f b e = ap (λ U. U ++ joined Vs) (some_is V W f ∙ last_none W e) ∙ b
none_from (V ∷ Vs) (suc i) W f b e = none_from Vs i W f b e
