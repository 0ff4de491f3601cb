-- The text of a legal history consists of characters.
use Rattle.std.proofs.Common.{ℕ, suc, List, [], ◌∷◌, map, sym, subst, inl, inr, ⊎_elim, refl}
use Rattle.std.specs.Prelude.{All, not}
use Rattle.std.specs.Char.{IsScalar}
use Rattle.std.proofs.lemmas.List.Elements.{All-append, All-cons, All-filter, All-head, All-map, All-nil, All-tail}
use Rattle.rls_ident.specs.declared.tuple.Tuple.{Tuple}
use Rattle.rls_ident.specs.Lists.{IsIn}
use Rattle.rls_runs.proofs.Sorted.{in_put_all}
use Rattle.rls_ops.specs.declared.op.Op.{Op}
use Rattle.rls_ops.specs.declared.op.Body.{Body}
use Rattle.rls_ops.specs.declared.op.Body.TheVariants.{Insert, Delete, Rename, Leave}
use Rattle.rls_ops.specs.WellFormed.{IsBody, IsText}
use Rattle.rls_model.specs.Document.{Character, chars, chars_from, chars_of, chars_of_all, export, ident_in, is_named, live, text}
use Rattle.rls_model.specs.Epochs.{greatest}
use Rattle.rls_model.specs.History.{History, Fresh, Then, Accepted, Acknowledged, ops}
use Rattle.rls_model.specs.Laws.{TextsAreCharacters}
use Rattle.rls_model.specs.Legal.{IsLegal}
use Rattle.rls_model.proofs.Distinct.{all_append}

-- it holds of all if it holds of each
all_of : {A : Type 0} (P : A → Type 0) (xs : List A) → ((x : A) → IsIn x xs → P x) → All P xs
all_of P [] f = All-nil P
all_of P (x ∷ xs) f = All-cons P x xs (f x (inl refl)) (all_of P xs (λ y p. f y (inr p)))

one_of : {A : Type 0} (P : A → Type 0) (xs : List A) (x : A) → All P xs → IsIn x xs → P x
one_of P [] x h p = absurd p
one_of {A} P (y ∷ xs) x h (inl e) = subst P e (All-head P y xs h)
one_of P (y ∷ xs) x h (inr p) = one_of P xs x (All-tail P y xs h) p

-- the character is one
abbrev IsChar : Character → Type 0
IsChar c = IsScalar c.char

from_chars : (o : Op) (i : ℕ) (x : List Tuple) (cs : List ℕ) → IsText cs → All IsChar (chars_from o i x cs)
from_chars o i x [] h = All-nil IsChar
from_chars o i x (c ∷ cs) h = All-cons IsChar _ _ (All-head IsScalar c cs h) (from_chars o (suc i) _ cs (All-tail IsScalar c cs h))

of_chars : (o : Op) (b : Body) → IsBody b → All IsChar (chars_of o b)
of_chars o (Insert first cs) h = from_chars o 0 first cs h.1
of_chars o (Delete targets) h = All-nil IsChar
of_chars o (Rename former) h = All-nil IsChar
of_chars o Leave h = All-nil IsChar

ops_chars : (H : History) → IsLegal H → All IsChar (chars_of_all (ops H))
ops_chars (Fresh group me members) l = All-nil IsChar
ops_chars (Then G (Accepted o)) l = subst (All IsChar) (sym (all_append (ops G) o)) (All-append IsChar (chars_of_all (ops G)) (chars_of o o.body) (ops_chars G l.0) (of_chars o o.body l.1.body))
ops_chars (Then G (Acknowledged a v)) l = ops_chars G l.0

live_chars : (H : History) → IsLegal H → All IsChar (live H)
unfolding live chars
live_chars H l = All-filter (λ c. not (is_named H c)) IsChar (chars H) (ops_chars H l)

abbrev pub IsCharOf : List Tuple × ℕ → Type 0
IsCharOf y = IsScalar y.1

pub export_chars : (H : History) → IsLegal H → All IsCharOf (export H)
unfolding export
export_chars H l =
    let es = map (λ c. (ident_in H (greatest H) c, c.char)) (live H) in
    let all : All IsCharOf es = All-map IsCharOf (λ c. (ident_in H (greatest H) c, c.char)) (live H) (live_chars H l) in
    all_of IsCharOf (export H) (λ y p. ⊎_elim (λ q. one_of IsCharOf es y all q) (λ q. absurd q) (in_put_all y es [] p))

pub text_chars : TextsAreCharacters
unfolding text
text_chars H l = All-map IsScalar (λ entry. entry.1) (export H) (export_chars H l)
