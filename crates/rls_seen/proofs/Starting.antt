-- A fresh replica stands for the history in which nothing has happened.
use Rattle.std.proofs.Common.{◌≡◌, ℕ, zero, suc, ◌<◌, ◌==◌, false, cond, List, [], length, replicate, get_or, refl, ap, ◌∙◌, arith}
use Rattle.std.proofs.lemmas.List.{get_or-replicate, length-replicate}
use Rattle.rls_ident.proofs.Vectors.{at_most_refl}
use Rattle.rls_ops.proofs.KeptRows.{starting_rows}
use Rattle.rls_model.specs.History.{Fresh}
use Rattle.rls_model.specs.Document.{export, live, chars}
use Rattle.rls_model.specs.Legal.{AreNumbers}
use Rattle.rls_model.specs.Stability.{stable}
use Rattle.rls_model.proofs.Later.{whole_keeps}
use Rattle.rls_seen.specs.Seen.{fresh}
use Rattle.rls_seen.specs.Stands.{StandsFor}
use Rattle.rls_seen.proofs.Alike.{keeps_back}

abbrev zeros : ℕ → List ℕ
zeros n = replicate n 0

zero_row : (n a : ℕ) → a < n → get_or (replicate (length (zeros n)) (zeros (length (zeros n)))) a [] ≡ zeros n
zero_row n a l =
    ap (λ (m : ℕ). get_or (replicate m (zeros m)) a []) (length-replicate n 0) ∙ get_or-replicate n a (zeros n) [] l

none_left : (n a : ℕ) → get_or (replicate n false) a false ≡ false
none_left zero a = refl
none_left (suc n) zero = refl
none_left (suc n) (suc a) = none_left n a

fresh_text : (group me n : ℕ) → [] ≡ export (Fresh group me n)
unfolding export live chars
fresh_text group me n = refl

pub fresh_stands : (group me n : ℕ) → AreNumbers group me n → StandsFor (fresh group me n) (record { history = Fresh group me n; waiting = [] })
fresh_stands group me n l =
    let H = Fresh group me n in
    record {
      legal = l;
      sound = tt;
      group = refl;
      me = refl;
      vector = refl;
      places = starting_rows me (zeros n) (let e : length (zeros n) ≡ n = length-replicate n 0 in let k = l.1 in omega arith);
      rows = λ a k. ap (λ x. cond (a == me) (zeros n) x) (zero_row n a k);
      left = λ a k. none_left (length (zeros n)) a;
      stems = refl;
      epochs = keeps_back (fresh group me n).epochs H (whole_keeps H l);
      text = fresh_text group me n;
      waiting = refl;
      log = (stable H, record { stable = at_most_refl (stable H); kept = refl });
    }
