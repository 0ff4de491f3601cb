-- Calls one after another, and what holds then as of devices that tell what these passed.
use Rattle.std.proofs.Common.{◌≡◌, ◌∙◌, ◌⊎◌, ℕ, Bool, true, false, IsTrue, List, [], ◌∷◌, ◌++◌, Option, Some, refl, sym, ap, subst, inl, inr, append_assoc, append-nil}
use Rattle.rls_io.specs.Device.{Passes, PassesAll, PassesAndFails, PassesPieces, together}
use Rattle.rls_io.proofs.Told.{passes_none}
use Rattle.rls_session.specs.AsTold.{AtEnd, Came, Exchanged, Failed, Fits, Given, Open, Reading, Went, reading_of}

-- ---- calls of one device

module _ {D : Type 0} (gives : D → Option (List ℕ) → D → Type 0) where
  pieces_on : (ps qs : List (List ℕ)) (old mid new : D) → PassesPieces gives ps old mid → PassesPieces gives qs mid new → PassesPieces gives (ps ++ qs) old new
  pieces_on [] qs old mid new same h = subst (λ (d : D). PassesPieces gives qs d new) same h
  pieces_on (p ∷ ps) qs old mid new b h = (b.0, b.1, b.2, pieces_on ps qs b.0 mid new b.3 h)

  together_on : (ps qs : List (List ℕ)) → together (ps ++ qs) ≡ together ps ++ together qs
  together_on [] qs = refl
  together_on (p ∷ ps) qs = ap (λ (l : List ℕ). p ++ l) (together_on ps qs) ∙ sym (append_assoc p (together ps) (together qs))

  -- these bytes, and then those
  pub passes_on : (a b : List ℕ) (old mid new : D) → Passes gives a old mid → Passes gives b mid new → Passes gives (a ++ b) old new
  passes_on a b old mid new h k =
      (h.0 ++ k.0, ap (λ (l : List ℕ). l ++ b) h.1 ∙ ap (λ (l : List ℕ). together h.0 ++ l) k.1 ∙ sym (together_on h.0 k.0), pieces_on h.0 k.0 old mid new h.2 k.2)

  -- none more
  pub passes_still : (a : List ℕ) (old new : D) → Passes gives a old new → Passes gives (a ++ []) old new
  passes_still a old new h = subst (λ (l : List ℕ). Passes gives l old new) (sym (append-nil a)) h

  -- reads of one input
  came_on : (was mid_ended : Bool) (a b : List ℕ) (how : Reading) (old mid new : D) → Came gives was a (reading_of mid_ended) old mid → Came gives mid_ended b how mid new → Came gives was (a ++ b) how old new
  came_on true true a b how old mid new h k = (ap (λ (l : List ℕ). l ++ b) h.0 ∙ k.0, k.1, k.2 ∙ h.2)
  came_on true false a b how old mid new h k = let never : Open ≡ AtEnd = h.1 in cc
  came_on false false a b Open old mid new h k = passes_on a b old mid new h k
  came_on false false a b AtEnd old mid new h k = (k.0, passes_on a b old mid k.0 h k.1, k.2)
  came_on false false a b Failed old mid new h k = (k.0, passes_on a b old mid k.0 h k.1, k.2)
  came_on false true a b how old mid new h k =
      let none : a ++ b ≡ a = ap (λ (l : List ℕ). a ++ l) k.0 ∙ append-nil a in
      subst (λ (r : Reading). Came gives false (a ++ b) r old new) (sym k.1) (subst (λ (d : D). PassesAll gives (a ++ b) old d) (sym k.2) (subst (λ (l : List ℕ). PassesAll gives l old mid) (sym none) h))

  -- nothing is left of an input that came to its end
  rest_none : (mid_ended : Bool) (b z : List ℕ) (how later : Reading) (mid new : D) → how ≡ reading_of mid_ended → Came gives mid_ended b later mid new → (later ≡ AtEnd → z ≡ []) → how ≡ AtEnd → b ++ z ≡ []
  rest_none true b z how later mid new fits k at e = ap (λ (l : List ℕ). l ++ z) k.0 ∙ at k.1
  rest_none false b z how later mid new fits k at e = let never : Open ≡ AtEnd = sym fits ∙ e in cc

  -- writes that all went well
  pub went_all : (ok : Bool) (bytes : List ℕ) (old new : D) → Passes gives bytes old new → Went gives ok bytes old new
  went_all true bytes old new h = h
  went_all false bytes old new h = inl h

  pub went_any : (ok : Bool) (bytes : List ℕ) (old new : D) → Went gives ok bytes old new → Passes gives bytes old new ⊎ PassesAndFails gives bytes old new
  went_any true bytes old new h = inl h
  went_any false bytes old new h = h

  pub went_on : (ok : Bool) (a b : List ℕ) (old mid new : D) → Passes gives a old mid → Went gives ok b mid new → Went gives ok (a ++ b) old new
  went_on true a b old mid new h k = passes_on a b old mid new h k
  went_on false a b old mid new h (inl k) = inl (passes_on a b old mid new h k)
  went_on false a b old mid new h (inr k) = inr (k.0, passes_on a b old mid k.0 h k.1, k.2)

-- whether the input came to its end is known whatever comes of it
pub fits_any : (ok ended : Bool) (how : Reading) → Fits ok ended how → Fits false ended how
fits_any true ended how h = λ t. h ∙ ap reading_of t
fits_any false ended how h = h

-- ---- reads after reads

module _ {S : Type 0} (read : S → Option (List ℕ) → S → Type 0) where
  pub given_on : (was mid_ended ok ended : Bool) (old mid new : S) (P Q R : Option (List ℕ) → Option (List ℕ) → Type 0)
      → Given read was true mid_ended old mid P → Given read mid_ended ok ended mid new Q → ((x y z : List ℕ) → P (Some x) (Some y) → Q (Some y) (Some z) → R (Some x) (Some z)) → Given read was ok ended old new R
  given_on was mid_ended ok ended old mid new P Q R p q f = record {
    bytes = p.bytes ++ q.bytes;
    how = q.how;
    came = came_on read was mid_ended p.bytes q.bytes q.how old mid new (subst (λ (h : Reading). Came read was p.bytes h old mid) p.fits p.came) q.came;
    fits = q.fits;
    holds = λ x z e at. f x (q.bytes ++ z) z
        (p.holds x (q.bytes ++ z) (e ∙ append_assoc p.bytes q.bytes z) (rest_none read mid_ended q.bytes z p.how q.how mid new p.fits q.came at)) (q.holds (q.bytes ++ z) z refl at);
  }

  -- what follows from it
  pub given_so : (was ok ended new_ended : Bool) (old new : S) (P R : Option (List ℕ) → Option (List ℕ) → Type 0)
      → Given read was ok ended old new P → new_ended ≡ ended → ((x y : List ℕ) → P (Some x) (Some y) → R (Some x) (Some y)) → Given read was ok new_ended old new R
  given_so was ok ended new_ended old new P R p same f =
      record { bytes = p.bytes; how = p.how; came = p.came; fits = subst (λ (b : Bool). Fits ok b p.how) (sym same) p.fits; holds = λ x y e at. f x y (p.holds x y e at) }

  -- though it ends otherwise
  pub given_failed : (was ok ended new_ended : Bool) (old new : S) (P R : Option (List ℕ) → Option (List ℕ) → Type 0)
      → Given read was ok ended old new P → new_ended ≡ ended → ((x y : List ℕ) → P (Some x) (Some y) → R (Some x) (Some y)) → Given read was false new_ended old new R
  given_failed was ok ended new_ended old new P R p same f =
      given_so was false ended new_ended old new P R (record { bytes = p.bytes; how = p.how; came = p.came; fits = fits_any ok ended p.how p.fits; holds = p.holds }) same f

  -- nothing is read
  pub given_none : (ok ended : Bool) (old : S) (P : Option (List ℕ) → Option (List ℕ) → Type 0) → ((x : List ℕ) → (IsTrue ended → x ≡ []) → P (Some x) (Some x)) → Given read ended ok ended old old P
  given_none ok true old P f = record { bytes = []; how = AtEnd; came = (refl, refl, refl); fits = at_end ok; holds = λ x y e at. subst (λ (l : List ℕ). P (Some x) (Some l)) e (f x (λ t. e ∙ at refl)) }
    where
      at_end : (ok : Bool) → Fits ok true AtEnd
      at_end true = refl
      at_end false = λ t. refl
  given_none ok false old P f = record { bytes = []; how = Open; came = passes_none read old; fits = still ok; holds = λ x y e at. subst (λ (l : List ℕ). P (Some x) (Some l)) e (f x (λ t. let never : false ≡ true = t in cc)) }
    where
      still : (ok : Bool) → Fits ok false Open
      still true = refl
      still false = λ t. let never : false ≡ true = t in cc

-- ---- reads and writes after each other

module _ {S W : Type 0} (read : S → Option (List ℕ) → S → Type 0) (write : W → Option (List ℕ) → W → Type 0) (was : Bool) where
  -- nothing was read or written yet
  pub exchanged_none : (ok : Bool) (input : S) (output : W) (P : Option (List ℕ) → Option (List ℕ) → Option (List ℕ) → Option (List ℕ) → Type 0) → ((x o : List ℕ) → P (Some x) (Some x) (Some o) (Some o)) → Exchanged read write was ok was input input output output P
  exchanged_none ok input output P f =
      let g = given_none read ok was input (λ x y. (o : List ℕ) → P x y (Some o) (Some o)) (λ x at. f x) in
      record {
        bytes = g.bytes;
        how = g.how;
        came = g.came;
        fits = g.fits;
        written = [];
        went = went_all write ok [] output output (passes_none write output);
        holds = λ x y e at o n same. subst (λ (l : List ℕ). P (Some x) (Some y) (Some o) (Some l)) (sym (same ∙ append-nil o)) (g.holds x y e at o);
      }

  -- then reads
  pub exchanged_given : (mid_ended ok ended : Bool) (old mid new : S) (out_old out_new : W) (P : Option (List ℕ) → Option (List ℕ) → Option (List ℕ) → Option (List ℕ) → Type 0)
      (Q : Option (List ℕ) → Option (List ℕ) → Type 0) (R : Option (List ℕ) → Option (List ℕ) → Option (List ℕ) → Option (List ℕ) → Type 0)
      → Exchanged read write was true mid_ended old mid out_old out_new P → Given read mid_ended ok ended mid new Q
      → ((x y z o n : List ℕ) → P (Some x) (Some y) (Some o) (Some n) → Q (Some y) (Some z) → R (Some x) (Some z) (Some o) (Some n)) → Exchanged read write was ok ended old new out_old out_new R
  exchanged_given mid_ended ok ended old mid new out_old out_new P Q R p q f = record {
    bytes = p.bytes ++ q.bytes;
    how = q.how;
    came = came_on read was mid_ended p.bytes q.bytes q.how old mid new (subst (λ (h : Reading). Came read was p.bytes h old mid) p.fits p.came) q.came;
    fits = q.fits;
    written = p.written;
    went = went_all write ok p.written out_old out_new p.went;
    holds = λ x z e at o n en. f x (q.bytes ++ z) z o n
        (p.holds x (q.bytes ++ z) (e ∙ append_assoc p.bytes q.bytes z) (rest_none read mid_ended q.bytes z p.how q.how mid new p.fits q.came at) o n en) (q.holds (q.bytes ++ z) z refl at);
  }

  -- then writes
  pub exchanged_went : (ok ended new_ended : Bool) (old new : S) (out_old out_mid out_new : W) (more : List ℕ) (P R : Option (List ℕ) → Option (List ℕ) → Option (List ℕ) → Option (List ℕ) → Type 0)
      → Exchanged read write was true ended old new out_old out_mid P → new_ended ≡ ended → Went write ok more out_mid out_new
      → ((x y o m n : List ℕ) → n ≡ m ++ more → P (Some x) (Some y) (Some o) (Some m) → R (Some x) (Some y) (Some o) (Some n)) → Exchanged read write was ok new_ended old new out_old out_new R
  exchanged_went ok ended new_ended old new out_old out_mid out_new more P R p same went f = record {
    bytes = p.bytes;
    how = p.how;
    came = p.came;
    fits = fit ok;
    written = p.written ++ more;
    went = went_on write ok p.written more out_old out_mid out_new p.went went;
    holds = λ x y e at o n en. f x y o (o ++ p.written) n (en ∙ sym (append_assoc o p.written more)) (p.holds x y e at o (o ++ p.written) refl);
  }
    where
      fit : (ok : Bool) → Fits ok new_ended p.how
      fit true = p.fits ∙ ap reading_of (sym same)
      fit false = λ t. p.fits ∙ ap reading_of (sym same ∙ t)

  -- then both
  pub exchanged_on : (mid_ended ok ended : Bool) (old mid new : S) (out_old out_mid out_new : W) (P Q R : Option (List ℕ) → Option (List ℕ) → Option (List ℕ) → Option (List ℕ) → Type 0)
      → Exchanged read write was true mid_ended old mid out_old out_mid P → Exchanged read write mid_ended ok ended mid new out_mid out_new Q
      → ((x y z o m n : List ℕ) → P (Some x) (Some y) (Some o) (Some m) → Q (Some y) (Some z) (Some m) (Some n) → R (Some x) (Some z) (Some o) (Some n)) → Exchanged read write was ok ended old new out_old out_new R
  exchanged_on mid_ended ok ended old mid new out_old out_mid out_new P Q R p q f = record {
    bytes = p.bytes ++ q.bytes;
    how = q.how;
    came = came_on read was mid_ended p.bytes q.bytes q.how old mid new (subst (λ (h : Reading). Came read was p.bytes h old mid) p.fits p.came) q.came;
    fits = q.fits;
    written = p.written ++ q.written;
    went = went_on write ok p.written q.written out_old out_mid out_new p.went q.went;
    holds = λ x z e at o n en. f x (q.bytes ++ z) z o (o ++ p.written) n
        (p.holds x (q.bytes ++ z) (e ∙ append_assoc p.bytes q.bytes z) (rest_none read mid_ended q.bytes z p.how q.how mid new p.fits q.came at) o (o ++ p.written) refl)
        (q.holds (q.bytes ++ z) z refl at (o ++ p.written) n (en ∙ sym (append_assoc o p.written q.written)));
  }

  -- what follows from it, though it ends otherwise
  pub exchanged_failed : (ok ended : Bool) (old new : S) (out_old out_new : W) (P R : Option (List ℕ) → Option (List ℕ) → Option (List ℕ) → Option (List ℕ) → Type 0)
      → Exchanged read write was ok ended old new out_old out_new P → ((x y o n : List ℕ) → P (Some x) (Some y) (Some o) (Some n) → R (Some x) (Some y) (Some o) (Some n)) → Exchanged read write was false ended old new out_old out_new R
  exchanged_failed ok ended old new out_old out_new P R p f = record {
    bytes = p.bytes;
    how = p.how;
    came = p.came;
    fits = fits_any ok ended p.how p.fits;
    written = p.written;
    went = went_any write ok p.written out_old out_new p.went;
    holds = λ x y e at o n en. f x y o n (p.holds x y e at o n en);
  }

  pub exchanged_so : (ok ended : Bool) (old new : S) (out_old out_new : W) (P R : Option (List ℕ) → Option (List ℕ) → Option (List ℕ) → Option (List ℕ) → Type 0)
      → Exchanged read write was ok ended old new out_old out_new P → ((x y o n : List ℕ) → P (Some x) (Some y) (Some o) (Some n) → R (Some x) (Some y) (Some o) (Some n)) → Exchanged read write was ok ended old new out_old out_new R
  exchanged_so ok ended old new out_old out_new P R p f = record {
    bytes = p.bytes;
    how = p.how;
    came = p.came;
    fits = p.fits;
    written = p.written;
    went = p.went;
    holds = λ x y e at o n en. f x y o n (p.holds x y e at o n en);
  }
