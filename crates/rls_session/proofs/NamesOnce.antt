-- Each name that is recorded of a session is of one character of the history: so no identifier has two.
use Rattle.std.proofs.Common.{◌≡◌, ◌∙◌, ℕ, suc, Bool, true, false, List, [], ◌∷◌, ◌++◌, map, length, Some, None, inl, inr, refl, sym, ap, subst}
use Rattle.std.specs.Prelude.{filter, pos, zip, if◌then◌else◌}
use Rattle.rls_ident.specs.declared.tuple.Tuple.{Tuple}
use Rattle.rls_ident.specs.declared.epoch_name.EpochName.{EpochName}
use Rattle.rls_ident.specs.declared.epoch_name.EpochName.TheVariants.{Origin}
use Rattle.rls_ident.specs.Identifiers.{IsIdent, ident_eq, shifted}
use Rattle.rls_ident.specs.Lists.{IsIn}
use Rattle.rls_ident.proofs.Ends.{eq_same, same_eq}
use Rattle.rls_ident.proofs.Members.{AreOnce, bool_cases, in_map, true_false}
use Rattle.rls_rename.specs.Tree.{is_kept}
use Rattle.rls_rename.proofs.Growth.{translate_same}
use Rattle.rls_runs.specs.Runs.{run_idents}
use Rattle.rls_ops.specs.declared.op.Body.{Body}
use Rattle.rls_ops.specs.declared.op.Body.TheVariants as bodies
use Rattle.rls_ops.specs.declared.op.Op.{Op}
use Rattle.rls_model.specs.Document.{Character, chars, chars_from, chars_of, chars_of_all, ident_in, idents}
use Rattle.rls_model.specs.Epochs.{epochs, greatest, translate}
use Rattle.rls_model.specs.History.{Accepted, Acknowledged, Entry, History, Then, ops}
use Rattle.rls_model.specs.History as history
use Rattle.rls_model.specs.Laws.{IsFront}
use Rattle.rls_model.specs.Legal.{IsLegal}
use Rattle.rls_model.proofs.Distinct.{all_append, known}
use Rattle.rls_model.proofs.Named.{IsOfChar, char_new, char_old, grown_kept, grown_translate, old_new, one_ident}
use Rattle.rls_model.proofs.OneOrder as order
use Rattle.rls_model.proofs.OneTree.{history_translate, nodes}
use Rattle.rls_model.proofs.SameOps.{live_char, once}
use Rattle.rls_steps.specs.Index.{AreApart}
use Rattle.rls_session.specs.Remembering.{AreNamed, AreOfChars}
use Rattle.rls_steps.specs.Labelled.{Names, label_of}

-- ---- in another epoch

abbrev moved : History → EpochName → EpochName → Names → Names
moved H e g ns = map (λ n. (translate H e g n.0, n.1)) ns

moved_char : (H : History) (e g : EpochName) (x : List Tuple) → IsLegal H → IsOfChar H e x → IsOfChar H g (translate H e g x)
moved_char H e g x l r = (r.0, r.1, sym (history_translate H (r.0).epoch e g (r.0).ident l (known H l r.0 r.1).0) ∙ ap (translate H e g) r.2)

moved_chars : (H : History) (e g : EpochName) (ns : Names) → IsLegal H → AreOfChars H e ns → AreOfChars H g (moved H e g ns)
moved_chars H e g [] l c = tt
moved_chars H e g (n ∷ ns) l c = (moved_char H e g n.0 l c.0, moved_chars H e g ns l c.1)

-- characters with one identifier in a kept epoch have one in each
same_there : (H : History) (e g : EpochName) (x y : List Tuple) → IsLegal H → is_kept Origin (epochs H) g ≡ true → IsOfChar H e x → IsOfChar H e y → translate H e g x ≡ translate H e g y → x ≡ y
unfolding moved_char
same_there H e g x y l k p q f =
    let a = moved_char H e g x l p in
    let b = moved_char H e g y l q in
    let one : p.0 ≡ q.0 = one_ident H l p.0 q.0 p.1 q.1 g k (a.2 ∙ (f ∙ sym b.2)) in
    sym p.2 ∙ (ap (ident_in H e) one ∙ q.2)

-- where one isn't named, of names of which none is the other
label_other : (n : List Tuple × ℕ) (ns : Names) (x : List Tuple) → (n.0 ≡ x → ⊥) → label_of ns x ≡ None → label_of (n ∷ ns) x ≡ None
label_other n ns x f h = bool_cases (ident_eq n.0 x) (λ t. absurd (f (eq_same n.0 x t))) (λ o. ap (λ (b : Bool). if b then Some n.1 else label_of ns x) o ∙ h)

label_rest : (n : List Tuple × ℕ) (ns : Names) (x : List Tuple) → label_of (n ∷ ns) x ≡ None → (n.0 ≡ x → ⊥) × (label_of ns x ≡ None)
label_rest n ns x h = bool_cases (ident_eq n.0 x)
    (λ t. let some : label_of (n ∷ ns) x ≡ Some n.1 = ap (λ (b : Bool). if b then Some n.1 else label_of ns x) t in absurd (let both : None ≡ Some n.1 = sym h ∙ some in cc))
    (λ o. (λ e. true_false (ident_eq n.0 x) (same_eq n.0 x e) o, sym (ap (λ (b : Bool). if b then Some n.1 else label_of ns x) o) ∙ h))

moved_none : (H : History) (e g : EpochName) (ns : Names) (x : List Tuple) → IsLegal H → is_kept Origin (epochs H) g ≡ true → AreOfChars H e ns → IsOfChar H e x → label_of ns x ≡ None → label_of (moved H e g ns) (translate H e g x) ≡ None
moved_none H e g [] x l k c p h = refl
moved_none H e g (n ∷ ns) x l k c p h =
    let r = label_rest n ns x h in
    label_other (translate H e g n.0, n.1) (moved H e g ns) (translate H e g x) (λ q. r.0 (same_there H e g n.0 x l k c.0 p q)) (moved_none H e g ns x l k c.1 p r.1)

moved_apart : (H : History) (e g : EpochName) (ns : Names) → IsLegal H → is_kept Origin (epochs H) g ≡ true → AreOfChars H e ns → AreApart ns → AreApart (moved H e g ns)
moved_apart H e g [] l k c a = tt
moved_apart H e g (n ∷ ns) l k c a = (moved_none H e g ns n.0 l k c.1 c.0 a.0, moved_apart H e g ns l k c.1 a.1)

pub moved_named : (H : History) (e g : EpochName) (ns : Names) → IsLegal H → is_kept Origin (epochs H) g ≡ true → AreNamed H e ns → AreNamed H g (moved H e g ns)
moved_named H e g ns l k h = record { chars = moved_chars H e g ns l h.chars; apart = moved_apart H e g ns l k h.chars h.apart }

-- ---- as the history goes on

char_grows : (G : History) (e : Entry) (f : EpochName) (x : List Tuple) → IsLegal (Then G e) → is_kept Origin (epochs G) f ≡ true → IsOfChar G f x → IsOfChar (Then G e) f x
unfolding chars translate
char_grows G (Acknowledged a v) f x l k r = r
char_grows G (Accepted o) f x l k r = (r.0, char_old G o r.0 r.1, grown_translate G (Accepted o) l (r.0).epoch f (r.0).ident (known G l.0 r.0 r.1).1 k ∙ r.2)

chars_grow : (G : History) (e : Entry) (f : EpochName) (ns : Names) → IsLegal (Then G e) → is_kept Origin (epochs G) f ≡ true → AreOfChars G f ns → AreOfChars (Then G e) f ns
chars_grow G e f [] l k c = tt
chars_grow G e f (n ∷ ns) l k c = (char_grows G e f n.0 l k c.0, chars_grow G e f ns l k c.1)

pub front_kept : (P H : History) (f : EpochName) → IsFront P H → is_kept Origin (epochs P) f ≡ true → is_kept Origin (epochs H) f ≡ true
front_kept P (history.Fresh group me members) f e k = subst (λ (Q : History). is_kept Origin (epochs Q) f ≡ true) e k
front_kept P (Then G entry) f (inl e) k = subst (λ (Q : History). is_kept Origin (epochs Q) f ≡ true) e k
front_kept P (Then G entry) f (inr p) k = grown_kept G entry f (front_kept P G f p k)

pub front_chars : (P H : History) (f : EpochName) (ns : Names) → IsFront P H → IsLegal H → is_kept Origin (epochs P) f ≡ true → AreOfChars P f ns → AreOfChars H f ns
front_chars P (history.Fresh group me members) f ns e l k c = subst (λ (Q : History). AreOfChars Q f ns) e c
front_chars P (Then G entry) f ns (inl e) l k c = subst (λ (Q : History). AreOfChars Q f ns) e c
front_chars P (Then G entry) f ns (inr p) l k c = chars_grow G entry f ns l (front_kept P G f p k) (front_chars P G f ns p l.0 k c)

-- ---- the text

pub text_char : (H : History) (x : List Tuple) → IsLegal H → IsIn x (idents H) → IsOfChar H (greatest H) x
text_char H x l p =
    let s = (order.law H l).2 H l (λ o q. q) in
    let q = in_map (λ c. ident_in H (greatest H) c) x s.0 (subst (λ xs. IsIn x xs) (sym (s.1).3) p) in
    (q.0, live_char H q.0 (((s.1).0 q.0).0 q.1), q.2)

-- ---- characters that are put in

abbrev born_names : List Character → List ℕ → Names
born_names ds ls = zip (map (λ (c : Character). c.ident) ds) ls

born_run : (o : Op) (i : ℕ) (x : List Tuple) (cs : List ℕ) → map (λ (c : Character). c.ident) (chars_from o i x cs) ≡ run_idents x (length cs)
born_run o i x [] = refl
born_run o i x (c ∷ cs) = ap (λ xs. x ∷ xs) (born_run o (suc i) (shifted (pos 1) x) cs)

-- in the greatest epoch they have the identifiers of their birth
AreBorn : History → EpochName → List Character → Type 0
AreBorn K g ds = (c : Character) → IsIn c ds → IsIn c (chars K) × (ident_in K g c ≡ c.ident)

born_none : (K : History) (g : EpochName) (ds : List Character) (ls : List ℕ) (old : Names) (d : Character) → IsLegal K → is_kept Origin (epochs K) g ≡ true → AreBorn K g ds → IsIn d (chars K) → ident_in K g d ≡ d.ident → (IsIn d ds → ⊥) → label_of old d.ident ≡ None → label_of (born_names ds ls ++ old) d.ident ≡ None
unfolding AreBorn
born_none K g [] ls old d l k b p q f h = h
born_none K g (c ∷ ds) [] old d l k b p q f h = h
born_none K g (c ∷ ds) (m ∷ ls) old d l k b p q f h =
    let here = b c (inl refl) in
    label_other (c.ident, m) (born_names ds ls ++ old) d.ident
    (λ e. f (inl (one_ident K l c d here.0 p g k (here.1 ∙ (e ∙ sym q)))))
    (born_none K g ds ls old d l k (λ x r. b x (inr r)) p q (λ r. f (inr r)) h)

born_named : (K : History) (g : EpochName) (ds : List Character) (ls : List ℕ) (old : Names) → IsLegal K → is_kept Origin (epochs K) g ≡ true → AreOnce ds → AreBorn K g ds → AreNamed K g old → ((d : Character) → IsIn d ds → label_of old d.ident ≡ None) → AreNamed K g (born_names ds ls ++ old)
unfolding AreBorn
born_named K g [] ls old l k o b h f = h
born_named K g (d ∷ ds) [] old l k o b h f = h
born_named K g (d ∷ ds) (m ∷ ls) old l k o b h f =
    let here = b d (inl refl) in
    let rest = born_named K g ds ls old l k o.1 (λ x r. b x (inr r)) h (λ x r. f x (inr r)) in
    record {
      chars = ((d, here.0, here.1), rest.chars);
      apart = (born_none K g ds ls old d l k (λ x r. b x (inr r)) here.0 here.1 o.0 (f d (inl refl)), rest.apart);
    }

once_right : (xs ys : List Character) → AreOnce (xs ++ ys) → AreOnce ys
once_right [] ys h = h
once_right (x ∷ xs) ys h = once_right xs ys h.1

-- old names name none of them
old_none : (G : History) (o : Op) (g : EpochName) (ns : Names) (d : Character) → let K = Then G (Accepted o) in IsLegal K → is_kept Origin (epochs G) g ≡ true → AreOfChars G g ns → IsIn d (chars_of o o.body) → IsIn d (chars K) → ident_in K g d ≡ d.ident → label_of ns d.ident ≡ None
unfolding char_grows
old_none G o g [] d l k c p r q = refl
old_none G o g (n ∷ ns) d l k c p r q =
    let there = char_grows G (Accepted o) g n.0 l k c.0 in
    label_other n ns d.ident
    (λ e. let one : (c.0).0 ≡ d = one_ident (Then G (Accepted o)) l (c.0).0 d there.1 r g (grown_kept G (Accepted o) g k) (there.2 ∙ (e ∙ sym q)) in old_new G o l d (subst (λ x. IsIn x (chars G)) one (c.0).1) p)
    (old_none G o g ns d l k c.1 p r q)

born_epoch : (o : Op) (i : ℕ) (x : List Tuple) (cs : List ℕ) (c : Character) → IsIn c (chars_from o i x cs) → c.epoch ≡ o.epoch
born_epoch o i x [] c p = absurd p
born_epoch o i x (y ∷ cs) c (inl e) = ap (λ (z : Character). z.epoch) (sym e)
born_epoch o i x (y ∷ cs) c (inr p) = born_epoch o (suc i) (shifted (pos 1) x) cs c p

translate_none : (H : History) (e : EpochName) (x : List Tuple) → IsLegal H → IsIdent x → translate H e e x ≡ x
unfolding translate
translate_none H e x l i = translate_same (epochs H) e x (nodes H l) i

-- what an own insertion puts in gets names that nothing has
pub put_named : (H : History) (o : Op) (first : List Tuple) (cs ls : List ℕ) (g : EpochName) (ns : Names) → IsLegal (Then H (Accepted o)) → o.body ≡ bodies.Insert first cs → o.epoch ≡ g → is_kept Origin (epochs H) g ≡ true → AreNamed H g ns →
    AreNamed (Then H (Accepted o)) g (zip (run_idents first (length cs)) ls ++ ns)
unfolding AreBorn chars
put_named H o first cs ls g ns l b e k h =
    subst (λ xs. AreNamed K g (zip xs ls ++ ns)) (born_run o 0 first cs) (born_named K g ds ls ns l kept once_ds born (record { chars = chars_grow H (Accepted o) g ns l k h.chars; apart = h.apart }) (λ d p. old_none H o g ns d l k h.chars (there d p) (born d p).0 (born d p).1))
  where
    K : History
    K = Then H (Accepted o)

    ds : List Character
    ds = chars_from o 0 first cs

    kept : is_kept Origin (epochs K) g ≡ true
    kept = grown_kept H (Accepted o) g k

    there : (d : Character) → IsIn d ds → IsIn d (chars_of o o.body)
    there d p = subst (λ (body : Body). IsIn d (chars_of o body)) (sym b) p

    born : AreBorn K g ds
    born d p =
        let here = char_new H o d (there d p) in
        (here, ap (λ f. translate K f g d.ident) (born_epoch o 0 first cs d p ∙ e) ∙ translate_none K g d.ident l (known K l d here).0)

    once_ds : AreOnce ds
    once_ds = subst (λ (body : Body). AreOnce (chars_of o body)) b (once_right (chars_of_all (ops H)) (chars_of o o.body) (subst AreOnce (all_append (ops H) o) (once K l)))

-- what is taken of names, the newest first, as the text's characters get labels
pub label_named : (H : History) (g : EpochName) (ns : Names) (x : List Tuple) (m : ℕ) → IsOfChar H g x → label_of ns x ≡ None → AreNamed H g ns → AreNamed H g ((x, m) ∷ ns)
label_named H g ns x m p h a = record { chars = (p, a.chars); apart = (h, a.apart) }

-- names that go
less_none : (t : List Tuple × ℕ → Bool) (ns : Names) (x : List Tuple) → label_of ns x ≡ None → label_of (filter t ns) x ≡ None
less_none t [] x h = refl
less_none t (n ∷ ns) x h = go (t n) (label_rest n ns x h) (λ k. less_none t ns x k)
  where
    go : (b : Bool) → (n.0 ≡ x → ⊥) × (label_of ns x ≡ None) → (label_of ns x ≡ None → label_of (filter t ns) x ≡ None) → label_of (if b then n ∷ filter t ns else filter t ns) x ≡ None
    go true r f = label_other n (filter t ns) x r.0 (f r.1)
    go false r f = f r.1

pub less_named : (t : List Tuple × ℕ → Bool) (H : History) (g : EpochName) (ns : Names) → AreNamed H g ns → AreNamed H g (filter t ns)
less_named t H g [] h = h
less_named t H g (n ∷ ns) h = go (t n) (less_named t H g ns (record { chars = (h.chars).1; apart = (h.apart).1 }))
  where
    go : (b : Bool) → AreNamed H g (filter t ns) → AreNamed H g (if b then n ∷ filter t ns else filter t ns)
    go true r = record { chars = ((h.chars).0, r.chars); apart = (less_none t ns n.0 (h.apart).0, r.apart) }
    go false r = r
