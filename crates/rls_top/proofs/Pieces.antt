-- Steps on the way to what a command makes.
use Rattle.std.proofs.Common.{◌≡◌, ◌∙◌, ◌++◌, ◌+◌, ◌<◌, ◌≤◌, ℕ, Bool, true, false, ltb, leb, Option, IfSome, inl, inr, List, [], drop, slice_get, Some, None, Ok, Err, sym, ap, subst, append_assoc, arith, refl}
use Rattle.std.specs.Prelude.{IsFalse, IsTrue, ◌&&◌}
use Rattle.std.proofs.lemmas.Bool.Decides.{nat_tests}
use Rattle.rls_ident.specs.declared.limits.TheConstants.{MEMBERS}
use Rattle.rls_ident.proofs.Loops.{drop_reads}
use Rattle.rls_ident.proofs.Members.{and_right}
use Rattle.rls_codec.specs.Reading.{is_member_count}
use Rattle.rls_ops.specs.Spelling.{message_bytes}
use Rattle.rls_model.specs.Answers.{Reason}
use Rattle.rls_model.specs.Legal.{AreNumbers}
use Rattle.rls_report.specs.Refused.{refused_line}
use Rattle.rls_report.specs.declared.failures.CommandError.{CommandError}
use Rattle.rls_report.specs.declared.failures.CommandError.TheVariants.{NotMember, BadMembers, BadMe}
use Rattle.rls_report.specs.declared.failures.Failure.TheVariants.{Command}
use Rattle.rls_replica.specs.Faults.{IsNoCount, IsNoMember}
use Rattle.rls_seen.specs.Messages.{message_over}
use Rattle.rls_seen.specs.Seen.{Seen, members}
use Rattle.rls_top.specs.declared.made.Made.{Made}
use Rattle.rls_top.specs.declared.words.Command.TheVariants.{New}
use Rattle.rls_stages.specs.KeptFile.{loaded}
use Rattle.rls_top.specs.Due.{Due, Stops, refused_lines, due_of_send, due_of_fresh, due_of_new, error_of_numbers, calls_keeper}
use Rattle.rls_top.specs.Stages.{EndsAs, IsMade, IsAsDue}

-- an answer isn't an error
pub ok_is_not_err : {X E : Type 0} (x : X) (e : E) → Ok x ≡ Err e → ⊥
ok_is_not_err x e h = cc

-- one more line
pub more_lines : (text : List ℕ) (rs : List (ℕ × ℕ × Reason)) (i : ℕ) (r : ℕ × ℕ × Reason) (all : List ℕ) → slice_get rs i ≡ Some r → text ++ refused_lines (drop i rs) ≡ all
    → (text ++ refused_line r.0 r.1 r.2) ++ refused_lines (drop (i + 1) rs) ≡ all
more_lines text rs i r all s e =
    append_assoc text (refused_line r.0 r.1 r.2) (refused_lines (drop (i + 1) rs))
    ∙ (ap (λ (x : List (ℕ × ℕ × Reason)). text ++ refused_lines x) (sym (drop_reads rs i r s)) ∙ e)

-- ---- messages

-- the message is due where the member is one
pub is_sent : (made : Made) (bytes : List ℕ) (s : Seen) (to : ℕ) → IsMade made None bytes [] → bytes ≡ message_bytes (message_over s to) → to < members s → IsAsDue made (due_of_send s to)
is_sent made bytes s to m e h =
    let test : ltb to (members s) ≡ true = grind (arith, nat_tests) in
    rw (test, ← e) m

-- and none where it isn't
pub is_not_sent : (s : Seen) (to : ℕ) → members s ≤ to → due_of_send s to ≡ Stops (NotMember to)
is_not_sent s to h = let test : ltb to (members s) ≡ false = grind (arith, nat_tests) in rw test refl

-- ---- numbers of a fresh replica

no_count : (n : ℕ) → IsNoCount n → is_member_count n ≡ false
no_count n (inl e) = let none : ltb 0 n ≡ false = grind (arith, nat_tests) in rw none refl
no_count n (inr h) =
    let many : leb n MEMBERS ≡ false = grind (arith, nat_tests) in
    let some : ltb 0 n ≡ true = grind (arith, nat_tests) in
    rw (some, many) refl

-- numbers out of range
pub no_members : (me members : ℕ) → IsNoCount members → error_of_numbers me members ≡ Some (BadMembers members)
no_members me members none = rw (no_count members none) refl

pub no_me : (me members : ℕ) → IsNoMember me members → error_of_numbers me members ≡ Some (BadMe me)
no_me me members none =
    let some : ltb 0 members ≡ true = let h = none.0 in grind (arith, nat_tests) in
    let few : leb members MEMBERS ≡ true = let h = none.1 in grind (arith, nat_tests) in
    let past : ltb me members ≡ false = let h = none.2 in grind (arith, nat_tests) in
    rw (some, few, past) refl

-- numbers in range
pub right_numbers : (group me members : ℕ) → AreNumbers group me members → (error_of_numbers me members ≡ None) × (calls_keeper (Some (New group me members)) ≡ true)
right_numbers group me members h =
    let below = h.1 in
    let most = h.2 in
    let some : ltb 0 members ≡ true = grind (arith, nat_tests) in
    let few : leb members MEMBERS ≡ true = grind (arith, nat_tests) in
    let test : ltb me members ≡ true = grind (arith, nat_tests) in
    rw (some, few, test) (refl, refl)

-- so the keeper is called
pub called : {X : Type 0} (group me members : ℕ) → AreNumbers group me members → IsFalse (calls_keeper (Some (New group me members))) → X
called group me members h none = let yes = (right_numbers group me members h).1 in cc

-- with numbers out of range it isn't
pub uncounted : {X : Type 0} (group me members : ℕ) → IsNoCount members → IsTrue (calls_keeper (Some (New group me members))) → X
uncounted group me members none h = absurd (let never : false ≡ true = subst (λ (b : Bool). (b && ltb me members) ≡ true) (no_count members none) h in cc)

pub no_member : {X : Type 0} (group me members : ℕ) → IsNoMember me members → IsTrue (calls_keeper (Some (New group me members))) → X
no_member group me members none h =
    let past : ltb me members ≡ false = let k = none.2 in grind (arith, nat_tests) in
    absurd (let never : false ≡ true = sym past ∙ and_right (is_member_count members) (ltb me members) h in cc)

-- numbers that are wrong end the command
pub numbers_due : (group me members : ℕ) (file : Option (Option (List ℕ))) (e f : CommandError) → error_of_numbers me members ≡ Some f → e ≡ f → IfSome (due_of_new (error_of_numbers me members) group me members file) (EndsAs (Command e))
numbers_due group me members file e f h same = rw (h, same) refl

-- where the kept file is told
pub new_due : (group me members : ℕ) (file : Option (Option (List ℕ))) (P : Due → Type 0) → AreNumbers group me members → IfSome file (λ kept. P (due_of_fresh group me members (loaded kept)))
    → IfSome (due_of_new (error_of_numbers me members) group me members file) P
new_due group me members None P h all = rw ((right_numbers group me members h).0) tt
new_due group me members (Some kept) P h all = rw ((right_numbers group me members h).0) all
