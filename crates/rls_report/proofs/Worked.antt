-- Worked examples of printed texts, by computation.
use Rattle.std.specs.Prelude.{◌≡◌, pos, negsuc, [], ◌∷◌, refl, Some, None, codes, map}
use Rattle.std.specs.List.{concat}
use Rattle.std.specs.Fmt.{digits}
use Rattle.rls_ident.specs.declared.tuple.Tuple.TheVariants.{Low, At, High}
use Rattle.rls_ident.specs.declared.epoch_name.EpochName.TheVariants.{Origin, Of}
use Rattle.rls_ops.specs.declared.op.Shape.TheVariants as shapes
use Rattle.rls_model.specs.Answers.{Reason, Misshapen, Own, Left, Backward, WrongEpoch, WrongStem, UnknownTarget}
use Rattle.rls_report.specs.declared.failures.Failure.{Failure}
use Rattle.rls_report.specs.declared.failures.CommandError.TheVariants.{Edit, OtherGroup, Damaged, NotMember}
use Rattle.rls_report.specs.declared.failures.Failure.TheVariants.{Command, Fault}
use Rattle.rls_report.specs.declared.failures.Fault.TheVariants.{Memory}
use Rattle.rls_report.specs.declared.failures.LineFault.TheVariants as faults
use Rattle.rls_report.specs.Failures.{failure_line}
use Rattle.rls_report.specs.Listing.{ids_text}
use Rattle.rls_report.specs.Refused.{refused_line}
use Rattle.rls_report.specs.Reports.{new_text, edit_text, take_text, stat_text, trial_text}

refusals : concat (map (λ (reason : Reason). refused_line 1 2 reason)
    (UnknownTarget (At 5 1 1 (pos 0) ∷ []) ∷ UnknownTarget (Low ∷ High ∷ At 5 1 1 (negsuc 0) ∷ []) ∷ Backward (1 ∷ 0 ∷ []) ∷ WrongStem (Some 0) ∷ WrongStem None ∷ WrongEpoch Origin ∷ WrongEpoch (Of 0 3) ∷ Left 4 ∷ Own 2 ∷ Misshapen (shapes.TooLong 7) ∷ Misshapen shapes.OffsetEnd ∷ []))
    ≡ codes "refused 1 2 unknown target 5.1.1.0\nrefused 1 2 unknown target low/high/5.1.1.-1\nrefused 1 2 backward 1 0\nrefused 1 2 wrong stem 0\nrefused 1 2 wrong stem none\nrefused 1 2 wrong epoch origin\nrefused 1 2 wrong epoch 0 3\nrefused 1 2 left 4\nrefused 1 2 own\nrefused 1 2 too long 7\nrefused 1 2 offset end\n"
unfolding digits
refusals = refl

failures : concat (map (λ (f : Failure). failure_line f) (Command (Edit 2 (faults.Range 9 6)) ∷ Command (Edit 1 faults.EmptyEdit) ∷ Command (Edit 3 (faults.NotBoundary 1)) ∷ Command (OtherGroup 8 2) ∷ Command (Damaged 30) ∷ Command (NotMember 5) ∷ Fault Memory ∷ []))
    ≡ codes "line 2: range 9 6\nline 1: empty edit\nline 3: not a boundary 1\nother group 8 2\ndamaged at 30\nnot a member 5\nout of memory\n"
unfolding digits
failures = refl

reports : concat (new_text 7 0 2 ∷ edit_text 1 0 0 ∷ take_text 1 0 0 0 0 ∷ []) ≡ codes "new 7 0 2\nedits 1 released 0 refused 0\napplied 1 released 0 repeated 0 held 0 refused 0\n"
unfolding digits
reports = refl

stat : stat_text 7 0 2 (1 ∷ 0 ∷ []) (record { total = 5; runs = 1; held = 0; unstable = 1; epochs = 1; former = 0 })
    ≡ codes "group 7\nme 0\nmembers 2\naccepted 1 0\ntotal 5\nruns 1\nheld 0\nunstable 1\nepochs 1\nformer 0\n"
unfolding digits
stat = refl

trial : trial_text 42 1 (0 ∷ 1 ∷ 0 ∷ []) ((8, 1) ∷ (8, 1) ∷ (8, 1) ∷ []) 1 0
    ≡ codes "trial 42 1\naccepted 0 1 0\nmember 0 total 8 runs 1\nmember 1 total 8 runs 1\nmember 2 total 8 runs 1\nepochs 1 former 0\n"
unfolding digits
trial = refl

ids : ids_text Origin ((At 2147483647 0 1 (pos 0) ∷ [], 5) ∷ []) ≡ codes "{\"epoch\":null,\"runs\":[{\"first\":[[2147483647,0,1,0]],\"length\":5}]}\n"
unfolding ids_text digits
ids = refl

ids_of_none : ids_text (Of 0 3) [] ≡ codes "{\"epoch\":[0,3],\"runs\":[]}\n"
unfolding ids_text digits
ids_of_none = refl

ids_of_two : ids_text (Of 0 2) ((At 2147483647 0 2 (negsuc 0) ∷ High ∷ At 2147483647 1 1 (pos 0) ∷ [], 1) ∷ (Low ∷ At 7 1 1 (pos 2) ∷ [], 3) ∷ [])
    ≡ codes "{\"epoch\":[0,2],\"runs\":[{\"first\":[[2147483647,0,2,-1],\"high\",[2147483647,1,1,0]],\"length\":1},{\"first\":[\"low\",[7,1,1,2]],\"length\":3}]}\n"
unfolding ids_text digits
ids_of_two = refl
