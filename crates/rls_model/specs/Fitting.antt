-- Why an operation whose causes are there is refused, if it is.
use Rattle.std.specs.Prelude.{List, Option}
use Rattle.rls_ident.specs.declared.tuple.Tuple.{Tuple}
use Rattle.rls_ident.specs.declared.epoch_name.EpochName.{EpochName}
use Rattle.rls_ops.specs.declared.op.Op.{Op}
use Rattle.rls_ops.specs.declared.op.Body.{Body}
use Rattle.rls_model.specs.Answers.{Reason}
use Rattle.rls_model.specs.History.{History}
unfoldable pub use Rattle.rls_model.specs.Known.{is_known}
use Rattle.rls_model.specs.View.{view_of}
use Rattle.rls_model.specs.Rules as rules

-- the first of these targets that isn't known
abbrev pub first_unknown : History → EpochName → List (List Tuple) → Option Reason
first_unknown H = rules.first_unknown (view_of H)

-- the reason that lies in the body
abbrev pub body_refusal : History → Op → Body → Option Reason
body_refusal H = rules.body_refusal (view_of H)

-- the first reason to refuse the operation. It fits where there is none
unfoldable pub refusal : History → Op → Option Reason
refusal H o = rules.refusal (view_of H) o
