-- The run of a script that a form of words asks for, and the text of that run.
use Rattle.std.specs.Prelude.{◌≡◌, ℕ, Bool, false, List, [], ◌∷◌, ◌++◌, codes, Option}
use Rattle.std.specs.Fmt.{decimal}
use Rattle.std.specs.List.{list_any}
use Rattle.mk_lists.specs.Among.{Each}
use Rattle.mk_txn.specs.declared.Outcome.TheVariants.{Commit}
use Rattle.mk_script.specs.Scripts.{ScriptParts}
use Rattle.mk_script.specs.Quiet.{IsQuiet}
use Rattle.mk_history.specs.declared.Path.TheVariants.{Fast}
use Rattle.mk_history.specs.declared.State.TheVariants.{Learned}
use Rattle.mk_history.specs.Histories.{History}
use Rattle.mk_history.specs.Legality.{IsLegal}
use Rattle.mk_history.specs.Safety.{IsSafe}
use Rattle.mk_driver.specs.Driven.{IsDriven}
use Rattle.mk_run.specs.Attempts.{outcomes_of, is_open}
use Rattle.mk_report.specs.RunReports.{report_of, summary_of, json_of}
use Rattle.mk_shown.specs.FollowTexts.{follow_text}
use Rattle.mk_trace_text.specs.Traces.{trace_text}
use Rattle.mk_top.specs.declared.form.Load.{Load}
use Rattle.mk_top.specs.declared.form.Form.{Form}
use Rattle.mk_top.specs.declared.form.Form.TheVariants.{Report, Trace, Json, Follow, Summary}
use Rattle.mk_top.specs.Asked.{IsScriptOf}

-- nobody learned how some attempt of the run ended
abbrev pub has_left : History → Bool
has_left run = list_any (λ line. is_open line.state) (outcomes_of run)

-- every attempt of the run committed, on the fast path
abbrev pub AllFast : History → Type 0
AllFast run = Each (λ line. line.state ≡ Learned Commit Fast) (outcomes_of run)

-- a run of the script that the form asks for: it could have happened, it goes by the script, and it is safe; where the script is
-- quiet, every attempt committed on the fast path, and none is left
pub record IsRunOf (form : Form) (left : Option (List ℕ)) (run : History) : Type 0 where
  pub script : ScriptParts
  pub asked : IsScriptOf form left script
  pub driven : IsDriven script run
  pub legal : IsLegal run
  pub safe : IsSafe run
  pub fast : IsQuiet script → AllFast run × (has_left run ≡ false)

-- the first line of a summary
abbrev pub load_line : Load → List ℕ
load_line load =
    codes "gen " ++ (decimal load.number ++ (32 ∷ (decimal load.clients ++ (32 ∷ (decimal load.txns ++ (32 ∷ (decimal load.keys ++ 10 ∷ [])))))))

-- the text of a run that a form asks for
abbrev pub text_of : Form → History → List ℕ
text_of Report run = report_of run
text_of Trace run = trace_text run
text_of Json run = json_of run
text_of Follow run = follow_text run
text_of (Summary load) run = load_line load ++ summary_of run
