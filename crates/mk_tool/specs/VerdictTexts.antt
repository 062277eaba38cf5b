-- How a verdict is written.
use Rattle.std.specs.Prelude.{ℕ, List, [], ◌∷◌, ◌++◌, codes}
use Rattle.std.specs.Fmt.{decimal}
use Rattle.mk_trace_lines.specs.TraceLines.{key_name}
use Rattle.mk_history.specs.Histories.{History}
use Rattle.mk_verdict.specs.declared.Flaw.{Flaw}
use Rattle.mk_verdict.specs.declared.Flaw.TheVariants.{Disabled, Unfinished, Answer, Unmatched}
use Rattle.mk_verdict.specs.declared.Place.{Place}
use Rattle.mk_verdict.specs.declared.Place.TheVariants.{Column, Cell, Match, Global}
use Rattle.mk_verdict.specs.declared.Verdict.{Verdict}
use Rattle.mk_verdict.specs.declared.Verdict.TheVariants.{Legal, Broken}
use Rattle.mk_verdict.specs.Flaws.{verdict_of}
use Rattle.mk_run.specs.declared.line.Tally.{Tally}
use Rattle.mk_run.specs.Attempts.{outcomes_of, tally_of}

-- WHY
abbrev pub flaw_text : Flaw → List ℕ
flaw_text Disabled = codes "disabled"
flaw_text Unfinished = codes "unfinished"
flaw_text Answer = codes "answer"
flaw_text Unmatched = codes "unmatched"

-- cell R KEY ENTRY
abbrev pub cell_text : ℕ → List ℕ → ℕ → List ℕ
cell_text r key entry = codes "cell " ++ decimal r ++ codes " " ++ key ++ codes " " ++ decimal entry

-- match R KEY C ENTRY
abbrev pub match_text : ℕ → List ℕ → ℕ → ℕ → List ℕ
match_text r key c entry = codes "match " ++ decimal r ++ codes " " ++ key ++ codes " " ++ decimal c ++ codes " " ++ decimal entry

-- column C ENTRY, cell R KEY ENTRY, match R KEY C ENTRY or global ENTRY, in a run whose keys have these names
abbrev pub place_text : List (List ℕ) → Place → List ℕ
place_text keys (Column c entry) = codes "column " ++ decimal c ++ codes " " ++ decimal entry
place_text keys (Cell r key entry) = cell_text r (key_name keys key) entry
place_text keys (Match r key c entry) = match_text r (key_name keys key) c entry
place_text keys (Global entry) = codes "global " ++ decimal entry

-- legal COMMITS ABORTS OPENS
abbrev pub legal_text : Tally → List ℕ
legal_text tally = codes "legal " ++ decimal tally.commits ++ codes " " ++ decimal tally.aborts ++ codes " " ++ decimal tally.opens ++ 10 ∷ []

-- broken ROUND PLACE WHY
abbrev pub broken_text : List (List ℕ) → ℕ → Place → Flaw → List ℕ
broken_text keys round place why = codes "broken " ++ decimal round ++ codes " " ++ place_text keys place ++ codes " " ++ flaw_text why ++ 10 ∷ []

-- the verdict on a run whose keys have these names, and whose attempts ended so if it is legal
abbrev pub verdict_text : List (List ℕ) → Tally → Verdict → List ℕ
verdict_text keys tally Legal = legal_text tally
verdict_text keys tally (Broken round place why) = broken_text keys round place why

-- what is written of a run that is checked
abbrev pub check_text : History → List ℕ
check_text run = verdict_text run.key_names (tally_of (outcomes_of run)) (verdict_of run)
