-- What `run --follow` writes of a run: its report, what is shown after each round, and the picture at the last mark.
use Rattle.std.specs.Prelude.{ℕ, ◌==◌, List, [], ◌∷◌, ◌++◌, codes, count_by, length, if◌then◌else◌}
use Rattle.std.specs.Fmt.{decimal}
use Rattle.std.specs.List.{flat_map}
use Rattle.mk_txn.specs.declared.Stamp.{Stamp}
use Rattle.mk_txn.specs.declared.Value.{Value}
use Rattle.mk_txn.specs.declared.Value.TheVariants.{Number, Absent}
use Rattle.mk_txn.specs.LatestWrites.{VersionedValue}
use Rattle.mk_model.specs.ColumnState.{numbers_from}
use Rattle.mk_model.specs.OneCopy.{Copy, version_in, one_copy}
use Rattle.mk_history.specs.Histories.{History}
use Rattle.mk_report.specs.ReportTexts.{stamp_text}
use Rattle.mk_report.specs.RunReports.{report_of}
use Rattle.mk_report.specs.StoreTexts.{by_name, is_written}
use Rattle.mk_feed_words.specs.MarkStamps.{last_mark}
use Rattle.mk_feed_words.specs.Shown.{shown, commits_upto}

-- how many keys the picture has: those that were written, deleted ones too
abbrev pub written_in : Copy → ℕ → ℕ
written_in picture keys = count_by (λ key. is_written (version_in picture key)) (numbers_from 0 keys)

-- a round, its watermark, and how many keys the picture has
abbrev pub shown_text : ℕ → Stamp → ℕ → List ℕ
shown_text round stamp count = codes "shown " ++ (decimal round ++ 32 ∷ (stamp_text stamp ++ 32 ∷ (decimal count ++ 10 ∷ [])))

-- the line of what is shown after this round
abbrev pub shown_line : History → ℕ → List ℕ
shown_line run round =
    shown_text round (shown run round).watermark (written_in (shown run round).picture (length run.key_names))

-- the lines of all rounds; a run without columns has none
abbrev pub shown_lines : History → List ℕ
shown_lines run = if run.columns == 0 then [] else flat_map (shown_line run) (numbers_from 1 (length run.rounds))

-- a key with its version and its number; an absent value has no line
abbrev pub follow_line : List ℕ → Stamp → Value → List ℕ
follow_line name version (Number n) = codes "follow " ++ (name ++ 32 ∷ (stamp_text version ++ 32 ∷ (decimal n ++ 10 ∷ [])))
follow_line name version Absent = []

-- the line of what is held, where it was written
abbrev pub followed_text : List ℕ → VersionedValue → List ℕ
followed_text name held = if is_written held then follow_line name held.version held.value else []

-- the line of a key in the picture
abbrev pub followed_entry : Copy → List ℕ × ℕ → List ℕ
followed_entry picture entry = followed_text entry.0 (version_in picture entry.1)

-- a line for each key of the picture that has a number, in byte order of names
abbrev pub followed_lines : List (List ℕ) → Copy → List ℕ
followed_lines keys picture = flat_map (followed_entry picture) (by_name keys)

-- the report, what is shown after each round, and the picture at the last mark
abbrev pub follow_text : History → List ℕ
follow_text run = report_of run ++ (shown_lines run ++ followed_lines run.key_names (one_copy (commits_upto last_mark run)))
