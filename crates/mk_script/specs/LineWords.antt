-- The words that there are at the places of a line, and how each is written.
use Rattle.std.specs.Prelude.{ℕ, ◌+◌, List, [], ◌∷◌, ◌++◌, codes}
use Rattle.mk_proc.specs.declared.ProcKind.{ProcKind}
use Rattle.mk_proc.specs.declared.ProcKind.TheVariants as procs
use Rattle.mk_words.specs.declared.MsgKind.{MsgKind}
use Rattle.mk_words.specs.declared.MsgKind.TheVariants as kinds
use Rattle.mk_script.specs.declared.words.Keyword.{Keyword}
use Rattle.mk_script.specs.declared.words.Keyword.TheVariants as keywords
use Rattle.mk_script.specs.declared.lines.Fate.{Fate}
use Rattle.mk_script.specs.declared.lines.Fate.TheVariants as fates
use Rattle.mk_script.specs.declared.lines.Point.{Point}
use Rattle.mk_script.specs.declared.lines.Point.TheVariants as points

-- the kinds of messages
abbrev pub kind_text : MsgKind → List ℕ
kind_text kinds.Validate = codes "validate"
kind_text kinds.Vote = codes "vote"
kind_text kinds.Accept = codes "accept"
kind_text kinds.Accepted = codes "accepted"
kind_text kinds.Decide = codes "decide"
kind_text kinds.Ask = codes "ask"
kind_text kinds.Told = codes "told"
kind_text kinds.Moved = codes "moved"

-- no line has the fate Deliver
abbrev pub fate_text : Fate → List ℕ
fate_text fates.Deliver = codes "deliver"
fate_text fates.Lose = codes "lose"
fate_text fates.Twice = codes "twice"
fate_text fates.Late = codes "late"
fate_text fates.NextRound = codes "next"

-- where a stop acts
abbrev pub point_text : Point → List ℕ
point_text points.Read = codes "read"
point_text points.Votes = codes "votes"
point_text points.Accepts = codes "accepts"

-- the procedures of computed writes
abbrev pub proc_text : ProcKind → List ℕ
proc_text procs.Add = codes "add"
proc_text procs.Sum = codes "sum"
proc_text procs.Max = codes "max"

-- the first words of lines
abbrev pub keyword_text : Keyword → List ℕ
keyword_text keywords.Meerkat = codes "meerkat"
keyword_text keywords.Size = codes "size"
keyword_text keywords.Client = codes "client"
keyword_text keywords.Retry = codes "retry"
keyword_text keywords.Fault = codes "fault"
keyword_text keywords.Stop = codes "stop"
keyword_text keywords.Txn = codes "txn"
keyword_text keywords.Takeover = codes "takeover"
keyword_text keywords.Wipe = codes "wipe"
keyword_text keywords.Ask = codes "ask"
keyword_text keywords.Promise = codes "promise"
keyword_text keywords.Merge = codes "merge"
keyword_text keywords.Adopt = codes "adopt"
keyword_text keywords.Enter = codes "enter"
keyword_text keywords.Round = codes "round"

-- ---- the words that may stand there

-- the versions
abbrev pub version_text : ℕ → List ℕ
version_text v = (48 + v) ∷ []

-- there are these two
abbrev pub versions : List ℕ
versions = 1 ∷ 2 ∷ []

-- every kind
abbrev pub kind_list : List MsgKind
kind_list = kinds.Validate ∷ kinds.Vote ∷ kinds.Accept ∷ kinds.Accepted ∷ kinds.Decide ∷ kinds.Ask ∷ kinds.Told ∷ kinds.Moved ∷ []

-- the fates that a fault line may have
abbrev pub fate_list : List Fate
fate_list = fates.Lose ∷ fates.Twice ∷ fates.Late ∷ fates.NextRound ∷ []

-- every point
abbrev pub point_list : List Point
point_list = points.Read ∷ points.Votes ∷ points.Accepts ∷ []

-- every procedure
abbrev pub proc_list : List ProcKind
proc_list = procs.Add ∷ procs.Sum ∷ procs.Max ∷ []

-- the first words of the head and the prelude
abbrev pub prelude_keywords : List Keyword
prelude_keywords = keywords.Meerkat ∷ keywords.Size ∷ keywords.Client ∷ keywords.Retry ∷ keywords.Fault ∷ keywords.Stop ∷ []

-- the first words of a round, but for global lines
abbrev pub round_keywords : List Keyword
round_keywords = keywords.Txn ∷ keywords.Takeover ∷ keywords.Round ∷ []

-- the first words of global lines
abbrev pub global_keywords : List Keyword
global_keywords = keywords.Wipe ∷ keywords.Ask ∷ keywords.Promise ∷ keywords.Merge ∷ keywords.Adopt ∷ keywords.Enter ∷ []

-- every first word
abbrev pub keyword_list : List Keyword
keyword_list = prelude_keywords ++ (round_keywords ++ global_keywords)
