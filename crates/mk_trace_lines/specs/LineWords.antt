-- The words that there are at the places of a line, and how each is written.
use Rattle.std.specs.Prelude.{ℕ, Bool, true, false, List, [], ◌∷◌, ◌++◌, codes}
use Rattle.mk_txn.specs.declared.Reason.{Reason}
use Rattle.mk_txn.specs.declared.Reason.TheVariants as reasons
use Rattle.mk_trace_lines.specs.declared.words.Keyword.{Keyword}
use Rattle.mk_trace_lines.specs.declared.words.Keyword.TheVariants as keywords
use Rattle.mk_trace_lines.specs.declared.words.ActWord.{ActWord}
use Rattle.mk_trace_lines.specs.declared.words.ActWord.TheVariants as acts
use Rattle.mk_trace_lines.specs.declared.words.ReplyWord.{ReplyWord}
use Rattle.mk_trace_lines.specs.declared.words.ReplyWord.TheVariants as replies

-- the first words of lines; journal lines begin with a number
abbrev pub keyword_text : Keyword → List ℕ
keyword_text keywords.Opening = codes "meerkat-trace"
keyword_text keywords.Size = codes "size"
keyword_text keywords.Client = codes "client"
keyword_text keywords.Key = codes "key"
keyword_text keywords.Round = codes "round"
keyword_text keywords.Column = codes "column"
keyword_text keywords.Cell = codes "cell"
keyword_text keywords.Globals = codes "global"
keyword_text keywords.End = codes "end"
keyword_text keywords.Begin = codes "begin"
keyword_text keywords.Unread = codes "unread"
keyword_text keywords.Read = codes "read"
keyword_text keywords.Stamp = codes "stamp"
keyword_text keywords.Validate = codes "validate"
keyword_text keywords.Take = codes "take"
keyword_text keywords.Rule = codes "rule"
keyword_text keywords.Again = codes "again"
keyword_text keywords.Stop = codes "stop"
keyword_text keywords.Takeover = codes "takeover"
keyword_text keywords.Pick = codes "pick"
keyword_text keywords.Wipe = codes "wipe"
keyword_text keywords.Ask = codes "ask"
keyword_text keywords.Promise = codes "promise"
keyword_text keywords.Merge = codes "merge"
keyword_text keywords.Adopt = codes "adopt"
keyword_text keywords.Enter = codes "enter"

-- the acts at a key
abbrev pub act_text : ActWord → List ℕ
act_text acts.Get = codes "get"
act_text acts.CheckRead = codes "checkread"
act_text acts.CheckWrite = codes "checkwrite"
act_text acts.CommitRead = codes "commitread"
act_text acts.CommitWrite = codes "commitwrite"
act_text acts.ReleaseRead = codes "releaseread"
act_text acts.ReleaseWrite = codes "releasewrite"

-- why a check was refused
abbrev pub reason_text : Reason → List ℕ
reason_text reasons.ReadStale = codes "read-stale"
reason_text reasons.ReadPending = codes "read-pending"
reason_text reasons.WriteLate = codes "write-late"
reason_text reasons.WritePending = codes "write-pending"

-- what a global line answers, but for its numbers
abbrev pub reply_text : ReplyWord → List ℕ
reply_text replies.Ok = codes "ok"
reply_text replies.Unasked = codes "unasked"
reply_text replies.Unmade = codes "unmade"
reply_text replies.Lacking = codes "lacking"
reply_text replies.Old = codes "old"
reply_text replies.WordFault = codes "word-fault"
reply_text replies.Short = codes "short"

-- a check that passed
abbrev pub okay_text : List ℕ
okay_text = codes "ok"

-- a value that is absent
abbrev pub none_text : List ℕ
none_text = codes "none"

-- ---- the words that may stand there

-- the first words of the head
abbrev pub head_keywords : List Keyword
head_keywords = keywords.Opening ∷ keywords.Size ∷ keywords.Client ∷ keywords.Key ∷ []

-- the first words of headings and of the end
abbrev pub heading_keywords : List Keyword
heading_keywords = keywords.Round ∷ keywords.Column ∷ keywords.Cell ∷ keywords.Globals ∷ keywords.End ∷ []

-- the first words of a log's lines, but for `key`
abbrev pub begin_keywords : List Keyword
begin_keywords = keywords.Begin ∷ keywords.Unread ∷ keywords.Read ∷ keywords.Stamp ∷ keywords.Validate ∷ keywords.Take ∷ []

abbrev pub rule_keywords : List Keyword
rule_keywords = keywords.Rule ∷ keywords.Again ∷ keywords.Stop ∷ keywords.Takeover ∷ keywords.Pick ∷ []

-- the first words of global lines
abbrev pub global_keywords : List Keyword
global_keywords = keywords.Wipe ∷ keywords.Ask ∷ keywords.Promise ∷ keywords.Merge ∷ keywords.Adopt ∷ keywords.Enter ∷ []

-- the first words of steps and global lines
abbrev pub step_keywords : List Keyword
step_keywords = begin_keywords ++ (rule_keywords ++ global_keywords)

-- every first word
abbrev pub keyword_list : List Keyword
keyword_list = head_keywords ++ (heading_keywords ++ step_keywords)

-- the acts that ask
abbrev pub check_acts : List ActWord
check_acts = acts.Get ∷ acts.CheckRead ∷ acts.CheckWrite ∷ []

-- the acts that end what a check began
abbrev pub end_acts : List ActWord
end_acts = acts.CommitRead ∷ acts.CommitWrite ∷ acts.ReleaseRead ∷ acts.ReleaseWrite ∷ []

-- every act
abbrev pub act_list : List ActWord
act_list = check_acts ++ end_acts

-- why a read check may be refused, and why a write check may
abbrev pub check_reasons : Bool → List Reason
check_reasons true = reasons.ReadStale ∷ reasons.ReadPending ∷ []
check_reasons false = reasons.WriteLate ∷ reasons.WritePending ∷ []

-- every answer of a global line
abbrev pub reply_list : List ReplyWord
reply_list =
    replies.Ok ∷ replies.Unasked ∷ replies.Unmade ∷ replies.Lacking ∷ replies.Old ∷ replies.WordFault ∷ replies.Short ∷ []
