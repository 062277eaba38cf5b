-- Acts, answers and replies: what is written is read again.
use Rattle.std.proofs.Common.{◌≡◌, ℕ, ◌-◌, ◌^◌, Bool, true, false, ltb, not, ◌&&◌, List, [], ◌∷◌, length, map, Ok, refl, arith}
use Rattle.std.specs.Fmt.{decimal}
use Rattle.std.specs.List.{list_all}
use Rattle.std.proofs.lemmas.Bool.{and_parts}
use Rattle.mk_spelling.proofs.Numbers.{number-again}
use Rattle.mk_txn.specs.declared.Stamp.{Stamp}
use Rattle.mk_txn.specs.declared.WriteItem.{WriteItem}
use Rattle.mk_txn.specs.declared.Reason.{Reason}
use Rattle.mk_txn.specs.declared.Reason.TheVariants as reasons
use Rattle.mk_words.specs.declared.Act.{Act}
use Rattle.mk_words.specs.declared.Act.TheVariants as acts
use Rattle.mk_words.specs.declared.Answer.{Answer}
use Rattle.mk_words.specs.declared.Answer.TheVariants as answers
use Rattle.mk_words.specs.declared.GlobalLine.TheVariants as globals
use Rattle.mk_words.specs.declared.GlobalAnswer.{GlobalAnswer}
use Rattle.mk_words.specs.declared.GlobalAnswer.TheVariants as said
use Rattle.mk_words.specs.Acts.{answer_fits, refuses_read}
use Rattle.mk_words.specs.Lines.{can_answer}
use Rattle.mk_history.specs.Histories.{History}
use Rattle.mk_history.specs.Shape.{stamp_fits, value_fits, act_in_range, answer_in_range, turn_fits, key_fits, write_fits}
use Rattle.mk_kept.specs.Heads.{history}
use Rattle.mk_history.specs.declared.RoundLog.{RoundLog}
use Rattle.mk_trace_lines.specs.declared.words.Replier.{Replier}
use Rattle.mk_trace_lines.specs.declared.words.Replier.TheVariants as repliers
use Rattle.mk_trace_lines.specs.declared.words.ReplyWord.TheVariants as replies
use Rattle.mk_trace_lines.specs.LineWords.{reason_text}
use Rattle.mk_trace_lines.specs.TraceLines.{value_text, write_text, turn_words, reply_words}
use Rattle.mk_trace_lines.specs.ActShapes.{ActShape, act_shape, answer_of, turn_of}
use Rattle.mk_trace_lines.specs.ActShapes.AnswerShape.{OkayShape, RefusedShape}
use Rattle.mk_trace_lines.specs.ActShapes.ActShape.{GetShape, CheckReadShape, CheckWriteShape, CommitReadShape, CommitWriteShape, ReleaseReadShape, ReleaseWriteShape}
use Rattle.mk_trace_lines.specs.Replies.{ReplyShape, reply_shape, reply_of}
use Rattle.mk_trace_lines.specs.Replies.ReplyShape.{OneWord, OneNumber, TwoNumbers}
use Rattle.mk_trace_text.specs.States.{State}
use Rattle.mk_trace_text.specs.Grammar.{are_writes, writes_of}
use Rattle.mk_trace.proofs.FieldsAgain.{leb-low, ltb-low, parts, stamp_cut, stamp_again, value_again, AreNames, key_again, write_cut}

-- ---- acts with answers

-- the words of an act with its answer have a form, and the form is of that act and answer
pub record TurnAgain (version : ℕ) (act : Act) (answer : Answer) : Type 0 where
  pub shape : ActShape
  pub form : act_shape (turn_words act answer) ≡ Ok shape
  pub turn : turn_of version shape ≡ Ok (act, answer)

reason_again : (read : Bool) (reason : Reason) (stamp : Stamp) → refuses_read reason ≡ read → stamp_fits stamp ≡ true
    → answer_of read (RefusedShape (reason_text reason) (parts stamp)) ≡ Ok (answers.Refused reason stamp)
reason_again true reasons.ReadStale stamp e fits = rw (stamp_again stamp fits) refl
reason_again true reasons.ReadPending stamp e fits = rw (stamp_again stamp fits) refl
reason_again true reasons.WriteLate stamp e fits = absurd cc
reason_again true reasons.WritePending stamp e fits = absurd cc
reason_again false reasons.ReadStale stamp e fits = absurd cc
reason_again false reasons.ReadPending stamp e fits = absurd cc
reason_again false reasons.WriteLate stamp e fits = rw (stamp_again stamp fits) refl
reason_again false reasons.WritePending stamp e fits = rw (stamp_again stamp fits) refl

not_true : (b : Bool) → not b ≡ true → b ≡ false
not_true true e = absurd cc
not_true false e = refl

turns : (run : History) (act : Act) (answer : Answer) → answer_fits act answer ≡ true → act_in_range run act ≡ true → answer_in_range run answer ≡ true
    → TurnAgain run.version act answer
turns run acts.Get (answers.Version version v) a b c =
    let q = and_parts (stamp_fits version) (value_fits run v) c in
    record { shape = GetShape (parts version) (value_text v); form = rw (stamp_cut version q.0) refl; turn = rw (stamp_again version q.0, value_again run v q.1) refl }
turns run acts.Get answers.Okay a b c = absurd cc
turns run acts.Get (answers.Refused reason stamp) a b c = absurd cc
turns run acts.Get answers.Done a b c = absurd cc
turns run (acts.CheckRead ts version) (answers.Version w v) a b c = absurd cc
turns run (acts.CheckRead ts version) answers.Okay a b c =
    let q = and_parts (stamp_fits ts) (stamp_fits version) b in
    record { shape = CheckReadShape (parts ts) (parts version) OkayShape; form = rw (stamp_cut ts q.0, stamp_cut version q.1) refl; turn = rw (stamp_again ts q.0, stamp_again version q.1) refl }
turns run (acts.CheckRead ts version) (answers.Refused reason stamp) a b c =
    let q = and_parts (stamp_fits ts) (stamp_fits version) b in
    record {
      shape = CheckReadShape (parts ts) (parts version) (RefusedShape (reason_text reason) (parts stamp));
      form = rw (stamp_cut ts q.0, stamp_cut version q.1, stamp_cut stamp c) refl;
      turn = rw (stamp_again ts q.0, stamp_again version q.1, reason_again true reason stamp a c) refl;
    }
turns run (acts.CheckRead ts version) answers.Done a b c = absurd cc
turns run (acts.CheckWrite ts) (answers.Version w v) a b c = absurd cc
turns run (acts.CheckWrite ts) answers.Okay a b c =
    record { shape = CheckWriteShape (parts ts) OkayShape; form = rw (stamp_cut ts b) refl; turn = rw (stamp_again ts b) refl }
turns run (acts.CheckWrite ts) (answers.Refused reason stamp) a b c =
    record {
      shape = CheckWriteShape (parts ts) (RefusedShape (reason_text reason) (parts stamp));
      form = rw (stamp_cut ts b, stamp_cut stamp c) refl;
      turn = rw (stamp_again ts b, reason_again false reason stamp (not_true (refuses_read reason) a) c) refl;
    }
turns run (acts.CheckWrite ts) answers.Done a b c = absurd cc
turns run (acts.CommitRead ts) (answers.Version w v) a b c = absurd cc
turns run (acts.CommitRead ts) answers.Okay a b c = absurd cc
turns run (acts.CommitRead ts) (answers.Refused reason stamp) a b c = absurd cc
turns run (acts.CommitRead ts) answers.Done a b c =
    record { shape = CommitReadShape (parts ts); form = rw (stamp_cut ts b) refl; turn = rw (stamp_again ts b) refl }
turns run (acts.CommitWrite ts v) (answers.Version w x) a b c = absurd cc
turns run (acts.CommitWrite ts v) answers.Okay a b c = absurd cc
turns run (acts.CommitWrite ts v) (answers.Refused reason stamp) a b c = absurd cc
turns run (acts.CommitWrite ts v) answers.Done a b c =
    let q = and_parts (stamp_fits ts) (value_fits run v) b in
    record { shape = CommitWriteShape (parts ts) (value_text v); form = rw (stamp_cut ts q.0) refl; turn = rw (stamp_again ts q.0, value_again run v q.1) refl }
turns run (acts.ReleaseRead ts) (answers.Version w v) a b c = absurd cc
turns run (acts.ReleaseRead ts) answers.Okay a b c = absurd cc
turns run (acts.ReleaseRead ts) (answers.Refused reason stamp) a b c = absurd cc
turns run (acts.ReleaseRead ts) answers.Done a b c =
    record { shape = ReleaseReadShape (parts ts); form = rw (stamp_cut ts b) refl; turn = rw (stamp_again ts b) refl }
turns run (acts.ReleaseWrite ts) (answers.Version w v) a b c = absurd cc
turns run (acts.ReleaseWrite ts) answers.Okay a b c = absurd cc
turns run (acts.ReleaseWrite ts) (answers.Refused reason stamp) a b c = absurd cc
turns run (acts.ReleaseWrite ts) answers.Done a b c =
    record { shape = ReleaseWriteShape (parts ts); form = rw (stamp_cut ts b) refl; turn = rw (stamp_again ts b) refl }

-- what a turn that fits has
pub turn_parts : (run : History) (act : Act) (answer : Answer) → turn_fits run act answer ≡ true
    → (answer_fits act answer ≡ true) × (act_in_range run act ≡ true) × (answer_in_range run answer ≡ true)
turn_parts run act answer fits =
    let p = and_parts (answer_fits act answer && act_in_range run act) (answer_in_range run answer) fits in
    let q = and_parts (answer_fits act answer) (act_in_range run act) p.0 in
    (q.0, q.1, p.1)

pub turn_again : (run : History) (act : Act) (answer : Answer) → turn_fits run act answer ≡ true → TurnAgain run.version act answer
turn_again run act answer fits =
    let q = turn_parts run act answer fits in
    turns run act answer q.0 q.1 q.2

-- ---- answers of global lines

-- the words of an answer have a form that such a line can have, and the form is of that answer
pub record ReplyAgain (replier : Replier) (answer : GlobalAnswer) : Type 0 where
  pub shape : ReplyShape
  pub form : reply_shape replier (reply_words answer) ≡ Ok shape
  pub reply : reply_of shape ≡ Ok answer

pub promise_again : (epoch replica : ℕ) (a : GlobalAnswer) → can_answer (globals.Promise epoch replica) a ≡ true → ReplyAgain repliers.Promise a
promise_again epoch replica said.Ok e = record { shape = OneWord replies.Ok; form = refl; reply = refl }
promise_again epoch replica (said.Counts n m) e = absurd cc
promise_again epoch replica (said.Entered k) e = absurd cc
promise_again epoch replica said.Unasked e = record { shape = OneWord replies.Unasked; form = refl; reply = refl }
promise_again epoch replica said.Unmade e = absurd cc
promise_again epoch replica said.Lacking e = record { shape = OneWord replies.Lacking; form = refl; reply = refl }
promise_again epoch replica (said.Old word) e = record {
  shape = OneNumber replies.Old (decimal word);
  form = refl;
  reply = rw (number-again 0 1000 word (omega arith) (omega arith) (leb-low word 1000 e)) refl;
}
promise_again epoch replica said.WordFault e = record { shape = OneWord replies.WordFault; form = refl; reply = refl }
promise_again epoch replica (said.Short k) e = absurd cc

pub merge_again : (epoch : ℕ) (a : GlobalAnswer) → can_answer (globals.Merge epoch) a ≡ true → ReplyAgain repliers.Merge a
merge_again epoch said.Ok e = absurd cc
merge_again epoch (said.Counts n m) e =
    let q = and_parts (ltb n (2 ^ 64)) (ltb m (2 ^ 64)) e in
    let low = ltb-low n (2 ^ 64) q.0 in
    let few = ltb-low m (2 ^ 64) q.1 in
    record {
      shape = TwoNumbers replies.Ok (decimal n) (decimal m);
      form = refl;
      reply = rw (number-again 0 (2 ^ 64 - 1) n (omega arith) (omega arith) (omega (arith, low)), number-again 0 (2 ^ 64 - 1) m (omega arith) (omega arith) (omega (arith, few))) refl;
    }
merge_again epoch (said.Entered k) e = absurd cc
merge_again epoch said.Unasked e = absurd cc
merge_again epoch said.Unmade e = absurd cc
merge_again epoch said.Lacking e = record { shape = OneWord replies.Lacking; form = refl; reply = refl }
merge_again epoch (said.Old word) e = record {
  shape = OneNumber replies.Old (decimal word);
  form = refl;
  reply = rw (number-again 0 1000 word (omega arith) (omega arith) (leb-low word 1000 e)) refl;
}
merge_again epoch said.WordFault e = absurd cc
merge_again epoch (said.Short k) e = record {
  shape = OneNumber replies.Short (decimal k);
  form = refl;
  reply = rw (number-again 0 7 k (omega arith) (omega arith) (leb-low k 7 e)) refl;
}

pub adopt_again : (epoch replica : ℕ) (a : GlobalAnswer) → can_answer (globals.Adopt epoch replica) a ≡ true → ReplyAgain repliers.Adopt a
adopt_again epoch replica said.Ok e = record { shape = OneWord replies.Ok; form = refl; reply = refl }
adopt_again epoch replica (said.Counts n m) e = absurd cc
adopt_again epoch replica (said.Entered k) e = absurd cc
adopt_again epoch replica said.Unasked e = absurd cc
adopt_again epoch replica said.Unmade e = record { shape = OneWord replies.Unmade; form = refl; reply = refl }
adopt_again epoch replica said.Lacking e = absurd cc
adopt_again epoch replica (said.Old word) e = record {
  shape = OneNumber replies.Old (decimal word);
  form = refl;
  reply = rw (number-again 0 1000 word (omega arith) (omega arith) (leb-low word 1000 e)) refl;
}
adopt_again epoch replica said.WordFault e = record { shape = OneWord replies.WordFault; form = refl; reply = refl }
adopt_again epoch replica (said.Short k) e = absurd cc

pub enter_again : (epoch : ℕ) (a : GlobalAnswer) → can_answer (globals.Enter epoch) a ≡ true → ReplyAgain repliers.Enter a
enter_again epoch said.Ok e = absurd cc
enter_again epoch (said.Counts n m) e = absurd cc
enter_again epoch (said.Entered k) e = record {
  shape = OneNumber replies.Ok (decimal k);
  form = refl;
  reply = rw (number-again 0 7 k (omega arith) (omega arith) (leb-low k 7 e)) refl;
}
enter_again epoch said.Unasked e = absurd cc
enter_again epoch said.Unmade e = absurd cc
enter_again epoch said.Lacking e = absurd cc
enter_again epoch (said.Old word) e = absurd cc
enter_again epoch said.WordFault e = absurd cc
enter_again epoch (said.Short k) e = record {
  shape = OneNumber replies.Short (decimal k);
  form = refl;
  reply = rw (number-again 0 7 k (omega arith) (omega arith) (leb-low k 7 e)) refl;
}

-- ---- writes

pub writes_again : (s : State) (all : List RoundLog) (writes : List WriteItem) → AreNames s.head.key_names.names
    → list_all (write_fits (history s.head all)) writes ≡ true
    → (are_writes (map (write_text s.head.key_names.names) writes) ≡ true) × (writes_of s (map (write_text s.head.key_names.names) writes) ≡ Ok writes)
writes_again s all [] names fits = (refl, refl)
writes_again s all (item ∷ writes) names fits =
    let run = history s.head all in
    let p = and_parts (write_fits run item) (list_all (write_fits run) writes) fits in
    let q = and_parts (key_fits run item.key) (value_fits run item.value) p.0 in
    let rest = writes_again s all writes names p.1 in
    let low = ltb-low item.key (length s.head.key_names.names) q.0 in
    let apart = write_cut s.head.key_names.names names item low in
    (rw (apart, rest.0) refl, rw (apart, value_again run item.value q.1, key_again s names item.key low, rest.1) refl)
