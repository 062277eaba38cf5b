-- The run of one transaction that writes one key at three replicas: it is legal and safe, and with two journal entries exchanged it
-- is not matched.
use Rattle.std.proofs.Common.{◌≡◌, ◌<◌, ◌≤◌, ℕ, zero, suc, refl, sym, subst, ◌∙◌, arith, ap, inl, List, [], ◌∷◌}
use Rattle.std.specs.Prelude.{map, sum}
use Rattle.mk_lists.specs.Among.{Among, Each, Each-among}
use Rattle.mk_txn.specs.declared.TxnId.{TxnId}
use Rattle.mk_txn.specs.declared.ReadItem.{ReadItem}
use Rattle.mk_txn.specs.declared.Outcome.{Outcome}
use Rattle.mk_txn.specs.Outcomes.{agrees}
use Rattle.mk_txn.specs.Transactions.{Transaction}
use Rattle.mk_txn.specs.declared.Stamp.{Stamp as StampType}
use Rattle.mk_txn.specs.declared.Value.TheVariants.{Number}
use Rattle.mk_txn.specs.declared.Outcome.TheVariants.{Commit}
use Rattle.mk_words.specs.declared.Act.{Act}
use Rattle.mk_words.specs.declared.Act.TheVariants.{Get, CheckWrite, CommitWrite}
use Rattle.mk_words.specs.declared.Answer.TheVariants.{Okay, Done}
use Rattle.mk_words.specs.declared.JournalEntry.{JournalEntry}
use Rattle.mk_words.specs.Journals.{EachAnswered}
use Rattle.mk_words.specs.declared.Step.{Step}
use Rattle.mk_words.specs.declared.Step.TheVariants.{Begin, Stamp, Validate, Take, Key, Rule}
use Rattle.mk_history.specs.declared.Path.TheVariants.{Fast}
use Rattle.mk_history.specs.declared.RoundLog.{RoundLog}
use Rattle.mk_model.specs.Logs.{LogReplays}
use Rattle.mk_history.specs.Histories.{History, log_of, journal_of}
use Rattle.mk_history.specs.Matching.{Turn, IsMatched}
use Rattle.mk_history.specs.Shape.{HasShape, begins_in}
use Rattle.mk_history.specs.Legality.{IsLegal}
use Rattle.mk_history.specs.Naming.{IsNamed}
use Rattle.mk_history.specs.Safety.{IsSafe}
use Rattle.mk_history.specs.Wholes.{first_state, setting_of, column_of, cell_of}
use Rattle.mk_history.specs.Learning.{Learnt, learned, commits as commits_of}
use Rattle.mk_history.specs.Learning.Place.{InLog}

abbrev pub id : TxnId
id = record { client = 1; seq = 1 }

abbrev pub ts : StampType
ts = record { time = 10; client = 1 }

abbrev pub check_at : ℕ → Step
check_at r = Key (record { replica = r; key = 0; act = CheckWrite ts }) Okay

abbrev commit_at : ℕ → Step
commit_at r = Key (record { replica = r; key = 0; act = CommitWrite ts (Number 5) }) Done

abbrev pub log : List Step
log =
    Begin 1 0 ∷ (Stamp id 10 (record { key = 0; value = Number 5 } ∷ []) ∷ (Validate id
    ∷ (Take 1 ∷ (check_at 0 ∷ (Take 4 ∷ (Take 2 ∷ (check_at 1 ∷ (Take 5 ∷ (Take 3 ∷ (check_at 2 ∷ (Take 6
    ∷ (Rule id ∷ (Take 7 ∷ (commit_at 0 ∷ (Take 8 ∷ (commit_at 1 ∷ (Take 9 ∷ (commit_at 2 ∷ []))))))))))))))))))

abbrev pub checked : JournalEntry
checked = record { seat = 0; act = CheckWrite ts; answer = Okay }

abbrev pub written : JournalEntry
written = record { seat = 0; act = CommitWrite ts (Number 5); answer = Done }

abbrev pub journal : List JournalEntry
journal = checked ∷ (written ∷ [])

abbrev exchanged : List JournalEntry
exchanged = written ∷ (checked ∷ [])

-- the round, with this journal at the first replica
abbrev pub round_with : List JournalEntry → RoundLog
round_with first = record { logs = log ∷ []; journals = (first ∷ []) ∷ ((journal ∷ []) ∷ ((journal ∷ []) ∷ [])); globals = [] }

-- the client is called a, and the key x
abbrev pub run_with : List JournalEntry → History
run_with first =
    record {
      version = 1;
      faults = 1;
      columns = 1;
      client_columns = 0 ∷ [];
      client_names = (97 ∷ []) ∷ [];
      key_names = (120 ∷ []) ∷ [];
      rounds = round_with first ∷ [];
    }

abbrev pub run : History
run = run_with journal

not_below_one : (n : ℕ) → suc n < 1 → ⊥
not_below_one n h = omega (arith, h)

not_below_three : (n : ℕ) → suc (suc (suc n)) < 3 → ⊥
not_below_three n h = omega (arith, h)

matched : IsMatched run (round_with journal)
matched zero zero zero c r k = refl
matched zero (suc zero) zero c r k = refl
matched zero (suc (suc zero)) zero c r k = refl
matched zero (suc (suc (suc n))) key c r k = absurd (not_below_three n r)
matched zero r (suc key) c h k = absurd (not_below_one key k)
matched (suc n) r key c h k = absurd (not_below_one n c)

log_replays : (c : ℕ) → c < 1 → LogReplays (setting_of run (first_state run)) (column_of (first_state run) c) (log_of (round_with journal) c)
log_replays zero h =
    record {
      enabled =
          (refl, (refl, (refl, (refl, (refl, (refl, (refl, (refl, (refl, (refl, (refl, (refl, (refl, (refl, (refl, (refl, (refl, (refl, (refl, tt)))))))))))))))))));
      finished = refl;
    }
log_replays (suc n) h = absurd (not_below_one n h)

journals_answered : (r key : ℕ) → r < 3 → key < 1 → EachAnswered (cell_of (first_state run) r key) (journal_of (round_with journal) r key)
journals_answered zero zero r k = (refl, (refl, tt))
journals_answered (suc zero) zero r k = (refl, (refl, tt))
journals_answered (suc (suc zero)) zero r k = (refl, (refl, tt))
journals_answered (suc (suc (suc n))) key r k = absurd (not_below_three n r)
journals_answered r (suc key) h k = absurd (not_below_one key k)

pub legal : IsLegal run
legal = (record { logs = log_replays; journals = journals_answered; matched = matched; globals = tt }, tt)

-- the act of a list's first turn
abbrev first_act : List Turn → Act
first_act [] = Get
first_act (turn ∷ turns) = turn.act

pub exchanged_unmatched : IsMatched (run_with exchanged) (round_with exchanged) → ⊥
exchanged_unmatched m = cc (ap first_act (m 0 0 0 (omega arith) (omega arith) (omega arith)))

pub shaped : HasShape run
shaped =
    record {
      version = inl refl;
      faults = (omega arith, omega arith);
      columns = refl;
      few_columns = omega arith;
      clients = refl;
      few_clients = omega arith;
      few_keys = omega arith;
      named_clients = (refl, tt);
      named_keys = (refl, tt);
      distinct_clients = (λ a. a, tt);
      distinct_keys = (λ a. a, tt);
      some_round = omega arith;
      few_rounds = omega arith;
      few_globals = omega arith;
      few_attempts = few_attempts;
      rounds = (record { logs = refl; journals = refl; keys = (refl, (refl, (refl, tt))); steps = refl; entries = refl; globals = refl }, tt);
    }
  where
    few_attempts : (client : ℕ) → sum (map (begins_in client) run.rounds) ≤ 16384
    few_attempts client = grind arith

-- the own coordinator learns at the thirteenth step by fast votes, and then each replica
pub all_learned : learned run
    ≡ record { place = InLog 1 0 13; id = id; outcome = Commit; path = Fast }
    ∷ (record { place = InLog 1 0 14; id = id; outcome = Commit; path = Fast }
    ∷ (record { place = InLog 1 0 16; id = id; outcome = Commit; path = Fast }
    ∷ (record { place = InLog 1 0 18; id = id; outcome = Commit; path = Fast } ∷ [])))
all_learned = refl

pub one_commit : commits_of run
    ≡ record { id = id; stamp = ts; reads = []; writes = record { key = 0; value = Number 5 } ∷ [] } ∷ []
one_commit = refl

-- ---- the run is safe

all_commit : Each (λ (l : Learnt). l.outcome ≡ Commit) (learned run)
all_commit = (refl, (refl, (refl, (refl, tt))))

commits : (l : Learnt) → Among l (learned run) → l.outcome ≡ Commit
commits l a = Each-among (λ (l : Learnt). l.outcome ≡ Commit) l (learned run) all_commit a

none_reads : Each (λ (txn : Transaction). txn.reads ≡ []) (commits_of run)
none_reads = (refl, tt)

no_read : (txn : Transaction) → Among txn (commits_of run) → (item : ReadItem) → Among item txn.reads → ⊥
no_read txn a item b = subst (Among item) (Each-among (λ (txn : Transaction). txn.reads ≡ []) txn (commits_of run) none_reads a) b

pub safe : IsSafe run
safe =
    record {
      agree = λ a b p q e. ap (λ (o : Outcome). agrees o b.outcome) (commits a p) ∙ ap (agrees Commit) (commits b q);
      explained = record { versions = λ txn a item b. absurd (no_read txn a item b); values = λ txn a item b. absurd (no_read txn a item b) };
      named = λ l a. subst (IsNamed run l.id) (sym (commits l a)) tt;
      marks = λ base id a seq covered. absurd a;
    }
