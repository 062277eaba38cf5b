-- Clients of different numbers that have begun nothing.
use Rattle.std.proofs.Common.{◌≡◌, ℕ, zero, suc, ◌<◌, Bool, true, false, cond, refl, sym, subst, ap, ◌∙◌, arith, List, [], ◌∷◌, length, get_or, take, Some, None, ◌==◌}
use Rattle.std.specs.Prelude.{map, replicate}
use Rattle.std.proofs.lemmas.List.{length-replicate}
use Rattle.std.proofs.lemmas.Bool.Decides.{nat_tests}
use Rattle.std.proofs.Math.Bool.{or-false}
use Rattle.mk_lists.specs.Among.{Among, AllDistinct, Each}
use Rattle.mk_lists.proofs.Members.{Among-get_or}
use Rattle.mk_column.specs.declared.clients.Client.{Client}
use Rattle.mk_column.specs.ClientsByCode.{fresh_client, kept_client, client_state, client_states}
use Rattle.mk_txn.specs.declared.TxnId.{TxnId}
use Rattle.mk_quorum.specs.Sizes.{members}
use Rattle.mk_trim.specs.SettledAttempts.{SettledAttempts, is_settled as is_kept_settled}
use Rattle.mk_words.specs.declared.Msg.{Msg}
use Rattle.mk_trim.specs.declared.ReplicaView.{ReplicaView}
use Rattle.mk_words.specs.declared.Step.{Step}
use Rattle.mk_column.specs.declared.learned.Learned.{Learned}
use Rattle.mk_column.specs.declared.work.Work.TheVariants.{Idle as KeptIdle}
use Rattle.mk_model.specs.ColumnState.{new_client}
use Rattle.mk_model.specs.ColumnState.Work.{Idle}
use Rattle.mk_model.specs.Replicas.{Held, nothing_held}
use Rattle.mk_column.specs.AttemptsByCode.{BegunView, states_of}
use Rattle.mk_column.specs.TakeoversByCode.{BackupView, takeovers_of}
use Rattle.mk_column.specs.ColumnByCode.{IsKept, ClientFits, column_of, column_at_start, learning_of_kept}
use Rattle.mk_column.proofs.EachMapped.{map-both, map-replicate}

-- no client of the next number is there
pub fresh-none : (n : ℕ) (xs : List ℕ) → n < length xs → AllDistinct xs → kept_client (get_or xs n 0) (map fresh_client (take n xs)) ≡ None
fresh-none zero [] h d = refl
fresh-none zero (x ∷ xs) h d = refl
fresh-none (suc n) [] h d = absurd (omega arith)
fresh-none (suc n) (x ∷ xs) h d = by_test (x == get_or xs n 0) refl (fresh-none n xs (omega arith) d.1)
  where
    by_test : (b : Bool) → (x == get_or xs n 0) ≡ b → kept_client (get_or xs n 0) (map fresh_client (take n xs)) ≡ None
        → cond b (Some (fresh_client x)) (kept_client (get_or xs n 0) (map fresh_client (take n xs))) ≡ None
    by_test true e ih =
        let same : x ≡ get_or xs n 0 = grind (arith, nat_tests, e) in
        absurd (d.0 (subst (λ y. Among y xs) (sym same) (Among-get_or xs n 0 (omega arith))))
    by_test false e ih = ih

pub fresh-fit : (xs : List ℕ) → Each (ClientFits []) (map fresh_client xs)
fresh-fit [] = tt
fresh-fit (x ∷ xs) = (record { reading = refl; last_time = omega arith; next_seq = tt; last = tt }, fresh-fit xs)

-- a column at the start, as contracts see it
pub start-view : (number version f keys : ℕ) (numbers : List ℕ) (views : List ReplicaView) (clients : List Client) (attempts : List BegunView) (takeovers : List BackupView) (replicas : List Held) (link : List Msg) (learned : List Learned) (log : List Step)
    → views ≡ [] → clients ≡ map fresh_client numbers → attempts ≡ [] → takeovers ≡ [] → replicas ≡ replicate (members f) nothing_held → link ≡ []
    → learned ≡ [] → log ≡ []
    → (record {
      number = number;
      setting = record { version = version; faults = f; keys = keys; views = views };
      state =
          column_of
          (record { clients = clients; attempts = attempts; takeovers = takeovers; replicas = replicas; link = link; work = KeptIdle; learned = learned });
      log = log;
    }) ≡ column_at_start number (record { version = version; faults = f; keys = keys; views = [] }) numbers
start-view number version f keys numbers views clients attempts takeovers replicas link learned log e0 e1 e2 e3 e4 e5 e6 e7 =
    let clients_are : client_states clients ≡ map new_client numbers =
    ap client_states e1 ∙ map-both client_state fresh_client new_client (λ n. refl) numbers in
    let records_are : map (λ (held : Held). held.entries) replicas ≡ replicate (members f) [] =
    ap (map (λ (held : Held). held.entries)) e4 ∙ map-replicate (λ (held : Held). held.entries) (members f) nothing_held in
    let marks_are : map (λ (held : Held). held.marks) replicas ≡ replicate (members f) [] =
    ap (map (λ (held : Held). held.marks)) e4 ∙ map-replicate (λ (held : Held). held.marks) (members f) nothing_held in
    λ i. record {
      number = number;
      setting = record { version = version; faults = f; keys = keys; views = e0 i };
      state = record {
        clients = clients_are i;
        attempts = states_of (e2 i);
        takeovers = takeovers_of (e3 i);
        records = records_are i;
        marks = marks_are i;
        link = e5 i;
        work = Idle;
        learned = map learning_of_kept (e6 i);
      };
      log = e7 i;
    }

-- and what it keeps
pub start-kept : (f : ℕ) (numbers : List ℕ) (ends : SettledAttempts) (clients : List Client) (attempts : List BegunView) (takeovers : List BackupView)
    (replicas : List Held) (link : List Msg) (learned : List Learned)
    → clients ≡ map fresh_client numbers → attempts ≡ [] → takeovers ≡ [] → replicas ≡ replicate (members f) nothing_held → link ≡ [] → learned ≡ []
    → ((id : TxnId) → is_kept_settled ends id ≡ (id.seq == 0))
    → IsKept f (record { clients = clients; attempts = attempts; takeovers = takeovers; replicas = replicas; link = link; work = KeptIdle; learned = learned }) ends
start-kept f numbers ends clients attempts takeovers replicas link learned e1 e2 e3 e4 e5 e6 s =
    rw (e1, e2, e3, e4, e5, e6) (record {
      replicas = length-replicate (members f) nothing_held;
      attempts = tt;
      takeovers = tt;
      clients = fresh-fit numbers;
      sent = tt;
      settled = λ id. s id ∙ sym (or-false (id.seq == 0));
      decisions = λ id none. refl;
      validates = λ id none. refl;
      homes = tt;
      takers = tt;
      work = tt;
    })
