-- What a column keeps when a round begins.
use Rattle.std.proofs.Common.{◌≡◌, ◌<◌, ℕ, true, false, refl, sym, subst, ap, ◌+◌, ◌∙◌, List, [], ◌∷◌, Option, Some, None, ◌||◌, ◌==◌}
use Rattle.std.specs.Prelude.{map, option_map, IsSome}
use Rattle.std.proofs.lemmas.Option.{none-some}
use Rattle.std.proofs.lemmas.Bool.{false≢true}
use Rattle.mk_quorum.specs.Sizes.{members}
use Rattle.mk_model.specs.Replicas.{Held}
use Rattle.mk_column.specs.declared.work.Work.{Work as KeptWork}
use Rattle.mk_column.specs.declared.work.Work.TheVariants.{Idle as KeptIdle, Fetching as KeptFetching, Validating as KeptValidating, Finishing as KeptFinishing}
use Rattle.mk_lists.specs.Among.{Each-weaker}
use Rattle.mk_lists.proofs.Lookups.{find-map}
use Rattle.mk_lists.proofs.EachMember.{Each-map}
use Rattle.mk_column.specs.TakeoversByCode.{BackupView}
use Rattle.mk_column.proofs.ListLaws.{map-there}
use Rattle.mk_txn.specs.declared.TxnId.{TxnId}
use Rattle.mk_quorum.specs.Slots.{passes}
use Rattle.mk_trim.specs.SettledAttempts.{SettledAttempts}
use Rattle.mk_words.specs.declared.Msg.{Msg}
use Rattle.mk_trim.specs.declared.ReplicaView.{ReplicaView}
use Rattle.mk_words.specs.declared.Step.{Step}
use Rattle.mk_column.specs.declared.clients.Client.{Client}
use Rattle.mk_column.specs.ClientsByCode.{not_reading as silent, kept_client, client_state, client_states}
use Rattle.mk_model.specs.ColumnState.{is_settled, Learning}
use Rattle.mk_model.specs.Logs.{not_reading, reading_ended}
use Rattle.mk_column.specs.AttemptsByCode.{BegunView, on_state, is_begun, begun_of, states_of}
use Rattle.mk_column.specs.ColumnByCode.{ColumnView, Kept, IsKept, column_of, AttemptFits, ClientFits, MayRead, WorkFits, has_reading, learning_of_kept}
use Rattle.mk_column.proofs.EachMapped.{map-both}

-- an attempt that reads no more
abbrev pub quiet : BegunView → BegunView
quiet = on_state not_reading

-- the parts of a column in which nothing reads any more
abbrev pub quiet_kept : Kept → Kept
quiet_kept kept = record kept { clients = map silent kept.clients; attempts = map quiet kept.attempts }

begun-quiet : (id : TxnId) (all : List BegunView) → begun_of id (map quiet all) ≡ option_map quiet (begun_of id all)
begun-quiet id all = find-map (is_begun id) quiet all

none-quiet : (id : TxnId) (all : List BegunView) → begun_of id (map quiet all) ≡ None → begun_of id all ≡ None
none-quiet id all e = from (begun_of id all) (sym (begun-quiet id all) ∙ e)
  where
    from : (o : Option BegunView) → option_map quiet o ≡ None → o ≡ None
    from None h = refl
    from (Some begun) h = absurd (none-some (quiet begun) (sym h))

settled-quiet : (o : Option BegunView)
    → passes (λ (begun : BegunView). is_settled begun.state) (option_map quiet o) ≡ passes (λ (begun : BegunView). is_settled begun.state) o
settled-quiet None = refl
settled-quiet (Some begun) = refl

no_reading : (client : ℕ) (all : List BegunView) → has_reading client (map quiet all) ≡ false
no_reading client [] = refl
no_reading client (begun ∷ all) = no_reading client all

attempt-quiet : (f : ℕ) (link : List Msg) (learned : List Learning) (begun : BegunView) → AttemptFits f link learned begun
    → AttemptFits f link learned (quiet begun)
attempt-quiet f link learned begun h =
    record { faults = h.faults; validated = h.validated; decided = h.decided; named = h.named; acts = h.acts; unstamped = λ e. absurd (false≢true e); seq = h.seq }

client-quiet : (attempts : List BegunView) (client : Client) → ClientFits attempts client → ClientFits (map quiet attempts) (silent client)
client-quiet attempts client h =
    record {
      reading = sym (no_reading client.number attempts);
      last_time = h.last_time;
      next_seq =
          Each-map (λ (begun : BegunView). begun.state.id.client ≡ client.number → begun.state.id.seq < client.next_seq)
          (λ (begun : BegunView). begun.state.id.client ≡ client.number → begun.state.id.seq < client.next_seq) quiet (λ begun k. k) attempts h.next_seq;
      last =
          Each-map (λ (begun : BegunView). begun.state.id.client ≡ client.number → begun.state.reading ≡ true → begun.state.id.seq + 1 ≡ client.next_seq)
          (λ (begun : BegunView). begun.state.id.client ≡ client.number → begun.state.reading ≡ true → begun.state.id.seq + 1 ≡ client.next_seq) quiet
          (λ begun k same reads. absurd (false≢true reads)) attempts h.last;
    }

home-quiet : (n : ℕ) (all : List Client) → IsSome (kept_client n all) → IsSome (kept_client n (map silent all))
home-quiet n all h = subst IsSome (sym (find-map (λ (c : Client). c.number == n) silent all)) (from (kept_client n all) h)
  where
    from : (o : Option Client) → IsSome o → IsSome (option_map silent o)
    from None k = absurd (false≢true k)
    from (Some client) k = refl

work-quiet : (n : ℕ) (attempts : List BegunView) (replicas : List Held) (work : KeptWork) → WorkFits n attempts replicas work
    → WorkFits n (map quiet attempts) replicas work
work-quiet n attempts replicas KeptIdle h = tt
work-quiet n attempts replicas (KeptFetching id replica key) h = subst (MayRead key) (sym (begun-quiet id attempts)) (from (begun_of id attempts) h)
  where
    from : (o : Option BegunView) → MayRead key o → MayRead key (option_map quiet o)
    from None k = k
    from (Some begun) k = k
work-quiet n attempts replicas (KeptValidating txn replica epoch state) h = h
work-quiet n attempts replicas (KeptFinishing replica left) h = h

-- a round that begins keeps what the column keeps
pub IsKept-quiet : (f : ℕ) (kept : Kept) (ends : SettledAttempts) → IsKept f kept ends → IsKept f (quiet_kept kept) ends
IsKept-quiet f kept ends h =
    record {
      replicas = h.replicas;
      attempts =
          Each-map (AttemptFits f kept.link (map learning_of_kept kept.learned)) (AttemptFits f kept.link (map learning_of_kept kept.learned)) quiet
          (attempt-quiet f kept.link (map learning_of_kept kept.learned)) kept.attempts h.attempts;
      takeovers = h.takeovers;
      clients = Each-map (ClientFits kept.attempts) (ClientFits (map quiet kept.attempts)) silent (client-quiet kept.attempts) kept.clients h.clients;
      sent = h.sent;
      settled =
          λ id. h.settled id
          ∙ ap (λ b. (id.seq == 0) || b) (sym (ap (passes (λ (begun : BegunView). is_settled begun.state)) (begun-quiet id kept.attempts) ∙ settled-quiet (begun_of id kept.attempts)));
      decisions = λ id none. h.decisions id (none-quiet id kept.attempts none);
      validates = λ id none. h.validates id (none-quiet id kept.attempts none);
      homes =
          Each-map (λ (begun : BegunView). IsSome (kept_client begun.state.id.client kept.clients))
          (λ (begun : BegunView). IsSome (kept_client begun.state.id.client (map silent kept.clients))) quiet
          (λ begun k. home-quiet begun.state.id.client kept.clients k) kept.attempts h.homes;
      work = work-quiet (members f) kept.attempts kept.replicas kept.work h.work;
      takers =
          Each-weaker (λ (backup : BackupView). IsSome (begun_of backup.of.id kept.attempts))
          (λ (backup : BackupView). IsSome (begun_of backup.of.id (map quiet kept.attempts)))
          (λ backup k. subst IsSome (sym (begun-quiet backup.of.id kept.attempts)) (map-there quiet (begun_of backup.of.id kept.attempts) k)) kept.takeovers h.takers;
    }

-- a round that begins, as contracts see it
pub round-view : (now : ColumnView) (kept : Kept) (before after : List ReplicaView) (clients : List Client) (attempts : List BegunView)
    → attempts ≡ map quiet kept.attempts → clients ≡ map silent kept.clients
    → (number version f keys : ℕ) (log : List Step)
    → record { number = number; setting = record { version = version; faults = f; keys = keys; views = before }; state = column_of kept; log = log } ≡ now
    → record { number = number; setting = record { version = version; faults = f; keys = keys; views = after }; state = column_of (record kept { clients = clients; attempts = attempts }); log = log }
    ≡ record now { setting = record now.setting { views = after }; state = reading_ended now.state }
round-view now kept before after clients attempts attempts_are clients_are number version f keys log is =
    let seen_clients : client_states clients ≡ client_states kept.clients =
    ap client_states clients_are ∙ map-both client_state silent client_state (λ c. refl) kept.clients in
    let seen_attempts : states_of attempts ≡ map not_reading (states_of kept.attempts) =
    ap states_of attempts_are ∙ map-both (λ (b : BegunView). b.state) quiet (λ (b : BegunView). not_reading b.state) (λ b. refl) kept.attempts
    ∙ sym (map-both not_reading (λ (b : BegunView). b.state) (λ (b : BegunView). not_reading b.state) (λ b. refl) kept.attempts) in
    (λ i. record {
      number = number;
      setting = record { version = version; faults = f; keys = keys; views = after };
      state = record (column_of kept) { clients = seen_clients i; attempts = seen_attempts i };
      log = log;
    })
    ∙ ap (λ (column : ColumnView). record column { setting = record column.setting { views = after }; state = reading_ended column.state }) is
