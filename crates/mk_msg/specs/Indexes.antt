-- The index of a link: the place of each message, and how many there are of each kind, attempt and replica.
use Rattle.std.specs.Prelude.{◌≡◌, ℕ, Bool, ◌+◌, ◌&&◌, ◌==◌, List, length, slice_get, unwrap_or}
use Rattle.std.specs.Map.{lookup}
use Rattle.mk_txn.specs.declared.TxnId.{TxnId}
use Rattle.mk_words.specs.declared.MsgKind.{MsgKind}
use Rattle.mk_words.specs.declared.Msg.{Msg}
use Rattle.mk_msg.specs.declared.link.Stream.{Stream}
use Rattle.mk_words.specs.Links.{kind_number, count_of, place_of}

-- what messages of this kind, attempt and replica are counted by
abbrev pub stream_of : MsgKind → TxnId → ℕ → Stream
stream_of kind id replica = record { kind = kind_number kind; client = id.client; seq = id.seq; replica = replica }

-- whether two streams are one
abbrev pub same_stream : Stream → Stream → Bool
same_stream a b = a.kind == b.kind && (a.client == b.client && (a.seq == b.seq && a.replica == b.replica))

-- the count that is kept for a stream, 0 where there is none
abbrev pub kept_count : List (Stream × ℕ) → Stream → ℕ
kept_count counts stream = unwrap_or (lookup (same_stream stream) counts) 0

-- the counts are those of the messages
abbrev pub AreCounts : List Msg → List (Stream × ℕ) → Type 0
AreCounts messages counts = (kind : MsgKind) (id : TxnId) (replica : ℕ) → kept_count counts (stream_of kind id replica) ≡ count_of messages kind id replica

-- beside each message stands its place
abbrev pub ArePlaces : List Msg → List ℕ → Type 0
ArePlaces messages places = (index : ℕ) → slice_get places index ≡ place_of messages (index + 1)

-- places and counts are those of the messages
pub record IsIndexed (messages : List Msg) (places : List ℕ) (counts : List (Stream × ℕ)) : Type 0 where
  pub counted : AreCounts messages counts
  pub beside : length places ≡ length messages
  pub placed : ArePlaces messages places
