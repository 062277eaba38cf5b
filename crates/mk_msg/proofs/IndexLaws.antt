-- What sending a message does to the counts and the places of a link.
use Rattle.std.proofs.Common.{◌≡◌, ℕ, ◌+◌, ◌-◌, ◌<◌, ◌≤◌, Bool, true, false, cond, refl, sym, ap, subst, ◌∙◌, arith, List, [], ◌∷◌, ◌++◌, length, take, Some, None, unwrap_or, nat_le, nat_lt, ◌==◌, length-append, zero, suc}
use Rattle.std.specs.Prelude.{filter, slice_get, option_map}
use Rattle.std.specs.Map.{lookup}
use Rattle.std.proofs.lemmas.Bool.Decides.{nat_tests}
use Rattle.std.proofs.lemmas.List.{take_all, take-append-le}
use Rattle.std.proofs.lemmas.List.Elements.{filter-append}
use Rattle.std.proofs.lemmas.Option.{slice_get_past}
use Rattle.mk_lists.proofs.Filters.{length-filter_at_most}
use Rattle.mk_lists.proofs.Places.{slice_get-append_left, slice_get_push}
use Rattle.mk_txn.specs.declared.TxnId.{TxnId}
use Rattle.mk_words.specs.declared.MsgKind.{MsgKind}
use Rattle.mk_words.specs.declared.Msg.{Msg}
use Rattle.mk_msg.specs.declared.link.Stream.{Stream}
use Rattle.mk_words.specs.Links.{kind_of, is_of, count_of, message, place_in, place_of}
use Rattle.mk_msg.specs.Indexes.{stream_of, same_stream, kept_count, AreCounts, ArePlaces, IsIndexed}

-- ---- counts

length-filter-push : {X : Type 0} (p : X → Bool) (xs : List X) (y : X) → length (filter p (xs ++ y ∷ [])) ≡ length (filter p xs) + cond (p y) 1 0
length-filter-push p xs y = ap length (filter-append p xs (y ∷ [])) ∙ length-append (filter p xs) (filter p (y ∷ [])) ∙ by_test (p y)
  where
    by_test : (b : Bool) → length (filter p xs) + length (cond b (y ∷ []) []) ≡ length (filter p xs) + cond b 1 0
    by_test true = refl
    by_test false = refl

pub count_of-le : (messages : List Msg) (kind : MsgKind) (id : TxnId) (replica : ℕ) → count_of messages kind id replica ≤ length messages
count_of-le messages kind id replica = length-filter_at_most (is_of kind id replica) messages

same_stream-tells : (a b : Stream) → same_stream a b ≡ true → a ≡ b
same_stream-tells a b h =
    let k : a.kind ≡ b.kind = grind (arith, nat_tests, h) in
    let c : a.client ≡ b.client = grind (arith, nat_tests, h) in
    let s : a.seq ≡ b.seq = grind (arith, nat_tests, h) in
    let r : a.replica ≡ b.replica = grind (arith, nat_tests, h) in
    λ i. record { kind = k i; client = c i; seq = s i; replica = r i }

is_of-same_stream : (kind : MsgKind) (id : TxnId) (replica : ℕ) (msg : Msg)
    → is_of kind id replica msg ≡ same_stream (stream_of (kind_of msg.body) msg.id msg.replica) (stream_of kind id replica)
is_of-same_stream kind id replica msg = grind (arith, nat_tests)

count_of-push : (messages : List Msg) (msg : Msg) (kind : MsgKind) (id : TxnId) (replica : ℕ)
    → count_of (messages ++ msg ∷ []) kind id replica ≡ count_of messages kind id replica + cond (same_stream (stream_of (kind_of msg.body) msg.id msg.replica) (stream_of kind id replica)) 1 0
count_of-push messages msg kind id replica =
    length-filter-push (is_of kind id replica) messages msg
    ∙ ap (λ b. count_of messages kind id replica + cond b 1 0) (is_of-same_stream kind id replica msg)

AreCounts-sent : (messages : List Msg) (msg : Msg) (old new : List (Stream × ℕ)) (stream : Stream) (n : ℕ)
    → stream ≡ stream_of (kind_of msg.body) msg.id msg.replica → n ≡ place_in messages msg + 1
    → ((q : Stream) → lookup (same_stream q) new ≡ cond (same_stream stream q) (Some n) (lookup (same_stream q) old)) → AreCounts messages old → AreCounts (messages ++ msg ∷ []) new
AreCounts-sent messages msg old new stream n is counted puts were kind id replica = by_test (same_stream stream (stream_of kind id replica)) refl
  where
    by_test : (b : Bool) → same_stream stream (stream_of kind id replica) ≡ b
        → kept_count new (stream_of kind id replica) ≡ count_of (messages ++ msg ∷ []) kind id replica
    by_test true e =
        let q = stream_of kind id replica in
        let now : kept_count new q ≡ n = ap (λ o. unwrap_or o 0) (puts q ∙ ap (λ b. cond b (Some n) (lookup (same_stream q) old)) e) in
        let of_msg : q ≡ stream_of (kind_of msg.body) msg.id msg.replica = sym (same_stream-tells stream q e) ∙ is in
        let base : count_of messages kind id replica ≡ place_in messages msg =
        sym (were kind id replica) ∙ ap (kept_count old) of_msg ∙ were (kind_of msg.body) msg.id msg.replica in
        let one : same_stream (stream_of (kind_of msg.body) msg.id msg.replica) q ≡ true = subst (λ s. same_stream s q ≡ true) is e in
        let more : count_of (messages ++ msg ∷ []) kind id replica ≡ count_of messages kind id replica + 1 =
        count_of-push messages msg kind id replica ∙ ap (λ b. count_of messages kind id replica + cond b 1 0) one in
        now ∙ counted ∙ ap (λ k. k + 1) (sym base) ∙ sym more
    by_test false e =
        let q = stream_of kind id replica in
        let now : kept_count new q ≡ kept_count old q = ap (λ o. unwrap_or o 0) (puts q ∙ ap (λ b. cond b (Some n) (lookup (same_stream q) old)) e) in
        let none : same_stream (stream_of (kind_of msg.body) msg.id msg.replica) q ≡ false = subst (λ s. same_stream s q ≡ false) is e in
        let more : count_of (messages ++ msg ∷ []) kind id replica ≡ count_of messages kind id replica + 0 =
        count_of-push messages msg kind id replica ∙ ap (λ b. count_of messages kind id replica + cond b 1 0) none in
        let stay : count_of messages kind id replica + 0 ≡ count_of messages kind id replica = omega arith in
        now ∙ were kind id replica ∙ sym (more ∙ stay)

-- ---- places

message-after : (messages : List Msg) (index : ℕ) → message messages (index + 1) ≡ slice_get messages index
message-after messages index =
    let on : nat_le 1 (index + 1) ≡ true = grind (arith, nat_tests) in
    let back : index + 1 - 1 ≡ index = omega arith in
    ap (λ b. cond b (slice_get messages (index + 1 - 1)) None) on ∙ ap (slice_get messages) back

pub place_of-after : (messages : List Msg) (index : ℕ)
    → place_of messages (index + 1) ≡ option_map (place_in (take (index + 1) messages)) (slice_get messages index)
place_of-after messages index = ap (option_map (place_in (take (index + 1) messages))) (message-after messages index)

place_in-sent : (messages : List Msg) (msg : Msg) → place_in (messages ++ msg ∷ []) msg ≡ place_in messages msg + 1
place_in-sent messages msg =
    let itself : same_stream (stream_of (kind_of msg.body) msg.id msg.replica) (stream_of (kind_of msg.body) msg.id msg.replica) ≡ true =
    grind (arith, nat_tests) in
    count_of-push messages msg (kind_of msg.body) msg.id msg.replica ∙ ap (λ b. place_in messages msg + cond b 1 0) itself

ArePlaces-sent : (messages : List Msg) (msg : Msg) (places : List ℕ) (n : ℕ) → length places ≡ length messages → n ≡ place_in messages msg + 1
    → ArePlaces messages places → ArePlaces (messages ++ msg ∷ []) (places ++ n ∷ [])
ArePlaces-sent messages msg places n beside counted placed index = by_order (nat_lt index (length messages)) (index == length messages) refl refl
  where
    by_order : (b c : Bool) → nat_lt index (length messages) ≡ b → (index == length messages) ≡ c
        → slice_get (places ++ n ∷ []) index ≡ place_of (messages ++ msg ∷ []) (index + 1)
    by_order true c e f =
        let lt : index < length messages = grind (arith, nat_tests, e) in
        let front : take (index + 1) (messages ++ msg ∷ []) ≡ take (index + 1) messages = take-append-le (index + 1) messages (msg ∷ []) (omega (arith, lt)) in
        let there : slice_get (messages ++ msg ∷ []) index ≡ slice_get messages index = slice_get-append_left messages (msg ∷ []) index lt in
        slice_get-append_left places (n ∷ []) index (omega (arith, lt, beside)) ∙ placed index ∙ place_of-after messages index
        ∙ sym (place_of-after (messages ++ msg ∷ []) index ∙ ap (λ upto. option_map (place_in upto) (slice_get (messages ++ msg ∷ []) index)) front ∙ ap (option_map (place_in (take (index + 1) messages))) there)
    by_order false true e f =
        let here : index ≡ length messages = grind (arith, nat_tests, f) in
        let whole : take (index + 1) (messages ++ msg ∷ []) ≡ messages ++ msg ∷ [] =
        take_all (index + 1) (messages ++ msg ∷ []) (omega (arith, here, length-append messages (msg ∷ []))) in
        let there : slice_get (messages ++ msg ∷ []) index ≡ Some msg = slice_get_push messages msg index here in
        let place : place_of (messages ++ msg ∷ []) (index + 1) ≡ Some (place_in (messages ++ msg ∷ []) msg) =
        place_of-after (messages ++ msg ∷ []) index ∙ ap (λ upto. option_map (place_in upto) (slice_get (messages ++ msg ∷ []) index)) whole
        ∙ ap (option_map (place_in (messages ++ msg ∷ []))) there in
        slice_get_push places n index (here ∙ sym beside) ∙ ap Some (counted ∙ sym (place_in-sent messages msg)) ∙ sym place
    by_order false false e f =
        let past : length messages + 1 ≤ index = grind (arith, nat_tests, e, f) in
        let no_message : slice_get (messages ++ msg ∷ []) index ≡ None =
        slice_get_past (messages ++ msg ∷ []) index (omega (arith, past, length-append messages (msg ∷ []))) in
        let no_place : slice_get (places ++ n ∷ []) index ≡ None =
        slice_get_past (places ++ n ∷ []) index (omega (arith, past, beside, length-append places (n ∷ []))) in
        no_place ∙ sym (place_of-after (messages ++ msg ∷ []) index ∙ ap (option_map (place_in (take (index + 1) (messages ++ msg ∷ [])))) no_message)

-- ---- the index

pub IsIndexed-sent : (messages : List Msg) (msg : Msg) (places : List ℕ) (old new : List (Stream × ℕ)) (stream : Stream) (n : ℕ)
    → stream ≡ stream_of (kind_of msg.body) msg.id msg.replica → n ≡ place_in messages msg + 1
    → ((q : Stream) → lookup (same_stream q) new ≡ cond (same_stream stream q) (Some n) (lookup (same_stream q) old)) → IsIndexed messages places old → IsIndexed (messages ++ msg ∷ []) (places ++ n ∷ []) new
IsIndexed-sent messages msg places old new stream n is counted puts h = record {
  counted = AreCounts-sent messages msg old new stream n is counted puts h.counted;
  beside = omega (arith, h.beside, length-append messages (msg ∷ []), length-append places (n ∷ []));
  placed = ArePlaces-sent messages msg places n h.beside counted h.placed;
}

-- the order of the counts is of no account
pub IsIndexed-reordered : (messages : List Msg) (places : List ℕ) (old new : List (Stream × ℕ))
    → ((q : Stream) → lookup (same_stream q) new ≡ lookup (same_stream q) old) → IsIndexed messages places old → IsIndexed messages places new
IsIndexed-reordered messages places old new same h = record {
  counted = λ kind id replica. ap (λ o. unwrap_or o 0) (same (stream_of kind id replica)) ∙ h.counted kind id replica;
  beside = h.beside;
  placed = h.placed;
}
