-- How many attempts each client has begun.
use Rattle.std.specs.Prelude.{◌+◌, ◌-◌, ◌^◌, ℕ, zero, suc, List, [], ◌∷◌, min, get_or, Option, Some, None}
use Rattle.mk_words.specs.declared.Step.{Step}
use Rattle.mk_words.specs.declared.Step.TheVariants.{Begin, Unread}

-- one more; at the end of 32 bits it stands still
abbrev pub risen : ℕ → ℕ
risen n = min (n + 1) (2 ^ 32 - 1)

-- one more at this place
abbrev pub raised : List ℕ → ℕ → List ℕ
raised [] place = []
raised (n ∷ ns) zero = risen n ∷ ns
raised (n ∷ ns) (suc place) = n ∷ raised ns place

-- how many attempts the client of this number has begun, which counts from 1
abbrev pub begun_of : List ℕ → ℕ → ℕ
begun_of begun client = get_or begun (client - 1) 0

-- the client whose attempt a step begins, read or unread
abbrev pub beginner : Step → Option ℕ
beginner (Begin client replica) = Some client
beginner (Unread client) = Some client
beginner _ = None

-- such a step counts at its client
abbrev pub begun_after : List ℕ → Step → List ℕ
begun_after begun (Begin client replica) = raised begun (client - 1)
begun_after begun (Unread client) = raised begun (client - 1)
begun_after begun _ = begun

-- the seq that a step begins, and 0 where it begins none
abbrev pub seq_of : List ℕ → Step → ℕ
seq_of begun (Begin client replica) = begun_of begun client + 1
seq_of begun (Unread client) = begun_of begun client + 1
seq_of begun _ = 0

-- what a log begins
abbrev pub begun_through : List ℕ → List Step → List ℕ
begun_through begun [] = begun
begun_through begun (step ∷ steps) = begun_through (begun_after begun step) steps

-- what the logs of a round begin
abbrev pub begun_in : List ℕ → List (List Step) → List ℕ
begun_in begun [] = begun
begun_in begun (log ∷ logs) = begun_in (begun_through begun log) logs
