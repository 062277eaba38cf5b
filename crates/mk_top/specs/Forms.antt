-- The forms of words, and what each asks for.
use Rattle.std.specs.Prelude.{◌^◌, ◌-◌, ◌≤◌, ℕ, Bool, true, false, List, [], ◌∷◌, codes, Option, Some, None, Result, Ok, Err, if◌then◌else◌}
use Rattle.std.specs.Str.{bytes_eq}
use Rattle.mk_spelling.specs.declared.fault.TextFault.{TextFault}
use Rattle.mk_spelling.specs.Words.{number}
use Rattle.mk_spelling.specs.Fields.{◌>>=◌}
use Rattle.mk_top.specs.declared.form.Load.{Load}
use Rattle.mk_top.specs.declared.form.Form.{Form}
use Rattle.mk_top.specs.declared.form.Form.TheVariants.{Report, Trace, Json, Follow, Summary}

-- run
abbrev pub one_word : List ℕ → Option Form
one_word word = if bytes_eq word (codes "run") then Some Report else None

-- --trace, --json, or --follow
abbrev pub option_form : List ℕ → Option Form
option_form option =
    if bytes_eq option (codes "--trace")
    then Some Trace
    else if bytes_eq option (codes "--json") then Some Json else if bytes_eq option (codes "--follow") then Some Follow else None

-- run with one of the three behind it
abbrev pub two_words : List ℕ → List ℕ → Option Form
two_words word option = if bytes_eq word (codes "run") then option_form option else None

-- four numbers without leading zeros: any number below 2^64, and how many clients, transactions and keys a script can be made with
abbrev pub load_of : List ℕ → List ℕ → List ℕ → List ℕ → Result Load TextFault
load_of first second third fourth =
    number 0 (2 ^ 64 - 1) first >>= (λ n. number 1 64 second >>= (λ clients. number 0 4096 third >>= (λ txns. number clients 256 fourth >>= (λ keys.
    Ok (record { number = n; clients = clients; txns = txns; keys = keys })))))

-- the form of a load that is there
abbrev pub of_load : Result Load TextFault → Option Form
of_load (Ok load) = Some (Summary load)
of_load (Err fault) = None

-- gen NUMBER CLIENTS TXNS KEYS
abbrev pub five_words : List ℕ → List ℕ → List ℕ → List ℕ → List ℕ → Option Form
five_words word first second third fourth = if bytes_eq word (codes "gen") then of_load (load_of first second third fourth) else None

-- the form of the words, and none for all other words
abbrev pub form_of : List (List ℕ) → Option Form
form_of (word ∷ []) = one_word word
form_of (word ∷ option ∷ []) = two_words word option
form_of (word ∷ first ∷ second ∷ third ∷ fourth ∷ []) = five_words word first second third fourth
form_of _ = None

-- a script can be made with so many clients, transactions and keys
pub record IsLoad (load : Load) : Type 0 where
  pub some_clients : 1 ≤ load.clients
  pub few_clients : load.clients ≤ 64
  pub few_txns : load.txns ≤ 4096
  pub enough_keys : load.clients ≤ load.keys
  pub few_keys : load.keys ≤ 256

-- the form's numbers are in range
abbrev pub Fits : Form → Type 0
Fits Report = Unit {0}
Fits Trace = Unit {0}
Fits Json = Unit {0}
Fits Follow = Unit {0}
Fits (Summary load) = IsLoad load

-- a form that reads a script
abbrev pub reads : Form → Bool
reads Report = true
reads Trace = true
reads Json = true
reads Follow = true
reads (Summary load) = false

-- words of a form that reads a script
abbrev pub are_reading : Option Form → Bool
are_reading (Some form) = reads form
are_reading None = false
