-- Rows: lines and their first faults, by computation.
use Rattle.std.proofs.Common.{◌≡◌, ℕ, List, [], ◌∷◌, None, Err, Ok, refl}
use Rattle.std.specs.Prelude.{codes}
use Rattle.mk_spelling.specs.declared.fault.TextFault.{TextFault}
use Rattle.mk_spelling.specs.declared.fault.TextFault.TheVariants as faults
use Rattle.mk_words.specs.declared.MsgKind.TheVariants as kinds
use Rattle.mk_script.specs.declared.words.Section.{Section}
use Rattle.mk_script.specs.declared.words.Section.TheVariants as sections
use Rattle.mk_script.specs.declared.lines.Fate.TheVariants as fates
use Rattle.mk_script.specs.declared.lines.Point.TheVariants as points
use Rattle.mk_script.specs.Scripts.{State, nothing, no_lines}
use Rattle.mk_script.specs.Faults.{line_result}

-- behind meerkat V / size 1 / client a 0 0
abbrev opened : ℕ → Section → State
opened version section =
    record { section = section; version = version; size = 1; clients = record { name = codes "a"; column = 0; home = 0 } ∷ []; keys = []; retry = None; faults = []; stops = []; rounds = []; round = no_lines }

abbrev Refused : List ℕ → TextFault → Type 0
Refused line fault = line_result (opened 1 sections.Prelude) line ≡ Err fault

abbrev RefusedIn : Section → List ℕ → TextFault → Type 0
RefusedIn section line fault = line_result (opened 2 section) line ≡ Err fault

takeovers : Refused (codes "takeover A.0 1") faults.Large × Refused (codes "takeover a.16385 1") faults.Large × Refused (codes "takeover a.1.2 1") faults.Number
    × Refused (codes "takeover a. 1") faults.Number × Refused (codes "takeover .1 1") faults.Name × Refused (codes "takeover a1 1") faults.Form
    × Refused (codes "takeover b.1 1") faults.Unknown × Refused (codes "takeover a.1 16") faults.Large × Refused (codes "takeover a.1 0") faults.Large
    × Refused (codes "takeover a.1") faults.Form × Refused (codes "takeover a.1 x") faults.Number
takeovers = (refl, refl, refl, refl, refl, refl, refl, refl, refl, refl, refl)

fault_lines : Refused (codes "fault foo A.0 9 0 lose") faults.Unknown × Refused (codes "fault vote A.0 9 0 lose") faults.Large
    × Refused (codes "fault vote A.1 9 0 lose") faults.Name
    × Refused (codes "fault vote b.1 9 0 lose") faults.Unknown × Refused (codes "fault vote a.1 x 0 lose") faults.Number
    × Refused (codes "fault vote a.1 3 0 lose") faults.Large
    × Refused (codes "fault vote a.1 2 0 lose") faults.Large × Refused (codes "fault vote a.1 2 256 foo") faults.Large
    × Refused (codes "fault vote a.1 2 255 deliver") faults.Unknown
    × Refused (codes "fault vote a.1 2 255") faults.Form × Refused (codes "fault vote a1 2 255 lose") faults.Form
fault_lines = (refl, refl, refl, refl, refl, refl, refl, refl, refl, refl, refl)

stops : Refused (codes "stop b.0 foo") faults.Large × Refused (codes "stop a.1.2 read") faults.Number × Refused (codes "stop a1 read") faults.Form
    × Refused (codes "stop .1 read") faults.Name × Refused (codes "stop a.1 foo") faults.Unknown × Refused (codes "stop b.1 read") faults.Unknown
stops = (refl, refl, refl, refl, refl, refl)

txns : Refused (codes "txn b 01 r:x") faults.Unknown × Refused (codes "txn a 01 r:X") faults.Number × Refused (codes "txn a 10") faults.Form
    × Refused (codes "txn a 10 w:Q=x") faults.Number × Refused (codes "txn a 10 w:x=5=6") faults.Number × Refused (codes "txn a 10 w:x=") faults.Number
    × Refused (codes "txn a 10 w:=5") faults.Name × Refused (codes "txn a 10 w:x") faults.Form × Refused (codes "txn a 10 r:") faults.Name
    × Refused (codes "txn a 10 r:x=5") faults.Name × Refused (codes "txn a 10 c:q=foo(01)") faults.Number × Refused (codes "txn a 10 c:Q=foo(1)") faults.Name
    × Refused (codes "txn a 10 c:q=foo(1)") faults.Unknown
    × Refused (codes "txn a 10 c:x=add(7))") faults.Number × Refused (codes "txn a 10 c:x=add()") faults.Number
    × Refused (codes "txn a 10 c:x=add(7)y") faults.Form × Refused (codes "txn a 10 c:x=5") faults.Form × Refused (codes "txn a 10 c:x(1)=add") faults.Form
    × Refused (codes "txn a 10 d:x") faults.Form × Refused (codes "txn a 10  r:x") faults.Form × Refused (codes "txn A 10 r:x") faults.Name
    × Refused (codes "txn a 2305843009213693953 r:x") faults.Large × Refused (codes "txn a 10 w:x=18446744073709551616") faults.Large
txns = (refl, refl, refl, refl, refl, refl, refl, refl, refl, refl, refl, refl, refl, refl, refl, refl, refl, refl, refl, refl, refl, refl, refl)

-- the count of items comes behind their fields
many_items : Refused (codes "txn a 1 r:k r:k r:k r:k r:k r:k r:k r:k r:k r:k r:k r:k r:k r:k r:k r:k r:k") faults.Many
    × Refused (codes "txn a 1 r:k r:k r:k r:k r:k r:k r:k r:k r:k r:k r:k r:k r:k r:k r:k r:k w:x=y") faults.Number
many_items = (refl, refl)

prelude_lines : Refused (codes "size 1") faults.Order × Refused (codes "meerkat 1") faults.Order × Refused (codes "client a 0 3") faults.Large
    × Refused (codes "client A x 0") faults.Name
    × Refused (codes "client b 8 x") faults.Large × Refused (codes "client b 0 x") faults.Number × Refused (codes "client b 0") faults.Form
    × Refused (codes "client a 0 0") faults.Twice
    × Refused (codes "retry 4") faults.Large × Refused (codes "retry x") faults.Number × Refused (codes "retry") faults.Form
    × Refused (codes "foo") faults.Form × Refused (codes " ") faults.Form
prelude_lines = (refl, refl, refl, refl, refl, refl, refl, refl, refl, refl, refl, refl, refl)

global_lines : Refused (codes "wipe 3") faults.Large × Refused (codes "wipe x") faults.Number × Refused (codes "wipe") faults.Form
    × Refused (codes "ask 0") faults.Large
    × Refused (codes "ask 1001") faults.Large × Refused (codes "promise 1") faults.Form × Refused (codes "promise 0 x") faults.Large
    × Refused (codes "promise 1 x") faults.Number
    × Refused (codes "promise 1 3") faults.Large × Refused (codes "merge x") faults.Number × Refused (codes "adopt x 9") faults.Number
    × Refused (codes "enter 1 1") faults.Form × Refused (codes "round 1") faults.Form
global_lines = (refl, refl, refl, refl, refl, refl, refl, refl, refl, refl, refl, refl, refl)

places : RefusedIn sections.Globals (codes "txn a 10 r:x") faults.Order × RefusedIn sections.Globals (codes "takeover a.1 1") faults.Order
    × RefusedIn sections.Round (codes "client b 0 0") faults.Order
    × RefusedIn sections.Round (codes "retry 1") faults.Order × RefusedIn sections.Globals (codes "stop a.1 read") faults.Order
    × RefusedIn sections.Round (codes "fault vote a.1 0 1 lose") faults.Order
    × RefusedIn sections.Opened (codes "round") faults.Order × RefusedIn sections.Opened (codes "wipe 0") faults.Order
    × RefusedIn sections.Prelude (codes "txn a 10 d:X") faults.Name
places = (refl, refl, refl, refl, refl, refl, refl, refl, refl)

first_lines : (line_result nothing (codes "meerkat 3") ≡ Err faults.Unknown) × (line_result nothing (codes "meerkat 01") ≡ Err faults.Unknown)
    × (line_result nothing (codes "meerkat x") ≡ Err faults.Unknown)
    × (line_result nothing (codes "meerkat") ≡ Err faults.Form) × (line_result nothing (codes "txn a 1 d:x") ≡ Err faults.Form)
    × (line_result nothing (codes "txn a 1 r:x") ≡ Err faults.Order)
    × (line_result nothing (codes "size 1") ≡ Err faults.Order) × (line_result nothing (codes "# first") ≡ Ok nothing) × (line_result nothing [] ≡ Ok nothing)
    × (line_result nothing (35 ∷ 128 ∷ []) ≡ Err faults.Byte)
first_lines = (refl, refl, refl, refl, refl, refl, refl, refl, refl, refl)

-- a repeated line, also where one of its parts differs
repeated : (line_result (record (opened 1 sections.Prelude) { faults = record { kind = kinds.Vote; id = record { client = 1; seq = 1 }; replica = 2; nth = 3; fate = fates.Late } ∷ [] }) (codes "fault vote a.1 2 3 lose") ≡ Err faults.Twice)
    × (line_result (record (opened 1 sections.Prelude) { stops = record { id = record { client = 1; seq = 1 }; point = points.Votes } ∷ [] }) (codes "stop a.1 read") ≡ Err faults.Twice)
repeated = (refl, refl)
