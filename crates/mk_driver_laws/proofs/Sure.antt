-- A step is enabled once its client is known to have a place left, where it takes one.
use Rattle.std.specs.Prelude.{true, ◌≡◌, ◌≤◌, length, None}
use Rattle.mk_quorum.specs.Sizes.{members}
use Rattle.mk_words.specs.declared.Step.{Step}
use Rattle.mk_words.specs.declared.Step.TheVariants.{Begin, Unread, Read, Stamp, Validate, Take, Key, Rule, Again, Takeover, Pick, Stop}
use Rattle.mk_model.specs.ColumnState.{Setting, ColumnState}
use Rattle.mk_model.specs.Conditions.{blocked, has_seq_left}
use Rattle.mk_driver_laws.specs.Enabled.{IsSure}

-- where the step takes a place, its client has one left
abbrev pub HasPlace : ColumnState → Step → Type 0
HasPlace c (Begin client replica) = has_seq_left c client ≡ true
HasPlace c (Unread client) = has_seq_left c client ≡ true
HasPlace c step = Unit {0}

-- with it the step is enabled
abbrev pub IsSureWithPlace : Setting → ColumnState → Step → Type 0
IsSureWithPlace round c (Begin client replica) = has_seq_left c client ≡ true → blocked round c (Begin client replica) ≡ None
IsSureWithPlace round c (Unread client) = length round.views ≤ members round.faults → has_seq_left c client ≡ true → blocked round c (Unread client) ≡ None
IsSureWithPlace round c step = IsSure round c step

pub is_sure : (round : Setting) (c : ColumnState) (step : Step) → IsSureWithPlace round c step → HasPlace c step → IsSure round c step
is_sure round c (Begin client replica) sure place = sure place
is_sure round c (Unread client) sure place = λ few. sure few place
is_sure round c (Read id key) sure place = sure
is_sure round c (Stamp id clock writes) sure place = sure
is_sure round c (Validate id) sure place = sure
is_sure round c (Take number) sure place = sure
is_sure round c (Key call answer) sure place = sure
is_sure round c (Rule id) sure place = sure
is_sure round c (Again id) sure place = sure
is_sure round c (Takeover id view) sure place = sure
is_sure round c (Pick id view) sure place = sure
is_sure round c (Stop id) sure place = sure
