-- Which next steps deliver: takes and key calls.
use Rattle.std.specs.Prelude.{Bool, true, false}
use Rattle.mk_words.specs.declared.Step.TheVariants.{Take}
use Rattle.mk_driver.specs.declared.Next.{Next}
use Rattle.mk_driver.specs.declared.Next.TheVariants.{Step as StepNext, Key as KeyNext}

-- a message is to be taken, or a key call is wanted
abbrev pub is_delivery : Next → Bool
is_delivery (StepNext (Take number)) = true
is_delivery (KeyNext call) = true
is_delivery _ = false
