-- A search that halves what is left takes no more steps than there are binary digits.
use Rattle.std.proofs.Common.{◌≡◌, ℕ, zero, suc, ◌+◌, ◌<◌, ◌≤◌, ◌^◌, refl, arith}
use Rattle.mk_cell.specs.Searching.{HasDigits}

-- so many halvings may still come, and with those done they are as many as the digits
pub record Halvings (start now size digits : ℕ) : Type 0 where
  pub left : ℕ
  pub counted : now + left ≡ start + digits
  pub few : size < 2 ^ left

-- however many digits the count has
abbrev pub AreHalved : ℕ → ℕ → ℕ → ℕ → Type 0
AreHalved start now size count = (digits : ℕ) → HasDigits count digits → Halvings start now size digits

pub AreHalved-first : (start size count : ℕ) → size ≤ count → AreHalved start start size count
AreHalved-first start size count s digits h = record { left = digits; counted = refl; few = omega (arith, s, h) }

halved : (start now size size' digits left : ℕ) → 0 < size → size' + size' ≤ size → now + left ≡ start + digits → size < 2 ^ left → Halvings start (now + 1) size' digits
halved start now size size' digits zero p e c f = absurd (omega (arith, p, f))
halved start now size size' digits (suc left) p e c f = record { left = left; counted = omega (arith, c); few = omega (arith, e, f) }

pub AreHalved-again : (start now later size size' count : ℕ) → later ≡ now + 1 → 0 < size → size' + size' ≤ size → AreHalved start now size count → AreHalved start later size' count
AreHalved-again start now later size size' count l p e h digits d =
    let was = h digits d in
    let next = halved start now size size' digits was.left p e was.counted was.few in
    record { left = next.left; counted = omega (arith, l, next.counted); few = next.few }
