-- Once a round has begun, no line changes the head.
use Rattle.std.proofs.Common.{◌≡◌, ◌⊎◌, Bool, true, false, refl, ap, inl, inr}
use Rattle.mk_trace_lines.specs.TraceLines.{TraceLine}
use Rattle.mk_trace_lines.specs.TraceLines.TraceLine.{Opens, Sizes, Declares, Names, Begins, Heads, Logged, Marks, Kept, Changes, Changed, Ends}
use Rattle.mk_trace_text.specs.declared.section.Section.{Section}
use Rattle.mk_trace_text.specs.declared.section.Section.TheVariants as sections
use Rattle.mk_trace_text.specs.States.{State, after}
use Rattle.mk_trace.proofs.LineFits.{Fits}
use Rattle.mk_trace.proofs.SectionCases.{start_is, size_is, clients_are, keys_are}

abbrev pub in_rounds : Section → Bool
in_rounds sections.Start = false
in_rounds sections.Opened = false
in_rounds sections.Clients = false
in_rounds sections.Keys = false
in_rounds _ = true

outside : (x y : Section) → x ≡ y → in_rounds y ≡ false → in_rounds x ≡ true → ⊥
outside x y e out h = absurd (cc (ap in_rounds e, out, h))

pub head_at : (s : State) (line : TraceLine) → Fits s line → in_rounds s.section ≡ true
    → ((after s line).head ≡ s.head) × (in_rounds (after s line).section ≡ true)
head_at s (Opens v) f h = absurd (outside s.section sections.Start (start_is s.section f.0) refl h)
head_at s (Sizes n) f h = absurd (outside s.section sections.Opened (size_is s.section f.0) refl h)
head_at s (Declares name c) f h = absurd (outside s.section sections.Clients (clients_are s.section f.0) refl h)
head_at s (Names name) f h = absurd (at (keys_are s.section f.0))
  where
    at : (s.section ≡ sections.Clients) ⊎ (s.section ≡ sections.Keys) → ⊥
    at (inl e) = outside s.section sections.Clients e refl h
    at (inr e) = outside s.section sections.Keys e refl h
head_at s (Begins n) f h = (refl, refl)
head_at s (Heads c) f h = (refl, refl)
head_at s (Logged seq step) f h = (refl, refl)
head_at s (Marks r c) f h = (refl, refl)
head_at s (Kept entry) f h = (refl, refl)
head_at s Changes f h = (refl, refl)
head_at s (Changed entry) f h = (refl, refl)
head_at s Ends f h = (refl, refl)
