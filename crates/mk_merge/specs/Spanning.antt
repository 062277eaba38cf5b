-- Spans from a version that was read to the stamp of its reader, and which stamps they span.
use Rattle.std.specs.Prelude.{Bool, List}
use Rattle.std.specs.List.{list_any}
use Rattle.mk_txn.specs.declared.Stamp.{Stamp}
use Rattle.mk_txn.specs.Clashes.{is_between}
use Rattle.mk_merge.specs.declared.spanning.Span.{Span}
use Rattle.mk_merge.specs.Ascending.{AscendsBy}

-- whether the stamp lies between the version and the reader
abbrev pub spans_over : Stamp → Span → Bool
spans_over stamp span = is_between span.version stamp span.reader

-- whether it does so in one of the spans
abbrev pub is_spanned : Stamp → List Span → Bool
is_spanned stamp spans = list_any (spans_over stamp) spans

-- versions and readers ascend together
pub record AreSpans (spans : List Span) : Type 0 where
  pub versions : AscendsBy (λ span. span.version) spans
  pub readers : AscendsBy (λ span. span.reader) spans
