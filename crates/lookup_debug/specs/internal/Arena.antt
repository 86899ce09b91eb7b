-- Tuples with amounts, whose elements stand in one list.
use Rattle.std.specs.Prelude.{◌≤◌, List, All, length, map, slice_range}
use Rattle.lookup_debug.specs.declared.arena.Contributions.{Contributions}
use Rattle.lookup_debug.specs.declared.arena.TupleSpan.{TupleSpan}

-- a tuple with its amount, as a span of a list of elements has them
abbrev pub span_amount : {F : Type 0} → List F → TupleSpan F → List F × F
span_amount elements span = (slice_range elements span.start span.end, span.amount)

-- what a value of the program holds
abbrev pub amounts_in : {F : Type 0} → Contributions F → List (List F × F)
amounts_in c = map (span_amount c.elements.items) c.spans.items

-- every span is a part of the elements
abbrev pub AreWithin : {F : Type 0} → Contributions F → Type 0
AreWithin c = All (λ span. (span.start ≤ span.end) × (span.end ≤ length c.elements.items)) c.spans.items
