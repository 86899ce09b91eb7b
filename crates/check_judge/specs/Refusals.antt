-- How refusals to judge come about.
use Rattle.std.specs.Prelude.{ℕ}
use Rattle.batch.specs.declared.error.BatchError.{BatchError}
use Rattle.batch.specs.declared.error.BatchError.TheVariants as batch
use Rattle.language_meaning.specs.declared.element_fault.ElementFault.{ElementFault}
use Rattle.language_meaning.specs.declared.element_fault.ElementFault.TheVariants as elements
use Rattle.lookup_model.specs.declared.error.LookupError.{LookupError}
use Rattle.lookup_model.specs.declared.error.LookupError.TheVariants as lookup
use Rattle.language_meaning.specs.declared.name_fault.NameFault.{NameFault}
use Rattle.language_meaning.specs.declared.name_fault.NameFault.TheVariants as names
use Rattle.check_judge.specs.declared.fault.JudgeFault.{JudgeFault}
use Rattle.check_judge.specs.declared.fault.JudgeFault.TheVariants.{Batch, Element, Lookups, Memory, Name}

-- the refusal of names; out of memory keeps its name
abbrev pub of_name : NameFault → JudgeFault
of_name names.Memory = Memory
of_name (names.Refused refusal) = Name refusal

-- the refusal of lookups over a field; out of memory keeps its name
abbrev pub of_element : ElementFault → JudgeFault
of_element elements.Memory = Memory
of_element (elements.Refused refusal) = Element refusal

-- the refusal of a batch; out of memory keeps its name
abbrev pub of_batch : BatchError → JudgeFault
of_batch batch.Memory = Memory
of_batch e = Batch e

-- the refusal of the lookups of an AIR; out of memory keeps its name
abbrev pub of_lookups : ℕ → LookupError → JudgeFault
of_lookups air lookup.Memory = Memory
of_lookups air e = Lookups air e
