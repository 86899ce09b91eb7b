use Rattle.std.proofs.Common.{◌≡◌, ◌++◌, filter, map}
use Rattle.std.specs.List.{list_all, slice_split}
use Rattle.std.proofs.lemmas.Iterator.{YieldsList}
use Rattle.example_machines.specs.Words.{has_bytes, separates_words}
use Rattle.field_words.specs.Words.{is_number, number_bound}
use Rattle.example_machines.specs.internal.Words.{numbers_or_zeros}
use Rattle.example_machines.proofs.rows.push_words.Given as goal

abbrev pub invariant-loop-word : goal.invariant-loop-word
invariant-loop-word l = record {
  parts : YieldsList (goal.iterator-loop-word).next_gives (λ part. part.now) l.initial.word-iterator (slice_split separates_words l.words);
  numbers : l.numbers.items ≡ l.fn.numbers.items ++ numbers_or_zeros (number_bound l.bound) (filter has_bytes (map (λ part. part.now) l.yielded));
  good : l.good ≡ list_all (is_number (number_bound l.bound)) (filter has_bytes (map (λ part. part.now) l.yielded));
}
