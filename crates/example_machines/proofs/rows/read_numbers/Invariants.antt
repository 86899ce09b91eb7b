use Rattle.std.proofs.Common.{◌≡◌, ◌%◌, length, map, vec_len, Some}
use Rattle.std.specs.List.{flat_map}
use Rattle.std.proofs.lemmas.Iterator.{YieldsList}
use Rattle.example_machines.specs.Input.{NoLineRefusedBefore}
use Rattle.example_machines.specs.Words.{lines_of, words_of}
use Rattle.field_words.specs.Words.{number_of, number_bound}
use Rattle.example_machines.proofs.rows.read_numbers.Given as goal

abbrev pub invariant-loop-words : goal.invariant-loop-words
invariant-loop-words l = record {
  lines : YieldsList (goal.iterator-loop-words).next_gives (λ line. line.now) l.initial.words-iterator (lines_of l.text);
  whole_rows : vec_len l.numbers % l.columns ≡ 0;
  counted : l.line ≡ length l.yielded;
  none_refused : NoLineRefusedBefore l.columns (number_bound l.bound) l.text (length l.yielded);
  written : map (number_of (number_bound l.bound)) (flat_map words_of (map (λ line. line.now) l.yielded)) ≡ map Some l.numbers.items;
}
