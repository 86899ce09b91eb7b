use Rattle.std.proofs.Common.{◌≡◌, ◌++◌, filter, map, refl, rules, sym, tests, ◌∙◌, ap}
use Rattle.std.specs.List.{list_all}
use Rattle.std.proofs.lemmas.Iterator.Consumers.{YieldsList-end}
use Rattle.std.proofs.lemmas.List.{append-nil}
use Rattle.example_machines.specs.Words.{has_bytes, separates_words, words_of}
use Rattle.field_words.specs.Words.{is_number, number_bound}
use Rattle.example_machines.specs.internal.Words.{numbers_or_zeros}
use Rattle.field_words.proofs.PartLaws.{split-parts}
use Rattle.example_machines.proofs.rows.push_words.Goals as goal

pub loop-word-init : goal.loop-word-init
loop-word-init c =
    let split = c.split-word-items.ensures in
    record {
      parts = split-parts _ separates_words c.args.words.now c.into_iter-word-iterator.ensures.into_iter_gives split.rest split.done split.closure (λ x r q k. search (rules, tests));
      numbers = sym (append-nil c.args.numbers.now.items);
      good = refl;
    }

-- the words are the parts that came, without the empty ones
came : (c : goal.In-None) → filter has_bytes (map (λ part. part.now) c.loop-word.yielded) ≡ words_of c.args.words.now
unfolding words_of
came c = ap (filter has_bytes) (YieldsList-end c.loop-word.invariant.parts c.loop-word.yielded _ c.loop-word.yielded_by _ _ c.in-None.is c.next.ensures.steps).0

pub returns-clause-numbers : goal.returns-clause-numbers
returns-clause-numbers c =
    c.loop-word.invariant.numbers ∙ ap (λ words. c.args.numbers.now.items ++ numbers_or_zeros (number_bound c.args.bound) words) (came c)

pub returns-clause-good : goal.returns-clause-good
returns-clause-good c = c.loop-word.invariant.good ∙ ap (list_all (is_number (number_bound c.args.bound))) (came c)
