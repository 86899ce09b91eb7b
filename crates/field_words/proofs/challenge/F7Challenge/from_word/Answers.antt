use Rattle.field.specs.internal.IntegersModulo7.{f7_positive}
use Rattle.field_words.proofs.WordLaws.{residue-written}
use Rattle.field_words.proofs.challenge.F7Challenge.from_word.Goals as goal

pub returns : goal.returns
returns c = residue-written 7 f7_positive c.args.word.now c.element.result c.element.ensures
