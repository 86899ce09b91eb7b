use Rattle.std.proofs.Common.{◌≡◌, ◌≤◌, ◌-◌, drop, length}
use Rattle.language.specs.Tokens.{tokens_from, tokens_of}
use Rattle.language.proofs.TokenLaws.{with_tokens}
use Rattle.language.proofs.lexer.tokens.Given as goal

-- the tokens so far and those of the bytes that are left are those of the text
abbrev pub invariant-loop-at : goal.invariant-loop-at
invariant-loop-at l = record {
  within : l.at ≤ length l.text;
  shallow : l.depth ≤ l.at;
  told : with_tokens l.found.items (tokens_from 0 l.at l.depth (drop l.at l.text)) ≡ tokens_of l.text;
}

abbrev pub decreases-loop-at : goal.decreases-loop-at
decreases-loop-at l = length l.text - l.at
