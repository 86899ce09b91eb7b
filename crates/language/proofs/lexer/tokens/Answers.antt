use Rattle.std.proofs.Common.{◌++◌, ◌∷◌, [], List, ℕ, Ok, drop, ap, arith, sym, ◌∙◌, append_assoc}
use Rattle.language.specs.declared.token.Kind.TheVariants.{Line, End}
use Rattle.language.specs.Tokens.{Token, tokens_from, tokens_of}
use Rattle.language.specs.Places.{mark_length}
use Rattle.language.proofs.TokenLaws.{depth_after-le, length-left, mark_length-le, told-blank, told-end, told-fault, told-token, with_tokens, with_tokens-none}
use Rattle.language.proofs.lexer.tokens.Goals as goal

pub loop-at-init : goal.loop-at-init
unfolding tokens_of
loop-at-init c =
    let mark = c.mark_length-at.ensures in
    let text : List ℕ = c.args.text.now in
    rw mark
    (record {
      within = mark_length-le text;
      shallow = omega arith;
      told = ap (λ (front : List Token). with_tokens front (tokens_from 0 (mark_length text) 0 (drop (mark_length text) text))) c.new-found.ensures.items ∙ with_tokens-none _;
    })

pub loop-at-preserved-in-Blank : goal.loop-at-preserved-in-Blank
loop-at-preserved-in-Blank c =
    let within = c.in-Blank.ensures.within in
    let long = length-left c.loop-at.at c.args.text.now in
    record {
      within = omega (arith, within.1);
      shallow = omega arith;
      told = told-blank c.args.text.now c.loop-at.found.items c.loop-at.at c.loop-at.depth c.in-Blank.len _ within.0 within.1 c.in-Blank.ensures.is c.loop-at.invariant.told;
    }

pub loop-at-preserved : goal.loop-at-preserved
loop-at-preserved c =
    let within = c.in-Token.ensures.within in
    let long = length-left c.loop-at.at c.args.text.now in
    let next = c.next_depth-depth.ensures in
    let found = told-token c.args.text.now c.loop-at.found.items c.loop-at.at c.loop-at.depth c.in-Token.kind c.in-Token.start c.in-Token.end c.in-Token.len _ within.0 within.1 c.in-Token.ensures.is c.loop-at.invariant.told in
    record {
      within = omega (arith, within.1);
      shallow = omega (arith, within.0, depth_after-le c.in-Token.kind c.loop-at.depth);
      told = rw (c.in_ok-push-in-Token.ensures.items, next) found;
    }

pub returns-in-Fault : goal.returns-in-Fault
returns-in-Fault c =
    told-fault c.args.text.now c.loop-at.found.items c.loop-at.at c.loop-at.depth c.in-Fault.why _ c.loop-at-test.true c.in-Fault.ensures.is c.loop-at.invariant.told

pub returns : goal.returns
returns c =
    let at : ℕ = c.loop-at.at in
    let line : Token = (Line, record { start = at; end = at }) in
    let end : Token = (End, record { start = at; end = at }) in
    told-end c.args.text.now c.loop-at.found.items at c.loop-at.depth _ c.loop-at-test.false c.loop-at.invariant.told
    ∙ ap (λ (ts : List Token). Ok ts) (sym (c.in_ok-push-2.ensures.items ∙ ap (λ (ts : List Token). ts ++ end ∷ []) c.in_ok-push.ensures.items ∙ append_assoc c.loop-at.found.items (line ∷ []) (end ∷ [])))
