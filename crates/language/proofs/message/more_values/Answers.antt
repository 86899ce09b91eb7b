use Rattle.std.proofs.Common.{◌≡◌, ◌++◌, ◌∷◌, [], Ok, Option, ap, length, map, option_map, ◌∙◌}
use Rattle.std.proofs.lemmas.List.{map_push}
use Rattle.std.proofs.lemmas.Result.{err_from_is_err_and}
use Rattle.language.specs.declared.formula.Tree.{Tree}
use Rattle.language.specs.Formulas.{formula_of}
use Rattle.language.specs.Messages.{more_formula}
use Rattle.language.proofs.ListLaws.{many-end, many-endless, many-fault, many-more}
use Rattle.language.proofs.message.more_values.Goals as goal

pub returns-in_err-value : goal.returns-in_err-value
returns-in_err-value c =
    let p = err_from_is_err_and c.from_residual-in_err-value.result c.from_residual-in_err-value.ensures.1 in
    rw (p.1, p.2)
    (many-fault more_formula (length c.args.tokens.now) c.loop.counter (map formula_of c.loop.values.items) c.loop.left.now _ c.loop.invariant c.in_err-value.field-0.0 c.loop-test.true c.in_err-value.ensures)

pub returns-in_default : goal.returns-in_default
returns-in_default c =
    many-end more_formula (length c.args.tokens.now) c.loop.counter (map formula_of c.loop.values.items) c.loop.left.now _ c.loop.invariant c.in_ok-value.after.now c.loop-test.true (c.in_ok-value.ensures ∙ ap (λ (x : Option Tree). Ok (option_map formula_of x, c.in_ok-value.after.now)) c.in_default.is)

pub loop-preserved : goal.loop-preserved
loop-preserved c =
    let x : Tree = c.in-Some.value in
    let items : map formula_of c.push-in-loop.new.self.items ≡ map formula_of c.loop.values.items ++ formula_of x ∷ [] = ap (map formula_of) c.in_ok-push-2.ensures.items ∙ map_push formula_of c.loop.values.items x in
    rw items
    (many-more more_formula (length c.args.tokens.now) c.loop.counter (map formula_of c.loop.values.items) c.loop.left.now _ c.loop.invariant (formula_of x) c.in_ok-value.after.now c.loop-test.true (c.in_ok-value.ensures ∙ ap (λ (y : Option Tree). Ok (option_map formula_of y, c.in_ok-value.after.now)) c.in-Some.is))

pub returns : goal.returns
returns c =
    rw c.place.ensures (many-endless more_formula (length c.args.tokens.now) c.loop.counter (map formula_of c.loop.values.items) c.loop.left.now _ c.loop.invariant c.loop-test.false)
