use Rattle.std.proofs.Common.{All, List, Vec, Global, sym, subst}
use Rattle.std.proofs.lemmas.List.Elements.{All-append}
use Rattle.air_expressions.specs.declared.variable.SymbolicVariable.{SymbolicVariable}
use Rattle.air_constraints.specs.Facts.{AreApart}
use Rattle.air_constraints.proofs.learn.find_more.Goals as goal

pub returns-then-len-gt0-2 : goal.returns-then-len-gt0-2
returns-then-len-gt0-2 g c = λ w so.
    let R = g.F.PrimeCharacteristicRing.ring in
    let P : List (Vec (SymbolicVariable g.row.F.Denot) Global) → Type 0 = λ gs. All (λ g'. AreApart R w g'.items) gs in
    record {
      bits = so.bits;
      exclusive = subst P (sym c.in_ok-append-2.ensures.items) (All-append (λ g'. AreApart R w g'.items) _ _ so.exclusive (c.in_ok-exclusive.ensures w so));
      zero_products = so.zero_products;
      given = so.given;
      zeros = so.zeros;
    }
