use Rattle.std.proofs.Common.{All, List, Vec, Global, sym, subst}
use Rattle.std.proofs.lemmas.List.Elements.{All-push}
use Rattle.air_expressions.specs.declared.variable.SymbolicVariable.{SymbolicVariable}
use Rattle.air_constraints.specs.Facts.{AreApart}
use Rattle.air_constraints.proofs.exclusive.push_exclusive.Goals as goal

pub returns : goal.returns
returns g c = λ w so known.
    let R = g.F.PrimeCharacteristicRing.ring in
    let A : List (SymbolicVariable g.row.F.Denot) → Type 0 = AreApart R w in
    let P : List (Vec (SymbolicVariable g.row.F.Denot) Global) → Type 0 = λ gs. All (λ g'. AreApart R w g'.items) gs in
    subst P (sym c.in_ok-push.ensures.items) (All-push (λ g'. AreApart R w g'.items) _ _ known (subst A c.as_slice-3.ensures.value (c.in_ok-apart.ensures c.if-not-apart.false w so)))
