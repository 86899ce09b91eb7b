use Rattle.std.proofs.Common.{IsNone, arith, ap, eqb-true, inl, inr, refl, sym, subst, nat_eq}
use Rattle.std.proofs.lemmas.Bool.{leb-true, le-leb}
use Rattle.check_judge.proofs.BitLaws.{enough, none_left}
use Rattle.check_judge.proofs.bits.leaves.Goals as goal

pub returns-in-Some : goal.returns-in-Some
returns-in-Some c =
    let both = enough c.args.size c.args.bad c.args.wanted c.in-Some.bits c.in-Some.ensures.some.0 c.in-Some.ensures.some.1 in (
      λ t. inr (both.0 (omega (arith, leb-true c.args.wanted c.from.result t, c.from.ensures))),
      λ few. le-leb c.args.wanted c.from.result (elim few [
        | inl none ↦ omega (arith, none)
        | inr left ↦ omega (arith, both.1 left, c.from.ensures)
      ]),
    )

pub returns-else-wanted-eq0 : goal.returns-else-wanted-eq0
returns-else-wanted-eq0 c = (
  λ t. inr (rw (eqb-true c.args.bad 0 t) (omega arith)),
  λ few. elim few [
    | inl none ↦ absurd (grind (arith, none, c.if-wanted-eq0.false))
    | inr left ↦ elim (c.bits_of.ensures.none.0 (subst IsNone (sym c.in-None.is) refl)) [
      | inl zero ↦ ap (λ n. nat_eq n 0) zero
      | inr more ↦ absurd (none_left c.args.size c.args.bad c.args.wanted more left)
    ]
  ],
)
