use Rattle.std.proofs.Common.{ℕ, get_or, inl, inr, sym, ◌∙◌}
use Rattle.std.proofs.lemmas.Option.{slice_get-get_or}
use Rattle.std.proofs.lemmas.Result.{err_from_is_err_and}
use Rattle.lookup_debug.specs.Contributions.{Traced, traced_of}
use Rattle.lookup_debug.proofs.GroupLaws.{local_balances, local_mismatch, locals_balance, other_balances}
use Rattle.lookup_debug.proofs.check.check_locals_of.Goals.{then-is_local+in_ok-check_local, else-is_local}
use Rattle.lookup_debug.proofs.check.check_locals_of.Goals as goal

pub returns-in_err-check_local : goal.returns-in_err-check_local
returns-in_err-check_local g c =
    let R = g.F.PrimeCharacteristicRing.ring in
    let eq = g.F.PartialEq.eq in
    let traced = traced_of c.args.traced.now in
    let index = c.loop-index.index in
    let item = c.index-traced-index.result in
    let lookup = get_or traced.lookups index item in
    let there = slice_get-get_or traced.lookups index item c.loop-index-test.true in
    let local = sym c.is_local.ensures ∙ c.if-is_local.true in
    let p = err_from_is_err_and c.from_residual.result c.from_residual.ensures.1 in
    rw (p.1, p.2) (elim c.in_err-check_local.ensures [
      | inl memory ↦ inl memory
      | inr is ↦ inr (local_mismatch R eq (c.args.instance, traced) index lookup there c.loop-index.invariant g.F.Field.text c.in_err-check_local.field-0.0 local is)
    ])

pub loop-index-preserved : goal.loop-index-preserved
loop-index-preserved g c =
    let R = g.F.PrimeCharacteristicRing.ring in
    let eq = g.F.PartialEq.eq in
    let traced = traced_of c.args.traced.now in
    let index = c.loop-index.index in
    let item = c.index-traced-index.result in
    let lookup = get_or traced.lookups index item in
    let there = slice_get-get_or traced.lookups index item c.loop-index-test.true in
    elim c.if-is_local.branch [
      | then-is_local+in_ok-check_local w ↦
          let local = sym c.is_local.ensures ∙ w.if-is_local.true in
          local_balances R eq (c.args.instance, traced) index lookup there c.loop-index.invariant local w.in_ok-check_local.ensures
      | else-is_local w ↦
          let other = sym c.is_local.ensures ∙ w.if-is_local.false in
          other_balances R eq (c.args.instance, traced) index lookup there c.loop-index.invariant other
    ]

pub returns : goal.returns
returns g c =
    let R = g.F.PrimeCharacteristicRing.ring in
    let eq = g.F.PartialEq.eq in
    let all : ℕ × Traced _ = (c.args.instance, traced_of c.args.traced.now) in
    locals_balance R eq all c.loop-index.index c.loop-index-test.false c.loop-index.invariant
