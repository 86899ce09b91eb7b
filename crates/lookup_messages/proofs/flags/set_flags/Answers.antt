use Rattle.std.proofs.Common.{◌<◌, ◌+◌, List, length, ◌∷◌, ◌++◌, [], take, drop, sym, ap, ◌∙◌, subst, arith}
use Rattle.std.proofs.lemmas.List.{length-map, length-take, take_all}
use Rattle.std.proofs.lemmas.Result.{err_from_is_err_and}
use Rattle.list_laws.proofs.Images.{mapped_at, mapped_more}
use Rattle.list_laws.proofs.Items.{split_at}
use Rattle.lookup_model.specs.Fault.{are_boolean}
use Rattle.lookup_model.proofs.RecordLaws.{Fits-at}
use Rattle.lookup_model.specs.Sent.{value, values}
use Rattle.lookup_model.specs.Selection.{AreSetFlags}
use Rattle.lookup_messages.specs.TraceBuilder.{builder_layout, builder_window}
use Rattle.lookup_model.proofs.Lookups.Selections.{not_boolean}
use Rattle.lookup_model.specs.declared.error.LookupError.TheVariants.{FlagNotBoolean}
use Rattle.lookup_messages.proofs.flags.set_flags.Goals as goal

pub value_of-flag-requires : goal.value_of-flag-requires
value_of-flag-requires g c = Fits-at (builder_layout c.args.builder.now) c.args.flags.now c.loop-index.index _ c.requires (omega arith) c.index-flags-index.is

pub returns-in_err-set : goal.returns-in_err-set
returns-in_err-set g c =
    let R = g.F.PrimeCharacteristicRing.ring in
    let eq = g.F.PartialEq.eq in
    let look = value R (builder_window c.args.builder.now) in
    let flags = c.args.flags.now in
    let vals = values R (builder_window c.args.builder.now) flags in
    let i = c.loop-index.index in
    let flag = c.index-flags-index.result in
    let lt : i < length flags = omega arith in
    let split = split_at vals i (look flag) (omega (arith, length-map flags look)) (mapped_at look flags i flag lt c.index-flags-index.is) in
    let p = err_from_is_err_and c.from_residual.result c.from_residual.ensures.1 in
    let why = c.in_err-set.ensures.refused in
    rw (p.1, p.2) (
      why.0 ∙ ap (λ r. FlagNotBoolean r c.args.column) c.row.ensures,
      ap (are_boolean R eq) split ∙ not_boolean R eq g.met.F.PrimeCharacteristicRing.eq_is (take i vals) (drop (i + 1) vals) (look flag) (λ e. why.1 (c.value_of-flag.ensures ∙ e)) (λ e. why.2 (c.value_of-flag.ensures ∙ e)),
    )

pub loop-index-preserved : goal.loop-index-preserved
loop-index-preserved g c =
    let R = g.F.PrimeCharacteristicRing.ring in
    let eq = g.F.PartialEq.eq in
    let look = value R (builder_window c.args.builder.now) in
    let flags = c.args.flags.now in
    let i = c.loop-index.index in
    let flag = c.index-flags-index.result in
    let lt : i < length flags = omega arith in
    let more = mapped_more look flags i flag lt c.index-flags-index.is in
    subst (λ (fs : List _). AreSetFlags R eq fs c.in_ok-set.set) ((λ k. take i (values R (builder_window c.args.builder.now) flags) ++ c.value_of-flag.ensures k ∷ []) ∙ sym more)
    (c.in_ok-set.ensures.next (take i (values R (builder_window c.args.builder.now) flags)) (omega (arith, length-take i (values R (builder_window c.args.builder.now) flags), length-map flags look)) c.loop-index.invariant)

pub returns : goal.returns
returns g c =
    let R = g.F.PrimeCharacteristicRing.ring in
    let eq = g.F.PartialEq.eq in
    let vals = values R (builder_window c.args.builder.now) c.args.flags.now in
    subst (λ (fs : List _). AreSetFlags R eq fs c.loop-index.set) (take_all c.loop-index.index vals (omega (arith, c.loop-index-test.false, length-map c.args.flags.now (value R (builder_window c.args.builder.now))))) c.loop-index.invariant
