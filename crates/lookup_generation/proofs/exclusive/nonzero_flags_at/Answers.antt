use Rattle.std.proofs.Common.{◌≡◌, ◌≢◌, List, slice_index_or, take, sym, ap, subst, ◌∙◌, arith}
use Rattle.std.specs.List.{AllZip}
use Rattle.std.proofs.lemmas.Bool.{true≢false}
use Rattle.std.proofs.lemmas.List.{length-take, take_all}
use Rattle.std.proofs.lemmas.Slice.Zip.{AllZip-long}
use Rattle.list_laws.proofs.Items.{read_is, take_item}
use Rattle.lookup_columns.proofs.ZipLaws.{Beside, beside}
use Rattle.lookup_columns.specs.ChunkColumns.{HasFlag}
use Rattle.lookup_columns.specs.declared.columns.BranchColumns.{BranchColumns}
use Rattle.lookup_generation.specs.internal.Flags.{AreNonzero}
use Rattle.lookup_generation.proofs.FlagLaws.{nonzero_more, zero_more}
use Rattle.lookup_generation.proofs.exclusive.nonzero_flags_at.Goals.{then-not-is_zero, else-not-is_zero}
use Rattle.lookup_generation.proofs.exclusive.nonzero_flags_at.Goals as goal

pub loop-branch-preserved : goal.loop-branch-preserved
loop-branch-preserved g c =
    let R = g.F.PrimeCharacteristicRing.ring in
    let eq = g.F.PartialEq.eq in
    let decides = g.met.F.PrimeCharacteristicRing.eq_is in
    let i = c.loop-branch.branch in
    let so_far = c.loop-branch.invariant in
    let count = c.loop-branch.count in
    let last = c.loop-branch.last in
    let column = c.index-columns-branch.result in
    let flag_beside : (flags : List g.row.F.Denot) → AllZip (HasFlag c.args.index) c.args.columns.now flags → Beside (HasFlag c.args.index) flags i column =
    λ flags held. beside (HasFlag c.args.index) c.args.columns.now flags i column held (omega arith) c.index-columns-branch.is in
    let here : (flags : List g.row.F.Denot) → (held : AllZip (HasFlag c.args.index) c.args.columns.now flags) → (flag_beside flags held).item ≡ c.index.result.now =
    λ flags held. read_is _ c.args.index c.index.result.now (flag_beside flags held).item (flag_beside flags held).holds (c.index.ensures ∙ ap (λ (t : BranchColumns _ _). slice_index_or t.flags.items c.args.index c.index.result.now) (sym c.index-columns-branch.is)) in
    elim c.if-not-is_zero.branch [
      | then-not-is_zero w ↦ (
        omega (arith, w.count-is, so_far.0),
        λ _. omega (arith, w.last-is),
        λ flags held.
            let b = flag_beside flags held in
            let ne : b.item ≢ R.zero = λ e. true≢false (sym (c.is_zero.ensures.1 (sym (here flags held) ∙ e)) ∙ w.if-not-is_zero.true) in
            subst (λ (X : Type 0). X) (λ k. AreNonzero R eq (sym (take_item flags i b.item b.within b.there) k) (sym w.count-is k) (sym w.last-is k))
            (nonzero_more R eq decides (take i flags) b.item count last i (omega (arith, length-take i flags, b.within)) ne (so_far.2 flags held)),
      )
      | else-not-is_zero w ↦ (
        omega (arith, w.count-is, so_far.0),
        λ some. omega (arith, w.last-is, so_far.1 (omega (arith, some, w.count-is))),
        λ flags held.
            let b = flag_beside flags held in
            subst (λ (X : Type 0). X) (λ k. AreNonzero R eq (sym (take_item flags i b.item b.within b.there) k) (sym w.count-is k) (sym w.last-is k))
            (zero_more R eq decides (take i flags) b.item count last (here flags held ∙ c.is_zero.ensures.0 w.if-not-is_zero.false) (so_far.2 flags held)),
      )
    ]

pub returns-clause-nonzero : goal.returns-clause-nonzero
returns-clause-nonzero g c = λ flags held.
    subst (λ (fs : List _). AreNonzero g.F.PrimeCharacteristicRing.ring g.F.PartialEq.eq fs c.loop-branch.count c.loop-branch.last)
    (take_all c.loop-branch.branch flags (omega (arith, AllZip-long (HasFlag c.args.index) c.args.columns.now flags held, c.loop-branch-test.false)))
    (c.loop-branch.invariant.2 flags held)
