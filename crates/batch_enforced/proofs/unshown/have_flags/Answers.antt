use Rattle.std.proofs.Common.{◌≡◌, IsNone, subst, sym}
use Rattle.list_laws.proofs.Each.{All-held}
use Rattle.list_laws.proofs.Items.{holds_next, item_there}
use Rattle.lookup_model.specs.declared.types.Lookup.{Lookup}
use Rattle.batch_enforced.proofs.unshown.have_flags.Goals as goal

pub loop-index-preserved : goal.loop-index-preserved
loop-index-preserved g c =
    let lookups = c.args.lookups.now in
    let i = c.loop-index.index in
    let lookup = c.index-lookups-index.result in
    let Q : Lookup g.row.F.Denot → Type 0 = λ l. IsNone l.flags in
    holds_next (λ l. IsNone l.flags) lookups i lookup (item_there lookups i lookup c.loop-index-test.true c.index-lookups-index.is)
    (subst Q (sym c.index-lookups-index.is) (sym c.if-is_some.ensures)) c.loop-index.invariant

pub returns : goal.returns
returns g c = λ none. All-held (λ lookup. IsNone lookup.flags) c.args.lookups.now c.loop-index.index c.loop-index-test.false c.loop-index.invariant
