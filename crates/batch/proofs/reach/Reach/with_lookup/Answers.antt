use Rattle.std.proofs.Common.{◌↔◌, All, Option, IfSome, List, subst, sym}
use Rattle.lookup_model.specs.Records.{AllFit, IsWithin}
use Rattle.batch.proofs.ReachLaws.{three_more}
use Rattle.batch.specs.Reaches.{StaysWithin}
use Rattle.batch.proofs.reach.Reach.with_lookup.Goals as goal

pub returns-in-Some : goal.returns-in-Some
unfolding IsWithin
returns-in-Some g c = λ layout.
    let lookup = c.args.lookup.now in
    let tuples = subst (λ (ts : List _). StaysWithin c.with_tuples.result layout ↔ (StaysWithin c.args.self layout × All (λ tuple. AllFit layout tuple.items) ts)) c.deref.ensures.value (c.with_tuples.ensures layout) in
    let multiplicities = subst (λ (es : List _). StaysWithin c.with_all-reach.result layout ↔ (StaysWithin c.with_tuples.result layout × AllFit layout es)) c.deref-2.ensures.value (c.with_all-reach.ensures layout) in
    let flags = subst (λ (es : List _). StaysWithin c.with_all.result layout ↔ (StaysWithin c.with_all-reach.result layout × AllFit layout es)) c.deref-in-Some.ensures.value (c.with_all.ensures layout) in
    subst (λ (o : Option _). StaysWithin c.with_all.result layout ↔ (StaysWithin c.args.self layout × (All (λ tuple. AllFit layout tuple.items) lookup.elements.items × AllFit layout lookup.multiplicities.items × IfSome o (λ fs. AllFit layout fs.items)))) (sym c.in-Some.is)
    (three_more tuples multiplicities flags)

pub returns-in-None : goal.returns-in-None
unfolding IsWithin
returns-in-None g c = λ layout.
    let lookup = c.args.lookup.now in
    let tuples = subst (λ (ts : List _). StaysWithin c.with_tuples.result layout ↔ (StaysWithin c.args.self layout × All (λ tuple. AllFit layout tuple.items) ts)) c.deref.ensures.value (c.with_tuples.ensures layout) in
    let multiplicities = subst (λ (es : List _). StaysWithin c.with_all-reach.result layout ↔ (StaysWithin c.with_tuples.result layout × AllFit layout es)) c.deref-2.ensures.value (c.with_all-reach.ensures layout) in
    let stays = StaysWithin c.with_all-reach.result layout in
    let none : stays ↔ (stays × Unit {0}) = (λ s. (s, tt), λ t. t.0) in
    subst (λ (o : Option _). stays ↔ (StaysWithin c.args.self layout × (All (λ tuple. AllFit layout tuple.items) lookup.elements.items × AllFit layout lookup.multiplicities.items × IfSome o (λ fs. AllFit layout fs.items)))) (sym c.in-None.is)
    (three_more tuples multiplicities none)
