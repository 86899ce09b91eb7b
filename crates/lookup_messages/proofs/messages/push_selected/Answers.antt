use Rattle.std.proofs.Common.{◌≡◌, ◌<◌, ◌∷◌, ◌++◌, ℕ, Bool, List, [], length, inl, refl, get_or, sym, ap, ◌∙◌, subst, arith}
use Rattle.std.proofs.lemmas.List.{append-nil, length-map}
use Rattle.std.proofs.lemmas.Result.{MatchResult-weaker}
use Rattle.list_laws.proofs.Zips.{zipped_at}
use Rattle.field.specs.Ring.{Ring}
use Rattle.lookup_model.specs.declared.flags.SetFlags.{SetFlags}
use Rattle.lookup_model.proofs.Branches.{length-branches_at}
use Rattle.lookup_model.proofs.RecordLaws.{multiplicity_fits, tuple_fits}
use Rattle.lookup_model.specs.Sent.{branch_at, branches_at, values}
use Rattle.lookup_model.proofs.Lookups.Selections.{index_within}
use Rattle.lookup_model.specs.Selection.{AreSetFlags}
use Rattle.lookup_messages.specs.SentMessages.{messages_of}
use Rattle.lookup_messages.specs.TraceBuilder.{builder_layout, builder_window}
use Rattle.lookup_model.specs.declared.flags.SetFlags.TheVariants.{Nothing, One}
use Rattle.lookup_messages.proofs.SentMessageLaws.{in_front, no_flag, one_flag}
use Rattle.lookup_messages.proofs.messages.push_selected.Goals as goal

-- the index of the one set flag is that of a branch
one_within : {F : Type 0} {R : Ring F} {eq : F → F → Bool} {flags : List F} {set : SetFlags} (n k : ℕ) → set ≡ One k → AreSetFlags R eq flags set → length flags ≡ n → k < n
one_within {R = R} {eq = eq} {flags = flags} n k is are long =
    let one : AreSetFlags R eq flags (One k) = subst (AreSetFlags R eq flags) is are in
    omega (arith, index_within R eq 0 flags k [] one.indices, long)

pub index-tuple-requires : goal.index-tuple-requires
index-tuple-requires g c = omega (arith, one_within (length c.args.lookup.now.elements.items) c.in-One.branch c.in-One.is c.in_ok-set_flags.ensures (length-map _ _ ∙ c.requires.flag_number))

pub index-multiplicity-requires : goal.index-multiplicity-requires
index-multiplicity-requires g c = omega (arith, one_within (length c.args.lookup.now.elements.items) c.in-One.branch c.in-One.is c.in_ok-set_flags.ensures (length-map _ _ ∙ c.requires.flag_number), c.requires.lengths.multiplicities)

pub push_branch-requires-clause-tuple_fits : goal.push_branch-requires-clause-tuple_fits
push_branch-requires-clause-tuple_fits g c =
    tuple_fits (builder_layout c.args.builder.now) c.args.lookup.now c.requires.within c.in-One.branch c.index-tuple.result.now _ (one_within (length c.args.lookup.now.elements.items) c.in-One.branch c.in-One.is c.in_ok-set_flags.ensures (length-map _ _ ∙ c.requires.flag_number)) c.index-tuple.ensures c.deref.ensures.value

pub push_branch-requires-clause-multiplicity_fits : goal.push_branch-requires-clause-multiplicity_fits
push_branch-requires-clause-multiplicity_fits g c =
    multiplicity_fits (builder_layout c.args.builder.now) c.args.lookup.now c.requires.within c.requires.lengths c.in-One.branch _ (one_within (length c.args.lookup.now.elements.items) c.in-One.branch c.in-One.is c.in_ok-set_flags.ensures (length-map _ _ ∙ c.requires.flag_number)) c.index-multiplicity.ensures

pub returns-in-Nothing-clause-pushes : goal.returns-in-Nothing-clause-pushes
returns-in-Nothing-clause-pushes g c =
    let R = g.F.PrimeCharacteristicRing.ring in
    let eq = g.F.PartialEq.eq in
    let w = builder_window c.args.builder.now in
    let vals = values R w c.args.flags.now in
    let lookup = c.args.lookup.now in
    let before = messages_of c.args.messages.now.items in
    let set : AreSetFlags R eq vals Nothing = subst (AreSetFlags R eq vals) c.in-Nothing.is c.in_ok-set_flags.ensures in
    let is = no_flag R eq c.args.builder.now.row lookup.column (branches_at R w c.args.id lookup) vals set.boolean set.indices in
    (sym (append-nil before) ∙ ap (λ t. before ++ t) (sym is.0), is.1)

pub returns-in-One-clause-pushes : goal.returns-in-One-clause-pushes
returns-in-One-clause-pushes g c =
    let R = g.F.PrimeCharacteristicRing.ring in
    let eq = g.F.PartialEq.eq in
    let w = builder_window c.args.builder.now in
    let vals = values R w c.args.flags.now in
    let lookup = c.args.lookup.now in
    let id = c.args.id in
    let before = messages_of c.args.messages.now.items in
    let branches = branches_at R w id lookup in
    let k = c.in-One.branch in
    let tuple = c.index-tuple.result.now in
    let multiplicity = c.index-multiplicity.result.now in
    let m = branch_at R w id tuple.items multiplicity in
    let set : AreSetFlags R eq vals (One k) = subst (AreSetFlags R eq vals) c.in-One.is c.in_ok-set_flags.ensures in
    let lt = one_within (length c.args.lookup.now.elements.items) k c.in-One.is c.in_ok-set_flags.ensures (length-map _ _ ∙ c.requires.flag_number) in
    let within : k < length branches = omega (arith, lt, length-branches_at R w id lookup c.requires.lengths) in
    let at : m ≡ get_or branches k m = zipped_at (λ b. branch_at R w id b.0.items b.1) lookup.elements.items lookup.multiplicities.items c.requires.lengths.multiplicities k tuple multiplicity lt c.index-tuple.ensures c.index-multiplicity.ensures in
    let is = one_flag R eq c.args.builder.now.row lookup.column branches vals set.boolean k m set.indices within at in
    MatchResult-weaker c.push_branch.result c.push_branch.ensures.pushes
    (λ _ h. (h ∙ (λ i. before ++ branch_at R w id (c.deref.ensures.value i) multiplicity ∷ []) ∙ ap (λ t. before ++ t) (sym is.0), is.1))
    (λ e h. inl h)

pub returns-in-Nothing-clause-front : goal.returns-in-Nothing-clause-front
returns-in-Nothing-clause-front g c = in_front _ _ refl

pub returns-in-Several-clause-front : goal.returns-in-Several-clause-front
returns-in-Several-clause-front g c = in_front _ _ refl

pub returns-in_err-set_flags-clause-front : goal.returns-in_err-set_flags-clause-front
returns-in_err-set_flags-clause-front g c = in_front _ _ refl
