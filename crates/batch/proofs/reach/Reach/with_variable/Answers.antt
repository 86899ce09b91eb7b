use Rattle.std.proofs.Common.{◌↔◌, ℕ, Some, subst, sym}
use Rattle.air_expressions.specs.Layout.{EntryFits}
use Rattle.air_expressions.specs.declared.layout.AirLayout.{AirLayout}
use Rattle.air_expressions.specs.declared.variable.BaseEntry.{BaseEntry}
use Rattle.batch.specs.Reaches.{StaysWithin}
use Rattle.batch.specs.declared.reach.Reach.{Reach}
use Rattle.batch.proofs.reach.Reach.with_variable.Goals as goal

-- a reach with a variable of this entry
abbrev With : Reach → ℕ → Reach → BaseEntry → Type 0
With before index after entry = (layout : AirLayout) → StaysWithin after layout ↔ (StaysWithin before layout × EntryFits layout entry index)

pub returns-in-Main : goal.returns-in-Main
returns-in-Main g c =
    let after : Reach = record c.args.self { main = Some c.greatest.result; has_valid_offsets = c.are_valid.result } in
    subst (With c.args.self c.args.variable.now.index after) (sym c.in-Main.is) (λ layout. let valid = c.are_valid.ensures in
    let below = c.greatest.ensures layout.main_width in (
      λ s. (((valid.0 s.0).0, (below.0 s.1).0, s.2, s.3), ((valid.0 s.0).1, (below.0 s.1).1)),
      λ t. (valid.1 (t.0.0, t.1.0), below.1 (t.0.1, t.1.1), t.0.2, t.0.3),
    ))

pub returns-in-Preprocessed : goal.returns-in-Preprocessed
returns-in-Preprocessed g c =
    let after : Reach = record c.args.self { preprocessed = Some c.greatest-in-Preprocessed.result; has_valid_offsets = c.are_valid-in-Preprocessed.result } in
    subst (With c.args.self c.args.variable.now.index after) (sym c.in-Preprocessed.is) (λ layout. let valid = c.are_valid-in-Preprocessed.ensures in
    let below = c.greatest-in-Preprocessed.ensures layout.preprocessed_width in (
      λ s. (((valid.0 s.0).0, s.1, (below.0 s.2).0, s.3), ((valid.0 s.0).1, (below.0 s.2).1)),
      λ t. (valid.1 (t.0.0, t.1.0), t.0.1, below.1 (t.0.2, t.1.1), t.0.3),
    ))

pub returns-in-Public : goal.returns-in-Public
returns-in-Public g c =
    let after : Reach = record c.args.self { public_value = Some c.greatest-in-Public.result } in
    subst (With c.args.self c.args.variable.now.index after) (sym c.in-Public.is) (λ layout. let below = c.greatest-in-Public.ensures layout.num_public_values in (
      λ s. ((s.0, s.1, s.2, (below.0 s.3).0), (below.0 s.3).1),
      λ t. (t.0.0, t.0.1, t.0.2, below.1 (t.0.3, t.1)),
    ))
