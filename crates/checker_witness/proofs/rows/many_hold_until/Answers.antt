use Rattle.std.proofs.Common.{◌∷◌, [], Some, ℕ, Result, Ok, Err, IfOk, length, refl, arith}
use Rattle.air.specs.Traces.{layout_of}
use Rattle.field.specs.laws.Extension.{of_laws}
use Rattle.lookup_model.proofs.Layouts.{LookupsFit-with_auxiliary}
use Rattle.lookup_model.specs.Batches.Instances.{instance_of}
use Rattle.matrix.specs.Matrix.{height}
use Rattle.checker_witness.proofs.CheckedInputs.{shaped, some_lookups}
use Rattle.checker_witness.proofs.CheckLaws.{holds_from, zeros_from}
use Rattle.checker_witness.proofs.UntilLaws.{same_until}
use Rattle.checker_witness.specs.Columns.{ColumnsHoldUntil}
use Rattle.checker_witness.proofs.rows.many_hold_until.Goals as goal

-- what follows of a number that is answered
of_result : {X : Type 0} (Q : ℕ → Type 0) (answer : Result ℕ X) (P : ℕ → Type 0) → ((n : ℕ) → P n → Q n) → IfOk answer P → IfOk answer Q
of_result Q (Ok n) P to said = to n said
of_result Q (Err e) P to said = said

pub chunks_hold_until-requires-clause-checked : goal.chunks_hold_until-requires-clause-checked
chunks_hold_until-requires-clause-checked g c =
    let i = c.args.instance.now in
    let some = some_lookups i.lookups.now (height i.main.now) c.args.aux.now c.args.terminal c.requires.shape in
    let shape = shaped i.lookups.now (height i.main.now) c.args.aux.now (Some c.args.terminal) c.requires.shape some in
    record {
      preprocessed = c.requires.columns.heights;
      permutation = shape.0;
      fit = LookupsFit-with_auxiliary (layout_of (instance_of i).traces) c.args.aux.now.width (length c.args.challenges.now) 1 i.lookups.now c.requires.columns.fit;
      challenges = c.requires.columns.enough;
      some = some;
      cells = shape.1;
      terminal = omega arith;
    }

pub returns : goal.returns
returns g c =
    let E = of_laws g.met.EF.ExtensionField.lawful_fields in
    let i = instance_of c.args.instance.now in
    let aux = c.args.aux.now in
    let terminal = Some c.args.terminal in
    let challenges = c.args.challenges.now in
    of_result (ColumnsHoldUntil E i.traces i.lookups challenges (aux, terminal) c.args.first c.args.end) c.chunks_hold_until.result _
    (λ n. same_until (holds_from E i.traces i.lookups challenges aux terminal (c.args.terminal.0 ∷ []) refl) (zeros_from E i.traces i.lookups challenges aux terminal (c.args.terminal.0 ∷ []) refl) n)
    c.chunks_hold_until.ensures
