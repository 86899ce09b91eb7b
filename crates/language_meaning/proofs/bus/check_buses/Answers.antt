use Rattle.std.proofs.Common.{◌≡◌, sym, ◌∙◌, ◌<◌, arith, false, length}
use Rattle.std.specs.Prelude.{is_some}
use Rattle.language_meaning.specs.Buses.{declared_width}
use Rattle.language_meaning.specs.Scopes.{bytes_in}
use Rattle.language_meaning.proofs.BusLaws.{first_buses, new_bus, no_bus}
use Rattle.language_meaning.proofs.bus.check_buses.Goals as goal
use Rattle.language_meaning.proofs.bus.check_buses.Goals.{in-Bus+else-is_some, in_default}

pub loop-index-preserved : goal.loop-index-preserved
loop-index-preserved c =
    let sections = c.args.batch.now.sections.items in
    let i = c.loop-index.index in
    let within : i < length sections = omega (arith, c.loop-index-test.true, c.len-index-end.ensures) in
    elim c.match-index.branch [
      | in-Bus+else-is_some w ↦
          let new : is_some (declared_width c.args.text.now (bytes_in w.in-Bus.bus.name c.args.text.now) (first_buses sections i)) ≡ false = cc in
          new_bus c.args.text.now sections i c.index.result.now w.in-Bus.bus within (sym c.index.ensures) w.in-Bus.is new ∙ c.loop-index.invariant
      | in_default w ↦ no_bus c.args.text.now sections i c.index.result.now w.in_default.field-0 within (sym c.index.ensures) w.in_default.is ∙ c.loop-index.invariant
    ]
