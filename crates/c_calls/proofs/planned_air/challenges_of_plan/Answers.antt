use Rattle.std.proofs.Common.{◌∙◌, sym, arith}
use Rattle.field_monty.specs.Quartic.{quartic_residue_ring}
use Rattle.batch.proofs.MadeTables.{made_challenges}
use Rattle.c_calls.proofs.planned_air.challenges_of_plan.Goals as goal

pub returns : goal.returns
returns g c =
    let made = c.in_ok-for_ids.ensures in
    let sizes = c.args.sizes.now in record {
      ids_are = record { wide = omega arith; below = c.in_ok-check_given_ids.ensures };
      challenges_are = made.challenges ∙ sym (made_challenges (quartic_residue_ring g.row.P g.K.MontyParameters.positive g.K.QuarticParameters.W) c.args.alpha c.args.beta sizes.max_message_width sizes.num_ids c.args.ids.now c.in_ok-check_given_ids.ensures);
      many = made.len;
    }
