use Rattle.std.proofs.Common.{◌≡◌, ◌++◌, ap, arith, length, string_bytes, sym, take_all, ◌∙◌}
use Rattle.std.specs.List.{zip}
use Rattle.list_laws.proofs.Zips.{length_zip}
use Rattle.language_witness.specs.Lines.{witness_lines}
use Rattle.language_witness.proofs.LineLaws.{more_airs}
use Rattle.language_witness.proofs.writing.push_witness.Goals as goal

pub loop-air-preserved : goal.loop-air-preserved
loop-air-preserved g c =
    more_airs g.EF.Field.text c.args.witness.now.aux.items c.args.witness.now.terminals.items c.loop-air.air c.index.result.now c.index-in-loop-air.result.now _ _ _
    c.requires (omega (arith, c.loop-air-test.true, c.len-air-end.ensures)) c.index.ensures c.index-in-loop-air.ensures c.loop-air.invariant c.in_ok-push_air.ensures

pub returns : goal.returns
returns g c =
    let results = zip c.args.witness.now.aux.items c.args.witness.now.terminals.items in
    let long : length results ≡ length c.args.witness.now.aux.items = length_zip c.args.witness.now.aux.items c.args.witness.now.terminals.items (sym c.requires) in
    c.loop-air.invariant ∙ ap (λ l. string_bytes c.args.text.now ++ witness_lines g.EF.Field.text l) (take_all c.loop-air.air results (omega (arith, long)))
