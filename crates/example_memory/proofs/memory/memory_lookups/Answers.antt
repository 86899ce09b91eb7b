use Rattle.std.proofs.Common.{◌≤◌, List, sym, subst, arith}
use Rattle.std.proofs.lemmas.Result.{err_from_is_err_and}
use Rattle.air_expressions.specs.Layout.{layout_of_widths}
use Rattle.lookup.specs.declared.lookups.Lookups.{Lookups}
use Rattle.example_memory.proofs.PlanLaws.{lookups_refused}
use Rattle.example_memory.specs.Memory.{SetsFit}
use Rattle.example_memory.proofs.memory.memory_lookups.Goals as goal

pub returns-in_err-accesses-clause-refused : goal.returns-in_err-accesses-clause-refused
returns-in_err-accesses-clause-refused g c =
    let p = err_from_is_err_and c.from_residual.result c.from_residual.ensures.1 in
    let wide : 5 ≤ (layout_of_widths 5 0 0).main_width = omega arith in
    rw (p.1, p.2) (lookups_refused 5 (layout_of_widths 5 0 0) wide _ c.in_err-accesses.field-0.0 c.in_err-accesses.ensures.extracts)

pub returns-in_err-boundary-clause-refused : goal.returns-in_err-boundary-clause-refused
returns-in_err-boundary-clause-refused g c =
    let p = err_from_is_err_and c.from_residual-in_err-boundary.result c.from_residual-in_err-boundary.ensures.1 in
    let wide : 4 ≤ (layout_of_widths 4 0 0).main_width = omega arith in
    rw (p.1, p.2) (lookups_refused 4 (layout_of_widths 4 0 0) wide _ c.in_err-boundary.field-0.0 c.in_err-boundary.ensures.extracts)

pub returns-in_err-gaps-clause-refused : goal.returns-in_err-gaps-clause-refused
returns-in_err-gaps-clause-refused g c =
    let p = err_from_is_err_and c.from_residual-in_err-gaps.result c.from_residual-in_err-gaps.ensures.1 in
    let wide : 2 ≤ (layout_of_widths 2 0 0).main_width = omega arith in
    rw (p.1, p.2) (lookups_refused 2 (layout_of_widths 2 0 0) wide _ c.in_err-gaps.field-0.0 c.in_err-gaps.ensures.extracts)

pub returns-clause-fit : goal.returns-clause-fit
returns-clause-fit g c =
    let first = c.in_ok-accesses.ensures.within (λ before after h. h.1) in
    let second = c.in_ok-boundary.ensures.within (λ before after h. h.1) in
    let third = c.in_ok-gaps.ensures.within (λ before after h. h.1) in
    subst (λ (sets : List (Lookups _)). SetsFit sets) (sym c.in_ok-from_array.ensures.items) (first, (second, (third, tt)))
