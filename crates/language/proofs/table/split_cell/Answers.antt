use Rattle.std.proofs.Common.{◌≡◌, ◌∷◌, ◌+◌, ◌-◌, ◌==◌, not, List, ℕ, drop, length, take, ap, subst, sym, take_all, arith, ◌∙◌}
use Rattle.std.proofs.lemmas.List.{length-drop}
use Rattle.std.proofs.lemmas.List.Folds.{length-prefix_len}
use Rattle.language.specs.Tables.{cells_of_line}
use Rattle.language.proofs.TableLaws.{before, cells_of-last, cells_of-more}
use Rattle.language.proofs.table.split_cell.Goals as goal

pub returns-then-len-line-clause-cells : goal.returns-then-len-line-clause-cells
returns-then-len-line-clause-cells c =
    let line : List ℕ = c.args.line.now in
    let n : ℕ = c.cell_length-len.result in
    let long : n ≡ before 44 line = c.cell_length-len.ensures ∙ length-prefix_len (λ b. not (b == 44)) line in
    let rest : take (length line - (n + 1)) (drop (n + 1) line) ≡ drop (n + 1) line = take_all (length line - (n + 1)) (drop (n + 1) line) (omega (arith, length-drop (n + 1) line)) in
    subst (λ k. cells_of_line line ≡ take k line ∷ cells_of_line (drop (k + 1) line)) (sym long) (cells_of-more line (omega (arith, long)))
    ∙ ap (λ r. take n line ∷ cells_of_line r) (sym rest)

pub returns-else-len-line-clause-cells : goal.returns-else-len-line-clause-cells
returns-else-len-line-clause-cells c =
    let line : List ℕ = c.args.line.now in
    let long : c.cell_length-len.result ≡ before 44 line = c.cell_length-len.ensures ∙ length-prefix_len (λ b. not (b == 44)) line in
    cells_of-last line (omega (arith, long))
