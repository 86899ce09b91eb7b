-- Lists of values that make a whole number of rows.
use Rattle.std.proofs.Common.{◌≡◌, ℕ, zero, suc, ◌+◌, ◌*◌, ◌/◌, ◌<◌, List, length, ap, ◌∙◌, arith}
use Rattle.std.proofs.Math.Dec.{eqb-suc-zero}
use Rattle.std.proofs.lemmas.Nat.{div-mul-add}
use Rattle.matrix.specs.Matrix.{IsShaped}

-- a number of rows times the width
pub shaped_by_rows : {T : Type 0} (values : List T) (rows width : ℕ) → length values ≡ rows * width → IsShaped (record { values = values; width = width })
shaped_by_rows values rows zero many = omega (arith, many)
shaped_by_rows values rows (suc k) many =
    let split : length values ≡ rows * suc k + 0 = omega (arith, many) in
    let above : 0 < suc k = omega arith in
    let all : length values / suc k ≡ rows = ap (λ n. n / suc k) split ∙ div-mul-add rows (suc k) 0 above in
    rw (eqb-suc-zero, all) many

-- two rows
pub shaped_by_two : {T : Type 0} (values : List T) (width : ℕ) → length values ≡ width + width → IsShaped (record { values = values; width = width })
shaped_by_two values width two = shaped_by_rows values 2 width (omega (arith, two))
