-- Numbers that make whole rows.
use Rattle.std.proofs.Common.{◌≡◌, ◌∙◌, ◌%◌, ◌/◌, ◌*◌, ◌==◌, ℕ, zero, suc, Bool, true, if◌then◌else◌, List, arith, length, subst, sym}
use Rattle.std.proofs.Math.Dec.{eqb-suc-zero}
use Rattle.std.proofs.lemmas.Bool.{eqb-true}
use Rattle.std.proofs.lemmas.Nat.{div-add-mod'}
use Rattle.matrix.specs.Matrix.{IsShaped}
use Rattle.c_tables.specs.TraceNumbers.{makes_rows}

rows_are : (n w : ℕ) → makes_rows n w ≡ true → n ≡ (if w == 0 then 0 else (n / w)) * w
rows_are n zero rows = eqb-true n 0 rows
rows_are n (suc k) rows =
    rw eqb-suc-zero (omega (arith, div-add-mod' n (suc k), eqb-true (n % suc k) 0 (rw eqb-suc-zero at rows)))

-- they are a matrix
pub shaped : {A : Type 0} (values : List A) (n w : ℕ) (b : Bool) → length values ≡ n → b ≡ makes_rows n w → b ≡ true → IsShaped (record { values = values; width = w })
shaped values n w b long is rows = rows_are (length values) w (subst (λ (m : ℕ). makes_rows m w ≡ true) (sym long) (sym is ∙ rows))
