-- Whether enough bits are left.
use Rattle.std.specs.Prelude.{◌≡◌, ◌⊎◌, ◌+◌, ◌*◌, ◌^◌, ◌≤◌, ℕ, zero, suc, Option, Some, None}
use Rattle.std.specs.Option.{ForSome}

-- As many bits are left as are wanted, where so many betas are bad and so many alphas are accepting at each other
-- one; if none is, a batch balances, and any number is left. No bit is always left.
abbrev pub MeetsTarget : ℕ → Option ℕ → ℕ → Option ℕ → Type 0
MeetsTarget challenges target betas alphas = ForSome target (λ bits. ForSome alphas (λ a. (bits ≡ 0) ⊎ ((betas + a) * 2 ^ bits ≤ challenges)))

-- the most accepting alphas of so many messages of which so many are unbalanced
abbrev pub alphas_of : ℕ → ℕ → Option ℕ
alphas_of messages zero = None
alphas_of messages (suc others) = Some (messages + others)
