-- What is left, beside what was made, of the room for nodes.
use Rattle.std.specs.Prelude.{ℕ}

-- a value and how much room is left for further nodes
abbrev pub InRoom : Type 0 → Type 0
InRoom A = A × ℕ

-- a value as view shows it, and the room that it leaves
abbrev pub in_room : {X Y : Type 0} → (X → Y) → X × ℕ → InRoom Y
in_room view x = (view x.0, x.1)
