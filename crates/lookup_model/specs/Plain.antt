-- The plain result of generation (LogUp, eprint 2022/1530): plain quotients and their sums, and a
-- terminal from the nets of the keys. A row of a trace is the list of what its lookups send.
use Rattle.std.specs.Prelude.{ℕ, Bool, List, ◌∷◌, length, map, not, take, slice_index_or, []}
use Rattle.std.specs.List.{filter, flat_map, range_with_len}
use Rattle.field.specs.Ring.{Ring}
use Rattle.field.specs.Sums.{sum_in}
use Rattle.field.specs.Extension.{Extension}
use Rattle.lookup_model.specs.Message.{Key, Message}
use Rattle.lookup_model.specs.Net.{net, unbalanced_keys}
use Rattle.lookup_model.specs.Sent.{Sent}

-- all messages of a trace, row by row and lookup by lookup
abbrev pub trace_messages : {F : Type 0} → List (List (Sent F)) → List (Message F)
trace_messages rows = flat_map (λ row. flat_map (λ sent. sent.messages) row) rows

-- the messages whose multiplicity is not zero
abbrev pub counted_messages : {F : Type 0} → Ring F → (F → F → Bool) → List (Message F) → List (Message F)
counted_messages R eq messages = filter (λ m. not (eq m.multiplicity R.zero)) messages

module _ {F K : Type 0} (E : Extension F K) (denominator : Key F → K) where
  -- a multiplicity over the denominator of its key
  abbrev pub quotient : F → Key F → K
  quotient multiplicity key = E.ring.mul (E.embed multiplicity) (E.inverse (denominator key))

  -- that of a message
  abbrev pub quotient_of : Message F → K
  quotient_of m = quotient m.multiplicity m.key

  -- the fraction of a lookup on a row: the sum of the quotients of its messages with nonzero
  -- multiplicity
  abbrev pub plain_fraction : Sent F → K
  plain_fraction sent = sum_in E.ring (map (λ m. quotient m.multiplicity m.key) (counted_messages E.base E.base_eq sent.messages))

  -- the accumulator of row r: the sum of all fractions of the rows before it
  abbrev pub plain_accumulator : List (List (Sent F)) → ℕ → K
  plain_accumulator rows r = sum_in E.ring (flat_map (λ row. map plain_fraction row) (take r rows))

  -- row r of the auxiliary trace: its accumulator, then the fraction of each lookup
  abbrev pub plain_row : List (List (Sent F)) → ℕ → List K
  plain_row rows r = plain_accumulator rows r ∷ map plain_fraction (slice_index_or rows r [])

  -- the cells of the auxiliary trace, row after row
  abbrev pub plain_cells : List (List (Sent F)) → List K
  plain_cells rows = flat_map (plain_row rows) (range_with_len 0 (length rows))

  -- the sum of net over denominator, over the keys of the messages whose net is not zero
  abbrev pub net_sum : List (Message F) → K
  net_sum messages = sum_in E.ring (map (λ key. quotient (net E.base E.base_eq messages key) key) (unbalanced_keys E.base E.base_eq messages))

  -- the terminal: the sum of net over denominator, over the keys of the whole trace
  abbrev pub plain_terminal : List (List (Sent F)) → K
  plain_terminal rows = net_sum (trace_messages rows)
