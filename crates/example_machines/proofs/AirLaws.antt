-- What the AIRs of the machines push sends what the machine says.
use Rattle.std.proofs.Common.{◌≡◌, ℕ, Bool, List, [], ◌∷◌, codes, length, map, slice_index_or, None, Some, All, OnOk, Result, Ok, Err, MatchResult, inl, inr, max, subst, sym, ap, ap₂, arith, ◌∙◌}
use Rattle.std.proofs.lemmas.List.Elements.{All-from_recursion, recursion_from_All}
use Rattle.std.proofs.lemmas.Option.{get_or_from_slice_get}
use Rattle.std.specs.declared.alloc.Global.{Global}
use Rattle.std.specs.declared.vec.Vec.{Vec}
use Rattle.list_laws.proofs.Images.{two_items}
use Rattle.field.specs.Ring.{Ring}
use Rattle.air.specs.Cell.{IsCell}
use Rattle.air_expressions.specs.declared.error.AirError.{AirError}
use Rattle.lookup_model.specs.Sent.{sent}
use Rattle.lookup_record.specs.Interaction.{Branch, Interaction, exclusive, global, local}
use Rattle.lookup_record.specs.Messages.{IsExclusiveQuery, IsUnitQuery, PushesOne, flag_and_fields}
use Rattle.lookup.specs.Sends.{bus_and_weight, interaction_sends, message_under}
use Rattle.example_machines.specs.Machines.{SendsLike, value_message}
use Rattle.example_machines.specs.declared.airs.MachineAir.TheVariants.{Entries, Group, Keys, RangeCheck}
use Rattle.example_machines.specs.internal.Pushes.{AreTwoKeys, IsCellTuple}

module _ {B M : Type 0} (pushes : B → M → B → Type 0) (refuses : B → M → AirError → B → Type 0) (Q : M → Type 0) (before after : B) where
  -- what pushes an interaction of one meaning pushes one of a weaker meaning
  pub pushes_weaker : (P : M → Type 0) (answer : Result (Unit {0}) AirError) → ((m : M) → P m → Q m) → PushesOne pushes refuses P before answer after → PushesOne pushes refuses Q before answer after
  pushes_weaker P (Ok u) weaker (m, is, pushed) = (m, weaker m is, pushed)
  pushes_weaker P (Err e) weaker (inl memory) = inl memory
  pushes_weaker P (Err e) weaker (inr (m, is, refused)) = inr (m, weaker m is, refused)

  -- a builder's answer to one interaction
  pub pushes_this : (m : M) (answer : Result (Unit {0}) AirError) → Q m → MatchResult answer (λ _. pushes before m after) (λ e. refuses before m e after) → PushesOne pushes refuses Q before answer after
  pushes_this m (Ok u) is pushed = (m, is, pushed)
  pushes_this m (Err e) is refused = inr (m, is, refused)

-- what follows from what holds of an accepted answer
pub on_ok_weaker : (answer : Result (Unit {0}) AirError) (P Q : Type 0) → OnOk answer P → (P → Q) → OnOk answer Q
on_ok_weaker answer P Q is so = grind (arith, is, so)

-- one tuple, or two, of one value each
one_narrow : {E : Type 0} (a : List E) → length a ≡ 1 → All (λ tuple. length tuple ≡ 1) (a ∷ [])
one_narrow a first = All-from_recursion (λ tuple. length tuple ≡ 1) (a ∷ []) (first, tt)

two_narrow : {E : Type 0} (a b : List E) → length a ≡ 1 → length b ≡ 1 → All (λ tuple. length tuple ≡ 1) (a ∷ b ∷ [])
two_narrow a b first second = All-from_recursion (λ tuple. length tuple ≡ 1) (a ∷ b ∷ []) (first, (second, tt))

module _ {F E S W : Type 0} (R : Ring F) (eq : F → F → Bool) (value : E → S → F) (seen : W → S) (stands : W → Type 0) (cells : W → List F) where
  -- the value of an expression at a window
  abbrev at : W → E → F
  at w x = value x (seen w)

  -- the value of an expression that stands for a cell
  cell_value : (column : ℕ) (x : E) (w : W) → stands w → IsCell (λ x w. at w x) stands cells column x → at w x ≡ slice_index_or (cells w) column R.zero
  cell_value column x w here is = sym (get_or_from_slice_get (cells w) column (at w x) R.zero (is w here))

  -- the values of a tuple of one such expression
  tuple_values : (column : ℕ) (tuple : List E) (w : W) → stands w → IsCellTuple (λ x w. at w x) stands cells column tuple → map (at w) tuple ≡ slice_index_or (cells w) column R.zero ∷ []
  tuple_values column tuple w here is = ap (map (at w)) is.1 ∙ ap (λ v. v ∷ []) (cell_value column is.0 w here is.2)

  -- a message whose tuple and count have these values
  message_is : (w : W) (tuple : List E) (count : E) (x m : F) → map (at w) tuple ≡ x ∷ [] → at w count ≡ m → message_under (at w) 0 tuple count ≡ value_message x m
  message_is w tuple count x m at_tuple at_count i = record { key = record { id = 0; tuple = at_tuple i }; multiplicity = at_count i }

  -- the local lookup of a range check
  pub range_does_send : (read provided : List E) (once uses times : E) (m : Interaction E)
      → m ≡ local (record { fields = read; count = once; weight = 1 } ∷ record { fields = provided; count = times; weight = 0 } ∷ [])
      → IsCellTuple (λ x w. at w x) stands cells 0 read → IsCellTuple (λ x w. at w x) stands cells 1 provided → IsCell (λ x w. at w x) stands cells 2 uses
      → ((s : S) → value once s ≡ R.one) → ((s : S) → value times s ≡ R.neg (value uses s))
      → SendsLike R eq (λ x w. at w x) stands cells RangeCheck m
  range_does_send read provided once uses times m is reads provides counts is_one is_negated = record {
    sends = λ w here wide.
        ap (interaction_sends R eq (at w) 0) is
        ∙ ap₂ (λ a b. sent R eq None (a ∷ b ∷ [])) (message_is w read once _ _ (tuple_values 0 read w here reads) (is_one (seen w)))
        (message_is w provided times _ _ (tuple_values 1 provided w here provides) (is_negated (seen w) ∙ ap R.neg (cell_value 2 uses w here counts)));
    kind = ap bus_and_weight is;
    widths = rw is (two_narrow read provided (ap length reads.1) (ap length provides.1));
  }

  -- the query of a key
  pub keys_do_send : (key : List E) (once : E) (m : Interaction E) → m ≡ global (record { bus_name = codes "b"; fields = key; count = once; weight = 1 })
      → IsCellTuple (λ x w. at w x) stands cells 0 key → ((s : S) → value once s ≡ R.one) → SendsLike R eq (λ x w. at w x) stands cells Keys m
  keys_do_send key once m is queries is_one = record {
    sends = λ w here wide. ap (interaction_sends R eq (at w) 0) is ∙ ap (λ a. sent R eq None (a ∷ [])) (message_is w key once _ _ (tuple_values 0 key w here queries) (is_one (seen w)));
    kind = ap bus_and_weight is;
    widths = rw is (one_narrow key (ap length queries.1));
  }

  -- the entry that is provided
  pub entries_do_send : (entry : List E) (uses times : E) (m : Interaction E) → m ≡ global (record { bus_name = codes "b"; fields = entry; count = times; weight = 0 })
      → IsCellTuple (λ x w. at w x) stands cells 0 entry → IsCell (λ x w. at w x) stands cells 1 uses → ((s : S) → value times s ≡ R.neg (value uses s)) → SendsLike R eq (λ x w. at w x) stands cells Entries m
  entries_do_send entry uses times m is provides counts is_negated = record {
    sends = λ w here wide.
        ap (interaction_sends R eq (at w) 0) is
        ∙ ap (λ a. sent R eq None (a ∷ [])) (message_is w entry times _ _ (tuple_values 0 entry w here provides) (is_negated (seen w) ∙ ap R.neg (cell_value 1 uses w here counts)));
    kind = ap bus_and_weight is;
    widths = rw is (one_narrow entry (ap length provides.1));
  }

  -- the group of both keys
  pub group_does_send : (degree : E → ℕ → ℕ) (given : List (E × Vec E Global)) (m : Interaction E) → AreTwoKeys (λ x w. at w x) stands cells given → IsExclusiveQuery R.one value degree (codes "rc") given m
      → SendsLike R eq (λ x w. at w x) stands cells Group m
  group_does_send degree given m keys query = record {
    sends = λ w here wide.
        let first_flag = ap (λ p. at w p.0) two.3 ∙ cell_value 0 keys.first_flag w here keys.first_flag_is in
        let second_flag = ap (λ p. at w p.0) two.4 ∙ cell_value 2 keys.second_flag w here keys.second_flag_is in
        let first_key = ap (λ p. map (at w) p.1) two.3 ∙ tuple_values 1 keys.first_key w here keys.first_key_is in
        let second_key = ap (λ p. map (at w) p.1) two.4 ∙ tuple_values 3 keys.second_key w here keys.second_key_is in
        ap (interaction_sends R eq (at w) 0) is
        ∙ ap₂ (sent R eq) (λ i. Some (first_flag i ∷ second_flag i ∷ []))
        (ap₂ (λ a b. a ∷ b ∷ []) (message_is w two.0.fields two.0.count _ _ first_key (queries.0.means (seen w))) (message_is w two.1.fields two.1.count _ _ second_key (queries.1.0.means (seen w))));
    kind = ap bus_and_weight is ∙ (λ i. (Some (codes "rc"), max (queries.0.weight_is i) (max (queries.1.0.weight_is i) 0)));
    widths = rw is (two_narrow two.0.fields two.1.fields (ap length (ap (λ p. p.1) two.3 ∙ keys.first_key_is.1)) (ap length (ap (λ p. p.1) two.4 ∙ keys.second_key_is.1)));
  }
    where
      two : (a : Branch E) × (b : Branch E) × (query.branches ≡ a ∷ b ∷ []) × (flag_and_fields a ≡ (keys.first_flag, keys.first_key)) × (flag_and_fields b ≡ (keys.second_flag, keys.second_key))
      two = two_items flag_and_fields query.branches _ _ (query.flags_and_fields ∙ keys.branches_are)

      is : m ≡ exclusive (record { bus_name = codes "rc"; branches = two.0 ∷ two.1 ∷ [] })
      is = query.message ∙ ap (λ bs. exclusive (record { bus_name = codes "rc"; branches = bs })) two.2

      queries : IsUnitQuery R.one value degree two.0 × (IsUnitQuery R.one value degree two.1 × Unit {0})
      queries = recursion_from_All (IsUnitQuery R.one value degree) (two.0 ∷ two.1 ∷ []) (subst (All (IsUnitQuery R.one value degree)) two.2 query.queries)
