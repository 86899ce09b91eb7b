-- Steps of a filling, and the lookups that it takes.
use Rattle.std.proofs.Common.{◌≡◌, ◌⊎◌, inl, inr, ◌&&◌, ℕ, Bool, true, not, List, [], ◌∷◌, ◌++◌, Option, None, Some, MatchOption, Result, map, All, refl, sym, ap, subst, ◌∙◌, arith}
use Rattle.std.proofs.lemmas.Grind.{flat_map-append}
use Rattle.std.proofs.lemmas.List.{append-nil, append_assoc, length-map, map-append}
use Rattle.std.proofs.lemmas.List.Elements.{filter-append, All-push, recursion_from_All, All-nil}
use Rattle.std.specs.List.{AllByRecursion, flat_map}
use Rattle.std.specs.declared.alloc.Global.{Global}
use Rattle.std.specs.declared.vec.Vec.{Vec}
use Rattle.std.specs.Option.{is_some, option_map}
use Rattle.list_laws.proofs.Each.{all_kept}
use Rattle.air_expressions.specs.declared.base_expression.SymbolicExpression.{SymbolicExpression}
use Rattle.lookup_model.specs.Outline.{Outline, bus_of, fields_of}
use Rattle.lookup_model.specs.Records.{HasEqualLengths}
use Rattle.lookup_model.specs.declared.error.LookupError.{LookupError}
use Rattle.lookup_model.specs.declared.error.LookupError.TheVariants.{Memory}
use Rattle.lookup_model.specs.declared.types.Lookup.{Lookup}
use Rattle.lookup.specs.Buses.{on_bus}
use Rattle.lookup_model.specs.Names.{is_named}
use Rattle.lookup.specs.Cuts.{part_items}
use Rattle.lookup.specs.internal.Fillings.{AreGreedyColumns, IsFilled, IsOpen, columns_of}
use Rattle.lookup.specs.Packing.{IsStuck, additive_lookups, is_additive, trial}
use Rattle.lookup.specs.Trials.{IsMember, IsTrial, IsTrialAmong}
use Rattle.lookup.specs.internal.Trials.{IsStep, IsTrialRefusal, IsTried}
use Rattle.lookup.specs.declared.packing.filling.Bus.{Bus}
use Rattle.lookup.specs.internal.TrialDegrees.{IsPlain}
use Rattle.lookup.proofs.FillLaws.{HasLast, joined_column, last_part, next_column, one_column, stuck_at, stuck_more}

-- columns with one more lookup
pub stepped : {F : Type 0} (answers : Outline (SymbolicExpression F) → Result ℕ LookupError → Type 0) (most : ℕ) (seen front after : List (Outline (SymbolicExpression F))) (last next : Outline (SymbolicExpression F))
    → AreGreedyColumns answers most seen (front ++ last ∷ []) → IsStep answers most front last next after → AreGreedyColumns answers most (seen ++ next ∷ []) after
stepped answers most seen front after last next columns (inl h) = joined_column answers most seen front after last next (last_part answers most seen (front ++ last ∷ []) front last columns refl) h.0 h.1 h.2
stepped answers most seen front after last next columns (inr h) = next_column answers most seen (front ++ last ∷ []) front after last next (last_part answers most seen (front ++ last ∷ []) front last columns refl) refl h.0 h.1

-- a trial among the first of these lookups is one among all
pub trial_front : {F : Type 0} (front more : List (Outline (SymbolicExpression F))) (lookup : Lookup F) → IsTrialAmong front lookup → IsTrialAmong (front ++ more) lookup
trial_front front more lookup is = record {
  front = is.front;
  part = is.part;
  next = is.next;
  back = is.back ++ more;
  members_are = ap (λ t. t ++ more) is.members_are ∙ append_assoc (is.front ++ part_items is.part) (is.next ∷ is.back) more;
  is_trial = is.is_trial;
}

-- and so it is on the bus of a name
pub among_all : {F : Type 0} (seen more all : List (Outline (SymbolicExpression F))) (name : List ℕ) (lookup : Lookup F) → seen ++ more ≡ all → IsTrialAmong (on_bus name seen) lookup → IsTrialAmong (on_bus name all) lookup
among_all seen more all name lookup whole is =
    rw (← whole, filter-append (λ o. is_named name o.bus) seen more) (trial_front (on_bus name seen) (on_bus name more) lookup is)

-- the trial of the last column with the next lookup, of lookups that are seen and those that are left
pub trial_among : {F : Type 0} (answers : Outline (SymbolicExpression F) → Result ℕ LookupError → Type 0) (most : ℕ) (members seen front rest : List (Outline (SymbolicExpression F))) (last next : Outline (SymbolicExpression F)) (lookup : Lookup F)
    → HasLast answers most seen front last → seen ++ next ∷ rest ≡ members → IsTrial last next lookup → IsTrialAmong members lookup
trial_among {F} answers most members seen front rest last next lookup has all is = record {
  front = flat_map part_items has.parts;
  part = has.part;
  next = next;
  back = rest;
  members_are =
      grind (arith, all, has.filling.0, flat_map-append part_items has.parts (has.part ∷ []), append-nil (part_items has.part));
  is_trial = subst (λ (o : Outline (SymbolicExpression F)). IsTrial o next lookup) (sym has.last_is) is;
}

pub no_flags_of : {A B : Type 0} (f : A → B) (b : Bool) (flags : Option A) → (b && not (is_some (option_map f flags))) ≡ true → flags ≡ None
no_flags_of f b flags e = grind (arith, e)

-- a well formed lookup that may be joined
pub additive_member : {F : Type 0} (l : Lookup F) → is_additive (fields_of l) ≡ true → HasEqualLengths l → IsMember l
additive_member l joins lengths = record {
  lengths = lengths;
  no_flags = no_flags_of (λ fs. fs.items) (is_some (bus_of l.kind)) l.flags joins;
}

module _ {F K : Type 0} (keeps : K → Outline (SymbolicExpression F) → Type 0) (answers : Outline (SymbolicExpression F) → Result ℕ LookupError → Type 0) (most : ℕ) where
  -- a filled bus by its refusal
  abbrev Known : List (Outline (SymbolicExpression F)) → Bus F K → Option LookupError → Type 0
  Known members bus r = MatchOption r (IsOpen keeps bus × AreGreedyColumns answers most members (columns_of bus)) (λ e. (e ≡ Memory) ⊎ IsStuck answers most members e)

  -- a bus with one lookup
  pub filled_one : (bus : Bus F K) → bus.closed.items ≡ [] → bus.refusal ≡ None → IsMember bus.last → keeps bus.kept (fields_of bus.last) → IsFilled keeps answers most (fields_of bus.last ∷ []) bus
  filled_one bus none free member has =
      subst (Known (fields_of bus.last ∷ []) bus) (sym free) (
        record { closed = rw none (All-nil IsMember); member = member; kept = has },
        rw none (one_column answers most (fields_of bus.last)),
      )

  -- what is known of a bus, by whether it is refused
  pub free_bus : (members : List (Outline (SymbolicExpression F))) (bus : Bus F K) → IsFilled keeps answers most members bus → bus.refusal ≡ None → IsOpen keeps bus × AreGreedyColumns answers most members (columns_of bus)
  free_bus members bus filled free = subst (Known members bus) free filled

  pub stuck_bus : (members : List (Outline (SymbolicExpression F))) (bus : Bus F K) (e : LookupError) → IsFilled keeps answers most members bus → bus.refusal ≡ Some e → (e ≡ Memory) ⊎ IsStuck answers most members e
  stuck_bus members bus e filled stuck = subst (Known members bus) stuck filled

  -- a bus that is refused stays so
  pub stuck_on : (members : List (Outline (SymbolicExpression F))) (bus : Bus F K) (next : Outline (SymbolicExpression F)) → IsFilled keeps answers most members bus → is_some bus.refusal ≡ true → IsFilled keeps answers most (members ++ next ∷ []) bus
  stuck_on members bus next filled test = grind (arith, filled, test, λ (e : LookupError). stuck_more answers most members next e)

  module _ (members : List (Outline (SymbolicExpression F))) (bus : Bus F K) (filled : IsFilled keeps answers most members bus) (free : bus.refusal ≡ None) where
    -- a bus with one more lookup
    pub pushed_on : (next : Outline (SymbolicExpression F)) (after : Bus F K) → IsOpen keeps after → after.refusal ≡ bus.refusal → IsStep answers most (map fields_of bus.closed.items) (fields_of bus.last) next (columns_of after) → IsFilled keeps answers most (members ++ next ∷ []) after
    pushed_on next after open_after same step =
        subst (Known (members ++ next ∷ []) after) (sym (same ∙ free)) (open_after, stepped answers most members (map fields_of bus.closed.items) (columns_of after) (fields_of bus.last) next (free_bus members bus filled free).1 step)

    -- its open column, as the last part of a greedy cut
    pub open_part : HasLast answers most members (map fields_of bus.closed.items) (fields_of bus.last)
    open_part = last_part answers most members (columns_of bus) (map fields_of bus.closed.items) (fields_of bus.last) (free_bus members bus filled free).1 refl

    -- the next lookup's trial is one among all
    pub tried_on : (next : Outline (SymbolicExpression F)) (lookup : Lookup F) → IsTrial (fields_of bus.last) next lookup → IsTrialAmong (members ++ next ∷ []) lookup
    tried_on next lookup is = trial_among answers most (members ++ next ∷ []) members (map fields_of bus.closed.items) [] (fields_of bus.last) next lookup open_part refl is

    -- and what it is refused for is kept
    pub refused_on : (next : Outline (SymbolicExpression F)) (after : Bus F K) (e : LookupError) → after.refusal ≡ Some e → (e ≡ Memory) ⊎ IsTrialRefusal answers most (fields_of bus.last) next e → IsFilled keeps answers most (members ++ next ∷ []) after
    refused_on next after e is refused =
        subst (Known (members ++ next ∷ []) after) (sym is) (elim refused [ inl memory ↦ inl memory | inr refusal ↦ inr (stuck_at answers most (members ++ next ∷ []) members (map fields_of bus.closed.items) [] (fields_of bus.last) next e open_part refl refusal) ])

  module _ (bus : Bus F K) (is_open : IsOpen keeps bus) where
    -- a step of a filling, and what is kept after it
    abbrev Steps : Lookup F → Bus F K → Type 0
    Steps next after = IsOpen keeps after × (after.refusal ≡ bus.refusal) × IsStep answers most (map fields_of bus.closed.items) (fields_of bus.last) (fields_of next) (columns_of after)

    -- a lookup that joins the open column
    pub joined_step : (next both : Lookup F) (kept : K) → IsTried answers most bus.last next both None → ((o : Outline (SymbolicExpression F)) (n : ℕ) → keeps kept o → keeps kept (record o { count_weight = n })) → keeps kept (trial (fields_of bus.last) (fields_of next))
        → Steps next (record bus { last = both; kept = kept })
    joined_step next both kept joins weighted has = (
      record { closed = is_open.closed; member = joins.0; kept = subst (keeps kept) (sym joins.3) (weighted _ _ has) },
      refl,
      inl (joins.1, joins.2, ap (λ o. map fields_of bus.closed.items ++ o ∷ []) joins.3),
    )

    -- one that opens a new column
    pub next_step : (closed : Vec (Lookup F) Global) (next full left : Lookup F) (kept : K) → IsTried answers most bus.last next full (Some left) → closed.items ≡ bus.closed.items ++ full ∷ [] → keeps kept (fields_of next)
        → Steps next (record bus { closed = closed; last = left; kept = kept })
    next_step closed next full left kept apart put has =
        let so_far : map fields_of closed.items ≡ map fields_of bus.closed.items ++ fields_of bus.last ∷ [] = ap (map fields_of) put ∙ map-append fields_of bus.closed.items (full ∷ []) ∙ ap (λ o. map fields_of bus.closed.items ++ o ∷ []) apart.3 in (
          record {
            closed = rw put (All-push IsMember bus.closed.items full is_open.closed apart.0);
            member = apart.1;
            kept = rw apart.4 has;
          },
          refl,
          inr (apart.2, λ i. so_far i ++ apart.4 i ∷ []),
        )

-- the fields of a lookup that may be joined are plain
pub plain_of : {F : Type 0} (l : Lookup F) → IsMember l → IsPlain (fields_of l)
plain_of l member = record {
  lengths = member.lengths.multiplicities ∙ sym (length-map l.elements.items (λ tuple. tuple.items));
  no_flags = ap (option_map (λ fs. fs.items)) member.no_flags;
}

-- of well formed lookups those that may be joined are plain, on each bus
pub plain_on : {F : Type 0} (ls : List (Lookup F)) (name : List ℕ) → All HasEqualLengths ls → AllByRecursion IsPlain (on_bus name (additive_lookups (map fields_of ls)))
plain_on {F} ls name lengths = all_kept IsPlain (λ o. is_named name o.bus) (additive_lookups (map fields_of ls)) (plain ls (recursion_from_All HasEqualLengths ls lengths))
  where
    plain : (xs : List (Lookup F)) → AllByRecursion HasEqualLengths xs → AllByRecursion IsPlain (additive_lookups (map fields_of xs))
    plain [] h = tt
    plain (x ∷ xs) h = grind (arith, plain xs h.1, λ (e : is_additive (fields_of x) ≡ true). plain_of x (additive_member x e h.0))
