-- Each lookup that the items of an AIR say has a tuple.
use Rattle.std.proofs.Common.{Bool, true, false, ◌≡◌, ◌<◌, ◌+◌, ℕ, Option, List, [], ◌∷◌, Result, Ok, Err, length, map, refl, sym, subst, arith}
use Rattle.std.proofs.lemmas.List.{length-map}
use Rattle.std.specs.List.{AllByRecursion, AllZip}
use Rattle.lookup_debug.specs.Contributions.{Traced}
use Rattle.language_meaning.specs.Columns.{outlines_in}
use Rattle.language_meaning.specs.Expressions.{tree_in}
use Rattle.language_meaning.specs.Shapes.{Shape, column_names}
use Rattle.language_meaning.specs.Tables.{TablesOf}
use Rattle.lookup_model.specs.Outline.{outline_of}
use Rattle.lookup_model.specs.declared.types.Lookup.{Lookup}
use Rattle.check_judge.specs.Found.{sized_of, sized_over}
use Rattle.check_judge.specs.Said.{AreLookupsOf, AreSaid, SayOver, names_over}
use Rattle.check_judge.specs.internal.Sharing.{AllHaveTuples, HaveTuples}
use Rattle.language.specs.declared.token.Span.{Span}
use Rattle.language.specs.Batches.{Air, Section}
use Rattle.language.specs.Items.{Item, Part, Placed}
use Rattle.language.specs.Items as items
use Rattle.language.specs.Messages.{Message}
use Rattle.language_meaning.specs.declared.name_fault.NameRefusal.{NameRefusal}
use Rattle.language_meaning.specs.Faults.{◌>>=◌}
use Rattle.language_meaning.specs.Lookups.{Addition, Column, Said, SentPart, addition, addition_at, column_alone, column_together, constrains, constraint_at, defined_by, defines, message_on, names_after, new_name, nothing, part_on, parts_on, publics_after, publishes, said_after, said_by_items, sends}
use Rattle.language_meaning.specs.Room.{InRoom}
use Rattle.language_meaning.specs.Scopes.{NamesInScope, boolean_of}

-- a lookup has a message
abbrev pub HasParts : Column → Type 0
HasParts c = 0 < length c.parts

-- a lookup that an item adds does
abbrev AddsParts : Addition → Type 0
AddsParts nothing = Unit {0}
AddsParts (defines d) = Unit {0}
AddsParts (publishes d n) = Unit {0}
AddsParts (constrains c) = Unit {0}
AddsParts (sends c) = HasParts c

-- a step that gives something, and what it gives to the next
first_step : {A B : Type 0} (r : Result A NameRefusal) (f : A → Result B NameRefusal) (y : B) → r >>= f ≡ Ok y → (x : A) × (r ≡ Ok x) × (f x ≡ Ok y)
first_step (Ok x) f y e = (x, refl, e)
first_step (Err r) f y e = absurd (cc e)

given : {A : Type 0} (P : A → Type 0) (x y : A) → P x → ◌≡◌ {A = Result A NameRefusal} (Ok x) (Ok y) → P y
given P x y holds e = let same : x ≡ y = cc e in subst P same holds

module _ (sections : List Section) where
  parts_there : (names : NamesInScope) (bus : Option Span) (p : Part) (ps : List Part) (room : ℕ) (y : InRoom (List SentPart)) → parts_on sections names bus (p ∷ ps) room ≡ Ok y → 0 < length y.0
  parts_there names bus p ps room y e =
      let (x, is, later) = first_step (part_on sections names bus p room) _ y e in
      let (xs, are, last) = first_step (parts_on sections names bus ps x.1) _ y later in
      given (λ z. 0 < length z.0) (x.0 ∷ xs.0, xs.1) y (omega arith) last

  alone_there : (names : NamesInScope) (m : Message) (room : ℕ) (y : InRoom Column) → column_alone sections names m room ≡ Ok y → HasParts y.0
  unfolding column_alone
  alone_there names m room y e =
      let (x, is, last) = first_step (message_on sections names m room) _ y e in
      given (λ z. HasParts z.0) _ y (omega arith) last

  together_there : (names : NamesInScope) (at : ℕ) (exclusive : Bool) (ps : List Part) (room : ℕ) (y : InRoom Column) → column_together sections names at exclusive ps room ≡ Ok y → HasParts y.0
  unfolding column_together
  together_there names at exclusive [] room y e = absurd (cc e)
  together_there names at exclusive (p ∷ ps) room y e =
      let (xs, there, last) = first_step (parts_on sections names p.message.bus (p ∷ ps) room) _ y e in
      given (λ z. HasParts z.0) _ y (parts_there names p.message.bus p ps room xs there) last

  item_there : (names : NamesInScope) (publics at : ℕ) (item : Item) (room : ℕ) (y : InRoom Addition) → addition_at sections names publics at item room ≡ Ok y → AddsParts y.0
  unfolding addition_at
  item_there names publics at (items.trace s) room y e = given (λ z. AddsParts z.0) _ y tt e
  item_there names publics at (items.preprocessed s) room y e = given (λ z. AddsParts z.0) _ y tt e
  item_there names publics at (items.lookups s) room y e = absurd (cc e)
  item_there names publics at (items.height n) room y e = given (λ z. AddsParts z.0) _ y tt e
  item_there names publics at (items.columns ss) room y e = given (λ z. AddsParts z.0) _ y tt e
  item_there names publics at (items.public s n) room y e = let (x, is, last) = first_step (new_name names s) _ y e in given (λ z. AddsParts z.0) _ y tt last
  item_there names publics at (items.letting s f) room y e = let (x, is, last) = first_step (defined_by names s f room) _ y e in given (λ z. AddsParts z.0) _ y tt last
  item_there names publics at (items.asserted f) room y e = let (x, is, last) = first_step (constraint_at names at f room) _ y e in given (λ z. AddsParts z.0) _ y tt last
  item_there names publics at (items.asserted_bool f) room y e = let (x, is, last) = first_step (constraint_at names at (boolean_of f) room) _ y e in given (λ z. AddsParts z.0) _ y tt last
  item_there names publics at (items.message m) room y e =
      let (c, there, last) = first_step (column_alone sections names m room) _ y e in
      given (λ z. AddsParts z.0) _ y (alone_there names m room c there) last
  item_there names publics at (items.together ps) room y e =
      let (c, there, last) = first_step (column_together sections names at false ps room) _ y e in
      given (λ z. AddsParts z.0) _ y (together_there names at false ps room c there) last
  item_there names publics at (items.exclusive ps) room y e =
      let (c, there, last) = first_step (column_together sections names at true ps room) _ y e in
      given (λ z. AddsParts z.0) _ y (together_there names at true ps room c there) last

  -- what is said with an addition before it
  all_there : (a : Addition) (said : Said) → AddsParts a → AllByRecursion HasParts said.columns → AllByRecursion HasParts (said_after a said).columns
  all_there nothing said here rest = rest
  all_there (defines d) said here rest = rest
  all_there (publishes d n) said here rest = rest
  all_there (constrains c) said here rest = rest
  all_there (sends c) said here rest = (here, rest)

  -- each lookup that items say has a message
  pub said_there : (names : NamesInScope) (publics : ℕ) (ps : List Placed) (room : ℕ) (said : Said) → said_by_items sections names publics ps room ≡ Ok said → AllByRecursion HasParts said.columns
  said_there names publics [] room said e = given (λ s. AllByRecursion HasParts s.columns) _ said tt e
  said_there names publics (p ∷ ps) room said e =
      let (a, first, later) = first_step (addition sections names publics p room) _ said e in
      let (rest, second, last) = first_step (said_by_items sections (names_after a.0 names) (publics_after a.0 publics) ps a.1) _ said later in
      given (λ s. AllByRecursion HasParts s.columns) _ said (all_there a.0 rest (item_there names publics p.at p.item room a first) (said_there (names_after a.0 names) (publics_after a.0 publics) ps a.1 rest second)) last

module _ {F : Type 0} (element : ℕ → F) (text : List ℕ) where
  outlines_there : (column : ℕ) (cs : List Column) → AllByRecursion HasParts cs → HaveTuples (outlines_in element text column cs)
  outlines_there column [] each = tt
  outlines_there column (c ∷ cs) each = (omega (arith, each.0, length-map c.parts (λ p. map (tree_in element) p.message.tuple)), outlines_there (column + 1) cs each.1)

  -- so have lookups over a field that are those that items say
  lookups_there : (said : Said) (lookups : List (Lookup F)) → AllByRecursion HasParts said.columns → AreLookupsOf element text said lookups → HaveTuples (map outline_of lookups)
  lookups_there said lookups each are = subst HaveTuples (sym are) (outlines_there 0 said.columns each)

  module _ (sections : List Section) where
    -- over columns
    pub planned_there : (room : ℕ) (airs : List Air) (ss : List Shape) (said : List Said) (lookups : List (List (Lookup F))) → SayOver text sections room airs ss said → AllZip (AreLookupsOf element text) said lookups → AllHaveTuples (sized_over lookups ss)
    planned_there room [] [] [] [] says are = tt
    planned_there room (a ∷ airs) (s ∷ ss) (x ∷ xs) (ls ∷ lookups) says are =
        (lookups_there x ls (said_there sections (names_over text s.columns s.preprocessed) 0 a.items room x says.0) are.0, planned_there x.room airs ss xs lookups says.1 are.1)
    planned_there room [] [] [] (ls ∷ lookups) says are = absurd are
    planned_there room [] [] (x ∷ xs) lookups says are = absurd says
    planned_there room [] (s ∷ ss) said lookups says are = absurd says
    planned_there room (a ∷ airs) [] said lookups says are = absurd says
    planned_there room (a ∷ airs) (s ∷ ss) [] lookups says are = absurd says
    planned_there room (a ∷ airs) (s ∷ ss) (x ∷ xs) [] says are = absurd are

    -- and over tables
    pub traced_there : (room : ℕ) (airs : List Air) (ts : List TablesOf) (traced : List (Traced F)) → AreSaid element text sections room airs ts traced → AllHaveTuples (map sized_of traced)
    traced_there room [] [] [] said = tt
    traced_there room (a ∷ airs) (t ∷ ts) (x ∷ xs) (said, is, rest) =
        (lookups_there said x.lookups (said_there sections (names_over text t.main.0 (column_names t.preprocessed)) 0 a.items room said is.items) is.lookups, traced_there said.room airs ts xs rest)
    traced_there room airs ts traced said = absurd said
