-- What the programs know of a field that they offer.
use Rattle.std.specs.Prelude.{◌≡◌, ◌≢◌, ◌⊎◌, ◌^◌, ℕ, List, [], ◌∷◌}
use Rattle.field_words.specs.Fields.{Fields}

-- A field of challenges over a field of traces: its name on a command line, the two fields, the number
-- that an element of a trace is told as, and how many coefficients a challenge has.
pub record Offer (F K : Type 0) : Type 1 where
  pub name : List ℕ
  pub fields : Fields F K
  pub number : F → ℕ
  pub degree : ℕ

-- an offer, by its parts
abbrev pub offer : {F K : Type 0} → List ℕ → Fields F K → (F → ℕ) → ℕ → Offer F K
offer name fields number degree = record { name = name; fields = fields; number = number; degree = degree }

-- how many challenges there are
abbrev pub challenges_in : {F K : Type 0} → Offer F K → ℕ
challenges_in o = o.fields.characteristic ^ o.degree

-- what may be said of a field that the programs offer
abbrev pub Statement : Type 1
Statement = (F K : Type 0) → Offer F K → Type 0

-- A list of such fields.
pub data Offers : Type 1 where
  no_offer : Offers
  offer_and : {F K : Type 0} → Offer F K → Offers → Offers

-- their names, in order
abbrev pub names_of : Offers → List (List ℕ)
names_of no_offer = []
names_of (offer_and o others) = o.name ∷ names_of others

-- how many challenges each of them has, in order
abbrev pub counts_of : Offers → List ℕ
counts_of no_offer = []
counts_of (offer_and o others) = challenges_in o ∷ counts_of others

-- what holds of the first one with a name; nothing if none has it
abbrev pub HoldsOf : List ℕ → Statement → Offers → Type 0
HoldsOf name statement no_offer = ⊥
HoldsOf name statement (offer_and {F} {K} o others) = ((o.name ≡ name) × statement F K o) ⊎ ((o.name ≢ name) × HoldsOf name statement others)
