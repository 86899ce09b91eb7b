-- Buses among sections.
use Rattle.std.proofs.Common.{◌≡◌, ◌++◌, ◌+◌, ◌<◌, ℕ, suc, false, List, [], ◌∷◌, refl, ap, append-nil, sym, ◌∙◌, add-one, drop, drop-cons, get_or, length, map, take}
use Rattle.std.specs.Prelude.{is_some}
use Rattle.std.proofs.Math.Seq.{take-suc}
use Rattle.std.proofs.lemmas.List.{map-append}
use Rattle.language.specs.Batches.{Bus, Section, bus, air, bus_section_of, section_of}
use Rattle.language.specs.declared.batch.AirText.{AirText}
use Rattle.language.specs.declared.batch.BusText.{BusText}
use Rattle.language.specs.declared.batch.SectionText.{SectionText}
use Rattle.language.specs.declared.batch.SectionText.TheVariants as texts
use Rattle.language_meaning.specs.Buses.{buses_of, declared_width, distinct_after}
use Rattle.language_meaning.specs.Scopes.{bytes_in}

-- the buses of sections after others are after the buses of those
pub buses_of_append : (front back : List Section) → buses_of (front ++ back) ≡ buses_of front ++ buses_of back
buses_of_append [] back = refl
buses_of_append (bus b ∷ front) back = ap (λ bs. b ∷ bs) (buses_of_append front back)
buses_of_append (air a ∷ front) back = buses_of_append front back

-- the buses of so many sections
abbrev pub first_buses : List SectionText → ℕ → List Bus
first_buses sections i = buses_of (map section_of (take i sections))

-- the buses of all sections but so many
abbrev pub last_buses : List SectionText → ℕ → List Bus
last_buses sections i = buses_of (map section_of (drop i sections))

-- with one more section there are its buses more
first_buses_more : (sections : List SectionText) (i : ℕ) (s : SectionText) → i < length sections → get_or sections i s ≡ s → first_buses sections (i + 1) ≡ first_buses sections i ++ buses_of (section_of s ∷ [])
first_buses_more sections i s within e =
    ap (λ n. first_buses sections n) (add-one i)
    ∙ ap (λ l. buses_of (map section_of l)) (take-suc sections i s within)
    ∙ ap (λ x. buses_of (map section_of (take i sections ++ (x ∷ [])))) e
    ∙ ap buses_of (map-append section_of (take i sections) (s ∷ []))
    ∙ buses_of_append (map section_of (take i sections)) (section_of s ∷ [])

-- the sections from one on are that one and those after it
last_buses_less : (sections : List SectionText) (i : ℕ) (s : SectionText) → i < length sections → get_or sections i s ≡ s → last_buses sections i ≡ buses_of (section_of s ∷ map section_of (drop (i + 1) sections))
last_buses_less sections i s within e =
    ap (λ l. buses_of (map section_of l)) (drop-cons sections i s within)
    ∙ ap (λ x. buses_of (section_of x ∷ map section_of (drop (suc i) sections))) e
    ∙ ap (λ n. buses_of (section_of s ∷ map section_of (drop n sections))) (sym (add-one i))

-- a bus with a name of its own is passed
pub new_bus : (text : List ℕ) (sections : List SectionText) (i : ℕ) (s : SectionText) (b : BusText)
    → i < length sections → get_or sections i s ≡ s → s ≡ texts.Bus b
    → is_some (declared_width text (bytes_in b.name text) (first_buses sections i)) ≡ false
    → distinct_after text (first_buses sections (i + 1)) (last_buses sections (i + 1)) ≡ distinct_after text (first_buses sections i) (last_buses sections i)
new_bus text sections i s b within e is new =
    let more : first_buses sections (i + 1) ≡ first_buses sections i ++ bus_section_of b ∷ [] = first_buses_more sections i s within e ∙ ap (λ x. first_buses sections i ++ buses_of (section_of x ∷ [])) is in
    let less : last_buses sections i ≡ bus_section_of b ∷ last_buses sections (i + 1) = last_buses_less sections i s within e ∙ ap (λ x. buses_of (section_of x ∷ map section_of (drop (i + 1) sections))) is in
    rw (more, less, new) refl

-- an AIR is passed
pub no_bus : (text : List ℕ) (sections : List SectionText) (i : ℕ) (s : SectionText) (a : AirText)
    → i < length sections → get_or sections i s ≡ s → s ≡ texts.Air a
    → distinct_after text (first_buses sections (i + 1)) (last_buses sections (i + 1)) ≡ distinct_after text (first_buses sections i) (last_buses sections i)
no_bus text sections i s a within e is =
    let more : first_buses sections (i + 1) ≡ first_buses sections i ++ [] = first_buses_more sections i s within e ∙ ap (λ x. first_buses sections i ++ buses_of (section_of x ∷ [])) is in
    let less : last_buses sections i ≡ last_buses sections (i + 1) = last_buses_less sections i s within e ∙ ap (λ x. buses_of (section_of x ∷ map section_of (drop (i + 1) sections))) is in
    rw (more, less, append-nil) refl
