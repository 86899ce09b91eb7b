-- Lookups that are extracted one after another.
use Rattle.std.proofs.Common.{◌≡◌, ℕ, ◌+◌, List, [], ◌∷◌, ◌++◌, length, map, All, arith, refl, ap, sym, ◌∙◌, subst}
use Rattle.std.proofs.lemmas.List.{append-nil, append_assoc, length-append, length-map, length_push, map_push}
use Rattle.std.proofs.lemmas.List.Elements.{All-cons, All-map}
use Rattle.std.proofs.lemmas.List.FromFn.{length-enumerate_from}
use Rattle.std.specs.List.{enumerate_from}
use Rattle.list_laws.proofs.Images.{map-map, same_length}
use Rattle.lookup_model.specs.declared.error.LookupError.{LookupError}
use Rattle.lookup_record.specs.Interaction.{Tuple, GlobalInteraction, ExclusiveInteraction}
use Rattle.lookup_model.specs.Outline.{Outline}
use Rattle.list_laws.proofs.Each.{All-of_map}
use Rattle.lookup.specs.Extraction.{exclusive_at, extraction, global_at, in_columns, local_at, tuple_widths, IsFaultless, IsFirstLocalRefusal, IsLocalRefusal}

-- one more lookup, in the next column
pub next_column : {L M E : Type 0} (seen : L → Outline E) (lookup_at : ℕ → M → Outline E) (lookups : List L) (l : L) (m : M) (rest : List M) → seen l ≡ lookup_at (length lookups) m
    → map seen (lookups ++ l ∷ []) ++ in_columns lookup_at (length (lookups ++ l ∷ [])) rest ≡ map seen lookups ++ in_columns lookup_at (length lookups) (m ∷ rest)
next_column seen lookup_at lookups l m rest is =
    (λ i. map_push seen lookups l i ++ in_columns lookup_at (length_push lookups l i) rest)
    ∙ append_assoc (map seen lookups) (seen l ∷ []) (in_columns lookup_at (length lookups + 1) rest)
    ∙ ap (λ s. map seen lookups ++ s ∷ in_columns lookup_at (length lookups + 1) rest) is

module _ {E : Type 0} where
  -- the first refusal after a local interaction without a fault
  pub refused_later : (tuples : List (Tuple E)) (rest : List (List (Tuple E))) (e : LookupError) → IsFaultless tuples → IsFirstLocalRefusal rest e → IsFirstLocalRefusal (tuples ∷ rest) e
  refused_later tuples rest e faultless first = record {
    before = tuples ∷ first.before;
    item = first.item;
    after = first.after;
    split = ap (λ t. tuples ∷ t) first.split;
    good = All-cons IsFaultless tuples first.before faultless first.good;
    fault = first.fault;
  }

  -- the refusal of the first one
  pub refused_first : (tuples : List (Tuple E)) (rest : List (List (Tuple E))) (e : LookupError) → IsLocalRefusal tuples e → IsFirstLocalRefusal (tuples ∷ rest) e
  refused_first tuples rest e refusal = record {
    before = [];
    item = tuples;
    after = rest;
    split = refl;
    good = λ i d lt. absurd (omega (arith, lt));
    fault = refusal;
  }

module _ {L M R E : Type 0} (seen : L → Outline E) (lookup_at : ℕ → M → Outline E) (seen_interaction : R → M) where
  -- what is seen of the lookups so far and of the interactions that are left stays the same
  pub next_seen : (before after : List L) (l : L) (left later : List R) (x : R) (column : ℕ) → after ≡ before ++ l ∷ [] → left ≡ x ∷ later → column ≡ length before → seen l ≡ lookup_at column (seen_interaction x)
      → map seen after ++ in_columns lookup_at (length after) (map seen_interaction later) ≡ map seen before ++ in_columns lookup_at (length before) (map seen_interaction left)
  next_seen before after l left later x column pushed next at is =
      (λ i. map seen (pushed i) ++ in_columns lookup_at (length (pushed i)) (map seen_interaction later))
      ∙ next_column seen lookup_at before l (seen_interaction x) (map seen_interaction later) (is ∙ ap (λ n. lookup_at n (seen_interaction x)) at)
      ∙ ap (λ t. map seen before ++ in_columns lookup_at (length before) (map seen_interaction t)) (sym next)

-- as many lookups as interactions
length-in_columns : {M E : Type 0} (lookup_at : ℕ → M → Outline E) (n : ℕ) (interactions : List M) → length (in_columns lookup_at n interactions) ≡ length interactions
length-in_columns lookup_at n interactions =
    length-map (enumerate_from n interactions) (λ p. lookup_at p.0 p.1) ∙ length-enumerate_from n interactions

module _ {L E : Type 0} (seen : L → Outline E) where
  length-seen : (lookups : List L) (list : List (Outline E)) → map seen lookups ≡ list → length lookups ≡ length list
  length-seen lookups list e = sym (length-map lookups seen) ∙ ap length e

  -- the three kinds one after another are the extraction
  pub extraction_of_three : (one two three : List L) (locals : List (List (Tuple E))) (globals : List (GlobalInteraction E)) (exclusives : List (ExclusiveInteraction E))
      → map seen one ≡ in_columns local_at 0 locals → map seen two ≡ map seen one ++ in_columns global_at (length one) globals → map seen three ≡ map seen two ++ in_columns exclusive_at (length two) exclusives
      → map seen three ≡ extraction locals globals exclusives
  extraction_of_three one two three locals globals exclusives first second third =
      let length_one : length one ≡ length locals = length-seen one (in_columns local_at 0 locals) first ∙ length-in_columns local_at 0 locals in
      let both : map seen two ≡ in_columns local_at 0 locals ++ in_columns global_at (length locals) globals =
      second ∙ (λ i. first i ++ in_columns global_at (length_one i) globals) in
      let length_two : length two ≡ length locals + length globals =
      length-seen two (in_columns local_at 0 locals ++ in_columns global_at (length locals) globals) both
      ∙ length-append (in_columns local_at 0 locals) (in_columns global_at (length locals) globals)
      ∙ (λ i. length-in_columns local_at 0 locals i + length-in_columns global_at (length locals) globals i) in
      third ∙ (λ i. both i ++ in_columns exclusive_at (length_two i) exclusives)

-- likewise of lookups
pub all_seen : {L M E : Type 0} (seen : L → Outline E) (lookup_at : ℕ → M → Outline E) (lookups : List L) (rest : List M) (list : List (Outline E)) → rest ≡ [] → map seen lookups ++ in_columns lookup_at (length lookups) rest ≡ list → map seen lookups ≡ list
all_seen seen lookup_at lookups rest list none e =
    sym (append-nil (map seen lookups)) ∙ ap (λ r. map seen lookups ++ in_columns lookup_at (length lookups) r) (sym none) ∙ e

module _ {A E : Type 0} (items : A → List E) where
  -- lists of one width, as the fields of tuples
  pub widths_of_tuples : (vs : List A) (tuples : List (Tuple E)) (width : ℕ) → map items vs ≡ map (λ t. t.fields) tuples → All (λ v. length (items v) ≡ width) vs → All (λ t. length t.fields ≡ width) tuples
  widths_of_tuples vs tuples width e all =
      All-of_map (λ xs. length xs ≡ width) (λ t. t.fields) tuples (subst (All (λ xs. length xs ≡ width)) e (All-map (λ xs. length xs ≡ width) items vs all))

  -- their widths are those of the tuples
  pub same_widths : (vs : List A) (tuples : List (Tuple E)) → map items vs ≡ map (λ t. t.fields) tuples → map (λ v. length (items v)) vs ≡ tuple_widths tuples
  same_widths vs tuples e =
      sym (map-map length items vs) ∙ ap (map length) e ∙ map-map length (λ t. t.fields) tuples

-- two lists that read off one list are equally long
pub same_lengths : {A B C T : Type 0} (items : A → B) (f : T → B) (g : T → C) (vs : List A) (ms : List C) (ts : List T) → map items vs ≡ map f ts → ms ≡ map g ts → length ms ≡ length vs
same_lengths items f g vs ms ts vs_are ms_are = ap length ms_are ∙ length-map ts g ∙ sym (same_length items f vs ts vs_are)
