-- Widths on buses, one by one.
use Rattle.std.proofs.Common.{◌≡◌, ◌≢◌, ◌++◌, ◌∷◌, ◌+◌, ◌<◌, ℕ, cond, List, [], Option, None, Some, get_or, length, map, max, nat_cmp, rules, slice_get, take, unwrap_or, refl, sym, ap, arith, ◌∙◌}
use Rattle.std.proofs.lemmas.List.{map_push}
use Rattle.std.proofs.lemmas.Option.{slice_get-get_or, slice_get-map}
use Rattle.std.specs.Borrow.{Bor}
use Rattle.std.specs.List.{flat_map}
use Rattle.std.specs.Option.{option_map}
use Rattle.std.specs.Ordering.{ord_max}
use Rattle.std.specs.Map.{lookup}
use Rattle.list_laws.proofs.Each.{all_both, all_weaker}
use Rattle.list_laws.proofs.Items.{take_item}
use Rattle.list_laws.proofs.Parts.{parts_next}
use Rattle.indexmap.specs.IndexMap.{insert_entry}
use Rattle.lookup_model.specs.LookupDegree.{greatest}
use Rattle.lookup_model.specs.declared.error.LookupError.{LookupError}
use Rattle.lookup_model.specs.Names.{same_name}
use Rattle.lookup.specs.NamedWidths.{AgreeOnWidths, IsFirstWidthMismatch, IsWidthMismatch, first_width, seen_widths}
use Rattle.lookup.specs.declared.bus_widths.NamedWidth.{NamedWidth}
use Rattle.lookup_model.proofs.Names.{same_name-Decides}
use Rattle.lookup.proofs.PackLaws.{at_index}

-- the greater of two numbers
max_is : (a b : ℕ) → ord_max nat_cmp a b ≡ max a b
max_is a b = search rules

-- a greatest number, with one more
pub greatest_push : (ns : List ℕ) (n : ℕ) → greatest (ns ++ n ∷ []) ≡ max (greatest ns) n
greatest_push [] n = omega arith
greatest_push (m ∷ ms) n = omega (arith, greatest_push ms n)

-- the one, or else the other
abbrev or_else : Option ℕ → Option ℕ → Option ℕ
or_else None other = other
or_else (Some x) other = Some x

or_some : (o : Option ℕ) (width : ℕ) → Some (unwrap_or o width) ≡ or_else o (Some width)
or_some None width = refl
or_some (Some x) width = refl

-- the first width under a name, with one more
first_push : (widths : List (List ℕ × ℕ)) (name : List ℕ) (width : ℕ) (q : List ℕ) → first_width (widths ++ (name, width) ∷ []) q ≡ or_else (first_width widths q) (cond (same_name q name) (Some width) None)
first_push [] name width q = refl
first_push (w ∷ ws) name width q = grind (arith, first_push ws name width q)

module _ {K : Type 0} (name_of : K → List ℕ) where
  -- what a map has under a name
  abbrev pub at : List (K × ℕ) → List ℕ → Option ℕ
  at es q = lookup (λ k. same_name q (name_of k)) es

  -- the map with a value at a key
  abbrev pub inserted : List (K × ℕ) → K → ℕ → List (K × ℕ)
  inserted es k v = insert_entry (λ a b. same_name (name_of a) (name_of b)) es k v

  -- what it has then
  pub at_inserted : (es : List (K × ℕ)) (k : K) (v : ℕ) (q : List ℕ) → at (inserted es k v) q ≡ cond (same_name q (name_of k)) (Some v) (at es q)
  at_inserted [] k v q = refl
  at_inserted (e ∷ es) k v q = grind (arith, at_inserted es k v q, same_name-Decides (name_of k) (name_of e.0), same_name-Decides q (name_of k), same_name-Decides q (name_of e.0))

  -- a map has the first width under each name
  abbrev pub HoldsFirst : List (K × ℕ) → List (List ℕ × ℕ) → Type 0
  HoldsFirst es widths = (q : List ℕ) → at es q ≡ first_width widths q

  -- so it is of one more width
  pub holds_more : (es after : List (K × ℕ)) (widths : List (List ℕ × ℕ)) (k : K) (width v : ℕ) → HoldsFirst es widths → v ≡ unwrap_or (at es (name_of k)) width → after ≡ inserted es k v → HoldsFirst after (widths ++ (name_of k, width) ∷ [])
  holds_more es after widths k width v holds v_is after_is q =
      ap (λ t. at t q) after_is ∙ grind (arith, at_inserted es k v q, first_push widths (name_of k) width q, same_name-Decides q (name_of k), holds q, v_is, or_some (first_width widths q) width)

module _ (widths : List (List ℕ × ℕ)) (name : List ℕ) (width : ℕ) where
  -- the widths with one more
  abbrev more : List (List ℕ × ℕ)
  more = widths ++ (name, width) ∷ []

  -- earlier widths stay the first of theirs
  still : (w : List ℕ × ℕ) → first_width widths w.0 ≡ Some w.1 → first_width more w.0 ≡ Some w.1
  still w first = first_push widths name width w.0 ∙ ap (λ o. or_else o (cond (same_name w.0 name) (Some width) None)) first

  -- a width that is the first of its bus
  pub agree_more : AgreeOnWidths widths → unwrap_or (first_width widths name) width ≡ width → AgreeOnWidths more
  agree_more agree same =
      let first : first_width more name ≡ Some width =
      first_push widths name width name ∙ ap (λ b. or_else (first_width widths name) (cond b (Some width) None)) ((same_name-Decides name name).1 refl)
      ∙ sym (or_some (first_width widths name) width) ∙ ap Some same in
      all_both (λ w. first_width more w.0 ≡ Some w.1) widths ((name, width) ∷ []) (all_weaker (λ w. first_width widths w.0 ≡ Some w.1) (λ w. first_width more w.0 ≡ Some w.1) still widths agree) (first, tt)

-- a width that is not
pub mismatch_here : (widths : List (List ℕ × ℕ)) (i : ℕ) (name : List ℕ) (width v : ℕ) (e : LookupError) → slice_get widths i ≡ Some (name, width) → AgreeOnWidths (take i widths)
    → v ≡ unwrap_or (first_width (take i widths) name) width → v ≢ width → IsWidthMismatch name v width e → IsFirstWidthMismatch widths e
mismatch_here widths i name width v e there agree is other refusal =
    let (later, whole, next) = at_index widths i (name, width) there in
    record {
      before = take i widths;
      item = (name, width);
      after = later;
      split = whole;
      good = agree;
      fault = record {
        expected = v;
        first = grind (arith, is, other);
        differs = λ same. other (sym same);
        refusal = refusal;
      };
    }

module _ (widths : List NamedWidth) (i : ℕ) (d : NamedWidth) (lt : i < length widths) where
  -- the width at an index
  abbrev named : NamedWidth
  named = get_or widths i d

  there : slice_get (seen_widths widths) i ≡ Some (named.name.now, named.width)
  there = slice_get-map (λ w. (w.name.now, w.width)) widths i ∙ ap (option_map (λ w. (w.name.now, w.width))) (slice_get-get_or widths i d lt)

  -- the widths below it
  abbrev below : List (List ℕ × ℕ)
  below = take i (seen_widths widths)

  module _ (es after : List (Bor (List ℕ) × ℕ)) (v : ℕ) (holds : HoldsFirst (λ k. k.now) es below) (v_is : v ≡ unwrap_or (at (λ k. k.now) es named.name.now) named.width) where
    -- the value of the map is the first width under its name, or this one
    value_is : v ≡ unwrap_or (first_width below named.name.now) named.width
    value_is = v_is ∙ ap (λ o. unwrap_or o named.width) (holds named.name.now)

    -- one more width that is the first under its name
    pub widest_more : (widest next : ℕ) → after ≡ inserted (λ k. k.now) es named.name v → AgreeOnWidths below → v ≡ named.width → widest ≡ greatest (map (λ w. w.1) below) → next ≡ ord_max nat_cmp widest named.width
        → HoldsFirst (λ k. k.now) after (take (i + 1) (seen_widths widths)) × AgreeOnWidths (take (i + 1) (seen_widths widths)) × (next ≡ greatest (map (λ w. w.1) (take (i + 1) (seen_widths widths))))
    widest_more widest next after_is agree same so_far next_is =
        let (later, whole, longer) = at_index (seen_widths widths) i (named.name.now, named.width) there in (
          rw longer (holds_more (λ k. k.now) es after below named.name named.width v holds v_is after_is),
          rw longer (agree_more below named.name.now named.width agree (sym value_is ∙ same)),
          rw longer
              (next_is ∙ max_is widest named.width ∙ ap (λ n. max n named.width) so_far
              ∙ sym (ap greatest (map_push (λ (w : List ℕ × ℕ). w.1) below (named.name.now, named.width)) ∙ greatest_push (map (λ w. w.1) below) named.width)),
        )

    -- one that is not
    pub widest_mismatch : (e : LookupError) → AgreeOnWidths below → v ≢ named.width → IsWidthMismatch named.name.now v named.width e → IsFirstWidthMismatch (seen_widths widths) e
    widest_mismatch e agree other refusal = mismatch_here (seen_widths widths) i named.name.now named.width v e there agree value_is other refusal

pub parts_more : {X Y : Type 0} (f : X → List Y) (xs : List X) (i : ℕ) (x : X) (old before after : List Y) → i < length xs → x ≡ get_or xs i x → before ≡ old ++ flat_map f (take i xs) → after ≡ before ++ f x → after ≡ old ++ flat_map f (take (i + 1) xs)
parts_more f xs i x old before after lt is = parts_next f (take i xs) (take (i + 1) xs) x old before after (take_item xs i x lt is)
