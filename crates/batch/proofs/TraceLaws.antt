-- The batch of a plan over its traces.
use Rattle.std.proofs.Common.{◌≡◌, ◌<◌, ◌+◌, ◌++◌, ◌∷◌, ℕ, List, [], Some, All, get_or, length, map, take, refl, sym, ap, ap₂, subst, ◌∙◌, arith}
use Rattle.std.proofs.lemmas.List.{get_or_default, length-map, map_push}
use Rattle.std.proofs.lemmas.List.Elements.{All-cons, All-nil}
use Rattle.std.proofs.lemmas.Slice.Zip.{get_or-zip, length-zip}
use Rattle.std.specs.List.{AllByRecursion, slice_get, zip}
use Rattle.std.specs.declared.alloc.Global.{Global}
use Rattle.std.specs.declared.vec.Vec.{Vec}
use Rattle.list_laws.proofs.Each.{all_here, all_of_map, all_parts}
use Rattle.list_laws.proofs.Images.{images_more, mapped_at}
use Rattle.list_laws.proofs.Items.{item_there}
use Rattle.list_laws.proofs.Zips.{pair_at, zip_at}
use Rattle.matrix.specs.Matrix.{Matrix}
use Rattle.lookup_model.specs.Batches.Ids.{batch_lookups_with_ids}
use Rattle.lookup_model.specs.Batches.Instances.{Instance, InstancesFit, IsFitting, instance_of, instances_of}
use Rattle.lookup_model.specs.declared.instance.BatchInstance.{BatchInstance}
use Rattle.lookup_model.specs.declared.types.Lookup.{Lookup}
use Rattle.lookup.specs.Lookups.{lookups_of}
use Rattle.lookup.specs.declared.lookups.Lookups.{Lookups}
use Rattle.batch.specs.Lists.{lists_of}
use Rattle.batch.specs.Traces.{FitsAt, batch_over, instance_of_main, instance_over, traces_of_main, view_of}
use Rattle.batch.specs.declared.trace.BatchTrace.{BatchTrace}
use Rattle.batch.specs.internal.Pairs.{HaveIdsBelow}

module _ {F : Type 0} where
  -- AIRs that fit their heights fit
  pub fits_from : (instances : List (Instance F)) (heights : List ℕ) → length instances ≡ length heights → All FitsAt (zip instances heights) → All IsFitting instances
  fits_from instances heights same all k d lt =
      subst (λ (t : Instance F × ℕ). IsFitting t.0) (get_or-zip instances heights k (d, 0) lt (omega (arith, lt, same))) (all k (d, 0) (omega (arith, lt, same, length-zip instances heights))).1

  ids_below : (m : ℕ) (ids : List ℕ) (lookups : List (Lookup F)) → length ids ≡ length lookups → AllByRecursion (λ a. a.0 < m) (zip ids lookups) → All (λ id. id < m) ids
  ids_below m [] lookups same all = All-nil (λ id. id < m)
  ids_below m (id ∷ ids) [] same all = absurd (omega (arith, same))
  ids_below m (id ∷ ids) (l ∷ ls) same all = All-cons (λ i. i < m) id ids all.0 (ids_below m ids ls (omega (arith, same)) all.1)

  -- the ids of AIRs are below m if those of their lookups are
  pub airs_below : (m : ℕ) (is : List (Instance F)) → All IsFitting is → AllByRecursion (λ a. a.0 < m) (batch_lookups_with_ids is) → All (λ i. All (λ id. id < m) i.ids) is
  airs_below m is fit all k i lt =
      let one = get_or is k i in
      ids_below m one.ids one.lookups (fit k i lt).ids (all_here (λ j. AllByRecursion (λ a. a.0 < m) (zip j.ids j.lookups)) is k i lt (all_parts (λ a. a.0 < m) (λ j. zip j.ids j.lookups) is all))

  -- the ids of a batch are below m if those of its lookups are
  pub have_below : (m : ℕ) (bs : List (BatchInstance F)) → InstancesFit bs → AllByRecursion (λ a. a.0 < m) (batch_lookups_with_ids (instances_of bs)) → HaveIdsBelow m bs
  have_below m bs fit all k b lt =
      let Below = λ (i : Instance F). AllByRecursion (λ a. a.0 < m) (zip i.ids i.lookups) in
      let one = get_or bs k b in
      ids_below m one.ids.now one.lookups.now (fit k b lt).ids (all_here (λ c. Below (instance_of c)) bs k b lt (all_of_map Below instance_of bs (all_parts (λ a. a.0 < m) (λ i. zip i.ids i.lookups) (instances_of bs) all)))

  module _ (airs : List (Lookups F)) (ids : List (Vec ℕ Global)) (traces : List (BatchTrace F)) (ids_are : length ids ≡ length airs) (traces_are : length traces ≡ length airs) where
    -- the AIRs with their ids and traces
    abbrev pub parts : List ((List ℕ × Lookups F) × BatchTrace F)
    parts = zip (zip (lists_of ids) airs) traces

    lists_are : length (lists_of ids) ≡ length airs
    lists_are = length-map ids (λ list. list.items) ∙ ids_are

    pub length_parts : length parts ≡ length airs
    length_parts = omega (arith, length-zip (zip (lists_of ids) airs) traces, length-zip (lists_of ids) airs, lists_are, traces_are)

    -- the AIR at an index, with its id list and its trace
    module _ (i : ℕ) (list : Vec ℕ Global) (air : Lookups F) (trace : BatchTrace F) (lt : i < length airs) (list_is : list ≡ get_or ids i list) (air_is : air ≡ get_or airs i air) (trace_is : trace ≡ get_or traces i trace) where
      part_there : ((list.items, air), trace) ≡ get_or parts i ((list.items, air), trace)
      part_there =
          let air_there = zip_at (lists_of ids) airs i list.items air lists_are (omega (arith, lists_are, lt)) (mapped_at (λ l. l.items) ids i list (omega (arith, ids_are, lt)) list_is) air_is in
          zip_at (zip (lists_of ids) airs) traces i (list.items, air) trace (omega (arith, length-zip (lists_of ids) airs, lists_are, traces_are)) (omega (arith, length-zip (lists_of ids) airs, lists_are, lt)) air_there trace_is

      -- is the AIR of the batch over the traces
      pub air_read : instance_over (list.items, air) trace ≡ get_or (batch_over (lists_of ids) airs traces) i (instance_over (list.items, air) trace)
      air_read = mapped_at (λ t. instance_over t.0 t.1) parts i ((list.items, air), trace) (omega (arith, length_parts, lt)) part_there

      pub air_there : slice_get (batch_over (lists_of ids) airs traces) i ≡ Some (instance_over (list.items, air) trace)
      air_there =
          item_there (batch_over (lists_of ids) airs traces) i (instance_over (list.items, air) trace) (omega (arith, length-map parts (λ t. instance_over t.0 t.1), length_parts, lt)) air_read

      -- and stands there with its height
      pub trace_there : (heights : List ℕ) → length heights ≡ length airs → slice_get (zip (batch_over (lists_of ids) airs traces) heights) i ≡ Some (instance_over (list.items, air) trace, get_or heights i 0)
      trace_there heights same =
          pair_at (batch_over (lists_of ids) airs traces) heights i (instance_over (list.items, air) trace) (get_or heights i 0) (omega (arith, length-map parts (λ t. instance_over t.0 t.1), length_parts, lt)) (omega (arith, lt, same))
          air_read (get_or_default heights i 0 (get_or heights i 0) (omega (arith, lt, same)))

    -- one AIR more
    pub batch_more : (bs : List (BatchInstance F)) (b : BatchInstance F) (i : ℕ) (list : Vec ℕ Global) (air : Lookups F) (trace : BatchTrace F) → i < length airs
        → list ≡ get_or ids i list → air ≡ get_or airs i air → trace ≡ get_or traces i trace → instance_of b ≡ instance_over (list.items, air) trace
        → instances_of bs ≡ map (λ t. instance_over t.0 t.1) (take i parts) → instances_of (bs ++ b ∷ []) ≡ map (λ t. instance_over t.0 t.1) (take (i + 1) parts)
    batch_more bs b i list air trace lt list_is air_is trace_is b_is so_far =
        let there = part_there i list air trace lt list_is air_is trace_is in
        map_push instance_of bs b
        ∙ (λ j. so_far j ++ b_is j ∷ [])
        ∙ sym (images_more (λ t. instance_over t.0 t.1) parts i ((list.items, air), trace) (omega (arith, length_parts, lt)) there)

  -- there is an instance for each AIR
  pub length_batch : (airs : List (Lookups F)) (ids : List (List ℕ)) (traces : List (BatchTrace F)) → length ids ≡ length airs → length traces ≡ length airs → length (batch_over ids airs traces) ≡ length airs
  length_batch airs ids traces ids_are traces_are =
      omega (arith, length-map (zip (zip ids airs) traces) (λ t. instance_over t.0 t.1), length-zip (zip ids airs) traces, length-zip ids airs, ids_are, traces_are)

-- over main traces alone, the batch of a plan is that of these
pub alone_is : {F : Type 0} (airs : List (List ℕ × Lookups F)) (traces : List (BatchTrace F)) (mains : List (Matrix F)) → map view_of traces ≡ map traces_of_main mains
    → map (λ t. instance_over t.0 t.1) (zip airs traces) ≡ map (λ t. instance_of_main t.0 t.1) (zip airs mains)
alone_is [] traces mains same = refl
alone_is (a ∷ airs) [] [] same = refl
alone_is (a ∷ airs) (t ∷ ts) (m ∷ ms) same =
    let head : view_of t ≡ traces_of_main m = ap (λ all. get_or all 0 (view_of t)) same in
    ap₂ (λ x xs. x ∷ xs) (λ i. record { lookups = lookups_of a.1; traces = head i; ids = a.0 }) (alone_is airs ts ms (cc same))
alone_is (a ∷ airs) traces mains same = absurd cc
