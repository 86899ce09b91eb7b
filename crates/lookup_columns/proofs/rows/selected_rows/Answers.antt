use Rattle.std.proofs.Common.{◌≡◌, ◌<◌, ◌≤◌, ◌∷◌, ◌++◌, [], List, ℕ, All, cond, false, length, take, get_or, slice_set, sym, ap, subst, ◌∙◌, arith}
use Rattle.std.proofs.lemmas.Bool.{false_from_ne_true, true≢false}
use Rattle.std.proofs.lemmas.List.{append-nil, get_or_default, length-set, length-take, take-set, take_all, take_more_set}
use Rattle.std.proofs.lemmas.List.Elements.{All-push}
use Rattle.list_laws.proofs.Items.{take_item}
use Rattle.lookup_columns.specs.internal.ChunkColumns.{AreSelected, selected_rows}
use Rattle.lookup_columns.proofs.SelectedRows.{selected_more, selected_skipped, selected_push}
use Rattle.lookup_columns.proofs.rows.selected_rows.Goals.{then-not-is_zero, else-not-is_zero}
use Rattle.lookup_columns.proofs.rows.selected_rows.Goals as goal

pub loop-i-preserved : goal.loop-i-preserved
loop-i-preserved g c =
    let R = g.F.PrimeCharacteristicRing.ring in
    let met = g.met.F.PrimeCharacteristicRing in
    let eq = g.F.PartialEq.eq in
    let i = c.loop-i.i in
    let flags = c.args.flags.now in
    let rows = c.args.rows.now in
    let indices = c.loop-i.indices.items in
    let list = c.loop-i.selected.items in
    let n = c.loop-i.count in
    let f = c.index-flags-i.result in
    let r = get_or rows i 0 in
    let so_far = c.loop-i.invariant in
    let lt : i < length rows = omega (arith, c.loop-i-test.true) in
    let below : n < length list = omega (arith, so_far.5, so_far.4, lt) in
    let flag_more = take_item flags i f (omega (arith, lt, c.requires)) c.index-flags-i.is in
    let row_more = take_item rows i r lt (get_or_default rows i 0 r lt) in
    let indices_are = take_more_set indices i n (omega (arith, lt, so_far.0)) in
    let flags_long : length (take i flags) ≡ length (take i rows) = omega (arith, length-take i flags, length-take i rows, c.requires, lt) in
    let indices_long : length (take i indices) ≡ length (take i rows) = omega (arith, so_far.0, length-take i indices, length-take i rows, lt) in
    let many = length-set indices i n ∙ so_far.0 in
    let more = selected_push R eq (take i flags) (take i rows) f r flags_long in
    let new = take c.if-not-is_zero.count (slice_set list n r) in
    elim c.if-not-is_zero.branch [
      | then-not-is_zero w ↦
          let selected_are : new ≡ take n list ++ r ∷ [] = ap (λ m. take m (slice_set list n r)) w.count-is ∙ take_more_set list n r below in
          let set : eq f R.zero ≡ false =
          false_from_ne_true (eq f R.zero) (λ e. true≢false (sym (c.is_zero.ensures.1 ((met.eq_is f R.zero).0 e)) ∙ w.if-not-is_zero.true)) in (
            many,
            selected_are ∙ (λ k. so_far.1 k ++ cond (sym set k) [] (r ∷ [])) ∙ sym more ∙ (λ k. selected_rows R eq (sym flag_more k) (sym row_more k)),
            subst (λ (X : Type 0). X) (λ k. AreSelected R (sym flag_more k) (sym row_more k) (sym indices_are k) (sym selected_are k))
                (selected_more R (take i flags) (take i rows) (take i indices) (take n list) f r flags_long indices_long so_far.2 n (omega (arith, length-take n list, below))),
            λ m bound. subst (λ (l : List ℕ). All (λ q. q < m) l) (sym selected_are) (All-push (λ q. q < m) (take n list) r (so_far.3 m bound) (bound i 0 lt)),
            length-set list n r ∙ so_far.4,
            omega (arith, w.count-is, so_far.5),
          )
      | else-not-is_zero w ↦
          let selected_are : new ≡ take n list = ap (λ m. take m (slice_set list n r)) w.count-is ∙ take-set list n r in
          let unset : f ≡ R.zero = c.is_zero.ensures.0 w.if-not-is_zero.false in (
            many,
            selected_are ∙ so_far.1 ∙ sym (append-nil (selected_rows R eq (take i flags) (take i rows))) ∙ (λ k. selected_rows R eq (take i flags) (take i rows) ++ cond (sym ((met.eq_is f R.zero).1 unset) k) [] (r ∷ [])) ∙ sym more ∙ (λ k. selected_rows R eq (sym flag_more k) (sym row_more k)),
            subst (λ (X : Type 0). X) (λ k. AreSelected R (sym flag_more k) (sym row_more k) (sym indices_are k) (sym selected_are k))
                (selected_skipped R (take i flags) (take i rows) (take i indices) (take n list) f r flags_long indices_long so_far.2 n unset),
            λ m bound. subst (λ (l : List ℕ). All (λ q. q < m) l) (sym selected_are) (so_far.3 m bound),
            length-set list n r ∙ so_far.4,
            omega (arith, w.count-is, so_far.5),
          )
    ]

pub returns : goal.returns
returns g c =
    let R = g.F.PrimeCharacteristicRing.ring in
    let eq = g.F.PartialEq.eq in
    let i = c.loop-i.i in
    let so_far = c.loop-i.invariant in
    let end : length c.args.rows.now ≤ i = c.loop-i-test.false in
    let all_flags = take_all i c.args.flags.now (omega (arith, end, c.requires)) in
    let all_rows = take_all i c.args.rows.now end in
    let all_indices = take_all i c.loop-i.indices.items (omega (arith, end, so_far.0)) in
    let selected_are = c.truncate.ensures.items in
    record {
      selected = selected_are ∙ so_far.1 ∙ (λ k. selected_rows R eq (all_flags k) (all_rows k));
      indices = subst (λ (X : Type 0). X) (λ k. AreSelected R (all_flags k) (all_rows k) (all_indices k) (sym selected_are k)) so_far.2;
      rows_exist = λ n bound. subst (λ (l : List ℕ). All (λ q. q < n) l) (sym selected_are) (so_far.3 n bound);
    }
