use Rattle.std.proofs.Common.{◌≡◌, ◌<◌, ◌≤◌, ◌+◌, ◌∷◌, [], ℕ, Some, List, drop, get_or, length, map, slice_get, take, leb-false, leb-true, sym, subst, ◌∙◌, arith}
use Rattle.std.proofs.lemmas.List.{drop_all, drop_more, length-map, map-append, take-append-drop}
use Rattle.list_laws.proofs.Each.{all_back}
use Rattle.std.specs.List.{AllByRecursion}
use Rattle.check_judge.specs.declared.sharing.LookupTuples.{LookupTuples}
use Rattle.check_judge.proofs.CutLaws.{AreCutSoFar, all_closed, closes, held, none_cut, none_there, one_left, size_there, stays_open}
use Rattle.check_judge.proofs.sharing.sharing.Goals.{in-Some, in-None, then-is_full+in_ok-push-2, else-is_full}
use Rattle.check_judge.proofs.sharing.sharing.Goals as goal

pub loop-member-init : goal.loop-member-init
loop-member-init g c = λ cuts cut each sizes. rw (c.new-columns.ensures.items, c.new-members.ensures.items) (none_cut (λ member. member.tuples) (λ member. member.number) cuts c.args.order.now cut each)

pub loop-member-preserved : goal.loop-member-preserved
loop-member-preserved g c =
    λ cuts cut each sizes.
    let i = c.loop-member.member-index in
    let order = c.args.order.now in
    let x : LookupTuples = get_or order i (record { number = 0; tuples = 0 }) in
    let later : List LookupTuples = drop (i + 1) order in
    let next : drop i order ≡ x ∷ later = drop_more order i (record { number = 0; tuples = 0 }) c.loop-member-test.true in
    let tuples : LookupTuples → ℕ = λ member. member.tuples in
    let number : LookupTuples → ℕ = λ member. member.number in
    let columns : List (List ℕ) = map (λ members. members.items) c.loop-member.columns.items in
    let members : List ℕ = c.loop-member.members.items in
    let so_far = subst (AreCutSoFar tuples number cuts columns members c.loop-member.tuples) next (c.loop-member.invariant cuts cut each sizes) in
    let end : c.len.result ≡ length columns = omega (arith, c.len.ensures, length-map c.loop-member.columns.items (λ members. members.items)) in
    let left : AllByRecursion (λ member. 0 < member.tuples) later = all_back (λ member. 0 < member.tuples) (take (i + 1) order) later (subst (AllByRecursion (λ member. 0 < member.tuples)) (sym (take-append-drop (i + 1) order)) each) in
    elim c.match-get.branch [
      | in-Some v ↦
          let there = v.in-Some.ensures.lookup in
          let m = length v.in-Some.column.now.elements.items in
          let here : slice_get (map (held tuples) cuts) (length columns) ≡ Some m = size_there (held tuples) (λ column. length column.elements.items) cuts c.args.packed.now sizes columns c.len.result v.in-Some.column.now end (omega (arith, there)) there.1 in
          let small : m ≤ 18446744073709551615 = omega (arith, v.len-in-Some.ensures, v.len-in-Some.type_inv) in
          elim c.if-is_full.branch [
            | then-is_full+in_ok-push-2 w ↦
                let full = leb-true v.len-in-Some.result c.saturating_add-tuples.result (sym v.is_full-is ∙ w.if-is_full.true) in
                rw (w.columns-is, w.members-is, w.tuples-is, w.new-members-then-is_full.ensures.items, w.in_ok-push-2.ensures.items)
                (rw (map-append (λ members. members.items) c.loop-member.columns.items (c.push.new.self ∷ []), c.in_ok-push.ensures.items)
                (closes tuples number cuts columns members c.loop-member.tuples later x m left so_far here (omega (arith, full, v.len-in-Some.ensures, c.saturating_add-tuples.ensures))))
            | else-is_full w ↦
                let less = leb-false v.len-in-Some.result c.saturating_add-tuples.result (sym v.is_full-is ∙ w.if-is_full.false) in
                rw (w.columns-is, w.members-is, w.tuples-is, c.in_ok-push.ensures.items, c.saturating_add-tuples.ensures)
                (stays_open tuples number cuts columns members c.loop-member.tuples later x m so_far here small (omega (arith, less, v.len-in-Some.ensures, c.saturating_add-tuples.ensures)))
          ]
      | in-None v ↦
          absurd (one_left tuples number cuts columns members c.loop-member.tuples later x so_far (none_there (held tuples) (λ column. length column.elements.items) cuts c.args.packed.now sizes columns c.len.result end (omega (arith, v.in-None.ensures.lookup))))
    ]

pub returns : goal.returns
returns g c =
    λ cuts cut each sizes.
    let tuples : LookupTuples → ℕ = λ member. member.tuples in
    let number : LookupTuples → ℕ = λ member. member.number in
    let columns : List (List ℕ) = map (λ members. members.items) c.loop-member.columns.items in
    all_closed tuples number cuts columns c.loop-member.members.items c.loop-member.tuples (subst (AreCutSoFar tuples number cuts columns c.loop-member.members.items c.loop-member.tuples) (drop_all c.loop-member.member-index c.args.order.now c.loop-member-test.false) (c.loop-member.invariant cuts cut each sizes))
