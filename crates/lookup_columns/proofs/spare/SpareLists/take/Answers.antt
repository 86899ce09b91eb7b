use Rattle.std.proofs.Common.{◌≡◌, ◌+◌, get_or, max, ap, sym, ◌∙◌, arith, vec_capacity, vec_len}
use Rattle.lookup_columns.specs.SpareLists.{rooms}
use Rattle.lookup_columns.proofs.SpareLaws.{no_rooms, room_of_last, room_of_none, rooms_pop}
use Rattle.lookup_columns.proofs.spare.SpareLists.take.Goals as goal
use Rattle.lookup_columns.proofs.spare.SpareLists.take.Goals.{in-Some, in-None}

pub returns-in_err-reserve_exact-clause-left : goal.returns-in_err-reserve_exact-clause-left
returns-in_err-reserve_exact-clause-left g c =
    let old = c.args.self.now.lists in
    let new = c.pop.new.self in
    elim c.match-pop.branch [
      | in-Some w ↦ rooms_pop (λ v. vec_capacity v) new.items w.in-Some.list w.in-Some.ensures.items
      | in-None w ↦ no_rooms (λ v. vec_capacity v) new.items old.items (sym old.ok.0 ∙ w.in-None.ensures.cases.0) w.in-None.ensures.items
    ]

pub returns-clause-used_again : goal.returns-clause-used_again
returns-clause-used_again g c =
    let old = c.args.self.now.lists in
    let list = c.match-pop.list in
    let taken : vec_capacity list ≡ get_or (rooms c.args.self.now) 0 0 = elim c.match-pop.branch [
      | in-Some w ↦ ap (λ v. vec_capacity v) w.list-is ∙ room_of_last (λ v. vec_capacity v) c.pop.new.self.items w.in-Some.list w.in-Some.ensures.items
      | in-None w ↦ ap (λ v. vec_capacity v) w.list-is ∙ w.new-list.ensures.capacity ∙ room_of_none (λ v. vec_capacity v) old.items (sym old.ok.0 ∙ w.in-None.ensures.cases.0)
    ] in
    let empty : vec_len c.clear.new.self + c.args.room ≡ c.args.room = omega (arith, c.clear.ensures.len) in
    c.in_ok-reserve_exact.ensures.capacity_exact
    ∙ ap (λ n. max n (vec_len c.clear.new.self + c.args.room)) (c.clear.ensures.capacity ∙ taken)
    ∙ ap (max (get_or (rooms c.args.self.now) 0 0)) empty

pub returns-clause-left : goal.returns-clause-left
returns-clause-left g c =
    let old = c.args.self.now.lists in
    let new = c.pop.new.self in
    elim c.match-pop.branch [
      | in-Some w ↦ rooms_pop (λ v. vec_capacity v) new.items w.in-Some.list w.in-Some.ensures.items
      | in-None w ↦ no_rooms (λ v. vec_capacity v) new.items old.items (sym old.ok.0 ∙ w.in-None.ensures.cases.0) w.in-None.ensures.items
    ]
