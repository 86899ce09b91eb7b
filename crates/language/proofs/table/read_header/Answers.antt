use Rattle.std.proofs.Common.{◌≡◌, ◌++◌, ◌∷◌, ◌+◌, [], List, ℕ, Option, Bor, ap, arith, false, length, option_map, sym, true, ◌∙◌}
use Rattle.std.specs.List.{list_any}
use Rattle.std.specs.Str.{bytes_eq}
use Rattle.std.proofs.lemmas.List.{map_push}
use Rattle.language.specs.Tables.{is_name_among, names_of}
use Rattle.language.specs.internal.Tables.{cells_in}
use Rattle.language.proofs.TableLaws.{header-none, header-some, is_among-items, names-empty, names-end, names-more, names-repeated, place-more, size}
use Rattle.language.proofs.table.read_header.Goals as goal

-- the cells that are left
abbrev left : Option (Bor (List ℕ)) → List (List ℕ)
left rest = cells_in (option_map (λ x. x.now) rest)

pub returns-then-is_empty : goal.returns-then-is_empty
returns-then-is_empty c = header-none c.args.at c.args.line.now (sym c.if-is_empty.ensures)

pub loop-rest-init : goal.loop-rest-init
loop-rest-init c = record {
  place = omega arith;
  told = rw c.new-names.ensures.items (header-some c.args.at c.args.line.now (sym c.if-is_empty.ensures));
}

pub returns-then-is_empty-2 : goal.returns-then-is_empty-2
returns-then-is_empty-2 c =
    names-empty c.loop-rest.at (names_of c.loop-rest.names.items) (left c.loop-rest.rest) _ c.loop-rest.invariant.told c.split_cell.result.0.now (left c.split_cell.result.1) (ap left c.in-Some.is ∙ c.split_cell.ensures.cells) (sym c.if-is_empty-2.ensures)

pub returns-then-is_among : goal.returns-then-is_among
returns-then-is_among c =
    let name : List ℕ = c.split_cell.result.0.now in
    let old : is_name_among name (names_of c.loop-rest.names.items) ≡ true = is_among-items name c.loop-rest.names.items ∙ ap (list_any (λ other. bytes_eq other.items name)) (sym c.deref.ensures.value) ∙ sym c.if-is_among.ensures in
    names-repeated c.loop-rest.at (names_of c.loop-rest.names.items) (left c.loop-rest.rest) _ c.loop-rest.invariant.told name (left c.split_cell.result.1) (ap left c.in-Some.is ∙ c.split_cell.ensures.cells) (sym c.if-is_empty-2.ensures) old

pub loop-rest-preserved : goal.loop-rest-preserved
loop-rest-preserved c =
    let name : List ℕ = c.split_cell.result.0.now in
    let new : is_name_among name (names_of c.loop-rest.names.items) ≡ false = is_among-items name c.loop-rest.names.items ∙ ap (list_any (λ other. bytes_eq other.items name)) (sym c.deref.ensures.value) ∙ sym c.if-is_among.ensures in
    let old = c.loop-rest.names.items in
    let items : names_of c.push.new.self.items ≡ names_of old ++ name ∷ [] = ap names_of c.in_ok-push.ensures.items ∙ map_push (λ n. n.items) old c.in_ok-from_slice.field-0 ∙ ap (λ n. names_of old ++ n ∷ []) c.in_ok-from_slice.ensures.items in
    record {
      place = place-more c.loop-rest.at _ (length name) c.in-Some.left.now (option_map (λ x. x.now) c.split_cell.result.1) (ap (λ (rest : Option (Bor (List ℕ))). c.loop-rest.at + size (option_map (λ x. x.now) rest)) (sym c.in-Some.is) ∙ c.loop-rest.invariant.place) c.split_cell.ensures.within;
      told = rw items (names-more c.loop-rest.at (names_of old) (left c.loop-rest.rest) _ c.loop-rest.invariant.told name (left c.split_cell.result.1) (ap left c.in-Some.is ∙ c.split_cell.ensures.cells) (sym c.if-is_empty-2.ensures) new);
    }

pub returns : goal.returns
returns c = names-end c.loop-rest.at (names_of c.loop-rest.names.items) (left c.loop-rest.rest) _ c.loop-rest.invariant.told (ap left c.in_default.is)
