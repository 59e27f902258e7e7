use Rattle.std.proofs.Common.{◌≡◌, ◌≢◌, ℕ, ◌∙◌, length, Some, refl, sym, ap}
use Rattle.std.specs.Prelude.{None}
use Rattle.std.proofs.lemmas.Bool.{eq-eqb, ne_eqb}
use Rattle.std.proofs.lemmas.Option.{slice_get_past, slice_get_read}
use Rattle.link_pins.specs.declared.known.KnownAt.{KnownAt}
use Rattle.link_pins.specs.Known.{known_by}
use Rattle.link_pins.proofs.known.Known.get.Goals as goal
use Rattle.link_pins.proofs.known.Known.get.Goals.{else-found-from-via-then-found-from+else-found-cell, else-found-from-via-else-found-from}

module _ {T : Type 0} (k : KnownAt T) (cell from : ℕ) where
  is_found : k.from ≡ from → k.cell ≡ cell → known_by cell from (Some (Some k)) ≡ Some k.value
  is_found a b = rw (eq-eqb k.from from a, eq-eqb k.cell cell b) refl

  of_another_cell : k.from ≡ from → k.cell ≢ cell → known_by cell from (Some (Some k)) ≡ None
  of_another_cell a b = rw (eq-eqb k.from from a, ne_eqb k.cell cell b) refl

  of_another_instance : k.from ≢ from → known_by cell from (Some (Some k)) ≡ None
  of_another_instance a = rw (ne_eqb k.from from a) refl

pub returns-in-None : goal.returns-in-None
returns-in-None g c =
    let past = rw c.deref.ensures.value at c.in-None.ensures.lookup.3 in
    sym (ap (known_by c.args.cell c.args.from) (slice_get_past c.args.self.now.of.items c.args.number past))

pub returns-in-Some-None : goal.returns-in-Some-None
returns-in-Some-None g c =
    let l = c.in-Some-None.ensures.lookup in
    let there = slice_get_read c.deref.result.now (length c.deref.result.now) c.args.number c.in-Some-None.field-0.now refl l.3.0 l.1 in
    sym (ap (known_by c.args.cell c.args.from) ((rw c.deref.ensures.value at there) ∙ ap Some c.in-Some-None.field-0-is))

pub returns-then-found-cell : goal.returns-then-found-cell
returns-then-found-cell g c =
    let l = c.in-Some-Some.ensures.lookup in
    let there = slice_get_read c.deref.result.now (length c.deref.result.now) c.args.number c.in-Some-Some.field-0.now refl l.3.0 l.1 in
    sym (ap (known_by c.args.cell c.args.from) ((rw c.deref.ensures.value at there) ∙ ap Some c.in-Some-Some.field-0-is)
    ∙ is_found c.in-Some-Some.found c.args.cell c.args.from c.if-found-from.true c.if-found-cell.true)

pub returns-else-found-from : goal.returns-else-found-from
returns-else-found-from g c =
    let l = c.in-Some-Some.ensures.lookup in
    let there = slice_get_read c.deref.result.now (length c.deref.result.now) c.args.number c.in-Some-Some.field-0.now refl l.3.0 l.1 in
    let other : known_by c.args.cell c.args.from (Some (Some c.in-Some-Some.found)) ≡ None = elim c.else-found-from.branch [
      | else-found-from-via-then-found-from+else-found-cell w ↦ of_another_cell c.in-Some-Some.found c.args.cell c.args.from w.if-found-from.true w.if-found-cell.false
      | else-found-from-via-else-found-from w ↦ of_another_instance c.in-Some-Some.found c.args.cell c.args.from w.if-found-from.false
    ] in
    sym (ap (known_by c.args.cell c.args.from) ((rw c.deref.ensures.value at there) ∙ ap Some c.in-Some-Some.field-0-is) ∙ other)
