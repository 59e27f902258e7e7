use Rattle.std.proofs.Common.{◌≡◌, ℕ, ◌∙◌, Bool, true, false, not, List, set, Some, refl, sym, ap, arith}
use Rattle.std.specs.Prelude.{Option, None, is_some, is_none}
use Rattle.std.specs.List.{slice_index_or}
use Rattle.std.specs.Option.{IsSomeAnd}
use Rattle.std.proofs.lemmas.Bool.{false≢true}
use Rattle.std.proofs.lemmas.List.{get_or_read}
use Rattle.liberty_cells.specs.declared.library.Library.{Library}
use Rattle.liberty_cells.specs.Pins.{PinParts}
use Rattle.link_rules.specs.Pins.{is_input}
use Rattle.link_pins.specs.declared.arcs.SinkAt.{SinkAt}
use Rattle.link_pins.specs.declared.pins.PinOn.{PinOn}
use Rattle.link_pins.specs.Places.{has_input_role, with_pin}
use Rattle.link_pins.specs.Seen.{pin_at}
use Rattle.link_pins.proofs.arcs.Places.add.Goals as goal

role_read : (o : Option PinParts) (b : Bool) → IsSomeAnd o (λ p. b ≡ is_input p.role) → has_input_role o ≡ b
role_read None b h = absurd h
role_read (Some q) b h = sym h

is_free : (o : Option SinkAt) → is_some o ≡ false → is_none o ≡ true
is_free None h = refl
is_free (Some s) h = absurd (false≢true (sym h))

is_taken : (o : Option SinkAt) → is_some o ≡ true → is_none o ≡ false
is_taken None h = absurd (false≢true h)
is_taken (Some s) h = refl

module _ (library : Library) (p : PinOn) (place : ℕ) (at : List (Option SinkAt)) where
  entered : has_input_role (pin_at library p) ≡ true → is_none (slice_index_or at p.pin None) ≡ true
      → with_pin library p place at ≡ set at p.pin (Some (record { net = p.net; sink = place }))
  entered input free = rw (input, free) refl

  stays : has_input_role (pin_at library p) ≡ true → is_none (slice_index_or at p.pin None) ≡ false → with_pin library p place at ≡ at
  stays input taken = rw (input, taken) refl

  other : has_input_role (pin_at library p) ≡ false → with_pin library p place at ≡ at
  other input = rw input refl

pub index-requires : goal.index-requires
index-requires c = omega (arith, c.requires.room, c.args.self.now.at.ok.0)

pub put-requires : goal.put-requires
put-requires c = record { room = c.requires.room }

pub returns-in_ok-put-clause-sinks : goal.returns-in_ok-put-clause-sinks
returns-in_ok-put-clause-sinks c =
    let at = c.args.self.now.at.items in
    let read : c.index.result.now ≡ slice_index_or at c.args.pin.pin None = get_or_read at c.args.pin.pin c.index.result.now c.requires.room c.index.ensures None in
    let input = role_read (pin_at c.args.cells.now c.args.pin) c.is_input.result c.is_input.ensures ∙ c.if-is_input.true in
    let free = is_free (slice_index_or at c.args.pin.pin None) (ap is_some (sym read) ∙ (c.is_none.ensures ∙ ap not c.if-is_none.true)) in
    c.in_ok-put.ensures.sinks ∙ sym (entered c.args.cells.now c.args.pin c.args.place at input free)

pub returns-else-is_none-clause-sinks : goal.returns-else-is_none-clause-sinks
returns-else-is_none-clause-sinks c =
    let at = c.args.self.now.at.items in
    let read : c.index.result.now ≡ slice_index_or at c.args.pin.pin None = get_or_read at c.args.pin.pin c.index.result.now c.requires.room c.index.ensures None in
    let input = role_read (pin_at c.args.cells.now c.args.pin) c.is_input.result c.is_input.ensures ∙ c.if-is_input.true in
    let taken = is_taken (slice_index_or at c.args.pin.pin None) (ap is_some (sym read) ∙ (c.is_none.ensures ∙ ap not c.if-is_none.false)) in
    sym (stays c.args.cells.now c.args.pin c.args.place at input taken)

pub returns-else-is_input-clause-sinks : goal.returns-else-is_input-clause-sinks
returns-else-is_input-clause-sinks c =
    sym (other c.args.cells.now c.args.pin c.args.place c.args.self.now.at.items
    (role_read (pin_at c.args.cells.now c.args.pin) c.is_input.result c.is_input.ensures ∙ c.if-is_input.false))
