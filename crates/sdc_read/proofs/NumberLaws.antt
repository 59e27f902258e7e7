-- Numbers that are set, and others where they are not.
use Rattle.std.proofs.Common.{◌≡◌, refl, sym, ap, ◌∙◌, ℤ}
use Rattle.std.specs.Prelude.{Bool, true, false, Option, Some, None, unwrap_or, ◌&&◌}
use Rattle.std.specs.Option.{option_or}
use Rattle.sdc_forms.specs.declared.picked.Picked.{Picked}
use Rattle.sdc_read.specs.declared.change.Change.{Change}
use Rattle.sdc_read.specs.declared.change.Change.TheVariants as changes
use Rattle.sdc_read.specs.declared.ports.Sides.{Sides}
use Rattle.sdc_read.specs.declared.ports.PortSides.{PortSides}
use Rattle.sdc_read.specs.declared.set_numbers.SetNumbers.{SetNumbers}
use Rattle.sdc_read.specs.Ports.{no_sides}
use Rattle.sdc_read.specs.Changes.{chosen, with_number, changed, or_unset}
use Rattle.sdc_read.specs.Levels.{or_sides, or_numbers, numbers_of, over_numbers, over_set, or_set, put}

-- ---- one number
module _ {A : Type 0} where
  or_or : (a b c : Option A) → option_or (option_or a b) c ≡ option_or a (option_or b c)
  or_or None b c = refl
  or_or (Some x) b c = refl

  -- what was there once comes no second time
  or_again : (a b c : Option A) → option_or (option_or (option_or a b) c) b ≡ option_or (option_or a b) c
  or_again (Some x) b c = refl
  or_again None (Some y) c = refl
  or_again None None (Some z) = refl
  or_again None None None = refl

  or_first : (a b : Option A) → option_or (option_or a b) a ≡ option_or a b
  or_first (Some x) b = refl
  or_first None (Some y) = refl
  or_first None None = refl

or_self : {A : Type 0} (a : Option A) → option_or a a ≡ a
or_self None = refl
or_self (Some x) = refl

chosen_or : (picked : Bool) (x : ℤ) (o : Option ℤ) → chosen picked x o ≡ option_or (chosen picked x None) o
chosen_or true x o = refl
chosen_or false x o = refl

unwrap_or_or : (a b : Option ℤ) (x : ℤ) → unwrap_or a (unwrap_or b x) ≡ unwrap_or (option_or a b) x
unwrap_or_or None b x = refl
unwrap_or_or (Some y) b x = refl

-- ---- the four numbers of edges and sides
pub same_sides : (s t : Sides) → s.rise_min ≡ t.rise_min → s.rise_max ≡ t.rise_max → s.fall_min ≡ t.fall_min
    → s.fall_max ≡ t.fall_max → s ≡ t
same_sides s t a b c d =
    let k : ◌≡◌ {A = Sides} (record { rise_min = s.rise_min; rise_max = s.rise_max; fall_min = s.fall_min; fall_max = s.fall_max })
    (record { rise_min = t.rise_min; rise_max = t.rise_max; fall_min = t.fall_min; fall_max = t.fall_max }) = rw (a, b, c, d) refl in k

sides_or_or : (a b c : Sides) → or_sides (or_sides a b) c ≡ or_sides a (or_sides b c)
sides_or_or a b c = same_sides (or_sides (or_sides a b) c) (or_sides a (or_sides b c))
    (or_or a.rise_min b.rise_min c.rise_min) (or_or a.rise_max b.rise_max c.rise_max) (or_or a.fall_min b.fall_min c.fall_min) (or_or a.fall_max b.fall_max c.fall_max)

sides_again : (a b c : Sides) → or_sides (or_sides (or_sides a b) c) b ≡ or_sides (or_sides a b) c
sides_again a b c = same_sides (or_sides (or_sides (or_sides a b) c) b) (or_sides (or_sides a b) c)
    (or_again a.rise_min b.rise_min c.rise_min) (or_again a.rise_max b.rise_max c.rise_max) (or_again a.fall_min b.fall_min c.fall_min) (or_again a.fall_max b.fall_max c.fall_max)

sides_first : (a b : Sides) → or_sides (or_sides a b) a ≡ or_sides a b
sides_first a b = same_sides (or_sides (or_sides a b) a) (or_sides a b)
    (or_first a.rise_min b.rise_min) (or_first a.rise_max b.rise_max) (or_first a.fall_min b.fall_min) (or_first a.fall_max b.fall_max)

sides_self : (a : Sides) → or_sides a a ≡ a
sides_self a = same_sides (or_sides a a) a (or_self a.rise_min) (or_self a.rise_max) (or_self a.fall_min) (or_self a.fall_max)

sides_with : (p : Picked) (x : ℤ) (s : Sides) → with_number p x s ≡ or_sides (with_number p x no_sides) s
sides_with p x s = same_sides (with_number p x s) (or_sides (with_number p x no_sides) s)
    (chosen_or (p.rise && p.min) x s.rise_min) (chosen_or (p.rise && p.max) x s.rise_max) (chosen_or (p.fall && p.min) x s.fall_min) (chosen_or (p.fall && p.max) x s.fall_max)

-- ---- all numbers
pub same_numbers : (n m : SetNumbers) → n.input ≡ m.input → n.output ≡ m.output → n.slew ≡ m.slew → n.load ≡ m.load → n ≡ m
same_numbers n m a b c d =
    let k : ◌≡◌ {A = SetNumbers} (record { input = n.input; output = n.output; slew = n.slew; load = n.load })
    (record { input = m.input; output = m.output; slew = m.slew; load = m.load }) = rw (a, b, c, d) refl in k

same_set : (n m : PortSides) → n.input ≡ m.input → n.output ≡ m.output → n.slew ≡ m.slew → n.load ≡ m.load → n ≡ m
same_set n m a b c d =
    let k : ◌≡◌ {A = PortSides} (record { input = n.input; output = n.output; slew = n.slew; load = n.load })
    (record { input = m.input; output = m.output; slew = m.slew; load = m.load }) = rw (a, b, c, d) refl in k

numbers_or_or : (a b c : SetNumbers) → or_numbers (or_numbers a b) c ≡ or_numbers a (or_numbers b c)
numbers_or_or a b c = same_numbers (or_numbers (or_numbers a b) c) (or_numbers a (or_numbers b c))
    (sides_or_or a.input b.input c.input) (sides_or_or a.output b.output c.output) (sides_or_or a.slew b.slew c.slew) (or_or a.load b.load c.load)

numbers_again : (a b c : SetNumbers) → or_numbers (or_numbers (or_numbers a b) c) b ≡ or_numbers (or_numbers a b) c
numbers_again a b c = same_numbers (or_numbers (or_numbers (or_numbers a b) c) b) (or_numbers (or_numbers a b) c)
    (sides_again a.input b.input c.input) (sides_again a.output b.output c.output) (sides_again a.slew b.slew c.slew) (or_again a.load b.load c.load)

numbers_first : (a b : SetNumbers) → or_numbers (or_numbers a b) a ≡ or_numbers a b
numbers_first a b = same_numbers (or_numbers (or_numbers a b) a) (or_numbers a b)
    (sides_first a.input b.input) (sides_first a.output b.output) (sides_first a.slew b.slew) (or_first a.load b.load)

numbers_self : (a : SetNumbers) → or_numbers a a ≡ a
numbers_self a = same_numbers (or_numbers a a) a (sides_self a.input) (sides_self a.output) (sides_self a.slew) (or_self a.load)

-- ---- numbers over what was set

-- a change sets a command's numbers
pub changed_over : (c : Change) (s : PortSides) → changed c s ≡ over_numbers (numbers_of c) s
changed_over (changes.InputDelay p x) s = same_set (changed (changes.InputDelay p x) s) (over_numbers (numbers_of (changes.InputDelay p x)) s) (sides_with p x s.input) refl refl refl
changed_over (changes.OutputDelay p x) s = same_set (changed (changes.OutputDelay p x) s) (over_numbers (numbers_of (changes.OutputDelay p x)) s) refl (sides_with p x s.output) refl refl
changed_over (changes.Slew p x) s = same_set (changed (changes.Slew p x) s) (over_numbers (numbers_of (changes.Slew p x)) s) refl refl (sides_with p x s.slew) refl
changed_over (changes.Load x) s = refl

over_over : (n m : SetNumbers) (s : PortSides) → over_numbers n (over_numbers m s) ≡ over_numbers (or_numbers n m) s
over_over n m s = same_set (over_numbers n (over_numbers m s)) (over_numbers (or_numbers n m) s)
    (sym (sides_or_or n.input m.input s.input)) (sym (sides_or_or n.output m.output s.output)) (sym (sides_or_or n.slew m.slew s.slew))
    (unwrap_or_or n.load m.load s.load)

-- what is set later, over a change
pub over_changed : (o : Option SetNumbers) (c : Change) (s : Option PortSides)
    → over_set o (Some (changed c (or_unset s))) ≡ over_set (Some (put o c)) s
over_changed None c s = ap Some (changed_over c (or_unset s))
over_changed (Some n) c s =
    ap (λ t. Some (over_numbers n t)) (changed_over c (or_unset s)) ∙ ap Some (over_over n (numbers_of c) (or_unset s))

-- a command that meets a bit twice changes it once
pub changed_twice : (c : Change) (s : PortSides) → changed c (changed c s) ≡ changed c s
changed_twice c s =
    changed_over c (changed c s)
    ∙ (ap (over_numbers (numbers_of c)) (changed_over c s)
    ∙ (over_over (numbers_of c) (numbers_of c) s
    ∙ (ap (λ n. over_numbers n s) (numbers_self (numbers_of c)) ∙ sym (changed_over c s))))

-- ---- levels

-- what is kept below a level holds all that is set above it
pub put_over : (x u : Option SetNumbers) (c : Change) → or_set (Some (put (or_set x u) c)) u ≡ Some (put (or_set x u) c)
put_over x None c = refl
put_over None (Some v) c = ap Some (numbers_first v (numbers_of c))
put_over (Some y) (Some v) c = ap Some (numbers_again y v (numbers_of c))

-- what is put above a level is put below all that this sets
pub put_under : (g o : Option SetNumbers) (c : Change) → or_set g (Some (put o c)) ≡ Some (put (or_set g o) c)
put_under None o c = refl
put_under (Some n) None c = refl
put_under (Some n) (Some m) c = ap Some (sym (numbers_or_or n m (numbers_of c)))
