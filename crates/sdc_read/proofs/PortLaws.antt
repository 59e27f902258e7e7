-- Tables of the bits of ports.
use Rattle.std.proofs.Common.{◌≡◌, refl, sym, ap, [], ◌∷◌, map, arith, subst}
use Rattle.std.specs.Prelude.{Bool, true, false, if◌then◌else◌, Option, Some, option_map, IfSome}
use Rattle.std.proofs.lemmas.Bool.Decides.{nat_tests}
use Rattle.std.specs.Map.{lookup}
use Rattle.indexmap.specs.IndexMap.{insert_entry}
use Rattle.sdc_read.specs.declared.ports.PortBit.{PortBit}
use Rattle.sdc_read.specs.declared.ports.PortSides.{PortSides}
use Rattle.sdc_read.specs.Ports.{Ports, same_bit, found_sides, with_sides, settled, port_at, AreInRange, AllInRange}

-- the entries once a bit has its sides
pub entered : (es : Ports) (b : PortBit) (v : PortSides) → insert_entry same_bit es b v ≡ with_sides b v es
entered [] b v = refl
entered (e ∷ es) b v = ap (λ r. if same_bit b e.0 then (e.0, v) ∷ es else e ∷ r) (entered es b v)

-- what the table finds
pub looked_up : (b : PortBit) (es : Ports) → lookup (same_bit b) es ≡ found_sides b es
looked_up b [] = refl
looked_up b (e ∷ es) = ap (λ r. if same_bit b e.0 then Some e.1 else r) (looked_up b es)

entered_by : (t : Bool) (b : PortBit) (v : PortSides) (e : PortBit × PortSides) (es more : Ports)
    → AreInRange v → AreInRange e.1 → AllInRange es → AllInRange more
    → AllInRange (if t then (e.0, v) ∷ es else e ∷ more)
entered_by true b v e es more fits first rest all = (fits, rest)
entered_by false b v e es more fits first rest all = (first, all)

-- sides in their range keep all in theirs
pub entered_in_range : (es : Ports) (b : PortBit) (v : PortSides) → AllInRange es → AreInRange v
    → AllInRange (with_sides b v es)
entered_in_range [] b v all fits = (fits, tt)
entered_in_range (e ∷ es) b v all fits =
    entered_by (same_bit b e.0) b v e es (with_sides b v es) fits all.0 all.1 (entered_in_range es b v all.1 fits)

found_by : (t : Bool) (s : PortSides) (more : Option PortSides) → AreInRange s → IfSome more AreInRange
    → IfSome (if t then Some s else more) AreInRange
found_by true s more first rest = first
found_by false s more first rest = rest

-- what is found is in its range
pub found_in_range : (b : PortBit) (es : Ports) → AllInRange es → IfSome (found_sides b es) AreInRange
found_in_range b [] all = tt
found_in_range b (e ∷ es) all = found_by (same_bit b e.0) e.1 (found_sides b es) all.0 (found_in_range b es all.1)

pub some_in_range : (b : PortBit) (es : Ports) (s : PortSides) → Some s ≡ found_sides b es → AllInRange es → AreInRange s
some_in_range b es s h all =
    let P : Option PortSides → Type 0 = λ o. IfSome o AreInRange in subst P (sym h) (found_in_range b es all)

same_parts : (a b : PortBit) → a.decl ≡ b.decl → a.bit ≡ b.bit → a ≡ b
same_parts a b d e =
    let k : ◌≡◌ {A = PortBit} (record { decl = a.decl; bit = a.bit }) (record { decl = b.decl; bit = b.bit }) = rw (d, e) refl in k

-- bits that pass the test are the same
pub same_bits : (a b : PortBit) → same_bit a b ≡ true → a ≡ b
same_bits a b h =
    let d : a.decl ≡ b.decl = grind (arith, nat_tests) in
    let e : a.bit ≡ b.bit = grind (arith, nat_tests) in
    same_parts a b d e

meant_by : (t : Bool) (at : PortBit) (e : PortBit × PortSides) (es : Ports) → same_bit at e.0 ≡ t
    → port_at at.decl at.bit (map settled es) ≡ option_map (λ s. settled (at, s)) (found_sides at es)
    → (if t then Some (settled e) else port_at at.decl at.bit (map settled es))
    ≡ option_map (λ s. settled (at, s)) (if t then Some e.1 else found_sides at es)
meant_by true at e es h rest = ap (λ b. Some (settled (b, e.1))) (sym (same_bits at e.0 h))
meant_by false at e es h rest = rest

-- what is meant for a bit by what is found for it
pub meant : (at : PortBit) (es : Ports)
    → port_at at.decl at.bit (map settled es) ≡ option_map (λ s. settled (at, s)) (found_sides at es)
meant at [] = refl
meant at (e ∷ es) = meant_by (same_bit at e.0) at e es refl (meant at es)
