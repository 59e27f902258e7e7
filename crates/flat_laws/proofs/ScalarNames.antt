-- A net without a range does not have the name of a bit, where names of nets are clear of one another.
use Rattle.std.specs.Prelude.{◌≡◌, refl, ℕ, suc, ◌+◌, ◌-◌, ◌==◌, ◌&&◌, Bool, true, false, List, [], ◌∷◌, ◌++◌, length, take, get_or, decimal}
use Rattle.std.specs.Prelude.{Option, Some, None, if◌then◌else◌}
use Rattle.std.specs.List.{list_any}
use Rattle.std.specs.Str.{bytes_eq}
use Rattle.std.proofs.Common.{arith, sym, ap, ◌∙◌, subst, inl, inr}
use Rattle.std.proofs.lemmas.Bool.{eqb-true, or_from}
use Rattle.std.proofs.lemmas.Slice.Eq.{bytes_eq-Decides}
use Rattle.name_numbers.specs.Names.{Text, found}
use Rattle.verilog_net.specs.declared.netlist.Net.{Net}
use Rattle.verilog_net.specs.Nets.{Nets, NetBit, written, number_of, closed_number, bit_here, bit_from, named_bit}
use Rattle.hier_flatten.specs.Names.{is_some_bit, is_scalar, has_bit_name}
use Rattle.verilog_net.proofs.BitNames.{tail}
use Rattle.verilog_net.proofs.OwnNames.{Shape, shapes, Has, each_of, later, found_cons, NoBitOf, IsClear, AreClear}
use Rattle.flat_laws.proofs.Known.{bit_named}

-- ---- the name of a bit
last_is : (xs : Text) (c : ℕ) → (c ≡ 0 → ⊥) → get_or xs (length xs - 1) 0 ≡ c → xs ≡ take (length xs - 1) xs ++ c ∷ []
last_is [] c d e = absurd (d (sym e))
last_is (x ∷ []) c d e = ap (λ y. y ∷ []) e
last_is (x ∷ y ∷ xs) c d e =
    let n : length (x ∷ y ∷ xs) - 1 ≡ suc (length (y ∷ xs) - 1) = omega arith in
    let whole : y ∷ xs ≡ take (length (y ∷ xs) - 1) (y ∷ xs) ++ c ∷ [] = last_is (y ∷ xs) c d (ap (λ k. get_or (x ∷ y ∷ xs) k 0) (sym n) ∙ e) in
    ap (λ t. x ∷ t) whole ∙ ap (λ k. take k (x ∷ y ∷ xs) ++ c ∷ []) (sym n)

written_is : (digits : Text) (o : Option ℕ) (k : ℕ) → written digits o ≡ Some k → digits ≡ decimal k
written_is digits None k e = absurd (cc)
written_is digits (Some n) k e = by (bytes_eq (decimal n) digits) refl e
  where
    by : (b : Bool) → bytes_eq (decimal n) digits ≡ b → (if b then Some n else None) ≡ Some k → digits ≡ decimal k
    by false at e = absurd (cc)
    by true at e = let same : n ≡ k = cc in sym ((bytes_eq-Decides (decimal n) digits).0 at) ∙ ap decimal same

closed_is : (bytes : Text) (k : ℕ) → closed_number bytes ≡ Some k → bytes ≡ decimal k ++ 93 ∷ []
closed_is bytes k e = by (get_or bytes (length bytes - 1) 0 == 93) refl e
  where
    digits : Text
    digits = take (length bytes - 1) bytes

    by : (b : Bool) → (get_or bytes (length bytes - 1) 0 == 93) ≡ b → (if b then written digits (number_of digits) else None) ≡ Some k → bytes ≡ decimal k ++ 93 ∷ []
    by false at e = absurd (cc)
    by true at e =
        last_is bytes 93 (λ no. omega (arith, no)) (eqb-true (get_or bytes (length bytes - 1) 0) 93 at)
        ∙ ap (λ t. t ++ 93 ∷ []) (written_is digits (number_of digits) k e)

-- a name that is found to be that of a bit is the bus's name and the bit's number
record IsSplit (at : ℕ) (name : Text) (place k : ℕ) : Type 0 where
  front : ℕ
  from : place ≡ at + front
  whole : name ≡ take front name ++ tail k

split : (at : ℕ) (name : Text) (place k : ℕ) → bit_from at name ≡ Some (place, k) → IsSplit at name place k
split at [] place k e = absurd (cc)
split at (b ∷ more) place k e = by (λ g. split (at + 1) more place k g) (b == 91) refl e
  where
    further : (bit_from (at + 1) more ≡ Some (place, k) → IsSplit (at + 1) more place k) → bit_from (at + 1) more ≡ Some (place, k) → IsSplit at (b ∷ more) place k
    further after e =
        let rest = after e in
        record { front = suc rest.front; from = omega (arith, rest.from); whole = ap (λ t. b ∷ t) rest.whole }

    here : (bit_from (at + 1) more ≡ Some (place, k) → IsSplit (at + 1) more place k) → (o : Option ℕ) → closed_number more ≡ o → b ≡ 91 → bit_here at o (bit_from (at + 1) more) ≡ Some (place, k) → IsSplit at (b ∷ more) place k
    here after None closed is e = further after e
    here after (Some j) closed is e =
        let same : ◌≡◌ {A = ℕ × ℕ} (at, j) (place, k) = cc in
        let number : j ≡ k = ap (λ x. x.1) same in
        let start : at ≡ place = ap (λ x. x.0) same in
        let bytes : more ≡ decimal k ++ 93 ∷ [] = closed_is more k (closed ∙ ap (λ n. Some n) number) in
        record { front = 0; from = omega (arith, start); whole = ap (λ c. c ∷ more) is ∙ ap (λ t. 91 ∷ t) bytes }

    by : (bit_from (at + 1) more ≡ Some (place, k) → IsSplit (at + 1) more place k) → (test : Bool) → (b == 91) ≡ test
        → (if test then bit_here at (closed_number more) (bit_from (at + 1) more) else bit_from (at + 1) more) ≡ Some (place, k) → IsSplit at (b ∷ more) place k
    by after false at' e = further after e
    by after true at' e = here after (closed_number more) refl (eqb-true b 91 at') e

-- ---- a bus that is found is there
bus_there : (name : Text) (nets : Nets) (r : ℕ × Net) → found name nets ≡ Some r → Has (name, r.1.range) (shapes nets)
bus_there name [] r h = absurd (cc)
bus_there name (e ∷ more) r h = by (λ q at. bus_there name more q at) (bytes_eq name e.0) refl (sym (found_cons e more name) ∙ h)
  where
    rest : ((q : ℕ × Net) → found name more ≡ Some q → Has (name, q.1.range) (shapes more)) → (o : Option (ℕ × Net)) → found name more ≡ o → later o ≡ Some r → Has (name, r.1.range) (shapes (e ∷ more))
    rest further None at g = absurd (cc)
    rest further (Some q) at g =
        let same : ◌≡◌ {A = ℕ × Net} (1 + q.0, q.1) r = cc in
        subst (λ x. Has (name, x.1.range) (shapes (e ∷ more))) same (inr (further q at))

    by : ((q : ℕ × Net) → found name more ≡ Some q → Has (name, q.1.range) (shapes more)) → (b : Bool) → bytes_eq name e.0 ≡ b → (if b then Some (0, e.1) else later (found name more)) ≡ Some r → Has (name, r.1.range) (shapes (e ∷ more))
    by further true is g =
        let same : ◌≡◌ {A = ℕ × Net} (0, e.1) r = cc in
        let text : name ≡ e.0 = (bytes_eq-Decides name e.0).0 is in
        subst (λ x. Has (name, x.1.range) (shapes (e ∷ more))) same (inl (ap (λ t. (t, e.1.range)) (sym text)))
    by further false is g = rest further (found name more) refl g

-- no net has the name of a bit of another one
clear_of : (ss : List Shape) (b t : Shape) (r : ℕ × ℕ) → AreClear ss → Has b ss → Has t ss → b.1 ≡ Some r → t.1 ≡ None → NoBitOf b t.0
clear_of [] b t r c x y bus scalar = absurd x
clear_of (s ∷ ss) b t r c (inl x) (inl y) bus scalar = absurd (cc (sym bus ∙ (ap (λ z. z.1) (sym x ∙ y) ∙ scalar)))
clear_of (s ∷ ss) b t r c (inl x) (inr y) bus scalar = subst (λ z. NoBitOf z t.0) x (each_of (IsClear s) ss t c.0 y).first
clear_of (s ∷ ss) b t r c (inr x) (inl y) bus scalar = subst (λ z. NoBitOf b z.0) y (each_of (IsClear s) ss b c.0 x).second
clear_of (s ∷ ss) b t r c (inr x) (inr y) bus scalar = clear_of ss b t r c.1 x y bus scalar

module _ (all : Nets) (clear : AreClear (shapes all)) where
  free_by : (name : Text) (o : Option NetBit) → Has (name, None) (shapes all) → named_bit name all ≡ o → is_some_bit o ≡ false
  free_by name None there at = refl
  free_by name (Some bit) there at =
      let n = bit_named name all bit at in
      let s = split 0 name n.place.0 n.place.1 n.at in
      let front : s.front ≡ n.place.0 = omega (arith, s.from) in
      let whole : name ≡ take n.place.0 name ++ tail n.place.1 = subst (λ k. name ≡ take k name ++ tail n.place.1) front s.whole in
      let bus = bus_there (take n.place.0 name) all n.bus n.there in
      absurd (clear_of (shapes all) (take n.place.0 name, n.bus.1.range) (name, None) n.range clear bus there n.ranged refl n.range n.place.1 n.ranged n.within whole)

  each_free : (nets : Nets) → ((s : Shape) → Has s (shapes nets) → Has s (shapes all)) → list_any (has_bit_name all) nets ≡ false
  each_free [] within = refl
  each_free (net ∷ nets) within =
      or_from (has_bit_name all net) (list_any (has_bit_name all) nets) (by net.1.range refl) (each_free nets (λ s h. within s (inr h)))
    where
      by : (o : Option (ℕ × ℕ)) → net.1.range ≡ o → (is_scalar o && is_some_bit (named_bit net.0 all)) ≡ false
      by (Some r) at = refl
      by None at = free_by net.0 (named_bit net.0 all) (within (net.0, None) (inl (ap (λ x. (net.0, x)) at))) refl

pub scalars_free : (nets : Nets) → AreClear (shapes nets) → list_any (has_bit_name nets) nets ≡ false
scalars_free nets clear = each_free nets clear nets (λ s h. h)
