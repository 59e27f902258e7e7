-- Each number is small for the area, and the product is the area.
use Rattle.std.proofs.Common.{◌≡◌, ◌∙◌, refl, sym, subst, ℤ, pos, ◌*ℤ◌, ◌<ℤ◌, to_z, of_z, to_z-of_z, w64, SFits, arith}
use Rattle.std.proofs.lemmas.Int.{ints}
use Rattle.table_box.proofs.Bilinear.{area_positive}
use Rattle.table_box.proofs.Places.{number_word}
use Rattle.table_box.proofs.Widths.{factors_back}
use Rattle.table_box.proofs.cell.Cell.of.Goals as goal

area_is : (w h area : ℤ) → SFits w64 w → SFits w64 h → SFits w64 (to_z w64 (of_z w64 w) *ℤ to_z w64 (of_z w64 h)) → area ≡ to_z w64 (of_z w64 w) *ℤ to_z w64 (of_z w64 h)
    → (to_z w64 (of_z w64 area) ≡ w *ℤ h) × SFits w64 area
area_is w h area w_fits h_fits product_fits e =
    let f = subst (SFits w64) (sym e) product_fits in
    (to_z-of_z f ∙ (e ∙ factors_back w h w_fits h_fits), f)

pub most_within-most-requires : goal.most_within-most-requires
most_within-most-requires c =
    let h = c.in_ok-area.ensures in
    let area = area_is c.args.slew.now.width c.args.load.now.width c.in_ok-area.area (omega (arith, ints, c.requires.slew)) (omega (arith, ints, c.requires.load)) h.0 h.1 in
    subst (λ (n : ℤ). pos 0 <ℤ n) (sym area.0) (area_positive _ _ c.requires.slew.positive c.requires.load.positive)

pub returns-clause-small : goal.returns-clause-small
returns-clause-small c =
    let h = c.in_ok-area.ensures in
    let area = area_is c.args.slew.now.width c.args.load.now.width c.in_ok-area.area (omega (arith, ints, c.requires.slew)) (omega (arith, ints, c.requires.load)) h.0 h.1 in
    let most_back : to_z w64 (of_z w64 c.most_within-most.result) ≡ c.most_within-most.result = omega (arith, ints, c.most_within-most.type_inv) in
    let within = c.if-not-are_within.ensures refl in
    record {
      table = c.requires.table;
      slew = c.requires.slew;
      load = c.requires.load;
      area = area.0;
      first_first = to_z-of_z (number_word _ c.number_at-first_first.ensures.number) ∙ c.number_at-first_first.ensures.value;
      first_second = to_z-of_z (number_word _ c.number_at-first_second.ensures.number) ∙ c.number_at-first_second.ensures.value;
      second_first = to_z-of_z (number_word _ c.number_at-second_first.ensures.number) ∙ c.number_at-second_first.ensures.value;
      second_second = to_z-of_z (number_word _ c.number_at-second_second.ensures.number) ∙ c.number_at-second_second.ensures.value;
      fits = let f = to_z-of_z area.1 in let g = area.1 in omega (arith, ints, f, g);
      most = c.most_within-most.result;
      natural = c.most_within-most.ensures.natural;
      room = c.most_within-most.ensures.room;
      first_first_small = rw most_back at within.first;
      first_second_small = rw most_back at within.second;
      second_first_small = rw most_back at within.third;
      second_second_small = rw most_back at within.fourth;
      rising = c.do_rise-rising.ensures;
    }

pub are_within-requires-clause-rising : goal.are_within-requires-clause-rising
are_within-requires-clause-rising c = c.do_rise-rising.ensures

pub number_at-first_first-requires-clause-row : goal.number_at-first_first-requires-clause-row
number_at-first_first-requires-clause-row c = c.requires.slew.first

pub number_at-first_first-requires-clause-column : goal.number_at-first_first-requires-clause-column
number_at-first_first-requires-clause-column c = c.requires.load.first

pub number_at-first_second-requires-clause-row : goal.number_at-first_second-requires-clause-row
number_at-first_second-requires-clause-row c = c.requires.slew.first

pub number_at-first_second-requires-clause-column : goal.number_at-first_second-requires-clause-column
number_at-first_second-requires-clause-column c = c.requires.load.second

pub number_at-second_first-requires-clause-row : goal.number_at-second_first-requires-clause-row
number_at-second_first-requires-clause-row c = c.requires.slew.second

pub number_at-second_first-requires-clause-column : goal.number_at-second_first-requires-clause-column
number_at-second_first-requires-clause-column c = c.requires.load.first

pub number_at-second_second-requires-clause-row : goal.number_at-second_second-requires-clause-row
number_at-second_second-requires-clause-row c = c.requires.slew.second

pub number_at-second_second-requires-clause-column : goal.number_at-second_second-requires-clause-column
number_at-second_second-requires-clause-column c = c.requires.load.second
