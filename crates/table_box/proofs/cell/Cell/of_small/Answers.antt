-- The area has room, and so has each number times the area.
use Rattle.std.proofs.Common.{sym, subst, ℤ, pos, ◌^◌, ◌*ℤ◌, ◌≤ℤ◌, arith}
use Rattle.std.proofs.lemmas.Int.{ints}
use Rattle.table_box.proofs.Sizes.{area_back, area_fits, area_high, load_sound, number_there, room_there, slew_sound}
use Rattle.table_box.proofs.cell.Cell.of_small.Goals as goal

pub number_at-requires-clause-row : goal.number_at-requires-clause-row
number_at-requires-clause-row c = (slew_sound _ c.requires.table c.requires.small _ _ c.requires.slew c.requires.load).first

pub number_at-requires-clause-column : goal.number_at-requires-clause-column
number_at-requires-clause-column c = (load_sound _ c.requires.table c.requires.small _ _ c.requires.slew c.requires.load).first

pub number_at-requires-2-clause-row : goal.number_at-requires-2-clause-row
number_at-requires-2-clause-row c = (slew_sound _ c.requires.table c.requires.small _ _ c.requires.slew c.requires.load).first

pub number_at-requires-2-clause-column : goal.number_at-requires-2-clause-column
number_at-requires-2-clause-column c = (load_sound _ c.requires.table c.requires.small _ _ c.requires.slew c.requires.load).second

pub number_at-requires-3-clause-row : goal.number_at-requires-3-clause-row
number_at-requires-3-clause-row c = (slew_sound _ c.requires.table c.requires.small _ _ c.requires.slew c.requires.load).second

pub number_at-requires-3-clause-column : goal.number_at-requires-3-clause-column
number_at-requires-3-clause-column c = (load_sound _ c.requires.table c.requires.small _ _ c.requires.slew c.requires.load).first

pub number_at-requires-4-clause-row : goal.number_at-requires-4-clause-row
number_at-requires-4-clause-row c = (slew_sound _ c.requires.table c.requires.small _ _ c.requires.slew c.requires.load).second

pub number_at-requires-4-clause-column : goal.number_at-requires-4-clause-column
number_at-requires-4-clause-column c = (load_sound _ c.requires.table c.requires.small _ _ c.requires.slew c.requires.load).second

pub overflow_mul-result : goal.overflow_mul-result
overflow_mul-result c = area_fits _ c.requires.table c.requires.small _ _ c.requires.slew c.requires.load

pub returns-clause-small : goal.returns-clause-small
returns-clause-small c =
    let t = c.args.table.now in let small = c.requires.small in
    let slew = slew_sound t c.requires.table small _ _ c.requires.slew c.requires.load in
    let load = load_sound t c.requires.table small _ _ c.requires.slew c.requires.load in
    let back = area_back t c.requires.table small _ _ c.requires.slew c.requires.load in
    let high = area_high t c.requires.table small _ _ c.requires.slew c.requires.load in
    let room = room_there t c.requires.table small _ _ c.requires.slew c.requires.load in
    let ff = number_there t c.requires.table small _ _ c.requires.slew c.requires.load _ _ _ slew.first load.first c.number_at.ensures.value c.number_at.ensures.number in
    let fs = number_there t c.requires.table small _ _ c.requires.slew c.requires.load _ _ _ slew.first load.second c.number_at-2.ensures.value c.number_at-2.ensures.number in
    let sf = number_there t c.requires.table small _ _ c.requires.slew c.requires.load _ _ _ slew.second load.first c.number_at-3.ensures.value c.number_at-3.ensures.number in
    let ss = number_there t c.requires.table small _ _ c.requires.slew c.requires.load _ _ _ slew.second load.second c.number_at-4.ensures.value c.number_at-4.ensures.number in
    record {
      table = c.requires.table;
      slew = slew;
      load = load;
      area = back;
      first_first = ff.0;
      first_second = fs.0;
      second_first = sf.0;
      second_second = ss.0;
      fits = omega (arith, ints, back, high);
      most = small.most;
      natural = let least = small.least in omega (arith, ints, least);
      room = subst (λ (a : ℤ). (small.most *ℤ a) ≤ℤ pos (2 ^ 62)) (sym back) room;
      first_first_small = ff.1;
      first_second_small = fs.1;
      second_first_small = sf.1;
      second_second_small = ss.1;
      rising = λ t. absurd (let bad : ⊥ = cc in bad);
    }
