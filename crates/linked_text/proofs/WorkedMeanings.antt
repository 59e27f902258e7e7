-- What some lines and small texts mean, worked out by hand.
use Rattle.std.specs.Prelude.{◌≡◌, refl, [], ◌∷◌, ◌++◌, codes, None, Err, false}
use Rattle.std.specs.Fmt.{digits}
use Rattle.xt_model.specs.declared.code.Code.TheVariants.{X1, X2, X3}
use Rattle.xt_model.specs.declared.edge.Edge.TheVariants.{Rise}
use Rattle.xt_model.specs.declared.fault.LimitKind.TheVariants as kinds
use Rattle.linked_text.specs.declared.fault.Fault.TheVariants.{Refused, Limit}
use Rattle.linked_text.specs.Fields.{fields_of, cut_at, between, size}
use Rattle.linked_text.specs.EachLine.{version_in, counts_in, period_in, miller_of, miller_in, sizes_in, row_in, index_in, head_in, quiet_in, bounds_in, given_in, coupling_in, arc_in, port_in, check_in}
use Rattle.linked_text.specs.Meaning.{line_at, counts_at, parts_at, line_number}

-- ---- lines

no_version_3 : version_in (fields_of (codes "xtalk-design 3")) ≡ Err X1
unfolding version_in digits
no_version_3 = refl

-- behind the last space stands an empty field
space_behind : version_in (fields_of (codes "xtalk-design 1 ")) ≡ Err X1
unfolding version_in digits
space_behind = refl

needless_zero : counts_in (fields_of (codes "counts 0 01 0")) ≡ Err X2
unfolding counts_in digits
needless_zero = refl

words_first : counts_in (fields_of (codes "counts 01 0")) ≡ Err X1
unfolding counts_in digits
words_first = refl

-- 2^32
too_large : counts_in (fields_of (codes "counts 4294967296 0 0")) ≡ Err X2
unfolding counts_in digits
too_large = refl

no_period_0 : period_in (fields_of (codes "period 0")) ≡ Err X2
unfolding period_in between digits
no_period_0 = refl

classical_in_version_2 : miller_in (fields_of (codes "miller 0 4 8")) ≡ Err X3
unfolding miller_in miller_of digits
classical_in_version_2 = refl

miller_below_0 : miller_in (fields_of (codes "miller -1 4 8")) ≡ Err X3
unfolding miller_in miller_of digits
miller_below_0 = refl

miller_not_canonical : miller_in (fields_of (codes "miller 0 04 9")) ≡ Err X2
unfolding miller_in miller_of digits
miller_not_canonical = refl

too_many_rows : sizes_in (fields_of (codes "table 65 1")) ≡ Err X2
unfolding sizes_in size digits
too_many_rows = refl

falls : index_in (codes "slews") 2 (fields_of (codes "slews 1 0")) ≡ Err X3
unfolding index_in row_in between digits
falls = refl

one_too_few : index_in (codes "slews") 2 (fields_of (codes "slews 1")) ≡ Err X1
unfolding index_in row_in between digits
one_too_few = refl

twice : head_in (codes "a" ∷ []) (fields_of (codes "net a w 0 0 0 0")) ≡ Err X3
unfolding head_in between digits
twice = refl

quiet_is_no_number : given_in Rise (fields_of (codes "rise quiet 0 0 0")) ≡ Err X2
unfolding bounds_in between digits
quiet_is_no_number = refl

silent_is_no_word : given_in Rise (fields_of (codes "rise silent")) ≡ Err X1
unfolding quiet_in digits
silent_is_no_word = refl

low_above_high : given_in Rise (fields_of (codes "rise 1 0 0 0")) ≡ Err X3
unfolding bounds_in between digits
low_above_high = refl

to_itself : coupling_in 2 1 (fields_of (codes "couple 1 0")) ≡ Err X3
unfolding coupling_in between digits
to_itself = refl

no_such_sink : arc_in (1 ∷ []) 1 (fields_of (codes "arc 0 1 rise fall 0 0")) ≡ Err X3
unfolding arc_in digits
no_such_sink = refl

no_period : check_in (record { period = false; sinks = 1 ∷ []; tables = 0 }) (fields_of (codes "port setup y 0 0 500 -")) ≡ Err X3
unfolding port_in between digits
no_period = refl

no_edge_word : arc_in (1 ∷ []) 1 (fields_of (codes "arc 0 00 rise up 0 0")) ≡ Err X1
unfolding arc_in digits
no_edge_word = refl

-- ---- texts: the number in a refusal says how many newlines are left where the line begins

-- the limits of a line are tested in the order of its counts
too_many_tables : parts_at (codes "xtalk-design 1" ++ 10 ∷ codes "counts 262145 0 1" ++ 10 ∷ []) ≡ Err (Limit kinds.Tables None 262145)
unfolding parts_at line_at cut_at version_in counts_at counts_in digits
too_many_tables = refl

-- a line without its newline is none
no_newline : parts_at (codes "xtalk-design 1" ++ 10 ∷ codes "counts 0 0 0") ≡ Err (Refused 0 X1)
unfolding parts_at line_at cut_at version_in counts_at digits
no_newline = refl

second_line : line_number (codes "xtalk-design 1" ++ 10 ∷ codes "counts 0 1 1" ++ 10 ∷ []) 1 ≡ 2
second_line = refl
