-- Lists of transitions worked out by hand, some that explain one another, and some that do not for one reason each.
use Rattle.std.proofs.Common.{◌≡◌, ℕ, inl, inr, refl, subst, List, [], ◌∷◌, ℤ, pos, ◌+ℤ◌, arith}
use Rattle.std.specs.Prelude.{codes}
use Rattle.std.specs.List.{All, Contains}
use Rattle.std.proofs.lemmas.Int.{ints}
use Rattle.std.proofs.lemmas.List.Elements.{All-nil, All-cons, All-head, All-contains}
use Rattle.xt_model.specs.declared.edge.Edge.{Edge}
use Rattle.xt_model.specs.declared.edge.Edge.TheVariants.{Rise, Fall}
use Rattle.xt_model.specs.declared.net.TimingArc.{TimingArc}
use Rattle.xt_model.specs.declared.net.Net.{Net}
use Rattle.xt_model.specs.Assign.{assigned}
use Rattle.xt_model.proofs.WorkedDesigns.{quad, on_rise, source, driven, coupled, rising_from, cross, cross_windows, load_pair}
use Rattle.xt_meaning.specs.Lookup.{table_value}
use Rattle.xt_meaning.specs.Wires.{wire_delay}
use Rattle.run_laws.specs.Transitions.{Transition, MeetsOneAt, IsAdmitted, AreAdmitted, IsMadeBy, IsMadeOver, LiesIn, IsExplained, AreConsistent}
use Rattle.run_laws.specs.Laws.{LiesInLive, LieWithin}

abbrev rising : ℕ → ℤ → ℤ → Transition
rising net time slew = record { net = net; edge = Rise; time = time; slew = slew }

abbrev falling : ℕ → ℤ → ℤ → Transition
falling net time slew = record { net = net; edge = Fall; time = time; slew = slew }

-- ---- the two crossed paths: s drives c, t drives d; s is coupled to d, and t to c
abbrev s_net : Net
s_net = source (codes "s") (on_rise (quad (pos 1000) (pos 1000) (pos 600) (pos 600))) (coupled 3 (pos 1000)) ((record { name = codes "c/A"; base = pos 0; coefs = pos 200000000 ∷ [] }) ∷ [])

abbrev c_net : Net
c_net = driven (codes "c") [] (rising_from 0)

abbrev s_up : Transition
s_up = rising 0 (pos 1000) (pos 600)

abbrev t_up : Transition
t_up = rising 1 (pos 1000) (pos 600)

s_given : LiesIn (quad (pos 1000) (pos 1000) (pos 600) (pos 600)) s_up
s_given = record { tlo = omega (arith, ints); thi = omega (arith, ints); slo = omega (arith, ints); shi = omega (arith, ints) }

t_given : LiesIn (quad (pos 1000) (pos 1000) (pos 600) (pos 600)) t_up
t_given = record { tlo = omega (arith, ints); thi = omega (arith, ints); slo = omega (arith, ints); shi = omega (arith, ints) }

-- s and c by themselves: 1000 at s, 200 of wire at the middle factor, 500 of cell
abbrev lone : ℤ → ℤ → List Transition
lone time slew = s_up ∷ rising 2 time slew ∷ []

lone_consistent : AreConsistent cross (lone (pos 1700) (pos 600))
unfolding table_value
lone_consistent =
    All-cons (IsExplained cross (lone (pos 1700) (pos 600))) s_up (rising 2 (pos 1700) (pos 600) ∷ []) s_given
    (All-cons (IsExplained cross (lone (pos 1700) (pos 600))) (rising 2 (pos 1700) (pos 600)) [] (record {
      arc = rising_from 0;
      among = (0, omega arith, refl);
      cause = s_up;
      listed = (0, omega arith, refl);
      made = record {
        input_net = refl;
        input_edge = refl;
        output_edge = refl;
        w = pos 200;
        wire = record { factors = 4 ∷ []; admitted = (inl refl, tt); delay = refl };
        c = pos 0;
        load = record { factors = []; admitted = tt; load = refl };
        time = refl;
        slew = refl;
      };
    }) (All-nil (IsExplained cross (lone (pos 1700) (pos 600)))))

-- all four: c and d switch at the same time, so both wires may be without a delay, and c and d are 200 earlier
abbrev crossing : List Transition
crossing = s_up ∷ t_up ∷ rising 2 (pos 1500) (pos 600) ∷ rising 3 (pos 1500) (pos 600) ∷ []

crossing_consistent : AreConsistent cross crossing
unfolding table_value
crossing_consistent =
    All-cons (IsExplained cross crossing) s_up (t_up ∷ rising 2 (pos 1500) (pos 600) ∷ rising 3 (pos 1500) (pos 600) ∷ []) s_given
    (All-cons (IsExplained cross crossing) t_up (rising 2 (pos 1500) (pos 600) ∷ rising 3 (pos 1500) (pos 600) ∷ []) t_given
    (All-cons (IsExplained cross crossing) (rising 2 (pos 1500) (pos 600)) (rising 3 (pos 1500) (pos 600) ∷ []) (record {
      arc = rising_from 0;
      among = (0, omega arith, refl);
      cause = s_up;
      listed = (0, omega arith, refl);
      made = record {
        input_net = refl;
        input_edge = refl;
        output_edge = refl;
        w = pos 0;
        wire = record { factors = 0 ∷ []; admitted = (inr (inl (refl, s_meets_d)), tt); delay = refl };
        c = pos 0;
        load = record { factors = []; admitted = tt; load = refl };
        time = refl;
        slew = refl;
      };
    })
    (All-cons (IsExplained cross crossing) (rising 3 (pos 1500) (pos 600)) [] (record {
      arc = rising_from 1;
      among = (0, omega arith, refl);
      cause = t_up;
      listed = (1, omega arith, refl);
      made = record {
        input_net = refl;
        input_edge = refl;
        output_edge = refl;
        w = pos 0;
        wire = record { factors = 0 ∷ []; admitted = (inr (inl (refl, t_meets_c)), tt); delay = refl };
        c = pos 0;
        load = record { factors = []; admitted = tt; load = refl };
        time = refl;
        slew = refl;
      };
    }) (All-nil (IsExplained cross crossing)))))
  where
    s_meets_d : MeetsOneAt cross crossing s_up 3 Rise
    s_meets_d = record {
      other = rising 3 (pos 1500) (pos 600);
      listed = (3, omega arith, refl);
      at_net = refl;
      at_edge = refl;
      together = record { starts = omega (arith, ints); ends = omega (arith, ints) };
    }

    t_meets_c : MeetsOneAt cross crossing t_up 2 Rise
    t_meets_c = record {
      other = rising 2 (pos 1500) (pos 600);
      listed = (2, omega arith, refl);
      at_net = refl;
      at_edge = refl;
      together = record { starts = omega (arith, ints); ends = omega (arith, ints) };
    }

-- these are in the greatest windows, but not in the least
crossing_past_least : LieWithin (assigned (cross_windows (pos 1700))) crossing → ⊥
crossing_past_least h =
    let c = All-contains (λ x. LiesInLive (assigned (cross_windows (pos 1700)) x.net x.edge) x) crossing (rising 2 (pos 1500) (pos 600)) h (2, omega arith, refl) in
    omega (arith, ints, c.bounds.tlo)

-- ---- what is not consistent
-- no transition of the list is at this net
abbrev IsQuiet : ℕ → List Transition → Type 0
IsQuiet n xs = All (λ y. y.net ≡ n → ⊥) xs

quiet_meets_none : (xs : List Transition) (x : Transition) (n : ℕ) (e : Edge) → IsQuiet n xs → MeetsOneAt cross xs x n e → ⊥
quiet_meets_none xs x n e quiet m = All-contains (λ y. y.net ≡ n → ⊥) xs m.other quiet m.listed m.at_net

-- where d is quiet, s has its middle factor
middle_factor : (xs : List Transition) (m : ℕ) → IsQuiet 3 xs → IsAdmitted cross xs s_up (record { to = record { 0 = 3 }; cap = pos 1000 }) m → m ≡ 4
middle_factor xs m quiet (inl e) = e
middle_factor xs m quiet (inr (inl a)) = absurd (quiet_meets_none xs s_up 3 Rise quiet a.1)
middle_factor xs m quiet (inr (inr a)) = absurd (quiet_meets_none xs s_up 3 Fall quiet a.1)

plain_wire : (xs : List Transition) (w : ℤ) (ms : List ℕ) → IsQuiet 3 xs → AreAdmitted cross xs s_up (coupled 3 (pos 1000)) ms → w ≡ wire_delay ms s_net 0 → w ≡ pos 200
plain_wire xs w [] quiet a e = absurd a
plain_wire xs w (m ∷ []) quiet a e =
    let k = middle_factor xs m quiet a.0 in
    let P : ℕ → Type 0 = λ i. w ≡ wire_delay (i ∷ []) s_net 0 in
    subst P k e
plain_wire xs w (m ∷ n ∷ ms) quiet a e = absurd a.1

s_makes : (xs : List Transition) (x : Transition) → IsQuiet 3 xs → IsMadeBy cross xs c_net x (rising_from 0) s_up → (x.time ≡ pos 1700) × (x.slew ≡ pos 600)
unfolding table_value
s_makes xs x quiet h =
    let w = plain_wire xs h.w h.wire.factors quiet h.wire.admitted h.wire.delay in
    let t : x.time ≡ ((pos 1000 +ℤ h.w) +ℤ pos 500) = h.time in
    let s : x.slew ≡ pos 600 = h.slew in
    (omega (arith, ints, t, w), s)

over_arc : (xs : List Transition) (x y : Transition) (a : TimingArc) → Contains (rising_from 0 ∷ []) a → IsMadeBy cross xs c_net x a y → IsMadeBy cross xs c_net x (rising_from 0) y
over_arc xs x y a among =
    All-contains (λ i. IsMadeBy cross xs c_net x i y → IsMadeBy cross xs c_net x (rising_from 0) y) (rising_from 0 ∷ []) a
    (All-cons (λ i. IsMadeBy cross xs c_net x i y → IsMadeBy cross xs c_net x (rising_from 0) y) (rising_from 0) [] (λ m. m)
    (All-nil (λ i. IsMadeBy cross xs c_net x i y → IsMadeBy cross xs c_net x (rising_from 0) y)))
    among

-- with s and c alone, c rises at 1700 with a slew of 600 and at no other time or slew
lone_only : (time slew : ℤ) → AreConsistent cross (lone time slew) → (time ≡ pos 1700) × (slew ≡ pos 600)
lone_only time slew h =
    let why : IsMadeOver cross (lone time slew) c_net (rising 2 time slew) (rising_from 0 ∷ []) =
    All-contains (IsExplained cross (lone time slew)) (lone time slew) (rising 2 time slew) h (1, omega arith, refl) in
    let m = over_arc (lone time slew) (rising 2 time slew) why.cause why.arc why.among why.made in
    let P : Transition → Type 0 = λ y. IsMadeBy cross (lone time slew) c_net (rising 2 time slew) (rising_from 0) y → (time ≡ pos 1700) × (slew ≡ pos 600) in
    All-contains P (lone time slew) why.cause
    (All-cons P s_up (rising 2 time slew ∷ []) (s_makes (lone time slew) (rising 2 time slew) d_quiet)
    (All-cons P (rising 2 time slew) [] (λ k. absurd (let e = k.input_net in let bad : ⊥ = omega (arith, e) in bad)) (All-nil P)))
    why.listed m
  where
    d_quiet : IsQuiet 3 (lone time slew)
    d_quiet =
        All-cons (λ y. y.net ≡ 3 → ⊥) s_up (rising 2 time slew ∷ []) (λ e. omega (arith, e))
        (All-cons (λ y. y.net ≡ 3 → ⊥) (rising 2 time slew) [] (λ e. omega (arith, e)) (All-nil (λ y. y.net ≡ 3 → ⊥)))

-- the low factor, and the high one, which no transition of d admits
no_low_factor : AreConsistent cross (lone (pos 1500) (pos 600)) → ⊥
no_low_factor h = let e = (lone_only (pos 1500) (pos 600) h).0 in omega (arith, ints, e)

no_high_factor : AreConsistent cross (lone (pos 1900) (pos 600)) → ⊥
no_high_factor h = let e = (lone_only (pos 1900) (pos 600) h).0 in omega (arith, ints, e)

-- a time, and a slew, off by one
time_by_one : AreConsistent cross (lone (pos 1701) (pos 600)) → ⊥
time_by_one h = let e = (lone_only (pos 1701) (pos 600) h).0 in omega (arith, ints, e)

slew_by_one : AreConsistent cross (lone (pos 1700) (pos 601)) → ⊥
slew_by_one h = let e = (lone_only (pos 1700) (pos 601) h).1 in omega (arith, ints, e)

-- an input that does not switch in the list
quiet_input : AreConsistent cross (rising 2 (pos 1700) (pos 600) ∷ []) → ⊥
quiet_input h =
    let xs = rising 2 (pos 1700) (pos 600) ∷ [] in
    let why : IsMadeOver cross xs c_net (rising 2 (pos 1700) (pos 600)) (rising_from 0 ∷ []) =
    All-contains (IsExplained cross xs) xs (rising 2 (pos 1700) (pos 600)) h (0, omega arith, refl) in
    let m = over_arc xs (rising 2 (pos 1700) (pos 600)) why.cause why.arc why.among why.made in
    All-contains (λ y. y.net ≡ 0 → ⊥) xs why.cause
    (All-cons (λ y. y.net ≡ 0 → ⊥) (rising 2 (pos 1700) (pos 600)) [] (λ e. omega (arith, e)) (All-nil (λ y. y.net ≡ 0 → ⊥)))
    why.listed m.input_net

-- an edge of a source that never switches
quiet_source : (time slew : ℤ) → AreConsistent cross (falling 0 time slew ∷ []) → ⊥
quiet_source time slew h =
    let why = All-head (IsExplained cross (falling 0 time slew ∷ [])) (falling 0 time slew) [] h in
    omega (arith, ints, why.tlo, why.thi)

-- ---- two nets that load each other: one rises while the other falls, so each may see the coupling capacitor twice
abbrev loading : List Transition
loading = rising 0 (pos 0) (pos 0) ∷ falling 1 (pos 0) (pos 0) ∷ rising 2 (pos 1200) (pos 0) ∷ falling 3 (pos 1200) (pos 0) ∷ []

a_loaded : IsExplained (load_pair (pos 0)) loading (rising 2 (pos 1200) (pos 0))
unfolding table_value
a_loaded = record {
  arc = rising_from 0;
  among = (0, omega arith, refl);
  cause = rising 0 (pos 0) (pos 0);
  listed = (0, omega arith, refl);
  made = record {
    input_net = refl;
    input_edge = refl;
    output_edge = refl;
    w = pos 0;
    wire = record { factors = []; admitted = tt; delay = refl };
    c = pos 2000;
    load = record { factors = 8 ∷ []; admitted = (inr (inr (refl, a_meets_b)), tt); load = refl };
    time = refl;
    slew = refl;
  };
} where
  a_meets_b : MeetsOneAt (load_pair (pos 0)) loading (rising 2 (pos 1200) (pos 0)) 3 Fall
  a_meets_b = record {
    other = falling 3 (pos 1200) (pos 0);
    listed = (3, omega arith, refl);
    at_net = refl;
    at_edge = refl;
    together = record { starts = omega (arith, ints); ends = omega (arith, ints) };
  }
