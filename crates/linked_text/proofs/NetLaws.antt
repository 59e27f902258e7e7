-- The laws of the lines of nets.
use Rattle.std.proofs.Common.{◌≡◌, ◌≢◌, ℕ, ◌^◌, ◌<◌, List, [], ◌∷◌, length, map, eqb, ltb, ℤ, pos, Bool, true, false, not, ◌&&◌, ◌⊎◌, inl, inr, Option, Some, None, Result, Ok, refl, sym, ap, subst, ◌∙◌, arith}
use Rattle.std.specs.Prelude.{codes, neg_ℤ}
use Rattle.std.specs.Fmt.{decimal, signed_decimal}
use Rattle.std.specs.List.{AllByRecursion}
use Rattle.std.specs.Option.{option_map_or}
use Rattle.std.specs.Str.{bytes_eq}
use Rattle.std.proofs.lemmas.Bool.{eqb-true, eq-eqb, ne_eqb, ltb-true, lt-ltb}
use Rattle.std.proofs.lemmas.Int.{ints}
use Rattle.std.proofs.lemmas.List.{length-map}
use Rattle.xt_model.specs.declared.code.Code.{Code}
use Rattle.xt_model.specs.declared.edge.Edge.{Edge}
use Rattle.xt_model.specs.declared.quad.Quad.{Quad}
use Rattle.xt_model.specs.declared.net.Coupling.{Coupling}
use Rattle.xt_model.specs.declared.net.SinkPin.{SinkPin}
use Rattle.xt_model.specs.declared.net.TimingArc.{TimingArc}
use Rattle.xt_model.specs.Names.{IsName}
use Rattle.xt_model.specs.Quads.{bottom, is_live}
use Rattle.xt_model.specs.Limits.{most_cap, most_product, most_slew, most_time}
use Rattle.xt_model.specs.Sound.{IsTime, IsSlew, IsCap, IsProduct, IsConstraint, IsGiven}
use Rattle.name_numbers.specs.Names.{has_name}
use Rattle.text_lines.specs.Lines.{Line}
use Rattle.text_lines.specs.Words.{edge_word}
use Rattle.linked_text.specs.declared.head.NetHead.{NetHead}
use Rattle.linked_text.specs.Linked.{kind_field, given_line, coupling_line, sink_line, arc_line}
use Rattle.linked_text.specs.Fields.{two, cap, product, time, slew, is_name}
use Rattle.linked_text.specs.Fits.{IsSmaller}
use Rattle.linked_text.specs.EachLine.{head_in, quiet_in, bounds_in, given_in, coupling_in, sink_fields, sink_in, has_sink, arc_in}
use Rattle.linked_text.proofs.Options.{both_true, passed}
use Rattle.linked_text.proofs.Cuts.{name_sound, name_tested}
use Rattle.linked_text.proofs.Inversions.{ok_step, ok_is, worded_ok, numbered_ok, word_ok, holds_ok, is_word, same_word, two_is, three_is, five_is, seven_is}
use Rattle.linked_text.proofs.NumberLaws.{clear_count, clear_signed, clear_name, clear_each, clear_edge, clear_kind, count_takes, count_again, between_takes, between_again, each_takes, each_again, edge_takes, edge_again, kind_takes, kind_again}
use Rattle.linked_text.proofs.LineLaws.{IsPlain, IsLine}

-- ---- quantities

cap_takes : (f : List ℕ) (x : ℤ) → cap f ≡ Some x → (f ≡ signed_decimal x) × IsCap x
cap_takes f x e = let t = between_takes (pos 0) most_cap f x e in (t.0, record { least = t.1; most = t.2 })

small_cap : (x : ℤ) → IsCap x → IsSmaller (2 ^ 127) x
small_cap x h = record { low = omega (arith, ints, h.least); high = omega (arith, ints, h.most) }

cap_again : (x : ℤ) → IsCap x → cap (signed_decimal x) ≡ Some x
cap_again x h = between_again (pos 0) most_cap x (small_cap x h) h.least h.most

product_takes : (f : List ℕ) (x : ℤ) → product f ≡ Some x → (f ≡ signed_decimal x) × IsProduct x
product_takes f x e = let t = between_takes (pos 0) most_product f x e in (t.0, record { least = t.1; most = t.2 })

small_product : (x : ℤ) → IsProduct x → IsSmaller (2 ^ 127) x
small_product x h = record { low = omega (arith, ints, h.least); high = omega (arith, ints, h.most) }

product_again : (x : ℤ) → IsProduct x → product (signed_decimal x) ≡ Some x
product_again x h = between_again (pos 0) most_product x (small_product x h) h.least h.most

time_takes : (f : List ℕ) (x : ℤ) → time f ≡ Some x → (f ≡ signed_decimal x) × IsTime x
time_takes f x e = let t = between_takes (neg_ℤ most_time) most_time f x e in (t.0, record { least = t.1; most = t.2 })

small_time : (x : ℤ) → IsTime x → IsSmaller (2 ^ 127) x
small_time x h = record { low = omega (arith, ints, h.least); high = omega (arith, ints, h.most) }

time_again : (x : ℤ) → IsTime x → time (signed_decimal x) ≡ Some x
time_again x h = between_again (neg_ℤ most_time) most_time x (small_time x h) h.least h.most

slew_takes : (f : List ℕ) (x : ℤ) → slew f ≡ Some x → (f ≡ signed_decimal x) × IsSlew x
slew_takes f x e = let t = between_takes (pos 0) most_slew f x e in (t.0, record { least = t.1; most = t.2 })

small_slew : (x : ℤ) → IsSlew x → IsSmaller (2 ^ 127) x
small_slew x h = record { low = omega (arith, ints, h.least); high = omega (arith, ints, h.most) }

slew_again : (x : ℤ) → IsSlew x → slew (signed_decimal x) ≡ Some x
slew_again x h = between_again (pos 0) most_slew x (small_slew x h) h.least h.most

-- ---- the line of a net

abbrev pub head_words : NetHead → Line
head_words h =
    codes "net" ∷ h.name ∷ kind_field h.input ∷ signed_decimal h.load ∷ decimal h.couplings ∷ decimal h.sinks ∷ decimal h.arcs ∷ []

pub record FitsHead (names : List (List ℕ)) (h : NetHead) : Type 0 where
  pub name : IsName h.name
  pub fresh : has_name h.name names ≡ false
  pub load : IsCap h.load
  pub couplings : h.couplings < 2 ^ 32
  pub sinks : h.sinks < 2 ^ 32
  pub arcs : h.arcs < 2 ^ 32

not_true : (b : Bool) → not b ≡ true → b ≡ false
not_true true e = absurd cc
not_true false e = refl

-- seven fields, one after another
same_seven : (a b c d g i j a1 b1 c1 d1 g1 i1 j1 : List ℕ) → a ≡ a1 → b ≡ b1 → c ≡ c1 → d ≡ d1 → g ≡ g1 → i ≡ i1 → j ≡ j1 → ◌≡◌ {A = Line} (a ∷ b ∷ c ∷ d ∷ g ∷ i ∷ j ∷ []) (a1 ∷ b1 ∷ c1 ∷ d1 ∷ g1 ∷ i1 ∷ j1 ∷ [])
same_seven a b c d g i j a1 b1 c1 d1 g1 i1 j1 e1 e2 e3 e4 e5 e6 e7 = rw (e1, e2, e3, e4, e5, e6, e7) refl

head_takes : (names : List (List ℕ)) (l : Line) (h : NetHead) → head_in names l ≡ Ok h → (l ≡ head_words h) × FitsHead names h
unfolding head_in
head_takes names l h e =
    let f = ok_step e in
    let w = ok_step f.2 in
    let k = ok_step w.2 in
    let load = ok_step k.2 in
    let couplings = ok_step load.2 in
    let sinks = ok_step couplings.2 in
    let arcs = ok_step sinks.2 in
    let n = ok_step arcs.2 in
    let name = both_true (is_name f.0.1) (not (has_name f.0.1 names)) (holds_ok n.1) in
    let kind = kind_takes f.0.2 k.0 (worded_ok k.1) in
    let t = cap_takes f.0.3 load.0 (numbered_ok load.1) in
    let u = count_takes f.0.4 couplings.0 (numbered_ok couplings.1) in
    let v = count_takes f.0.5 sinks.0 (numbered_ok sinks.1) in
    let x = count_takes f.0.6 arcs.0 (numbered_ok arcs.1) in
    let made : NetHead = record { name = f.0.1; input = k.0; load = load.0; couplings = couplings.0; sinks = sinks.0; arcs = arcs.0 } in
    let line : l ≡ head_words made = seven_is l f.0 (worded_ok f.1) ∙ same_seven f.0.0 f.0.1 f.0.2 f.0.3 f.0.4 f.0.5 f.0.6 (codes "net") f.0.1 (kind_field k.0) (signed_decimal load.0) (decimal couplings.0) (decimal sinks.0) (decimal arcs.0) (is_word _ _ (word_ok w.1)) refl kind t.0 u.0 v.0 x.0 in
    let fits : FitsHead names made = record { name = name_sound f.0.1 name.0; fresh = not_true (has_name f.0.1 names) name.1; load = t.1; couplings = u.1; sinks = v.1; arcs = x.1 } in
    subst (λ (y : NetHead). (l ≡ head_words y) × FitsHead names y) (ok_is made h n.2) (line, fits)

head_again : (names : List (List ℕ)) (h : NetHead) → FitsHead names h → head_in names (head_words h) ≡ Ok h
unfolding head_in
head_again names h k = rw (kind_again h.input, cap_again h.load k.load, count_again h.couplings k.couplings, count_again h.sinks k.sinks, count_again h.arcs k.arcs, name_tested h.name k.name, k.fresh) refl

head_plain : (names : List (List ℕ)) (h : NetHead) → FitsHead names h → IsPlain (head_words h)
head_plain names h k =
    ((refl, (refl, (refl, tt))), (clear_name h.name k.name, (clear_kind h.input, (clear_signed h.load (small_cap h.load k.load), (clear_count h.couplings k.couplings, (clear_count h.sinks k.sinks, (clear_count h.arcs k.arcs, tt)))))))

pub heads : (names : List (List ℕ)) → IsLine (head_in names) head_words (FitsHead names)
heads names = record { takes = head_takes names; again = head_again names; plain = head_plain names }

-- ---- what is given

-- which of two readings a line of two fields has
by_two : (g : List ℕ × List ℕ → Result Quad Code) (o : Option (List ℕ × List ℕ)) (other : Result Quad Code) (q : Quad) → option_map_or g o other ≡ Ok q
    → ((x : List ℕ × List ℕ) × (o ≡ Some x) × (g x ≡ Ok q)) ⊎ ((o ≡ None) × (other ≡ Ok q))
by_two g (Some x) other q e = inl (x, refl, e)
by_two g None other q e = inr (refl, e)

dead : is_live bottom ≡ false
dead = refl

bottom_line : (e : Edge) → given_line e bottom ≡ edge_word e ∷ codes "quiet" ∷ []
bottom_line e = refl

live_line : (e : Edge) (q : Quad) → is_live q ≡ true → given_line e q ≡ edge_word e ∷ signed_decimal q.tlo ∷ signed_decimal q.thi ∷ signed_decimal q.slo ∷ signed_decimal q.shi ∷ []
live_line e q h = rw h refl

quiet_takes : (g : Edge) (l : Line) (x : List ℕ × List ℕ) (q : Quad) → two l ≡ Some x → quiet_in g x ≡ Ok q → (l ≡ given_line g q) × IsGiven q
unfolding quiet_in
quiet_takes g l x q t e =
    let w = ok_step e in
    let r = ok_step w.2 in
    let line : l ≡ edge_word g ∷ codes "quiet" ∷ [] = two_is l x t ∙ ap (λ (f : List ℕ). f ∷ x.1 ∷ []) (is_word _ _ (word_ok w.1)) ∙ ap (λ (f : List ℕ). edge_word g ∷ f ∷ []) (is_word _ _ (word_ok r.1)) in
    subst (λ (p : Quad). (l ≡ given_line g p) × IsGiven p) (ok_is bottom q r.2) (line ∙ sym (bottom_line g), inl refl)

bounds_takes : (g : Edge) (l : Line) (q : Quad) → bounds_in g l ≡ Ok q → (l ≡ given_line g q) × IsGiven q
unfolding bounds_in
bounds_takes g l q e =
    let f = ok_step e in
    let w = ok_step f.2 in
    let a = ok_step w.2 in
    let b = ok_step a.2 in
    let c = ok_step b.2 in
    let d = ok_step c.2 in
    let h = ok_step d.2 in
    let made : Quad = record { tlo = a.0; thi = b.0; slo = c.0; shi = d.0 } in
    let live : is_live made ≡ true = holds_ok h.1 in
    let tlo = time_takes f.0.1 a.0 (numbered_ok a.1) in
    let thi = time_takes f.0.2 b.0 (numbered_ok b.1) in
    let slo = slew_takes f.0.3 c.0 (numbered_ok c.1) in
    let shi = slew_takes f.0.4 d.0 (numbered_ok d.1) in
    let word : f.0.0 ≡ edge_word g = is_word _ _ (word_ok w.1) in
    let line : l ≡ edge_word g ∷ signed_decimal a.0 ∷ signed_decimal b.0 ∷ signed_decimal c.0 ∷ signed_decimal d.0 ∷ [] =
    five_is l f.0 (worded_ok f.1) ∙ ap (λ (x : List ℕ). x ∷ f.0.1 ∷ f.0.2 ∷ f.0.3 ∷ f.0.4 ∷ []) word ∙ ap (λ (x : List ℕ). edge_word g ∷ x ∷ f.0.2 ∷ f.0.3 ∷ f.0.4 ∷ []) tlo.0
    ∙ ap (λ (x : List ℕ). edge_word g ∷ signed_decimal a.0 ∷ x ∷ f.0.3 ∷ f.0.4 ∷ []) thi.0 ∙ ap (λ (x : List ℕ). edge_word g ∷ signed_decimal a.0 ∷ signed_decimal b.0 ∷ x ∷ f.0.4 ∷ []) slo.0
    ∙ ap (λ (x : List ℕ). edge_word g ∷ signed_decimal a.0 ∷ signed_decimal b.0 ∷ signed_decimal c.0 ∷ x ∷ []) shi.0 in
    let sound : IsConstraint made = record { live = live; tlo = tlo.1; thi = thi.1; slo = slo.1; shi = shi.1 } in
    subst (λ (p : Quad). (l ≡ given_line g p) × IsGiven p) (ok_is made q h.2) (line ∙ sym (live_line g made live), inr sound)

given_takes : (g : Edge) (l : Line) (q : Quad) → given_in g l ≡ Ok q → (l ≡ given_line g q) × IsGiven q
given_takes g l q e = elim (by_two (quiet_in g) (two l) (bounds_in g l) q e) [
  | inl h ↦ quiet_takes g l h.0 q h.1 h.2
  | inr h ↦ bounds_takes g l q h.1
]

quiet_again : (g : Edge) → given_in g (edge_word g ∷ codes "quiet" ∷ []) ≡ Ok bottom
unfolding quiet_in
quiet_again g = rw (same_word (edge_word g)) refl

bounds_again : (g : Edge) (q : Quad) → IsConstraint q → given_in g (edge_word g ∷ signed_decimal q.tlo ∷ signed_decimal q.thi ∷ signed_decimal q.slo ∷ signed_decimal q.shi ∷ []) ≡ Ok q
unfolding bounds_in
bounds_again g q h = rw (same_word (edge_word g), time_again q.tlo h.tlo, time_again q.thi h.thi, slew_again q.slo h.slo, slew_again q.shi h.shi, h.live) refl

given_again : (g : Edge) (q : Quad) → IsGiven q → given_in g (given_line g q) ≡ Ok q
given_again g q (inl is) = subst (λ (p : Quad). given_in g (given_line g p) ≡ Ok p) (sym is) (ap (given_in g) (bottom_line g) ∙ quiet_again g)
given_again g q (inr h) = ap (given_in g) (live_line g q h.live) ∙ bounds_again g q h

given_plain : (g : Edge) (q : Quad) → IsGiven q → IsPlain (given_line g q)
given_plain g q (inl is) = subst (λ (p : Quad). IsPlain (given_line g p)) (sym is) (clear_edge g, ((refl, (refl, (refl, (refl, (refl, tt))))), tt))
given_plain g q (inr h) = subst IsPlain (sym (live_line g q h.live))
    (clear_edge g, (clear_signed q.tlo (small_time q.tlo h.tlo), (clear_signed q.thi (small_time q.thi h.thi), (clear_signed q.slo (small_slew q.slo h.slo), (clear_signed q.shi (small_slew q.shi h.shi), tt)))))

pub givens : (g : Edge) → IsLine (given_in g) (given_line g) IsGiven
givens g = record { takes = given_takes g; again = given_again g; plain = given_plain g }

-- ---- couplings

pub record FitsCoupling (nets own : ℕ) (k : Coupling) : Type 0 where
  pub there : k.to.0 < nets
  pub other : k.to.0 ≢ own
  pub to : k.to.0 < 2 ^ 32
  pub cap : IsCap k.cap

coupling_takes : (nets own : ℕ) (l : Line) (k : Coupling) → coupling_in nets own l ≡ Ok k → (l ≡ coupling_line k) × FitsCoupling nets own k
unfolding coupling_in
coupling_takes nets own l k e =
    let f = ok_step e in
    let w = ok_step f.2 in
    let a = ok_step w.2 in
    let b = ok_step a.2 in
    let h = ok_step b.2 in
    let tests = both_true (ltb a.0 nets) (not (eqb a.0 own)) (holds_ok h.1) in
    let to = count_takes f.0.1 a.0 (numbered_ok a.1) in
    let amount = cap_takes f.0.2 b.0 (numbered_ok b.1) in
    let made : Coupling = record { to = record { 0 = a.0 }; cap = b.0 } in
    let line : l ≡ coupling_line made = three_is l f.0 (worded_ok f.1) ∙ ap (λ (x : List ℕ). x ∷ f.0.1 ∷ f.0.2 ∷ []) (is_word _ _ (word_ok w.1)) ∙ ap (λ (x : List ℕ). codes "couple" ∷ x ∷ f.0.2 ∷ []) to.0 ∙ ap (λ (x : List ℕ). codes "couple" ∷ decimal a.0 ∷ x ∷ []) amount.0 in
    let other : a.0 ≢ own = λ same. differs (eqb a.0 own) tests.1 (eq-eqb a.0 own same) in
    let fits : FitsCoupling nets own made = record { there = ltb-true _ _ tests.0; other = other; to = to.1; cap = amount.1 } in
    subst (λ (y : Coupling). (l ≡ coupling_line y) × FitsCoupling nets own y) (ok_is made k h.2) (line, fits)
  where
    differs : (b : Bool) → not b ≡ true → b ≡ true → ⊥
    differs true n t = absurd cc
    differs false n t = absurd cc

coupling_again : (nets own : ℕ) (k : Coupling) → FitsCoupling nets own k → coupling_in nets own (coupling_line k) ≡ Ok k
unfolding coupling_in
coupling_again nets own k h = rw (count_again k.to.0 h.to, cap_again k.cap h.cap, lt-ltb k.to.0 nets h.there, ne_eqb k.to.0 own h.other) refl

pub couplings : (nets own : ℕ) → IsLine (coupling_in nets own) coupling_line (FitsCoupling nets own)
couplings nets own = record {
  takes = coupling_takes nets own;
  again = coupling_again nets own;
  plain = λ k h. ((refl, (refl, (refl, (refl, (refl, (refl, tt)))))), (clear_count k.to.0 h.to, (clear_signed k.cap (small_cap k.cap h.cap), tt)));
}

-- ---- sinks

pub record FitsSink (n : ℕ) (s : SinkPin) : Type 0 where
  pub name : IsName s.name
  pub base : IsProduct s.base
  pub count : length s.coefs ≡ n
  pub coefs : AllByRecursion IsProduct s.coefs

fields_take : (n : ℕ) (l : Line) (x : List ℕ × List ℕ × Line) → sink_fields n l ≡ Some x → (l ≡ codes "sink" ∷ x.0 ∷ x.1 ∷ x.2) × (length x.2 ≡ n)
fields_take n [] x e = absurd cc
fields_take n (w ∷ []) x e = absurd cc
fields_take n (w ∷ name ∷ []) x e = absurd cc
fields_take n (w ∷ name ∷ base ∷ fs) x e =
    let g = passed (bytes_eq w (codes "sink") && eqb (length fs) n) (name, base, fs) x e in
    let b = both_true (bytes_eq w (codes "sink")) (eqb (length fs) n) g.0 in
    subst (λ (y : List ℕ × List ℕ × Line). (w ∷ name ∷ base ∷ fs ≡ codes "sink" ∷ y.0 ∷ y.1 ∷ y.2) × (length y.2 ≡ n)) g.1
    (ap (λ (v : List ℕ). v ∷ name ∷ base ∷ fs) (is_word w (codes "sink") b.0), eqb-true _ _ b.1)

sink_takes : (n : ℕ) (l : Line) (s : SinkPin) → sink_in n l ≡ Ok s → (l ≡ sink_line s) × FitsSink n s
unfolding sink_in
sink_takes n l s e =
    let f = ok_step e in
    let b = ok_step f.2 in
    let c = ok_step b.2 in
    let h = ok_step c.2 in
    let g = fields_take n l f.0 (worded_ok f.1) in
    let base = product_takes f.0.1 b.0 (numbered_ok b.1) in
    let coefs = each_takes product signed_decimal IsProduct product_takes f.0.2 c.0 (numbered_ok c.1) in
    let made : SinkPin = record { name = f.0.0; base = b.0; coefs = c.0 } in
    let line : l ≡ sink_line made = g.0 ∙ ap (λ (x : List ℕ). codes "sink" ∷ f.0.0 ∷ x ∷ f.0.2) base.0 ∙ ap (λ (x : Line). codes "sink" ∷ f.0.0 ∷ signed_decimal b.0 ∷ x) coefs.0 in
    let fits : FitsSink n made = record { name = name_sound f.0.0 (holds_ok h.1); base = base.1; count = coefs.1 ∙ g.1; coefs = coefs.2 } in
    subst (λ (y : SinkPin). (l ≡ sink_line y) × FitsSink n y) (ok_is made s h.2) (line, fits)

sink_again : (n : ℕ) (s : SinkPin) → FitsSink n s → sink_in n (sink_line s) ≡ Ok s
unfolding sink_in
sink_again n s h =
    let count : length (map signed_decimal s.coefs) ≡ n = length-map s.coefs signed_decimal ∙ h.count in
    rw (eq-eqb (length (map signed_decimal s.coefs)) n count, product_again s.base h.base, each_again product signed_decimal IsProduct product_again s.coefs h.coefs, name_tested s.name h.name) refl

pub sinks : (n : ℕ) → IsLine (sink_in n) sink_line (FitsSink n)
sinks n = record {
  takes = sink_takes n;
  again = sink_again n;
  plain = λ s h. ((refl, (refl, (refl, (refl, tt)))), (clear_name s.name h.name, (clear_signed s.base (small_product s.base h.base), clear_each signed_decimal IsProduct (λ x k. clear_signed x (small_product x k)) s.coefs h.coefs)));
}

-- ---- arcs

pub record FitsArc (sinks : List ℕ) (tables : ℕ) (a : TimingArc) : Type 0 where
  pub there : has_sink sinks a.from.0 a.sink ≡ true
  pub delay : a.delay < tables
  pub slew : a.slew < tables
  pub from32 : a.from.0 < 2 ^ 32
  pub sink32 : a.sink < 2 ^ 32
  pub delay32 : a.delay < 2 ^ 32
  pub slew32 : a.slew < 2 ^ 32

arc_takes : (sinks : List ℕ) (tables : ℕ) (l : Line) (a : TimingArc) → arc_in sinks tables l ≡ Ok a → (l ≡ arc_line a) × FitsArc sinks tables a
unfolding arc_in
arc_takes sinks tables l a e =
    let f = ok_step e in
    let w = ok_step f.2 in
    let i = ok_step w.2 in
    let o = ok_step i.2 in
    let n = ok_step o.2 in
    let s = ok_step n.2 in
    let d = ok_step s.2 in
    let k = ok_step d.2 in
    let h = ok_step k.2 in
    let tests = both_true (has_sink sinks n.0 s.0) (ltb d.0 tables && ltb k.0 tables) (holds_ok h.1) in
    let less = both_true (ltb d.0 tables) (ltb k.0 tables) tests.1 in
    let from = count_takes f.0.1 n.0 (numbered_ok n.1) in
    let sink = count_takes f.0.2 s.0 (numbered_ok s.1) in
    let delay = count_takes f.0.5 d.0 (numbered_ok d.1) in
    let slew = count_takes f.0.6 k.0 (numbered_ok k.1) in
    let made : TimingArc = record { from = record { 0 = n.0 }; sink = s.0; input = i.0; output = o.0; delay = d.0; slew = k.0 } in
    let line : l ≡ arc_line made = seven_is l f.0 (worded_ok f.1) ∙ same_seven f.0.0 f.0.1 f.0.2 f.0.3 f.0.4 f.0.5 f.0.6 (codes "arc") (decimal n.0) (decimal s.0) (edge_word i.0) (edge_word o.0) (decimal d.0) (decimal k.0) (is_word _ _ (word_ok w.1)) from.0 sink.0 (edge_takes f.0.3 i.0 (worded_ok i.1)) (edge_takes f.0.4 o.0 (worded_ok o.1)) delay.0 slew.0 in
    let fits : FitsArc sinks tables made = record { there = tests.0; delay = ltb-true _ _ less.0; slew = ltb-true _ _ less.1; from32 = from.1; sink32 = sink.1; delay32 = delay.1; slew32 = slew.1 } in
    subst (λ (y : TimingArc). (l ≡ arc_line y) × FitsArc sinks tables y) (ok_is made a h.2) (line, fits)

arc_again : (sinks : List ℕ) (tables : ℕ) (a : TimingArc) → FitsArc sinks tables a → arc_in sinks tables (arc_line a) ≡ Ok a
unfolding arc_in
arc_again sinks tables a h = rw (edge_again a.input, edge_again a.output, count_again a.from.0 h.from32, count_again a.sink h.sink32, count_again a.delay h.delay32, count_again a.slew h.slew32, h.there, lt-ltb a.delay tables h.delay, lt-ltb a.slew tables h.slew) refl

pub arcs : (sinks : List ℕ) (tables : ℕ) → IsLine (arc_in sinks tables) arc_line (FitsArc sinks tables)
arcs sinks tables = record {
  takes = arc_takes sinks tables;
  again = arc_again sinks tables;
  plain = λ a h. ((refl, (refl, (refl, tt))), (clear_count a.from.0 h.from32, (clear_count a.sink h.sink32, (clear_edge a.input, (clear_edge a.output, (clear_count a.delay h.delay32, (clear_count a.slew h.slew32, tt)))))));
}
