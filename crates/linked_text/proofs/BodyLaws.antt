-- The laws of heads and bodies: what the lines of the nets were read as is written so, and what is written so is read.
use Rattle.std.proofs.Common.{◌≡◌, ℕ, zero, suc, ◌+◌, ◌≤◌, List, [], ◌∷◌, ◌++◌, length, map, inl, Some, None, Ok, refl, sym, ap, subst, ◌∙◌, append_assoc}
use Rattle.std.specs.Prelude.{unsigned_abs}
use Rattle.std.specs.List.{AllByRecursion, flat_map}
use Rattle.std.proofs.lemmas.List.{append-nil}
use Rattle.std.proofs.lemmas.List.Concat.{flat_map-append}
use Rattle.xt_model.specs.declared.edge.Edge.TheVariants.{Rise, Fall}
use Rattle.xt_model.specs.declared.fault.LimitKind.TheVariants as kinds
use Rattle.xt_model.specs.declared.quad.Pair.{Pair}
use Rattle.xt_model.specs.declared.net.Coupling.{Coupling}
use Rattle.xt_model.specs.declared.net.SinkPin.{SinkPin}
use Rattle.xt_model.specs.declared.net.TimingArc.{TimingArc}
use Rattle.xt_model.specs.declared.net.Net.{Net}
use Rattle.xt_model.specs.Limits.{most_cap, most_couplings, most_coefficients, most_arcs}
use Rattle.xt_model.specs.Quads.{bottom}
use Rattle.xt_model.specs.Sound.{IsGiven, greatest_load}
use Rattle.text_lines.specs.Lines.{Line, line_text, text_of}
use Rattle.linked_text.specs.declared.head.NetHead.{NetHead}
use Rattle.linked_text.specs.declared.head.Sums.{Sums}
use Rattle.linked_text.specs.Linked.{given_line, given_lines, coupling_line, sink_line, arc_line, net_lines}
use Rattle.linked_text.specs.Fits.{AreFew}
use Rattle.linked_text.specs.EachLine.{head_in, given_in, coupling_in, sink_in, arc_in}
use Rattle.linked_text.specs.Meaning.{line_at, many_at, sums_with, sums_kept, head_at, heads_at, pair_at, coupled_net, couplings_at, net_at, nets_at}
use Rattle.linked_text.proofs.Inversions.{ok_step, ok_is, keeps_ok, keeps_again}
use Rattle.linked_text.proofs.LineLaws.{IsRead, line_read, many_takes, many_again}
use Rattle.linked_text.proofs.NetLaws.{head_words, FitsHead, heads, givens, FitsCoupling, couplings, FitsSink, sinks, FitsArc, arcs}

-- ---- the heads

sums_take : (s : Sums) (u : Unit {0}) → sums_kept s ≡ Ok u → AreFew s
unfolding sums_kept
sums_take s u e =
    let a = ok_step e in
    let b = ok_step a.2 in
    record {
      couplings = keeps_ok kinds.Couplings None s.couplings most_couplings a.0 a.1;
      coefficients = keeps_ok kinds.Coefficients None s.coefficients most_coefficients b.0 b.1;
      arcs = keeps_ok kinds.Arcs None s.arcs most_arcs u b.2;
    }

sums_again : (s : Sums) → AreFew s → sums_kept s ≡ Ok tt
unfolding sums_kept
sums_again s h = rw (
  keeps_again kinds.Couplings None s.couplings most_couplings h.couplings,
  keeps_again kinds.Coefficients None s.coefficients most_coefficients h.coefficients,
  keeps_again kinds.Arcs None s.arcs most_arcs h.arcs,
) refl

abbrev pub head_text : NetHead → List ℕ
head_text h = line_text (head_words h)

head_read : (names : List (List ℕ)) → IsRead (line_at (head_in names)) head_text (FitsHead names)
head_read names = line_read (head_in names) head_words (FitsHead names) (heads names)

-- each head is sound behind those before it
abbrev pub FitsHeads : List (List ℕ) → Sums → List NetHead → Type 0
FitsHeads names sums [] = Unit {0}
FitsHeads names sums (h ∷ hs) = FitsHead names h × AreFew (sums_with sums h) × FitsHeads (names ++ h.name ∷ []) (sums_with sums h) hs

head_takes : (names : List (List ℕ)) (sums : Sums) (bytes : List ℕ) (h : NetHead) (rest : List ℕ) → head_at names sums bytes ≡ Ok (h, rest) → (bytes ≡ head_text h ++ rest) × FitsHead names h × AreFew (sums_with sums h)
unfolding head_at
head_takes names sums bytes h rest e =
    let a = ok_step e in
    let b = ok_step a.2 in
    let t = (head_read names).takes bytes a.0.0 a.0.1 a.1 in
    let few = sums_take (sums_with sums a.0.0) b.0 b.1 in
    subst (λ (x : NetHead × List ℕ). (bytes ≡ head_text x.0 ++ x.1) × FitsHead names x.0 × AreFew (sums_with sums x.0)) (ok_is a.0 (h, rest) b.2) (t.0, t.1, few)

head_again : (names : List (List ℕ)) (sums : Sums) (h : NetHead) (rest : List ℕ) → FitsHead names h → AreFew (sums_with sums h) → head_at names sums (head_text h ++ rest) ≡ Ok (h, rest)
unfolding head_at
head_again names sums h rest fits few = rw ((head_read names).again h rest fits, sums_again (sums_with sums h) few) refl

pub heads_take : (n : ℕ) (names : List (List ℕ)) (sums : Sums) (bytes : List ℕ) (hs : List NetHead) (rest : List ℕ) → heads_at n names sums bytes ≡ Ok (hs, rest) → (bytes ≡ flat_map head_text hs ++ rest) × (length hs ≡ n) × FitsHeads names sums hs
heads_take zero names sums bytes hs rest e =
    subst (λ (y : List NetHead × List ℕ). (bytes ≡ flat_map head_text y.0 ++ y.1) × (length y.0 ≡ 0) × FitsHeads names sums y.0) (ok_is ([], bytes) (hs, rest) e) (refl, refl, tt)
heads_take (suc n) names sums bytes hs rest e =
    let a = ok_step e in
    let b = ok_step a.2 in
    let one = head_takes names sums bytes a.0.0 a.0.1 a.1 in
    let more = heads_take n (names ++ a.0.0.name ∷ []) (sums_with sums a.0.0) a.0.1 b.0.0 b.0.1 b.1 in
    subst (λ (y : List NetHead × List ℕ). (bytes ≡ flat_map head_text y.0 ++ y.1) × (length y.0 ≡ suc n) × FitsHeads names sums y.0) (ok_is (a.0.0 ∷ b.0.0, b.0.1) (hs, rest) b.2)
    (one.0 ∙ ap (λ (t : List ℕ). head_text a.0.0 ++ t) more.0 ∙ sym (append_assoc (head_text a.0.0) (flat_map head_text b.0.0) b.0.1), ap suc more.1, (one.1, one.2, more.2))

pub heads_again : (names : List (List ℕ)) (sums : Sums) (hs : List NetHead) (rest : List ℕ) → FitsHeads names sums hs → heads_at (length hs) names sums (flat_map head_text hs ++ rest) ≡ Ok (hs, rest)
heads_again names sums [] rest h = refl
heads_again names sums (x ∷ hs) rest h =
    ap (heads_at (suc (length hs)) names sums) (append_assoc (head_text x) (flat_map head_text hs) rest)
    ∙ rw (head_again names sums x (flat_map head_text hs ++ rest) h.0 h.1, heads_again (names ++ x.name ∷ []) (sums_with sums x) hs rest h.2) refl

-- ---- what is given

-- with arcs nothing is given
abbrev LeavesNone : ℕ → Pair → Type 0
LeavesNone zero p = Unit {0}
LeavesNone (suc arcs) p = (p.rise ≡ bottom) × (p.fall ≡ bottom)

pub record FitsPair (arcs : ℕ) (p : Pair) : Type 0 where
  pub rise : IsGiven p.rise
  pub fall : IsGiven p.fall
  pub none : LeavesNone arcs p

abbrev pub pair_text : ℕ → Pair → List ℕ
pair_text zero p = line_text (given_line Rise p.rise) ++ line_text (given_line Fall p.fall)
pair_text (suc arcs) p = []

rise_read : IsRead (line_at (given_in Rise)) (λ q. line_text (given_line Rise q)) IsGiven
rise_read = line_read (given_in Rise) (given_line Rise) IsGiven (givens Rise)

fall_read : IsRead (line_at (given_in Fall)) (λ q. line_text (given_line Fall q)) IsGiven
fall_read = line_read (given_in Fall) (given_line Fall) IsGiven (givens Fall)

pair_takes : (arcs : ℕ) (bytes : List ℕ) (p : Pair) (rest : List ℕ) → pair_at arcs bytes ≡ Ok (p, rest) → (bytes ≡ pair_text arcs p ++ rest) × FitsPair arcs p
unfolding pair_at
pair_takes zero bytes p rest e =
    let a = ok_step e in
    let b = ok_step a.2 in
    let r = rise_read.takes bytes a.0.0 a.0.1 a.1 in
    let f = fall_read.takes a.0.1 b.0.0 b.0.1 b.1 in
    let made : Pair = record { rise = a.0.0; fall = b.0.0 } in
    let text : bytes ≡ pair_text 0 made ++ b.0.1 = r.0 ∙ ap (λ (t : List ℕ). line_text (given_line Rise a.0.0) ++ t) f.0 ∙ sym (append_assoc (line_text (given_line Rise a.0.0)) (line_text (given_line Fall b.0.0)) b.0.1) in
    let fits : FitsPair 0 made = record { rise = r.1; fall = f.1; none = tt } in
    subst (λ (x : Pair × List ℕ). (bytes ≡ pair_text 0 x.0 ++ x.1) × FitsPair 0 x.0) (ok_is (made, b.0.1) (p, rest) b.2) (text, fits)
pair_takes (suc arcs) bytes p rest e =
    let made : Pair = record { rise = bottom; fall = bottom } in
    let fits : FitsPair (suc arcs) made = record { rise = inl refl; fall = inl refl; none = (refl, refl) } in
    subst (λ (x : Pair × List ℕ). (bytes ≡ pair_text (suc arcs) x.0 ++ x.1) × FitsPair (suc arcs) x.0) (ok_is (made, bytes) (p, rest) e) (refl, fits)

pair_again : (arcs : ℕ) (p : Pair) (rest : List ℕ) → FitsPair arcs p → pair_at arcs (pair_text arcs p ++ rest) ≡ Ok (p, rest)
unfolding pair_at
pair_again zero p rest h =
    ap (pair_at 0) (append_assoc (line_text (given_line Rise p.rise)) (line_text (given_line Fall p.fall)) rest)
    ∙ rw (rise_read.again p.rise (line_text (given_line Fall p.fall) ++ rest) h.rise, fall_read.again p.fall rest h.fall) refl
pair_again (suc arcs) p rest h =
    let same : ◌≡◌ {A = Pair} (record { rise = bottom; fall = bottom }) (record { rise = p.rise; fall = p.fall }) = rw (h.none.0, h.none.1) refl in
    ap (λ (q : Pair). Ok (q, rest)) same

-- ---- couplings, sinks and arcs

abbrev coupling_text : Coupling → List ℕ
coupling_text k = line_text (coupling_line k)

abbrev sink_text : SinkPin → List ℕ
sink_text s = line_text (sink_line s)

abbrev arc_text : TimingArc → List ℕ
arc_text a = line_text (arc_line a)

coupling_read : (nets own : ℕ) → IsRead (line_at (coupling_in nets own)) coupling_text (FitsCoupling nets own)
coupling_read nets own = line_read (coupling_in nets own) coupling_line (FitsCoupling nets own) (couplings nets own)

sink_read : (n : ℕ) → IsRead (line_at (sink_in n)) sink_text (FitsSink n)
sink_read n = line_read (sink_in n) sink_line (FitsSink n) (sinks n)

arc_read : (counts : List ℕ) (tables : ℕ) → IsRead (line_at (arc_in counts tables)) arc_text (FitsArc counts tables)
arc_read counts tables = line_read (arc_in counts tables) arc_line (FitsArc counts tables) (arcs counts tables)

abbrev pub HasLoad : NetHead → List Coupling → Type 0
HasLoad h ks = unsigned_abs (greatest_load (coupled_net h ks)) ≤ unsigned_abs most_cap

couplings_take : (nets own : ℕ) (h : NetHead) (bytes : List ℕ) (ks : List Coupling) (rest : List ℕ) → couplings_at nets own h bytes ≡ Ok (ks, rest)
    → (bytes ≡ flat_map coupling_text ks ++ rest) × (length ks ≡ h.couplings) × AllByRecursion (FitsCoupling nets own) ks × HasLoad h ks
unfolding couplings_at
couplings_take nets own h bytes ks rest e =
    let a = ok_step e in
    let b = ok_step a.2 in
    let t = many_takes (line_at (coupling_in nets own)) coupling_text (FitsCoupling nets own) (coupling_read nets own) h.couplings bytes a.0.0 a.0.1 a.1 in
    let load : HasLoad h a.0.0 = keeps_ok kinds.Load (Some h.name) (unsigned_abs (greatest_load (coupled_net h a.0.0))) (unsigned_abs most_cap) b.0 b.1 in
    subst (λ (x : List Coupling × List ℕ). (bytes ≡ flat_map coupling_text x.0 ++ x.1) × (length x.0 ≡ h.couplings) × AllByRecursion (FitsCoupling nets own) x.0 × HasLoad h x.0) (ok_is a.0 (ks, rest) b.2) (t.0, t.1, t.2, load)

couplings_again : (nets own : ℕ) (h : NetHead) (ks : List Coupling) (rest : List ℕ) → length ks ≡ h.couplings → AllByRecursion (FitsCoupling nets own) ks → HasLoad h ks → couplings_at nets own h (flat_map coupling_text ks ++ rest) ≡ Ok (ks, rest)
unfolding couplings_at
couplings_again nets own h ks rest count fits load =
    let m = many_again (line_at (coupling_in nets own)) coupling_text (FitsCoupling nets own) (coupling_read nets own) ks rest fits in
    let n : many_at (line_at (coupling_in nets own)) h.couplings (flat_map coupling_text ks ++ rest) ≡ Ok (ks, rest) = subst (λ (k : ℕ). many_at (line_at (coupling_in nets own)) k (flat_map coupling_text ks ++ rest) ≡ Ok (ks, rest)) count m in
    rw (n, keeps_again kinds.Load (Some h.name) (unsigned_abs (greatest_load (coupled_net h ks))) (unsigned_abs most_cap) load) refl

-- ---- nets

abbrev pub head_of : Net → NetHead
head_of n = record { name = n.name; input = n.input; load = n.load; couplings = length n.couplings; sinks = length n.sinks; arcs = length n.arcs }

pub record FitsBody (counts : List ℕ) (tables own : ℕ) (n : Net) : Type 0 where
  pub given : FitsPair (length n.arcs) n.given
  pub couplings : AllByRecursion (FitsCoupling (length counts) own) n.couplings
  pub load : unsigned_abs (greatest_load n) ≤ unsigned_abs most_cap
  pub sinks : AllByRecursion (FitsSink (length n.couplings)) n.sinks
  pub arcs : AllByRecursion (FitsArc counts tables) n.arcs

abbrev pub net_text : Net → List ℕ
net_text n = text_of (net_lines n)

text_of_map : {A : Type 0} (line : A → Line) (xs : List A) → text_of (map line xs) ≡ flat_map (λ x. line_text (line x)) xs
text_of_map line [] = refl
text_of_map line (x ∷ xs) = ap (λ (t : List ℕ). line_text (line x) ++ t) (text_of_map line xs)

given_text : (n : Net) (xs : List TimingArc) → text_of (given_lines n xs) ≡ pair_text (length xs) n.given
given_text n [] = ap (λ (t : List ℕ). line_text (given_line Rise n.given.rise) ++ t) (append-nil (line_text (given_line Fall n.given.fall)))
given_text n (a ∷ more) = refl

net_whole : (n : Net) (rest : List ℕ) → net_text n ++ rest ≡ pair_text (length n.arcs) n.given ++ (flat_map coupling_text n.couplings ++ (flat_map sink_text n.sinks ++ (flat_map arc_text n.arcs ++ rest)))
net_whole n rest =
    let gs : List Line = given_lines n n.arcs in
    let ks : List Line = map coupling_line n.couplings in
    let ss : List Line = map sink_line n.sinks in
    let zs : List Line = map arc_line n.arcs in
    let text : net_text n ≡ pair_text (length n.arcs) n.given ++ (flat_map coupling_text n.couplings ++ (flat_map sink_text n.sinks ++ flat_map arc_text n.arcs)) =
    flat_map-append line_text gs (ks ++ (ss ++ zs)) ∙ rw (flat_map-append line_text ks (ss ++ zs), flat_map-append line_text ss zs, given_text n n.arcs, text_of_map coupling_line n.couplings, text_of_map sink_line n.sinks, text_of_map arc_line n.arcs) refl in
    ap (λ (t : List ℕ). t ++ rest) text ∙ simp append_assoc

net_takes : (counts : List ℕ) (tables own : ℕ) (h : NetHead) (bytes : List ℕ) (n : Net) (rest : List ℕ) → net_at counts tables own h bytes ≡ Ok (n, rest) → (bytes ≡ net_text n ++ rest) × (head_of n ≡ h) × FitsBody counts tables own n
unfolding net_at
net_takes counts tables own h bytes n rest e =
    let a = ok_step e in
    let b = ok_step a.2 in
    let c = ok_step b.2 in
    let d = ok_step c.2 in
    let p = pair_takes h.arcs bytes a.0.0 a.0.1 a.1 in
    let k = couplings_take (length counts) own h a.0.1 b.0.0 b.0.1 b.1 in
    let s = many_takes (line_at (sink_in h.couplings)) sink_text (FitsSink h.couplings) (sink_read h.couplings) h.sinks b.0.1 c.0.0 c.0.1 c.1 in
    let r = many_takes (line_at (arc_in counts tables)) arc_text (FitsArc counts tables) (arc_read counts tables) h.arcs c.0.1 d.0.0 d.0.1 d.1 in
    let made : Net = record { name = h.name; input = h.input; load = h.load; given = a.0.0; couplings = b.0.0; sinks = c.0.0; arcs = d.0.0 } in
    let same : ◌≡◌ {A = NetHead} (head_of made) (record { name = h.name; input = h.input; load = h.load; couplings = h.couplings; sinks = h.sinks; arcs = h.arcs }) = rw (k.1, s.1, r.1) refl in
    let pair : (bytes ≡ pair_text (length d.0.0) a.0.0 ++ a.0.1) × FitsPair (length d.0.0) a.0.0 = subst (λ (m : ℕ). (bytes ≡ pair_text m a.0.0 ++ a.0.1) × FitsPair m a.0.0) (sym r.1) p in
    let text : bytes ≡ net_text made ++ d.0.1 = pair.0 ∙ ap (λ (t : List ℕ). pair_text (length d.0.0) a.0.0 ++ t) (k.0 ∙ ap (λ (t : List ℕ). flat_map coupling_text b.0.0 ++ t) (s.0 ∙ ap (λ (t : List ℕ). flat_map sink_text c.0.0 ++ t) r.0)) ∙ sym (net_whole made d.0.1) in
    let fits : FitsBody counts tables own made = record {
      given = pair.1;
      couplings = k.2;
      load = k.3;
      sinks = subst (λ (m : ℕ). AllByRecursion (FitsSink m) c.0.0) (sym k.1) s.2;
      arcs = r.2;
    } in
    subst (λ (x : Net × List ℕ). (bytes ≡ net_text x.0 ++ x.1) × (head_of x.0 ≡ h) × FitsBody counts tables own x.0) (ok_is (made, d.0.1) (n, rest) d.2) (text, same, fits)

net_again : (counts : List ℕ) (tables own : ℕ) (n : Net) (rest : List ℕ) → FitsBody counts tables own n → net_at counts tables own (head_of n) (net_text n ++ rest) ≡ Ok (n, rest)
unfolding net_at
net_again counts tables own n rest h =
    let arcs_part : List ℕ = flat_map arc_text n.arcs ++ rest in
    let sinks_part : List ℕ = flat_map sink_text n.sinks ++ arcs_part in
    let couplings_part : List ℕ = flat_map coupling_text n.couplings ++ sinks_part in
    ap (net_at counts tables own (head_of n)) (net_whole n rest) ∙ rw (
      pair_again (length n.arcs) n.given couplings_part h.given,
      couplings_again (length counts) own (head_of n) n.couplings sinks_part refl h.couplings h.load,
      many_again (line_at (sink_in (length n.couplings))) sink_text (FitsSink (length n.couplings)) (sink_read (length n.couplings)) n.sinks arcs_part h.sinks,
      many_again (line_at (arc_in counts tables)) arc_text (FitsArc counts tables) (arc_read counts tables) n.arcs rest h.arcs,
    ) refl

-- the nets from this number on
abbrev pub FitsBodies : List ℕ → ℕ → ℕ → List Net → Type 0
FitsBodies counts tables own [] = Unit {0}
FitsBodies counts tables own (n ∷ ns) = FitsBody counts tables own n × FitsBodies counts tables (own + 1) ns

pub nets_take : (counts : List ℕ) (tables own : ℕ) (hs : List NetHead) (bytes : List ℕ) (ns : List Net) (rest : List ℕ) → nets_at counts tables own hs bytes ≡ Ok (ns, rest)
    → (bytes ≡ flat_map net_text ns ++ rest) × (map head_of ns ≡ hs) × FitsBodies counts tables own ns
nets_take counts tables own [] bytes ns rest e =
    subst (λ (y : List Net × List ℕ). (bytes ≡ flat_map net_text y.0 ++ y.1) × (map head_of y.0 ≡ []) × FitsBodies counts tables own y.0) (ok_is ([], bytes) (ns, rest) e) (refl, refl, tt)
nets_take counts tables own (h ∷ hs) bytes ns rest e =
    let a = ok_step e in
    let b = ok_step a.2 in
    let one = net_takes counts tables own h bytes a.0.0 a.0.1 a.1 in
    let more = nets_take counts tables (own + 1) hs a.0.1 b.0.0 b.0.1 b.1 in
    subst (λ (y : List Net × List ℕ). (bytes ≡ flat_map net_text y.0 ++ y.1) × (map head_of y.0 ≡ h ∷ hs) × FitsBodies counts tables own y.0) (ok_is (a.0.0 ∷ b.0.0, b.0.1) (ns, rest) b.2)
    (one.0 ∙ ap (λ (t : List ℕ). net_text a.0.0 ++ t) more.0 ∙ sym (append_assoc (net_text a.0.0) (flat_map net_text b.0.0) b.0.1), rw (one.1, more.1) refl, (one.2, more.2))

pub nets_again : (counts : List ℕ) (tables own : ℕ) (ns : List Net) (rest : List ℕ) → FitsBodies counts tables own ns → nets_at counts tables own (map head_of ns) (flat_map net_text ns ++ rest) ≡ Ok (ns, rest)
nets_again counts tables own [] rest h = refl
nets_again counts tables own (n ∷ ns) rest h =
    ap (nets_at counts tables own (head_of n ∷ map head_of ns)) (append_assoc (net_text n) (flat_map net_text ns) rest)
    ∙ rw (net_again counts tables own n (flat_map net_text ns ++ rest) h.0, nets_again counts tables (own + 1) ns rest h.1) refl
