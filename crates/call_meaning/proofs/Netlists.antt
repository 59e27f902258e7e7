-- The netlist of a text: its modules, and then their flat netlist.
use Rattle.std.proofs.Common.{◌≡◌, ℕ, true, List, [], ◌∷◌, Option, Result, Ok, Err, ap, refl, sym, ◌∙◌, subst}
use Rattle.std.specs.List.{All}
use Rattle.xt_model.specs.declared.code.Code.{Code}
use Rattle.xt_model.specs.declared.fault.LimitKind.{LimitKind}
use Rattle.xt_lex.specs.Bytes.{last_line}
use Rattle.text_forms.specs.Forms.{Refusal as Place}
use Rattle.verilog_net.specs.Reading.{modules_of}
use Rattle.verilog_net.specs.Sound.{IsSoundModule, IsSoundNetlist}
use Rattle.verilog_net.specs.declared.netlist.Netlist.{Netlist}
use Rattle.hier_flatten.specs.Alone.{is_alone}
use Rattle.hier_flatten.specs.Meaning.{FlatMeans, Outcome as FlatOutcome}
use Rattle.hier_flatten.specs.declared.fault.FlatFault.TheVariants as flat
use Rattle.hier_flatten.proofs.MeaningLaws.{one_outcome}
use Rattle.hier_flatten.proofs.FlatNetlists.{flat_sound}
use Rattle.flat_laws.proofs.Texts.{alone_is_flat}
use Rattle.command_line.specs.Words.{Text}
use Rattle.xt_lex.specs.declared.text_fault.TextFault.{TextFault}
use Rattle.xt_lex.specs.declared.text_fault.TextFault.TheVariants as texts
use Rattle.call_meaning.specs.Call.{IsStop}
use Rattle.call_meaning.specs.Linking.{FlatIn, ModulesIn, NetlistIn, TextMeans, stop_at}
use Rattle.call_meaning.specs.declared.refusal.TextRefusal.{TextRefusal}
use Rattle.call_meaning.specs.declared.refusal.TextRefusal.TheVariants.{At, Beyond}
use Rattle.call_meaning.specs.declared.refusal.PassedLimit.{PassedLimit}

-- limits of what is counted that have one name and one value are one
pub same_limit : (l m : PassedLimit LimitKind ℕ) → l.what ≡ m.what → l.name ≡ m.name → l.value ≡ m.value → l ≡ m
same_limit l m a b c =
    let made : LimitKind → Option Text → ℕ → PassedLimit LimitKind ℕ = λ what name value. record { what = what; name = name; value = value } in
    let e : made l.what l.name l.value ≡ made m.what m.name m.value = rw (a, b, c) refl in
    e

-- ---- what a text means

-- a text that is refused before its modules are there
unread_modules : (bytes : Text) (line : ℕ) (code : Code) → modules_of bytes ≡ Err (record { line = line; code = code })
    → NetlistIn bytes (Err (At line code))
unread_modules bytes line code e = subst (λ m. ModulesIn m (last_line bytes) (Err (At line code))) (sym e) refl

pub modules_at_fault : (file bytes : Text) (fault : TextFault) → ((line : ℕ) (code : Code) → fault ≡ texts.Refused line code → modules_of bytes ≡ Err (record { line = line; code = code }))
    → IsStop (TextMeans file bytes NetlistIn (λ _. ⊥)) (λ _. ⊥) (stop_at file fault)
modules_at_fault file bytes (texts.Refused line code) refused =
    record { result = Err (At line code); meant = unread_modules bytes line code (refused line code refl); leads = refl }
modules_at_fault file bytes texts.NoMemory refused = tt

-- a text whose modules mean this
pub flat_modules : (bytes : Text) (modules : List Netlist) (r : Result Netlist TextRefusal) → modules_of bytes ≡ Ok modules
    → FlatIn modules (last_line bytes) r → NetlistIn bytes r
flat_modules bytes modules r e h = subst (λ m. ModulesIn m (last_line bytes) r) (sym e) h

-- a module that is its own flat netlist
lone_is_flat : (bytes : Text) (modules : List Netlist) (m : Netlist) → modules_of bytes ≡ Ok modules → (modules ≡ m ∷ []) × (is_alone modules ≡ true)
    → FlatMeans modules (last_line bytes) (Ok m)
lone_is_flat bytes modules m e (whole, alone) =
    subst (λ ms. FlatMeans ms (last_line bytes) (Ok m)) (sym whole)
    (alone_is_flat bytes m (e ∙ ap (λ ms. Ok ms) whole) (subst (λ ms. is_alone ms ≡ true) whole alone))

pub lone_means : (bytes : Text) (modules : List Netlist) (m : Netlist) → modules_of bytes ≡ Ok modules → (modules ≡ m ∷ []) × (is_alone modules ≡ true)
    → NetlistIn bytes (Ok m)
lone_means bytes modules m e alone = flat_modules bytes modules (Ok m) e (lone_is_flat bytes modules m e alone)

pub lone_sound : (bytes : Text) (modules : List Netlist) (m : Netlist) → modules_of bytes ≡ Ok modules → (modules ≡ m ∷ []) × (is_alone modules ≡ true)
    → All IsSoundModule modules → IsSoundNetlist m
lone_sound bytes modules m e alone sound = flat_sound modules sound (last_line bytes) m (lone_is_flat bytes modules m e alone)

-- ---- a text means one result

module _ (modules : List Netlist) (last : ℕ) where
  flat_is_one : (r s : Result Netlist TextRefusal) → FlatIn modules last r → FlatIn modules last s → r ≡ s
  flat_is_one (Ok n) (Ok m) a b =
      let e : ◌≡◌ {A = FlatOutcome} (Ok n) (Ok m) = one_outcome modules last (Ok n) (Ok m) a b in
      let same : n ≡ m = cc in
      ap (λ (x : Netlist). Ok x) same
  flat_is_one (Ok n) (Err (At line code)) a b =
      let e : ◌≡◌ {A = FlatOutcome} (Ok n) (Err (flat.Refused line code)) = one_outcome modules last (Ok n) (Err (flat.Refused line code)) a b in
      absurd (cc)
  flat_is_one (Ok n) (Err (Beyond limit)) a b =
      let e : ◌≡◌ {A = FlatOutcome} (Ok n) (Err (flat.Limit limit.what)) = one_outcome modules last (Ok n) (Err (flat.Limit limit.what)) a b.0 in
      absurd (cc)
  flat_is_one (Err (At line code)) (Ok m) a b =
      let e : ◌≡◌ {A = FlatOutcome} (Err (flat.Refused line code)) (Ok m) = one_outcome modules last (Err (flat.Refused line code)) (Ok m) a b in
      absurd (cc)
  flat_is_one (Err (At line code)) (Err (At other why)) a b =
      let e : ◌≡◌ {A = FlatOutcome} (Err (flat.Refused line code)) (Err (flat.Refused other why)) =
      one_outcome modules last (Err (flat.Refused line code)) (Err (flat.Refused other why)) a b in
      let same_line : line ≡ other = cc in
      let same_code : code ≡ why = cc in
      ap (λ l. Err (At l code)) same_line ∙ ap (λ k. Err (At other k)) same_code
  flat_is_one (Err (At line code)) (Err (Beyond limit)) a b =
      let e : ◌≡◌ {A = FlatOutcome} (Err (flat.Refused line code)) (Err (flat.Limit limit.what)) =
      one_outcome modules last (Err (flat.Refused line code)) (Err (flat.Limit limit.what)) a b.0 in
      absurd (cc)
  flat_is_one (Err (Beyond limit)) (Ok m) a b =
      let e : ◌≡◌ {A = FlatOutcome} (Err (flat.Limit limit.what)) (Ok m) = one_outcome modules last (Err (flat.Limit limit.what)) (Ok m) a.0 b in
      absurd (cc)
  flat_is_one (Err (Beyond limit)) (Err (At line code)) a b =
      let e : ◌≡◌ {A = FlatOutcome} (Err (flat.Limit limit.what)) (Err (flat.Refused line code)) =
      one_outcome modules last (Err (flat.Limit limit.what)) (Err (flat.Refused line code)) a.0 b in
      absurd (cc)
  flat_is_one (Err (Beyond limit)) (Err (Beyond other)) a b =
      let e : ◌≡◌ {A = FlatOutcome} (Err (flat.Limit limit.what)) (Err (flat.Limit other.what)) =
      one_outcome modules last (Err (flat.Limit limit.what)) (Err (flat.Limit other.what)) a.0 b.0 in
      let what : limit.what ≡ other.what = cc in
      ap (λ (l : PassedLimit LimitKind ℕ). Err (Beyond l)) (same_limit limit other what (a.1 ∙ sym b.1) (a.2 ∙ sym b.2))

modules_are_one : (m : Result (List Netlist) (Place Code)) (last : ℕ) (r s : Result Netlist TextRefusal) → ModulesIn m last r → ModulesIn m last s → r ≡ s
modules_are_one (Ok modules) last r s a b = flat_is_one modules last r s a b
modules_are_one (Err place) last r s a b = sym a ∙ b

pub netlist_is_one : (bytes : Text) (r s : Result Netlist TextRefusal) → NetlistIn bytes r → NetlistIn bytes s → r ≡ s
netlist_is_one bytes r s a b = modules_are_one (modules_of bytes) (last_line bytes) r s a b
